-- The answers that are remembered, by their keys.
use Rattle.std.proofs.Common.{◌≡◌, Bool, true, false, ◌&&◌, ◌||◌, List, [], ◌∷◌, Bor, ℕ, Option, Some, None, Result, is_some, bytes_eq, ap, refl, sym, subst, ◌∙◌, rules}
use Rattle.std.specs.Prelude.{if◌then◌else◌, unwrap_or}
use Rattle.std.specs.Map.{lookup}
use Rattle.std.specs.Option.{IsSome, option_copied}
use Rattle.std.proofs.lemmas.Bool.{false≢true}
use Rattle.std.proofs.lemmas.Slice.Eq.{bytes_eq-Decides}
use Rattle.indexmap.specs.IndexMap.{insert_entry}
use Rattle.call_scripts.specs.declared.script.MemberRef.{MemberRef}
use Rattle.call_scripts.specs.declared.script.MemberWord.{MemberWord}
use Rattle.call_scripts.specs.declared.script.MemberWord.TheVariants.{Plain, Get, Set}
use Rattle.lib_model.specs.declared.contents.Library.{Library}
use Rattle.transcript_text.specs.declared.refusals.Refusal.{Refusal}
use Rattle.script_members.specs.contracts.key.KeyPartialEq as derived
use Rattle.script_members.specs.declared.found.Found.{Found}
use Rattle.script_members.specs.declared.key.Key.{Key}
use Rattle.script_members.specs.Remembered.{AreTrue, Answers, asked_for, is_among, is_same, meant, same_word}

-- ---- keys

abbrev pub same_key : Key → Key → Bool
same_key = (derived.TheImpl.eq-value).it

by_words : (i j n m : Bor (List ℕ)) (k l : MemberWord)
    → same_key (record { iface = i; kind = k; name = n }) (record { iface = j; kind = l; name = m })
    ≡ is_same (record { iface = i.now; kind = k; name = n.now })
    (record { iface = j.now; kind = l; name = m.now })
by_words i j n m Plain Plain = refl
by_words i j n m Plain Get = refl
by_words i j n m Plain Set = refl
by_words i j n m Get Plain = refl
by_words i j n m Get Get = refl
by_words i j n m Get Set = refl
by_words i j n m Set Plain = refl
by_words i j n m Set Get = refl
by_words i j n m Set Set = refl

-- two keys are equal where they stand for the same member
same_key-is : (a b : Key) → same_key a b ≡ is_same (meant a) (meant b)
same_key-is a b = by_words a.iface b.iface a.name b.name a.kind b.kind

-- ---- members that are the same are equal

equal-words : (k l : MemberWord) → same_word k l ≡ true → k ≡ l
equal-words Plain Plain is = refl
equal-words Plain Get is = absurd (false≢true is)
equal-words Plain Set is = absurd (false≢true is)
equal-words Get Plain is = absurd (false≢true is)
equal-words Get Get is = refl
equal-words Get Set is = absurd (false≢true is)
equal-words Set Plain is = absurd (false≢true is)
equal-words Set Get is = absurd (false≢true is)
equal-words Set Set is = refl

same_word-itself : (k : MemberWord) → same_word k k ≡ true
same_word-itself Plain = refl
same_word-itself Get = refl
same_word-itself Set = refl

first_of : (a b : Bool) → a && b ≡ true → a ≡ true
first_of true b is = refl
first_of false b is = absurd (false≢true is)

second_of : (a b : Bool) → a && b ≡ true → b ≡ true
second_of true b is = is
second_of false b is = absurd (false≢true is)

equal-members : (m n : MemberRef) → is_same m n ≡ true → m ≡ n
equal-members m n is =
    let names : bytes_eq m.iface n.iface ≡ true = first_of _ _ is in
    let rest : same_word m.kind n.kind && bytes_eq m.name n.name ≡ true = second_of _ _ is in
    (λ j. record {
      iface = (bytes_eq-Decides m.iface n.iface).0 names j;
      kind = equal-words m.kind n.kind (first_of _ _ rest) j;
      name = (bytes_eq-Decides m.name n.name).0 (second_of _ _ rest) j;
    })

is_same-itself : (m : MemberRef) → is_same m m ≡ true
is_same-itself m =
    rw (
      (bytes_eq-Decides m.iface m.iface).1 refl,
      same_word-itself m.kind,
      (bytes_eq-Decides m.name m.name).1 refl,
    )
    refl

equal-keys : (a b : Key) → same_key a b ≡ true → meant a ≡ meant b
equal-keys a b is = equal-members (meant a) (meant b) (sym (same_key-is a b) ∙ is)

-- ---- look-ups

abbrev Answer : Type 0
Answer = Result Found Refusal

abbrev Entry : Type 0
Entry = Key × Answer

known-front : (found same : Bool) (v : Answer) (o : Option Answer) (rest : Bool) → found ≡ same
    → is_some o ≡ rest → is_some (if found then Some v else o) ≡ same || rest
known-front found true v o rest is more = rw is refl
known-front found false v o rest is more = rw is more

-- a key is known where its member was asked for
pub known-asked : (es : List Entry) (k : Key)
    → is_some (lookup (same_key k) es) ≡ is_among (asked_for es) (meant k)
known-asked [] k = refl
known-asked (e ∷ es) k =
    known-front (same_key k e.0) (is_same (meant k) (meant e.0)) e.1 (lookup (same_key k) es)
    (is_among (asked_for es) (meant k)) (same_key-is k e.0) (known-asked es k)

true-front : (lib : Library) (k : Key) (e : Entry) (o : Option Answer) (found : Bool) (v : Answer)
    → same_key k e.0 ≡ found → Answers lib (meant e.0) e.1
    → (o ≡ Some v → Answers lib (meant k) v)
    → (if found then Some e.1 else o) ≡ Some v → Answers lib (meant k) v
true-front lib k e o true v found first more is =
    subst (λ m. Answers lib m v) (sym (equal-keys k e.0 found))
    (subst (λ r. Answers lib (meant e.0) r) (ap (λ o. unwrap_or o v) is) first)
true-front lib k e o false v found first more is = more is

-- what is known of a key is true
pub true-answer : (lib : Library) (es : List Entry) (k : Key) (v : Answer) → AreTrue lib es
    → lookup (same_key k) es ≡ Some v → Answers lib (meant k) v
true-answer lib [] k v all is = absurd (false≢true (ap is_some is))
true-answer lib (e ∷ es) k v all is =
    true-front lib k e (lookup (same_key k) es) (same_key k e.0) v refl all.0
    (true-answer lib es k v all.1) is

-- where a look-up finds a value, there is a reference to one
pub is-there : {A : Type 0} (o : Option (Bor A)) → is_some (option_copied o) ≡ true → IsSome o
is-there None is = absurd (false≢true is)
is-there (Some r) is = search rules

pub copied-there : {A : Type 0} (o : Option (Bor A)) → is_some (option_copied o) ≡ is_some o
copied-there None = refl
copied-there (Some r) = refl

-- ---- one answer more

true-put : (lib : Library) (e : Entry) (es more : List Entry) (k : Key) (v : Answer) (found : Bool)
    → same_key k e.0 ≡ found → AreTrue lib (e ∷ es) → Answers lib (meant k) v → AreTrue lib more
    → AreTrue lib (if found then (e.0, v) ∷ es else e ∷ more)
true-put lib e es more k v true found all answer rest =
    (subst (λ m. Answers lib m v) (equal-keys k e.0 found) answer, all.1)
true-put lib e es more k v false found all answer rest = (all.0, rest)

pub true-insert : (lib : Library) (es : List Entry) (k : Key) (v : Answer) → AreTrue lib es
    → Answers lib (meant k) v → AreTrue lib (insert_entry same_key es k v)
true-insert lib [] k v all answer = (answer, tt)
true-insert lib (e ∷ es) k v all answer =
    true-put lib e es (insert_entry same_key es k v) k v (same_key k e.0) refl all answer
    (true-insert lib es k v all.1 answer)

asked-put : (e : Entry) (es more : List Entry) (k : Key) (v : Answer) (found : Bool)
    → same_key k e.0 ≡ found → is_among (asked_for more) (meant k) ≡ true
    → is_among (asked_for (if found then (e.0, v) ∷ es else e ∷ more)) (meant k) ≡ true
asked-put e es more k v true found rest = rw (sym (same_key-is k e.0) ∙ found) refl
asked-put e es more k v false found rest = rw (sym (same_key-is k e.0) ∙ found) rest

pub asked-insert : (es : List Entry) (k : Key) (v : Answer)
    → is_among (asked_for (insert_entry same_key es k v)) (meant k) ≡ true
asked-insert [] k v = rw (is_same-itself (meant k)) refl
asked-insert (e ∷ es) k v =
    asked-put e es (insert_entry same_key es k v) k v (same_key k e.0) refl (asked-insert es k v)
