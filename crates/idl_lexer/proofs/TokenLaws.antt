-- The reader of tokens gives the longest spelling at a place, and gives nothing where there is none.
use Rattle.std.proofs.Common.{◌≡◌, ◌≤◌, ◌<◌, ℕ, Bool, true, false, not, cond, ◌&&◌, ◌||◌, ◌⊎◌, inl, inr, List, [], ◌∷◌, ◌++◌, length, Option, Some, None, refl, sym, ◌∙◌, ap, subst, arith, append-nil, length-append, codes}
use Rattle.std.proofs.lemmas.Bool.Decides.{nat_tests}
use Rattle.std.specs.Prelude.{◌==◌}
use Rattle.std.specs.Option.{option_or}
use Rattle.std.specs.List.{list_all}
use Rattle.idl_lexer.specs.declared.class.Class.TheVariants.{Blank, NameStart, NameByte, Digit, Hexadecimal, Single}
use Rattle.idl_lexer.specs.declared.token.Kind.{Kind}
use Rattle.idl_lexer.specs.declared.token.Kind.TheVariants as kind
use Rattle.idl_lexer.specs.Classes.{is_in, IsOver}
use Rattle.idl_lexer.specs.Parts.{IsMadeOf, is_name, is_key, is_word}
use Rattle.idl_lexer.specs.Spelling.{hexadecimal, decimal, iid, include, native, IsCode, is_mark, Spells, IsToken}
use Rattle.idl_lexer.specs.Reading.{front, behind, after, after_code, after_number, after_mark, of_kind, name_at, lettered_at, numbered_at, token_at}
use Rattle.idl_lexer.proofs.Basics.{chosen, guarded, either_of, both_true, same_length, pair, some_alike}
use Rattle.idl_lexer.proofs.ByteLaws.{listed_test, digit-no_start, hexadecimal-digit, key-name, word-tests, tests-word, name-start, some-first}
use Rattle.idl_lexer.proofs.PartLaws.{front-all, behind-over, front-behind, front-whole, behind-whole, parts-read, parts-longest, GoesFar}
use Rattle.idl_lexer.proofs.KindLaws.{iid-greedy, include-greedy, native-greedy, iid-longer, native-longer, number-all, number-reads, number-far, code-reads, code-far, mark-reads, mark-far}

-- what is read is spelled so
abbrev pub IsRead : List ℕ → Kind → List ℕ → Type 0
IsRead bytes what rest = (text : List ℕ) × (bytes ≡ text ++ rest) × Spells what text rest

of_kind-reads : (what k : Kind) (o : Option (List ℕ)) (rest : List ℕ) → of_kind what o ≡ Some (k, rest) → (o ≡ Some rest) × (what ≡ k)
of_kind-reads what k None rest e = cc
of_kind-reads what k (Some r) rest e =
    let p : pair what r ≡ pair k rest = cc in (ap (λ q. Some q.1) p, ap (λ q. q.0) p)

read-as : (bytes rest : List ℕ) (what k : Kind) → what ≡ k → IsRead bytes what rest → IsRead bytes k rest
read-as bytes rest what k e r = subst (λ k. IsRead bytes k rest) e r

-- ---- names

name-reads : (bytes rest : List ℕ) (k : Kind) → name_at bytes ≡ Some (k, rest) → IsRead bytes k rest
unfolding name_at
name-reads bytes rest k e = of_test (chosen (is_key run) (Some (kind.Key, left)) (cond (is_name run) (Some (kind.Word, left)) None) (Some (k, rest)) e) where
  run : List ℕ
  run = front NameByte bytes

  left : List ℕ
  left = behind NameByte bytes

  key : is_key run ≡ true → IsRead bytes kind.Key left
  key h = (run, front-behind NameByte bytes, ((run, [], sym (append-nil run), front-all NameByte bytes, h, refl), behind-over NameByte bytes))

  word : is_word run ≡ true → IsRead bytes kind.Word left
  word h = (run, front-behind NameByte bytes, ((run, [], sym (append-nil run), front-all NameByte bytes, h, refl), behind-over NameByte bytes))

  moved : (what : Kind) → IsRead bytes what left → pair what left ≡ pair k rest → IsRead bytes k rest
  moved what r p = subst (λ q. IsRead bytes q.0 q.1) p r

  of_test : ((is_key run ≡ true) × (Some (pair kind.Key left) ≡ Some (pair k rest))) ⊎ ((is_key run ≡ false) × (cond (is_name run) (Some (pair kind.Word left)) None ≡ Some (pair k rest)))
      → IsRead bytes k rest
  of_test (inl p) = moved kind.Key (key p.0) (cc)
  of_test (inr p) =
      let g = guarded (is_name run) (kind.Word, left) (k, rest) p.1 in moved kind.Word (word (tests-word run g.0 p.0)) g.1

-- ---- by the first byte

at-letter : (c : ℕ) (cs : List ℕ) → is_in NameStart c ≡ true → token_at (c ∷ cs) ≡ lettered_at (c ∷ cs)
unfolding token_at
at-letter c cs h = rw h refl

at-digit : (c : ℕ) (cs : List ℕ) → is_in Digit c ≡ true → token_at (c ∷ cs) ≡ numbered_at (c ∷ cs)
unfolding token_at
at-digit c cs h = rw (digit-no_start c h, h) refl

at-hash : (cs : List ℕ) → token_at (35 ∷ cs) ≡ of_kind kind.Include (after include (35 ∷ cs))
unfolding token_at is_in
at-hash cs = refl

at-percent : (cs : List ℕ) → token_at (37 ∷ cs) ≡ of_kind kind.Code (after_code (37 ∷ cs))
unfolding token_at is_in
at-percent cs = refl

iid-reads : (bytes rest : List ℕ) → after iid bytes ≡ Some rest → IsRead bytes kind.Iid rest
iid-reads bytes rest e = parts-read iid bytes rest e

lettered-reads : (bytes rest : List ℕ) (k : Kind) → lettered_at bytes ≡ Some (k, rest) → IsRead bytes k rest
unfolding lettered_at
lettered-reads bytes rest k e =
    of_first (either_of (of_kind kind.Iid (after iid bytes)) (option_or (of_kind kind.Native (after native bytes)) (name_at bytes)) (k, rest) e) where
      of_second : (of_kind kind.Native (after native bytes) ≡ Some (k, rest)) ⊎ ((of_kind kind.Native (after native bytes) ≡ None) × (name_at bytes ≡ Some (k, rest))) → IsRead bytes k rest
      of_second (inl p) =
          let o = of_kind-reads kind.Native k (after native bytes) rest p in read-as bytes rest kind.Native k o.1 (parts-read native bytes rest o.0)
      of_second (inr p) = name-reads bytes rest k p.1

      of_first : (of_kind kind.Iid (after iid bytes) ≡ Some (k, rest)) ⊎ ((of_kind kind.Iid (after iid bytes) ≡ None) × (option_or (of_kind kind.Native (after native bytes)) (name_at bytes) ≡ Some (k, rest)))
          → IsRead bytes k rest
      of_first (inl p) = let o = of_kind-reads kind.Iid k (after iid bytes) rest p in read-as bytes rest kind.Iid k o.1 (iid-reads bytes rest o.0)
      of_first (inr p) = of_second (either_of (of_kind kind.Native (after native bytes)) (name_at bytes) (k, rest) p.1)

numbered-reads : (bytes rest : List ℕ) (k : Kind) → numbered_at bytes ≡ Some (k, rest) → IsRead bytes k rest
unfolding numbered_at
numbered-reads bytes rest k e = of_first (either_of (of_kind kind.Iid (after iid bytes)) (of_kind kind.Number (after_number bytes)) (k, rest) e) where
  of_first : (of_kind kind.Iid (after iid bytes) ≡ Some (k, rest)) ⊎ ((of_kind kind.Iid (after iid bytes) ≡ None) × (of_kind kind.Number (after_number bytes) ≡ Some (k, rest)))
      → IsRead bytes k rest
  of_first (inl p) = let o = of_kind-reads kind.Iid k (after iid bytes) rest p in read-as bytes rest kind.Iid k o.1 (iid-reads bytes rest o.0)
  of_first (inr p) =
      let o = of_kind-reads kind.Number k (after_number bytes) rest p.1 in read-as bytes rest kind.Number k o.1 (number-reads bytes rest o.0)

marked-reads : (bytes rest : List ℕ) (k : Kind) → of_kind kind.Mark (after_mark bytes) ≡ Some (k, rest) → IsRead bytes k rest
marked-reads bytes rest k e = let o = of_kind-reads kind.Mark k (after_mark bytes) rest e in read-as bytes rest kind.Mark k o.1 (mark-reads bytes rest o.0)

coded-reads : (bytes rest : List ℕ) (k : Kind) → of_kind kind.Code (after_code bytes) ≡ Some (k, rest) → IsRead bytes k rest
coded-reads bytes rest k e = let o = of_kind-reads kind.Code k (after_code bytes) rest e in read-as bytes rest kind.Code k o.1 (code-reads bytes rest o.0)

included-reads : (bytes rest : List ℕ) (k : Kind) → of_kind kind.Include (after include bytes) ≡ Some (k, rest) → IsRead bytes k rest
included-reads bytes rest k e =
    let o = of_kind-reads kind.Include k (after include bytes) rest e in read-as bytes rest kind.Include k o.1 (parts-read include bytes rest o.0)

-- whichever way a test goes
by_cond : {A : Type 0} (b : Bool) (x y z : A) (P : Type 0) → cond b x y ≡ z → (x ≡ z → P) → (y ≡ z → P) → P
by_cond true x y z P e f g = f e
by_cond false x y z P e f g = g e

pub token-reads : (bytes rest : List ℕ) (k : Kind) → token_at bytes ≡ Some (k, rest) → IsRead bytes k rest
unfolding token_at
token-reads [] rest k e = cc
token-reads (c ∷ cs) rest k e =
    by_cond (is_in NameStart c) _ _ _ (IsRead (c ∷ cs) k rest) e (lettered-reads (c ∷ cs) rest k)
    (λ e. by_cond (is_in Digit c) _ _ _ (IsRead (c ∷ cs) k rest) e (numbered-reads (c ∷ cs) rest k)
    (λ e. by_cond (c == 35) _ _ _ (IsRead (c ∷ cs) k rest) e (included-reads (c ∷ cs) rest k)
    (λ e. by_cond (c == 37) _ _ _ (IsRead (c ∷ cs) k rest) e (coded-reads (c ∷ cs) rest k) (marked-reads (c ∷ cs) rest k))))

-- ---- no spelling is longer

-- the reader gives a token that is at least as long, and of this kind where it is as long
abbrev pub Takes : Kind → List ℕ → Option (Kind × List ℕ) → Type 0
Takes what next o = (k : Kind) × (rest : List ℕ) × (o ≡ Some (k, rest)) × (length rest ≤ length next) × (length rest ≡ length next → k ≡ what)

takes-kind : (what : Kind) (next : List ℕ) (o : Option (List ℕ)) → GoesFar o next → Takes what next (of_kind what o)
takes-kind what next o g = (what, g.0, rw g.1 refl, g.2, λ _. refl)

takes-first : (what : Kind) (next : List ℕ) (o p : Option (Kind × List ℕ)) → Takes what next o → Takes what next (option_or o p)
takes-first what next o p t = (t.0, t.1, rw t.2 refl, t.3, t.4)

takes-later : (what first : Kind) (next : List ℕ) (o : Option (List ℕ)) (p : Option (Kind × List ℕ))
    → ((rest : List ℕ) → o ≡ Some rest → length rest < length next) → Takes what next p → Takes what next (option_or (of_kind first o) p)
takes-later what first next None p h t = t
takes-later what first next (Some rest) p h t =
    let l = h rest refl in (first, rest, refl, omega arith, λ e. absurd (omega arith))

takes-along : (what : Kind) (next : List ℕ) (o p : Option (Kind × List ℕ)) → o ≡ p → Takes what next p → Takes what next o
takes-along what next o p e t = (t.0, t.1, e ∙ t.2, t.3, t.4)

-- ---- the first bytes of spellings

dash-unnamed : is_in NameByte 45 ≡ false
unfolding is_in
dash-unnamed = refl

iid-first : (text : List ℕ) → IsMadeOf iid text → (c : ℕ) × (cs : List ℕ) × (text ≡ c ∷ cs) × (is_in Hexadecimal c ≡ true)
unfolding iid
iid-first text m = of_front m.0 m.2 m.3 m.4 where
  of_front : (front : List ℕ) → text ≡ front ++ m.1 → list_all (is_in Hexadecimal) front ≡ true → length front ≡ 8
      → (c : ℕ) × (cs : List ℕ) × (text ≡ c ∷ cs) × (is_in Hexadecimal c ≡ true)
  of_front [] e all n = absurd (omega arith)
  of_front (c ∷ cs) e all n = (c, cs ++ m.1, e, (both_true (is_in Hexadecimal c) (list_all (is_in Hexadecimal) cs) all).0)

number-first : (text : List ℕ) → IsMadeOf hexadecimal text ⊎ IsMadeOf decimal text → (c : ℕ) × (cs : List ℕ) × (text ≡ c ∷ cs) × (is_in Digit c ≡ true)
unfolding hexadecimal decimal is_in
number-first text (inl m) = (48, 120 ∷ m.0, m.1, refl)
number-first text (inr m) =
    let s = some-first m.0 m.4 in
    let e : text ≡ s.0 ∷ (s.1 ++ m.1) = m.2 ∙ ap (λ xs. xs ++ m.1) s.2 in
    (s.0, s.1 ++ m.1, e, (both_true (is_in Digit s.0) (list_all (is_in Digit) s.1) (rw s.2 at m.3)).0)

include-first : (text : List ℕ) → IsMadeOf include text → (cs : List ℕ) × (text ≡ 35 ∷ cs)
unfolding include
include-first text m = (codes "include" ++ m.0, m.1)

code-first : (text : List ℕ) → IsCode text → (cs : List ℕ) × (text ≡ 37 ∷ cs)
code-first text (inl m) = ((123 ∷ m.0) ++ codes "%}", m.1)
code-first text (inr m) =
    let b = m.3 in ((123 ∷ b.0) ++ codes "%}" ++ m.1, m.2 ∙ ap (λ xs. xs ++ m.1) b.1)

native-first : (text : List ℕ) → IsMadeOf native text → (cs : List ℕ) × (text ≡ 110 ∷ cs)
unfolding native
native-first text m = (codes "ative" ++ m.0, m.1)

at-n : (cs : List ℕ) → token_at (110 ∷ cs) ≡ lettered_at (110 ∷ cs)
unfolding token_at is_in
at-n cs = refl

no_iid-at-n : (cs : List ℕ) → after iid (110 ∷ cs) ≡ None
unfolding iid is_in
no_iid-at-n cs = refl

native-lettered : (text next cs : List ℕ) → text ≡ 110 ∷ cs → IsMadeOf native text → Takes kind.Native next (lettered_at (text ++ next))
unfolding lettered_at
native-lettered text next cs e m =
    let none : after iid (text ++ next) ≡ None = rw e (no_iid-at-n (cs ++ next)) in
    rw none (takes-first kind.Native next _ _ (takes-kind kind.Native next (after native (text ++ next)) (parts-longest native text next native-greedy m)))

iid-lettered : (c : ℕ) (cs text next : List ℕ) → text ≡ c ∷ cs → is_in NameStart c ≡ true → Takes kind.Iid next (of_kind kind.Iid (after iid (text ++ next)))
    → Takes kind.Iid next (token_at (text ++ next))
unfolding lettered_at
iid-lettered c cs text next e l t =
    let a : token_at (text ++ next) ≡ lettered_at (text ++ next) = rw e (at-letter c (cs ++ next) l) in
    takes-along kind.Iid next _ _ a (takes-first kind.Iid next _ _ t)

iid-numbered : (c : ℕ) (cs text next : List ℕ) → text ≡ c ∷ cs → is_in Digit c ≡ true → Takes kind.Iid next (of_kind kind.Iid (after iid (text ++ next)))
    → Takes kind.Iid next (token_at (text ++ next))
unfolding numbered_at
iid-numbered c cs text next e l t =
    let a : token_at (text ++ next) ≡ numbered_at (text ++ next) = rw e (at-digit c (cs ++ next) l) in
    takes-along kind.Iid next _ _ a (takes-first kind.Iid next _ _ t)

-- a byte that begins a mark begins no other token
pub begins_mark : ℕ → Bool
begins_mark c = not (is_in NameStart c || is_in Digit c || c == 35 || c == 37)

mark-begins : (c : ℕ) (cs : List ℕ) → is_mark (c ∷ cs) ≡ true → begins_mark c ≡ true
unfolding begins_mark is_in
mark-begins c [] h = listed_test (λ b. begins_mark b) (codes "()[]{},;:=+-*|") c refl h
mark-begins c (d ∷ []) h = grind (arith, nat_tests)
mark-begins c (d ∷ e ∷ more) h = cc

at-other : (c : ℕ) (cs : List ℕ) → begins_mark c ≡ true → token_at (c ∷ cs) ≡ of_kind kind.Mark (after_mark (c ∷ cs))
unfolding token_at begins_mark
at-other c cs h = of_tests (is_in NameStart c) (is_in Digit c) (c == 35) (c == 37) h _ _ _ _ _ where
  of_tests : (p q r s : Bool) → not (p || q || r || s) ≡ true → (v w x y z : Option (Kind × List ℕ)) → cond p v (cond q w (cond r x (cond s y z))) ≡ z
  of_tests true q r s h v w x y z = cc
  of_tests false true r s h v w x y z = cc
  of_tests false false true s h v w x y z = cc
  of_tests false false false true h v w x y z = cc
  of_tests false false false false h v w x y z = refl

-- a byte that begins no token
nothing_begins : ℕ → Bool
nothing_begins c = begins_mark c && not (is_in Single c || c == 60 || c == 62)

no_mark : (c : ℕ) (cs : List ℕ) → not (is_in Single c || c == 60 || c == 62) ≡ true → after_mark (c ∷ cs) ≡ None
unfolding after_mark
no_mark c [] h = of_test (is_in Single c) (c == 60) (c == 62) h where
  of_test : (p q r : Bool) → not (p || q || r) ≡ true → ◌≡◌ {A = Option (List ℕ)} (cond p (Some []) None) None
  of_test true q r h = cc
  of_test false q r h = refl
no_mark c (d ∷ more) h = of_test (is_in Single c) (c == 60) (c == 62) (c == d) h where
  of_test : (p q r s : Bool) → not (p || q || r) ≡ true → cond p (Some (d ∷ more)) (cond (s && (q || r)) (Some more) None) ≡ None
  of_test true q r s h = cc
  of_test false true r s h = cc
  of_test false false true s h = cc
  of_test false false false true h = refl
  of_test false false false false h = refl

no_token : (c : ℕ) (cs : List ℕ) → nothing_begins c ≡ true → token_at (c ∷ cs) ≡ None
unfolding nothing_begins
no_token c cs h =
    let p = both_true (begins_mark c) (not (is_in Single c || c == 60 || c == 62)) h in
    at-other c cs p.0 ∙ ap (of_kind kind.Mark) (no_mark c cs p.1)

pub no_token-at-blank : (c : ℕ) (cs : List ℕ) → is_in Blank c ≡ true → token_at (c ∷ cs) ≡ None
unfolding nothing_begins begins_mark is_in
no_token-at-blank c cs h = no_token c cs (listed_test (λ b. nothing_begins b) (32 ∷ 9 ∷ 13 ∷ 10 ∷ 12 ∷ []) c refl h)

pub no_token-at-end : token_at [] ≡ None
unfolding token_at
no_token-at-end = refl

pub no_token-at-slash : (cs : List ℕ) → token_at (47 ∷ cs) ≡ None
unfolding nothing_begins begins_mark is_in
no_token-at-slash cs = no_token 47 cs refl

at-mark : (c : ℕ) (cs next : List ℕ) → is_mark (c ∷ cs) ≡ true → token_at ((c ∷ cs) ++ next) ≡ of_kind kind.Mark (after_mark ((c ∷ cs) ++ next))
at-mark c cs next h = at-other c (cs ++ next) (mark-begins c cs h)

-- ---- each kind

-- a name, under the two longer spellings that may stand at its place
lettered-named : (what : Kind) (text next : List ℕ) → list_all (is_in NameByte) text ≡ true → Takes what next (name_at (text ++ next)) → Takes what next (lettered_at (text ++ next))
unfolding lettered_at
lettered-named what text next all t =
    takes-later what kind.Iid next (after iid (text ++ next)) _ (λ rest e. iid-longer (is_in NameByte) text next rest all dash-unnamed e)
    (takes-later what kind.Native next (after native (text ++ next)) _ (λ rest e. native-longer text next rest all e) t)

key-takes : (text next : List ℕ) → list_all (is_in NameByte) text ≡ true → is_key text ≡ true → IsOver NameByte next → Takes kind.Key next (name_at (text ++ next))
unfolding name_at
key-takes text next all h o =
    (kind.Key, next, rw (front-whole NameByte text next all o, behind-whole NameByte text next all o, h) refl, omega arith, λ _. refl)

word-takes : (text next : List ℕ) → list_all (is_in NameByte) text ≡ true → is_word text ≡ true → IsOver NameByte next → Takes kind.Word next (name_at (text ++ next))
unfolding name_at
word-takes text next all h o =
    let w = word-tests text h in
    (kind.Word, next, rw (front-whole NameByte text next all o, behind-whole NameByte text next all o, w.1, w.0) refl, omega arith, λ _. refl)

named-takes : (what : Kind) (text next : List ℕ) → list_all (is_in NameByte) text ≡ true → is_name text ≡ true → Takes what next (name_at (text ++ next))
    → Takes what next (token_at (text ++ next))
named-takes what text next all n t =
    let s = name-start text n in
    let e : token_at (text ++ next) ≡ lettered_at (text ++ next) = rw s.2 (at-letter s.0 (s.1 ++ next) s.3) in
    takes-along what next _ _ e (lettered-named what text next all t)

iid-takes : (text next : List ℕ) → IsMadeOf iid text → Takes kind.Iid next (token_at (text ++ next))
iid-takes text next m =
    let f = iid-first text m in
    let t = takes-kind kind.Iid next (after iid (text ++ next)) (parts-longest iid text next iid-greedy m) in
    of_test (f.0) (f.1) f.2 (is_in NameStart f.0) refl f.3 t where
      of_test : (c : ℕ) (cs : List ℕ) → text ≡ c ∷ cs → (b : Bool) → is_in NameStart c ≡ b → is_in Hexadecimal c ≡ true
          → Takes kind.Iid next (of_kind kind.Iid (after iid (text ++ next))) → Takes kind.Iid next (token_at (text ++ next))
      of_test c cs e true l h t = iid-lettered c cs text next e l t
      of_test c cs e false l h t = iid-numbered c cs text next e (hexadecimal-digit c h l) t

number-takes : (text next : List ℕ) → IsMadeOf hexadecimal text ⊎ IsMadeOf decimal text → Takes kind.Number next (token_at (text ++ next))
unfolding numbered_at
number-takes text next m =
    let f = number-first text m in
    let e : token_at (text ++ next) ≡ numbered_at (text ++ next) = rw f.2 (at-digit f.0 (f.1 ++ next) f.3) in
    takes-along kind.Number next _ _ e
    (takes-later kind.Number kind.Iid next (after iid (text ++ next)) _ (λ rest e. iid-longer (is_in NameByte) text next rest (number-all text m) dash-unnamed e)
    (takes-kind kind.Number next (after_number (text ++ next)) (number-far text next m)))

include-takes : (text next : List ℕ) → IsMadeOf include text → Takes kind.Include next (token_at (text ++ next))
include-takes text next m =
    let f = include-first text m in
    let e : token_at (text ++ next) ≡ of_kind kind.Include (after include (text ++ next)) = rw f.1 (at-hash (f.0 ++ next)) in
    takes-along kind.Include next _ _ e (takes-kind kind.Include next (after include (text ++ next)) (parts-longest include text next include-greedy m))

code-takes : (text next : List ℕ) → IsCode text → Takes kind.Code next (token_at (text ++ next))
code-takes text next m =
    let f = code-first text m in
    let e : token_at (text ++ next) ≡ of_kind kind.Code (after_code (text ++ next)) = rw f.1 (at-percent (f.0 ++ next)) in
    takes-along kind.Code next _ _ e (takes-kind kind.Code next (after_code (text ++ next)) (code-far text next m))

native-takes : (text next : List ℕ) → IsMadeOf native text → Takes kind.Native next (token_at (text ++ next))
native-takes text next m =
    let f = native-first text m in
    let e : token_at (text ++ next) ≡ lettered_at (text ++ next) = rw f.1 (at-n (f.0 ++ next)) in
    takes-along kind.Native next _ _ e (native-lettered text next f.0 f.1 m)

mark-takes : (text next : List ℕ) → is_mark text ≡ true → Takes kind.Mark next (token_at (text ++ next))
mark-takes [] next h = cc
mark-takes (c ∷ cs) next h =
    takes-along kind.Mark next _ _ (at-mark c cs next h) (takes-kind kind.Mark next (after_mark ((c ∷ cs) ++ next)) (mark-far (c ∷ cs) next h))

pub spelled-takes : (what : Kind) (text next : List ℕ) → Spells what text next → Takes what next (token_at (text ++ next))
spelled-takes kind.Word text next s =
    let m = s.0 in
    let e : text ≡ m.0 = rw (m.2, m.5, append-nil) refl in
    let all : list_all (is_in NameByte) text ≡ true = rw e m.3 in
    let w : is_word text ≡ true = rw e m.4 in
    named-takes kind.Word text next all (word-tests text w).0 (word-takes text next all w s.1)
spelled-takes kind.Key text next s =
    let m = s.0 in
    let e : text ≡ m.0 = rw (m.2, m.5, append-nil) refl in
    let all : list_all (is_in NameByte) text ≡ true = rw e m.3 in
    let k : is_key text ≡ true = rw e m.4 in
    named-takes kind.Key text next all (key-name text k) (key-takes text next all k s.1)
spelled-takes kind.Number text next s = number-takes text next s
spelled-takes kind.Iid text next s = iid-takes text next s
spelled-takes kind.Include text next s = include-takes text next s
spelled-takes kind.Code text next s = code-takes text next s
spelled-takes kind.Native text next s = native-takes text next s
spelled-takes kind.Mark text next s = mark-takes text next s

-- ---- tokens

pub token-sound : (bytes rest : List ℕ) (k : Kind) → token_at bytes ≡ Some (k, rest) → (text : List ℕ) × (bytes ≡ text ++ rest) × IsToken k text rest
token-sound bytes rest k e =
    let r = token-reads bytes rest k e in
    (r.0, r.1, record { spelled = r.2; longest = λ other first next same spelled. longest r.0 r.1 other first next same spelled }) where
      longest : (text : List ℕ) → bytes ≡ text ++ rest → (other : Kind) (first next : List ℕ) → first ++ next ≡ text ++ rest → Spells other first next → length first ≤ length text
      longest text whole other first next same spelled =
          let t = spelled-takes other first next spelled in
          let a : token_at (first ++ next) ≡ Some (k, rest) = rw (same, ← whole) e in
          let p : pair t.0 t.1 ≡ pair k rest = some_alike (sym t.2 ∙ a) in
          let l : length rest ≤ length next = rw (← ap (λ q. q.1) p) t.3 in
          omega (arith, ap length same, length-append first next, length-append text rest)

pub token-again : (what : Kind) (text next : List ℕ) → IsToken what text next → token_at (text ++ next) ≡ Some (what, next)
token-again what text next t =
    let g = spelled-takes what text next t.spelled in
    let r = token-reads (text ++ next) g.1 g.0 g.2 in
    let l = t.longest g.0 r.0 g.1 (sym r.1) r.2 in
    let n : length next ≡ length g.1 = omega (arith, ap length r.1, length-append r.0 g.1, length-append text next, g.3) in
    let s = same_length text r.0 next g.1 r.1 n in
    let k : g.0 ≡ what = g.4 (sym n) in
    g.2 ∙ rw (k, ← s.1) refl

-- ---- no token is empty

filled : (text : List ℕ) (c : ℕ) (cs : List ℕ) → text ≡ c ∷ cs → 0 < length text
filled text c cs e = omega (arith, ap length e)

named-filled : (text : List ℕ) → is_name text ≡ true → 0 < length text
named-filled text n = let s = name-start text n in filled text s.0 s.1 s.2

pub spelled-filled : (what : Kind) (text next : List ℕ) → Spells what text next → 0 < length text
spelled-filled kind.Word text next s =
    let m = s.0 in let e : text ≡ m.0 = rw (m.2, m.5, append-nil) refl in named-filled text (word-tests text (rw e m.4)).0
spelled-filled kind.Key text next s =
    let m = s.0 in let e : text ≡ m.0 = rw (m.2, m.5, append-nil) refl in named-filled text (key-name text (rw e m.4))
spelled-filled kind.Number text next s = let f = number-first text s in filled text f.0 f.1 f.2
spelled-filled kind.Iid text next s = let f = iid-first text s in filled text f.0 f.1 f.2
spelled-filled kind.Include text next s = let f = include-first text s in filled text 35 f.0 f.1
spelled-filled kind.Code text next s = let f = code-first text s in filled text 37 f.0 f.1
spelled-filled kind.Native text next s = let f = native-first text s in filled text 110 f.0 f.1
spelled-filled kind.Mark [] next s = cc
spelled-filled kind.Mark (c ∷ cs) next s = omega arith
