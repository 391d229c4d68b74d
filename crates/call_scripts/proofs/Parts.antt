-- The words that are made of parts: what is read is spelled so, and what is spelled so is read.
use Rattle.std.proofs.Common.{◌≡◌, ℕ, ◌<◌, ◌≤◌, Bool, true, false, not, eqb, [], ◌∷◌, ◌++◌, length, Option, Some, None, refl, sym, ap, subst, ◌∙◌, inl, inr, arith, append_assoc, length-append}
use Rattle.std.specs.Prelude.{◌≢◌, codes}
use Rattle.std.specs.Option.{option_map_or}
use Rattle.std.specs.Str.{bytes_eq}
use Rattle.std.proofs.lemmas.Bool.{false≢true, eqb-true}
use Rattle.std.proofs.lemmas.List.{nil_from_length}
use Rattle.std.proofs.lemmas.Option.{none-some, same_Some}
use Rattle.std.proofs.lemmas.Slice.Eq.{bytes_eq-Decides}
use Rattle.call_scripts.specs.declared.script.ArgWord.{ArgWord}
use Rattle.call_scripts.specs.declared.script.ArgWord.TheVariants as args
use Rattle.call_scripts.specs.declared.script.EnterItem.{EnterItem}
use Rattle.call_scripts.specs.declared.script.EnterItem.TheVariants.{Register, Stack}
use Rattle.call_scripts.specs.declared.script.MemberRef.{MemberRef}
use Rattle.call_scripts.specs.declared.script.MemberWord.{MemberWord}
use Rattle.call_scripts.specs.declared.script.MemberWord.TheVariants.{Plain, Get, Set}
use Rattle.call_scripts.specs.declared.script.ReplyItem.{ReplyItem}
use Rattle.call_scripts.specs.declared.script.ReplyItem.TheVariants as items
use Rattle.call_scripts.specs.declared.script.Target.{Target}
use Rattle.call_scripts.specs.declared.script.Target.TheVariants as targets
use Rattle.call_scripts.specs.declared.script.Term.{Term}
use Rattle.call_scripts.specs.declared.script.Term.TheVariants as terms
use Rattle.call_scripts.specs.declared.script.ValueWord.{ValueWord}
use Rattle.call_scripts.specs.declared.script.ValueWord.TheVariants as values
use Rattle.call_scripts.specs.Lines.{IsValue, IsTarget, IsMember, IsArg, IsTerm, IsSum, IsItem, IsFrameItem, IsName, kind_text}
use Rattle.line_words.specs.Words.{Word, ◌>>=◌, after, before, cut_at}
use Rattle.line_words.proofs.Choices.{bound, chosen, fails_second, fails_too, ways}
use Rattle.line_words.proofs.Marks.{cut_first, cut_gives, cut_none, lacks, lacks_join, marked}
use Rattle.line_words.proofs.Prefixes.{after_other, after_read, after_spelled, before_read, before_spelled, same_bytes}
use Rattle.call_scripts.specs.Reading.{arg_of, bytes_of, digits_of, fill_of, frame_item_of, item_of, member_of, method_of, name_of, number_of, out_of, set_of, sum_of, target_of, term_of, value_of}
use Rattle.call_scripts.specs.Spellings.{is_register, IsDigits}
use Rattle.call_scripts.proofs.Atoms.{bytes_read, bytes_spelled, digits_spelled, name_read, name_spelled, number_read, number_spelled, test_some}
use Rattle.call_scripts.proofs.Lacking.{digits_lack, name_lacks, number_after, number_other, register_lacks, term_lacks, value_lacks, value_other, value_some}
use Rattle.call_scripts.proofs.Numerals.{digits_read}

-- a name behind a mark
named : {A : Type 0} (make : Word → A) (prefix w name : Word) (v : A) → after prefix w ≡ Some name → (name_of name >>= λ n. Some (make n)) ≡ Some v
    → (n : Word) × (make n ≡ v) × (w ≡ prefix ++ n) × IsName n
named make prefix w name v e h =
    let step = bound (name_of name) (λ n. Some (make n)) v h in
    let read = name_read name step.0 step.1 in
    (step.0, same_Some (make step.0) v step.2, after_read prefix w name e ∙ ap (λ n. prefix ++ n) read.0, read.1)

-- ---- values and targets

pub value_read : (w : Word) (v : ValueWord) → value_of w ≡ Some v → IsValue w v
unfolding value_of
value_read w v h = elim (chosen (bytes_eq w (codes "null")) _ _ _ h) as (λ _. IsValue w v) [
  | inl p ↦ subst (λ u. IsValue w u) (same_Some _ v p.1) (inr (same_bytes w (codes "null") p.0, refl))
  | inr p ↦ elim (ways (after (codes "@") w) _ _ _ p.1) as (λ _. IsValue w v) [
    | inl q ↦ let n = named values.Address (codes "@") w q.0 v q.1 q.2 in subst (λ u. IsValue w u) n.1 (n.2, n.3)
    | inr q ↦ elim (ways (after (codes "$") w) _ _ _ q.1) as (λ _. IsValue w v) [
      | inl r ↦ let n = named values.Variable (codes "$") w r.0 v r.1 r.2 in subst (λ u. IsValue w u) n.1 (n.2, n.3)
      | inr r ↦ let n = bound (number_of w) (λ n. Some (values.Number n)) v r.1 in
          subst (λ u. IsValue w u) (same_Some _ v n.2) (inl (number_read w n.0 n.1))
    ]
  ]
]

pub value_spelled : (w : Word) (v : ValueWord) → IsValue w v → value_of w ≡ Some v
unfolding value_of after
value_spelled w (values.Number n) (inl h) =
    rw (number_other 110 (codes "ull") w n (inr (omega arith)) h, number_after 64 [] w n (inr (omega arith)) h, number_after 36 [] w n (inl (omega arith)) h, number_spelled w n h) refl
value_spelled w (values.Number n) (inr h) = rw (h.0, h.1) refl
value_spelled w (values.Address name) h = rw h.0 (rw (name_spelled name h.1) refl)
value_spelled w (values.Variable name) h = rw h.0 (rw (name_spelled name h.1) refl)

pub target_read : (w : Word) (t : Target) → target_of w ≡ Some t → IsTarget w t
unfolding target_of
target_read w t h = elim (ways (after (codes "$") w) _ _ _ h) as (λ _. IsTarget w t) [
  | inl q ↦ let n = named targets.Variable (codes "$") w q.0 t q.1 q.2 in subst (λ u. IsTarget w u) n.1 (n.2, n.3)
  | inr q ↦ let n = bound (name_of w) (λ n. Some (targets.Block n)) t q.1 in
      let read = name_read w n.0 n.1 in subst (λ u. IsTarget w u) (same_Some _ t n.2) (read.0, read.1)
]

pub target_spelled : (w : Word) (t : Target) → IsTarget w t → target_of w ≡ Some t
unfolding target_of after
target_spelled w (targets.Variable name) h = rw h.0 (rw (name_spelled name h.1) refl)
target_spelled w (targets.Block name) h =
    rw h.0 (by_prefix (after (codes "$") name) refl)
  where
    by_prefix : (o : Option Word) → after (codes "$") name ≡ o
        → option_map_or (λ n. name_of n >>= λ n. Some (targets.Variable n)) o (name_of name >>= λ n. Some (targets.Block n)) ≡ Some (targets.Block name)
    by_prefix None e = rw (name_spelled name h.1) refl
    by_prefix (Some rest) e =
        let has : lacks 36 (codes "$" ++ rest) ≡ true = subst (λ v. lacks 36 v ≡ true) (after_read (codes "$") name rest e) (name_lacks 36 name refl h.1) in
        absurd (false≢true has)

-- ---- members

method_read : (iface w : Word) (m : MemberRef) → method_of iface w ≡ Some m
    → (m.iface ≡ iface) × (w ≡ kind_text m.kind ++ m.name) × IsName m.name
unfolding method_of
method_read iface w m h = elim (ways (after (codes "get:") w) _ _ _ h) as (λ _. (m.iface ≡ iface) × (w ≡ kind_text m.kind ++ m.name) × IsName m.name) [
  | inl q ↦ let n = named (λ name. record { iface = iface; kind = Get; name = name }) (codes "get:") w q.0 m q.1 q.2 in
      subst (λ u. (u.iface ≡ iface) × (w ≡ kind_text u.kind ++ u.name) × IsName u.name) n.1 (refl, n.2, n.3)
  | inr q ↦ elim (ways (after (codes "set:") w) _ _ _ q.1) as (λ _. (m.iface ≡ iface) × (w ≡ kind_text m.kind ++ m.name) × IsName m.name) [
    | inl r ↦ let n = named (λ name. record { iface = iface; kind = Set; name = name }) (codes "set:") w r.0 m r.1 r.2 in
        subst (λ u. (u.iface ≡ iface) × (w ≡ kind_text u.kind ++ u.name) × IsName u.name) n.1 (refl, n.2, n.3)
    | inr r ↦ let n = bound (name_of w) (λ name. Some (record { iface = iface; kind = Plain; name = name })) m r.1 in
        let read = name_read w n.0 n.1 in
        subst (λ u. (u.iface ≡ iface) × (w ≡ kind_text u.kind ++ u.name) × IsName u.name) (same_Some _ m n.2) (refl, read.0, read.1)
  ]
]

-- a name is none of the words that end in a colon
no_colon : (prefix name : Word) → lacks 58 prefix ≡ false → IsName name → after prefix name ≡ None
no_colon prefix name colon is = by_prefix (after prefix name) refl
  where
    lacks_front : (a b : Word) → lacks 58 a ≡ false → lacks 58 (a ++ b) ≡ false
    lacks_front [] b h = absurd (false≢true (sym h))
    lacks_front (c ∷ a) b h = fails_too (not (eqb c 58)) (lacks 58 a) (lacks 58 (a ++ b)) h (lacks_front a b)

    by_prefix : (o : Option Word) → after prefix name ≡ o → o ≡ None
    by_prefix None e = refl
    by_prefix (Some rest) e =
        let has : lacks 58 (prefix ++ rest) ≡ true = subst (λ v. lacks 58 v ≡ true) (after_read prefix name rest e) (name_lacks 58 name refl is) in
        absurd (false≢true (sym (lacks_front prefix rest colon) ∙ has))

method_spelled : (iface : Word) (kind : MemberWord) (name : Word) → IsName name
    → method_of iface (kind_text kind ++ name) ≡ Some (record { iface = iface; kind = kind; name = name })
unfolding method_of
method_spelled iface Get name is = rw (after_spelled (codes "get:") name, name_spelled name is) refl
method_spelled iface Set name is =
    let other : after (codes "get:") (codes "set:" ++ name) ≡ None = after_other 103 115 (codes "et:") (codes "et:" ++ name) refl in
    rw (other, after_spelled (codes "set:") name, name_spelled name is) refl
method_spelled iface Plain name is =
    rw (no_colon (codes "get:") name refl is, no_colon (codes "set:") name refl is, name_spelled name is) refl

-- an interface's name, a dot, and the rest
dotted : (a k n : Word) → a ++ 46 ∷ (k ++ n) ≡ a ++ codes "." ++ k ++ n
dotted a k n = simp append_assoc

pub member_read : (w : Word) (m : MemberRef) → member_of w ≡ Some m → IsMember w m
unfolding member_of
member_read w m h =
    let cut = bound (cut_at 46 w) _ m h in
    let parts = cut_gives 46 w cut.0.0 cut.0.1 cut.1 in
    let iface = bound (name_of cut.0.0) _ m cut.2 in
    let name = name_read cut.0.0 iface.0 iface.1 in
    let method = method_read iface.0 cut.0.1 m iface.2 in
    let front : cut.0.0 ≡ m.iface = name.0 ∙ sym method.0 in
    (parts.0 ∙ (rw (front, method.1) refl ∙ dotted m.iface (kind_text m.kind) m.name), rw method.0 name.1, method.2)

pub member_spelled : (w : Word) (m : MemberRef) → IsMember w m → member_of w ≡ Some m
unfolding member_of
member_spelled w m h =
    let spelled : w ≡ m.iface ++ 46 ∷ (kind_text m.kind ++ m.name) = h.0 ∙ sym (dotted m.iface (kind_text m.kind) m.name) in
    rw (spelled, cut_first 46 m.iface (kind_text m.kind ++ m.name) (name_lacks 46 m.iface refl h.1), name_spelled m.iface h.1, method_spelled m.iface m.kind m.name h.2) refl

-- ---- arguments

-- an arrow is a `-` and a `>`
arrow : (front w : Word) → (front ++ codes "-") ++ 62 ∷ w ≡ front ++ codes "->" ++ w
arrow front w = simp append_assoc

out_read : (front w : Word) (a : ArgWord) → out_of front w ≡ Some a → IsArg (front ++ codes "->" ++ w) a
unfolding out_of
out_read front w a h =
    let name = bound (name_of w) _ a h in
    let read = name_read w name.0 name.1 in
    elim (chosen (eqb (length front) 0) _ _ _ name.2) as (λ _. IsArg (front ++ codes "->" ++ w) a) [
      | inl p ↦ subst (λ u. IsArg (front ++ codes "->" ++ w) u) (same_Some _ a p.1) (ap (λ v. v ++ codes "->" ++ w) (nil_from_length front (eqb-true (length front) 0 p.0)) ∙ ap (λ v. codes "->" ++ v) read.0, read.1)
      | inr p ↦ let value = bound (value_of front) _ a p.1 in
          subst (λ u. IsArg (front ++ codes "->" ++ w) u) (same_Some _ a value.2) (front, ap (λ v. front ++ codes "->" ++ v) read.0, value_read front value.0 value.1, read.1)
    ]

pub arg_read : (w : Word) (a : ArgWord) → arg_of w ≡ Some a → IsArg w a
unfolding arg_of
arg_read w a h = elim (chosen (bytes_eq w (codes "_")) _ _ _ h) as (λ _. IsArg w a) [
  | inl p ↦ subst (λ u. IsArg w u) (same_Some _ a p.1) (same_bytes w (codes "_") p.0)
  | inr p ↦ elim (ways (cut_at 62 w) _ _ _ p.1) as (λ _. IsArg w a) [
    | inl q ↦ let parts = cut_gives 62 w q.0.0 q.0.1 q.1 in
        let front = bound (before (codes "-") q.0.0) _ a q.2 in
        let spelled : w ≡ front.0 ++ codes "->" ++ q.0.1 = parts.0 ∙ (ap (λ v. v ++ 62 ∷ q.0.1) (before_read (codes "-") q.0.0 front.0 front.1) ∙ arrow front.0 q.0.1) in
        subst (λ v. IsArg v a) (sym spelled) (out_read front.0 q.0.1 a front.2)
    | inr q ↦ let value = bound (value_of w) _ a q.1 in subst (λ u. IsArg w u) (same_Some _ a value.2) (value_read w value.0 value.1)
  ]
]

long_other : (w : Word) → 2 ≤ length w → bytes_eq w (codes "_") ≡ false
long_other [] h = absurd (omega arith)
long_other (c ∷ []) h = absurd (omega arith)
long_other (c ∷ d ∷ w) h = fails_second (eqb c 95)

value_cell : (front name : Word) (v : ValueWord) → IsValue front v → IsName name → arg_of (front ++ codes "->" ++ name) ≡ Some (args.ValueCell v name)
unfolding arg_of out_of
value_cell front name v value is =
    let some : 0 < length front = value_some front v value in
    let long : 2 ≤ length ((front ++ codes "-") ++ 62 ∷ name) = omega (arith, length-append (front ++ codes "-") (62 ∷ name), length-append front (codes "-")) in
    rw (sym (arrow front name))
    (rw (
      long_other ((front ++ codes "-") ++ 62 ∷ name) long,
      cut_first 62 (front ++ codes "-") name (lacks_join 62 front (codes "-") (value_lacks front v value) refl),
      before_spelled (codes "-") front,
      name_spelled name is,
      test_some (length front) some,
      value_spelled front v value,
    ) refl)

pub arg_spelled : (w : Word) (a : ArgWord) → IsArg w a → arg_of w ≡ Some a
unfolding arg_of out_of before
arg_spelled w (args.Value v) h = rw (value_other w v h, cut_none 62 w (value_lacks w v h), value_spelled w v h) refl
arg_spelled w (args.Cell name) h = rw h.0 (rw (cut_first 62 (codes "-") name refl, name_spelled name h.1) refl)
arg_spelled w (args.ValueCell v name) h = rw h.1 (value_cell h.0 name v h.2 h.3)
arg_spelled w args.Absent h = rw h refl

-- ---- terms and items

at_place : (radix longest : ℕ) (make : ℕ → Term) (prefix w p : Word) (t : Term) → after prefix w ≡ Some p → (digits_of radix longest p >>= λ at. Some (make at)) ≡ Some t
    → (at : ℕ) × (make at ≡ t) × (w ≡ prefix ++ p) × IsDigits radix longest p at
at_place radix longest make prefix w p t e h =
    let at = bound (digits_of radix longest p) (λ at. Some (make at)) t h in
    (at.0, same_Some _ t at.2, after_read prefix w p e, digits_read radix longest p at.0 at.1)

pub term_read : (w : Word) (t : Term) → term_of w ≡ Some t → IsTerm w t
unfolding term_of
term_read w t h = elim (ways (after (codes "@") w) _ _ _ h) as (λ _. IsTerm w t) [
  | inl q ↦ let n = named terms.Address (codes "@") w q.0 t q.1 q.2 in subst (λ u. IsTerm w u) n.1 (n.2, n.3)
  | inr q ↦ elim (ways (after (codes "$a") w) _ _ _ q.1) as (λ _. IsTerm w t) [
    | inl r ↦ let at = at_place 10 3 terms.Arg (codes "$a") w r.0 t r.1 r.2 in subst (λ u. IsTerm w u) at.1 (r.0, at.2, at.3)
    | inr r ↦ elim (ways (after (codes "*a") w) _ _ _ r.1) as (λ _. IsTerm w t) [
      | inl s ↦ let at = at_place 10 3 terms.InCell (codes "*a") w s.0 t s.1 s.2 in subst (λ u. IsTerm w u) at.1 (s.0, at.2, at.3)
      | inr s ↦ let n = bound (number_of w) (λ n. Some (terms.Number n)) t s.1 in subst (λ u. IsTerm w u) (same_Some _ t n.2) (number_read w n.0 n.1)
    ]
  ]
]

pub term_spelled : (w : Word) (t : Term) → IsTerm w t → term_of w ≡ Some t
unfolding term_of after
term_spelled w (terms.Number n) h =
    rw (number_after 64 [] w n (inr (omega arith)) h, number_after 36 (codes "a") w n (inl (omega arith)) h, number_after 42 (codes "a") w n (inl (omega arith)) h, number_spelled w n h) refl
term_spelled w (terms.Address name) h = rw h.0 (rw (name_spelled name h.1) refl)
term_spelled w (terms.Arg at) h = rw h.1 (rw (digits_spelled 10 3 h.0 at h.2) refl)
term_spelled w (terms.InCell at) h = rw h.1 (rw (digits_spelled 10 3 h.0 at h.2) refl)

sum_read : (at : ℕ) (w : Word) (i : ReplyItem) → sum_of at w ≡ Some i
    → (first : Term) × (second : Option Term) × (items.Set at first second ≡ i) × IsSum w first second
unfolding sum_of
sum_read at w i h = elim (ways (cut_at 43 w) _ _ _ h) as (λ _. (first : Term) × (second : Option Term) × (items.Set at first second ≡ i) × IsSum w first second) [
  | inl q ↦ let parts = cut_gives 43 w q.0.0 q.0.1 q.1 in
      let first = bound (term_of q.0.0) _ i q.2 in
      let second = bound (term_of q.0.1) _ i first.2 in
      (first.0, Some second.0, same_Some _ i second.2, (q.0.0, q.0.1, parts.0 ∙ marked 43 q.0.0 q.0.1, term_read q.0.0 first.0 first.1, term_read q.0.1 second.0 second.1))
  | inr q ↦ let first = bound (term_of w) _ i q.1 in (first.0, None, same_Some _ i first.2, term_read w first.0 first.1)
]

sum_spelled : (at : ℕ) (w : Word) (first : Term) (second : Option Term) → IsSum w first second → sum_of at w ≡ Some (items.Set at first second)
unfolding sum_of
sum_spelled at w first None h = rw (cut_none 43 w (term_lacks w first h), term_spelled w first h) refl
sum_spelled at w first (Some second) h =
    let spelled : w ≡ h.0 ++ 43 ∷ h.1 = h.2 ∙ sym (marked 43 h.0 h.1) in
    rw (spelled, cut_first 43 h.0 h.1 (term_lacks h.0 first h.3), term_spelled h.0 first h.3, term_spelled h.1 second h.4) refl

set_read : (w : Word) (i : ReplyItem) → set_of w ≡ Some i → IsItem (codes "a" ++ w) i
unfolding set_of
set_read w i h =
    let cut = bound (cut_at 61 w) _ i h in
    let parts = cut_gives 61 w cut.0.0 cut.0.1 cut.1 in
    let at = bound (digits_of 10 3 cut.0.0) _ i cut.2 in
    let sum = sum_read at.0 cut.0.1 i at.2 in
    let spelled : codes "a" ++ w ≡ codes "a" ++ cut.0.0 ++ codes "=" ++ cut.0.1 = ap (λ v. codes "a" ++ v) parts.0 ∙ equals (codes "a") cut.0.0 cut.0.1 in
    subst (λ u. IsItem (codes "a" ++ w) u) sum.2 (cut.0.0, cut.0.1, spelled, digits_read 10 3 cut.0.0 at.0 at.1, sum.3)
  where
    equals : (a p s : Word) → a ++ (p ++ 61 ∷ s) ≡ a ++ p ++ codes "=" ++ s
    equals a p s = simp append_assoc

fill_read : (w : Word) (i : ReplyItem) → fill_of w ≡ Some i → IsItem (codes "[a" ++ w) i
unfolding fill_of
fill_read w i h =
    let cut = bound (cut_at 43 w) _ i h in
    let parts = cut_gives 43 w cut.0.0 cut.0.1 cut.1 in
    let at = bound (digits_of 10 3 cut.0.0) _ i cut.2 in
    let ends = bound (cut_at 93 cut.0.1) _ i at.2 in
    let more = cut_gives 93 cut.0.1 ends.0.0 ends.0.1 ends.1 in
    let offset = bound (digits_of 10 8 ends.0.0) _ i ends.2 in
    let hex = bound (after (codes "=") ends.0.1) _ i offset.2 in
    let bytes = bound (bytes_of hex.0) _ i hex.2 in
    let spelled : codes "[a" ++ w ≡ codes "[a" ++ cut.0.0 ++ codes "+" ++ ends.0.0 ++ codes "]=" ++ hex.0 =
    ap (λ v. codes "[a" ++ v) (parts.0 ∙ ap (λ v. cut.0.0 ++ 43 ∷ v) (more.0 ∙ ap (λ v. ends.0.0 ++ 93 ∷ v) (after_read (codes "=") ends.0.1 hex.0 hex.1))) ∙ marks (codes "[a") cut.0.0 ends.0.0 hex.0 in
    subst (λ u. IsItem (codes "[a" ++ w) u) (same_Some _ i bytes.2)
    (cut.0.0, ends.0.0, hex.0, spelled, digits_read 10 3 cut.0.0 at.0 at.1, digits_read 10 8 ends.0.0 offset.0 offset.1, bytes_read hex.0 bytes.0 bytes.1)
  where
    marks : (a p o h : Word) → a ++ (p ++ 43 ∷ (o ++ 93 ∷ 61 ∷ h)) ≡ a ++ p ++ codes "+" ++ o ++ codes "]=" ++ h
    marks a p o h = simp append_assoc

pub item_read : (w : Word) (i : ReplyItem) → item_of w ≡ Some i → IsItem w i
unfolding item_of
item_read w i h = elim (ways (after (codes "result=") w) _ _ _ h) as (λ _. IsItem w i) [
  | inl q ↦ let n = bound (digits_of 16 8 q.0) _ i q.2 in
      subst (λ u. IsItem w u) (same_Some _ i n.2) (q.0, after_read (codes "result=") w q.0 q.1, digits_read 16 8 q.0 n.0 n.1)
  | inr q ↦ elim (ways (after (codes "a") w) _ _ _ q.1) as (λ _. IsItem w i) [
    | inl r ↦ subst (λ v. IsItem v i) (sym (after_read (codes "a") w r.0 r.1)) (set_read r.0 i r.2)
    | inr r ↦ let fill = bound (after (codes "[a") w) fill_of i r.1 in subst (λ v. IsItem v i) (sym (after_read (codes "[a") w fill.0 fill.1)) (fill_read fill.0 i fill.2)
  ]
]

pub item_spelled : (w : Word) (i : ReplyItem) → IsItem w i → item_of w ≡ Some i
unfolding item_of set_of fill_of after
item_spelled w (items.Result n) h = rw h.1 (rw (digits_spelled 16 8 h.0 n h.2) refl)
item_spelled w (items.Set at first second) h =
    let spelled : w ≡ 97 ∷ (h.0 ++ 61 ∷ h.1) = h.2 ∙ simp append_assoc in
    rw spelled (rw (cut_first 61 h.0 h.1 (digits_lack 10 3 61 h.0 at refl h.3), digits_spelled 10 3 h.0 at h.3, sum_spelled at h.1 first second h.4) refl)
item_spelled w (items.Fill at offset bytes) h =
    let spelled : w ≡ 91 ∷ 97 ∷ (h.0 ++ 43 ∷ (h.1 ++ 93 ∷ 61 ∷ h.2)) = h.3 ∙ simp append_assoc in
    rw spelled
    (rw (
      cut_first 43 h.0 (h.1 ++ 93 ∷ 61 ∷ h.2) (digits_lack 10 3 43 h.0 at refl h.4),
      digits_spelled 10 3 h.0 at h.4,
      cut_first 93 h.1 (61 ∷ h.2) (digits_lack 10 8 93 h.1 offset refl h.5),
      digits_spelled 10 8 h.1 offset h.5,
      bytes_spelled h.2 bytes h.6,
    ) refl)

-- ---- frame items

pub frame_item_read : (w : Word) (i : EnterItem) → frame_item_of w ≡ Some i → IsFrameItem w i
unfolding frame_item_of
frame_item_read w i h =
    let cut = bound (cut_at 61 w) _ i h in
    let parts = cut_gives 61 w cut.0.0 cut.0.1 cut.1 in
    let spelled : w ≡ cut.0.0 ++ codes "=" ++ cut.0.1 = parts.0 ∙ marked 61 cut.0.0 cut.0.1 in
    elim (chosen (bytes_eq cut.0.0 (codes "stack")) _ _ _ cut.2) as (λ _. IsFrameItem w i) [
      | inl p ↦ let bytes = bound (bytes_of cut.0.1) _ i p.1 in
          let stack : w ≡ codes "stack=" ++ cut.0.1 = spelled ∙ ap (λ v. v ++ codes "=" ++ cut.0.1) (same_bytes cut.0.0 (codes "stack") p.0) in
          subst (λ u. IsFrameItem w u) (same_Some _ i bytes.2) (cut.0.1, stack, bytes_read cut.0.1 bytes.0 bytes.1)
      | inr p ↦ elim (chosen (is_register cut.0.0) _ _ _ p.1) as (λ _. IsFrameItem w i) [
        | inl q ↦ let value = bound (digits_of 16 16 cut.0.1) _ i q.1 in
            subst (λ u. IsFrameItem w u) (same_Some _ i value.2)
            (cut.0.1, spelled, q.0, (λ e. false≢true (sym p.0 ∙ (bytes_eq-Decides cut.0.0 (codes "stack")).1 e)), digits_read 16 16 cut.0.1 value.0 value.1)
        | inr q ↦ absurd (none-some i q.1)
      ]
    ]

pub frame_item_spelled : (w : Word) (i : EnterItem) → IsFrameItem w i → frame_item_of w ≡ Some i
unfolding frame_item_of
frame_item_spelled w (Stack bytes) h = rw h.1 (rw (cut_first 61 (codes "stack") h.0 refl, bytes_spelled h.0 bytes h.2) refl)
frame_item_spelled w (Register name value) h =
    let spelled : w ≡ name ++ 61 ∷ h.0 = h.1 ∙ sym (marked 61 name h.0) in
    let other : bytes_eq name (codes "stack") ≡ false = not_same name (codes "stack") h.3 in
    rw (spelled, cut_first 61 name h.0 (register_lacks 61 name refl h.2), other, h.2, digits_spelled 16 16 h.0 value h.4) refl
  where
    not_same : (a b : Word) → a ≢ b → bytes_eq a b ≡ false
    not_same a b ne = by_test (bytes_eq a b) refl
      where
        by_test : (t : Bool) → bytes_eq a b ≡ t → t ≡ false
        by_test true e = absurd (ne (same_bytes a b e))
        by_test false e = refl
