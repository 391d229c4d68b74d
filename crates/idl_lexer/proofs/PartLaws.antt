-- The reader of parts gives what is left behind a text that is made of them, and behind the longest such text.
use Rattle.std.proofs.Common.{◌≡◌, ◌≤◌, ℕ, zero, suc, Bool, true, false, cond, ◌⊎◌, inl, inr, List, [], ◌∷◌, ◌++◌, length, Option, Some, None, refl, sym, ◌∙◌, ap, subst, arith, append_assoc, append-nil, length-append, eq-eqb}
use Rattle.std.proofs.lemmas.Bool.Decides.{Decides-eqb}
use Rattle.std.specs.Prelude.{◌==◌}
use Rattle.std.specs.List.{list_all}
use Rattle.idl_lexer.specs.declared.class.Class.{Class}
use Rattle.idl_lexer.specs.Classes.{is_in, IsOver}
use Rattle.idl_lexer.specs.Parts.{Part, literal, counted, run, IsMadeOf}
use Rattle.idl_lexer.specs.Reading.{front, behind, after_literal, after_counted, after_run, after, is_end, is_whole}
use Rattle.idl_lexer.proofs.Basics.{chosen, guarded, bound, both_true, consed}

-- ---- runs

pub front-behind : (c : Class) (bytes : List ℕ) → bytes ≡ front c bytes ++ behind c bytes
front-behind c [] = refl
front-behind c (b ∷ bs) =
    elim (is_in c b) as (λ t. b ∷ bs ≡ cond t (b ∷ front c bs) [] ++ cond t (behind c bs) (b ∷ bs))
    [ true ↦ ap (λ xs. b ∷ xs) (front-behind c bs) | false ↦ refl ]

all-of : (p : ℕ → Bool) (b : ℕ) (bs : List ℕ) (t : Bool) → p b ≡ t → list_all p bs ≡ true → list_all p (cond t (b ∷ bs) []) ≡ true
all-of p b bs true e h = rw e h
all-of p b bs false e h = refl

pub front-all : (c : Class) (bytes : List ℕ) → list_all (is_in c) (front c bytes) ≡ true
front-all c [] = refl
front-all c (b ∷ bs) = all-of (is_in c) b (front c bs) (is_in c b) refl (front-all c bs)

over-of : (c : Class) (b : ℕ) (bs : List ℕ) (t : Bool) → is_in c b ≡ t → IsOver c (behind c bs) → IsOver c (cond t (behind c bs) (b ∷ bs))
over-of c b bs true e h = h
over-of c b bs false e h = e

pub behind-over : (c : Class) (bytes : List ℕ) → IsOver c (behind c bytes)
behind-over c [] = tt
behind-over c (b ∷ bs) = over-of c b bs (is_in c b) refl (behind-over c bs)

-- a run goes on over bytes of its class
pub front-more : (c : Class) (xs ys : List ℕ) → list_all (is_in c) xs ≡ true → front c (xs ++ ys) ≡ xs ++ front c ys
front-more c [] ys h = refl
front-more c (x ∷ xs) ys h =
    let p = both_true (is_in c x) (list_all (is_in c) xs) h in rw p.0 (ap (λ zs. x ∷ zs) (front-more c xs ys p.1))

pub behind-more : (c : Class) (xs ys : List ℕ) → list_all (is_in c) xs ≡ true → behind c (xs ++ ys) ≡ behind c ys
behind-more c [] ys h = refl
behind-more c (x ∷ xs) ys h =
    let p = both_true (is_in c x) (list_all (is_in c) xs) h in rw p.0 (behind-more c xs ys p.1)

-- and ends where the class is over
pub front-over : (c : Class) (ys : List ℕ) → IsOver c ys → front c ys ≡ []
front-over c [] h = refl
front-over c (y ∷ ys) h = rw h refl

pub behind-is_over : (c : Class) (ys : List ℕ) → IsOver c ys → behind c ys ≡ ys
behind-is_over c [] h = refl
behind-is_over c (y ∷ ys) h = rw h refl

pub front-whole : (c : Class) (xs ys : List ℕ) → list_all (is_in c) xs ≡ true → IsOver c ys → front c (xs ++ ys) ≡ xs
front-whole c xs ys h o = front-more c xs ys h ∙ (rw (front-over c ys o) (append-nil xs))

pub behind-whole : (c : Class) (xs ys : List ℕ) → list_all (is_in c) xs ≡ true → IsOver c ys → behind c (xs ++ ys) ≡ ys
behind-whole c xs ys h o = behind-more c xs ys h ∙ behind-is_over c ys o

pub behind-length : (c : Class) (ys : List ℕ) → length (behind c ys) ≤ length ys
behind-length c ys = omega (arith, ap length (front-behind c ys), length-append (front c ys) (behind c ys))

pub run-reads : (c : Class) (fits : List ℕ → Bool) (bytes rest : List ℕ) → after_run c fits bytes ≡ Some rest → (fits (front c bytes) ≡ true) × (behind c bytes ≡ rest)
unfolding after_run
run-reads c fits bytes rest e = guarded (fits (front c bytes)) (behind c bytes) rest e

pub run-again : (c : Class) (fits : List ℕ → Bool) (bytes : List ℕ) → fits (front c bytes) ≡ true → after_run c fits bytes ≡ Some (behind c bytes)
unfolding after_run
run-again c fits bytes h = rw h refl

-- ---- texts, and so many bytes of a class

pub literal-reads : (word bytes rest : List ℕ) → after_literal word bytes ≡ Some rest → bytes ≡ word ++ rest
literal-reads [] bytes rest e = cc
literal-reads (w ∷ word) [] rest e = cc
literal-reads (w ∷ word) (b ∷ bytes) rest e =
    let t = chosen (b == w) (after_literal word bytes) None (Some rest) e in
    elim t [ inl p ↦ consed b w bytes (word ++ rest) ((Decides-eqb b w).0 p.0) (literal-reads word bytes rest p.1) | inr p ↦ cc ]

pub literal-again : (word rest : List ℕ) → after_literal word (word ++ rest) ≡ Some rest
literal-again [] rest = refl
literal-again (w ∷ word) rest = rw (eq-eqb w w refl) (literal-again word rest)

pub counted-reads : (c : Class) (count : ℕ) (bytes rest : List ℕ) → after_counted c count bytes ≡ Some rest
    → (text : List ℕ) × (bytes ≡ text ++ rest) × (list_all (is_in c) text ≡ true) × (length text ≡ count)
counted-reads c zero bytes rest e = ([], cc, refl, refl)
counted-reads c (suc count) [] rest e = cc
counted-reads c (suc count) (b ∷ bytes) rest e =
    let p = chosen (is_in c b) (after_counted c count bytes) None (Some rest) e in
    elim p [ inl q ↦ (let m = counted-reads c count bytes rest q.1 in (b ∷ m.0, ap (λ xs. b ∷ xs) m.1, rw q.0 m.2, ap suc m.3)) | inr q ↦ cc ]

pub counted-again : (c : Class) (text rest : List ℕ) → list_all (is_in c) text ≡ true → after_counted c (length text) (text ++ rest) ≡ Some rest
counted-again c [] rest h = refl
counted-again c (x ∷ xs) rest h =
    let p = both_true (is_in c x) (list_all (is_in c) xs) h in rw p.0 (counted-again c xs rest p.1)

-- ---- parts

-- what is read is made of the parts
pub parts-read : (parts : List Part) (bytes rest : List ℕ) → after parts bytes ≡ Some rest → (text : List ℕ) × (bytes ≡ text ++ rest) × IsMadeOf parts text
parts-read [] bytes rest e = ([], cc, refl)
parts-read (literal word ∷ parts) bytes rest e =
    let b = bound (after parts) (after_literal word bytes) rest e in
    let m = parts-read parts b.0 rest b.2 in
    let w = literal-reads word bytes b.0 b.1 in
    (word ++ m.0, w ∙ ap (λ xs. word ++ xs) m.1 ∙ sym (append_assoc word m.0 rest), (m.0, refl, m.2))
parts-read (counted c count ∷ parts) bytes rest e =
    let b = bound (after parts) (after_counted c count bytes) rest e in
    let m = parts-read parts b.0 rest b.2 in
    let w = counted-reads c count bytes b.0 b.1 in
    (w.0 ++ m.0, w.1 ∙ ap (λ xs. w.0 ++ xs) m.1 ∙ sym (append_assoc w.0 m.0 rest), (w.0, m.0, refl, w.2, w.3, m.2))
parts-read (run c fits ∷ parts) bytes rest e =
    let b = bound (after parts) (after_run c fits bytes) rest e in
    let m = parts-read parts b.0 rest b.2 in
    let w = run-reads c fits bytes b.0 b.1 in
    let f = front c bytes in
    (f ++ m.0, front-behind c bytes ∙ ap (λ xs. f ++ xs) (w.1 ∙ m.1) ∙ sym (append_assoc f m.0 rest), (f, m.0, refl, front-all c bytes, w.0, m.2))

-- no text of these parts goes on with a byte of the class
abbrev pub EndsRun : Class → List Part → Type 0
EndsRun c [] = ⊥
EndsRun c (literal [] ∷ parts) = EndsRun c parts
EndsRun c (literal (b ∷ _) ∷ parts) = is_in c b ≡ false
EndsRun c (counted d count ∷ parts) = ⊥
EndsRun c (run d fits ∷ parts) = ((b : ℕ) → is_in d b ≡ true → is_in c b ≡ false) × ((fits [] ≡ false) ⊎ EndsRun c parts)

run-over : (c d : Class) (fits : List ℕ → Bool) (front more : List ℕ) → ((b : ℕ) → is_in d b ≡ true → is_in c b ≡ false)
    → list_all (is_in d) front ≡ true → fits front ≡ true → (fits [] ≡ false) ⊎ IsOver c more → IsOver c (front ++ more)
run-over c d fits [] more apart all fit (inl e) = cc
run-over c d fits [] more apart all fit (inr o) = o
run-over c d fits (b ∷ front) more apart all fit o = apart b (both_true (is_in d b) (list_all (is_in d) front) all).0

pub ends-over : (c : Class) (parts : List Part) (text next : List ℕ) → EndsRun c parts → IsMadeOf parts text → IsOver c (text ++ next)
ends-over c [] text next h m = absurd h
ends-over c (literal [] ∷ parts) text next h m = rw m.1 (ends-over c parts m.0 next h m.2)
ends-over c (literal (b ∷ word) ∷ parts) text next h m = rw m.1 h
ends-over c (counted d count ∷ parts) text next h m = absurd h
ends-over c (run d fits ∷ parts) text next h m =
    let o : (fits [] ≡ false) ⊎ IsOver c (m.1 ++ next) = elim h.1 [ inl e ↦ inl e | inr q ↦ inr (ends-over c parts m.1 next q m.5) ] in
    rw (m.2, append_assoc) (run-over c d fits m.0 (m.1 ++ next) h.0 m.3 m.4 o)

-- each run ends where the next part begins; the last may go on, if it then passes its test too
abbrev pub IsGreedy : List Part → Type 0
IsGreedy [] = Unit {0}
IsGreedy (literal word ∷ parts) = IsGreedy parts
IsGreedy (counted c count ∷ parts) = IsGreedy parts
IsGreedy (run c fits ∷ []) = (xs ys : List ℕ) → fits xs ≡ true → fits (xs ++ ys) ≡ true
IsGreedy (run c fits ∷ p ∷ parts) = EndsRun c (p ∷ parts) × IsGreedy (p ∷ parts)

-- no text of the parts goes on behind what the reader gives
abbrev pub GoesFar : Option (List ℕ) → List ℕ → Type 0
GoesFar o next = (rest : List ℕ) × (o ≡ Some rest) × (length rest ≤ length next)

far-of : (o p : Option (List ℕ)) (next : List ℕ) → o ≡ p → GoesFar p next → GoesFar o next
far-of o p next e g = (g.0, e ∙ g.1, g.2)

pub parts-longest : (parts : List Part) (text next : List ℕ) → IsGreedy parts → IsMadeOf parts text → GoesFar (after parts (text ++ next)) next
parts-longest [] text next g m = (next, rw m refl, omega arith)
parts-longest (literal word ∷ parts) text next g m =
    let e : text ++ next ≡ word ++ (m.0 ++ next) = rw m.1 (append_assoc word m.0 next) in
    far-of _ (after parts (m.0 ++ next)) next (rw (e, literal-again word (m.0 ++ next)) refl) (parts-longest parts m.0 next g m.2)
parts-longest (counted c count ∷ parts) text next g m =
    let e : text ++ next ≡ m.0 ++ (m.1 ++ next) = rw m.2 (append_assoc m.0 m.1 next) in
    far-of _ (after parts (m.1 ++ next)) next (rw (e, ← m.4, counted-again c m.0 (m.1 ++ next) m.3) refl) (parts-longest parts m.1 next g m.5)
parts-longest (run c fits ∷ []) text next g m =
    let e : text ++ next ≡ m.0 ++ next = rw (m.2, m.5, append-nil) refl in
    let fit : fits (front c (m.0 ++ next)) ≡ true = rw (front-more c m.0 next m.3) (g m.0 (front c next) m.4) in
    (behind c next, rw (e, run-again c fits (m.0 ++ next) fit, behind-more c m.0 next m.3) refl, behind-length c next)
parts-longest (run c fits ∷ p ∷ parts) text next g m =
    let e : text ++ next ≡ m.0 ++ (m.1 ++ next) = rw m.2 (append_assoc m.0 m.1 next) in
    let o = ends-over c (p ∷ parts) m.1 next g.0 m.5 in
    let fit : fits (front c (m.0 ++ (m.1 ++ next))) ≡ true = rw (front-whole c m.0 (m.1 ++ next) m.3 o) m.4 in
    far-of _ (after (p ∷ parts) (m.1 ++ next)) next
    (rw (e, run-again c fits (m.0 ++ (m.1 ++ next)) fit, behind-whole c m.0 (m.1 ++ next) m.3 o) refl)
    (parts-longest (p ∷ parts) m.1 next g.1 m.5)

-- ---- texts that are read whole

end-left : (o : Option (List ℕ)) → is_end o ≡ true → o ≡ Some []
end-left None e = cc
end-left (Some []) e = refl
end-left (Some (c ∷ cs)) e = cc

left-end : (o : Option (List ℕ)) → GoesFar o [] → is_end o ≡ true
left-end o ([], e, few) = rw e refl
left-end o (c ∷ cs, e, few) = absurd (omega arith)

pub whole-made : (parts : List Part) (text : List ℕ) → is_whole parts text ≡ true → IsMadeOf parts text
unfolding is_whole
whole-made parts text e =
    let r = parts-read parts text [] (end-left (after parts text) e) in subst (IsMadeOf parts) (sym (r.1 ∙ append-nil r.0)) r.2

pub made-whole : (parts : List Part) (text : List ℕ) → IsGreedy parts → IsMadeOf parts text → is_whole parts text ≡ true
unfolding is_whole
made-whole parts text g m =
    let far = parts-longest parts text [] g m in left-end (after parts text) (subst (λ t. GoesFar (after parts t) []) (append-nil text) far)
