-- The visits of names come to one thing alone.
use Rattle.std.proofs.Common.{◌≡◌, ℕ, true, false, List, [], ◌∷◌, ◌++◌, refl, sym, ◌∙◌, ap, subst}
use Rattle.xp_base.specs.Files.{Files}
use Rattle.idl_grammar.specs.declared.tree.IdlFile.{IdlFile}
use Rattle.include_closure.specs.declared.visited.Visited.{Visited}
use Rattle.include_closure.specs.Closure.{Takes, Outcome, Whole, Stopped, Visits, done, again, taken, inside, fault, begins, closes}
use Rattle.include_closure.specs.FileFaults.{named}
use Rattle.include_closure.specs.Names.{is_begun, includes}
use Rattle.include_closure.proofs.SeenLaws.{fault-alone, one-fault, one-taken}

not-both : (begun : List (List ℕ)) (name : List ℕ) → is_begun begun name ≡ true → is_begun begun name ≡ false → ⊥
not-both begun name h k = let e : true ≡ false = sym h ∙ k in cc

same_whole : (v w : Visited) → Whole v ≡ Whole w → v ≡ w
same_whole v w e = cc

-- what is visited behind a file that is taken, for any bytes and tree that it is taken with
moved : (told : Files) (v : Visited) (name bytes other : List ℕ) (tree leaf : IdlFile) (o : Outcome) → (bytes ≡ other) × (tree ≡ leaf)
    → Visits told (includes leaf.items) (begins v name other) o → Visits told (includes tree.items) (begins v name bytes) o
moved told v name bytes other tree leaf o e visits =
    subst (λ xs. Visits told (includes tree.items) (begins v name xs) o) (sym e.0)
    (subst (λ (t : IdlFile). Visits told (includes t.items) (begins v name other) o) (sym e.1) visits)

closed : (told : Files) (names : List (List ℕ)) (v w : Visited) (name : List ℕ) (tree leaf : IdlFile) (o : Outcome) → v ≡ w → tree ≡ leaf
    → Visits told names (closes w name leaf) o → Visits told names (closes v name tree) o
closed told names v w name tree leaf o e f visits =
    subst (λ x. Visits told names (closes x name tree) o) (sym e) (subst (λ t. Visits told names (closes w name t) o) (sym f) visits)

pub one-outcome : (told : Files) (names : List (List ℕ)) (v : Visited) (o p : Outcome) → Visits told names v o → Visits told names v p → o ≡ p
one-outcome told _ _ _ _ (done v) (done _) = refl
one-outcome told _ _ _ p (again name names v o b rest) (again _ _ _ _ c more) = one-outcome told names v o p rest more
one-outcome told _ _ _ _ (again name names v o b rest) (taken _ _ _ w bytes tree p t first more) = absurd (not-both v.begun name b t.fresh)
one-outcome told _ _ _ _ (again name names v o b rest) (inside _ _ _ bytes tree begun e t first) = absurd (not-both v.begun name b t.fresh)
one-outcome told _ _ _ _ (again name names v o b rest) (fault _ _ _ e c f) = absurd (not-both v.begun name b c)
one-outcome told _ _ _ _ (taken name names v w bytes tree o t first rest) (again _ _ _ p c more) = absurd (not-both v.begun name c t.fresh)
one-outcome told _ _ _ _ (taken name names v w bytes tree o t first rest) (taken _ _ _ x other leaf p u second more) =
    let same = one-taken told v name bytes other tree leaf t u in
    let here = same_whole w x (one-outcome told _ _ (Whole w) (Whole x) first (moved told v name bytes other tree leaf (Whole x) same second)) in
    one-outcome told names (closes w name tree) o p rest (closed told names w x name tree leaf p here same.1 more)
one-outcome told _ _ _ _ (taken name names v w bytes tree o t first rest) (inside _ _ _ other leaf begun e u second) =
    let same = one-taken told v name bytes other tree leaf t u in
    let clash = one-outcome told _ _ (Whole w) (Stopped begun e) first (moved told v name bytes other tree leaf (Stopped begun e) same second) in absurd cc
one-outcome told _ _ _ _ (taken name names v w bytes tree o t first rest) (fault _ _ _ e c f) = absurd (fault-alone told v name bytes tree e t f)
one-outcome told _ _ _ _ (inside name names v bytes tree begun e t first) (again _ _ _ p c more) = absurd (not-both v.begun name c t.fresh)
one-outcome told _ _ _ _ (inside name names v bytes tree begun e t first) (taken _ _ _ x other leaf p u second more) =
    let same = one-taken told v name bytes other tree leaf t u in
    let clash = one-outcome told _ _ (Stopped begun e) (Whole x) first (moved told v name bytes other tree leaf (Whole x) same second) in absurd cc
one-outcome told _ _ _ _ (inside name names v bytes tree begun e t first) (inside _ _ _ other leaf started f u second) =
    let same = one-taken told v name bytes other tree leaf t u in
    one-outcome told _ _ (Stopped begun e) (Stopped started f) first (moved told v name bytes other tree leaf (Stopped started f) same second)
one-outcome told _ _ _ _ (inside name names v bytes tree begun e t first) (fault _ _ _ g c f) = absurd (fault-alone told v name bytes tree g t f)
one-outcome told _ _ _ _ (fault name names v e b f) (again _ _ _ p c more) = absurd (not-both v.begun name c b)
one-outcome told _ _ _ _ (fault name names v e b f) (taken _ _ _ x other leaf p u second more) = absurd (fault-alone told v name other leaf e u f)
one-outcome told _ _ _ _ (fault name names v e b f) (inside _ _ _ other leaf begun g u second) = absurd (fault-alone told v name other leaf e u f)
one-outcome told _ _ _ _ (fault name names v e b f) (fault _ _ _ g c h) =
    ap (λ x. Stopped (v.begun ++ name ∷ []) (named name x)) (one-fault told v.size name e g f h)
