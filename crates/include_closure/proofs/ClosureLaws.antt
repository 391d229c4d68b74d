-- The visits of roots, one after the other.
use Rattle.std.proofs.Common.{◌≡◌, ◌≤◌, ◌<◌, ◌+◌, ℕ, zero, suc, true, List, [], ◌∷◌, ◌++◌, length, drop, get_or, Result, Ok, Err, MatchResult, refl, sym, ◌∙◌, ap, subst, arith}
use Rattle.xp_base.specs.Files.{Files}
use Rattle.idl_grammar.specs.declared.tree.ClosedFile.{ClosedFile}
use Rattle.include_closure.specs.declared.closure_error.ClosureError.{ClosureError}
use Rattle.include_closure.specs.declared.closure_error.ClosureError.TheVariants as error
use Rattle.include_closure.specs.declared.file_error.FileError.{FileError}
use Rattle.include_closure.specs.declared.file_error.FileError.TheVariants as file
use Rattle.include_closure.specs.declared.visited.Visited.{Visited}
use Rattle.include_closure.specs.Closure.{Outcome, Whole, Stopped, Visits, done, again, taken, inside, fault, begun_of, closes, nothing, BeginsName, StopsWith, HasOneClosure, IsClosure, IsFirstFault, IsFree, IsGiven, ErrorCause}
use Rattle.include_closure.specs.FileFaults.{named}
use Rattle.include_closure.specs.Names.{is_begun}
use Rattle.include_closure.specs.Steps.{FaultCause}
use Rattle.include_closure.proofs.GrowLaws.{grows}
use Rattle.include_closure.proofs.OneLaws.{one-outcome}
use Rattle.include_closure.proofs.SomeLaws.{visits-some}

-- ---- one name, and then others

-- no names leave what was visited
none-whole : (told : Files) (v w : Visited) → Visits told [] v (Whole w) → v ≡ w
none-whole told _ _ (done v) = refl

none-stops : (told : Files) (v : Visited) (begun : List (List ℕ)) (e : ClosureError) → Visits told [] v (Stopped begun e) → ⊥
none-stops told v begun e visits = let clash = one-outcome told [] v (Whole v) (Stopped begun e) (done v) visits in cc

-- the visits of one name come to something; those of more names go on from there
pub joins : (told : Files) (name : List ℕ) (names : List (List ℕ)) (v w : Visited) (o : Outcome) → Visits told (name ∷ []) v (Whole w) → Visits told names w o → Visits told (name ∷ names) v o
joins told _ names _ w o (again name _ v _ b rest) more =
    again name names v o b (subst (λ x. Visits told names x o) (sym (none-whole told v w rest)) more)
joins told _ names _ w o (taken name _ v x bytes tree _ t first rest) more =
    taken name names v x bytes tree o t first (subst (λ y. Visits told names y o) (sym (none-whole told (closes x name tree) w rest)) more)

pub stops-first : (told : Files) (name : List ℕ) (names : List (List ℕ)) (v : Visited) (begun : List (List ℕ)) (e : ClosureError)
    → Visits told (name ∷ []) v (Stopped begun e) → Visits told (name ∷ names) v (Stopped begun e)
stops-first told _ names _ begun e (again name _ v _ b rest) = absurd (none-stops told v begun e rest)
stops-first told _ names _ begun e (taken name _ v x bytes tree _ t first rest) = absurd (none-stops told (closes x name tree) begun e rest)
stops-first told _ names _ _ _ (inside name _ v bytes tree begun e t first) = inside name names v bytes tree begun e t first
stops-first told _ names _ _ _ (fault name _ v e b f) = fault name names v e b f

begins-first-of : (told : Files) (name : List ℕ) (names : List (List ℕ)) (v : Visited) (n : List ℕ) (o : Outcome) → Visits told (name ∷ []) v o → is_begun (begun_of o) n ≡ true → BeginsName told (name ∷ names) v n
begins-first-of told name names v n (Whole w) visits h =
    let more = visits-some told names w in
    (more.0, joins told name names v w more.0 visits more.1, grows told names w more.0 more.1 n h)
begins-first-of told name names v n (Stopped begun e) visits h = (Stopped begun e, stops-first told name names v begun e visits, h)

-- what the visits of one name stop with, those of more names stop with
pub stops-with-first : (told : Files) (name : List ℕ) (names : List (List ℕ)) (v : Visited) (e : ClosureError) → StopsWith told (name ∷ []) v e → StopsWith told (name ∷ names) v e
stops-with-first told name names v (error.SourceFault n) h = begins-first-of told name names v n h.0 h.1 h.2
stops-with-first told name names v error.Memory h = tt
stops-with-first told name names v (error.NoFile n) h = (h.0, stops-first told name names v h.0 (error.NoFile n) h.1)
stops-with-first told name names v (error.TooLong n) h = (h.0, stops-first told name names v h.0 (error.TooLong n) h.1)
stops-with-first told name names v (error.Lex n line) h = (h.0, stops-first told name names v h.0 (error.Lex n line) h.1)
stops-with-first told name names v (error.Syntax n line) h = (h.0, stops-first told name names v h.0 (error.Syntax n line) h.1)

-- where visits lead back to others, these stop with what they stop with
pub stops-back : (told : Files) (names others : List (List ℕ)) (v old : Visited) (e : ClosureError) → ((o : Outcome) → Visits told names v o → Visits told others old o)
    → StopsWith told names v e → StopsWith told others old e
stops-back told names others v old (error.SourceFault n) back h = (h.0, back h.0 h.1, h.2)
stops-back told names others v old error.Memory back h = tt
stops-back told names others v old (error.NoFile n) back h = (h.0, back (Stopped h.0 (error.NoFile n)) h.1)
stops-back told names others v old (error.TooLong n) back h = (h.0, back (Stopped h.0 (error.TooLong n)) h.1)
stops-back told names others v old (error.Lex n line) back h = (h.0, back (Stopped h.0 (error.Lex n line)) h.1)
stops-back told names others v old (error.Syntax n line) back h = (h.0, back (Stopped h.0 (error.Syntax n line)) h.1)

-- ---- the roots that are left

pub drop-next : (xs : List (List ℕ)) (k : ℕ) (x : List ℕ) → k < length xs → x ≡ get_or xs k x → drop k xs ≡ x ∷ drop (k + 1) xs
drop-next [] k x h e = absurd (omega arith)
drop-next (y ∷ ys) zero x h e = ap (λ z. z ∷ ys) (sym e)
drop-next (y ∷ ys) (suc k) x h e =
    let n : suc k + 1 ≡ suc (k + 1) = omega arith in
    drop-next ys k x (omega arith) e ∙ ap (λ m. x ∷ drop m (y ∷ ys)) (sym n)

pub drop-none : (xs : List (List ℕ)) (k : ℕ) → length xs ≤ k → drop k xs ≡ []
drop-none [] zero h = refl
drop-none [] (suc k) h = refl
drop-none (y ∷ ys) zero h = absurd (omega arith)
drop-none (y ∷ ys) (suc k) h = drop-none ys k (omega arith)

-- the visits of these roots lead back to those of all
abbrev pub LeadsToAll : Files → List (List ℕ) → Visited → List (List ℕ) → Type 0
LeadsToAll told left v roots = (o : Outcome) → Visits told left v o → Visits told roots nothing o

pub next-root : (told : Files) (roots left rest : List (List ℕ)) (name : List ℕ) (v w : Visited) → left ≡ name ∷ rest → LeadsToAll told left v roots
    → Visits told (name ∷ []) v (Whole w) → LeadsToAll told rest w roots
next-root told roots left rest name v w e back visits o more =
    back o (subst (λ names. Visits told names v o) (sym e) (joins told name rest v w o visits more))

pub first-fault : (told : Files) (roots left rest : List (List ℕ)) (name : List ℕ) (v : Visited) (e : ClosureError) → left ≡ name ∷ rest → LeadsToAll told left v roots
    → StopsWith told (name ∷ []) v e → IsFirstFault told roots e
first-fault told roots left rest name v e same back stop =
    stops-back told (name ∷ rest) roots v nothing e (λ o visits. back o (subst (λ names. Visits told names v o) (sym same) visits))
    (stops-with-first told name rest v e stop)

pub whole-closure : (told : Files) (roots left : List (List ℕ)) (v : Visited) → left ≡ [] → LeadsToAll told left v roots → IsClosure told roots v.closed
whole-closure told roots left v e back = (v, back (Whole v) (subst (λ names. Visits told names v (Whole v)) (sym e) (done v)), refl)

-- ---- causes

pub cause-named : (before after : ℕ) (name : List ℕ) (e : FileError) → FaultCause before after e → ErrorCause before after (named name e)
cause-named before after name file.Failed h = h
cause-named before after name file.Missing h = h
cause-named before after name file.TooLong h = h
cause-named before after name (file.Token line) h = h
cause-named before after name (file.Syntax line) h = h
cause-named before after name file.Memory h = h

-- ---- the laws

pub one-closure : (told : Files) (roots : List (List ℕ)) → HasOneClosure told roots
one-closure told roots = record { some = visits-some told roots nothing; one = one-outcome told roots nothing }

same-closed : (v w : Visited) (list other : List ClosedFile) → Whole v ≡ Whole w → v.closed ≡ list → w.closed ≡ other → list ≡ other
same-closed v w list other e f g = let same : v ≡ w = cc in sym f ∙ ap (λ (x : Visited). x.closed) same ∙ g

clash : (told : Files) (roots : List (List ℕ)) (v : Visited) (begun : List (List ℕ)) (e : ClosureError) → Visits told roots nothing (Whole v) → Visits told roots nothing (Stopped begun e) → ⊥
clash told roots v begun e one two = let same = one-outcome told roots nothing (Whole v) (Stopped begun e) one two in cc

free-of : (told : Files) (roots : List (List ℕ)) (list : List ClosedFile) (e : ClosureError) → IsClosure told roots list → IsFirstFault told roots e → IsFree e
free-of told roots list (error.SourceFault n) h f = tt
free-of told roots list error.Memory h f = tt
free-of told roots list (error.NoFile n) h f = clash told roots h.0 f.0 (error.NoFile n) h.1 f.1
free-of told roots list (error.TooLong n) h f = clash told roots h.0 f.0 (error.TooLong n) h.1 f.1
free-of told roots list (error.Lex n line) h f = clash told roots h.0 f.0 (error.Lex n line) h.1 f.1
free-of told roots list (error.Syntax n line) h f = clash told roots h.0 f.0 (error.Syntax n line) h.1 f.1

pub given-list : (told : Files) (roots : List (List ℕ)) (list : List ClosedFile) → IsClosure told roots list → IsGiven told roots (Ok list)
given-list told roots list h other k = same-closed h.0 k.0 list other (one-outcome told roots nothing (Whole h.0) (Whole k.0) h.1 k.1) h.2 k.2

pub given-error : (told : Files) (roots : List (List ℕ)) (e : ClosureError) → IsFirstFault told roots e → IsGiven told roots (Err e)
given-error told roots e f list h = free-of told roots list e h f
