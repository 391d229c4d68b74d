-- Works that begin with an include closure: one outcome, and how they stop.
use Rattle.std.proofs.Common.{◌≡◌, ℕ, List, Option, Some, inl, inr, refl, sym, ap, subst, ◌∙◌}
use Rattle.xp_base.specs.Files.{Files}
use Rattle.idl_grammar.specs.declared.tree.ClosedFile.{ClosedFile}
use Rattle.include_closure.specs.declared.closure_error.ClosureError.{ClosureError}
use Rattle.include_closure.specs.declared.closure_error.ClosureError.TheVariants as error
use Rattle.include_closure.specs.declared.visited.Visited.{Visited}
use Rattle.include_closure.specs.Closure.{IsClosure, IsFirstFault, Stopped, Visits, Whole, nothing}
use Rattle.include_closure.proofs.ClosureLaws.{one-closure}
use Rattle.xpcall_run.specs.declared.failures.Failure.{Failure}
use Rattle.xpcall_run.specs.declared.failures.Failure.TheVariants.{CannotRead, CannotWrite, OutOfMemory, Refused}
use Rattle.xpcall_run.specs.declared.failures.FileFault.{FileFault}
use Rattle.xpcall_run.specs.declared.failures.Refusal.{Refusal}
use Rattle.xpcall_run.specs.declared.failures.Refusal.TheVariants.{OfFile}
use Rattle.xpcall_run.specs.ClosureWork.{CanClose, CanStop, Closes, RefusedFor, StopsClosing, closes}
use Rattle.xpcall_run.specs.Endings.{IsRefused, Stops}
use Rattle.xpcall_run.specs.Sides.{Given, Reads}
use Rattle.xpcall_run.specs.Works.{Outcome, Written, Denied, Work, nowhere, settles}
use Rattle.xpcall_run.proofs.Outcomes.{Single}

-- ---- a closure comes to one thing

closed_once : (told : Files) (roots : List (List ℕ)) (a b : List ClosedFile)
    → IsClosure told roots a → IsClosure told roots b → a ≡ b
closed_once told roots a b p q =
    let same : Whole p.0 ≡ Whole q.0 = (one-closure told roots).one (Whole p.0) (Whole q.0) p.1 q.1 in
    let visited : p.0 ≡ q.0 = cc in
    sym p.2 ∙ ap (λ (v : Visited). v.closed) visited ∙ q.2

-- the visits stop with this fault
abbrev IsStop : Files → List (List ℕ) → ClosureError → Type 0
IsStop told roots e = (begun : List (List ℕ)) × Visits told roots nothing (Stopped begun e)

stop_of : (told : Files) (roots : List (List ℕ)) (e : ClosureError) (r : Refusal)
    → RefusedFor e r → IsFirstFault told roots e → IsStop told roots e
stop_of told roots (error.NoFile n) r is h = h
stop_of told roots (error.TooLong n) r is h = h
stop_of told roots (error.Lex n line) r is h = h
stop_of told roots (error.Syntax n line) r is h = h
stop_of told roots (error.SourceFault n) r is h = absurd is
stop_of told roots error.Memory r is h = absurd is

refused_once : (e : ClosureError) (r s : Refusal) → RefusedFor e r → RefusedFor e s → r ≡ s
refused_once (error.NoFile n) r s p q = p ∙ sym q
refused_once (error.TooLong n) r s p q = p ∙ sym q
refused_once (error.Lex n line) r s p q = p ∙ sym q
refused_once (error.Syntax n line) r s p q = p ∙ sym q
refused_once (error.SourceFault n) r s p q = absurd p
refused_once error.Memory r s p q = absurd p

stop_once : (told : Files) (roots : List (List ℕ)) (e f : ClosureError) → IsStop told roots e
    → IsStop told roots f → e ≡ f
stop_once told roots e f p q =
    let same : Stopped p.0 e ≡ Stopped q.0 f = (one-closure told roots).one (Stopped p.0 e) (Stopped q.0 f) p.1 q.1 in cc

not_stopped : (told : Files) (roots : List (List ℕ)) (list : List ClosedFile) (e : ClosureError)
    → IsClosure told roots list → IsStop told roots e → ⊥
not_stopped told roots list e p q =
    let same : Whole p.0 ≡ Stopped q.0 e = (one-closure told roots).one (Whole p.0) (Stopped q.0 e) p.1 q.1 in cc

-- ---- one outcome

same_stop : (told : Files) (roots : List (List ℕ)) (o p : Outcome)
    → StopsClosing (Some told) roots o → StopsClosing (Some told) roots p → o ≡ p
same_stop told roots o p a b =
    let s = stop_of told roots a.fault a.refusal a.named (a.stops told refl) in
    let t = stop_of told roots b.fault b.refusal b.named (b.stops told refl) in
    let same = stop_once told roots a.fault b.fault s t in
    let R : ClosureError → Type 0 = λ e. RefusedFor e a.refusal in
    let refusals = refused_once b.fault a.refusal b.refusal (subst R same a.named) b.named in
    a.denied ∙ ap Denied refusals ∙ sym b.denied

closed_not_stopped : (told : Files) (roots : List (List ℕ)) (next : List ClosedFile → Work)
    (o p : Outcome) → Closes (Some told) roots next o → StopsClosing (Some told) roots p → ⊥
closed_not_stopped told roots next o p a b =
    not_stopped told roots a.list b.fault (a.closed told refl)
    (stop_of told roots b.fault b.refusal b.named (b.stops told refl))

same_closed : (told : Files) (roots : List (List ℕ)) (next : List ClosedFile → Work)
    → ((list : List ClosedFile) → Single (next list)) → (o p : Outcome)
    → Closes (Some told) roots next o → Closes (Some told) roots next p → o ≡ p
same_closed told roots next one o p a b =
    let same = closed_once told roots b.list a.list (b.closed told refl) (a.closed told refl) in
    let P : List ClosedFile → Type 0 = λ list. (next list).comes (Some told) p in
    one a.list told o p a.then (subst P same b.then)

one_closing : (told : Files) (roots : List (List ℕ)) (next : List ClosedFile → Work)
    → ((list : List ClosedFile) → Single (next list)) → (o p : Outcome)
    → (closes roots next).comes (Some told) o → (closes roots next).comes (Some told) p → o ≡ p
one_closing told roots next one o p (inl a) (inl b) = same_closed told roots next one o p a b
one_closing told roots next one o p (inl a) (inr b) = absurd (closed_not_stopped told roots next o p a b)
one_closing told roots next one o p (inr a) (inl b) = absurd (closed_not_stopped told roots next p o b a)
one_closing told roots next one o p (inr a) (inr b) = same_stop told roots o p a b

pub closes_single : (roots : List (List ℕ)) (next : List ClosedFile → Work)
    → ((list : List ClosedFile) → Single (next list)) → Single (closes roots next)
closes_single roots next one told o p a b = one_closing told roots next one o p a b

-- ---- how they go on and stop

pub closes_comes : (files : Option Files) (roots : List (List ℕ)) (next : List ClosedFile → Work)
    (list : List ClosedFile) (o : Outcome) → CanClose files roots list → (next list).comes files o
    → (closes roots next).comes files o
closes_comes files roots next list o closed comes =
    inl (record { list = list; closed = closed; then = comes })

-- the first fault of a closure stops a work that begins with it
pub fault_stops : (reads : Reads) (roots : List (List ℕ)) (next : List ClosedFile → Work)
    (e : ClosureError) (r : Refusal) → CanStop reads.files roots e → RefusedFor e r
    → Stops (closes roots next) reads (Refused r)
fault_stops reads roots next e r stops is =
    inr (record { fault = e; stops = stops; refusal = r; named = is; denied = refl })

pub fault_refused : (reads : Reads) (roots : List (List ℕ)) (e : ClosureError) (name : List ℕ)
    (fault : FileFault) (f : Failure) → CanStop reads.files roots e
    → ((r : Refusal) → r ≡ OfFile name fault → RefusedFor e r)
    → IsRefused (λ r. r ≡ OfFile name fault) f → Stops (closes roots (λ list. nowhere)) reads f
fault_refused reads roots e name fault (CannotRead n) stops is made = absurd made
fault_refused reads roots e name fault CannotWrite stops is made = made
fault_refused reads roots e name fault OutOfMemory stops is made = tt
fault_refused reads roots e name fault (Refused r) stops is made =
    fault_stops reads roots (λ list. nowhere) e r stops (is r made)

no_outcome : (files : Option Files) (o : Outcome) → nowhere.comes files o → ⊥
no_outcome files (Written given) h = h
no_outcome files (Denied r) h = h

stops_alone : (files : Option Files) (roots : List (List ℕ)) (next : List ClosedFile → Work)
    (o : Outcome) → (closes roots (λ list. nowhere)).comes files o → (closes roots next).comes files o
stops_alone files roots next o (inl closed) = absurd (no_outcome files o closed.then)
stops_alone files roots next o (inr stopped) = inr stopped

-- what stops a closure, stops a work that begins with it
pub first_closes : (reads : Reads) (roots : List (List ℕ)) (next : List ClosedFile → Work)
    (f : Failure) → Stops (closes roots (λ list. nowhere)) reads f → Stops (closes roots next) reads f
first_closes reads roots next (CannotRead n) h = h
first_closes reads roots next CannotWrite h = h
first_closes reads roots next OutOfMemory h = h
first_closes reads roots next (Refused r) h = stops_alone reads.files roots next (Denied r) h

-- and what is refused of the files that it gives
pub closed_stops : (reads : Reads) (roots : List (List ℕ))
    (writes : List ClosedFile → Given → Type 0) (refuses : List ClosedFile → Refusal → Type 0)
    (list : List ClosedFile) (f : Failure) → CanClose reads.files roots list
    → IsRefused (refuses list) f
    → Stops (closes roots (λ files. settles (writes files) (refuses files))) reads f
closed_stops reads roots writes refuses list (CannotRead n) closed h = absurd h
closed_stops reads roots writes refuses list CannotWrite closed h = h
closed_stops reads roots writes refuses list OutOfMemory closed h = h
closed_stops reads roots writes refuses list (Refused r) closed h =
    inl (record { list = list; closed = closed; then = h })
