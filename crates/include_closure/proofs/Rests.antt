-- What remains to be visited while files are open: the items behind those that were looked at, from the innermost file
-- outward.
use Rattle.std.proofs.Common.{◌≡◌, ℕ, true, List, [], ◌∷◌, drop, refl, sym, ◌∙◌, ap, subst}
use Rattle.xp_base.specs.Files.{Files}
use Rattle.include_closure.specs.declared.closure_error.ClosureError.{ClosureError}
use Rattle.include_closure.specs.declared.visited.Frame.{Frame}
use Rattle.include_closure.specs.declared.visited.Visited.{Visited}
use Rattle.include_closure.specs.Closure.{Outcome, Whole, Stopped, Visits, begun_of, closes}
use Rattle.include_closure.specs.Names.{includes, is_begun}
use Rattle.include_closure.proofs.GrowLaws.{Keeps, grows}
use Rattle.include_closure.proofs.SomeLaws.{visits-some}

-- the names that the items of an open file include that were not looked at
abbrev pub names_left : Frame → List (List ℕ)
names_left f = includes (drop f.next f.file.items)

-- an outcome goes on as `next` has it, or stays a stop
abbrev pub Then : Outcome → (Visited → Outcome → Type 0) → Outcome → Type 0
Then (Whole v) next o = next v o
Then (Stopped begun e) next o = o ≡ Stopped begun e

-- the rest of the visits of the open files comes to this
abbrev pub Rest : Files → List Frame → Visited → Outcome → Type 0
Rest told [] v o = o ≡ Whole v
Rest told (f ∷ fs) v o = (mid : Outcome) × Visits told (names_left f) v mid × Then mid (λ w. Rest told fs (closes w f.name f.file)) o

pub then-map : (mid : Outcome) (P Q : Visited → Outcome → Type 0) (o : Outcome) → ((w : Visited) → P w o → Q w o) → Then mid P o → Then mid Q o
then-map (Whole w) P Q o f h = f w h
then-map (Stopped begun e) P Q o f h = h

-- ---- the rest comes to something, and keeps what was begun

abbrev pub Ends : Files → List Frame → Visited → Type 0
Ends told fs v = (o : Outcome) × Rest told fs v o × Keeps v.begun (begun_of o)

-- how what an outcome goes on to comes to something
abbrev pub EndsThen : Outcome → (Visited → Outcome → Type 0) → Type 0
EndsThen mid next = (o : Outcome) × Then mid next o × Keeps (begun_of mid) (begun_of o)

pub then-some : (told : Files) (fs : List Frame) (f : Frame) (some : (v : Visited) → Ends told fs v) (mid : Outcome) → EndsThen mid (λ w. Rest told fs (closes w f.name f.file))
then-some told fs f some (Whole w) = some (closes w f.name f.file)
then-some told fs f some (Stopped begun e) = (Stopped begun e, refl, λ n h. h)

pub rest-some : (told : Files) (fs : List Frame) (v : Visited) → Ends told fs v
rest-some told [] v = (Whole v, refl, λ n h. h)
rest-some told (f ∷ fs) v =
    let mid = visits-some told (names_left f) v in
    let end = then-some told fs f (rest-some told fs) mid.0 in
    (end.0, (mid.0, mid.1, end.1), λ n h. end.2 n (grows told (names_left f) v mid.0 mid.1 n h))
