-- Names that were begun stay begun, and a name that is visited is begun.
use Rattle.std.proofs.Common.{◌≡◌, ℕ, true, List, [], ◌∷◌, ◌++◌}
use Rattle.xp_base.specs.Files.{Files}
use Rattle.include_closure.specs.declared.visited.Visited.{Visited}
use Rattle.include_closure.specs.Closure.{Outcome, Whole, Stopped, Visits, done, again, taken, inside, fault, begun_of, closes}
use Rattle.include_closure.specs.Names.{is_begun}
use Rattle.include_closure.proofs.BegunLaws.{begun-later, begun-last}

-- each name that was begun before is begun after
abbrev pub Keeps : (before after : List (List ℕ)) → Type 0
Keeps before after = (n : List ℕ) → is_begun before n ≡ true → is_begun after n ≡ true

pub grows : (told : Files) (names : List (List ℕ)) (v : Visited) (o : Outcome) → Visits told names v o → Keeps v.begun (begun_of o)
grows told _ _ _ (done v) n h = h
grows told _ _ _ (again name names v o b rest) n h = grows told names v o rest n h
grows told _ _ _ (taken name names v w bytes tree o t first rest) n h =
    grows told names (closes w name tree) o rest n (grows told _ _ _ first n (begun-later v.begun name n h))
grows told _ _ _ (inside name names v bytes tree begun e t first) n h = grows told _ _ _ first n (begun-later v.begun name n h)
grows told _ _ _ (fault name names v e b f) n h = begun-later v.begun name n h

pub begins-it : (told : Files) (name : List ℕ) (names : List (List ℕ)) (v : Visited) (o : Outcome) → Visits told (name ∷ names) v o → is_begun (begun_of o) name ≡ true
begins-it told _ _ _ _ (again name names v o b rest) = grows told names v o rest name b
begins-it told _ _ _ _ (taken name names v w bytes tree o t first rest) =
    grows told names (closes w name tree) o rest name (grows told _ _ _ first name (begun-last v.begun name))
begins-it told _ _ _ _ (inside name names v bytes tree begun e t first) = grows told _ _ _ first name (begun-last v.begun name)
begins-it told _ _ _ _ (fault name names v e b f) = begun-last v.begun name
