-- Each step of a closure leads from what remains to what remained before it.
use Rattle.std.proofs.Common.{◌≡◌, ◌+◌, ℕ, zero, suc, true, false, List, [], ◌∷◌, ◌++◌, drop, slice_get, Option, Some, None, refl, sym, ◌∙◌, ap, subst, arith}
use Rattle.std.proofs.lemmas.Option.{same_Some}
use Rattle.xp_base.specs.Files.{Files}
use Rattle.idl_grammar.specs.declared.tree.IdlFile.{IdlFile}
use Rattle.idl_grammar.specs.declared.tree.Item.{Item}
use Rattle.idl_grammar.specs.declared.tree.ItemBody.{ItemBody}
use Rattle.idl_grammar.specs.declared.tree.ItemBody.TheVariants as item
use Rattle.include_closure.specs.declared.closure_error.ClosureError.{ClosureError}
use Rattle.include_closure.specs.declared.closure_error.ClosureError.TheVariants as error
use Rattle.include_closure.specs.declared.file_error.FileError.{FileError}
use Rattle.include_closure.specs.declared.file_error.FileError.TheVariants as file
use Rattle.include_closure.specs.declared.visited.Frame.{Frame}
use Rattle.include_closure.specs.declared.visited.Visited.{Visited}
use Rattle.include_closure.specs.Closure.{Faults, Takes, Outcome, Whole, Stopped, Visits, done, again, taken, inside, fault, begun_of, begins, closes, BeginsName, StopsWith}
use Rattle.include_closure.specs.FileFaults.{named}
use Rattle.include_closure.specs.Names.{included, includes, is_begun}
use Rattle.include_closure.specs.Steps.{FaultsOr, Follows, Opens, Refuses, RefusesItem, on_top}
use Rattle.include_closure.proofs.GrowLaws.{Keeps, grows, begins-it}
use Rattle.include_closure.proofs.SomeLaws.{visits-some}
use Rattle.include_closure.proofs.Rests.{Then, Rest, Ends, EndsThen, names_left, then-map, then-some, rest-some}

-- ---- the items of a file

pub includes-at : (items : List Item) (k : ℕ) (i : Item) → Some i ≡ slice_get items k → includes (drop k items) ≡ included i.body ++ includes (drop (k + 1) items)
includes-at [] k i e = absurd (no k e) where
  no : (k : ℕ) → ◌≡◌ {A = Option Item} (Some i) (slice_get [] k) → ⊥
  no zero e = cc
  no (suc k) e = cc
includes-at (x ∷ xs) zero i e = let same : i ≡ x = same_Some i x e in ap (λ (y : Item). included y.body ++ includes xs) (sym same)
includes-at (x ∷ xs) (suc k) i e =
    let n : suc k + 1 ≡ suc (k + 1) = omega arith in
    includes-at xs k i e ∙ ap (λ m. included i.body ++ includes (drop m (x ∷ xs))) (sym n)

pub includes-past : (items : List Item) (k : ℕ) → None ≡ slice_get items k → includes (drop k items) ≡ []
includes-past [] zero e = refl
includes-past [] (suc k) e = refl
includes-past (x ∷ xs) zero e = absurd cc
includes-past (x ∷ xs) (suc k) e = includes-past xs k e

-- the frame whose next item was looked at
abbrev pub passed : Frame → Frame
passed f = record f { next = f.next + 1 }

-- ---- a file that is opened

entered : (told : Files) (old : Visited) (name bytes : List ℕ) (tree : IdlFile) (names : List (List ℕ)) (mid : Outcome) (o : Outcome) → Takes told old name bytes tree
    → Visits told (includes tree.items) (begins old name bytes) mid → Then mid (λ w. Visits told names (closes w name tree)) o → Visits told (name ∷ names) old o
entered told old name bytes tree names (Whole w) o t visits next = taken name names old w bytes tree o t visits next
entered told old name bytes tree names (Stopped begun e) o t visits next =
    subst (λ o. Visits told (name ∷ names) old o) (sym next) (inside name names old bytes tree begun e t visits)

-- the names that a file just opened includes
left-first : (f : Frame) → f.next ≡ 0 → names_left f ≡ includes f.file.items
left-first f e = ap (λ n. includes (drop n f.file.items)) e

abbrev Opened : Files → Visited → List ℕ → Frame → Visited → Type 0
Opened told old name f new = Opens told old name (Some f) new

-- the visits of the frame's names are those of the file's
frame-visits : (told : Files) (old new : Visited) (name : List ℕ) (f : Frame) (mid : Outcome) → (h : Opened told old name f new) → Visits told (names_left f) new mid
    → Visits told (includes f.file.items) (begins old name h.0) mid
frame-visits told old new name f mid h visits =
    subst (λ v. Visits told (includes f.file.items) v mid) h.2
    (subst (λ names. Visits told names new mid) (left-first f h.4) visits)

-- ---- the start

stays : (told : Files) (v : Visited) (o : Outcome) → o ≡ Whole v → Visits told [] v o
stays told v o e = subst (λ o. Visits told [] v o) (sym e) (done v)

pub started : (told : Files) (old new : Visited) (name : List ℕ) (opened : Option Frame) (o : Outcome) → Opens told old name opened new
    → Rest told (on_top opened []) new o → Visits told (name ∷ []) old o
started told old new name None o h rest =
    again name [] old o h.0 (subst (λ v. Visits told [] v o) h.1 (stays told new o rest))
started told old new name (Some f) o h rest =
    entered told old name h.0 f.file [] rest.0 o h.1 (frame-visits told old new name f rest.0 h rest.1)
    (then-map rest.0 (λ w. Rest told [] (closes w f.name f.file)) (λ w. Visits told [] (closes w name f.file)) o
    (λ w k. subst (λ n. Visits told [] (closes w n f.file) o) h.3 (stays told (closes w f.name f.file) o k)) rest.2)

-- ---- a turn

-- a file whose items were all looked at is closed
pub ended : (told : Files) (fs : List Frame) (f : Frame) (v : Visited) (o : Outcome) → None ≡ slice_get f.file.items f.next → Rest told fs (closes v f.name f.file) o → Rest told (f ∷ fs) v o
ended told fs f v o e rest =
    (Whole v, subst (λ names. Visits told names v (Whole v)) (sym (includes-past f.file.items f.next e)) (done v), rest)

-- the visits of an item's names come first
with_item : (told : Files) (fs : List Frame) (f : Frame) (i : Item) (v : Visited) (mid o : Outcome) → Some i ≡ slice_get f.file.items f.next
    → Visits told (included i.body ++ names_left (passed f)) v mid → Then mid (λ w. Rest told fs (closes w f.name f.file)) o → Rest told (f ∷ fs) v o
with_item told fs f i v mid o e visits next =
    (mid, subst (λ names. Visits told names v mid) (sym (includes-at f.file.items f.next i e)) visits, next)

passed-over : (told : Files) (fs : List Frame) (f : Frame) (i : Item) (v new : Visited) (opened : Option Frame) (o : Outcome) → Some i ≡ slice_get f.file.items f.next
    → included i.body ≡ [] → (opened ≡ None) × (new ≡ v) → Rest told (on_top opened (passed f ∷ fs)) new o → Rest told (f ∷ fs) v o
passed-over told fs f i v new opened o e none h rest =
    let same : Rest told (passed f ∷ fs) v o =
    subst (λ w. Rest told (passed f ∷ fs) w o) h.1 (subst (λ x. Rest told (on_top x (passed f ∷ fs)) new o) h.0 rest) in
    with_item told fs f i v same.0 o e (subst (λ names. Visits told (names ++ names_left (passed f)) v same.0) (sym none) same.1) same.2

-- behind a file that was opened and visited
opened-then : (told : Files) (fs : List Frame) (f g : Frame) (v new : Visited) (name : List ℕ) (mid o : Outcome) → (h : Opened told v name g new) → Visits told (names_left g) new mid
    → Then mid (λ w. Rest told (passed f ∷ fs) (closes w g.name g.file)) o
    → (end : Outcome) × Visits told (name ∷ names_left (passed f)) v end × Then end (λ w. Rest told fs (closes w f.name f.file)) o
opened-then told fs f g v new name (Whole w) o h visits rest = (
  rest.0,
  entered told v name h.0 g.file (names_left (passed f)) (Whole w) rest.0 h.1 (frame-visits told v new name g (Whole w) h visits)
      (subst (λ n. Visits told (names_left (passed f)) (closes w n g.file) rest.0) h.3 rest.1),
  rest.2,
)
opened-then told fs f g v new name (Stopped begun e) o h visits rest = (
  Stopped begun e,
  entered told v name h.0 g.file (names_left (passed f)) (Stopped begun e) (Stopped begun e) h.1
      (frame-visits told v new name g (Stopped begun e) h visits) refl,
  rest,
)

included-turn : (told : Files) (fs : List Frame) (f : Frame) (i : Item) (name : List ℕ) (v new : Visited) (opened : Option Frame) (o : Outcome) → Some i ≡ slice_get f.file.items f.next
    → included i.body ≡ name ∷ [] → Opens told v name opened new → Rest told (on_top opened (passed f ∷ fs)) new o → Rest told (f ∷ fs) v o
included-turn told fs f i name v new None o e names h rest =
    let same : Rest told (passed f ∷ fs) v o = subst (λ w. Rest told (passed f ∷ fs) w o) h.1 rest in
    with_item told fs f i v same.0 o e
    (subst (λ ns. Visits told (ns ++ names_left (passed f)) v same.0) (sym names) (again name (names_left (passed f)) v same.0 h.0 same.1)) same.2
included-turn told fs f i name v new (Some g) o e names h rest =
    let end = opened-then told fs f g v new name rest.0 o h rest.1 rest.2 in
    with_item told fs f i v end.0 o e (subst (λ ns. Visits told (ns ++ names_left (passed f)) v end.0) (sym names) end.1) end.2

of_body : (told : Files) (fs : List Frame) (f : Frame) (i : Item) (body : ItemBody) (v new : Visited) (opened : Option Frame) (o : Outcome) → Some i ≡ slice_get f.file.items f.next
    → i.body ≡ body → Follows told v body opened new → Rest told (on_top opened (passed f ∷ fs)) new o → Rest told (f ∷ fs) v o
of_body told fs f i (item.Include name) v new opened o e b h rest = included-turn told fs f i name v new opened o e (ap included b) h rest
of_body told fs f i item.Code v new opened o e b h rest = passed-over told fs f i v new opened o e (ap included b) h rest
of_body told fs f i (item.Typedef of name) v new opened o e b h rest = passed-over told fs f i v new opened o e (ap included b) h rest
of_body told fs f i (item.Native attrs name text) v new opened o e b h rest = passed-over told fs f i v new opened o e (ap included b) h rest
of_body told fs f i (item.Forward name) v new opened o e b h rest = passed-over told fs f i v new opened o e (ap included b) h rest
of_body told fs f i (item.Interface x) v new opened o e b h rest = passed-over told fs f i v new opened o e (ap included b) h rest

-- an item was followed
pub followed : (told : Files) (fs : List Frame) (f : Frame) (i : Item) (v new : Visited) (opened : Option Frame) (o : Outcome) → Some i ≡ slice_get f.file.items f.next
    → Follows told v i.body opened new → Rest told (on_top opened (passed f ∷ fs)) new o → Rest told (f ∷ fs) v o
followed told fs f i v new opened o e h rest = of_body told fs f i i.body v new opened o e refl h rest

-- ---- a fault

of_fault : (P : ClosureError → Type 0) (told : Files) (v : Visited) (name : List ℕ) (e : ClosureError) → is_begun v.begun name ≡ false
    → (x : FileError) → FaultsOr told v.size name x → e ≡ named name x → P error.Memory
    → (is_begun v.begun name ≡ false → P (error.SourceFault name)) → ((f : FileError) → is_begun v.begun name ≡ false → Faults told v.size name f → P (named name f)) → P e
of_fault P told v name e fresh file.Failed h same m s f = subst P (sym same) (s fresh)
of_fault P told v name e fresh file.Memory h same m s f = subst P (sym same) m
of_fault P told v name e fresh file.Missing h same m s f = subst P (sym same) (f file.Missing fresh h)
of_fault P told v name e fresh file.TooLong h same m s f = subst P (sym same) (f file.TooLong fresh h)
of_fault P told v name e fresh (file.Token line) h same m s f = subst P (sym same) (f (file.Token line) fresh h)
of_fault P told v name e fresh (file.Syntax line) h same m s f = subst P (sym same) (f (file.Syntax line) fresh h)

-- what holds where there was no memory, where the source failed, and where the file has a fault, holds of a refusal
pub refused : (P : ClosureError → Type 0) (told : Files) (v : Visited) (name : List ℕ) (e : ClosureError) → Refuses told v name e → P error.Memory
    → (is_begun v.begun name ≡ false → P (error.SourceFault name)) → ((f : FileError) → is_begun v.begun name ≡ false → Faults told v.size name f → P (named name f)) → P e
refused P told v name error.Memory h m s f = m
refused P told v name (error.SourceFault n) h m s f = of_fault P told v name (error.SourceFault n) h.0 h.1.0 h.1.1 h.1.2 m s f
refused P told v name (error.NoFile n) h m s f = of_fault P told v name (error.NoFile n) h.0 h.1.0 h.1.1 h.1.2 m s f
refused P told v name (error.TooLong n) h m s f = of_fault P told v name (error.TooLong n) h.0 h.1.0 h.1.1 h.1.2 m s f
refused P told v name (error.Lex n line) h m s f = of_fault P told v name (error.Lex n line) h.0 h.1.0 h.1.1 h.1.2 m s f
refused P told v name (error.Syntax n line) h m s f = of_fault P told v name (error.Syntax n line) h.0 h.1.0 h.1.1 h.1.2 m s f

-- the visits that stop at a fault stop with its error
named-stop : (told : Files) (names : List (List ℕ)) (v : Visited) (begun : List (List ℕ)) (name : List ℕ) (size : ℕ) (at : List ℕ) (f : FileError) → Faults told size at f
    → Visits told names v (Stopped begun (named name f)) → StopsWith told names v (named name f)
named-stop told names v begun name size at file.Failed h visits = absurd h
named-stop told names v begun name size at file.Memory h visits = absurd h
named-stop told names v begun name size at file.Missing h visits = (begun, visits)
named-stop told names v begun name size at file.TooLong h visits = (begun, visits)
named-stop told names v begun name size at (file.Token line) h visits = (begun, visits)
named-stop told names v begun name size at (file.Syntax line) h visits = (begun, visits)

-- the file of the name itself is refused
pub stops-root : (told : Files) (old : Visited) (name : List ℕ) (e : ClosureError) → Refuses told old name e → StopsWith told (name ∷ []) old e
stops-root told old name e h =
    refused (StopsWith told (name ∷ []) old) told old name e h tt
    (λ fresh. let some = visits-some told (name ∷ []) old in (some.0, some.1, begins-it told name [] old some.0 some.1))
    (λ f fresh faults. named-stop told (name ∷ []) old _ name old.size name f faults (fault name [] old f fresh faults))

-- what remains leads back to the visits of these names
abbrev pub LeadsBack : Files → List Frame → Visited → List (List ℕ) → Visited → Type 0
LeadsBack told fs v names old = (o : Outcome) → Rest told fs v o → Visits told names old o

stops-included : (told : Files) (fs : List Frame) (f : Frame) (i : Item) (v : Visited) (names : List (List ℕ)) (old : Visited) (name : List ℕ) (e : ClosureError)
    → Some i ≡ slice_get f.file.items f.next → included i.body ≡ name ∷ [] → LeadsBack told (f ∷ fs) v names old → Refuses told v name e → StopsWith told names old e
stops-included told fs f i v names old name e at single back h =
    refused (StopsWith told names old) told v name e h tt
    (λ fresh.
    let mid = visits-some told (name ∷ names_left (passed f)) v in
    let end : EndsThen mid.0 (λ w. Rest told fs (closes w f.name f.file)) = then-some told fs f (rest-some told fs) mid.0 in
    of_end mid.0 mid.1 end)
    (λ x fresh faults.
    let stop : Outcome = Stopped (v.begun ++ name ∷ []) (named name x) in
    named-stop told names old _ name v.size name x faults (back stop (with_item told fs f i v stop stop at
    (subst (λ ns. Visits told (ns ++ names_left (passed f)) v stop) (sym single) (fault name (names_left (passed f)) v x fresh faults)) refl))) where
      of_end : (mid : Outcome) → Visits told (name ∷ names_left (passed f)) v mid → EndsThen mid (λ w. Rest told fs (closes w f.name f.file)) → BeginsName told names old name
      of_end mid visits end = (
        end.0,
        back end.0 (with_item told fs f i v mid end.0 at (subst (λ ns. Visits told (ns ++ names_left (passed f)) v mid) (sym single) visits) end.1),
        end.2 name (begins-it told name (names_left (passed f)) v mid visits),
      )

stops-body : (told : Files) (fs : List Frame) (f : Frame) (i : Item) (body : ItemBody) (v : Visited) (names : List (List ℕ)) (old : Visited) (e : ClosureError)
    → Some i ≡ slice_get f.file.items f.next → i.body ≡ body → LeadsBack told (f ∷ fs) v names old → RefusesItem told v body e → StopsWith told names old e
stops-body told fs f i (item.Include name) v names old e at b back h = stops-included told fs f i v names old name e at (ap included b) back h
stops-body told fs f i item.Code v names old e at b back h = absurd h
stops-body told fs f i (item.Typedef of name) v names old e at b back h = absurd h
stops-body told fs f i (item.Native attrs name text) v names old e at b back h = absurd h
stops-body told fs f i (item.Forward name) v names old e at b back h = absurd h
stops-body told fs f i (item.Interface x) v names old e at b back h = absurd h

-- the file that an item includes is refused
pub stops-item : (told : Files) (fs : List Frame) (f : Frame) (i : Item) (v : Visited) (names : List (List ℕ)) (old : Visited) (e : ClosureError)
    → Some i ≡ slice_get f.file.items f.next → LeadsBack told (f ∷ fs) v names old → RefusesItem told v i.body e → StopsWith told names old e
stops-item told fs f i v names old e at back h = stops-body told fs f i i.body v names old e at refl back h
