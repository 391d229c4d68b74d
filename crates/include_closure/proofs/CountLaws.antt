-- How the counts of files and items change in the steps of a closure.
use Rattle.std.proofs.Common.{◌≡◌, ◌≤◌, ◌<◌, ◌+◌, ◌-◌, ◌*◌, ℕ, zero, suc, All, List, [], ◌∷◌, ◌++◌, length, slice_get, sum_by, Option, Some, None, refl, sym, ◌∙◌, ap, subst, arith, length-append}
use Rattle.std.proofs.lemmas.List.Elements.{All-nil, All-cons, All-head, All-tail, All-append}
use Rattle.std.proofs.lemmas.List.Sums.{sum_by-append}
use Rattle.idl_grammar.specs.declared.tree.ClosedFile.{ClosedFile}
use Rattle.idl_grammar.specs.declared.tree.IdlFile.{IdlFile}
use Rattle.idl_grammar.specs.declared.tree.Item.{Item}
use Rattle.idl_grammar.specs.Texts.{IsLawfulFile}
use Rattle.include_closure.specs.declared.visited.Frame.{Frame}
use Rattle.include_closure.specs.declared.visited.TheConstants.{MAX_TOGETHER}
use Rattle.include_closure.specs.declared.visited.Visited.{Visited}
use Rattle.idl_grammar.specs.ClosedFiles.{AreLawfulFiles, items_of}
use Rattle.include_closure.specs.Counts.{AreLawfulFrames, items_left, items_open}
use Rattle.include_closure.specs.Steps.{IsOpened, on_top}
use Rattle.include_closure.proofs.StepLaws.{passed}

-- what is counted of a closure that is on its way, since it began at `old`
pub record Counts (old : Visited) (fs : List Frame) (v : Visited) : Type 0 where
  pub room : v.size ≤ MAX_TOGETHER
  pub files : length v.closed + length fs + items_left fs + old.size ≤ length old.closed + 1 + v.size
  pub items : items_of v.closed + items_open fs + old.size ≤ items_of old.closed + v.size
  pub lawful : AreLawfulFrames fs
  pub closed : AreLawfulFiles old.closed → AreLawfulFiles v.closed

-- the measure: room that is left, items that are left, and files that are open
abbrev pub to_do : Visited → List Frame → ℕ
to_do v fs = 2 * (MAX_TOGETHER - v.size) + 2 * items_left fs + length fs

within-items : (items : List Item) (k : ℕ) (i : Item) → Some i ≡ slice_get items k → k < length items
within-items [] k i e = absurd (no k e) where
  no : (k : ℕ) → ◌≡◌ {A = Option Item} (Some i) (slice_get [] k) → ⊥
  no zero e = cc
  no (suc k) e = cc
within-items (x ∷ xs) zero i e = omega arith
within-items (x ∷ xs) (suc k) i e = let more = within-items xs k i e in omega arith

pub past-items : (items : List Item) (k : ℕ) → None ≡ slice_get items k → length items ≤ k
past-items [] k e = omega arith
past-items (x ∷ xs) zero e = absurd cc
past-items (x ∷ xs) (suc k) e = let more = past-items xs k e in omega arith

pub inside-items : (f : Frame) (i : Item) → Some i ≡ slice_get f.file.items f.next → f.next < length f.file.items
inside-items f i e = within-items f.file.items f.next i e

-- ---- a file that is opened on top

cons-sum : (g : Frame → ℕ) (f : Frame) (fs : List Frame) → sum_by g (f ∷ fs) ≡ g f + sum_by g fs
cons-sum g f fs = let s : sum_by g (f ∷ fs) ≡ (0 + g f) + sum_by g fs = sum_by-append g (f ∷ []) fs in omega (arith, s)

left-cons : (f : Frame) (fs : List Frame) → items_left (f ∷ fs) ≡ length f.file.items - f.next + items_left fs
left-cons f fs = cons-sum (λ (f : Frame). length f.file.items - f.next) f fs

open-cons : (f : Frame) (fs : List Frame) → items_open (f ∷ fs) ≡ length f.file.items + items_open fs
open-cons f fs = cons-sum (λ (f : Frame). length f.file.items) f fs

pub opened-counts : (old v new : Visited) (fs : List Frame) (opened : Option Frame) → new.size ≤ MAX_TOGETHER → IsOpened v opened new
    → length v.closed + length fs + items_left fs + 1 + old.size ≤ length old.closed + 1 + v.size
    → items_of v.closed + items_open fs + old.size ≤ items_of old.closed + v.size
    → AreLawfulFrames fs → (AreLawfulFiles old.closed → AreLawfulFiles v.closed) → Counts old (on_top opened fs) new
opened-counts old v new fs None room h files items lawful closed =
    let n : length new.closed ≡ length v.closed = ap length h.0 in
    let m : items_of new.closed ≡ items_of v.closed = ap items_of h.0 in
    record {
      room = room;
      files = omega (arith, files, n, h.1);
      items = omega (arith, items, m, h.1);
      lawful = lawful;
      closed = λ l. subst AreLawfulFiles (sym h.0) (closed l);
    }
opened-counts old v new fs (Some f) room h files items lawful closed =
    let n : length new.closed ≡ length v.closed = ap length h.0 in
    let m : items_of new.closed ≡ items_of v.closed = ap items_of h.0 in
    let left : items_left (on_top (Some f) fs) ≡ length f.file.items - f.next + items_left fs = left-cons f fs in
    let opened : items_open (on_top (Some f) fs) ≡ length f.file.items + items_open fs = open-cons f fs in
    record {
      room = room;
      files = omega (arith, files, n, h.1, h.2, left);
      items = omega (arith, items, m, h.1, opened);
      lawful = All-cons (λ (f : Frame). IsLawfulFile f.file) f fs h.3 lawful;
      closed = λ l. subst AreLawfulFiles (sym h.0) (closed l);
    }

-- the first file
pub started-counts : (old new : Visited) (opened : Option Frame) → new.size ≤ MAX_TOGETHER → IsOpened old opened new → Counts old (on_top opened []) new
started-counts old new opened room h =
    opened-counts old old new [] opened room h (omega arith) (omega arith) (All-nil (λ (f : Frame). IsLawfulFile f.file)) (λ l. l)

-- an item was followed: the item is no longer left, and its file may be open
pub followed-counts : (old v new : Visited) (fs : List Frame) (f : Frame) (i : Item) (opened : Option Frame) → Some i ≡ slice_get f.file.items f.next → new.size ≤ MAX_TOGETHER
    → IsOpened v opened new → Counts old (f ∷ fs) v → Counts old (on_top opened (passed f ∷ fs)) new
followed-counts old v new fs f i opened e room h c =
    let at = inside-items f i e in
    let first = All-head (λ (f : Frame). IsLawfulFile f.file) f fs c.lawful in
    let others = All-tail (λ (f : Frame). IsLawfulFile f.file) f fs c.lawful in
    let now = left-cons f fs in
    let then : items_left (passed f ∷ fs) ≡ length f.file.items - (f.next + 1) + items_left fs = left-cons (passed f) fs in
    opened-counts old v new (passed f ∷ fs) opened room h (omega (arith, c.files, now, then, at)) c.items
    (All-cons (λ (f : Frame). IsLawfulFile f.file) (passed f) fs first others) c.closed

-- a file is closed
pub ended-counts : (old v : Visited) (fs : List Frame) (f : Frame) (new : Visited) → None ≡ slice_get f.file.items f.next
    → new.size ≡ v.size → new.closed ≡ v.closed ++ record { name = f.name; file = f.file } ∷ [] → Counts old (f ∷ fs) v → Counts old fs new
ended-counts old v fs f new e same more c =
    let one : ClosedFile = record { name = f.name; file = f.file } in
    let n : length new.closed ≡ length v.closed + 1 = ap length more ∙ length-append v.closed (one ∷ []) in
    let m : items_of new.closed ≡ items_of v.closed + length f.file.items =
    let s : items_of (v.closed ++ one ∷ []) ≡ items_of v.closed + items_of (one ∷ []) = sum_by-append (λ (x : ClosedFile). length x.file.items) v.closed (one ∷ []) in
    omega (arith, s, ap items_of more) in
    let first = All-head (λ (f : Frame). IsLawfulFile f.file) f fs c.lawful in
    record {
      room = omega (arith, same, c.room);
      files = omega (arith, c.files, n, same, left-cons f fs);
      items = omega (arith, c.items, m, same, open-cons f fs);
      lawful = All-tail (λ (f : Frame). IsLawfulFile f.file) f fs c.lawful;
      closed = λ l. subst AreLawfulFiles (sym more)
          (All-append (λ (x : ClosedFile). IsLawfulFile x.file) v.closed (one ∷ []) (c.closed l)
          (All-cons (λ (x : ClosedFile). IsLawfulFile x.file) one [] first (All-nil (λ (x : ClosedFile). IsLawfulFile x.file))));
    }

-- ---- each turn leaves less to do

pub ended-smaller : (v new : Visited) (fs : List Frame) (f : Frame) → new.size ≡ v.size → to_do new fs < to_do v (f ∷ fs)
ended-smaller v new fs f same = omega (arith, same, left-cons f fs)

pub followed-smaller : (v new : Visited) (fs : List Frame) (f : Frame) (i : Item) (opened : Option Frame) → Some i ≡ slice_get f.file.items f.next → new.size ≤ MAX_TOGETHER
    → IsOpened v opened new → to_do new (on_top opened (passed f ∷ fs)) < to_do v (f ∷ fs)
followed-smaller v new fs f i None e room h =
    let at = inside-items f i e in
    let then : items_left (on_top None (passed f ∷ fs)) ≡ length f.file.items - (f.next + 1) + items_left fs = left-cons (passed f) fs in
    omega (arith, at, h.1, left-cons f fs, then)
followed-smaller v new fs f i (Some g) e room h =
    let at = inside-items f i e in
    let then : items_left (passed f ∷ fs) ≡ length f.file.items - (f.next + 1) + items_left fs = left-cons (passed f) fs in
    let top : items_left (on_top (Some g) (passed f ∷ fs)) ≡ length g.file.items - g.next + items_left (passed f ∷ fs) = left-cons g (passed f ∷ fs) in
    omega (arith, at, h.1, h.2, room, left-cons f fs, then, top)
