-- What is seen of a file: it is absent, it is too long, or its text says one thing.
use Rattle.std.proofs.Common.{◌≡◌, ℕ, Bool, true, false, List, Option, Some, None, refl, sym, ◌∙◌, ap, subst}
use Rattle.std.proofs.lemmas.Option.{same_Some}
use Rattle.xp_base.specs.Files.{Files, file_in}
use Rattle.idl_grammar.specs.declared.tree.IdlFile.{IdlFile}
use Rattle.idl_grammar.specs.Texts.{Reading, Tree, NoToken, NoTree, Says}
use Rattle.idl_grammar.proofs.TextLaws.{readable}
use Rattle.include_closure.specs.declared.file_error.FileError.{FileError}
use Rattle.include_closure.specs.declared.file_error.FileError.TheVariants as file
use Rattle.include_closure.specs.declared.visited.Visited.{Visited}
use Rattle.include_closure.specs.Closure.{Faults, IsShort, Takes, has_room}

pub data Seen : Type 0 where
  Absent : Seen
  Long : Seen
  Said : List ℕ → Reading → Seen

abbrev pub Sees : Files → ℕ → List ℕ → Seen → Type 0
Sees told size name Absent = file_in told name ≡ None
Sees told size name Long = (bytes : List ℕ) × (file_in told name ≡ Some bytes) × (has_room size bytes ≡ false)
Sees told size name (Said bytes reading) = IsShort told size name bytes × Says bytes reading

-- ---- something is seen

of_room : (told : Files) (size : ℕ) (name bytes : List ℕ) → file_in told name ≡ Some bytes → (b : Bool) → has_room size bytes ≡ b → (s : Seen) × Sees told size name s
of_room told size name bytes e true r =
    let said = (readable bytes).some in (Said bytes said.0, (record { there = e; room = r }, said.1))
of_room told size name bytes e false r = (Long, (bytes, e, r))

of_file : (told : Files) (size : ℕ) (name : List ℕ) (o : Option (List ℕ)) → file_in told name ≡ o → (s : Seen) × Sees told size name s
of_file told size name None e = (Absent, e)
of_file told size name (Some bytes) e = of_room told size name bytes e (has_room size bytes) refl

pub some-seen : (told : Files) (size : ℕ) (name : List ℕ) → (s : Seen) × Sees told size name s
some-seen told size name = of_file told size name (file_in told name) refl

-- ---- and one thing alone

no_file : (told : Files) (name bytes : List ℕ) → file_in told name ≡ None → file_in told name ≡ Some bytes → ⊥
no_file told name bytes e f = let g : ◌≡◌ {A = Option (List ℕ)} None (Some bytes) = sym e ∙ f in cc

same_file : (told : Files) (name bytes other : List ℕ) → file_in told name ≡ Some bytes → file_in told name ≡ Some other → bytes ≡ other
same_file told name bytes other e f = same_Some bytes other (sym e ∙ f)

no_room : (told : Files) (size : ℕ) (name bytes other : List ℕ) → file_in told name ≡ Some bytes → file_in told name ≡ Some other
    → has_room size bytes ≡ false → has_room size other ≡ true → ⊥
no_room told size name bytes other e f h k =
    let same = same_file told name bytes other e f in
    let g : false ≡ true = sym h ∙ ap (has_room size) same ∙ k in cc

pub one-seen : (told : Files) (size : ℕ) (name : List ℕ) (s t : Seen) → Sees told size name s → Sees told size name t → s ≡ t
one-seen told size name Absent Absent one two = refl
one-seen told size name Absent Long one two = absurd (no_file told name two.0 one two.1)
one-seen told size name Absent (Said b q) one two = absurd (no_file told name b one two.0.there)
one-seen told size name Long Absent one two = absurd (no_file told name one.0 two one.1)
one-seen told size name Long Long one two = refl
one-seen told size name Long (Said b q) one two = absurd (no_room told size name one.0 b one.1 two.0.there one.2 two.0.room)
one-seen told size name (Said a r) Absent one two = absurd (no_file told name a two one.0.there)
one-seen told size name (Said a r) Long one two = absurd (no_room told size name two.0 a two.1 one.0.there two.2 one.0.room)
one-seen told size name (Said a r) (Said b q) one two =
    let same = same_file told name a b one.0.there two.0.there in
    let read : r ≡ q = (readable a).one r q one.1 (subst (λ xs. Says xs q) (sym same) two.1) in
    ap (λ xs. Said xs r) same ∙ ap (λ x. Said b x) read

-- ---- faults by what is seen

-- nothing is a fault where a tree is seen
abbrev pub fault_of : Seen → Option FileError
fault_of Absent = Some file.Missing
fault_of Long = Some file.TooLong
fault_of (Said bytes (Tree tree)) = None
fault_of (Said bytes (NoToken line)) = Some (file.Token line)
fault_of (Said bytes (NoTree line)) = Some (file.Syntax line)

pub fault-seen : (told : Files) (size : ℕ) (name : List ℕ) (e : FileError) → Faults told size name e → (s : Seen) × Sees told size name s × (fault_of s ≡ Some e)
fault-seen told size name file.Failed h = absurd h
fault-seen told size name file.Missing h = (Absent, h, refl)
fault-seen told size name file.TooLong h = (Long, h, refl)
fault-seen told size name (file.Token line) h = (Said h.0 (NoToken line), (h.1, h.2), refl)
fault-seen told size name (file.Syntax line) h = (Said h.0 (NoTree line), (h.1, h.2), refl)
fault-seen told size name file.Memory h = absurd h

pub one-fault : (told : Files) (size : ℕ) (name : List ℕ) (e f : FileError) → Faults told size name e → Faults told size name f → e ≡ f
one-fault told size name e f h k =
    let s = fault-seen told size name e h in
    let t = fault-seen told size name f k in
    let same = one-seen told size name s.0 t.0 s.1 t.1 in same_Some e f (sym s.2 ∙ ap fault_of same ∙ t.2)

pub fault-alone : (told : Files) (v : Visited) (name bytes : List ℕ) (tree : IdlFile) (e : FileError) → Takes told v name bytes tree → Faults told v.size name e → ⊥
fault-alone told v name bytes tree e t h =
    let s = fault-seen told v.size name e h in
    let same = one-seen told v.size name (Said bytes (Tree tree)) s.0 (t.short, t.says) s.1 in
    let g : ◌≡◌ {A = Option FileError} None (Some e) = ap fault_of same ∙ s.2 in cc

said-bytes : Seen → List ℕ → List ℕ
said-bytes (Said bytes r) default = bytes
said-bytes _ default = default

said-reading : Seen → Reading → Reading
said-reading (Said bytes r) default = r
said-reading _ default = default

tree-in : Reading → IdlFile → IdlFile
tree-in (Tree tree) default = tree
tree-in _ default = default

pub one-taken : (told : Files) (v : Visited) (name bytes other : List ℕ) (tree leaf : IdlFile) → Takes told v name bytes tree → Takes told v name other leaf
    → (bytes ≡ other) × (tree ≡ leaf)
unfolding said-bytes said-reading tree-in
one-taken told v name bytes other tree leaf t u =
    let same = one-seen told v.size name (Said bytes (Tree tree)) (Said other (Tree leaf)) (t.short, t.says) (u.short, u.says) in
    (ap (λ s. said-bytes s bytes) same, ap (λ s. tree-in (said-reading s (Tree tree)) tree) same)
