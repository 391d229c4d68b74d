-- The list of faults has exactly the faults: at each level what is in the list holds at its place (`sound`), and what
-- holds at a place is in the list (`full`).
use Rattle.std.proofs.Common.{◌≡◌, ℕ, zero, suc, Bool, true, false, ◌⊎◌, inl, inr, List, [], ◌∷◌, Option, take, refl, sym, ap, ◌∙◌, subst, option_map, option_and_then}
use Rattle.std.specs.Prelude.{slice_get, IsSomeAnd, IsTrue}
use Rattle.idl_grammar.specs.declared.tree.ClosedFile.{ClosedFile}
use Rattle.idl_grammar.specs.declared.tree.Item.{Item}
use Rattle.idl_grammar.specs.declared.tree.ItemBody.{ItemBody}
use Rattle.idl_grammar.specs.declared.tree.ItemBody.TheVariants as item
use Rattle.idl_grammar.specs.declared.tree.Member.{Member}
use Rattle.idl_meaning.specs.Scopes.{Known, Inside, nothing_known, inside, inside_after, inside_all, after, after_items, after_files}
use Rattle.idl_meaning.specs.Faults.{Place, Declaration, Within, conditions, when, numbered, codes_at, Fault, faults_with, member_faults, inner_faults, item_faults, file_faults, faults_from, faults_of, place_of, place_among, place_at, applied, holds, IsFault}
use Rattle.idl_meaning.specs.Order.{Among, HasEachFault}
use Rattle.idl_meaning.proofs.Among.{among_left, among_right, among_cases, later, later-from_zero, later-from_one}

-- the condition of a code holds at a place, where there is one
abbrev pub HoldsAt : ℕ → Option Place → Type 0
HoldsAt code o = IsSomeAnd o (λ place. IsTrue (holds code place))

-- a fault from its parts
abbrev pub fault : ℕ → ℕ → ℕ → ℕ → Fault
fault code file decl number = record { code = code; file = file; decl = decl; member = number }

-- ---- codes

when-sound : (b : Bool) (code c : ℕ) → Among c (when b code) → (b ≡ true) × (c ≡ code)
when-sound true code c (inl e) = (refl, e)
when-sound true code c (inr h) = absurd h
when-sound false code c h = absurd h

when-full : (b : Bool) (code : ℕ) → b ≡ true → Among code (when b code)
when-full true code e = inl refl
when-full false code e = absurd cc

pub codes-sound : (cs : List (Place → Bool)) (code : ℕ) (p : Place) (c : ℕ) → Among c (numbered code cs p)
    → (n : ℕ) × (c ≡ later n code) × (applied (slice_get cs n) p ≡ true)
codes-sound [] code p c h = absurd h
codes-sound (t ∷ more) code p c h = go (codes-sound more (suc code) p c) (among_cases c (when (t p) code) (numbered (suc code) more p) h) where
  go : (Among c (numbered (suc code) more p) → (n : ℕ) × (c ≡ later n (suc code)) × (applied (slice_get more n) p ≡ true))
      → Among c (when (t p) code) ⊎ Among c (numbered (suc code) more p)
      → (n : ℕ) × (c ≡ later n code) × (applied (slice_get (t ∷ more) n) p ≡ true)
  go up (inl here) = let w = when-sound (t p) code c here in (zero, w.1, w.0)
  go up (inr there) = let r = up there in (suc r.0, r.1, r.2)

codes-full : (cs : List (Place → Bool)) (code : ℕ) (p : Place) (n : ℕ) → applied (slice_get cs n) p ≡ true → Among (later n code) (numbered code cs p)
codes-full [] code p n h = absurd cc
codes-full (t ∷ more) code p zero h = among_left code (when (t p) code) (numbered (suc code) more p) (when-full (t p) code h)
codes-full (t ∷ more) code p (suc n) h = among_right (later n (suc code)) (when (t p) code) (numbered (suc code) more p) (codes-full more (suc code) p n h)

holds-sound : (p : Place) (c : ℕ) → Among c (codes_at p) → IsTrue (holds c p)
holds-sound p c h =
    let r = codes-sound conditions 1 p c h in
    subst (λ (k : ℕ). IsTrue (holds k p)) (sym (r.1 ∙ later-from_one r.0)) r.2

holds-full : (p : Place) (c : ℕ) → IsTrue (holds c p) → Among c (codes_at p)
holds-full p zero h = absurd cc
holds-full p (suc n) h = subst (λ (k : ℕ). Among k (codes_at p)) (later-from_one n) (codes-full conditions 1 p n h)

-- ---- one place

pub with-sound : (file decl number : ℕ) (cs : List ℕ) (q : Fault) → Among q (faults_with file decl number cs)
    → (q.file ≡ file) × (q.decl ≡ decl) × (q.member ≡ number) × Among q.code cs
with-sound file decl number [] q h = absurd h
with-sound file decl number (c ∷ more) q (inl e) = (ap (λ (r : Fault). r.file) e, ap (λ (r : Fault). r.decl) e, ap (λ (r : Fault). r.member) e, inl (ap (λ (r : Fault). r.code) e))
with-sound file decl number (c ∷ more) q (inr h) =
    let r = with-sound file decl number more q h in (r.0, r.1, r.2, inr r.3)

with-full : (file decl number : ℕ) (cs : List ℕ) (c : ℕ) → Among c cs → Among (fault c file decl number) (faults_with file decl number cs)
with-full file decl number [] c h = absurd h
with-full file decl number (d ∷ more) c (inl e) = inl (ap (λ k. fault k file decl number) e)
with-full file decl number (d ∷ more) c (inr h) = inr (with-full file decl number more c h)

-- ---- members

-- the place of a member, from the first on
abbrev pub member_place : Inside → List Member → ℕ → Option Place
member_place at ms n = option_map (λ (m : Member). Within (inside_all at (take n ms)) m.body) (slice_get ms n)

pub members-sound : (ms : List Member) (file decl number : ℕ) (at : Inside) (q : Fault) → Among q (member_faults file decl number at ms)
    → (n : ℕ) × (q.file ≡ file) × (q.decl ≡ decl) × (q.member ≡ later n number) × HoldsAt q.code (member_place at ms n)
members-sound [] file decl number at q h = absurd h
members-sound (m ∷ ms) file decl number at q h =
    go (members-sound ms file decl (suc number) (inside_after at m.body) q)
    (among_cases q (faults_with file decl number (codes_at (Within at m.body))) (member_faults file decl (suc number) (inside_after at m.body) ms) h) where
      go : (Among q (member_faults file decl (suc number) (inside_after at m.body) ms)
          → (n : ℕ) × (q.file ≡ file) × (q.decl ≡ decl) × (q.member ≡ later n (suc number)) × HoldsAt q.code (member_place (inside_after at m.body) ms n))
          → Among q (faults_with file decl number (codes_at (Within at m.body))) ⊎ Among q (member_faults file decl (suc number) (inside_after at m.body) ms)
          → (n : ℕ) × (q.file ≡ file) × (q.decl ≡ decl) × (q.member ≡ later n number) × HoldsAt q.code (member_place at (m ∷ ms) n)
      go up (inl here) =
          let r = with-sound file decl number (codes_at (Within at m.body)) q here in
          (zero, r.0, r.1, r.2, holds-sound (Within at m.body) q.code r.3)
      go up (inr there) = let r = up there in (suc r.0, r.1, r.2, r.3, r.4)

members-full : (ms : List Member) (file decl number : ℕ) (at : Inside) (c n : ℕ) → HoldsAt c (member_place at ms n)
    → Among (fault c file decl (later n number)) (member_faults file decl number at ms)
members-full [] file decl number at c n h = absurd h
members-full (m ∷ ms) file decl number at c zero h =
    among_left (fault c file decl number) (faults_with file decl number (codes_at (Within at m.body))) (member_faults file decl (suc number) (inside_after at m.body) ms)
    (with-full file decl number (codes_at (Within at m.body)) c (holds-full (Within at m.body) c h))
members-full (m ∷ ms) file decl number at c (suc n) h =
    among_right (fault c file decl (later n (suc number))) (faults_with file decl number (codes_at (Within at m.body))) (member_faults file decl (suc number) (inside_after at m.body) ms)
    (members-full ms file decl (suc number) (inside_after at m.body) c n h)

-- ---- declarations

inner-sound : (file decl : ℕ) (k : Known) (d : ItemBody) (q : Fault) → Among q (inner_faults file decl k d)
    → (n : ℕ) × (q.file ≡ file) × (q.decl ≡ decl) × (q.member ≡ suc n) × HoldsAt q.code (place_of k d (suc n))
inner-sound file decl k (item.Interface i) q h =
    let r = members-sound i.members file decl 1 (inside k i) q h in
    (r.0, r.1, r.2, r.3 ∙ later-from_one r.0, r.4)
inner-sound file decl k (item.Include name) q h = absurd h
inner-sound file decl k item.Code q h = absurd h
inner-sound file decl k (item.Typedef of name) q h = absurd h
inner-sound file decl k (item.Native attrs name text) q h = absurd h
inner-sound file decl k (item.Forward name) q h = absurd h

pub item-sound : (file decl : ℕ) (k : Known) (d : ItemBody) (q : Fault) → Among q (item_faults file decl k d)
    → (q.file ≡ file) × (q.decl ≡ decl) × HoldsAt q.code (place_of k d q.member)
item-sound file decl k d q h = go (among_cases q (faults_with file decl 0 (codes_at (Declaration k d))) (inner_faults file decl k d) h) where
  go : Among q (faults_with file decl 0 (codes_at (Declaration k d))) ⊎ Among q (inner_faults file decl k d)
      → (q.file ≡ file) × (q.decl ≡ decl) × HoldsAt q.code (place_of k d q.member)
  go (inl here) =
      let r = with-sound file decl 0 (codes_at (Declaration k d)) q here in
      (r.0, r.1, subst (λ (n : ℕ). HoldsAt q.code (place_of k d n)) (sym r.2) (holds-sound (Declaration k d) q.code r.3))
  go (inr there) =
      let r = inner-sound file decl k d q there in
      (r.1, r.2, subst (λ (n : ℕ). HoldsAt q.code (place_of k d n)) (sym r.3) r.4)

item-full : (file decl : ℕ) (k : Known) (d : ItemBody) (c number : ℕ) → HoldsAt c (place_of k d number)
    → Among (fault c file decl number) (item_faults file decl k d)
item-full file decl k d c zero h =
    among_left (fault c file decl 0) (faults_with file decl 0 (codes_at (Declaration k d))) (inner_faults file decl k d)
    (with-full file decl 0 (codes_at (Declaration k d)) c (holds-full (Declaration k d) c h))
item-full file decl k (item.Interface i) c (suc n) h =
    among_right (fault c file decl (suc n)) (faults_with file decl 0 (codes_at (Declaration k (item.Interface i)))) (inner_faults file decl k (item.Interface i))
    (subst (λ (j : ℕ). Among (fault c file decl j) (inner_faults file decl k (item.Interface i))) (later-from_one n) (members-full i.members file decl 1 (inside k i) c n h))
item-full file decl k (item.Include name) c (suc n) h = absurd h
item-full file decl k item.Code c (suc n) h = absurd h
item-full file decl k (item.Typedef of name) c (suc n) h = absurd h
item-full file decl k (item.Native attrs name text) c (suc n) h = absurd h
item-full file decl k (item.Forward name) c (suc n) h = absurd h

-- ---- items

-- the place of a number of an item, from the first on, which has the number `decl`
abbrev pub item_place : ℕ → ℕ → Known → List Item → ℕ → ℕ → Option Place
item_place file decl k items n number =
    option_and_then (λ (x : Item). place_of (after_items file decl k (take n items)) x.body number) (slice_get items n)

pub items-sound : (items : List Item) (file decl : ℕ) (k : Known) (q : Fault) → Among q (file_faults file decl k items)
    → (n : ℕ) × (q.file ≡ file) × (q.decl ≡ later n decl) × HoldsAt q.code (item_place file decl k items n q.member)
items-sound [] file decl k q h = absurd h
items-sound (x ∷ items) file decl k q h =
    go (items-sound items file (suc decl) (after file decl k x.body) q)
    (among_cases q (item_faults file decl k x.body) (file_faults file (suc decl) (after file decl k x.body) items) h) where
      go : (Among q (file_faults file (suc decl) (after file decl k x.body) items)
          → (n : ℕ) × (q.file ≡ file) × (q.decl ≡ later n (suc decl)) × HoldsAt q.code (item_place file (suc decl) (after file decl k x.body) items n q.member))
          → Among q (item_faults file decl k x.body) ⊎ Among q (file_faults file (suc decl) (after file decl k x.body) items)
          → (n : ℕ) × (q.file ≡ file) × (q.decl ≡ later n decl) × HoldsAt q.code (item_place file decl k (x ∷ items) n q.member)
      go up (inl here) = let r = item-sound file decl k x.body q here in (zero, r.0, r.1, r.2)
      go up (inr there) = let r = up there in (suc r.0, r.1, r.2, r.3)

items-full : (items : List Item) (file decl : ℕ) (k : Known) (c n number : ℕ) → HoldsAt c (item_place file decl k items n number)
    → Among (fault c file (later n decl) number) (file_faults file decl k items)
items-full [] file decl k c n number h = absurd h
items-full (x ∷ items) file decl k c zero number h =
    among_left (fault c file decl number) (item_faults file decl k x.body) (file_faults file (suc decl) (after file decl k x.body) items)
    (item-full file decl k x.body c number h)
items-full (x ∷ items) file decl k c (suc n) number h =
    among_right (fault c file (later n (suc decl)) number) (item_faults file decl k x.body) (file_faults file (suc decl) (after file decl k x.body) items)
    (items-full items file (suc decl) (after file decl k x.body) c n number h)

-- ---- files

-- the place of a number of an item of a file, from the first on, which has the number `file`
abbrev pub file_place : ℕ → Known → List ClosedFile → ℕ → ℕ → ℕ → Option Place
file_place file k files n decl number =
    option_and_then (λ (f : ClosedFile). place_among (later n file) (after_files file k (take n files)) f.file.items decl number) (slice_get files n)

pub files-sound : (files : List ClosedFile) (file : ℕ) (k : Known) (q : Fault) → Among q (faults_from file k files)
    → (n : ℕ) × (q.file ≡ later n file) × HoldsAt q.code (file_place file k files n q.decl q.member)
files-sound [] file k q h = absurd h
files-sound (f ∷ files) file k q h =
    go (files-sound files (suc file) (after_items file 0 k f.file.items) q)
    (among_cases q (file_faults file 0 k f.file.items) (faults_from (suc file) (after_items file 0 k f.file.items) files) h) where
      go : (Among q (faults_from (suc file) (after_items file 0 k f.file.items) files)
          → (n : ℕ) × (q.file ≡ later n (suc file)) × HoldsAt q.code (file_place (suc file) (after_items file 0 k f.file.items) files n q.decl q.member))
          → Among q (file_faults file 0 k f.file.items) ⊎ Among q (faults_from (suc file) (after_items file 0 k f.file.items) files)
          → (n : ℕ) × (q.file ≡ later n file) × HoldsAt q.code (file_place file k (f ∷ files) n q.decl q.member)
      go up (inl here) =
          let r = items-sound f.file.items file 0 k q here in
          (zero, r.1, subst (λ (j : ℕ). HoldsAt q.code (item_place file 0 k f.file.items j q.member)) (sym (r.2 ∙ later-from_zero r.0)) r.3)
      go up (inr there) = let r = up there in (suc r.0, r.1, r.2)

files-full : (files : List ClosedFile) (file : ℕ) (k : Known) (c n decl number : ℕ) → HoldsAt c (file_place file k files n decl number)
    → Among (fault c (later n file) decl number) (faults_from file k files)
files-full [] file k c n decl number h = absurd h
files-full (f ∷ files) file k c zero decl number h =
    among_left (fault c file decl number) (file_faults file 0 k f.file.items) (faults_from (suc file) (after_items file 0 k f.file.items) files)
    (subst (λ (j : ℕ). Among (fault c file j number) (file_faults file 0 k f.file.items)) (later-from_zero decl) (items-full f.file.items file 0 k c decl number h))
files-full (f ∷ files) file k c (suc n) decl number h =
    among_right (fault c (later n (suc file)) decl number) (file_faults file 0 k f.file.items) (faults_from (suc file) (after_items file 0 k f.file.items) files)
    (files-full files (suc file) (after_items file 0 k f.file.items) c n decl number h)

-- ---- the whole

-- the number of a file is its place
same_place : (files : List ClosedFile) (n decl number : ℕ) → file_place 0 nothing_known files n decl number ≡ place_at files n decl number
same_place files n decl number =
    ap (λ (j : ℕ). option_and_then (λ (f : ClosedFile). place_among j (after_files 0 nothing_known (take n files)) f.file.items decl number) (slice_get files n))
    (later-from_zero n)

faults-sound : (files : List ClosedFile) (q : Fault) → Among q (faults_of files) → IsFault files q
faults-sound files q h =
    let r = files-sound files 0 nothing_known q h in
    subst (λ (n : ℕ). HoldsAt q.code (place_at files n q.decl q.member)) (sym (r.1 ∙ later-from_zero r.0))
    (subst (λ (o : Option Place). HoldsAt q.code o) (same_place files r.0 q.decl q.member) r.2)

faults-full : (files : List ClosedFile) (q : Fault) → IsFault files q → Among q (faults_of files)
faults-full files q h =
    subst (λ (n : ℕ). Among (fault q.code n q.decl q.member) (faults_of files)) (later-from_zero q.file)
    (files-full files 0 nothing_known q.code q.file q.decl q.member
    (subst (λ (o : Option Place). HoldsAt q.code o) (sym (same_place files q.file q.decl q.member)) h))

pub exact : (files : List ClosedFile) → HasEachFault files
exact files q = (faults-sound files q, faults-full files q)
