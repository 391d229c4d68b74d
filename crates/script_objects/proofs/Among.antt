-- The objects among numbered blocks, by their numbers.
use Rattle.std.proofs.Common.{◌≡◌, ◌<◌, ◌∙◌, ℕ, zero, suc, ◌+◌, ◌==◌, Bool, true, false, cond, List, [], ◌∷◌, ◌++◌, filter, map, slice_get, Option, Some, None, option_map, option_and_then, ap, refl, sym, arith}
use Rattle.std.proofs.lemmas.Bool.{false≢true}
use Rattle.std.proofs.lemmas.Grind.{common_steps}
use Rattle.std.proofs.lemmas.Option.{slice_get-map}
use Rattle.call_model.specs.declared.places.Conv.{Conv}
use Rattle.call_replies.specs.Blocks.{ArePlaced, Block, Held, Data, Object, Forwarder, content_of, contents}
use Rattle.object_memory.specs.Heap.{along, heap_at, object_shown, space_of}
use Rattle.proxy_objects.specs.Forwarding.{Forwarding, forward_of}
use Rattle.script_meaning.specs.Lawful.{AreNumbered, IsNumbered}
use Rattle.script_meaning.specs.State.{has_number, is_object, object_numbered}
use Rattle.script_objects.specs.declared.objects.Object as kept_objects
use Rattle.script_objects.specs.Known.{forward_in, forwards_among, kept, numbered_forward, objects_among}
use Rattle.script_objects.specs.Laws.{ObjectsStand}

-- ---- numbers

-- an object has its own number alone
other-number : (m n : ℕ) (h : Held) → IsNumbered m h → (m ≡ n → ⊥) → has_number n h ≡ false
other-number m n (Data bytes) numbered other = refl
other-number m n (Object number iface) numbered other = grind (arith, common_steps, numbered, other)
other-number m n (Forwarder number iface target own) numbered other =
    grind (arith, common_steps, numbered, other)

own-number : (m n : ℕ) (h : Held) → IsNumbered m h → m ≡ n → has_number n h ≡ is_object h
own-number m n (Data bytes) numbered same = refl
own-number m n (Object number iface) numbered same = grind (arith, common_steps, numbered, same)
own-number m n (Forwarder number iface target own) numbered same =
    grind (arith, common_steps, numbered, same)

no-number : (n : ℕ) (h : Held) → is_object h ≡ false → has_number n h ≡ false
no-number n (Data bytes) is = refl
no-number n (Object number iface) is = absurd (false≢true (sym is))
no-number n (Forwarder number iface target own) is = absurd (false≢true (sym is))

-- no object has a smaller number than the first
none-below : (m : ℕ) (blocks : List Block) → AreNumbered m blocks → (n : ℕ) → n < m
    → object_numbered blocks n ≡ None
none-below m [] numbered n less = refl
none-below m (b ∷ blocks) numbered n less =
    ap (λ t. cond t (Some b) (object_numbered blocks n))
    (other-number m n b.held numbered.0 (λ same. omega (arith, same, less)))
    ∙ none-below (m + cond (is_object b.held) 1 0) blocks numbered.1 n (omega (arith, less))

-- ---- what is kept of an object

by_kind : (m : ℕ) (b : Block) (blocks : List Block) → IsNumbered m b.held
    → (t : Bool) → is_object b.held ≡ t
    → ((i : ℕ) → slice_get (objects_among blocks) i
    ≡ option_map kept (object_numbered blocks (m + cond t 1 0 + i)))
    → (i : ℕ)
    → slice_get (map kept (cond t (b ∷ filter (λ (b : Block). is_object b.held) blocks) (filter (λ (b : Block). is_object b.held) blocks))) i
    ≡ option_map kept (cond (has_number (m + i) b.held) (Some b) (object_numbered blocks (m + i)))
by_kind m b blocks numbered false is rest i =
    rest i
    ∙ ap (λ n. option_map kept (object_numbered blocks n)) (omega arith)
    ∙ ap (λ t. option_map kept (cond t (Some b) (object_numbered blocks (m + i))))
    (sym (no-number (m + i) b.held is))
by_kind m b blocks numbered true is rest zero =
    ap (λ t. option_map kept (cond t (Some b) (object_numbered blocks (m + 0))))
    (sym (own-number m (m + 0) b.held numbered (omega arith) ∙ is))
by_kind m b blocks numbered true is rest (suc i) =
    rest i
    ∙ ap (λ n. option_map kept (object_numbered blocks n)) (omega arith)
    ∙ ap (λ t. option_map kept (cond t (Some b) (object_numbered blocks (m + suc i))))
    (sym (other-number m (m + suc i) b.held numbered (λ same. omega (arith, same))))

kept-from : (m : ℕ) (blocks : List Block) → AreNumbered m blocks → (i : ℕ)
    → slice_get (objects_among blocks) i ≡ option_map kept (object_numbered blocks (m + i))
kept-from m [] numbered i = refl
kept-from m (b ∷ blocks) numbered i =
    by_kind m b blocks numbered.0 (is_object b.held) refl
    (λ i. kept-from (m + cond (is_object b.held) 1 0) blocks numbered.1 i) i

pub kept-is : (blocks : List Block) → AreNumbered 0 blocks → (n : ℕ)
    → slice_get (objects_among blocks) n ≡ option_map kept (object_numbered blocks n)
kept-is blocks numbered n =
    kept-from 0 blocks numbered n ∙ ap (λ k. option_map kept (object_numbered blocks k)) (omega arith)

-- ---- what it hands its calls on to

same_test : (a b : ℕ) → (a == b) ≡ (b == a)
same_test a b = grind (arith, common_steps)

by_same : {X : Type 0} (t : Bool) (rest : Option X) → (t ≡ true → rest ≡ None) → rest ≡ cond t None rest
by_same true rest none = none refl
by_same false rest none = refl

first-forward : (n : ℕ) (h : Held) (rest : Forwarding)
    → (has_number n h ≡ true → forward_of rest n ≡ None)
    → forward_of (numbered_forward h ++ rest) n
    ≡ cond (has_number n h) (forward_in h) (forward_of rest n)
first-forward n (Data bytes) rest none = refl
first-forward n (Object number iface) rest none = by_same (number == n) (forward_of rest n) none
first-forward n (Forwarder number iface target own) rest none =
    ap (λ t. cond t (Some (record { target = target; conv = own })) (forward_of rest n))
    (same_test n number)

then_found : {X : Type 0} (f : Block → Option X) (t : Bool) (b : Block) (later : Option Block)
    → cond t (f b) (option_and_then f later) ≡ option_and_then f (cond t (Some b) later)
then_found f true b later = refl
then_found f false b later = refl

none-behind : (m n : ℕ) (b : Block) (blocks : List Block) → AreNumbered m (b ∷ blocks)
    → has_number n b.held ≡ true → object_numbered blocks n ≡ None
none-behind m n b blocks numbered is = by_number b.held numbered.0 is numbered.1
  where
    by_number : (h : Held) → IsNumbered m h → has_number n h ≡ true
        → AreNumbered (m + cond (is_object h) 1 0) blocks → object_numbered blocks n ≡ None
    by_number (Data bytes) number is later = absurd (false≢true is)
    by_number (Object number iface) same is later =
        none-below (m + 1) blocks later n (grind (arith, common_steps, same, is))
    by_number (Forwarder number iface target own) same is later =
        none-below (m + 1) blocks later n (grind (arith, common_steps, same, is))

forward-from : (m : ℕ) (blocks : List Block) → AreNumbered m blocks → (n : ℕ)
    → forward_of (forwards_among blocks) n
    ≡ option_and_then (λ b. forward_in b.held) (object_numbered blocks n)
forward-from m [] numbered n = refl
forward-from m (b ∷ blocks) numbered n =
    let later = forward-from (m + cond (is_object b.held) 1 0) blocks numbered.1 n in
    first-forward n b.held (forwards_among blocks)
    (λ is. later ∙ ap (option_and_then (λ b. forward_in b.held)) (none-behind m n b blocks numbered is))
    ∙ ap (cond (has_number n b.held) (forward_in b.held)) later
    ∙ then_found (λ b. forward_in b.held) (has_number n b.held) b (object_numbered blocks n)

pub forward-is : (blocks : List Block) → AreNumbered 0 blocks → (n : ℕ)
    → forward_of (forwards_among blocks) n
    ≡ option_and_then (λ b. forward_in b.held) (object_numbered blocks n)
forward-is blocks numbered n = forward-from 0 blocks numbered n

-- ---- on a machine

abbrev address : kept_objects.Object → ℕ
address o = o.at

shown : (conv : Conv) (b : Block) (blocks : List Block)
    → (h : Held) → (rest : List ℕ)
    → rest ≡ map address (objects_among blocks)
    → object_shown b.at (content_of h) ++ rest
    ≡ map address (map kept (cond (is_object h) (b ∷ filter (λ (b : Block). is_object b.held) blocks) (filter (λ (b : Block). is_object b.held) blocks)))
shown conv b blocks (Data bytes) rest is = is
shown conv b blocks (Object number iface) rest is = ap (λ r. b.at ∷ r) is
shown conv b blocks (Forwarder number iface target own) rest is = ap (λ r. b.at ∷ r) is

addresses : (conv : Conv) (at : ℕ) (blocks : List Block) → ArePlaced conv at blocks
    → along object_shown conv at (contents blocks) ≡ map address (objects_among blocks)
addresses conv at [] placed = refl
addresses conv at (b ∷ blocks) placed =
    ap (λ a. object_shown a (content_of b.held) ++ along object_shown conv (at + space_of conv (content_of b.held)) (contents blocks))
    (sym placed.0)
    ∙ shown conv b blocks b.held (along object_shown conv (at + space_of conv (content_of b.held)) (contents blocks))
    (addresses conv (at + space_of conv (content_of b.held)) blocks placed.1)

pub objects-stand : ObjectsStand
objects-stand m blocks holds lawful number b is =
    ap (λ l. slice_get l number) (holds.heap.objects ∙ addresses m.conv (heap_at m.conv) blocks holds.placed)
    ∙ slice_get-map address (objects_among blocks) number
    ∙ ap (option_map address) (kept-is blocks lawful.numbered number ∙ ap (option_map kept) is)
