-- Objects among blocks, by their numbers and by their addresses.
use Rattle.std.proofs.Common.{◌≡◌, ◌<◌, ◌≤◌, ◌∙◌, ℕ, zero, suc, ◌+◌, ◌==◌, Bool, true, false, ◌&&◌, cond, find, List, [], ◌∷◌, ◌++◌, length, All, Option, Some, None, ap, refl, sym, subst, arith}
use Rattle.std.specs.List.{Contains}
use Rattle.std.specs.Prelude.{slice_get}
use Rattle.std.proofs.lemmas.Bool.{false≢true}
use Rattle.std.proofs.lemmas.Grind.{common_steps}
use Rattle.std.proofs.lemmas.List.Elements.{All-cons, All-nil}
use Rattle.std.proofs.lemmas.Option.{none-some, same_Some}
use Rattle.call_model.specs.declared.places.Conv.{Conv}
use Rattle.object_memory.specs.Heap.{along, content_bytes, object_shown, space_of}
use Rattle.object_memory.specs.Layout.{space_for}
use Rattle.call_replies.specs.Blocks.{ArePlaced, Block, Held, Data, Object, Forwarder, content_of, contents}
use Rattle.script_meaning.specs.Lawful.{AreNumbered, IsNumbered}
use Rattle.script_meaning.specs.State.{has_number, is_object, number_in, object_numbered}
use Rattle.script_meaning.proofs.Ways.{first-found}
use Rattle.script_stage.proofs.Held.{found-behind}

-- ---- by number

its-own : (h : Held) → is_object h ≡ true → has_number (number_in h) h ≡ true
its-own (Data bytes) is = absurd (false≢true is)
its-own (Object number iface) is = grind (arith, common_steps)
its-own (Forwarder number iface target own) is = grind (arith, common_steps)

-- the objects that come later have greater numbers
abbrev IsFrom : ℕ → Block → Type 0
IsFrom n b = is_object b.held ≡ true → n ≤ number_in b.held

from-first : (n low : ℕ) (h : Held) → IsNumbered n h → low ≤ n → is_object h ≡ true → low ≤ number_in h
from-first n low (Data bytes) numbered below is = absurd (false≢true is)
from-first n low (Object number iface) numbered below is = omega (arith, numbered, below)
from-first n low (Forwarder number iface target own) numbered below is = omega (arith, numbered, below)

numbers-from : (low n : ℕ) (blocks : List Block) → low ≤ n → AreNumbered n blocks → All (IsFrom low) blocks
numbers-from low n [] below numbered = All-nil (IsFrom low)
numbers-from low n (b ∷ blocks) below numbered =
    All-cons (IsFrom low) b blocks (from-first n low b.held numbered.0 below)
    (numbers-from low (n + cond (is_object b.held) 1 0) blocks (omega (arith, below)) numbered.1)

other-first : (n number : ℕ) (h : Held) → IsNumbered n h → n + cond (is_object h) 1 0 ≤ number → has_number number h ≡ false
other-first n number (Data bytes) numbered above = refl
other-first n number (Object k iface) numbered above =
    let less : k < number = omega (arith, numbered, above) in grind (arith, common_steps)
other-first n number (Forwarder k iface target own) numbered above =
    let less : k < number = omega (arith, numbered, above) in grind (arith, common_steps)

-- an object that is found has its number alone
pub found-numbered : (n : ℕ) (blocks : List Block) → AreNumbered n blocks → (p : Block → Bool) (b : Block)
    → find p blocks ≡ Some b → is_object b.held ≡ true → object_numbered blocks (number_in b.held) ≡ Some b
found-numbered n [] numbered p b is object = absurd (none-some b is)
found-numbered n (c ∷ blocks) numbered p b is object =
    by_test (p c) (λ later. found-numbered (n + cond (is_object c.held) 1 0) blocks numbered.1 p b later object) is
  where
    by_test : (t : Bool) → (find p blocks ≡ Some b → object_numbered blocks (number_in b.held) ≡ Some b)
        → cond t (Some c) (find p blocks) ≡ Some b → object_numbered (c ∷ blocks) (number_in b.held) ≡ Some b
    by_test true rest is =
        let same = same_Some c b is in
        ap (λ t. cond t (Some c) (object_numbered blocks (number_in b.held)))
        (ap (λ (z : Block). has_number (number_in b.held) z.held) same ∙ its-own b.held object)
        ∙ ap Some same
    by_test false rest is =
        let above = (first-found p (IsFrom (n + cond (is_object c.held) 1 0)) blocks b
        (numbers-from (n + cond (is_object c.held) 1 0) (n + cond (is_object c.held) 1 0) blocks (omega arith) numbered.1) is).1 object in
        ap (λ t. cond t (Some c) (object_numbered blocks (number_in b.held)))
        (other-first n (number_in b.held) c.held numbered.0 above)
        ∙ rest is

-- ---- by address

abbrev pub begins_at : ℕ → Block → Bool
begins_at a b = is_object b.held && (b.at == a)

both-true : (s t : Bool) → (s && t) ≡ true → (s ≡ true) × (t ≡ true)
both-true true t is = (refl, is)
both-true false t is = absurd (false≢true is)

-- what is found at an address is an object that begins there
pub found-begins : (a : ℕ) (blocks : List Block) (b : Block) → find (begins_at a) blocks ≡ Some b
    → (is_object b.held ≡ true) × (b.at ≡ a)
found-begins a blocks b is =
    let passes = (first-found (begins_at a) (λ (c : Block). c.at ≤ c.at) blocks b (reflexive blocks) is).0 in
    let both = both-true (is_object b.held) (b.at == a) passes in
    (both.0, same_number b.at a both.1)
  where
    reflexive : (blocks : List Block) → All (λ (c : Block). c.at ≤ c.at) blocks
    reflexive [] = All-nil (λ (c : Block). c.at ≤ c.at)
    reflexive (c ∷ blocks) = All-cons (λ (c : Block). c.at ≤ c.at) c blocks (omega arith) (reflexive blocks)

    same_number : (m n : ℕ) → (m == n) ≡ true → m ≡ n
    same_number m n is = grind (arith, common_steps, is)

-- the object that begins at an address, which has this number
pub record IsAt (blocks : List Block) (a number : ℕ) : Type 0 where
  pub block : Block
  pub here : find (begins_at a) blocks ≡ Some block
  pub numbered : object_numbered blocks number ≡ Some block

module _ (conv : Conv) (c : Block) (blocks : List Block) where
  -- the first block is this object
  first-is : (a number : ℕ) → is_object c.held ≡ true → c.at ≡ a → has_number number c.held ≡ true → IsAt (c ∷ blocks) a number
  first-is a number object at has = record {
    block = c;
    here =
        let here : (is_object c.held && (c.at == a)) ≡ true = grind (arith, common_steps) in
        ap (λ t. cond t (Some c) (find (begins_at a) blocks)) here;
    numbered = ap (λ t. cond t (Some c) (object_numbered blocks number)) has;
  }

  -- or a later one is
  later-is : (a number : ℕ) → (is_object c.held ≡ true → c.at < a) → has_number number c.held ≡ false
      → IsAt blocks a number → IsAt (c ∷ blocks) a number
  later-is a number below other rest = record {
    block = rest.block;
    here = ap (λ t. cond t (Some c) (find (begins_at a) blocks)) (not-here (is_object c.held) below) ∙ rest.here;
    numbered = ap (λ t. cond t (Some c) (object_numbered blocks number)) other ∙ rest.numbered;
  }
    where
      not-here : (t : Bool) → (t ≡ true → c.at < a) → (t && (c.at == a)) ≡ false
      not-here true below = let less = below refl in grind (arith, common_steps)
      not-here false below = refl

space-some : (n : ℕ) → 16 ≤ space_for n
space-some n = omega arith

module _ (conv : Conv) (at n a : ℕ) (c : Block) (blocks : List Block) (here : c.at ≡ at)
    (placed : ArePlaced conv (at + space_of conv (content_of c.held)) blocks) where
  -- the address of the first block is the first one, and the others are behind it
  object-at : (number : ℕ) → is_object c.held ≡ true → ((m : ℕ) → has_number m c.held ≡ (number == m)) → number ≡ n
      → (later : List ℕ)
      → ((k : ℕ) → slice_get later k ≡ Some a → IsAt blocks a (n + 1 + k))
      → (k : ℕ) → slice_get (at ∷ later) k ≡ Some a → IsAt (c ∷ blocks) a (n + k)
  object-at number object has is later rest zero found =
      first-is conv c blocks a (n + 0) object (here ∙ same_Some at a found)
      (has (n + 0) ∙ (let same : number ≡ n + 0 = omega (arith, is) in grind (arith, common_steps)))
  object-at number object has is later rest (suc k) found =
      let next = rest k found in
      let begins = found-begins a blocks next.block next.here in
      let behind = found-behind conv (at + space_of conv (content_of c.held)) blocks (begins_at a) next.block placed next.here in
      let below : c.at < a =
      omega (arith, here, begins.1, behind, space-some (length (content_bytes conv (content_of c.held)))) in
      let other : (number == n + suc k) ≡ false =
      (let less : number < n + suc k = omega (arith, is) in grind (arith, common_steps)) in
      later-is conv c blocks a (n + suc k) (λ _. below) (has (n + suc k) ∙ other)
      (subst (IsAt blocks a) (omega arith) next)

-- the addresses of the objects behind a block
abbrev later : Conv → (at : ℕ) → List Block → Held → List ℕ
later conv at blocks h = along object_shown conv (at + space_of conv (content_of h)) (contents blocks)

-- the object whose address is the one of this number
pub at-number : (conv : Conv) (n at : ℕ) (blocks : List Block) → ArePlaced conv at blocks → AreNumbered n blocks
    → (k a : ℕ) → slice_get (along object_shown conv at (contents blocks)) k ≡ Some a → IsAt blocks a (n + k)
at-number conv n at [] placed numbered zero a is = absurd (none-some a is)
at-number conv n at [] placed numbered (suc k) a is = absurd (none-some a is)
at-number conv n at (c ∷ blocks) placed numbered k a is =
    by_held c.held refl numbered.0
    (λ i found. at-number conv (n + cond (is_object c.held) 1 0) (at + space_of conv (content_of c.held)) blocks placed.1 numbered.1 i a found)
    is
  where
    by_held : (h : Held) → c.held ≡ h → IsNumbered n h
        → ((i : ℕ) → slice_get (later conv at blocks h) i ≡ Some a → IsAt blocks a (n + cond (is_object h) 1 0 + i))
        → slice_get (object_shown at (content_of h) ++ later conv at blocks h) k ≡ Some a → IsAt (c ∷ blocks) a (n + k)
    by_held (Data bytes) held numbered rest found =
        later-is conv c blocks a (n + k) (λ o. absurd (false≢true (sym (ap is_object held) ∙ o)))
        (ap (has_number (n + k)) held) (subst (IsAt blocks a) (omega arith) (rest k found))
    by_held (Object number iface) held numbered rest found =
        object-at conv at n a c blocks placed.0 placed.1 number (ap is_object held) (λ m. ap (has_number m) held) numbered
        (later conv at blocks (Object number iface)) rest k found
    by_held (Forwarder number iface target own) held numbered rest found =
        object-at conv at n a c blocks placed.0 placed.1 number (ap is_object held) (λ m. ap (has_number m) held) numbered
        (later conv at blocks (Forwarder number iface target own)) rest k found

-- ---- elements of a list

pub contained : (xs : List ℕ) (k x : ℕ) → slice_get xs k ≡ Some x → Contains xs x
contained [] zero x is = absurd (none-some x is)
contained [] (suc k) x is = absurd (none-some x is)
contained (y ∷ ys) zero x is = (0, omega arith, same_Some y x is)
contained (y ∷ ys) (suc k) x is =
    let rest = contained ys k x is in (suc rest.0, omega (arith, rest.1), rest.2)

pub within : {A : Type 0} (xs : List A) (k : ℕ) (x : A) → slice_get xs k ≡ Some x → k < length xs
within [] zero x is = absurd (none-some x is)
within [] (suc k) x is = absurd (none-some x is)
within (y ∷ ys) zero x is = omega arith
within (y ∷ ys) (suc k) x is = omega (arith, within ys k x is)

-- nothing is found where what would be found cannot be
pub none-found : (p : Block → Bool) (blocks : List Block)
    → ((b : Block) → find p blocks ≡ Some b → ⊥) → find p blocks ≡ None
none-found p blocks never = by_found (find p blocks) refl
  where
    by_found : (o : Option Block) → find p blocks ≡ o → o ≡ None
    by_found None is = refl
    by_found (Some b) is = absurd (never b is)
