-- Objects by their numbers: each is found by its own, also among more blocks and after writes.
use Rattle.std.proofs.Common.{◌≡◌, ◌≢◌, ◌<◌, ◌≤◌, ℕ, ◌+◌, ◌-◌, ◌==◌, Bool, true, false, cond, List, [], ◌∷◌, ◌++◌, length, find, Option, Some, None, option_map, All, ap, refl, sym, subst, ◌∙◌, arith}
use Rattle.std.proofs.lemmas.Bool.{false≢true}
use Rattle.std.proofs.lemmas.Grind.{common_steps}
use Rattle.std.proofs.lemmas.List.Elements.{All-cons, All-head, All-map, All-nil, All-tail}
use Rattle.std.proofs.lemmas.Option.{none-some, same_Some}
use Rattle.call_replies.specs.Blocks.{Block, Held, Data, Object, Forwarder, block_after, blocks_after, held_after}
use Rattle.script_meaning.specs.Lawful.{AreNumbered, IsNumbered}
use Rattle.script_meaning.specs.State.{has_number, iface_in, is_object, number_in, object_numbered}
use Rattle.script_meaning.proofs.Kept.{data-kept}
use Rattle.suited_rules.specs.Suiting.{iface_numbered}

-- ---- more blocks

pub numbered-more : (blocks more : List Block) (n : ℕ) (b : Block)
    → object_numbered blocks n ≡ Some b → object_numbered (blocks ++ more) n ≡ Some b
numbered-more [] more n b is = absurd (none-some b is)
numbered-more (c ∷ blocks) more n b is =
    by_test (numbered-more blocks more n b) (has_number n c.held) is
  where
    by_test : (object_numbered blocks n ≡ Some b → object_numbered (blocks ++ more) n ≡ Some b)
        → (t : Bool) → cond t (Some c) (object_numbered blocks n) ≡ Some b
        → cond t (Some c) (object_numbered (blocks ++ more) n) ≡ Some b
    by_test later true is = is
    by_test later false is = later is

some-mapped : {A B : Type 0} (f : A → B) (o : Option A) (y : B) → option_map f o ≡ Some y
    → (x : A) × (o ≡ Some x) × (f x ≡ y)
some-mapped f None y is = absurd (none-some y is)
some-mapped f (Some x) y is = (x, refl, same_Some (f x) y is)

pub iface-found : (blocks : List Block) (n i : ℕ) → iface_numbered blocks n ≡ Some i
    → (b : Block) × (object_numbered blocks n ≡ Some b) × (iface_in b.held ≡ i)
iface-found blocks n i is =
    some-mapped (λ (b : Block). iface_in b.held) (object_numbered blocks n) i is

pub iface-of : (blocks : List Block) (n : ℕ) (b : Block) → object_numbered blocks n ≡ Some b
    → iface_numbered blocks n ≡ Some (iface_in b.held)
iface-of blocks n b is = ap (option_map (λ (b : Block). iface_in b.held)) is

pub iface-more : (blocks more : List Block) (n i : ℕ) → iface_numbered blocks n ≡ Some i
    → iface_numbered (blocks ++ more) n ≡ Some i
iface-more blocks more n i is =
    let found = iface-found blocks n i is in
    iface-of (blocks ++ more) n found.0 (numbered-more blocks more n found.0 found.1)
    ∙ ap Some found.2

-- ---- writes

number-kept : (n at a : ℕ) (w : List ℕ) (h : Held)
    → has_number n (held_after at h a w) ≡ has_number n h
number-kept n at a w (Data old) =
    data-kept at a w old (λ h. has_number n h ≡ false) (λ bytes same. refl)
number-kept n at a w (Object number iface) = refl
number-kept n at a w (Forwarder number iface target own) = refl

iface-kept : (at a : ℕ) (w : List ℕ) (h : Held) → iface_in (held_after at h a w) ≡ iface_in h
iface-kept at a w (Data old) = data-kept at a w old (λ h. iface_in h ≡ 0) (λ bytes same. refl)
iface-kept at a w (Object number iface) = refl
iface-kept at a w (Forwarder number iface target own) = refl

pub iface-after : (blocks : List Block) (a : ℕ) (w : List ℕ) (n : ℕ)
    → iface_numbered (blocks_after blocks a w) n ≡ iface_numbered blocks n
iface-after [] a w n = refl
iface-after (b ∷ blocks) a w n =
    by_tests (iface-after blocks a w n) (has_number n (block_after a w b).held)
    (has_number n b.held)
    (number-kept n b.at a w b.held)
  where
    after : Option Block
    after = object_numbered (blocks_after blocks a w) n

    iface : Block → ℕ
    iface c = iface_in c.held

    by_tests : option_map iface after ≡ option_map iface (object_numbered blocks n)
        → (s t : Bool) → s ≡ t
        → option_map iface (cond s (Some (block_after a w b)) after)
        ≡ option_map iface (cond t (Some b) (object_numbered blocks n))
    by_tests later true true same = ap Some (iface-kept b.at a w b.held)
    by_tests later true false same = absurd (false≢true (sym same))
    by_tests later false true same = absurd (false≢true same)
    by_tests later false false same = later

-- ---- each by its own number

abbrev pub IsFound : List Block → Block → Type 0
IsFound blocks b = is_object b.held ≡ true → object_numbered blocks (number_in b.held) ≡ Some b

own-number : (h : Held) → is_object h ≡ true → has_number (number_in h) h ≡ true
own-number (Data bytes) is = absurd (false≢true is)
own-number (Object number iface) is = grind (arith, common_steps)
own-number (Forwarder number iface target own) is = grind (arith, common_steps)

abbrev IsAbove : ℕ → Block → Type 0
IsAbove n b = is_object b.held ≡ true → n ≤ number_in b.held

at-least : (n : ℕ) (h : Held) → IsNumbered n h → is_object h ≡ true → n ≤ number_in h
at-least n (Data bytes) is object = absurd (false≢true object)
at-least n (Object number iface) is object = omega (arith, is)
at-least n (Forwarder number iface target own) is object = omega (arith, is)

weaker : (n k : ℕ) → n ≤ k → (blocks : List Block) → All (IsAbove k) blocks
    → All (IsAbove n) blocks
weaker n k le [] all = All-nil (IsAbove n)
weaker n k le (b ∷ blocks) all =
    All-cons (IsAbove n) b blocks
    (λ object. omega (arith, le, All-head (IsAbove k) b blocks all object))
    (weaker n k le blocks (All-tail (IsAbove k) b blocks all))

numbers-above : (n : ℕ) (blocks : List Block) → AreNumbered n blocks → All (IsAbove n) blocks
numbers-above n [] numbered = All-nil (IsAbove n)
numbers-above n (b ∷ blocks) numbered =
    let next = n + cond (is_object b.held) 1 0 in
    All-cons (IsAbove n) b blocks (at-least n b.held numbered.0)
    (weaker n next (omega arith) blocks (numbers-above next blocks numbered.1))

-- a block of a smaller number, or of none, is passed over
other-number : (n k : ℕ) (h : Held) → IsNumbered n h → n + cond (is_object h) 1 0 ≤ k
    → has_number k h ≡ false
other-number n k (Data bytes) is le = refl
other-number n k (Object number iface) is le = grind (arith, common_steps, is, le)
other-number n k (Forwarder number iface target own) is le = grind (arith, common_steps, is, le)

passed-over : (b : Block) (blocks : List Block) (k : ℕ) → has_number k b.held ≡ false
    → object_numbered (b ∷ blocks) k ≡ object_numbered blocks k
passed-over b blocks k is = ap (λ t. cond t (Some b) (object_numbered blocks k)) is

found-behind : (n : ℕ) (b : Block) (blocks more : List Block) → IsNumbered n b.held
    → All (IsAbove (n + cond (is_object b.held) 1 0)) more → All (IsFound blocks) more
    → All (IsFound (b ∷ blocks)) more
found-behind n b blocks [] is above found = All-nil (IsFound (b ∷ blocks))
found-behind n b blocks (c ∷ more) is above found =
    let next = n + cond (is_object b.held) 1 0 in
    All-cons (IsFound (b ∷ blocks)) c more
    (λ object. passed-over b blocks (number_in c.held)
    (other-number n (number_in c.held) b.held is (All-head (IsAbove next) c more above object))
    ∙ All-head (IsFound blocks) c more found object)
    (found-behind n b blocks more is (All-tail (IsAbove next) c more above)
    (All-tail (IsFound blocks) c more found))

pub each-found : (n : ℕ) (blocks : List Block) → AreNumbered n blocks
    → All (IsFound blocks) blocks
each-found n [] numbered = All-nil (IsFound [])
each-found n (b ∷ blocks) numbered =
    let next = n + cond (is_object b.held) 1 0 in
    All-cons (IsFound (b ∷ blocks)) b blocks
    (λ object. ap (λ t. cond t (Some b) (object_numbered blocks (number_in b.held)))
    (own-number b.held object))
    (found-behind n b blocks blocks numbered.0 (numbers-above next blocks numbered.1)
    (each-found next blocks numbered.1))
