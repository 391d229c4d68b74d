-- How many forwarders stand on the way from an object.
use Rattle.std.proofs.Common.{◌≡◌, ◌<◌, ◌≤◌, ◌∙◌, ℕ, zero, suc, ◌+◌, true, false, cond, List, [], ◌∷◌, Option, Some, None, option_and_then, ap, refl, sym, subst, arith}
use Rattle.std.specs.Option.{option_map_or}
use Rattle.std.proofs.lemmas.Bool.{false≢true}
use Rattle.std.proofs.lemmas.Grind.{common_steps}
use Rattle.std.proofs.lemmas.List.Sums.{sum_by-cons}
use Rattle.std.proofs.lemmas.Option.{none-some}
use Rattle.call_model.specs.declared.places.Conv.{Conv}
use Rattle.call_replies.specs.Blocks.{Block, Held, Data, Object, Forwarder}
use Rattle.proxy_objects.specs.declared.forward.Forward.{Forward}
use Rattle.proxy_objects.specs.Forwarding.{Forwarding, HasDepth, forward_of}
use Rattle.proxy_objects.specs.declared.forwards.TheConstants.{MOST_FORWARDERS}
use Rattle.proxy_objects.proofs.Ways.{one-more, one_depth}
use Rattle.script_meaning.specs.Chain.{AllHandDown, HandsDown, Stop, chain_of, chain_within, conv_behind, depth, is_forwarder, target_in}
use Rattle.script_meaning.specs.Lawful.{AreLawful, AreNumbered}
use Rattle.script_meaning.specs.State.{State, has_number, number_in, object_numbered}
use Rattle.script_meaning.specs.Step.{has_depth}
use Rattle.script_meaning.proofs.Ways.{first-found}
use Rattle.script_objects.specs.Known.{AreKnown, ObjectsView, forward_in, forwards_among}
use Rattle.script_objects.proofs.Among.{forward-is}

its-number : (n : ℕ) (h : Held) → has_number n h ≡ true → number_in h ≡ n
its-number n (Data bytes) is = absurd (false≢true is)
its-number n (Object number iface) is = grind (arith, common_steps, is)
its-number n (Forwarder number iface target own) is = grind (arith, common_steps, is)

-- the object of a number has it, and hands down where all do
pub numbered-so : (blocks : List Block) → AllHandDown blocks → (n : ℕ) (b : Block)
    → object_numbered blocks n ≡ Some b → (number_in b.held ≡ n) × HandsDown b.held
numbered-so blocks down n b is =
    let found = first-found (λ (b : Block). has_number n b.held) (λ b. HandsDown b.held) blocks b down is in
    (its-number n b.held found.0, found.1)

none-deep : (known : Forwarding) (number count : ℕ) → forward_of known number ≡ None → count ≡ 0
    → HasDepth known number count
unfolding HasDepth
none-deep known number zero none is = none
none-deep known number (suc count) none is = absurd (omega (arith, is))

one-deeper : (known : Forwarding) (number : ℕ) (forward : Forward) (rest count : ℕ)
    → forward_of known number ≡ Some forward → HasDepth known forward.target rest
    → count ≡ 1 + rest → HasDepth known number count
one-deeper known number forward rest count is has same =
    subst (HasDepth known number) (omega (arith, same)) (one-more known number forward rest is has)

depth-cons : (s : Stop) (stops : List Stop)
    → depth (s ∷ stops) ≡ cond (is_forwarder s.object.held) 1 0 + depth stops
depth-cons s stops = sum_by-cons (λ (s : Stop). cond (is_forwarder s.object.held) 1 0) s stops

module _ (blocks : List Block) (numbered : AreNumbered 0 blocks) (down : AllHandDown blocks) where
  abbrev known : Forwarding
  known = forwards_among blocks

  -- behind a forwarder stands its target, where there is one
  behind : (n : ℕ) (conv : Conv) (number target count : ℕ) (own : Option Conv) (found : Option Block)
      → object_numbered blocks target ≡ found
      → forward_of known number ≡ Some (record { target = target; conv = own })
      → ((t : Block) → found ≡ Some t → HasDepth known (number_in t.held) (depth (chain_within n blocks conv t)))
      → count ≡ 1 + depth (option_map_or (chain_within n blocks conv) found [])
      → HasDepth known number count
  behind n conv number target count own None found is rest same =
      one-deeper known number (record { target = target; conv = own }) 0 count is
      (none-deep known target 0 (forward-is blocks numbered target ∙ ap (option_and_then (λ b. forward_in b.held)) found) refl)
      same
  behind n conv number target count own (Some t) found is rest same =
      one-deeper known number (record { target = target; conv = own }) (depth (chain_within n blocks conv t)) count is
      (subst (λ k. HasDepth known k (depth (chain_within n blocks conv t))) (numbered-so blocks down target t found).0 (rest t refl))
      same

  one : (n : ℕ) (conv : Conv) (number : ℕ) (h : Held) (count : ℕ) → forward_of known number ≡ forward_in h
      → ((t : Block) → target_in blocks h ≡ Some t → HasDepth known (number_in t.held) (depth (chain_within n blocks conv t)))
      → count ≡ cond (is_forwarder h) 1 0 + depth (option_map_or (chain_within n blocks conv) (target_in blocks h) [])
      → HasDepth known number count
  one n conv number (Data bytes) count is rest same = none-deep known number count is (omega (arith, same))
  one n conv number (Object o iface) count is rest same = none-deep known number count is (omega (arith, same))
  one n conv number (Forwarder o iface target own) count is rest same =
      behind n conv number target count own (object_numbered blocks target) refl is rest same

  forward-known : (b : Block) → object_numbered blocks (number_in b.held) ≡ Some b
      → forward_of known (number_in b.held) ≡ forward_in b.held
  forward-known b is =
      forward-is blocks numbered (number_in b.held) ∙ ap (option_and_then (λ b. forward_in b.held)) is

  -- an object of number 0 hands nothing on
  first-answers : (h : Held) → HandsDown h → number_in h ≤ 0 → is_forwarder h ≡ false
  first-answers (Data bytes) less few = refl
  first-answers (Object o iface) less few = refl
  first-answers (Forwarder o iface target own) less few = absurd (omega (arith, less, few))

  no-forward : (h : Held) → is_forwarder h ≡ false → forward_in h ≡ None
  no-forward (Data bytes) is = refl
  no-forward (Object o iface) is = refl
  no-forward (Forwarder o iface target own) is = absurd (false≢true (sym is))

  lower : (h : Held) → HandsDown h → (t : Block) → target_in blocks h ≡ Some t
      → (object_numbered blocks (number_in t.held) ≡ Some t) × HandsDown t.held × (number_in t.held < number_in h)
  lower (Data bytes) less t is = absurd (none-some t is)
  lower (Object o iface) less t is = absurd (none-some t is)
  lower (Forwarder o iface target own) less t is =
      let so = numbered-so blocks down target t is in
      (ap (object_numbered blocks) so.0 ∙ is, so.1, omega (arith, so.0, less))

  within : (n : ℕ) (conv : Conv) (b : Block) → object_numbered blocks (number_in b.held) ≡ Some b
      → HandsDown b.held → number_in b.held ≤ n
      → HasDepth known (number_in b.held) (depth (chain_within n blocks conv b))
  unfolding chain_within
  within zero conv b is less few =
      let answers = first-answers b.held less few in
      none-deep known (number_in b.held) _ (forward-known b is ∙ no-forward b.held answers)
      (depth-cons (record { object = b; conv = conv }) [] ∙ ap {B = ℕ} (λ t. cond t 1 0 + 0) answers)
  within (suc n) conv b is less few =
      one n (conv_behind b.held conv) (number_in b.held) b.held _ (forward-known b is)
      (λ t found.
      let low = lower b.held less t found in
      within n (conv_behind b.held conv) t low.0 low.1 (omega (arith, low.2, few)))
      (depth-cons (record { object = b; conv = conv }) (option_map_or (chain_within n blocks (conv_behind b.held conv)) (target_in blocks b.held) []))

-- so many forwarders stand on the way from an object as on its chain
pub depth-is : (conv : Conv) (view : ObjectsView) (blocks : List Block) → AreLawful conv blocks → AreKnown conv view blocks
    → (by : Conv) (number : ℕ) (b : Block) → object_numbered blocks number ≡ Some b
    → HasDepth view.forwards number (depth (chain_of blocks by b))
depth-is conv view blocks lawful is by number b found =
    let so = numbered-so blocks lawful.down number b found in
    subst (λ k. HasDepth k number (depth (chain_of blocks by b))) (sym is.forwards)
    (subst (λ k. HasDepth (forwards_among blocks) k (depth (chain_of blocks by b))) so.0
    (within blocks lawful.numbered lawful.down (number_in b.held) by b (ap (object_numbered blocks) so.0 ∙ found) so.1 (omega arith)))

-- whether one forwarder more can stand before an object, by the count of those on its way
module _ (conv : Conv) (view : ObjectsView) (state : State) (lawful : AreLawful conv state.blocks)
    (known : AreKnown conv view state.blocks) (by : Conv) (number : ℕ) (b : Block)
    (found : object_numbered state.blocks number ≡ Some b) (count : ℕ)
    (has : HasDepth view.forwards number count) where
  same-depth : depth (chain_of state.blocks by b) ≡ count
  same-depth = one_depth view.forwards number (depth (chain_of state.blocks by b)) count
      (depth-is conv view state.blocks lawful known by number b found) has

  pub is-full : MOST_FORWARDERS ≤ count → has_depth by state b ≡ false
  is-full full = grind (arith, common_steps, same-depth, full)

  is-not-full : count < MOST_FORWARDERS → has_depth by state b ≡ false → ⊥
  is-not-full less is = absurd (grind (arith, common_steps, same-depth, less, is))

  pub unless-full : {R : Type 0} → count < MOST_FORWARDERS → (R → ⊥)
      → (R → has_depth by state b ≡ false) × (has_depth by state b ≡ false → R)
  unless-full less none = (λ r. absurd (none r), λ is. absurd (is-not-full less is))
