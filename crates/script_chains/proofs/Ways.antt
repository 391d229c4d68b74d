-- The way of a call, from one object to the next.
use Rattle.std.proofs.Common.{◌≡◌, ◌<◌, ◌≤◌, ◌∙◌, ℕ, zero, suc, List, [], ◌∷◌, drop, Option, Some, None, option_map, ap, refl, sym, subst, arith}
use Rattle.std.specs.Option.{option_map_or}
use Rattle.std.specs.Prelude.{unwrap_or}
use Rattle.std.proofs.lemmas.Option.{none-some, same_Some, slice_get_within, slice_get-get_or}
use Rattle.call_model.specs.declared.places.Conv.{Conv}
use Rattle.call_replies.specs.Blocks.{Block, Held, Data, Object, Forwarder}
use Rattle.proxy_objects.specs.declared.forward.Forward.{Forward}
use Rattle.script_meaning.specs.Chain.{AllHandDown, HandsDown, chain_of, chain_within, conv_behind, own_or, target_in}
use Rattle.script_meaning.specs.Lawful.{AreLawful}
use Rattle.script_meaning.specs.State.{number_in, object_numbered}
use Rattle.script_meaning.proofs.Ways.{chains-end}
use Rattle.script_objects.specs.Known.{forward_in, kept, objects_among}
use Rattle.script_objects.proofs.Among.{kept-is}
use Rattle.script_objects.proofs.Depths.{numbered-so}
use Rattle.script_chains.specs.Passing.{behind}

-- ---- from stop to stop

first-within : (n : ℕ) (blocks : List Block) (conv : Conv) (b : Block)
    → chain_within n blocks conv b
    ≡ record { object = b; conv = conv } ∷ drop 1 (chain_within n blocks conv b)
unfolding chain_within
first-within zero blocks conv b = refl
first-within (suc n) blocks conv b = refl

-- the first stop is the object that is entered
pub first-stop : (blocks : List Block) (conv : Conv) (b : Block)
    → chain_of blocks conv b ≡ record { object = b; conv = conv } ∷ behind blocks conv b
first-stop blocks conv b = first-within (number_in b.held) blocks conv b

module _ (blocks : List Block) (down : AllHandDown blocks) where
  behind-target : (conv : Conv) (b : Block) → HandsDown b.held
      → behind blocks conv b
      ≡ option_map_or (chain_within (number_in b.held) blocks (conv_behind b.held conv)) (target_in blocks b.held) []
  unfolding chain_within
  behind-target conv b less =
      ap (drop 1) (sym (chains-end blocks down conv b less (suc (number_in b.held)) (omega arith)))

  -- an object that answers is the last
  pub behind-none : (conv : Conv) (b : Block) → HandsDown b.held → target_in blocks b.held ≡ None
      → behind blocks conv b ≡ []
  behind-none conv b less none =
      behind-target conv b less
      ∙ ap (λ t. option_map_or (chain_within (number_in b.held) blocks (conv_behind b.held conv)) t []) none

  -- the way from a forwarder goes on with its target
  pub behind-more : (conv : Conv) (b t : Block) → HandsDown b.held → HandsDown t.held
      → target_in blocks b.held ≡ Some t → number_in t.held ≤ number_in b.held
      → behind blocks conv b
      ≡ record { object = t; conv = conv_behind b.held conv } ∷ behind blocks (conv_behind b.held conv) t
  behind-more conv b t less lower is few =
      behind-target conv b less
      ∙ ap (λ t. option_map_or (chain_within (number_in b.held) blocks (conv_behind b.held conv)) t []) is
      ∙ chains-end blocks down (conv_behind b.held conv) t lower (number_in b.held) few
      ∙ first-stop blocks (conv_behind b.held conv) t

-- ---- targets

-- what is known of the target of a forwarder
pub record Target (blocks : List Block) (b : Block) (forward : Forward) : Type 0 where
  pub block : Block
  pub is : target_in blocks b.held ≡ Some block
  pub object : object_numbered blocks forward.target ≡ Some block
  pub down : HandsDown block.held
  pub lower : number_in block.held ≤ number_in b.held
  pub conv : (conv : Conv) → unwrap_or forward.conv conv ≡ conv_behind b.held conv

own-or : (own : Option Conv) (conv : Conv) → unwrap_or own conv ≡ own_or own conv
own-or None conv = refl
own-or (Some own) conv = refl

no-target : (blocks : List Block) (h : Held) → forward_in h ≡ None → target_in blocks h ≡ None
no-target blocks (Data bytes) is = refl
no-target blocks (Object number iface) is = refl
no-target blocks (Forwarder number iface target own) is = absurd (none-some _ (sym is))

-- a target has a smaller number
pub target-lower : (blocks : List Block) → AllHandDown blocks → (h : Held) → HandsDown h → (t : Block)
    → target_in blocks h ≡ Some t → number_in t.held ≤ number_in h
target-lower blocks all (Data bytes) less t is = absurd (none-some t is)
target-lower blocks all (Object number iface) less t is = absurd (none-some t is)
target-lower blocks all (Forwarder number iface target own) less t is =
    omega (arith, (numbered-so blocks all target t is).0, less)

-- an object that hands nothing on has none
pub none-behind : (conv : Conv) (blocks : List Block) → AreLawful conv blocks
    → (by : Conv) (number : ℕ) (b : Block) → object_numbered blocks number ≡ Some b
    → forward_in b.held ≡ None → behind blocks by b ≡ []
none-behind conv blocks lawful by number b object is =
    behind-none blocks lawful.down by b (numbered-so blocks lawful.down number b object).1 (no-target blocks b.held is)

some-of : {A B : Type 0} (f : A → B) (o : Option A) (y : B) → option_map f o ≡ Some y → (x : A) × (o ≡ Some x)
some-of f None y is = absurd (none-some y is)
some-of f (Some x) y is = (x, refl)

-- all numbers below that of an object are numbers of objects
number-there : (conv : Conv) (blocks : List Block) → AreLawful conv blocks
    → (number : ℕ) (b : Block) → object_numbered blocks number ≡ Some b
    → (k : ℕ) → k < number → (t : Block) × (object_numbered blocks k ≡ Some t)
number-there conv blocks lawful number b is k less =
    let there = kept-is blocks lawful.numbered number ∙ ap (option_map kept) is in
    let long = slice_get_within (objects_among blocks) number (kept b) there in
    let has = slice_get-get_or (objects_among blocks) k (kept b) (omega (arith, less, long)) in
    some-of kept (object_numbered blocks k) _ (sym (kept-is blocks lawful.numbered k) ∙ has)

target-known : (conv : Conv) (blocks : List Block) → AreLawful conv blocks
    → (number : ℕ) (b : Block) → object_numbered blocks number ≡ Some b
    → (h : Held) → HandsDown h → number_in h ≡ number → (forward : Forward) → forward_in h ≡ Some forward
    → (forward.target < number) × (target_in blocks h ≡ object_numbered blocks forward.target)
    × ((by : Conv) → unwrap_or forward.conv by ≡ conv_behind h by)
target-known conv blocks lawful number b object (Data bytes) down same forward is = absurd (none-some forward is)
target-known conv blocks lawful number b object (Object o iface) down same forward is = absurd (none-some forward is)
target-known conv blocks lawful number b object (Forwarder o iface target own) down same forward is =
    let it = same_Some (record { target = target; conv = own }) forward is in
    subst (λ (f : Forward). (f.target < number) × (object_numbered blocks target ≡ object_numbered blocks f.target) × ((by : Conv) → unwrap_or f.conv by ≡ own_or own by)) it
    (omega (arith, down, same), refl, own-or own)

-- a forwarder has its target among the blocks
pub target-of : (conv : Conv) (blocks : List Block) → AreLawful conv blocks
    → (number : ℕ) (b : Block) → object_numbered blocks number ≡ Some b
    → (forward : Forward) → forward_in b.held ≡ Some forward
    → Target blocks b forward
target-of conv blocks lawful number b object forward is =
    let so = numbered-so blocks lawful.down number b object in
    let known = target-known conv blocks lawful number b object b.held so.1 so.0 forward is in
    let there = number-there conv blocks lawful number b object forward.target known.0 in
    let low = numbered-so blocks lawful.down forward.target there.0 there.1 in
    record {
      block = there.0;
      is = known.1 ∙ there.1;
      object = there.1;
      down = low.1;
      lower = omega (arith, low.0, known.0, so.0);
      conv = known.2;
    }
