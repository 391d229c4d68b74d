-- The values of a rule, found item by item, and its writes, made item by item.
use Rattle.std.proofs.Common.{◌≡◌, ℕ, ◌+◌, ◌<◌, List, [], ◌∷◌, ◌++◌, length, take, drop, get_or, Option, Some, None, refl, sym, ap, subst, ◌∙◌, arith, append_assoc, length-take}
use Rattle.std.specs.Prelude.{option_and_then, option_map, slice_set}
use Rattle.std.proofs.lemmas.List.{append-nil, drop_more, take-append-drop, take_more, take_more_set}
use Rattle.std.proofs.lemmas.List.Sums.{fold-append}
use Rattle.call_model.specs.declared.places.Conv.{Conv}
use Rattle.call_scripts.specs.declared.script.ReplyItem.{ReplyItem}
use Rattle.object_memory.specs.Memory.{MachineView}
use Rattle.object_memory.specs.Memory as machines
use Rattle.call_replies.specs.Reply.{Asked, Memory, Write, item_writes, writes_of}
use Rattle.call_replies.specs.Writes.{after_writes, planned, planned_for}

-- the writes of one part and then of another, where both have theirs
abbrev joined : Option (List Write) → Option (List Write) → Option (List Write)
joined first rest = option_and_then (λ now. option_map (λ later. now ++ later) rest) first

joined-assoc : (a b c : Option (List Write)) → joined a (joined b c) ≡ joined (joined a b) c
joined-assoc None b c = refl
joined-assoc (Some x) None c = refl
joined-assoc (Some x) (Some y) None = refl
joined-assoc (Some x) (Some y) (Some z) = ap Some (sym (append_assoc x y z))

joined-nothing : (b : Option (List Write)) → joined (Some []) b ≡ b
joined-nothing None = refl
joined-nothing (Some y) = refl

joined-end : (a : Option (List Write)) → joined a (Some []) ≡ a
joined-end None = refl
joined-end (Some x) = ap Some (append-nil x)

module _ (conv : Conv) (call : Asked) where
  pub planned-append : (front back : List ReplyItem) (early late : List ℕ) → length front ≡ length early
      → planned conv call (front ++ back) (early ++ late) ≡ planned conv call front early ++ planned conv call back late
  planned-append [] back [] late same = refl
  planned-append [] back (v ∷ early) late same = absurd (omega (arith, same))
  planned-append (item ∷ front) back [] late same = absurd (omega (arith, same))
  planned-append (item ∷ front) back (v ∷ early) late same =
      ap (λ ws. planned_for conv call item v ++ ws) (planned-append front back early late (omega (arith, same)))
      ∙ sym (append_assoc (planned_for conv call item v) (planned conv call front early) (planned conv call back late))

  writes_of-append : (memory : Memory) (front back : List ReplyItem)
      → writes_of conv call memory (front ++ back) ≡ joined (writes_of conv call memory front) (writes_of conv call memory back)
  writes_of-append memory [] back = sym (joined-nothing (writes_of conv call memory back))
  writes_of-append memory (item ∷ front) back =
      ap (joined (item_writes conv call memory item)) (writes_of-append memory front back)
      ∙ joined-assoc (item_writes conv call memory item) (writes_of conv call memory front) (writes_of conv call memory back)

  -- an item that has no writes leaves the rule none
  pub none-found : (memory : Memory) (front : List ReplyItem) (item : ReplyItem) (back : List ReplyItem) (ws : List Write)
      → writes_of conv call memory front ≡ Some ws → item_writes conv call memory item ≡ None → writes_of conv call memory (front ++ item ∷ back) ≡ None
  none-found memory front item back ws is none =
      writes_of-append memory front (item ∷ back)
      ∙ ap (λ a. joined a (writes_of conv call memory (item ∷ back))) is
      ∙ ap (λ b. joined (Some ws) (joined b (writes_of conv call memory back))) none

  -- one more item, and its value
  pub more-found : (memory : Memory) (front : List ReplyItem) (item : ReplyItem) (early : List ℕ) (v : ℕ) → length front ≡ length early
      → writes_of conv call memory front ≡ Some (planned conv call front early) → item_writes conv call memory item ≡ Some (planned_for conv call item v)
      → writes_of conv call memory (front ++ item ∷ []) ≡ Some (planned conv call (front ++ item ∷ []) (early ++ v ∷ []))
  more-found memory front item early v same is one =
      writes_of-append memory front (item ∷ [])
      ∙ ap (λ a. joined a (writes_of conv call memory (item ∷ []))) is
      ∙ ap (λ b. joined (Some (planned conv call front early)) (joined b (Some []))) one
      ∙ ap (λ b. joined (Some (planned conv call front early)) b) (joined-end (Some (planned_for conv call item v)))
      ∙ ap Some (ap (λ ws. planned conv call front early ++ ws) (sym (append-nil (planned_for conv call item v))) ∙ sym (planned-append front (item ∷ []) early (v ∷ []) same))

  -- the same at a place of a rule
  pub none-found-at : (memory : Memory) (rule : List ReplyItem) (i : ℕ) (item : ReplyItem) (ws : List Write) → i < length rule → get_or rule i item ≡ item
      → writes_of conv call memory (take i rule) ≡ Some ws → item_writes conv call memory item ≡ None → writes_of conv call memory rule ≡ None
  none-found-at memory rule i item ws lt is found none =
      let whole : take i rule ++ item ∷ drop (i + 1) rule ≡ rule
      = ap (λ l. take i rule ++ l) (sym (drop_more rule i item lt ∙ ap (λ x. x ∷ drop (i + 1) rule) is)) ∙ take-append-drop i rule in
      subst (λ l. writes_of conv call memory l ≡ None) whole (none-found memory (take i rule) item (drop (i + 1) rule) ws found none)

  pub more-found-at : (memory : Memory) (rule : List ReplyItem) (sums : List ℕ) (i : ℕ) (item : ReplyItem) (v : ℕ) → i < length rule → length sums ≡ length rule
      → get_or rule i item ≡ item → writes_of conv call memory (take i rule) ≡ Some (planned conv call (take i rule) (take i sums))
      → item_writes conv call memory item ≡ Some (planned_for conv call item v)
      → writes_of conv call memory (take (i + 1) rule) ≡ Some (planned conv call (take (i + 1) rule) (take (i + 1) (slice_set sums i v)))
  more-found-at memory rule sums i item v lt len is found one =
      let front : take (i + 1) rule ≡ take i rule ++ item ∷ [] = take_more rule i item lt ∙ ap (λ x. take i rule ++ x ∷ []) is in
      let early : take (i + 1) (slice_set sums i v) ≡ take i sums ++ v ∷ [] = take_more_set sums i v (omega (arith, lt, len)) in
      let same : length (take i rule) ≡ length (take i sums) = omega (arith, length-take i rule, length-take i sums, lt, len) in
      ap (writes_of conv call memory) front ∙ more-found memory (take i rule) item (take i sums) v same found one
      ∙ ap Some (sym (λ j. planned conv call (front j) (early j)))

  -- the writes of an item, and then those of the items behind it
  pub writes-next : (m : MachineView) (rule : List ReplyItem) (values : List ℕ) (i : ℕ) (item : ReplyItem) (v : ℕ)
      → drop i rule ≡ item ∷ drop (i + 1) rule → drop i values ≡ v ∷ drop (i + 1) values
      → after_writes m (planned conv call (drop i rule) (drop i values))
      ≡ after_writes (after_writes m (planned_for conv call item v)) (planned conv call (drop (i + 1) rule) (drop (i + 1) values))
  writes-next m rule values i item v items numbers =
      (λ j. after_writes m (planned conv call (items j) (numbers j)))
      ∙ fold-append (λ (k : MachineView) (w : Write). machines.written k w.at w.bytes) m (planned_for conv call item v) (planned conv call (drop (i + 1) rule) (drop (i + 1) values))
