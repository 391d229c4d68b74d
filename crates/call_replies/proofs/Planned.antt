-- The writes of a rule are those that its items plan.
use Rattle.std.proofs.Common.{◌≡◌, ℕ, List, [], ◌∷◌, ◌++◌, Option, Some, None, refl, sym, ◌∙◌}
use Rattle.std.specs.Prelude.{option_and_then, option_map}
use Rattle.std.proofs.lemmas.Option.{cond_some, none-some, same_Some}
use Rattle.call_model.specs.declared.places.Conv.{Conv}
use Rattle.call_scripts.specs.declared.script.ReplyItem.{ReplyItem}
use Rattle.call_scripts.specs.declared.script.ReplyItem.TheVariants as items
use Rattle.call_replies.specs.Reply.{Asked, Memory, Write, cell_write, data_write, is_lawful, item_writes, lawful, sum_value, writes_of}
use Rattle.call_replies.specs.Writes.{planned, planned_for}

module _ (conv : Conv) (call : Asked) (memory : Memory) where
  lawful-is : (w : Write) (now : List Write) → lawful memory w ≡ Some now → now ≡ w ∷ []
  lawful-is w now is = sym (cond_some (is_lawful memory w) (w ∷ []) now is).1

  item-planned : (item : ReplyItem) (now : List Write) → item_writes conv call memory item ≡ Some now → (value : ℕ) × (now ≡ planned_for conv call item value)
  item-planned (items.Result n) now is = (0, sym (same_Some [] now is))
  item-planned (items.Set k first second) now is = by_sum (sum_value conv call memory first second) is
    where
      by_sum : (o : Option ℕ) → option_and_then (λ value. lawful memory (cell_write conv call k value)) o ≡ Some now → (value : ℕ) × (now ≡ cell_write conv call k value ∷ [])
      by_sum None h = absurd (none-some now h)
      by_sum (Some value) h = (value, lawful-is (cell_write conv call k value) now h)
  item-planned (items.Fill k offset bytes) now is = (0, lawful-is (data_write call k offset bytes) now is)

  pub rule-planned : (rule : List ReplyItem) (writes : List Write) → writes_of conv call memory rule ≡ Some writes → (values : List ℕ) × (writes ≡ planned conv call rule values)
  rule-planned [] writes is = ([], sym (same_Some [] writes is))
  rule-planned (item ∷ rule) writes is =
      by_parts (item_writes conv call memory item) (writes_of conv call memory rule) (λ now. item-planned item now) (λ later. rule-planned rule later) is
    where
      by_parts : (first rest : Option (List Write)) → ((now : List Write) → first ≡ Some now → (value : ℕ) × (now ≡ planned_for conv call item value))
          → ((later : List Write) → rest ≡ Some later → (values : List ℕ) × (later ≡ planned conv call rule values))
          → option_and_then (λ now. option_map (λ later. now ++ later) rest) first ≡ Some writes → (values : List ℕ) × (writes ≡ planned conv call (item ∷ rule) values)
      by_parts None rest f g h = absurd (none-some writes h)
      by_parts (Some now) None f g h = absurd (none-some writes h)
      by_parts (Some now) (Some later) f g h =
          let one = f now refl in let more = g later refl in
          (one.0 ∷ more.0, sym (same_Some (now ++ later) writes h) ∙ (λ i. one.1 i ++ more.1 i))
