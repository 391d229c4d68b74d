-- The slots of an interface stand in all that descend from it.
use Rattle.std.proofs.Common.{◌≡◌, ◌<◌, ℕ, zero, suc, ◌+◌, ◌==◌, ◌||◌, Bool, true, false, List, [], ◌∷◌, ◌++◌, length, Option, Some, slice_get, ap, refl, sym, subst, ◌∙◌, arith}
use Rattle.std.specs.List.{list_any}
use Rattle.std.proofs.lemmas.Bool.{false≢true}
use Rattle.std.proofs.lemmas.Grind.{common_steps}
use Rattle.std.proofs.lemmas.Option.{none-some}
use Rattle.call_model.specs.declared.tables.Table.{Table}
use Rattle.call_model.specs.declared.tables.TableSlot.{TableSlot}
use Rattle.call_model.specs.Tables.{HasShortLineage, descends_from, iface_at, lineage_within, own_slots, parent_in, parent_of, slots_of}
use Rattle.call_model.proofs.Lineages.{has-slots-of-parent}

get-front : {X : Type 0} (xs ys : List X) (i : ℕ) (x : X) → slice_get xs i ≡ Some x
    → slice_get (xs ++ ys) i ≡ Some x
get-front [] ys i x is = absurd (none-some x is)
get-front (y ∷ xs) ys zero x is = is
get-front (y ∷ xs) ys (suc i) x is = get-front xs ys i x is

module _ (table : Table) (short : (n : ℕ) → HasShortLineage table n) (from : ℕ) where
  -- an entry of a slot of the ancestor
  abbrev Has : ℕ → (s : ℕ) → TableSlot → Type 0
  Has n s e = slice_get (slots_of table n) s ≡ Some e

  by-parent : (n s : ℕ) (e : TableSlot) → Has (parent_of table n) s e → Has n s e
  by-parent n s e has =
      subst (λ slots. slice_get slots s ≡ Some e)
      (sym (has-slots-of-parent table n (short n)).slots)
      (get-front (slots_of table (parent_of table n)) (own_slots table n) s e has)

  same-number : (n : ℕ) → (n == from) ≡ true → n ≡ from
  same-number n is = grind (arith, common_steps, is)

  within : (m n : ℕ) → list_any (λ j. j == from) (lineage_within table.ifaces m n) ≡ true
      → (s : ℕ) (e : TableSlot) → Has from s e → Has n s e
  unfolding lineage_within
  within zero n is s e has = absurd (false≢true is)
  within (suc m) zero is s e has = absurd (false≢true is)
  within (suc m) (suc k) is s e has =
      by_test (λ any. within m (parent_of table (suc k)) any s e has) (suc k == from) refl is
    where
      by_test : (list_any (λ j. j == from) (lineage_within table.ifaces m (parent_of table (suc k)))
          ≡ true → Has (parent_of table (suc k)) s e) → (t : Bool)
          → (suc k == from) ≡ t
          → t || list_any (λ j. j == from) (lineage_within table.ifaces m (parent_in (iface_at table.ifaces (suc k)))) ≡ true
          → Has (suc k) s e
      by_test above true same any = subst (λ n. Has n s e) (sym (same-number (suc k) same)) has
      by_test above false other any = by-parent (suc k) s e (above any)

  pub descended : (n : ℕ) → descends_from table n from ≡ true → (s : ℕ) (e : TableSlot)
      → slice_get (slots_of table from) s ≡ Some e → slice_get (slots_of table n) s ≡ Some e
  descended n is s e has = within 251 n is s e has
