-- Lineages of interfaces, and the slots that they give.
use Rattle.std.proofs.Common.{◌≡◌, ℕ, zero, suc, ◌+◌, ◌<◌, ◌≤◌, Bool, true, false, ◌||◌, List, [], ◌∷◌, ◌++◌, length, length-append, ap, sym, ◌∙◌, refl, arith}
use Rattle.std.specs.Prelude.{◌==◌}
use Rattle.std.specs.List.{list_any, sum_by}
use Rattle.std.proofs.lemmas.List.Sums.{sum_by-cons}
use Rattle.std.proofs.lemmas.Grind.{common_steps}
use Rattle.call_model.specs.declared.tables.TableSlot.{TableSlot}
use Rattle.call_model.specs.declared.tables.TableIface.{TableIface}
use Rattle.call_model.specs.declared.tables.Table.{Table}
use Rattle.call_model.specs.Tables.{iface_at, slots_in, parent_in, own_slots, parent_of, lineage_within, lineage_of, HasShortLineage, descends_from, DescendsByParents, slots_within, slots_of, HasSlotsOfParent}

-- a lineage that ends before n has nothing more at n + 1
lineage-ends : (ifaces : List TableIface) (n k : ℕ) → length (lineage_within ifaces (suc n) k) ≤ n
    → lineage_within ifaces (suc n) k ≡ lineage_within ifaces n k
unfolding lineage_within
lineage-ends ifaces zero zero short = refl
lineage-ends ifaces zero (suc k) short = absurd (omega (arith, short))
lineage-ends ifaces (suc n) zero short = refl
lineage-ends ifaces (suc n) (suc k) short =
    ap (λ ks. suc k ∷ ks) (lineage-ends ifaces n (parent_in (iface_at ifaces (suc k))) (omega (arith, short)))

-- a lineage of fewer than n interfaces has ended
lineage-whole : (ifaces : List TableIface) (n k : ℕ) → length (lineage_within ifaces n k) < n
    → lineage_within ifaces (suc n) k ≡ lineage_within ifaces n k
unfolding lineage_within
lineage-whole ifaces zero k short = absurd (omega (arith, short))
lineage-whole ifaces (suc n) zero short = refl
lineage-whole ifaces (suc n) (suc k) short =
    ap (λ ks. suc k ∷ ks) (lineage-whole ifaces n (parent_in (iface_at ifaces (suc k))) (omega (arith, short)))

-- 0 has no slots
no-slots : (ifaces : List TableIface) (n : ℕ) → slots_within ifaces n 0 ≡ []
unfolding slots_within
no-slots ifaces zero = refl
no-slots ifaces (suc n) = ap (λ slots. slots ++ []) (no-slots ifaces n)

slots-end : (ifaces : List TableIface) (n k : ℕ) → length (lineage_within ifaces (suc n) k) ≤ n
    → slots_within ifaces (suc n) k ≡ slots_within ifaces n k
unfolding lineage_within slots_within
slots-end ifaces zero zero short = refl
slots-end ifaces zero (suc k) short = absurd (omega (arith, short))
slots-end ifaces (suc n) zero short = no-slots ifaces (suc (suc n)) ∙ sym (no-slots ifaces (suc n))
slots-end ifaces (suc n) (suc k) short =
    ap (λ slots. slots ++ slots_in (iface_at ifaces (suc k))) (slots-end ifaces n (parent_in (iface_at ifaces (suc k))) (omega (arith, short)))

-- there are as many slots as the interfaces of the lineage have
slots-counted : (ifaces : List TableIface) (n k : ℕ)
    → length (slots_within ifaces n k) ≡ sum_by (λ j. length (slots_in (iface_at ifaces j)))
    (lineage_within ifaces n k)
unfolding lineage_within slots_within
slots-counted ifaces zero k = refl
slots-counted ifaces (suc n) zero = ap length (no-slots ifaces (suc n))
slots-counted ifaces (suc n) (suc k) =
    length-append (slots_within ifaces n (parent_in (iface_at ifaces (suc k)))) (slots_in (iface_at ifaces (suc k)))
    ∙ omega (arith, slots-counted ifaces n (parent_in (iface_at ifaces (suc k))), sum_by-cons (λ j. length (slots_in (iface_at ifaces j))) (suc k) (lineage_within ifaces n (parent_in (iface_at ifaces (suc k)))))

-- the lineage of the parent of one that ends goes one step less far
parent-ends : (table : Table) (number : ℕ) → HasShortLineage table number
    → length (lineage_within table.ifaces 250 (parent_of table number)) ≤ 249
unfolding lineage_within
parent-ends table zero short = omega arith
parent-ends table (suc k) short = omega (arith, short)

pub has-slots-of-parent : (table : Table) (number : ℕ) → HasShortLineage table number
    → HasSlotsOfParent table number
unfolding slots_within
has-slots-of-parent table number short =
    let parent : slots_of table (parent_of table number) ≡ slots_within table.ifaces 249 (parent_of table number) = slots-end table.ifaces 249 (parent_of table number) (parent-ends table number short) in
    let slots : slots_of table number ≡ slots_of table (parent_of table number) ++ own_slots table number = ap (λ slots. slots ++ own_slots table number) (sym parent) in
    record {
      slots = slots;
      ends = ap length slots ∙ length-append (slots_of table (parent_of table number)) (own_slots table number);
      counted = slots-counted table.ifaces 250 number ∙ ap (sum_by (λ k. length (own_slots table k))) (sym (lineage-ends table.ifaces 250 number short));
    }

-- no lineage has 0
zero-is-none : (ifaces : List TableIface) (n k : ℕ)
    → list_any (λ j. j == 0) (lineage_within ifaces n k) ≡ false
unfolding lineage_within
zero-is-none ifaces zero k = refl
zero-is-none ifaces (suc n) zero = refl
zero-is-none ifaces (suc n) (suc k) =
    grind (arith, common_steps, zero-is-none ifaces n (parent_in (iface_at ifaces (suc k))))

itself : (table : Table) (number : ℕ) → 0 < number → descends_from table number number ≡ true
unfolding lineage_within
itself table zero some = absurd (omega (arith, some))
itself table (suc k) some = grind (arith, common_steps)

through : (table : Table) (number : ℕ) → HasShortLineage table number → 0 < number → (from : ℕ)
    → descends_from table number from ≡ (number == from) || descends_from table
    (parent_of table number) from
unfolding lineage_within
through table zero short some from = absurd (omega (arith, some))
through table (suc k) short some from =
    ap (λ ks. (suc k == from) || list_any (λ j. j == from) ks) (sym (lineage-whole table.ifaces 250 (parent_of table (suc k)) (omega (arith, parent-ends table (suc k) short))))

pub descends-by-parents : (table : Table) (number : ℕ) → DescendsByParents table number
descends-by-parents table number = record {
  none = zero-is-none table.ifaces 251 number;
  itself = itself table number;
  through = through table number;
}
