-- A library of one interface, which has no parent, is valid where the interface is.
use Rattle.std.proofs.Common.{◌≡◌, ℕ, zero, suc, ◌<◌, ◌≤◌, [], ◌∷◌, ap, arith, refl, sym, subst}
use Rattle.std.specs.Prelude.{All}
use Rattle.std.proofs.lemmas.List.Sums.{sum_by-cons}
use Rattle.lib_model.specs.declared.contents.Iface.{Iface}
use Rattle.lib_model.specs.Valid.{IsChain, IsIface, IsValid, chain_of, first_of_chain, iface_items, items_in, parent_in, slots_in}

-- the chain of the one interface is that interface
chain_alone : (i : Iface) (n : ℕ) → parent_in i.body ≡ 0
    → first_of_chain (i ∷ []) (suc (suc n)) 1 ≡ 1 ∷ []
unfolding first_of_chain
chain_alone i n none = rw none refl

chain_ok : (i : Iface) (number : ℕ) → parent_in i.body ≡ 0 → slots_in i.body ≤ 250 → 0 < number
    → number ≤ 1 → IsChain (i ∷ []) number
chain_ok i number none few above below =
    let one : number ≡ 1 = omega arith
    in let alone : chain_of (i ∷ []) 1 ≡ 1 ∷ [] = chain_alone i 249 none
    in let P : ℕ → Type 0 = IsChain (i ∷ [])
    in subst P (sym one)
    (record { short = rw alone (omega arith); few_slots = rw alone (omega arith) })

pub all_alone : {A : Type 0} (P : A → Type 0) (x : A) → P x → All P (x ∷ [])
all_alone P x holds zero d h = holds
all_alone P x holds (suc k) d h = absurd (omega (arith, h))

pub alone_valid : (i : Iface) → IsIface (i ∷ []) i → parent_in i.body ≡ 0 → slots_in i.body ≤ 250
    → items_in i.body ≤ 65535 → IsValid (record { ifaces = i ∷ [] })
alone_valid i fine none few few_items = record {
  few = omega arith;
  ifaces = all_alone (IsIface (i ∷ [])) i fine;
  chains = λ number above below. chain_ok i number none few above below;
  few_items = omega (arith, few_items, sum_by-cons iface_items i []);
}
