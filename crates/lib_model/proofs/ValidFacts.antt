-- What follows from a valid library.
use Rattle.std.proofs.Common.{◌≡◌, ℕ, suc, true, ltb-true, ◌<◌, ◌≤◌, List, length, get_or, ap, arith, sum_by, option_and_then}
use Rattle.std.specs.Prelude.{nat_lt}
use Rattle.std.specs.List.{list_all}
use Rattle.std.proofs.lemmas.List.Sums.{AllPass-from_list_all, sum_by-cons}
use Rattle.std.proofs.lemmas.Option.{slice_get-get_or}
use Rattle.lib_model.specs.declared.contents.Library.{Library}
use Rattle.lib_model.specs.declared.contents.Iface.{Iface}
use Rattle.lib_model.specs.Valid.{IsName, IsValid, first_of_chain, own_slots, parent_of, slots_in}

slots_first : (ifaces : List Iface) (n k : ℕ)
    → own_slots ifaces (suc k) ≤ sum_by (own_slots ifaces) (first_of_chain ifaces (suc n) (suc k))
unfolding first_of_chain
slots_first ifaces n k =
    omega (
      arith,
      sum_by-cons (own_slots ifaces) (suc k) (first_of_chain ifaces n (parent_of ifaces (suc k))),
    )

-- an interface has at most 250 methods of its own
pub few_methods : (lib : Library) (k : ℕ) (d : Iface) → IsValid lib → k < length lib.ifaces
    → slots_in (get_or lib.ifaces k d).body ≤ 250
few_methods lib k d valid within =
    let own : own_slots lib.ifaces (suc k) ≡ slots_in (get_or lib.ifaces k d).body = ap (λ o. slots_in (option_and_then (λ (i : Iface). i.body) o)) (slice_get-get_or lib.ifaces k d within)
    in omega (
      arith,
      own,
      slots_first lib.ifaces 250 k,
      (valid.chains (suc k) (omega arith) (omega arith)).few_slots,
    )

-- bytes are a name where a test of each finds none that is 0
pub name_from_bytes : (name : List ℕ) → 0 < length name → length name ≤ 255
    → list_all (λ b. nat_lt 0 b) name ≡ true → IsName name
name_from_bytes name present short none = record {
  present = present;
  short = short;
  no_zero = λ k d h.
      ltb-true 0 (get_or name k d) (AllPass-from_list_all (λ b. nat_lt 0 b) name none k d h);
}
