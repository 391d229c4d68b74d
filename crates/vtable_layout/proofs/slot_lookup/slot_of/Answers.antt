use Rattle.std.proofs.Common.{◌≡◌, ◌+◌, ◌<◌, ◌≤◌, List, Some, length, min, take, ap, sym, ◌∙◌, arith}
use Rattle.std.specs.List.{flat_map}
use Rattle.idl_meaning.specs.declared.scope.ScopeMember.{ScopeMember}
use Rattle.vtable_layout.specs.Slots.{inherited, slots_of_member}
use Rattle.vtable_layout.proofs.Climbing.{few_before, found_slot}
use Rattle.vtable_layout.proofs.slot_lookup.slot_of.Goals as goal

pub overflow_add-result : goal.overflow_add-result
overflow_add-result c =
    let ifaces = c.args.scope.now.ifaces
    in let members = c.in-Some.holder.now.members
    in let before =
    ap (λ (ms : List ScopeMember).
    min 251 (length (flat_map slots_of_member (take c.args.member ms)))) c.as_slice.ensures
    in let first : c.count_at.result ≡ length (inherited ifaces c.args.iface) =
    c.count_at.ensures ∙ c.requires.first.each c.args.iface c.in-Some.ensures.within
    in let few : length (inherited ifaces c.args.iface) + length
    (flat_map slots_of_member (take c.args.member members)) ≤ 250 =
    few_before ifaces c.args.iface c.args.member c.in-Some.holder.now
    (c.requires.few c.args.iface c.in-Some.ensures.within) (sym c.in-Some.ensures.value)
    in omega (arith, c.count_slots-before.ensures, before)

pub returns : goal.returns
returns c =
    let ifaces = c.args.scope.now.ifaces
    in let members = c.in-Some.holder.now.members
    in let before =
    ap (λ (ms : List ScopeMember).
    min 251 (length (flat_map slots_of_member (take c.args.member ms)))) c.as_slice.ensures
    in let first : c.count_at.result ≡ length (inherited ifaces c.args.iface) =
    c.count_at.ensures ∙ c.requires.first.each c.args.iface c.in-Some.ensures.within
    in let few : length (inherited ifaces c.args.iface) + length
    (flat_map slots_of_member (take c.args.member members)) ≤ 250 =
    few_before ifaces c.args.iface c.args.member c.in-Some.holder.now
    (c.requires.few c.args.iface c.in-Some.ensures.within) (sym c.in-Some.ensures.value)
    in let sum : c.count_at.result + c.count_slots-before.result
    ≡ length (inherited ifaces c.args.iface) + length
    (flat_map slots_of_member (take c.args.member members)) =
    omega (arith, c.count_slots-before.ensures, before)
    in let some : 0 < length (slots_of_member c.in-Some-get.found.now) =
    omega (arith, c.member_slots.ensures c.in-Some-get.found.now.name)
    in ap Some sum
    ∙ sym (found_slot ifaces c.args.iface c.args.member c.in-Some.holder.now
    c.in-Some-get.found.now (sym c.in-Some.ensures.value) (sym c.in-Some-get.ensures.value)
    some)
