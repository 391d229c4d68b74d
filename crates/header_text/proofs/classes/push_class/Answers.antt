use Rattle.std.proofs.Common.{◌≡◌, ◌≤◌, ◌+◌, ◌++◌, get_or, length, sym, subst, ap, ◌∙◌}
use Rattle.std.specs.Prelude.{OnOk}
use Rattle.std.specs.List.{flat_map}
use Rattle.vtable_layout.specs.Slots.{slots_of_member}
use Rattle.header_text.specs.Header.{class_line}
use Rattle.header_text.specs.Parts.{slots_text}
use Rattle.header_text.proofs.Whole.{class_made, few_own}
use Rattle.header_text.proofs.classes.push_class.Goals as goal

pub push_members-requires : goal.push_members-requires
push_members-requires c =
    let first = get_or c.as_slice-2.result.now c.args.number 0
    in let i = c.index-as_slice-number.result
    in subst (λ members. first + length (flat_map slots_of_member members) ≤ 250)
    (sym c.as_slice-4.ensures)
    (few_own c.args.ifaces.now c.args.slots.now c.args.number first i c.requires.slots
    c.requires.within
    (c.index-as_slice-number.is ∙ ap (λ xs. get_or xs c.args.number i) c.as_slice.ensures)
    (ap (λ xs. get_or xs c.args.number 0) c.as_slice-2.ensures))

pub returns : goal.returns
returns c =
    let ifaces = c.args.ifaces.now
    in let first = get_or c.as_slice-2.result.now c.args.number 0
    in let i = c.index-as_slice-number.result
    in subst (λ t. OnOk c.append-2.result (c.append-2.new.self ≡ t))
    (class_made ifaces c.args.slots.now c.args.number first i c.requires.slots c.requires.within
    (c.index-as_slice-number.is ∙ ap (λ xs. get_or xs c.args.number i) c.as_slice.ensures)
    (ap (λ xs. get_or xs c.args.number 0) c.as_slice-2.ensures)
    c.args.text.now c.in_ok-class_line.field-0 c.push_line.new.text c.append.new.self
    c.push_members.new.text
    (c.in_ok-class_line.ensures ∙ ap (λ n. class_line ifaces n i.parent) c.as_slice-3.ensures)
    c.in_ok-push_line.ensures c.in_ok-append.ensures.ok
    (c.in_ok-push_members.ensures
    ∙ ap (λ ms. c.append.new.self ++ slots_text ifaces first (flat_map slots_of_member ms))
    c.as_slice-4.ensures)) c.append-2.ensures.ok
