use Rattle.std.proofs.Common.{◌≡◌, ◌||◌, cond, true, Some, None, sym, subst, ap, ◌∙◌}
use Rattle.std.specs.Option.{option_map}
use Rattle.std.specs.Prelude.{slice_index}
use Rattle.call_model.specs.Values.{canon, own_len}
use Rattle.invoke_by_index.specs.Methods.{prototype}
use Rattle.object_memory.specs.Memory.{cell_bytes}
use Rattle.object_memory.specs.Widths.{bytes_of}
use Rattle.object_memory.proofs.Stores.{bytes_of-le}
use Rattle.xp_base.specs.LittleEndian.{number_of}
use Rattle.call_replies.specs.Blocks.{data_at}
use Rattle.call_replies.specs.Reply.{bytes_in_cell, own_len_in, type_in}
use Rattle.call_replies.specs.Writes.{asked_by, have_cells, memory_of}
use Rattle.call_replies.proofs.Plans.{in-cells}
use Rattle.call_replies.proofs.Steps.{mapped-value}
use Rattle.call_replies.proofs.values.in_cell.Goals as goal

pub number_in_cell-requires : goal.number_in_cell-requires
number_in_cell-requires c = λ called.
    let m = c.args.machine.now in let proto = prototype c.args.method.now in
    in-cells m m.conv proto c.args.values.now c.args.position (bytes_of c.of.result)
    (subst (λ t. (t || have_cells m.cells c.args.values.now 0 proto) ≡ true) called c.requires.cells) c.requires.cell (bytes_of-le c.of.result)

pub returns-in-Some : goal.returns-in-Some
returns-in-Some c = λ blocks held.
    let m = c.args.machine.now in let call = asked_by c.args.entered (prototype c.args.method.now) c.args.values.now in
    let at = slice_index c.args.values.now c.args.position in let k = c.args.position in
    let ty = c.type_at-ty.ensures c.args.entered c.args.values.now in
    let n : bytes_of c.of.result ≡ own_len_in m.conv call k = c.of.ensures ∙ (λ i. own_len (c.conv-conv.ensures i) (ty i)) in
    let number : Some c.in-Some.number ≡ option_map number_of (bytes_in_cell m.conv call (memory_of m blocks) k)
    = sym c.in-Some.is ∙ c.number_in_cell.ensures blocks held ∙ ap (λ n. option_map number_of (cond c.args.entered (data_at blocks at n) (Some (cell_bytes m at n)))) n in
    ap Some (c.canonical.ensures.pattern ∙ (λ i. canon (c.conv-conv.ensures i) (ty i) c.in-Some.number))
    ∙ mapped-value m.conv (type_in call k) (bytes_in_cell m.conv call (memory_of m blocks) k) (Some c.in-Some.number) number

pub returns-in-None : goal.returns-in-None
returns-in-None c = λ blocks held.
    let m = c.args.machine.now in let call = asked_by c.args.entered (prototype c.args.method.now) c.args.values.now in
    let at = slice_index c.args.values.now c.args.position in let k = c.args.position in
    let ty = c.type_at-ty.ensures c.args.entered c.args.values.now in
    let n : bytes_of c.of.result ≡ own_len_in m.conv call k = c.of.ensures ∙ (λ i. own_len (c.conv-conv.ensures i) (ty i)) in
    mapped-value m.conv (type_in call k) (bytes_in_cell m.conv call (memory_of m blocks) k) None
    (sym c.in-None.is ∙ c.number_in_cell.ensures blocks held ∙ ap (λ n. option_map number_of (cond c.args.entered (data_at blocks at n) (Some (cell_bytes m at n)))) n)
