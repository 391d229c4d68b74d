use Rattle.std.proofs.Common.{◌≡◌, Some, ap, sym, ◌∙◌}
use Rattle.std.specs.Prelude.{option_and_then}
use Rattle.std.specs.Option.{option_copied}
use Rattle.uuid.specs.Parts.{swap_fields}
use Rattle.call_model.specs.Tables.{iface_with_iid}
use Rattle.call_replies.specs.Blocks.{data_at}
use Rattle.lib_model.specs.Table.{table_of}
use Rattle.script_outs.proofs.interfaces.iface_with_iid_at.Goals as goal

pub returns : goal.returns
returns c = λ held h.
    let table = table_of c.args.typelib.now in
    let found : data_at held c.args.address 16 ≡ Some c.in_ok-bytes.bytes.now =
    sym (c.data_at.ensures.value held h) ∙ ap option_copied c.in_ok-bytes.was in
    c.find_iid.ensures
    ∙ ap (iface_with_iid table) (c.into_bytes.ensures ∙ c.from_bytes_le.ensures ∙ ap swap_fields c.copy_from_slice.ensures.after)
    ∙ sym (ap (λ o. option_and_then (λ bytes. iface_with_iid table (swap_fields bytes)) o) found)
