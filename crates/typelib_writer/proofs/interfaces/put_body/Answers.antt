use Rattle.std.proofs.Common.{ap, arith, length, length-append}
use Rattle.lib_model.specs.Emit.{member_names}
use Rattle.lib_model.proofs.Sizes.{length_member_names}
use Rattle.typelib_writer.proofs.interfaces.put_body.Goals as goal

pub put_descriptor-requires-clause-names_fit : goal.put_descriptor-requires-clause-names_fit
put_descriptor-requires-clause-names_fit c =
    omega (
      arith,
      c.in_ok-names.ensures.ok,
      ap length c.in_ok-put_member_names.ensures,
      length-append c.args.pool.now (member_names c.args.body.now),
      length_member_names c.args.body.now,
      c.in_ok-descriptor.ensures.short,
    )
