use Rattle.std.proofs.Common.{◌≡◌, ◌+◌, length, rules}
use Rattle.std.specs.Prelude.{IfOk}
use Rattle.lib_model.specs.Emit.{emit, pool_place}
use Rattle.lib_model.proofs.EmitDenotes.{denoted}
use Rattle.lib_model.proofs.FileSize.{length_directory, length_emit}
use Rattle.typelib_writer.proofs.FitFacts.{library_fits}
use Rattle.typelib_writer.proofs.file.write.Goals as goal

pub put_interfaces-requires : goal.put_interfaces-requires
put_interfaces-requires c = rw c.as_slice-ifaces.ensures (library_fits c.args.lib.now c.requires)

pub join-requires : goal.join-requires
join-requires c = rw (c.in_ok-parts.ensures.directory, c.as_slice-ifaces.ensures) (length_directory c.args.lib.now c.requires)

pub returns-clause-short : goal.returns-clause-short
returns-clause-short c =
    let len : length (emit c.args.lib.now) ≡ pool_place (length c.as_slice-ifaces.result.now) + length c.in_ok-parts.parts.pool =
    rw (c.in_ok-parts.ensures.pool, c.as_slice-ifaces.ensures) (length_emit c.args.lib.now c.requires)
    in rw len c.join.ensures.short

pub returns-clause-too_long : goal.returns-clause-too_long
returns-clause-too_long c =
    let len : length (emit c.args.lib.now) ≡ pool_place (length c.as_slice-ifaces.result.now) + length c.in_ok-parts.parts.pool =
    rw (c.in_ok-parts.ensures.pool, c.as_slice-ifaces.ensures) (length_emit c.args.lib.now c.requires)
    in rw len c.join.ensures.too_long

pub returns-clause-denotes : goal.returns-clause-denotes
unfolding emit
returns-clause-denotes c =
    let written : IfOk c.join.result (λ bytes. bytes ≡ emit c.args.lib.now) = search rules
    in denoted c.args.lib.now c.join.result c.requires written (returns-clause-short c)
