use Rattle.std.proofs.Common.{◌∙◌, option_map}
use Rattle.idl_names.specs.Bindings.{bound_of}
use Rattle.idl_names.specs.Tables.{known}
use Rattle.idl_names.proofs.Learned.{learns-mapped}
use Rattle.idl_names.proofs.state.bind.Goals as goal

pub returns : goal.returns
returns c = (λ j n. option_map bound_of (c.in_ok-put.ensures j n)) ∙ learns-mapped bound_of (known c.args.names.now) c.args.name.now c.args.binding
