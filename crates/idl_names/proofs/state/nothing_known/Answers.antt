use Rattle.std.proofs.Common.{length, option_map}
use Rattle.idl_names.specs.Bindings.{bound_of}
use Rattle.idl_names.specs.Views.{seen}
use Rattle.idl_names.proofs.state.nothing_known.Goals as goal

pub returns : goal.returns
returns c = λ j. record {
  names = λ name. option_map bound_of (c.new.ensures j name);
  iids = c.new-2.ensures j;
  ifaces = c.new-3.ensures.items j;
  defined = length (c.new-4.ensures j);
  constants = seen (c.new-4.ensures j);
}
