use Rattle.script_tests.proofs.stages.add_blocks.Goals as goal

-- after each step the stage stands for the state that the step leaves
pub add_object-requires : goal.add_object-requires
add_object-requires c = (_, (c.in_ok-data.ensures _ c.requires.1).stands)

pub add_forwarder-requires : goal.add_forwarder-requires
add_forwarder-requires c = (
  _,
  (c.in_ok-object.ensures _ (c.in_ok-data.ensures _ c.requires.1).stands).stands,
)

pub poke-requires : goal.poke-requires
poke-requires c = (
  _,
  (c.in_ok-proxy.ensures _
      (c.in_ok-object.ensures _ (c.in_ok-data.ensures _ c.requires.1).stands).stands).stands,
)
