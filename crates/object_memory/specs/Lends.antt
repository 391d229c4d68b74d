-- What a machine ends as, once a `&mut` to its frame has ended.
use Rattle.std.specs.Borrow.{Fml, MutBor, Lends}
use Rattle.call_model.specs.Values.{FrameView}
use Rattle.object_memory.specs.Memory.{MachineView}
use Rattle.object_memory.specs.contracts.frame.Frame as Frame
use Rattle.object_memory.specs.contracts.machine.Machine as Machine

abbrev pub with_frame : MachineView → FrameView → MachineView
with_frame m frame = record m { frame = frame }

abbrev pub lends_frame : MutBor MachineView → MutBor FrameView → Fml
lends_frame s r = Lends Machine.the_row Frame.the_row s r (with_frame s.now)
