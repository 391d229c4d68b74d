-- Which errors of a line the errors of the layers below are.
use Rattle.object_memory.specs.declared.errors.HeapError.{HeapError}
use Rattle.object_memory.specs.declared.errors.HeapError.TheVariants as heap
use Rattle.proxy_objects.specs.declared.errors.ForwardError.{ForwardError}
use Rattle.proxy_objects.specs.declared.errors.ForwardError.TheVariants as forward
use Rattle.transcript_text.specs.declared.refusals.Refusal.TheVariants as refusal
use Rattle.script_stage.specs.declared.errors.StepError.{StepError}
use Rattle.script_stage.specs.declared.errors.StepError.TheVariants.{Refused, Memory}

abbrev pub of_heap : HeapError → StepError
of_heap heap.Full = Refused refusal.Heap
of_heap heap.Memory = Memory

abbrev pub of_forward : ForwardError → StepError
of_forward forward.Depth = Refused refusal.Depth
of_forward forward.Memory = Memory
