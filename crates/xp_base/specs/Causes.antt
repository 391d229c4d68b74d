-- Counts of faults, and which answers a count accounts for.
use Rattle.std.specs.Prelude.{ℕ, ◌≡◌, ◌⊎◌, ◌<◌, ◌-◌, ◌^◌, Result, Ok, Err}
use Rattle.xp_base.specs.declared.sources.SourceError.{SourceError}
use Rattle.xp_base.specs.declared.sources.SourceError.TheVariants as source
use Rattle.xp_base.specs.declared.sinks.SinkError.{SinkError}
use Rattle.xp_base.specs.declared.sinks.SinkError.TheVariants as sink
use Rattle.xp_base.specs.declared.run_faults.RunFault.{RunFault}
use Rattle.xp_base.specs.declared.run_faults.RunFault.TheVariants as fault

-- A count of faults rose in a call: it is greater after the call than before, or it stands at the
-- end of its type, where it stays.
abbrev pub Rose : (before after : ℕ) → Type 0
Rose before after = (before < after) ⊎ (after ≡ 2 ^ 64 - 1)

-- A source's call answers `Failed` only where its count of faults rose; on every other answer the
-- count is as before.
abbrev pub SourceCause : {T : Type 0} → (before after : ℕ) → Result T SourceError → Type 0
SourceCause before after (Ok _) = after ≡ before
SourceCause before after (Err source.Failed) = Rose before after
SourceCause before after (Err source.Memory) = after ≡ before

-- A sink's call answers `Failed` only where its count of faults rose; on every other answer the
-- count is as before.
abbrev pub SinkCause : {T : Type 0} → (before after : ℕ) → Result T SinkError → Type 0
SinkCause before after (Ok _) = after ≡ before
SinkCause before after (Err sink.Failed) = Rose before after
SinkCause before after (Err sink.Memory) = after ≡ before

-- a text is cut short as its sink's answer says
abbrev pub run_fault_of : SinkError → RunFault
run_fault_of sink.Failed = fault.Sink
run_fault_of sink.Memory = fault.Memory
