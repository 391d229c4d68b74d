-- What a call that has begun comes to.
use Rattle.std.specs.Prelude.{◌≡◌, ℕ, Bool, List, [], ◌++◌, fold, length, Option, if◌then◌else◌}
use Rattle.std.specs.List.{flat_map}
use Rattle.call_model.specs.declared.places.Conv.{Conv}
use Rattle.call_model.specs.declared.tables.Table.{Table}
use Rattle.call_model.specs.Values.{FrameView}
use Rattle.call_scripts.specs.declared.script.ArgWord.{ArgWord}
use Rattle.descriptor_reader.specs.Views.{MethodOf}
use Rattle.invoke_by_index.specs.Methods.{prototype}
use Rattle.machine_bench.specs.declared.sight.Sight.{Sight}
use Rattle.machine_bench.specs.Seen.{Saw}
use Rattle.transcript_text.specs.Texts.{frame_text, slot_text}
use Rattle.call_replies.specs.Blocks.{Block}
use Rattle.script_meaning.specs.Calls.{Call, learned_at}
use Rattle.script_meaning.specs.Outs.{After, out_line}
use Rattle.script_meaning.specs.State.{State}
use Rattle.script_meaning.specs.Step.{Stepped}
use Rattle.script_outs.specs.Held.{after_on}
use Rattle.script_results.specs.Positions.{cell_positions}
use Rattle.script_chains.specs.declared.begun.Begun.{Begun}
use Rattle.script_stage.specs.declared.stages.Stage.{Stage}
use Rattle.script_stage.specs.Standing.{Stands, known}
use Rattle.begun_calls.specs.Calling.{IsCalling, without_cells}

-- ---- before a call

-- a call with arguments has a cell for each value that it passes, and an enter has none
abbrev pub HasItsCells : Call → Type 0
HasItsCells call = length call.cells ≡ (if call.entered then 0 else length call.proto)

-- the call has begun on the stage, with the cells that it has
pub record CanBeMade (table : Table) (stage : Stage) (state : State) (begun : Begun)
    (method : MethodOf) (call : Call) : Type 0 where
  pub calling : IsCalling table stage state begun method call
  pub cells : HasItsCells call

-- ---- after it

-- the stage stands for the state that was left, under the convention that it had; this is what was
-- written, and the bench saw all
pub record IsMade (old new : Stage) (before after : Option (List Sight)) (text : List ℕ)
    (stepped : Stepped) : Type 0 where
  pub stands : Stands new stepped.state
  pub conv : new.machine.conv ≡ old.machine.conv
  pub text_is : text ≡ stepped.text
  pub saw : Saw before after stepped.sights

-- ---- on the way

-- the lines before the first object is entered; the frame is told where the script did not give it
abbrev pub first_lines : Conv → FrameView → (slot : ℕ) → (entered : Bool) → List ℕ
first_lines conv frame slot entered =
    slot_text slot ++ (if entered then [] else frame_text conv frame)

-- what a stage shows of a call after its reply
abbrev pub shown : Stage → List Block → MethodOf → (values : List ℕ) → After
shown stage held method values = after_on stage.machine held (prototype method) values

-- what came out is told behind what was told; the stage's variables learned it, and no cell is left
pub record CameOut (table : Table) (old new : Stage) (method : MethodOf) (values : List ℕ)
    (words : List ArgWord) (held : List Block) (told tells : List ℕ) : Type 0 where
  pub rest_stays : new ≡ record (without_cells old) { variables = new.variables }
  pub learned : known new.variables
      ≡ fold
      (learned_at old.machine.conv (shown old held method values) words)
      (known old.variables)
      (cell_positions (prototype method))
  pub text : tells
      ≡ told
      ++ flat_map
      (out_line table old.machine.conv (shown old held method values))
      (cell_positions (prototype method))
