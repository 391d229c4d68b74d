-- A whole script runs from the empty state.
use Rattle.std.proofs.Common.{◌≡◌, [], Result, Ok, Err, OnErr, OnOk, refl, sym, subst}
use Rattle.std.proofs.lemmas.List.{append-nil}
use Rattle.call_model.specs.declared.places.Conv.{Conv}
use Rattle.call_model.specs.declared.tables.Table.{Table}
use Rattle.object_memory.specs.Layout.{vtable}
use Rattle.object_memory.specs.Memory.{MachineView, new_machine}
use Rattle.script_meaning.specs.Lawful.{IsLawful}
use Rattle.script_objects.specs.Known.{AreKnown}
use Rattle.script_meaning.specs.State.{empty}
use Rattle.script_stage.specs.declared.stages.Stage.{Stage}
use Rattle.script_stage.specs.Standing.{Stands}
use Rattle.begun_calls.specs.Calling.{IsAt}
use Rattle.suited_rules.proofs.Suited.{starts-suited}

pub at-start : (table : Table) (stage : Stage) → Stands stage empty → IsAt table stage empty
at-start table stage stands = record { stands = stands; suited = starts-suited table }

-- what holds of each outcome
pub on-ok : {T E P Q : Type 0} (result : Result T E) → OnOk result P → (P → Q) → OnOk result Q
on-ok (Ok v) holds leads = leads holds
on-ok (Err e) holds leads = tt

pub on-err : {T E P Q : Type 0} (result : Result T E) → OnErr result P → (P → Q) → OnErr result Q
on-err (Ok v) holds leads = tt
on-err (Err e) holds leads = leads holds

-- on a new machine in the place of a stage's own
pub on-new : (conv : Conv) (stage : Stage) (m : MachineView) → m ≡ new_machine conv
    → stage.machine.conv ≡ conv → Stands stage empty → Stands (record stage { machine = m }) empty
on-new conv stage m is same stands =
    subst (λ (m : MachineView). Stands (record stage { machine = m }) empty) (sym is)
    (record {
      lawful = subst (λ c. IsLawful c empty) same stands.lawful;
      holds = record {
        heap = record { memory = sym (append-nil (vtable conv)); blocks = refl; objects = refl };
        placed = tt;
      };
      cells = refl;
      blocks = stands.blocks;
      variables = stands.variables;
      objects = subst (λ c. AreKnown c stage.objects []) same stands.objects;
      rules = stands.rules;
      context = stands.context;
    })
