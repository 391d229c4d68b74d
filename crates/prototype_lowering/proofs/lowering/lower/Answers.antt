use Rattle.std.proofs.Common.{◌^◌, ◌<◌, List, All, length, rules, sym, subst, ap, ◌∙◌, arith}
use Rattle.idl_meaning.specs.declared.scope.ScopeIface.{ScopeIface}
use Rattle.lib_model.specs.Table.{table_of}
use Rattle.lib_model.specs.Valid.{IsValid}
use Rattle.prototype_lowering.specs.Limits.{KeepsLimits}
use Rattle.prototype_lowering.specs.Limits as limits
use Rattle.prototype_lowering.proofs.Sayable.{few_members}
use Rattle.prototype_lowering.proofs.TableLaw.{table_law}
use Rattle.prototype_lowering.proofs.Validity.{library_valid}
use Rattle.prototype_lowering.proofs.lowering.lower.Goals as goal

pub find_wide-requires-clause-few_members : goal.find_wide-requires-clause-few_members
find_wide-requires-clause-few_members c =
    let P : List ScopeIface → Type 0 = All (λ (i : ScopeIface). length i.members < 2 ^ 32)
    in subst P (sym c.as_slice.ensures) (few_members c.args.scope.now c.requires.accepted)

pub returns-clause-valid : goal.returns-clause-valid
returns-clause-valid c =
    let keeps : KeepsLimits c.args.scope.now = record {
      narrow = search rules;
      few = omega arith;
      few_items = sym (ap limits.has_too_many_items c.in_ok-library.ensures)
          ∙ sym c.has_too_many_items.ensures ∙ c.if-has_too_many_items.false;
      few_slots = c.requires.slots.few;
    }
    in subst IsValid (sym c.in_ok-library.ensures)
    (library_valid c.args.scope.now c.requires.accepted keeps)

pub returns-clause-table : goal.returns-clause-table
returns-clause-table c =
    ap table_of c.in_ok-library.ensures ∙ table_law c.args.scope.now c.requires.accepted
