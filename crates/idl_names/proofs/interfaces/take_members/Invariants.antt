use Rattle.std.proofs.Common.{◌≡◌, ◌≤◌, suc, ◌++◌, drop, length}
use Rattle.idl_meaning.specs.Meaning.{nothing}
use Rattle.idl_meaning.specs.Scopes as scopes
use Rattle.idl_meaning.specs.Faults as spec
use Rattle.idl_meaning.specs.Counted.{AreCountedMembers}
use Rattle.idl_names.specs.Tables.{known}
use Rattle.idl_names.specs.Views.{inside_with}
use Rattle.idl_names.proofs.interfaces.take_members.Given as goal

abbrev pub invariant-loop-i : goal.invariant-loop-i
invariant-loop-i l = record {
  same_faults : spec.member_faults l.file l.decl 1 (inside_with l.around nothing) l.members
      ≡ spec.member_faults l.file l.decl (suc l.i) (inside_with l.around (known l.taken.own)) (drop l.i l.members);
  same_made : scopes.members_made 1 (inside_with l.around nothing) l.members
      ≡ l.taken.made ++ scopes.members_made (suc l.i) (inside_with l.around (known l.taken.own)) (drop l.i l.members);
  same_own : (scopes.inside_all (inside_with l.around nothing) l.members).own
      ≡ (scopes.inside_all (inside_with l.around (known l.taken.own)) (drop l.i l.members)).own;
  counted : AreCountedMembers (drop l.i l.members);
  within : l.i ≤ length l.members;
}
