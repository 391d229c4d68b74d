-- The classes whose functions have places: the limits that a header keeps.
use Rattle.std.specs.Prelude.{◌+◌, ◌≤◌, All, length}
use Rattle.header_model.specs.declared.decls.Decl.{Decl}
use Rattle.header_model.specs.declared.decls.DeclSlot.{DeclSlot}
use Rattle.header_model.specs.declared.decls.DeclSlot.TheVariants.{Reserved, Method}
use Rattle.header_model.specs.declared.limits.TheConstants.{MAX_ARGUMENTS}

-- a function has at most 257 arguments
abbrev pub IsNarrow : DeclSlot → Type 0
IsNarrow Reserved = Unit {0}
IsNarrow (Method name types) = length types ≤ MAX_ARGUMENTS

-- a class has at most 250 slots, its parents' counted
pub record IsPlaceable (d : Decl) : Type 0 where
  pub room : d.first + length d.slots ≤ 250
  pub narrow : All IsNarrow d.slots
