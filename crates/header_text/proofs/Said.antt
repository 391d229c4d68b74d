-- What the lines of a header say, and when its classes may follow each other: what the law of
-- headers falls apart into.
use Rattle.std.specs.Prelude.{◌≡◌, ℕ, ◌+◌, ◌≤◌, All, false, List, [], ◌∷◌, ◌++◌, length, map, Some, option_map}
use Rattle.std.specs.List.{enumerate_from, flat_map, list_any}
use Rattle.std.specs.Fmt.{decimal}
use Rattle.call_model.specs.declared.prototypes.Status.{Status}
use Rattle.call_model.specs.declared.prototypes.Status.TheVariants.{Callable, Hidden, NotXpcom, Opaque}
use Rattle.idl_meaning.specs.declared.scope.Scope.{Scope}
use Rattle.idl_meaning.specs.declared.scope.ScopeIface.{ScopeIface}
use Rattle.vtable_layout.specs.Slots.{Slot, inherited, own_of, parent_of}
use Rattle.prototype_lowering.specs.StaticTable.{status_of}
use Rattle.header_model.specs.declared.decls.Decl.{Decl}
use Rattle.header_model.specs.declared.lines.Line.{Line}
use Rattle.header_model.specs.declared.lines.Line.TheVariants.{Forward, Class, Public, Reserved, Method, Close}
use Rattle.header_model.specs.Declares.{class_begun, decl_of, has_name}
use Rattle.header_text.specs.Types.{name_at}
use Rattle.header_text.specs.Order.{definitions_of}
use Rattle.header_text.specs.Header.{member_name}
use Rattle.header_text.specs.Meaning.{class_number, declared_class, types_in}

abbrev pub said_by : Status → List ScopeIface → ℕ × Slot → Line
said_by Callable ifaces s = Method (member_name s.1.kind s.1.name) (types_in ifaces s.1)
said_by Hidden ifaces s = Reserved (decimal s.0)
said_by NotXpcom ifaces s = Reserved (decimal s.0)
said_by Opaque ifaces s = Reserved (decimal s.0)

abbrev pub said_of : List ScopeIface → ℕ × Slot → Line
said_of ifaces s = said_by (status_of s.1) ifaces s

abbrev pub class_said : List ScopeIface → ℕ → List Line
class_said ifaces k =
    Class (name_at ifaces k) (option_map (name_at ifaces) (parent_of ifaces k)) ∷ Public
    ∷ (map (said_of ifaces) (enumerate_from (length (inherited ifaces k)) (own_of ifaces k))
    ++ Close ∷ [])

abbrev pub forward_said : ScopeIface → Line
forward_said i = Forward

abbrev pub header_said : Scope → List Line
header_said s = map forward_said s.ifaces ++ flat_map (class_said s.ifaces) (definitions_of s.ifaces)

-- The class of an interface may stand behind these: its name is new, its parent is among them with
-- as many slots as the interface inherits, and its slots and their arguments are few enough.
pub record IsFit (ifaces : List ScopeIface) (decls : List Decl) (k : ℕ) : Type 0 where
  pub new : list_any (has_name (name_at ifaces k)) decls ≡ false
  pub begins : decl_of decls (name_at ifaces k) (option_map (name_at ifaces) (parent_of ifaces k))
      ≡ Some (class_begun (name_at ifaces k) (option_map (class_number ifaces) (parent_of ifaces k))
      (length (inherited ifaces k)))
  pub room : length (inherited ifaces k) + length (own_of ifaces k) ≤ 250
  pub narrow : All (λ s. length (types_in ifaces s) ≤ 257) (own_of ifaces k)

-- each may, behind those before it
unfoldable pub AllFit : List ScopeIface → List Decl → List ℕ → Type 0
AllFit ifaces decls [] = Unit {0}
AllFit ifaces decls (k ∷ more) =
    IsFit ifaces decls k × AllFit ifaces (decls ++ declared_class ifaces k ∷ []) more
