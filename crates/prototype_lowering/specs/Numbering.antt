-- What the code keeps of a directory, and what it asks of what it lowers.
use Rattle.std.specs.Prelude.{◌≡◌, ℕ, ◌<◌, ◌++◌, List, length, map, nat_eq, slice_get, slice_index, Option, IfSome, All}
use Rattle.std.specs.List.{filter_map, position_or_len}
use Rattle.idl_meaning.specs.declared.scope.Meant.{Meant}
use Rattle.idl_meaning.specs.declared.scope.Meant.TheVariants as meant
use Rattle.idl_meaning.specs.declared.scope.ScopeBody.{ScopeBody}
use Rattle.idl_meaning.specs.declared.scope.ScopeBody.TheVariants as body
use Rattle.idl_meaning.specs.declared.scope.ScopeIface.{ScopeIface}
use Rattle.idl_meaning.specs.declared.scope.ScopeMember.{ScopeMember}
use Rattle.idl_meaning.specs.declared.scope.ScopeParam.{ScopeParam}
use Rattle.lib_model.specs.declared.contents.Body.{Body}
use Rattle.lib_model.specs.declared.contents.Iface.{Iface}
use Rattle.lib_model.specs.declared.contents.Method.{Method}
use Rattle.lib_model.specs.declared.param_types.Param.{Param}
use Rattle.vtable_layout.specs.Slots.{Slot}
use Rattle.prototype_lowering.specs.Directory.{number}
use Rattle.prototype_lowering.specs.Lowering.{body_of, iface_of, method_of, param_of}

-- the number of each interface in a directory, by its number in the scope
abbrev pub IsNumberingOf : List ℕ → List ℕ → Type 0
IsNumberingOf directory numbers =
    (k : ℕ) → k < length numbers → slice_index numbers k ≡ number directory k

-- the number of each interface that the directory has
abbrev pub HasItsNumbers : List ℕ → List ℕ → Type 0
HasItsNumbers directory numbers =
    (k : ℕ) → position_or_len (nat_eq k) directory < length directory
    → slice_index numbers k ≡ number directory k

-- what is so in each directory that these numbers are of
abbrev pub InEachDirectory : List ℕ → (List ℕ → Type 0) → Type 0
InEachDirectory numbers P = (directory : List ℕ) → IsNumberingOf directory numbers → P directory

-- what is lowered from a parameter, from parameters, from a slot and from slots
abbrev pub IsParamOf : List ℕ → ScopeParam → Param → Type 0
IsParamOf numbers p lowered = InEachDirectory numbers (λ d. lowered ≡ param_of d p)

abbrev pub AreParamsOf : List ℕ → List ScopeParam → List Param → Type 0
AreParamsOf numbers ps lowered = InEachDirectory numbers (λ d. lowered ≡ map (param_of d) ps)

abbrev pub IsMethodOf : List ℕ → Slot → Method → Type 0
IsMethodOf numbers s lowered = InEachDirectory numbers (λ d. lowered ≡ method_of d s)

abbrev pub AreMethodsOf : List ℕ → List Slot → List Method → Type 0
AreMethodsOf numbers ss lowered = InEachDirectory numbers (λ d. lowered ≡ map (method_of d) ss)

-- methods, and those of a member behind them
abbrev pub GainsMethodsOf : List ℕ → List Slot → List Method → List Method → Type 0
GainsMethodsOf numbers ss before after =
    InEachDirectory numbers (λ d. after ≡ before ++ map (method_of d) ss)

-- what is lowered from an interface, and what it consists of
abbrev pub IsIfaceOf : List ℕ → ScopeIface → Iface → Type 0
IsIfaceOf numbers i lowered = InEachDirectory numbers (λ d. lowered ≡ iface_of d i)

abbrev pub IsBodyOf : List ℕ → ScopeIface → Body → Type 0
IsBodyOf numbers i lowered = InEachDirectory numbers (λ d. lowered ≡ body_of d i)

-- the interfaces of these numbers
abbrev pub AreIfacesAt : List ℕ → List ScopeIface → List ℕ → List Iface → Type 0
AreIfacesAt numbers ifaces order lowered =
    InEachDirectory numbers (λ d. lowered ≡ map (iface_of d) (filter_map (slice_get ifaces) order))

-- a type whose interface is one of so many
abbrev pub IsKnown : ℕ → Meant → Type 0
IsKnown count (meant.Basic tag) = Unit {0}
IsKnown count (meant.Iface k) = k < count
IsKnown count meant.NsidRef = Unit {0}
IsKnown count meant.NsidPtr = Unit {0}
IsKnown count (meant.StringClass tag) = Unit {0}
IsKnown count meant.JsVal = Unit {0}
IsKnown count (meant.Native name) = Unit {0}

-- the number of a parameter fits in a byte
abbrev pub IsSmall : Option ℕ → Type 0
IsSmall o = IfSome o (λ n. n < 256)

-- a parameter that a library of so many interfaces can say
pub record IsSayable (count : ℕ) (p : ScopeParam) : Type 0 where
  pub ty : IsKnown count p.ty
  pub size : IsSmall p.size
  pub len : IsSmall p.length
  pub iid : IsSmall p.iid

-- what a member takes and gives
abbrev pub IsSayableBody : ℕ → ScopeBody → Type 0
IsSayableBody count (body.Constant of value) = Unit {0}
IsSayableBody count (body.Attribute hidden notxpcom context readonly ty) = IsKnown count ty
IsSayableBody count (body.Method hidden notxpcom argc context returns params) =
    IfSome returns (IsKnown count) × All (IsSayable count) params

pub record IsSayableIface (count : ℕ) (i : ScopeIface) : Type 0 where
  pub parent : IfSome i.parent (λ k. k < count)
  pub members : All (λ (m : ScopeMember). IsSayableBody count m.body) i.members
