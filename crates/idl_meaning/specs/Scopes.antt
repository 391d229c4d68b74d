-- What is known at each place of the files, and the scope that they declare. The first
-- declaration of a name stands.
use Rattle.std.specs.Prelude.{ℕ, suc, Bool, true, false, ◌==◌, List, [], ◌∷◌, ◌++◌, length, Option, Some, None, ℤ, codes, is_some, slice_set, option_and_then, if◌then◌else◌}
use Rattle.std.specs.Option.{option_or, option_flatten}
use Rattle.std.specs.List.{cons_option}
use Rattle.std.specs.Str.{bytes_eq}
use Rattle.xp_base.specs.declared.kinds.ConstKind.{ConstKind}
use Rattle.idl_grammar.specs.declared.tree.ClosedFile.{ClosedFile}
use Rattle.idl_grammar.specs.declared.tree.Item.{Item}
use Rattle.idl_grammar.specs.declared.tree.ItemBody.{ItemBody}
use Rattle.idl_grammar.specs.declared.tree.ItemBody.TheVariants as item
use Rattle.idl_grammar.specs.declared.tree.Interface.{Interface}
use Rattle.idl_grammar.specs.declared.tree.Member.{Member}
use Rattle.idl_grammar.specs.declared.tree.MemberBody.{MemberBody}
use Rattle.idl_grammar.specs.declared.tree.MemberBody.TheVariants as member
use Rattle.idl_grammar.specs.declared.tree.ParamDecl.{ParamDecl}
use Rattle.idl_meaning.specs.declared.scope.Meant.{Meant}
use Rattle.idl_meaning.specs.declared.scope.Meant.TheVariants as meant
use Rattle.idl_meaning.specs.declared.scope.Scope.{Scope}
use Rattle.idl_meaning.specs.declared.scope.ScopeBody.{ScopeBody}
use Rattle.idl_meaning.specs.declared.scope.ScopeBody.TheVariants as body
use Rattle.idl_meaning.specs.declared.scope.ScopeIface.{ScopeIface}
use Rattle.idl_meaning.specs.declared.scope.ScopeMember.{ScopeMember}
use Rattle.idl_meaning.specs.declared.scope.ScopeParam.{ScopeParam}
use Rattle.idl_meaning.specs.Attributes.{has, word_of, uuid_of, iface_bits}
use Rattle.idl_meaning.specs.Meaning.{Bound, Typed, Forward, Defined, Names, nothing, learns, Sense, Unknown, Nothing, Means, sense, native_meaning}
use Rattle.idl_meaning.specs.Constants.{Values, value_of, kind_by, in_range}

-- ---- what is known

-- What the declarations before a place make known: the names of types; the identifiers that were
-- used; the interfaces in order of first mention; how many of them are defined; and the constants
-- that can be named in each of those, those of its ancestors included, by the number of
-- interfaces that were defined before it.
pub record Known : Type 0 where
  pub names : Names
  pub iids : List ℕ → Option (Unit {0})
  pub ifaces : List ScopeIface
  pub defined : ℕ
  pub constants : ℕ → Values

-- the members before a place in an interface: a constant with its value, where it has one, and
-- any other member
abbrev pub Own : Type 0
Own = List ℕ → Option (Option ℤ)

-- What is known at a member: the names of types, its own interface among them; the members before
-- it; the constants of the ancestors; and whether the interface is scriptable.
pub record Inside : Type 0 where
  pub names : Names
  pub own : Own
  pub outer : Values
  pub scriptable : Bool

abbrev pub nothing_known : Known
nothing_known = record {
  names = nothing;
  iids = nothing;
  ifaces = [];
  defined = 0;
  constants = λ rank. nothing;
}

-- an earlier constant of the same interface, else one of the nearest ancestor that has it
abbrev pub either : Own → Values → Values
either own outer name = option_or (option_flatten (own name)) (outer name)

abbrev pub visible : Inside → Values
visible at name = either at.own at.outer name

-- ---- names

-- the number of an interface that was mentioned, or of the next that is
abbrev pub number_or_next : Option Bound → ℕ → ℕ
number_or_next (Some (Forward number)) next = number
number_or_next (Some (Defined number rank)) next = number
number_or_next _ next = next

-- the number of an interface that is defined
abbrev pub defined_number : Option Bound → Option ℕ
defined_number (Some (Defined number rank)) = Some number
defined_number _ = None

-- how many interfaces were defined before one that is defined
abbrev pub defined_rank : Option Bound → Option ℕ
defined_rank (Some (Defined number rank)) = Some rank
defined_rank _ = None

-- what the name of the parent is bound to
abbrev pub parent_bound : Names → Option (List ℕ) → Option Bound
parent_bound names written = option_and_then names written

-- the constants by a rank, where there is one
abbrev pub constants_at : (ℕ → Values) → Option ℕ → Values
constants_at constants None = nothing
constants_at constants (Some rank) = constants rank

-- the number of the interface that is declared next
abbrev pub next_number : Known → List ℕ → ℕ
next_number k name = number_or_next (k.names name) (length k.ifaces)

-- the names inside the definition of an interface
abbrev pub names_within : Known → List ℕ → Names
names_within k name = learns k.names name (Some (Defined (next_number k name) k.defined))

-- the constants of the ancestors
abbrev pub outer_constants : Known → Interface → Values
outer_constants k i = constants_at k.constants (defined_rank (parent_bound k.names i.parent))

-- what is known at the first member of an interface
abbrev pub inside : Known → Interface → Inside
inside k i = record {
  names = names_within k i.name;
  own = nothing;
  outer = outer_constants k i;
  scriptable = has (codes "scriptable") i.attrs;
}

-- ---- members

-- the name of a member
abbrev pub member_name : MemberBody → Option (List ℕ)
member_name member.Code = None
member_name (member.Constant of name value) = Some name
member_name (member.Attribute attrs readonly of name) = Some name
member_name (member.Method attrs of name params) = Some name

-- the number of the first parameter of this name, where the first of these has the number `next`
abbrev pub number_from : ℕ → List ParamDecl → List ℕ → Option ℕ
number_from next [] name = None
number_from next (p ∷ more) name =
    if bytes_eq p.name name then Some next else number_from (suc next) more name

abbrev pub number_in : List ParamDecl → List ℕ → Option ℕ
number_in params name = number_from 0 params name

-- what a type stands for; one that means nothing has a fault, and what it stands for makes no
-- difference
abbrev pub stands_for : Sense → Meant
stands_for Unknown = meant.JsVal
stands_for Nothing = meant.JsVal
stands_for (Means m) = m

-- the type of a value that is given back
abbrev pub result_of : Sense → Option Meant
result_of Nothing = None
result_of Unknown = Some meant.JsVal
result_of (Means m) = Some m

-- a parameter, where the numbers of the method's parameters are these
abbrev pub param_made : Names → (List ℕ → Option ℕ) → ParamDecl → ScopeParam
param_made names numbers p = record {
  name = p.name;
  dir = p.dir;
  ty = stands_for (sense names p.of);
  array = has (codes "array") p.attrs;
  size = option_and_then numbers (word_of (codes "size_is") p.attrs);
  length = option_and_then numbers (word_of (codes "length_is") p.attrs);
  iid = option_and_then numbers (word_of (codes "iid_is") p.attrs);
  retval = has (codes "retval") p.attrs;
  shared = has (codes "shared") p.attrs;
  optional = has (codes "optional") p.attrs;
}

abbrev pub params_made : Names → (List ℕ → Option ℕ) → List ParamDecl → List ScopeParam
params_made names numbers [] = []
params_made names numbers (p ∷ more) = param_made names numbers p ∷ params_made names numbers more

-- a constant of this kind and value, where it has no fault
abbrev pub constant_made : Option ConstKind → Option ℤ → Option ScopeBody
constant_made (Some kind) (Some value) =
    if in_range kind value then Some (body.Constant kind value) else None
constant_made _ _ = None

abbrev pub body_made : Inside → MemberBody → Option ScopeBody
body_made at member.Code = None
body_made at (member.Constant of name value) =
    constant_made (kind_by (sense at.names of)) (value_of (visible at) value.steps)
body_made at (member.Attribute attrs readonly of name) =
    Some (body.Attribute (has (codes "noscript") attrs) (has (codes "notxpcom") attrs)
    (has (codes "implicit_jscontext") attrs) readonly
    (stands_for (sense at.names of)))
body_made at (member.Method attrs of name params) =
    Some (body.Method (has (codes "noscript") attrs) (has (codes "notxpcom") attrs)
    (has (codes "optional_argc") attrs)
    (has (codes "implicit_jscontext") attrs) (result_of (sense at.names of))
    (params_made at.names (number_in params) params))

-- the value of a constant; one with a fault has none
abbrev pub value_in : Option ScopeBody → Option ℤ
value_in (Some (body.Constant kind value)) = Some value
value_in _ = None

-- the members before a place, and one more
abbrev pub learns_member : Own → Option (List ℕ) → Option ℤ → Own
learns_member own None value = own
learns_member own (Some name) value = learns own name (Some value)

-- what is known behind a member
abbrev pub inside_after : Inside → MemberBody → Inside
inside_after at m =
    record at { own = learns_member at.own (member_name m) (value_in (body_made at m)) }

abbrev pub inside_all : Inside → List Member → Inside
inside_all at [] = at
inside_all at (m ∷ more) = inside_all (inside_after at m.body) more

abbrev pub member_made : Option (List ℕ) → ℕ → Option ScopeBody → Option ScopeMember
member_made (Some name) number (Some b) = Some (record { name = name; member = number; body = b })
member_made _ number _ = None

-- the members of an interface from the one of this number on
abbrev pub members_made : ℕ → Inside → List Member → List ScopeMember
members_made number at [] = []
members_made number at (m ∷ more) =
    cons_option (member_made (member_name m.body) number (body_made at m.body))
    (members_made (suc number) (inside_after at m.body) more)

-- ---- declarations

-- sixteen zeros
abbrev pub zero_iid : List ℕ
zero_iid = 0 ∷ 0 ∷ 0 ∷ 0 ∷ 0 ∷ 0 ∷ 0 ∷ 0 ∷ 0 ∷ 0 ∷ 0 ∷ 0 ∷ 0 ∷ 0 ∷ 0 ∷ 0 ∷ []

abbrev pub iid_or_zero : Option (List ℕ) → List ℕ
iid_or_zero None = zero_iid
iid_or_zero (Some iid) = iid

-- an interface that is only named
abbrev pub bare_iface : ℕ → ℕ → List ℕ → ScopeIface
bare_iface file decl name =
    record {
      name = name;
      iid = zero_iid;
      parent = None;
      flags = 0;
      defined = false;
      file = file;
      decl = decl;
      members = [];
    }

-- an interface that is defined, with the number of its parent and its members
abbrev pub iface_made : ℕ → ℕ → Interface → Option ℕ → List ScopeMember → ScopeIface
iface_made file decl i above_it made = record {
  name = i.name;
  iid = iid_or_zero (uuid_of i.attrs);
  parent = above_it;
  flags = iface_bits i.attrs;
  defined = true;
  file = file;
  decl = decl;
  members = made;
}

-- the interface at its number, or last
abbrev pub placed : List ScopeIface → ℕ → ScopeIface → List ScopeIface
placed ifaces number iface =
    if number == length ifaces then ifaces ++ iface ∷ [] else slice_set ifaces number iface

abbrev pub used_iid : (List ℕ → Option (Unit {0})) → Option (List ℕ) → List ℕ → Option (Unit {0})
used_iid iids None = iids
used_iid iids (Some iid) = learns iids iid (Some tt)

-- the constants of each defined interface, and of one more
abbrev pub with_definition : (ℕ → Values) → ℕ → Values → ℕ → Values
with_definition constants latest values rank name =
    if rank == latest then values name else constants rank name

-- what is known behind the definition of an interface
abbrev pub after_interface : ℕ → ℕ → Known → Interface → Known
after_interface file decl k i = record {
  names = names_within k i.name;
  iids = used_iid k.iids (uuid_of i.attrs);
  ifaces = placed k.ifaces (next_number k i.name)
      (iface_made file decl i (defined_number (parent_bound k.names i.parent))
      (members_made 1 (inside k i) i.members));
  defined = suc k.defined;
  constants = with_definition k.constants k.defined
      (either (inside_all (inside k i) i.members).own (outer_constants k i));
}

-- a name for a type
abbrev pub with_type : Known → List ℕ → Meant → Known
with_type k name m = record k { names = learns k.names name (Some (Typed m)) }

-- the interface of a forward declaration, where it was not mentioned before
abbrev pub after_forward : ℕ → ℕ → Known → List ℕ → Known
after_forward file decl k name =
    if is_some (k.names name) then k
    else record k {
      names = learns k.names name (Some (Forward (length k.ifaces)));
      ifaces = k.ifaces ++ bare_iface file decl name ∷ [];
    }

-- what is known behind a declaration that has no fault
abbrev pub after_new : ℕ → ℕ → Known → ItemBody → Known
after_new file decl k (item.Include name) = k
after_new file decl k item.Code = k
after_new file decl k (item.Typedef of name) = with_type k name (stands_for (sense k.names of))
after_new file decl k (item.Native attrs name text) = with_type k name (native_meaning name attrs)
after_new file decl k (item.Forward name) = after_forward file decl k name
after_new file decl k (item.Interface i) = after_interface file decl k i

-- a name is bound to a typedef or a native
abbrev pub is_typed : Option Bound → Bool
is_typed (Some (Typed m)) = true
is_typed _ = false

-- a name is bound to anything but an interface that is only named
abbrev pub is_taken : Option Bound → Bool
is_taken None = false
is_taken (Some (Forward number)) = false
is_taken (Some (Typed m)) = true
is_taken (Some (Defined number rank)) = true

-- The name is declared before. A forward declaration may stand beside its interface and others of
-- it.
abbrev pub redeclares : Names → ItemBody → Bool
redeclares names (item.Include name) = false
redeclares names item.Code = false
redeclares names (item.Typedef of name) = is_some (names name)
redeclares names (item.Native attrs name text) = is_some (names name)
redeclares names (item.Forward name) = is_typed (names name)
redeclares names (item.Interface i) = is_taken (names i.name)

-- what is known behind a declaration; on a double declaration the first stands
abbrev pub after : ℕ → ℕ → Known → ItemBody → Known
after file decl k d = if redeclares k.names d then k else after_new file decl k d

-- what is known behind declarations, of which the first has the number `decl`
abbrev pub after_items : ℕ → ℕ → Known → List Item → Known
after_items file decl k [] = k
after_items file decl k (x ∷ more) = after_items file (suc decl) (after file decl k x.body) more

-- what is known behind files, of which the first has the number `file`
abbrev pub after_files : ℕ → Known → List ClosedFile → Known
after_files file k [] = k
after_files file k (f ∷ more) = after_files (suc file) (after_items file 0 k f.file.items) more

-- the scope of files without faults
abbrev pub scope_of : List ClosedFile → Scope
scope_of files = record { ifaces = (after_files 0 nothing_known files).ifaces }
