-- The faults of files: fourteen conditions, each over what is known at a place and what stands
-- there, and the list of all faults in ascending order.
use Rattle.std.specs.Prelude.{◌≡◌, ℕ, zero, suc, Bool, true, false, not, ◌&&◌, ◌||◌, List, [], ◌∷◌, ◌++◌, Option, Some, None, codes, is_some, is_none, find, take, slice_get, option_map, option_and_then, IsSomeAnd, IsTrue}
use Rattle.std.specs.List.{list_any}
use Rattle.std.specs.Str.{bytes_eq}
use Rattle.xp_base.specs.declared.kinds.Dir.{Dir}
use Rattle.xp_base.specs.declared.kinds.Dir.TheVariants.{Inward, Outward, Both}
use Rattle.idl_grammar.specs.declared.tree.Attr.{Attr}
use Rattle.idl_grammar.specs.declared.tree.ClosedFile.{ClosedFile}
use Rattle.idl_grammar.specs.declared.tree.Item.{Item}
use Rattle.idl_grammar.specs.declared.tree.ItemBody.{ItemBody}
use Rattle.idl_grammar.specs.declared.tree.ItemBody.TheVariants as item
use Rattle.idl_grammar.specs.declared.tree.Member.{Member}
use Rattle.idl_grammar.specs.declared.tree.MemberBody.{MemberBody}
use Rattle.idl_grammar.specs.declared.tree.MemberBody.TheVariants as member
use Rattle.idl_grammar.specs.declared.tree.ParamDecl.{ParamDecl}
use Rattle.idl_grammar.specs.declared.tree.TypeName.{TypeName}
use Rattle.idl_grammar.specs.declared.tree.TypeName.TheVariants as type
use Rattle.idl_meaning.specs.declared.scope.Meant.{Meant}
use Rattle.idl_meaning.specs.declared.idl_error.IdlError.{IdlError}
use Rattle.idl_meaning.specs.declared.idl_error.IdlError.TheVariants as error
use Rattle.idl_meaning.specs.Attributes.{has, word_of, uuid_of}
use Rattle.idl_meaning.specs.Meaning.{Names, nothing, learns, sense, is_unknown, is_a, is_no, is_integer, is_string, is_iid_ref, is_iid, is_class, is_native, is_object}
use Rattle.idl_meaning.specs.Constants.{value_of, is_unknown_name, is_const_type, kind_by, is_outside}
use Rattle.idl_meaning.specs.Scopes.{Known, Inside, Own, nothing_known, visible, member_name, defined_number, redeclares, inside, inside_after, inside_all, after, after_items, after_files}

-- A place: a declaration, with what is known there; or a member, with what is known inside its
-- interface there.
pub data Place : Type 0 where
  Declaration : Known → ItemBody → Place
  Within : Inside → MemberBody → Place

-- ---- 1: a name is declared before; a member's in its interface, a parameter's in its method

abbrev pub is_known_member : Own → Option (List ℕ) → Bool
is_known_member own None = false
is_known_member own (Some name) = is_some (own name)

-- a name that stands before is among the names of these parameters, or one of these stands twice
abbrev pub any_repeated : (List ℕ → Option ℕ) → List ParamDecl → Bool
any_repeated before [] = false
any_repeated before (p ∷ more) =
    is_some (before p.name) || any_repeated (learns before p.name (Some 0)) more

abbrev pub repeats_parameter : MemberBody → Bool
repeats_parameter (member.Method attrs of name params) = any_repeated nothing params
repeats_parameter _ = false

abbrev pub is_declared_twice : Place → Bool
is_declared_twice (Declaration k d) = redeclares k.names d
is_declared_twice (Within at m) = is_known_member at.own (member_name m) || repeats_parameter m

-- ---- 2: the name of a type or in an expression is not declared before

abbrev pub is_misnamed : Names → ParamDecl → Bool
is_misnamed names p = is_unknown (sense names p.of)

abbrev pub names_the_unknown : Place → Bool
names_the_unknown (Declaration k (item.Typedef of name)) = is_unknown (sense k.names of)
names_the_unknown (Declaration k _) = false
names_the_unknown (Within at member.Code) = false
names_the_unknown (Within at (member.Constant of name value)) =
    is_unknown (sense at.names of) || list_any (is_unknown_name (visible at)) value.steps
names_the_unknown (Within at (member.Attribute attrs readonly of name)) =
    is_unknown (sense at.names of)
names_the_unknown (Within at (member.Method attrs of name params)) =
    is_unknown (sense at.names of) || list_any (is_misnamed at.names) params

-- ---- 3: the parent is no interface that is defined before

abbrev pub is_undefined : Names → Option (List ℕ) → Bool
is_undefined names None = false
is_undefined names (Some name) = is_none (defined_number (names name))

abbrev pub lacks_parent : Place → Bool
lacks_parent (Declaration k (item.Interface i)) = is_undefined k.names i.parent
lacks_parent (Declaration k _) = false
lacks_parent (Within at m) = false

-- ---- 4 and 5: an interface that is defined has no identifier, or one that was used before

abbrev pub lacks_iid : Place → Bool
lacks_iid (Declaration k (item.Interface i)) = is_none (uuid_of i.attrs)
lacks_iid (Declaration k _) = false
lacks_iid (Within at m) = false

abbrev pub repeats_iid : Place → Bool
repeats_iid (Declaration k (item.Interface i)) = is_some (option_and_then k.iids (uuid_of i.attrs))
repeats_iid (Declaration k _) = false
repeats_iid (Within at m) = false

-- ---- 6: `void` as the type of a typedef, constant, attribute or parameter

abbrev pub is_void_name : TypeName → Bool
is_void_name type.Void = true
is_void_name _ = false

abbrev pub is_void_param : ParamDecl → Bool
is_void_param p = is_void_name p.of

abbrev pub uses_void : Place → Bool
uses_void (Declaration k (item.Typedef of name)) = is_void_name of
uses_void (Declaration k _) = false
uses_void (Within at member.Code) = false
uses_void (Within at (member.Constant of name value)) = is_void_name of
uses_void (Within at (member.Attribute attrs readonly of name)) = is_void_name of
uses_void (Within at (member.Method attrs of name params)) = list_any is_void_param params

-- ---- 7: a reference to an identifier is handed out; a string class is `inout`

abbrev pub is_in : Dir → Bool
is_in Inward = true
is_in Outward = false
is_in Both = false

abbrev pub is_out : Dir → Bool
is_out Outward = true
is_out Inward = false
is_out Both = false

abbrev pub is_both : Dir → Bool
is_both Both = true
is_both Inward = false
is_both Outward = false

abbrev pub is_misdirected : Names → ParamDecl → Bool
is_misdirected names p =
    is_a is_iid_ref (sense names p.of) && not (is_in p.dir) || is_a is_class (sense names p.of)
    && is_both p.dir

abbrev pub hands_out_a_reference : Place → Bool
hands_out_a_reference (Within at (member.Attribute attrs readonly of name)) =
    is_a is_iid_ref (sense at.names of)
hands_out_a_reference (Within at (member.Method attrs of name params)) =
    is_a is_iid_ref (sense at.names of) || list_any (is_misdirected at.names) params
hands_out_a_reference (Within at _) = false
hands_out_a_reference (Declaration k d) = false

-- ---- 8: `size_is`, `length_is` and `iid_is`

abbrev pub is_array : ParamDecl → Bool
is_array p = has (codes "array") p.attrs

abbrev pub size_name : ParamDecl → Option (List ℕ)
size_name p = word_of (codes "size_is") p.attrs

abbrev pub length_name : ParamDecl → Option (List ℕ)
length_name p = word_of (codes "length_is") p.attrs

abbrev pub iid_name : ParamDecl → Option (List ℕ)
iid_name p = word_of (codes "iid_is") p.attrs

abbrev pub is_named : List ℕ → ParamDecl → Bool
is_named name p = bytes_eq p.name name

-- the first parameter of this name
abbrev pub param_of : List ParamDecl → List ℕ → Option ParamDecl
param_of params name = find (is_named name) params

-- there is no such parameter, or it is an array, or its type is known and does not pass the test
abbrev pub is_no_param : (Meant → Bool) → Names → Option ParamDecl → Bool
is_no_param test names None = true
is_no_param test names (Some q) = is_array q || is_no test (sense names q.of)

-- a size or length on what has neither, or given by what is no integer
abbrev pub is_wrong_count : Names → (List ℕ → Option ParamDecl) → ParamDecl → Option (List ℕ) → Bool
is_wrong_count names named p None = false
is_wrong_count names named p (Some name) =
    not (is_array p) && is_no is_string (sense names p.of)
    || is_no_param is_integer names (named name)

-- an identifier for what needs none, or given by what is none
abbrev pub is_wrong_iid : Names → (List ℕ → Option ParamDecl) → ParamDecl → Option (List ℕ) → Bool
is_wrong_iid names named p None = false
is_wrong_iid names named p (Some name) =
    is_no is_object (sense names p.of) || is_no_param is_iid names (named name)

-- a parameter of a method whose parameters have these names
abbrev pub is_mismeasured : Names → (List ℕ → Option ParamDecl) → ParamDecl → Bool
is_mismeasured names named p =
    is_wrong_count names named p (size_name p)
    || is_wrong_count names named p (length_name p)
    || is_some (length_name p) && is_none (size_name p)
    || is_wrong_iid names named p (iid_name p)

abbrev pub measures_wrongly : Place → Bool
measures_wrongly (Within at (member.Method attrs of name params)) =
    list_any (is_mismeasured at.names (param_of params)) params
measures_wrongly (Within at _) = false
measures_wrongly (Declaration k d) = false

-- ---- 9: an array without `size_is`, or of a string class or a reference to an identifier

abbrev pub is_wrong_array : Names → ParamDecl → Bool
is_wrong_array names p =
    is_array p && (is_none (size_name p) || is_a is_class (sense names p.of)
    || is_a is_iid_ref (sense names p.of))

abbrev pub has_wrong_array : Place → Bool
has_wrong_array (Within at (member.Method attrs of name params)) =
    list_any (is_wrong_array at.names) params
has_wrong_array (Within at _) = false
has_wrong_array (Declaration k d) = false

-- ---- 10 and 11: the type of a constant is none of the four; a number is out of range

abbrev pub has_no_kind : Place → Bool
has_no_kind (Within at (member.Constant of name value)) = is_no is_const_type (sense at.names of)
has_no_kind (Within at _) = false
has_no_kind (Declaration k d) = false

-- an expression that names what is not known has no numbers to judge
abbrev pub leaves_its_range : Place → Bool
leaves_its_range (Within at (member.Constant of name value)) =
    not (list_any (is_unknown_name (visible at)) value.steps)
    && is_outside (kind_by (sense at.names of)) (value_of (visible at) value.steps)
leaves_its_range (Within at _) = false
leaves_its_range (Declaration k d) = false

-- ---- 12: a `retval` is not last or not `out`, or stands in a method that gives a value

abbrev pub is_empty : {A : Type 0} → List A → Bool
is_empty [] = true
is_empty (x ∷ xs) = false

abbrev pub is_retval : ParamDecl → Bool
is_retval p = has (codes "retval") p.attrs

abbrev pub any_wrong_retval : Bool → List ParamDecl → Bool
any_wrong_retval gives [] = false
any_wrong_retval gives (p ∷ more) =
    is_retval p && (gives || not (is_out p.dir) || not (is_empty more))
    || any_wrong_retval gives more

abbrev pub returns_wrongly : Place → Bool
returns_wrongly (Within at (member.Method attrs of name params)) =
    any_wrong_retval (not (is_void_name of)) params
returns_wrongly (Within at _) = false
returns_wrongly (Declaration k d) = false

-- ---- 13: an `optional` parameter comes before one that is neither that nor `retval`

abbrev pub is_optional : ParamDecl → Bool
is_optional p = has (codes "optional") p.attrs

-- the next parameter is neither
abbrev pub is_needed : List ParamDecl → Bool
is_needed [] = false
is_needed (q ∷ more) = not (is_optional q) && not (is_retval q)

abbrev pub any_gap : List ParamDecl → Bool
any_gap [] = false
any_gap (p ∷ more) = is_optional p && is_needed more || any_gap more

abbrev pub has_gap : Place → Bool
has_gap (Within at (member.Method attrs of name params)) = any_gap params
has_gap (Within at _) = false
has_gap (Declaration k d) = false

-- ---- 14: a scriptable interface shows a plain native

-- a member of a scriptable interface that is neither `noscript` nor `notxpcom`
abbrev pub is_shown : Inside → List Attr → Bool
is_shown at attrs =
    at.scriptable && not (has (codes "noscript") attrs) && not (has (codes "notxpcom") attrs)

-- a plain native without `iid_is`
abbrev pub is_open_native : Names → ParamDecl → Bool
is_open_native names p = is_a is_native (sense names p.of) && is_none (iid_name p)

abbrev pub shows_native : Place → Bool
shows_native (Within at (member.Attribute attrs readonly of name)) =
    is_shown at attrs && is_a is_native (sense at.names of)
shows_native (Within at (member.Method attrs of name params)) =
    is_shown at attrs && (is_a is_native (sense at.names of)
    || list_any (is_open_native at.names) params)
shows_native (Within at _) = false
shows_native (Declaration k d) = false

-- ---- all faults

-- the conditions of the codes, from 1 on
abbrev pub conditions : List (Place → Bool)
conditions =
    is_declared_twice ∷ names_the_unknown ∷ lacks_parent ∷ lacks_iid ∷ repeats_iid ∷ uses_void
    ∷ hands_out_a_reference ∷ measures_wrongly ∷ has_wrong_array ∷ has_no_kind
    ∷ leaves_its_range ∷ returns_wrongly ∷ has_gap ∷ shows_native ∷ []

abbrev pub when : Bool → ℕ → List ℕ
when true code = code ∷ []
when false code = []

-- the codes of the conditions that hold, where the first condition has the code `code`
abbrev pub numbered : ℕ → List (Place → Bool) → Place → List ℕ
numbered code [] place = []
numbered code (c ∷ more) place = when (c place) code ++ numbered (suc code) more place

-- the codes of the faults at a place
abbrev pub codes_at : Place → List ℕ
codes_at place = numbered 1 conditions place

-- a fault: its code, and its place by the numbers of the file, the declaration and the member
pub record Fault : Type 0 where
  pub code : ℕ
  pub file : ℕ
  pub decl : ℕ
  pub member : ℕ

abbrev pub faults_with : ℕ → ℕ → ℕ → List ℕ → List Fault
faults_with file decl number [] = []
faults_with file decl number (c ∷ more) =
    record { code = c; file = file; decl = decl; member = number }
    ∷ faults_with file decl number more

-- the faults of members, of which the first has the number `number`
abbrev pub member_faults : ℕ → ℕ → ℕ → Inside → List Member → List Fault
member_faults file decl number at [] = []
member_faults file decl number at (m ∷ more) =
    faults_with file decl number (codes_at (Within at m.body))
    ++ member_faults file decl (suc number) (inside_after at m.body) more

-- the faults of the members of a declaration
abbrev pub inner_faults : ℕ → ℕ → Known → ItemBody → List Fault
inner_faults file decl k (item.Interface i) = member_faults file decl 1 (inside k i) i.members
inner_faults file decl k _ = []

-- the faults of a declaration: its own, and then those of its members
abbrev pub item_faults : ℕ → ℕ → Known → ItemBody → List Fault
item_faults file decl k d =
    faults_with file decl 0 (codes_at (Declaration k d)) ++ inner_faults file decl k d

-- the faults of declarations, of which the first has the number `decl`
abbrev pub file_faults : ℕ → ℕ → Known → List Item → List Fault
file_faults file decl k [] = []
file_faults file decl k (x ∷ more) =
    item_faults file decl k x.body ++ file_faults file (suc decl) (after file decl k x.body) more

-- the faults of files, of which the first has the number `file`
abbrev pub faults_from : ℕ → Known → List ClosedFile → List Fault
faults_from file k [] = []
faults_from file k (f ∷ more) =
    file_faults file 0 k f.file.items
    ++ faults_from (suc file) (after_items file 0 k f.file.items) more

-- all faults of codes 1 to 14
abbrev pub faults_of : List ClosedFile → List Fault
faults_of files = faults_from 0 nothing_known files

-- the first of a list
abbrev pub first : {A : Type 0} → List A → Option A
first [] = None
first (x ∷ xs) = Some x

-- the error names the first of the faults; want of memory names none
abbrev pub IsFirst : IdlError → List Fault → Type 0
IsFirst (error.Fault code file decl member) faults =
    first faults ≡ Some (record { code = code; file = file; decl = decl; member = member })
IsFirst error.Memory faults = Unit {0}

-- ---- what a fault is, without the list

-- the place of a number of a declaration: the declaration itself is 0, and its members count from 1
abbrev pub place_of : Known → ItemBody → ℕ → Option Place
place_of k d zero = Some (Declaration k d)
place_of k (item.Interface i) (suc n) =
    option_map (λ m. Within (inside_all (inside k i) (take n i.members)) m.body)
    (slice_get i.members n)
place_of k d (suc n) = None

-- the same in a list of items
abbrev pub place_among : ℕ → Known → List Item → ℕ → ℕ → Option Place
place_among file k items decl number =
    option_and_then (λ x. place_of (after_items file 0 k (take decl items)) x.body number)
    (slice_get items decl)

-- the place that a fault names, with what the declarations before it make known
abbrev pub place_at : List ClosedFile → ℕ → ℕ → ℕ → Option Place
place_at files file decl number =
    option_and_then
    (λ f. place_among file (after_files 0 nothing_known (take file files)) f.file.items decl number)
    (slice_get files file)

abbrev pub applied : Option (Place → Bool) → Place → Bool
applied None place = false
applied (Some condition) place = condition place

-- the condition of a code holds at a place
abbrev pub holds : ℕ → Place → Bool
holds zero place = false
holds (suc n) place = applied (slice_get conditions n) place

-- There is such a place, and the condition of the code holds there.
abbrev pub IsFault : List ClosedFile → Fault → Type 0
IsFault files q =
    IsSomeAnd (place_at files q.file q.decl q.member) (λ place. IsTrue (holds q.code place))
