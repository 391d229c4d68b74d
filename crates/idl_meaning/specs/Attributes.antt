-- What attributes say. An attribute has a meaning in its own form alone: `array(x)`, `size_is`
-- and `uuid(foo)` have none.
use Rattle.std.specs.Prelude.{ℕ, ◌+◌, Bool, true, false, ◌&&◌, List, [], ◌∷◌, Option, Some, None, codes, if◌then◌else◌}
use Rattle.std.specs.List.{list_any}
use Rattle.std.specs.Option.{option_or}
use Rattle.std.specs.Str.{bytes_eq}
use Rattle.uuid.specs.Text.{parsed}
use Rattle.idl_grammar.specs.declared.tree.Attr.{Attr}
use Rattle.idl_grammar.specs.declared.tree.AttrValue.{AttrValue}
use Rattle.idl_grammar.specs.declared.tree.AttrValue.TheVariants as value

-- no parentheses
abbrev pub is_bare : AttrValue → Bool
is_bare value.Absent = true
is_bare (value.Word name) = false
is_bare (value.Iid text) = false

-- the attribute is this name, without parentheses
abbrev pub is_plain : List ℕ → Attr → Bool
is_plain name a = bytes_eq a.name name && is_bare a.value

-- this name, without parentheses, is among the attributes
abbrev pub has : List ℕ → List Attr → Bool
has name attrs = list_any (is_plain name) attrs

-- the word in parentheses
abbrev pub word_in : AttrValue → Option (List ℕ)
word_in (value.Word name) = Some name
word_in value.Absent = None
word_in (value.Iid text) = None

-- the 16 bytes of the identifier in parentheses (RFC 9562)
abbrev pub iid_in : AttrValue → Option (List ℕ)
iid_in (value.Iid text) = parsed text
iid_in value.Absent = None
iid_in (value.Word name) = None

-- what the attribute says in parentheses, where it has this name
abbrev pub given : {A : Type 0} → (AttrValue → Option A) → List ℕ → Attr → Option A
given inside name a = if bytes_eq a.name name then inside a.value else None

-- what the first attribute of this name that says something says
abbrev pub first_given : {A : Type 0} → (AttrValue → Option A) → List ℕ → List Attr → Option A
first_given inside name [] = None
first_given inside name (a ∷ more) = option_or (given inside name a) (first_given inside name more)

-- the word that the attribute of this name gives
abbrev pub word_of : List ℕ → List Attr → Option (List ℕ)
word_of name attrs = first_given word_in name attrs

-- the identifier of an interface
abbrev pub uuid_of : List Attr → Option (List ℕ)
uuid_of attrs = first_given iid_in (codes "uuid") attrs

-- a bit that is set or not
abbrev pub bit : ℕ → Bool → ℕ
bit n set = if set then n else 0

-- the bits that an interface has in a typelib
abbrev pub iface_flags : Bool → Bool → Bool → ℕ
iface_flags scriptable function builtinclass =
    bit 128 scriptable + bit 64 function + bit 32 builtinclass

-- those that its attributes give
abbrev pub iface_bits : List Attr → ℕ
iface_bits attrs =
    iface_flags (has (codes "scriptable") attrs) (has (codes "function") attrs)
    (has (codes "builtinclass") attrs)
