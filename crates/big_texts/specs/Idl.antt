-- The IDL file of `big N`: the interfaces 0 to N, each the child of the one before it. Each has one
-- method, with none to eleven parameters.
use Rattle.std.specs.Prelude.{ℕ, zero, suc, ◌+◌, ◌-◌, ◌%◌, ◌==◌, List, [], ◌∷◌, ◌++◌, get_or, codes, if◌then◌else◌}
use Rattle.xp_base.specs.Digits.{hex_digits_fixed}
use Rattle.big_texts.specs.Pieces.{pieces, line, decimal}

-- the types that parameters have, in turn
abbrev pub type_words : List (List ℕ)
type_words =
    codes "boolean" ∷ codes "octet" ∷ codes "short" ∷ codes "long" ∷ codes "long long"
    ∷ codes "float" ∷ codes "double" ∷ codes "string" ∷ []

-- the method i has so many parameters, and its parameter j this type of the eight
abbrev pub param_count : (i : ℕ) → ℕ
param_count i = i % 12

abbrev pub type_number : (i j : ℕ) → ℕ
type_number i j = (i + j) % 8

abbrev pub iface_name : (i : ℕ) → List ℕ
iface_name i = codes "nsIG" ++ decimal i

-- between the parameters stands a comma
abbrev pub comma : (j : ℕ) → List ℕ
comma zero = []
comma (suc j) = codes ", "

abbrev pub param_text : (i j : ℕ) → List ℕ
param_text i j =
    comma j ++ (codes "in " ++ (get_or type_words (type_number i j) []
    ++ (codes " a" ++ decimal j)))

-- the interface 0 has no parent
abbrev pub parent_text : (i : ℕ) → List ℕ
parent_text i = if i == 0 then [] else codes " : " ++ iface_name (i - 1)

abbrev pub attributes_text : (i : ℕ) → List ℕ
attributes_text i =
    codes "[scriptable, uuid(" ++ (hex_digits_fixed 8 (i + 1)
    ++ codes "-0000-4000-8000-000000000000)]")

abbrev pub head_text : (i : ℕ) → List ℕ
head_text i = codes "interface " ++ (iface_name i ++ (parent_text i ++ codes " {"))

abbrev pub method_text : (i : ℕ) → List ℕ
method_text i =
    codes "long m" ++ (decimal i
    ++ (codes "(" ++ (pieces (param_text i) (param_count i) ++ codes ");")))

abbrev pub iface_text : (i : ℕ) → List ℕ
iface_text i =
    line (attributes_text i)
    ++ (line (head_text i) ++ (line (method_text i) ++ line (codes "};")))

-- the file whose last interface has this number
abbrev pub big_idl : (last : ℕ) → List ℕ
big_idl last = pieces iface_text (last + 1)
