-- A spelling is made of parts, one after the other.
use Rattle.std.specs.Prelude.{◌≡◌, ℕ, Bool, true, false, not, ◌&&◌, nat_lt, nat_le, List, [], ◌∷◌, ◌++◌, length, IsTrue, codes}
use Rattle.std.specs.List.{list_all, list_any}
use Rattle.std.specs.Str.{bytes_eq}
use Rattle.idl_lexer.specs.declared.class.Class.{Class}
use Rattle.idl_lexer.specs.declared.class.Class.TheVariants.{NameStart}
use Rattle.idl_lexer.specs.Classes.{is_in}

-- this very text, so many bytes of a class, or a run of bytes of a class that passes a test
pub data Part : Type 0 where
  literal : List ℕ → Part
  counted : Class → ℕ → Part
  run : Class → (List ℕ → Bool) → Part

-- the text is made of these parts
abbrev pub IsMadeOf : List Part → List ℕ → Type 0
IsMadeOf [] text = text ≡ []
IsMadeOf (literal word ∷ parts) text = (more : List ℕ) × (text ≡ word ++ more) × IsMadeOf parts more
IsMadeOf (counted class count ∷ parts) text =
    (front : List ℕ) × (more : List ℕ) × (text ≡ front ++ more)
    × IsTrue (list_all (is_in class) front) × (length front ≡ count) × IsMadeOf parts more
IsMadeOf (run class fits ∷ parts) text =
    (front : List ℕ) × (more : List ℕ) × (text ≡ front ++ more)
    × IsTrue (list_all (is_in class) front) × IsTrue (fits front) × IsMadeOf parts more

-- tests of a run

unfoldable pub any : List ℕ → Bool
any _ = true

unfoldable pub some : List ℕ → Bool
some text = nat_lt 0 (length text)

unfoldable pub short : List ℕ → Bool
short text = nat_lt 0 (length text) && nat_le (length text) 255

-- a letter or `_` first, and at most 255 bytes
unfoldable pub is_name : List ℕ → Bool
is_name [] = false
is_name (c ∷ cs) = is_in NameStart c && nat_le (length (c ∷ cs)) 255

-- the keywords of the language
unfoldable pub keys : List (List ℕ)
keys =
    codes "attribute" ∷ codes "boolean" ∷ codes "char" ∷ codes "const" ∷ codes "double"
    ∷ codes "float" ∷ codes "in" ∷ codes "inout" ∷ codes "interface" ∷ codes "long"
    ∷ codes "native" ∷ codes "octet" ∷ codes "out" ∷ codes "raises" ∷ codes "readonly"
    ∷ codes "short" ∷ codes "string" ∷ codes "typedef" ∷ codes "unsigned" ∷ codes "void"
    ∷ codes "wchar" ∷ codes "wstring" ∷ []

unfoldable pub is_key : List ℕ → Bool
is_key text = list_any (λ key. bytes_eq key text) keys

-- a name that is no keyword
unfoldable pub is_word : List ℕ → Bool
is_word text = is_name text && not (is_key text)
