-- The classes of bytes, in ASCII.
use Rattle.std.specs.Prelude.{◌≡◌, ℕ, Bool, false, not, ◌&&◌, ◌||◌, ◌==◌, nat_le, List, [], ◌∷◌, codes}
use Rattle.std.specs.List.{list_any}
use Rattle.std.specs.Char.{is_ascii_alphabetic, is_ascii_alphanumeric, is_ascii_digit, is_ascii_hexdigit}
use Rattle.idl_lexer.specs.declared.class.Class.{Class}
use Rattle.idl_lexer.specs.declared.class.Class.TheVariants.{Blank, NameStart, NameByte, Digit, Hexadecimal, Gap, Space, Quoted, Parenthesized, InLine, Single}

-- whether the byte is of the class
unfoldable pub is_in : Class → ℕ → Bool
is_in Blank c = list_any (λ blank. blank == c) (32 ∷ 9 ∷ 13 ∷ 10 ∷ 12 ∷ [])
is_in NameStart c = is_ascii_alphabetic c || c == 95
is_in NameByte c = is_ascii_alphanumeric c || c == 95
is_in Digit c = is_ascii_digit c
is_in Hexadecimal c = is_ascii_hexdigit c
is_in Gap c = c == 32 || c == 9
is_in Space c = c == 32
is_in Quoted c = nat_le 32 c && nat_le c 126 && not (c == 34)
is_in Parenthesized c = not (c == 40 || c == 41 || c == 10)
is_in InLine c = not (c == 10)
is_in Single c = list_any (λ mark. mark == c) (codes "()[]{},;:=+-*|")

-- the text does not begin with a byte of the class
abbrev pub IsOver : Class → List ℕ → Type 0
IsOver class [] = Unit {0}
IsOver class (c ∷ _) = is_in class c ≡ false
