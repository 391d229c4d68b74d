-- What a tree keeps of the spelling of a token.
use Rattle.std.specs.Prelude.{◌≡◌, ℕ, List, [], ◌∷◌, ◌++◌, IsTrue, codes}
use Rattle.std.specs.List.{list_all}
use Rattle.idl_lexer.specs.declared.class.Class.TheVariants.{Gap, Quoted, Parenthesized}
use Rattle.idl_lexer.specs.Classes.{is_in}
use Rattle.idl_lexer.specs.Parts.{some, short}
use Rattle.idl_lexer.specs.Spelling.{IsWord}

abbrev pub quote : List ℕ
quote = 34 ∷ []

-- ---- an include: `#include`, a gap of spaces and tabs, and the file's name in quotes

-- 1 to 255 printable bytes of ASCII other than a quote
pub record IsFileName (name : List ℕ) : Type 0 where
  pub quoted : IsTrue (list_all (is_in Quoted) name)
  pub short : IsTrue (short name)

-- the spelling is an include of this file
pub record IsInclude (spelling name : List ℕ) : Type 0 where
  pub gap : List ℕ
  pub whole : spelling ≡ codes "#include" ++ gap ++ quote ++ name ++ quote
  pub gaps : IsTrue (list_all (is_in Gap) gap)
  pub parted : IsTrue (some gap)
  pub named : IsFileName name

-- ---- a native: `native`, a gap, a name, perhaps a gap, and a text in parentheses

-- one byte or more between parentheses, none of which is one, or a line feed
pub record IsNativeText (text : List ℕ) : Type 0 where
  pub enclosed : IsTrue (list_all (is_in Parenthesized) text)
  pub some : IsTrue (some text)

-- the spelling is a native of this name and this text
pub record IsNative (spelling name text : List ℕ) : Type 0 where
  pub gap : List ℕ
  pub space : List ℕ
  pub whole : spelling ≡ codes "native" ++ gap ++ name ++ space ++ codes "(" ++ text ++ codes ")"
  pub gaps : IsTrue (list_all (is_in Gap) gap)
  pub parted : IsTrue (some gap)
  pub named : IsWord name
  pub spaces : IsTrue (list_all (is_in Gap) space)
  pub written : IsNativeText text

-- no two names and no two texts are those of the spelling
abbrev pub IsReadOnce : List ℕ → Type 0
IsReadOnce spelling =
    (name text other_name other_text : List ℕ) → IsNative spelling name text
    → IsNative spelling other_name other_text → (name ≡ other_name) × (text ≡ other_text)

-- ---- the spellings of which a tree keeps parts

-- an include, of which it keeps the file's name, and a native, of which it keeps name and text
pub data Parted : Type 0 → Type 1 where
  Include : Parted (List ℕ)
  Native : Parted (List ℕ × List ℕ)

-- the spelling is one of these, and has these parts
abbrev pub HasParts : {A : Type 0} → Parted A → List ℕ → A → Type 0
HasParts Include spelling name = IsInclude spelling name
HasParts Native spelling parts = IsNative spelling parts.0 parts.1
