-- What holds of each part of a lawful tree: how its names, numbers and identifiers are spelled, how
-- its expressions are built, and how many parts it has at most.
use Rattle.std.specs.Prelude.{◌≡◌, ◌≤◌, ◌<◌, ◌+◌, ◌-◌, ◌⊎◌, ℕ, All, List, [], ◌∷◌, length, Option, Some, None, codes}
use Rattle.uuid.specs.Text.{parsed}
use Rattle.idl_lexer.specs.Parts.{IsMadeOf}
use Rattle.idl_lexer.specs.Spelling.{IsNumber, IsWord, iid}
use Rattle.idl_grammar.specs.declared.tree.Attr.{Attr}
use Rattle.idl_grammar.specs.declared.tree.AttrValue.{AttrValue}
use Rattle.idl_grammar.specs.declared.tree.AttrValue.TheVariants as value
use Rattle.idl_grammar.specs.declared.tree.Expr.{Expr}
use Rattle.idl_grammar.specs.declared.tree.ExprStep.{ExprStep}
use Rattle.idl_grammar.specs.declared.tree.ExprStep.TheVariants as step
use Rattle.idl_grammar.specs.declared.tree.IdlFile.{IdlFile}
use Rattle.idl_grammar.specs.declared.tree.Interface.{Interface}
use Rattle.idl_grammar.specs.declared.tree.Item.{Item}
use Rattle.idl_grammar.specs.declared.tree.ItemBody.{ItemBody}
use Rattle.idl_grammar.specs.declared.tree.ItemBody.TheVariants as item
use Rattle.idl_grammar.specs.declared.tree.Member.{Member}
use Rattle.idl_grammar.specs.declared.tree.MemberBody.{MemberBody}
use Rattle.idl_grammar.specs.declared.tree.MemberBody.TheVariants as member
use Rattle.idl_grammar.specs.declared.tree.ParamDecl.{ParamDecl}
use Rattle.idl_grammar.specs.declared.tree.TypeName.{TypeName}
use Rattle.idl_grammar.specs.declared.tree.TypeName.TheVariants as type
use Rattle.idl_grammar.specs.Spellings.{IsInclude, IsNative}

-- each has the property, and there are at most so many
pub record AreFew {A : Type 0} (most : ℕ) (P : A → Type 0) (xs : List A) : Type 0 where
  pub each : All P xs
  pub few : length xs ≤ most

-- ---- names, types and attributes

-- 1 to 255 bytes, none of which is 0
pub record IsShortText (text : List ℕ) : Type 0 where
  pub present : 0 < length text
  pub short : length text ≤ 255
  pub no_zero : All (λ b. 0 < b) text

-- a word of the language; it has 1 to 255 bytes, none of which is 0
pub record IsName (name : List ℕ) : Type 0 where
  pub word : IsWord name
  pub text : IsShortText name

-- an interface's identifier, of which `uuid` reads 16 bytes
pub record IsIid (text : List ℕ) : Type 0 where
  pub spelled : IsMadeOf iid text
  pub read : (bytes : List ℕ) × (parsed text ≡ Some bytes)

abbrev pub IsTypeName : TypeName → Type 0
IsTypeName (type.Named name) = IsName name
IsTypeName _ = Unit {0}

abbrev pub IsAttrValue : AttrValue → Type 0
IsAttrValue value.Absent = Unit {0}
IsAttrValue (value.Word name) = IsName name
IsAttrValue (value.Iid text) = IsIid text

-- its name is a word, or `const`
pub record IsAttr (attr : Attr) : Type 0 where
  pub named : IsName attr.name ⊎ (attr.name ≡ codes "const")
  pub valued : IsAttrValue attr.value

-- ---- expressions

-- how many operands a step takes
abbrev pub operands_of : ExprStep → ℕ
operands_of (step.Number _) = 0
operands_of (step.Name _) = 0
operands_of step.Neg = 1
operands_of _ = 2

-- The steps, run where there are so many values, leave so many: each takes its operands, which are
-- there, and gives one value.
abbrev pub Leaves : ℕ → List ExprStep → ℕ → Type 0
Leaves before [] left = before ≡ left
Leaves before (s ∷ steps) left =
    (operands_of s ≤ before) × Leaves (before - operands_of s + 1) steps left

abbrev pub IsStep : ExprStep → Type 0
IsStep (step.Number text) = IsNumber text
IsStep (step.Name name) = IsName name
IsStep _ = Unit {0}

-- each step is spelled as the language has it, and together they leave one value
pub record IsExpr (expr : Expr) : Type 0 where
  pub steps : All IsStep expr.steps
  pub postfix : Leaves 0 expr.steps 1

-- ---- members

pub record IsParamDecl (most : ℕ) (param : ParamDecl) : Type 0 where
  pub attrs : AreFew most IsAttr param.attrs
  pub typed : IsTypeName param.of
  pub named : IsName param.name

abbrev pub IsMemberBody : ℕ → MemberBody → Type 0
IsMemberBody most member.Code = Unit {0}
IsMemberBody most (member.Constant of name value) = IsTypeName of × IsName name × IsExpr value
IsMemberBody most (member.Attribute attrs readonly of name) =
    AreFew most IsAttr attrs × IsTypeName of × IsName name
IsMemberBody most (member.Method attrs of name params) =
    AreFew most IsAttr attrs × IsTypeName of × IsName name × AreFew most (IsParamDecl most) params

-- ---- items

abbrev pub IsParent : Option (List ℕ) → Type 0
IsParent None = Unit {0}
IsParent (Some name) = IsName name

pub record IsInterface (most : ℕ) (i : Interface) : Type 0 where
  pub attrs : AreFew most IsAttr i.attrs
  pub named : IsName i.name
  pub extends : IsParent i.parent
  pub members : AreFew most (λ (one : Member). IsMemberBody most one.body) i.members

abbrev pub IsItemBody : ℕ → ItemBody → Type 0
IsItemBody most (item.Include name) = (spelling : List ℕ) × IsInclude spelling name
IsItemBody most item.Code = Unit {0}
IsItemBody most (item.Typedef of name) = IsTypeName of × IsName name
IsItemBody most (item.Native attrs name text) =
    AreFew most IsAttr attrs × IsName name × ((spelling : List ℕ) × IsNative spelling name text)
IsItemBody most (item.Forward name) = IsName name
IsItemBody most (item.Interface i) = IsInterface most i

-- each part of the file is as the language has it, and no list in it is longer than this
abbrev pub IsFile : ℕ → IdlFile → Type 0
IsFile most tree = AreFew most (λ (one : Item). IsItemBody most one.body) tree.items
