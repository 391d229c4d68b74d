-- The grammar of XPIDL, a rule for each production. A reading's tree is the syntax tree.
use Rattle.std.specs.Prelude.{ℕ, zero, suc, Bool, true, false, List, [], ◌∷◌, ◌++◌, Option}
use Rattle.xp_base.specs.declared.kinds.Dir.{Dir}
use Rattle.xp_base.specs.declared.kinds.Dir.TheVariants.{Inward, Outward, Both}
use Rattle.idl_grammar.specs.declared.terminal.Key.{Key}
use Rattle.idl_grammar.specs.declared.terminal.Key.TheVariants as k
use Rattle.idl_grammar.specs.declared.terminal.Mark.{Mark}
use Rattle.idl_grammar.specs.declared.terminal.Mark.TheVariants as m
use Rattle.idl_grammar.specs.declared.terminal.Terminal.TheVariants as terminal
use Rattle.idl_grammar.specs.declared.level.Level.{Level}
use Rattle.idl_grammar.specs.declared.level.Level.TheVariants as level
use Rattle.idl_grammar.specs.declared.tree.IdlFile.{IdlFile}
use Rattle.idl_grammar.specs.declared.tree.Interface.{Interface}
use Rattle.idl_grammar.specs.declared.tree.Item.{Item}
use Rattle.idl_grammar.specs.declared.tree.ItemBody.{ItemBody}
use Rattle.idl_grammar.specs.declared.tree.ItemBody.TheVariants as item
use Rattle.idl_grammar.specs.declared.tree.Member.{Member}
use Rattle.idl_grammar.specs.declared.tree.MemberBody.{MemberBody}
use Rattle.idl_grammar.specs.declared.tree.MemberBody.TheVariants as member
use Rattle.idl_grammar.specs.declared.tree.ParamDecl.{ParamDecl}
use Rattle.idl_grammar.specs.declared.tree.TypeName.{TypeName}
use Rattle.idl_grammar.specs.declared.tree.TypeName.TheVariants as type
use Rattle.idl_grammar.specs.declared.tree.Attr.{Attr}
use Rattle.idl_grammar.specs.declared.tree.AttrValue.{AttrValue}
use Rattle.idl_grammar.specs.declared.tree.AttrValue.TheVariants as value
use Rattle.idl_grammar.specs.declared.tree.Expr.{Expr}
use Rattle.idl_grammar.specs.declared.tree.ExprStep.{ExprStep}
use Rattle.idl_grammar.specs.declared.tree.ExprStep.TheVariants as step
use Rattle.idl_grammar.specs.Rule.{Rule, token, parted, nothing, map, many, lined, ◌&◌, ◌&>◌, ◌<&◌, ◌<$>◌, ◌<|>◌, optional, each_after, separated}
use Rattle.idl_grammar.specs.Spellings.{Include, Native}

abbrev pub key : Key → Rule (List ℕ)
key k = token (terminal.Key k)

abbrev pub mark : Mark → Rule (List ℕ)
mark m = token (terminal.Mark m)

abbrev pub word : Rule (List ℕ)
word = token terminal.Word

-- a tree that stands for a keyword or a mark
abbrev pub means : {A : Type 0} → Rule (List ℕ) → A → Rule A
means p x = map (λ _. x) p

-- ---- types

-- "long" | "long" "long"
unfoldable pub long_type : TypeName → TypeName → Rule TypeName
long_type one two = key k.Long &> (means (key k.Long) two <|> nothing one)

-- "unsigned" "short" | "unsigned" "long" | "unsigned" "long" "long"
unfoldable pub unsigned_type : Rule TypeName
unsigned_type =
    key k.Unsigned &> (means (key k.Short) type.UShort <|> long_type type.ULong type.ULongLong)

-- "float" | "double" | "char" | "wchar" | "string" | "wstring"
unfoldable pub wide_type : Rule TypeName
wide_type =
    means (key k.Float) type.Float <|> means (key k.Double) type.Double
    <|> means (key k.Char) type.Char <|> means (key k.WChar) type.WChar
    <|> means (key k.String) type.CString <|> means (key k.WString) type.WString

unfoldable pub type_name : Rule TypeName
type_name =
    type.Named <$> word <|> means (key k.Void) type.Void <|> means (key k.Boolean) type.Boolean
    <|> means (key k.Octet) type.Octet <|> means (key k.Short) type.Short
    <|> long_type type.Long type.LongLong <|> unsigned_type <|> wide_type

-- ---- attributes

-- (W | "const")
unfoldable pub attribute_name : Rule (List ℕ)
attribute_name = word <|> key k.Const

-- W | Iid
unfoldable pub attribute_word : Rule AttrValue
attribute_word = value.Word <$> word <|> value.Iid <$> token terminal.Iid

-- ("(" (W | Iid) ")")?
unfoldable pub attribute_value : Rule AttrValue
attribute_value = mark m.LParen &> attribute_word <& mark m.RParen <|> nothing value.Absent

unfoldable pub one_attribute : Rule Attr
one_attribute = (λ r. record { name = r.0; value = r.1 }) <$> attribute_name & attribute_value

-- ("," attr)*
abbrev pub more_attributes : Rule (List Attr)
more_attributes = each_after (mark m.Comma) one_attribute

-- attr ("," attr)*
unfoldable pub attribute_list : Rule (List Attr)
attribute_list = separated (mark m.Comma) one_attribute

unfoldable pub attributes : Rule (List Attr)
attributes = mark m.LBracket &> attribute_list <& mark m.RBracket

-- attrs?
unfoldable pub any_attributes : Rule (List Attr)
any_attributes = attributes <|> nothing []

-- ---- expressions

-- the operators of a level of precedence
unfoldable pub operator : Level → Rule ExprStep
operator level.Product = means (mark m.Star) step.Mul
operator level.Sum = means (mark m.Plus) step.Add <|> means (mark m.Minus) step.Sub
operator level.Shift = means (mark m.Shl) step.Shl <|> means (mark m.Shr) step.Shr
operator level.Union = means (mark m.Bar) step.Or

-- the steps of operands, each with its operator behind it
abbrev pub joined : List (ExprStep × List ExprStep) → List ExprStep
joined [] = []
joined (r ∷ rs) = (r.1 ++ r.0 ∷ []) ++ joined rs

-- operands with operators between them, from left to right
abbrev pub chain : Rule ExprStep → Rule (List ExprStep) → Rule (List ExprStep)
chain sign operand = (λ r. r.0 ++ joined r.1) <$> operand & many (sign & operand)

-- The chains of each level, over an operand. The operands of a level are the chains of the next
-- tighter one.

unfoldable pub products : Rule (List ExprStep) → Rule (List ExprStep)
products operand = chain (operator level.Product) operand

unfoldable pub sums : Rule (List ExprStep) → Rule (List ExprStep)
sums operand = chain (operator level.Sum) (products operand)

unfoldable pub shifts : Rule (List ExprStep) → Rule (List ExprStep)
shifts operand = chain (operator level.Shift) (sums operand)

unfoldable pub unions : Rule (List ExprStep) → Rule (List ExprStep)
unions operand = chain (operator level.Union) (shifts operand)

-- the operands of a level
abbrev pub operands : Level → Rule (List ExprStep) → Rule (List ExprStep)
operands level.Product operand = operand
operands level.Sum operand = products operand
operands level.Shift operand = sums operand
operands level.Union operand = shifts operand

unfoldable pub number_step : Rule (List ExprStep)
number_step = (λ text. step.Number text ∷ []) <$> token terminal.Number

unfoldable pub name_step : Rule (List ExprStep)
name_step = (λ text. step.Name text ∷ []) <$> word

unfoldable pub simple : Rule (List ExprStep)
simple = number_step <|> name_step

-- "-" operand
unfoldable pub negation : Rule (List ExprStep) → Rule (List ExprStep)
negation inner = (λ steps. steps ++ step.Neg ∷ []) <$> mark m.Minus &> inner

-- "(" expr ")"
unfoldable pub parentheses : Rule (List ExprStep) → Rule (List ExprStep)
parentheses inner = mark m.LParen &> unions inner <& mark m.RParen

-- an operand; behind a minus and in parentheses this rule stands for operands
unfoldable pub within : Rule (List ExprStep) → Rule (List ExprStep)
within inner = number_step <|> name_step <|> negation inner <|> parentheses inner

-- an operand in which so many more parentheses and unary minuses may be open at one place
unfoldable pub unary : ℕ → Rule (List ExprStep)
unary zero = simple
unary (suc more) = within (unary more)

unfoldable pub expression : Rule Expr
expression = (λ steps. record { steps = steps }) <$> unions (unary 64)

-- ---- members

unfoldable pub direction : Rule Dir
direction = means (key k.In) Inward <|> means (key k.Out) Outward <|> means (key k.InOut) Both

unfoldable pub parameter : Rule ParamDecl
parameter =
    (λ r. record { attrs = r.0; dir = r.1.0; of = r.1.1.0; name = r.1.1.1 })
    <$> any_attributes & (direction & (type_name & word))

-- ("," param)*
abbrev pub more_parameters : Rule (List ParamDecl)
more_parameters = each_after (mark m.Comma) parameter

-- param ("," param)*
unfoldable pub parameter_list : Rule (List ParamDecl)
parameter_list = separated (mark m.Comma) parameter

-- (param ("," param)*)?
unfoldable pub parameters : Rule (List ParamDecl)
parameters = parameter_list <|> nothing []

-- ("," W)*
abbrev pub more_names : Rule (List (List ℕ))
more_names = each_after (mark m.Comma) word

-- these names, which are not kept
unfoldable pub passed_names : Rule (Unit {0})
passed_names = (λ _. tt) <$> more_names

-- ("raises" "(" W ("," W)* ")")?
unfoldable pub any_raises : Rule (Unit {0})
any_raises = key k.Raises &> mark m.LParen &> word &> passed_names <& mark m.RParen <|> nothing tt

unfoldable pub any_readonly : Rule Bool
any_readonly = means (key k.ReadOnly) true <|> nothing false

-- "readonly"? "attribute" type W ";"
unfoldable pub attribute : Rule (List Attr → MemberBody)
attribute =
    (λ r attrs. member.Attribute attrs r.0 r.1.0 r.1.1)
    <$> any_readonly & (key k.Attribute &> type_name & (word <& mark m.Semi))

-- type W "(" (param ("," param)*)? ")" raises? ";"
unfoldable pub method : Rule (List Attr → MemberBody)
method =
    (λ r attrs. member.Method attrs r.0 r.1.0 r.1.1)
    <$> type_name
    & (word & (mark m.LParen &> (parameters <& (mark m.RParen & (any_raises & mark m.Semi)))))

-- attrs? attribute | attrs? method
unfoldable pub marked_member : Rule MemberBody
marked_member = (λ r. r.1 r.0) <$> any_attributes & (attribute <|> method)

-- "const" type W "=" expr ";"
unfoldable pub constant : Rule MemberBody
constant =
    (λ r. member.Constant r.0 r.1.0 r.1.1)
    <$> key k.Const &> type_name & (word & (mark m.Equals &> (expression <& mark m.Semi)))

unfoldable pub member_body : Rule MemberBody
member_body = means (token terminal.Code) member.Code <|> constant <|> marked_member

unfoldable pub one_member : Rule Member
one_member = (λ r. record { line = r.0; body = r.1 }) <$> lined member_body

-- member*
abbrev pub members : Rule (List Member)
members = many one_member

-- ---- items

-- W ";" of a forward declaration, whose attributes are not kept
unfoldable pub forward : Rule (List ℕ → List Attr → ItemBody)
forward = (λ _ name attrs. item.Forward name) <$> mark m.Semi

-- (":" W)?
unfoldable pub parent : Rule (Option (List ℕ))
parent = optional (mark m.Colon &> word)

abbrev defined : Interface → ItemBody
defined i = item.Interface i

-- (":" W)? "{" member* "}" ";"
unfoldable pub definition : Rule (List ℕ → List Attr → ItemBody)
definition =
    (λ r name attrs. defined (record { attrs = attrs; name = name; parent = r.0; members = r.1 }))
    <$> parent & (mark m.LBrace &> (members <& (mark m.RBrace & mark m.Semi)))

-- "interface" W ";" | "interface" W (":" W)? "{" member* "}" ";"
unfoldable pub interface : Rule (List Attr → ItemBody)
interface = (λ r. r.1 r.0) <$> key k.Interface &> word & (forward <|> definition)

-- Native ";"
unfoldable pub native : Rule (List Attr → ItemBody)
native = (λ parts attrs. item.Native attrs parts.0 parts.1) <$> parted Native <& mark m.Semi

-- attrs? native | attrs? interface
unfoldable pub marked_item : Rule ItemBody
marked_item = (λ r. r.1 r.0) <$> any_attributes & (native <|> interface)

-- "typedef" type W ";"
unfoldable pub typedef : Rule ItemBody
typedef = (λ r. item.Typedef r.0 r.1) <$> key k.Typedef &> type_name & (word <& mark m.Semi)

unfoldable pub item_body : Rule ItemBody
item_body =
    item.Include <$> parted Include
    <|> means (token terminal.Code) item.Code <|> typedef <|> marked_item

unfoldable pub one_item : Rule Item
one_item = (λ r. record { line = r.0; body = r.1 }) <$> lined item_body

-- item*
abbrev pub items : Rule (List Item)
items = many one_item

unfoldable pub file : Rule IdlFile
file = (λ items. record { items = items }) <$> items
