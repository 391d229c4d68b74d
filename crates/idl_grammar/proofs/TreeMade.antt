-- What each production reads of spelled tokens is well-formed, production by production.
use Rattle.std.proofs.Common.{◌≡◌, ◌≤◌, ◌+◌, ◌-◌, ◌⊎◌, ℕ, zero, suc, true, false, All, List, [], ◌∷◌, ◌++◌, length, Some, None, inl, inr, refl, sym, ◌∙◌, ap, subst, arith, length-append, codes}
use Rattle.std.proofs.lemmas.List.{length-map}
use Rattle.std.proofs.lemmas.List.Elements.{All-nil, All-cons, All-head, All-tail, All-append}
use Rattle.idl_lexer.specs.Tokens.{AreTokens}
use Rattle.idl_grammar.specs.declared.level.Level.TheVariants as level
use Rattle.idl_grammar.specs.declared.terminal.Key.TheVariants as k
use Rattle.idl_grammar.specs.declared.terminal.Mark.TheVariants as m
use Rattle.idl_grammar.specs.declared.terminal.Terminal.TheVariants as terminal
use Rattle.idl_grammar.specs.declared.tree.Attr.{Attr}
use Rattle.idl_grammar.specs.declared.tree.AttrValue.TheVariants as value
use Rattle.idl_grammar.specs.declared.tree.ExprStep.{ExprStep}
use Rattle.idl_grammar.specs.declared.tree.ExprStep.TheVariants as step
use Rattle.idl_grammar.specs.declared.tree.IdlFile.{IdlFile}
use Rattle.idl_grammar.specs.declared.tree.Item.{Item}
use Rattle.idl_grammar.specs.declared.tree.ItemBody.{ItemBody}
use Rattle.idl_grammar.specs.declared.tree.ItemBody.TheVariants as item
use Rattle.idl_grammar.specs.declared.tree.Member.{Member}
use Rattle.idl_grammar.specs.declared.tree.MemberBody.{MemberBody}
use Rattle.idl_grammar.specs.declared.tree.TypeName.{TypeName}
use Rattle.idl_grammar.specs.Grammar.{word, means, long_type, unsigned_type, wide_type, type_name, attribute_name, attribute_word, attribute_value, one_attribute, attribute_list, attributes, any_attributes, direction, operator, joined, chain, products, sums, shifts, unions, number_step, name_step, simple, negation, parentheses, within, unary, expression, parameter, parameter_list, parameters, attribute, method, marked_member, constant, member_body, one_member, members, forward, parent, definition, interface, native, marked_item, typedef, item_body, one_item, items, file}
use Rattle.idl_grammar.specs.Read.{is_nullable}
use Rattle.idl_grammar.specs.Rule.{Rule, both, many, map, parted, token, Each, Reads, ◌&>◌, ◌<&◌, each_after, separated}
use Rattle.idl_grammar.specs.Spellings.{Include, Native}
use Rattle.idl_lexer.specs.Spelling.{IsNumber}
use Rattle.idl_grammar.specs.Terminals.{Lexeme, lexeme_of, lexemes_of}
use Rattle.idl_grammar.specs.Texts.{HasTree, IsLawfulFile}
use Rattle.idl_grammar.specs.Trees.{AreFew, IsIid, IsName, IsTypeName, IsAttrValue, IsAttr, operands_of, Leaves, IsStep, IsExpr, IsParamDecl, IsMemberBody, IsParent, IsItemBody, IsFile}
use Rattle.idl_grammar.proofs.Begin.{reads-first}
use Rattle.idl_grammar.proofs.Counts.{each-count}
use Rattle.idl_grammar.proofs.ExprLaws.{leaves-append, leaves-second}
use Rattle.idl_grammar.proofs.Made.{AreSpelled, Makes, parts, each-made, makes_any, makes_parts, makes_token, makes_nothing, makes_map, makes_both, makes_or, makes_many, makes_lined}
use Rattle.idl_grammar.proofs.Predictive.{member-repeats, item-repeats}
use Rattle.idl_grammar.proofs.SpelledLaws.{text-spelled, word-token, number-token, iid-token, key-token, word-name}

attribute-filled : is_nullable one_attribute ≡ false
unfolding one_attribute attribute_name
attribute-filled = refl

parameter-filled : is_nullable parameter ≡ false
unfolding parameter any_attributes attributes direction
parameter-filled = refl

-- ---- forms that the grammar is written with

makes_means : {A : Type 0} {most : ℕ} {p : Rule (List ℕ)} {P : A → Type 0} {x : A} → P x → Makes most (means p x) P
makes_means p = makes_map makes_any (λ a _. p)

makes_right : {A B : Type 0} {most : ℕ} {p : Rule A} {q : Rule B} {P : B → Type 0} → Makes most q P → Makes most (p &> q) P
makes_right m = makes_map (makes_both makes_any m) (λ r h. h.1)

makes_left : {A B : Type 0} {most : ℕ} {p : Rule A} {q : Rule B} {P : A → Type 0} → Makes most p P → Makes most (p <& q) P
makes_left m = makes_map (makes_both m makes_any) (λ r h. h.0)

makes_separated : {A B : Type 0} {most : ℕ} {c : Rule B} {p : Rule A} {P : A → Type 0} → is_nullable c ≡ false → is_nullable p ≡ false
    → Makes most p P → Makes most (separated c p) (AreFew most P)
makes_separated {A = A} {most = most} {c = c} {p = p} {P = P} divided filled made = record { all = all } where
  others : Makes most (map (λ r. r.1) (both c p)) P
  others = makes_map (makes_both makes_any made) (λ r h. h.1)

  others-filled : is_nullable (both c p) ≡ false
  others-filled = rw divided refl

  all : (ts : List Lexeme) (xs : List A) → AreSpelled ts → length ts ≤ most → Reads (separated c p) ts xs → AreFew most P xs
  all ts xs s few reads =
      let r = reads.1 in
      let two = parts most ts r.0 r.1 r.2 s few in
      let first = made.all r.0 reads.0.0 two.first two.front r.3 in
      let more = each-made most (map (λ r. r.1) (both c p)) P others r.1 reads.0.1 two.second two.behind r.4 in
      let one = reads-first p r.0 reads.0.0 filled r.3 in
      let count = each-count (map (λ r. r.1) (both c p)) others-filled r.1 reads.0.1 r.4 in
      subst (AreFew most P) (sym reads.2) (record {
        each = All-cons P reads.0.0 reads.0.1 first more;
        few = omega (arith, ap length r.2, length-append r.0 r.1, ap length one.2);
      })

few-nil : {A : Type 0} (most : ℕ) (P : A → Type 0) → AreFew most P []
few-nil most P = record { each = All-nil P; few = omega arith }

-- ---- types and attributes

word-made : {most : ℕ} → Makes most word IsName
word-made = makes_token terminal.Word word-token

long-made : {most : ℕ} (one two : TypeName) → IsTypeName one → IsTypeName two → Makes most (long_type one two) IsTypeName
unfolding long_type
long-made one two p q = makes_right (makes_or (makes_means q) (makes_nothing one p))

type-made : {most : ℕ} → Makes most type_name IsTypeName
unfolding type_name unsigned_type wide_type
type-made =
    makes_or (makes_map word-made (λ _ h. h)) (makes_or (makes_means tt) (makes_or (makes_means tt) (makes_or (makes_means tt) (makes_or (makes_means tt)
    (makes_or (long-made _ _ tt tt) (makes_or (makes_right (makes_or (makes_means tt) (long-made _ _ tt tt)))
    (makes_or (makes_means tt) (makes_or (makes_means tt) (makes_or (makes_means tt) (makes_or (makes_means tt) (makes_or (makes_means tt) (makes_means tt))))))))))))

abbrev IsAttrName : List ℕ → Type 0
IsAttrName name = IsName name ⊎ (name ≡ codes "const")

attribute-made : {most : ℕ} → Makes most one_attribute IsAttr
unfolding one_attribute attribute_name attribute_value attribute_word
attribute-made =
    makes_map (makes_both
    (makes_or {P = IsAttrName} (makes_token terminal.Word (λ t s e. inl (word-token t s e))) (makes_token (terminal.Key k.Const) (λ t s e. inr (key-token k.Const t e))))
    (makes_or {P = IsAttrValue} (makes_right (makes_left (makes_or (makes_map word-made (λ _ h. h)) (makes_map (makes_token {P = IsIid} terminal.Iid iid-token) (λ _ h. h)))))
    (makes_nothing value.Absent tt)))
    (λ _ h. record { named = h.0; valued = h.1 })

attributes-made : {most : ℕ} → Makes most any_attributes (AreFew most IsAttr)
unfolding any_attributes attributes attribute_list
attributes-made {most} =
    makes_or (makes_right (makes_left (makes_separated refl attribute-filled attribute-made))) (makes_nothing [] (few-nil most IsAttr))

-- ---- expressions

abbrev IsOperand : List ExprStep → Type 0
IsOperand steps = IsExpr (record { steps = steps })

abbrev IsSign : ExprStep → Type 0
IsSign s = (operands_of s ≡ 2) × IsStep s

abbrev IsTurn : ExprStep × List ExprStep → Type 0
IsTurn r = IsSign r.0 × IsOperand r.1

one-step : (s : ExprStep) → operands_of s ≡ 0 → IsStep s → IsOperand (s ∷ [])
one-step s none h = record { steps = All-cons IsStep s [] h (All-nil IsStep); postfix = (omega arith, omega arith) }

negated : (steps : List ExprStep) → IsOperand steps → IsOperand (steps ++ step.Neg ∷ [])
negated steps h =
    record {
      steps = All-append IsStep steps (step.Neg ∷ []) h.steps (All-cons IsStep step.Neg [] tt (All-nil IsStep));
      postfix = leaves-append 0 1 1 steps (step.Neg ∷ []) h.postfix (omega arith, omega arith);
    }

joined-steps : (rs : List (ExprStep × List ExprStep)) → All IsTurn rs → All IsStep (joined rs)
joined-steps [] h = All-nil IsStep
joined-steps (r ∷ rs) h =
    let first = All-head IsTurn r rs h in
    All-append IsStep (r.1 ++ r.0 ∷ []) (joined rs)
    (All-append IsStep r.1 (r.0 ∷ []) first.1.steps (All-cons IsStep r.0 [] first.0.1 (All-nil IsStep)))
    (joined-steps rs (All-tail IsTurn r rs h))

joined-leaves : (rs : List (ExprStep × List ExprStep)) → All IsTurn rs → Leaves 1 (joined rs) 1
joined-leaves [] h = refl
joined-leaves (r ∷ rs) h =
    let first = All-head IsTurn r rs h in
    leaves-append 1 1 1 (r.1 ++ r.0 ∷ []) (joined rs)
    (leaves-append 1 2 1 r.1 (r.0 ∷ []) (leaves-second r.1 first.1.postfix) (omega (arith, first.0.0), omega (arith, first.0.0)))
    (joined-leaves rs (All-tail IsTurn r rs h))

chained : (steps : List ExprStep) (rs : List (ExprStep × List ExprStep)) → IsOperand steps → All IsTurn rs → IsOperand (steps ++ joined rs)
chained steps rs h each =
    record {
      steps = All-append IsStep steps (joined rs) h.steps (joined-steps rs each);
      postfix = leaves-append 0 1 1 steps (joined rs) h.postfix (joined-leaves rs each);
    }

chain-made : {most : ℕ} {sign : Rule ExprStep} {operand : Rule (List ExprStep)} → is_nullable sign ≡ false → Makes most sign IsSign → Makes most operand IsOperand
    → Makes most (chain sign operand) IsOperand
chain-made {most} {sign} {operand} filled s o =
    makes_map (makes_both o (makes_many (turn-filled filled) (makes_both s o))) (λ r h. chained r.0 r.1 h.0 h.1.each) where
      turn-filled : is_nullable sign ≡ false → is_nullable (both sign operand) ≡ false
      turn-filled e = rw e refl

unions-made : {most : ℕ} (operand : Rule (List ExprStep)) → Makes most operand IsOperand → Makes most (unions operand) IsOperand
unfolding unions shifts sums products operator
unions-made operand o =
    chain-made refl (makes_means (refl, tt)) (chain-made refl (makes_or (makes_means (refl, tt)) (makes_means (refl, tt)))
    (chain-made refl (makes_or (makes_means (refl, tt)) (makes_means (refl, tt))) (chain-made refl (makes_means (refl, tt)) o)))

number-made : {most : ℕ} → Makes most number_step IsOperand
unfolding number_step
number-made = makes_map (makes_token {P = IsNumber} terminal.Number number-token) (λ text h. one-step (step.Number text) refl h)

name-made : {most : ℕ} → Makes most name_step IsOperand
unfolding name_step
name-made = makes_map word-made (λ text h. one-step (step.Name text) refl h)

within-made : {most : ℕ} (inner : Rule (List ExprStep)) → Makes most inner IsOperand → Makes most (within inner) IsOperand
unfolding within negation parentheses
within-made inner i =
    makes_or number-made (makes_or name-made (makes_or (makes_map (makes_right i) negated) (makes_right (makes_left (unions-made inner i)))))

unary-made : {most : ℕ} (n : ℕ) → Makes most (unary n) IsOperand
unfolding unary simple
unary-made zero = makes_or number-made name-made
unary-made (suc n) = within-made (unary n) (unary-made n)

expression-made : {most : ℕ} → Makes most expression IsExpr
unfolding expression
expression-made = makes_map (unions-made (unary 64) (unary-made 64)) (λ _ h. h)

-- ---- members

parameter-made : {most : ℕ} → Makes most parameter (IsParamDecl most)
unfolding parameter
parameter-made =
    makes_map (makes_both attributes-made (makes_both makes_any (makes_both type-made word-made)))
    (λ _ h. record { attrs = h.0; typed = h.1.1.0; named = h.1.1.1 })

parameters-made : {most : ℕ} → Makes most parameters (AreFew most (IsParamDecl most))
unfolding parameters parameter_list
parameters-made {most} =
    makes_or (makes_separated refl parameter-filled parameter-made) (makes_nothing [] (few-nil most (IsParamDecl most)))

-- a member behind its attributes
abbrev IsMarkedMember : ℕ → (List Attr → MemberBody) → Type 0
IsMarkedMember most f = (attrs : List Attr) → AreFew most IsAttr attrs → IsMemberBody most (f attrs)

attribute-member : {most : ℕ} → Makes most attribute (IsMarkedMember most)
unfolding attribute
attribute-member =
    makes_map (makes_both makes_any (makes_right (makes_both type-made (makes_left word-made)))) (λ _ h attrs a. (a, h.1.0, h.1.1))

method-made : {most : ℕ} → Makes most method (IsMarkedMember most)
unfolding method
method-made =
    makes_map (makes_both type-made (makes_both word-made (makes_right (makes_left parameters-made)))) (λ _ h attrs a. (a, h.0, h.1.0, h.1.1))

constant-made : {most : ℕ} → Makes most constant (IsMemberBody most)
unfolding constant
constant-made =
    makes_map (makes_right (makes_both type-made (makes_both word-made (makes_right (makes_left expression-made)))))
    (λ _ h. (h.0, h.1.0, h.1.1))

marked-made : {most : ℕ} → Makes most marked_member (IsMemberBody most)
unfolding marked_member
marked-made = makes_map (makes_both attributes-made (makes_or attribute-member method-made)) (λ r h. h.1 r.0 h.0)

body-made : {most : ℕ} → Makes most member_body (IsMemberBody most)
unfolding member_body
body-made = makes_or (makes_means tt) (makes_or constant-made marked-made)

member-made : {most : ℕ} → Makes most one_member (λ (one : Member). IsMemberBody most one.body)
unfolding one_member
member-made = makes_map (makes_lined body-made) (λ _ h. h)

-- ---- items

-- an item behind its attributes, and one behind its name and its attributes
abbrev IsMarkedItem : ℕ → (List Attr → ItemBody) → Type 0
IsMarkedItem most f = (attrs : List Attr) → AreFew most IsAttr attrs → IsItemBody most (f attrs)

abbrev IsNamedItem : ℕ → (List ℕ → List Attr → ItemBody) → Type 0
IsNamedItem most f = (name : List ℕ) → IsName name → IsMarkedItem most (f name)

parent-made : {most : ℕ} → Makes most parent IsParent
unfolding parent
parent-made = makes_or (makes_map (makes_right word-made) (λ _ h. h)) (makes_nothing None tt)

definition-made : {most : ℕ} → Makes most definition (IsNamedItem most)
unfolding definition
definition-made =
    makes_map (makes_both parent-made (makes_right (makes_left (makes_many member-repeats.filled member-made))))
    (λ _ h name n attrs a. record { attrs = a; named = n; extends = h.0; members = h.1 })

interface-made : {most : ℕ} → Makes most interface (IsMarkedItem most)
unfolding interface forward
interface-made =
    makes_map (makes_right (makes_both word-made (makes_or (makes_map makes_any (λ _ _ name n attrs a. n)) definition-made))) (λ r h. h.1 r.0 h.0)

native-item : {most : ℕ} → Makes most native (IsMarkedItem most)
unfolding native
native-item =
    makes_map (makes_left (makes_parts Native)) (λ parts h attrs a. (a, word-name _ h.1.named, h))

include-item : {most : ℕ} → Makes most (map item.Include (parted Include)) (IsItemBody most)
include-item = makes_map (makes_parts Include) (λ name h. h)

typedef-item : {most : ℕ} → Makes most typedef (IsItemBody most)
unfolding typedef
typedef-item = makes_map (makes_right (makes_both type-made (makes_left word-made))) (λ _ h. (h.0, h.1))

marked-item : {most : ℕ} → Makes most marked_item (IsItemBody most)
unfolding marked_item
marked-item = makes_map (makes_both attributes-made (makes_or native-item interface-made)) (λ r h. h.1 r.0 h.0)

item-body : {most : ℕ} → Makes most item_body (IsItemBody most)
unfolding item_body
item-body = makes_or include-item (makes_or (makes_means tt) (makes_or typedef-item marked-item))

item-made : {most : ℕ} → Makes most one_item (λ (one : Item). IsItemBody most one.body)
unfolding one_item
item-made = makes_map (makes_lined item-body) (λ _ h. h)

file-made : {most : ℕ} → Makes most file (IsFile most)
unfolding file
file-made = makes_map (makes_many item-repeats.filled item-made) (λ _ h. h)

-- ---- the tree of a text

pub tree-made : (bytes : List ℕ) (tree : IdlFile) (h : HasTree bytes tree) → IsFile (length h.tokens) tree
tree-made bytes tree h =
    let made : Makes (length h.tokens) file (IsFile (length h.tokens)) = file-made in
    let count = length-map h.tokens (lexeme_of bytes) in
    made.all (lexemes_of bytes h.tokens) tree (text-spelled bytes h.tokens h.spelled) (omega (arith, count)) h.read
