-- The symbols with which the rules begin that a reader tells apart by its next token.
use Rattle.std.proofs.Common.{◌≡◌, List, [], ◌∷◌, refl}
use Rattle.idl_grammar.specs.declared.terminal.Key.TheVariants as k
use Rattle.idl_grammar.specs.declared.terminal.Mark.TheVariants as m
use Rattle.idl_grammar.specs.declared.terminal.Terminal.TheVariants as terminal
use Rattle.idl_grammar.specs.declared.tree.TypeName.{TypeName}
use Rattle.idl_grammar.specs.Read.{starts}
use Rattle.idl_grammar.specs.Grammar.{long_type, unsigned_type, wide_type, attributes, any_readonly, attribute, constant, parameter, parameter_list, any_attributes, direction, method, marked_member, member_body, one_member, interface, marked_item, item_body, one_item, type_name, typedef, native, number_step, name_step, negation, forward}
use Rattle.idl_grammar.specs.Rule.{Rule}
use Rattle.idl_grammar.specs.declared.tree.ExprStep.{ExprStep}

pub long-starts : (one two : TypeName) → starts (long_type one two) ≡ terminal.Key k.Long ∷ []
unfolding long_type
long-starts one two = refl

pub unsigned-starts : starts unsigned_type ≡ terminal.Key k.Unsigned ∷ []
unfolding unsigned_type
unsigned-starts = refl

pub ruleset type_starts = (long-starts, unsigned-starts)

pub attributes_starts : starts attributes ≡ terminal.Mark m.LBracket ∷ []
unfolding attributes
attributes_starts = refl

pub number-starts : starts number_step ≡ terminal.Number ∷ []
unfolding number_step
number-starts = refl

pub name-starts : starts name_step ≡ terminal.Word ∷ []
unfolding name_step
name-starts = refl

pub negation-starts : (inner : Rule (List ExprStep)) → starts (negation inner) ≡ terminal.Mark m.Minus ∷ []
unfolding negation
negation-starts inner = refl

pub ruleset operand_starts = (number-starts, name-starts, negation-starts)

pub parameter_starts : starts parameter_list ≡ terminal.Mark m.LBracket ∷ terminal.Key k.In ∷ terminal.Key k.Out ∷ terminal.Key k.InOut ∷ []
unfolding attributes any_attributes direction parameter parameter_list
parameter_starts = refl

pub attribute_starts : starts attribute ≡ terminal.Key k.ReadOnly ∷ terminal.Key k.Attribute ∷ []
unfolding any_readonly attribute
attribute_starts = refl

pub constant_starts : starts constant ≡ terminal.Key k.Const ∷ []
unfolding constant
constant_starts = refl

pub member_starts : starts one_member
    ≡ terminal.Code ∷ terminal.Key k.Const ∷ terminal.Mark m.LBracket ∷ terminal.Key k.ReadOnly ∷ terminal.Key k.Attribute
    ∷ terminal.Word ∷ terminal.Key k.Void ∷ terminal.Key k.Boolean ∷ terminal.Key k.Octet ∷ terminal.Key k.Short ∷ terminal.Key k.Long
    ∷ terminal.Key k.Unsigned ∷ terminal.Key k.Float ∷ terminal.Key k.Double ∷ terminal.Key k.Char ∷ terminal.Key k.WChar
    ∷ terminal.Key k.String ∷ terminal.Key k.WString ∷ []
unfolding long_type unsigned_type wide_type type_name attributes any_attributes any_readonly attribute method marked_member constant member_body one_member
member_starts = refl

pub forward_starts : starts forward ≡ terminal.Mark m.Semi ∷ []
unfolding forward
forward_starts = refl

pub native_starts : starts native ≡ terminal.Native ∷ []
unfolding native
native_starts = refl

pub typedef_starts : starts typedef ≡ terminal.Key k.Typedef ∷ []
unfolding typedef
typedef_starts = refl

pub item_starts : starts one_item
    ≡ terminal.Include ∷ terminal.Code ∷ terminal.Key k.Typedef ∷ terminal.Mark m.LBracket ∷ terminal.Native ∷ terminal.Key k.Interface ∷ []
unfolding attributes any_attributes native interface marked_item typedef item_body one_item
item_starts = refl
