-- One token of look-ahead is enough for the grammar.
use Rattle.std.proofs.Common.{◌≡◌, ℕ, zero, suc, true, false, List, [], ◌∷◌, ◌++◌, refl}
use Rattle.idl_grammar.specs.declared.level.Level.{Level}
use Rattle.idl_grammar.specs.declared.level.Level.TheVariants as levels
use Rattle.idl_grammar.specs.declared.terminal.Mark.TheVariants as m
use Rattle.idl_grammar.specs.declared.terminal.Terminal.{Terminal}
use Rattle.idl_grammar.specs.declared.tree.ExprStep.{ExprStep}
use Rattle.idl_grammar.specs.declared.tree.ExprStep.TheVariants as step
use Rattle.idl_grammar.specs.Terminals.{same_kind}
use Rattle.idl_grammar.specs.Rule.{Rule, ◌&>◌, ◌<&◌, ◌<$>◌, ◌<|>◌}
use Rattle.idl_grammar.specs.Read.{is_predictive, is_nullable, goes_on, excludes}
use Rattle.idl_grammar.proofs.Loops.{Repeats}
use Rattle.idl_grammar.specs.Grammar.{long_type, unsigned_type, wide_type, type_name, attribute_name, attribute_word, attribute_value, one_attribute, attribute_list, attributes, any_attributes, operator, mark, number_step, name_step, simple, within, unary, products, sums, shifts, unions, operands, negation, parentheses, expression, direction, parameter, parameter_list, parameters, passed_names, any_raises, any_readonly, attribute, method, marked_member, constant, member_body, one_member, forward, parent, definition, interface, native, marked_item, typedef, item_body, one_item, file}

-- the rule is predictive and never empty, and a whole reading may go on with these symbols
record Ends {A : Type 0} (r : Rule A) (symbols : List Terminal) : Type 0 where
  predictive : is_predictive r ≡ true
  filled : is_nullable r ≡ false
  further : goes_on r ≡ symbols

operators : List Terminal
operators = goes_on {A = List ExprStep} (unions simple)

unions-ends : (u : Rule (List ExprStep)) → Ends u [] → Ends (unions u) operators
unfolding same_kind excludes operator operators simple number_step name_step products sums shifts unions
unions-ends u e =
    record {
      predictive = simp (e.predictive, e.filled, e.further) refl;
      filled = simp (e.filled) refl;
      further = simp (e.filled, e.further) refl;
    }

within-ends-of : (u b : Rule (List ExprStep)) → Ends u [] → Ends b operators
    → Ends (number_step <|> name_step <|> (λ steps. steps ++ step.Neg ∷ []) <$> mark m.Minus &> u <|> mark m.LParen &> b <& mark m.RParen) []
unfolding same_kind excludes operators operator simple number_step name_step products sums shifts unions
within-ends-of u b e f =
    record {
      predictive = simp (e.predictive, f.predictive, f.further) refl;
      filled = refl;
      further = simp (e.filled, e.further, f.filled) refl;
    }

within-ends : (u : Rule (List ExprStep)) → Ends u [] → Ends (within u) []
unfolding within negation parentheses
within-ends u e = within-ends-of u (unions u) e (unions-ends u e)

unary-ends : (n : ℕ) → Ends (unary n) []
unfolding same_kind excludes unary simple number_step name_step
unary-ends zero = record { predictive = refl; filled = refl; further = refl }
unary-ends (suc n) = within-ends (unary n) (unary-ends n)

expression-ends : Ends expression operators
unfolding expression
expression-ends = let e = unions-ends (unary 64) (unary-ends 64) in record { predictive = e.predictive; filled = e.filled; further = e.further }

pub member-predictive : is_predictive one_member ≡ true
unfolding same_kind excludes operators operator simple products sums shifts unions number_step name_step long_type unsigned_type wide_type type_name attribute_name attribute_word attribute_value one_attribute attribute_list attributes any_attributes direction parameter parameter_list parameters passed_names any_raises any_readonly attribute method marked_member constant member_body one_member
member-predictive = let e = expression-ends in simp (e.predictive, e.filled, e.further) refl

pub file-predictive : is_predictive file ≡ true
unfolding same_kind excludes operators operator simple products sums shifts unions number_step name_step long_type unsigned_type wide_type type_name attribute_name attribute_word attribute_value one_attribute attribute_list attributes any_attributes direction parameter parameter_list parameters passed_names any_raises any_readonly attribute method marked_member constant member_body one_member forward parent definition interface native marked_item typedef item_body one_item file
file-predictive = let e = expression-ends in simp (e.predictive, e.filled, e.further) refl

-- ---- what loops repeat

pub attribute-predictive : is_predictive one_attribute ≡ true
unfolding same_kind excludes attribute_name attribute_word attribute_value one_attribute
attribute-predictive = refl

pub parameter-predictive : is_predictive parameter ≡ true
unfolding same_kind excludes long_type unsigned_type wide_type type_name attribute_name attribute_word attribute_value one_attribute attribute_list attributes any_attributes direction parameter
parameter-predictive = refl

operands-ends : (level : Level) (u : Rule (List ExprStep)) → Ends u [] → is_predictive (operands level u) ≡ true
unfolding same_kind excludes operator products sums shifts
operands-ends levels.Product u e = e.predictive
operands-ends levels.Sum u e = simp (e.predictive, e.filled, e.further) refl
operands-ends levels.Shift u e = simp (e.predictive, e.filled, e.further) refl
operands-ends levels.Union u e = simp (e.predictive, e.filled, e.further) refl

pub operands-predictive : (level : Level) (n : ℕ) → is_predictive (operands level (unary n)) ≡ true
operands-predictive level n = operands-ends level (unary n) (unary-ends n)

pub operator-predictive : (level : Level) → is_predictive (operator level) ≡ true
unfolding same_kind excludes operator
operator-predictive levels.Product = refl
operator-predictive levels.Sum = refl
operator-predictive levels.Shift = refl
operator-predictive levels.Union = refl

pub operator-filled : (level : Level) → is_nullable (operator level) ≡ false
unfolding operator
operator-filled levels.Product = refl
operator-filled levels.Sum = refl
operator-filled levels.Shift = refl
operator-filled levels.Union = refl

pub operator-ends : (level : Level) → goes_on (operator level) ≡ []
unfolding operator
operator-ends levels.Product = refl
operator-ends levels.Sum = refl
operator-ends levels.Shift = refl
operator-ends levels.Union = refl

pub item-predictive : is_predictive one_item ≡ true
unfolding same_kind excludes operators operator simple number_step name_step products sums shifts unions long_type unsigned_type wide_type type_name attribute_name attribute_word attribute_value one_attribute attribute_list attributes any_attributes direction parameter parameter_list parameters passed_names any_raises any_readonly attribute method marked_member constant member_body one_member forward parent definition interface native marked_item typedef item_body one_item
item-predictive = let e = expression-ends in simp (e.predictive, e.filled, e.further) refl

pub member-repeats : Repeats one_member
unfolding long_type unsigned_type wide_type type_name attributes any_attributes any_readonly attribute method marked_member constant member_body one_member
member-repeats = record { predictive = member-predictive; filled = refl }

pub item-repeats : Repeats one_item
unfolding attributes any_attributes native interface marked_item typedef item_body one_item
item-repeats = record { predictive = item-predictive; filled = refl }
