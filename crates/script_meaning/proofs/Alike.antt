-- Enters whose frames conform to the same values have one outcome.
use Rattle.std.proofs.Common.{◌≡◌, ◌≤◌, ◌∙◌, ℕ, Bool, true, false, List, [], length, Option, Some, None, Result, Ok, Err, if◌then◌else◌, ap, refl, sym, subst, drop, nat_le, arith}
use Rattle.std.specs.Result.{result_ok}
use Rattle.std.proofs.lemmas.Grind.{common_steps}
use Rattle.std.proofs.lemmas.Option.{none-some, same_Some}
use Rattle.call_model.specs.declared.places.Conv.{Conv}
use Rattle.call_model.specs.declared.tables.Table.{Table}
use Rattle.call_model.specs.Placement.{stack_len_of}
use Rattle.call_model.specs.Prototype.{types_of}
use Rattle.call_model.specs.Tables.{descends_from}
use Rattle.call_scripts.specs.declared.script.Act.TheVariants.{Enter}
use Rattle.call_scripts.specs.declared.script.EnterItem.{EnterItem}
use Rattle.call_scripts.specs.declared.script.MemberRef.{MemberRef}
use Rattle.transcript_text.specs.declared.refusals.Refusal.{Refusal}
use Rattle.transcript_text.specs.declared.refusals.Refusal.TheVariants as refusal
use Rattle.stub_dispatch.proofs.Recovered.{gives-canonical}
use Rattle.call_replies.specs.Blocks.{Block}
use Rattle.script_meaning.specs.Calls.{Call, call_text, enter_with, state_after, values_received}
use Rattle.script_meaning.specs.Enters.{entered_frame, misformed}
use Rattle.script_meaning.specs.Laws.{EntersAlike, Passes, SameOutcome}
use Rattle.script_meaning.specs.Members.{Member, as_object, member_named, object_of}
use Rattle.script_meaning.specs.Refusing.{◌then◌, no_fault, require, there_is}
use Rattle.script_meaning.specs.State.{Name, State, iface_in, is_object, named}
use Rattle.script_meaning.specs.Step.{Stepped, enter_of, made_by, short_frame, outcome, settled, whole}

-- the conditions of an enter, by what each of them looks at
abbrev entering : Table → Conv → Option Block → Result Member Refusal → Option ℕ → List EnterItem
    → Result Call Refusal
entering table conv found member bad items =
    there_is found refusal.NoName
    then λ found. member
    then λ m. no_fault bad refusal.Form
    then λ _. object_of table m.iface (as_object found)
    then λ object. whole conv (enter_with conv m object items)

-- all of a chain is refused, or none
same_after : (state : State) (found : Result Block Refusal) (f g : Block → Result Stepped Refusal)
    → ((o : Block) → found ≡ Ok o → SameOutcome (settled state (f o)) (settled state (g o)))
    → SameOutcome (settled state (found then f)) (settled state (found then g))
same_after state (Ok o) f g same = same o refl
same_after state (Err e) f g same = record { text = refl; state = refl }

then-after : {A B C : Type 0} (r : Result A Refusal) (f : A → Result B Refusal) (g : B → Result C Refusal)
    → ((r then f) then g) ≡ (r then λ x. f x then g)
then-after (Ok v) f g = refl
then-after (Err e) f g = refl

-- ---- the object

described : (b o : Block) (d : Bool)
    → (require d refusal.WrongInterface then λ _. Ok b) ≡ Ok o → o ≡ b
described b o true is = sym (same_Some b o (ap result_ok is))
described b o false is = absurd (none-some o (ap result_ok is))

object_is : (table : Table) (iface : ℕ) (b o : Block) (t : Bool)
    → object_of table iface (if t then Some b else None) ≡ Ok o → o ≡ b
object_is table iface b o true is =
    described b o (descends_from table (iface_in b.held) iface) is
object_is table iface b o false is = absurd (none-some o (ap result_ok is))

-- ---- one enter

whole-is : (conv : Conv) (call : Call)
    → stack_len_of conv (types_of call.proto) ≤ length call.frame.stack → whole conv call ≡ Ok call
whole-is conv call enough =
    let test : nat_le (stack_len_of conv (types_of call.proto)) (length call.frame.stack) ≡ true =
    grind (arith, common_steps) in
    ap (λ t. require t (short_frame conv call) then λ _. Ok call) test

module _ (table : Table) (conv : Conv) (state : State) (name : Name) (member : MemberRef)
    (object : Block) (m : Member) (named_is : named state name ≡ Some object)
    (member_is : member_named table member ≡ Ok m) where
  abbrev entered_as : List EnterItem → Block → Result Stepped Refusal
  entered_as items o =
      whole conv (enter_with conv m o items) then λ call. Ok (made_by table conv state [] call)

  -- an enter whose items are well formed is refused for its object or its stack alone
  outcome-is : (items : List EnterItem) → misformed conv items ≡ None
      → outcome table conv state (Enter name member items)
      ≡ (object_of table m.iface (as_object object) then entered_as items)
  unfolding outcome enter_of
  outcome-is items formed =
      ap (λ found. entering table conv found (member_named table member) (misformed conv items) items
      then λ call. Ok (made_by table conv state [] call)) named_is
      ∙ ap (λ found. entering table conv (Some object) found (misformed conv items) items
      then λ call. Ok (made_by table conv state [] call)) member_is
      ∙ ap (λ bad. entering table conv (Some object) (Ok m) bad items
      then λ call. Ok (made_by table conv state [] call)) formed
      ∙ then-after (object_of table m.iface (as_object object))
      (λ o. whole conv (enter_with conv m o items)) (λ call. Ok (made_by table conv state [] call))

  module _ (values : List ℕ) (one other : List EnterItem) (first : Passes conv m.proto object values one)
      (second : Passes conv m.proto object values other) where
    same_values : values_received conv (enter_with conv m object one)
        ≡ values_received conv (enter_with conv m object other)
    same_values =
        ap (drop 1)
        (gives-canonical conv m.proto (entered_frame conv object.at one) object.at values first.conforms
        ∙ sym (gives-canonical conv m.proto (entered_frame conv object.at other) object.at values
        second.conforms))

    -- no text and no state looks at the frame, but for the values that are received from it
    same_made : SameOutcome
        (made_by table conv state [] (enter_with conv m object one))
        (made_by table conv state [] (enter_with conv m object other))
    unfolding call_text
    same_made = record {
      text = ap (call_text table state conv (enter_with conv m object one)) same_values;
      state = ap (state_after state conv (enter_with conv m object one) []) same_values;
    }

    same_entered : (o : Block) → o ≡ object
        → SameOutcome (settled state (entered_as one o)) (settled state (entered_as other o))
    same_entered o is =
        subst (λ o. SameOutcome (settled state (entered_as one o)) (settled state (entered_as other o)))
        (sym is)
        (rw (
          whole-is conv (enter_with conv m object one) first.conforms.enough,
          whole-is conv (enter_with conv m object other) second.conforms.enough,
        )
        same_made)

    pub alike : SameOutcome
        (settled state (outcome table conv state (Enter name member one)))
        (settled state (outcome table conv state (Enter name member other)))
    alike =
        rw (outcome-is one first.formed, outcome-is other second.formed)
        (same_after state (object_of table m.iface (as_object object)) (entered_as one) (entered_as other)
        (λ o is. same_entered o (object_is table m.iface object o (is_object object.held) is)))

pub enters-alike : EntersAlike
enters-alike table conv state name member object m named_is member_is values one other first second =
    alike table conv state name member object m named_is member_is values one other first second
