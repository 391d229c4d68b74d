-- A new rule: the conditions of its line, one after the other.
use Rattle.std.proofs.Common.{◌≡◌, ◌∙◌, ℕ, true, false, List, Some, None, Ok, Err, Result, is_some, ap, refl}
use Rattle.call_model.specs.declared.tables.Table.{Table}
use Rattle.call_scripts.specs.declared.script.MemberRef.{MemberRef}
use Rattle.call_scripts.specs.declared.script.ReplyItem.{ReplyItem}
use Rattle.transcript_text.specs.declared.refusals.Refusal.{Refusal}
use Rattle.transcript_text.specs.declared.refusals.Refusal.TheVariants as refusal
use Rattle.call_replies.specs.Blocks.{Block, Held, Data, Object, Forwarder}
use Rattle.script_meaning.specs.Chain.{is_forwarder}
use Rattle.script_meaning.specs.Members.{Member, as_object, member_named, object_of}
use Rattle.script_meaning.specs.Refusing.{◌then◌, no_fault, refuse, there_is}
use Rattle.script_meaning.specs.State.{Name, Rule, State, named, number_in, with_rule}
use Rattle.script_meaning.specs.Step.{Stepped, done, misformed_item, new_rule}
use Rattle.script_meaning.specs.Words.{rule_of}
use Rattle.script_objects.specs.Known.{forward_in}

-- an object hands its calls on exactly where it is a forwarder
pub hands-on : (h : Held) → is_some (forward_in h) ≡ is_forwarder h
hands-on (Data bytes) = refl
hands-on (Object number iface) = refl
hands-on (Forwarder number iface target own) = refl

module _ (table : Table) (state : State) (name : Name) (member : MemberRef) (items : List ReplyItem) where
  -- what is still asked, once these are known
  abbrev ruling : Member → Rule → Block → Result Stepped Refusal
  ruling m rule object =
      refuse (is_forwarder object.held) refusal.Proxy
      then λ _. Ok (done (with_rule state (number_in object.held) m.slot rule))

  abbrev of_object : Block → Rule → Member → Result Stepped Refusal
  of_object b rule m = object_of table m.iface (as_object b) then λ object. ruling m rule object

  abbrev of_items : Block → Rule → Member → Result Stepped Refusal
  of_items b rule m = no_fault (misformed_item m rule) refusal.Form then λ _. of_object b rule m

  abbrev of_member : Block → Rule → Result Stepped Refusal
  of_member b rule = member_named table member then λ m. of_items b rule m

  abbrev of_words : Block → Result Stepped Refusal
  of_words b = there_is (rule_of state items) refusal.NoName then λ rule. of_member b rule

  whole : new_rule table state name member items ≡ (there_is (named state name) refusal.NoName then λ b. of_words b)
  unfolding new_rule
  whole = refl

  pub rule-unnamed : named state name ≡ None → new_rule table state name member items ≡ Err refusal.NoName
  rule-unnamed none = whole ∙ ap (λ o. there_is o refusal.NoName then λ b. of_words b) none

  module _ (b : Block) (is : named state name ≡ Some b) where
    words : new_rule table state name member items ≡ of_words b
    words = whole ∙ ap (λ o. there_is o refusal.NoName then λ b. of_words b) is

    pub rule-unknown : rule_of state items ≡ None → new_rule table state name member items ≡ Err refusal.NoName
    rule-unknown none = words ∙ ap (λ o. there_is o refusal.NoName then λ rule. of_member b rule) none

    module _ (rule : Rule) (made : rule_of state items ≡ Some rule) where
      known : new_rule table state name member items ≡ of_member b rule
      known = words ∙ ap (λ o. there_is o refusal.NoName then λ rule. of_member b rule) made

      pub rule-member : (e : Refusal) → member_named table member ≡ Err e → new_rule table state name member items ≡ Err e
      rule-member e fails = known ∙ ap (λ r. r then λ m. of_items b rule m) fails

      module _ (m : Member) (meant : member_named table member ≡ Ok m) where
        found : new_rule table state name member items ≡ of_items b rule m
        found = known ∙ ap (λ r. r then λ m. of_items b rule m) meant

        pub rule-form : (k : ℕ) → misformed_item m rule ≡ Some k → new_rule table state name member items ≡ Err (refusal.Form k)
        rule-form k bad = found ∙ ap (λ o. no_fault o refusal.Form then λ _. of_object b rule m) bad

        module _ (formed : misformed_item m rule ≡ None) where
          suits : new_rule table state name member items ≡ of_object b rule m
          suits = found ∙ ap (λ o. no_fault o refusal.Form then λ _. of_object b rule m) formed

          pub rule-object : (e : Refusal) → object_of table m.iface (as_object b) ≡ Err e
              → new_rule table state name member items ≡ Err e
          rule-object e fails = suits ∙ ap (λ r. r then λ object. ruling m rule object) fails

          module _ (object : Block) (has : object_of table m.iface (as_object b) ≡ Ok object) where
            asked : new_rule table state name member items ≡ ruling m rule object
            asked = suits ∙ ap (λ r. r then λ object. ruling m rule object) has

            pub rule-proxy : is_forwarder object.held ≡ true → new_rule table state name member items ≡ Err refusal.Proxy
            rule-proxy hands =
                asked ∙ ap (λ t. refuse t refusal.Proxy
                then λ _. Ok (done (with_rule state (number_in object.held) m.slot rule))) hands

            pub rule-made : is_forwarder object.held ≡ false
                → new_rule table state name member items
                ≡ Ok (done (with_rule state (number_in object.held) m.slot rule))
            rule-made answers =
                asked ∙ ap (λ t. refuse t refusal.Proxy
                then λ _. Ok (done (with_rule state (number_in object.held) m.slot rule))) answers
