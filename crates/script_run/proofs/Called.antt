-- From a call that begins to what its line comes to.
use Rattle.std.proofs.Common.{◌≡◌, ℤ, List, [], Some, None, Result, Ok, Err, refl, sym, ap, ◌∙◌}
use Rattle.call_model.specs.declared.places.Conv.{Conv}
use Rattle.call_model.specs.declared.tables.Table.{Table}
use Rattle.call_scripts.specs.declared.script.Act.TheVariants as acts
use Rattle.call_scripts.specs.declared.script.ArgWord.{ArgWord}
use Rattle.call_scripts.specs.declared.script.EnterItem.{EnterItem}
use Rattle.call_scripts.specs.declared.script.MemberRef.{MemberRef}
use Rattle.call_scripts.specs.declared.script.Target.{Target}
use Rattle.invoke_by_index.specs.declared.args.Arg.{Arg}
use Rattle.transcript_text.specs.declared.refusals.Refusal.{Refusal}
use Rattle.transcript_text.specs.declared.refusals.Refusal.TheVariants as refusal
use Rattle.call_replies.specs.Blocks.{Block}
use Rattle.script_meaning.specs.Calls.{Call}
use Rattle.script_meaning.specs.Members.{Member, member_named}
use Rattle.script_meaning.specs.Refusing.{◌then◌}
use Rattle.script_meaning.specs.State.{Name, State, named}
use Rattle.script_meaning.specs.Step.{call_of, enter_of, made_by, outcome}
use Rattle.script_meaning.specs.Words.{args_of, number_of_target}
use Rattle.begun_calls.specs.Calling.{call_begun, enter_begun}

-- the words of a call stand for these
pub call-asks : (table : Table) (conv : Conv) (state : State) (target : Target)
    (member : MemberRef) (words : List ArgWord) (this : ℤ) (args : List Arg) (m : Member)
    → number_of_target state target ≡ Some this → args_of state words ≡ Some args
    → member_named table member ≡ Ok m
    → call_of table conv state target member words ≡ call_begun table conv state this args m
unfolding call_of
call-asks table conv state target member words this args m is-this are-args is-member =
    rw (is-this, are-args, is-member) refl

pub call-no-target : (table : Table) (conv : Conv) (state : State) (target : Target)
    (member : MemberRef) (words : List ArgWord) → number_of_target state target ≡ None
    → outcome table conv state (acts.Call target member words) ≡ Err refusal.NoName
unfolding call_of outcome
call-no-target table conv state target member words none = rw none refl

pub call-no-args : (table : Table) (conv : Conv) (state : State) (target : Target)
    (member : MemberRef) (words : List ArgWord) (this : ℤ)
    → number_of_target state target ≡ Some this → args_of state words ≡ None
    → outcome table conv state (acts.Call target member words) ≡ Err refusal.NoName
unfolding call_of outcome
call-no-args table conv state target member words this is none = rw (is, none) refl

pub call-no-member : (table : Table) (conv : Conv) (state : State) (target : Target)
    (member : MemberRef) (words : List ArgWord) (this : ℤ) (args : List Arg) (e : Refusal)
    → number_of_target state target ≡ Some this → args_of state words ≡ Some args
    → member_named table member ≡ Err e
    → outcome table conv state (acts.Call target member words) ≡ Err e
unfolding call_of outcome
call-no-member table conv state target member words this args e is are none =
    rw (is, are, none) refl

-- and what comes of it then
pub call-comes : (table : Table) (conv : Conv) (state : State) (target : Target)
    (member : MemberRef) (words : List ArgWord) (begins : Result Call Refusal)
    → call_of table conv state target member words ≡ begins
    → outcome table conv state (acts.Call target member words)
    ≡ (begins then λ call. Ok (made_by table conv state words call))
unfolding outcome
call-comes table conv state target member words begins is =
    ap (λ r. r then λ call. Ok (made_by table conv state words call)) is

-- all in one, where these are the address and the arguments that were handed on
pub call-so : (table : Table) (conv : Conv) (state : State) (target : Target)
    (member : MemberRef) (words : List ArgWord) (this passed : ℤ) (args given : List Arg)
    (m : Member) → number_of_target state target ≡ Some this → passed ≡ this
    → args_of state words ≡ Some args → given ≡ args → member_named table member ≡ Ok m
    → outcome table conv state (acts.Call target member words)
    ≡ (call_begun table conv state passed given m then λ call. Ok (made_by table conv state words call))
call-so table conv state target member words this passed args given m is-this same are-args alike is-member =
    call-comes table conv state target member words (call_begun table conv state passed given m)
    (call-asks table conv state target member words this args m is-this are-args is-member
    ∙ (λ j. call_begun table conv state (sym same j) (sym alike j) m))

-- the same of an enter
pub enter-asks : (table : Table) (conv : Conv) (state : State) (name : Name)
    (member : MemberRef) (items : List EnterItem) (b : Block) (m : Member)
    → named state name ≡ Some b → member_named table member ≡ Ok m
    → enter_of table conv state name member items ≡ enter_begun table conv state name items m
unfolding enter_of
enter-asks table conv state name member items b m is is-member = rw (is, is-member) refl

pub enter-no-name : (table : Table) (conv : Conv) (state : State) (name : Name)
    (member : MemberRef) (items : List EnterItem) → named state name ≡ None
    → outcome table conv state (acts.Enter name member items) ≡ Err refusal.NoName
unfolding enter_of outcome
enter-no-name table conv state name member items none = rw none refl

pub enter-no-member : (table : Table) (conv : Conv) (state : State) (name : Name)
    (member : MemberRef) (items : List EnterItem) (b : Block) (e : Refusal)
    → named state name ≡ Some b → member_named table member ≡ Err e
    → outcome table conv state (acts.Enter name member items) ≡ Err e
unfolding enter_of outcome
enter-no-member table conv state name member items b e is none = rw (is, none) refl

pub enter-comes : (table : Table) (conv : Conv) (state : State) (name : Name)
    (member : MemberRef) (items : List EnterItem) (begins : Result Call Refusal)
    → enter_of table conv state name member items ≡ begins
    → outcome table conv state (acts.Enter name member items)
    ≡ (begins then λ call. Ok (made_by table conv state [] call))
unfolding outcome
enter-comes table conv state name member items begins is =
    ap (λ r. r then λ call. Ok (made_by table conv state [] call)) is

pub enter-so : (table : Table) (conv : Conv) (state : State) (name : Name)
    (member : MemberRef) (items given : List EnterItem) (b : Block) (m : Member)
    → named state name ≡ Some b → given ≡ items → member_named table member ≡ Ok m
    → outcome table conv state (acts.Enter name member items)
    ≡ (enter_begun table conv state name given m then λ call. Ok (made_by table conv state [] call))
enter-so table conv state name member items given b m is same is-member =
    enter-comes table conv state name member items (enter_begun table conv state name given m)
    (enter-asks table conv state name member items b m is is-member
    ∙ ap (λ xs. enter_begun table conv state name xs m) (sym same))
