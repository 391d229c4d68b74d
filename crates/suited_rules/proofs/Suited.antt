-- Each line leaves rules that suit their slots, and forwarders that are like their targets.
use Rattle.std.proofs.Common.{◌≡◌, ◌<◌, ◌≤◌, ℕ, ◌+◌, ◌-◌, ◌==◌, ◌&&◌, Bool, true, false, not, List, [], ◌∷◌, ◌++◌, length, fold, position, Option, Some, None, option_map, Result, Ok, Err, IfOk, slice_get, if◌then◌else◌, bytes_eq, is_some, nat_le, All, ap, refl, sym, subst, ◌∙◌, arith}
use Rattle.std.specs.List.{list_all}
use Rattle.std.specs.Result.{result_ok}
use Rattle.std.proofs.lemmas.Bool.{false≢true}
use Rattle.std.proofs.lemmas.Grind.{common_steps}
use Rattle.std.proofs.lemmas.List.Elements.{All-append, All-cons, All-head, All-nil, All-tail}
use Rattle.std.proofs.lemmas.Option.{none-some, same_Some}
use Rattle.call_model.specs.declared.ctypes.CType.TheVariants.{Ptr}
use Rattle.call_model.specs.declared.places.Conv.{Conv}
use Rattle.call_model.specs.declared.prototypes.ProtoArg.{ProtoArg}
use Rattle.call_model.specs.declared.prototypes.Status.{Status}
use Rattle.call_model.specs.declared.prototypes.Status.TheVariants as statuses
use Rattle.call_model.specs.declared.tables.Table.{Table}
use Rattle.call_model.specs.declared.tables.TableSlot.{TableSlot}
use Rattle.call_model.specs.Tables.{HasShortLineage, descends_from, iface_named, slots_of}
use Rattle.call_scripts.specs.declared.script.Act.{Act}
use Rattle.call_scripts.specs.declared.script.Act.TheVariants as acts
use Rattle.call_scripts.specs.declared.script.ArgWord.{ArgWord}
use Rattle.call_scripts.specs.declared.script.Fill.{Fill}
use Rattle.call_scripts.specs.declared.script.Line.{Line}
use Rattle.call_scripts.specs.declared.script.MemberRef.{MemberRef}
use Rattle.call_scripts.specs.declared.script.ReplyItem.{ReplyItem}
use Rattle.call_scripts.specs.declared.script.ValueWord.{ValueWord}
use Rattle.invoke_by_index.specs.Ranges.{in_range}
use Rattle.object_memory.specs.Layout.{space_for}
use Rattle.object_memory.specs.declared.layout.TheConstants.{CELLS_AT}
use Rattle.raw_block.specs.Bytes.{overwritten}
use Rattle.transcript_text.specs.declared.refusals.Refusal.{Refusal}
use Rattle.transcript_text.specs.declared.refusals.Refusal.TheVariants as refusal
use Rattle.call_replies.specs.Blocks.{Block, Held, Data, Object, Forwarder, block_after, blocks_after, held_after}
use Rattle.call_replies.specs.Items.{takes_item, takes_items}
use Rattle.call_replies.specs.Reply.{Asked, Memory, Write, reply, reply_by, result_of, writes_of, written}
use Rattle.script_meaning.specs.Calls.{Call, asked, chain, memory_before, values_received}
use Rattle.script_meaning.specs.Chain.{answering, is_forwarder}
use Rattle.script_meaning.specs.Lawful.{IsLawful}
use Rattle.script_meaning.specs.Members.{Member, as_object, callable, member_named, object_of, slot_named}
use Rattle.script_meaning.specs.Refusing.{◌then◌, no_fault, refuse, require, there_is}
use Rattle.script_meaning.specs.State.{Name, Rule, Rules, State, has_room, iface_in, is_object, named, next_at, next_number, number_in, object_numbered, ruled, with_block}
use Rattle.script_meaning.specs.Step.{Stepped, call_of, data_in, enter_of, forwarder_to, has_depth, joins, made_by, misformed_item, new_context, new_data, new_forwarder, new_object, new_rule, object_space, outcome, poked, settled, shown_block, shown_variable, step}
use Rattle.script_meaning.specs.Words.{length_of, number_of_value, rule_of}
use Rattle.script_meaning.proofs.Kept.{data-kept}
use Rattle.script_meaning.proofs.Lawfulness.{found-is, if_then, required}
use Rattle.script_meaning.proofs.Ways.{first-found}
use Rattle.lib_model.specs.Table.{table_of}
use Rattle.lib_model.proofs.TableLaws.{short_lineage}
use Rattle.suited_rules.specs.Laws.{StartsSuited, StepsKeepSuited}
use Rattle.suited_rules.specs.Suiting.{AllAlike, AreRules, AreSuited, IsAlike, IsRule, SuitsSlot, iface_numbered}
use Rattle.suited_rules.proofs.Descent.{descended}
use Rattle.suited_rules.proofs.Numbers.{IsFound, each-found, iface-after, iface-more, iface-of}

-- ---- what a reply keeps of blocks

module _ (P : List Block → Type 0)
    (keeps : (blocks : List Block) (a : ℕ) (w : List ℕ) → P blocks → P (blocks_after blocks a w))
  where
    written-keeps : (memory : Memory) (w : Write) → P memory.blocks → P (written memory w).blocks
    written-keeps memory w is = by_test w.to_cell
      where
        by_test : (t : Bool)
            → P
            (if t then record memory { cells = overwritten memory.cells (w.at - CELLS_AT) w.bytes }
            else record memory { blocks = blocks_after memory.blocks w.at w.bytes }).blocks
        by_test true = is
        by_test false = keeps memory.blocks w.at w.bytes is

    fold-keeps : (memory : Memory) (writes : List Write) → P memory.blocks
        → P (fold written memory writes).blocks
    fold-keeps memory [] is = is
    fold-keeps memory (w ∷ writes) is =
        fold-keeps (written memory w) writes (written-keeps memory w is)

    by-keeps : (memory : Memory) (result : ℕ) (writes : Option (List Write)) → P memory.blocks
        → P (reply_by memory result writes).memory.blocks
    by-keeps memory result None is = is
    by-keeps memory result (Some writes) is = fold-keeps memory writes is

    reply-keeps : (conv : Conv) (rule : Option (List ReplyItem)) (call : Asked) (memory : Memory)
        → P memory.blocks → P (reply conv rule call memory).memory.blocks
    reply-keeps conv None call memory is = is
    reply-keeps conv (Some rule) call memory is =
        by-keeps memory (result_of rule) (writes_of conv call memory rule) is

-- ---- forwarders

alike-as : (X Y : List Block) → ((n i : ℕ) → iface_numbered X n ≡ Some i → iface_numbered Y n ≡ Some i)
    → (h : Held) → IsAlike X h → IsAlike Y h
alike-as X Y leads (Data bytes) is = tt
alike-as X Y leads (Object number iface) is = tt
alike-as X Y leads (Forwarder number iface target own) is = leads target iface is

all-alike-as : (X Y : List Block)
    → ((n i : ℕ) → iface_numbered X n ≡ Some i → iface_numbered Y n ≡ Some i)
    → (blocks : List Block) → All (λ (b : Block). IsAlike X b.held) blocks
    → All (λ (b : Block). IsAlike Y b.held) blocks
all-alike-as X Y leads [] all = All-nil (λ (b : Block). IsAlike Y b.held)
all-alike-as X Y leads (b ∷ blocks) all =
    All-cons (λ (b : Block). IsAlike Y b.held) b blocks
    (alike-as X Y leads b.held (All-head (λ (b : Block). IsAlike X b.held) b blocks all))
    (all-alike-as X Y leads blocks (All-tail (λ (b : Block). IsAlike X b.held) b blocks all))

alike-after : (X : List Block) (at a : ℕ) (w : List ℕ) (h : Held) → IsAlike X h
    → IsAlike X (held_after at h a w)
alike-after X at a w (Data old) is = data-kept at a w old (IsAlike X) (λ bytes same. tt)
alike-after X at a w (Object number iface) is = is
alike-after X at a w (Forwarder number iface target own) is = is

all-alike-after : (X blocks : List Block) (a : ℕ) (w : List ℕ)
    → All (λ (b : Block). IsAlike X b.held) blocks
    → All (λ (b : Block). IsAlike X b.held) (blocks_after blocks a w)
all-alike-after X [] a w all = All-nil (λ (b : Block). IsAlike X b.held)
all-alike-after X (b ∷ blocks) a w all =
    All-cons (λ (b : Block). IsAlike X b.held) (block_after a w b) (blocks_after blocks a w)
    (alike-after X b.at a w b.held (All-head (λ (b : Block). IsAlike X b.held) b blocks all))
    (all-alike-after X blocks a w (All-tail (λ (b : Block). IsAlike X b.held) b blocks all))

-- ---- rules

rules-as : (table : Table) (X Y : List Block) (rules : Rules)
    → ((n i : ℕ) → iface_numbered X n ≡ Some i → iface_numbered Y n ≡ Some i)
    → AreRules table X rules → AreRules table Y rules
rules-as table X Y rules leads are object slot rule is =
    let one = are object slot rule is in
    record { iface = one.iface; has = leads object one.iface one.has; suits = one.suits }

-- ---- blocks with rules

pub record AreKept (table : Table) (rules : Rules) (blocks : List Block) : Type 0 where
  pub suit : AreRules table blocks rules
  pub alike : AllAlike blocks

kept-after : (table : Table) (rules : Rules) (blocks : List Block) (a : ℕ) (w : List ℕ)
    → AreKept table rules blocks → AreKept table rules (blocks_after blocks a w)
kept-after table rules blocks a w are =
    let leads = λ (n i : ℕ) (is : iface_numbered blocks n ≡ Some i). iface-after blocks a w n ∙ is in
    record {
      suit = rules-as table blocks (blocks_after blocks a w) rules leads are.suit;
      alike = all-alike-as blocks (blocks_after blocks a w) leads (blocks_after blocks a w)
          (all-alike-after blocks blocks a w are.alike);
    }

kept-push : (table : Table) (rules : Rules) (blocks : List Block) (b : Block) → IsAlike blocks b.held
    → AreKept table rules blocks → AreKept table rules (blocks ++ b ∷ [])
kept-push table rules blocks b like are =
    let leads = iface-more blocks (b ∷ []) in
    let X = blocks ++ b ∷ [] in
    record {
      suit = rules-as table blocks X rules leads are.suit;
      alike = All-append (λ (b : Block). IsAlike X b.held) blocks (b ∷ [])
          (all-alike-as blocks X leads blocks are.alike)
          (All-cons (λ (b : Block). IsAlike X b.held) b [] (alike-as blocks X leads b.held like)
          (All-nil (λ (b : Block). IsAlike X b.held)));
    }

-- ---- members

-- what a chain of conditions had
pub had : {A B : Type 0} (r : Result A Refusal) (f : A → Result B Refusal) (y : B)
    → (r then f) ≡ Ok y → (x : A) × (r ≡ Ok x) × (f x ≡ Ok y)
had (Ok x) f y is = (x, refl, is)
had (Err e) f y is = absurd (none-some y (ap result_ok is))

same-Ok : {A : Type 0} (x y : A) → ◌≡◌ {A = Result A Refusal} (Ok x) (Ok y) → x ≡ y
same-Ok x y is = same_Some x y (ap result_ok is)

proto-is : (status : Status) (proto found : List ProtoArg) → callable status proto ≡ Ok found
    → proto ≡ found
proto-is statuses.Callable proto found is = same-Ok proto found is
proto-is statuses.Hidden proto found is = absurd (none-some found (ap result_ok is))
proto-is statuses.NotXpcom proto found is = absurd (none-some found (ap result_ok is))
proto-is statuses.Opaque proto found is = absurd (none-some found (ap result_ok is))

-- the entry of the slot of a member that may be called
pub record HasEntry (table : Table) (m : Member) : Type 0 where
  pub entry : TableSlot
  pub is : slice_get (slots_of table m.iface) m.slot ≡ Some entry
  pub proto : entry.proto ≡ m.proto

pub member-entry : (table : Table) (member : MemberRef) (m : Member)
    → member_named table member ≡ Ok m → HasEntry table m
unfolding member_named
member-entry table member m is =
    let iface = had (there_is (iface_named table member.iface) refusal.NoInterface) _ m is in
    let slot = had (there_is (slot_named table iface.0 member) refusal.NoMethod) _ m iface.2 in
    let entry = had (there_is (slice_get (slots_of table iface.0) slot.0) refusal.NoMethod) _ m slot.2 in
    let proto = had (callable entry.0.status entry.0.proto) _ m entry.2 in
    let made : record { iface = iface.0; slot = slot.0; proto = proto.0 } ≡ m = same-Ok _ m proto.2 in
    let at : slice_get (slots_of table iface.0) slot.0 ≡ Some entry.0 = found-is _ refusal.NoMethod entry.0 entry.1 in
    record {
      entry = entry.0;
      is = subst (λ (x : Member). slice_get (slots_of table x.iface) x.slot ≡ Some entry.0) made at;
      proto = proto-is entry.0.status entry.0.proto proto.0 proto.1
          ∙ ap (λ (x : Member). x.proto) made;
    }

-- an object that has the members of an interface
pub has-members : (table : Table) (iface : ℕ) (found : Option Block) (object : Block)
    → object_of table iface found ≡ Ok object
    → (found ≡ Some object) × (descends_from table (iface_in object.held) iface ≡ true)
has-members table iface found object is =
    let there = had (there_is found refusal.NotAnObject) _ object is in
    let has = had (require (descends_from table (iface_in there.0.held) iface) refusal.WrongInterface) _ object there.2 in
    let same : there.0 ≡ object = same-Ok there.0 object has.2 in (
      found-is found refusal.NotAnObject there.0 there.1 ∙ ap Some same,
      subst (λ (b : Block). descends_from table (iface_in b.held) iface ≡ true) same
          (required _ refusal.WrongInterface has.0 has.1),
    )

-- no item is of wrong form
no-misfit : (proto : List ProtoArg) (rule : Rule)
    → position (λ item. not (takes_item proto item)) rule ≡ None → takes_items proto rule ≡ true
no-misfit proto [] is = refl
no-misfit proto (item ∷ rule) is = grind (arith, common_steps, is, no-misfit proto rule)

faultless : {A : Type 0} (o : Option A) (e : A → Refusal) (v : Unit {0}) → no_fault o e ≡ Ok v
    → o ≡ None
faultless None e v is = refl
faultless (Some fault) e v is = absurd (none-some v (ap result_ok is))

pub is-object-of : (found object : Block) → as_object found ≡ Some object
    → (found ≡ object) × (is_object found.held ≡ true)
is-object-of found object is = by_test (is_object found.held) is
  where
    by_test : (t : Bool) → (if t then Some found else None) ≡ Some object
        → (found ≡ object) × (t ≡ true)
    by_test true is = (same_Some found object is, refl)
    by_test false is = absurd (none-some object is)

-- ---- lines

module _ (table : Table) (short : (n : ℕ) → HasShortLineage table n) (conv : Conv) (state : State)
    (lawful : IsLawful conv state) (suited : AreSuited table state)
  where
    abbrev Keeps : Result Stepped Refusal → Type 0
    Keeps r = IfOk r (λ stepped. AreSuited table stepped.state)

    abbrev are : AreKept table state.rules state.blocks
    are = record { suit = suited.rules; alike = suited.alike }

    with-block : (name : Name) (held : Held) → IsAlike state.blocks held
        → AreSuited table (with_block conv state name held)
    with-block name held like =
        let kept = kept-push table state.rules state.blocks
        (record { name = name; at = next_at conv state; held = held }) like are in
        record { rules = kept.suit; alike = kept.alike }

    data-keeps : (name : Name) (fill : Fill) → Keeps (new_data conv state name fill)
    unfolding new_data
    data-keeps name fill =
        if_then _ (refuse (is_some (named state name)) refusal.Taken) _ (λ _ free.
        if_then _ (require (has_room conv state (space_for (length_of fill))) refusal.Heap) _ (λ v room.
        with-block name _ tt))

    object-keeps : (name iface : Name) → Keeps (new_object table conv state name iface)
    unfolding new_object
    object-keeps name iface =
        if_then _ (refuse (is_some (named state name)) refusal.Taken) _ (λ _ free.
        if_then _ (there_is (iface_named table iface) refusal.NoInterface) _ (λ number known.
        if_then _ (require (has_room conv state (object_space conv)) refusal.Heap) _ (λ v room.
        with-block name _ tt)))

    -- an object that a line names is found by its number
    pub named-found : (name : Name) (found object : Block) → named state name ≡ Some found
        → as_object found ≡ Some object
        → object_numbered state.blocks (number_in object.held) ≡ Some object
    named-found name found object known is =
        let same = is-object-of found object is in
        let all = each-found 0 state.blocks lawful.blocks.numbered in
        let passed = first-found (λ (b : Block). bytes_eq b.name name) (IsFound state.blocks)
        state.blocks found all known in
        subst (λ (b : Block). object_numbered state.blocks (number_in b.held) ≡ Some b) same.0
        (passed.1 same.1)

    forwarder-keeps : (name target : Name) (own : Option Conv)
        → Keeps (new_forwarder conv state name target own)
    unfolding new_forwarder
    forwarder-keeps name target own =
        if_then _ (refuse (is_some (named state name)) refusal.Taken) _ (λ _ free.
        if_then _ (there_is (named state target) refusal.NoName) _ (λ found known.
        if_then _ (there_is (as_object found) refusal.NotAnObject) _ (λ object is.
        if_then _ (require (joins conv own) refusal.Word) _ (λ _ joined.
        if_then _ (require (has_depth conv state object) refusal.Depth) _ (λ _ less.
        if_then _ (require (has_room conv state (object_space conv)) refusal.Heap) _ (λ v room.
        with-block name (forwarder_to state object own)
        (iface-of state.blocks (number_in object.held) object
        (named-found target found object (found-is _ refusal.NoName found known)
        (found-is _ refusal.NotAnObject object is)))))))))

    new-rule-suits : (m : Member) (rule : Rule) (object : Block) → HasEntry table m
        → takes_items m.proto rule ≡ true
        → descends_from table (iface_in object.held) m.iface ≡ true
        → SuitsSlot table (iface_in object.held) m.slot rule
    new-rule-suits m rule object has takes descends = record {
      entry = has.entry;
      is = descended table short m.iface (iface_in object.held) descends m.slot has.entry has.is;
      suits = ap (λ proto. takes_items proto rule) has.proto ∙ takes;
    }

    abbrev ruled-now : (n slot : ℕ) → Rule → (o s : ℕ) → Option Rule
    ruled-now n slot rule o s = ruled state.rules n slot rule o s

    with-rule : (n slot : ℕ) (rule : Rule) (iface : ℕ) → iface_numbered state.blocks n ≡ Some iface
        → SuitsSlot table iface slot rule
        → AreRules table state.blocks (ruled state.rules n slot rule)
    with-rule n slot rule iface object suits o s r is = by_tests (n == o) (slot == s) refl refl is
      where
        both : (a b : Bool) → (n == o) ≡ a → (slot == s) ≡ b → a ≡ true → b ≡ true
            → rule ≡ r → IsRule table state.blocks o s r
        both a b na sb at bt same = record {
          iface = iface;
          has = subst (λ k. iface_numbered state.blocks k ≡ Some iface)
              (grind (arith, common_steps, na, at)) object;
          suits = subst (λ k. SuitsSlot table iface k r) (grind (arith, common_steps, sb, bt))
              (subst (SuitsSlot table iface slot) same suits);
        }

        by_tests : (a b : Bool) → (n == o) ≡ a → (slot == s) ≡ b
            → (if a && b then Some rule else state.rules o s) ≡ Some r
            → IsRule table state.blocks o s r
        by_tests true true na sb has = both true true na sb refl refl (same_Some rule r has)
        by_tests true false na sb has = suited.rules o s r has
        by_tests false b na sb has = suited.rules o s r has

    rule-keeps : (name : Name) (member : MemberRef) (items : List ReplyItem)
        → Keeps (new_rule table state name member items)
    unfolding new_rule
    rule-keeps name member items =
        if_then _ (there_is (named state name) refusal.NoName) _ (λ found known.
        if_then _ (there_is (rule_of state items) refusal.NoName) _ (λ rule asked.
        if_then _ (member_named table member) _ (λ m is.
        if_then _ (no_fault (misformed_item m rule) refusal.Form) _ (λ v formed.
        if_then _ (object_of table m.iface (as_object found)) _ (λ object has.
        if_then _ (refuse (is_forwarder object.held) refusal.Proxy) _ (λ _ answers.
        let is-one = has-members table m.iface (as_object found) object has in
        let own = named-found name found object (found-is _ refusal.NoName found known) is-one.0 in
        record {
          rules = with-rule (number_in object.held) m.slot rule (iface_in object.held)
              (iface-of state.blocks (number_in object.held) object own)
              (new-rule-suits m rule object (member-entry table member m is)
              (no-misfit m.proto rule (faultless _ refusal.Form v formed)) is-one.1);
          alike = suited.alike;
        }))))))

    shown-keeps : (name : Name) → Keeps (shown_block state name)
    unfolding shown_block
    shown-keeps name =
        if_then _ (there_is (named state name) refusal.NoName) _ (λ b known.
        if_then _ (there_is (data_in b.held) refusal.NotData) _ (λ bytes held. suited))

    variable-keeps : (name : Name) → Keeps (shown_variable state name)
    unfolding shown_variable
    variable-keeps name =
        if_then _ (there_is (state.variables name) refusal.NoName) _ (λ number known. suited)

    poke-keeps : (name : Name) (offset : ℕ) (bytes : List ℕ) → Keeps (poked state name offset bytes)
    unfolding poked
    poke-keeps name offset bytes =
        if_then _ (there_is (named state name) refusal.NoName) _ (λ b known.
        if_then _ (there_is (data_in b.held) refusal.NotData) _ (λ old held.
        if_then _ (require (nat_le (offset + length bytes) (length old)) (refusal.Range 0)) _ (λ _ inside.
        let kept = kept-after table state.rules state.blocks (b.at + offset) bytes are in
        record { rules = kept.suit; alike = kept.alike })))

    context-keeps : (value : ValueWord) → Keeps (new_context conv state value)
    unfolding new_context
    context-keeps value =
        if_then _ (there_is (number_of_value state value) refusal.NoName) _ (λ number known.
        if_then _ (require (in_range conv Ptr number) (refusal.Range 0)) _ (λ v fits.
        record { rules = suited.rules; alike = suited.alike }))

    made-keeps : (words : List ArgWord) (call : Call)
        → AreSuited table (made_by table conv state words call).state
    made-keeps words call =
        let kept = reply-keeps (AreKept table state.rules) (kept-after table state.rules) conv
        (state.rules (number_in (answering call.object (chain state conv call)).held) call.slot)
        (asked call (values_received conv call)) (memory_before state call) are in
        record { rules = kept.suit; alike = kept.alike }

    outcome-keeps : (act : Act) → Keeps (outcome table conv state act)
    unfolding outcome
    outcome-keeps (acts.Block name fill) = data-keeps name fill
    outcome-keeps (acts.Object name iface) = object-keeps name iface
    outcome-keeps (acts.Proxy name target) = forwarder-keeps name target None
    outcome-keeps (acts.Bridge name target own) = forwarder-keeps name target (Some own)
    outcome-keeps (acts.Reply name member items) = rule-keeps name member items
    outcome-keeps (acts.Call target member words) =
        if_then _ (call_of table conv state target member words) _
        (λ call is. made-keeps words call)
    outcome-keeps (acts.Enter name member items) =
        if_then _ (enter_of table conv state name member items) _ (λ call is. made-keeps [] call)
    outcome-keeps (acts.ShowBlock name) = shown-keeps name
    outcome-keeps (acts.ShowValue name) = variable-keeps name
    outcome-keeps (acts.Poke name offset bytes) = poke-keeps name offset bytes
    outcome-keeps (acts.Context value) = context-keeps value

    settled-keeps : (r : Result Stepped Refusal) → Keeps r → AreSuited table (settled state r).state
    settled-keeps (Ok stepped) keeps = keeps
    settled-keeps (Err e) keeps = suited

    pub step-suits : (line : Line) → AreSuited table (step table conv state line).state
    step-suits line = settled-keeps (outcome table conv state line.act) (outcome-keeps line.act)

-- ---- laws

pub starts-suited : StartsSuited
starts-suited table = record {
  rules = λ object slot rule is. absurd (none-some rule is);
  alike = All-nil (λ (b : Block). IsAlike [] b.held);
}

pub steps-keep-suited : StepsKeepSuited
steps-keep-suited lib valid conv state lawful suited line =
    step-suits (table_of lib) (short_lineage lib valid) conv state lawful suited line
