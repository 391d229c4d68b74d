-- The states that scripts leave are lawful.
use Rattle.std.proofs.Common.{◌≡◌, ◌<◌, ◌≤◌, ℕ, ◌+◌, ◌*◌, ◌-◌, ◌^◌, Bool, true, false, List, [], ◌∷◌, ◌++◌, length, Option, Some, None, Result, Ok, Err, IfOk, if◌then◌else◌, bytes_eq, ℤ, pos, negsuc, is_some, int_le, nat_le, unsigned_abs, ◌&&◌, ap, refl, sym, subst, arith}
use Rattle.std.proofs.lemmas.Bool.{false≢true}
use Rattle.std.proofs.lemmas.Grind.{common_steps}
use Rattle.std.proofs.lemmas.List.Elements.{All-nil}
use Rattle.std.proofs.lemmas.List.{length-append, length-replicate}
use Rattle.std.proofs.lemmas.Option.{none-some, same_Some}
use Rattle.std.specs.Result.{result_ok}
use Rattle.call_model.specs.declared.ctypes.CType.TheVariants.{Ptr}
use Rattle.call_model.specs.declared.places.Conv.{Conv}
use Rattle.call_model.specs.declared.places.Conv.TheVariants.{SysV64, I386, Aapcs64, Ms64, Aapcs32}
use Rattle.call_model.specs.declared.tables.Table.{Table}
use Rattle.call_model.specs.Placement.{word_of}
use Rattle.call_model.specs.Tables.{iface_named}
use Rattle.call_scripts.specs.declared.script.Act.{Act}
use Rattle.call_scripts.specs.declared.script.Act.TheVariants as acts
use Rattle.call_scripts.specs.declared.script.ArgWord.{ArgWord}
use Rattle.call_scripts.specs.declared.script.Fill.{Fill}
use Rattle.call_scripts.specs.declared.script.Fill.TheVariants.{Given, Zeros, Iid}
use Rattle.call_scripts.specs.declared.script.Line.{Line}
use Rattle.call_scripts.specs.declared.script.MemberRef.{MemberRef}
use Rattle.call_scripts.specs.declared.script.ReplyItem.{ReplyItem}
use Rattle.call_scripts.specs.declared.script.ValueWord.{ValueWord}
use Rattle.invoke_by_index.specs.Ranges.{FitsWord, in_range}
use Rattle.object_memory.specs.declared.layout.TheConstants.{HEAP_LIMIT, VTABLE_AT}
use Rattle.object_memory.specs.Heap.{space_of}
use Rattle.object_memory.specs.Layout.{space_for}
use Rattle.transcript_text.specs.declared.refusals.Refusal.{Refusal}
use Rattle.transcript_text.specs.declared.refusals.Refusal.TheVariants as refusal
use Rattle.xp_base.proofs.LittleEndian.{length-low_bytes}
use Rattle.xp_base.specs.LittleEndian.{low_bytes}
use Rattle.call_replies.specs.Blocks.{Block, Held, Data, Object, content_of}
use Rattle.script_meaning.specs.Calls.{Call, asked, chain, memory_before, values_received}
use Rattle.script_meaning.specs.Chain.{HandsDown, answering, is_forwarder}
use Rattle.script_meaning.specs.Lawful.{IsLawful, IsNumbered}
use Rattle.script_meaning.specs.Laws.{EndsAreLawful, StepsKeepLawful}
use Rattle.script_meaning.specs.Members.{as_object, member_named, object_of}
use Rattle.script_meaning.specs.Refusing.{◌then◌, no_fault, refuse, require, there_is}
use Rattle.script_meaning.specs.State.{Name, State, empty, has_room, is_object, named, next_at, next_number, number_in, occupied_by, with_block}
use Rattle.script_meaning.specs.Step.{Stepped, call_of, data_in, enter_of, forwarder_to, has_depth, joins, made_by, misformed_item, new_context, new_data, new_forwarder, new_object, new_rule, object_space, outcome, poked, settled, shown_block, shown_variable, step}
use Rattle.script_meaning.specs.Transcript.{end, run_from}
use Rattle.script_meaning.specs.Words.{bytes_of, length_of, number_of_value, rule_of}
use Rattle.script_meaning.proofs.Kept.{IsBelow, objects, lawful-after, lawful-push, lawful-reply, numbers-below}
use Rattle.script_meaning.proofs.Ways.{first-found}

-- ---- chains of conditions

pub if_then : {A B : Type 0} (P : B → Type 0) (r : Result A Refusal) (f : A → Result B Refusal)
    → ((v : A) → r ≡ Ok v → IfOk (f v) P) → IfOk (r then f) P
if_then P (Ok v) f each = each v refl
if_then P (Err e) f each = tt

pub required : (t : Bool) (e : Refusal) (v : Unit {0}) → require t e ≡ Ok v → t ≡ true
required true e v is = refl
required false e v is = absurd (none-some v (ap result_ok is))

pub found-is : {A : Type 0} (o : Option A) (e : Refusal) (v : A) → there_is o e ≡ Ok v → o ≡ Some v
found-is None e v is = absurd (none-some v (ap result_ok is))
found-is (Some w) e v is = ap Some (same_Some w v (ap result_ok is))

-- ---- addresses

least-most : (n most : ℕ) → int_le (pos 0) (pos n) && int_le (pos n) (pos most) ≡ true → n ≤ most
least-most n most is = grind (arith, common_steps, is)

natural-fits : (conv : Conv) (n : ℕ) → in_range conv Ptr (pos n) ≡ true → FitsWord conv n
natural-fits SysV64 n is = omega (arith, least-most n (2 ^ 64 - 1) is)
natural-fits I386 n is = omega (arith, least-most n (2 ^ 32 - 1) is)
natural-fits Aapcs64 n is = omega (arith, least-most n (2 ^ 64 - 1) is)
natural-fits Ms64 n is = omega (arith, least-most n (2 ^ 64 - 1) is)
natural-fits Aapcs32 n is = omega (arith, least-most n (2 ^ 32 - 1) is)

-- a number in the range of addresses fits a word
word-fits : (conv : Conv) (n : ℤ) → in_range conv Ptr n ≡ true → FitsWord conv (unsigned_abs n)
word-fits conv (pos n) is = natural-fits conv n is
word-fits conv (negsuc n) is = absurd (false≢true is)

-- ---- new blocks

object_length : (conv : Conv) (number : ℕ)
    → length (low_bytes (word_of conv) VTABLE_AT ++ low_bytes (word_of conv) number)
    ≡ 2 * word_of conv
object_length conv number =
    omega (
      arith,
      length-append (low_bytes (word_of conv) VTABLE_AT) (low_bytes (word_of conv) number),
      length-low_bytes (word_of conv) VTABLE_AT,
      length-low_bytes (word_of conv) number,
    )

fill_length : (fill : Fill) → length (bytes_of fill) ≡ length_of fill
fill_length (Given bytes) = refl
fill_length (Zeros n) = length-replicate n 0
fill_length (Iid bytes) = refl

room-is : (n space : ℕ) → nat_le (n + space) HEAP_LIMIT ≡ true → n + space ≤ HEAP_LIMIT
room-is n space is = grind (arith, common_steps, is)

module _ (conv : Conv) (state : State) (lawful : IsLawful conv state) where
  abbrev Keeps : Result Stepped Refusal → Type 0
  Keeps r = IfOk r (λ stepped. IsLawful conv stepped.state)

  with-block : (name : Name) (held : Held) (space : ℕ) → has_room conv state space ≡ true
      → space_of conv (content_of held) ≡ space
      → IsNumbered (next_number state) held → HandsDown held
      → IsLawful conv (with_block conv state name held)
  with-block name held space room same number down = record {
    blocks = lawful-push conv state.blocks
        (record { name = name; at = next_at conv state; held = held })
        lawful.blocks refl
        (subst (λ k. occupied_by conv state.blocks + k ≤ HEAP_LIMIT) (sym same)
        (room-is (occupied_by conv state.blocks) space room))
        number down;
    context = lawful.context;
  }

  pub data-keeps : (name : Name) (fill : Fill) → Keeps (new_data conv state name fill)
  unfolding new_data
  data-keeps name fill =
      if_then _ (refuse (is_some (named state name)) refusal.Taken) _ (λ _ free.
      if_then _ (require (has_room conv state (space_for (length_of fill))) refusal.Heap) _ (λ v room.
      with-block name (Data (bytes_of fill)) (space_for (length_of fill))
      (required _ refusal.Heap v room) (ap space_for (fill_length fill)) tt tt))

  pub object-keeps : (table : Table) (name iface : Name) → Keeps (new_object table conv state name iface)
  unfolding new_object
  object-keeps table name iface =
      if_then _ (refuse (is_some (named state name)) refusal.Taken) _ (λ _ free.
      if_then _ (there_is (iface_named table iface) refusal.NoInterface) _ (λ number known.
      if_then _ (require (has_room conv state (object_space conv)) refusal.Heap) _ (λ v room.
      with-block name (Object (next_number state) number) (object_space conv)
      (required _ refusal.Heap v room)
      (ap space_for (object_length conv (next_number state))) refl tt)))

  object-is : (found object : Block) (t : Bool) → (if t then Some found else None) ≡ Some object
      → (found ≡ object) × (t ≡ true)
  object-is found object true is = (same_Some found object is, refl)
  object-is found object false is = absurd (none-some object is)

  -- an object that a line names has a smaller number than the next one
  pub number-known : (target : Name) (found object : Block) → named state target ≡ Some found
      → as_object found ≡ Some object → number_in object.held < next_number state
  number-known target found object known is =
      let same = object-is found object (is_object found.held) is in
      let below = (first-found (λ (b : Block). bytes_eq b.name target) (IsBelow (0 + objects state.blocks))
      state.blocks found (numbers-below 0 state.blocks lawful.blocks.numbered) known).1 in
      subst (λ (b : Block). number_in b.held < next_number state) same.0
      (omega (arith, below same.1))

  pub forwarder-keeps : (name target : Name) (own : Option Conv)
      → Keeps (new_forwarder conv state name target own)
  unfolding new_forwarder
  forwarder-keeps name target own =
      if_then _ (refuse (is_some (named state name)) refusal.Taken) _ (λ _ free.
      if_then _ (there_is (named state target) refusal.NoName) _ (λ found known.
      if_then _ (there_is (as_object found) refusal.NotAnObject) _ (λ object is.
      if_then _ (require (joins conv own) refusal.Word) _ (λ _ joined.
      if_then _ (require (has_depth conv state object) refusal.Depth) _ (λ _ short.
      if_then _ (require (has_room conv state (object_space conv)) refusal.Heap) _ (λ v room.
      with-block name (forwarder_to state object own) (object_space conv)
      (required _ refusal.Heap v room)
      (ap space_for (object_length conv (next_number state))) refl
      (number-known target found object (found-is _ refusal.NoName found known)
      (found-is _ refusal.NotAnObject object is))))))))

  -- ---- the other lines

  pub rule-keeps : (table : Table) (name : Name) (member : MemberRef) (items : List ReplyItem)
      → Keeps (new_rule table state name member items)
  unfolding new_rule
  rule-keeps table name member items =
      if_then _ (there_is (named state name) refusal.NoName) _ (λ found known.
      if_then _ (there_is (rule_of state items) refusal.NoName) _ (λ rule named.
      if_then _ (member_named table member) _ (λ m is.
      if_then _ (no_fault (misformed_item m rule) refusal.Form) _ (λ _ formed.
      if_then _ (object_of table m.iface (as_object found)) _ (λ object has.
      if_then _ (refuse (is_forwarder object.held) refusal.Proxy) _ (λ _ answers.
      record { blocks = lawful.blocks; context = lawful.context }))))))

  shown-keeps : (name : Name) → Keeps (shown_block state name)
  unfolding shown_block
  shown-keeps name =
      if_then _ (there_is (named state name) refusal.NoName) _ (λ b known.
      if_then _ (there_is (data_in b.held) refusal.NotData) _ (λ bytes held. lawful))

  variable-keeps : (name : Name) → Keeps (shown_variable state name)
  unfolding shown_variable
  variable-keeps name =
      if_then _ (there_is (state.variables name) refusal.NoName) _ (λ number known. lawful)

  pub poke-keeps : (name : Name) (offset : ℕ) (bytes : List ℕ) → Keeps (poked state name offset bytes)
  unfolding poked
  poke-keeps name offset bytes =
      if_then _ (there_is (named state name) refusal.NoName) _ (λ b known.
      if_then _ (there_is (data_in b.held) refusal.NotData) _ (λ old held.
      if_then _ (require (nat_le (offset + length bytes) (length old)) (refusal.Range 0)) _ (λ _ inside.
      record {
        blocks = lawful-after conv state.blocks (b.at + offset) bytes lawful.blocks;
        context = lawful.context;
      })))

  fits-word : (n : ℤ) → in_range conv Ptr n ≡ true → FitsWord conv (unsigned_abs n)
  fits-word n is = word-fits conv n is

  pub context-keeps : (value : ValueWord) → Keeps (new_context conv state value)
  unfolding new_context
  context-keeps value =
      if_then _ (there_is (number_of_value state value) refusal.NoName) _ (λ number known.
      if_then _ (require (in_range conv Ptr number) (refusal.Range 0)) _ (λ v fits.
      record {
        blocks = lawful.blocks;
        context = fits-word number (required _ (refusal.Range 0) v fits);
      }))

  -- a call, and an enter
  made-keeps : (table : Table) (words : List ArgWord) (call : Call)
      → IsLawful conv (made_by table conv state words call).state
  made-keeps table words call = record {
    blocks = lawful-reply conv
        (state.rules (number_in (answering call.object (chain state conv call)).held) call.slot)
        (asked call (values_received conv call)) (memory_before state call) lawful.blocks;
    context = lawful.context;
  }

  pub outcome-keeps : (table : Table) (act : Act) → Keeps (outcome table conv state act)
  unfolding outcome
  outcome-keeps table (acts.Block name fill) = data-keeps name fill
  outcome-keeps table (acts.Object name iface) = object-keeps table name iface
  outcome-keeps table (acts.Proxy name target) = forwarder-keeps name target None
  outcome-keeps table (acts.Bridge name target own) = forwarder-keeps name target (Some own)
  outcome-keeps table (acts.Reply name member items) = rule-keeps table name member items
  outcome-keeps table (acts.Call target member words) =
      if_then _ (call_of table conv state target member words) _
      (λ call is. made-keeps table words call)
  outcome-keeps table (acts.Enter name member items) =
      if_then _ (enter_of table conv state name member items) _ (λ call is. made-keeps table [] call)
  outcome-keeps table (acts.ShowBlock name) = shown-keeps name
  outcome-keeps table (acts.ShowValue name) = variable-keeps name
  outcome-keeps table (acts.Poke name offset bytes) = poke-keeps name offset bytes
  outcome-keeps table (acts.Context value) = context-keeps value

  settled-keeps : (r : Result Stepped Refusal) → Keeps r → IsLawful conv (settled state r).state
  settled-keeps (Ok stepped) keeps = keeps
  settled-keeps (Err e) keeps = lawful

  pub step-keeps : (table : Table) (line : Line) → IsLawful conv (step table conv state line).state
  step-keeps table line =
      settled-keeps (outcome table conv state line.act) (outcome-keeps table line.act)

pub steps-keep-lawful : StepsKeepLawful
steps-keep-lawful table conv state line lawful = step-keeps conv state lawful table line

-- ---- scripts

run-keeps : (table : Table) (conv : Conv) (state : State) (lines : List Line) → IsLawful conv state
    → IsLawful conv (run_from table conv state lines).state
run-keeps table conv state [] lawful = lawful
run-keeps table conv state (line ∷ lines) lawful =
    run-keeps table conv (step table conv state line).state lines
    (step-keeps conv state lawful table line)

zero-fits : (conv : Conv) → FitsWord conv 0
zero-fits SysV64 = omega arith
zero-fits I386 = omega arith
zero-fits Aapcs64 = omega arith
zero-fits Ms64 = omega arith
zero-fits Aapcs32 = omega arith

pub empty-lawful : (conv : Conv) → IsLawful conv empty
empty-lawful conv = record {
  blocks = record {
    placed = tt;
    fits = omega arith;
    numbered = tt;
    down = All-nil (λ (b : Block). HandsDown b.held);
  };
  context = zero-fits conv;
}

pub ends-are-lawful : EndsAreLawful
unfolding end
ends-are-lawful table conv lines = run-keeps table conv empty lines (empty-lawful conv)
