-- A call as a whole: its way and its reply, in the words of the script's meaning.
use Rattle.std.proofs.Common.{◌≡◌, ◌∙◌, ℕ, List, [], ◌∷◌, ◌++◌, length, map, ap, refl, sym, subst, arith}
use Rattle.std.specs.List.{flat_map}
use Rattle.std.proofs.lemmas.List.{append-nil, append_assoc, length-append, take-append-le, take_at}
use Rattle.call_model.specs.declared.prototypes.ProtoArg.{ProtoArg}
use Rattle.call_model.specs.Values.{FrameView}
use Rattle.descriptor_reader.specs.Views.{MethodOf}
use Rattle.invoke_by_index.specs.Methods.{prototype}
use Rattle.machine_bench.specs.declared.sight.Sight.{Sight}
use Rattle.machine_bench.specs.Seen.{Saw, SawNothing, SawPrefix, sight_of}
use Rattle.object_memory.specs.Cells.{cell_numbers}
use Rattle.object_memory.specs.Heap.{image}
use Rattle.object_memory.specs.Lends.{with_frame}
use Rattle.object_memory.specs.Memory.{MachineView}
use Rattle.transcript_text.specs.Texts.{frame_text, result_text, slot_text}
use Rattle.call_replies.specs.Blocks.{Block, contents}
use Rattle.call_replies.specs.Items.{takes_items}
use Rattle.call_replies.specs.Repliers.{items_of}
use Rattle.call_replies.specs.Reply.{Replied, reply}
use Rattle.call_replies.specs.Writes.{IsReply, SameButBytes, asked_by, has_cells}
use Rattle.script_meaning.specs.Calls.{Call, call_sights, got_text, last_frame, frames, memory_before, reply_to, sight_after, sight_before, stop_frame, stop_text, values_received}
use Rattle.script_meaning.specs.Chain.{Stop, answering}
use Rattle.script_meaning.specs.Sights.{sight}
use Rattle.script_meaning.specs.State.{State, number_in}
use Rattle.script_objects.specs.declared.rules.Rules.{Rules}
use Rattle.script_objects.specs.Known.{ObjectsView}
use Rattle.script_objects.specs.Ruling.{known_rules}
use Rattle.script_objects.proofs.Depths.{numbered-so}
use Rattle.script_chains.specs.declared.begun.Answered.{Answered}
use Rattle.script_chains.specs.declared.begun.Begun.{Begun}
use Rattle.script_chains.specs.declared.visit.Visit.{Visit}
use Rattle.script_chains.specs.Answers.{HasBegun, IsAnswered, answer_text, answers_in, call_on}
use Rattle.script_chains.specs.Passing.{IsAt, IsPassedOn, behind, end_frame, handed_text, sight_at, sights_of}
use Rattle.script_chains.specs.Replying.{CanReply, HasReplied, reply_of}
use Rattle.script_chains.proofs.Passed.{Told, saw-more}
use Rattle.script_chains.proofs.Stops.{is-object}
use Rattle.script_chains.proofs.Ways.{first-stop}

-- ---- the text

-- the values are told behind each frame, and not before it
shifted : (slot : ℕ) (proto : List ProtoArg) (values : List ℕ) (stops : List Stop)
    → flat_map (handed_text slot proto values) stops ++ got_text proto values
    ≡ got_text proto values ++ flat_map (stop_text slot proto values) stops
shifted slot proto values [] = sym (append-nil (got_text proto values))
shifted slot proto values (s ∷ stops) =
    let got = got_text proto values in
    let line = slot_text slot in
    let frame = frame_text s.conv (stop_frame proto values s) in
    let later = flat_map (stop_text slot proto values) stops in
    append_assoc (got ++ line ++ frame) (flat_map (handed_text slot proto values) stops) got
    ∙ ap (λ l. got ++ line ++ frame ++ l) (shifted slot proto values stops)
    ∙ ap (λ l. l ++ (got ++ later)) (append_assoc got line frame)
    ∙ append_assoc got (line ++ frame) (got ++ later)
    ∙ ap (λ l. got ++ l) (sym (append_assoc (line ++ frame) got later))

-- ---- the sights

maps-on : {A B C : Type 0} (f : A → B) (g : B → C) (h : A → C) → ((x : A) → h x ≡ g (f x))
    → (xs : List A) → map h xs ≡ map g (map f xs)
maps-on f g h same [] = refl
maps-on f g h same (x ∷ xs) = ap (λ y. y ∷ map h xs) (same x) ∙ ap (λ ys. g (f x) ∷ ys) (maps-on f g h same xs)

-- some first ones of more sights are so of all
pub saw-prefix-more : (a b : Told) (xs ys : List Sight) → SawPrefix a b xs → SawPrefix a b (xs ++ ys)
saw-prefix-more a b xs ys some =
    (some.0, omega (arith, some.1, length-append xs ys), subst (Saw a b) (sym (take-append-le some.0 xs ys some.1)) some.2)

pub saw-so-far : (a b : Told) (xs ys : List Sight) → Saw a b xs → SawPrefix a b (xs ++ ys)
saw-so-far a b xs ys saw =
    (length xs, omega (arith, length-append xs ys), subst (Saw a b) (sym (take_at xs ys (length xs) refl)) saw)

pub saw-no-more : (a b c : Told) (xs : List Sight) → Saw a b xs → SawNothing b c → Saw a c xs
saw-no-more a b c xs saw none = subst (Saw a c) (append-nil xs) (saw-more a b c xs [] saw none)

module _ (m : MachineView) (objects : ObjectsView) (rules : Rules) (begun : Begun) (method : MethodOf)
    (state : State) (object : Block) (cells : List ℕ)
    (has : HasBegun m objects rules begun method state (call_on m begun method object cells)) where
  abbrev call : Call
  call = call_on m begun method object cells

  abbrev values : List ℕ
  values = values_received m.conv call

  abbrev first : Visit
  first = record { number = begun.number; conv = m.conv; entry = begun.entry }

  abbrev way : List Stop
  way = behind state.blocks m.conv object

  -- the call is about to enter the first object
  pub begins : IsAt m objects method first state.blocks object values
  begins = record {
    lawful = has.lawful;
    holds = has.holds;
    known = has.known;
    object = has.object;
    slot = has.slot;
    word = refl;
    this = has.this;
    entry = has.entry;
    enough = has.enough;
    receives = refl;
  }

  -- a machine with a frame shows what the meaning says
  shows : (f : FrameView) → sight_of (with_frame m f) ≡ sight m.conv (memory_before state call) f
  shows f = λ i. record {
    gprs = f.gprs;
    fprs = f.fprs;
    stack = f.stack;
    cells = cell_numbers (has.cells_are i);
    heap = has.holds.heap.memory i;
  }

  abbrev pub last_sight : Sight
  last_sight = sight_after state m.conv call values (last_frame call.frame (frames state m.conv call values))

  pub sights-are : call_sights state m.conv call values
      ≡ sights_of m method state.blocks m.conv object values ++ last_sight ∷ []
  unfolding call_sights
  sights-are =
      ap (λ l. l ++ last_sight ∷ [])
      (sym
      (ap (λ s. s ∷ map (sight_at m (prototype method) values) way) (shows m.frame)
      ∙ ap (λ l. sight_before state m.conv call m.frame ∷ l)
      (maps-on (stop_frame (prototype method) values) (sight_before state m.conv call) (sight_at m (prototype method) values)
      (λ s. shows (stop_frame (prototype method) values s)) way)))

  answering-is : answers_in state m call ≡ answering object way
  answering-is = ap (answering object) (first-stop state.blocks m.conv object)

  module _ (m2 : MachineView) (last : Visit) (told : List ℕ) (s0 s1 : Told)
      (passed : IsPassedOn m m2 objects method first last state.blocks object values ([], told) (s0, s1)) where
    last-number : last.number ≡ number_in (answers_in state m call).held
    last-number =
        sym (numbered-so state.blocks has.lawful.down last.number (answering object way) passed.at.object).0
        ∙ ap (λ (b : Block). number_in b.held) (sym answering-is)

    rule-is : known_rules rules last.number method.slot
        ≡ state.rules (number_in (answers_in state m call).held) method.slot
    rule-is = ap (λ n. known_rules rules n method.slot) last-number
        ∙ ap (λ r. r (number_in (answers_in state m call).held) method.slot) has.rules_are

    same-cells : m2.cells ≡ m.cells
    same-cells = ap (λ (k : MachineView). k.cells) passed.frame

    same-conv : m2.conv ≡ m.conv
    same-conv = ap (λ (k : MachineView). k.conv) passed.frame

    -- the object that answers can reply
    pub can-reply : CanReply m2 rules method last begun.entered state.blocks (answering object way) values
    can-reply = record {
      holds = passed.at.holds;
      object = is-object m2 objects method last state.blocks (answering object way) values passed.at;
      word = passed.at.word;
      this = passed.at.this;
      entry = passed.at.entry;
      enough = passed.at.enough;
      receives = passed.at.receives;
      has_cells = ap (has_cells (asked_by begun.entered (prototype method) values)) same-cells ∙ has.has_cells;
      suits = ap (λ r. takes_items (prototype method) (items_of r)) rule-is ∙ has.suits;
    }

    module _ (m3 : MachineView) (answered : Answered)
        (replied : HasReplied m2 m3 rules method last begun.entered state.blocks values told answered) where
      reply-is : reply_of m2 rules method last begun.entered state.blocks values ≡ reply_to state m.conv call values
      reply-is = λ i.
          reply
          (same-conv i)
          (rule-is i)
          (asked_by begun.entered (prototype method) values)
          (record { cells = (same-cells ∙ has.cells_are) i; blocks = state.blocks })

      made : IsReply (reply_to state m.conv call values) m3 answered.result
      made = subst (λ (r : Replied). IsReply r m3 answered.result) reply-is replied.replied

      same-frame : m3.frame ≡ m2.frame
      same-frame = ap (λ (k : MachineView). k.frame) replied.rest_stays.same

      left-frame : m2.frame ≡ end_frame m method way values
      left-frame = ap (λ (k : MachineView). k.frame) passed.frame

      told-is : answered.text ≡ answer_text state m call values answered.result
      told-is =
          let got = got_text (prototype method) values in
          let handed = flat_map (handed_text method.slot (prototype method) values) way in
          replied.text
          ∙ ap (λ t. t ++ (got ++ result_text answered.result)) passed.text
          ∙ sym (append_assoc handed got (result_text answered.result))
          ∙ ap (λ t. t ++ result_text answered.result) (shifted method.slot (prototype method) values way)

      pub is-answered : IsAnswered state m m3 call answered
      is-answered = record {
        values_are = replied.values_are;
        replied = made;
        rest_stays = subst (λ (k : MachineView). SameButBytes k m3)
            (passed.frame ∙ ap (with_frame m) (sym left-frame) ∙ ap (with_frame m) (sym same-frame))
            replied.rest_stays;
        text = told-is;
      }

      conv-stays : m3.conv ≡ m.conv
      conv-stays = ap (λ (k : MachineView). k.conv) replied.rest_stays.same ∙ same-conv

      last-shows : sight_of m3 ≡ last_sight
      last-shows =
          ap (λ (f : FrameView). record {
            gprs = f.gprs;
            fprs = f.fprs;
            stack = f.stack;
            cells = cell_numbers m3.cells;
            heap = m3.memory;
          }) (same-frame ∙ left-frame)
          ∙ (λ i. record {
            gprs = (end_frame m method way values).gprs;
            fprs = (end_frame m method way values).fprs;
            stack = (end_frame m method way values).stack;
            cells = cell_numbers (made.cells_are i);
            heap = (made.holds.heap.memory ∙ ap (λ k. image k (contents (reply_to state m.conv call values).memory.blocks)) conv-stays) i;
          })

      pub saw-all : (s2 : Told) → Saw s1 s2 (sight_of m3 ∷ []) → Saw s0 s2 (call_sights state m.conv call values)
      saw-all s2 saw =
          subst (Saw s0 s2) (sym sights-are)
          (saw-more s0 s1 s2 (sights_of m method state.blocks m.conv object values) (last_sight ∷ []) passed.saw
          (subst (λ s. Saw s1 s2 (s ∷ [])) last-shows saw))
