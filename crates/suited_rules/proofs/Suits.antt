-- The rule of the object that answers a call suits the method that is called.
use Rattle.std.proofs.Common.{◌≡◌, ℕ, zero, suc, true, List, [], ◌∷◌, fold, Option, Some, None, slice_get, ap, refl, sym, subst, ◌∙◌}
use Rattle.std.specs.Option.{option_map_or}
use Rattle.std.proofs.lemmas.Option.{none-some, same_Some}
use Rattle.call_model.specs.declared.places.Conv.{Conv}
use Rattle.call_model.specs.declared.tables.Table.{Table}
use Rattle.call_model.specs.declared.tables.TableSlot.{TableSlot}
use Rattle.call_model.specs.Tables.{HasShortLineage, descends_from, slots_of}
use Rattle.call_replies.specs.Blocks.{Block, Held, Data, Object, Forwarder}
use Rattle.call_replies.specs.Items.{takes_items}
use Rattle.call_replies.specs.Repliers.{items_of}
use Rattle.script_meaning.specs.Chain.{Stop, answering, chain_of, chain_within, conv_behind, target_in}
use Rattle.script_meaning.specs.Members.{Member}
use Rattle.script_meaning.specs.State.{Rule, State, has_number, iface_in, number_in, object_numbered}
use Rattle.script_meaning.proofs.Ways.{first-found, has_its_number}
use Rattle.lib_model.specs.Table.{table_of}
use Rattle.lib_model.proofs.TableLaws.{short_lineage}
use Rattle.suited_rules.specs.Laws.{AnswersSuit}
use Rattle.suited_rules.specs.Suiting.{AllAlike, AreSuited, IsAlike, IsRule, iface_numbered}
use Rattle.suited_rules.proofs.Descent.{descended}
use Rattle.suited_rules.proofs.Numbers.{iface-of}
use Rattle.suited_rules.proofs.Suited.{HasEntry, member-entry}

-- the last object on the way has what each has that the first has and that is handed on
last-has : (P : Block → Type 0) (blocks : List Block)
    → ((b t : Block) → P b → target_in blocks b.held ≡ Some t → P t)
    → (n : ℕ) (conv : Conv) (b first : Block) → P b
    → P (answering first (chain_within n blocks conv b))
unfolding chain_within
last-has P blocks on zero conv b first has = has
last-has P blocks on (suc n) conv b first has =
    by_target (λ t is. last-has P blocks on n (conv_behind b.held conv) t b (on b t has is))
    (target_in blocks b.held) refl
  where
    by_target : ((t : Block) → target_in blocks b.held ≡ Some t
        → P (answering b (chain_within n blocks (conv_behind b.held conv) t)))
        → (found : Option Block) → target_in blocks b.held ≡ found
        → P (fold (λ b (s : Stop). s.object) b
        (option_map_or (chain_within n blocks (conv_behind b.held conv)) found []))
    by_target later None is = has
    by_target later (Some t) is = later t is

module _ (table : Table) (short : (n : ℕ) → HasShortLineage table n) (state : State)
    (suited : AreSuited table state)
  where
    abbrev blocks : List Block
    blocks = state.blocks

    -- an object of an interface that is found by its number, and is like its target
    pub record IsOf (iface : ℕ) (b : Block) : Type 0 where
      pub of : iface_in b.held ≡ iface
      pub found : object_numbered blocks (number_in b.held) ≡ Some b
      pub alike : IsAlike blocks b.held

    numbered-of : (target iface : ℕ) (t : Block) → iface_numbered blocks target ≡ Some iface
        → object_numbered blocks target ≡ Some t → IsOf iface t
    numbered-of target iface t like is =
        let passed = first-found (λ (b : Block). has_number target b.held)
        (λ (b : Block). IsAlike blocks b.held) blocks t suited.alike is in
        let number = has_its_number target t.held passed.0 in
        record {
          of = same_Some (iface_in t.held) iface (sym (iface-of blocks target t is) ∙ like);
          found = ap (object_numbered blocks) number ∙ is;
          alike = passed.1;
        }

    handed : (iface : ℕ) (h : Held) → iface_in h ≡ iface → IsAlike blocks h → (t : Block)
        → target_in blocks h ≡ Some t → IsOf iface t
    handed iface (Data bytes) of alike t is = absurd (none-some t is)
    handed iface (Object number own) of alike t is = absurd (none-some t is)
    handed iface (Forwarder number own target conv) of alike t is =
        numbered-of target iface t (alike ∙ ap Some of) is

    -- the object that answers has the interface of the first
    answers-of : (conv : Conv) (b : Block) → object_numbered blocks (number_in b.held) ≡ Some b
        → IsOf (iface_in b.held) (answering b (chain_of blocks conv b))
    answers-of conv b found =
        let first = numbered-of (number_in b.held) (iface_in b.held) b
        (iface-of blocks (number_in b.held) b found) found in
        last-has (IsOf (iface_in b.held)) blocks
        (λ c t has is. handed (iface_in b.held) c.held has.of has.alike t is)
        (number_in b.held) conv b b first

    abbrev Takes : Member → Option Rule → Type 0
    Takes m rule = takes_items m.proto (items_of rule) ≡ true

    ruled-takes : (m : Member) (last : Block) (iface : ℕ) → HasEntry table m → IsOf iface last
        → descends_from table iface m.iface ≡ true → (rule : Rule)
        → IsRule table blocks (number_in last.held) m.slot rule → Takes m (Some rule)
    ruled-takes m last iface has of descends rule is =
        let same : is.iface ≡ iface = same_Some is.iface iface
        (sym is.has ∙ iface-of blocks (number_in last.held) last of.found ∙ ap Some of.of) in
        let entry = descended table short m.iface iface descends m.slot has.entry has.is in
        let suits : slice_get (slots_of table iface) m.slot ≡ Some is.suits.entry =
        subst (λ k. slice_get (slots_of table k) m.slot ≡ Some is.suits.entry) same is.suits.is in
        let one : is.suits.entry ≡ has.entry = same_Some is.suits.entry has.entry (sym suits ∙ entry) in
        ap (λ proto. takes_items proto rule) (sym (ap (λ (e : TableSlot). e.proto) one ∙ has.proto))
        ∙ is.suits.suits

    -- so its rule suits the member that is called
    pub answer-suits : (conv : Conv) (m : Member) (b : Block) → HasEntry table m
        → object_numbered blocks (number_in b.held) ≡ Some b
        → descends_from table (iface_in b.held) m.iface ≡ true
        → Takes m (state.rules (number_in (answering b (chain_of blocks conv b)).held) m.slot)
    answer-suits conv m b has found descends =
        let of = answers-of conv b found in
        let last = answering b (chain_of blocks conv b) in
        by_rule last of (state.rules (number_in last.held) m.slot) refl
      where
        by_rule : (last : Block) → IsOf (iface_in b.held) last → (rule : Option Rule)
            → state.rules (number_in last.held) m.slot ≡ rule → Takes m rule
        by_rule last of None is = refl
        by_rule last of (Some rule) is =
            ruled-takes m last (iface_in b.held) has of descends rule
            (suited.rules (number_in last.held) m.slot rule is)

pub answers-suit : AnswersSuit
answers-suit lib valid conv state suited member m named b found descends =
    answer-suits (table_of lib) (short_lineage lib valid) state suited conv m b
    (member-entry (table_of lib) member m named) found descends
