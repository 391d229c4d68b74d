-- The lines of a script: what is read is spelled so, and what is spelled so is read.
use Rattle.std.proofs.Common.{◌≡◌, ℕ, ◌+◌, Bool, true, false, cond, get_or, List, [], ◌∷◌, ◌++◌, Option, Some, None, refl, sym, ap, subst, ◌∙◌, inl, inr}
use Rattle.std.specs.Prelude.{codes}
use Rattle.std.specs.Option.{option_map_or}
use Rattle.std.specs.Str.{bytes_eq}
use Rattle.std.proofs.lemmas.Bool.{false≢true, eqb-true, eq-eqb}
use Rattle.std.proofs.lemmas.Option.{none-some, same_Some}
use Rattle.call_scripts.specs.declared.script.Act.{Act}
use Rattle.call_scripts.specs.declared.script.Act.TheVariants.{Block, Object, Reply, Call, Enter, ShowBlock, ShowValue, Poke, Context, Proxy, Bridge}
use Rattle.call_scripts.specs.declared.script.Fill.{Fill}
use Rattle.call_scripts.specs.declared.script.Fill.TheVariants.{Given, Zeros, Iid}
use Rattle.call_scripts.specs.declared.script.Line.{Line}
use Rattle.call_scripts.specs.Lines.{IsAct, IsName, IsNothing, IsRead, AreRead, HasReading, IsFirstUnread, ReadsUpTo, IsItem, IsArg, IsFrameItem}
use Rattle.line_words.specs.Words.{Word, ◌>>=◌, after, each_of}
use Rattle.line_words.proofs.Choices.{bound, chosen, ways}
use Rattle.line_words.proofs.Eaches.{each_read, each_spelled}
use Rattle.line_words.proofs.Marks.{lacks}
use Rattle.line_words.proofs.Prefixes.{after_read, after_spelled, same_bytes}
use Rattle.call_scripts.specs.Reading.{Reading, act_of, add_line, arg_of, block_of, bridge_of, bytes_of, call_of, context_of, conv_of, digits_of, enter_of, fill_kind_of, frame_item_of, front_of, iid_of, is_comment, item_of, line_of, member_of, name_of, object_of, poke_of, proxy_of, reply_of, show_of, target_of, value_of, words_line_of}
use Rattle.call_scripts.specs.Spellings.{conv_word}
use Rattle.call_scripts.specs.Texts.{is_plain, joined, words}
use Rattle.call_scripts.proofs.Atoms.{bytes_read, bytes_spelled, conv_read, conv_spelled, digits_spelled, iid_read, iid_spelled, name_read, name_spelled}
use Rattle.call_scripts.proofs.Lacking.{name_lacks}
use Rattle.call_scripts.proofs.Numerals.{digits_read}
use Rattle.call_scripts.proofs.Parts.{arg_read, arg_spelled, frame_item_read, frame_item_spelled, item_read, item_spelled, member_read, member_spelled, target_read, target_spelled, value_read, value_spelled}

-- ---- what each command reads

fill_read : (name kind text : Word) (fill : Fill) → IsName name → fill_kind_of kind text ≡ Some fill → IsAct (codes "data" ∷ name ∷ kind ∷ text ∷ []) (Block name fill)
unfolding fill_kind_of
fill_read name kind text fill is h =
    elim (chosen (bytes_eq kind (codes "zero")) _ _ _ h) as (λ _. IsAct (codes "data" ∷ name ∷ kind ∷ text ∷ []) (Block name fill)) [
      | inl p ↦ let n = bound (digits_of 10 20 text) _ fill p.1 in
          subst (λ f. IsAct (codes "data" ∷ name ∷ kind ∷ text ∷ []) (Block name f)) (same_Some _ fill n.2)
          (text, ap (λ k. codes "data" ∷ name ∷ k ∷ text ∷ []) (same_bytes kind (codes "zero") p.0), is, digits_read 10 20 text n.0 n.1)
      | inr p ↦ elim (chosen (bytes_eq kind (codes "iid")) _ _ _ p.1) as (λ _. IsAct (codes "data" ∷ name ∷ kind ∷ text ∷ []) (Block name fill)) [
        | inl q ↦ let iid = bound (iid_of text) _ fill q.1 in
            subst (λ f. IsAct (codes "data" ∷ name ∷ kind ∷ text ∷ []) (Block name f)) (same_Some _ fill iid.2)
            (text, ap (λ k. codes "data" ∷ name ∷ k ∷ text ∷ []) (same_bytes kind (codes "iid") q.0), is, iid_read text iid.0 iid.1)
        | inr q ↦ absurd (none-some fill q.1)
      ]
    ]

block_read : (ws : List Word) (act : Act) → block_of ws ≡ Some act → IsAct (codes "data" ∷ ws) act
block_read [] act h = absurd (none-some act h)
block_read (name ∷ []) act h = absurd (none-some act h)
block_read (name ∷ hex ∷ []) act h =
    let n = bound (name_of name) _ act h in
    let read = name_read name n.0 n.1 in
    let bytes = bound (bytes_of hex) _ act n.2 in
    subst (λ a. IsAct (codes "data" ∷ name ∷ hex ∷ []) a) (same_Some _ act bytes.2)
    (hex, ap (λ w. codes "data" ∷ w ∷ hex ∷ []) read.0, read.1, bytes_read hex bytes.0 bytes.1)
block_read (name ∷ kind ∷ text ∷ []) act h =
    let n = bound (name_of name) _ act h in
    let read = name_read name n.0 n.1 in
    let fill = bound (fill_kind_of kind text) _ act n.2 in
    subst (λ a. IsAct (codes "data" ∷ name ∷ kind ∷ text ∷ []) a) (same_Some _ act fill.2)
    (subst (λ w. IsAct (codes "data" ∷ w ∷ kind ∷ text ∷ []) (Block n.0 fill.0)) (sym read.0) (fill_read n.0 kind text fill.0 read.1 fill.1))
block_read (name ∷ kind ∷ text ∷ w ∷ ws) act h = absurd (none-some act h)

object_read : (ws : List Word) (act : Act) → object_of ws ≡ Some act → IsAct (codes "object" ∷ ws) act
object_read [] act h = absurd (none-some act h)
object_read (name ∷ []) act h = absurd (none-some act h)
object_read (name ∷ iface ∷ []) act h =
    let n = bound (name_of name) _ act h in
    let read = name_read name n.0 n.1 in
    let i = bound (name_of iface) _ act n.2 in
    let read_too = name_read iface i.0 i.1 in
    subst (λ a. IsAct (codes "object" ∷ name ∷ iface ∷ []) a) (same_Some _ act i.2)
    (ap (λ w. codes "object" ∷ w ∷ iface ∷ []) read.0 ∙ ap (λ w. codes "object" ∷ n.0 ∷ w ∷ []) read_too.0, read.1, read_too.1)
object_read (name ∷ iface ∷ w ∷ ws) act h = absurd (none-some act h)

reply_read : (ws : List Word) (act : Act) → reply_of ws ≡ Some act → IsAct (codes "reply" ∷ ws) act
reply_read [] act h = absurd (none-some act h)
reply_read (name ∷ []) act h = absurd (none-some act h)
reply_read (name ∷ member ∷ ws) act h =
    let n = bound (name_of name) _ act h in
    let read = name_read name n.0 n.1 in
    let m = bound (member_of member) _ act n.2 in
    let items = bound (each_of item_of ws) _ act m.2 in
    subst (λ a. IsAct (codes "reply" ∷ name ∷ member ∷ ws) a) (same_Some _ act items.2)
    (member, ws, ap (λ w. codes "reply" ∷ w ∷ member ∷ ws) read.0, read.1, member_read member m.0 m.1, each_read item_of IsItem item_read ws items.0 items.1)

call_read : (ws : List Word) (act : Act) → call_of ws ≡ Some act → IsAct (codes "call" ∷ ws) act
call_read [] act h = absurd (none-some act h)
call_read (target ∷ []) act h = absurd (none-some act h)
call_read (target ∷ member ∷ ws) act h =
    let t = bound (target_of target) _ act h in
    let m = bound (member_of member) _ act t.2 in
    let args = bound (each_of arg_of ws) _ act m.2 in
    subst (λ a. IsAct (codes "call" ∷ target ∷ member ∷ ws) a) (same_Some _ act args.2)
    (target, member, ws, refl, target_read target t.0 t.1, member_read member m.0 m.1, each_read arg_of IsArg arg_read ws args.0 args.1)

enter_read : (ws : List Word) (act : Act) → enter_of ws ≡ Some act → IsAct (codes "enter" ∷ ws) act
enter_read [] act h = absurd (none-some act h)
enter_read (name ∷ []) act h = absurd (none-some act h)
enter_read (name ∷ member ∷ ws) act h =
    let n = bound (name_of name) _ act h in
    let read = name_read name n.0 n.1 in
    let m = bound (member_of member) _ act n.2 in
    let items = bound (each_of frame_item_of ws) _ act m.2 in
    subst (λ a. IsAct (codes "enter" ∷ name ∷ member ∷ ws) a) (same_Some _ act items.2)
    (member, ws, ap (λ w. codes "enter" ∷ w ∷ member ∷ ws) read.0, read.1, member_read member m.0 m.1, each_read frame_item_of IsFrameItem frame_item_read ws items.0 items.1)

show_read : (ws : List Word) (act : Act) → show_of ws ≡ Some act → IsAct (codes "show" ∷ ws) act
show_read [] act h = absurd (none-some act h)
show_read (w ∷ []) act h = elim (ways (after (codes "$") w) _ _ _ h) as (λ _. IsAct (codes "show" ∷ w ∷ []) act) [
  | inl q ↦ let n = bound (name_of q.0) _ act q.2 in
      let read = name_read q.0 n.0 n.1 in
      subst (λ a. IsAct (codes "show" ∷ w ∷ []) a) (same_Some _ act n.2)
      (ap (λ v. codes "show" ∷ v ∷ []) (after_read (codes "$") w q.0 q.1 ∙ ap (λ v. codes "$" ++ v) read.0), read.1)
  | inr q ↦ let n = bound (name_of w) _ act q.1 in
      let read = name_read w n.0 n.1 in
      subst (λ a. IsAct (codes "show" ∷ w ∷ []) a) (same_Some _ act n.2) (ap (λ v. codes "show" ∷ v ∷ []) read.0, read.1)
]
show_read (w ∷ v ∷ ws) act h = absurd (none-some act h)

poke_read : (ws : List Word) (act : Act) → poke_of ws ≡ Some act → IsAct (codes "poke" ∷ ws) act
poke_read [] act h = absurd (none-some act h)
poke_read (name ∷ []) act h = absurd (none-some act h)
poke_read (name ∷ offset ∷ []) act h = absurd (none-some act h)
poke_read (name ∷ offset ∷ hex ∷ []) act h =
    let n = bound (name_of name) _ act h in
    let read = name_read name n.0 n.1 in
    let o = bound (digits_of 10 8 offset) _ act n.2 in
    let bytes = bound (bytes_of hex) _ act o.2 in
    subst (λ a. IsAct (codes "poke" ∷ name ∷ offset ∷ hex ∷ []) a) (same_Some _ act bytes.2)
    (offset, hex, ap (λ w. codes "poke" ∷ w ∷ offset ∷ hex ∷ []) read.0, read.1, digits_read 10 8 offset o.0 o.1, bytes_read hex bytes.0 bytes.1)
poke_read (name ∷ offset ∷ hex ∷ w ∷ ws) act h = absurd (none-some act h)

context_read : (ws : List Word) (act : Act) → context_of ws ≡ Some act → IsAct (codes "context" ∷ ws) act
context_read [] act h = absurd (none-some act h)
context_read (w ∷ []) act h =
    let v = bound (value_of w) _ act h in
    subst (λ a. IsAct (codes "context" ∷ w ∷ []) a) (same_Some _ act v.2) (w, refl, value_read w v.0 v.1)
context_read (w ∷ v ∷ ws) act h = absurd (none-some act h)

proxy_read : (ws : List Word) (act : Act) → proxy_of ws ≡ Some act → IsAct (codes "proxy" ∷ ws) act
proxy_read [] act h = absurd (none-some act h)
proxy_read (name ∷ []) act h = absurd (none-some act h)
proxy_read (name ∷ target ∷ []) act h =
    let n = bound (name_of name) _ act h in
    let read = name_read name n.0 n.1 in
    let t = bound (name_of target) _ act n.2 in
    let read_too = name_read target t.0 t.1 in
    subst (λ a. IsAct (codes "proxy" ∷ name ∷ target ∷ []) a) (same_Some _ act t.2)
    (ap (λ w. codes "proxy" ∷ w ∷ target ∷ []) read.0 ∙ ap (λ w. codes "proxy" ∷ n.0 ∷ w ∷ []) read_too.0, read.1, read_too.1)
proxy_read (name ∷ target ∷ w ∷ ws) act h = absurd (none-some act h)

bridge_read : (ws : List Word) (act : Act) → bridge_of ws ≡ Some act → IsAct (codes "bridge" ∷ ws) act
bridge_read [] act h = absurd (none-some act h)
bridge_read (name ∷ []) act h = absurd (none-some act h)
bridge_read (name ∷ target ∷ []) act h = absurd (none-some act h)
bridge_read (name ∷ target ∷ word ∷ []) act h =
    let n = bound (name_of name) _ act h in
    let read = name_read name n.0 n.1 in
    let t = bound (name_of target) _ act n.2 in
    let read_too = name_read target t.0 t.1 in
    let c = bound (conv_of word) _ act t.2 in
    subst (λ a. IsAct (codes "bridge" ∷ name ∷ target ∷ word ∷ []) a) (same_Some _ act c.2) (
      ap (λ w. codes "bridge" ∷ name ∷ target ∷ w ∷ []) (conv_read word c.0 c.1)
          ∙ ap (λ w. codes "bridge" ∷ w ∷ target ∷ conv_word c.0 ∷ []) read.0
          ∙ ap (λ w. codes "bridge" ∷ n.0 ∷ w ∷ conv_word c.0 ∷ []) read_too.0,
      read.1,
      read_too.1,
    )
bridge_read (name ∷ target ∷ word ∷ w ∷ ws) act h = absurd (none-some act h)

-- the first word names the command
by_command : (command name : Word) (ws : List Word) (act : Act) (reading : Option Act) → ((w : Word) → w ≡ name → reading ≡ Some act → IsAct (w ∷ ws) act)
    → (other : Option Act) → (other ≡ Some act → IsAct (command ∷ ws) act)
    → cond (bytes_eq command name) reading other ≡ Some act → IsAct (command ∷ ws) act
by_command command name ws act reading here other later h = elim (chosen (bytes_eq command name) reading other (Some act) h) as (λ _. IsAct (command ∷ ws) act) [
  | inl p ↦ here command (same_bytes command name p.0) p.1
  | inr p ↦ later p.1
]

command_read : (name : Word) (ws : List Word) (act : Act) (reading : Option Act) → (reading ≡ Some act → IsAct (name ∷ ws) act)
    → (w : Word) → w ≡ name → reading ≡ Some act → IsAct (w ∷ ws) act
command_read name ws act reading read w is h = subst (λ v. IsAct (v ∷ ws) act) (sym is) (read h)

pub act_read : (ws : List Word) (act : Act) → act_of ws ≡ Some act → IsAct ws act
unfolding act_of
act_read [] act h = absurd (none-some act h)
act_read (c ∷ ws) act h =
    by_command c (codes "data") ws act (block_of ws) (command_read _ ws act _ (block_read ws act)) _
    (by_command c (codes "object") ws act (object_of ws) (command_read _ ws act _ (object_read ws act)) _
    (by_command c (codes "reply") ws act (reply_of ws) (command_read _ ws act _ (reply_read ws act)) _
    (by_command c (codes "call") ws act (call_of ws) (command_read _ ws act _ (call_read ws act)) _
    (by_command c (codes "enter") ws act (enter_of ws) (command_read _ ws act _ (enter_read ws act)) _
    (by_command c (codes "show") ws act (show_of ws) (command_read _ ws act _ (show_read ws act)) _
    (by_command c (codes "poke") ws act (poke_of ws) (command_read _ ws act _ (poke_read ws act)) _
    (by_command c (codes "context") ws act (context_of ws) (command_read _ ws act _ (context_read ws act)) _
    (by_command c (codes "proxy") ws act (proxy_of ws) (command_read _ ws act _ (proxy_read ws act)) _
    (by_command c (codes "bridge") ws act (bridge_of ws) (command_read _ ws act _ (bridge_read ws act)) None (λ e. absurd (none-some act e))))))))))) h

show_name : (name : Word) → IsName name → show_of (name ∷ []) ≡ Some (ShowBlock name)
show_name name is = by_prefix (after (codes "$") name) refl
  where
    by_prefix : (o : Option Word) → after (codes "$") name ≡ o
        → option_map_or (λ n. name_of n >>= λ n. Some (ShowValue n)) o (name_of name >>= λ n. Some (ShowBlock n)) ≡ Some (ShowBlock name)
    by_prefix None e = rw (name_spelled name is) refl
    by_prefix (Some rest) e =
        let has : lacks 36 (codes "$" ++ rest) ≡ true = subst (λ v. lacks 36 v ≡ true) (after_read (codes "$") name rest e) (name_lacks 36 name refl is) in
        absurd (false≢true has)

pub act_spelled : (ws : List Word) (act : Act) → IsAct ws act → act_of ws ≡ Some act
unfolding act_of fill_kind_of
act_spelled ws (Block name (Given bytes)) h = rw h.1 (rw (name_spelled name h.2, bytes_spelled h.0 bytes h.3) refl)
act_spelled ws (Block name (Zeros n)) h = rw h.1 (rw (name_spelled name h.2, digits_spelled 10 20 h.0 n h.3) refl)
act_spelled ws (Block name (Iid bytes)) h = rw h.1 (rw (name_spelled name h.2, iid_spelled h.0 bytes h.3) refl)
act_spelled ws (Object name iface) h = rw h.0 (rw (name_spelled name h.1, name_spelled iface h.2) refl)
act_spelled ws (Reply name member items) h =
    rw h.2 (rw (name_spelled name h.3, member_spelled h.0 member h.4, each_spelled item_of IsItem item_spelled h.1 items h.5) refl)
act_spelled ws (Call target member args) h =
    rw h.3 (rw (target_spelled h.0 target h.4, member_spelled h.1 member h.5, each_spelled arg_of IsArg arg_spelled h.2 args h.6) refl)
act_spelled ws (Enter name member items) h =
    rw h.2 (rw (name_spelled name h.3, member_spelled h.0 member h.4, each_spelled frame_item_of IsFrameItem frame_item_spelled h.1 items h.5) refl)
act_spelled ws (ShowBlock name) h = rw h.0 (show_name name h.1)
act_spelled ws (ShowValue name) h = rw h.0 (rw (after_spelled (codes "$") name, name_spelled name h.1) refl)
act_spelled ws (Poke name offset bytes) h = rw h.2 (rw (name_spelled name h.3, digits_spelled 10 8 h.0 offset h.4, bytes_spelled h.1 bytes h.5) refl)
act_spelled ws (Context value) h = rw h.1 (rw (value_spelled h.0 value h.2) refl)
act_spelled ws (Proxy name target) h = rw h.0 (rw (name_spelled name h.1, name_spelled target h.2) refl)
act_spelled ws (Bridge name target conv) h = rw h.0 (rw (name_spelled name h.1, name_spelled target h.2, conv_spelled conv) refl)

-- ---- lines

-- a comment is no line
comment_no_act : (w : Word) (ws : List Word) → is_comment w ≡ true → act_of (w ∷ ws) ≡ None
unfolding act_of
comment_no_act [] ws h = absurd (false≢true h)
comment_no_act (c ∷ w) ws h = rw (eqb-true c 35 h) refl

-- what the words of a line read as
abbrev WordsRead : ℕ → List Word → Option Line → Type 0
WordsRead number ws None = IsNothing ws
WordsRead number ws (Some line) = (line.number ≡ number) × (line.echo ≡ joined ws) × IsAct ws line.act

words_read : (number : ℕ) (ws : List Word) (line : Option Line) → words_line_of number ws ≡ Some line → WordsRead number ws line
unfolding words_line_of
words_read number [] line h = subst (λ l. WordsRead number [] l) (same_Some None line h) tt
words_read number (w ∷ ws) line h = elim (chosen (is_comment w) _ _ _ h) as (λ _. WordsRead number (w ∷ ws) line) [
  | inl p ↦ subst (λ l. WordsRead number (w ∷ ws) l) (same_Some _ line p.1) (eqb-true (get_or w 0 0) 35 p.0)
  | inr p ↦ let act = bound (act_of (w ∷ ws)) _ line p.1 in
      subst (λ l. WordsRead number (w ∷ ws) l) (same_Some _ line act.2) (refl, refl, act_read (w ∷ ws) act.0 act.1)
]

no_act : (act : Act) → act_of [] ≡ Some act → ⊥
unfolding act_of
no_act act h = none-some act h

words_spelled : (number : ℕ) (ws : List Word) (line : Option Line) → WordsRead number ws line → words_line_of number ws ≡ Some line
unfolding words_line_of
words_spelled number [] None h = refl
words_spelled number [] (Some line) h = absurd (no_act line.act (act_spelled [] line.act h.2))
words_spelled number (w ∷ ws) None h = rw (eq-eqb (get_or w 0 0) 35 h) refl
words_spelled number (w ∷ ws) (Some line) h =
    rw (plain (is_comment w) refl, act_spelled (w ∷ ws) line.act h.2, sym h.0, sym h.1) refl
  where
    plain : (b : Bool) → is_comment w ≡ b → b ≡ false
    plain true e = absurd (none-some line.act (sym (comment_no_act w ws e) ∙ act_spelled (w ∷ ws) line.act h.2))
    plain false e = refl

pub line_read : (number : ℕ) (text : Word) (line : Option Line) → line_of number text ≡ Some line → IsRead number text line
unfolding line_of
line_read number text line h = elim (chosen (is_plain text) _ _ _ h) as (λ _. IsRead number text line) [
  | inl p ↦ joined_read line p.0 (words_read number (words text) line p.1)
  | inr p ↦ absurd (none-some line p.1)
]
  where
    joined_read : (line : Option Line) → is_plain text ≡ true → WordsRead number (words text) line → IsRead number text line
    joined_read None plain h = (plain, h)
    joined_read (Some line) plain h = (plain, h.0, h.1, h.2)

pub line_spelled : (number : ℕ) (text : Word) (line : Option Line) → IsRead number text line → line_of number text ≡ Some line
unfolding line_of
line_spelled number text None h = rw (h.0, words_spelled number (words text) None h.1) refl
line_spelled number text (Some line) h = rw (h.0, words_spelled number (words text) (Some line) (h.1, h.2, h.3)) refl

-- at most one reading
pub one_line : (number : ℕ) (text : Word) (a b : Option Line) → IsRead number text a → IsRead number text b → a ≡ b
one_line number text a b h k = same_Some a b (sym (line_spelled number text a h) ∙ line_spelled number text b k)

-- ---- texts

fronts_step : (number : ℕ) (text : Word) (texts : List Word) (l : Option (Option Line)) (more : Reading)
    → line_of number text ≡ l → ReadsUpTo (number + 1) texts more.0 more.1 → ReadsUpTo number (text ∷ texts) (add_line number l more).0 (add_line number l more).1
fronts_step number text texts None more is later =
    inr (inr ((λ reading. none-some reading.0 (sym is ∙ line_spelled number text reading.0 reading.1)), refl, refl))
fronts_step number text texts (Some None) more is later = inl (line_read number text None is, later)
fronts_step number text texts (Some (Some line)) more is later = inr (inl (line, more.0, refl, line_read number text (Some line) is, later))

fronts_read : (number : ℕ) (texts : List Word) → ReadsUpTo number texts (front_of number texts).0 (front_of number texts).1
fronts_read number [] = (refl, refl)
fronts_read number (text ∷ texts) = fronts_step number text texts (line_of number text) (front_of (number + 1) texts) refl (fronts_read (number + 1) texts)

-- what is read is read up to the first line that has no reading
pub front_read : (number : ℕ) (texts : List Word) (all : List Line) (fault : Option ℕ) → front_of number texts ≡ (all, fault) → ReadsUpTo number texts all fault
front_read number texts all fault is = subst (λ (r : Reading). ReadsUpTo number texts r.0 r.1) is (fronts_read number texts)

unread : (number : ℕ) (text : Word) → (HasReading number text → ⊥) → line_of number text ≡ None
unread number text none = by_line (line_of number text) refl
  where
    by_line : (l : Option (Option Line)) → line_of number text ≡ l → l ≡ None
    by_line None is = refl
    by_line (Some line) is = absurd (none (line, line_read number text line is))

front_spelled : (number : ℕ) (texts : List Word) (all : List Line) (fault : Option ℕ) → ReadsUpTo number texts all fault → front_of number texts ≡ (all, fault)
front_spelled number [] all fault h = rw (h.0, h.1) refl
front_spelled number (text ∷ texts) all fault (inl h) = rw (line_spelled number text None h.0) (front_spelled (number + 1) texts all fault h.1)
front_spelled number (text ∷ texts) all fault (inr (inl h)) =
    rw (line_spelled number text (Some h.0) h.3, front_spelled (number + 1) texts h.1 fault h.4, h.2) refl
front_spelled number (text ∷ texts) all fault (inr (inr h)) = rw (unread number text h.0, h.1, h.2) refl

-- where no line is named, the lines are a script
pub front_whole : (number : ℕ) (texts : List Word) (all : List Line) → ReadsUpTo number texts all None → AreRead number texts all
front_whole number [] all h = h.0
front_whole number (text ∷ texts) all (inl h) = inl (h.0, front_whole (number + 1) texts all h.1)
front_whole number (text ∷ texts) all (inr (inl h)) = inr (h.0, h.1, h.2, h.3, front_whole (number + 1) texts h.1 h.4)
front_whole number (text ∷ texts) all (inr (inr h)) = absurd (none-some number h.2)

-- a script is read to its end
whole_front : (number : ℕ) (texts : List Word) (all : List Line) → AreRead number texts all → ReadsUpTo number texts all None
whole_front number [] all h = (h, refl)
whole_front number (text ∷ texts) all (inl h) = inl (h.0, whole_front (number + 1) texts all h.1)
whole_front number (text ∷ texts) all (inr h) = inr (inl (h.0, h.1, h.2, h.3, whole_front (number + 1) texts h.1 h.4))

-- and nothing else is read where there is a script
pub front_only : (number : ℕ) (texts : List Word) (script all : List Line) (fault : Option ℕ) → AreRead number texts script → ReadsUpTo number texts all fault → (all ≡ script) × (fault ≡ None)
front_only number texts script all fault whole h =
    let same : ◌≡◌ {A = Reading} (all, fault) (script, None) = sym (front_spelled number texts all fault h) ∙ front_spelled number texts script None (whole_front number texts script whole) in
    (ap (λ (r : Reading). r.0) same, ap (λ (r : Reading). r.1) same)

-- the line that is named is the first that has no reading
pub front_unread : (number : ℕ) (texts : List Word) (all : List Line) (line : ℕ) → ReadsUpTo number texts all (Some line) → IsFirstUnread number texts line
front_unread number [] all line h = absurd (none-some line (sym h.1))
front_unread number (text ∷ texts) all line (inl h) = inr ((None, h.0), front_unread (number + 1) texts all line h.1)
front_unread number (text ∷ texts) all line (inr (inl h)) = inr ((Some h.0, h.3), front_unread (number + 1) texts h.1 line h.4)
front_unread number (text ∷ texts) all line (inr (inr h)) = inl (same_Some line number h.2, h.0)
