-- What each word and each line reads as, if it has a reading.
use Rattle.std.specs.Prelude.{ℕ, ◌+◌, find, Bool, ◌&&◌, if◌then◌else◌, ◌==◌, slice_index, nat_lt, nat_le, List, [], ◌∷◌, ◌++◌, length, drop, ℤ, pos, neg_ℤ, codes, Option, Some, None}
use Rattle.std.specs.List.{list_all}
use Rattle.std.specs.Char.{is_digit}
use Rattle.std.specs.Option.{option_map, option_map_or}
use Rattle.std.specs.Result.{result_ok}
use Rattle.std.specs.Str.{bytes_eq}
use Rattle.std.specs.Str.Parse.{digits_value, starts_with_minus}
use Rattle.call_model.specs.declared.places.Conv.{Conv}
use Rattle.call_model.specs.declared.places.Conv.TheVariants.{SysV64, I386, Aapcs64, Ms64, Aapcs32}
use Rattle.hex.specs.Hex.{decode_of}
use Rattle.uuid.specs.Text.{parsed_hyphenated}
use Rattle.line_words.specs.Words.{Word, ◌>>=◌, after, before, cut_at, each_of}
use Rattle.call_scripts.specs.declared.script.Act.{Act}
use Rattle.call_scripts.specs.declared.script.ArgWord.{ArgWord}
use Rattle.call_scripts.specs.declared.script.EnterItem.{EnterItem}
use Rattle.call_scripts.specs.declared.script.Fill.{Fill}
use Rattle.call_scripts.specs.declared.script.Line.{Line}
use Rattle.call_scripts.specs.declared.script.MemberRef.{MemberRef}
use Rattle.call_scripts.specs.declared.script.ReplyItem.{ReplyItem}
use Rattle.call_scripts.specs.declared.script.Target.{Target}
use Rattle.call_scripts.specs.declared.script.Term.{Term}
use Rattle.call_scripts.specs.declared.script.ValueWord.{ValueWord}
use Rattle.call_scripts.specs.declared.script.Act.TheVariants.{Block, Object, Reply, Call, Enter, ShowBlock, ShowValue, Poke, Context, Proxy, Bridge}
use Rattle.call_scripts.specs.declared.script.ArgWord.TheVariants.{Value, Cell, ValueCell, Absent}
use Rattle.call_scripts.specs.declared.script.EnterItem.TheVariants.{Register, Stack}
use Rattle.call_scripts.specs.declared.script.Fill.TheVariants.{Given, Zeros, Iid}
use Rattle.call_scripts.specs.declared.script.MemberWord.TheVariants.{Plain, Get, Set}
use Rattle.call_scripts.specs.declared.script.ReplyItem.TheVariants as items
use Rattle.call_scripts.specs.declared.script.Target.TheVariants as targets
use Rattle.call_scripts.specs.declared.script.Term.TheVariants as terms
use Rattle.call_scripts.specs.declared.script.Term.TheVariants.{Arg, InCell}
use Rattle.call_scripts.specs.declared.script.ValueWord.TheVariants as values
use Rattle.call_scripts.specs.Spellings.{conv_word, is_name, is_register}
use Rattle.call_scripts.specs.Texts.{is_plain, joined, words}

unfoldable pub name_of : Word → Option Word
name_of w = if is_name w then Some w else None

-- the number that 1 to `longest` digits write
unfoldable pub digits_of : ℕ → ℕ → Word → Option ℕ
digits_of radix longest w =
    if nat_lt 0 (length w) && nat_le (length w) longest && list_all (λ c. is_digit c radix) w
    then Some (digits_value radix w)
    else None

unfoldable pub decimal_of : Word → Option ℤ
decimal_of w =
    if starts_with_minus w
    then option_map (λ n. neg_ℤ (pos n)) (digits_of 10 20 (drop 1 w))
    else option_map pos (digits_of 10 20 w)

unfoldable pub number_of : Word → Option ℤ
number_of w =
    option_map_or (λ digits. option_map pos (digits_of 16 16 digits)) (after (codes "0x") w)
    (decimal_of w)

unfoldable pub bytes_of : Word → Option (List ℕ)
bytes_of w = if length w == 0 then None else result_ok (decode_of w)

unfoldable pub iid_of : Word → Option (List ℕ)
iid_of w = parsed_hyphenated w

-- the convention that the word names
unfoldable pub conv_of : Word → Option Conv
conv_of w =
    find (λ conv. bytes_eq w (conv_word conv)) (SysV64 ∷ I386 ∷ Aapcs64 ∷ Ms64 ∷ Aapcs32 ∷ [])

-- MEMBER: an interface's name, a dot, and a method's name or an attribute's after `get:` or `set:`
unfoldable pub method_of : Word → Word → Option MemberRef
method_of iface w =
    option_map_or
    (λ name. name_of name >>= λ name. Some (record { iface = iface; kind = Get; name = name }))
    (after (codes "get:") w)
    (option_map_or
    (λ name. name_of name >>= λ name. Some (record { iface = iface; kind = Set; name = name }))
    (after (codes "set:") w)
    (name_of w >>= λ name. Some (record { iface = iface; kind = Plain; name = name })))

unfoldable pub member_of : Word → Option MemberRef
member_of w = cut_at 46 w >>= λ parts. name_of parts.0 >>= λ iface. method_of iface parts.1

unfoldable pub value_of : Word → Option ValueWord
value_of w =
    if bytes_eq w (codes "null") then Some (values.Number (pos 0))
    else option_map_or
    (λ name. name_of name >>= λ name. Some (values.Address name))
    (after (codes "@") w)
    (option_map_or
    (λ name. name_of name >>= λ name. Some (values.Variable name))
    (after (codes "$") w)
    (number_of w >>= λ n. Some (values.Number n)))

unfoldable pub target_of : Word → Option Target
target_of w =
    option_map_or
    (λ name. name_of name >>= λ name. Some (targets.Variable name))
    (after (codes "$") w)
    (name_of w >>= λ name. Some (targets.Block name))

-- what stands before the arrow, and the name after it
unfoldable pub out_of : Word → Word → Option ArgWord
out_of front w =
    name_of w >>= λ name. if length front == 0
    then Some (Cell name)
    else (value_of front >>= λ value. Some (ValueCell value name))

unfoldable pub arg_of : Word → Option ArgWord
arg_of w =
    if bytes_eq w (codes "_") then Some Absent
    else option_map_or
    (λ parts. before (codes "-") parts.0 >>= λ front. out_of front parts.1)
    (cut_at 62 w)
    (value_of w >>= λ value. Some (Value value))

unfoldable pub term_of : Word → Option Term
term_of w =
    option_map_or (λ name. name_of name >>= λ name. Some (terms.Address name)) (after (codes "@") w)
    (option_map_or (λ at. digits_of 10 3 at >>= λ at. Some (Arg at)) (after (codes "$a") w)
    (option_map_or (λ at. digits_of 10 3 at >>= λ at. Some (InCell at)) (after (codes "*a") w)
    (number_of w >>= λ n. Some (terms.Number n))))

-- `POS=TERM` or `POS=TERM+TERM`
unfoldable pub sum_of : ℕ → Word → Option ReplyItem
sum_of at w =
    option_map_or
    (λ parts. term_of parts.0 >>= λ first. term_of parts.1 >>= λ second.
    Some (items.Set at first (Some second)))
    (cut_at 43 w)
    (term_of w >>= λ first. Some (items.Set at first None))

unfoldable pub set_of : Word → Option ReplyItem
set_of w = cut_at 61 w >>= λ parts. digits_of 10 3 parts.0 >>= λ at. sum_of at parts.1

-- `POS+OFF]=HEX`
unfoldable pub fill_of : Word → Option ReplyItem
fill_of w =
    cut_at 43 w >>= λ parts. digits_of 10 3 parts.0 >>= λ at.
    cut_at 93 parts.1 >>= λ ends. digits_of 10 8 ends.0 >>= λ offset.
    after (codes "=") ends.1 >>= λ hex. bytes_of hex >>= λ bytes. Some (items.Fill at offset bytes)

unfoldable pub item_of : Word → Option ReplyItem
item_of w =
    option_map_or
    (λ digits. digits_of 16 8 digits >>= λ n. Some (items.Result n))
    (after (codes "result=") w)
    (option_map_or set_of (after (codes "a") w) (after (codes "[a") w >>= fill_of))

unfoldable pub frame_item_of : Word → Option EnterItem
frame_item_of w =
    cut_at 61 w >>= λ parts.
    if bytes_eq parts.0 (codes "stack") then (bytes_of parts.1 >>= λ bytes. Some (Stack bytes))
    else if is_register parts.0
    then (digits_of 16 16 parts.1 >>= λ value. Some (Register parts.0 value))
    else None

unfoldable pub fill_kind_of : Word → Word → Option Fill
fill_kind_of kind w =
    if bytes_eq kind (codes "zero") then (digits_of 10 20 w >>= λ n. Some (Zeros n))
    else if bytes_eq kind (codes "iid") then (iid_of w >>= λ bytes. Some (Iid bytes)) else None

abbrev pub block_of : List Word → Option Act
block_of (name ∷ hex ∷ []) =
    name_of name >>= λ name. bytes_of hex >>= λ bytes. Some (Block name (Given bytes))
block_of (name ∷ kind ∷ text ∷ []) =
    name_of name >>= λ name. fill_kind_of kind text >>= λ fill. Some (Block name fill)
block_of _ = None

abbrev pub object_of : List Word → Option Act
object_of (name ∷ iface ∷ []) =
    name_of name >>= λ name. name_of iface >>= λ iface. Some (Object name iface)
object_of _ = None

abbrev pub reply_of : List Word → Option Act
reply_of (name ∷ member ∷ words) =
    name_of name >>= λ name. member_of member >>= λ member.
    each_of item_of words >>= λ items. Some (Reply name member items)
reply_of _ = None

abbrev pub call_of : List Word → Option Act
call_of (target ∷ member ∷ words) =
    target_of target >>= λ target. member_of member >>= λ member.
    each_of arg_of words >>= λ args. Some (Call target member args)
call_of _ = None

abbrev pub enter_of : List Word → Option Act
enter_of (name ∷ member ∷ words) =
    name_of name >>= λ name. member_of member >>= λ member.
    each_of frame_item_of words >>= λ items. Some (Enter name member items)
enter_of _ = None

abbrev pub show_of : List Word → Option Act
show_of (w ∷ []) =
    option_map_or (λ name. name_of name >>= λ name. Some (ShowValue name)) (after (codes "$") w)
    (name_of w >>= λ name. Some (ShowBlock name))
show_of _ = None

abbrev pub poke_of : List Word → Option Act
poke_of (name ∷ offset ∷ hex ∷ []) =
    name_of name >>= λ name. digits_of 10 8 offset >>= λ offset.
    bytes_of hex >>= λ bytes. Some (Poke name offset bytes)
poke_of _ = None

abbrev pub context_of : List Word → Option Act
context_of (w ∷ []) = value_of w >>= λ value. Some (Context value)
context_of _ = None

abbrev pub proxy_of : List Word → Option Act
proxy_of (name ∷ target ∷ []) =
    name_of name >>= λ name. name_of target >>= λ target. Some (Proxy name target)
proxy_of _ = None

abbrev pub bridge_of : List Word → Option Act
bridge_of (name ∷ target ∷ conv ∷ []) =
    name_of name >>= λ name. name_of target >>= λ target.
    conv_of conv >>= λ conv. Some (Bridge name target conv)
bridge_of _ = None

-- the line of these words
unfoldable pub act_of : List Word → Option Act
act_of [] = None
act_of (command ∷ words) =
    if bytes_eq command (codes "data") then block_of words
    else if bytes_eq command (codes "object") then object_of words
    else if bytes_eq command (codes "reply") then reply_of words
    else if bytes_eq command (codes "call") then call_of words
    else if bytes_eq command (codes "enter") then enter_of words
    else if bytes_eq command (codes "show") then show_of words
    else if bytes_eq command (codes "poke") then poke_of words
    else if bytes_eq command (codes "context") then context_of words
    else if bytes_eq command (codes "proxy") then proxy_of words
    else if bytes_eq command (codes "bridge") then bridge_of words
    else None

-- a word that begins with `#`
abbrev pub is_comment : Word → Bool
is_comment w = slice_index w 0 == 35

-- the line of these words, if it is any
unfoldable pub words_line_of : ℕ → List Word → Option (Option Line)
words_line_of number [] = Some None
words_line_of number (w ∷ ws) =
    if is_comment w then Some None
    else (act_of (w ∷ ws) >>= λ act.
    Some (Some (record { number = number; echo = joined (w ∷ ws); act = act })))

unfoldable pub line_of : ℕ → Word → Option (Option Line)
line_of number text = if is_plain text then words_line_of number (words text) else None

-- the lines before the first that has no reading, and the number of that one
abbrev pub Reading : Type 0
Reading = List Line × Option ℕ

-- a reading with the lines that were read before it
abbrev pub with_lines : List Line → Reading → Reading
with_lines earlier more = (earlier ++ more.0, more.1)

-- a line before what follows it, which is not read where the line has no reading
abbrev pub add_line : ℕ → Option (Option Line) → Reading → Reading
add_line number None more = ([], Some number)
add_line number (Some None) more = more
add_line number (Some (Some line)) more = with_lines (line ∷ []) more

-- the reading of lines, the first of which has this number
abbrev pub front_of : ℕ → List Word → Reading
front_of number [] = ([], None)
front_of number (text ∷ texts) = add_line number (line_of number text) (front_of (number + 1) texts)
