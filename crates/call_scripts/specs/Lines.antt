-- The lines of a script, one case for each form, and what it is for bytes to spell a script.
use Rattle.std.specs.Prelude.{◌≡◌, ◌≢◌, ℕ, ◌+◌, true, ◌⊎◌, List, [], ◌∷◌, ◌++◌, slice_index, pos, codes, Option, Some, None}
use Rattle.std.specs.Str.Lines.{lines}
use Rattle.call_scripts.specs.declared.error.ScriptError.{ScriptError}
use Rattle.call_scripts.specs.declared.error.ScriptError.TheVariants as errors
use Rattle.call_scripts.specs.declared.script.Act.{Act}
use Rattle.call_scripts.specs.declared.script.Act.TheVariants.{Block, Object, Reply, Call, Enter, ShowBlock, ShowValue, Poke, Context, Proxy, Bridge}
use Rattle.call_scripts.specs.declared.script.ArgWord.{ArgWord}
use Rattle.call_scripts.specs.declared.script.ArgWord.TheVariants as args
use Rattle.call_scripts.specs.declared.script.EnterItem.{EnterItem}
use Rattle.call_scripts.specs.declared.script.EnterItem.TheVariants.{Register, Stack}
use Rattle.call_scripts.specs.declared.script.Fill.TheVariants.{Given, Zeros, Iid}
use Rattle.call_scripts.specs.declared.script.Line.{Line}
use Rattle.call_scripts.specs.declared.script.MemberRef.{MemberRef}
use Rattle.call_scripts.specs.declared.script.MemberWord.{MemberWord}
use Rattle.call_scripts.specs.declared.script.MemberWord.TheVariants.{Plain, Get, Set}
use Rattle.call_scripts.specs.declared.script.ReplyItem.{ReplyItem}
use Rattle.call_scripts.specs.declared.script.ReplyItem.TheVariants as items
use Rattle.call_scripts.specs.declared.script.Script.{Script}
use Rattle.call_scripts.specs.declared.script.Target.{Target}
use Rattle.call_scripts.specs.declared.script.Target.TheVariants as targets
use Rattle.call_scripts.specs.declared.script.Term.{Term}
use Rattle.call_scripts.specs.declared.script.Term.TheVariants as terms
use Rattle.call_scripts.specs.declared.script.ValueWord.{ValueWord}
use Rattle.call_scripts.specs.declared.script.ValueWord.TheVariants as values
use Rattle.line_words.specs.Words.{Each, Word}
use Rattle.call_scripts.specs.Spellings.{conv_word, is_name, is_register, IsNumber, IsDigits, IsBytes, IsIid}
use Rattle.call_scripts.specs.Texts.{is_plain, joined, words}

abbrev pub IsName : Word → Type 0
IsName w = is_name w ≡ true

-- POS and OFF
abbrev pub IsPosition : Word → ℕ → Type 0
IsPosition w at = IsDigits 10 3 w at

abbrev pub IsOffset : Word → ℕ → Type 0
IsOffset w offset = IsDigits 10 8 w offset

-- VALUE: a number, `null`, a block's address or a variable
abbrev pub IsValue : Word → ValueWord → Type 0
IsValue w (values.Number n) = IsNumber w n ⊎ ((w ≡ codes "null") × (n ≡ pos 0))
IsValue w (values.Address name) = (w ≡ codes "@" ++ name) × IsName name
IsValue w (values.Variable name) = (w ≡ codes "$" ++ name) × IsName name

-- TARGET: a block or a variable
abbrev pub IsTarget : Word → Target → Type 0
IsTarget w (targets.Block name) = (w ≡ name) × IsName name
IsTarget w (targets.Variable name) = (w ≡ codes "$" ++ name) × IsName name

-- what stands before the name of a method, of a getter's attribute and of a setter's
abbrev pub kind_text : MemberWord → Word
kind_text Plain = []
kind_text Get = codes "get:"
kind_text Set = codes "set:"

-- MEMBER: an interface's name, a dot, and the method
abbrev pub IsMember : Word → MemberRef → Type 0
IsMember w member =
    (w ≡ member.iface ++ codes "." ++ kind_text member.kind ++ member.name) × IsName member.iface
    × IsName member.name

-- ARG: a value, an arrow to a variable, both, or `_`
abbrev pub IsArg : Word → ArgWord → Type 0
IsArg w (args.Value value) = IsValue w value
IsArg w (args.Cell name) = (w ≡ codes "->" ++ name) × IsName name
IsArg w (args.ValueCell value name) =
    (front : Word) × (w ≡ front ++ codes "->" ++ name) × IsValue front value × IsName name
IsArg w args.Absent = w ≡ codes "_"

-- TERM: a number, a block's address, the value at a position, or the value in its cell
abbrev pub IsTerm : Word → Term → Type 0
IsTerm w (terms.Number n) = IsNumber w n
IsTerm w (terms.Address name) = (w ≡ codes "@" ++ name) × IsName name
IsTerm w (terms.Arg at) = (p : Word) × (w ≡ codes "$a" ++ p) × IsPosition p at
IsTerm w (terms.InCell at) = (p : Word) × (w ≡ codes "*a" ++ p) × IsPosition p at

-- TERM or TERM+TERM
abbrev pub IsSum : Word → Term → Option Term → Type 0
IsSum w first None = IsTerm w first
IsSum w first (Some second) =
    (left : Word) × (right : Word) × (w ≡ left ++ codes "+" ++ right) × IsTerm left first
    × IsTerm right second

-- ITEM: the result, a sum for a cell, or bytes for the memory at an address
abbrev pub IsItem : Word → ReplyItem → Type 0
IsItem w (items.Result n) =
    (digits : Word) × (w ≡ codes "result=" ++ digits) × IsDigits 16 8 digits n
IsItem w (items.Set at first second) =
    (p : Word) × (sum : Word) × (w ≡ codes "a" ++ p ++ codes "=" ++ sum) × IsPosition p at
    × IsSum sum first second
IsItem w (items.Fill at offset bytes) =
    (p : Word) × (o : Word) × (hex : Word)
    × (w ≡ codes "[a" ++ p ++ codes "+" ++ o ++ codes "]=" ++ hex) × IsPosition p at
    × IsOffset o offset × IsBytes hex bytes

-- FRAMEITEM: the bytes of the stack, or a register and its value
abbrev pub IsFrameItem : Word → EnterItem → Type 0
IsFrameItem w (Stack bytes) = (hex : Word) × (w ≡ codes "stack=" ++ hex) × IsBytes hex bytes
IsFrameItem w (Register name value) =
    (digits : Word) × (w ≡ name ++ codes "=" ++ digits) × (is_register name ≡ true)
    × (name ≢ codes "stack") × IsDigits 16 16 digits value

-- what the words of a line ask for, one case for each form of line
abbrev pub IsAct : List Word → Act → Type 0
IsAct ws (Block name (Given bytes)) =
    (hex : Word) × (ws ≡ codes "data" ∷ name ∷ hex ∷ []) × IsName name × IsBytes hex bytes
IsAct ws (Block name (Zeros n)) =
    (digits : Word) × (ws ≡ codes "data" ∷ name ∷ codes "zero" ∷ digits ∷ []) × IsName name
    × IsDigits 10 20 digits n
IsAct ws (Block name (Iid bytes)) =
    (text : Word) × (ws ≡ codes "data" ∷ name ∷ codes "iid" ∷ text ∷ []) × IsName name
    × IsIid text bytes
IsAct ws (Object name iface) =
    (ws ≡ codes "object" ∷ name ∷ iface ∷ []) × IsName name × IsName iface
IsAct ws (Reply name member items) =
    (m : Word) × (rest : List Word) × (ws ≡ codes "reply" ∷ name ∷ m ∷ rest) × IsName name
    × IsMember m member × Each IsItem rest items
IsAct ws (Call target member args) =
    (t : Word) × (m : Word) × (rest : List Word) × (ws ≡ codes "call" ∷ t ∷ m ∷ rest)
    × IsTarget t target × IsMember m member × Each IsArg rest args
IsAct ws (Enter name member items) =
    (m : Word) × (rest : List Word) × (ws ≡ codes "enter" ∷ name ∷ m ∷ rest) × IsName name
    × IsMember m member × Each IsFrameItem rest items
IsAct ws (ShowBlock name) = (ws ≡ codes "show" ∷ name ∷ []) × IsName name
IsAct ws (ShowValue name) = (ws ≡ codes "show" ∷ (codes "$" ++ name) ∷ []) × IsName name
IsAct ws (Poke name offset bytes) =
    (o : Word) × (hex : Word) × (ws ≡ codes "poke" ∷ name ∷ o ∷ hex ∷ []) × IsName name
    × IsOffset o offset × IsBytes hex bytes
IsAct ws (Context value) = (w : Word) × (ws ≡ codes "context" ∷ w ∷ []) × IsValue w value
IsAct ws (Proxy name target) =
    (ws ≡ codes "proxy" ∷ name ∷ target ∷ []) × IsName name × IsName target
IsAct ws (Bridge name target conv) =
    (ws ≡ codes "bridge" ∷ name ∷ target ∷ conv_word conv ∷ []) × IsName name × IsName target

-- words that are nothing: none, or a comment, whose first word begins with `#`
abbrev pub IsNothing : List Word → Type 0
IsNothing [] = Unit {0}
IsNothing (w ∷ ws) = slice_index w 0 ≡ 35

-- a line of a text is read: as nothing, or as a line of the script with its number and its words
abbrev pub IsRead : ℕ → Word → Option Line → Type 0
IsRead number text None = (is_plain text ≡ true) × IsNothing (words text)
IsRead number text (Some line) =
    (is_plain text ≡ true) × (line.number ≡ number) × (line.echo ≡ joined (words text))
    × IsAct (words text) line.act

-- a line of a text is read in at most one way
abbrev pub OneReading : Type 0
OneReading =
    (number : ℕ) (text : Word) (a b : Option Line) → IsRead number text a → IsRead number text b
    → a ≡ b

-- the lines of a text, the first of which has this number, are the lines of the script, those that
-- are nothing left out
abbrev pub AreRead : ℕ → List Word → List Line → Type 0
AreRead number [] all = all ≡ []
AreRead number (text ∷ texts) all =
    (IsRead number text None × AreRead (number + 1) texts all)
    ⊎ ((line : Line) × (more : List Line) × (all ≡ line ∷ more) × IsRead number text (Some line)
    × AreRead (number + 1) texts more)

-- the bytes spell the script
abbrev pub IsScript : List ℕ → Script → Type 0
IsScript bytes script = AreRead 1 (lines bytes) script.lines

-- a line of a text has a reading
abbrev pub HasReading : ℕ → Word → Type 0
HasReading number text = (line : Option Line) × IsRead number text line

-- a line, counted from 1, has no reading, and each before it has one
abbrev pub IsFirstUnread : ℕ → List Word → ℕ → Type 0
IsFirstUnread number [] line = ⊥
IsFirstUnread number (text ∷ texts) line =
    ((line ≡ number) × (HasReading number text → ⊥))
    ⊎ (HasReading number text × IsFirstUnread (number + 1) texts line)

-- what a refusal says of the bytes
abbrev pub Blames : List ℕ → ScriptError → Type 0
Blames bytes (errors.Fault line) = IsFirstUnread 1 (lines bytes) line
Blames bytes errors.Memory = Unit {0}

-- the lines of a text up to the first that has no reading are the lines of the script, and that
-- line, where there is one, is named
abbrev pub ReadsUpTo : ℕ → List Word → List Line → Option ℕ → Type 0
ReadsUpTo number [] all fault = (all ≡ []) × (fault ≡ None)
ReadsUpTo number (text ∷ texts) all fault =
    (IsRead number text None × ReadsUpTo (number + 1) texts all fault)
    ⊎ (((line : Line) × (more : List Line) × (all ≡ line ∷ more) × IsRead number text (Some line)
    × ReadsUpTo (number + 1) texts more fault)
    ⊎ ((HasReading number text → ⊥) × (all ≡ []) × (fault ≡ Some number)))
