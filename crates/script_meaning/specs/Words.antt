-- What the words of a line stand for in a state: numbers in the place of the names of blocks and of
-- variables.
use Rattle.std.specs.Prelude.{ℕ, ℤ, pos, List, length, replicate, option_and_then, option_map, Option, Some, None}
use Rattle.uuid.specs.Parts.{swap_fields}
use Rattle.call_scripts.specs.declared.script.ArgWord.{ArgWord}
use Rattle.call_scripts.specs.declared.script.ArgWord.TheVariants as words
use Rattle.call_scripts.specs.declared.script.Fill.{Fill}
use Rattle.call_scripts.specs.declared.script.Fill.TheVariants.{Given, Zeros, Iid}
use Rattle.call_scripts.specs.declared.script.ReplyItem.{ReplyItem}
use Rattle.call_scripts.specs.declared.script.ReplyItem.TheVariants as items
use Rattle.call_scripts.specs.declared.script.Target.{Target}
use Rattle.call_scripts.specs.declared.script.Target.TheVariants as targets
use Rattle.call_scripts.specs.declared.script.Term.{Term}
use Rattle.call_scripts.specs.declared.script.Term.TheVariants as terms
use Rattle.call_scripts.specs.declared.script.ValueWord.{ValueWord}
use Rattle.call_scripts.specs.declared.script.ValueWord.TheVariants as values
use Rattle.invoke_by_index.specs.declared.args.Arg.{Arg}
use Rattle.invoke_by_index.specs.declared.args.Arg.TheVariants as args
use Rattle.script_meaning.specs.Refusing.{each_of}
use Rattle.script_meaning.specs.State.{Name, Rule, State, named}

-- ---- numbers; there is none where no block or variable has the name

-- the address of the block of a name
abbrev pub address_of : State → Name → Option ℤ
address_of state name = option_map (λ b. pos b.at) (named state name)

abbrev pub number_of_value : State → ValueWord → Option ℤ
number_of_value state (values.Number n) = Some n
number_of_value state (values.Address name) = address_of state name
number_of_value state (values.Variable name) = state.variables name

abbrev pub number_of_target : State → Target → Option ℤ
number_of_target state (targets.Block name) = address_of state name
number_of_target state (targets.Variable name) = state.variables name

-- ---- arguments

abbrev pub arg_of : State → ArgWord → Option Arg
arg_of state (words.Value value) = option_map args.Value (number_of_value state value)
arg_of state (words.Cell name) = Some args.Cell
arg_of state (words.ValueCell value name) = option_map args.ValueCell (number_of_value state value)
arg_of state words.Absent = Some args.Absent

abbrev pub args_of : State → List ArgWord → Option (List Arg)
args_of state words = each_of (arg_of state) words

-- the variable behind an argument's arrow
abbrev pub variable_of : ArgWord → Option Name
variable_of (words.Value value) = None
variable_of (words.Cell name) = Some name
variable_of (words.ValueCell value name) = Some name
variable_of words.Absent = None

-- ---- replies

abbrev pub term_of : State → Term → Option Term
term_of state (terms.Number n) = Some (terms.Number n)
term_of state (terms.Address name) = option_map terms.Number (address_of state name)
term_of state (terms.Arg k) = Some (terms.Arg k)
term_of state (terms.InCell k) = Some (terms.InCell k)

-- of a sum with one term, or with two
abbrev pub sum_of : State → (k : ℕ) → Term → Option Term → Option ReplyItem
sum_of state k first None =
    option_map (λ first. items.Set k first None) (term_of state first)
sum_of state k first (Some second) =
    option_and_then
    (λ first. option_map (λ second. items.Set k first (Some second)) (term_of state second))
    (term_of state first)

abbrev pub item_of : State → ReplyItem → Option ReplyItem
item_of state (items.Result n) = Some (items.Result n)
item_of state (items.Set k first second) = sum_of state k first second
item_of state (items.Fill k offset bytes) = Some (items.Fill k offset bytes)

abbrev pub rule_of : State → List ReplyItem → Option Rule
rule_of state rule = each_of (item_of state) rule

-- ---- new data

-- how many bytes are asked for
abbrev pub length_of : Fill → ℕ
length_of (Given bytes) = length bytes
length_of (Zeros n) = n
length_of (Iid bytes) = 16

-- the bytes. In memory the first three fields of an IID have their low bytes first
abbrev pub bytes_of : Fill → List ℕ
bytes_of (Given bytes) = bytes
bytes_of (Zeros n) = replicate n 0
bytes_of (Iid bytes) = swap_fields bytes
