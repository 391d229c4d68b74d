-- The script of `big N`: an object of the last interface, and a reply and a call of each method.
use Rattle.std.specs.Prelude.{ℕ, ◌+◌, ◌*◌, ◌%◌, ◌==◌, List, ◌∷◌, ◌++◌, codes, if◌then◌else◌}
use Rattle.big_texts.specs.Idl.{iface_name, param_count, type_number}
use Rattle.big_texts.specs.Pieces.{pieces, line, decimal}

-- the method i, as a line names it
abbrev pub member_text : (i : ℕ) → List ℕ
member_text i = iface_name i ++ (codes ".m" ++ decimal i)

-- the value of parameter j: 0 or 1 for a boolean, and less than 100 for all else
abbrev pub value_of : (i j : ℕ) → ℕ
value_of i j = (7 * i + j) % (if type_number i j == 0 then 2 else 100)

abbrev pub value_text : (i j : ℕ) → List ℕ
value_text i j = 32 ∷ decimal (value_of i j)

-- the object replies the number of the method
abbrev pub reply_text : (i : ℕ) → List ℕ
reply_text i =
    codes "reply o " ++ (member_text i ++ (codes " a" ++ (decimal (param_count i)
    ++ (codes "=" ++ decimal i))))

abbrev pub call_text : (i : ℕ) → List ℕ
call_text i =
    codes "call o " ++ (member_text i ++ (pieces (value_text i) (param_count i) ++ codes " ->r"))

abbrev pub made_text : (i : ℕ) → List ℕ
made_text i = line (reply_text i) ++ line (call_text i)

-- the script over the file whose last interface has this number
abbrev pub big_script : (last : ℕ) → List ℕ
big_script last = line (codes "object o " ++ iface_name last) ++ pieces made_text (last + 1)
