-- What the lexer computes, as functions on lists. Each reader gives what is left behind its part.
use Rattle.std.specs.Prelude.{ℕ, zero, suc, Bool, true, false, ◌&&◌, ◌||◌, ◌==◌, if◌then◌else◌, List, [], ◌∷◌, Option, Some, None, option_and_then, unwrap_or, codes}
use Rattle.std.specs.Option.{option_map, option_or}
use Rattle.idl_lexer.specs.declared.class.Class.{Class}
use Rattle.idl_lexer.specs.declared.class.Class.TheVariants.{Blank, NameStart, NameByte, Digit, Single}
use Rattle.idl_lexer.specs.declared.token.Kind.{Kind}
use Rattle.idl_lexer.specs.declared.token.Kind.TheVariants as kind
use Rattle.idl_lexer.specs.Classes.{is_in}
use Rattle.idl_lexer.specs.Parts.{Part, literal, counted, run, is_key, is_name}
use Rattle.idl_lexer.specs.Spelling.{hexadecimal, decimal, iid, include, native, language}
use Rattle.idl_lexer.specs.Pieces.{line_comment}

-- the bytes of the class at the front, and what is left behind them
abbrev pub front : Class → List ℕ → List ℕ
front class [] = []
front class (c ∷ cs) = if is_in class c then c ∷ front class cs else []

abbrev pub behind : Class → List ℕ → List ℕ
behind class [] = []
behind class (c ∷ cs) = if is_in class c then behind class cs else c ∷ cs

abbrev pub after_literal : List ℕ → List ℕ → Option (List ℕ)
after_literal [] bytes = Some bytes
after_literal (w ∷ word) [] = None
after_literal (w ∷ word) (c ∷ cs) = if c == w then after_literal word cs else None

abbrev pub after_counted : Class → ℕ → List ℕ → Option (List ℕ)
after_counted class zero bytes = Some bytes
after_counted class (suc count) [] = None
after_counted class (suc count) (c ∷ cs) =
    if is_in class c then after_counted class count cs else None

unfoldable pub after_run : Class → (List ℕ → Bool) → List ℕ → Option (List ℕ)
after_run class fits bytes = if fits (front class bytes) then Some (behind class bytes) else None

-- what is left behind the parts; each run is as long as it can be
abbrev pub after : List Part → List ℕ → Option (List ℕ)
after [] bytes = Some bytes
after (literal word ∷ parts) bytes = option_and_then (after parts) (after_literal word bytes)
after (counted class count ∷ parts) bytes =
    option_and_then (after parts) (after_counted class count bytes)
after (run class fits ∷ parts) bytes = option_and_then (after parts) (after_run class fits bytes)

-- whether something is left, and it is nothing
abbrev pub is_end : Option (List ℕ) → Bool
is_end None = false
is_end (Some []) = true
is_end (Some (_ ∷ _)) = false

-- whether the parts are read and nothing is left behind them
unfoldable pub is_whole : List Part → List ℕ → Bool
is_whole parts bytes = is_end (after parts bytes)

-- what is left behind the first `a` that `b` follows
abbrev pub after_pair : ℕ → ℕ → List ℕ → Option (List ℕ)
after_pair a b [] = None
after_pair a b (c ∷ []) = None
after_pair a b (c ∷ d ∷ more) = if c == a && d == b then Some more else after_pair a b (d ∷ more)

unfoldable pub after_block : List ℕ → Option (List ℕ)
after_block bytes = option_and_then (after_pair 37 125) (after_literal (codes "%{") bytes)

-- without the language of a block, where it stands at the front
unfoldable pub past_language : List ℕ → List ℕ
past_language bytes = unwrap_or (after language bytes) bytes

unfoldable pub after_code : List ℕ → Option (List ℕ)
after_code bytes = option_map past_language (after_block bytes)

unfoldable pub after_number : List ℕ → Option (List ℕ)
after_number bytes = option_or (after hexadecimal bytes) (after decimal bytes)

-- one byte, or `<<` or `>>`
unfoldable pub after_mark : List ℕ → Option (List ℕ)
after_mark [] = None
after_mark (c ∷ []) = if is_in Single c then Some [] else None
after_mark (c ∷ d ∷ more) =
    if is_in Single c then Some (d ∷ more)
    else (if (c == d) && (c == 60 || c == 62) then Some more else None)

abbrev pub of_kind : Kind → Option (List ℕ) → Option (Kind × List ℕ)
of_kind what rest = option_map (λ r. (what, r)) rest

-- a name or a keyword
unfoldable pub name_at : List ℕ → Option (Kind × List ℕ)
name_at bytes =
    if is_key (front NameByte bytes) then Some (kind.Key, behind NameByte bytes)
    else (if is_name (front NameByte bytes) then Some (kind.Word, behind NameByte bytes) else None)

-- what begins with a letter or `_`
unfoldable pub lettered_at : List ℕ → Option (Kind × List ℕ)
lettered_at bytes =
    option_or (of_kind kind.Iid (after iid bytes))
    (option_or (of_kind kind.Native (after native bytes)) (name_at bytes))

-- what begins with a digit
unfoldable pub numbered_at : List ℕ → Option (Kind × List ℕ)
numbered_at bytes =
    option_or (of_kind kind.Iid (after iid bytes)) (of_kind kind.Number (after_number bytes))

-- the token at the front, and what is left behind it
unfoldable pub token_at : List ℕ → Option (Kind × List ℕ)
token_at [] = None
token_at (c ∷ cs) =
    if is_in NameStart c then lettered_at (c ∷ cs)
    else (if is_in Digit c then numbered_at (c ∷ cs)
    else (if c == 35 then of_kind kind.Include (after include (c ∷ cs))
    else (if c == 37 then of_kind kind.Code (after_code (c ∷ cs))
    else of_kind kind.Mark (after_mark (c ∷ cs)))))

unfoldable pub after_comment : List ℕ → Option (List ℕ)
after_comment bytes =
    option_or (after line_comment bytes)
    (option_and_then (after_pair 42 47) (after_literal (codes "/*") bytes))

-- the piece at the front, and what is left behind it
unfoldable pub piece_at : List ℕ → Option (Option Kind × List ℕ)
piece_at [] = None
piece_at (c ∷ cs) =
    if is_in Blank c then Some (None, cs)
    else (if c == 47 then option_map (λ rest. (None, rest)) (after_comment (c ∷ cs))
    else option_map (λ t. (Some t.0, t.1)) (token_at (c ∷ cs)))
