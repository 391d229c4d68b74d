-- The words on a line, and what is read of them part by part.
use Rattle.std.specs.Prelude.{◌≡◌, ℕ, ◌+◌, ◌-◌, position, if◌then◌else◌, ◌==◌, List, [], ◌∷◌, length, take, drop, Option, Some, None, Result, Ok, Err}
use Rattle.std.specs.Option.{option_map}
use Rattle.std.specs.Str.{bytes_eq}
use Rattle.line_words.specs.declared.error.Unread.{Unread}
use Rattle.line_words.specs.declared.error.Unread.TheVariants.{NoReading, NoMemory}

-- a word of a line: its bytes
abbrev pub Word : Type 0
Word = List ℕ

-- What a reader returned is what the reading is, unless memory ran out.
abbrev pub Gives : {A : Type 0} → Result A Unread → Option A → Type 0
Gives (Ok v) reading = reading ≡ Some v
Gives (Err NoReading) reading = reading ≡ None
Gives (Err NoMemory) reading = Unit {0}

-- one reading, and then what follows from it
infixl 10 ◌>>=◌
abbrev pub ◌>>=◌ : {A B : Type 0} → Option A → (A → Option B) → Option B
None >>= f = None
(Some x) >>= f = f x

-- what follows the prefix
unfoldable pub after : Word → Word → Option Word
after prefix w =
    if bytes_eq (take (length prefix) w) prefix then Some (drop (length prefix) w) else None

-- what comes before the suffix
unfoldable pub before : Word → Word → Option Word
before suffix w =
    if bytes_eq (drop (length w - length suffix) w) suffix
    then Some (take (length w - length suffix) w)
    else None

-- the parts before and after the first of a mark
unfoldable pub cut_at : ℕ → Word → Option (Word × Word)
cut_at mark w = option_map (λ at. (take at w, drop (at + 1) w)) (position (λ b. b == mark) w)

-- one word for each value
abbrev pub Each : {A : Type 0} → (Word → A → Type 0) → List Word → List A → Type 0
Each Is [] vs = vs ≡ []
Each Is (w ∷ ws) [] = ⊥
Each Is (w ∷ ws) (v ∷ vs) = Is w v × Each Is ws vs

-- all the readings, in order, where each word has one
abbrev pub each_of : {A : Type 0} → (Word → Option A) → List Word → Option (List A)
each_of read [] = Some []
each_of read (w ∷ ws) = read w >>= λ v. each_of read ws >>= λ vs. Some (v ∷ vs)
