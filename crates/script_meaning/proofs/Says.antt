-- What the lines of a script say, from their text to the text of the transcript.
use Rattle.std.specs.Prelude.{◌≡◌, ℕ, List}
use Rattle.std.specs.List.{flat_map}
use Rattle.std.specs.Str.Lines.{lines}
use Rattle.call_model.specs.declared.places.Conv.{Conv}
use Rattle.call_model.specs.declared.tables.Table.{Table}
use Rattle.call_scripts.specs.declared.script.Line.{Line}
use Rattle.call_scripts.specs.Reading.{front_of}
use Rattle.transcript_text.specs.Texts.{ended}
use Rattle.script_meaning.specs.Transcript.{static}

-- lines, each ended by LF
abbrev pub text_of : List (List ℕ) → List ℕ
text_of texts = flat_map ended texts

-- the script that a text spells, where each line has a reading
abbrev pub script_of : List ℕ → List Line
script_of text = (front_of 1 (lines text)).0

-- a script has this transcript
abbrev pub Says : Table → Conv → (script transcript : List (List ℕ)) → Type 0
Says table conv script transcript =
    static table conv (script_of (text_of script)) ≡ text_of transcript
