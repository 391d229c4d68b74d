-- How the lines of a transcript are worded.
use Rattle.std.specs.Prelude.{ℕ, pos, List, [], ◌∷◌, ◌++◌, map, take, codes}
use Rattle.std.specs.List.{flat_map}
use Rattle.std.specs.Int.{w64, cast_signed}
use Rattle.xp_base.specs.Digits.{decimal_text, hex_digits, hex_digits_fixed}
use Rattle.call_model.specs.declared.ctypes.CType.{CType}
use Rattle.call_model.specs.declared.ctypes.CType.TheVariants as c
use Rattle.call_model.specs.declared.places.Conv.{Conv}
use Rattle.call_model.specs.Placement.{gprs_of, fprs_of}
use Rattle.call_model.specs.Values.{FrameView}
use Rattle.object_memory.specs.Layout.{entry_of}

-- a line, ended by LF
abbrev pub ended : List ℕ → List ℕ
ended text = text ++ 10 ∷ []

-- a label and words behind it, each after a space; `-` stands for no words
abbrev pub labelled : (label : List ℕ) → List (List ℕ) → List ℕ
labelled label [] = label ++ codes " -"
labelled label (w ∷ ws) = label ++ flat_map (λ v. 32 ∷ v) (w ∷ ws)

-- a canonical pattern as a number of its type: in decimal, or in hexadecimal for floats and
-- pointers
abbrev pub value_text : CType → ℕ → List ℕ
value_text c.I8 p = decimal_text (cast_signed w64 p)
value_text c.I16 p = decimal_text (cast_signed w64 p)
value_text c.I32 p = decimal_text (cast_signed w64 p)
value_text c.I64 p = decimal_text (cast_signed w64 p)
value_text c.U8 p = decimal_text (pos p)
value_text c.U16 p = decimal_text (pos p)
value_text c.U32 p = decimal_text (pos p)
value_text c.U64 p = decimal_text (pos p)
value_text c.F32 p = codes "0x" ++ hex_digits p
value_text c.F64 p = codes "0x" ++ hex_digits p
value_text c.Bool p = decimal_text (pos p)
value_text c.Char p = decimal_text (pos p)
value_text c.WChar p = decimal_text (pos p)
value_text c.Ptr p = codes "0x" ++ hex_digits p

-- bytes as one word of hexadecimal digits, two for each; no word for no bytes
abbrev pub bytes_words : List ℕ → List (List ℕ)
bytes_words [] = []
bytes_words (b ∷ bytes) = flat_map (hex_digits_fixed 2) (b ∷ bytes) ∷ []

abbrev pub slot_text : ℕ → List ℕ
slot_text slot =
    ended (codes "slot " ++ decimal_text (pos slot) ++ codes " entry "
    ++ hex_digits (entry_of slot))

-- the registers that take arguments, and the stack
unfoldable pub frame_text : Conv → FrameView → List ℕ
frame_text conv frame =
    ended (labelled (codes "gpr") (map hex_digits (take (gprs_of conv) frame.gprs)))
    ++ (ended (labelled (codes "fpr") (map hex_digits (take (fprs_of conv) frame.fprs)))
    ++ ended (labelled (codes "stack") (bytes_words frame.stack)))

abbrev pub result_text : ℕ → List ℕ
result_text result = ended (codes "result " ++ hex_digits_fixed 8 result)
