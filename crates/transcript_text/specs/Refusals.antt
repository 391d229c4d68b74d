-- How a refusal is worded.
use Rattle.std.specs.Prelude.{ℕ, pos, List, ◌++◌, codes}
use Rattle.xp_base.specs.Digits.{decimal_text}
use Rattle.transcript_text.specs.declared.refusals.Refusal.{Refusal}
use Rattle.transcript_text.specs.declared.refusals.Refusal.TheVariants.{Taken, NoName, NoInterface, NoMethod, Hidden, NotXpcom, Opaque, Count, Form, Range, NotAnObject, WrongInterface, Proxy, Word, Depth, NotData, Heap, Frame}

-- how many bytes of stack the arguments need, and how many a frame has
abbrev pub frame_short_text : (needs has : ℕ) → List ℕ
frame_short_text needs has =
    codes "frame " ++ decimal_text (pos needs) ++ codes " " ++ decimal_text (pos has)

abbrev pub refusal_text : Refusal → List ℕ
refusal_text Taken = codes "taken"
refusal_text NoName = codes "no name"
refusal_text NoInterface = codes "no interface"
refusal_text NoMethod = codes "no method"
refusal_text Hidden = codes "hidden"
refusal_text NotXpcom = codes "notxpcom"
refusal_text Opaque = codes "opaque"
refusal_text Count = codes "count"
refusal_text (Form k) = codes "form " ++ decimal_text (pos k)
refusal_text (Range k) = codes "range " ++ decimal_text (pos k)
refusal_text NotAnObject = codes "not an object"
refusal_text WrongInterface = codes "wrong interface"
refusal_text Proxy = codes "proxy"
refusal_text Word = codes "word"
refusal_text Depth = codes "depth"
refusal_text NotData = codes "not data"
refusal_text Heap = codes "heap"
refusal_text (Frame needs has) = frame_short_text needs has
