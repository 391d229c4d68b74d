-- Where the arguments of declared functions are passed, as a text.
use Rattle.std.specs.Prelude.{ℕ, List, [], ◌∷◌, ◌++◌, codes}
use Rattle.std.specs.List.{enumerate_from, flat_map}
use Rattle.std.specs.Fmt.{decimal}
use Rattle.call_model.specs.declared.ctypes.CType.{CType}
use Rattle.call_model.specs.declared.ctypes.CType.TheVariants.{Ptr}
use Rattle.call_model.specs.declared.places.Conv.{Conv}
use Rattle.call_model.specs.declared.places.Loc.{Loc}
use Rattle.call_model.specs.declared.places.Loc.TheVariants.{Gpr, Fpr, Stack}
use Rattle.call_model.specs.Placement.{place}
use Rattle.line_words.specs.Words.{Word}
use Rattle.header_model.specs.declared.decls.Decl.{Decl}
use Rattle.header_model.specs.declared.decls.DeclSlot.{DeclSlot}
use Rattle.header_model.specs.declared.decls.DeclSlot.TheVariants.{Reserved, Method}
use Rattle.header_text.specs.Header.{ended}

-- a general register, a float register or a place on the stack, by its number
abbrev pub place_word : Loc → Word
place_word (Gpr number) = codes "g" ++ decimal number
place_word (Fpr number) = codes "f" ++ decimal number
place_word (Stack at) = codes "s" ++ decimal at

-- a word for each argument behind arguments of the earlier types
abbrev pub place_words : Conv → (earlier types : List CType) → Word
place_words conv earlier [] = []
place_words conv earlier (t ∷ types) =
    codes " " ++ place_word (place conv earlier t) ++ place_words conv (earlier ++ t ∷ []) types

-- the object stands before the arguments
abbrev pub slot_words : Conv → DeclSlot → Word
slot_words conv Reserved = codes "-"
slot_words conv (Method name types) = name ++ place_words conv [] (Ptr ∷ types)

abbrev pub slot_places : Conv → ℕ × DeclSlot → Word
slot_places conv s = codes "slot " ++ decimal s.0 ++ codes " " ++ slot_words conv s.1

unfoldable pub decl_text : Conv → Decl → List ℕ
decl_text conv d =
    ended (codes "class " ++ d.name)
    ++ flat_map (λ s. ended (slot_places conv s)) (enumerate_from d.first d.slots)

unfoldable pub places_text : Conv → List Decl → List ℕ
places_text conv decls = flat_map (decl_text conv) decls
