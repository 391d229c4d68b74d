use Rattle.std.proofs.Common.{◌≡◌, [], ◌∷◌, ◌++◌, take, drop}
use Rattle.call_model.specs.declared.ctypes.CType.TheVariants.{Ptr}
use Rattle.header_text.specs.PlacesText.{place_words}
use Rattle.header_text.proofs.place_lines.push_places.Given as goal

-- the walk is behind the object and the arguments so far, whose places the text has
abbrev pub invariant-loop-ty : goal.invariant-loop-ty
invariant-loop-ty g l = record {
  stands : g.C.Convention.stands_for l.walk (Ptr ∷ take l.ty-index l.types);
  text : l.text ++ place_words g.C.Convention.CONV (Ptr ∷ take l.ty-index l.types) (drop l.ty-index l.types) ≡
      l.fn.text ++ place_words g.C.Convention.CONV [] (Ptr ∷ l.types);
}
