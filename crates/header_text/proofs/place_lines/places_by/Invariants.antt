use Rattle.std.proofs.Common.{◌≡◌, take}
use Rattle.std.specs.List.{flat_map}
use Rattle.header_text.specs.PlacesText.{decl_text}
use Rattle.header_text.proofs.place_lines.places_by.Given as goal

abbrev pub invariant-loop-decl : goal.invariant-loop-decl
invariant-loop-decl g l = l.text ≡ flat_map (decl_text g.C.Convention.CONV) (take l.decl-index l.decls)
