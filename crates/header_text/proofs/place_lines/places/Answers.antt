use Rattle.std.proofs.lemmas.List.Elements.{All-same}
use Rattle.header_text.specs.Placeable.{IsPlaceable}
use Rattle.header_text.proofs.PlaceLaws.{declared-placeable}
use Rattle.header_text.proofs.place_lines.places.Goals as goal

pub places_by-requires : goal.places_by-requires
places_by-requires c = All-same IsPlaceable c.as_slice-decls.result.now c.args.decls.now c.as_slice-decls.ensures (declared-placeable c.requires.0 c.args.decls.now c.requires.1)

pub places_by-requires-in-I386 : goal.places_by-requires-in-I386
places_by-requires-in-I386 c = All-same IsPlaceable c.as_slice-decls.result.now c.args.decls.now c.as_slice-decls.ensures (declared-placeable c.requires.0 c.args.decls.now c.requires.1)

pub places_by-requires-in-Aapcs64 : goal.places_by-requires-in-Aapcs64
places_by-requires-in-Aapcs64 c = All-same IsPlaceable c.as_slice-decls.result.now c.args.decls.now c.as_slice-decls.ensures (declared-placeable c.requires.0 c.args.decls.now c.requires.1)

pub places_by-requires-in-Ms64 : goal.places_by-requires-in-Ms64
places_by-requires-in-Ms64 c = All-same IsPlaceable c.as_slice-decls.result.now c.args.decls.now c.as_slice-decls.ensures (declared-placeable c.requires.0 c.args.decls.now c.requires.1)

pub places_by-requires-in-Aapcs32 : goal.places_by-requires-in-Aapcs32
places_by-requires-in-Aapcs32 c = All-same IsPlaceable c.as_slice-decls.result.now c.args.decls.now c.as_slice-decls.ensures (declared-placeable c.requires.0 c.args.decls.now c.requires.1)
