-- The parts of a valid library fit the fields of the format.
use Rattle.std.proofs.Common.{ℕ, ◌<◌, ◌≤◌, inl, inr, List, length, get_or, arith, Option, Some, None}
use Rattle.std.specs.Prelude.{All, IfSome}
use Rattle.lib_model.specs.declared.contents.Library.{Library}
use Rattle.lib_model.specs.declared.contents.Iface.{Iface}
use Rattle.lib_model.specs.declared.contents.Body.{Body}
use Rattle.lib_model.specs.declared.contents.Method.{Method}
use Rattle.lib_model.specs.declared.param_types.Param.{Param}
use Rattle.lib_model.specs.declared.param_types.XType.{XType}
use Rattle.lib_model.specs.declared.param_types.XType.TheVariants as types
use Rattle.lib_model.specs.declared.param_types.Elem.{Elem}
use Rattle.lib_model.specs.declared.param_types.Elem.TheVariants as elems
use Rattle.lib_model.specs.Valid.{IsBody, IsElem, IsMethod, IsPlainTag, IsType, IsValid, slots_in}
use Rattle.lib_model.proofs.ValidFacts.{few_methods}
use Rattle.typelib_writer.specs.Fits.{BodyFits, ElemFits, IfaceFits, MethodFits, TypeFits}

tag_fits : (tag : ℕ) → IsPlainTag tag → tag < 128
tag_fits tag (inl low) = omega arith
tag_fits tag (inr high) = omega arith

elem_fits : (count : ℕ) (params : List Param) (e : Elem) → IsElem count params e → ElemFits e
elem_fits count params (elems.Plain tag) plain = tag_fits tag plain
elem_fits count params (elems.Iface number) h = tt
elem_fits count params (elems.IidIs param) h = tt

type_fits : (count : ℕ) (params : List Param) (t : XType) → IsType count params t → TypeFits t
type_fits count params (types.Plain tag) plain = tag_fits tag plain
type_fits count params (types.Iface number) h = tt
type_fits count params (types.IidIs param) h = tt
type_fits count params (types.Array size len elem) h = elem_fits count params elem h.2
type_fits count params (types.SizedString size len) h = tt
type_fits count params (types.SizedWString size len) h = tt

method_fits : (count : ℕ) (m : Method) → IsMethod count m → MethodFits m
method_fits count m is = record {
  few = let short : length m.params ≤ 255 = is.few in omega arith;
  params = λ k d h. type_fits count m.params (get_or m.params k d).ty (is.params k d h).ty;
}

body_fits : (ifaces : List Iface) (o : Option Body) → slots_in o ≤ 250 → IfSome o (IsBody ifaces)
    → IfSome o BodyFits
body_fits ifaces None few is = tt
body_fits ifaces (Some b) few is = record {
  few_methods = omega arith;
  methods = λ k d h. method_fits (length ifaces) (get_or b.methods k d) (is.methods k d h);
  few_constants = let short : length b.constants ≤ 65535 = is.few_constants in omega arith;
  constants = λ k d h. (is.constants k d h).value;
}

pub library_fits : (lib : Library) → IsValid lib → All IfaceFits lib.ifaces
library_fits lib valid k d within =
    body_fits lib.ifaces (get_or lib.ifaces k d).body (few_methods lib k d valid within) ((valid.ifaces k d within).body)
