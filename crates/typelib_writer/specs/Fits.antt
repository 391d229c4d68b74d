-- What the writer asks of the parts of a library, so that their numbers fit the fields of the
-- format: each follows from a valid library.
use Rattle.std.specs.Prelude.{◌<◌, length, All, IfSome}
use Rattle.lib_model.specs.declared.contents.Iface.{Iface}
use Rattle.lib_model.specs.declared.contents.Body.{Body}
use Rattle.lib_model.specs.declared.contents.Method.{Method}
use Rattle.lib_model.specs.declared.param_types.XType.{XType}
use Rattle.lib_model.specs.declared.param_types.XType.TheVariants as types
use Rattle.lib_model.specs.declared.param_types.Elem.{Elem}
use Rattle.lib_model.specs.declared.param_types.Elem.TheVariants as elems
use Rattle.lib_model.specs.Valid.{IsInRange}

abbrev pub ElemFits : Elem → Type 0
ElemFits (elems.Plain tag) = tag < 128
ElemFits (elems.Iface number) = Unit {0}
ElemFits (elems.IidIs param) = Unit {0}

abbrev pub TypeFits : XType → Type 0
TypeFits (types.Plain tag) = tag < 128
TypeFits (types.Iface number) = Unit {0}
TypeFits (types.IidIs param) = Unit {0}
TypeFits (types.Array size len elem) = ElemFits elem
TypeFits (types.SizedString size len) = Unit {0}
TypeFits (types.SizedWString size len) = Unit {0}

pub record MethodFits (m : Method) : Type 0 where
  pub few : length m.params < 256
  pub params : All (λ p. TypeFits p.ty) m.params

pub record BodyFits (b : Body) : Type 0 where
  pub few_methods : length b.methods < 65536
  pub methods : All MethodFits b.methods
  pub few_constants : length b.constants < 65536
  pub constants : All (λ c. IsInRange c.kind c.value) b.constants

abbrev pub IfaceFits : Iface → Type 0
IfaceFits i = IfSome i.body BodyFits
