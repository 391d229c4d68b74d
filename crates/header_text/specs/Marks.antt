-- What is written before a member.
use Rattle.std.specs.Prelude.{false}
use Rattle.idl_meaning.specs.declared.scope.ScopeBody.{ScopeBody}
use Rattle.idl_meaning.specs.declared.scope.ScopeBody.TheVariants as body
use Rattle.header_text.specs.declared.slot_lines.Marks.{Marks}

abbrev pub marks_of : ScopeBody → Marks
marks_of (body.Constant of value) =
    record { hidden = false; notxpcom = false; argc = false; context = false }
marks_of (body.Attribute hidden notxpcom context readonly ty) =
    record { hidden = hidden; notxpcom = notxpcom; argc = false; context = context }
marks_of (body.Method hidden notxpcom argc context returns params) =
    record { hidden = hidden; notxpcom = notxpcom; argc = argc; context = context }
