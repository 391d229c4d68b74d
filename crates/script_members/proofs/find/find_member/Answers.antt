use Rattle.std.proofs.Common.{◌≡◌, None, Some, ap, sym, ◌∙◌}
use Rattle.call_model.specs.Tables.{iface_named, member_of}
use Rattle.lib_model.specs.Table.{table_of}
use Rattle.script_meaning.specs.Members.{kind_of}
use Rattle.script_members.proofs.Answered.{callable-found, few-slots, hidden-found, no-iface, no-member, notxpcom-found, opaque-found}
use Rattle.script_members.proofs.find.find_member.Goals as goal

pub returns-in_default : goal.returns-in_default
returns-in_default c =
    let table = table_of c.args.typelib.now in
    let none : iface_named table c.args.member.now.iface ≡ None =
    ap (iface_named table) (sym c.as_slice.ensures) ∙ sym c.find.ensures ∙ c.in_default.is in
    no-iface c.args.typelib.now c.args.member.now none

pub returns-in-None : goal.returns-in-None
returns-in-None c =
    let table = table_of c.args.typelib.now in
    let iface = c.in-Some.iface in
    let named : iface_named table c.args.member.now.iface ≡ Some iface =
    ap (iface_named table) (sym c.as_slice.ensures) ∙ sym c.find.ensures ∙ c.in-Some.is in
    let none : member_of table iface (kind_of c.args.member.now.kind) c.args.member.now.name ≡ None =
    (λ j. member_of table iface (sym c.kind_of.ensures j) (sym c.as_slice-2.ensures j))
    ∙ sym c.in-None.ensures.slot in
    no-member c.args.typelib.now c.args.member.now iface named none

pub returns-in-Callable : goal.returns-in-Callable
returns-in-Callable c =
    let table = table_of c.args.typelib.now in
    let iface = c.in-Some.iface in
    let named : iface_named table c.args.member.now.iface ≡ Some iface =
    ap (iface_named table) (sym c.as_slice.ensures) ∙ sym c.find.ensures ∙ c.in-Some.is in
    let m = c.in-Some-find_method.method in
    let slot : member_of table iface (kind_of c.args.member.now.kind) c.args.member.now.name ≡ Some m.slot =
    (λ j. member_of table iface (sym c.kind_of.ensures j) (sym c.as_slice-2.ensures j))
    ∙ sym c.in-Some-find_method.ensures.slot in
    record {
      is = callable-found c.args.typelib.now c.args.member.now iface named m.slot m.method slot
          c.in-Some-find_method.ensures.method (sym c.in-Callable.is ∙ c.status.ensures);
      library = c.in-Some-find_method.ensures.library;
      slot = few-slots c.args.typelib.now c.iface_count.ensures.valid c.args.member.now.iface iface
          m.slot m.method named c.in-Some-find_method.ensures.method;
    }

pub returns-in-Hidden : goal.returns-in-Hidden
returns-in-Hidden c =
    let table = table_of c.args.typelib.now in
    let iface = c.in-Some.iface in
    let named : iface_named table c.args.member.now.iface ≡ Some iface =
    ap (iface_named table) (sym c.as_slice.ensures) ∙ sym c.find.ensures ∙ c.in-Some.is in
    let m = c.in-Some-find_method.method in
    let slot : member_of table iface (kind_of c.args.member.now.kind) c.args.member.now.name ≡ Some m.slot =
    (λ j. member_of table iface (sym c.kind_of.ensures j) (sym c.as_slice-2.ensures j))
    ∙ sym c.in-Some-find_method.ensures.slot in
    hidden-found c.args.typelib.now c.args.member.now iface named m.slot m.method slot
    c.in-Some-find_method.ensures.method (sym c.in-Hidden.is ∙ c.status.ensures)

pub returns-in-NotXpcom : goal.returns-in-NotXpcom
returns-in-NotXpcom c =
    let table = table_of c.args.typelib.now in
    let iface = c.in-Some.iface in
    let named : iface_named table c.args.member.now.iface ≡ Some iface =
    ap (iface_named table) (sym c.as_slice.ensures) ∙ sym c.find.ensures ∙ c.in-Some.is in
    let m = c.in-Some-find_method.method in
    let slot : member_of table iface (kind_of c.args.member.now.kind) c.args.member.now.name ≡ Some m.slot =
    (λ j. member_of table iface (sym c.kind_of.ensures j) (sym c.as_slice-2.ensures j))
    ∙ sym c.in-Some-find_method.ensures.slot in
    notxpcom-found c.args.typelib.now c.args.member.now iface named m.slot m.method slot
    c.in-Some-find_method.ensures.method (sym c.in-NotXpcom.is ∙ c.status.ensures)

pub returns-in-Opaque : goal.returns-in-Opaque
returns-in-Opaque c =
    let table = table_of c.args.typelib.now in
    let iface = c.in-Some.iface in
    let named : iface_named table c.args.member.now.iface ≡ Some iface =
    ap (iface_named table) (sym c.as_slice.ensures) ∙ sym c.find.ensures ∙ c.in-Some.is in
    let m = c.in-Some-find_method.method in
    let slot : member_of table iface (kind_of c.args.member.now.kind) c.args.member.now.name ≡ Some m.slot =
    (λ j. member_of table iface (sym c.kind_of.ensures j) (sym c.as_slice-2.ensures j))
    ∙ sym c.in-Some-find_method.ensures.slot in
    opaque-found c.args.typelib.now c.args.member.now iface named m.slot m.method slot
    c.in-Some-find_method.ensures.method (sym c.in-Opaque.is ∙ c.status.ensures)
