-- The forms of lines: what is read is spelled so, and what is spelled so is read.
use Rattle.std.proofs.Common.{◌≡◌, true, eqb, ◌&&◌, [], ◌∷◌, ◌++◌, length, Some, None, refl, sym, ap, subst, ◌∙◌, inl, inr, append_assoc}
use Rattle.std.specs.Prelude.{codes}
use Rattle.std.specs.Char.{is_ascii_digit}
use Rattle.std.specs.List.{list_all}
use Rattle.std.specs.Str.{bytes_eq}
use Rattle.std.proofs.lemmas.Option.{none-some, same_Some}
use Rattle.line_words.specs.Words.{Word, after, before, cut_at}
use Rattle.line_words.proofs.Choices.{both, bound, chosen, ways}
use Rattle.line_words.proofs.Marks.{cut_first, cut_gives, cut_none, lacks, lacks_join}
use Rattle.line_words.proofs.Prefixes.{after_read, after_spelled, before_read, before_spelled, same_bytes}
use Rattle.header_model.specs.declared.lines.Line.{Line}
use Rattle.header_model.specs.declared.lines.Line.TheVariants.{Forward, Class, Public, Reserved, Method, Close}
use Rattle.header_model.specs.Lines.{IsForm, IsLine}
use Rattle.header_model.proofs.Lacking.{name_lacks}
use Rattle.header_model.specs.Words.{is_name, joined}
use Rattle.header_reader.specs.Reading.{arguments_of, class_of, form_of, head_of, line_of, method_of, name_of, reserved_of, slot_of}
use Rattle.header_reader.proofs.Lists.{arguments_read, arguments_spelled}
use Rattle.header_reader.proofs.Outcomes.{line_whole}
use Rattle.header_reader.proofs.Parts.{name_read, name_spelled, no_more}

-- ---- what is read

three : (a b d : Word) → a ++ (b ++ d) ≡ a ++ b ++ d
three a b d = sym (append_assoc a b d)

extended : (own parent : Word) → codes "class " ++ ((own ++ 32 ∷ (codes ": public " ++ parent)) ++ codes " {") ≡ codes "class " ++ own ++ codes " : public " ++ parent ++ codes " {"
extended own parent = simp append_assoc

class_read : (w : Word) (line : Line) → class_of w ≡ Some line → IsForm (codes "class " ++ (w ++ codes " {")) line
unfolding class_of
class_read w line h = elim (ways (cut_at 32 w) _ _ _ h) as (λ _. IsForm (codes "class " ++ (w ++ codes " {")) line) [
  | inl p ↦ let cut = cut_gives 32 w p.0.0 p.0.1 p.1 in
      let rest = bound (after (codes ": public ") p.0.1) _ line p.2 in
      let own = bound (name_of p.0.0) _ line rest.2 in
      let parent = bound (name_of rest.0) _ line own.2 in
      let name = name_read p.0.0 own.0 own.1 in
      let other = name_read rest.0 parent.0 parent.1 in
      let spelled : w ≡ own.0 ++ 32 ∷ (codes ": public " ++ parent.0) =
      cut.0 ∙ (ap (λ v. p.0.0 ++ 32 ∷ v) (after_read (codes ": public ") p.0.1 rest.0 rest.1 ∙ ap (λ v. codes ": public " ++ v) other.0) ∙ ap (λ v. v ++ 32 ∷ (codes ": public " ++ parent.0)) name.0) in
      subst (λ l. IsForm (codes "class " ++ (w ++ codes " {")) l) (same_Some _ line parent.2)
      (ap (λ v. codes "class " ++ (v ++ codes " {")) spelled ∙ extended own.0 parent.0, name.1, other.1)
  | inr p ↦ let own = bound (name_of w) _ line p.1 in
      let name = name_read w own.0 own.1 in
      subst (λ l. IsForm (codes "class " ++ (w ++ codes " {")) l) (same_Some _ line own.2)
      (ap (λ v. codes "class " ++ (v ++ codes " {")) name.0 ∙ three (codes "class ") own.0 (codes " {"), name.1)
]

head_read : (w : Word) (line : Line) → head_of w ≡ Some line → IsForm (codes "class " ++ w) line
unfolding head_of
head_read w line h = elim (ways (cut_at 59 w) _ _ _ h) as (λ _. IsForm (codes "class " ++ w) line) [
  | inl p ↦ let cut = cut_gives 59 w p.0.0 p.0.1 p.1 in
      elim (chosen (is_name p.0.0 && eqb (length p.0.1) 0) _ _ _ p.2) as (λ _. IsForm (codes "class " ++ w) line) [
        | inl q ↦ let tests = both (is_name p.0.0) (eqb (length p.0.1) 0) q.0 in
            let spelled : w ≡ p.0.0 ++ codes ";" = cut.0 ∙ ap (λ v. p.0.0 ++ 59 ∷ v) (no_more p.0.1 tests.1) in
            subst (λ l. IsForm (codes "class " ++ w) l) (same_Some Forward line q.1)
            (p.0.0, ap (λ v. codes "class " ++ v) spelled ∙ three (codes "class ") p.0.0 (codes ";"), tests.0)
        | inr q ↦ absurd (none-some line q.1)
      ]
  | inr p ↦ let head = bound (before (codes " {") w) class_of line p.1 in
      subst (λ v. IsForm (codes "class " ++ v) line) (sym (before_read (codes " {") w head.0 head.1)) (class_read head.0 line head.2)
]

reserved_read : (w : Word) (line : Line) → reserved_of w ≡ Some line → IsForm (codes "  virtual void xpcall_reserved_" ++ w) line
unfolding reserved_of
reserved_read w line h =
    let number = bound (before (codes "() = 0;") w) _ line h in
    elim (chosen (list_all is_ascii_digit number.0) _ _ _ number.2) as (λ _. IsForm (codes "  virtual void xpcall_reserved_" ++ w) line) [
      | inl p ↦ subst (λ l. IsForm (codes "  virtual void xpcall_reserved_" ++ w) l) (same_Some _ line p.1)
          (ap (λ v. codes "  virtual void xpcall_reserved_" ++ v) (before_read (codes "() = 0;") w number.0 number.1) ∙ three (codes "  virtual void xpcall_reserved_") number.0 (codes "() = 0;"), p.0)
      | inr p ↦ absurd (none-some line p.1)
    ]

called : (own args : Word) → codes "  virtual nsresult " ++ (own ++ 40 ∷ (args ++ codes ") = 0;")) ≡ codes "  virtual nsresult " ++ own ++ codes "(" ++ args ++ codes ") = 0;"
called own args = simp append_assoc

method_read : (w : Word) (line : Line) → method_of w ≡ Some line → IsForm (codes "  virtual nsresult " ++ w) line
unfolding method_of
method_read w line h =
    let cut = bound (cut_at 40 w) _ line h in
    let parts = cut_gives 40 w cut.0.0 cut.0.1 cut.1 in
    let own = bound (name_of cut.0.0) _ line cut.2 in
    let name = name_read cut.0.0 own.0 own.1 in
    let args = bound (before (codes ") = 0;") cut.0.1) _ line own.2 in
    let types = bound (arguments_of args.0) _ line args.2 in
    let all = arguments_read args.0 types.0 types.1 in
    let spelled : w ≡ own.0 ++ 40 ∷ (joined all.0 ++ codes ") = 0;") =
    parts.0 ∙ (ap (λ v. v ++ 40 ∷ cut.0.1) name.0 ∙ ap (λ v. own.0 ++ 40 ∷ v) (before_read (codes ") = 0;") cut.0.1 args.0 args.1 ∙ ap (λ v. v ++ codes ") = 0;") all.1)) in
    subst (λ l. IsForm (codes "  virtual nsresult " ++ w) l) (same_Some _ line types.2)
    (all.0, ap (λ v. codes "  virtual nsresult " ++ v) spelled ∙ called own.0 (joined all.0), name.1, all.2)

slot_read : (w : Word) (line : Line) → slot_of w ≡ Some line → IsForm w line
unfolding slot_of
slot_read w line h = elim (ways (after (codes "  virtual void xpcall_reserved_") w) _ _ _ h) as (λ _. IsForm w line) [
  | inl p ↦ subst (λ v. IsForm v line) (sym (after_read (codes "  virtual void xpcall_reserved_") w p.0 p.1)) (reserved_read p.0 line p.2)
  | inr p ↦ let rest = bound (after (codes "  virtual nsresult ") w) method_of line p.1 in
      subst (λ v. IsForm v line) (sym (after_read (codes "  virtual nsresult ") w rest.0 rest.1)) (method_read rest.0 line rest.2)
]

pub form_read : (w : Word) (line : Line) → form_of w ≡ Some line → IsForm w line
unfolding form_of
form_read w line h = elim (chosen (bytes_eq w (codes " public:")) _ _ _ h) as (λ _. IsForm w line) [
  | inl p ↦ subst (λ l. IsForm w l) (same_Some Public line p.1) (same_bytes w (codes " public:") p.0)
  | inr p ↦ elim (chosen (bytes_eq w (codes "};")) _ _ _ p.1) as (λ _. IsForm w line) [
    | inl q ↦ subst (λ l. IsForm w l) (same_Some Close line q.1) (same_bytes w (codes "};") q.0)
    | inr q ↦ elim (ways (after (codes "class ") w) _ _ _ q.1) as (λ _. IsForm w line) [
      | inl r ↦ subst (λ v. IsForm v line) (sym (after_read (codes "class ") w r.0 r.1)) (head_read r.0 line r.2)
      | inr r ↦ slot_read w line r.1
    ]
  ]
]

-- ---- what is spelled

-- what is behind `class ` is the rest of its line
class_line : (w : Word) → form_of (codes "class " ++ w) ≡ head_of w
unfolding form_of
class_line w = rw (after_spelled (codes "class ") w) refl

slot_line : (w : Word) → form_of (codes "  virtual " ++ w) ≡ slot_of (codes "  virtual " ++ w)
unfolding form_of after
slot_line w = refl

reserved_line : (w : Word) → slot_of (codes "  virtual void xpcall_reserved_" ++ w) ≡ reserved_of w
unfolding slot_of
reserved_line w = rw (after_spelled (codes "  virtual void xpcall_reserved_") w) refl

not_reserved : (w : Word) → after (codes "  virtual void xpcall_reserved_") (codes "  virtual nsresult " ++ w) ≡ None
unfolding after
not_reserved w = refl

method_line : (w : Word) → slot_of (codes "  virtual nsresult " ++ w) ≡ method_of w
unfolding slot_of
method_line w = rw (not_reserved w, after_spelled (codes "  virtual nsresult ") w) refl

head_class : (w : Word) → lacks 59 w ≡ true → head_of (w ++ codes " {") ≡ class_of w
unfolding head_of
head_class w free = rw (cut_none 59 (w ++ codes " {") (lacks_join 59 w (codes " {") free refl), before_spelled (codes " {") w) refl

pub form_spelled : (w : Word) (line : Line) → IsForm w line → form_of w ≡ Some line
unfolding form_of head_of class_of reserved_of method_of
form_spelled w Public h = rw h refl
form_spelled w Close h = rw h refl
form_spelled w Forward (name, is, named) =
    let spelled : w ≡ codes "class " ++ (name ++ 59 ∷ []) = is ∙ sym (three (codes "class ") name (codes ";")) in
    rw (spelled, class_line (name ++ 59 ∷ []), cut_first 59 name [] (name_lacks 59 name refl named), named) refl
form_spelled w (Class name None) (is, named) =
    let spelled : w ≡ codes "class " ++ (name ++ codes " {") = is ∙ sym (three (codes "class ") name (codes " {")) in
    rw (spelled, class_line (name ++ codes " {"), head_class name (name_lacks 59 name refl named), cut_none 32 name (name_lacks 32 name refl named), name_spelled name named) refl
form_spelled w (Class name (Some parent)) (is, named, other) =
    let inner : Word = name ++ 32 ∷ (codes ": public " ++ parent) in
    let free : lacks 59 inner ≡ true = lacks_join 59 name (32 ∷ (codes ": public " ++ parent)) (name_lacks 59 name refl named) (lacks_join 59 (codes " : public ") parent refl (name_lacks 59 parent refl other)) in
    let spelled : w ≡ codes "class " ++ (inner ++ codes " {") = is ∙ sym (extended name parent) in
    rw (
      spelled,
      class_line (inner ++ codes " {"),
      head_class inner free,
      cut_first 32 name (codes ": public " ++ parent) (name_lacks 32 name refl named),
      after_spelled (codes ": public ") parent,
      name_spelled name named,
      name_spelled parent other,
    ) refl
form_spelled w (Reserved number) (is, digits) =
    let spelled : w ≡ codes "  virtual void xpcall_reserved_" ++ (number ++ codes "() = 0;") = is ∙ sym (three (codes "  virtual void xpcall_reserved_") number (codes "() = 0;")) in
    rw (spelled, slot_line (codes "void xpcall_reserved_" ++ (number ++ codes "() = 0;")), reserved_line (number ++ codes "() = 0;"), before_spelled (codes "() = 0;") number, digits) refl
form_spelled w (Method name types) (args, is, named, all) =
    let rest : Word = joined args ++ codes ") = 0;" in
    let spelled : w ≡ codes "  virtual nsresult " ++ (name ++ 40 ∷ rest) = is ∙ sym (called name (joined args)) in
    rw (
      spelled,
      slot_line (codes "nsresult " ++ (name ++ 40 ∷ rest)),
      method_line (name ++ 40 ∷ rest),
      cut_first 40 name rest (name_lacks 40 name refl named),
      name_spelled name named,
      before_spelled (codes ") = 0;") (joined args),
      arguments_spelled args types all,
    ) refl

-- ---- lines

pub line_read : (w : Word) (line : Line) → line_of w ≡ Some line → IsLine w line
unfolding line_of
line_read w line h =
    let text = bound (before (10 ∷ []) w) form_of line h in (text.0, before_read (10 ∷ []) w text.0 text.1, form_read text.0 line text.2)

pub line_spelled : (w : Word) (line : Line) → IsLine w line → line_of w ≡ Some line
line_spelled w line (text, is, form) = rw (is, line_whole text) (form_spelled text line form)
