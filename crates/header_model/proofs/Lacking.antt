-- Which bytes the words and lines of a header have not, so that a mark in one is the first of its
-- kind.
use Rattle.std.proofs.Common.{◌≡◌, ℕ, Bool, true, false, not, eqb, ltb, leb, ◌&&◌, List, [], ◌∷◌, ◌++◌, length, get_or, Some, None, refl, inl, inr}
use Rattle.std.specs.Prelude.{codes}
use Rattle.std.specs.Char.{is_ascii_digit}
use Rattle.std.specs.List.{list_all, flat_map}
use Rattle.call_model.specs.declared.ctypes.CType.{CType}
use Rattle.call_model.specs.declared.ctypes.CType.TheVariants as c
use Rattle.line_words.specs.Words.{Each, Word}
use Rattle.line_words.proofs.Choices.{both}
use Rattle.line_words.proofs.Marks.{all_lack, lacks, lacks_join}
use Rattle.header_model.specs.declared.limits.TheConstants.{MAX_NAME}
use Rattle.header_model.specs.declared.lines.Line.{Line}
use Rattle.header_model.specs.declared.lines.Line.TheVariants.{Forward, Class, Public, Reserved, Method, Close}
use Rattle.header_model.specs.Lines.{IsForm}
use Rattle.header_model.specs.Words.{IsArgument, IsName, IsPointer, IsType, is_name_byte, joined, type_word}

pub name_lacks : (mark : ℕ) (w : Word) → is_name_byte mark ≡ false → IsName w → lacks mark w ≡ true
name_lacks mark w free h =
    let sized : Bool = ltb 0 (length w) && leb (length w) MAX_NAME in
    let parts = both (sized && list_all is_name_byte w) (not (is_ascii_digit (get_or w 0 0))) h in
    all_lack is_name_byte mark w free (both sized (list_all is_name_byte w) parts.0).1

-- a mark that stands in no name, and is neither `*` nor `&`
pub record IsApart (mark : ℕ) : Type 0 where
  pub name : is_name_byte mark ≡ false
  pub star : eqb mark 42 ≡ false
  pub ampersand : lacks mark (codes "&") ≡ true

pub pointer_lacks : (mark : ℕ) (w : Word) → IsApart mark → IsPointer w → lacks mark w ≡ true
pointer_lacks mark w free (name, marks, is, named, inl h) =
    rw is (lacks_join mark name marks (name_lacks mark name free.name named) (all_lack (λ b. eqb b 42) mark marks free.star h.1))
pointer_lacks mark w free (name, marks, is, named, inr h) =
    rw (is, h) (lacks_join mark name (codes "&") (name_lacks mark name free.name named) free.ampersand)

pub type_lacks : (mark : ℕ) (w : Word) (t : CType) → IsApart mark → lacks mark (codes " ") ≡ true → IsType w t → lacks mark w ≡ true
type_lacks mark w c.Ptr free blank (inl pointer) = pointer_lacks mark w free pointer
type_lacks mark w c.Ptr free blank (inr (more, is, pointer)) =
    rw is (lacks_join mark (codes "const" ++ codes " ") more (lacks_join mark (codes "const") (codes " ") (name_lacks mark (codes "const") free.name refl) blank) (pointer_lacks mark more free pointer))
type_lacks mark w c.I8 free blank h = rw h (name_lacks mark (type_word c.I8) free.name refl)
type_lacks mark w c.I16 free blank h = rw h (name_lacks mark (type_word c.I16) free.name refl)
type_lacks mark w c.I32 free blank h = rw h (name_lacks mark (type_word c.I32) free.name refl)
type_lacks mark w c.I64 free blank h = rw h (name_lacks mark (type_word c.I64) free.name refl)
type_lacks mark w c.U8 free blank h = rw h (name_lacks mark (type_word c.U8) free.name refl)
type_lacks mark w c.U16 free blank h = rw h (name_lacks mark (type_word c.U16) free.name refl)
type_lacks mark w c.U32 free blank h = rw h (name_lacks mark (type_word c.U32) free.name refl)
type_lacks mark w c.U64 free blank h = rw h (name_lacks mark (type_word c.U64) free.name refl)
type_lacks mark w c.F32 free blank h = rw h (name_lacks mark (type_word c.F32) free.name refl)
type_lacks mark w c.F64 free blank h = rw h (name_lacks mark (type_word c.F64) free.name refl)
type_lacks mark w c.Bool free blank h = rw h (name_lacks mark (type_word c.Bool) free.name refl)
type_lacks mark w c.Char free blank h = rw h (name_lacks mark (type_word c.Char) free.name refl)
type_lacks mark w c.WChar free blank h = rw h (name_lacks mark (type_word c.WChar) free.name refl)

pub argument_lacks : (mark : ℕ) (w : Word) (t : CType) → IsApart mark → lacks mark (codes " ") ≡ true → IsArgument w t → lacks mark w ≡ true
argument_lacks mark w t free blank (text, name, is, typed, named) =
    rw is (lacks_join mark (text ++ codes " ") name (lacks_join mark text (codes " ") (type_lacks mark text t free blank typed) blank) (name_lacks mark name free.name named))

pub arguments_lack : (mark : ℕ) (args : List Word) (types : List CType) → IsApart mark → lacks mark (codes ", ") ≡ true → lacks mark (codes " ") ≡ true
    → Each IsArgument args types → lacks mark (joined args) ≡ true
arguments_lack mark [] types free sep blank h = refl
arguments_lack mark (w ∷ ws) [] free sep blank h = absurd h
arguments_lack mark (w ∷ ws) (t ∷ ts) free sep blank h =
    lacks_join mark w (flat_map (λ v. codes ", " ++ v) ws) (argument_lacks mark w t free blank h.0) (later ws ts h.1)
  where
    later : (ws : List Word) (ts : List CType) → Each IsArgument ws ts → lacks mark (flat_map (λ v. codes ", " ++ v) ws) ≡ true
    later [] ts h = refl
    later (v ∷ vs) [] h = absurd h
    later (v ∷ vs) (t ∷ ts) h =
        lacks_join mark (codes ", " ++ v) (flat_map (λ v. codes ", " ++ v) vs) (lacks_join mark (codes ", ") v sep (argument_lacks mark v t free blank h.0)) (later vs ts h.1)

feed : IsApart 10
feed = record { name = refl; star = refl; ampersand = refl }

pub form_lacks : (w : Word) (line : Line) → IsForm w line → lacks 10 w ≡ true
form_lacks w Public h = rw h refl
form_lacks w Close h = rw h refl
form_lacks w Forward (name, is, named) = rw is (lacks_join 10 (codes "class " ++ name) (codes ";") (lacks_join 10 (codes "class ") name refl (name_lacks 10 name refl named)) refl)
form_lacks w (Class name None) (is, named) =
    rw is (lacks_join 10 (codes "class " ++ name) (codes " {") (lacks_join 10 (codes "class ") name refl (name_lacks 10 name refl named)) refl)
form_lacks w (Class name (Some parent)) (is, named, other) =
    let one = lacks_join 10 (codes "class ") name refl (name_lacks 10 name refl named) in
    let two = lacks_join 10 (codes "class " ++ name) (codes " : public ") one refl in
    let both_names = lacks_join 10 (codes "class " ++ name ++ codes " : public ") parent two (name_lacks 10 parent refl other) in
    rw is (lacks_join 10 (codes "class " ++ name ++ codes " : public " ++ parent) (codes " {") both_names refl)
form_lacks w (Reserved number) (is, digits) =
    let one = lacks_join 10 (codes "  virtual void xpcall_reserved_") number refl (all_lack is_ascii_digit 10 number refl digits) in
    rw is (lacks_join 10 (codes "  virtual void xpcall_reserved_" ++ number) (codes "() = 0;") one refl)
form_lacks w (Method name types) (args, is, named, all) =
    let one = lacks_join 10 (codes "  virtual nsresult ") name refl (name_lacks 10 name refl named) in
    let two = lacks_join 10 (codes "  virtual nsresult " ++ name) (codes "(") one refl in
    let three = lacks_join 10 (codes "  virtual nsresult " ++ name ++ codes "(") (joined args) two (arguments_lack 10 args types feed refl refl all) in
    rw is (lacks_join 10 (codes "  virtual nsresult " ++ name ++ codes "(" ++ joined args) (codes ") = 0;") three refl)
