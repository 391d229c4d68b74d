-- The script of `big` is a script.
use Rattle.std.proofs.Common.{◌≡◌, ℕ, zero, suc, ◌+◌, ◌*◌, ◌<◌, ◌≤◌, ◌&&◌, nat_le, Bool, true, false, List, [], ◌∷◌, ◌++◌, length, Option, Some, None, refl, sym, ap, subst, ◌∙◌, inr, arith, append_assoc, append-nil, length-append, codes}
use Rattle.std.proofs.lemmas.Bool.{and_parts, leb-true}
use Rattle.std.proofs.lemmas.Slice.Eq.{bytes_eq-Decides}
use Rattle.std.specs.Fmt.{digits}
use Rattle.std.specs.List.{AllByRecursion}
use Rattle.std.specs.Str.{bytes_eq}
use Rattle.std.specs.Str.Lines.{lines, strip_carriage_return}
use Rattle.xp_base.specs.declared.limits.TheConstants.{MAX_TEXT}
use Rattle.line_words.specs.Words as w
use Rattle.line_words.specs.Words.{Word}
use Rattle.line_words.proofs.Marks.{cut_first, lacks}
use Rattle.call_scripts.specs.declared.script.Line.{Line}
use Rattle.call_scripts.specs.declared.script.Script.{Script}
use Rattle.call_scripts.specs.Lines.{AreRead, IsScript}
use Rattle.call_scripts.specs.Reading as r
use Rattle.call_scripts.specs.Reading.{line_of}
use Rattle.call_scripts.proofs.Laws.{line_read}
use Rattle.call_scripts.proofs.TextLines.{lines_cut}
use Rattle.big_texts.specs.Idl.{iface_name}
use Rattle.big_texts.specs.Pieces.{line, pieces}
use Rattle.big_texts.specs.Script.{big_script, call_text, made_text, reply_text}
use Rattle.big_laws.proofs.Below.{same_at}

-- ---- lines that are read

-- the line has an act
abbrev is_act : Option (Option Line) → Bool
is_act (Some (Some l)) = true
is_act (Some None) = false
is_act None = false

-- the text is one line, and has an act at each number
abbrev is_read : ℕ → Word → Bool
is_read number text =
    lacks 10 text && (bytes_eq (strip_carriage_return text) text && is_act (line_of number text))

abbrev AreGood : List Word → Type 0
AreGood texts = AllByRecursion (λ text. (number : ℕ) → is_read number text ≡ true) texts

abbrev ended : List Word → Word
ended [] = []
ended (text ∷ texts) = line text ++ ended texts

the_lines : (texts : List Word) → AreGood texts → lines (ended texts) ≡ texts
the_lines [] good = refl
the_lines (text ∷ texts) good =
    let parts = and_parts (lacks 10 text) _ (good.0 0) in
    let more = and_parts (bytes_eq (strip_carriage_return text) text) _ parts.1 in
    let plain : strip_carriage_return text ≡ text =
    (bytes_eq-Decides (strip_carriage_return text) text).0 more.0 in
    let cut : (text ++ 10 ∷ []) ++ ended texts ≡ text ++ 10 ∷ ended texts =
    append_assoc text (10 ∷ []) (ended texts) in
    ap lines cut
    ∙ lines_cut (text ++ 10 ∷ ended texts) text (ended texts) (cut_first 10 text (ended texts) parts.0)
    ∙ ap (λ t. t ∷ lines (ended texts)) plain ∙ ap (λ ts. text ∷ ts) (the_lines texts good.1)

one_read : (number : ℕ) (text : Word) (o : Option (Option Line)) → line_of number text ≡ o
    → is_act o ≡ true → (l : Line) × (line_of number text ≡ Some (Some l))
one_read number text (Some (Some l)) is act = (l, is)
one_read number text (Some None) is act = cc
one_read number text None is act = cc

all_read : (texts : List Word) (number : ℕ) → AreGood texts
    → (all : List Line) × AreRead number texts all
all_read [] number good = ([], refl)
all_read (text ∷ texts) number good =
    let parts = and_parts (lacks 10 text) _ (good.0 number) in
    let more = and_parts (bytes_eq (strip_carriage_return text) text) _ parts.1 in
    let one = one_read number text (line_of number text) refl more.1 in
    let rest = all_read texts (number + 1) good.1 in (
      one.0 ∷ rest.0,
      inr (one.0, rest.0, refl, line_read number text (Some one.0) one.1, rest.1),
    )

-- ---- the lines of the script

abbrev made_from : (i n : ℕ) → List Word
made_from i zero = []
made_from i (suc n) = reply_text i ∷ call_text i ∷ made_from (suc i) n

from_made : (n i : ℕ) → pieces made_text i ++ ended (made_from i n) ≡ pieces made_text (i + n)
from_made zero i =
    let same : i ≡ i + 0 = omega arith in
    append-nil (pieces made_text i) ∙ ap (pieces made_text) same
from_made (suc n) i =
    let same : suc i + n ≡ i + suc n = omega arith in
    let rest = ended (made_from (suc i) n) in
    ap (λ t. pieces made_text i ++ t)
    (sym (append_assoc (line (reply_text i)) (line (call_text i)) rest))
    ∙ sym (append_assoc (pieces made_text i) (made_text i) rest)
    ∙ from_made n (suc i) ∙ ap (pieces made_text) same

object_good : (i : ℕ) → i < 250 → (number : ℕ) → is_read number (codes "object o " ++ iface_name i) ≡ true
unfolding digits r.name_of r.digits_of r.decimal_of r.number_of r.method_of r.member_of r.value_of r.target_of r.out_of r.arg_of r.term_of r.sum_of r.set_of r.fill_of r.item_of r.act_of r.words_line_of r.line_of w.after w.before w.cut_at
object_good i within number =
    same_at (λ k. is_read number (codes "object o " ++ iface_name k)) (λ k. true) 250 refl i within

reply_good : (i : ℕ) → i < 250 → (number : ℕ) → is_read number (reply_text i) ≡ true
unfolding digits r.name_of r.digits_of r.decimal_of r.number_of r.method_of r.member_of r.value_of r.target_of r.out_of r.arg_of r.term_of r.sum_of r.set_of r.fill_of r.item_of r.act_of r.words_line_of r.line_of w.after w.before w.cut_at
reply_good i within number =
    same_at (λ k. is_read number (reply_text k)) (λ k. true) 250 refl i within

call_good : (i : ℕ) → i < 250 → (number : ℕ) → is_read number (call_text i) ≡ true
unfolding digits r.name_of r.digits_of r.decimal_of r.number_of r.method_of r.member_of r.value_of r.target_of r.out_of r.arg_of r.term_of r.sum_of r.set_of r.fill_of r.item_of r.act_of r.words_line_of r.line_of w.after w.before w.cut_at
call_good i within number =
    same_at (λ k. is_read number (call_text k)) (λ k. true) 250 refl i within

made_good : (n i : ℕ) → i + n ≤ 250 → AreGood (made_from i n)
made_good zero i within = tt
made_good (suc n) i within = (
  reply_good i (omega (arith, within)),
  (
    call_good i (omega (arith, within)),
    made_good n (suc i) (omega (arith, within)),
  ),
)

pub script_read : (last : ℕ) → last ≤ 249 → (script : Script) × IsScript (big_script last) script
script_read last few =
    let texts : List Word = (codes "object o " ++ iface_name last) ∷ made_from 0 (last + 1) in
    let good : AreGood texts =
    (object_good last (omega (arith, few)), made_good (last + 1) 0 (omega (arith, few))) in
    let same : 0 + (last + 1) ≡ last + 1 = omega arith in
    let whole : ended texts ≡ big_script last =
    ap (λ t. line (codes "object o " ++ iface_name last) ++ t)
    (from_made (last + 1) 0 ∙ ap (pieces made_text) same) in
    let read = all_read texts 1 good in
    let cut : lines (big_script last) ≡ texts = sym (ap lines whole) ∙ the_lines texts good in
    (record { lines = read.0 }, subst (λ ts. AreRead 1 ts read.0) (sym cut) read.1)

made_short : (n : ℕ) → n ≤ 250 → length (pieces made_text n) ≤ 200 * n
unfolding digits
made_short zero few = omega arith
made_short (suc n) few =
    let one : length (made_text n) ≤ 200 =
    leb-true (length (made_text n)) 200
    (same_at (λ k. nat_le (length (made_text k)) 200) (λ k. true) 250 refl n (omega (arith, few))) in
    omega (
      arith,
      length-append (pieces made_text n) (made_text n),
      made_short n (omega (arith, few)),
      one,
    )

pub script_short : (last : ℕ) → last ≤ 249 → length (big_script last) ≤ MAX_TEXT
unfolding digits
script_short last few =
    let one : length (line (codes "object o " ++ iface_name last)) ≤ 200 =
    leb-true (length (line (codes "object o " ++ iface_name last))) 200
    (same_at (λ k. nat_le (length (line (codes "object o " ++ iface_name k))) 200) (λ k. true) 250
    refl last (omega (arith, few))) in
    omega (
      arith,
      few,
      one,
      made_short (last + 1) (omega (arith, few)),
      length-append (line (codes "object o " ++ iface_name last)) (pieces made_text (last + 1)),
    )
