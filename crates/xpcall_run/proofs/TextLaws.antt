-- Words that are names of files, and texts that are put together.
use Rattle.std.proofs.Common.{◌≡◌, ◌≤◌, ℕ, true, pos, List, [], ◌∷◌, ◌++◌, length, map, codes, sym, append_assoc, arith, string_bytes}
use Rattle.std.specs.Prelude.{String, ◌==◌, false, nat_le}
use Rattle.std.specs.List.{list_all}
use Rattle.std.proofs.lemmas.Bool.{le-leb}
use Rattle.std.proofs.lemmas.Bool.Decides.{nat_tests}
use Rattle.std.proofs.lemmas.List.{length-map}
use Rattle.std.proofs.lemmas.List.Folds.{list_all-map}
use Rattle.xp_base.specs.Digits.{decimal_text}
use Rattle.xpcall_run.specs.Commands.{are_roots, is_file_name}
use Rattle.xpcall_run.specs.FailureText.{at_line, code_text, line_of, typelib_text}

not_none : (n : ℕ) → (n == 0) ≡ false → 1 ≤ n
not_none n is = grind (arith, nat_tests)

pub roots_few : {Z : Type 0} (names : List (String Z)) → (length names == 0) ≡ false
    → length names ≤ 65535
    → list_all (λ word. is_file_name (string_bytes word)) names ≡ are_roots (map string_bytes names)
roots_few names is few =
    let some : 1 ≤ length names = not_none (length names) is in
    let n = length-map names string_bytes in
    let a : nat_le 1 (length (map string_bytes names)) ≡ true = le-leb 1 (length (map string_bytes names)) (omega (arith, n)) in
    let b : nat_le (length (map string_bytes names)) 65535 ≡ true = le-leb (length (map string_bytes names)) 65535 (omega (arith, n)) in
    let m = list_all-map is_file_name string_bytes names in
    rw (a, b) (sym m)

-- ---- the lines of faults

pub coded_line : (name : List ℕ) (line code : ℕ) (said : List ℕ)
    → said ≡ codes ": " ++ code_text code ++ 10 ∷ []
    → at_line name line said ≡ line_of (at_line name line (codes ": " ++ code_text code))
coded_line name line code said is = rw is (sym (simp append_assoc))

pub typelib_line : (name : List ℕ) (code place : ℕ) (said : List ℕ)
    → said ≡ codes ": typelib " ++ code_text code ++ codes " at " ++ decimal_text (pos place) ++ 10 ∷ []
    → [] ++ name ++ said ≡ line_of (typelib_text name code place)
typelib_line name code place said is = rw is (sym (simp append_assoc))
