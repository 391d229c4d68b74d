-- Words that were added one by one.
use Rattle.std.proofs.Common.{◌≡◌, ℕ, List, [], ◌∷◌, ◌++◌, sym, ap, ◌∙◌, append_assoc}
use Rattle.std.proofs.lemmas.List.{append-nil}
use Rattle.dump_text.specs.Lines.{line, spaced}
use Rattle.dump_text.specs.declared.lines.TheConstants.{LF, SPACE}
use Rattle.dump_text.proofs.LineLaws.{joined}

regroup : (a b c d e : List ℕ) → (((a ++ b) ++ c) ++ d) ++ e ≡ a ++ (b ++ (c ++ (d ++ e)))
regroup a b c d e = simp append_assoc

regroup_more : (t a b c d e f g : List ℕ) → ((((((t ++ a) ++ b) ++ c) ++ d) ++ e) ++ f) ++ g ≡ t ++ (a ++ (b ++ (c ++ (d ++ (e ++ (f ++ (g ++ [])))))))
regroup_more t a b c d e f g = simp (append_assoc, append-nil)

-- a line of words that were added one by one
pub line_of_four : (a b c d : List ℕ) (rest : List (List ℕ)) → ((((a ++ SPACE ∷ b) ++ SPACE ∷ c) ++ SPACE ∷ d) ++ spaced rest) ++ LF ∷ [] ≡ line (a ∷ b ∷ c ∷ d ∷ rest)
line_of_four a b c d rest =
    ap (λ t. t ++ LF ∷ []) (regroup a (SPACE ∷ b) (SPACE ∷ c) (SPACE ∷ d) (spaced rest))
    ∙ ap (λ more. (a ++ (SPACE ∷ (b ++ (SPACE ∷ (c ++ (SPACE ∷ more)))))) ++ LF ∷ []) (sym (joined SPACE d rest))

pub line_of_five : (a b c d e : List ℕ) (rest : List (List ℕ)) → ((((a ++ SPACE ∷ b) ++ SPACE ∷ c) ++ SPACE ∷ d) ++ SPACE ∷ e) ++ (spaced rest ++ LF ∷ []) ≡ line (a ∷ b ∷ c ∷ d ∷ e ∷ rest)
line_of_five a b c d e rest =
    append_assoc (((a ++ SPACE ∷ b) ++ SPACE ∷ c) ++ SPACE ∷ d) (SPACE ∷ e) (spaced rest ++ LF ∷ [])
    ∙ ap (λ t. (((a ++ SPACE ∷ b) ++ SPACE ∷ c) ++ SPACE ∷ d) ++ t) (sym (append_assoc (SPACE ∷ e) (spaced rest) (LF ∷ [])))
    ∙ sym (append_assoc (((a ++ SPACE ∷ b) ++ SPACE ∷ c) ++ SPACE ∷ d) (spaced (e ∷ rest)) (LF ∷ []))
    ∙ line_of_four a b c d (e ∷ rest)

-- seven words that were added one by one
pub seven_spaced : (text a b c d e f g : List ℕ) → ((((((text ++ SPACE ∷ a) ++ SPACE ∷ b) ++ SPACE ∷ c) ++ SPACE ∷ d) ++ SPACE ∷ e) ++ SPACE ∷ f) ++ SPACE ∷ g ≡ text ++ spaced (a ∷ b ∷ c ∷ d ∷ e ∷ f ∷ g ∷ [])
seven_spaced text a b c d e f g = regroup_more text (SPACE ∷ a) (SPACE ∷ b) (SPACE ∷ c) (SPACE ∷ d) (SPACE ∷ e) (SPACE ∷ f) (SPACE ∷ g)
