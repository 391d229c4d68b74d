-- The bytes of a script spell one script, or one line of them is the first that has no reading.
use Rattle.std.proofs.Common.{◌≡◌, ℕ, ◌+◌, List, [], ◌∷◌, Some, None, sym, ap, ◌∙◌, inl, inr}
use Rattle.std.specs.Str.Lines.{lines}
use Rattle.std.proofs.lemmas.Option.{none-some, same_Some}
use Rattle.call_scripts.specs.declared.script.Line.{Line}
use Rattle.call_scripts.specs.declared.script.Script.{Script}
use Rattle.call_scripts.specs.Lines.{AreRead, IsFirstUnread, IsScript}
use Rattle.line_words.specs.Words.{Word}
use Rattle.call_scripts.proofs.Laws.{one_line}

lines_once : (number : ℕ) (texts : List Word) (a b : List Line) → AreRead number texts a
    → AreRead number texts b → a ≡ b
lines_once number [] a b p q = p ∙ sym q
lines_once number (text ∷ texts) a b (inl p) (inl q) =
    lines_once (number + 1) texts a b p.1 q.1
lines_once number (text ∷ texts) a b (inl p) (inr q) =
    absurd (none-some q.0 (one_line number text None (Some q.0) p.0 q.3))
lines_once number (text ∷ texts) a b (inr p) (inl q) =
    absurd (none-some p.0 (one_line number text None (Some p.0) q.0 p.3))
lines_once number (text ∷ texts) a b (inr p) (inr q) =
    let same : p.0 ≡ q.0 = same_Some p.0 q.0 (one_line number text (Some p.0) (Some q.0) p.3 q.3) in
    p.2 ∙ (λ i. same i ∷ lines_once (number + 1) texts p.1 q.1 p.4 q.4 i) ∙ sym q.2

pub script_once : (bytes : List ℕ) (s t : Script) → IsScript bytes s → IsScript bytes t → s ≡ t
script_once bytes s t p q =
    ap (λ all. record { lines = all }) (lines_once 1 (lines bytes) s.lines t.lines p q)

unread_once : (number : ℕ) (texts : List Word) (a b : ℕ) → IsFirstUnread number texts a
    → IsFirstUnread number texts b → a ≡ b
unread_once number [] a b p q = absurd p
unread_once number (text ∷ texts) a b (inl p) (inl q) = p.0 ∙ sym q.0
unread_once number (text ∷ texts) a b (inl p) (inr q) = absurd (p.1 q.0)
unread_once number (text ∷ texts) a b (inr p) (inl q) = absurd (q.1 p.0)
unread_once number (text ∷ texts) a b (inr p) (inr q) = unread_once (number + 1) texts a b p.1 q.1

pub blame_once : (bytes : List ℕ) (a b : ℕ) → IsFirstUnread 1 (lines bytes) a
    → IsFirstUnread 1 (lines bytes) b → a ≡ b
blame_once bytes a b p q = unread_once 1 (lines bytes) a b p q

not_unread : (number : ℕ) (texts : List Word) (all : List Line) (a : ℕ) → AreRead number texts all
    → IsFirstUnread number texts a → ⊥
not_unread number [] all a p q = q
not_unread number (text ∷ texts) all a (inl p) (inl q) = q.1 (None, p.0)
not_unread number (text ∷ texts) all a (inl p) (inr q) = not_unread (number + 1) texts all a p.1 q.1
not_unread number (text ∷ texts) all a (inr p) (inl q) = q.1 (Some p.0, p.3)
not_unread number (text ∷ texts) all a (inr p) (inr q) =
    not_unread (number + 1) texts p.1 a p.4 q.1

pub not_blamed : (bytes : List ℕ) (s : Script) (a : ℕ) → IsScript bytes s
    → IsFirstUnread 1 (lines bytes) a → ⊥
not_blamed bytes s a p q = not_unread 1 (lines bytes) s.lines a p q
