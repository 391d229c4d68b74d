-- Words in a row.
use Rattle.std.proofs.Common.{◌≡◌, ℕ, ◌<◌, Bool, true, false, cond, Result, IfOk, List, [], ◌∷◌, ◌++◌, length, drop, refl, sym, ap, subst, ◌∙◌, arith}
use Rattle.std.specs.Prelude.{codes, filter, map}
use Rattle.std.specs.List.{flat_map, join_with_byte}
use Rattle.std.proofs.lemmas.List.{append-nil}
use Rattle.dump_text.specs.declared.lines.Marked.{Marked}
use Rattle.dump_text.specs.Lines.{listed, marked}

-- each word behind its separator
abbrev pub behind : ℕ → List (List ℕ) → List ℕ
behind separator words = flat_map (λ word. separator ∷ word) words

-- the first word, and the others behind their separators
pub joined : (separator : ℕ) (word : List ℕ) (words : List (List ℕ)) → join_with_byte separator (word ∷ words) ≡ word ++ behind separator words
joined separator word [] = sym (append-nil word)
joined separator word (next ∷ words) = ap (λ rest. word ++ (separator ∷ rest)) (joined separator next words)

none_listed : (separator : ℕ) (words : List (List ℕ)) → behind separator words ≡ [] → codes "-" ≡ listed separator words
none_listed separator [] none = refl
none_listed separator (word ∷ words) none = cc

some_listed : (separator : ℕ) (words : List (List ℕ)) → 0 < length (behind separator words) → drop 1 (behind separator words) ≡ listed separator words
some_listed separator [] some = absurd (omega arith)
some_listed separator (word ∷ words) some = sym (joined separator word words)

-- a word beside its mark
abbrev pub as_pair : Marked → Bool × List ℕ
as_pair w = (w.set, w.word.now)

-- the words whose mark is set, each behind a separator
abbrev pub behind_marked : ℕ → List Marked → List ℕ
behind_marked separator words = flat_map (λ w. cond w.set (separator ∷ w.word.now) []) words

abbrev set_words : List Marked → List (List ℕ)
set_words words = map (λ w. w.1) (filter (λ w. w.0) (map as_pair words))

one_behind : (separator : ℕ) (word : Marked) (words : List Marked) (is : Bool) → word.set ≡ is
    → behind_marked separator words ≡ behind separator (set_words words) → behind_marked separator (word ∷ words) ≡ behind separator (set_words (word ∷ words))
one_behind separator word words true is rest = rw (is, rest) refl
one_behind separator word words false is rest = rw (is, rest) refl

behind_marked-is : (separator : ℕ) (words : List Marked) → behind_marked separator words ≡ behind separator (set_words words)
behind_marked-is separator [] = refl
behind_marked-is separator (word ∷ words) = one_behind separator word words word.set refl (behind_marked-is separator words)

pub none_marked : (separator : ℕ) (words : List Marked) → behind_marked separator words ≡ [] → codes "-" ≡ marked separator (map as_pair words)
none_marked separator words none = none_listed separator _ (sym (behind_marked-is separator words) ∙ none)

pub some_marked : (separator : ℕ) (words : List Marked) → 0 < length (behind_marked separator words) → drop 1 (behind_marked separator words) ≡ marked separator (map as_pair words)
some_marked separator words some =
    let is = behind_marked-is separator words in ap (drop 1) is ∙ some_listed separator _ (subst (λ text. 0 < length text) is some)

-- a line that was made is known by what is known of its bytes
pub made_is : {E : Type 0} (made : Result (List ℕ) E) (text known : List ℕ) → IfOk made (λ line. line ≡ text) → text ≡ known → IfOk made (λ line. line ≡ known)
made_is made text known is same = subst (λ (t : List ℕ). IfOk made (λ line. line ≡ t)) same is
