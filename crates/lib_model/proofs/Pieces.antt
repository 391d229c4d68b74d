-- A piece of a file: a text with the two lists around it, and what stands where a piece lies.
use Rattle.std.proofs.Common.{◌≡◌, ℕ, ◌+◌, ◌<◌, ◌≤◌, ◌%◌, List, [], ◌∷◌, ◌++◌, length, take, drop, length-append, append_assoc, arith, ap, sym, ◌∙◌, refl}
use Rattle.std.specs.Int.{w16, w32, from_be_bytes}
use Rattle.std.proofs.lemmas.List.{append-nil, drop_at, get_or_at, take_at}
use Rattle.std.proofs.lemmas.Nat.{from_be_bytes-to_be_bytes_2, from_be_bytes-to_be_bytes_4}
use Rattle.lib_model.specs.Emit.{four_bytes, name_text, two_bytes}
use Rattle.lib_model.specs.Denotes.{ByteStands, FlagsStand, HalfStands, TagStands, TextStands, WordStands, byte_at, half_at, word_at}
use Rattle.lib_model.specs.Valid.{AreKnownBits}

-- ---- pieces

-- the file is two lists with the text between them, which begins at place p
pub record Piece (x : List ℕ) (p : ℕ) (t : List ℕ) : Type 0 where
  pub before : List ℕ
  pub behind : List ℕ
  pub whole : x ≡ before ++ (t ++ behind)
  pub place : length before ≡ p

pub piece_whole : (x : List ℕ) → Piece x 0 x
piece_whole x = record { before = []; behind = []; whole = sym (append-nil x); place = refl }

pub piece_at : {x t : List ℕ} {p q : ℕ} → q ≡ p → Piece x p t → Piece x q t
piece_at same h = record {
  before = h.before;
  behind = h.behind;
  whole = h.whole;
  place = h.place ∙ sym same;
}

-- the two parts of a piece
pub piece_left : {x : List ℕ} {p : ℕ} (t u : List ℕ) → Piece x p (t ++ u) → Piece x p t
piece_left t u h = record {
  before = h.before;
  behind = u ++ h.behind;
  whole = h.whole ∙ ap (λ (b : List ℕ). h.before ++ b) (append_assoc t u h.behind);
  place = h.place;
}

pub piece_right : {x : List ℕ} {p q : ℕ} (t u : List ℕ)
    → q ≡ p + length t → Piece x p (t ++ u) → Piece x q u
piece_right t u ends h = record {
  before = h.before ++ t;
  behind = h.behind;
  whole =
      h.whole
      ∙ ap (λ (b : List ℕ). h.before ++ b) (append_assoc t u h.behind)
      ∙ sym (append_assoc h.before t (u ++ h.behind));
  place = omega (arith, ends, length-append h.before t, h.place);
}

pub piece_tail : {x u : List ℕ} {p q b : ℕ} → q ≡ p + 1 → Piece x p (b ∷ u) → Piece x q u
piece_tail {u = u} {b = b} ends h = piece_right (b ∷ []) u ends h

pub piece_inside : {x : List ℕ} {p : ℕ} (t : List ℕ) → Piece x p t → p + length t ≤ length x
piece_inside t h =
    omega (
      arith,
      ap length h.whole,
      length-append h.before (t ++ h.behind),
      length-append t h.behind,
      h.place,
    )

pub piece_taken : {x : List ℕ} {p : ℕ} (t : List ℕ)
    → Piece x p t → take (length t) (drop p x) ≡ t
piece_taken {p = p} t h =
    ap (λ (b : List ℕ). take (length t) (drop p b)) h.whole
    ∙ ap (take (length t)) (drop_at h.before (t ++ h.behind) p h.place)
    ∙ take_at t h.behind (length t) refl

pub piece_byte : {x u : List ℕ} {p b : ℕ} → Piece x p (b ∷ u) → byte_at x p ≡ b
piece_byte {u = u} {p = p} {b = b} h =
    ap (λ (y : List ℕ). byte_at y p) h.whole ∙ get_or_at h.before b (u ++ h.behind) 0 p h.place

-- ---- texts one after the other

-- these texts in one, and that each is a piece where the one before it ends
abbrev pub joined : List (List ℕ) → List ℕ
joined [] = []
joined (t ∷ []) = t
joined (t ∷ u ∷ ts) = t ++ joined (u ∷ ts)

abbrev pub Laid : List ℕ → ℕ → List (List ℕ) → Type 0
Laid x p [] = Unit {0}
Laid x p (t ∷ ts) = Piece x p t × Laid x (p + length t) ts

pub laid : {x : List ℕ} (p : ℕ) (ts : List (List ℕ)) → Piece x p (joined ts) → Laid x p ts
laid p [] h = tt
laid p (t ∷ []) h = (h, tt)
laid p (t ∷ u ∷ ts) h =
    let rest : List ℕ = joined (u ∷ ts)
    in (piece_left t rest h, laid (p + length t) (u ∷ ts) (piece_right t rest refl h))

-- ---- what stands where a piece lies

pub byte_stands : {x u : List ℕ} {p b : ℕ} → Piece x p (b ∷ u) → ByteStands x p b
byte_stands {u = u} {b = b} h = (omega (arith, piece_inside (b ∷ u) h), piece_byte h)

pub flags_stand : {x u : List ℕ} {p known b : ℕ}
    → AreKnownBits known b → Piece x p (b ∷ u) → FlagsStand x p known b
flags_stand {u = u} {b = b} is h =
    (omega (arith, piece_inside (b ∷ u) h), rw (piece_byte h) is.known_alone)

pub tag_stands : {x u : List ℕ} {p b tag : ℕ}
    → b % 32 ≡ tag → Piece x p (b ∷ u) → TagStands x p tag
tag_stands {u = u} {b = b} is h =
    (omega (arith, piece_inside (b ∷ u) h), ap (λ (n : ℕ). n % 32) (piece_byte h) ∙ is)

half_read : {x u : List ℕ} {p a b : ℕ}
    → Piece x p (a ∷ b ∷ u) → half_at x p ≡ from_be_bytes w16 (a ∷ b ∷ [])
half_read h =
    λ i. from_be_bytes w16 (piece_byte h i ∷ piece_byte (piece_tail refl h) i ∷ [])

pub half_stands : {x : List ℕ} {p n : ℕ}
    → n < 65536 → Piece x p (two_bytes n) → HalfStands x p n
unfolding two_bytes
half_stands {n = n} small h =
    (omega (arith, piece_inside (two_bytes n) h), half_read h ∙ from_be_bytes-to_be_bytes_2 n small)

word_read : {x u : List ℕ} {p a b c d : ℕ}
    → Piece x p (a ∷ b ∷ c ∷ d ∷ u) → word_at x p ≡ from_be_bytes w32 (a ∷ b ∷ c ∷ d ∷ [])
word_read {p = p} h =
    let second = piece_tail {q = p + 1} refl h
    in let third = piece_tail {q = p + 2} (omega arith) second
    in let fourth = piece_tail {q = p + 3} (omega arith) third
    in λ i. from_be_bytes w32
    (piece_byte h i ∷ piece_byte second i ∷ piece_byte third i ∷ piece_byte fourth i ∷ [])

pub word_stands : {x : List ℕ} {p n : ℕ}
    → n < 4294967296 → Piece x p (four_bytes n) → WordStands x p n
unfolding four_bytes
word_stands {n = n} small h = (
  omega (
    arith,
    piece_inside (four_bytes n) h,
  ),
  word_read h ∙ from_be_bytes-to_be_bytes_4 n small,
)

pub text_stands : {x : List ℕ} {p : ℕ} (name : List ℕ)
    → Piece x p (name_text name) → TextStands x p name
unfolding name_text
text_stands name h = record {
  inside = omega (arith, piece_inside (name ++ 0 ∷ []) h, length-append name (0 ∷ []));
  bytes = piece_taken name (piece_left name (0 ∷ []) h);
  ended = piece_byte (piece_right name (0 ∷ []) refl h);
}
