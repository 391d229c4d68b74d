-- One piece more.
use Rattle.std.proofs.Common.{◌≡◌, ℕ, suc, ◌+◌, List, ◌++◌, ap, arith}
use Rattle.big_texts.specs.Pieces.{pieces}

pub pieces_more : (piece : ℕ → List ℕ) (n : ℕ) → pieces piece n ++ piece n ≡ pieces piece (n + 1)
pieces_more piece n = let next : suc n ≡ n + 1 = omega arith in ap (pieces piece) next
