-- How long the emitted file is.
use Rattle.std.proofs.Common.{◌≡◌, ℕ, suc, ◌+◌, ◌*◌, List, [], ◌∷◌, length, arith, refl, ◌∙◌, length-append}
use Rattle.std.specs.Prelude.{All}
use Rattle.lib_model.specs.declared.contents.Library.{Library}
use Rattle.lib_model.specs.declared.contents.Iface.{Iface}
use Rattle.lib_model.specs.Emit.{directory_text, emit, entry_text, header_text, part_size, placed, pool_place, pool_text}
use Rattle.lib_model.specs.Valid.{IsValid}
use Rattle.lib_model.proofs.Sizes.{length-entry_text, length-four_bytes, length-two_bytes}

-- entries, one after the other, have 28 bytes each
length-entries : (k : ℕ) (xs : List Iface) → All (λ i. length i.iid ≡ 16) xs
    → length (placed entry_text part_size k xs) ≡ 28 * length xs
length-entries k [] iids = refl
length-entries k (x ∷ xs) iids =
    length-append (entry_text k x) (placed entry_text part_size (k + part_size x) xs)
    ∙ omega (
      arith,
      length-entry_text k x (iids 0 x (omega arith)),
      length-entries (k + part_size x) xs (λ j d h. iids (suc j) d (omega (arith, h))),
    )

pub length_directory : (lib : Library) → IsValid lib
    → length (directory_text lib.ifaces) ≡ 28 * length lib.ifaces
unfolding directory_text
length_directory lib valid = length-entries 1 lib.ifaces (λ j d h. (valid.ifaces j d h).iid)

pub length-header_text : (count pool_len : ℕ) → length (header_text count pool_len) ≡ 32
unfolding header_text
length-header_text count pool_len = simp (length-append, length-four_bytes, length-two_bytes) refl

pub length_emit : (lib : Library) → IsValid lib
    → length (emit lib) ≡ pool_place (length lib.ifaces) + length (pool_text lib.ifaces)
unfolding emit
length_emit lib valid =
    simp (length-append, length-header_text) (omega (arith, length_directory lib valid))
