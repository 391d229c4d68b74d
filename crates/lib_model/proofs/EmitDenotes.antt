-- The bytes that are emitted for a valid library denote it, where they are no more than a typelib
-- may have.
use Rattle.std.proofs.Common.{◌≡◌, ℕ, ◌+◌, ◌*◌, ◌-◌, ◌<◌, ◌≤◌, List, [], ◌∷◌, length, take, arith, get_or, subst, sym, ◌∙◌, refl, inl}
use Rattle.std.specs.Prelude.{IfOk, OnOk, Result, Ok, Err}
use Rattle.xp_base.specs.declared.limits.TheConstants.{MAX_TYPELIB}
use Rattle.lib_model.specs.declared.contents.Iface.{Iface}
use Rattle.lib_model.specs.declared.contents.Library.{Library}
use Rattle.lib_model.specs.Emit.{annotation_text, directory_place, directory_text, emit, entry_text, four_bytes, header_text, magic, part_size, part_text, placed, pool_place, pool_text, two_bytes}
use Rattle.lib_model.specs.Denotes.{AnnotationsStand, ByteStands, Denotes, HalfStands, WordStands, place_of, word_at}
use Rattle.lib_model.specs.Valid.{IsIface, IsValid, slots_in}
use Rattle.lib_model.proofs.FileSize.{length-header_text, length_directory, length_emit}
use Rattle.lib_model.proofs.Pieces.{Piece, byte_stands, half_stands, laid, piece_at, piece_byte, piece_inside, piece_taken, piece_whole, word_stands}
use Rattle.lib_model.proofs.PoolStands.{entries_stand}
use Rattle.lib_model.proofs.ValidFacts.{few_methods}

-- what stands in the header of a file of so many interfaces and so many bytes of pool
record HeaderStands (x : List ℕ) (ifaces pool_len : ℕ) : Type 0 where
  starts : take 16 x ≡ magic
  major : ByteStands x 16 1
  minor : ByteStands x 17 2
  count : HalfStands x 18 ifaces
  file_length : WordStands x 20 (pool_place ifaces + pool_len)
  directory : WordStands x 24 (directory_place + 1)
  pool : WordStands x 28 (pool_place ifaces)

header_stands : {x : List ℕ} (ifaces pool_len : ℕ) → ifaces ≤ 65535
    → pool_place ifaces + pool_len ≤ MAX_TYPELIB → Piece x 0 (header_text ifaces pool_len)
    → HeaderStands x ifaces pool_len
unfolding header_text two_bytes four_bytes
header_stands ifaces pool_len few short h =
    let part =
    laid 0
    (magic ∷ (1 ∷ []) ∷ (2 ∷ []) ∷ two_bytes ifaces ∷ four_bytes (pool_place ifaces + pool_len)
    ∷ four_bytes (directory_place + 1) ∷ four_bytes (pool_place ifaces) ∷ [])
    h
    in record {
      starts = piece_taken magic part.0;
      major = byte_stands part.1.0;
      minor = byte_stands part.1.1.0;
      count = half_stands (omega arith) part.1.1.1.0;
      file_length = word_stands (omega (arith, short)) part.1.1.1.1.0;
      directory = word_stands (omega arith) part.1.1.1.1.1.0;
      pool = word_stands (omega (arith, short)) part.1.1.1.1.1.1.0;
    }

-- the one annotation, which is empty and the last
annotation_stands : {x : List ℕ} → Piece x 32 annotation_text → AnnotationsStand x 32 0
annotation_stands h =
    let byte = piece_byte h
    in (
      omega (arith, byte),
      (
        33,
        record {
          form = inl (rw byte refl, refl);
          inside = omega (
            arith,
            piece_inside annotation_text h,
          );
        },
      ),
    )

-- the interfaces of a valid library have few methods
valid_entries : (lib : Library) → IsValid lib → (k : ℕ) (d : Iface) → k < length lib.ifaces
    → IsIface lib.ifaces (get_or lib.ifaces k d) × (slots_in (get_or lib.ifaces k d).body ≤ 250)
valid_entries lib valid k d within = (valid.ifaces k d within, few_methods lib k d valid within)

pub emit_denotes : (lib : Library) → IsValid lib → length (emit lib) ≤ MAX_TYPELIB
    → Denotes (emit lib) lib
unfolding emit directory_text pool_text
emit_denotes lib valid short =
    let count : ℕ = length lib.ifaces
    in let pool : List ℕ = placed part_text part_size 1 lib.ifaces
    in let directory : List ℕ = placed entry_text part_size 1 lib.ifaces
    in let header : List ℕ = header_text count (length pool)
    in let header_len : length header ≡ 32 = length-header_text count (length pool)
    in let directory_len : length directory ≡ 28 * count = length_directory lib valid
    in let file_len : length (emit lib) ≡ pool_place count + length pool = length_emit lib valid
    in let part =
    laid 0 (header ∷ annotation_text ∷ directory ∷ pool ∷ []) (piece_whole (emit lib))
    in let says : HeaderStands (emit lib) count (length pool) =
    header_stands count (length pool) valid.few (omega (arith, short, file_len)) part.0
    in let directory_at : Piece (emit lib) (word_at (emit lib) 24 - 1) directory =
    piece_at (omega (arith, says.directory.1, header_len)) part.1.1.0
    in let pool_at : Piece (emit lib) (place_of (emit lib) 1) pool =
    piece_at (omega (arith, says.pool.1, header_len, directory_len)) part.1.1.1.0
    in record {
      valid = valid;
      long = omega (arith, file_len);
      starts = says.starts;
      major = says.major;
      minor = says.minor;
      count = says.count;
      file_length = (says.file_length.0, says.file_length.1 ∙ sym file_len);
      annotation_count = 0;
      annotations = annotation_stands (piece_at (omega (arith, header_len)) part.1.0);
      directory = λ some. omega (arith, says.directory.1);
      pool = omega (arith, says.pool.1, file_len);
      directory_end = word_at (emit lib) 24 - 1 + length directory;
      ifaces =
          entries_stand (emit lib) short lib.ifaces valid.few (word_at (emit lib) 24 - 1) 1
          (word_at (emit lib) 24 - 1 + length directory) lib.ifaces (valid_entries lib valid)
          (omega arith) directory_at pool_at refl;
    }

-- the same of a result that is these bytes, or an error
pub denoted : {E : Type 0} (lib : Library) (r : Result (List ℕ) E) → IsValid lib
    → IfOk r (λ bytes. bytes ≡ emit lib) → OnOk r (length (emit lib) ≤ MAX_TYPELIB)
    → IfOk r (λ bytes. Denotes bytes lib)
denoted lib (Ok bytes) valid written short =
    let P : List ℕ → Type 0 = λ b. Denotes b lib
    in subst P (sym written) (emit_denotes lib valid short)
denoted lib (Err e) valid written short = tt
