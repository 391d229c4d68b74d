-- The bytes that are stored are the low ones.
use Rattle.std.proofs.Common.{◌≡◌, List, ℕ, length, take, subst, ap, ◌∙◌, Some}
use Rattle.std.specs.Int.{w64}
use Rattle.std.specs.Option.{option_map}
use Rattle.xp_base.specs.LittleEndian.{low_bytes, number_of}
use Rattle.xp_base.proofs.LittleEndian.{length-low_bytes, number_of-low_bytes, take-to_le_bytes}
use Rattle.object_memory.specs.Heap.{Stores}
use Rattle.object_memory.specs.Widths.{bytes_of}
use Rattle.object_memory.proofs.Stores.{bytes_of-le, stores-cell, stores-count}
use Rattle.object_memory.proofs.machine.Machine.store.Goals as goal

pub returns : goal.returns
returns c =
    let old = c.args.self.now in let new = c.store_bytes.new.self in let at = c.args.at in let v = c.args.v in let r = c.store_bytes.result in
    let n = bytes_of c.args.width in let low = low_bytes n v in
    let are : take c.bytes.result c.to_le_bytes.result ≡ low
    = (λ i. take (c.bytes.ensures i) (c.to_le_bytes.ensures i)) ∙ take-to_le_bytes w64 n v (bytes_of-le c.args.width) in
    let stores : Stores old new at n low r
    = stores-count old new at n low r (length-low_bytes n v) (subst (λ (p : List ℕ). Stores old new at (length p) p r) are c.store_bytes.ensures.stores) in
    record {
      stores = stores;
      number = λ could. ap (option_map number_of) (stores.reads_back could) ∙ ap Some (number_of-low_bytes n v);
      cell = stores-cell old new at c.args.width v r c.ranges.v.fits stores;
      laid_out = c.store_bytes.ensures.laid_out;
    }
