-- Bytes that no write covers are read as before.
use Rattle.std.proofs.Common.{◌≡◌, ℕ, suc, ◌+◌, ◌-◌, ◌<◌, ◌≤◌, Bool, true, false, ◌&&◌, cond, List, [], ◌∷◌, ◌++◌, length, take, drop, Option, Some, None, refl, sym, ap, subst, ◌∙◌, ◌⊎◌, inl, inr, arith, length-take, length-drop}
use Rattle.std.specs.Prelude.{nat_le, slice_range}
use Rattle.std.specs.List.{All}
use Rattle.std.specs.Option.{option_map}
use Rattle.std.proofs.lemmas.List.{take-append-le, drop-append-le}
use Rattle.raw_block.specs.Bytes.{overwritten}
use Rattle.call_model.specs.declared.places.Conv.{Conv}
use Rattle.call_scripts.specs.declared.script.ReplyItem.{ReplyItem}
use Rattle.call_scripts.specs.declared.script.ReplyItem.TheVariants as items
use Rattle.object_memory.specs.declared.layout.TheConstants.{VTABLE_AT, CELLS_AT}
use Rattle.object_memory.specs.Memory as machines
use Rattle.object_memory.specs.Memory.{MachineView, bytes_at, is_within, number_at, with_cells, with_memory}
use Rattle.object_memory.proofs.Access.{slice_range-take}
use Rattle.object_memory.proofs.Lists.{drop-overwritten, length-overwritten}
use Rattle.xp_base.specs.LittleEndian.{number_of}
use Rattle.xp_base.proofs.LittleEndian.{length-low_bytes}
use Rattle.call_replies.specs.Reply.{Asked, Write, own_len_in, value_in}
use Rattle.call_replies.specs.Writes.{Misses, MissesTarget, after_writes, planned, planned_for}
use Rattle.call_replies.proofs.Lawful.{by_place, within_is}

-- one byte before or behind those that were written
other_byte : (xs : List ℕ) (p : ℕ) (w : List ℕ) (q : ℕ) → p + length w ≤ length xs → (q < p) ⊎ (p + length w ≤ q)
    → slice_range (overwritten xs p w) q (q + 1) ≡ slice_range xs q (q + 1)
other_byte xs p w q fits (inr past) = ap (λ l. take (q + 1 - q) l) (drop-overwritten xs p w fits q past)
other_byte xs p w q fits (inl before) =
    let front = take p xs in let rest = w ++ drop (p + length w) xs in
    let len : length front ≡ p = omega (arith, length-take p xs, fits) in
    let low : q ≤ length front = omega (arith, len, before) in
    let short : q + 1 - q ≤ length (drop q front) = omega (arith, len, before, length-drop q front) in
    ap (λ l. take (q + 1 - q) l) (drop-append-le q front rest low) ∙ take-append-le (q + 1 - q) (drop q front) rest short
    ∙ slice_range-take xs p q (q + 1) (omega arith) (omega (arith, before))

-- a range of bytes of which some others were written is read as before
read-same : (start : ℕ) (xs ys : List ℕ) (a : ℕ) (later : Option (List ℕ)) → length ys ≡ length xs
    → (start ≤ a → slice_range ys (a - start) (a - start + 1) ≡ slice_range xs (a - start) (a - start + 1))
    → cond (is_within start ys a 1) (Some (slice_range ys (a - start) (a - start + 1))) later
    ≡ cond (is_within start xs a 1) (Some (slice_range xs (a - start) (a - start + 1))) later
read-same start xs ys a later len same =
    ap (λ n. cond (nat_le start a && nat_le (a + 1) (start + n)) (Some (slice_range ys (a - start) (a - start + 1))) later) len
    ∙ by_test (is_within start xs a 1) refl
  where
    by_test : (t : Bool) → is_within start xs a 1 ≡ t
        → cond t (Some (slice_range ys (a - start) (a - start + 1))) later ≡ cond t (Some (slice_range xs (a - start) (a - start + 1))) later
    by_test true e = ap Some (same (within_is start xs a 1 e).0)
    by_test false e = refl

shifted : (start at n a : ℕ) → start ≤ at → start ≤ a → Misses at n a → (a - start < at - start) ⊎ (at - start + n ≤ a - start)
shifted start at n a low here (inl before) = inl (omega (arith, low, here, before))
shifted start at n a low here (inr past) = inr (omega (arith, low, here, past))

other_bytes : (start : ℕ) (xs : List ℕ) (at : ℕ) (w : List ℕ) (a : ℕ) → is_within start xs at (length w) ≡ true → Misses at (length w) a → start ≤ a
    → slice_range (overwritten xs (at - start) w) (a - start) (a - start + 1) ≡ slice_range xs (a - start) (a - start + 1)
other_bytes start xs at w a is misses here =
    let inside = within_is start xs at (length w) is in
    other_byte xs (at - start) w (a - start) (omega (arith, inside.0, inside.1)) (shifted start at (length w) a inside.0 here misses)

same_len : (start : ℕ) (xs : List ℕ) (at : ℕ) (w : List ℕ) → is_within start xs at (length w) ≡ true → length (overwritten xs (at - start) w) ≡ length xs
same_len start xs at w is = let inside = within_is start xs at (length w) is in length-overwritten xs (at - start) w (omega (arith, inside.0, inside.1))

byte-written : (m : MachineView) (at : ℕ) (w : List ℕ) (a : ℕ) → Misses at (length w) a → bytes_at (machines.written m at w) a 1 ≡ bytes_at m a 1
byte-written m at w a misses =
    by_place (λ k. bytes_at k a 1 ≡ bytes_at m a 1) m at w
    (λ is. read-same VTABLE_AT m.memory (overwritten m.memory (at - VTABLE_AT) w) a _ (same_len VTABLE_AT m.memory at w is) (other_bytes VTABLE_AT m.memory at w a is misses))
    (λ is. ap (λ later. cond (is_within VTABLE_AT m.memory a 1) (Some (slice_range m.memory (a - VTABLE_AT) (a - VTABLE_AT + 1))) later)
    (read-same CELLS_AT m.cells (overwritten m.cells (at - CELLS_AT) w) a None (same_len CELLS_AT m.cells at w is) (other_bytes CELLS_AT m.cells at w a is misses)))
    refl

-- no write covers the address
abbrev pub AllMiss : (address : ℕ) → List Write → Type 0
AllMiss address [] = Unit {0}
AllMiss address (w ∷ writes) = Misses w.at (length w.bytes) address × AllMiss address writes

byte-writes : (m : MachineView) (writes : List Write) (a : ℕ) → AllMiss a writes → bytes_at (after_writes m writes) a 1 ≡ bytes_at m a 1
byte-writes m [] a misses = refl
byte-writes m (w ∷ writes) a misses =
    byte-writes (machines.written m w.at w.bytes) writes a misses.1 ∙ byte-written m w.at w.bytes a misses.0

all_miss-append : (a : ℕ) (now later : List Write) → AllMiss a now → AllMiss a later → AllMiss a (now ++ later)
all_miss-append a [] later p q = q
all_miss-append a (w ∷ now) later p q = (p.0, all_miss-append a now later p.1 q)

item_misses : (conv : Conv) (call : Asked) (a : ℕ) (item : ReplyItem) (value : ℕ) → MissesTarget conv call a item → AllMiss a (planned_for conv call item value)
item_misses conv call a (items.Result n) value misses = tt
item_misses conv call a (items.Set k first second) value misses =
    (subst (λ n. Misses (value_in call k) n a) (sym (length-low_bytes (own_len_in conv call k) value)) misses, tt)
item_misses conv call a (items.Fill k offset bytes) value misses = (misses, tt)

rule_misses : (conv : Conv) (call : Asked) (a : ℕ) (rule : List ReplyItem) (values : List ℕ) → All (MissesTarget conv call a) rule → AllMiss a (planned conv call rule values)
rule_misses conv call a [] values all = tt
rule_misses conv call a (item ∷ rule) [] all = tt
rule_misses conv call a (item ∷ rule) (value ∷ values) all =
    all_miss-append a (planned_for conv call item value) (planned conv call rule values)
    (item_misses conv call a item value (all 0 item (omega arith)))
    (rule_misses conv call a rule values (λ k d lt. all (suc k) d (omega (arith, lt))))

-- what the items of a rule write leaves every byte that is no target
pub others-stay : (m : MachineView) (conv : Conv) (call : Asked) (rule : List ReplyItem) (values : List ℕ) (a : ℕ)
    → All (MissesTarget conv call a) rule → number_at (after_writes m (planned conv call rule values)) a 1 ≡ number_at m a 1
others-stay m conv call rule values a all = ap (option_map number_of) (byte-writes m (planned conv call rule values) a (rule_misses conv call a rule values all))
