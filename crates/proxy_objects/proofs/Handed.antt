-- The frame of a call that is handed on.
use Rattle.std.proofs.Common.{◌≡◌, ℕ, suc, ◌+◌, ◌<◌, List, ◌∷◌, length, drop, get_or, sym, ap, ◌∙◌, arith}
use Rattle.std.proofs.lemmas.List.{ext_get_or}
use Rattle.call_model.specs.declared.ctypes.CType.{CType}
use Rattle.call_model.specs.declared.ctypes.CType.TheVariants.{I8, Ptr}
use Rattle.call_model.specs.declared.places.Conv.{Conv}
use Rattle.call_model.specs.declared.prototypes.ProtoArg.{ProtoArg}
use Rattle.call_model.specs.Placement.{type_at}
use Rattle.call_model.specs.Prototype.{types_of}
use Rattle.call_model.specs.Values.{canon, canon_all, frame_of, placed}
use Rattle.call_model.proofs.Conforming.{canon_all-at, length-canon_all}
use Rattle.invoke_by_index.proofs.Prototypes.{length-types_of}
use Rattle.stub_dispatch.specs.Cells.{received_cells}
use Rattle.stub_dispatch.proofs.Recovered.{gives-canonical}
use Rattle.stub_dispatch.proofs.SameWord.{canon_all-across}
use Rattle.proxy_objects.specs.Handing.{HandsOn}

-- the frame of the cells is the frame of the values that they are canonical patterns of
pub hands-on : (to : Conv) (proto : List ProtoArg) (target : ℕ) (cells : List ℕ) → HandsOn to proto target cells (placed to (types_of proto) (target ∷ cells))
hands-on to proto target cells = λ from frame this values same conforms are.
    let patterns = gives-canonical from proto frame this values conforms in
    let rest : received_cells from proto frame ≡ canon_all from (drop 1 (types_of proto)) values = ap (drop 1) patterns in
    let across : canon_all to (drop 1 (types_of proto)) cells ≡ canon_all to (drop 1 (types_of proto)) values
    = ap (canon_all to (drop 1 (types_of proto))) (are ∙ rest) ∙ canon_all-across from to (drop 1 (types_of proto)) values same in
    ap (λ ps. frame_of to (types_of proto) (canon to Ptr target ∷ ps)) across

-- the element behind the first one
pub behind : (x : ℕ) (xs : List ℕ) (i : ℕ) → get_or (x ∷ xs) (i + 1) 0 ≡ get_or xs i 0
behind x xs i = let next : i + 1 ≡ suc i = omega arith in ap (λ k. get_or (x ∷ xs) k 0) next

-- types that are those of a prototype at each place are its types
pub are-types : (proto : List ProtoArg) (types : List CType) → length types ≡ length proto + 1
    → ((k : ℕ) → k < length proto + 1 → get_or types k I8 ≡ type_at (types_of proto) k) → types ≡ types_of proto
are-types proto types len each =
    ext_get_or I8 types (types_of proto) (len ∙ sym (length-types_of proto)) (λ k lt. each k (omega (arith, lt, len)))

-- patterns that are canonical at each place are those of the call
pub are-patterns : (conv : Conv) (proto : List ProtoArg) (target : ℕ) (cells patterns : List ℕ) → length cells ≡ length proto → length patterns ≡ length proto + 1
    → ((k : ℕ) → k < length proto + 1 → get_or patterns k 0 ≡ canon conv (type_at (types_of proto) k) (get_or (target ∷ cells) k 0))
    → patterns ≡ canon_all conv (types_of proto) (target ∷ cells)
are-patterns conv proto target cells patterns few len each =
    let paired : length (types_of proto) ≡ length (target ∷ cells) = omega (arith, length-types_of proto, few) in
    ext_get_or 0 patterns (canon_all conv (types_of proto) (target ∷ cells)) (omega (arith, len, length-canon_all conv (types_of proto) (target ∷ cells) paired, few))
    (λ k lt. each k (omega (arith, lt, len)) ∙ sym (canon_all-at conv (types_of proto) (target ∷ cells) k paired (omega (arith, lt, len, length-types_of proto))))
