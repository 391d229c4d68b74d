-- How the pool grows by the part of an interface.
use Rattle.std.proofs.Common.{◌≡◌, ℕ, ◌+◌, ◌<◌, List, ◌∷◌, ◌++◌, length, get_or, drop, ap, sym, ◌∙◌, arith, refl, append_assoc, length-append}
use Rattle.std.proofs.lemmas.List.{at_drop_more}
use Rattle.std.specs.Prelude.{Err, IsErrOf}
use Rattle.lib_model.specs.declared.contents.Iface.{Iface}
use Rattle.lib_model.specs.Emit.{body_text, name_text, name_size, namespace_text, own_names, part_text, part_size, placed, entry_text, four_bytes}
use Rattle.lib_model.proofs.Sizes.{length-name_text, length_part_text}
use Rattle.typelib_writer.specs.declared.errors.WriteError.{WriteError}
use Rattle.typelib_writer.specs.declared.interfaces.Offsets.{Offsets}
use Rattle.typelib_writer.specs.Offsets.{AreOffsets}

-- the pool before a part, and behind its name, its namespace and its body
pub record Grows (i : Iface) (before named spaced after : List ℕ) : Type 0 where
  pub name : named ≡ before ++ name_text i.name
  pub namespace : spaced ≡ named ++ namespace_text i.namespace
  pub body : after ≡ spaced ++ body_text (length spaced + 1) i.body

own_grown : (i : Iface) (before named spaced : List ℕ) → named ≡ before ++ name_text i.name
    → spaced ≡ named ++ namespace_text i.namespace → spaced ≡ before ++ own_names i
own_grown i before named spaced name space =
    space ∙ ap (λ (b : List ℕ). b ++ namespace_text i.namespace) name
    ∙ append_assoc before (name_text i.name) (namespace_text i.namespace)

pub behind_name : (i : Iface) (before named : List ℕ) → named ≡ before ++ name_text i.name
    → length named + 1 ≡ length before + 1 + name_size i.name
behind_name i before named name = omega (
  arith,
  ap length name,
  length-append before (name_text i.name),
  length-name_text i.name,
)

pub behind_own : (i : Iface) (before named spaced : List ℕ) → named ≡ before ++ name_text i.name
    → spaced ≡ named ++ namespace_text i.namespace
    → length spaced + 1 ≡ length before + 1 + length (own_names i)
behind_own i before named spaced name space =
    omega (
      arith,
      ap length (own_grown i before named spaced name space),
      length-append before (own_names i),
    )

pub part_grown : (i : Iface) (before named spaced after : List ℕ)
    → Grows i before named spaced after → after ≡ before ++ part_text (length before + 1) i
unfolding part_text
part_grown i before named spaced after grows =
    grows.body
    ∙ ap (λ (k : ℕ). spaced ++ body_text k i.body) (behind_own i before named spaced grows.name grows.namespace)
    ∙ ap (λ (b : List ℕ). b ++ body_text (length before + 1 + length (own_names i)) i.body) (own_grown i before named spaced grows.name grows.namespace)
    ∙ append_assoc before (own_names i) (body_text (length before + 1 + length (own_names i)) i.body)

-- texts of the interfaces from j on: one more is written
placed_next : (text : ℕ → Iface → List ℕ) (xs : List Iface) (j : ℕ) (x : Iface) (k behind : ℕ)
    (out new whole : List ℕ)
    → j < length xs → x ≡ get_or xs j x
    → out ++ placed text part_size k (drop j xs) ≡ whole → behind ≡ k + part_size x → new ≡ out
    ++ text k x
    → new ++ placed text part_size behind (drop (j + 1) xs) ≡ whole
placed_next text xs j x k behind out new whole within read so_far place wrote =
    ap (λ (b : List ℕ). b ++ placed text part_size behind (drop (j + 1) xs)) wrote
    ∙ ap (λ (n : ℕ). (out ++ text k x) ++ placed text part_size n (drop (j + 1) xs)) place
    ∙ append_assoc out (text k x) (placed text part_size (k + part_size x) (drop (j + 1) xs))
    ∙ ap (λ (y : Iface). out ++ placed text part_size k (y ∷ drop (j + 1) xs)) read
    ∙ ap (λ (b : List ℕ). out ++ b) (sym (at_drop_more (placed text part_size k) xs j x within))
    ∙ so_far

behind_part : (x : Iface) (pool grown : List ℕ) → grown ≡ pool ++ part_text (length pool + 1) x
    → length grown + 1 ≡ length pool + 1 + part_size x
behind_part x pool grown wrote =
    omega (
      arith,
      ap length wrote,
      length-append pool (part_text (length pool + 1) x),
      length_part_text (length pool + 1) x,
    )

pub pool_next : (xs : List Iface) (j : ℕ) (x : Iface) (pool grown whole : List ℕ) → j < length xs
    → x ≡ get_or xs j x
    → pool ++ placed part_text part_size (length pool + 1) (drop j xs) ≡ whole → grown ≡ pool
    ++ part_text (length pool + 1) x
    → grown ++ placed part_text part_size (length grown + 1) (drop (j + 1) xs) ≡ whole
pool_next xs j x pool grown whole within read so_far wrote =
    placed_next part_text xs j x (length pool + 1) (length grown + 1) pool grown whole within read so_far (behind_part x pool grown wrote) wrote

entry_is : (k : ℕ) (i : Iface) (o : Offsets) → AreOffsets k i o
    → i.iid ++
    (four_bytes o.name ++ (four_bytes o.namespace ++ four_bytes o.descriptor)) ≡ entry_text k i
unfolding entry_text
entry_is k i o are = rw (are.name, are.namespace, are.descriptor) refl

pub directory_next : (xs : List Iface) (j : ℕ) (x : Iface) (o : Offsets)
    (pool grown directory longer whole : List ℕ)
    → j < length xs → x ≡ get_or xs j x
    → directory ++ placed entry_text part_size (length pool + 1) (drop j xs) ≡ whole → grown ≡ pool
    ++ part_text (length pool + 1) x
    → AreOffsets (length pool + 1) x o → longer ≡ directory
    ++ (x.iid ++ (four_bytes o.name ++ (four_bytes o.namespace ++ four_bytes o.descriptor)))
    → longer ++ placed entry_text part_size (length grown + 1) (drop (j + 1) xs) ≡ whole
directory_next xs j x o pool grown directory longer whole within read so_far wrote_part are wrote =
    placed_next entry_text xs j x (length pool + 1) (length grown + 1) directory longer whole within read so_far (behind_part x pool grown wrote_part)
    (wrote ∙ ap (λ (b : List ℕ). directory ++ b) (entry_is (length pool + 1) x o are))

-- an error is the same whatever the result would have held
pub same_error : {T U : Type 0} (e d : WriteError) → IsErrOf {T = T} (Err e) d
    → IsErrOf {T = U} (Err e) d
same_error e d h = let same : e ≡ d = cc in ap Err same
