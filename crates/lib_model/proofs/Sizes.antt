-- How long the emitted texts are.
use Rattle.std.proofs.Common.{◌≡◌, ℕ, ◌+◌, ◌≤◌, List, [], ◌∷◌, length, ◌∙◌, refl, arith, sum_by, Option, Some, None, length-append}
use Rattle.std.proofs.lemmas.List.Sums.{sum_by-cons}
use Rattle.std.specs.List.{flat_map}
use Rattle.lib_model.specs.declared.contents.Iface.{Iface}
use Rattle.lib_model.specs.declared.contents.Body.{Body}
use Rattle.lib_model.specs.declared.contents.Method.{Method}
use Rattle.lib_model.specs.declared.contents.Constant.{Constant}
use Rattle.lib_model.specs.Emit.{placed, two_bytes, four_bytes, name_text, name_size, method_names, constant_names, member_names, method_text, method_size, constant_text, constant_size, descriptor_text, own_names, namespace_text, body_names, body_text, part_text, part_size, entry_text, param_text, value_text}

pub length-two_bytes : (n : ℕ) → length (two_bytes n) ≡ 2
unfolding two_bytes
length-two_bytes n = refl

pub length-four_bytes : (n : ℕ) → length (four_bytes n) ≡ 4
unfolding four_bytes
length-four_bytes n = refl

pub length-name_text : (name : List ℕ) → length (name_text name) ≡ name_size name
unfolding name_text
length-name_text name = length-append name (0 ∷ [])

-- the length of texts one after the other, where each has its size
pub length-flat_map : {A : Type 0} (text : A → List ℕ) (size : A → ℕ)
    → ((x : A) → length (text x) ≡ size x) → (xs : List A)
    → length (flat_map text xs) ≡ sum_by size xs
length-flat_map text size each [] = refl
length-flat_map text size each (x ∷ xs) =
    length-append (text x) (flat_map text xs)
    ∙ omega (arith, each x, length-flat_map text size each xs, sum_by-cons size x xs)

-- texts are as long wherever they are placed, where each is
pub length-placed : {A : Type 0} (text : ℕ → A → List ℕ) (part : A → ℕ) (size : A → ℕ)
    → ((k : ℕ) (x : A) → length (text k x) ≡ size x) → (k : ℕ) (xs : List A)
    → length (placed text part k xs) ≡ sum_by size xs
length-placed text part size each k [] = refl
length-placed text part size each k (x ∷ xs) =
    length-append (text k x) (placed text part (k + part x) xs)
    ∙ omega (
      arith,
      each k x,
      length-placed text part size each (k + part x) xs,
      sum_by-cons size x xs,
    )

pub length_member_names : (b : Body)
    → length (member_names b) ≡ sum_by method_size b.methods + sum_by constant_size b.constants
unfolding member_names
length_member_names b =
    length-append (method_names b.methods) (constant_names b.constants)
    ∙ omega (
      arith,
      length-flat_map (λ (m : Method). name_text m.name) method_size
          (λ m. length-name_text m.name) b.methods,
      length-flat_map (λ (c : Constant). name_text c.name) constant_size
          (λ c. length-name_text c.name) b.constants,
    )

-- how many bytes a method and a constant have in a descriptor, and the descriptor itself
abbrev pub method_len : Method → ℕ
method_len m = 8 + length (flat_map param_text m.params)

abbrev pub constant_len : Constant → ℕ
constant_len c = 5 + length (value_text c.kind c.value)

abbrev pub descriptor_len : Body → ℕ
descriptor_len b = 7 + sum_by method_len b.methods + sum_by constant_len b.constants

pub length-method_text : (k : ℕ) (m : Method) → length (method_text k m) ≡ method_len m
unfolding method_text
length-method_text k m = simp (length-append, length-four_bytes) (omega arith)

pub length-constant_text : (k : ℕ) (c : Constant) → length (constant_text k c) ≡ constant_len c
unfolding constant_text
length-constant_text k c = simp (length-append, length-four_bytes) (omega arith)

pub length-descriptor_text : (k : ℕ) (b : Body) → length (descriptor_text k b) ≡ descriptor_len b
unfolding descriptor_text
length-descriptor_text k b =
    simp (length-append, length-two_bytes)
    (omega (
      arith,
      length-placed method_text method_size method_len length-method_text k b.methods,
      length-placed constant_text constant_size constant_len length-constant_text
          (k + sum_by method_size b.methods) b.constants,
    ))

pub length-body_text : (k j : ℕ) (o : Option Body) → length (body_text k o) ≡ length (body_text j o)
length-body_text k j None = refl
length-body_text k j (Some b) =
    length-append (member_names b) (descriptor_text k b)
    ∙ omega (
      arith,
      length-append (member_names b) (descriptor_text j b),
      length-descriptor_text k b,
      length-descriptor_text j b,
    )

-- an interface's part of the pool is as long wherever it stands
pub length_part_text : (k : ℕ) (i : Iface) → length (part_text k i) ≡ part_size i
unfolding part_text part_size
length_part_text k i =
    length-append (own_names i) (body_text (k + length (own_names i)) i.body)
    ∙ omega (
      arith,
      length-append (own_names i) (body_text (1 + length (own_names i)) i.body),
      length-body_text (k + length (own_names i)) (1 + length (own_names i)) i.body,
    )

-- an entry has 28 bytes, since an IID has 16
pub length-entry_text : (k : ℕ) (i : Iface) → length i.iid ≡ 16 → length (entry_text k i) ≡ 28
unfolding entry_text
length-entry_text k i iid = simp (length-append, length-four_bytes) (omega arith)

-- a part of the pool has its names, whatever else it has
part_names : (k : ℕ) (i : Iface) (o : Option Body) → length (body_names o) ≤ length (body_text k o)
part_names k i None = omega arith
part_names k i (Some b) = omega (arith, length-append (member_names b) (descriptor_text k b))

pub length_part_names : (k : ℕ) (i : Iface)
    → length (name_text i.name) + length (namespace_text i.namespace) + length
    (body_names i.body) ≤ length (part_text k i)
unfolding part_text
length_part_names k i =
    omega (
      arith,
      length-append (own_names i) (body_text (k + length (own_names i)) i.body),
      length-append (name_text i.name) (namespace_text i.namespace),
      part_names (k + length (own_names i)) i i.body,
    )
