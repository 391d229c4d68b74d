-- What has an offset stands where its text lies, and what the offset names lies in the pool.
use Rattle.std.proofs.Common.{◌≡◌, ℕ, zero, suc, ◌+◌, ◌%◌, ◌<◌, ◌≤◌, ℤ, pos, negsuc, List, [], ◌∷◌, length, take, drop, length-append, arith, ap, ◌∙◌, refl, sym, sum_by, Option, Some, None, true≢false, inl, inr, subst}
use Rattle.std.specs.Prelude.{All, IfSome, IsSome, slice_get, option_and_then}
use Rattle.std.specs.Int.{w16, w32, cast_signed, cast_unsigned}
use Rattle.std.specs.List.{flat_map}
use Rattle.std.proofs.Math.Facts.{Fits-of_z}
use Rattle.std.proofs.lemmas.Int.{ints, to_z-of_z}
use Rattle.std.proofs.lemmas.Option.{slice_get_within}
use Rattle.xp_base.specs.declared.limits.TheConstants.{MAX_TYPELIB}
use Rattle.xp_base.specs.declared.kinds.ConstKind.{ConstKind}
use Rattle.xp_base.specs.declared.kinds.ConstKind.TheVariants as kinds
use Rattle.lib_model.specs.declared.contents.Iface.{Iface}
use Rattle.lib_model.specs.declared.contents.Body.{Body}
use Rattle.lib_model.specs.declared.contents.Method.{Method}
use Rattle.lib_model.specs.declared.contents.Constant.{Constant}
use Rattle.lib_model.specs.Emit.{body_names, body_text, constant_names, constant_size, constant_text, descriptor_text, descriptor_offset, entry_text, four_bytes, kind_tag, member_names, method_names, method_size, method_text, name_size, name_text, namespace_offset, namespace_text, offset_if, own_names, param_text, part_size, part_text, placed, result_text, two_bytes, value_text}
use Rattle.lib_model.specs.Denotes.{BodyStands, ConstantStands, DescriptorStands, EntryStands, ListStands, MethodStands, NameStands, NamespaceStands, ParamStands, place_of, value_at, value_len, word_at}
use Rattle.lib_model.specs.Valid.{IsBody, IsConstant, IsIface, IsInRange, IsMethod, IsParam, IsParent, slots_in}
use Rattle.lib_model.proofs.ListsStand.{listed, paired, placed_names}
use Rattle.lib_model.proofs.Pieces.{Piece, byte_stands, flags_stand, half_stands, laid, piece_at, piece_inside, piece_left, piece_right, piece_taken, tag_stands, text_stands, word_stands}
use Rattle.lib_model.proofs.Sizes.{length-entry_text, length-flat_map, length-four_bytes, length-name_text, length-two_bytes, length_part_text}
use Rattle.lib_model.proofs.TypesStand.{param_stands, result_stands}

-- ---- values

kind_read : (kind : ConstKind) → kind_tag kind % 32 ≡ kind_tag kind
kind_read kinds.I16 = refl
kind_read kinds.I32 = refl
kind_read kinds.U16 = refl
kind_read kinds.U32 = refl

value_size : (kind : ConstKind) (value : ℤ) → length (value_text kind value) ≡ value_len kind
value_size kinds.I16 value = length-two_bytes (cast_unsigned w16 value)
value_size kinds.I32 value = length-four_bytes (cast_unsigned w32 value)
value_size kinds.U16 value = length-two_bytes (cast_unsigned w16 value)
value_size kinds.U32 value = length-four_bytes (cast_unsigned w32 value)

value_stands : {x : List ℕ} (p : ℕ) (kind : ConstKind) (value : ℤ) → IsInRange kind value
    → Piece x p (value_text kind value) → value_at x kind p ≡ value
value_stands p kinds.I16 value is h =
    ap (cast_signed w16) (half_stands (Fits-of_z {w = w16} is).fits h).1 ∙ to_z-of_z w16 value is
value_stands p kinds.I32 value is h =
    ap (cast_signed w32) (word_stands (Fits-of_z {w = w32} is).fits h).1 ∙ to_z-of_z w32 value is
value_stands p kinds.U16 (pos n) is h = ap pos (half_stands (omega (arith, ints, is.1)) h).1
value_stands p kinds.U16 (negsuc n) is h = absurd (omega (arith, ints, is.0))
value_stands p kinds.U32 (pos n) is h = ap pos (word_stands (omega (arith, ints, is.1)) h).1
value_stands p kinds.U32 (negsuc n) is h = absurd (omega (arith, ints, is.0))

-- ---- the number of a parent fits two bytes

parent_within : (ifaces : List Iface) (k : ℕ) (o : Option Iface)
    → slice_get ifaces k ≡ o → IsSome (option_and_then (λ (i : Iface). i.body) o)
    → k < length ifaces
parent_within ifaces k None here found = absurd (true≢false (sym found))
parent_within ifaces k (Some i) here found = slice_get_within ifaces k i here

parent_small : (ifaces : List Iface) (number : ℕ) → length ifaces ≤ 65535
    → IsParent ifaces number → number < 65536
parent_small ifaces number few (inl none) = omega arith
parent_small ifaces zero few (inr found) = omega arith
parent_small ifaces (suc k) few (inr found) =
    omega (arith, few, parent_within ifaces k (slice_get ifaces k) refl found)

-- ---- the pool of a short file

module _ (x : List ℕ) (short : length x ≤ MAX_TYPELIB) (ifaces : List Iface)
    (few : length ifaces ≤ 65535) where
  -- what an offset names lies in the file, so the offset fits four bytes
  fits : (k : ℕ) (t : List ℕ) → Piece x (place_of x k) t → k < 4294967296
  fits k t h = omega (arith, short, piece_inside t h)

  name_stands : (p k : ℕ) (name : List ℕ) → 0 < k → Piece x p (four_bytes k)
      → Piece x (place_of x k) (name_text name) → NameStands x p name
  name_stands p k name some h there = record {
    offset = k;
    stands = word_stands (fits k (name_text name) there) h;
    present = some;
    text = text_stands name there;
  }

  -- ---- members

  method_stands : (p k q : ℕ) (m : Method) → IsMethod (length ifaces) m → 0 < k
      → Piece x p (method_text k m) → Piece x (place_of x k) (name_text m.name)
      → q ≡ p + length (method_text k m) → MethodStands x p m q
  unfolding method_text four_bytes
  method_stands p k q m is some h there ends =
      let params : List ℕ = flat_map param_text m.params
      in let part =
      laid p
      ((m.flags.bits ∷ []) ∷ four_bytes k ∷ (length m.params ∷ []) ∷ params ∷ result_text ∷ []) h
      in let params_at : Piece x (p + 6) params = piece_at (omega arith) part.1.1.1.0
      in let last_at : Piece x (p + 6 + length params) result_text =
      piece_at (omega arith) part.1.1.1.1.0
      in record {
        flags = flags_stand is.flags part.0;
        name = name_stands (p + 1) k m.name some part.1.0 there;
        count = byte_stands (piece_at (omega arith) part.1.1.0);
        params_end = p + 6 + length params;
        params =
            listed param_text (IsParam (length ifaces) m.params) (ParamStands x)
            (param_stands (length ifaces) few m.params) (p + 6) (p + 6 + length params) m.params
            is.params params_at refl;
        last =
            result_stands (p + 6 + length params) q last_at
            (omega (arith, ends, length-append params result_text));
      }

  constant_stands : (p k q : ℕ) (c : Constant) → IsConstant c → 0 < k
      → Piece x p (constant_text k c) → Piece x (place_of x k) (name_text c.name)
      → q ≡ p + length (constant_text k c) → ConstantStands x p c q
  unfolding constant_text four_bytes
  constant_stands p k q c is some h there ends =
      let text : List ℕ = value_text c.kind c.value
      in let part = laid p (four_bytes k ∷ (kind_tag c.kind ∷ []) ∷ text ∷ []) h
      in let value_here : Piece x (p + 5) text = piece_at (omega arith) part.1.1.0
      in let size : length text ≡ value_len c.kind = value_size c.kind c.value
      in record {
        name = name_stands p k c.name some part.0 there;
        kind = tag_stands (kind_read c.kind) part.1.0;
        inside = omega (arith, piece_inside text value_here, size);
        value = value_stands (p + 5) c.kind c.value is.value value_here;
        ends = omega (arith, ends, size);
      }

  -- methods and constants, whose names lie in the pool one after the other
  methods_stand : (p k q : ℕ) (ms : List Method) → All (IsMethod (length ifaces)) ms → 0 < k
      → Piece x p (placed method_text method_size k ms) → Piece x (place_of x k) (method_names ms)
      → q ≡ p + length (placed method_text method_size k ms)
      → ListStands (MethodStands x) p ms q
  methods_stand p k q ms are some h there ends =
      let name : Method → List ℕ = λ m. name_text m.name
      in let names = placed_names name method_size k ms
      in paired (word_at x 28) method_text (λ (j : ℕ) (m : Method). name m) method_size
      (IsMethod (length ifaces)) (MethodStands x) (λ j m. length-name_text m.name)
      method_stands p k q ms are some h
      (let P : List ℕ → Type 0 = Piece x (place_of x k) in subst P (sym names) there) ends

  constants_stand : (p k q : ℕ) (cs : List Constant) → All IsConstant cs → 0 < k
      → Piece x p (placed constant_text constant_size k cs)
      → Piece x (place_of x k) (constant_names cs)
      → q ≡ p + length (placed constant_text constant_size k cs)
      → ListStands (ConstantStands x) p cs q
  constants_stand p k q cs are some h there ends =
      let name : Constant → List ℕ = λ c. name_text c.name
      in let names = placed_names name constant_size k cs
      in paired (word_at x 28) constant_text (λ (j : ℕ) (c : Constant). name c) constant_size
      IsConstant (ConstantStands x) (λ j c. length-name_text c.name)
      constant_stands p k q cs are some h
      (let P : List ℕ → Type 0 = Piece x (place_of x k) in subst P (sym names) there) ends

  -- ---- interfaces

  length-method_names : (ms : List Method) → length (method_names ms) ≡ sum_by method_size ms
  length-method_names ms =
      length-flat_map (λ (m : Method). name_text m.name) method_size
      (λ m. length-name_text m.name) ms

  descriptor_stands : (p k : ℕ) (b : Body) → IsBody ifaces b → length b.methods ≤ 250 → 0 < k
      → Piece x p (descriptor_text k b) → Piece x (place_of x k) (member_names b)
      → DescriptorStands x p b
  unfolding descriptor_text member_names two_bytes
  descriptor_stands p k b is short_list some h there =
      let methods : List ℕ = placed method_text method_size k b.methods
      in let behind : ℕ = k + sum_by method_size b.methods
      in let constants : List ℕ = placed constant_text constant_size behind b.constants
      in let part =
      laid p
      (two_bytes b.parent ∷ two_bytes (length b.methods) ∷ methods
      ∷ two_bytes (length b.constants) ∷ constants ∷ (b.flags.bits ∷ []) ∷ [])
      h
      in let names : List ℕ = method_names b.methods
      in let more : List ℕ = constant_names b.constants
      in let few_constants : length b.constants ≤ 65535 = is.few_constants
      in let method_end : ℕ = p + 2 + 2 + length methods
      in let constant_end : ℕ = method_end + 2 + length constants
      in record {
        parent = half_stands (parent_small ifaces b.parent few is.parent) part.0;
        method_count = half_stands (omega arith) part.1.0;
        methods_end = method_end;
        methods =
            methods_stand (p + 4) k method_end b.methods is.methods some
            (piece_at (omega arith) part.1.1.0)
            (piece_left names more there) (omega arith);
        constant_count = half_stands (omega arith) part.1.1.1.0;
        constants_end = constant_end;
        constants =
            constants_stand (method_end + 2) behind constant_end b.constants is.constants
            (omega (arith, some)) part.1.1.1.1.0
            (piece_right names more (omega (arith, some, length-method_names b.methods)) there)
            refl;
        flags = flags_stand is.flags part.1.1.1.1.1.0;
      }

  namespace_stands : (p k : ℕ) (o : Option (List ℕ)) → 0 < k
      → Piece x p (four_bytes (offset_if o k)) → Piece x (place_of x k) (namespace_text o)
      → NamespaceStands x p o
  namespace_stands p k None some h there = word_stands (omega arith) h
  namespace_stands p k (Some name) some h there = name_stands p k name some h there

  -- the body of an interface, the names of whose members begin at offset k
  body_stands : (p k : ℕ) (o : Option Body) → IfSome o (IsBody ifaces) → slots_in o ≤ 250 → 0 < k
      → Piece x p (four_bytes (offset_if o (k + length (body_names o))))
      → Piece x (place_of x k) (body_text k o) → BodyStands x p o
  body_stands p k None is slots some h there = word_stands (omega arith) h
  body_stands p k (Some b) is slots some h there =
      let names : List ℕ = member_names b
      in let text : List ℕ = descriptor_text k b
      in let offset : ℕ = k + length names
      in let descriptor_at : Piece x (place_of x offset) text =
      piece_right names text (omega (arith, some)) there
      in record {
        offset = offset;
        stands = word_stands (fits offset text descriptor_at) h;
        present = omega (arith, some);
        descriptor =
            descriptor_stands (place_of x offset) k b is slots some descriptor_at
            (piece_left names text there);
      }

  -- an interface of a valid library
  abbrev pub IsEntry : Iface → Type 0
  IsEntry i = IsIface ifaces i × (slots_in i.body ≤ 250)

  entry_stands : (p k q : ℕ) (i : Iface) → IsEntry i → 0 < k → Piece x p (entry_text k i)
      → Piece x (place_of x k) (part_text k i) → q ≡ p + length (entry_text k i)
      → EntryStands x p i q
  unfolding entry_text part_text four_bytes
  entry_stands p k q i is some h there ends =
      let part =
      laid p
      (i.iid ∷ four_bytes k ∷ four_bytes (namespace_offset k i) ∷ four_bytes (descriptor_offset k i)
      ∷ [])
      h
      in let iid : length i.iid ≡ 16 = is.0.iid
      in let name : List ℕ = name_text i.name
      in let namespace : List ℕ = namespace_text i.namespace
      in let members : ℕ = k + length (own_names i)
      in let own_at : Piece x (place_of x k) (own_names i) =
      piece_left (own_names i) (body_text members i.body) there
      in let name_len : length name ≡ length i.name + 1 = length-name_text i.name
      in record {
        iid =
            let P : ℕ → Type 0 = λ n. take n (drop p x) ≡ i.iid
            in subst P iid (piece_taken i.iid part.0);
        name =
            name_stands (p + 16) k i.name some (piece_at (omega (arith, iid)) part.1.0)
            (piece_left name namespace own_at);
        namespace =
            namespace_stands (p + 20) (k + name_size i.name) i.namespace (omega arith)
            (piece_at (omega (arith, iid)) part.1.1.0)
            (piece_right name namespace (omega (arith, some, name_len)) own_at);
        body =
            body_stands (p + 24) members i.body is.0.body is.1 (omega (arith, some))
            (piece_at (omega (arith, iid)) part.1.1.1.0)
            (piece_right (own_names i) (body_text members i.body) (omega (arith, some)) there);
        ends = omega (arith, ends, length-entry_text k i iid);
      }

  -- the interfaces, whose entries lie in the directory and whose parts in the pool
  pub entries_stand : (p k q : ℕ) (is : List Iface) → All IsEntry is → 0 < k
      → Piece x p (placed entry_text part_size k is)
      → Piece x (place_of x k) (placed part_text part_size k is)
      → q ≡ p + length (placed entry_text part_size k is)
      → ListStands (EntryStands x) p is q
  entries_stand =
      paired (word_at x 28) entry_text part_text part_size IsEntry (EntryStands x)
      length_part_text entry_stands
