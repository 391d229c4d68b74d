-- A library of one interface that has nothing but constants is valid.
use Rattle.std.proofs.Common.{◌≡◌, ℕ, pos, ◌<◌, ◌≤◌, List, [], ◌∷◌, length, None, Some, arith, inl, refl, subst, sym}
use Rattle.std.specs.Prelude.{All, replicate}
use Rattle.std.proofs.lemmas.List.Sums.{sum_by-cons}
use Rattle.xp_base.specs.declared.kinds.ConstKind.TheVariants as kinds
use Rattle.lib_model.specs.declared.contents.Constant.{Constant}
use Rattle.lib_model.specs.declared.contents.Iface.{Iface}
use Rattle.lib_model.specs.Valid.{AreKnownBits, IsChain, IsConstant, IsIface, IsName, IsValid, first_of_chain, iface_bits, iface_items}
use Rattle.lib_model.proofs.ValidFacts.{name_from_bytes}
use Rattle.lib_model.proofs.OneAlone.{alone_valid}

abbrev constants_iface : List ℕ → List ℕ → List Constant → Iface
constants_iface name iid constants = record {
  name = name;
  namespace = None;
  iid = iid;
  body = Some (record {
    parent = 0;
    methods = [];
    constants = constants;
    flags = record { bits = 0 };
  });
}

no_bits : AreKnownBits iface_bits 0
no_bits = record { byte = omega arith; known_alone = refl }

pub constants_valid : (name iid : List ℕ) (constants : List Constant) → IsName name
    → length iid ≡ 16 → All IsConstant constants → length constants ≤ 65535
    → IsValid (record { ifaces = constants_iface name iid constants ∷ [] })
constants_valid name iid constants is_name iid_len are few =
    alone_valid (constants_iface name iid constants)
    (record {
      name = is_name;
      namespace = tt;
      iid = iid_len;
      body = record {
        parent = inl refl;
        methods = λ k d h. absurd (omega (arith, h));
        few_constants = few;
        constants = are;
        flags = no_bits;
      };
    })
    refl
    (omega arith)
    (omega (arith, few))

-- a constant of a lawful name whose value is 10
pub ten_named : (name copied : List ℕ) → copied ≡ name → IsName name
    → IsConstant (record { name = copied; kind = kinds.I16; value = pos 10 })
ten_named name copied same is_name = record {
  name = subst IsName (sym same) is_name;
  value = record { sfits = omega arith };
}

-- the names of the interface, and of the constants of the two libraries
pub interface_name : IsName (110 ∷ 115 ∷ 73 ∷ 75 ∷ [])
interface_name =
    name_from_bytes (110 ∷ 115 ∷ 73 ∷ 75 ∷ []) (omega arith) (omega arith) refl

pub short_name : IsName (107 ∷ [])
short_name = name_from_bytes (107 ∷ []) (omega arith) (omega arith) refl

pub long_name : IsName (replicate 255 107)
long_name = name_from_bytes (replicate 255 107) (omega arith) (omega arith) refl
