-- Libraries whose bytes were worked out from the format and not by this definition.
use Rattle.std.proofs.Common.{◌≡◌, ℕ, [], ◌∷◌, Some, None, pos, arith, inl, refl}
use Rattle.std.specs.Int.RustNames.{bit_and}
use Rattle.xp_base.specs.declared.kinds.ConstKind.TheVariants as kinds
use Rattle.lib_model.specs.declared.contents.Iface.{Iface}
use Rattle.lib_model.specs.declared.contents.Library.{Library}
use Rattle.lib_model.specs.declared.contents.Method.{Method}
use Rattle.lib_model.specs.declared.param_types.Param.{Param}
use Rattle.lib_model.specs.declared.param_types.Elem.TheVariants as elems
use Rattle.lib_model.specs.declared.param_types.XType.TheVariants as types
use Rattle.lib_model.specs.Emit.{constant_text, descriptor_text, directory_text, elem_text, emit, entry_text, four_bytes, header_text, member_names, method_text, name_text, param_text, part_size, part_text, pool_text, two_bytes, type_text}
use Rattle.lib_model.specs.Valid.{AreKnownBits, IsMethod, IsParam, IsValid, iface_bits, method_bits}
use Rattle.lib_model.proofs.OneAlone.{all_alone, alone_valid}
use Rattle.lib_model.proofs.ValidFacts.{name_from_bytes}

-- an interface with one method of one number of 32 bits: 88 bytes
abbrev number_param : Param
number_param = record { flags = record { bits = 128 }; ty = types.Plain 2 }

abbrev one_number : Method
one_number = record { name = 102 ∷ []; flags = record { bits = 0 }; params = number_param ∷ [] }

abbrev one_method_iface : Iface
one_method_iface = record {
  name = 110 ∷ 115 ∷ 73 ∷ 65 ∷ [];
  namespace = None;
  iid = 0 ∷ 0 ∷ 0 ∷ 1 ∷ 0 ∷ 2 ∷ 0 ∷ 3 ∷ 4 ∷ 5 ∷ 6 ∷ 7 ∷ 8 ∷ 9 ∷ 10 ∷ 11 ∷ [];
  body = Some (record {
    parent = 0;
    methods = one_number ∷ [];
    constants = [];
    flags = record { bits = 0 };
  });
}

abbrev pub one_method : Library
one_method = record { ifaces = one_method_iface ∷ [] }

emit-one-method : emit one_method ≡ 88 ∷ 80 ∷ 67 ∷ 79 ∷ 77 ∷ 10 ∷ 84 ∷ 121 ∷ 112 ∷ 101 ∷ 76 ∷ 105 ∷ 98 ∷ 13 ∷ 10
    ∷ 26 ∷ 1 ∷ 2 ∷ 0 ∷ 1 ∷ 0 ∷ 0 ∷ 0 ∷ 88 ∷ 0 ∷ 0 ∷ 0 ∷ 37 ∷ 0 ∷ 0 ∷ 0 ∷ 64 ∷ 128 ∷ 0 ∷ 0 ∷ 0 ∷ 0
    ∷ 0 ∷ 0 ∷ 1 ∷ 0 ∷ 2 ∷ 0 ∷ 3 ∷ 4 ∷ 5 ∷ 6 ∷ 7 ∷ 8 ∷ 9 ∷ 10 ∷ 11 ∷ 0 ∷ 0 ∷ 0 ∷ 1 ∷ 0 ∷ 0 ∷ 0 ∷ 0
    ∷ 0 ∷ 0 ∷ 0 ∷ 8 ∷ 110 ∷ 115 ∷ 73 ∷ 65 ∷ 0 ∷ 102 ∷ 0 ∷ 0 ∷ 0 ∷ 0 ∷ 1 ∷ 0 ∷ 0 ∷ 0 ∷ 0 ∷ 6 ∷ 1
    ∷ 128 ∷ 2 ∷ 0 ∷ 6 ∷ 0 ∷ 0 ∷ 0 ∷ []
unfolding emit header_text directory_text pool_text entry_text part_text part_size descriptor_text member_names method_text constant_text name_text param_text type_text elem_text two_bytes four_bytes
emit-one-method = refl

-- an interface with a parent and an array, whose size and length two other parameters tell: 204
-- bytes
abbrev parent : Library
parent = record {
  ifaces = (record {
    name = 110 ∷ 115 ∷ 73 ∷ 83 ∷ 117 ∷ 112 ∷ 112 ∷ 111 ∷ 114 ∷ 116
        ∷ 115 ∷ [];
    namespace = None;
    iid = 0 ∷ 0 ∷ 0 ∷ 0 ∷ 0 ∷ 0 ∷ 0 ∷ 0 ∷ 192 ∷ 0 ∷ 0 ∷ 0 ∷ 0 ∷ 0 ∷ 0
        ∷ 70 ∷ [];
    body = Some (record {
      parent = 0;
      methods = (record {
        name = 81 ∷ 117 ∷ 101 ∷ 114
            ∷ 121 ∷ 73 ∷ 110 ∷ 116 ∷ 101 ∷ 114 ∷ 102 ∷ 97 ∷ 99 ∷ 101
            ∷ [];
        flags = record { bits = 0 };
        params = (record { flags = record { bits = 128 }; ty = types.Plain 14 })
            ∷ (record { flags = record { bits = 96 }; ty = types.IidIs 0 }) ∷ [];
      }) ∷ (record {
        name = 65
            ∷ 100 ∷ 100 ∷ 82 ∷ 101 ∷ 102 ∷ [];
        flags = record { bits = 40 };
        params = [];
      })
          ∷ (record {
            name = 82 ∷ 101 ∷ 108 ∷ 101 ∷ 97 ∷ 115 ∷ 101
                ∷ [];
            flags = record { bits = 40 };
            params = [];
          })
          ∷ [];
      constants = [];
      flags = record { bits = 128 };
    });
  }) ∷ (record {
    name = 110 ∷ 115 ∷ 73 ∷ 80
        ∷ [];
    namespace = None;
    iid = 0 ∷ 0 ∷ 0 ∷ 1 ∷ 0 ∷ 0 ∷ 0 ∷ 0 ∷ 192 ∷ 0 ∷ 0 ∷ 0 ∷ 0 ∷ 0 ∷ 0 ∷ 70
        ∷ [];
    body = Some (record {
      parent = 1;
      methods = (record {
        name = 112 ∷ 97 ∷ 114 ∷ 116
            ∷ [];
        flags = record { bits = 0 };
        params = (record { flags = record { bits = 128 }; ty = types.Plain 6 })
            ∷ (record { flags = record { bits = 64 }; ty = types.Plain 6 })
            ∷ (record { flags = record { bits = 64 }; ty = types.Array 0 1 (elems.Plain 1) }) ∷ [];
      })
          ∷ [];
      constants = [];
      flags = record { bits = 128 };
    });
  }) ∷ [];
}

emit-parent : emit parent ≡ 88 ∷ 80 ∷ 67 ∷ 79 ∷ 77 ∷ 10 ∷ 84 ∷ 121 ∷ 112 ∷ 101 ∷ 76 ∷ 105 ∷ 98 ∷ 13
    ∷ 10 ∷ 26 ∷ 1 ∷ 2 ∷ 0 ∷ 2 ∷ 0 ∷ 0 ∷ 0 ∷ 204 ∷ 0 ∷ 0 ∷ 0 ∷ 37 ∷ 0 ∷ 0 ∷ 0 ∷ 92 ∷ 128 ∷ 0 ∷ 0 ∷ 0
    ∷ 0 ∷ 0 ∷ 0 ∷ 0 ∷ 0 ∷ 0 ∷ 0 ∷ 0 ∷ 192 ∷ 0 ∷ 0 ∷ 0 ∷ 0 ∷ 0 ∷ 0 ∷ 70 ∷ 0 ∷ 0 ∷ 0 ∷ 1 ∷ 0 ∷ 0 ∷ 0
    ∷ 0 ∷ 0 ∷ 0 ∷ 0 ∷ 43 ∷ 0 ∷ 0 ∷ 0 ∷ 1 ∷ 0 ∷ 0 ∷ 0 ∷ 0 ∷ 192 ∷ 0 ∷ 0 ∷ 0 ∷ 0 ∷ 0 ∷ 0 ∷ 70 ∷ 0 ∷ 0
    ∷ 0 ∷ 79 ∷ 0 ∷ 0 ∷ 0 ∷ 0 ∷ 0 ∷ 0 ∷ 0 ∷ 89 ∷ 110 ∷ 115 ∷ 73 ∷ 83 ∷ 117 ∷ 112 ∷ 112 ∷ 111 ∷ 114
    ∷ 116 ∷ 115 ∷ 0 ∷ 81 ∷ 117 ∷ 101 ∷ 114 ∷ 121 ∷ 73 ∷ 110 ∷ 116 ∷ 101 ∷ 114 ∷ 102 ∷ 97 ∷ 99 ∷ 101
    ∷ 0 ∷ 65 ∷ 100 ∷ 100 ∷ 82 ∷ 101 ∷ 102 ∷ 0 ∷ 82 ∷ 101 ∷ 108 ∷ 101 ∷ 97 ∷ 115 ∷ 101 ∷ 0 ∷ 0 ∷ 0
    ∷ 0 ∷ 3 ∷ 0 ∷ 0 ∷ 0 ∷ 0 ∷ 13 ∷ 2 ∷ 128 ∷ 142 ∷ 96 ∷ 147 ∷ 0 ∷ 0 ∷ 6 ∷ 40 ∷ 0 ∷ 0 ∷ 0 ∷ 28 ∷ 0
    ∷ 0 ∷ 6 ∷ 40 ∷ 0 ∷ 0 ∷ 0 ∷ 35 ∷ 0 ∷ 0 ∷ 6 ∷ 0 ∷ 0 ∷ 128 ∷ 110 ∷ 115 ∷ 73 ∷ 80 ∷ 0 ∷ 112 ∷ 97
    ∷ 114 ∷ 116 ∷ 0 ∷ 0 ∷ 1 ∷ 0 ∷ 1 ∷ 0 ∷ 0 ∷ 0 ∷ 0 ∷ 84 ∷ 3 ∷ 128 ∷ 6 ∷ 64 ∷ 6 ∷ 64 ∷ 148 ∷ 0 ∷ 1
    ∷ 1 ∷ 0 ∷ 6 ∷ 0 ∷ 0 ∷ 128 ∷ []
unfolding emit header_text directory_text pool_text entry_text part_text part_size descriptor_text member_names method_text constant_text name_text param_text type_text elem_text two_bytes four_bytes
emit-parent = refl

-- an interface with a constant: 85 bytes
abbrev constant : Library
constant = record {
  ifaces = (record {
    name = 110 ∷ 115 ∷ 73 ∷ 75 ∷ [];
    namespace = None;
    iid = 0
        ∷ 0 ∷ 0 ∷ 1 ∷ 0 ∷ 0 ∷ 0 ∷ 0 ∷ 0 ∷ 0 ∷ 0 ∷ 0 ∷ 0 ∷ 0 ∷ 0 ∷ 0
        ∷ [];
    body = Some (record {
      parent = 0;
      methods = [];
      constants = (record {
        name = 107
            ∷ [];
        kind = kinds.I16;
        value = pos 10;
      }) ∷ [];
      flags = record { bits = 0 };
    });
  }) ∷ [];
}

emit-constant : emit constant ≡ 88 ∷ 80 ∷ 67 ∷ 79 ∷ 77 ∷ 10 ∷ 84 ∷ 121 ∷ 112 ∷ 101 ∷ 76 ∷ 105 ∷ 98
    ∷ 13 ∷ 10 ∷ 26 ∷ 1 ∷ 2 ∷ 0 ∷ 1 ∷ 0 ∷ 0 ∷ 0 ∷ 85 ∷ 0 ∷ 0 ∷ 0 ∷ 37 ∷ 0 ∷ 0 ∷ 0 ∷ 64 ∷ 128 ∷ 0 ∷ 0
    ∷ 0 ∷ 0 ∷ 0 ∷ 0 ∷ 1 ∷ 0 ∷ 0 ∷ 0 ∷ 0 ∷ 0 ∷ 0 ∷ 0 ∷ 0 ∷ 0 ∷ 0 ∷ 0 ∷ 0 ∷ 0 ∷ 0 ∷ 0 ∷ 1 ∷ 0 ∷ 0 ∷ 0
    ∷ 0 ∷ 0 ∷ 0 ∷ 0 ∷ 8 ∷ 110 ∷ 115 ∷ 73 ∷ 75 ∷ 0 ∷ 107 ∷ 0 ∷ 0 ∷ 0 ∷ 0 ∷ 0 ∷ 0 ∷ 1 ∷ 0 ∷ 0 ∷ 0 ∷ 6
    ∷ 1 ∷ 0 ∷ 10 ∷ 0 ∷ []
unfolding emit header_text directory_text pool_text entry_text part_text part_size descriptor_text member_names method_text constant_text name_text param_text type_text elem_text two_bytes four_bytes
emit-constant = refl

-- no bits at all are known ones, whichever are known
no_bits : (known : ℕ) → bit_and 0 known ≡ 0 → AreKnownBits known 0
no_bits known none = record { byte = omega arith; known_alone = none }

number_is_valid : IsMethod 1 one_number
number_is_valid = record {
  name = name_from_bytes (102 ∷ []) (omega arith) (omega arith) refl;
  flags = no_bits method_bits refl;
  few = omega arith;
  params = all_alone (IsParam 1 (number_param ∷ [])) number_param (record {
    flags = record { byte = omega arith; known_alone = refl };
    ty = inl (omega arith);
  });
}

pub one_method_is_valid : IsValid one_method
one_method_is_valid =
    alone_valid one_method_iface
    (record {
      name = name_from_bytes (110 ∷ 115 ∷ 73 ∷ 65 ∷ []) (omega arith) (omega arith) refl;
      namespace = tt;
      iid = refl;
      body = record {
        parent = inl refl;
        methods = all_alone (IsMethod 1) one_number number_is_valid;
        few_constants = omega arith;
        constants = λ k d h. absurd (omega (arith, h));
        flags = no_bits iface_bits refl;
      };
    })
    refl
    (omega arith)
    (omega arith)
