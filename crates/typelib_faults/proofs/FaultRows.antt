-- Files and their first faults, worked out from the format: the 88 bytes of an interface with one method, and small changes of them.
use Rattle.std.proofs.Common.{◌≡◌, [], ◌∷◌, ℕ, List, Option, Some, None, replicate, set, take, refl}
use Rattle.lib_model.specs.declared.contents.Iface.{Iface}
use Rattle.lib_model.proofs.Examples.{one_method as one_method_library}
use Rattle.lib_model.specs.Valid.{first_of_chain}
use Rattle.typelib_faults.specs.declared.faults.BadTypelib.{BadTypelib}
use Rattle.typelib_faults.specs.Faults.{annotations_fault, body_fault, items_after, chain_fault, constant_fault, descriptor_fault, elem_form_fault, entry_fault, first_fault, form_fault, header_fault, method_fault, name_fault, namespace_fault, param_fault, parent_fault, result_fault, type_fault}
use Rattle.typelib_faults.specs.Places.{body_at, constant_at, constant_end, descriptor_at, elem_at, entry_at, library_of, method_at, method_end, name_at, namespace_at, type_at}

abbrev one_method : List ℕ
one_method = 88 ∷ 80 ∷ 67 ∷ 79 ∷ 77 ∷ 10 ∷ 84 ∷ 121 ∷ 112 ∷ 101 ∷ 76 ∷ 105 ∷ 98 ∷ 13 ∷ 10 ∷ 26 ∷ 1 ∷ 2 ∷ 0 ∷ 1 ∷ 0 ∷ 0 ∷ 0 ∷ 88 ∷ 0 ∷ 0 ∷ 0 ∷ 37 ∷ 0 ∷ 0 ∷ 0 ∷ 64 ∷ 128 ∷ 0 ∷ 0 ∷ 0 ∷ 0 ∷ 0 ∷ 0 ∷ 1 ∷ 0 ∷ 2 ∷ 0 ∷ 3 ∷ 4 ∷ 5 ∷ 6 ∷ 7 ∷ 8 ∷ 9 ∷ 10 ∷ 11 ∷ 0 ∷ 0 ∷ 0 ∷ 1 ∷ 0 ∷ 0 ∷ 0 ∷ 0 ∷ 0 ∷ 0 ∷ 0 ∷ 8 ∷ 110 ∷ 115 ∷ 73 ∷ 65 ∷ 0 ∷ 102 ∷ 0 ∷ 0 ∷ 0 ∷ 0 ∷ 1 ∷ 0 ∷ 0 ∷ 0 ∷ 0 ∷ 6 ∷ 1 ∷ 128 ∷ 2 ∷ 0 ∷ 6 ∷ 0 ∷ 0 ∷ 0 ∷ []

abbrev fault : ℕ → ℕ → Option BadTypelib
fault code place = Some (record { code = code; at = place })

fine : first_fault one_method ≡ None
unfolding first_fault header_fault annotations_fault name_fault namespace_fault elem_form_fault form_fault type_fault param_fault result_fault method_fault constant_fault parent_fault descriptor_fault body_fault items_after entry_fault chain_fault elem_at type_at name_at namespace_at method_at method_end constant_at constant_end descriptor_at body_at entry_at first_of_chain
fine = refl

too-short : first_fault (take 31 one_method) ≡ fault 1 31
unfolding first_fault header_fault annotations_fault name_fault namespace_fault elem_form_fault form_fault type_fault param_fault result_fault method_fault constant_fault parent_fault descriptor_fault body_fault items_after entry_fault chain_fault elem_at type_at name_at namespace_at method_at method_end constant_at constant_end descriptor_at body_at entry_at first_of_chain
too-short = refl

another-magic : first_fault (set one_method 0 89) ≡ fault 2 0
unfolding first_fault header_fault annotations_fault name_fault namespace_fault elem_form_fault form_fault type_fault param_fault result_fault method_fault constant_fault parent_fault descriptor_fault body_fault items_after entry_fault chain_fault elem_at type_at name_at namespace_at method_at method_end constant_at constant_end descriptor_at body_at entry_at first_of_chain
another-magic = refl

another-version : first_fault (set one_method 17 1) ≡ fault 3 16
unfolding first_fault header_fault annotations_fault name_fault namespace_fault elem_form_fault form_fault type_fault param_fault result_fault method_fault constant_fault parent_fault descriptor_fault body_fault items_after entry_fault chain_fault elem_at type_at name_at namespace_at method_at method_end constant_at constant_end descriptor_at body_at entry_at first_of_chain
another-version = refl

another-length : first_fault (set one_method 23 89) ≡ fault 4 20
unfolding first_fault header_fault annotations_fault name_fault namespace_fault elem_form_fault form_fault type_fault param_fault result_fault method_fault constant_fault parent_fault descriptor_fault body_fault items_after entry_fault chain_fault elem_at type_at name_at namespace_at method_at method_end constant_at constant_end descriptor_at body_at entry_at first_of_chain
another-length = refl

another-annotation : first_fault (set one_method 32 130) ≡ fault 5 32
unfolding first_fault header_fault annotations_fault name_fault namespace_fault elem_form_fault form_fault type_fault param_fault result_fault method_fault constant_fault parent_fault descriptor_fault body_fault items_after entry_fault chain_fault elem_at type_at name_at namespace_at method_at method_end constant_at constant_end descriptor_at body_at entry_at first_of_chain
another-annotation = refl

annotation-past : first_fault (set (take 32 one_method) 23 32) ≡ fault 5 32
unfolding first_fault header_fault annotations_fault name_fault namespace_fault elem_form_fault form_fault type_fault param_fault result_fault method_fault constant_fault parent_fault descriptor_fault body_fault items_after entry_fault chain_fault elem_at type_at name_at namespace_at method_at method_end constant_at constant_end descriptor_at body_at entry_at first_of_chain
annotation-past = refl

no-directory : first_fault (set one_method 27 0) ≡ fault 6 24
unfolding first_fault header_fault annotations_fault name_fault namespace_fault elem_form_fault form_fault type_fault param_fault result_fault method_fault constant_fault parent_fault descriptor_fault body_fault items_after entry_fault chain_fault elem_at type_at name_at namespace_at method_at method_end constant_at constant_end descriptor_at body_at entry_at first_of_chain
no-directory = refl

directory-past : first_fault (set one_method 27 62) ≡ fault 6 24
unfolding first_fault header_fault annotations_fault name_fault namespace_fault elem_form_fault form_fault type_fault param_fault result_fault method_fault constant_fault parent_fault descriptor_fault body_fault items_after entry_fault chain_fault elem_at type_at name_at namespace_at method_at method_end constant_at constant_end descriptor_at body_at entry_at first_of_chain
directory-past = refl

pool-past : first_fault (set one_method 31 89) ≡ fault 7 28
unfolding first_fault header_fault annotations_fault name_fault namespace_fault elem_form_fault form_fault type_fault param_fault result_fault method_fault constant_fault parent_fault descriptor_fault body_fault items_after entry_fault chain_fault elem_at type_at name_at namespace_at method_at method_end constant_at constant_end descriptor_at body_at entry_at first_of_chain
pool-past = refl

no-name : first_fault (set one_method 55 0) ≡ fault 8 52
unfolding first_fault header_fault annotations_fault name_fault namespace_fault elem_form_fault form_fault type_fault param_fault result_fault method_fault constant_fault parent_fault descriptor_fault body_fault items_after entry_fault chain_fault elem_at type_at name_at namespace_at method_at method_end constant_at constant_end descriptor_at body_at entry_at first_of_chain
no-name = refl

namespace-past : first_fault (set one_method 59 255) ≡ fault 8 56
unfolding first_fault header_fault annotations_fault name_fault namespace_fault elem_form_fault form_fault type_fault param_fault result_fault method_fault constant_fault parent_fault descriptor_fault body_fault items_after entry_fault chain_fault elem_at type_at name_at namespace_at method_at method_end constant_at constant_end descriptor_at body_at entry_at first_of_chain
namespace-past = refl

method-name-past : first_fault (set one_method 79 25) ≡ fault 8 76
unfolding first_fault header_fault annotations_fault name_fault namespace_fault elem_form_fault form_fault type_fault param_fault result_fault method_fault constant_fault parent_fault descriptor_fault body_fault items_after entry_fault chain_fault elem_at type_at name_at namespace_at method_at method_end constant_at constant_end descriptor_at body_at entry_at first_of_chain
method-name-past = refl

method-name-empty : first_fault (set one_method 79 5) ≡ fault 8 76
unfolding first_fault header_fault annotations_fault name_fault namespace_fault elem_form_fault form_fault type_fault param_fault result_fault method_fault constant_fault parent_fault descriptor_fault body_fault items_after entry_fault chain_fault elem_at type_at name_at namespace_at method_at method_end constant_at constant_end descriptor_at body_at entry_at first_of_chain
method-name-empty = refl

parent-past : first_fault (set one_method 72 2) ≡ fault 9 71
unfolding first_fault header_fault annotations_fault name_fault namespace_fault elem_form_fault form_fault type_fault param_fault result_fault method_fault constant_fault parent_fault descriptor_fault body_fault items_after entry_fault chain_fault elem_at type_at name_at namespace_at method_at method_end constant_at constant_end descriptor_at body_at entry_at first_of_chain
parent-past = refl

number-past : first_fault (set one_method 82 18) ≡ fault 9 83
unfolding first_fault header_fault annotations_fault name_fault namespace_fault elem_form_fault form_fault type_fault param_fault result_fault method_fault constant_fault parent_fault descriptor_fault body_fault items_after entry_fault chain_fault elem_at type_at name_at namespace_at method_at method_end constant_at constant_end descriptor_at body_at entry_at first_of_chain
number-past = refl

parent-of-itself : first_fault (set one_method 72 1) ≡ fault 10 36
unfolding first_fault header_fault annotations_fault name_fault namespace_fault elem_form_fault form_fault type_fault param_fault result_fault method_fault constant_fault parent_fault descriptor_fault body_fault items_after entry_fault chain_fault elem_at type_at name_at namespace_at method_at method_end constant_at constant_end descriptor_at body_at entry_at first_of_chain
parent-of-itself = refl

unknown-tag : first_fault (set one_method 82 27) ≡ fault 11 82
unfolding first_fault header_fault annotations_fault name_fault namespace_fault elem_form_fault form_fault type_fault param_fault result_fault method_fault constant_fault parent_fault descriptor_fault body_fault items_after entry_fault chain_fault elem_at type_at name_at namespace_at method_at method_end constant_at constant_end descriptor_at body_at entry_at first_of_chain
unknown-tag = refl

unknown-result : first_fault (set one_method 84 27) ≡ fault 11 84
unfolding first_fault header_fault annotations_fault name_fault namespace_fault elem_form_fault form_fault type_fault param_fault result_fault method_fault constant_fault parent_fault descriptor_fault body_fault items_after entry_fault chain_fault elem_at type_at name_at namespace_at method_at method_end constant_at constant_end descriptor_at body_at entry_at first_of_chain
unknown-result = refl

no-such-argument : first_fault (set one_method 82 19) ≡ fault 12 83
unfolding first_fault header_fault annotations_fault name_fault namespace_fault elem_form_fault form_fault type_fault param_fault result_fault method_fault constant_fault parent_fault descriptor_fault body_fault items_after entry_fault chain_fault elem_at type_at name_at namespace_at method_at method_end constant_at constant_end descriptor_at body_at entry_at first_of_chain
no-such-argument = refl

field-past : first_fault (set one_method 80 2) ≡ fault 15 87
unfolding first_fault header_fault annotations_fault name_fault namespace_fault elem_form_fault form_fault type_fault param_fault result_fault method_fault constant_fault parent_fault descriptor_fault body_fault items_after entry_fault chain_fault elem_at type_at name_at namespace_at method_at method_end constant_at constant_end descriptor_at body_at entry_at first_of_chain
field-past = refl

descriptor-past : first_fault (set one_method 63 25) ≡ fault 15 88
unfolding first_fault header_fault annotations_fault name_fault namespace_fault elem_form_fault form_fault type_fault param_fault result_fault method_fault constant_fault parent_fault descriptor_fault body_fault items_after entry_fault chain_fault elem_at type_at name_at namespace_at method_at method_end constant_at constant_end descriptor_at body_at entry_at first_of_chain
descriptor-past = refl

-- the millionth item may be there, and none after it
last-item : param_fault one_method (record { place = 81; items = 999999 }) ≡ None
unfolding param_fault type_fault form_fault type_at
last-item = refl

too-many-items : param_fault one_method (record { place = 81; items = 1000000 }) ≡ fault 13 81
unfolding param_fault
too-many-items = refl

-- an interface with so many methods
abbrev with_methods : ℕ → Iface
with_methods n = record {
  name = [];
  namespace = None;
  iid = [];
  body = Some (record { parent = 0; methods = replicate n (record { name = []; flags = record { bits = 0 }; params = [] }); constants = []; flags = record { bits = 0 } });
}

enough-slots : chain_fault one_method (with_methods 250 ∷ []) 1 ≡ None
unfolding chain_fault first_of_chain
enough-slots = refl

too-many-slots : chain_fault one_method (with_methods 251 ∷ []) 1 ≡ fault 14 36
unfolding chain_fault first_of_chain
too-many-slots = refl

-- the library that is read from the 88 bytes
read : library_of one_method ≡ one_method_library
unfolding library_of entry_at body_at descriptor_at method_at method_end name_at namespace_at type_at
read = refl
