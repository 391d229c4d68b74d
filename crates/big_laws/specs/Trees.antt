-- The syntax tree of the IDL file of `big N`.
use Rattle.std.specs.Prelude.{ℕ, zero, suc, ◌+◌, ◌*◌, ◌-◌, ◌==◌, List, [], ◌∷◌, ◌++◌, Option, Some, None, get_or, codes, if◌then◌else◌}
use Rattle.xp_base.specs.Digits.{hex_digits_fixed}
use Rattle.xp_base.specs.declared.kinds.Dir.TheVariants.{Inward}
use Rattle.idl_grammar.specs.declared.tree.Attr.{Attr}
use Rattle.idl_grammar.specs.declared.tree.AttrValue.TheVariants as value
use Rattle.idl_grammar.specs.declared.tree.ClosedFile.{ClosedFile}
use Rattle.idl_grammar.specs.declared.tree.IdlFile.{IdlFile}
use Rattle.idl_grammar.specs.declared.tree.Interface.{Interface}
use Rattle.idl_grammar.specs.declared.tree.Item.{Item}
use Rattle.idl_grammar.specs.declared.tree.ItemBody.TheVariants as item
use Rattle.idl_grammar.specs.declared.tree.Member.{Member}
use Rattle.idl_grammar.specs.declared.tree.MemberBody.TheVariants as member
use Rattle.idl_grammar.specs.declared.tree.ParamDecl.{ParamDecl}
use Rattle.idl_grammar.specs.declared.tree.TypeName.{TypeName}
use Rattle.idl_grammar.specs.declared.tree.TypeName.TheVariants as type
use Rattle.big_texts.specs.Idl.{iface_name, param_count, type_number}
use Rattle.big_texts.specs.Pieces.{decimal}

-- what f gives of so many numbers, from this one on
abbrev pub listed : {A : Type 0} → (f : ℕ → A) → (from count : ℕ) → List A
listed f from zero = []
listed f from (suc n) = f from ∷ listed f (suc from) n

-- the types that parameters have, in turn
abbrev pub type_names : List TypeName
type_names =
    type.Boolean ∷ type.Octet ∷ type.Short ∷ type.Long ∷ type.LongLong ∷ type.Float
    ∷ type.Double ∷ type.CString ∷ []

-- the parameter j of the method i
abbrev pub big_param : (i j : ℕ) → ParamDecl
big_param i j = record {
  attrs = [];
  dir = Inward;
  of = get_or type_names (type_number i j) type.Void;
  name = codes "a" ++ decimal j;
}

-- An interface fills four lines. Its attributes stand on the first, and its method on the third.
abbrev pub big_member : (i : ℕ) → Member
big_member i = record {
  line = 4 * i + 3;
  body = member.Method [] type.Long (codes "m" ++ decimal i)
      (listed (big_param i) 0 (param_count i));
}

-- `scriptable`, and the identifier
abbrev pub big_attributes : (i : ℕ) → List Attr
big_attributes i =
    record { name = codes "scriptable"; value = value.Absent }
    ∷ record {
      name = codes "uuid";
      value = value.Iid (hex_digits_fixed 8 (i + 1) ++ codes "-0000-4000-8000-000000000000");
    } ∷ []

-- the interface 0 has no parent
abbrev pub parent_name : (i : ℕ) → Option (List ℕ)
parent_name i = if i == 0 then None else Some (iface_name (i - 1))

abbrev pub big_iface : (i : ℕ) → Interface
big_iface i = record {
  attrs = big_attributes i;
  name = iface_name i;
  parent = parent_name i;
  members = big_member i ∷ [];
}

abbrev pub big_item : (i : ℕ) → Item
big_item i = record { line = 4 * i + 1; body = item.Interface (big_iface i) }

-- the tree of the file with so many interfaces
abbrev pub big_tree : (count : ℕ) → IdlFile
big_tree count = record { items = listed big_item 0 count }

-- the one file of `big`, under its name
abbrev pub big_files : (last : ℕ) → List ClosedFile
big_files last = record { name = codes "big.idl"; file = big_tree (last + 1) } ∷ []
