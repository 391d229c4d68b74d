-- Names that were begun, and names that items include.
use Rattle.std.specs.Prelude.{ℕ, Bool, List, [], ◌∷◌, ◌++◌, if◌then◌else◌}
use Rattle.std.specs.List.{list_any}
use Rattle.std.specs.Str.{bytes_eq}
use Rattle.idl_grammar.specs.declared.tree.Item.{Item}
use Rattle.idl_grammar.specs.declared.tree.ItemBody.{ItemBody}
use Rattle.idl_grammar.specs.declared.tree.ItemBody.TheVariants as item

-- the name was begun
abbrev pub is_begun : List (List ℕ) → List ℕ → Bool
is_begun begun name = list_any (bytes_eq name) begun

-- the names with this one last, where it was not begun
abbrev pub with_name : List (List ℕ) → List ℕ → List (List ℕ)
with_name begun name = if is_begun begun name then begun else begun ++ name ∷ []

-- the name that an item includes
abbrev pub included : ItemBody → List (List ℕ)
included (item.Include name) = name ∷ []
included _ = []

-- the names that items include, in order of mention
abbrev pub includes : List Item → List (List ℕ)
includes [] = []
includes (i ∷ items) = included i.body ++ includes items
