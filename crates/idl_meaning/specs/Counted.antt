-- What has few enough parts to be numbered in 32 bits, as each file has that was read from tokens.
use Rattle.std.specs.Prelude.{◌^◌, ◌<◌, List, [], ◌∷◌, length}
use Rattle.idl_grammar.specs.declared.tree.ClosedFile.{ClosedFile}
use Rattle.idl_grammar.specs.declared.tree.Item.{Item}
use Rattle.idl_grammar.specs.declared.tree.ItemBody.{ItemBody}
use Rattle.idl_grammar.specs.declared.tree.ItemBody.TheVariants as item
use Rattle.idl_grammar.specs.declared.tree.Member.{Member}
use Rattle.idl_grammar.specs.declared.tree.MemberBody.{MemberBody}
use Rattle.idl_grammar.specs.declared.tree.MemberBody.TheVariants as member

-- a method with fewer than 2^32 parameters
abbrev pub IsCountedMember : MemberBody → Type 0
IsCountedMember (member.Method attrs of name params) = length params < 2 ^ 32
IsCountedMember _ = Unit {0}

abbrev pub AreCountedMembers : List Member → Type 0
AreCountedMembers [] = Unit {0}
AreCountedMembers (m ∷ more) = IsCountedMember m.body × AreCountedMembers more

-- an interface with fewer than 2^32 members
abbrev pub IsCountedItem : ItemBody → Type 0
IsCountedItem (item.Interface i) = (length i.members < 2 ^ 32) × AreCountedMembers i.members
IsCountedItem _ = Unit {0}

abbrev pub AreCountedItems : List Item → Type 0
AreCountedItems [] = Unit {0}
AreCountedItems (x ∷ more) = IsCountedItem x.body × AreCountedItems more

abbrev pub AreCountedFiles : List ClosedFile → Type 0
AreCountedFiles [] = Unit {0}
AreCountedFiles (f ∷ more) = AreCountedItems f.file.items × AreCountedFiles more
