-- A lawful file has few enough parts to be numbered.
use Rattle.std.proofs.Common.{ℕ, ◌<◌, ◌^◌, List, [], ◌∷◌, length, arith}
use Rattle.std.specs.Prelude.{All}
use Rattle.std.proofs.lemmas.List.Elements.{All-head, All-tail}
use Rattle.idl_grammar.specs.declared.tree.ClosedFile.{ClosedFile}
use Rattle.idl_grammar.specs.declared.tree.IdlFile.{IdlFile}
use Rattle.idl_grammar.specs.declared.tree.Item.{Item}
use Rattle.idl_grammar.specs.declared.tree.ItemBody.{ItemBody}
use Rattle.idl_grammar.specs.declared.tree.ItemBody.TheVariants as item
use Rattle.idl_grammar.specs.declared.tree.Member.{Member}
use Rattle.idl_grammar.specs.declared.tree.MemberBody.{MemberBody}
use Rattle.idl_grammar.specs.declared.tree.MemberBody.TheVariants as member
use Rattle.idl_grammar.specs.Texts.{IsLawfulFile}
use Rattle.idl_grammar.specs.Trees.{IsItemBody, IsMemberBody}
use Rattle.idl_grammar.proofs.TreeMade.{tree-made}
use Rattle.idl_grammar.specs.ClosedFiles.{AreLawfulFiles}
use Rattle.idl_meaning.specs.Counted.{IsCountedMember, AreCountedMembers, IsCountedItem, AreCountedItems, AreCountedFiles}

module _ (most : ℕ) (low : most < 2 ^ 32) where
  member-counted : (m : MemberBody) → IsMemberBody most m → IsCountedMember m
  member-counted (member.Method attrs of name params) h = let few = h.3.few in omega arith
  member-counted member.Code h = tt
  member-counted (member.Constant of name value) h = tt
  member-counted (member.Attribute attrs readonly of name) h = tt

  members-counted : (ms : List Member) → All (λ (one : Member). IsMemberBody most one.body) ms → AreCountedMembers ms
  members-counted [] h = tt
  members-counted (m ∷ ms) h = (
    member-counted m.body (All-head (λ (one : Member). IsMemberBody most one.body) m ms h),
    members-counted ms (All-tail (λ (one : Member). IsMemberBody most one.body) m ms h),
  )

  item-counted : (d : ItemBody) → IsItemBody most d → IsCountedItem d
  item-counted (item.Interface i) h = (let few = h.members.few in omega arith, members-counted i.members h.members.each)
  item-counted (item.Include name) h = tt
  item-counted item.Code h = tt
  item-counted (item.Typedef of name) h = tt
  item-counted (item.Native attrs name text) h = tt
  item-counted (item.Forward name) h = tt

  items-counted : (items : List Item) → All (λ (one : Item). IsItemBody most one.body) items → AreCountedItems items
  items-counted [] h = tt
  items-counted (x ∷ items) h = (
    item-counted x.body (All-head (λ (one : Item). IsItemBody most one.body) x items h),
    items-counted items (All-tail (λ (one : Item). IsItemBody most one.body) x items h),
  )

file-counted : (tree : IdlFile) → IsLawfulFile tree → AreCountedItems tree.items
file-counted tree h = items-counted (length h.has.tokens) h.few tree.items (tree-made h.bytes tree h.has).each

pub files-counted : (files : List ClosedFile) → AreLawfulFiles files → AreCountedFiles files
files-counted [] h = tt
files-counted (f ∷ files) h = (
  file-counted f.file (All-head (λ (one : ClosedFile). IsLawfulFile one.file) f files h),
  files-counted files (All-tail (λ (one : ClosedFile). IsLawfulFile one.file) f files h),
)
