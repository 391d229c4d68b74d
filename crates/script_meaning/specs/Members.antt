-- The members of interfaces that lines name, and the objects that have them.
use Rattle.std.specs.Prelude.{ℕ, List, slice_get, if◌then◌else◌, Option, Some, None, Result, Ok, Err}
use Rattle.call_model.specs.declared.prototypes.MemberKind.{MemberKind}
use Rattle.call_model.specs.declared.prototypes.MemberKind.TheVariants as kinds
use Rattle.call_model.specs.declared.prototypes.ProtoArg.{ProtoArg}
use Rattle.call_model.specs.declared.prototypes.Status.{Status}
use Rattle.call_model.specs.declared.prototypes.Status.TheVariants as statuses
use Rattle.call_model.specs.declared.tables.Table.{Table}
use Rattle.call_model.specs.Tables.{descends_from, iface_named, member_of, slots_of}
use Rattle.call_scripts.specs.declared.script.MemberRef.{MemberRef}
use Rattle.call_scripts.specs.declared.script.MemberWord.{MemberWord}
use Rattle.call_scripts.specs.declared.script.MemberWord.TheVariants as words
use Rattle.transcript_text.specs.declared.refusals.Refusal.{Refusal}
use Rattle.transcript_text.specs.declared.refusals.Refusal.TheVariants as refusal
use Rattle.call_replies.specs.Blocks.{Block}
use Rattle.script_meaning.specs.Refusing.{◌then◌, require, there_is}
use Rattle.script_meaning.specs.State.{iface_in, is_object}

-- a member that may be called: the number of the interface that the line names, the slot, and the
-- prototype
pub record Member : Type 0 where
  pub iface : ℕ
  pub slot : ℕ
  pub proto : List ProtoArg

abbrev pub kind_of : MemberWord → MemberKind
kind_of words.Plain = kinds.Plain
kind_of words.Get = kinds.Get
kind_of words.Set = kinds.Set

-- a method that may be called has its prototype
abbrev pub callable : Status → List ProtoArg → Result (List ProtoArg) Refusal
callable statuses.Callable proto = Ok proto
callable statuses.Hidden proto = Err refusal.Hidden
callable statuses.NotXpcom proto = Err refusal.NotXpcom
callable statuses.Opaque proto = Err refusal.Opaque

abbrev pub slot_named : Table → (iface : ℕ) → MemberRef → Option ℕ
slot_named table iface member = member_of table iface (kind_of member.kind) member.name

unfoldable pub member_named : Table → MemberRef → Result Member Refusal
member_named table member =
    there_is (iface_named table member.iface) refusal.NoInterface
    then λ iface. there_is (slot_named table iface member) refusal.NoMethod
    then λ slot. there_is (slice_get (slots_of table iface) slot) refusal.NoMethod
    then λ entry. callable entry.status entry.proto
    then λ proto. Ok (record { iface = iface; slot = slot; proto = proto })

-- the object has the members of an interface: its own is this one, or descends from it
abbrev pub object_of : Table → (iface : ℕ) → Option Block → Result Block Refusal
object_of table iface found =
    there_is found refusal.NotAnObject
    then λ b. require (descends_from table (iface_in b.held) iface) refusal.WrongInterface
    then λ _. Ok b

-- the block, where it is an object
abbrev pub as_object : Block → Option Block
as_object b = if is_object b.held then Some b else None
