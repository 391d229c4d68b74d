-- What is remembered of the members that lines name.
use Rattle.std.specs.Prelude.{◌≡◌, ◌<◌, ◌&&◌, Bool, true, false, List, [], ◌∷◌, map, Result, Ok, Err}
use Rattle.std.specs.List.{list_any}
use Rattle.std.specs.Str.{bytes_eq}
use Rattle.call_scripts.specs.declared.script.MemberRef.{MemberRef}
use Rattle.call_scripts.specs.declared.script.MemberWord.{MemberWord}
use Rattle.call_scripts.specs.declared.script.MemberWord.TheVariants.{Plain, Get, Set}
use Rattle.invoke_by_index.specs.Methods.{prototype}
use Rattle.lib_model.specs.declared.contents.Library.{Library}
use Rattle.lib_model.specs.Table.{table_of}
use Rattle.object_memory.specs.declared.layout.TheConstants.{SLOTS}
use Rattle.script_meaning.specs.Members.{Member, member_named}
use Rattle.transcript_text.specs.declared.refusals.Refusal.{Refusal}
use Rattle.script_members.specs.declared.found.Found.{Found}
use Rattle.script_members.specs.declared.key.Key.{Key}

-- ---- the words of members

abbrev pub same_word : MemberWord → MemberWord → Bool
same_word Plain Plain = true
same_word Get Get = true
same_word Set Set = true
same_word _ _ = false

abbrev pub is_same : MemberRef → MemberRef → Bool
is_same m n = bytes_eq m.iface n.iface && (same_word m.kind n.kind && bytes_eq m.name n.name)

-- the member that a key stands for
abbrev pub meant : Key → MemberRef
meant k = record { iface = k.iface.now; kind = k.kind; name = k.name.now }

-- ---- answers

-- the member of a table that a found one shows
abbrev pub shown : Found → Member
shown f = record { iface = f.iface; slot = f.method.slot; proto = prototype f.method }

-- what was found is the member of the library's table, and the vtable has its slot
pub record IsFound (lib : Library) (member : MemberRef) (found : Found) : Type 0 where
  pub is : member_named (table_of lib) member ≡ Ok (shown found)
  pub library : found.method.library ≡ lib
  pub slot : found.method.slot < SLOTS

-- an answer is the one that the table gives
abbrev pub Answers : Library → MemberRef → Result Found Refusal → Type 0
Answers lib member (Ok found) = IsFound lib member found
Answers lib member (Err refusal) = member_named (table_of lib) member ≡ Err refusal

-- ---- what is remembered

-- the library, and the members for which an answer is remembered
pub record Remembered : Type 0 where
  pub library : Library
  pub members : List MemberRef

abbrev pub is_among : List MemberRef → MemberRef → Bool
is_among members member = list_any (is_same member) members

abbrev pub remembers : Remembered → MemberRef → Bool
remembers known member = is_among known.members member

abbrev pub asked_for : List (Key × Result Found Refusal) → List MemberRef
asked_for entries = map (λ e. meant e.0) entries

abbrev pub AreTrue : Library → List (Key × Result Found Refusal) → Type 0
AreTrue lib [] = Unit {0}
AreTrue lib (e ∷ entries) = Answers lib (meant e.0) e.1 × AreTrue lib entries
