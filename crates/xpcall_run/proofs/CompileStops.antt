-- Why files are refused, by the stage that refuses them.
use Rattle.std.proofs.Common.{◌≡◌, ℕ, List, Some, inl, inr}
use Rattle.std.specs.Prelude.{slice_get}
use Rattle.idl_grammar.specs.declared.tree.ClosedFile.{ClosedFile}
use Rattle.idl_meaning.specs.declared.scope.ScopeIface.{ScopeIface}
use Rattle.idl_meaning.specs.declared.scope.ScopeMember.{ScopeMember}
use Rattle.idl_meaning.specs.Faults.{Fault, faults_of, first}
use Rattle.idl_meaning.specs.Scopes.{scope_of}
use Rattle.vtable_layout.specs.Layout.{IsFirstTooMany}
use Rattle.prototype_lowering.specs.Limits.{IsFirstWide}
use Rattle.xpcall_run.specs.declared.failures.Failure.{Failure}
use Rattle.prototype_lowering.specs.Accepted.{IsFaultless}
use Rattle.xpcall_run.specs.CompileWork.{HasFewSlots, RefusesFaults, RefusesLibrary, RefusesMeaning, RefusesSlots, RefusesWidth, refused_at}
use Rattle.xpcall_run.specs.Endings.{IsRefused}
use Rattle.xpcall_run.proofs.Fetching.{refused_as}

-- ---- the refusal of a stage

pub meaning_refused : (files : List ClosedFile) (q : Fault) (f : Failure)
    → first (faults_of files) ≡ Some q
    → IsRefused (λ r. r ≡ refused_at files q.code q.file q.decl q.member) f
    → IsRefused (RefusesMeaning files) f
meaning_refused files q f is made =
    refused_as (λ r. r ≡ refused_at files q.code q.file q.decl q.member) (RefusesMeaning files) f
    (λ r named. record { least = q; is_first = is; named = named }) made

pub slots_refused : (files : List ClosedFile) (number : ℕ) (iface : ScopeIface) (f : Failure)
    → IsFirstTooMany (scope_of files).ifaces number
    → slice_get (scope_of files).ifaces number ≡ Some iface
    → IsRefused (λ r. r ≡ refused_at files 15 iface.file iface.decl 0) f
    → IsRefused (RefusesSlots files) f
slots_refused files number iface f is there made =
    refused_as (λ r. r ≡ refused_at files 15 iface.file iface.decl 0) (RefusesSlots files) f
    (λ r named. record { number = number; is_first = is; iface = iface; there = there; named = named }) made

pub width_refused : (files : List ClosedFile) (number place : ℕ) (iface : ScopeIface)
    (member : ScopeMember) (f : Failure)
    → IsFirstWide (scope_of files).ifaces number place
    → slice_get (scope_of files).ifaces number ≡ Some iface
    → slice_get iface.members place ≡ Some member
    → IsRefused (λ r. r ≡ refused_at files 16 iface.file iface.decl member.member) f
    → IsRefused (RefusesWidth files) f
width_refused files number place iface member f is there within made =
    refused_as (λ r. r ≡ refused_at files 16 iface.file iface.decl member.member) (RefusesWidth files) f
    (λ r named. record {
      number = number;
      place = place;
      is_first = is;
      iface = iface;
      there = there;
      member = member;
      within = within;
      named = named;
    }) made

-- ---- and of the whole

pub by_meaning : (files : List ClosedFile) (f : Failure) → IsRefused (RefusesMeaning files) f
    → IsRefused (RefusesFaults files) f
by_meaning files f h = refused_as (RefusesMeaning files) (RefusesFaults files) f (λ r why. inl why) h

pub by_slots : (files : List ClosedFile) (f : Failure) → IsFaultless files
    → IsRefused (RefusesSlots files) f → IsRefused (RefusesFaults files) f
by_slots files f faultless h =
    refused_as (RefusesSlots files) (RefusesFaults files) f (λ r why. inr (faultless, inl why)) h

pub by_library : (files : List ClosedFile) (f : Failure) → IsFaultless files → HasFewSlots files
    → IsRefused (RefusesLibrary files) f → IsRefused (RefusesFaults files) f
by_library files f faultless few h =
    refused_as (RefusesLibrary files) (RefusesFaults files) f
    (λ r why. inr (faultless, inr (few, why))) h
