-- Files that are closed have one typelib, or one first fault.
use Rattle.std.proofs.Common.{◌≡◌, ◌⊎◌, ℕ, ◌<◌, Bool, true, false, List, Some, None, inl, inr, refl, sym, ap, ◌∙◌, arith, leb-true, leb-false}
use Rattle.std.specs.Prelude.{nat_le, slice_get}
use Rattle.idl_grammar.specs.declared.tree.ClosedFile.{ClosedFile}
use Rattle.idl_meaning.specs.declared.scope.ScopeIface.{ScopeIface}
use Rattle.idl_meaning.specs.declared.scope.ScopeMember.{ScopeMember}
use Rattle.idl_meaning.specs.Faults.{Fault, faults_of, first}
use Rattle.idl_meaning.specs.Scopes.{scope_of}
use Rattle.vtable_layout.specs.Layout.{IsFirstTooMany}
use Rattle.prototype_lowering.specs.Limits.{IsFirstWide, KeepsLimits, NoneIsWide, is_wide_at}
use Rattle.xpcall_run.specs.declared.failures.Refusal.{Refusal}
use Rattle.prototype_lowering.specs.Accepted.{IsAccepted, IsFaultless, ifaces_in}
use Rattle.xpcall_run.specs.CompileWork.{HasFewSlots, RefusesCounts, RefusesFaults, RefusesLibrary, RefusesMeaning, RefusesShape, RefusesSlots, RefusesWidth, WritesLibrary, compile_work, library_work, refused_at}
use Rattle.xpcall_run.proofs.ClosureLaws.{closes_single}
use Rattle.xpcall_run.specs.Works.{Quietly}
use Rattle.xpcall_run.proofs.Outcomes.{IsSingle, Single, quiet_single, settles_single}

-- ---- of two reasons, the first

-- a reason is given by one refusal
abbrev Once : (Refusal → Type 0) → Type 0
Once part = (r s : Refusal) → part r → part s → r ≡ s

either_once : (part rest : Refusal → Type 0) (past : Type 0) → Once part → Once rest
    → ((r : Refusal) → part r → past → ⊥) → Once (λ r. part r ⊎ (past × rest r))
either_once part rest past one two apart r s (inl p) (inl q) = one r s p q
either_once part rest past one two apart r s (inl p) (inr q) = absurd (apart r p q.0)
either_once part rest past one two apart r s (inr p) (inl q) = absurd (apart s q p.0)
either_once part rest past one two apart r s (inr p) (inr q) = two r s p.1 q.1

-- two numbers of which neither is below the other are one
not_apart : (m n : ℕ) → (m < n → ⊥) → (n < m → ⊥) → m ≡ n
not_apart m n below above = of_test (nat_le m n) (nat_le n m) refl refl where
  of_test : (a b : Bool) → nat_le m n ≡ a → nat_le n m ≡ b → m ≡ n
  of_test true true p q = omega (arith, leb-true m n p, leb-true n m q)
  of_test true false p q = absurd (below (leb-false n m q))
  of_test false b p q = absurd (above (leb-false m n p))

-- ---- codes 1 to 14

meaning_once : (files : List ClosedFile) → Once (RefusesMeaning files)
meaning_once files r s a b =
    let same : a.least ≡ b.least = cc (a.is_first, b.is_first) in
    a.named ∙ ap (λ (q : Fault). refused_at files q.code q.file q.decl q.member) same ∙ sym b.named

meaning_apart : (files : List ClosedFile) (r : Refusal) → RefusesMeaning files r
    → IsFaultless files → ⊥
meaning_apart files r a faultless =
    let none : first (faults_of files) ≡ None = ap first faultless in cc (a.is_first, none)

-- ---- code 15

many_once : (ifaces : List ScopeIface) (j k : ℕ) → IsFirstTooMany ifaces j → IsFirstTooMany ifaces k → j ≡ k
many_once ifaces j k a b =
    not_apart j k (λ lt. let few = b.least j lt in cc (few, a.too_many))
    (λ lt. let few = a.least k lt in cc (few, b.too_many))

iface_once : (ifaces : List ScopeIface) (j k : ℕ) (a b : ScopeIface) → j ≡ k
    → slice_get ifaces j ≡ Some a → slice_get ifaces k ≡ Some b → a ≡ b
iface_once ifaces j k a b same p q =
    let found : slice_get ifaces j ≡ slice_get ifaces k = ap (slice_get ifaces) same in cc (found, p, q)

slots_once : (files : List ClosedFile) → Once (RefusesSlots files)
slots_once files r s a b =
    let number = many_once (ifaces_in files) a.number b.number a.is_first b.is_first in
    let same = iface_once (ifaces_in files) a.number b.number a.iface b.iface number a.there b.there in
    a.named ∙ ap (λ (i : ScopeIface). refused_at files 15 i.file i.decl 0) same ∙ sym b.named

slots_apart : (files : List ClosedFile) (r : Refusal) → RefusesSlots files r → HasFewSlots files → ⊥
slots_apart files r a few = let h = few a.number a.is_first.within in cc (h, a.is_first.too_many)

-- ---- code 16

wide_ifaces_once : (ifaces : List ScopeIface) (j k m n : ℕ) → IsFirstWide ifaces j m
    → IsFirstWide ifaces k n → j ≡ k
wide_ifaces_once ifaces j k m n a b =
    not_apart j k (λ lt. let narrow = b.first_iface j m lt in cc (narrow, a.wide))
    (λ lt. let narrow = a.first_iface k n lt in cc (narrow, b.wide))

wide_at : (ifaces : List ScopeIface) (j k m : ℕ) → j ≡ k → is_wide_at ifaces j m ≡ is_wide_at ifaces k m
wide_at ifaces j k m same = ap (λ i. is_wide_at ifaces i m) same

wide_places_once : (ifaces : List ScopeIface) (j k m n : ℕ) → j ≡ k → IsFirstWide ifaces j m
    → IsFirstWide ifaces k n → m ≡ n
wide_places_once ifaces j k m n same a b =
    not_apart m n (λ lt. let narrow = b.first_member m lt in let e = wide_at ifaces j k m same in cc (narrow, e, a.wide))
    (λ lt. let narrow = a.first_member n lt in let e = wide_at ifaces j k n same in cc (narrow, e, b.wide))

member_once : (i o : ScopeIface) (m n : ℕ) (a b : ScopeMember) → i ≡ o → m ≡ n
    → slice_get i.members m ≡ Some a → slice_get o.members n ≡ Some b → a ≡ b
member_once i o m n a b iface place p q =
    let e : slice_get i.members m ≡ slice_get o.members m = ap (λ (x : ScopeIface). slice_get x.members m) iface in
    let f : slice_get o.members m ≡ slice_get o.members n = ap (slice_get o.members) place in
    cc (e, f, p, q)

width_once : (files : List ClosedFile) → Once (RefusesWidth files)
width_once files r s a b =
    let number = wide_ifaces_once (ifaces_in files) a.number b.number a.place b.place a.is_first b.is_first in
    let place = wide_places_once (ifaces_in files) a.number b.number a.place b.place number a.is_first b.is_first in
    let iface = iface_once (ifaces_in files) a.number b.number a.iface b.iface number a.there b.there in
    let member = member_once a.iface b.iface a.place b.place a.member b.member iface place a.within b.within in
    a.named
    ∙ ap (λ (i : ScopeIface). refused_at files 16 i.file i.decl a.member.member) iface
    ∙ ap (λ (m : ScopeMember). refused_at files 16 b.iface.file b.iface.decl m.member) member
    ∙ sym b.named

width_apart : (files : List ClosedFile) (r : Refusal) → RefusesWidth files r
    → NoneIsWide (ifaces_in files) → ⊥
width_apart files r a narrow = let h = narrow a.number a.place in cc (h, a.is_first.wide)

-- ---- codes 17, 18 and 19

counts_once : (files : List ClosedFile) → Once (RefusesCounts files)
counts_once files r s (inl a) (inl b) = a.1 ∙ sym b.1
counts_once files r s (inl a) (inr b) = absurd (omega (arith, a.0.many, b.0.few))
counts_once files r s (inr a) (inl b) = absurd (omega (arith, a.0.few, b.0.many))
counts_once files r s (inr a) (inr b) = a.1 ∙ sym b.1

counts_narrow : (files : List ClosedFile) (r : Refusal) → RefusesCounts files r
    → NoneIsWide (ifaces_in files)
counts_narrow files r (inl a) = a.0.narrow
counts_narrow files r (inr a) = a.0.narrow

counts_apart : (files : List ClosedFile) (r : Refusal) → RefusesCounts files r
    → KeepsLimits (scope_of files) → ⊥
counts_apart files r (inl a) roomy = omega (arith, a.0.many, roomy.few)
counts_apart files r (inr a) roomy = cc (a.0.many, roomy.few_items)

library_once : (files : List ClosedFile) → Once (RefusesLibrary files)
library_once files r s (inl a) (inl b) = width_once files r s a b
library_once files r s (inl a) (inr (inl b)) = absurd (width_apart files r a (counts_narrow files s b))
library_once files r s (inl a) (inr (inr b)) = absurd (width_apart files r a b.roomy.narrow)
library_once files r s (inr (inl a)) (inl b) = absurd (width_apart files s b (counts_narrow files r a))
library_once files r s (inr (inl a)) (inr (inl b)) = counts_once files r s a b
library_once files r s (inr (inl a)) (inr (inr b)) = absurd (counts_apart files r a b.roomy)
library_once files r s (inr (inr a)) (inl b) = absurd (width_apart files s b a.roomy.narrow)
library_once files r s (inr (inr a)) (inr (inl b)) = absurd (counts_apart files s b a.roomy)
library_once files r s (inr (inr a)) (inr (inr b)) = a.named ∙ sym b.named

library_apart : (files : List ClosedFile) (r : Refusal) → RefusesLibrary files r → IsAccepted files → ⊥
library_apart files r (inl a) is = width_apart files r a is.roomy.narrow
library_apart files r (inr (inl a)) is = counts_apart files r a is.roomy
library_apart files r (inr (inr a)) is = omega (arith, a.long, is.short)

-- ---- all codes

shape_once : (files : List ClosedFile) → Once (RefusesShape files)
shape_once files =
    either_once (RefusesSlots files) (RefusesLibrary files) (HasFewSlots files) (slots_once files)
    (library_once files) (slots_apart files)

shape_apart : (files : List ClosedFile) (r : Refusal) → RefusesShape files r → IsAccepted files → ⊥
shape_apart files r (inl a) is = slots_apart files r a is.roomy.few_slots
shape_apart files r (inr a) is = library_apart files r a.1 is

faults_once : (files : List ClosedFile) → Once (RefusesFaults files)
faults_once files =
    either_once (RefusesMeaning files) (RefusesShape files) (IsFaultless files) (meaning_once files)
    (shape_once files) (meaning_apart files)

faults_apart : (files : List ClosedFile) (r : Refusal) → RefusesFaults files r → IsAccepted files → ⊥
faults_apart files r (inl a) is = meaning_apart files r a is.faultless
faults_apart files r (inr a) is = shape_apart files r a.1 is

library_single : (files : List ClosedFile)
    → IsSingle (Quietly (WritesLibrary files)) (RefusesFaults files)
library_single files =
    quiet_single (WritesLibrary files) (RefusesFaults files) (λ a b w v. w.emitted ∙ sym v.emitted)
    (faults_once files) (λ a r w why. faults_apart files r why w.accepted)

pub compile_single : (roots : List (List ℕ)) → Single (compile_work roots)
compile_single roots = closes_single roots library_work
    (λ files.
    settles_single (Quietly (WritesLibrary files)) (RefusesFaults files) (library_single files))
