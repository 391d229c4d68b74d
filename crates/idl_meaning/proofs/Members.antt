-- The members of an interface without faults, and that more interfaces make no difference to them.
use Rattle.std.proofs.Common.{◌≡◌, ℕ, zero, suc, ◌≤◌, Bool, true, false, List, [], ◌∷◌, ◌++◌, Option, Some, None, refl, sym, ap, ◌∙◌, arith, subst, if◌then◌else◌, ℤ}
use Rattle.std.specs.Prelude.{slice_get, is_some, not, ◌&&◌, ◌||◌, codes}
use Rattle.std.specs.List.{cons_option, list_any}
use Rattle.xp_base.specs.declared.kinds.ConstKind.{ConstKind}
use Rattle.idl_grammar.specs.declared.tree.Member.{Member}
use Rattle.idl_grammar.specs.declared.tree.MemberBody.{MemberBody}
use Rattle.idl_grammar.specs.declared.tree.MemberBody.TheVariants as member
use Rattle.idl_meaning.specs.declared.scope.Meant.{Meant}
use Rattle.idl_meaning.specs.declared.scope.Meant.TheVariants as meant
use Rattle.idl_meaning.specs.declared.scope.ScopeBody.{ScopeBody}
use Rattle.idl_meaning.specs.declared.scope.ScopeBody.TheVariants as body
use Rattle.idl_meaning.specs.declared.scope.ScopeMember.{ScopeMember}
use Rattle.idl_meaning.specs.declared.scope.ScopeParam.{ScopeParam}
use Rattle.idl_meaning.specs.Attributes.{has}
use Rattle.idl_meaning.specs.Meaning.{sense, nothing, is_a, is_native}
use Rattle.idl_meaning.specs.Constants.{in_range, kind_by, value_of}
use Rattle.idl_meaning.specs.Scopes.{Inside, Own, inside_after, learns_member, value_in, visible, constant_made, body_made, member_name, member_made, members_made}
use Rattle.idl_meaning.specs.Faults.{Within, any_repeated, is_known_member, repeats_parameter, is_open_native, conditions, codes_at, faults_with, member_faults}
use Rattle.idl_meaning.specs.Accepted.{IsMeant, IsGiven, IsResult, HaveNamesOnce, IsAcceptedParam, IsAcceptedBody, AreAcceptedMembers, HidesNatives}
use Rattle.idl_meaning.proofs.Methods.{AreMeant, stands-as, stands-given, method-accepted, shows-none, unlearned, fails, or_left, or_right}

-- ---- lists without faults

pub nil_left : {A : Type 0} (xs ys : List A) → xs ++ ys ≡ [] → xs ≡ []
nil_left [] ys e = refl
nil_left (x ∷ xs) ys e = absurd cc

pub nil_right : {A : Type 0} (xs ys : List A) → xs ++ ys ≡ [] → ys ≡ []
nil_right [] ys e = e
nil_right (x ∷ xs) ys e = absurd cc

pub no_codes : (file decl number : ℕ) (cs : List ℕ) → faults_with file decl number cs ≡ [] → cs ≡ []
no_codes file decl number [] e = refl
no_codes file decl number (c ∷ cs) e = absurd cc

-- ---- one member

-- what holds of each constant in its range holds of one that is made
pub of-constant : (P : ScopeBody → Type 0) → ((kind : ConstKind) (value : ℤ) → in_range kind value ≡ true → P (body.Constant kind value))
    → (o : Option ConstKind) (v : Option ℤ) (b : ScopeBody) → constant_made o v ≡ Some b → P b
of-constant P h None v b e = absurd cc
of-constant P h (Some kind) None b e = absurd cc
of-constant P h (Some kind) (Some value) b e = go (in_range kind value) refl e where
  go : (t : Bool) → in_range kind value ≡ t → (if t then Some (body.Constant kind value) else None) ≡ Some b → P b
  go true is e = let same : body.Constant kind value ≡ b = cc in subst P same (h kind value is)
  go false is e = absurd cc

-- the same of a body that may not be there
abbrev pub OfOption : (ScopeBody → Type 0) → Option ScopeBody → Type 0
OfOption P None = Unit {0}
OfOption P (Some b) = P b

-- what `noscript` and `notxpcom` do not hide is shown
shown : (scriptable hidden notxpcom fault : Bool) → (scriptable && not hidden && not notxpcom && fault) ≡ false → scriptable ≡ true → hidden ≡ false → notxpcom ≡ false → fault ≡ false
shown true false false fault e s h n = e
shown true false true fault e s h n = absurd cc
shown true true notxpcom fault e s h n = absurd cc
shown false hidden notxpcom fault e s h n = absurd cc

module _ (count : ℕ) (at : Inside) (good : AreMeant count at.names) where
  pub body-accepted : (m : MemberBody) (b : ScopeBody) → codes_at (Within at m) ≡ [] → body_made at m ≡ Some b → IsAcceptedBody count b
  body-accepted member.Code b none e = absurd cc
  body-accepted (member.Constant of name value) b none e =
      of-constant (IsAcceptedBody count) (λ kind v h. h) (kind_by (sense at.names of)) (value_of (visible at) value.steps) b e
  body-accepted (member.Attribute attrs readonly of name) b none e =
      let silent = fails conditions 1 (Within at (member.Attribute attrs readonly of name)) none in
      subst (λ (o : Option ScopeBody). OfOption (IsAcceptedBody count) o) e (stands-given count at.names good of (silent 6))
  body-accepted (member.Method attrs of name params) b none e =
      let silent = fails conditions 1 (Within at (member.Method attrs of name params)) none in
      subst (λ (o : Option ScopeBody). OfOption (IsAcceptedBody count) o) e
      (method-accepted count at.names good params (or_right _ _ (silent 1)) of (or_right _ (any_repeated nothing params) (silent 0)) (silent 6) (silent 7) (silent 8) (silent 11) (silent 12))

  pub body-hides : at.scriptable ≡ true → (m : MemberBody) (b : ScopeBody) → codes_at (Within at m) ≡ [] → body_made at m ≡ Some b → HidesNatives b
  body-hides seen member.Code b none e = absurd cc
  body-hides seen (member.Constant of name value) b none e =
      of-constant HidesNatives (λ kind v h. tt) (kind_by (sense at.names of)) (value_of (visible at) value.steps) b e
  body-hides seen (member.Attribute attrs readonly of name) b none e =
      let silent = fails conditions 1 (Within at (member.Attribute attrs readonly of name)) none in
      subst (λ (o : Option ScopeBody). OfOption HidesNatives o) e
      (λ h n. stands-as is_native refl (sense at.names of) ∙ shown at.scriptable (has (codes "noscript") attrs) (has (codes "notxpcom") attrs) (is_a is_native (sense at.names of)) (silent 13) seen h n)
  body-hides seen (member.Method attrs of name params) b none e =
      let silent = fails conditions 1 (Within at (member.Method attrs of name params)) none in
      subst (λ (o : Option ScopeBody). OfOption HidesNatives o) e
      (λ h n.
      shows-none count at.names good params (or_right _ _ (silent 1)) of (silent 7)
      (shown at.scriptable (has (codes "noscript") attrs) (has (codes "notxpcom") attrs) (is_a is_native (sense at.names of) || list_any (is_open_native at.names) params) (silent 13) seen h n))

-- ---- all members

pub made-cases : (o : Option ScopeMember) (rest : List ScopeMember) (k : ℕ) (m : ScopeMember) (P : ScopeMember → Type 0)
    → ((x : ScopeMember) → o ≡ Some x → P x) → ((j : ℕ) (x : ScopeMember) → slice_get rest j ≡ Some x → P x)
    → slice_get (cons_option o rest) k ≡ Some m → P m
made-cases None rest k m P here there e = there k m e
made-cases (Some x) rest zero m P here there e = let same : x ≡ m = cc in subst P same (here x refl)
made-cases (Some x) rest (suc k) m P here there e = there k m e

pub member-of : (name : Option (List ℕ)) (number : ℕ) (o : Option ScopeBody) (x : ScopeMember) → member_made name number o ≡ Some x → o ≡ Some x.body
member-of None number o x e = absurd cc
member-of (Some name) number None x e = absurd cc
member-of (Some name) number (Some b) x e = let same : ◌≡◌ {A = ScopeMember} (record { name = name; member = number; body = b }) x = cc in ap (λ (y : ScopeMember). Some y.body) same

nothing-in : {P : Type 0} (k : ℕ) (m : ScopeMember) → slice_get [] k ≡ Some m → P
nothing-in k m e = absurd cc

-- what holds of each body without codes holds of all that are made
members-each : (P : ScopeBody → Type 0) (Q : Inside → Type 0) → ((at : Inside) (m : MemberBody) → Q at → Q (inside_after at m))
    → ((at : Inside) (m : MemberBody) (b : ScopeBody) → Q at → codes_at (Within at m) ≡ [] → body_made at m ≡ Some b → P b)
    → (ms : List Member) (file decl number : ℕ) (at : Inside) → Q at → member_faults file decl number at ms ≡ []
    → (k : ℕ) (m : ScopeMember) → slice_get (members_made number at ms) k ≡ Some m → P m.body
members-each P Q keeps one [] file decl number at q none = λ k m e. nothing-in k m e
members-each P Q keeps one (x ∷ ms) file decl number at q none =
    λ k m e.
    made-cases (member_made (member_name x.body) number (body_made at x.body)) (members_made (suc number) (inside_after at x.body) ms) k m
    (λ (y : ScopeMember). P y.body)
    (λ y is.
    one at x.body y.body q
    (no_codes file decl number (codes_at (Within at x.body)) (nil_left (faults_with file decl number (codes_at (Within at x.body))) (member_faults file decl (suc number) (inside_after at x.body) ms) none))
    (member-of (member_name x.body) number (body_made at x.body) y is))
    (members-each P Q keeps one ms file decl (suc number) (inside_after at x.body) (keeps at x.body q)
    (nil_right (faults_with file decl number (codes_at (Within at x.body))) (member_faults file decl (suc number) (inside_after at x.body) ms) none))
    e

pub members-accepted : (ms : List Member) (count file decl number : ℕ) (at : Inside) → AreMeant count at.names → member_faults file decl number at ms ≡ []
    → AreAcceptedMembers count (members_made number at ms)
members-accepted ms count file decl number at good none =
    members-each (IsAcceptedBody count) (λ (i : Inside). AreMeant count i.names) (λ i m h. h) (λ i m b h codes is. body-accepted count i h m b codes is) ms file decl number at good none

pub members-hide : (ms : List Member) (count file decl number : ℕ) (at : Inside) → AreMeant count at.names → member_faults file decl number at ms ≡ [] → at.scriptable ≡ true
    → (k : ℕ) (m : ScopeMember) → slice_get (members_made number at ms) k ≡ Some m → HidesNatives m.body
members-hide ms count file decl number at good none seen =
    members-each HidesNatives (λ (i : Inside). AreMeant count i.names × (i.scriptable ≡ true)) (λ i m h. h) (λ i m b h codes is. body-hides count i h.0 h.1 m b codes is) ms file decl number at
    (good, seen) none

-- ---- 1: names of members

pub name-of : (name : Option (List ℕ)) (number : ℕ) (o : Option ScopeBody) (x : ScopeMember) → member_made name number o ≡ Some x → name ≡ Some x.name
name-of None number o x e = absurd cc
name-of (Some name) number None x e = absurd cc
name-of (Some name) number (Some b) x e = let same : ◌≡◌ {A = ScopeMember} (record { name = name; member = number; body = b }) x = cc in ap (λ (y : ScopeMember). Some y.name) same

-- where a member has a name, that is new, and known behind it
new-name : (own : Own) (name : Option (List ℕ)) (n : List ℕ) → is_known_member own name ≡ false → name ≡ Some n → is_some (own n) ≡ false
new-name own None n e is = absurd cc
new-name own (Some name) n e is = let same : name ≡ n = cc in subst (λ (t : List ℕ). is_some (own t) ≡ false) same e

known-before : (own : Own) (name : Option (List ℕ)) (v : Option ℤ) (n : List ℕ) → is_some (learns_member own name v n) ≡ false → is_some (own n) ≡ false
known-before own None v n e = e
known-before own (Some name) v n e = (unlearned own name v n e).1

known-behind : (own : Own) (name : Option (List ℕ)) (v : Option ℤ) (n : List ℕ) → is_some (learns_member own name v n) ≡ false → name ≡ Some n → ⊥
known-behind own None v n e is = absurd cc
known-behind own (Some name) v n e is = (unlearned own name v n e).0 (let same : name ≡ n = cc in same)

-- no member has a name that is known before them
members-new : (ms : List Member) (file decl number : ℕ) (at : Inside) → member_faults file decl number at ms ≡ []
    → (k : ℕ) (m : ScopeMember) → slice_get (members_made number at ms) k ≡ Some m → is_some (at.own m.name) ≡ false
members-new [] file decl number at none = λ k m e. nothing-in k m e
members-new (x ∷ ms) file decl number at none =
    let silent = fails conditions 1 (Within at x.body) (no_codes file decl number (codes_at (Within at x.body)) (nil_left (faults_with file decl number (codes_at (Within at x.body))) (member_faults file decl (suc number) (inside_after at x.body) ms) none)) in
    λ k m e.
    made-cases (member_made (member_name x.body) number (body_made at x.body)) (members_made (suc number) (inside_after at x.body) ms) k m
    (λ (y : ScopeMember). is_some (at.own y.name) ≡ false)
    (λ y is. new-name at.own (member_name x.body) y.name (or_left (is_known_member at.own (member_name x.body)) (repeats_parameter x.body) (silent 0)) (name-of (member_name x.body) number (body_made at x.body) y is))
    (λ j y is.
    known-before at.own (member_name x.body) (value_in (body_made at x.body)) y.name
    (members-new ms file decl (suc number) (inside_after at x.body)
    (nil_right (faults_with file decl number (codes_at (Within at x.body))) (member_faults file decl (suc number) (inside_after at x.body) ms) none) j y is))
    e

-- one more member, whose name the others do not have
one-differs : (o : Option ScopeMember) (rest : List ScopeMember) → ((x : ScopeMember) → o ≡ Some x → (k : ℕ) (m : ScopeMember) → slice_get rest k ≡ Some m → x.name ≡ m.name → ⊥)
    → HaveNamesOnce (λ (m : ScopeMember). m.name) rest → HaveNamesOnce (λ (m : ScopeMember). m.name) (cons_option o rest)
one-differs None rest apart differ j k a b at there same = differ j k a b at there same
one-differs (Some x) rest apart differ zero zero a b at there same = refl
one-differs (Some x) rest apart differ zero (suc k) a b at there same = absurd (apart x refl k b there (let first : x ≡ a = cc in ap (λ (y : ScopeMember). y.name) first ∙ same))
one-differs (Some x) rest apart differ (suc j) zero a b at there same = absurd (apart x refl j a at (let first : x ≡ b = cc in ap (λ (y : ScopeMember). y.name) first ∙ sym same))
one-differs (Some x) rest apart differ (suc j) (suc k) a b at there same = ap suc (differ j k a b at there same)

pub members-differ : (ms : List Member) (file decl number : ℕ) (at : Inside) → member_faults file decl number at ms ≡ []
    → HaveNamesOnce (λ (m : ScopeMember). m.name) (members_made number at ms)
members-differ [] file decl number at none = λ j k a b at there same. nothing-in j a at
members-differ (x ∷ ms) file decl number at none =
    let rest = nil_right (faults_with file decl number (codes_at (Within at x.body))) (member_faults file decl (suc number) (inside_after at x.body) ms) none in
    one-differs (member_made (member_name x.body) number (body_made at x.body)) (members_made (suc number) (inside_after at x.body) ms)
    (λ y is k m there same.
    known-behind at.own (member_name x.body) (value_in (body_made at x.body)) m.name (members-new ms file decl (suc number) (inside_after at x.body) rest k m there)
    (name-of (member_name x.body) number (body_made at x.body) y is ∙ ap Some same))
    (members-differ ms file decl (suc number) (inside_after at x.body) rest)

-- ---- more interfaces

pub meant-weaker : (a b : ℕ) → a ≤ b → (m : Meant) → IsMeant a m → IsMeant b m
meant-weaker a b le (meant.Basic tag) h = h
meant-weaker a b le (meant.Iface number) h = omega arith
meant-weaker a b le (meant.StringClass tag) h = h
meant-weaker a b le meant.NsidRef h = h
meant-weaker a b le meant.NsidPtr h = h
meant-weaker a b le meant.JsVal h = h
meant-weaker a b le (meant.Native name) h = h

given-weaker : (a b : ℕ) → a ≤ b → (m : Meant) → IsGiven a m → IsGiven b m
given-weaker a b le m h = record { typed = meant-weaker a b le m h.typed; no_reference = h.no_reference }

result-weaker : (a b : ℕ) → a ≤ b → (o : Option Meant) → IsResult a o → IsResult b o
result-weaker a b le None h = h
result-weaker a b le (Some m) h = given-weaker a b le m h

param-weaker : (a b : ℕ) → a ≤ b → (ps : List ScopeParam) (p : ScopeParam) → IsAcceptedParam a ps p → IsAcceptedParam b ps p
param-weaker a b le ps p h = record {
  typed = meant-weaker a b le p.ty h.typed;
  reference_in = h.reference_in;
  class_one_way = h.class_one_way;
  sized = h.sized;
  size_fits = h.size_fits;
  measured = h.measured;
  beside_size = h.beside_size;
  identified = h.identified;
  iid_fits = h.iid_fits;
  array_sized = h.array_sized;
  array_plain = h.array_plain;
  array_no_reference = h.array_no_reference;
}

pub body-weaker : (a b : ℕ) → a ≤ b → (x : ScopeBody) → IsAcceptedBody a x → IsAcceptedBody b x
body-weaker a b le (body.Constant kind value) h = h
body-weaker a b le (body.Attribute hidden notxpcom context readonly ty) h = given-weaker a b le ty h
body-weaker a b le (body.Method hidden notxpcom argc context gives params) h = record {
  returned = result-weaker a b le gives h.returned;
  each = λ k p at. param-weaker a b le params p (h.each k p at);
  params_differ = h.params_differ;
  no_gap = h.no_gap;
  last = h.last;
  outward = h.outward;
  alone = h.alone;
}

pub members-weaker : (a b : ℕ) → a ≤ b → (ms : List ScopeMember) → AreAcceptedMembers a ms → AreAcceptedMembers b ms
members-weaker a b le ms h = λ k m e. body-weaker a b le m.body (h k m e)
