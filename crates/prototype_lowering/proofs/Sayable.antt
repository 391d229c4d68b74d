-- A scope whose methods have few parameters can be said by a library.
use Rattle.std.proofs.Common.{◌≡◌, ℕ, ◌^◌, ◌<◌, ◌≤◌, Bool, true, false, List, ◌++◌, length, get_or, Option, Some, None, IfSome, refl, sym, ap, ◌∙◌, arith, ltb-false, length-append, slice_get, All, nat_lt, option_and_then}
use Rattle.std.specs.List.{list_any}
use Rattle.std.proofs.lemmas.Option.{slice_get-get_or}
use Rattle.idl_meaning.specs.declared.scope.Meant.{Meant}
use Rattle.idl_meaning.specs.declared.scope.Meant.TheVariants as meant
use Rattle.idl_meaning.specs.declared.scope.Scope.{Scope}
use Rattle.idl_meaning.specs.declared.scope.ScopeBody.{ScopeBody}
use Rattle.idl_meaning.specs.declared.scope.ScopeBody.TheVariants as body
use Rattle.idl_meaning.specs.declared.scope.ScopeIface.{ScopeIface}
use Rattle.idl_meaning.specs.declared.scope.ScopeParam.{ScopeParam}
use Rattle.idl_meaning.specs.Meaning.{is_iid, is_integer}
use Rattle.vtable_layout.specs.Slots.{given, slots_in}
use Rattle.prototype_lowering.specs.Limits.{NoneIsWide, is_wide_found, is_wide_slot}
use Rattle.idl_meaning.specs.Accepted.{IsAcceptedBody, IsAcceptedParam, IsAcceptedScope, IsMeant, IsResult, IsSingle, Points}
use Rattle.prototype_lowering.specs.Numbering.{IsKnown, IsSayable, IsSayableBody, IsSayableIface, IsSmall}
use Rattle.prototype_lowering.proofs.ScopeFacts.{IsSoundIface, sound_at}
use Rattle.prototype_lowering.proofs.Validity.{no_first, some_within}

known : (count : ℕ) (m : Meant) → IsMeant count m → IsKnown count m
known count (meant.Basic tag) h = tt
known count (meant.Iface k) h = h
known count meant.NsidRef h = tt
known count meant.NsidPtr h = tt
known count (meant.StringClass tag) h = tt
known count meant.JsVal h = tt
known count (meant.Native name) h = tt

known_if : (count : ℕ) (o : Option Meant) → IsResult count o → IfSome o (IsKnown count)
known_if count None h = tt
known_if count (Some m) h = known count m h.typed

small : (test : Meant → Bool) (params : List ScopeParam) → length params ≤ 255 → (o : Option ℕ)
    → Points test params o → IsSmall o
small test params few None h = tt
small test params few (Some n) h = omega (arith, some_within (IsSingle test) params n h)

param_sayable : (count : ℕ) (params : List ScopeParam) (p : ScopeParam) → length params ≤ 255
    → IsAcceptedParam count params p → IsSayable count p
param_sayable count params p few ok = record {
  ty = known count p.ty ok.typed;
  size = small is_integer params few p.size ok.sized;
  len = small is_integer params few p.length ok.measured;
  iid = small is_iid params few p.iid ok.identified;
}

body_sayable : (count : ℕ) (name : List ℕ) (b : ScopeBody) → IsAcceptedBody count b
    → list_any is_wide_slot (slots_in name b) ≡ false → IsSayableBody count b
body_sayable count name (body.Constant of value) ok narrow = tt
body_sayable count name (body.Attribute hidden notxpcom context readonly ty) ok narrow =
    known count ty ok.typed
body_sayable count name (body.Method hidden notxpcom argc context returns params) ok narrow =
    let all : length (params ++ given notxpcom returns) ≤ 255 =
    ltb-false 255 (length (params ++ given notxpcom returns))
    (no_first (nat_lt 255 (length (params ++ given notxpcom returns))) false narrow)
    in let few : length params ≤ 255 = omega (arith, length-append params (given notxpcom returns))
    in (
      known_if count returns ok.returned,
      λ k d h. param_sayable count params (get_or params k d)
          few (ok.each k (get_or params k d) (slice_get-get_or params k d h)),
    )

iface_sayable : (ifaces : List ScopeIface) (i : ScopeIface) → IsSoundIface ifaces i
    → ((m : ℕ) → is_wide_found (slice_get i.members m) ≡ false) → IsSayableIface (length ifaces) i
iface_sayable ifaces i ok narrow = record {
  parent = go i.parent refl;
  members = λ k d h. body_sayable (length ifaces) (get_or i.members k d).name
      (get_or i.members k d).body
      (ok.accepted.members k (get_or i.members k d) (slice_get-get_or i.members k d h))
      (sym (ap is_wide_found (slice_get-get_or i.members k d h)) ∙ narrow k);
}
  where
    go : (o : Option ℕ) → i.parent ≡ o → IfSome o (λ k. k < length ifaces)
    go None is = tt
    go (Some p) is =
        some_within (λ (o : ScopeIface). o.defined ≡ true) ifaces p (ok.accepted.extends p is)

pub all_sayable : (s : Scope) → IsAcceptedScope s → NoneIsWide s.ifaces
    → All (IsSayableIface (length s.ifaces)) s.ifaces
all_sayable s ok narrow =
    λ k d h. iface_sayable s.ifaces (get_or s.ifaces k d)
    (sound_at s ok k (get_or s.ifaces k d) (slice_get-get_or s.ifaces k d h))
    (λ m. sym (ap
    (λ (o : Option ScopeIface).
    is_wide_found (option_and_then (λ (i : ScopeIface). slice_get i.members m) o))
    (slice_get-get_or s.ifaces k d h)) ∙ narrow k m)

pub few_members : (s : Scope) → IsAcceptedScope s
    → All (λ (i : ScopeIface). length i.members < 2 ^ 32) s.ifaces
few_members s ok = λ k d h.
    (ok.lawful k (get_or s.ifaces k d) (slice_get-get_or s.ifaces k d h)).few_members
