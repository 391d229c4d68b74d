-- What the header of an accepted scope needs to know of its interfaces, members and parameters.
use Rattle.std.proofs.Common.{◌≡◌, ℕ, zero, suc, ◌+◌, ◌<◌, ◌≤◌, Bool, true, false, cond, ◌||◌, nat_lt, List, [], ◌∷◌, length, Option, Some, None, IsSomeAnd, IsTrue, refl, sym, ap, arith, length-append, slice_get, All, option_and_then}
use Rattle.std.specs.List.{AllByRecursion, flat_map, list_all, list_any}
use Rattle.std.proofs.lemmas.Bool.{false≢true, ltb-false}
use Rattle.std.proofs.lemmas.List.Elements.{All-head, All-nil, All-tail}
use Rattle.std.proofs.lemmas.Option.{none-some, slice_get_within}
use Rattle.std.proofs.lemmas.Map.Views.{All-values-insert_entry}
use Rattle.std_collections.specs.BTreeMap.{insert_entry}
use Rattle.std_collections.specs.Map.{values_of}
use Rattle.call_model.specs.declared.prototypes.MemberKind.TheVariants as kind
use Rattle.idl_meaning.specs.declared.scope.Meant.{Meant}
use Rattle.idl_meaning.specs.declared.scope.Scope.{Scope}
use Rattle.idl_meaning.specs.declared.scope.ScopeBody.{ScopeBody}
use Rattle.idl_meaning.specs.declared.scope.ScopeBody.TheVariants as body
use Rattle.idl_meaning.specs.declared.scope.ScopeIface.{ScopeIface}
use Rattle.idl_meaning.specs.declared.scope.ScopeMember.{ScopeMember}
use Rattle.idl_meaning.specs.Accepted.{HasNamedParams, IsAcceptedBody, IsAcceptedScope, IsGiven, IsResult}
use Rattle.vtable_layout.specs.Slots.{Slot, given, given_param, inherited, method, own_in, own_of, parent_of, setter, slots_in, slots_of_member}
use Rattle.vtable_layout.proofs.Climbing.{few_slots, parts}
use Rattle.prototype_lowering.specs.Limits.{KeepsLimits, is_wide_slot}
use Rattle.prototype_lowering.proofs.ScopeFacts.{both_parts, by_each}
use Rattle.line_words.specs.Words.{Each, Word}
use Rattle.header_model.specs.Lines.{IsLine, lines_of}
use Rattle.header_model.specs.Words.{is_name_byte}
use Rattle.header_text.specs.Order.{Spot, definitions_of, placed, spot_cmp, spot_of}
use Rattle.header_text.specs.Header.{given_name, header_text}
use Rattle.header_text.proofs.NameLaws.{IsNameOf, word-name}
use Rattle.header_text.proofs.TypeLaws.{AreNames}
use Rattle.header_text.proofs.ArgumentLaws.{IsTold}
use Rattle.header_text.proofs.FormLaws.{IsToldClass, IsToldSlot, header-forms}
use Rattle.header_text.proofs.Said.{header_said}

-- ---- parameters

record IsGivenName (w : Word) : Type 0 where
  short : length (given_name w) ≤ 255
  bytes : list_all is_name_byte (given_name w) ≡ true

given-word : (w : Word) → IsNameOf 255 w → IsGivenName w
given-word [] n = absurd (omega (arith, n.some))
given-word (b ∷ w) n = record { short = n.short; bytes = n.bytes }

result-told : (ifaces : List ScopeIface) (ty : Meant) → IsGiven (length ifaces) ty → IsTold ifaces kind.Plain (given_param ty)
result-told ifaces ty ok = record { typed = ok.typed; short = omega arith; bytes = refl }

got-told : (ifaces : List ScopeIface) (notxpcom : Bool) (ty : Meant) → IsGiven (length ifaces) ty → AllByRecursion (IsTold ifaces kind.Get) (given notxpcom (Some ty))
got-told ifaces true ty ok = tt
got-told ifaces false ty ok = (record { typed = ok.typed; short = omega arith; bytes = refl }, tt)

returned-told : (ifaces : List ScopeIface) (notxpcom : Bool) (o : Option Meant) → IsResult (length ifaces) o → AllByRecursion (IsTold ifaces kind.Plain) (given notxpcom o)
returned-told ifaces true o ok = tt
returned-told ifaces false None ok = tt
returned-told ifaces false (Some ty) ok = (result-told ifaces ty ok, tt)

-- ---- members

given-short : (notxpcom : Bool) (o : Option Meant) → length (given notxpcom o) ≤ 1
given-short true o = omega arith
given-short false None = omega arith
given-short false (Some ty) = omega arith

narrow-slot : (s : Slot) → list_any is_wide_slot (s ∷ []) ≡ false → length s.params ≤ 255
narrow-slot s h = go (nat_lt 255 (length s.params)) refl h
  where
    go : (b : Bool) → nat_lt 255 (length s.params) ≡ b → (b || false) ≡ false → length s.params ≤ 255
    go false e h = ltb-false 255 (length s.params) e
    go true e h = absurd (false≢true (sym h))

body-told : (ifaces : List ScopeIface) (name : Word) (b : ScopeBody) → IsNameOf 255 name → HasNamedParams b → IsAcceptedBody (length ifaces) b
    → list_any is_wide_slot (slots_in name b) ≡ false → AllByRecursion (IsToldSlot ifaces) (slots_in name b)
body-told ifaces name (body.Constant kind value) word params ok narrow = tt
body-told ifaces name (body.Attribute hidden notxpcom context readonly ty) word params ok narrow =
    (record { named = word; params = got-told ifaces notxpcom ty ok; narrow = omega (arith, given-short notxpcom (Some ty)) }, set readonly)
  where
    set : (b : Bool) → AllByRecursion (IsToldSlot ifaces) (cond b [] (setter name hidden notxpcom context ty ∷ []))
    set true = tt
    set false = (record { named = word; params = (record { typed = ok.typed; short = omega arith; bytes = refl }, tt); narrow = omega arith }, tt)
body-told ifaces name (body.Method hidden notxpcom argc context returns ps) word params ok narrow =
    let s = method name hidden notxpcom argc context returns ps in
    let each : AllByRecursion (IsTold ifaces kind.Plain) ps = by_each (IsTold ifaces kind.Plain) ps (λ k p is.
    let n = given-word p.name (word-name p.name (params k p is)) in record { typed = (ok.each k p is).typed; short = n.short; bytes = n.bytes }) in (
      record {
        named = word;
        params = both_parts (IsTold ifaces kind.Plain) ps (given notxpcom returns) each (returned-told ifaces notxpcom returns ok.returned);
        narrow = narrow-slot s narrow;
      },
      tt,
    )

members-told : (ifaces : List ScopeIface) (ms : List ScopeMember)
    → ((k : ℕ) (m : ScopeMember) → slice_get ms k ≡ Some m → AllByRecursion (IsToldSlot ifaces) (slots_of_member m))
    → AllByRecursion (IsToldSlot ifaces) (flat_map slots_of_member ms)
members-told ifaces [] each = tt
members-told ifaces (m ∷ ms) each =
    both_parts (IsToldSlot ifaces) (slots_of_member m) (flat_map slots_of_member ms) (each 0 m refl) (members-told ifaces ms (λ k. each (suc k)))

-- ---- the interfaces that are defined, by their numbers

Within : ℕ → ℕ → Type 0
Within n k = k < n

placed-within : (es : List (Spot × ℕ)) (k : ℕ) (more : List ScopeIface) (n : ℕ) → All (Within n) (values_of es) → k + length more ≤ n
    → All (Within n) (values_of (placed es k more))
unfolding Within
placed-within es k [] n all few = all
placed-within es k (i ∷ more) n all few =
    placed-within (cond i.defined (insert_entry spot_cmp es (spot_of i) k) es) (k + 1) more n (entered i.defined) (omega (arith, few))
  where
    entered : (b : Bool) → All (Within n) (values_of (cond b (insert_entry spot_cmp es (spot_of i) k) es))
    entered true = All-values-insert_entry spot_cmp (spot_of i) k (Within n) es all (omega (arith, few))
    entered false = all

pub definitions-within : (ifaces : List ScopeIface) → All (λ k. k < length ifaces) (definitions_of ifaces)
unfolding Within
definitions-within ifaces = placed-within [] 0 ifaces (length ifaces) (All-nil (Within (length ifaces))) (omega arith)

by-numbers : {X : Type 0} (P Q : X → Type 0) (xs : List X) → ((x : X) → P x → Q x) → All P xs → AllByRecursion Q xs
by-numbers P Q [] f all = tt
by-numbers P Q (x ∷ xs) f all = (f x (All-head P x xs all), by-numbers P Q xs f (All-tail P x xs all))

-- ---- the header of an accepted scope

found-at : {X : Type 0} (xs : List X) (k : ℕ) → k < length xs → (x : X) × (slice_get xs k ≡ Some x)
found-at [] k within = absurd (omega (arith, within))
found-at (x ∷ xs) zero within = (x, refl)
found-at (x ∷ xs) (suc k) within = found-at xs k (omega (arith, within))

module _ (s : Scope) (ok : IsAcceptedScope s) (limits : KeepsLimits s) where
  names : AreNames s.ifaces
  names k within =
      let at = found-at s.ifaces k within in
      rw at.1 (word-name at.0.name (ok.lawful k at.0 at.1).named)

  parent-within : (k p : ℕ) → parent_of s.ifaces k ≡ Some p → p < length s.ifaces
  parent-within k p is = go (slice_get s.ifaces k) refl is
    where
      found : (o : Option ScopeIface) → slice_get s.ifaces p ≡ o → IsSomeAnd o (λ q. IsTrue q.defined) → p < length s.ifaces
      found None e h = absurd h
      found (Some q) e h = slice_get_within s.ifaces p q e

      go : (o : Option ScopeIface) → slice_get s.ifaces k ≡ o → option_and_then (λ (i : ScopeIface). i.parent) o ≡ Some p → p < length s.ifaces
      go None e is = absurd (none-some p is)
      go (Some i) e is = found (slice_get s.ifaces p) refl ((ok.each k i e).extends p is)

  own-told : (k : ℕ) (o : Option ScopeIface) → slice_get s.ifaces k ≡ o → AllByRecursion (IsToldSlot s.ifaces) (own_in o)
  own-told k None e = tt
  own-told k (Some i) e =
      members-told s.ifaces i.members (λ n m is.
      body-told s.ifaces m.name m.body (word-name m.name ((ok.lawful k i e).members_named n m is)) ((ok.lawful k i e).params_named n m is)
      ((ok.each k i e).members n m is) (rw (e, is) at (limits.narrow k n)))

  class-told : (k : ℕ) → k < length s.ifaces → IsToldClass s.ifaces k
  class-told k within =
      let few = limits.few_slots k within in
      record {
        within = within;
        parent = parent-within k;
        room = omega (arith, few_slots s.ifaces k few, ap length (parts s.ifaces k few), length-append (inherited s.ifaces k) (own_of s.ifaces k));
        slots = own-told k (slice_get s.ifaces k) refl;
      }

  pub header-said : Each IsLine (lines_of (header_text s)) (header_said s)
  header-said =
      header-forms s names (by_each (λ i. IsNameOf 255 i.name) s.ifaces (λ k i is. word-name i.name (ok.lawful k i is).named))
      (by-numbers (λ k. k < length s.ifaces) (IsToldClass s.ifaces) (definitions_of s.ifaces) class-told (definitions-within s.ifaces))
