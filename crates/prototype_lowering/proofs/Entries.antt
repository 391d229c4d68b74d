-- The entries of the map by which interfaces are sorted, without the references in its keys.
use Rattle.std.proofs.Common.{◌≡◌, ℕ, ◌+◌, ◌<◌, ◌≤◌, List, [], ◌∷◌, length, get_or, drop, Bor, refl, sym, ap, ◌∙◌}
use Rattle.std.specs.declared.cmp.Ordering.{Ordering}
use Rattle.std.specs.declared.cmp.Ordering.TheVariants.{Less, Equal, Greater}
use Rattle.std.specs.Ordering.{match_ordering}
use Rattle.std.proofs.lemmas.List.{at_drop_all, at_drop_more}
use Rattle.std_collections.specs.BTreeMap.{insert_entry}
use Rattle.std_collections.specs.Map.{values_of}
use Rattle.idl_meaning.specs.declared.scope.ScopeIface.{ScopeIface}
use Rattle.prototype_lowering.specs.Directory.{Key, entered, key_cmp, key_of}

-- a key of the map
abbrev pub Lent : Type 0
Lent = Bor (List ℕ) × Bor (List ℕ)

abbrev pub plain_key : Lent → Key
plain_key k = (k.0.now, k.1.now)

abbrev pub plain : List (Lent × ℕ) → List (Key × ℕ)
plain [] = []
plain (e ∷ es) = (plain_key e.0, e.1) ∷ plain es

pub plain_inserted : (cmp : Lent → Lent → Ordering)
    → ((a b : Lent) → cmp a b ≡ key_cmp (plain_key a) (plain_key b))
    → (es : List (Lent × ℕ)) (k : Lent) (v : ℕ) → plain (insert_entry cmp es k v)
    ≡ insert_entry key_cmp (plain es) (plain_key k) v
plain_inserted cmp same [] k v = refl
plain_inserted cmp same (e ∷ es) k v =
    go (cmp k e.0) (plain_inserted cmp same es k v)
    ∙ ap (λ o. match_ordering o ((plain_key k, v) ∷ (plain_key e.0, e.1) ∷ plain es)
    ((plain_key e.0, v) ∷ plain es)
    ((plain_key e.0, e.1) ∷ insert_entry key_cmp (plain es) (plain_key k) v)) (same k e.0)
  where
    go : (o : Ordering) → plain (insert_entry cmp es k v)
        ≡ insert_entry key_cmp (plain es) (plain_key k) v
        → plain (match_ordering o ((k, v) ∷ e ∷ es) ((e.0, v) ∷ es) (e ∷ insert_entry cmp es k v))
        ≡ match_ordering o ((plain_key k, v) ∷ (plain_key e.0, e.1) ∷ plain es)
        ((plain_key e.0, v) ∷ plain es)
        ((plain_key e.0, e.1) ∷ insert_entry key_cmp (plain es) (plain_key k) v)
    go Less rest = refl
    go Equal rest = refl
    go Greater rest = ap (λ more. (plain_key e.0, e.1) ∷ more) rest

pub plain_values : (es : List (Lent × ℕ)) → values_of es ≡ values_of (plain es)
plain_values [] = refl
plain_values (e ∷ es) = ap (λ vs. e.1 ∷ vs) (plain_values es)

-- one interface more
pub entered_more : (ifaces : List ScopeIface) (es now : List (Key × ℕ)) (k : ℕ) (i : ScopeIface)
    → k < length ifaces → i ≡ get_or ifaces k i → now ≡ insert_entry key_cmp es (key_of i) k
    → entered now (k + 1) (drop (k + 1) ifaces) ≡ entered es k (drop k ifaces)
entered_more ifaces es now k i within is inserted =
    ap (λ e. entered e (k + 1) (drop (k + 1) ifaces)) inserted
    ∙ ap (λ x. entered es k (x ∷ drop (k + 1) ifaces)) is
    ∙ sym (at_drop_more (entered es k) ifaces k i within)

pub entered_all : (ifaces : List ScopeIface) (es : List (Key × ℕ)) (k : ℕ) → length ifaces ≤ k
    → entered es k (drop k ifaces) ≡ es
entered_all ifaces es k past = at_drop_all (entered es k) ifaces k past
