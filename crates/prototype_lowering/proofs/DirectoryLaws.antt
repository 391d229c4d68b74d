-- The directory has each interface of the scope once.
use Rattle.std.proofs.Common.{◌≡◌, ℕ, zero, suc, ◌+◌, ◌<◌, ◌≤◌, ◌==◌, Bool, true, false, cond, List, [], ◌∷◌, length, get_or, Option, Some, refl, sym, ap, subst, ◌∙◌, arith, nat_lt, nat_eq, ltb-true, ltb-false, not, sum_by, slice_get}
use Rattle.std.specs.List.{AllByRecursion, cons_option, filter_map, position_or_len}
use Rattle.std.specs.declared.cmp.Ordering.{Ordering}
use Rattle.std.specs.declared.cmp.Ordering.TheVariants.{Less, Equal, Greater}
use Rattle.std.specs.Ordering.{match_ordering, nat_cmp, ordering_then}
use Rattle.std.specs.Cmp.Lexicographic.{slice_cmp}
use Rattle.std.proofs.lemmas.List.Sums.{sum_by-cons}
use Rattle.std.proofs.lemmas.Option.{slice_get_within}
use Rattle.std_collections.specs.BTreeMap.{insert_entry}
use Rattle.std_collections.specs.Map.{values_of}
use Rattle.idl_meaning.specs.declared.scope.ScopeIface.{ScopeIface}
use Rattle.idl_meaning.specs.Accepted.{AreNamedOnce}
use Rattle.prototype_lowering.specs.Directory.{Key, directory_of, entered, in_order, key_cmp, key_of}
use Rattle.prototype_lowering.proofs.ScopeFacts.{weaker}

-- ---- equal keys

second : (a b : Ordering) → ordering_then a b ≡ Equal → b ≡ Equal
second Less b h = absurd (let no : Less ≡ Equal = h in cc)
second Equal b h = h
second Greater b h = absurd (let no : Greater ≡ Equal = h in cc)

before : (a b : Ordering) → ordering_then a b ≡ Equal → a ≡ Equal
before Less b h = h
before Equal b h = refl
before Greater b h = h

numbers_equal : (x y : ℕ) → nat_cmp x y ≡ Equal → x ≡ y
numbers_equal x y h = go (nat_lt x y) (x == y) refl h
  where
    go : (a b : Bool) → (x == y) ≡ b → cond a Less (cond b Equal Greater) ≡ Equal → x ≡ y
    go true b e k = absurd (let no : Less ≡ Equal = k in cc)
    go false true e k = grind (arith, e)
    go false false e k = absurd (let no : Greater ≡ Equal = k in cc)

texts_equal : (xs ys : List ℕ) → slice_cmp nat_cmp xs ys ≡ Equal → xs ≡ ys
texts_equal [] [] h = refl
texts_equal [] (y ∷ ys) h = absurd (let no : Less ≡ Equal = h in cc)
texts_equal (x ∷ xs) [] h = absurd (let no : Greater ≡ Equal = h in cc)
texts_equal (x ∷ xs) (y ∷ ys) h =
    λ j. numbers_equal x y (before (nat_cmp x y) (slice_cmp nat_cmp xs ys) h) j ∷ texts_equal xs ys
    (second (nat_cmp x y) (slice_cmp nat_cmp xs ys) h) j

names_equal : (a b : Key) → key_cmp a b ≡ Equal → a.1 ≡ b.1
names_equal a b h =
    texts_equal a.1 b.1 (second (slice_cmp nat_cmp a.0 b.0) (slice_cmp nat_cmp a.1 b.1) h)

-- ---- entries

-- the entry of an interface whose number is below k
record IsEntryOf (ifaces : List ScopeIface) (k : ℕ) (e : Key × ℕ) : Type 0 where
  iface : ScopeIface
  found : slice_get ifaces e.1 ≡ Some iface
  keyed : e.0 ≡ key_of iface
  below : e.1 < k

Fresh : Key → List (Key × ℕ) → Type 0
Fresh key es = AllByRecursion (λ e. key_cmp key e.0 ≡ Equal → ⊥) es

fresh : (ifaces : List ScopeIface) → AreNamedOnce ifaces → (k : ℕ) (i : ScopeIface)
    → slice_get ifaces k ≡ Some i → (es : List (Key × ℕ)) → AllByRecursion (IsEntryOf ifaces k) es
    → Fresh (key_of i) es
unfolding Fresh
fresh ifaces own k i is es h =
    weaker (IsEntryOf ifaces k) (λ e. key_cmp (key_of i) e.0 ≡ Equal → ⊥)
    (λ e entry equal.
    absurd (let name : i.name ≡ entry.iface.name = names_equal (key_of i) e.0 equal
    ∙ ap (λ (key : Key). key.1) entry.keyed in let same : k ≡ e.1 =
    own k e.1 i entry.iface is entry.found name in omega (arith, entry.below, same))) es h

sum_inserted : (f : ℕ → ℕ) (es : List (Key × ℕ)) (key : Key) (v : ℕ) → Fresh key es
    → sum_by f (values_of (insert_entry key_cmp es key v)) ≡ f v + sum_by f (values_of es)
unfolding Fresh
sum_inserted f [] key v new = sum_by-cons f v []
sum_inserted f (e ∷ es) key v new = go (key_cmp key e.0) refl (sum_inserted f es key v new.1)
  where
    go : (o : Ordering) → key_cmp key e.0 ≡ o → sum_by f (values_of (insert_entry key_cmp es key v))
        ≡ f v + sum_by f (values_of es)
        → sum_by f (values_of
        (match_ordering o ((key, v) ∷ e ∷ es) ((e.0, v) ∷ es) (e ∷ insert_entry key_cmp es key v)))
        ≡ f v + sum_by f (values_of (e ∷ es))
    go Less h rest = sum_by-cons f v (values_of (e ∷ es))
    go Equal h rest = absurd (new.0 h)
    go Greater h rest =
        omega (
          arith,
          rest,
          sum_by-cons f e.1 (values_of (insert_entry key_cmp es key v)),
          sum_by-cons f e.1 (values_of es),
        )

all_inserted : (P : Key × ℕ → Type 0) (es : List (Key × ℕ)) (key : Key) (v : ℕ) → Fresh key es
    → P (key, v) → AllByRecursion P es → AllByRecursion P (insert_entry key_cmp es key v)
unfolding Fresh
all_inserted P [] key v new here all = (here, tt)
all_inserted P (e ∷ es) key v new here all =
    go (key_cmp key e.0) refl (all_inserted P es key v new.1 here all.1)
  where
    go : (o : Ordering) → key_cmp key e.0 ≡ o → AllByRecursion P (insert_entry key_cmp es key v)
        → AllByRecursion P
        (match_ordering o ((key, v) ∷ e ∷ es) ((e.0, v) ∷ es) (e ∷ insert_entry key_cmp es key v))
    go Less h rest = (here, all)
    go Equal h rest = absurd (new.0 h)
    go Greater h rest = (all.0, rest)

later : (ifaces : List ScopeIface) (k : ℕ) (es : List (Key × ℕ))
    → AllByRecursion (IsEntryOf ifaces k) es → AllByRecursion (IsEntryOf ifaces (k + 1)) es
later ifaces k es h =
    weaker (IsEntryOf ifaces k) (IsEntryOf ifaces (k + 1))
    (λ e entry. record {
      iface = entry.iface;
      found = entry.found;
      keyed = entry.keyed;
      below =
          omega (arith, entry.below);
    }) es h

-- ---- all entries

-- these are the interfaces from number k on
StandsAt : List ScopeIface → ℕ → List ScopeIface → Type 0
StandsAt ifaces k more =
    (m : ℕ) (i : ScopeIface) → slice_get more m ≡ Some i → slice_get ifaces (k + m) ≡ Some i

sum_from : (ℕ → ℕ) → ℕ → ℕ → ℕ
sum_from f k zero = 0
sum_from f k (suc n) = f k + sum_from f (k + 1) n

first_stands : (ifaces : List ScopeIface) (k : ℕ) (i : ScopeIface) (more : List ScopeIface)
    → StandsAt ifaces k (i ∷ more) → slice_get ifaces k ≡ Some i
unfolding StandsAt
first_stands ifaces k i more at =
    ap (slice_get ifaces) (let e : k ≡ k + 0 = omega arith in e) ∙ at 0 i refl

rest_stands : (ifaces : List ScopeIface) (k : ℕ) (i : ScopeIface) (more : List ScopeIface)
    → StandsAt ifaces k (i ∷ more) → StandsAt ifaces (k + 1) more
unfolding StandsAt
rest_stands ifaces k i more at =
    λ m o is. ap (slice_get ifaces) (let e : k + 1 + m ≡ k + suc m = omega arith in e)
    ∙ at (suc m) o is

next_entries : (ifaces : List ScopeIface) → AreNamedOnce ifaces
    → (es : List (Key × ℕ)) (k : ℕ) (i : ScopeIface) → slice_get ifaces k ≡ Some i
    → AllByRecursion (IsEntryOf ifaces k) es
    → AllByRecursion (IsEntryOf ifaces (k + 1)) (insert_entry key_cmp es (key_of i) k)
next_entries ifaces own es k i is h =
    all_inserted (IsEntryOf ifaces (k + 1)) es (key_of i) k (fresh ifaces own k i is es h)
    (record { iface = i; found = is; keyed = refl; below = omega arith }) (later ifaces k es h)

sum_entered : (f : ℕ → ℕ) (ifaces : List ScopeIface) → AreNamedOnce ifaces
    → (es : List (Key × ℕ)) (k : ℕ) (more : List ScopeIface) → StandsAt ifaces k more
    → AllByRecursion (IsEntryOf ifaces k) es → sum_by f (values_of (entered es k more))
    ≡ sum_by f (values_of es) + sum_from f k (length more)
unfolding sum_from
sum_entered f ifaces own es k [] at h = omega arith
sum_entered f ifaces own es k (i ∷ more) at h =
    let is = first_stands ifaces k i more at
    in omega (
      arith,
      sum_entered f ifaces own (insert_entry key_cmp es (key_of i) k) (k + 1) more
          (rest_stands ifaces k i more at) (next_entries ifaces own es k i is h),
      sum_inserted f es
          (key_of i) k (fresh ifaces own k i is es h),
    )

all_entered : (ifaces : List ScopeIface) → AreNamedOnce ifaces
    → (es : List (Key × ℕ)) (k : ℕ) (more : List ScopeIface) → StandsAt ifaces k more
    → AllByRecursion (IsEntryOf ifaces k) es
    → AllByRecursion (IsEntryOf ifaces (k + length more)) (entered es k more)
all_entered ifaces own es k [] at h = let same : k ≡ k + 0 =
    omega arith in subst (λ (n : ℕ). AllByRecursion (IsEntryOf ifaces n) es) same h
all_entered ifaces own es k (i ∷ more) at h =
    let is = first_stands ifaces k i more at
    in let same : k + 1 + length more ≡ k + suc (length more) = omega arith
    in subst (λ (n : ℕ).
    AllByRecursion (IsEntryOf ifaces n)
    (entered (insert_entry key_cmp es (key_of i) k) (k + 1) more)) same
    (all_entered ifaces own (insert_entry key_cmp es (key_of i) k) (k + 1) more
    (rest_stands ifaces k i more at) (next_entries ifaces own es k i is h))

all_stand : (ifaces : List ScopeIface) → StandsAt ifaces 0 ifaces
unfolding StandsAt
all_stand ifaces = λ m i is. ap (slice_get ifaces) (let e : 0 + m ≡ m = omega arith in e) ∙ is

sum_directory : (f : ℕ → ℕ) (ifaces : List ScopeIface) → AreNamedOnce ifaces
    → sum_by f (directory_of ifaces) ≡ sum_from f 0 (length ifaces)
sum_directory f ifaces own =
    omega (arith, sum_entered f ifaces own [] 0 ifaces (all_stand ifaces) tt)

-- ---- how many numbers

sum_ones : (xs : List ℕ) → sum_by (λ x. 1) xs ≡ length xs
sum_ones [] = refl
sum_ones (x ∷ xs) = omega (arith, sum_by-cons (λ (x : ℕ). 1) x xs, sum_ones xs)

ones_from : (k n : ℕ) → sum_from (λ x. 1) k n ≡ n
unfolding sum_from
ones_from k zero = refl
ones_from k (suc n) = omega (arith, ones_from (k + 1) n)

pub length_directory : (ifaces : List ScopeIface) → AreNamedOnce ifaces
    → length (directory_of ifaces) ≡ length ifaces
length_directory ifaces own =
    sym (sum_ones (directory_of ifaces)) ∙ sum_directory (λ x. 1) ifaces own
    ∙ ones_from 0 (length ifaces)

-- ---- where a number stands

abbrev weight : Bool → ℕ
weight true = 1
weight false = 0

one : ℕ → ℕ → ℕ
one k x = weight (nat_eq k x)

one_here : (k : ℕ) → one k k ≡ 1
unfolding one
one_here k = go (nat_eq k k) refl
  where
    go : (b : Bool) → nat_eq k k ≡ b → weight b ≡ 1
    go true h = refl
    go false h = absurd (grind (arith, h))

once_from : (k j n : ℕ) → j ≤ k → k < j + n → 1 ≤ sum_from (one k) j n
unfolding sum_from
once_from k j zero low high = absurd (omega arith)
once_from k j (suc n) low high = go (nat_lt j k) refl (λ l h. once_from k (j + 1) n l h)
  where
    here : k ≡ j → 1 ≤ one k j + sum_from (one k) (j + 1) n
    here same = omega (arith, one_here k, ap (one k) same)

    go : (b : Bool) → nat_lt j k ≡ b → (j + 1 ≤ k → k < j + 1 + n → 1 ≤ sum_from (one k) (j + 1) n)
        → 1 ≤ one k j + sum_from (one k) (j + 1) n
    go true h rest = let below : j < k =
        ltb-true j k h in omega (arith, rest (omega arith) (omega arith))
    go false h rest = let past : k ≤ j = ltb-false j k h in here (omega arith)

position_once : (k : ℕ) (xs : List ℕ) → 1 ≤ sum_by (one k) xs
    → position_or_len (nat_eq k) xs < length xs
unfolding one
position_once k [] h = absurd (omega (arith, h))
position_once k (x ∷ xs) h =
    go (nat_eq k x) refl (sum_by-cons (one k) x xs) (λ more. position_once k xs more)
  where
    go : (b : Bool) → nat_eq k x ≡ b
        → sum_by (one k) (x ∷ xs) ≡ weight (nat_eq k x) + sum_by (one k) xs
        → (1 ≤ sum_by (one k) xs → position_or_len (nat_eq k) xs < length xs)
        → cond (not b) (1 + position_or_len (nat_eq k) xs) 0 < suc (length xs)
    go true e s rest = omega arith
    go false e s rest = let none : weight (nat_eq k x) ≡ 0 =
        ap weight e in let more : position_or_len (nat_eq k) xs < length xs =
        rest (omega (arith, h, s, none)) in omega arith

pub in_directory : (ifaces : List ScopeIface) → AreNamedOnce ifaces → (k : ℕ) → k < length ifaces
    → position_or_len (nat_eq k) (directory_of ifaces) < length (directory_of ifaces)
in_directory ifaces own k within =
    position_once k (directory_of ifaces)
    (omega (
      arith,
      sum_directory (one k) ifaces own,
      once_from k 0 (length ifaces) (omega arith)
          (omega (arith, within)),
    ))

-- ---- the interfaces in its order

record IsListed (ifaces : List ScopeIface) (x : ℕ) : Type 0 where
  iface : ScopeIface
  found : slice_get ifaces x ≡ Some iface

listed_values : (ifaces : List ScopeIface) (k : ℕ) (es : List (Key × ℕ))
    → AllByRecursion (IsEntryOf ifaces k) es → AllByRecursion (IsListed ifaces) (values_of es)
listed_values ifaces k [] h = tt
listed_values ifaces k (e ∷ es) h =
    (record { iface = h.0.iface; found = h.0.found }, listed_values ifaces k es h.1)

listed : (ifaces : List ScopeIface) → AreNamedOnce ifaces
    → AllByRecursion (IsListed ifaces) (directory_of ifaces)
listed ifaces own =
    listed_values ifaces (0 + length ifaces) (entered [] 0 ifaces)
    (all_entered ifaces own [] 0 ifaces (all_stand ifaces) tt)

length_listed : (ifaces : List ScopeIface) (d : List ℕ) → AllByRecursion (IsListed ifaces) d
    → length (filter_map (slice_get ifaces) d) ≡ length d
length_listed ifaces [] h = refl
length_listed ifaces (x ∷ d) h =
    ap (λ (o : Option ScopeIface). length (cons_option o (filter_map (slice_get ifaces) d)))
    h.0.found ∙ ap suc (length_listed ifaces d h.1)

pub length_in_order : (ifaces : List ScopeIface) → AreNamedOnce ifaces
    → length (in_order ifaces) ≡ length ifaces
length_in_order ifaces own =
    length_listed ifaces (directory_of ifaces) (listed ifaces own) ∙ length_directory ifaces own

shows_listed : (ifaces : List ScopeIface) (d : List ℕ) → AllByRecursion (IsListed ifaces) d
    → (m : ℕ) → m < length d → slice_get (filter_map (slice_get ifaces) d) m
    ≡ slice_get ifaces (get_or d m 0)
shows_listed ifaces [] h m within = absurd (omega arith)
shows_listed ifaces (x ∷ d) h zero within =
    ap (λ (o : Option ScopeIface). slice_get (cons_option o (filter_map (slice_get ifaces) d)) 0)
    h.0.found ∙ sym h.0.found
shows_listed ifaces (x ∷ d) h (suc m) within =
    ap (λ (o : Option ScopeIface). slice_get (cons_option o (filter_map (slice_get ifaces) d))
    (suc m)) h.0.found ∙ shows_listed ifaces d h.1 m (omega arith)

-- the interface at place m of the directory is one of the scope
pub shows_at : (ifaces : List ScopeIface) → AreNamedOnce ifaces → (m : ℕ)
    → m < length (directory_of ifaces) → slice_get (in_order ifaces) m
    ≡ slice_get ifaces (get_or (directory_of ifaces) m 0)
shows_at ifaces own m within =
    shows_listed ifaces (directory_of ifaces) (listed ifaces own) m within

position_is : (k : ℕ) (xs : List ℕ) → position_or_len (nat_eq k) xs < length xs
    → get_or xs (position_or_len (nat_eq k) xs) 0 ≡ k
position_is k [] h = absurd (omega (arith, h))
position_is k (x ∷ xs) h = go (nat_eq k x) refl h (λ more. position_is k xs more)
  where
    go : (b : Bool) → nat_eq k x ≡ b
        → cond (not b) (1 + position_or_len (nat_eq k) xs) 0 < suc (length xs)
        → (position_or_len (nat_eq k) xs < length xs → get_or xs (position_or_len (nat_eq k) xs) 0
        ≡ k) → get_or (x ∷ xs) (cond (not b) (1 + position_or_len (nat_eq k) xs) 0) 0 ≡ k
    go true e l rest = grind (arith, e)
    go false e l rest =
        ap (λ n. get_or (x ∷ xs) n 0)
        (let s : 1 + position_or_len (nat_eq k) xs ≡ suc (position_or_len (nat_eq k) xs) =
        omega arith in s) ∙ rest (omega (arith, l))

-- the interface of number k stands at its place in the directory
pub shows : (ifaces : List ScopeIface) → AreNamedOnce ifaces → (k : ℕ) → k < length ifaces
    → slice_get (in_order ifaces) (position_or_len (nat_eq k) (directory_of ifaces))
    ≡ slice_get ifaces k
shows ifaces own k within =
    let there = in_directory ifaces own k within
    in shows_at ifaces own (position_or_len (nat_eq k) (directory_of ifaces)) there
    ∙ ap (slice_get ifaces) (position_is k (directory_of ifaces) there)

-- each number in the directory is one of the scope
pub numbers_within : (ifaces : List ScopeIface) → AreNamedOnce ifaces
    → AllByRecursion (λ x. x < length ifaces) (directory_of ifaces)
numbers_within ifaces own =
    weaker (IsListed ifaces) (λ (x : ℕ). x < length ifaces)
    (λ x h. slice_get_within ifaces x h.iface h.found) (directory_of ifaces) (listed ifaces own)
