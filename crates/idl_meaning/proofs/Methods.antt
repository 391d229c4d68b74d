-- The parameters of a method without faults.
use Rattle.std.proofs.Common.{◌≡◌, ℕ, zero, suc, Bool, true, false, not, ◌&&◌, ◌||◌, List, [], ◌∷◌, ◌++◌, length, Option, Some, None, refl, sym, ap, ◌∙◌, subst, if◌then◌else◌, option_and_then, find, true≢false}
use Rattle.std.specs.Prelude.{slice_get, IsSomeAnd, is_some, is_none}
use Rattle.std.specs.List.{list_any}
use Rattle.std.specs.Str.{bytes_eq}
use Rattle.std.proofs.lemmas.Slice.Eq.{bytes_eq-Decides}
use Rattle.xp_base.specs.declared.kinds.Dir.{Dir}
use Rattle.xp_base.specs.declared.kinds.Dir.TheVariants.{Inward, Outward, Both}
use Rattle.idl_grammar.specs.declared.tree.ParamDecl.{ParamDecl}
use Rattle.idl_grammar.specs.declared.tree.TypeName.{TypeName}
use Rattle.idl_grammar.specs.declared.tree.TypeName.TheVariants as type
use Rattle.idl_meaning.specs.declared.scope.Meant.{Meant}
use Rattle.idl_meaning.specs.declared.scope.Meant.TheVariants as meant
use Rattle.idl_meaning.specs.declared.scope.ScopeParam.{ScopeParam}
use Rattle.idl_meaning.specs.Meaning.{Names, Bound, learns, nothing, meaning_of, bound_sense, is_iid_ref, Sense, Unknown, Nothing, Means, sense, is_unknown, is_a, is_no, is_integer, is_string, is_iid, is_class, is_native, is_object}
use Rattle.idl_meaning.specs.Scopes.{number_from, number_in, stands_for, result_of, param_made, params_made}
use Rattle.idl_meaning.specs.Faults.{Place, numbered, when, applied, any_repeated, is_in, is_both, is_misdirected, is_optional, is_needed, any_gap, is_open_native, is_misnamed, is_array, size_name, length_name, iid_name, is_named, param_of, is_no_param, is_wrong_count, is_wrong_iid, is_mismeasured, is_wrong_array, is_retval, is_out, is_empty, any_wrong_retval, is_void_name}
use Rattle.idl_meaning.specs.Accepted.{IsMeant, IsGiven, IsResult, IsSingle, Points, HaveNamesOnce, IsAcceptedParam, IsAcceptedMethod, ShowsNoNative}
use Rattle.idl_meaning.proofs.Among.{later, later-from_zero}

-- ---- tests

pub or_left : (a b : Bool) → (a || b) ≡ false → a ≡ false
or_left true b e = absurd cc
or_left false b e = refl

pub or_right : (a b : Bool) → (a || b) ≡ false → b ≡ false
or_right true b e = absurd cc
or_right false b e = e

pub and_false : (a b : Bool) → (a && b) ≡ false → a ≡ true → b ≡ false
and_false true b e h = e
and_false false b e h = absurd cc

pub not_false : (a : Bool) → not a ≡ false → a ≡ true
not_false true e = refl
not_false false e = absurd cc

-- what none of a list is, its elements are not
pub none_of : {A : Type 0} (f : A → Bool) (xs : List A) (k : ℕ) (x : A) → list_any f xs ≡ false → slice_get xs k ≡ Some x → f x ≡ false
none_of f [] k x e h = absurd cc
none_of f (y ∷ ys) zero x e h = let same : y ≡ x = cc in subst (λ z. f z ≡ false) same (or_left (f y) (list_any f ys) e)
none_of f (y ∷ ys) (suc k) x e h = none_of f ys k x (or_right (f y) (list_any f ys) e) h

filled : (code : ℕ) (rest : List ℕ) → code ∷ rest ≡ [] → ⊥
filled code rest e = absurd cc

-- where no code is, each condition fails
pub fails : (cs : List (Place → Bool)) (code : ℕ) (p : Place) → numbered code cs p ≡ [] → (n : ℕ) → applied (slice_get cs n) p ≡ false
fails [] code p e n = refl
fails (t ∷ more) code p e n = go (fails more (suc code) p) (t p) refl n where
  go : (numbered (suc code) more p ≡ [] → (m : ℕ) → applied (slice_get more m) p ≡ false)
      → (b : Bool) → t p ≡ b → (m : ℕ) → applied (slice_get (t ∷ more) m) p ≡ false
  go up true is m = absurd (filled code (numbered (suc code) more p) (sym (ap (λ b. when b code ++ numbered (suc code) more p) is) ∙ e))
  go up false is zero = is
  go up false is (suc m) = up (sym (ap (λ b. when b code ++ numbered (suc code) more p) is) ∙ e) m

-- ---- numbers of parameters

-- the number of a parameter leads to it
pub find-number : (ps : List ParamDecl) (w : List ℕ) (n : ℕ) (q : ParamDecl) → find (is_named w) ps ≡ Some q
    → (j : ℕ) × (number_from n ps w ≡ Some (later j n)) × (slice_get ps j ≡ Some q)
find-number [] w n q e = absurd cc
find-number (p ∷ ps) w n q e = go (find-number ps w (suc n) q) (bytes_eq p.name w) refl where
  go : (find (is_named w) ps ≡ Some q → (j : ℕ) × (number_from (suc n) ps w ≡ Some (later j (suc n))) × (slice_get ps j ≡ Some q))
      → (b : Bool) → bytes_eq p.name w ≡ b → (j : ℕ) × (number_from n (p ∷ ps) w ≡ Some (later j n)) × (slice_get (p ∷ ps) j ≡ Some q)
  go up true is = (
    zero,
    ap (λ b. if b then Some n else number_from (suc n) ps w) is,
    sym (ap (λ b. if b then Some p else find (is_named w) ps) is) ∙ e,
  )
  go up false is =
      let r = up (sym (ap (λ b. if b then Some p else find (is_named w) ps) is) ∙ e) in
      (suc r.0, ap (λ b. if b then Some n else number_from (suc n) ps w) is ∙ r.1, r.2)

pub number-leads : (ps : List ParamDecl) (w : List ℕ) (q : ParamDecl) → param_of ps w ≡ Some q
    → (j : ℕ) × (number_in ps w ≡ Some j) × (slice_get ps j ≡ Some q)
number-leads ps w q e =
    let r = find-number ps w 0 q e in
    (r.0, r.1 ∙ ap Some (later-from_zero r.0), r.2)

-- ---- what is made of a parameter

pub made-at : (names : Names) (numbers : List ℕ → Option ℕ) (ps : List ParamDecl) (k : ℕ) (p : ParamDecl) → slice_get ps k ≡ Some p
    → slice_get (params_made names numbers ps) k ≡ Some (param_made names numbers p)
made-at names numbers [] k p e = absurd cc
made-at names numbers (q ∷ ps) zero p e = let same : q ≡ p = cc in ap (λ (x : ParamDecl). Some (param_made names numbers x)) same
made-at names numbers (q ∷ ps) (suc k) p e = made-at names numbers ps k p e

pub made-from : (names : Names) (numbers : List ℕ → Option ℕ) (ps : List ParamDecl) (k : ℕ) (m : ScopeParam)
    → slice_get (params_made names numbers ps) k ≡ Some m → (p : ParamDecl) × (slice_get ps k ≡ Some p) × (param_made names numbers p ≡ m)
made-from names numbers [] k m e = absurd cc
made-from names numbers (q ∷ ps) zero m e = (q, refl, let same : param_made names numbers q ≡ m = cc in same)
made-from names numbers (q ∷ ps) (suc k) m e = made-from names numbers ps k m e

pub length-made : (names : Names) (numbers : List ℕ → Option ℕ) (ps : List ParamDecl) → length (params_made names numbers ps) ≡ length ps
length-made names numbers [] = refl
length-made names numbers (q ∷ ps) = ap suc (length-made names numbers ps)

-- ---- 2 and 8: a size, a length or an identifier is given by a parameter of its kind

-- a type that is known and does not fail the test stands for one that passes it
pub passes : (test : Meant → Bool) (s : Sense) → is_unknown s ≡ false → is_no test s ≡ false → test (stands_for s) ≡ true
passes test Unknown known e = absurd cc
passes test Nothing known e = absurd cc
passes test (Means m) known e = not_false (test m) e

-- a parameter that is there, no array, and of a type that passes
given-by : (test : Meant → Bool) (names : Names) (ps : List ParamDecl) (o : Option ParamDecl) → list_any (is_misnamed names) ps ≡ false
    → is_no_param test names o ≡ false → (q : ParamDecl) × (o ≡ Some q) × (is_array q ≡ false) × (is_no test (sense names q.of) ≡ false)
given-by test names ps None known e = absurd cc
given-by test names ps (Some q) known e = (q, refl, or_left (is_array q) (is_no test (sense names q.of)) e, or_right (is_array q) (is_no test (sense names q.of)) e)

module _ (test : Meant → Bool) (names : Names) (ps : List ParamDecl) (known : list_any (is_misnamed names) ps ≡ false) where
  points-at : (w : List ℕ) → is_no_param test names (param_of ps w) ≡ false
      → (j : ℕ) × (number_in ps w ≡ Some j) × Points test (params_made names (number_in ps) ps) (Some j)
  points-at w e =
      let g = given-by test names ps (param_of ps w) known e in
      let r = number-leads ps w g.0 g.1 in
      let there : slice_get (params_made names (number_in ps) ps) r.0 ≡ Some (param_made names (number_in ps) g.0) = made-at names (number_in ps) ps r.0 g.0 r.2 in
      let ok : test (stands_for (sense names g.0.of)) ≡ true = passes test (sense names g.0.of) (none_of (is_misnamed names) ps r.0 g.0 known r.2) g.3 in
      (r.0, r.1, subst (λ (o : Option ScopeParam). IsSomeAnd o (IsSingle test)) (sym there) (record { passes = ok; no_array = g.2 }))

  -- where a name is given, its number is there
  pub points : (o : Option (List ℕ)) → ((w : List ℕ) → o ≡ Some w → is_no_param test names (param_of ps w) ≡ false)
      → Points test (params_made names (number_in ps) ps) (option_and_then (number_in ps) o)
  points None h = tt
  points (Some w) h =
      let r = points-at w (h w refl) in
      subst (λ (o : Option ℕ). Points test (params_made names (number_in ps) ps) o) (sym r.1) r.2

  pub has-number : (o : Option (List ℕ)) → ((w : List ℕ) → o ≡ Some w → is_no_param test names (param_of ps w) ≡ false)
      → is_some o ≡ true → is_some (option_and_then (number_in ps) o) ≡ true
  has-number None h e = absurd cc
  has-number (Some w) h e = let r = points-at w (h w refl) in ap is_some r.1

count-right : (names : Names) (named : List ℕ → Option ParamDecl) (p : ParamDecl) (o : Option (List ℕ)) → is_wrong_count names named p o ≡ false
    → (w : List ℕ) → o ≡ Some w → is_no_param is_integer names (named w) ≡ false
count-right names named p None e w is = absurd cc
count-right names named p (Some v) e w is =
    let same : v ≡ w = cc in
    subst (λ (u : List ℕ). is_no_param is_integer names (named u) ≡ false) same (or_right _ (is_no_param is_integer names (named v)) e)

iid-right : (names : Names) (named : List ℕ → Option ParamDecl) (p : ParamDecl) (o : Option (List ℕ)) → is_wrong_iid names named p o ≡ false
    → (w : List ℕ) → o ≡ Some w → is_no_param is_iid names (named w) ≡ false
iid-right names named p None e w is = absurd cc
iid-right names named p (Some v) e w is =
    let same : v ≡ w = cc in
    subst (λ (u : List ℕ). is_no_param is_iid names (named u) ≡ false) same (or_right _ (is_no_param is_iid names (named v)) e)

-- a size or a length stands on an array or a string
count-fits : (names : Names) (named : List ℕ → Option ParamDecl) (numbers : List ℕ → Option ℕ) (p : ParamDecl) (o : Option (List ℕ)) → is_misnamed names p ≡ false
    → is_wrong_count names named p o ≡ false → is_some (option_and_then numbers o) ≡ true → (is_array p || is_string (stands_for (sense names p.of))) ≡ true
count-fits names named numbers p None known e h = absurd cc
count-fits names named numbers p (Some w) known e h = go (is_array p) (or_left (not (is_array p) && is_no is_string (sense names p.of)) (is_no_param is_integer names (named w)) e) where
  go : (array : Bool) → (not array && is_no is_string (sense names p.of)) ≡ false → (array || is_string (stands_for (sense names p.of))) ≡ true
  go true e = refl
  go false e = passes is_string (sense names p.of) known e

-- an identifier stands on an interface or a plain native
iid-fits : (names : Names) (named : List ℕ → Option ParamDecl) (numbers : List ℕ → Option ℕ) (p : ParamDecl) (o : Option (List ℕ)) → is_misnamed names p ≡ false
    → is_wrong_iid names named p o ≡ false → is_some (option_and_then numbers o) ≡ true → is_object (stands_for (sense names p.of)) ≡ true
iid-fits names named numbers p None known e h = absurd cc
iid-fits names named numbers p (Some w) known e h = passes is_object (sense names p.of) known (or_left (is_no is_object (sense names p.of)) (is_no_param is_iid names (named w)) e)

-- where there is a number, there was a name
number-named : (numbers : List ℕ → Option ℕ) (o : Option (List ℕ)) → is_some (option_and_then numbers o) ≡ true → is_some o ≡ true
number-named numbers None e = e
number-named numbers (Some w) e = refl

-- ---- what a type stands for

abbrev pub AreMeant : ℕ → Names → Type 0
AreMeant count names = (name : List ℕ) (b : Bound) → names name ≡ Some b → IsMeant count (meaning_of b)

-- what a type stands for passes a test where the type does
pub stands-as : (test : Meant → Bool) → test meant.JsVal ≡ false → (s : Sense) → test (stands_for s) ≡ is_a test s
stands-as test js Unknown = js
stands-as test js Nothing = js
stands-as test js (Means m) = refl

-- so does a value that is given back
gives-as : (test : Meant → Bool) → test meant.JsVal ≡ false → (s : Sense) → is_a test s ≡ false → (m : Meant) → result_of s ≡ Some m → test m ≡ false
gives-as test js Unknown e m is = let same : meant.JsVal ≡ m = cc in subst (λ (n : Meant). test n ≡ false) same js
gives-as test js Nothing e m is = absurd cc
gives-as test js (Means n) e m is = let same : n ≡ m = cc in subst (λ (x : Meant). test x ≡ false) same e

module _ (count : ℕ) (names : Names) (good : AreMeant count names) where
  bound-meant : (name : List ℕ) (o : Option Bound) → names name ≡ o → IsMeant count (stands_for (bound_sense o))
  bound-meant name None e = tt
  bound-meant name (Some b) e = good name b e

  pub stands-meant : (of : TypeName) → IsMeant count (stands_for (sense names of))
  stands-meant type.Void = tt
  stands-meant type.Boolean = refl
  stands-meant type.Octet = refl
  stands-meant type.Short = refl
  stands-meant type.Long = refl
  stands-meant type.LongLong = refl
  stands-meant type.UShort = refl
  stands-meant type.ULong = refl
  stands-meant type.ULongLong = refl
  stands-meant type.Float = refl
  stands-meant type.Double = refl
  stands-meant type.Char = refl
  stands-meant type.WChar = refl
  stands-meant type.CString = refl
  stands-meant type.WString = refl
  stands-meant (type.Named name) = bound-meant name (names name) refl

  -- 7: no reference is given back
  pub stands-given : (of : TypeName) → is_a is_iid_ref (sense names of) ≡ false → IsGiven count (stands_for (sense names of))
  stands-given of e = record { typed = stands-meant of; no_reference = stands-as is_iid_ref refl (sense names of) ∙ e }

  result-is : (s : Sense) → IsGiven count (stands_for s) → IsResult count (result_of s)
  result-is Unknown h = h
  result-is Nothing h = tt
  result-is (Means m) h = h

  pub result-given : (of : TypeName) → is_a is_iid_ref (sense names of) ≡ false → IsResult count (result_of (sense names of))
  result-given of e = result-is (sense names of) (stands-given of e)

-- ---- 1: names

-- a name that is not known behind another was not known before it, and is not that one
pub unlearned : {A : Type 0} (old : List ℕ → Option A) (name : List ℕ) (v : A) (n : List ℕ) → is_some (learns old name (Some v) n) ≡ false
    → (name ≡ n → ⊥) × (is_some (old n) ≡ false)
unlearned {A} old name v n = go (bytes_eq name n) refl where
  go : (b : Bool) → bytes_eq name n ≡ b → is_some (if b then Some v else old n) ≡ false → (name ≡ n → ⊥) × (is_some (old n) ≡ false)
  go true is e = absurd cc
  go false is e = ((λ same. true≢false (sym ((bytes_eq-Decides name n).1 same) ∙ is)), e)

-- no parameter has a name that is known before them
fresh : (before : List ℕ → Option ℕ) (ps : List ParamDecl) (k : ℕ) (p : ParamDecl) → any_repeated before ps ≡ false → slice_get ps k ≡ Some p → is_some (before p.name) ≡ false
fresh before [] k p e at = absurd cc
fresh before (q ∷ ps) zero p e at =
    let same : q ≡ p = cc in
    subst (λ (x : ParamDecl). is_some (before x.name) ≡ false) same (or_left (is_some (before q.name)) (any_repeated (learns before q.name (Some 0)) ps) e)
fresh before (q ∷ ps) (suc k) p e at =
    (unlearned before q.name 0 p.name
    (fresh (learns before q.name (Some 0)) ps k p (or_right (is_some (before q.name)) (any_repeated (learns before q.name (Some 0)) ps) e) at)).1

second : (before : List ℕ → Option ℕ) (q : ParamDecl) (ps : List ParamDecl) (k : ℕ) (p : ParamDecl) → any_repeated before (q ∷ ps) ≡ false → slice_get ps k ≡ Some p → q.name ≡ p.name → ⊥
second before q ps k p e at =
    (unlearned before q.name 0 p.name
    (fresh (learns before q.name (Some 0)) ps k p (or_right (is_some (before q.name)) (any_repeated (learns before q.name (Some 0)) ps) e) at)).0

names-differ : (before : List ℕ → Option ℕ) (ps : List ParamDecl) → any_repeated before ps ≡ false → HaveNamesOnce (λ (p : ParamDecl). p.name) ps
names-differ before [] e j k a b at there same = absurd cc
names-differ before (q ∷ ps) e zero zero a b at there same = refl
names-differ before (q ∷ ps) e zero (suc k) a b at there same = absurd (second before q ps k b e there (let first : q ≡ a = cc in ap (λ (x : ParamDecl). x.name) first ∙ same))
names-differ before (q ∷ ps) e (suc j) zero a b at there same = absurd (second before q ps j a e at (let first : q ≡ b = cc in ap (λ (x : ParamDecl). x.name) first ∙ sym same))
names-differ before (q ∷ ps) e (suc j) (suc k) a b at there same =
    ap suc (names-differ (learns before q.name (Some 0)) ps (or_right (is_some (before q.name)) (any_repeated (learns before q.name (Some 0)) ps) e) j k a b at there same)

-- ---- 13: an `optional` parameter

one-of : (a b : Bool) → (not a && not b) ≡ false → (a || b) ≡ true
one-of true b e = refl
one-of false true e = refl
one-of false false e = absurd cc

not-needed : (ps : List ParamDecl) (q : ParamDecl) → slice_get ps zero ≡ Some q → is_needed ps ≡ false → (is_optional q || is_retval q) ≡ true
not-needed [] q at e = absurd cc
not-needed (p ∷ ps) q at e =
    let same : p ≡ q = cc in
    subst (λ (x : ParamDecl). (is_optional x || is_retval x) ≡ true) same (one-of (is_optional p) (is_retval p) e)

gap-filled : (ps : List ParamDecl) (k : ℕ) (p q : ParamDecl) → any_gap ps ≡ false → slice_get ps k ≡ Some p → slice_get ps (suc k) ≡ Some q → is_optional p ≡ true
    → (is_optional q || is_retval q) ≡ true
gap-filled [] k p q e at next h = absurd cc
gap-filled (x ∷ more) zero p q e at next h =
    let same : x ≡ p = cc in
    not-needed more q next
    (and_false (is_optional x) (is_needed more) (or_left (is_optional x && is_needed more) (any_gap more) e) (subst (λ (y : ParamDecl). is_optional y ≡ true) (sym same) h))
gap-filled (x ∷ more) (suc k) p q e at next h = gap-filled more k p q (or_right (is_optional x && is_needed more) (any_gap more) e) at next h

-- ---- 7: directions

in-is : (d : Dir) → not (is_in d) ≡ false → d ≡ Inward
in-is Inward e = refl
in-is Outward e = absurd cc
in-is Both e = absurd cc

-- ---- 12: a `retval`

empty-length : {A : Type 0} (xs : List A) → is_empty xs ≡ true → 1 ≡ suc (length xs)
empty-length [] e = refl
empty-length (x ∷ xs) e = absurd cc

retval-right : (gives : Bool) (ps : List ParamDecl) (k : ℕ) (p : ParamDecl) → any_wrong_retval gives ps ≡ false → slice_get ps k ≡ Some p → is_retval p ≡ true
    → (gives ≡ false) × (is_out p.dir ≡ true) × (suc k ≡ length ps)
retval-right gives [] k p e at h = absurd cc
retval-right gives (q ∷ more) zero p e at h =
    let same : q ≡ p = cc in
    let mine : (is_retval q && (gives || not (is_out q.dir) || not (is_empty more))) ≡ false = or_left _ (any_wrong_retval gives more) e in
    let three = and_false (is_retval q) (gives || not (is_out q.dir) || not (is_empty more)) mine (subst (λ (x : ParamDecl). is_retval x ≡ true) (sym same) h) in
    let two = or_left (gives || not (is_out q.dir)) (not (is_empty more)) three in (
      or_left gives (not (is_out q.dir)) two,
      subst (λ (x : ParamDecl). is_out x.dir ≡ true) same (not_false (is_out q.dir) (or_right gives (not (is_out q.dir)) two)),
      empty-length more (not_false (is_empty more) (or_right (gives || not (is_out q.dir)) (not (is_empty more)) three)),
    )
retval-right gives (q ∷ more) (suc k) p e at h =
    let r = retval-right gives more k p (or_right _ (any_wrong_retval gives more) e) at h in (r.0, r.1, ap suc r.2)

out-is : (d : Dir) → is_out d ≡ true → d ≡ Outward
out-is Outward e = refl
out-is Inward e = absurd cc
out-is Both e = absurd cc

void-gives : (names : Names) (of : TypeName) → is_void_name of ≡ true → result_of (sense names of) ≡ None
void-gives names type.Void e = refl
void-gives names _ e = absurd cc

-- ---- a parameter, and a method

module _ (count : ℕ) (names : Names) (good : AreMeant count names) (ps : List ParamDecl) (known : list_any (is_misnamed names) ps ≡ false) where
  pub param-accepted : (p : ParamDecl) → is_misnamed names p ≡ false → is_misdirected names p ≡ false → is_mismeasured names (param_of ps) p ≡ false → is_wrong_array names p ≡ false
      → IsAcceptedParam count (params_made names (number_in ps) ps) (param_made names (number_in ps) p)
  param-accepted p e2 e7 e8 e9 =
      let named = param_of ps in
      let s = sense names p.of in
      let abc = or_left (is_wrong_count names named p (size_name p) || is_wrong_count names named p (length_name p) || is_some (length_name p) && is_none (size_name p)) (is_wrong_iid names named p (iid_name p)) e8 in
      let ab = or_left (is_wrong_count names named p (size_name p) || is_wrong_count names named p (length_name p)) (is_some (length_name p) && is_none (size_name p)) abc in
      let size_right = or_left (is_wrong_count names named p (size_name p)) (is_wrong_count names named p (length_name p)) ab in
      let size = count-right names named p (size_name p) size_right in
      let measure = count-right names named p (length_name p) (or_right (is_wrong_count names named p (size_name p)) (is_wrong_count names named p (length_name p)) ab) in
      let beside = or_right (is_wrong_count names named p (size_name p) || is_wrong_count names named p (length_name p)) (is_some (length_name p) && is_none (size_name p)) abc in
      let iid_is_right = or_right (is_wrong_count names named p (size_name p) || is_wrong_count names named p (length_name p) || is_some (length_name p) && is_none (size_name p)) (is_wrong_iid names named p (iid_name p)) e8 in
      let identify = iid-right names named p (iid_name p) iid_is_right in
      record {
        typed = stands-meant count names good p.of;
        reference_in = λ h.
            in-is p.dir
            (and_false (is_a is_iid_ref s) (not (is_in p.dir)) (or_left (is_a is_iid_ref s && not (is_in p.dir)) (is_a is_class s && is_both p.dir) e7) (sym (stands-as is_iid_ref refl s) ∙ h));
        class_one_way = λ h.
            and_false (is_a is_class s) (is_both p.dir) (or_right (is_a is_iid_ref s && not (is_in p.dir)) (is_a is_class s && is_both p.dir) e7) (sym (stands-as is_class refl s) ∙ h);
        sized = points is_integer names ps known (size_name p) size;
        size_fits = count-fits names named (number_in ps) p (size_name p) e2 size_right;
        measured = points is_integer names ps known (length_name p) measure;
        beside_size = λ h.
            has-number is_integer names ps known (size_name p) size
            (not_false (is_some (size_name p)) (and_false (is_some (length_name p)) (is_none (size_name p)) beside (number-named (number_in ps) (length_name p) h)));
        identified = points is_iid names ps known (iid_name p) identify;
        iid_fits = iid-fits names named (number_in ps) p (iid_name p) e2 iid_is_right;
        array_sized = λ h.
            has-number is_integer names ps known (size_name p) size
            (not_false (is_some (size_name p))
            (or_left (is_none (size_name p)) (is_a is_class (sense names p.of))
            (or_left (is_none (size_name p) || is_a is_class (sense names p.of)) (is_a is_iid_ref (sense names p.of))
            (and_false (is_array p) (is_none (size_name p) || is_a is_class (sense names p.of) || is_a is_iid_ref (sense names p.of)) e9 h))));
        array_plain = λ h.
            stands-as is_class refl s
            ∙ or_right (is_none (size_name p)) (is_a is_class s)
            (or_left (is_none (size_name p) || is_a is_class s) (is_a is_iid_ref s)
            (and_false (is_array p) (is_none (size_name p) || is_a is_class s || is_a is_iid_ref s) e9 h));
        array_no_reference = λ h.
            stands-as is_iid_ref refl s
            ∙ or_right (is_none (size_name p) || is_a is_class s) (is_a is_iid_ref s)
            (and_false (is_array p) (is_none (size_name p) || is_a is_class s || is_a is_iid_ref s) e9 h);
      }

  pub method-accepted : (of : TypeName) → any_repeated nothing ps ≡ false → (is_a is_iid_ref (sense names of) || list_any (is_misdirected names) ps) ≡ false
      → list_any (is_mismeasured names (param_of ps)) ps ≡ false → list_any (is_wrong_array names) ps ≡ false
      → any_wrong_retval (not (is_void_name of)) ps ≡ false → any_gap ps ≡ false → IsAcceptedMethod count (result_of (sense names of)) (params_made names (number_in ps) ps)
  method-accepted of e1 e7 e8 e9 e12 e13 =
      let from = made-from names (number_in ps) ps in
      record {
        returned = result-given count names good of (or_left (is_a is_iid_ref (sense names of)) (list_any (is_misdirected names) ps) e7);
        each = λ k m at.
            let r = from k m at in
            subst (λ (x : ScopeParam). IsAcceptedParam count (params_made names (number_in ps) ps) x) r.2
            (param-accepted r.0 (none_of (is_misnamed names) ps k r.0 known r.1)
            (none_of (is_misdirected names) ps k r.0 (or_right (is_a is_iid_ref (sense names of)) (list_any (is_misdirected names) ps) e7) r.1)
            (none_of (is_mismeasured names (param_of ps)) ps k r.0 e8 r.1) (none_of (is_wrong_array names) ps k r.0 e9 r.1));
        params_differ = λ j k a b at there same.
            let r = from j a at in
            let t = from k b there in
            names-differ nothing ps e1 j k r.0 t.0 r.1 t.1
            (ap (λ (x : ScopeParam). x.name) r.2 ∙ same ∙ sym (ap (λ (x : ScopeParam). x.name) t.2));
        no_gap = λ k a b at next h.
            let r = from k a at in
            let t = from (suc k) b next in
            subst (λ (x : ScopeParam). (x.optional || x.retval) ≡ true) t.2
            (gap-filled ps k r.0 t.0 e13 r.1 t.1 (subst (λ (x : ScopeParam). x.optional ≡ true) (sym r.2) h));
        last = λ k m at h.
            let r = from k m at in
            (retval-right (not (is_void_name of)) ps k r.0 e12 r.1 (subst (λ (x : ScopeParam). x.retval ≡ true) (sym r.2) h)).2
            ∙ sym (length-made names (number_in ps) ps);
        outward = λ k m at h.
            let r = from k m at in
            subst (λ (x : ScopeParam). x.dir ≡ Outward) r.2
            (out-is r.0.dir (retval-right (not (is_void_name of)) ps k r.0 e12 r.1 (subst (λ (x : ScopeParam). x.retval ≡ true) (sym r.2) h)).1);
        alone = λ k m at h.
            let r = from k m at in
            void-gives names of
            (not_false (is_void_name of) (retval-right (not (is_void_name of)) ps k r.0 e12 r.1 (subst (λ (x : ScopeParam). x.retval ≡ true) (sym r.2) h)).0);
      }

  -- 14: no plain native is shown
  pub shows-none : (of : TypeName) → list_any (is_mismeasured names (param_of ps)) ps ≡ false
      → (is_a is_native (sense names of) || list_any (is_open_native names) ps) ≡ false → ShowsNoNative (result_of (sense names of)) (params_made names (number_in ps) ps)
  shows-none of e8 e14 = record {
    gives_none = gives-as is_native refl (sense names of) (or_left (is_a is_native (sense names of)) (list_any (is_open_native names) ps) e14);
    takes_none = λ k m at h.
        let r = made-from names (number_in ps) ps k m at in
        let p = r.0 in
        let bare = none_of (is_open_native names) ps k p (or_right (is_a is_native (sense names of)) (list_any (is_open_native names) ps) e14) r.1 in
        let native : is_native (stands_for (sense names p.of)) ≡ true = subst (λ (x : ScopeParam). is_native x.ty ≡ true) (sym r.2) h in
        let measured = none_of (is_mismeasured names (param_of ps)) ps k p e8 r.1 in
        let right = iid-right names (param_of ps) p (iid_name p)
        (or_right (is_wrong_count names (param_of ps) p (size_name p) || is_wrong_count names (param_of ps) p (length_name p) || is_some (length_name p) && is_none (size_name p)) (is_wrong_iid names (param_of ps) p (iid_name p)) measured) in
        subst (λ (x : ScopeParam). is_some x.iid ≡ true) r.2
        (has-number is_iid names ps known (iid_name p) right
        (not_false (is_some (iid_name p)) (and_false (is_a is_native (sense names p.of)) (is_none (iid_name p)) bare (sym (stands-as is_native refl (sense names p.of)) ∙ native))));
  }
