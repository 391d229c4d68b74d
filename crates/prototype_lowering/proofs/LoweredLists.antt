-- Steps of the loops that lower lists, and the type of a parameter that stands alone.
use Rattle.std.proofs.Common.{◌≡◌, ℕ, zero, suc, ◌+◌, ◌<◌, List, [], ◌∷◌, ◌++◌, length, get_or, map, take, Option, Some, None, refl, sym, ap, ◌∙◌, arith, append_assoc}
use Rattle.std.specs.List.{cons_option, filter_map, flat_map}
use Rattle.std.proofs.lemmas.List.{append-nil}
use Rattle.idl_meaning.specs.declared.scope.Meant.{Meant}
use Rattle.idl_meaning.specs.declared.scope.Meant.TheVariants as meant
use Rattle.vtable_layout.specs.Slots.{given_param, value_param}
use Rattle.prototype_lowering.specs.Lowering.{alone, elem_of, type_of}

-- the type of what is given or set
pub record AreLoneTypes (d name : List ℕ) (ty : Meant) : Type 0 where
  pub given : type_of d (given_param ty) ≡ alone (elem_of d ty None)
  pub value : type_of d (value_param name ty) ≡ alone (elem_of d ty None)

pub lone_types : (d name : List ℕ) (ty : Meant) → AreLoneTypes d name ty
lone_types d name (meant.Basic tag) = record { given = refl; value = refl }
lone_types d name (meant.Iface k) = record { given = refl; value = refl }
lone_types d name meant.NsidRef = record { given = refl; value = refl }
lone_types d name meant.NsidPtr = record { given = refl; value = refl }
lone_types d name (meant.StringClass tag) = record { given = refl; value = refl }
lone_types d name meant.JsVal = record { given = refl; value = refl }
lone_types d name (meant.Native text) = record { given = refl; value = refl }

-- the images of the first elements, and of one more
pub map_more : {X Y : Type 0} (f : X → Y) (xs : List X) (i : ℕ) (x : X) → i < length xs
    → x ≡ get_or xs i x → map f (take (i + 1) xs) ≡ map f (take i xs) ++ f x ∷ []
map_more {X} {Y} f xs i x within is =
    ap (λ n. map f (take n xs)) (let e : i + 1 ≡ suc i = omega arith in e) ∙ go xs i within is
  where
    go : (xs : List X) (i : ℕ) → i < length xs → x ≡ get_or xs i x
        → map f (take (suc i) xs) ≡ map f (take i xs) ++ f x ∷ []
    go [] i h k = absurd (omega (arith, h))
    go (y ∷ ys) zero h k = ap (λ z. f z ∷ []) (sym k)
    go (y ∷ ys) (suc i) h k = ap (λ zs. f y ∷ zs) (go ys i (omega (arith, h)) k)

pub flat_more : {X Y : Type 0} (f : X → List Y) (xs : List X) (i : ℕ) (x : X) → i < length xs
    → x ≡ get_or xs i x → flat_map f (take (i + 1) xs) ≡ flat_map f (take i xs) ++ f x
flat_more {X} {Y} f xs i x within is =
    ap (λ n. flat_map f (take n xs)) (let e : i + 1 ≡ suc i = omega arith in e) ∙ go xs i within is
  where
    go : (xs : List X) (i : ℕ) → i < length xs → x ≡ get_or xs i x → flat_map f (take (suc i) xs)
        ≡ flat_map f (take i xs) ++ f x
    go [] i h k = absurd (omega (arith, h))
    go (y ∷ ys) zero h k = append-nil (f y) ∙ ap f (sym k)
    go (y ∷ ys) (suc i) h k =
        ap (λ zs. f y ++ zs) (go ys i (omega (arith, h)) k)
        ∙ sym (append_assoc (f y) (flat_map f (take i ys)) (f x))

filter_more : {X : Type 0} (g : ℕ → Option X) (xs : List ℕ) (i : ℕ) → i < length xs
    → filter_map g (take (i + 1) xs)
    ≡ filter_map g (take i xs) ++ cons_option (g (get_or xs i 0)) []
filter_more {X} g xs i within =
    ap (λ n. filter_map g (take n xs)) (let e : i + 1 ≡ suc i = omega arith in e) ∙ go xs i within
  where
    joined : (o : Option X) (ys zs : List X) → cons_option o (ys ++ zs) ≡ cons_option o ys ++ zs
    joined None ys zs = refl
    joined (Some x) ys zs = refl

    go : (xs : List ℕ) (i : ℕ) → i < length xs → filter_map g (take (suc i) xs)
        ≡ filter_map g (take i xs) ++ cons_option (g (get_or xs i 0)) []
    go [] i h = absurd (omega (arith, h))
    go (y ∷ ys) zero h = refl
    go (y ∷ ys) (suc i) h =
        ap (cons_option (g y)) (go ys i (omega (arith, h)))
        ∙ joined (g y) (filter_map g (take i ys)) (cons_option (g (get_or ys i 0)) [])

map_joined : {X Y : Type 0} (f : X → Y) (xs ys : List X) → map f (xs ++ ys) ≡ map f xs ++ map f ys
map_joined f [] ys = refl
map_joined f (x ∷ xs) ys = ap (λ zs. f x ∷ zs) (map_joined f xs ys)

-- one interface more, and a number that has none
pub found_more : {X Y : Type 0} (f : X → Y) (g : ℕ → Option X) (xs : List ℕ) (i : ℕ)
    (so_far now : List Y) (x : X) (y : Y) → i < length xs
    → so_far ≡ map f (filter_map g (take i xs)) → Some x ≡ g (get_or xs i 0) → y ≡ f x
    → now ≡ so_far ++ y ∷ [] → now ≡ map f (filter_map g (take (i + 1) xs))
found_more f g xs i so_far now x y within before found is pushed =
    pushed ∙ (λ j. before j ++ is j ∷ [])
    ∙ sym (ap (map f)
    (filter_more g xs i within
    ∙ ap (λ o. filter_map g (take i xs) ++ cons_option o []) (sym found))
    ∙ map_joined f (filter_map g (take i xs)) (x ∷ []))

pub none_more : {X Y : Type 0} (f : X → Y) (g : ℕ → Option X) (xs : List ℕ) (i : ℕ)
    (so_far now : List Y) → i < length xs → so_far ≡ map f (filter_map g (take i xs))
    → None ≡ g (get_or xs i 0) → now ≡ so_far → now ≡ map f (filter_map g (take (i + 1) xs))
none_more f g xs i so_far now within before none same =
    same ∙ before
    ∙ sym (ap (map f)
    (filter_more g xs i within
    ∙ ap (λ o. filter_map g (take i xs) ++ cons_option o []) (sym none)
    ∙ append-nil (filter_map g (take i xs))))

-- what was written over the front
pub take_written : (w t : List ℕ) (n : ℕ) → n ≡ length w → take n (w ++ t) ≡ w
take_written w t n is = ap (λ m. take m (w ++ t)) is ∙ go w
  where
    go : (w : List ℕ) → take (length w) (w ++ t) ≡ w
    go [] = refl
    go (x ∷ w) = ap (λ xs. x ∷ xs) (go w)
