-- What is known of parts without a fault when they are read again, by their lengths alone.
use Rattle.std.proofs.Common.{◌≡◌, ◌≢◌, ℕ, zero, suc, ◌+◌, ◌-◌, ◌<◌, ◌≤◌, List, [], length, Option, Some, None, Bool, true, false, not, arith, refl, sym, ap, ◌∙◌, subst, inl, inr}
use Rattle.std.specs.Prelude.{option_map, slice_get}
use Rattle.std.proofs.Math.ListN.{get_or, replicate, set}
use Rattle.std.proofs.lemmas.List.{get_or-replicate, get_or-set_other, get_or-set_same, length-replicate, length-set}
use Rattle.std.proofs.lemmas.Option.{slice_get-get_or, slice_get_within}
use Rattle.std.proofs.lemmas.Bool.{cases_lt}
use Rattle.std.proofs.lemmas.Bool.Decides.{eqb_tells}
use Rattle.lib_model.specs.declared.param_types.Param.{Param}
use Rattle.lib_model.specs.Denotes.{tag_at, value_len}
use Rattle.lib_model.specs.Valid.{tag_of}
use Rattle.typelib_faults.specs.declared.cursor.Cursor.{Cursor}
use Rattle.typelib_faults.specs.declared.faults.BadTypelib.{BadTypelib}
use Rattle.typelib_faults.specs.Faults.{args_fault, constant_fault, form_fault, is_kind_tag, item_fault, method_fault, method_next, name_fault, param_fault, param_next, params_cursor, past, result_fault, type_fault, type_number_fault}
use Rattle.typelib_faults.specs.Places.{count_of, kind_at, method_end, param_at, param_count_at, param_end, params_at, params_end, type_at}
use Rattle.typelib_faults.specs.Walk.{faulty, reach, values, walk}
use Rattle.typelib_faults.proofs.MemberLaws.{item_room, method_items}
use Rattle.typelib_faults.proofs.TypeLaws.{past_inside}
use Rattle.typelib_faults.proofs.WalkFacts.{Left, faulty_none, orelse_none, parts3, parts6, parts8, reach_place, values_get, values_past, walk_at}
use Rattle.typelib_check.specs.declared.parts.Params.{Params}
use Rattle.typelib_check.specs.Parts.{AreFineParams, HasTags}

-- ---- parameters

-- the parameter behind so many lies inside the file, and its type has a known form
pub param_there : (x : List ℕ) (params : Params) (i place : ℕ) → AreFineParams x params → i < params.count → place ≡ reach (param_end x) params.from.place i → (form_fault x (place + 1) ≡ None) × (place < length x)
unfolding param_fault type_fault
param_there x params i place fine low is =
    let c : Cursor = reach (param_next x) params.from i
    in let there : c.place ≡ place = reach_place (param_next x) (param_end x) (λ s. refl) params.from i ∙ sym is
    in let m : (item_fault c ≡ None) × (past x c.place 1 ≡ None) × (type_fault x (c.place + 1) ≡ None) =
    parts3 (item_fault c) (past x c.place 1) (type_fault x (c.place + 1)) (walk_at (param_fault x) (param_next x) params.from params.count i fine low)
    in let form : form_fault x (c.place + 1) ≡ None = (orelse_none (form_fault x (c.place + 1)) (type_number_fault (count_of x) (c.place + 1) (type_at x (c.place + 1))) m.2).0
    in subst (λ (p : ℕ). (form_fault x (p + 1) ≡ None) × (p < length x)) there (form, omega (arith, past_inside x c.place 1 m.1))

-- ---- members

not_true : (b : Bool) → not b ≡ false → b ≡ true
not_true true e = refl
not_true false e = absurd (cc)

-- what is known of a method without a fault
pub record KnownMethod (x : List ℕ) (c : Cursor) : Type 0 where
  pub room : c.items < 1000000
  pub inside : c.place + 6 ≤ length x
  pub name : name_fault x (c.place + 1) ≡ None
  pub params : walk (param_fault x) (param_next x) (params_cursor c) (param_count_at x c.place) ≡ None
  pub result_inside : params_end x c.place < length x
  pub result_form : form_fault x (params_end x c.place + 1) ≡ None
  pub few : c.items + 1 + param_count_at x c.place ≤ 1000000

pub method_known : (x : List ℕ) (c : Cursor) → method_fault x c ≡ None → KnownMethod x c
unfolding method_fault result_fault
method_known x c e =
    let last : ℕ = params_end x c.place
    in let m : (item_fault c ≡ None) × (past x c.place 1 ≡ None) × (past x (c.place + 1) 4 ≡ None) × (name_fault x (c.place + 1) ≡ None) × (past x (c.place + 5) 1 ≡ None) × (walk (param_fault x) (param_next x) (params_cursor c) (param_count_at x c.place) ≡ None) × (result_fault x last ≡ None) × (walk (args_fault x (params_at x c.place)) (param_end x) (c.place + 6) (param_count_at x c.place) ≡ None) =
    parts8 (item_fault c) (past x c.place 1) (past x (c.place + 1) 4) (name_fault x (c.place + 1)) (past x (c.place + 5) 1) (walk (param_fault x) (param_next x) (params_cursor c) (param_count_at x c.place)) (result_fault x last) (walk (args_fault x (params_at x c.place)) (param_end x) (c.place + 6) (param_count_at x c.place)) e
    in let r : (past x last 1 ≡ None) × (form_fault x (last + 1) ≡ None) = orelse_none (past x last 1) (form_fault x (last + 1)) m.6
    in record {
      room = omega (arith, item_room c m.0);
      inside = omega (arith, past_inside x (c.place + 5) 1 m.4);
      name = m.3;
      params = m.5;
      result_inside = omega (arith, past_inside x last 1 r.0);
      result_form = r.1;
      few = (method_items x c e).1;
    }

pub method_room : (x : List ℕ) (c : Cursor) → method_fault x c ≡ None → c.items < 1000000
method_room x c e = (method_known x c e).room

pub method_inside : (x : List ℕ) (c : Cursor) → method_fault x c ≡ None → c.place + 6 ≤ length x
method_inside x c e = (method_known x c e).inside

pub method_name : (x : List ℕ) (c : Cursor) → method_fault x c ≡ None → name_fault x (c.place + 1) ≡ None
method_name x c e = (method_known x c e).name

pub method_params : (x : List ℕ) (c : Cursor) → method_fault x c ≡ None → walk (param_fault x) (param_next x) (params_cursor c) (param_count_at x c.place) ≡ None
method_params x c e = (method_known x c e).params

pub method_result_inside : (x : List ℕ) (c : Cursor) → method_fault x c ≡ None → params_end x c.place < length x
method_result_inside x c e = (method_known x c e).result_inside

pub method_result_form : (x : List ℕ) (c : Cursor) → method_fault x c ≡ None → form_fault x (params_end x c.place + 1) ≡ None
method_result_form x c e = (method_known x c e).result_form

pub method_few : (x : List ℕ) (c : Cursor) → method_fault x c ≡ None → c.items + 1 + param_count_at x c.place ≤ 1000000
method_few x c e = (method_known x c e).few

-- the cursor behind a method, where its parameters end
pub method_behind_is : (x : List ℕ) (c : Cursor) (place items : ℕ) → place ≡ param_end x (params_end x c.place) → items ≡ c.items + 1 + param_count_at x c.place → (let end : Cursor = record { place = place; items = items } in end) ≡ method_next x c
unfolding method_end
method_behind_is x c place items there counted = rw (there, counted) refl

pub record KnownConstant (x : List ℕ) (c : Cursor) : Type 0 where
  pub room : c.items < 1000000
  pub inside : c.place + 5 ≤ length x
  pub name : name_fault x c.place ≡ None
  pub kind : is_kind_tag (tag_at x (c.place + 4)) ≡ true
  pub value : c.place + 5 + value_len (kind_at x (c.place + 4)) ≤ length x

pub constant_known : (x : List ℕ) (c : Cursor) → constant_fault x c ≡ None → KnownConstant x c
unfolding constant_fault
constant_known x c e =
    let tag : ℕ = tag_at x (c.place + 4)
    in let m : (item_fault c ≡ None) × (past x c.place 4 ≡ None) × (name_fault x c.place ≡ None) × (past x (c.place + 4) 1 ≡ None) × (faulty (not (is_kind_tag tag)) 11 (c.place + 4) ≡ None) × (past x (c.place + 5) (value_len (kind_at x (c.place + 4))) ≡ None) =
    parts6 (item_fault c) (past x c.place 4) (name_fault x c.place) (past x (c.place + 4) 1) (faulty (not (is_kind_tag tag)) 11 (c.place + 4)) (past x (c.place + 5) (value_len (kind_at x (c.place + 4)))) e
    in record {
      room = omega (arith, item_room c m.0);
      inside = omega (arith, past_inside x (c.place + 4) 1 m.3);
      name = m.2;
      kind = not_true (is_kind_tag tag) (faulty_none (not (is_kind_tag tag)) 11 (c.place + 4) m.4);
      value = past_inside x (c.place + 5) (value_len (kind_at x (c.place + 4))) m.5;
    }

pub constant_room : (x : List ℕ) (c : Cursor) → constant_fault x c ≡ None → c.items < 1000000
constant_room x c e = (constant_known x c e).room

pub constant_inside : (x : List ℕ) (c : Cursor) → constant_fault x c ≡ None → c.place + 5 ≤ length x
constant_inside x c e = (constant_known x c e).inside

pub constant_name : (x : List ℕ) (c : Cursor) → constant_fault x c ≡ None → name_fault x c.place ≡ None
constant_name x c e = (constant_known x c e).name

pub constant_kind : (x : List ℕ) (c : Cursor) → constant_fault x c ≡ None → is_kind_tag (tag_at x (c.place + 4)) ≡ true
constant_kind x c e = (constant_known x c e).kind

pub constant_value : (x : List ℕ) (c : Cursor) → constant_fault x c ≡ None → c.place + 5 + value_len (kind_at x (c.place + 4)) ≤ length x
constant_value x c e = (constant_known x c e).value

-- ---- tags by number

-- a parameter of another number than the last is the same among one more
values_more : {S A : Type 0} (value : S → A) (next : S → S) (s : S) (i number : ℕ) → number ≢ i → slice_get (values value next s (i + 1)) number ≡ slice_get (values value next s i) number
values_more value next s i number other =
    elim (cases_lt number i) as (λ _. slice_get (values value next s (i + 1)) number ≡ slice_get (values value next s i) number) [
      | inl low ↦ values_get value next s (i + 1) number (omega (arith, low)) ∙ sym (values_get value next s i number low)
      | inr high ↦ values_past value next s (i + 1) number (omega (arith, high, other)) ∙ sym (values_past value next s i number high)
    ]

pub no_tags : HasTags (replicate 256 None) []
no_tags = λ number low.
    slice_get-get_or (replicate 256 None) number None (omega (arith, low, length-replicate {A = Option ℕ} 256 None)) ∙ ap Some (get_or-replicate 256 number None None low)

-- the tag of one more parameter
pub one_more : (x : List ℕ) (from i place tag : ℕ) (tags : List (Option ℕ)) → i < 256 → place ≡ reach (param_end x) from i → tag ≡ tag_of (type_at x (place + 1)) → HasTags tags (values (param_at x) (param_end x) from i) → HasTags (set tags i (Some tag)) (values (param_at x) (param_end x) from (i + 1))
one_more x from i place tag tags low is read before = λ number below.
    let old : List Param = values (param_at x) (param_end x) from i
    in let new : List Param = values (param_at x) (param_end x) from (i + 1)
    in let within : number < length tags = slice_get_within tags number (option_map (λ (p : Param). tag_of p.ty) (slice_get old number)) (before number below)
    in let room : i < length tags = slice_get_within tags i (option_map (λ (p : Param). tag_of p.ty) (slice_get old i)) (before i low)
    in let got : slice_get (set tags i (Some tag)) number ≡ Some (get_or (set tags i (Some tag)) number None) = slice_get-get_or (set tags i (Some tag)) number None (omega (arith, within, length-set tags i (Some tag)))
    in elim (eqb_tells number i) as (λ _. slice_get (set tags i (Some tag)) number ≡ Some (option_map (λ (p : Param). tag_of p.ty) (slice_get new number))) [
      | inl same ↦
          let here : slice_get new number ≡ Some (param_at x place) = ap (slice_get new) same.1 ∙ (values_get (param_at x) (param_end x) from (i + 1) i (omega arith) ∙ ap (λ (p : ℕ). Some (param_at x p)) (sym is))
          in let there : get_or (set tags i (Some tag)) number None ≡ Some tag = ap (λ (j : ℕ). get_or (set tags i (Some tag)) j None) same.1 ∙ get_or-set_same tags i (Some tag) None room
          in got ∙ (ap Some there ∙ (ap (λ (t : ℕ). Some (Some t)) read ∙ ap (λ (o : Option Param). Some (option_map (λ (p : Param). tag_of p.ty) o)) (sym here)))
      | inr other ↦
          let kept : get_or (set tags i (Some tag)) number None ≡ get_or tags number None = get_or-set_other tags i number (Some tag) None other.1
          in got ∙ (ap Some kept ∙ (sym (slice_get-get_or tags number None within) ∙ (before number below ∙ ap (λ (o : Option Param). Some (option_map (λ (p : Param). tag_of p.ty) o)) (sym (values_more (param_at x) (param_end x) from i number other.1)))))
    ]

-- ---- loops

-- the part that is reached has a fault: it is that of the whole
pub left_bad : {S : Type 0} (f : S → Option BadTypelib) (g : S → S) {a : S} {n : ℕ} {s : S} {i : ℕ} (e : BadTypelib) → Left f g a n s i → i < n → f s ≡ Some e → walk f g a n ≡ Some e
left_bad f g {n = n} {s = s} {i = i} e left low bad =
    let k : n - i ≡ suc (n - (i + 1)) = omega (arith, low)
    in left.fault ∙ rw (k, bad) refl

pub none_walked : {S : Type 0} (f : S → Option BadTypelib) (g : S → S) (s : S) (n : ℕ) → n ≡ 0 → walk f g s n ≡ None
none_walked f g s zero e = refl
none_walked f g s (suc n) e = absurd (omega (arith, e))
