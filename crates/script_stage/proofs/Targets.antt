-- The objects that lines name: what a stage keeps of a block tells whether it is one, and which.
use Rattle.std.proofs.Common.{◌≡◌, ◌∙◌, ℕ, Bool, true, false, Option, Some, None, Ok, Err, Result, is_some, option_map, bytes_eq, if◌then◌else◌, ap, refl, sym, subst}
use Rattle.std.specs.Result.{result_ok}
use Rattle.std.proofs.lemmas.Bool.{false≢true}
use Rattle.std.proofs.lemmas.Option.{none-some, same_Some}
use Rattle.call_model.specs.declared.places.Conv.{Conv}
use Rattle.transcript_text.specs.declared.refusals.Refusal.{Refusal}
use Rattle.transcript_text.specs.declared.refusals.Refusal.TheVariants as refusal
use Rattle.call_replies.specs.Blocks.{Block, Held, Data, Object, Forwarder}
use Rattle.script_meaning.specs.Members.{as_object}
use Rattle.script_meaning.specs.Refusing.{◌then◌, refuse, require, there_is}
use Rattle.script_meaning.specs.State.{Name, State, is_object, named, number_in, object_numbered}
use Rattle.script_meaning.specs.Step.{has_depth, joins}
use Rattle.script_stage.specs.declared.placed.Kind.{Kind}
use Rattle.script_stage.specs.declared.placed.Kind.TheVariants as kinds
use Rattle.script_stage.specs.declared.placed.Placed.{Placed}
use Rattle.script_stage.specs.declared.stages.Stage.{Stage}
use Rattle.script_stage.specs.Finding.{target_of}
use Rattle.script_stage.specs.Standing.{Stands, kind_of, noted, noted_as}
use Rattle.script_stage.proofs.Added.{some-noted}
use Rattle.script_stage.proofs.Numbers.{found-numbered}

-- ---- the block of a name

-- the block of which this is kept
pub record IsKept (found : Option Block) (kept : Placed) : Type 0 where
  pub block : Block
  pub is : found ≡ Some block
  pub noted : noted block ≡ kept

pub kept-some : (found : Option Block) (kept : Placed) → Some kept ≡ option_map noted found → IsKept found kept
kept-some None kept is = absurd (none-some kept (sym is))
kept-some (Some b) kept is = record { block = b; is = refl; noted = same_Some (noted b) kept (sym is) }

pub kept-none : (found : Option Block) → None ≡ option_map noted found → found ≡ None
kept-none None is = refl
kept-none (Some b) is = absurd (none-some (noted b) is)

pub named-none : (found : Option Block) → is_some (option_map noted found) ≡ false → found ≡ None
named-none None is = refl
named-none (Some b) is = absurd (false≢true (sym is))

-- some block is found
pub record IsThere (found : Option Block) : Type 0 where
  pub block : Block
  pub is : found ≡ Some block

pub named-some : (found : Option Block) → is_some (option_map noted found) ≡ true → IsThere found
named-some None is = absurd (false≢true is)
named-some (Some b) is = record { block = b; is = refl }

abbrev is_object_kind : Kind → Bool
is_object_kind (kinds.Data length) = false
is_object_kind (kinds.Object number iface) = true

abbrev number_of_kind : Kind → ℕ
number_of_kind (kinds.Data length) = 0
number_of_kind (kinds.Object number iface) = number

abbrev iface_of_kind : Kind → ℕ
iface_of_kind (kinds.Data length) = 0
iface_of_kind (kinds.Object number iface) = iface

kind-is : (h : Held) → is_object h ≡ is_object_kind (kind_of h)
kind-is (Data bytes) = refl
kind-is (Object number iface) = refl
kind-is (Forwarder number iface target own) = refl

kind-number : (h : Held) → number_in h ≡ number_of_kind (kind_of h)
kind-number (Data bytes) = refl
kind-number (Object number iface) = refl
kind-number (Forwarder number iface target own) = refl

never-object : (kind : Kind) → ((number iface : ℕ) → kind ≡ kinds.Object number iface → ⊥) → is_object_kind kind ≡ false
never-object (kinds.Data length) never = refl
never-object (kinds.Object number iface) never = absurd (never number iface refl)

pub not-object-by : (b : Block) (kept : Placed) → noted b ≡ kept
    → ((number iface : ℕ) → kept.kind ≡ kinds.Object number iface → ⊥) → is_object b.held ≡ false
not-object-by b kept is never =
    kind-is b.held ∙ ap is_object_kind (ap (λ (p : Placed). p.kind) is) ∙ never-object kept.kind never

pub an-object : (b : Block) (kept : Placed) (number iface : ℕ) → noted b ≡ kept → kept.kind ≡ kinds.Object number iface
    → is_object b.held ≡ true
an-object b kept number iface is kind =
    kind-is b.held ∙ ap is_object_kind (ap (λ (p : Placed). p.kind) is ∙ kind)

pub its-number : (b : Block) (kept : Placed) (number iface : ℕ) → noted b ≡ kept → kept.kind ≡ kinds.Object number iface
    → number_in b.held ≡ number
its-number b kept number iface is kind =
    kind-number b.held ∙ ap number_of_kind (ap (λ (p : Placed). p.kind) is ∙ kind)

-- ---- the object in it

pub as-object : (b : Block) → is_object b.held ≡ true → as_object b ≡ Some b
as-object b is = ap (λ t. if t then Some b else None) is

pub no-object : (b : Block) → is_object b.held ≡ false → as_object b ≡ None
no-object b is = ap (λ t. if t then Some b else None) is

-- it has its number alone
pub named-numbered : (stage : Stage) (state : State) → Stands stage state → (name : Name) (b : Block)
    → named state name ≡ Some b → is_object b.held ≡ true → (number : ℕ) → number_in b.held ≡ number
    → object_numbered state.blocks number ≡ Some b
named-numbered stage state stands name b is object number same =
    subst (λ n. object_numbered state.blocks n ≡ Some b) same
    (found-numbered 0 state.blocks stands.lawful.blocks.numbered (λ (c : Block). bytes_eq c.name name) b is object)

-- ---- the target of a new forwarder

module _ (conv : Conv) (state : State) (name target : Name) (own : Option Conv) where
  pub target-taken : is_some (noted_as state name) ≡ true
      → target_of conv state name target own ≡ Err refusal.Taken
  unfolding target_of
  target-taken is = rw (sym (some-noted state name) ∙ is) refl

  module _ (free : is_some (noted_as state name) ≡ false) where
    pub target-unnamed : named state target ≡ None → target_of conv state name target own ≡ Err refusal.NoName
    unfolding target_of
    target-unnamed none = rw (sym (some-noted state name) ∙ free, none) refl

    module _ (b : Block) (is : named state target ≡ Some b) where
      pub target-data : is_object b.held ≡ false → target_of conv state name target own ≡ Err refusal.NotAnObject
      unfolding target_of
      target-data fails = rw (sym (some-noted state name) ∙ free, is, fails) refl

      pub target-word : is_object b.held ≡ true → joins conv own ≡ false
          → target_of conv state name target own ≡ Err refusal.Word
      unfolding target_of
      target-word object fails = rw (sym (some-noted state name) ∙ free, is, object, fails) refl

      pub target-depth : is_object b.held ≡ true → joins conv own ≡ true → has_depth conv state b ≡ false
          → target_of conv state name target own ≡ Err refusal.Depth
      unfolding target_of
      target-depth object joined fails = rw (sym (some-noted state name) ∙ free, is, object, joined, fails) refl

      pub target-found : is_object b.held ≡ true → joins conv own ≡ true → has_depth conv state b ≡ true
          → target_of conv state name target own ≡ Ok b
      unfolding target_of
      target-found object joined short = rw (sym (some-noted state name) ∙ free, is, object, joined, short) refl

  -- such a target can be joined, and has so few forwarders
  pub target-parts : (b : Block) → target_of conv state name target own ≡ Ok b
      → (joins conv own ≡ true) × (has_depth conv state b ≡ true)
  unfolding target_of
  target-parts b is =
      by_first (refuse (is_some (named state name)) refusal.Taken) (there_is (named state target) refusal.NoName) is
    where
      by_tests : (c : Block) (joined short : Bool) → has_depth conv state c ≡ short
          → (require joined refusal.Word then λ _. require short refusal.Depth then λ _. Ok c) ≡ Ok b
          → (joined ≡ true) × (has_depth conv state b ≡ true)
      by_tests c true true same is =
          (refl, ap (has_depth conv state) (sym (same_Some c b (ap result_ok is))) ∙ same)
      by_tests c true false same is = absurd (none-some b (ap result_ok is))
      by_tests c false short same is = absurd (none-some b (ap result_ok is))

      by_object : (third : Result Block Refusal)
          → (third then λ object. require (joins conv own) refusal.Word
          then λ _. require (has_depth conv state object) refusal.Depth then λ _. Ok object) ≡ Ok b
          → (joins conv own ≡ true) × (has_depth conv state b ≡ true)
      by_object (Err e) is = absurd (none-some b (ap result_ok is))
      by_object (Ok c) is = by_tests c (joins conv own) (has_depth conv state c) refl is

      by_first : (first : Result (Unit {0}) Refusal) (second : Result Block Refusal)
          → (first then λ _. second then λ found. there_is (as_object found) refusal.NotAnObject
          then λ object. require (joins conv own) refusal.Word
          then λ _. require (has_depth conv state object) refusal.Depth then λ _. Ok object) ≡ Ok b
          → (joins conv own ≡ true) × (has_depth conv state b ≡ true)
      by_first (Err e) second is = absurd (none-some b (ap result_ok is))
      by_first (Ok u) (Err e) is = absurd (none-some b (ap result_ok is))
      by_first (Ok u) (Ok found) is = by_object (there_is (as_object found) refusal.NotAnObject) is

  -- and the name is free
  pub target-free : (b : Block) → target_of conv state name target own ≡ Ok b → noted_as state name ≡ None
  unfolding target_of
  target-free b is = by_named (named state name) is
    where
      by_named : (o : Option Block)
          → (refuse (is_some o) refusal.Taken
          then λ _. there_is (named state target) refusal.NoName
          then λ found. there_is (as_object found) refusal.NotAnObject
          then λ object. require (joins conv own) refusal.Word
          then λ _. require (has_depth conv state object) refusal.Depth
          then λ _. Ok object) ≡ Ok b → option_map noted o ≡ None
      by_named None is = refl
      by_named (Some x) is = absurd (none-some b (ap result_ok is))
