-- Lines that are refused.
use Rattle.std.proofs.Common.{◌≡◌, ℕ, List, Option, Some, None, Ok, Err, Result, refl, sym, subst}
use Rattle.std.specs.Option.{option_copied}
use Rattle.std.specs.Borrow.{Bor}
use Rattle.std.specs.Prelude.{unwrap_or}
use Rattle.std.specs.Result.{IsErrAnd}
use Rattle.std.proofs.lemmas.Option.{none-some, same_Some}
use Rattle.object_memory.specs.declared.errors.HeapError.{HeapError}
use Rattle.object_memory.specs.declared.errors.HeapError.TheVariants as heap
use Rattle.proxy_objects.specs.declared.errors.ForwardError.{ForwardError}
use Rattle.proxy_objects.specs.declared.errors.ForwardError.TheVariants as forward
use Rattle.transcript_text.specs.declared.refusals.Refusal.{Refusal}
use Rattle.transcript_text.specs.declared.refusals.Refusal.TheVariants as refusal
use Rattle.script_meaning.specs.State.{State}
use Rattle.script_meaning.specs.Step.{Stepped}
use Rattle.script_stage.specs.declared.errors.StepError.{StepError}
use Rattle.script_stage.specs.declared.errors.StepError.TheVariants.{Refused}
use Rattle.script_stage.specs.declared.stages.Stage.{Stage}
use Rattle.script_stage.specs.Errors.{of_forward, of_heap}
use Rattle.script_stage.specs.Standing.{Does, Stands}

-- an error that was handed on is the refusal that came
pub does-refused : {A : Type 0} (Tells : A → List ℕ → Type 0) (asked : State → Result Stepped Refusal) (stage : Stage)
    (result : Result A StepError) (e : Refusal) → IsErrAnd result (λ s. s ≡ Refused e)
    → ((state : State) → Stands stage state → asked state ≡ Err e) → Does Tells asked stage stage result
does-refused Tells asked stage (Ok value) e is refused = absurd is
does-refused Tells asked stage (Err s) e is refused =
    subst (λ s. Does Tells asked stage stage (Err s)) (sym is) (refl, refused)

-- what a default would stand for is there
pub unwrapped : (o : Option (Bor (List ℕ))) (default : Bor (List ℕ)) (bytes : List ℕ) → option_copied o ≡ Some bytes
    → (unwrap_or o default).now ≡ bytes
unwrapped None default bytes is = absurd (none-some bytes is)
unwrapped (Some x) default bytes is = same_Some x.now bytes is

-- and an error of the heap is want of room, or of memory
pub does-full : {A : Type 0} (Tells : A → List ℕ → Type 0) (asked : State → Result Stepped Refusal) (old new : Stage)
    (result : Result A StepError) (error : HeapError) → IsErrAnd result (λ s. s ≡ of_heap error)
    → (error ≡ heap.Full → (new ≡ old) × ((state : State) → Stands old state → asked state ≡ Err refusal.Heap))
    → Does Tells asked old new result
does-full Tells asked old new (Ok value) error is full = absurd is
does-full Tells asked old new (Err s) heap.Full is full =
    subst (λ s. Does Tells asked old new (Err s)) (sym is) (full refl)
does-full Tells asked old new (Err s) heap.Memory is full =
    subst (λ s. Does Tells asked old new (Err s)) (sym is) tt

-- and one of a forwarder that may be made is want of memory
pub does-forward : {A : Type 0} (Tells : A → List ℕ → Type 0) (asked : State → Result Stepped Refusal) (old new : Stage)
    (result : Result A StepError) (error : ForwardError) → IsErrAnd result (λ s. s ≡ of_forward error)
    → (error ≡ forward.Depth → ⊥) → Does Tells asked old new result
does-forward Tells asked old new (Ok value) error is short = absurd is
does-forward Tells asked old new (Err s) forward.Depth is short = absurd (short refl)
does-forward Tells asked old new (Err s) forward.Memory is short =
    subst (λ s. Does Tells asked old new (Err s)) (sym is) tt
