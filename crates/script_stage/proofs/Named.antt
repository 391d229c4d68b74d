-- What depends on the data of the block of a name.
use Rattle.std.proofs.Common.{◌≡◌, ◌∙◌, ℕ, List, length, Option, Some, None, Ok, Err, Result, option_map, ap, refl, sym}
use Rattle.std.specs.Result.{result_err, result_ok}
use Rattle.std.proofs.lemmas.Option.{none-some, same_Some}
use Rattle.transcript_text.specs.declared.refusals.Refusal.{Refusal}
use Rattle.transcript_text.specs.declared.refusals.Refusal.TheVariants as refusal
use Rattle.call_replies.specs.Blocks.{Block, Held, Data, Object, Forwarder}
use Rattle.script_meaning.specs.Refusing.{◌then◌, there_is}
use Rattle.script_meaning.specs.Step.{data_in}
use Rattle.script_stage.specs.declared.placed.Kind.{Kind}
use Rattle.script_stage.specs.declared.placed.Kind.TheVariants as kinds
use Rattle.script_stage.specs.declared.placed.Placed.{Placed}
use Rattle.script_stage.specs.declared.placed.Span.{Span}
use Rattle.script_stage.specs.Standing.{kind_of, noted}

-- a refusal is the same where another value would have come
pub same-refusal : {A : Type 0} (e other : Refusal) → ◌≡◌ {A = Result A Refusal} (Err e) (Err other) → e ≡ other
same-refusal e other is = same_Some e other (ap result_err is)

-- ---- what a stage keeps of it

abbrev span_of : ℕ → Kind → Result Span Refusal
span_of at (kinds.Data length) = Ok (record { at = at; length = length })
span_of at (kinds.Object number iface) = Err refusal.NotData

abbrev pub span_in : Option Placed → Result Span Refusal
span_in None = Err refusal.NoName
span_in (Some p) = span_of p.at p.kind

-- the bytes of a block that is found, and what follows from them
abbrev pub with_data : {A : Type 0} → Option Block → (Block → List ℕ → Result A Refusal) → Result A Refusal
with_data found each =
    there_is found refusal.NoName
    then λ b. there_is (data_in b.held) refusal.NotData
    then λ bytes. each b bytes

pub span-noted : (found : Option Block)
    → span_in (option_map noted found) ≡ with_data found (λ b bytes. Ok (record { at = b.at; length = length bytes }))
span-noted None = refl
span-noted (Some b) = by_held b.held
  where
    by_held : (h : Held)
        → span_of b.at (kind_of h)
        ≡ (there_is (data_in h) refusal.NotData then λ bytes. Ok (record { at = b.at; length = length bytes }))
    by_held (Data bytes) = refl
    by_held (Object number iface) = refl
    by_held (Forwarder number iface target own) = refl

-- ---- what follows from it

-- all that asks for the data of a block is refused alike
pub all-refused : {A B : Type 0} (found : Option Block) (one : Block → List ℕ → A)
    (other : Block → List ℕ → Result B Refusal) (e : Refusal)
    → with_data found (λ b bytes. Ok (one b bytes)) ≡ Err e → with_data found other ≡ Err e
all-refused None one other e is = ap Err (same-refusal refusal.NoName e is)
all-refused (Some b) one other e is = by_data (data_in b.held) is
  where
    by_data : (o : Option (List ℕ))
        → (there_is o refusal.NotData then λ bytes. Ok (one b bytes)) ≡ Err e
        → (there_is o refusal.NotData then λ bytes. other b bytes) ≡ Err e
    by_data None is = ap Err (same-refusal refusal.NotData e is)
    by_data (Some bytes) is = absurd (none-some e (ap result_err is))

-- a block that is found, and its data
pub record HasData (found : Option Block) (span : Span) : Type 0 where
  pub block : Block
  pub bytes : List ℕ
  pub is : found ≡ Some block
  pub held : block.held ≡ Data bytes
  pub at : span.at ≡ block.at
  pub length : span.length ≡ length bytes

pub has-data : (found : Option Block) (span : Span)
    → with_data found (λ b bytes. Ok (record { at = b.at; length = length bytes })) ≡ Ok span → HasData found span
has-data None span is = absurd (none-some span (ap result_ok is))
has-data (Some b) span is = by_held b.held refl is
  where
    by_held : (h : Held) → b.held ≡ h
        → (there_is (data_in h) refusal.NotData then λ bytes. Ok (record { at = b.at; length = length bytes })) ≡ Ok span
        → HasData (Some b) span
    by_held (Data bytes) held is =
        let same : record { at = b.at; length = length bytes } ≡ span = same_Some _ span (ap result_ok is) in
        record {
          block = b;
          bytes = bytes;
          is = refl;
          held = held;
          at = sym (ap (λ (s : Span). s.at) same);
          length = sym (ap (λ (s : Span). s.length) same);
        }
    by_held (Object number iface) held is = absurd (none-some span (ap result_ok is))
    by_held (Forwarder number iface target own) held is = absurd (none-some span (ap result_ok is))

-- what asks for the data of this block goes on with it
pub data-there : {A : Type 0} (found : Option Block) (span : Span) (has : HasData found span)
    (each : Block → List ℕ → Result A Refusal) → with_data found each ≡ each has.block has.bytes
data-there found span has each =
    ap (λ o. with_data o each) has.is
    ∙ ap (λ h. there_is (data_in h) refusal.NotData then λ bytes. each has.block bytes) has.held
