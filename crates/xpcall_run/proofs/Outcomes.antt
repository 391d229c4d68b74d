-- A work comes to one outcome over told files.
use Rattle.std.proofs.Common.{◌≡◌, ℕ, ◌≤◌, List, length, Option, Some, None, inl, inr, refl, sym, ap, ◌∙◌, subst, arith}
use Rattle.xp_base.specs.Files.{Files}
use Rattle.xpcall_run.specs.declared.failures.Refusal.{Refusal}
use Rattle.xpcall_run.specs.Sides.{Given}
use Rattle.xpcall_run.specs.Works.{Work, Outcome, Written, Denied, Finds, Quietly, Settles, Takes, TakesFound, settles, takes}

-- over these files the work comes to one outcome
abbrev pub Settled : Work → Option Files → Type 0
Settled work files = (o p : Outcome) → work.comes files o → work.comes files p → o ≡ p

-- over all files that are told
abbrev pub Single : Work → Type 0
Single work = (told : Files) → Settled work (Some told)

-- what is written, and what is refused, is one thing, and not both are
pub record IsSingle (writes : Given → Type 0) (refuses : Refusal → Type 0) : Type 0 where
  pub given : (a b : Given) → writes a → writes b → a ≡ b
  pub refusal : (r s : Refusal) → refuses r → refuses s → r ≡ s
  pub apart : (a : Given) (r : Refusal) → writes a → refuses r → ⊥

one_settled : (writes : Given → Type 0) (refuses : Refusal → Type 0) → IsSingle writes refuses
    → (o p : Outcome) → Settles writes refuses o → Settles writes refuses p → o ≡ p
one_settled writes refuses one (Written a) (Written b) w v = ap Written (one.given a b w v)
one_settled writes refuses one (Written a) (Denied r) w v = absurd (one.apart a r w v)
one_settled writes refuses one (Denied r) (Written a) w v = absurd (one.apart a r v w)
one_settled writes refuses one (Denied r) (Denied s) w v = ap Denied (one.refusal r s w v)

pub settles_single : (writes : Given → Type 0) (refuses : Refusal → Type 0)
    → IsSingle writes refuses → Single (settles writes refuses)
settles_single writes refuses one told o p w v = one_settled writes refuses one o p w v

-- where a text is written, and nothing shown
quiet_once : (writes : List ℕ → Type 0) → ((a b : List ℕ) → writes a → writes b → a ≡ b)
    → (a b : Given) → Quietly writes a → Quietly writes b → a ≡ b
quiet_once writes one a b w v =
    let texts : a.text ≡ b.text = one a.text b.text w.0 v.0 in
    let sights : a.sights ≡ b.sights = w.1 ∙ sym v.1 in
    (λ j. record { text = texts j; sights = sights j })

pub quiet_single : (writes : List ℕ → Type 0) (refuses : Refusal → Type 0)
    → ((a b : List ℕ) → writes a → writes b → a ≡ b)
    → ((r s : Refusal) → refuses r → refuses s → r ≡ s)
    → ((a : List ℕ) (r : Refusal) → writes a → refuses r → ⊥)
    → IsSingle (Quietly writes) refuses
quiet_single writes refuses text refusal apart = record {
  given = quiet_once writes text;
  refusal = refusal;
  apart = λ a r w why. apart a.text r w.0 why;
}

one_taken : (limit : ℕ) (name : List ℕ) (next : List ℕ → Outcome → Type 0)
    → ((b : List ℕ) (o p : Outcome) → next b o → next b p → o ≡ p)
    → (found : Option (List ℕ)) (o p : Outcome)
    → Takes limit name next found o → Takes limit name next found p → o ≡ p
one_taken limit name next one None o p a b = a ∙ sym b
one_taken limit name next one (Some x) o p (inl a) (inl b) = a.1 ∙ sym b.1
one_taken limit name next one (Some x) o p (inl a) (inr b) = absurd (omega (arith, a.0, b.0))
one_taken limit name next one (Some x) o p (inr a) (inl b) = absurd (omega (arith, a.0, b.0))
one_taken limit name next one (Some x) o p (inr a) (inr b) = one x o p a.1 b.1

-- what two fetches of told files find is one thing
same_found : (told : Files) (name : List ℕ) (a b : Option (List ℕ))
    → Finds (Some told) name a → Finds (Some told) name b → a ≡ b
same_found told name a b p q = sym (p told refl) ∙ q told refl

one_found : (limit : ℕ) (name : List ℕ) (next : List ℕ → Work) (told : Files)
    → ((b : List ℕ) → Single (next b)) → (o p : Outcome)
    → TakesFound (Some told) limit name next o → TakesFound (Some told) limit name next p → o ≡ p
one_found limit name next told one o p a b =
    let same = same_found told name b.found a.found b.finds a.finds in
    let after : List ℕ → Outcome → Type 0 = λ x u. (next x).comes (Some told) u in
    let P : Option (List ℕ) → Type 0 = λ f. Takes limit name after f p in
    one_taken limit name after (λ x. one x told) a.found o p a.taken (subst P same b.taken)

pub takes_single : (limit : ℕ) (name : List ℕ) (next : List ℕ → Work)
    → ((b : List ℕ) → Single (next b)) → Single (takes limit name next)
takes_single limit name next one told o p a b = one_found limit name next told one o p a b

-- a file that is found, and within the limit, leads to what comes of its bytes
pub takes_comes : (files : Option Files) (limit : ℕ) (name bytes : List ℕ) (next : List ℕ → Work)
    (o : Outcome) → Finds files name (Some bytes) → length bytes ≤ limit → (next bytes).comes files o
    → (takes limit name next).comes files o
takes_comes files limit name bytes next o finds within comes =
    record { found = Some bytes; finds = finds; taken = inr (within, comes) }
