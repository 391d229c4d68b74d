-- The way through forwarders ends.
use Rattle.std.proofs.Common.{◌≡◌, ◌<◌, ◌≤◌, ℕ, zero, suc, Bool, true, false, cond, List, [], ◌∷◌, Option, Some, None, All, find, ap, refl, subst, sym, arith}
use Rattle.std.specs.Option.{option_map_or}
use Rattle.std.proofs.lemmas.Grind.{common_steps}
use Rattle.std.proofs.lemmas.List.Elements.{All-head, All-tail}
use Rattle.std.proofs.lemmas.Option.{none-some, same_Some}
use Rattle.call_model.specs.declared.places.Conv.{Conv}
use Rattle.call_replies.specs.Blocks.{Block, Held, Data, Object, Forwarder}
use Rattle.script_meaning.specs.Chain.{AllHandDown, HandsDown, chain_within, conv_behind, target_in}
use Rattle.script_meaning.specs.Laws.{ChainsEnd}
use Rattle.script_meaning.specs.State.{has_number, number_in}

-- what is found passes the test, and has what all have
by_test : {X : Type 0} (p : X → Bool) (Q : X → Type 0) (y : X) (later : Option X) (x : X)
    → Q y → (later ≡ Some x → (p x ≡ true) × Q x)
    → (b : Bool) → p y ≡ b → cond b (Some y) later ≡ Some x → (p x ≡ true) × Q x
by_test p Q y later x has rest true passes is =
    subst (λ z. (p z ≡ true) × Q z) (same_Some y x is) (passes, has)
by_test p Q y later x has rest false fails is = rest is

pub first-found : {X : Type 0} (p : X → Bool) (Q : X → Type 0) (xs : List X) (x : X)
    → All Q xs → find p xs ≡ Some x → (p x ≡ true) × Q x
first-found p Q [] x all is = absurd (none-some x is)
first-found p Q (y ∷ ys) x all is =
    by_test p Q y (find p ys) x (All-head Q y ys all) (first-found p Q ys x (All-tail Q y ys all)) (p y) refl is

pub has_its_number : (n : ℕ) (h : Held) → has_number n h ≡ true → number_in h ≡ n
has_its_number n (Data bytes) is = absurd (grind (arith, common_steps, is))
has_its_number n (Object number iface) is = grind (arith, common_steps, is)
has_its_number n (Forwarder number iface target own) is = grind (arith, common_steps, is)

-- the target of an object that hands down has a smaller number, and hands down too
lower : (blocks : List Block) → AllHandDown blocks → (h : Held) → HandsDown h → (t : Block)
    → target_in blocks h ≡ Some t → (number_in t.held < number_in h) × HandsDown t.held
lower blocks all (Data bytes) down t is = absurd (none-some t is)
lower blocks all (Object number iface) down t is = absurd (none-some t is)
lower blocks all (Forwarder number iface target own) down t is =
    let found = first-found (λ (b : Block). has_number target b.held) (λ b. HandsDown b.held) blocks t all is in
    (omega (arith, has_its_number target t.held found.0, down), found.1)

-- two ways from an object that is found, or none
same_rest : (n m : ℕ) (blocks : List Block) (conv : Conv) (found : Option Block)
    → ((t : Block) → found ≡ Some t → chain_within n blocks conv t ≡ chain_within m blocks conv t)
    → option_map_or (chain_within n blocks conv) found []
    ≡ option_map_or (chain_within m blocks conv) found []
same_rest n m blocks conv None same = refl
same_rest n m blocks conv (Some t) same = same t refl

no_rest : (m : ℕ) (blocks : List Block) (conv : Conv) (found : Option Block)
    → ((t : Block) → found ≡ Some t → ⊥)
    → [] ≡ option_map_or (chain_within m blocks conv) found []
no_rest m blocks conv None none = refl
no_rest m blocks conv (Some t) none = absurd (none t refl)

same_way : (blocks : List Block) → AllHandDown blocks → (n m : ℕ) (conv : Conv) (b : Block)
    → HandsDown b.held → number_in b.held ≤ n → number_in b.held ≤ m
    → chain_within n blocks conv b ≡ chain_within m blocks conv b
unfolding chain_within
same_way blocks all zero zero conv b down few enough = refl
same_way blocks all zero (suc m) conv b down few enough =
    ap (λ rest. record { object = b; conv = conv } ∷ rest)
    (no_rest m blocks (conv_behind b.held conv) (target_in blocks b.held)
    (λ t is. omega (arith, (lower blocks all b.held down t is).0, few)))
same_way blocks all (suc n) zero conv b down few enough =
    ap (λ rest. record { object = b; conv = conv } ∷ rest)
    (sym (no_rest n blocks (conv_behind b.held conv) (target_in blocks b.held)
    (λ t is. omega (arith, (lower blocks all b.held down t is).0, enough))))
same_way blocks all (suc n) (suc m) conv b down few enough =
    ap (λ rest. record { object = b; conv = conv } ∷ rest)
    (same_rest n m blocks (conv_behind b.held conv) (target_in blocks b.held)
    (λ t is.
    let below = lower blocks all b.held down t is in
    same_way blocks all n m (conv_behind b.held conv) t below.1
    (omega (arith, below.0, few)) (omega (arith, below.0, enough))))

pub chains-end : ChainsEnd
chains-end blocks all conv b down n few = same_way blocks all n (number_in b.held) conv b down few (omega arith)
