-- A call that was run as far as the object that answers, from the rest of its way.
use Rattle.std.proofs.Common.{◌≡◌, ◌∙◌, ℕ, suc, List, [], ◌∷◌, ◌++◌, take, map, Option, Some, None, Result, Err, MatchResult, ap, sym, subst, arith}
use Rattle.std.specs.List.{flat_map}
use Rattle.std.proofs.lemmas.List.{append-nil, append_assoc}
use Rattle.descriptor_reader.specs.Views.{MethodOf}
use Rattle.invoke_by_index.specs.Methods.{prototype}
use Rattle.machine_bench.specs.declared.sight.Sight.{Sight}
use Rattle.machine_bench.specs.Seen.{Saw, SawNothing, SawPrefix, sight_of}
use Rattle.object_memory.specs.Lends.{with_frame}
use Rattle.object_memory.specs.Memory.{MachineView}
use Rattle.proxy_objects.specs.Forwarding.{forward_of}
use Rattle.call_replies.specs.Blocks.{Block}
use Rattle.script_meaning.specs.Chain.{Stop, answering}
use Rattle.script_objects.specs.Known.{ObjectsView}
use Rattle.script_objects.proofs.Depths.{numbered-so}
use Rattle.script_chains.specs.declared.visit.Visit.{Visit}
use Rattle.script_chains.specs.Passing.{IsAt, IsHandedOn, IsPassedOn, behind, end_frame, handed_text, sight_at, sights_of}
use Rattle.script_chains.proofs.Stops.{known-forward}
use Rattle.script_chains.proofs.Ways.{behind-more, none-behind, target-lower}

-- ---- what a bench saw

abbrev pub Told : Type 0
Told = Option (List Sight)

pub saw-more : (a b c : Told) (xs ys : List Sight) → Saw a b xs → Saw b c ys → Saw a c (xs ++ ys)
saw-more a b c xs ys first second told is =
    second (told ++ xs) (first told is) ∙ ap Some (append_assoc told xs ys)

pub saw-none-yet : (a b : Told) (whole : List Sight) → SawNothing a b → SawPrefix a b whole
saw-none-yet a b whole none = (0, omega arith, none)

pub saw-first : (a b : Told) (x : Sight) (rest : List Sight) → Saw a b (x ∷ []) → SawPrefix a b (x ∷ rest)
saw-first a b x rest first = (1, omega arith, first)

pub saw-first-more : (a b c : Told) (x : Sight) (rest : List Sight) → Saw a b (x ∷ []) → SawPrefix b c rest
    → SawPrefix a c (x ∷ rest)
saw-first-more a b c x rest first more =
    (suc more.0, omega (arith, more.1), saw-more a b c (x ∷ []) (take more.0 rest) first more.2)

-- ---- an object that answers

module _ (m : MachineView) (objects : ObjectsView) (method : MethodOf) (visit : Visit)
    (blocks : List Block) (b : Block) (values : List ℕ)
    (at : IsAt m objects method visit blocks b values) where
  module _ (answers : forward_of objects.forwards visit.number ≡ None) where
    nothing-behind : behind blocks visit.conv b ≡ []
    nothing-behind =
        none-behind m.conv blocks at.lawful visit.conv visit.number b at.object
        (sym (known-forward m objects method visit blocks b values at) ∙ answers)

    pub stays : (told : List ℕ) (before after : Told) → Saw before after (sight_of m ∷ [])
        → IsPassedOn m m objects method visit visit blocks b values (told, told) (before, after)
    stays told before after saw = record {
      at = subst (λ w. IsAt m objects method visit blocks (answering b w) values) (sym nothing-behind) at;
      frame = ap (λ w. with_frame m (end_frame m method w values)) (sym nothing-behind);
      text = sym (append-nil told) ∙ ap (λ w. told ++ flat_map (handed_text method.slot (prototype method) values) w) (sym nothing-behind);
      saw = subst (λ w. Saw before after (sight_of m ∷ map (sight_at m (prototype method) values) w)) (sym nothing-behind) saw;
    }

  -- ---- a forwarder

  module _ (m1 : MachineView) (next : Visit) (t0 t1 : List ℕ)
      (handed : IsHandedOn m m1 objects method visit next blocks b values t0 t1) where
    abbrev stop : Stop
    stop = record { object = handed.target; conv = next.conv }

    abbrev rest : List Stop
    rest = behind blocks next.conv handed.target

    first-behind : behind blocks visit.conv b ≡ stop ∷ rest
    first-behind =
        let so = numbered-so blocks at.lawful.down visit.number b at.object in
        let low = numbered-so blocks at.lawful.down next.number handed.target handed.at.object in
        behind-more blocks at.lawful.down visit.conv b handed.target so.1 low.1 handed.is
        (target-lower blocks at.lawful.down b.held so.1 handed.target handed.is)
        ∙ ap (λ c. record { object = handed.target; conv = c } ∷ behind blocks c handed.target) (sym handed.conv)

    pub sights-more : sights_of m method blocks visit.conv b values
        ≡ sight_of m ∷ sights_of m1 method blocks next.conv handed.target values
    sights-more =
        ap (λ w. sight_of m ∷ map (sight_at m (prototype method) values) w) first-behind
        ∙ ap (λ (k : MachineView). sight_of m ∷ sight_of k ∷ map (sight_at k (prototype method) values) rest) (sym handed.frame)

    pub goes-on : (m2 : MachineView) (last : Visit) (t2 : List ℕ) (s0 s1 s2 : Told)
        → Saw s0 s1 (sight_of m ∷ [])
        → IsPassedOn m1 m2 objects method next last blocks handed.target values (t1, t2) (s1, s2)
        → IsPassedOn m m2 objects method visit last blocks b values (t0, t2) (s0, s2)
    goes-on m2 last t2 s0 s1 s2 saw passed = record {
      at = subst (λ w. IsAt m2 objects method last blocks (answering b w) values) (sym first-behind) passed.at;
      frame = passed.frame
          ∙ ap (λ (k : MachineView). with_frame k (end_frame k method rest values)) handed.frame
          ∙ ap (λ w. with_frame m (end_frame m method w values)) (sym first-behind);
      text = passed.text
          ∙ ap (λ t. t ++ flat_map (handed_text method.slot (prototype method) values) rest) handed.text
          ∙ append_assoc t0 (handed_text method.slot (prototype method) values stop) (flat_map (handed_text method.slot (prototype method) values) rest)
          ∙ ap (λ w. t0 ++ flat_map (handed_text method.slot (prototype method) values) w) (sym first-behind);
      saw = subst (Saw s0 s2) (sym sights-more)
          (saw-more s0 s1 s2 (sight_of m ∷ []) (sights_of m1 method blocks next.conv handed.target values) saw passed.saw);
    }

    pub goes-on-err : (s0 s1 s2 : Told) → Saw s0 s1 (sight_of m ∷ [])
        → SawPrefix s1 s2 (sights_of m1 method blocks next.conv handed.target values)
        → SawPrefix s0 s2 (sights_of m method blocks visit.conv b values)
    goes-on-err s0 s1 s2 saw more =
        subst (SawPrefix s0 s2) (sym sights-more)
        (saw-first-more s0 s1 s2 (sight_of m) (sights_of m1 method blocks next.conv handed.target values) saw more)

-- ---- the loop

-- a call that was begun at one machine has come as far as another: what follows from there makes
-- the whole
pub record Resumes (m0 m : MachineView) (objects : ObjectsView) (method : MethodOf) (visit0 visit : Visit)
    (blocks : List Block) (b : Block) (values : List ℕ) (t0 t : List ℕ) (s0 s : Told) : Type 0 where
  pub stop : Block
  pub at : IsAt m objects method visit blocks stop values
  pub ends : (m2 : MachineView) (last : Visit) (t2 : List ℕ) (s2 : Told)
      → IsPassedOn m m2 objects method visit last blocks stop values (t, t2) (s, s2)
      → IsPassedOn m0 m2 objects method visit0 last blocks b values (t0, t2) (s0, s2)
  pub fails : (s2 : Told) → SawPrefix s s2 (sights_of m method blocks visit.conv stop values)
      → SawPrefix s0 s2 (sights_of m0 method blocks visit0.conv b values)

pub resumes-first : (m : MachineView) (objects : ObjectsView) (method : MethodOf) (visit : Visit)
    (blocks : List Block) (b : Block) (values : List ℕ) (t : List ℕ) (s : Told)
    → IsAt m objects method visit blocks b values
    → Resumes m m objects method visit visit blocks b values t t s s
resumes-first m objects method visit blocks b values t s at = record {
  stop = b;
  at = at;
  ends = λ m2 last t2 s2 passed. passed;
  fails = λ s2 some. some;
}

-- one look, and one forwarder more
pub resumes-more : (m0 m m1 : MachineView) (objects : ObjectsView) (method : MethodOf) (visit0 visit next : Visit)
    (blocks : List Block) (b : Block) (values : List ℕ) (t0 t t1 : List ℕ) (s0 s s1 : Told)
    → (so_far : Resumes m0 m objects method visit0 visit blocks b values t0 t s0 s)
    → Saw s s1 (sight_of m ∷ [])
    → IsHandedOn m m1 objects method visit next blocks so_far.stop values t t1
    → Resumes m0 m1 objects method visit0 next blocks b values t0 t1 s0 s1
resumes-more m0 m m1 objects method visit0 visit next blocks b values t0 t t1 s0 s s1 so_far saw handed = record {
  stop = handed.target;
  at = handed.at;
  ends = λ m2 last t2 s2 passed.
      so_far.ends m2 last t2 s2
      (goes-on m objects method visit blocks so_far.stop values so_far.at m1 next t t1 handed m2 last t2 s s1 s2 saw passed);
  fails = λ s2 some.
      so_far.fails s2
      (goes-on-err m objects method visit blocks so_far.stop values so_far.at m1 next t t1 handed s s1 s2 saw some);
}

-- what an error leaves
pub failed : {A E Q : Type 0} (P : A → Type 0) (r : Result A E) (e : E) → r ≡ Err e → Q
    → MatchResult r P (λ _. Q)
failed {Q = Q} P r e is q = subst (λ r. MatchResult r P (λ _. Q)) (sym is) q
