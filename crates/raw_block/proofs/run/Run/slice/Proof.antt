-- `slice` reaches the items behind a `&`. Assumes `Logic`.
use Rattle.std.proofs.Common.{◌≡◌, ◌*◌, ◌^◌, List, [], ◌∷◌, ◌++◌, length, refl, sym, ap, ◌∙◌, arith}
use seplogic.Ra.Ura.{Ura}
use base.Fraction.{full_share}
use mir.Syntax.{Fn, ty_ptr, w64}
use mir.Val.{Val, vptr, vint}
use base.Logic.{SProp, ent, never, id⊢}
use base.Fml.{fat}
use prog.Memory.{Memory}
use prog.Routine.{Routine}
use prog.Wp.{Env, Calls, Loops, WpFn, Tables}
use contract.Monad.{Fun, fact}
use contract.Running.{tables, tables_of}
use sound.WpLaws.{WpFn-mono}
use types.Logic.{Logic}
use types.Kit.{‵, raw, ◌⊛◌, prop, at_ret, ◌$◌, ◌∵◌, !, qed, move, drop, split, fsplit, fjoin, feq_i, feq_l, flt_i, flt_l, regoal, rewrite, suffices, done}
use types.Part.{agg}
use types.Run.{of_opd, and_then, no_more, first, blocks, exec, returns, enter}
use types.ByLocal.{alloc_all, pass_all, free_all, look_at, get, sets, sets_last, take_at, give_at, env}
use denote.Builtin.{usize, RawPtr, RefOf}
use denote.Exit.{yes}
use denote.Opens.{unhide, hide}
use denote.RattleType.{owns}
use denote.RawPtr.{Ptr, ptr_val, in_a_block, rawptr_Lawful}
use denote.Signature.{plain, types_at}
use denote.Slice.{slice_val}
use denote.Steps.{nothing, heard}
use denote.Triple.Clauses.{Clauses, Ended, closing}
use denote.Triple.Entry.{alive}
use denote.Triple.Spec.{Meets, triple_of}
use denote.Triple.Table.{entered}
use denote.Triple.Walked.{says, Stays, stay_dropped, walk_of, ends_at, Goes-dropped, walk_Meets}
use Rattle.std_alloc.proofs.VecSteps.Shapes.{after}
use Rattle.raw_block.specs.Ownership.{run_lent}
use Rattle.raw_block.proofs.Places.{row}
use Rattle.raw_block.specs.contracts.run.Run.slice as F
use Rattle.raw_block.specs.contracts.run.Run.slice.Key.{name as #self}
use Rattle.raw_block.proofs.run.Run.slice.Statement as stated
use Rattle.raw_block.proofs.run.Run.slice.Code as code

abbrev function : Fn
function = code.function

abbrev ended : Ended
ended = F.ended

abbrev stayed : Stays ended.signature.params ended.kept
stayed = (stay_dropped (RefOf (0 ∷ []) tt (plain (λ _. row)) (λ _. tt)) yes, (stay_dropped (plain (λ _. RawPtr)) yes, (stay_dropped (plain (λ _. usize)) yes, tt)))

module _ {M : Type 1} {𝓤 : Ura M} (𝓛 : Logic 𝓤) (at_mem : Memory → SProp 𝓤) (run : Routine → Fun 𝓤) where
  open 𝓛 use {H}

  abbrev held : Clauses 𝓤 ended
  held = F.clauses 𝓛 at_mem run

  module _ (C : Calls 𝓤 H) (Λ : Loops 𝓤 H) (z : (walk_of 𝓛 ended stayed held).Ghost) where
    abbrev Post : Val → SProp 𝓤
    Post = (walk_of 𝓛 ended stayed held).post z

    abbrev tokens : SProp 𝓤
    tokens = alive 𝓛 ended.signature z.0.0 z.0.1

    walks : ent 𝓤 ((walk_of 𝓛 ended stayed held).pre z) (WpFn 𝓤 H C Λ function ((walk_of 𝓛 ended stayed held).args z) Post)
    walks =
        let κ = z.0.0.0 in let a = z.0.3 in let vss = z.0.4 in
        let rb = a.0.ref_ptr.0 in let ro = a.0.ref_ptr.1 in let d = a.0.now in let p = a.1.0 in let n = a.1.1.0 in let xs = d.items in
        let Asked = (p ≡ d.ptr) × (length xs ≡ n) in
        qed 𝓛 ((raw tokens ⊛ ‵ (owns (types_at ended.signature.params z.0.0) a vss)) ∷ raw (fact 𝓤 Asked) ∷ []) ∵
        move ! (1 ∷ []) $ heard ! Asked (λ asked. split ! $ move ! (1 ∷ []) $
        fsplit ! $ fsplit ! $ feq_l ! (λ is₀. move ! (1 ∷ []) $ fsplit ! $ feq_l ! (λ is₁. fsplit ! $ fsplit ! $ feq_l ! (λ is₂. flt_l ! (λ fits. drop ! $
        regoal ! (λ (ws : List Val × List Val × List Val). prop (WpFn 𝓤 H C Λ function (ws.0 ++ (ws.1 ++ (ws.2 ++ []))) Post)) (λ i. (is₀ i, is₁ i, is₂ i)) refl $
        -- [what the `&` holds; the tokens]
        unhide ! $ fsplit ! $ drop ! $ in_a_block ! d.ptr (λ r. run_lent r xs d.room κ) (id⊢ 𝓤 (never 𝓤)) (λ b o e. fsplit ! $ flt_l ! (λ small.
        enter ! C Λ function (vptr rb ro ∷ ptr_val p ∷ vint w64 n ∷ []) Post $ alloc_all ! (λ l. pass_all ! refl ((tt, tt), (((rawptr_Lawful 𝓛).typed p _ refl).0, ((tt, record { fits = fits }), tt))) $
        let En : Env 𝓤 H = env function.locals l in
        take_at ! 2 $ rewrite ! 0 (λ (r : Ptr). ‵ (fat full_share ty_ptr (l 2) 0 (ptr_val r))) (asked.0 ∙ e) refl $ give_at ! 2 $
        first ! $ blocks ! $ sets_last ! (agg ! (and_then ! (get ! refl) (and_then ! (get ! refl) (no_more !)))) refl (tt, (tt, (record { fits = fits }, tt))) $
        exec ! C Λ En (after 1 function.body) (at_ret En Post) $ sets ! (of_opd ! (get ! refl)) refl (tt, (tt, (record { fits = fits }, tt))) $ hide ! $
        flt_i ! (length xs * 1) (2 ^ 63) (omega (arith, small)) $ flt_i ! (length xs) (2 ^ 64) (omega (arith, small)) $ fjoin ! $
        feq_i ! (List Val) (slice_val (b, o) n ∷ []) (slice_val (b, o) (length xs) ∷ []) (ap (λ k. slice_val (b, o) k ∷ []) (sym asked.1)) $ fjoin ! $ fjoin ! $
        returns ! (look_at ! 0 refl) $ free_all ! refl $
        suffices ! _ (ends_at 𝓛 ended stayed held z (slice_val (b, o) n) (record { ref_ptr = (b, o); now = xs }) (tt, (tt, (tt, tt))) (tt, (tt, (tt, tt)))) $ says ! refl $
        nothing ! $ nothing ! $ fjoin ! $ nothing ! $ fjoin ! $ nothing ! $ fjoin ! $ move ! (2 ∷ 0 ∷ 1 ∷ []) $ done !))))))))

  meets : (𝓣 : Tables 𝓤 H) → Meets 𝓛 ended.signature (WpFn 𝓤 H 𝓣.C 𝓣.Λ function) (closing 𝓛 ended held)
  meets 𝓣 =
      walk_Meets 𝓛 ended stayed (Goes-dropped 𝓛 1 (RefOf (0 ∷ []) tt (plain (λ _. row)) (λ _. tt)) yes (λ κs x f. refl), (Goes-dropped 𝓛 1 (plain (λ _. RawPtr)) yes (λ κs x f. refl), (Goes-dropped 𝓛 1 (plain (λ _. usize)) yes (λ κs x f. refl), tt))) held
      (WpFn 𝓤 H 𝓣.C 𝓣.Λ function) (WpFn-mono 𝓤 H 𝓛.laws 𝓣 function) (walks 𝓣.C 𝓣.Λ)

pub slice_spec : {M : Type 1} → stated.statement M
unfolding tables_of
slice_spec 𝓤 𝓛 𝓜 𝓡 wired =
    let 𝓣 : Tables 𝓤 𝓛.H = tables_of 𝓤 𝓛.H 𝓜 (tables 𝓤 𝓛.H 𝓜 𝓡 𝓡.env) in
    entered 𝓤 𝓛.H (triple_of 𝓛 ended.signature (closing 𝓛 ended (held 𝓛 𝓜.mem 𝓡.returns))) 𝓣.C 𝓣.Λ #self function
    (code.unfolded 𝓤 𝓛.H 𝓜 𝓡 wired) (meets 𝓛 𝓜.mem 𝓡.returns 𝓣)
