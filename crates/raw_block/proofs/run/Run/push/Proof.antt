-- `push` turns the first byte of the room into an item. Assumes `Logic`.
use Rattle.std.proofs.Common.{◌≡◌, ℕ, suc, ◌+◌, ◌-◌, ◌^◌, ◌<◌, List, [], ◌∷◌, ◌++◌, length, length-append, refl, sym, ◌∙◌, arith}
use seplogic.Ra.Ura.{Ura}
use base.Fraction.{full_share}
use mir.Syntax.{Fn, ty_ptr, ty_array, w8, w64}
use mir.Val.{Val, vptr, vint, vunit}
use base.Logic.{SProp, ent, never, id⊢}
use base.Fml.{ftrue, fat, flft, froom}
use prog.Memory.{Memory}
use prog.Routine.{Routine}
use prog.Wp.{Env, Calls, Loops, WpFn, Tables}
use contract.Monad.{Fun, fact}
use contract.Running.{tables, tables_of}
use sound.WpLaws.{WpFn-mono}
use types.Logic.{Logic}
use types.Kit.{‵, raw, ◌⊛◌, prop, at_ret, ◌$◌, ◌∵◌, !, qed, move, keep, use1, use2, split, join, frame, fsplit, fsplit3, fjoin, fjoin3, feq_i, feq_l, flt_i, flt_l, regoal, rewrite, suffices, done}
use types.Run.{init, stop, unit_lit, of_opd, bin, assigns_last, first, blocks, exec, returns, enter}
use types.ByLocal.{alloc_all, pass_all, free_all, look_at, get, through, sets, take_at, give_at, env}
use types.SemTy.{cells}
use denote.Builtin.{u8, usize, RawPtr}
use denote.Exit.{yes}
use denote.Memory.{mem, part_at}
use denote.Plain.{uint_in}
use denote.RattleType.{owns}
use denote.RawPtr.{Ptr, ptr_val, in_a_block, rawptr_Lawful}
use denote.Signature.{plain, types_at}
use denote.Steps.{nothing, heard, opens, closes}
use denote.Triple.Clauses.{Clauses, Ended, closing}
use denote.Triple.Spec.{Meets, triple_of}
use denote.Triple.Table.{entered}
use denote.Triple.Walked.{says, Stays, stay_dropped, stay_ref, walk_of, ends_at, Goes-dropped, Goes-ref, walk_Meets}
use Rattle.std_alloc.proofs.VecSteps.Shapes.{after}
use Rattle.raw_block.specs.Ownership.{bytes_at, run_owns}
use Rattle.raw_block.proofs.Places.{row, place, cut, glue}
use Rattle.raw_block.specs.contracts.run.Run.push as F
use Rattle.raw_block.specs.contracts.run.Run.push.Key.{name as #self}
use Rattle.raw_block.proofs.run.Run.push.Statement as stated
use Rattle.raw_block.proofs.run.Run.push.Code as code

abbrev function : Fn
function = code.function

abbrev ended : Ended
ended = F.ended

abbrev stayed : Stays ended.signature.params ended.kept
stayed = (stay_ref (0 ∷ []) tt (plain (λ _. row)), (stay_dropped (plain (λ _. RawPtr)) yes, (stay_dropped (plain (λ _. usize)) yes, (stay_dropped (plain (λ _. u8)) yes, tt))))

module _ {M : Type 1} {𝓤 : Ura M} (𝓛 : Logic 𝓤) (at_mem : Memory → SProp 𝓤) (run : Routine → Fun 𝓤) where
  open 𝓛 use {H}

  abbrev held : Clauses 𝓤 ended
  held = F.clauses 𝓛 at_mem run

  module _ (C : Calls 𝓤 H) (Λ : Loops 𝓤 H) (z : (walk_of 𝓛 ended stayed held).Ghost) where
    abbrev Post : Val → SProp 𝓤
    Post = (walk_of 𝓛 ended stayed held).post z

    walks : ent 𝓤 ((walk_of 𝓛 ended stayed held).pre z) (WpFn 𝓤 H C Λ function ((walk_of 𝓛 ended stayed held).args z) Post)
    walks =
        let κ = z.0.0.0 in let q = z.0.1.0 in let a = z.0.3 in let vss = z.0.4 in
        let rb = a.0.ref_ptr.0 in let ro = a.0.ref_ptr.1 in let d = a.0.now in let p = a.1.0 in let at = a.1.1.0 in let byte = a.1.1.1.0 in
        let Asked = (p ≡ d.ptr) × (at ≡ length d.items) × (0 < d.room) in
        let left = d.room - 1 in
        let new : row.Denot = record { ptr = d.ptr; items = d.items ++ byte ∷ []; room = left } in
        qed 𝓛 (((‵ (flft κ q) ⊛ ‵ ftrue) ⊛ ‵ (owns (types_at ended.signature.params z.0.0) a vss)) ∷ raw (fact 𝓤 Asked) ∷ []) ∵
        move ! (1 ∷ []) $ heard ! Asked (λ asked.
        let one_more : d.room ≡ suc left = omega (arith, asked.2) in
        split ! $ split ! $ move ! (2 ∷ []) $ fsplit ! $ fsplit3 ! $ feq_l ! (λ is₀. move ! (2 ∷ []) $ fsplit ! $ feq_l ! (λ is₁.
        fsplit ! $ fsplit ! $ feq_l ! (λ is₂. flt_l ! (λ fits. fsplit ! $ fsplit ! $ feq_l ! (λ is₃. flt_l ! (λ fits_byte. keep ! (1 ∷ 2 ∷ 3 ∷ []) $
        regoal ! (λ (ws : List Val × List Val × List Val × List Val). prop (WpFn 𝓤 H C Λ function (ws.0 ++ (ws.1 ++ (ws.2 ++ (ws.3 ++ [])))) Post)) (λ i. (is₀ i, is₁ i, is₂ i, is₃ i)) refl $
        enter ! C Λ function (vptr rb ro ∷ ptr_val p ∷ vint w64 at ∷ vint w8 byte ∷ []) Post $
        alloc_all ! (λ l. pass_all ! refl ((tt, tt), (((rawptr_Lawful 𝓛).typed p _ refl).0, ((tt, record { fits = fits }), ((tt, record { fits = fits_byte }), tt)))) $
        let En : Env 𝓤 H = env function.locals l in
        opens ! tt row {h = d} rb ro (λ vs. move ! (1 ∷ []) $ fsplit ! $ move ! (1 ∷ []) $
        in_a_block ! d.ptr (λ r. run_owns r d.items d.room) (id⊢ 𝓤 (never 𝓤)) (λ b o e. fsplit ! $ flt_l ! (λ small.
        let there = at + o in
        take_at ! 2 $ rewrite ! 0 (λ (r : Ptr). ‵ (fat full_share ty_ptr (l 2) 0 (ptr_val r))) (asked.0 ∙ e) refl $ give_at ! 2 $
        first ! $ blocks ! $ sets ! (bin ! (get ! refl) (get ! refl) tt) refl (tt, tt) $
        rewrite ! 0 (λ (k : ℕ). ‵ (bytes_at b o d.items k)) one_more refl $
        use1 𝓛 (‵ (cells (mem u8) d.items b o) ⊛ ‵ (froom (ty_array place (suc left)) b there)) (cut 𝓛 b d.items (suc left) o there (omega (arith, asked.1))) $ split ! $ move ! (1 ∷ []) $
        use1 𝓛 (‵ (froom place b there) ⊛ ‵ (froom (ty_array place left) b (there + 1))) (𝓛.laws.room_uncons place left b there) $ split ! $
        -- [room for the byte; the room after it; the items; no field; the cell; the open borrow, in three entries]
        assigns_last ! (of_opd ! (get ! refl)) (through ! refl (stop !)) (init ! 0 refl (tt, record { fits = fits_byte })) $
        exec ! C Λ En (after 1 function.body) (at_ret En Post) $ sets ! (of_opd ! (unit_lit !)) refl (tt, tt) $
        use1 𝓛 (‵ (part_at u8 full_share byte b there)) (uint_in 𝓛 full_share w8 byte b there) $ fjoin ! $ move ! (1 ∷ 0 ∷ []) $
        use2 𝓛 (‵ (bytes_at b o new.items left)) (glue 𝓛 b d.items (byte ∷ []) left o there (omega (arith, asked.1))) $
        flt_i ! (length new.items + left) (2 ^ 63) (omega (arith, small, one_more, length-append d.items (byte ∷ []))) $ fjoin ! $
        rewrite ! 0 (λ (r : Ptr). ‵ (run_owns r new.items left)) (sym e) refl $ move ! (1 ∷ 0 ∷ []) $ fjoin ! $ move ! (1 ∷ 0 ∷ []) $ closes ! tt row new vs rb ro $
        returns ! (look_at ! 0 refl) $ free_all ! refl $ keep ! (0 ∷ 1 ∷ 2 ∷ []) $ feq_i ! (List Val) (vunit ∷ []) (vunit ∷ []) refl $ move ! (1 ∷ 2 ∷ 3 ∷ 0 ∷ []) $
        suffices ! _ (ends_at 𝓛 ended stayed held z vunit tt (new, (tt, (tt, (tt, tt)))) (tt, (tt, (tt, (tt, tt))))) $ says ! (refl, refl, omega (arith, one_more)) $
        nothing ! $ move ! (3 ∷ 0 ∷ []) $ join ! $ frame ! $ feq_i ! (List Val) vss.0 (vptr rb ro ∷ []) is₀ $ fjoin3 ! $ nothing ! $ nothing ! $ fjoin ! $ nothing ! $ fjoin ! $ nothing ! $ fjoin ! $ move ! (1 ∷ 0 ∷ []) $ fjoin ! $ done !)))))))))))

  meets : (𝓣 : Tables 𝓤 H) → Meets 𝓛 ended.signature (WpFn 𝓤 H 𝓣.C 𝓣.Λ function) (closing 𝓛 ended held)
  meets 𝓣 =
      walk_Meets 𝓛 ended stayed (Goes-ref 𝓛 1 0 tt (plain (λ _. row)), (Goes-dropped 𝓛 1 (plain (λ _. RawPtr)) yes (λ κs x f. refl), (Goes-dropped 𝓛 1 (plain (λ _. usize)) yes (λ κs x f. refl), (Goes-dropped 𝓛 1 (plain (λ _. u8)) yes (λ κs x f. refl), tt)))) held
      (WpFn 𝓤 H 𝓣.C 𝓣.Λ function) (WpFn-mono 𝓤 H 𝓛.laws 𝓣 function) (walks 𝓣.C 𝓣.Λ)

pub push_spec : {M : Type 1} → stated.statement M
unfolding tables_of
push_spec 𝓤 𝓛 𝓜 𝓡 wired =
    let 𝓣 : Tables 𝓤 𝓛.H = tables_of 𝓤 𝓛.H 𝓜 (tables 𝓤 𝓛.H 𝓜 𝓡 𝓡.env) in
    entered 𝓤 𝓛.H (triple_of 𝓛 ended.signature (closing 𝓛 ended (held 𝓛 𝓜.mem 𝓡.returns))) 𝓣.C 𝓣.Λ #self function
    (code.unfolded 𝓤 𝓛.H 𝓜 𝓡 wired) (meets 𝓛 𝓜.mem 𝓡.returns 𝓣)
