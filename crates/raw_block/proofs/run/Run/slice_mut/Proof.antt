-- `slice_mut` lends the items, and the run ends with what was left in them. Assumes `Logic`.
use Rattle.std.proofs.Common.{◌≡◌, ℕ, ◌+◌, ◌*◌, ◌^◌, ◌<◌, List, [], ◌∷◌, ◌++◌, length, refl, sym, subst, ◌∙◌, arith}
use Rattle.std.proofs.lemmas.List.{append-nil}
use seplogic.Ra.Ura.{Ura}
use base.Fraction.{full_share}
use mir.Syntax.{Fn, named, ty_ptr, ty_array, w64}
use mir.Val.{Val, vptr, vint}
use base.Logic.{SProp, ent, sep, never, id⊢}
use base.Fml.{Fml, GName, ftrue, fsep, fat, flft, froom}
use prog.Memory.{Memory}
use prog.Routine.{Routine}
use prog.Wp.{Env, Calls, Loops, WpFn, Tables}
use contract.Monad.{Fun, fact}
use contract.Running.{tables, tables_of}
use sound.WpLaws.{WpFn-mono}
use types.Logic.{Logic, sem}
use types.Kit.{‵, raw, ◌⊛◌, some, later, await, pick, prop, at_ret, ◌$◌, ◌∵◌, !, qed, by, move, keep, use1, use2, split, join, group, frame, fsplit, fsplit3, fjoin, fjoin3, fpack, feq_l, flt_i, flt_l, regoal, rewrite, suffices, done}
use types.Part.{agg}
use types.Run.{of_opd, and_then, no_more, first, blocks, exec, returns, enter}
use types.ByLocal.{alloc_all, pass_all, free_all, look_at, get, sets, sets_last, take_at, give_at, env}
use types.SemTy.{cells}
use denote.Array.{Array}
use denote.Builtin.{u8, usize, RawPtr}
use denote.Exit.{yes, no}
use denote.Follow.{follows}
use denote.FollowSlice.{Elements, lends_Elements}
use denote.Memory.{mem, cell_at, part_of}
use denote.RattleType.{owns}
use denote.RawPtr.{Ptr, block_ptr, ptr_val, in_a_block, rawptr_Lawful}
use denote.Ref.{MutBor}
use denote.Signature.{plain, types_at, mut_ref_to}
use denote.Slice.{MutSlice, slice_val}
use denote.Steps.{nothing, heard, opens}
use denote.Triple.Clauses.{Clauses, Ended, closing}
use denote.Triple.Spec.{Meets, triple_of}
use denote.Triple.Table.{entered}
use denote.Triple.Walked.{says, Stays, stay_dropped, walk_of, ends_at, Goes-dropped, Goes-spent_ref, walk_Meets}
use Rattle.std_alloc.proofs.VecSteps.Shapes.{after}
use Rattle.raw_block.specs.Lends.{with_items}
use Rattle.raw_block.specs.Ownership.{bytes_at, run_owns}
use Rattle.raw_block.proofs.Places.{row, place, Bare, cut, glue}
use Rattle.raw_block.specs.contracts.run.Run.slice_mut as F
use Rattle.raw_block.specs.contracts.run.Run.slice_mut.Key.{name as #self}
use Rattle.raw_block.proofs.run.Run.slice_mut.Statement as stated
use Rattle.raw_block.proofs.run.Run.slice_mut.Code as code

abbrev function : Fn
function = code.function

abbrev ended : Ended
ended = F.ended

abbrev stayed : Stays ended.signature.params ended.kept
stayed = (stay_dropped (mut_ref_to (0 ∷ []) tt (plain (λ _. row))) no, (stay_dropped (plain (λ _. RawPtr)) yes, (stay_dropped (plain (λ _. usize)) yes, tt)))

module _ {M : Type 1} {𝓤 : Ura M} (𝓛 : Logic 𝓤) (rb ro : ℕ) (d : row.Denot) (vs : List Val) (b o : ℕ) where
  -- all but the items
  abbrev Rest : Fml
  Rest = fsep (froom (ty_array place d.room) b (length d.items + o)) (fsep (Bare.own_val tt vs) (cell_at full_share row.mir vs rb ro))

  back : d.ptr ≡ block_ptr b o → length d.items + d.room < 2 ^ 63 → (ws : List ℕ) → length ws ≡ length d.items
      → ent 𝓤 (sep 𝓤 (sem 𝓛 (cells (mem u8) ws b o)) (sem 𝓛 Rest)) (sem 𝓛 ((mem row).own_at (with_items d ws) rb ro))
  unfolding part_of
  back e small ws same =
      let at : ℕ = length d.items + o in let placed : at ≡ length ws + o = omega (arith, same) in
      qed 𝓛 (‵ (cells (mem u8) ws b o) ∷ ‵ Rest ∷ []) ∵ move ! (1 ∷ []) $ fsplit3 ! $ move ! (3 ∷ 0 ∷ []) $
      use2 𝓛 (‵ (bytes_at b o (ws ++ []) d.room)) (glue 𝓛 b ws [] d.room o at placed) $
      rewrite ! 0 (λ (xs : List ℕ). ‵ (bytes_at b o xs d.room)) (append-nil ws) refl $
      flt_i ! (length ws + d.room) (2 ^ 63) (omega (arith, small, same)) $ fjoin ! $
      rewrite ! 0 (λ (r : Ptr). ‵ (run_owns r ws d.room)) (sym e) refl $ move ! (1 ∷ 0 ∷ []) $ fjoin ! $ move ! (1 ∷ 0 ∷ []) $ fjoin ! $
      fpack ! (List Val) (λ us. fsep (cell_at full_share row.mir us rb ro) (row.own_val (with_items d ws) us)) vs $ done !

module _ {M : Type 1} {𝓤 : Ura M} (𝓛 : Logic 𝓤) (at_mem : Memory → SProp 𝓤) (run : Routine → Fun 𝓤) where
  open 𝓛 use {H}

  abbrev held : Clauses 𝓤 ended
  held = F.clauses 𝓛 at_mem run

  module _ (C : Calls 𝓤 H) (Λ : Loops 𝓤 H) (z : (walk_of 𝓛 ended stayed held).Ghost) where
    abbrev Post : Val → SProp 𝓤
    Post = (walk_of 𝓛 ended stayed held).post z

    exits : (v : Val) (r : MutBor (List ℕ)) → r.now ≡ z.0.3.0.now.items
        → ent 𝓤 (sep 𝓤 (sem 𝓛 ((MutSlice (named 0) z.0.0.0 u8).own_val r (v ∷ []))) (sep 𝓤 (sem 𝓛 (flft z.0.0.0 z.0.1.0)) (sem 𝓛 (follows row (Array u8 0) z.0.3.0.ghost_name r.ghost_name (with_items z.0.3.0.now))))) (Post v)
    exits v r same =
        qed 𝓛 (‵ ((MutSlice (named 0) z.0.0.0 u8).own_val r (v ∷ [])) ∷ ‵ (flft z.0.0.0 z.0.1.0) ∷ ‵ (follows row (Array u8 0) z.0.3.0.ghost_name r.ghost_name (with_items z.0.3.0.now)) ∷ []) ∵
        suffices ! _ (ends_at 𝓛 ended stayed held z v r (tt, (tt, (tt, tt))) (tt, (tt, (tt, tt)))) $
        nothing ! $ nothing ! $ fjoin ! $ nothing ! $ fjoin ! $ nothing ! $ fjoin ! $ join ! $ nothing ! $ move ! (2 ∷ 0 ∷ []) $ join ! $ join ! $ frame ! $ says ! same $ done !

    walks : ent 𝓤 ((walk_of 𝓛 ended stayed held).pre z) (WpFn 𝓤 H C Λ function ((walk_of 𝓛 ended stayed held).args z) Post)
    walks =
        let κ = z.0.0.0 in let q = z.0.1.0 in let a = z.0.3 in let vss = z.0.4 in
        let rb = a.0.ref_ptr.0 in let ro = a.0.ref_ptr.1 in let γ = a.0.ghost_name in let d = a.0.now in let p = a.1.0 in let n = a.1.1.0 in let xs = d.items in
        let Asked = (p ≡ d.ptr) × (length xs ≡ n) in
        let coded = row.coded.code d in
        qed 𝓛 (((‵ (flft κ q) ⊛ ‵ ftrue) ⊛ ‵ (owns (types_at ended.signature.params z.0.0) a vss)) ∷ raw (fact 𝓤 Asked) ∷ []) ∵
        move ! (1 ∷ []) $ heard ! Asked (λ asked. split ! $ split ! $ move ! (2 ∷ []) $
        fsplit ! $ fsplit3 ! $ feq_l ! (λ is₀. move ! (2 ∷ []) $ fsplit ! $ feq_l ! (λ is₁. fsplit ! $ fsplit ! $ feq_l ! (λ is₂. flt_l ! (λ fits. keep ! (1 ∷ 2 ∷ 3 ∷ []) $
        regoal ! (λ (ws : List Val × List Val × List Val). prop (WpFn 𝓤 H C Λ function (ws.0 ++ (ws.1 ++ (ws.2 ++ []))) Post)) (λ i. (is₀ i, is₁ i, is₂ i)) refl $
        enter ! C Λ function (vptr rb ro ∷ ptr_val p ∷ vint w64 n ∷ []) Post $ alloc_all ! (λ l. pass_all ! refl ((tt, tt), (((rawptr_Lawful 𝓛).typed p _ refl).0, ((tt, record { fits = fits }), tt))) $
        let En : Env 𝓤 H = env function.locals l in
        opens ! tt row {h = d} rb ro (λ vs. move ! (1 ∷ []) $ fsplit ! $ move ! (1 ∷ []) $
        in_a_block ! d.ptr (λ r. run_owns r xs d.room) (id⊢ 𝓤 (never 𝓤)) (λ b o e. fsplit ! $ flt_l ! (λ small.
        let roomy : length xs < 2 ^ 64 = omega (arith, small) in let fitting : length xs * 1 < 2 ^ 63 = omega (arith, small) in
        let way = back 𝓛 rb ro d vs b o e small in
        let Kept = sem 𝓛 (Rest 𝓛 rb ro d vs b o) in
        take_at ! 2 $ rewrite ! 0 (λ (r : Ptr). ‵ (fat full_share ty_ptr (l 2) 0 (ptr_val r))) (asked.0 ∙ e) refl $ give_at ! 2 $
        first ! $ blocks ! $ sets_last ! (agg ! (and_then ! (get ! refl) (and_then ! (get ! refl) (no_more !)))) refl (tt, (tt, (record { fits = fits }, tt))) $
        exec ! C Λ En (after 1 function.body) (at_ret En Post) $ sets ! (of_opd ! (get ! refl)) refl (tt, (tt, (record { fits = fits }, tt))) $
        use1 𝓛 (‵ (cells (mem u8) xs b o) ⊛ ‵ (froom (ty_array place d.room) b (length xs + o))) (cut 𝓛 b xs d.room o (length xs + o) refl) $ split ! $
        -- [the items; the room; no field; the cell; the open borrow, in three entries]
        move ! (1 ∷ 2 ∷ 3 ∷ []) $ fjoin3 ! $ move ! (2 ∷ 3 ∷ 4 ∷ 1 ∷ 0 ∷ []) $ group ! 5 $
        use1 𝓛 (later (some (λ (δ : GName). raw (Elements 𝓛 row u8 (with_items d) (named 0) κ q rb ro b o γ xs (roomy, fitting) Kept way δ))))
        (lends_Elements 𝓛 row u8 (with_items d) (named 0) κ q rb ro b o γ xs (roomy, fitting) Kept way coded coded) $ await ! tt $ pick ! (λ δ.
        let r : MutBor (List ℕ) = record { ref_ptr = (b, o); ghost_name = δ; now = xs } in
        returns ! (look_at ! 0 refl) $ free_all ! refl $ keep ! (0 ∷ []) $
        by ! (subst (λ (k : ℕ). ent 𝓤 (Elements 𝓛 row u8 (with_items d) (named 0) κ q rb ro b o γ xs (roomy, fitting) Kept way δ) (Post (slice_val (b, o) k))) asked.1
        (exits (slice_val (b, o) (length xs)) r refl))))))))))))

  meets : (𝓣 : Tables 𝓤 H) → Meets 𝓛 ended.signature (WpFn 𝓤 H 𝓣.C 𝓣.Λ function) (closing 𝓛 ended held)
  meets 𝓣 =
      walk_Meets 𝓛 ended stayed (Goes-spent_ref 𝓛 1 (0 ∷ []) tt (plain (λ _. row)), (Goes-dropped 𝓛 1 (plain (λ _. RawPtr)) yes (λ κs x f. refl), (Goes-dropped 𝓛 1 (plain (λ _. usize)) yes (λ κs x f. refl), tt))) held
      (WpFn 𝓤 H 𝓣.C 𝓣.Λ function) (WpFn-mono 𝓤 H 𝓛.laws 𝓣 function) (walks 𝓣.C 𝓣.Λ)

pub slice_mut_spec : {M : Type 1} → stated.statement M
unfolding tables_of
slice_mut_spec 𝓤 𝓛 𝓜 𝓡 wired =
    let 𝓣 : Tables 𝓤 𝓛.H = tables_of 𝓤 𝓛.H 𝓜 (tables 𝓤 𝓛.H 𝓜 𝓡 𝓡.env) in
    entered 𝓤 𝓛.H (triple_of 𝓛 ended.signature (closing 𝓛 ended (held 𝓛 𝓜.mem 𝓡.returns))) 𝓣.C 𝓣.Λ #self function
    (code.unfolded 𝓤 𝓛.H 𝓜 𝓡 wired) (meets 𝓛 𝓜.mem 𝓡.returns 𝓣)
