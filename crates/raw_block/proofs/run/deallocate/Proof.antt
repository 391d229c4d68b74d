-- `deallocate` makes room of all the bytes, and hands it back with the token. Assumes `Logic`.
use Rattle.std.proofs.Common.{◌≡◌, ℕ, ◌+◌, ◌^◌, ◌<◌, List, [], ◌∷◌, ◌++◌, length, refl, sym, subst, ◌∙◌}
use lib.Dec.{T, lit<}
use seplogic.Ra.Ura.{Ura}
use base.Fraction.{full_share}
use mir.Syntax.{Fn, named, ty_ptr, ty_unit, ty_array, w64}
use mir.MapTy.{inst_fn}
use mir.Val.{Val, vptr, vint, vunit, has_ty, WT}
use base.Logic.{SProp, ent, never, id⊢}
use base.Fml.{Lft, Share, Incl-trans, ftrue, fat, flft, froom}
use prog.Memory.{Memory}
use prog.Routine.{Routine}
use prog.Wp.{Env, Calls, Loops, WpFn, Tables}
use contract.BorrowLft.{◌⊑◌}
use contract.Monad.{Fun}
use contract.Running.{tables, tables_of}
use sound.WpLaws.{WpFn-mono, FmC, fm_of}
use types.Logic.{Logic}
use types.Kit.{Item, ⋆, ‵, prop, raw, ◌⊛◌, given, later, await, learn, at_ret, ◌$◌, ◌∵◌, !, qed, by, move, keep, use1, split, join, group, fsplit, fsplit3, fjoin, feq_i, feq_l, flt_l, regoal, rewrite, suffices, done}
use types.Run.{lit, of_opd, unit_lit, and_then, no_more, first, blocks, exec, returns, enter}
use types.ByLocal.{alloc_all, pass_all, free_all, look_at, get, sets, lands_last, take_at, give_at, env}
use denote.Builtin.{usize, RawPtr, RefOf}
use denote.Exit.{yes, no}
use denote.Memory.{hidden_shr}
use denote.RattleType.{owns}
use denote.RawPtr.{Ptr, ptr_val, in_a_block, rawptr_Lawful}
use denote.Ref.{Bor, ShrRef}
use denote.Signature.{plain}
use denote.Steps.{nothing}
use denote.Triple.Call.{calls_at_last}
use denote.Triple.Clauses.{Clauses, Ended, closing}
use denote.Triple.Entry.{on_entry}
use denote.Triple.Spec.{Meets, triple_of}
use denote.Triple.Statement.{Triple}
use denote.Triple.Table.{entered}
use denote.Triple.Walked.{Stays, stay_dropped, walk_of, ends_at, Goes-dropped, walk_Meets}
use Rattle.core.proofs.alloc.Calls.{Al, token, gives_key, Gives, at_gives, Gives-goes, Gives-Gives, Goes-blank}
use Rattle.std_alloc.proofs.RawLayout.{as_raw}
use Rattle.std_alloc.proofs.VecSteps.Shapes.{after}
use Rattle.raw_block.specs.Ownership.{run_owns, deed_owns}
use Rattle.raw_block.proofs.Places.{row, place, none, none_had, all_room}
use Rattle.raw_block.proofs.Deeds.{args, P, deed_row, block_of_bytes, block_size, block_align, mark, mark_had, both_asked}
use Rattle.raw_block.specs.contracts.run.deallocate as F
use Rattle.raw_block.specs.contracts.run.deallocate.Key.{name as #self}
use Rattle.raw_block.proofs.run.deallocate.Statement as stated
use Rattle.raw_block.proofs.run.deallocate.Code as code

module _ (Z : Al) where
  abbrev function : Fn
  function = inst_fn (args Z) code.function

  abbrev ended : Ended
  ended = F.ended Z.row Z.g Z.d Z.drops

  abbrev stayed : Stays ended.signature.params ended.kept
  stayed = (stay_dropped (RefOf (0 ∷ []) tt (plain (λ _. P Z)) (λ _. tt)) yes, (stay_dropped (plain (λ _. RawPtr)) yes, (stay_dropped (plain (λ _. usize)) yes, (stay_dropped (plain (λ _. row)) yes, (stay_dropped (plain (λ _. deed_row Z)) no, tt)))))

  abbrev Asks : Z.row.Denot → Ptr → ℕ → row.Denot → (deed_row Z).Denot → Type 0
  Asks a p len bytes deed = (bytes.ptr ≡ p) × (length bytes.items + bytes.room ≡ len) × (deed.ptr ≡ p) × (deed.len ≡ len) × (deed.alloc ≡ a)

module _ (Z : Al) {M : Type 1} {𝓤 : Ura M} (𝓛 : Logic 𝓤) (at_mem : Memory → SProp 𝓤) (run : Routine → Fun 𝓤) where
  open 𝓛 use {H}

  abbrev held : Clauses 𝓤 (ended Z)
  held = F.clauses Z.row Z.g Z.d Z.drops 𝓛 at_mem run

  module _ (C : Calls 𝓤 H) (Λ : Loops 𝓤 H) (framed : FmC 𝓤 H 𝓛.laws C) (callee : Triple 𝓤 (C (gives_key Z)) (Gives Z 𝓛 at_mem run))
      (κ κ₁ : Lft) (q q₁ : Share) (short : κ ⊑ κ₁) (within : κ₁ ⊑ Z.row.lives) (rb ro : ℕ) (a : Z.row.Denot) (p : Ptr) (len : ℕ) (bytes : row.Denot) (deed : (deed_row Z).Denot) (us0 us1 us2 us3 us4 : List Val) where
    abbrev self : Bor Z.row.Denot
    self = record { ref_ptr = (rb, ro); now = a }

    abbrev others : Item 𝓤
    others = ‵ (flft κ₁ q₁) ⊛ ‵ ftrue

    abbrev bound : (walk_of 𝓛 (ended Z) (stayed Z) held).Ghost
    bound = (((κ, (κ₁, tt)), (q, (q₁, tt)), (short, tt), (self, (p, (len, (bytes, (deed, tt))))), (us0, (us1, (us2, (us3, (us4, tt)))))), tt)

    abbrev Post : Val → SProp 𝓤
    Post = (walk_of 𝓛 (ended Z) (stayed Z) held).post bound

    exits : ent 𝓤 (⋆ 𝓛 (‵ (flft κ q) ∷ others ∷ [])) (Post vunit)
    exits =
        qed 𝓛 (‵ (flft κ q) ∷ others ∷ []) ∵
        suffices ! _ (ends_at 𝓛 (ended Z) (stayed Z) held bound vunit tt (tt, (tt, (tt, (tt, (tt, tt))))) (tt, (tt, (tt, (tt, (tt, tt)))))) $
        join ! $ feq_i ! (List Val) (vunit ∷ []) (vunit ∷ []) refl $ nothing ! $ nothing ! $ fjoin ! $ nothing ! $ fjoin ! $ nothing ! $ fjoin ! $ nothing ! $ fjoin ! $ nothing ! $ fjoin ! $ join ! $
        move ! (1 ∷ 0 ∷ []) $ join ! $ nothing ! $ move ! (1 ∷ 0 ∷ []) $ done !

    abbrev Had : List (Item 𝓤)
    Had = ‵ (run_owns bytes.ptr bytes.items bytes.room) ∷ ‵ (deed_owns (token Z deed.alloc) deed.ptr deed.len) ∷ ‵ (hidden_shr (P Z) κ a rb ro) ∷ ‵ (flft κ q) ∷ others ∷ []

    walk : Asks Z a p len bytes deed → len < 2 ^ 64 → ent 𝓤 (⋆ 𝓛 Had) (WpFn 𝓤 H C Λ (function Z) (vptr rb ro ∷ ptr_val p ∷ vint w64 len ∷ none ∷ mark ∷ []) Post)
    walk asked fits =
        let y = λ (b o : ℕ). at_gives Z 𝓛 at_mem run κ q (rb, ro) a b o len 1 (block_of_bytes len) in
        qed 𝓛 Had ∵ enter ! C Λ (function Z) (vptr rb ro ∷ ptr_val p ∷ vint w64 len ∷ none ∷ mark ∷ []) _ $
        alloc_all ! (λ l. pass_all ! refl ((tt, tt), (((rawptr_Lawful 𝓛).typed p _ refl).0, ((tt, record { fits = fits }), ((tt, tt), ((tt, (tt, tt)), tt))))) $
        let En : Env 𝓤 H = env (function Z).locals l in
        rewrite ! 0 (λ (r : Ptr). ‵ (run_owns r bytes.items bytes.room)) asked.0 refl $
        in_a_block ! p (λ r. run_owns r bytes.items bytes.room) (id⊢ 𝓤 (never 𝓤)) (λ b o e. fsplit ! $ flt_l ! (λ small.
        take_at ! 2 $ rewrite ! 0 (λ (r : Ptr). ‵ (fat full_share ty_ptr (l 2) 0 (ptr_val r))) e refl $ give_at ! 2 $
        rewrite ! 1 (λ (d : Z.row.Denot × Ptr × ℕ). ‵ (deed_owns (token Z d.0) d.1 d.2)) (λ i. (asked.4 i, (asked.2 ∙ e) i, asked.3 i)) refl $
        use1 𝓛 (‵ (froom (ty_array place len) b o)) (all_room 𝓛 b bytes.items bytes.room len o asked.1) $ as_raw ! (ty_array place len) b o $ first ! $ blocks ! $
        group ! 4 $ use1 𝓛 (raw ((Gives Z 𝓛 at_mem run).pre (y b o))) (Gives-goes Z 𝓛 at_mem run κ q (rb, ro) a (Incl-trans short within) b o len 1 (block_of_bytes len) (block_size len fits) (block_align len) fits (lit< tt)) $
        calls_at_last ! framed (Gives Z 𝓛 at_mem run) callee (y b o) (and_then ! (get ! refl) (and_then ! (get ! refl) (and_then ! (get ! refl) (and_then ! (lit ! tt) (no_more !))))) (λ v.
        use1 𝓛 (later (given (v ≡ vunit) (‵ (flft κ q)))) (Gives-Gives Z 𝓛 at_mem run κ q (rb, ro) a b o len 1 (block_of_bytes len) v) $ await ! tt $ learn ! (λ done_with.
        lands_last ! refl (subst (λ (w : Val). T (has_ty ty_unit w) × WT w) (sym done_with) (tt, tt)) $ exec ! C Λ En (after 1 (function Z).body) (at_ret En Post) $
        sets ! (of_opd ! (unit_lit !)) refl (tt, tt) $ returns ! (look_at ! 0 refl) $ free_all ! refl $ keep ! (0 ∷ 1 ∷ []) $ by ! exits)))))

    entry : Asks Z a p len bytes deed → ent 𝓤 (on_entry 𝓛 (ended Z).signature (κ, (κ₁, tt)) (q, (q₁, tt)) (self, (p, (len, (bytes, (deed, tt))))) (us0, (us1, (us2, (us3, (us4, tt)))))) (WpFn 𝓤 H C Λ (function Z) (us0 ++ (us1 ++ (us2 ++ (us3 ++ (us4 ++ []))))) Post)
    entry asked =
        qed 𝓛 ((‵ (flft κ q) ⊛ others) ∷ ‵ (owns (ShrRef (named 0) κ (P Z) ∷ RawPtr ∷ usize ∷ row ∷ deed_row Z ∷ []) (self, (p, (len, (bytes, (deed, tt))))) (us0, (us1, (us2, (us3, (us4, tt)))))) ∷ []) ∵ split ! $ move ! (2 ∷ []) $ fsplit3 ! $ fsplit ! $ feq_l ! (λ is₀.
        move ! (1 ∷ []) $ feq_l ! (λ is₁. move ! (1 ∷ []) $ fsplit3 ! $ fsplit ! $ feq_l ! (λ is₂. flt_l ! (λ fits.
        fsplit ! $ none_had ! us3 (λ is₃. move ! (1 ∷ []) $ fsplit ! $ fsplit ! $ mark_had ! Z us4 (λ is₄. keep ! (2 ∷ 0 ∷ 3 ∷ 4 ∷ 5 ∷ []) $
        regoal ! (λ (ws : List Val × List Val × List Val × List Val × List Val). prop (WpFn 𝓤 H C Λ (function Z) (ws.0 ++ (ws.1 ++ (ws.2 ++ (ws.3 ++ (ws.4 ++ []))))) Post)) (λ i. (is₀ i, is₁ i, is₂ i, is₃ i, is₄ i)) refl $
        by ! (walk asked fits)))))))

  meets : (𝓣 : Tables 𝓤 H) → Triple 𝓤 (𝓣.C (gives_key Z)) (Gives Z 𝓛 at_mem run) → Meets 𝓛 (ended Z).signature (WpFn 𝓤 H 𝓣.C 𝓣.Λ (function Z)) (closing 𝓛 (ended Z) held)
  meets 𝓣 callee =
      walk_Meets 𝓛 (ended Z) (stayed Z) (Goes-dropped 𝓛 2 (RefOf (0 ∷ []) tt (plain (λ _. P Z)) (λ _. tt)) yes (λ κs x f. refl), (Goes-dropped 𝓛 2 (plain (λ _. RawPtr)) yes (λ κs x f. refl), (Goes-dropped 𝓛 2 (plain (λ _. usize)) yes (λ κs x f. refl), (Goes-blank 𝓛 2 (plain (λ _. row)) yes (λ κs x f. tt), (Goes-blank 𝓛 2 (plain (λ _. deed_row Z)) no (λ κs x f. tt), tt))))) held
      (WpFn 𝓤 H 𝓣.C 𝓣.Λ (function Z)) (WpFn-mono 𝓤 H 𝓛.laws 𝓣 (function Z))
      (λ z. let κs = z.0.0 in let qs = z.0.1 in let a = z.0.3 in let vss = z.0.4 in
      both_asked 𝓤 (κs.1.0 ⊑ Z.row.lives) (Asks Z a.0.now a.1.0 a.1.1.0 a.1.1.1.0 a.1.1.1.1.0) (on_entry 𝓛 (ended Z).signature κs qs a vss) (λ within asked.
      entry 𝓣.C 𝓣.Λ (fm_of 𝓤 H 𝓛.laws 𝓣) callee κs.0 κs.1.0 qs.0 qs.1.0 z.0.2.0 within a.0.ref_ptr.0 a.0.ref_ptr.1 a.0.now a.1.0 a.1.1.0 a.1.1.1.0 a.1.1.1.1.0 vss.0 vss.1.0 vss.1.1.0 vss.1.1.1.0 vss.1.1.1.1.0 asked))

pub deallocate_spec : {M : Type 1} → stated.statement M
unfolding tables_of
deallocate_spec 𝓤 𝓛 𝓜 𝓡 wired W LW g d dd met md =
    let Z : Al = record { row = W; laws = LW; g = g; d = d; drops = dd } in
    let 𝓣 : Tables 𝓤 𝓛.H = tables_of 𝓤 𝓛.H 𝓜 (tables 𝓤 𝓛.H 𝓜 𝓡 𝓡.env) in
    entered 𝓤 𝓛.H (triple_of 𝓛 (ended Z).signature (F.spec W g d dd 𝓛 𝓜.mem 𝓡.returns)) 𝓣.C 𝓣.Λ (#self (args Z)) (function Z) (code.unfolded 𝓤 𝓛.H 𝓜 𝓡 wired (W, tt) d dd)
    (meets Z 𝓛 𝓜.mem 𝓡.returns 𝓣 (met.deallocate dd))
