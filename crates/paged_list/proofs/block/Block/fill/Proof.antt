-- `fill` writes the value into the empty slot. Assumes `Logic`.
use Rattle.paged_list.proofs.Steps.{◌≡◌, ℕ, ◌+◌, ◌*◌, ◌<◌, List, [], ◌∷◌, ◌++◌, length, get_or, set, Option, Some, None, refl, w64, ftrue, flft, froom, full_share, SProp, emp, part_in, ◌⊑◌, fact, fact_i, tables, usize, no, yes, part_at, layout, param_laws, owns, mut_Tells, plain, types_at, heard, Goes-dropped, Goes-ref, Stays, stay_dropped, stay_ref, walk_of, inst_fn, Fn, named, Val, vint, vptr, vunit, WpFn, alloc_all, env, free_all, get, look_at, pass_all, sets, through, at_ret, by, drop, feq_i, fjoin, fsplit, fsplit3, join, keep, move, prop, qed, raw, regoal, rewrite, use0, use1, use2, ‵, ◌⊛◌, ◌$◌, ◌∵◌, !, look_in, sub, all_of, assigns_last, bin, blocks, enter, exec, first, fld, init, load, of_opd, returns, size_lit, stop, unit_lit, after, one, leaves, proved_at}
use Rattle.paged_list.proofs.Behind.{Given, Blk, Chosen, Thing, args, begun, closes_at, lent_still, opens_at, spends, width, with_slot}
use Rattle.paged_list.proofs.Rows.{step_down}
use Rattle.paged_list.specs.contracts.block.Block.fill.{ended, clauses}
use Rattle.paged_list.specs.contracts.block.Block.fill.Key.{name as #self}
use Rattle.paged_list.proofs.block.Block.fill.Statement.{statement}
use Rattle.paged_list.proofs.block.Block.fill.Code as code

pub fill_spec : {M : Type 1} → statement M
fill_spec 𝓤 𝓛 𝓜 𝓡 wired X Z L LZ g d dd met md =
    let H = 𝓛.H in let 𝓣 = tables 𝓤 H 𝓜 𝓡 𝓡.env in
    let P : Given = record { item = X; heap = Z; item_laws = L; heap_laws = LZ; ghosts = g; dict = d; drops = dd } in let mine = ended X Z g d dd in let said = clauses X Z g d dd 𝓛 𝓜.mem 𝓡.returns in let fn : Fn = inst_fn (args P) code.function in
    let kept : Stays mine.signature.params mine.kept = (stay_ref (0 ∷ []) tt (plain (λ _. Blk P)), (stay_dropped (plain (λ _. usize)) yes, (stay_dropped (plain (λ _. Thing P)) no, tt))) in
    proved_at 𝓛 mine kept said 𝓜 𝓡
    (Goes-ref 𝓛 3 0 tt (plain (λ _. Blk P)), (Goes-dropped 𝓛 3 (plain (λ _. usize)) yes (λ κs x w. refl), (Goes-dropped 𝓛 3 (plain (λ _. Thing P)) no (λ κs x w. refl), tt)))
    (#self (args P)) fn (code.unfolded 𝓤 H 𝓜 𝓡 wired (X, (Z, tt)) d dd) (λ z are.
    let κs = z.0.0 in let qs = z.0.1 in let vss = z.0.4 in let Post : Val → SProp 𝓤 = (walk_of 𝓛 mine kept said).post z in
    let self = z.0.3.0 in let i = z.0.3.1.0 in let x = z.0.3.1.1.0 in let h = self.now in let rb = self.ref_ptr.0 in let ro = self.ref_ptr.1 in let cs = h.holds in
    let Asked : Type 0 = (i < length cs) × (get_or cs i None ≡ None) in
    let lies = mut_Tells (named 0) κs.0 (Blk P) self vss.0 are.0 in let value = one (layout X) vss.1.1.0 (((param_laws 0 X L).lawful 𝓛).typed x vss.1.1.0 are.1.1.0) in let v : Val = value.0 in
    qed 𝓛 (((‵ (flft κs.0 qs.0) ⊛ (‵ (flft κs.1.0 qs.1.0) ⊛ ‵ (flft κs.1.1.0 qs.1.1.0) ⊛ ‵ ftrue)) ⊛ ‵ (owns (types_at mine.signature.params κs) z.0.3 vss)) ∷ (raw (fact 𝓤 (κs.1.0 ⊑ X.lives)) ⊛ raw (fact 𝓤 (κs.1.1.0 ⊑ Z.lives)) ⊛ raw (fact 𝓤 Asked)) ∷ []) ∵
    begun ! (κs.1.0 ⊑ X.lives) (κs.1.1.0 ⊑ Z.lives) (λ _. heard ! Asked (λ asked. fsplit ! $ fsplit3 ! $ drop ! $
    move ! (2 ∷ []) $ fsplit ! $ drop ! $ fsplit ! $ rewrite ! 0 (λ (us : List Val). ‵ ((Thing P).own_val x us)) value.1 refl $
    -- [what is seen of the block; its borrow; the token of the borrow; the value; the other tokens]
    keep ! (2 ∷ 3 ∷ 4 ∷ 0 ∷ 5 ∷ []) $
    regoal ! (λ (us : List Val). prop (WpFn 𝓤 H 𝓣.C 𝓣.Λ fn us Post)) (λ k. lies k ++ (are.1.0.0 k ++ (value.1 k ++ []))) refl $
    enter ! 𝓣.C 𝓣.Λ fn (vptr rb ro ∷ vint w64 i ∷ v ∷ []) Post $ alloc_all ! (λ l. pass_all ! refl ((tt, tt), ((tt, record { fits = are.1.0.1 }), (value.2, tt))) $
    opens_at P h i ! tt rb ro asked.0 (λ b n begins few.
    let at : ℕ = i * width P + n in let small = step_down i (length cs) (width P) asked.0 few in
    rewrite ! 0 (λ (c : Option X.Denot). ‵ (Chosen P h i b n c)) asked.1 refl $ use1 𝓛 (‵ (froom (layout X) b at)) (𝓛.laws.raw-room (layout X) b at) $
    -- [room for the value; the other slots and the rest; the block's cell; three entries of the open borrow; the value; the other tokens]
    first ! $ blocks ! $ sets ! (of_opd ! (load ! (through ! refl (fld ! refl (stop !))) (look_in ! 2 (sub ! 0 refl (all_of !))))) refl (tt, tt) $
    sets ! (bin ! (get ! refl) (size_lit ! (record { fits = small.0 })) (record { fits = small.1 })) refl (tt, record { fits = small.1 }) $ sets ! (bin ! (get ! refl) (get ! refl) tt) refl (tt, tt) $
    sets ! (of_opd ! (get ! refl)) refl value.2 $ assigns_last ! (of_opd ! (get ! refl)) (through ! refl (stop !)) (init ! 0 refl value.2) $
    exec ! 𝓣.C 𝓣.Λ (env fn.locals l) (after 1 fn.body) (at_ret _ Post) $ sets ! (of_opd ! (unit_lit !)) refl (tt, tt) $
    move ! (0 ∷ 6 ∷ []) $ use2 𝓛 (‵ (part_at (Thing P) full_share x b at)) (part_in 𝓛 (Thing P) refl full_share x b at v) $ closes_at P h i ! tt rb ro b n (Some x) begins asked.0 few $
    returns ! (look_at ! 0 refl) $ free_all ! refl $ let new : (Blk P).Denot = with_slot P h i (Some x) in let Kept : Type 0 = (new.from ≡ h.from) × (new.holds ≡ set cs i (Some x)) in
    -- [what is seen of the block; its borrow; the token of the borrow; the other tokens]
    lent_still ! (Blk P) κs.0 (record self { now = new }) vss.0 lies $ spends ! 2 $ move ! (1 ∷ 0 ∷ []) $ fjoin ! $ move ! (1 ∷ 2 ∷ []) $ join ! $
    use0 𝓛 (raw (fact 𝓤 Kept)) (fact_i 𝓤 Kept (emp 𝓤) (refl, refl)) $ feq_i ! (List Val) (vunit ∷ []) (vunit ∷ []) refl $
    keep ! (2 ∷ 3 ∷ 0 ∷ 1 ∷ []) $ by ! (leaves 𝓛 mine kept said z vunit tt (new, (tt, (tt, tt))) (tt, (tt, (tt, tt)))))))))
