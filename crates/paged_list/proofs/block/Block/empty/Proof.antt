-- `empty` reads the value, and the slot is room afterwards. Assumes `Logic`.
use Rattle.paged_list.proofs.Steps.{◌≡◌, ℕ, ◌+◌, ◌*◌, List, [], ◌∷◌, ◌++◌, length, get_or, set, Option, Some, None, refl, w64, ftrue, fat, flft, froom, full_share, SProp, emp, part_out, ◌⊑◌, fact, fact_i, tables, usize, yes, layout, owns, mut_Tells, plain, types_at, heard, Goes-dropped, Goes-ref, Stays, stay_dropped, stay_ref, walk_of, inst_fn, Fn, named, Val, vint, vptr, WpFn, alloc_all, env, free_all, get, look_at, pass_all, sets, sets_last, through, at_ret, by, drop, fjoin, fsplit, fsplit3, join, keep, move, pick, prop, qed, raw, regoal, rewrite, some, split, use0, use1, ‵, ◌⊛◌, ◌$◌, ◌∵◌, !, look_in, sub, all_of, bin, blocks, enter, exec, first, fld, load, look, of_opd, returns, size_lit, stop, well_typed, after, leaves, proved_at}
use Rattle.paged_list.specs.Slots.{IsFilled}
use Rattle.paged_list.proofs.Behind.{Given, Blk, Chosen, Thing, args, begun, closes_at, lent_still, opens_at, spends, width, with_slot}
use Rattle.paged_list.proofs.Rows.{step_down, within}
use Rattle.paged_list.specs.contracts.block.Block.empty.{ended, clauses}
use Rattle.paged_list.specs.contracts.block.Block.empty.Key.{name as #self}
use Rattle.paged_list.proofs.block.Block.empty.Statement.{statement}
use Rattle.paged_list.proofs.block.Block.empty.Code as code

pub empty_spec : {M : Type 1} → statement M
empty_spec 𝓤 𝓛 𝓜 𝓡 wired X Z L LZ g d dd met md =
    let H = 𝓛.H in let 𝓣 = tables 𝓤 H 𝓜 𝓡 𝓡.env in
    let P : Given = record { item = X; heap = Z; item_laws = L; heap_laws = LZ; ghosts = g; dict = d; drops = dd } in let mine = ended X Z g d dd in let said = clauses X Z g d dd 𝓛 𝓜.mem 𝓡.returns in let fn : Fn = inst_fn (args P) code.function in
    let kept : Stays mine.signature.params mine.kept = (stay_ref (0 ∷ []) tt (plain (λ _. Blk P)), (stay_dropped (plain (λ _. usize)) yes, tt)) in
    proved_at 𝓛 mine kept said 𝓜 𝓡 (Goes-ref 𝓛 3 0 tt (plain (λ _. Blk P)), (Goes-dropped 𝓛 3 (plain (λ _. usize)) yes (λ κs x w. refl), tt))
    (#self (args P)) fn (code.unfolded 𝓤 H 𝓜 𝓡 wired (X, (Z, tt)) d dd) (λ z are.
    let κs = z.0.0 in let qs = z.0.1 in let vss = z.0.4 in let Post : Val → SProp 𝓤 = (walk_of 𝓛 mine kept said).post z in
    let self = z.0.3.0 in let i = z.0.3.1.0 in let h = self.now in let rb = self.ref_ptr.0 in let ro = self.ref_ptr.1 in let cs = h.holds in
    let lies = mut_Tells (named 0) κs.0 (Blk P) self vss.0 are.0 in
    qed 𝓛 (((‵ (flft κs.0 qs.0) ⊛ (‵ (flft κs.1.0 qs.1.0) ⊛ ‵ (flft κs.1.1.0 qs.1.1.0) ⊛ ‵ ftrue)) ⊛ ‵ (owns (types_at mine.signature.params κs) z.0.3 vss)) ∷ (raw (fact 𝓤 (κs.1.0 ⊑ X.lives)) ⊛ raw (fact 𝓤 (κs.1.1.0 ⊑ Z.lives)) ⊛ raw (fact 𝓤 (IsFilled cs i))) ∷ []) ∵
    begun ! (κs.1.0 ⊑ X.lives) (κs.1.1.0 ⊑ Z.lives) (λ _. heard ! (IsFilled cs i) (λ filled. fsplit ! $ fsplit3 ! $ drop ! $
    let x = filled.0 in let inside = within cs i x filled.1 in
    -- [what is seen of the block; its borrow; the token of the borrow; the other tokens]
    keep ! (0 ∷ 1 ∷ 3 ∷ 4 ∷ []) $
    regoal ! (λ (us : List Val). prop (WpFn 𝓤 H 𝓣.C 𝓣.Λ fn us Post)) (λ k. lies k ++ (are.1.0.0 k ++ [])) refl $
    enter ! 𝓣.C 𝓣.Λ fn (vptr rb ro ∷ vint w64 i ∷ []) Post $ alloc_all ! (λ l. pass_all ! refl ((tt, tt), ((tt, record { fits = are.1.0.1 }), tt)) $
    opens_at P h i ! tt rb ro inside (λ b n begins few.
    let at : ℕ = i * width P + n in let small = step_down i (length cs) (width P) inside few in
    rewrite ! 0 (λ (c : Option X.Denot). ‵ (Chosen P h i b n c)) filled.1 refl $
    use1 𝓛 (some (λ (v : Val). ‵ (fat full_share (layout X) b at v) ⊛ ‵ ((Thing P).own_val x (v ∷ [])))) (part_out 𝓛 (Thing P) refl full_share x b at) $ pick ! (λ v. split ! $ well_typed ! (λ good.
    -- [the value's cell; the value; the other slots and the rest; the block's cell; three entries of the open borrow; the other tokens]
    first ! $ blocks ! $ sets ! (of_opd ! (load ! (through ! refl (fld ! refl (stop !))) (look_in ! 3 (sub ! 0 refl (all_of !))))) refl (tt, tt) $
    sets ! (bin ! (get ! refl) (size_lit ! (record { fits = small.0 })) (record { fits = small.1 })) refl (tt, record { fits = small.1 }) $ sets ! (bin ! (get ! refl) (get ! refl) tt) refl (tt, tt) $
    sets_last ! (of_opd ! (load ! (through ! refl (stop !)) (look ! 0 refl))) refl good $
    exec ! 𝓣.C 𝓣.Λ (env fn.locals l) (after 1 fn.body) (at_ret _ Post) $ sets ! (of_opd ! (get ! refl)) refl good $
    use1 𝓛 (‵ (froom (layout X) b at)) (𝓛.laws.at_room (layout X) b at v) $ use1 𝓛 (‵ (Chosen P h i b n None)) (𝓛.laws.room-raw (layout X) b at) $
    move ! (0 ∷ 2 ∷ 3 ∷ 4 ∷ 5 ∷ 6 ∷ []) $ closes_at P h i ! tt rb ro b n None begins inside few $
    returns ! (look_at ! 0 refl) $ free_all ! refl $ let new : (Blk P).Denot = with_slot P h i None in let Kept : Type 0 = (new.from ≡ h.from) × (new.holds ≡ set cs i None) in let Taken : Type 0 = get_or cs i None ≡ Some x in
    -- [what is seen of the block; its borrow; the token of the borrow; the value; the other tokens]
    lent_still ! (Blk P) κs.0 (record self { now = new }) vss.0 lies $ spends ! 1 $ move ! (1 ∷ 0 ∷ []) $ fjoin ! $ move ! (1 ∷ 3 ∷ []) $ join ! $
    use0 𝓛 (raw (fact 𝓤 Kept)) (fact_i 𝓤 Kept (emp 𝓤) (refl, refl)) $ use0 𝓛 (raw (fact 𝓤 Taken)) (fact_i 𝓤 Taken (emp 𝓤) filled.1) $ join ! $
    keep ! (1 ∷ 2 ∷ 3 ∷ 0 ∷ []) $ by ! (leaves 𝓛 mine kept said z v x (new, (tt, tt)) (tt, (tt, tt))))))))))
