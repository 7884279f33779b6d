-- `get_mut` lends the value, and the block has the value written there afterwards. Assumes `Logic`.
use Rattle.paged_list.proofs.Steps.{◌≡◌, ℕ, ◌+◌, ◌*◌, List, [], ◌∷◌, ◌++◌, length, get_or, Option, Some, None, MutBor, refl, w64, GName, ftrue, flft, SProp, emp, id⊢, ◌⊑◌, fact, fact_i, tables, usize, no, yes, Part, follows, lends_Part, owns, MutRef, mut_Tells, mut_ref_to, plain, types_at, heard, Goes-dropped, Goes-spent_ref, Stays, stay_dropped, walk_of, inst_fn, Fn, named, Val, vint, vptr, WpFn, alloc_all, env, free_all, get, look_at, pass_all, sets, sets_last, through, at_ret, await, by, drop, fjoin, fsplit, fsplit3, group, join, keep, later, move, pick, prop, qed, raw, regoal, rewrite, some, split3, use0, use1, ‵, ◌⊛◌, ◌$◌, ◌∵◌, !, sem, look_in, sub, all_of, addr, bin, blocks, enter, exec, first, fld, load, of_opd, returns, size_lit, stop, after, leaves, proved_at}
use Rattle.paged_list.specs.SlotLends.{with_value}
use Rattle.paged_list.specs.Slots.{IsFilled}
use Rattle.paged_list.proofs.Behind.{Given, Blk, Chosen, Elsewhere, Thing, args, begun, comes_home, opens_at, spends, width}
use Rattle.paged_list.proofs.Rows.{step_down, within}
use Rattle.paged_list.specs.contracts.block.Block.get_mut.{ended, clauses}
use Rattle.paged_list.specs.contracts.block.Block.get_mut.Key.{name as #self}
use Rattle.paged_list.proofs.block.Block.get_mut.Statement.{statement}
use Rattle.paged_list.proofs.block.Block.get_mut.Code as code

pub get_mut_spec : {M : Type 1} → statement M
get_mut_spec 𝓤 𝓛 𝓜 𝓡 wired X Z L LZ g d dd met md =
    let H = 𝓛.H in let 𝓣 = tables 𝓤 H 𝓜 𝓡 𝓡.env in
    let P : Given = record { item = X; heap = Z; item_laws = L; heap_laws = LZ; ghosts = g; dict = d; drops = dd } in let mine = ended X Z g d dd in let said = clauses X Z g d dd 𝓛 𝓜.mem 𝓡.returns in let fn : Fn = inst_fn (args P) code.function in
    let kept : Stays mine.signature.params mine.kept = (stay_dropped (mut_ref_to (0 ∷ []) tt (plain (λ _. Blk P))) no, (stay_dropped (plain (λ _. usize)) yes, tt)) in
    proved_at 𝓛 mine kept said 𝓜 𝓡 (Goes-spent_ref 𝓛 3 (0 ∷ []) tt (plain (λ _. Blk P)), (Goes-dropped 𝓛 3 (plain (λ _. usize)) yes (λ κs x w. refl), tt))
    (#self (args P)) fn (code.unfolded 𝓤 H 𝓜 𝓡 wired (X, (Z, tt)) d dd) (λ z are.
    let κs = z.0.0 in let qs = z.0.1 in let vss = z.0.4 in let Post : Val → SProp 𝓤 = (walk_of 𝓛 mine kept said).post z in
    let self = z.0.3.0 in let i = z.0.3.1.0 in let h = self.now in let rb = self.ref_ptr.0 in let ro = self.ref_ptr.1 in let γ = self.ghost_name in let cs = h.holds in
    qed 𝓛 (((‵ (flft κs.0 qs.0) ⊛ (‵ (flft κs.1.0 qs.1.0) ⊛ ‵ (flft κs.1.1.0 qs.1.1.0) ⊛ ‵ ftrue)) ⊛ ‵ (owns (types_at mine.signature.params κs) z.0.3 vss)) ∷ (raw (fact 𝓤 (κs.1.0 ⊑ X.lives)) ⊛ raw (fact 𝓤 (κs.1.1.0 ⊑ Z.lives)) ⊛ raw (fact 𝓤 (IsFilled cs i))) ∷ []) ∵
    begun ! (κs.1.0 ⊑ X.lives) (κs.1.1.0 ⊑ Z.lives) (λ _. heard ! (IsFilled cs i) (λ filled. fsplit ! $ fsplit3 ! $ drop ! $
    let x = filled.0 in let inside = within cs i x filled.1 in
    -- [what is seen of the block; its borrow; the token of the borrow; the other tokens]
    keep ! (0 ∷ 1 ∷ 3 ∷ 4 ∷ []) $
    regoal ! (λ (us : List Val). prop (WpFn 𝓤 H 𝓣.C 𝓣.Λ fn us Post)) (λ k. mut_Tells (named 0) κs.0 (Blk P) self vss.0 are.0 k ++ (are.1.0.0 k ++ [])) refl $
    enter ! 𝓣.C 𝓣.Λ fn (vptr rb ro ∷ vint w64 i ∷ []) Post $ alloc_all ! (λ l. pass_all ! refl ((tt, tt), ((tt, record { fits = are.1.0.1 }), tt)) $
    opens_at P h i ! tt rb ro inside (λ b n begins few.
    let at : ℕ = i * width P + n in let small = step_down i (length cs) (width P) inside few in
    rewrite ! 0 (λ (c : Option X.Denot). ‵ (Chosen P h i b n c)) filled.1 refl $
    -- [the value in memory; the other slots and the rest; the block's cell; three entries of the open borrow; the other tokens]
    first ! $ blocks ! $ sets ! (of_opd ! (load ! (through ! refl (fld ! refl (stop !))) (look_in ! 2 (sub ! 0 refl (all_of !))))) refl (tt, tt) $
    sets ! (bin ! (get ! refl) (size_lit ! (record { fits = small.0 })) (record { fits = small.1 })) refl (tt, record { fits = small.1 }) $ sets ! (bin ! (get ! refl) (get ! refl) tt) refl (tt, tt) $
    sets_last ! (addr ! (through ! refl (stop !))) refl (tt, tt) $ exec ! 𝓣.C 𝓣.Λ (env fn.locals l) (after 1 fn.body) (at_ret _ Post) $ sets ! (of_opd ! (get ! refl)) refl (tt, tt) $
    let Left : SProp 𝓤 = sem 𝓛 (Elsewhere P h i rb ro b n) in let home = comes_home P h i rb ro b n 𝓛 begins inside few in let old = (Blk P).coded.code h in
    move ! (2 ∷ 1 ∷ []) $ fjoin ! $ move ! (2 ∷ 3 ∷ 4 ∷ 1 ∷ 0 ∷ []) $ group ! 5 $
    use1 𝓛 (later (some (λ (δ : GName). raw (Part 𝓛 (Blk P) (Thing P) (with_value h i) (named 0) κs.0 qs.0 rb ro b at γ Left home x δ))))
    (lends_Part 𝓛 (Blk P) (Thing P) (with_value h i) (named 0) κs.0 qs.0 rb ro b at γ Left home old old x) $ await ! tt $ pick ! (λ δ.
    let loan : MutBor X.Denot = record { ref_ptr = (b, at); ghost_name = δ; now = x } in let Found : Type 0 = get_or cs i None ≡ Some x in
    returns ! (look_at ! 0 refl) $ free_all ! refl $
    use1 𝓛 (‵ ((MutRef (named 0) κs.0 (Thing P)).own_val loan (vptr b at ∷ [])) ⊛ ‵ (flft κs.0 qs.0) ⊛ ‵ (follows (Blk P) (Thing P) γ δ (with_value h i))) (id⊢ 𝓤 _) $ split3 ! $
    move ! (1 ∷ 3 ∷ []) $ join ! $ use0 𝓛 (raw (fact 𝓤 Found)) (fact_i 𝓤 Found (emp 𝓤) filled.1) $ move ! (3 ∷ 0 ∷ []) $ join ! $ spends ! 2 $
    keep ! (2 ∷ 0 ∷ 3 ∷ 1 ∷ []) $ by ! (leaves 𝓛 mine kept said z (vptr b at) loan (tt, (tt, tt)) (tt, (tt, tt)))))))))
