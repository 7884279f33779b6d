-- `free` joins the row of slots into one block again and returns it to the allocator. Assumes `Logic`.
use Rattle.paged_list.proofs.Steps.{◌≡◌, ℕ, ◌*◌, ◌<◌, ◌^◌, List, [], ◌∷◌, ◌++◌, length, refl, ap, subst, ◌∙◌, arith, w64, ftrue, flft, froom, SProp, id⊢, ◌⊑◌, ⊑_trans, fact, tables, RefOf, usize, no, yes, layout, owns, Ptr, block_ptr, Slot, plain, types_at, heard, nothing, calls_at_last, framed, Goes-dropped, Stays, stay_dropped, walk_of, inst_fn, Fn, place, Val, vint, vptr, vunit, capped_fits, align, capped, WpFn, after_block, alloc_all, env, free_all, get, get_in, lands_last, look_at, pass_all, sets, any_q, at_ret, await, by, drop, feq_i, fsplit, given, join, keep, later, learn, move, post, prop, qed, raw, regoal, rewrite, settles, split, use1, use3, ‵, ◌⊛◌, ◌$◌, ◌∵◌, !, sub, all_of, align_word, and_then, bin, blocks, enter, exec, first, fld, no_more, of_opd, returns, size_lit, stop, unit_lit, Al, Gives, Gives-Gives, Gives-goes, Goes-blank, at_gives, seen, after, leaves, proved_at}
use Rattle.paged_list.proofs.Behind.{Ending, Given, Blk, Lender, Right, args, begun, goes_on, held, opened, spends, width}
use Rattle.paged_list.proofs.Carving.{Cut, aligned, bytes, smoothed}
use Rattle.paged_list.proofs.Rows.{step_down}
use Rattle.paged_list.specs.contracts.block.Block.free.{ended, clauses}
use Rattle.paged_list.specs.contracts.block.Block.free.Key.{name as #self}
use Rattle.paged_list.proofs.block.Block.free.Statement.{statement}
use Rattle.paged_list.proofs.block.Block.free.Code as code

pub free_spec : {M : Type 1} → statement M
free_spec 𝓤 𝓛 𝓜 𝓡 wired X Z L LZ g d dd met md =
    let H = 𝓛.H in let 𝓣 = tables 𝓤 H 𝓜 𝓡 𝓡.env in
    let P : Given = record { item = X; heap = Z; item_laws = L; heap_laws = LZ; ghosts = g; dict = d; drops = dd } in let mine = ended X Z g d dd in let said = clauses X Z g d dd 𝓛 𝓜.mem 𝓡.returns in let fn : Fn = inst_fn (args P) code.function in
    let source : Al = record { row = Z; laws = LZ; g = g; d = d; drops = dd } in let Ref : Slot 3 = RefOf (0 ∷ []) tt (plain (λ _. Lender P)) (λ _. tt) in
    let kept : Stays mine.signature.params mine.kept = (stay_dropped (plain (λ _. Blk P)) no, (stay_dropped Ref yes, (stay_dropped (plain (λ _. usize)) yes, tt))) in
    proved_at 𝓛 mine kept said 𝓜 𝓡
    (Goes-blank 𝓛 3 (plain (λ _. Blk P)) no (λ κs x w. tt), (Goes-dropped 𝓛 3 Ref yes (λ κs x w. refl), (Goes-dropped 𝓛 3 (plain (λ _. usize)) yes (λ κs x w. refl), tt)))
    (#self (args P)) fn (code.unfolded 𝓤 H 𝓜 𝓡 wired (X, (Z, tt)) d dd) (λ z are.
    let κs = z.0.0 in let qs = z.0.1 in let vss = z.0.4 in let Post : Val → SProp 𝓤 = (walk_of 𝓛 mine kept said).post z in
    let h = z.0.3.0 in let cs = h.holds in let alloc = z.0.3.1.0 in let a = alloc.now in let m = z.0.3.1.1.0 in let Whole : Type 0 = (h.from ≡ a) × (length cs ≡ m) in
    qed 𝓛 (((‵ (flft κs.0 qs.0) ⊛ (‵ (flft κs.1.0 qs.1.0) ⊛ ‵ (flft κs.1.1.0 qs.1.1.0) ⊛ ‵ ftrue)) ⊛ ‵ (owns (types_at mine.signature.params κs) z.0.3 vss)) ∷ (raw (fact 𝓤 (κs.1.0 ⊑ X.lives)) ⊛ raw (fact 𝓤 (κs.1.1.0 ⊑ Z.lives)) ⊛ (raw (fact 𝓤 (0 < m)) ⊛ raw (fact 𝓤 Whole))) ∷ []) ∵
    begun ! (κs.1.0 ⊑ X.lives) (κs.1.1.0 ⊑ Z.lives) (λ long. split ! $ heard ! (0 < m) (λ any. heard ! Whole (λ is_whole. fsplit ! $ opened P h ! vss.0 (λ b n value begins few.
    use1 𝓛 (‵ (froom (Cut P (length cs)) b n)) (smoothed P 𝓛 b cs n) $ rewrite ! 0 (λ (k : ℕ). ‵ (froom (Cut P k) b n)) is_whole.1 refl $
    move ! (1 ∷ []) $ fsplit ! $ drop ! $ rewrite ! 0 (λ (p : Ptr). ‵ (Right P h.from (length cs) p)) begins refl $
    rewrite ! 0 (λ (k : ℕ). ‵ (Right P h.from k (block_ptr b n))) is_whole.1 refl $ rewrite ! 0 (λ (y : Z.Denot). ‵ (Right P y m (block_ptr b n))) is_whole.0 refl $
    move ! (2 ∷ []) $ fsplit ! $ fsplit ! $ drop ! $ use1 𝓛 (‵ (seen source κs.0 alloc.ref_ptr a)) (id⊢ 𝓤 _) $ move ! (0 ∷ 4 ∷ []) $ join ! $
    -- [the room; the right to free it; what is shown of the allocator, with the token of the borrow; the other tokens]
    keep ! (3 ∷ 2 ∷ 0 ∷ 4 ∷ []) $
    let short : m * width P < 2 ^ 63 = subst (λ (k : ℕ). k * width P < 2 ^ 63) is_whole.1 few in let small = step_down 0 m (width P) any short in
    let all : m * width P < 2 ^ 64 = omega (arith, short) in let even : ℕ = capped (align (layout X)) in
    regoal ! (λ (us : List Val). prop (WpFn 𝓤 H 𝓣.C 𝓣.Λ fn us Post)) (λ k. (value ∙ ap (λ (p : Ptr). held p ∷ []) begins) k ++ (are.1.0.0 k ++ (are.1.1.0.0 k ++ []))) refl $
    enter ! 𝓣.C 𝓣.Λ fn (held (block_ptr b n) ∷ vptr alloc.ref_ptr.0 alloc.ref_ptr.1 ∷ vint w64 m ∷ []) Post $
    alloc_all ! (λ l. pass_all ! refl ((tt, (tt, (tt, tt))), ((tt, tt), ((tt, record { fits = are.1.1.0.1 }), tt))) $
    sets ! (of_opd ! (get_in ! (fld ! refl (stop !)) (sub ! 0 refl (all_of !)))) refl (tt, tt) $ first ! $ blocks ! $ sets ! (of_opd ! (get ! refl)) refl (tt, tt) $
    sets ! (bin ! (get ! refl) (size_lit ! (record { fits = small.0 })) (record { fits = all })) refl (tt, record { fits = all }) $
    let Asks = Gives source 𝓛 𝓜.mem 𝓡.returns in let y = at_gives source 𝓛 𝓜.mem 𝓡.returns κs.0 qs.0 alloc.ref_ptr a b n (m * width P) even (Cut P m) in
    use3 𝓛 (raw (Asks.pre y))
    (Gives-goes source 𝓛 𝓜.mem 𝓡.returns κs.0 qs.0 alloc.ref_ptr a (⊑_trans κs.0 κs.1.1.0 Z.lives z.0.2.0 long) b n (m * width P) even (Cut P m) (bytes P m all) (aligned P m) all (capped_fits (align (layout X)))) $
    calls_at_last ! (framed 𝓤 H 𝓜 𝓣) Asks (met.deallocate dd) y (and_then ! (get ! refl) (and_then ! (get ! refl) (and_then ! (get ! refl) (and_then ! (align_word !) (no_more !))))) (λ v.
    use1 𝓛 (later (given (v ≡ vunit) (‵ (flft κs.0 qs.0)))) (Gives-Gives source 𝓛 𝓜.mem 𝓡.returns κs.0 qs.0 alloc.ref_ptr a b n (m * width P) even (Cut P m) v) $ await ! tt $ learn ! (λ answer.
    let Then : Ending 𝓤 H = goes_on 𝓛 𝓣.C 𝓣.Λ (env fn.locals l) (after 2 fn.body) (at_ret (env fn.locals l) Post) in
    regoal ! (λ (u : Val). settles (env fn.locals l) (place 5 []) u (any_q (after_block 𝓤 H (post 𝓤 H Then)))) answer refl $ lands_last ! refl (tt, tt) $
    exec ! 𝓣.C 𝓣.Λ (env fn.locals l) (after 2 fn.body) (at_ret _ Post) $ sets ! (of_opd ! (unit_lit !)) refl (tt, tt) $
    returns ! (look_at ! 0 refl) $ free_all ! refl $ join ! $ nothing ! $ feq_i ! (List Val) (vunit ∷ []) (vunit ∷ []) refl $ spends ! 3 $
    keep ! (3 ∷ 0 ∷ 1 ∷ 2 ∷ []) $ by ! (leaves 𝓛 mine kept said z vunit tt (tt, (tt, (tt, tt))) (tt, (tt, (tt, tt))))))))))))
