-- `new` allocates a block and cuts it into empty slots. Assumes `Logic`.
use Rattle.paged_list.proofs.Steps.{◌≡◌, ℕ, ◌*◌, ◌<◌, ◌^◌, List, [], ◌∷◌, ◌++◌, replicate, None, Ok, Err, IfOk, true, false, refl, sym, arith, lit<, w64, FitsInBlock, ftrue, flft, SProp, emp, ◌⊑◌, ⊑_trans, fact, fact_i, tables, RefOf, usize, yes, layout, RattleType, owns, Ptr, block_ptr, makes_shadow, Slot, plain, type_at, types_at, heard, shape, to, Struct, calls_at, framed, Goes-dropped, Stays, stay_dropped, walk_of, inst_fn, Fn, Val, vcons, vint, vnil, vptr, vstruct, capped_fits, align, capped, WpFn, alloc_all, env, free_all, get, get_in, get_tag, lands_as, look_at, pass_all, sets, sets_last, at_ret, await, by, drop, fjoin, fsplit, join, keep, later, move, prop, qed, raw, regoal, split, use0, use1, use2, ‵, ◌⊛◌, ◌$◌, ◌∵◌, !, in_variant, live, vrt, agg, all_of, align_word, and_then, bin, enter, exec, first, fld, lit, no_more, of_opd, returns, size_lit, stop, switches_on, Al, Answer-typed, Answered, Takes, Takes-gives, Takes-goes, answers, at_takes, after, arm_body, head, Good, length-replicate, leaves, proved_at, err_of, ok_of}
use Rattle.std.specs.contracts.alloc.AllocError as refusal
use Rattle.paged_list.proofs.Behind.{Ending, Given, Blk, Lender, Parts, Slots, Thing, args, begun, fields, goes_on, held, spends, whole, width}
use Rattle.paged_list.proofs.Carving.{Cut, aligned, bytes, carved}
use Rattle.paged_list.proofs.Rows.{step_down}
use Rattle.paged_list.specs.contracts.block.Block.new.{ended, clauses}
use Rattle.paged_list.specs.contracts.block.Block.new.Key.{name as #self}
use Rattle.paged_list.proofs.block.Block.new.Statement.{statement}
use Rattle.paged_list.proofs.block.Block.new.Code as code

pub new_spec : {M : Type 1} → statement M
new_spec 𝓤 𝓛 𝓜 𝓡 wired X Z L LZ g d dd met md =
    let H = 𝓛.H in let 𝓣 = tables 𝓤 H 𝓜 𝓡 𝓡.env in
    let P : Given = record { item = X; heap = Z; item_laws = L; heap_laws = LZ; ghosts = g; dict = d; drops = dd } in let mine = ended X Z g d dd in let said = clauses X Z g d dd 𝓛 𝓜.mem 𝓡.returns in let fn : Fn = inst_fn (args P) code.function in
    let source : Al = record { row = Z; laws = LZ; g = g; d = d; drops = dd } in let Ref : Slot 3 = RefOf (0 ∷ []) tt (plain (λ _. Lender P)) (λ _. tt) in
    let kept : Stays mine.signature.params mine.kept = (stay_dropped Ref yes, (stay_dropped (plain (λ _. usize)) yes, tt)) in
    proved_at 𝓛 mine kept said 𝓜 𝓡 (Goes-dropped 𝓛 3 Ref yes (λ κs x w. refl), (Goes-dropped 𝓛 3 (plain (λ _. usize)) yes (λ κs x w. refl), tt))
    (#self (args P)) fn (code.unfolded 𝓤 H 𝓜 𝓡 wired (X, (Z, tt)) d dd) (λ z are.
    let κs = z.0.0 in let qs = z.0.1 in let vss = z.0.4 in let Post : Val → SProp 𝓤 = (walk_of 𝓛 mine kept said).post z in
    let alloc = z.0.3.0 in let m = z.0.3.1.0 in let a = alloc.now in let Fits_in : Type 0 = FitsInBlock (Thing P) m in
    qed 𝓛 (((‵ (flft κs.0 qs.0) ⊛ (‵ (flft κs.1.0 qs.1.0) ⊛ ‵ (flft κs.1.1.0 qs.1.1.0) ⊛ ‵ ftrue)) ⊛ ‵ (owns (types_at mine.signature.params κs) z.0.3 vss)) ∷ (raw (fact 𝓤 (κs.1.0 ⊑ X.lives)) ⊛ raw (fact 𝓤 (κs.1.1.0 ⊑ Z.lives)) ⊛ (raw (fact 𝓤 (0 < m)) ⊛ raw (fact 𝓤 Fits_in))) ∷ []) ∵
    begun ! (κs.1.0 ⊑ X.lives) (κs.1.1.0 ⊑ Z.lives) (λ long. split ! $ heard ! (0 < m) (λ any. heard ! Fits_in (λ fit. fsplit ! $ fsplit ! $ drop ! $
    -- [what is shown of the allocator; the token of the borrow; the other tokens]
    keep ! (0 ∷ 2 ∷ 3 ∷ []) $
    let small = step_down 0 m (width P) any fit.0 in let all : m * width P < 2 ^ 64 = let f = fit.0 in omega (arith, f) in let even : ℕ = capped (align (layout X)) in
    regoal ! (λ (us : List Val). prop (WpFn 𝓤 H 𝓣.C 𝓣.Λ fn us Post)) (λ k. are.0.0 k ++ (are.1.0.0 k ++ [])) refl $
    enter ! 𝓣.C 𝓣.Λ fn (vptr alloc.ref_ptr.0 alloc.ref_ptr.1 ∷ vint w64 m ∷ []) Post $ alloc_all ! (λ l. pass_all ! refl ((tt, tt), ((tt, record { fits = are.1.0.1 }), tt)) $
    sets ! (bin ! (get ! refl) (size_lit ! (record { fits = small.0 })) (record { fits = all })) refl (tt, record { fits = all }) $
    let Asks = Takes source 𝓛 𝓜.mem 𝓡.returns in let y = at_takes source 𝓛 𝓜.mem 𝓡.returns κs.0 qs.0 alloc.ref_ptr a (m * width P) even (Cut P m) in
    use2 𝓛 (raw (Asks.pre y))
    (Takes-goes source 𝓛 𝓜.mem 𝓡.returns κs.0 qs.0 alloc.ref_ptr a (⊑_trans κs.0 κs.1.1.0 Z.lives z.0.2.0 long) (m * width P) even (Cut P m) (bytes P m all) (aligned P m) all (capped_fits (align (layout X)))) $
    calls_at ! (framed 𝓤 H 𝓜 𝓣) Asks (met.allocate dd) y (and_then ! (get ! refl) (and_then ! (get ! refl) (and_then ! (align_word !) (no_more !)))) (λ v.
    use1 𝓛 (later (raw (Answered source 𝓛 𝓜.mem 𝓡.returns a (Cut P m) v) ⊛ ‵ (flft κs.0 qs.0))) (Takes-gives source 𝓛 𝓜.mem 𝓡.returns κs.0 qs.0 alloc.ref_ptr a (m * width P) even (Cut P m) v) $ await ! tt $ split ! $
    let Then : Ending 𝓤 H = goes_on 𝓛 𝓣.C 𝓣.Λ (env fn.locals l) (after 3 fn.body) (at_ret (env fn.locals l) Post) in
    let Res : RattleType = type_at mine.signature.result κs in let Made : Res.Denot → Type 0 = λ r. IfOk r (λ b. (b.from ≡ a) × (b.holds ≡ replicate m None)) in
    answers source ! 𝓜.mem 𝓡.returns a (Cut P m) v
    (λ b n answer. let p : Ptr = block_ptr b n in let h : (Blk P).Denot = record { start = p; lender = record {}; from = a; holds = replicate m None } in
    let fine : Good (layout Res) (live 0 (vcons (held p) vnil)) = (tt, (record { fits = lit< tt }, ((tt, (tt, tt)), tt))) in
    lands_as ! answer refl (Answer-typed true b n) $ first ! $ switches_on ! (get_tag ! (vrt ! refl (fld ! refl (stop !))) (all_of !)) $ exec ! 𝓣.C 𝓣.Λ (env fn.locals l) (arm_body 0 (head (after 2 fn.body))) Then $
    sets ! (of_opd ! (get_in ! (vrt ! refl (fld ! refl (stop !))) (in_variant ! 0 0 refl refl (all_of !)))) refl (tt, tt) $ sets ! (of_opd ! (get ! refl)) refl (tt, tt) $ sets ! (agg ! (no_more !)) refl (tt, tt) $
    sets ! (agg ! (and_then ! (get ! refl) (and_then ! (get ! refl) (no_more !)))) refl (tt, (tt, (tt, tt))) $ sets_last ! (agg ! (and_then ! (lit ! tt) (and_then ! (get ! refl) (no_more !)))) refl fine $ exec ! 𝓣.C 𝓣.Λ (env fn.locals l) (after 3 fn.body) (at_ret _ Post) $ sets ! (of_opd ! (get ! refl)) refl fine $
    -- [the room; the right to free it; the token of the borrow; the other tokens]
    use1 𝓛 (‵ (Slots P h b n)) (carved P 𝓛 b m n) $ move ! (1 ∷ []) $ use0 𝓛 (‵ ((Struct (shape (Parts P))).own_val (to (Parts P) h) (held p ∷ []))) (fields P h 𝓛) $ fjoin ! $ move ! (1 ∷ 0 ∷ []) $
    use2 𝓛 (‵ ((Blk P).own_val h (held p ∷ []))) (whole P h 𝓛 b n m refl (sym (length-replicate m None)) fit.0) $
    use1 𝓛 (‵ (Res.own_val (Ok h) (live 0 (vcons (held p) vnil) ∷ []))) (ok_of 𝓛 (Blk P) refusal.the_row h (held p)) $
    returns ! (look_at ! 0 refl) $ free_all ! refl $ move ! (1 ∷ 2 ∷ []) $ join ! $ use0 𝓛 (raw (fact 𝓤 (Made (Ok h)))) (fact_i 𝓤 (Made (Ok h)) (emp 𝓤) (refl, refl)) $ spends ! 2 $
    keep ! (2 ∷ 0 ∷ 3 ∷ 1 ∷ []) $ by ! (leaves 𝓛 mine kept said z (live 0 (vcons (held p) vnil)) (Ok h) (tt, (tt, tt)) (tt, (tt, tt))))
    (λ answer. let none : Val = vstruct vnil in let refused : Res.Denot = Err (record {}) in let fine : Good (layout Res) (live 1 (vcons none vnil)) = (tt, (record { fits = lit< tt }, (tt, tt))) in
    lands_as ! answer refl (Answer-typed false 0 0) $ first ! $ switches_on ! (get_tag ! (vrt ! refl (fld ! refl (stop !))) (all_of !)) $ exec ! 𝓣.C 𝓣.Λ (env fn.locals l) (arm_body 1 (head (after 2 fn.body))) Then $
    sets ! (of_opd ! (get_in ! (vrt ! refl (fld ! refl (stop !))) (in_variant ! 1 0 refl refl (all_of !)))) refl (tt, tt) $
    sets_last ! (agg ! (and_then ! (lit ! tt) (and_then ! (get ! refl) (no_more !)))) refl fine $ exec ! 𝓣.C 𝓣.Λ (env fn.locals l) (after 3 fn.body) (at_ret _ Post) $ sets ! (of_opd ! (get ! refl)) refl fine $
    returns ! (look_at ! 0 refl) $ free_all ! refl $ join ! $
    use0 𝓛 (‵ ((refusal.the_row).own_val (record {}) (none ∷ []))) (makes_shadow 𝓛 ((refusal.the_row).own_val (record {}) (none ∷ [])) (λ _. (tt, tt)) (tt, (refl, tt))) $
    use1 𝓛 (‵ (Res.own_val refused (live 1 (vcons none vnil) ∷ []))) (err_of 𝓛 (Blk P) refusal.the_row (record {}) none) $
    use0 𝓛 (raw (fact 𝓤 (Made refused))) (fact_i 𝓤 (Made refused) (emp 𝓤) tt) $ spends ! 2 $
    keep ! (3 ∷ 0 ∷ 2 ∷ 1 ∷ []) $ by ! (leaves 𝓛 mine kept said z (live 1 (vcons none vnil)) refused (tt, (tt, tt)) (tt, (tt, tt))))))))))
