-- `get` shows the value, which a `&` to the block shows at its slot. Assumes `Logic`.
use Rattle.paged_list.proofs.Steps.{◌≡◌, ℕ, ◌+◌, ◌*◌, List, [], ◌∷◌, ◌++◌, length, get_or, Option, Some, None, refl, w64, ftrue, fhide, flft, SProp, emp, id⊢, never, ◌⊑◌, fact, fact_i, tables, RefOf, usize, yes, hidden_shr, hide, unhide, owns, Ptr, RawPtr, block_ptr, in_a_block, Slot, plain, types_at, heard, Goes-dropped, Stays, stay_dropped, walk_of, inst_fn, Fn, Val, vint, vptr, WpFn, alloc_all, env, free_all, get, look_at, pass_all, sets, sets_last, through, at_ret, by, drop, feq_i, fjoin, flt_l, fsplit, join, keep, move, prop, qed, raw, regoal, rewrite, split, use0, use1, ‵, ◌⊛◌, ◌$◌, ◌∵◌, !, addr, bin, blocks, enter, exec, first, fld, load, look, of_opd, returns, size_lit, stop, after, leaves, proved_at, pointer_in, pointer_out}
use Rattle.paged_list.specs.Slots.{IsFilled, block_seen, slot_seen}
use Rattle.paged_list.proofs.Behind.{Given, Blk, Thing, Words, args, begun, shown, spends, twice, width}
use Rattle.paged_list.proofs.Rows.{look_up, step_down, within}
use Rattle.paged_list.specs.contracts.block.Block.get.{ended, clauses}
use Rattle.paged_list.specs.contracts.block.Block.get.Key.{name as #self}
use Rattle.paged_list.proofs.block.Block.get.Statement.{statement}
use Rattle.paged_list.proofs.block.Block.get.Code as code

pub get_spec : {M : Type 1} → statement M
get_spec 𝓤 𝓛 𝓜 𝓡 wired X Z L LZ g d dd met md =
    let H = 𝓛.H in let 𝓣 = tables 𝓤 H 𝓜 𝓡 𝓡.env in
    let P : Given = record { item = X; heap = Z; item_laws = L; heap_laws = LZ; ghosts = g; dict = d; drops = dd } in let mine = ended X Z g d dd in let said = clauses X Z g d dd 𝓛 𝓜.mem 𝓡.returns in let fn : Fn = inst_fn (args P) code.function in
    let Ref : Slot 3 = RefOf (0 ∷ []) tt (plain (λ _. Blk P)) (λ _. tt) in let kept : Stays mine.signature.params mine.kept = (stay_dropped Ref yes, (stay_dropped (plain (λ _. usize)) yes, tt)) in
    proved_at 𝓛 mine kept said 𝓜 𝓡 (Goes-dropped 𝓛 3 Ref yes (λ κs x w. refl), (Goes-dropped 𝓛 3 (plain (λ _. usize)) yes (λ κs x w. refl), tt))
    (#self (args P)) fn (code.unfolded 𝓤 H 𝓜 𝓡 wired (X, (Z, tt)) d dd) (λ z are.
    let κs = z.0.0 in let qs = z.0.1 in let vss = z.0.4 in let Post : Val → SProp 𝓤 = (walk_of 𝓛 mine kept said).post z in
    let self = z.0.3.0 in let i = z.0.3.1.0 in let h = self.now in let rb = self.ref_ptr.0 in let ro = self.ref_ptr.1 in let cs = h.holds in
    qed 𝓛 (((‵ (flft κs.0 qs.0) ⊛ (‵ (flft κs.1.0 qs.1.0) ⊛ ‵ (flft κs.1.1.0 qs.1.1.0) ⊛ ‵ ftrue)) ⊛ ‵ (owns (types_at mine.signature.params κs) z.0.3 vss)) ∷ (raw (fact 𝓤 (κs.1.0 ⊑ X.lives)) ⊛ raw (fact 𝓤 (κs.1.1.0 ⊑ Z.lives)) ⊛ raw (fact 𝓤 (IsFilled cs i))) ∷ []) ∵
    begun ! (κs.1.0 ⊑ X.lives) (κs.1.1.0 ⊑ Z.lives) (λ _. heard ! (IsFilled cs i) (λ filled. fsplit ! $ fsplit ! $ drop ! $
    let x = filled.0 in let inside = within cs i x filled.1 in let Found : Type 0 = get_or cs i None ≡ Some x in
    use1 𝓛 (‵ (Words P h κs.0 rb ro) ⊛ ‵ (fhide (block_seen (Thing P) h.start cs κs.0))) (shown P h 𝓛 κs.0 rb ro) $ split ! $ unhide ! $ fsplit ! $ fsplit ! $ hide ! $ move ! (3 ∷ []) $ unhide ! $
    in_a_block ! h.start (λ p. block_seen (Thing P) p cs κs.0) (id⊢ 𝓤 (never 𝓤)) (λ b n begins. fsplit ! $ move ! (1 ∷ []) $ flt_l ! (λ few.
    let at : ℕ = i * width P + n in let small = step_down i (length cs) (width P) inside few in
    use1 𝓛 (‵ (slot_seen (Thing P) b (get_or cs i None) at κs.0)) (look_up (width P) (slot_seen (Thing P) b) κs.0 𝓛 i cs n inside) $
    rewrite ! 0 (λ (c : Option X.Denot). ‵ (slot_seen (Thing P) b c at κs.0)) filled.1 refl $ hide ! $
    move ! (1 ∷ []) $ rewrite ! 0 (λ (p : Ptr). ‵ (hidden_shr RawPtr κs.0 p rb (ro + 0))) begins refl $
    -- [the field `start`, as it is shown; the token of the borrow; the value, as it is shown; the other tokens]
    keep ! (0 ∷ 5 ∷ 1 ∷ 6 ∷ []) $
    regoal ! (λ (us : List Val). prop (WpFn 𝓤 H 𝓣.C 𝓣.Λ fn us Post)) (λ k. are.0.0 k ++ (are.1.0.0 k ++ [])) refl $
    enter ! 𝓣.C 𝓣.Λ fn (vptr rb ro ∷ vint w64 i ∷ []) Post $ alloc_all ! (λ l. pass_all ! refl ((tt, tt), ((tt, record { fits = are.1.0.1 }), tt)) $
    first ! $ blocks ! $ pointer_in ! tt (block_ptr b n) tt rb (ro + 0) (twice 𝓛 (block_ptr b n) κs.0 rb (ro + 0)) (λ q.
    sets ! (of_opd ! (load ! (through ! refl (fld ! refl (stop !))) (look ! 1 refl))) refl (tt, tt) $ pointer_out ! tt (block_ptr b n) tt rb (ro + 0) $
    sets ! (bin ! (get ! refl) (size_lit ! (record { fits = small.0 })) (record { fits = small.1 })) refl (tt, record { fits = small.1 }) $ sets ! (bin ! (get ! refl) (get ! refl) tt) refl (tt, tt) $
    sets_last ! (addr ! (through ! refl (stop !))) refl (tt, tt) $ exec ! 𝓣.C 𝓣.Λ (env fn.locals l) (after 1 fn.body) (at_ret _ Post) $ sets ! (of_opd ! (get ! refl)) refl (tt, tt) $
    returns ! (look_at ! 0 refl) $ free_all ! refl $ move ! (0 ∷ 3 ∷ []) $ join ! $ move ! (2 ∷ []) $ feq_i ! (List Val) (vptr b at ∷ []) (vptr b at ∷ []) refl $ fjoin ! $
    use0 𝓛 (raw (fact 𝓤 Found)) (fact_i 𝓤 Found (emp 𝓤) filled.1) $ spends ! 2 $
    keep ! (3 ∷ 0 ∷ 2 ∷ 1 ∷ []) $ by ! (leaves 𝓛 mine kept said z (vptr b at) (record { ref_ptr = (b, at); now = x }) (tt, (tt, tt)) (tt, (tt, tt))))))))))
