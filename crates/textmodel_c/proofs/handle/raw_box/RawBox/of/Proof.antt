-- `of` takes both parts from `Box::into_raw_with_allocator`, and what they own with them.
use Rattle.textmodel_c.proofs.Boxed.{◌≡◌, List, [], ◌∷◌, ◌++◌, refl, sym, ap, ◌∙◌, subst, a_type, dcons, dnil, inst_fn, bare, Val, vstruct, of_list, SProp, ent, emp, never, id⊢, fst∗, ftrue, fsep, flft, WpFn, sem, Item, ‵, raw, ◌⊛◌, some, later, ◌$◌, ◌∵◌, !, qed, by, move, keep, drop, split, split3, join, fsplit, fjoin, fpick, pick, suffices, use0, use1, await, rewrite, feq_l, stop, fld, of_opd, no_more, and_then, returns, enter, alloc_all, pass_all, free_all, look_at, get, get_in, sets, lands_as, agg, sub, whole, fact, fact_i, ◌⊑◌, tables, no, RattleType, plain, Ptr, RawPtr, block_ptr, null_ptr, ptr_val, in_a_block, nothing, only, heard, bounded, Tuple, triple_of, calls_at, Stays, stay_dropped, walk_of, Goes-blank, handle_tells, token, fm, box_owns, Bx, D, P, R, B, τ, word, box_typed, box_out, box_in, proved_at, leaves, form, Raw, raw_of}
use Rattle.std_alloc.specs.contracts.boxed.Box.into_raw_with_allocator as into_raw
use Rattle.std_alloc.proofs.boxed.Box.into_raw_with_allocator.Met.{met}
use Rattle.textmodel_c.specs.contracts.handle.raw_box.RawBox.of as f
use Rattle.textmodel_c.proofs.handle.raw_box.RawBox.of.Statement.{statement}
use Rattle.textmodel_c.proofs.handle.raw_box.RawBox.of.Code as code

pub of_spec : {M : Type 1} → statement M
of_spec 𝓤 𝓛 𝓜 𝓡 wired X A LX LA g d dx dd allocator glue glued =
    let E : Bx = form X A LX LA g d dd in
    let 𝓣 = tables 𝓤 𝓛.H 𝓜 𝓡 𝓡.env in
    let ended = f.ended X A g d dx dd in
    let c = f.clauses X A g d dx dd 𝓛 𝓜.mem 𝓡.returns in
    let given_args = bounded (a_type ∷ a_type ∷ []) (X, (A, tt)) (dcons d (dcons dx (dcons dd dnil))) in
    let fn = inst_fn given_args code.function in
    let stayed : Stays ended.signature.params ended.kept = (stay_dropped (plain (λ _. B E)) no, tt) in
    proved_at 𝓛 ended stayed c 𝓜 𝓡 (Goes-blank 𝓛 2 (plain (λ _. B E)) no (λ κs x w. tt), tt)
    (f.Key.name given_args) fn (code.unfolded 𝓤 𝓛.H 𝓜 𝓡 wired (X, (A, tt)) d dx dd) (λ z are.
    let κs = z.0.0 in let qs = z.0.1 in let v : D E = z.0.3.0 in
    let Post : Val → SProp 𝓤 = (walk_of 𝓛 ended stayed c).post z in
    let Run : List Val → SProp 𝓤 = λ us. WpFn 𝓤 𝓛.H 𝓣.C 𝓣.Λ fn us Post in
    let tokens : Item 𝓤 = ‵ (flft κs.0 qs.0) ⊛ ‵ (flft κs.1.0 qs.1.0) ⊛ ‵ ftrue in
    let alive : Item 𝓤 = raw (fact 𝓤 (κs.0 ⊑ X.lives)) ⊛ raw (fact 𝓤 (κs.1.0 ⊑ A.lives)) ⊛ ‵ ftrue in
    let callee = triple_of 𝓛 (into_raw.signature X A g d dd dx) (into_raw.spec X A g d dd dx 𝓛 𝓜.mem 𝓡.returns) in
    let Both : RattleType = Tuple (RawPtr ∷ P E ∷ []) in
    qed 𝓛 ((tokens ⊛ ‵ (fsep ((B E).own_val v z.0.4.0) ftrue)) ∷ alive ∷ []) ∵
    split ! $ move ! (1 ∷ []) $ fsplit ! $
    -- [the box; true; the tokens; alive]
    box_out E ! v z.0.4.0 (λ b o hv at_block laid fits. box_in E ! v b o v.value at_block refl $
    let w = word E hv b o in
    let asked : callee.Ghost = ((κs, qs, tt, (v, tt), (w ∷ [], tt)), tt) in
    fjoin ! $ move ! (1 ∷ 0 ∷ []) $ join ! $ join ! $ use1 𝓛 (raw (callee.pre asked)) (id⊢ 𝓤 _) $
    suffices ! (Run (w ∷ [])) (subst (λ (us : List Val). ent 𝓤 (Run (w ∷ [])) (Run us)) (sym (λ i. laid i ++ [])) (id⊢ 𝓤 (Run (w ∷ [])))) $
    enter ! 𝓣.C 𝓣.Λ fn (w ∷ []) Post $ alloc_all ! (λ l. pass_all ! refl (box_typed E hv b o fits, tt) $
    sets ! (of_opd ! (get ! refl)) refl (box_typed E hv b o fits) $
    calls_at ! (fm 𝓛 𝓜 𝓡) callee (met 𝓤 𝓛 𝓜 𝓡 (code.calls-std_alloc::boxed::Box::into_raw_with_allocator 𝓡.env wired) X A LX LA g d dd dx allocator glued glue) asked
    (and_then ! (get ! refl) (no_more !)) (λ u.
    use1 𝓛 (later (some (λ (r : Ptr × A.Denot). (tokens ⊛ ‵ (Both.own_val r (u ∷ []))) ⊛
    some (λ (_ : (Unit {0} × (Unit {0} × Unit {0})) × Unit {0}). ‵ (fsep (fsep ftrue (fsep ftrue ftrue)) ftrue) ⊛
    (raw (fact 𝓤 (r.1 ≡ v.alloc)) ⊛ ‵ (box_owns (token E.al v.alloc) (R E) r.0 v.value)))))) (id⊢ 𝓤 _) $
    await ! tt $ pick ! (λ r. split ! $ move ! (1 ∷ []) $ pick ! (λ _. split3 ! $ drop ! $ heard ! (r.1 ≡ v.alloc) (λ same.
    -- [the box's memory; the tokens with the pair]
    in_a_block ! r.0 (λ p. box_owns (token E.al v.alloc) (R E) p v.value) (fst∗ 𝓤 (never 𝓤) (sem 𝓛 (token E.al v.alloc (bare (τ E)) null_ptr))) (λ b' o' at_block'.
    move ! (1 ∷ []) $ split ! $ move ! (1 ∷ []) $ fpick ! (λ parts. fsplit ! $ feq_l ! (λ laid_out. fsplit ! $ feq_l ! (λ laid_ptr. fsplit ! $
    rewrite ! 0 (λ (s : A.Denot). ‵ (A.own_val s parts.1.0)) same refl $ handle_tells E.al ! v.alloc parts.1.0 (λ hv' laid_alloc fits'.
    -- [the allocator; true; the tokens; the box's memory]
    let d' : D E = record { ptr = block_ptr b' o'; alloc = v.alloc; value = v.value } in
    let w' = word E hv' b' o' in
    let typed = box_typed E hv' b' o' fits' in
    lands_as ! (ap only (laid_out ∙ (λ j. vstruct (of_list ((laid_ptr ∙ ap (λ (p : Ptr). ptr_val p ∷ []) at_block') j ++ (laid_alloc j ++ []))) ∷ []))) refl typed $
    sets ! (of_opd ! (get_in ! (fld ! refl (stop !)) (sub ! 0 refl (whole !)))) refl (tt, tt) $
    sets ! (of_opd ! (get_in ! (fld ! refl (stop !)) (sub ! 1 refl (whole !)))) refl fits' $
    sets ! (of_opd ! (get ! refl)) refl fits' $
    sets ! (agg ! (and_then ! (get ! refl) (and_then ! (get ! refl) (no_more !)))) refl typed $
    move ! (3 ∷ []) $ fsplit ! $ box_in E ! d' b' o' v.value refl refl $ use1 𝓛 (‵ ((Raw E).own_val (raw_of E d') (w' ∷ []))) (id⊢ 𝓤 _) $
    -- [the parts; the allocator's rest; the tokens]
    use0 𝓛 (raw (fact 𝓤 (v.value ≡ v.value))) (fact_i 𝓤 (v.value ≡ v.value) (emp 𝓤) refl) $ nothing ! $ nothing ! $ fjoin ! $
    returns ! (look_at ! 0 refl) $ free_all ! refl $ keep ! (4 ∷ 0 ∷ 2 ∷ 1 ∷ []) $
    by ! (leaves 𝓛 ended stayed c z w' (raw_of E d') ((tt, (tt, tt)), tt) (tt, tt))))))))))))))
