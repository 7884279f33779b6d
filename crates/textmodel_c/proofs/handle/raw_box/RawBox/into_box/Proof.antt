-- `into_box` hands both parts to `Box::from_raw`, and what they own with them.
use Rattle.textmodel_c.proofs.Boxed.{◌≡◌, List, [], ◌∷◌, ◌++◌, refl, sym, ap, subst, T, a_type, dcons, dnil, inst_fn, Val, vptr, has_ty, WT, SProp, ent, id⊢, ftrue, fsep, flft, WpFn, Item, ‵, raw, ◌⊛◌, some, later, at_ret, ◌$◌, ◌∵◌, !, qed, by, move, keep, drop, split, split3, join, fsplit, fjoin, pick, suffices, use1, await, rewrite, feq_i, stop, fld, of_opd, no_more, and_then, first, blocks, exec, returns, enter, alloc_all, pass_all, free_all, look_at, get, get_in, sets, lands_last, env, sub, whole, fact, ◌⊑◌, tables, no, plain, block_ptr, nothing, only, layout, bounded, Lasts, lasts, triple_of, calls_at_last, Stays, stay_dropped, walk_of, Goes-blank, fm, Bx, D, B, word, box_typed, box_out, box_in, proved_at, leaves, form, Raw, box_of}
use Rattle.core.proofs.alloc.Shapes.{after}
use Rattle.std_alloc.specs.contracts.boxed.Box.from_raw as from_raw
use Rattle.std_alloc.proofs.boxed.Box.from_raw.Met.{met}
use Rattle.textmodel_c.specs.contracts.handle.raw_box.RawBox.into_box as f
use Rattle.textmodel_c.proofs.handle.raw_box.RawBox.into_box.Statement.{statement}
use Rattle.textmodel_c.proofs.handle.raw_box.RawBox.into_box.Code as code

pub into_box_spec : {M : Type 1} → statement M
into_box_spec 𝓤 𝓛 𝓜 𝓡 wired X A LX LA g d dx dd allocator glue glued =
    let E : Bx = form X A LX LA g d dd in
    let 𝓣 = tables 𝓤 𝓛.H 𝓜 𝓡 𝓡.env in
    let ended = f.ended X A g d dx dd in
    let c = f.clauses X A g d dx dd 𝓛 𝓜.mem 𝓡.returns in
    let given_args = bounded (a_type ∷ a_type ∷ []) (X, (A, tt)) (dcons d (dcons dx (dcons dd dnil))) in
    let fn = inst_fn given_args code.function in
    let stayed : Stays ended.signature.params ended.kept = (stay_dropped (plain (λ _. Raw E)) no, tt) in
    proved_at 𝓛 ended stayed c 𝓜 𝓡 (Goes-blank 𝓛 2 (plain (λ _. Raw E)) no (λ κs x w. tt), tt)
    (f.Key.name given_args) fn (code.unfolded 𝓤 𝓛.H 𝓜 𝓡 wired (X, (A, tt)) d dx dd) (λ z are.
    let κs = z.0.0 in let qs = z.0.1 in let v : D E = box_of E z.0.3.0 in
    let Post : Val → SProp 𝓤 = (walk_of 𝓛 ended stayed c).post z in
    let Run : List Val → SProp 𝓤 = λ us. WpFn 𝓤 𝓛.H 𝓣.C 𝓣.Λ fn us Post in
    let tokens : Item 𝓤 = ‵ (flft κs.0 qs.0) ⊛ ‵ (flft κs.1.0 qs.1.0) ⊛ ‵ ftrue in
    let alive_x : Item 𝓤 = raw (fact 𝓤 (κs.0 ⊑ X.lives)) in
    let alive_a : Item 𝓤 = raw (fact 𝓤 (κs.1.0 ⊑ A.lives)) in
    let callee = triple_of 𝓛 (from_raw.signature X A g d dd) (from_raw.spec X A g d dd 𝓛 𝓜.mem 𝓡.returns) in
    qed 𝓛 ((tokens ⊛ ‵ (fsep ((B E).own_val v z.0.4.0) ftrue)) ∷ (alive_x ⊛ alive_a ⊛ ‵ ftrue) ∷ []) ∵
    split ! $ move ! (2 ∷ 1 ∷ []) $ split3 ! $ move ! (2 ∷ []) $ drop ! $ move ! (2 ∷ []) $ fsplit ! $
    -- [the box; true; alive_x; alive_a; the tokens]
    box_out E ! v z.0.4.0 (λ b o hv at_block laid fits.
    let w = word E hv b o in
    let asked : callee.Ghost = ((κs, qs, tt, (v.alloc, (block_ptr b o, tt)), (hv ∷ [], (vptr b o ∷ [], tt))), v.value) in
    -- [the value; the right to free it; the allocator; true; alive_x; alive_a; the tokens]
    fjoin ! $ move ! (2 ∷ []) $ feq_i ! (List Val) (vptr b o ∷ []) (vptr b o ∷ []) refl $ fjoin ! $ move ! (2 ∷ 0 ∷ []) $ fjoin ! $
    -- [what is passed; the box's memory; alive_x; alive_a; the tokens]
    move ! (4 ∷ 0 ∷ []) $ join ! $ move ! (3 ∷ 1 ∷ []) $ join ! $ move ! (2 ∷ 0 ∷ []) $ join ! $ move ! (1 ∷ 0 ∷ []) $ join ! $
    use1 𝓛 (raw (callee.pre asked)) (id⊢ 𝓤 _) $
    suffices ! (Run (w ∷ [])) (subst (λ (us : List Val). ent 𝓤 (Run (w ∷ [])) (Run us)) (sym (λ i. laid i ++ [])) (id⊢ 𝓤 (Run (w ∷ [])))) $
    enter ! 𝓣.C 𝓣.Λ fn (w ∷ []) Post $ alloc_all ! (λ l. pass_all ! refl (box_typed E hv b o fits, tt) $
    sets ! (of_opd ! (get_in ! (fld ! refl (stop !)) (sub ! 0 refl (whole !)))) refl (tt, tt) $
    sets ! (of_opd ! (get_in ! (fld ! refl (stop !)) (sub ! 1 refl (whole !)))) refl fits $
    first ! $ blocks ! $ sets ! (of_opd ! (get ! refl)) refl fits $
    calls_at_last ! (fm 𝓛 𝓜 𝓡) callee (met 𝓤 𝓛 𝓜 𝓡 (code.calls-std_alloc::boxed::Box::from_raw 𝓡.env wired) X A LX LA g d dd allocator glued) asked
    (and_then ! (get ! refl) (and_then ! (get ! refl) (no_more !))) (λ u.
    use1 𝓛 (later (some (λ (r : D E). (tokens ⊛ ‵ ((B E).own_val r (u ∷ []))) ⊛
    some (λ (ls : Lasts (from_raw.ended X A g d dd) κs asked.0.3). ‵ (lasts (from_raw.ended X A g d dd) κs asked.0.3 ls) ⊛
    (raw (fact 𝓤 (r.value ≡ v.value)) ⊛ raw (fact 𝓤 (r.alloc ≡ v.alloc))))))) (id⊢ 𝓤 (callee.post asked u)) $
    await ! tt $ pick ! (λ r. split ! $ move ! (1 ∷ []) $ pick ! (λ ls. split3 ! $ drop ! $ move ! (2 ∷ []) $ split ! $ move ! (1 ∷ []) $
    -- [the box; the tokens; that it is the value; that it has the allocator]
    box_out E ! r (u ∷ []) (λ b' o' hv' at_block' laid' fits'. box_in E ! r b' o' r.value at_block' refl $
    rewrite ! 0 (λ (us : List Val). ‵ ((B E).own_val r us)) (sym laid') refl $
    let typed : T (has_ty (layout (B E)) u) × WT u =
    subst (λ (s : Val). T (has_ty (layout (B E)) s) × WT s) (sym (ap only laid')) (box_typed E hv' b' o' fits') in
    lands_last ! refl typed $ exec ! 𝓣.C 𝓣.Λ (env fn.locals l) (after 3 fn.body) (at_ret (env fn.locals l) Post) $
    sets ! (of_opd ! (get ! refl)) refl typed $ nothing ! $ nothing ! $ fjoin ! $
    returns ! (look_at ! 0 refl) $ free_all ! refl $ keep ! (2 ∷ 0 ∷ 1 ∷ 3 ∷ []) $
    by ! (leaves 𝓛 ended stayed c z u r ((tt, (tt, tt)), tt) (tt, tt)))))))))
