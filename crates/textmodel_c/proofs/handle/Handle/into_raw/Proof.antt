-- `into_raw` tests for null: what a document owns lies in a block, and an empty handle owns nothing.
use Rattle.textmodel_c.proofs.Boxed.{◌≡◌, List, [], ◌∷◌, ◌++◌, refl, sym, subst, lit<, bare, Val, vcons, vnil, SProp, ent, emp, never_e, guard_i, id⊢, ftrue, fsep, WpFn, ‵, raw, ◌⊛◌, given, at_ret, ◌$◌, ◌∵◌, !, qed, by, move, keep, drop, split, fsplit, fjoin, learn, suffices, use0, use1, stop, fld, lit, of_opd, bin, no_more, and_then, first, branches, skips, exec, returns, returns_within, enter, alloc_all, pass_all, free_all, look_at, get, get_in, sets, env, agg, sub, whole, live, fact, fact_i, fact_use, tables, yes, RattleType, type_at, plain, Ptr, block_ptr, null_ptr, Testable, tests_null, nothing, Stays, stay_dropped, walk_of, Goes-dropped, Some-of, none_of, token, and_tt, D, B, τ, word, box_typed, box_out, box_in, proved_at, leaves}
use Rattle.std.specs.Prelude.{Some, None}
use Rattle.std.specs.Global.{Global}
use Rattle.std.proofs.GlobalToken.{dealloc_token-Testable}
use Rattle.textmodel_c.proofs.Handles.{E, Handle, RawContents, Held, handle_at, null_word, null_out}
use Rattle.textmodel_c.specs.contracts.handle.Handle.into_raw as f
use Rattle.textmodel_c.proofs.handle.Handle.into_raw.Statement.{statement}
use Rattle.textmodel_c.proofs.handle.Handle.into_raw.Code as code
use seplogic.Ra.Ura.{Ura}
use prog.Model.{Model}
use types.Logic.{Logic}
use contract.Running.{Running}

abbrev stayed : Stays f.ended.signature.params f.ended.kept
stayed = (stay_dropped (plain (λ _. Handle)) yes, tt)

abbrev Answer : RattleType
Answer = type_at f.signature.result tt

module _ {M : Type 1} (𝓤 : Ura M) (𝓛 : Logic 𝓤) (𝓜 : Model 𝓤 𝓛.H) (𝓡 : Running 𝓤 𝓛.H 𝓜) where
  abbrev c : denote.Triple.Clauses.Clauses 𝓤 f.ended
  c = f.clauses 𝓛 𝓜.mem 𝓡.returns

  abbrev Ghost : Type 0
  Ghost = (walk_of 𝓛 f.ended stayed c).Ghost

  abbrev at_entry : Ptr → Global → Held → List Val → Ghost
  at_entry at a held vs = ((tt, tt, tt, (handle_at at a held, tt), (vs, tt)), tt)

  abbrev Run : Ghost → List Val → SProp 𝓤
  Run z us = WpFn 𝓤 𝓛.H (tables 𝓤 𝓛.H 𝓜 𝓡 𝓡.env).C (tables 𝓤 𝓛.H 𝓜 𝓡 𝓡.env).Λ code.function us ((walk_of 𝓛 f.ended stayed c).post z)

  walk : (at : Ptr) (a : Global) (held : Held) (vs : List Val) → ent 𝓤 ((walk_of 𝓛 f.ended stayed c).pre (at_entry at a held vs)) (Run (at_entry at a held vs) (vs ++ []))
  walk (block_ptr b o) a None vs =
      qed 𝓛 ((‵ ftrue ⊛ ‵ (fsep (Handle.own_val (handle_at (block_ptr b o) a None) vs) ftrue)) ∷ raw (emp 𝓤) ∷ []) ∵
      split ! $ drop ! $ fsplit ! $ fsplit ! $ move ! (1 ∷ []) $ keep ! (0 ∷ []) $ by ! (never_e 𝓤 _)
  walk null_ptr a None vs =
      let z = at_entry null_ptr a None vs in let 𝓣 = tables 𝓤 𝓛.H 𝓜 𝓡 𝓡.env in let held : Held = None in
      let Post : Val → SProp 𝓤 = (walk_of 𝓛 f.ended stayed c).post z in
      qed 𝓛 ((‵ ftrue ⊛ ‵ (fsep (Handle.own_val (handle_at null_ptr a None) vs) ftrue)) ∷ raw (emp 𝓤) ∷ []) ∵
      split ! $ drop ! $ fsplit ! $ null_out ! a vs (λ hv laid fits.
      let w = null_word hv in
      suffices ! (Run z (w ∷ [])) (subst (λ (us : List Val). ent 𝓤 (Run z (w ∷ [])) (Run z us)) (sym (λ i. laid i ++ [])) (id⊢ 𝓤 (Run z (w ∷ [])))) $
      enter ! 𝓣.C 𝓣.Λ code.function (w ∷ []) Post $ alloc_all ! (λ l. pass_all ! refl ((and_tt _ fits.0, (record { fits = lit< tt }, (fits.1, tt))), tt) $
      sets ! (of_opd ! (get_in ! (fld ! refl (stop !)) (sub ! 0 refl (whole !)))) refl (tt, record { fits = lit< tt }) $
      sets ! (of_opd ! (get_in ! (fld ! refl (stop !)) (sub ! 1 refl (whole !)))) refl fits $
      sets ! (bin ! (get ! refl) (lit ! tt) (tests_null null_ptr (lit< tt))) refl (tt, tt) $
      first ! $ branches ! (get ! refl)
      (λ _. sets ! (agg ! (and_then ! (lit ! tt) (no_more !))) refl (tt, (record { fits = lit< tt }, tt)) $
      returns_within ! Post refl (look_at ! 0 refl) $ free_all ! refl $
      use0 𝓛 (raw (fact 𝓤 (held ≡ None))) (fact_i 𝓤 (held ≡ None) (emp 𝓤) refl) $
      use0 𝓛 (‵ (Answer.own_val None (live 0 vnil ∷ []))) (none_of 𝓛 RawContents) $ nothing ! $ nothing ! $ fjoin ! $ nothing ! $
      keep ! (0 ∷ 1 ∷ 2 ∷ 3 ∷ []) $ by ! (leaves 𝓛 f.ended stayed c z (live 0 vnil) None (tt, tt) (tt, tt)))
      (λ wrong. absurd wrong)))
  walk at a (Some x) vs =
      let z = at_entry at a (Some x) vs in let 𝓣 = tables 𝓤 𝓛.H 𝓜 𝓡 𝓡.env in let held : Held = Some x in
      let Post : Val → SProp 𝓤 = (walk_of 𝓛 f.ended stayed c).post z in
      let v : D E = record { ptr = at; alloc = a; value = x } in
      let made : RawContents.Denot = record { at = at; alloc = a; value = x } in
      qed 𝓛 ((‵ ftrue ⊛ ‵ (fsep ((B E).own_val v vs) ftrue)) ∷ raw (emp 𝓤) ∷ []) ∵
      split ! $ drop ! $ fsplit ! $ box_out E ! v vs (λ b o hv at_block laid fits.
      let p = block_ptr b o in let free = token E.al a (bare (τ E)) p in
      move ! (1 ∷ []) $ use1 𝓛 (given (Testable p) (‵ free)) (fact_use 𝓤 (Testable p) (dealloc_token-Testable 𝓛 a (bare (τ E)) p) (guard_i 𝓤 (Testable p) _)) $ learn ! (λ testable.
      move ! (1 ∷ 0 ∷ []) $ box_in E ! v b o x at_block refl $
      let w = word E hv b o in let found = live 1 (vcons w vnil) in let typed = box_typed E hv b o fits in
      use1 𝓛 (‵ (RawContents.own_val made (w ∷ []))) (id⊢ 𝓤 _) $ move ! (1 ∷ 2 ∷ []) $ drop ! $ drop ! $
      suffices ! (Run z (w ∷ [])) (subst (λ (us : List Val). ent 𝓤 (Run z (w ∷ [])) (Run z us)) (sym (λ i. laid i ++ [])) (id⊢ 𝓤 (Run z (w ∷ [])))) $
      enter ! 𝓣.C 𝓣.Λ code.function (w ∷ []) Post $ alloc_all ! (λ l. pass_all ! refl (typed, tt) $
      sets ! (of_opd ! (get_in ! (fld ! refl (stop !)) (sub ! 0 refl (whole !)))) refl (tt, tt) $
      sets ! (of_opd ! (get_in ! (fld ! refl (stop !)) (sub ! 1 refl (whole !)))) refl fits $
      sets ! (bin ! (get ! refl) (lit ! tt) (tests_null p testable)) refl (tt, tt) $
      first ! $ branches ! (get ! refl) (λ wrong. absurd wrong)
      (λ _. skips ! $ exec ! 𝓣.C 𝓣.Λ (env code.Mir.locals l) code.Mir.t-5 (at_ret _ Post) $
      sets ! (of_opd ! (get ! refl)) refl (tt, tt) $
      sets ! (agg ! (and_then ! (get ! refl) (and_then ! (get ! refl) (no_more !)))) refl typed $
      sets ! (agg ! (and_then ! (lit ! tt) (and_then ! (get ! refl) (no_more !)))) refl (and_tt _ typed.0, (record { fits = lit< tt }, (typed.1, tt))) $
      returns ! (look_at ! 0 refl) $ free_all ! refl $
      use1 𝓛 (‵ (Answer.own_val (Some made) (found ∷ []))) (Some-of 𝓛 RawContents made w) $
      use0 𝓛 (raw (fact 𝓤 (held ≡ Some x))) (fact_i 𝓤 (held ≡ Some x) (emp 𝓤) refl) $ nothing ! $ nothing ! $ fjoin ! $ nothing ! $
      keep ! (0 ∷ 1 ∷ 3 ∷ 2 ∷ []) $ by ! (leaves 𝓛 f.ended stayed c z found (Some made) (tt, tt) (tt, tt))))))

pub into_raw_spec : {M : Type 1} → statement M
into_raw_spec 𝓤 𝓛 𝓜 𝓡 wired =
    proved_at 𝓛 f.ended stayed (c 𝓤 𝓛 𝓜 𝓡) 𝓜 𝓡 (Goes-dropped 𝓛 0 (plain (λ _. Handle)) yes (λ κs x w. refl), tt)
    f.Key.name code.function (code.unfolded 𝓤 𝓛.H 𝓜 𝓡 wired)
    (λ z are. walk 𝓤 𝓛 𝓜 𝓡 z.0.3.0.at z.0.3.0.alloc z.0.3.0.held z.0.4.0)
