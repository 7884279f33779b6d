-- The tags of the elements, as they are read, put on and taken off.
use Rattle.std.proofs.Common.{◌≡◌, ℕ, ◌+◌, ◌-◌, ◌<◌, ◌≤◌, ◌||◌, Bool, true, false, List, [], ◌∷◌, ◌++◌, take, drop, set, length, map, get_or, Option, Some, None, refl, sym, ◌∙◌, ap, subst, arith, inl, inr}
use Rattle.std.specs.Prelude.{reverse, is_some, option_and_then, option_map}
use Rattle.std.specs.List.{list_any, slice_get}
use Rattle.std.proofs.Math.Seq.{take-set-lt}
use Rattle.std.proofs.lemmas.List.{append-nil, map-append, reverse-append, reverse-reverse, length-take, length-map, length-append, length-set, take-append-drop, take-set, take_more, take_more_set, take-map, drop_more, drop_all, drop-map, drop-set-lt, map_more, map_push, get_or-map, get_or-take, get_or-set_same, get_or_append_left}
use Rattle.std.proofs.lemmas.List.Folds.{list_any-append, list_any_at}
use Rattle.std.proofs.lemmas.Option.{none-some, slice_get-get_or, slice_get_cases, slice_get_within}
use Rattle.edit_stack.specs.declared.element.Element.{Element}
use Rattle.edit_stack.specs.Element.{step_of}
use Rattle.edit_stack.specs.Lists.{opened}
use Rattle.edit_stack.proofs.Cursors.{item_read, before, behind, length_before}
use Rattle.undo_rules.specs.declared.Tag.{Tag}
use Rattle.undo_rules.specs.Stack.{Step, Stack}
use Rattle.undo_rules.specs.Tags.{has_tag, without_tag, tagged, untagged, all_steps, holds, tag_at}
use Rattle.undo_rules.proofs.LastTags.{map_reverse}

or_false : (b : Bool) → (b || false) ≡ b
or_false true = refl
or_false false = refl

module _ {C : Type 0} where
  -- the closed elements in the order in which they were made
  made_closed : (es : List (Element C)) (n : ℕ) → reverse (before es n) ++ behind es n ≡ map step_of es
  made_closed es n =
      ap (λ l. reverse l ++ behind es n) (map_reverse (step_of {C = C}) (take n es))
      ∙ ap (λ l. l ++ behind es n) (reverse-reverse (map step_of (take n es)))
      ∙ sym (map-append (step_of {C = C}) (take n es) (drop n es)) ∙ ap (map step_of) (take-append-drop n es)

  -- the open element was made last
  pub in_order : (o : Option (Element C)) (es : List (Element C)) (done kept : ℕ) → (is_some o ≡ true → kept ≡ done)
      → reverse (opened o ++ before (take kept es) done) ++ behind (take kept es) done ≡ map step_of (take kept es) ++ opened o
  in_order None es done kept apart = made_closed (take kept es) done ∙ sym (append-nil (map step_of (take kept es)))
  in_order (Some e) es done kept apart =
      let done_first = before (take kept es) done in let last = step_of e ∷ [] in
      let none : behind (take kept es) done ≡ [] = ap (map (step_of {C = C})) (drop_all done (take kept es) (omega (arith, apart refl, length-take kept es))) in
      let closed : reverse done_first ≡ map step_of (take kept es) =
      sym (append-nil (reverse done_first)) ∙ ap (λ l. reverse done_first ++ l) (sym none) ∙ made_closed (take kept es) done in
      ap (λ l. l ++ behind (take kept es) done) (reverse-append last done_first) ∙ ap (λ l. (reverse done_first ++ last) ++ l) none
      ∙ append-nil (reverse done_first ++ last) ∙ ap (λ l. l ++ last) closed

  length_kept : (es : List (Element C)) (kept : ℕ) → kept ≤ length es → length (map step_of (take kept es)) ≡ kept
  length_kept es kept within = omega (arith, within, length-map (take kept es) (step_of {C = C}), length-take kept es)

  step_kept : (es : List (Element C)) (kept at : ℕ) (e : Element C) → kept ≤ length es → at < kept → slice_get es at ≡ Some e
      → get_or (map step_of (take kept es)) at (step_of e) ≡ step_of e
  step_kept es kept at e within inside read =
      get_or-map (step_of {C = C}) (take kept es) at e (step_of e) (omega (arith, within, inside, length-take kept es))
      ∙ ap step_of (get_or-take kept es at e inside ∙ sym (item_read es at e read))

  pub not_found : (p : Step C → Bool) (es : List (Element C)) (at : ℕ) (e : Element C) → slice_get es at ≡ Some e → p (step_of e) ≡ false
      → list_any p (map step_of (take at es)) ≡ false → list_any p (map step_of (take (at + 1) es)) ≡ false
  not_found p es at e read fails none =
      ap (list_any p) (map_more (step_of {C = C}) es at e (slice_get_within es at e read) ∙ ap (λ x. map step_of (take at es) ++ step_of x ∷ []) (sym (item_read es at e read)))
      ∙ list_any-append p (map step_of (take at es)) (step_of e ∷ []) ∙ ap (λ b. b || list_any p (step_of e ∷ [])) none ∙ ap (λ b. b || false) fails

  pub has_found : (p : Step C → Bool) (es : List (Element C)) (kept at : ℕ) (e : Element C) → kept ≤ length es → at < kept
      → slice_get es at ≡ Some e → p (step_of e) ≡ true → true ≡ list_any p (map step_of (take kept es))
  has_found p es kept at e within inside read passes =
      sym (list_any_at p (map step_of (take kept es)) at (step_of e) (omega (arith, inside, length_kept es kept within))
      (ap p (step_kept es kept at e within inside read) ∙ passes))

  -- The steps of a stack in the order in which they were made.
  module _ (s : Stack C) (o : Option (Element C)) (es : List (Element C)) (kept : ℕ) (within : kept ≤ length es)
      (steps : all_steps s ≡ map step_of (take kept es) ++ opened o) where
    pub holds_closed : (tag : Tag) → list_any (has_tag tag) (opened o) ≡ false → list_any (has_tag tag) (map step_of (take kept es)) ≡ holds s tag
    holds_closed tag none =
        sym (ap (list_any (has_tag tag)) steps ∙ list_any-append (has_tag tag) (map step_of (take kept es)) (opened o)
        ∙ ap (λ b. list_any (has_tag tag) (map step_of (take kept es)) || b) none ∙ or_false (list_any (has_tag tag) (map step_of (take kept es))))

    pub all_count : length (all_steps s) ≡ kept + length (opened o)
    all_count = ap length steps ∙ length-append (map step_of (take kept es)) (opened o) ∙ ap (λ n. n + length (opened o)) (length_kept es kept within)

    pub tag_closed : (k : ℕ) (e : Element C) → k < kept → slice_get es k ≡ Some e → e.tag ≡ tag_at s k
    tag_closed k e inside read =
        let at_place : get_or (all_steps s) k (step_of e) ≡ step_of e =
        ap (λ l. get_or l k (step_of e)) steps ∙ get_or_append_left (map step_of (take kept es)) (opened o) (step_of e) k (omega (arith, inside, length_kept es kept within))
        ∙ step_kept es kept k e within inside read in
        sym (ap (option_and_then (λ (step : Step C). step.tag)) (slice_get-get_or (all_steps s) k (step_of e) (omega (arith, inside, all_count)) ∙ ap Some at_place))

  last_before : (es : List (Element C)) (n : ℕ) (e : Element C) → n < length es → e ≡ get_or es n e → before es (n + 1) ≡ step_of e ∷ before es n
  last_before es n e within read =
      ap (λ l. map step_of (reverse l)) (take_more es n e within ∙ ap (λ x. take n es ++ x ∷ []) (sym read)) ∙ ap (map step_of) (reverse-append (take n es) (e ∷ []))

  was_last : (es : List (Element C)) (kept n : ℕ) (e : Element C) → n < kept → slice_get es n ≡ Some e → before (take kept es) (n + 1) ≡ step_of e ∷ before (take kept es) n
  was_last es kept n e inside read =
      last_before (take kept es) n e (omega (arith, inside, slice_get_within es n e read, length-take kept es)) (item_read es n e read ∙ sym (get_or-take kept es n e inside))

  pub next_undone : (es : List (Element C)) (done kept : ℕ) → 0 < done → done ≤ kept → kept ≤ length es
      → slice_get (before (take kept es) done) 0 ≡ option_map step_of (slice_get es (done - 1))
  next_undone es done kept some le within = elim (slice_get_cases es (done - 1)).1 [
    | inl (e, lt, read, same) ↦ let back : (done - 1) + 1 ≡ done = omega (arith, some) in
        subst (λ m. slice_get (before (take kept es) m) 0 ≡ option_map step_of (slice_get es (done - 1))) back
        (ap (λ l. slice_get l 0) (was_last es kept (done - 1) e (omega (arith, some, le)) read) ∙ sym (ap (option_map step_of) read))
    | inr (past, none) ↦ absurd (omega (arith, past, some, le, within))
  ]

  pub next_redone : (es : List (Element C)) (done kept : ℕ) → done < kept → kept ≤ length es
      → slice_get (behind (take kept es) done) 0 ≡ option_map step_of (slice_get es done)
  next_redone es done kept lt within = elim (slice_get_cases es done).1 [
    | inl (e, there, read, same) ↦
        ap (λ l. slice_get (map (step_of {C = C}) l) 0) (drop_more (take kept es) done e (omega (arith, lt, there, length-take kept es)))
        ∙ ap (λ x. Some (step_of x)) (get_or-take kept es done e lt ∙ same) ∙ sym (ap (option_map step_of) read)
    | inr (past, none) ↦ absurd (omega (arith, past, lt, within))
  ]

  pub tag_put : (o : Option (Element C)) (es : List (Element C)) (done kept : ℕ) (e : Element C) (tag : Tag) → o ≡ None → done ≤ kept → kept ≤ length es
      → 0 < length (before (take kept es) done) → slice_get es (done - 1) ≡ Some e → let after = take kept (set es (done - 1) (record e { tag = Some tag })) in
      record { undo = opened o ++ before after done; redo = behind after done; is_open = is_some o }
      ≡ tagged (record { undo = opened o ++ before (take kept es) done; redo = behind (take kept es) done; is_open = is_some o }) tag
  tag_put (Some last) es done kept e tag closed le within some read = absurd (none-some last (sym closed))
  tag_put None es done kept e tag closed le within some read =
      let n = done - 1 in let now = take kept es in let own = record e { tag = Some tag } in
      let back : n + 1 ≡ done = omega (arith, some, length_before es done kept) in
      let inside : n < kept = omega (arith, some, le, length_before es done kept) in
      let there : n < length now = omega (arith, inside, within, length-take kept es) in
      let is : take kept (set es n own) ≡ set now n own = take-set-lt kept es n own inside in
      let undo : before (take kept (set es n own)) (n + 1) ≡ step_of own ∷ before now n =
      ap (λ l. before l (n + 1)) is ∙ last_before (set now n own) n own (omega (arith, there, length-set now n own)) (sym (get_or-set_same now n own own there))
      ∙ ap (λ l. step_of own ∷ map step_of (reverse l)) (take-set now n own) in
      let redo : behind (take kept (set es n own)) (n + 1) ≡ behind now (n + 1) =
      ap (λ l. behind l (n + 1)) is ∙ ap (map step_of) (drop-set-lt (n + 1) now n own (omega arith)) in
      let was = was_last es kept n e inside read in
      subst (λ m. record { undo = before (take kept (set es n own)) m; redo = behind (take kept (set es n own)) m; is_open = false }
      ≡ tagged (record { undo = before now m; redo = behind now m; is_open = false }) tag) back
      ((λ i. record { undo = undo i; redo = redo i; is_open = false })
      ∙ sym (ap (λ l. tagged (record { undo = l; redo = behind now (n + 1); is_open = false }) tag) was))

  -- one element more is mapped
  pub one_mapped : (f : Step C → Step C) (es old : List (Element C)) (at : ℕ) (e new : Element C) → at < length es → length es ≡ length old
      → map step_of (take at es) ≡ map f (map step_of (take at old)) → drop at es ≡ drop at old → slice_get es at ≡ Some e → step_of new ≡ f (step_of e)
      → map step_of (take (at + 1) (set es at new)) ≡ map f (map step_of (take (at + 1) old))
  one_mapped f es old at e new within long so_far rest read step =
      let there : at < length old = omega (arith, within, long) in
      let same : e ≡ get_or old at e =
      item_read es at e read ∙ sym (ap (λ l. get_or l 0 e) (drop_more es at e within)) ∙ ap (λ l. get_or l 0 e) rest ∙ ap (λ l. get_or l 0 e) (drop_more old at e there) in
      ap (map step_of) (take_more_set es at new within) ∙ map_push (step_of {C = C}) (take at es) new ∙ (λ i. so_far i ++ step i ∷ [])
      ∙ ap (λ x. map f (map step_of (take at old)) ++ f (step_of x) ∷ []) same
      ∙ sym (map_push f (map step_of (take at old)) (step_of (get_or old at e))) ∙ sym (ap (map f) (map_more (step_of {C = C}) old at e there))

  module _ (f : Step C → Step C) (es old : List (Element C)) (n : ℕ) (same : map step_of es ≡ map f (map step_of old)) where
    mapped_before : before es n ≡ map f (before old n)
    mapped_before =
        let front = sym (take-map (step_of {C = C}) n es) ∙ ap (take n) same ∙ take-map f n (map step_of old) ∙ ap (map f) (take-map (step_of {C = C}) n old) in
        map_reverse (step_of {C = C}) (take n es) ∙ ap reverse front ∙ sym (map_reverse f (map step_of (take n old))) ∙ sym (ap (map f) (map_reverse (step_of {C = C}) (take n old)))

    mapped_behind : behind es n ≡ map f (behind old n)
    mapped_behind = sym (drop-map (step_of {C = C}) n es) ∙ ap (drop n) same ∙ drop-map f n (map step_of old) ∙ ap (map f) (drop-map (step_of {C = C}) n old)

  pub tag_off : (tag : Tag) (new o : Option (Element C)) (es old : List (Element C)) (n : ℕ) → opened new ≡ map (without_tag tag) (opened o) → is_some new ≡ is_some o
      → map step_of es ≡ map (without_tag tag) (map step_of old)
      → record { undo = opened new ++ before es n; redo = behind es n; is_open = is_some new }
      ≡ untagged (record { undo = opened o ++ before old n; redo = behind old n; is_open = is_some o }) tag
  tag_off tag new o es old n last is_open same =
      let front = mapped_before (without_tag tag) es old n same in
      let undo : opened new ++ before es n ≡ map (without_tag tag) (opened o ++ before old n) =
      (λ i. last i ++ front i) ∙ sym (map-append (without_tag tag) (opened o) (before old n)) in
      let redo = mapped_behind (without_tag tag) es old n same in
      λ i. record { undo = undo i; redo = redo i; is_open = is_open i }
