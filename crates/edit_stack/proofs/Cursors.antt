-- An element passes from one side of the cursor to the other.
use Rattle.std.proofs.Common.{◌≡◌, ℕ, suc, ◌+◌, ◌-◌, ◌<◌, ◌≤◌, true, false, List, [], ◌∷◌, ◌++◌, take, drop, length, map, get_or, Option, Some, None, refl, sym, ◌∙◌, ap, subst, arith}
use Rattle.std.specs.Prelude.{reverse, is_some, min}
use Rattle.std.specs.List.{slice_get}
use Rattle.std.proofs.Math.Seq.{take-suc, drop-cons}
use Rattle.std.proofs.lemmas.Option.{get_or_from_slice_get}
use Rattle.std.proofs.lemmas.List.{reverse-append, length-take, length-drop, length-map, length-reverse}
use Rattle.edit_stack.specs.declared.element.Element.{Element}
use Rattle.edit_stack.specs.Element.{step_of}
use Rattle.edit_stack.specs.Lists.{opened}
use Rattle.undo_rules.specs.Stack.{Step, Stack, undone_lists, redone_lists}

-- an item that was read
pub item_read : {X : Type 0} (xs : List X) (n : ℕ) (x : X) → slice_get xs n ≡ Some x → x ≡ get_or xs n x
item_read xs n x read = sym (get_or_from_slice_get xs n x x read)

-- the item at the cursor
at_cursor : {X : Type 0} (xs : List X) (n : ℕ) → n < length xs → (x : X) × (take (n + 1) xs ≡ take n xs ++ x ∷ []) × (drop n xs ≡ x ∷ drop (n + 1) xs)
at_cursor [] n within = absurd (omega (arith, within))
at_cursor (y ∷ ys) n within =
    let next : suc n ≡ n + 1 = omega arith in let x = get_or (y ∷ ys) n y in (
      x,
      subst (λ m. take m (y ∷ ys) ≡ take n (y ∷ ys) ++ x ∷ []) next (take-suc (y ∷ ys) n y within),
      subst (λ m. drop n (y ∷ ys) ≡ x ∷ drop m (y ∷ ys)) next (drop-cons (y ∷ ys) n y within),
    )

module _ {C : Type 0} where
  abbrev pub before : List (Element C) → ℕ → List (Step C)
  before es n = map step_of (reverse (take n es))

  abbrev pub behind : List (Element C) → ℕ → List (Step C)
  behind es n = map step_of (drop n es)

  abbrev stack_at : List (Element C) → ℕ → Stack C
  stack_at es n = record { undo = before es n; redo = behind es n; is_open = false }

  one_more : (es : List (Element C)) (n : ℕ) → n < length es → (s : Step C) × (before es (n + 1) ≡ s ∷ before es n) × (behind es n ≡ s ∷ behind es (n + 1))
  one_more es n within =
      let (x, is, rest) = at_cursor es n within in
      (step_of x, ap (λ l. map step_of (reverse l)) is ∙ ap (map step_of) (reverse-append (take n es) (x ∷ [])), ap (map step_of) rest)

  moved_on : (es : List (Element C)) (n : ℕ) → n < length es → stack_at es (n + 1) ≡ redone_lists (before es n) (behind es n) false
  moved_on es n within =
      let (s, is, rest) = one_more es n within in
      (λ i. record { undo = is i; redo = behind es (n + 1); is_open = false }) ∙ sym (ap (λ l. redone_lists (before es n) l false) rest)

  moved_back : (es : List (Element C)) (n : ℕ) → n < length es → stack_at es n ≡ undone_lists (before es (n + 1)) (behind es (n + 1))
  moved_back es n within =
      let (s, is, rest) = one_more es n within in
      (λ i. record { undo = before es n; redo = rest i; is_open = false }) ∙ sym (ap (λ l. undone_lists l (behind es (n + 1))) is)

  -- nothing can be redone if all elements are done
  pub redo_moves : (o : Option (Element C)) (es : List (Element C)) (done kept : ℕ) → (is_some o ≡ true → kept ≡ done) → 0 < length (behind (take kept es) done)
      → record { undo = opened o ++ before (take kept es) (done + 1); redo = behind (take kept es) (done + 1); is_open = is_some o }
      ≡ redone_lists (opened o ++ before (take kept es) done) (behind (take kept es) done) (is_some o)
  redo_moves None es done kept apart some =
      moved_on (take kept es) done (omega (arith, some, length-map (drop done (take kept es)) (step_of {C = C}), length-drop done (take kept es)))
  redo_moves (Some e) es done kept apart some =
      absurd (omega (arith, some, apart refl, length-map (drop done (take kept es)) (step_of {C = C}), length-drop done (take kept es), length-take kept es))

  pub length_before : (es : List (Element C)) (done kept : ℕ) → length (before (take kept es) done) ≡ min done (min kept (length es))
  length_before es done kept =
      length-map (reverse (take done (take kept es))) (step_of {C = C}) ∙ length-reverse (take done (take kept es)) ∙ length-take done (take kept es) ∙ ap (min done) (length-take kept es)

  pub undo_moves : (es : List (Element C)) (done kept : ℕ) → done ≤ kept → kept ≤ length es → 0 < length (before (take kept es) done)
      → stack_at (take kept es) (done - 1) ≡ undone_lists (before (take kept es) done) (behind (take kept es) done)
  undo_moves es done kept le within some =
      let long = length_before es done kept in
      let back : (done - 1) + 1 ≡ done = omega (arith, some, long) in
      subst (λ n. stack_at (take kept es) (done - 1) ≡ undone_lists (before (take kept es) n) (behind (take kept es) n)) back
      (moved_back (take kept es) (done - 1) (omega (arith, some, long, le, within, length-take kept es)))
