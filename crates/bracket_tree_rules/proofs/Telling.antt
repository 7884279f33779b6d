-- When trees agree with a parse: no tree, a sequence of trees, a tree that fits, and each kind of bracket.
use Rattle.std.proofs.Common.{◌≡◌, ℕ, suc, ◌+◌, ◌≤◌, ◌<◌, ◌≢◌, Bool, true, false, eqb, Option, Some, None, List, [], ◌∷◌, ◌++◌, length, refl, ap, sym, ◌∙◌, arith, inl, inr}
use Rattle.std.specs.Prelude.{is_some}
use Rattle.std.proofs.Math.Bool.{or-false}
use Rattle.std.proofs.lemmas.Bool.{or_from}
use Rattle.std.proofs.lemmas.Bool.Decides.{eqb_tells}
use Rattle.std.proofs.lemmas.List.{append-nil}
use Rattle.text_lengths.specs.declared.Length.{Length}
use Rattle.text_lengths.specs.Length.{length_plus}
use Rattle.text_lengths.proofs.Lengths.{plus_none, length_plus_assoc}
use Rattle.bracket_rules.specs.declared.TheConstants.{MOST_OPEN}
use Rattle.bracket_rules.specs.Parse.{Bracket, bracket, spot_of, Judged, opens, too_deep, closes, closing_event, event, depth_of, judged_opening, judged_closing, Story, told, parse}
use Rattle.bracket_rules.specs.Rows.{Row, placed}
use Rattle.bracket_rules.specs.TextRows.{HasRow, empty_row, glue, rows_length}
use Rattle.bracket_tree_rules.specs.Tree.{Tree, pair, stray, capped, wide, tree_length, inside_start, inside_end, tree_tokens, tree_entries, bracket_row, closing_rows, tree_rows, is_missing, nesting, IsLone, IsTree, items}
use Rattle.bracket_tree_rules.specs.Items.{all_length, entries_at, all_entries, all_rows, any_missing}
use Rattle.bracket_tree_rules.specs.Told.{has_kind, with_kind, IsStack, Fits, prepend, Tells}
use Rattle.bracket_tree_rules.proofs.Adding.{spread-append}
use Rattle.bracket_tree_rules.proofs.Glue.{HasRow-glue, HasRow-tree_rows, glue_empty, empty_glue, glue_assoc, placed-glue, placed-tree, placed-bracket, rows_length-tree}
use Rattle.bracket_tree_rules.proofs.ItemLists.{all_length-append, all_length-items, all_entries-items, all_rows-append, all_rows-items, any_missing-append, any_missing-items}
use Rattle.bracket_tree_rules.proofs.TreeParse.{FitsOn, taken, prepend-prepend, parse-event, event_opens, event_too_deep, parse-closing, told-paired}
use Rattle.bracket_tree_rules.proofs.KindSets.{has_kind-with_same, has_kind-with_kind, IsStack-push}

-- ---- none, and one after another

pub Tells-none : (kinds level : ℕ) (rest : List Row) → HasRow rest → Tells kinds level rest rest []
Tells-none kinds level rest h = record {
  spells = sym (empty_glue rest h);
  story = λ p stack s. ap (λ (q : Length). parse stack (placed q rest)) (sym (plus_none p));
  closes_none = λ k o. refl;
}

pub Tells-append : (kinds level : ℕ) (ahead mid rest : List Row) (xs ys : List Tree)
    → Tells kinds level ahead mid xs → Tells kinds level mid rest ys → Tells kinds level ahead rest (xs ++ ys)
Tells-append kinds level ahead mid rest xs ys h k = record {
  spells = h.spells ∙ ap (glue (all_rows xs)) k.spells ∙ sym (glue_assoc (all_rows xs) (all_rows ys) rest)
      ∙ ap (λ (a : List Row). glue a rest) (sym (all_rows-append xs ys));
  story = λ p stack s.
      let q : Length = length_plus p (all_length xs) in
      let place : length_plus q (all_length ys) ≡ length_plus p (all_length (xs ++ ys)) =
      length_plus_assoc p (all_length xs) (all_length ys) ∙ ap (length_plus p) (sym (all_length-append xs ys)) in
      h.story p stack s
      ∙ ap (prepend (all_entries p level xs)) (k.story q stack s)
      ∙ prepend-prepend (all_entries p level xs) (all_entries q level ys) (parse stack (placed (length_plus q (all_length ys)) rest))
      ∙ ap (λ (x : List Judged). prepend x (parse stack (placed (length_plus q (all_length ys)) rest))) (sym (spread-append (entries_at level) p xs ys))
      ∙ ap (λ (x : Length). prepend (all_entries p level (xs ++ ys)) (parse stack (placed x rest))) place;
  closes_none = λ j o.
      any_missing-append j xs ys ∙ or_from (any_missing j xs) (any_missing j ys) (h.closes_none j o) (k.closes_none j o);
}

-- ---- a tree that fits

none_from : (o : Option ℕ) → is_some o ≡ false → o ≡ None
none_from None h = refl
none_from (Some n) h = cc

FitsOn-stack : (kinds level : ℕ) (stack : List Bracket) (t : Tree) → IsStack kinds level stack → Fits kinds level t → FitsOn stack t
FitsOn-stack kinds level stack t s f = record {
  closed = f.closed;
  uncapped = f.uncapped;
  apart = λ k m. none_from (depth_of k stack) (s.of_kinds k ∙ f.apart k m);
  room = let size : length stack ≡ level = s.size in let room : level + nesting t ≤ MOST_OPEN = f.room in omega arith;
}

placed-tree_rows : (p : Length) (t : Tree) (rest : List Row)
    → placed p (glue (tree_rows t) rest) ≡ tree_tokens p t ++ placed (length_plus p (tree_length t)) rest
placed-tree_rows p t rest =
    placed-glue p (tree_rows t) rest (HasRow-tree_rows t)
    ∙ ap (λ (x : List Bracket). x ++ placed (length_plus p (rows_length (tree_rows t))) rest) (placed-tree p t)
    ∙ ap (λ (l : Length). tree_tokens p t ++ placed (length_plus p l) rest) (rows_length-tree t)

apart_not_missing : (a b : Bool) → (a ≡ true → b ≡ false) → b ≡ true → a ≡ false
apart_not_missing true b h k = let clash : b ≡ false = h refl in cc
apart_not_missing false b h k = refl

pub Tells-fitting : (kinds level : ℕ) (t : Tree) (rest : List Row) → IsTree t → Fits kinds level t
    → Tells kinds level (glue (tree_rows t) rest) rest (items t)
Tells-fitting kinds level t rest h f = record {
  spells = ap (λ (a : List Row). glue a rest) (sym (all_rows-items t));
  story = λ p stack s.
      ap (parse stack) (placed-tree_rows p t rest)
      ∙ taken stack p t (placed (length_plus p (tree_length t)) rest) h (FitsOn-stack kinds level stack t s f)
      ∙ ap (λ (n : ℕ). prepend (tree_entries p n t) (parse stack (placed (length_plus p (tree_length t)) rest))) s.size
      ∙ ap (λ (x : List Judged). prepend x (parse stack (placed (length_plus p (tree_length t)) rest))) (sym (all_entries-items p level t))
      ∙ ap (λ (l : Length). prepend (all_entries p level (items t)) (parse stack (placed (length_plus p l) rest))) (sym (all_length-items t));
  closes_none = λ k o. any_missing-items k t ∙ apart_not_missing (is_missing k t) (has_kind kinds k) (f.apart k) o;
}

-- ---- a closing bracket that closes none

pub Tells-stray : (kinds level k w : ℕ) (rest : List Row) → IsLone k w → level ≤ MOST_OPEN → has_kind kinds k ≡ false
    → Tells kinds level (glue (bracket_row k w false) rest) rest (stray k w ∷ [])
Tells-stray kinds level k w rest h room closed =
    Tells-fitting kinds level (stray k w) rest h (record {
      closed = refl;
      uncapped = refl;
      apart = λ j m. same_kind j m;
      room = omega arith;
    })
  where
    same_kind : (j : ℕ) → eqb k j ≡ true → has_kind kinds j ≡ false
    same_kind j m = elim (eqb_tells k j) [ inl same ↦ rw (← same.1) closed | inr differ ↦ cc ]

-- ---- a bracket beyond the most that may be open

pub Tells-capped : (kinds k w : ℕ) (rest : List Row)
    → Tells kinds MOST_OPEN (glue (bracket_row k w true) rest) rest (capped k w ∷ [])
Tells-capped kinds k w rest = record {
  spells = ap (λ (a : List Row). glue a rest) (sym (all_rows-items (capped k w)));
  story = λ p stack s.
      let q : Length = length_plus p (tree_length (capped k w)) in
      ap (parse stack) (placed-tree_rows p (capped k w) rest)
      ∙ parse-event stack (bracket p w k true) too_deep (placed q rest) (event_too_deep stack p w k s.size)
      ∙ ap (λ (l : Length). parse stack (placed (length_plus p l) rest)) (sym (all_length-items (capped k w)));
  closes_none = λ j o. refl;
}

-- ---- pairs

placed-bracket_row : (p : Length) (k w : ℕ) (opening : Bool) (rest : List Row)
    → placed p (glue (bracket_row k w opening) rest) ≡ bracket p w k opening ∷ placed (length_plus p (wide w)) rest
placed-bracket_row p k w opening rest =
    placed-glue p (bracket_row k w opening) rest tt
    ∙ ap (λ (x : List Bracket). x ++ placed (length_plus p (wide w)) rest) (placed-bracket p k w opening)

-- the rows of a pair, before other rows
rows_of_pair : (k o : ℕ) (i : Tree) (c : Option ℕ) (ahead rest : List Row)
    → ahead ≡ glue (all_rows (items i)) (glue (closing_rows k c) rest)
    → glue (bracket_row k o true) ahead ≡ glue (all_rows (pair k o i c ∷ [])) rest
rows_of_pair k o i c ahead rest h =
    ap (glue (bracket_row k o true)) (h ∙ ap (λ (x : List Row). glue x (glue (closing_rows k c) rest)) (all_rows-items i))
    ∙ sym (glue_assoc (bracket_row k o true) (tree_rows i) (glue (closing_rows k c) rest))
    ∙ sym (glue_assoc (glue (bracket_row k o true) (tree_rows i)) (closing_rows k c) rest)
    ∙ ap (λ (x : List Row). glue x rest) (sym (glue_empty (tree_rows (pair k o i c)) (HasRow-tree_rows (pair k o i c))))

-- the parse of an opening bracket and the content after it, if the stack has room
opened_story : (kinds level k o : ℕ) (ahead rest : List Row) (i : Tree) (p : Length) (stack : List Bracket)
    → level < MOST_OPEN → Tells (with_kind kinds k) (suc level) ahead rest (items i) → IsStack kinds level stack
    → parse stack (placed p (glue (bracket_row k o true) ahead))
    ≡ told stack (bracket p o k true) opens (prepend (tree_entries (inside_start p o) (suc level) i)
    (parse (bracket p o k true ∷ stack) (placed (inside_end p o i) rest)))
opened_story kinds level k o ahead rest i p stack below h s =
    let b : Bracket = bracket p o k true in
    let q : Length = inside_start p o in
    let size : length stack ≡ level = s.size in
    let room : length stack < MOST_OPEN = omega arith in
    ap (parse stack) (placed-bracket_row p k o true ahead)
    ∙ parse-event stack b opens (placed q ahead) (event_opens stack p o k room)
    ∙ ap (told stack b opens) (h.story q (b ∷ stack) (IsStack-push kinds level b stack s))
    ∙ ap (λ (x : List Judged). told stack b opens (prepend x (parse (b ∷ stack) (placed (length_plus q (all_length (items i))) rest)))) (all_entries-items q (suc level) i)
    ∙ ap (λ (l : Length). told stack b opens (prepend (tree_entries q (suc level) i) (parse (b ∷ stack) (placed (length_plus q l) rest)))) (all_length-items i)

missing_of_pair : (kinds level k o : ℕ) (ahead rest : List Row) (i : Tree) (c : Option ℕ) (j : ℕ)
    → Tells (with_kind kinds k) (suc level) ahead rest (items i)
    → has_kind kinds j ≡ true → any_missing j (pair k o i c ∷ []) ≡ false
missing_of_pair kinds level k o ahead rest i c j h open_kind =
    or-false (is_missing j i) ∙ sym (any_missing-items j i) ∙ h.closes_none j (has_kind-with_kind kinds k j open_kind)

-- the content of a pair has no unexpected closing bracket of the pair's kind
pub not_missing_inside : (kinds level k : ℕ) (ahead rest : List Row) (i : Tree)
    → Tells (with_kind kinds k) (suc level) ahead rest (items i) → is_missing k i ≡ false
not_missing_inside kinds level k ahead rest i h =
    sym (any_missing-items k i) ∙ h.closes_none k (has_kind-with_same kinds k)

-- a closed pair
pub Tells-paired : (kinds level k o w : ℕ) (ahead rest : List Row) (i : Tree)
    → level < MOST_OPEN
    → Tells (with_kind kinds k) (suc level) ahead (glue (bracket_row k w false) rest) (items i)
    → Tells kinds level (glue (bracket_row k o true) ahead) rest (pair k o i (Some w) ∷ [])
Tells-paired kinds level k o w ahead rest i below h = record {
  spells = rows_of_pair k o i (Some w) ahead rest h.spells;
  story = λ p stack s.
      let b : Bracket = bracket p o k true in
      let ends : Length = inside_end p o i in
      let c : Bracket = bracket ends w k false in
      let es : List Judged = tree_entries (inside_start p o) (suc level) i in
      let after : Length = length_plus ends (wide w) in
      let us : List Bracket = placed after rest in
      let place : after ≡ length_plus p (all_length (pair k o i (Some w) ∷ [])) =
      ap (λ (l : Length). length_plus l (wide w)) (length_plus_assoc p (wide o) (tree_length i))
      ∙ length_plus_assoc p (length_plus (wide o) (tree_length i)) (wide w)
      ∙ ap (length_plus p) (sym (plus_none (tree_length (pair k o i (Some w))))) in
      opened_story kinds level k o ahead (glue (bracket_row k w false) rest) i p stack below h s
      ∙ ap (λ (x : List Bracket). told stack b opens (prepend es (parse (b ∷ stack) x))) (placed-bracket_row ends k w false rest)
      ∙ ap (λ (x : Story). told stack b opens (prepend es x)) (parse-closing k b stack ends w us refl)
      ∙ told-paired stack b c es (parse stack us)
      ∙ ap (λ (n : ℕ). prepend (judged_opening b n (Some (spot_of c)) ∷ (es ++ judged_closing c n (Some (spot_of b)) ∷ [])) (parse stack us)) s.size
      ∙ ap (λ (x : List Judged). prepend x (parse stack us)) (sym (append-nil (tree_entries p level (pair k o i (Some w)))))
      ∙ ap (λ (x : Length). prepend (all_entries p level (pair k o i (Some w) ∷ [])) (parse stack (placed x rest))) place;
  closes_none = λ j e. missing_of_pair kinds level k o ahead (glue (bracket_row k w false) rest) i (Some w) j h e;
}

-- ---- a pair that is left unclosed

-- the story of a text above one more bracket, which the text does not close
abbrev under : Story → Story
under s = record { closers = None ∷ s.closers; entries = s.entries }

-- these rows do not close a bracket of kind k on top of such a stack
LeavesOpen : ℕ → ℕ → ℕ → List Row → Type 0
LeavesOpen kinds level k rest =
    (q : Length) (b : Bracket) (stack : List Bracket) → b.kind ≡ k → IsStack kinds level stack
    → parse (b ∷ stack) (placed q rest) ≡ under (parse stack (placed q rest))

told-unclosed : (stack : List Bracket) (b : Bracket) (es : List Judged) (s : Story)
    → told stack b opens (prepend es (under s)) ≡ prepend (judged_opening b (length stack) None ∷ es) s
told-unclosed stack b es s = refl

unclosed_from : (kinds level k o : ℕ) (ahead rest : List Row) (i : Tree)
    → level < MOST_OPEN → HasRow rest → LeavesOpen kinds level k rest
    → Tells (with_kind kinds k) (suc level) ahead rest (items i)
    → Tells kinds level (glue (bracket_row k o true) ahead) rest (pair k o i None ∷ [])
unfolding LeavesOpen
unclosed_from kinds level k o ahead rest i below has_row leaves h = record {
  spells = rows_of_pair k o i None ahead rest
      (h.spells ∙ ap (glue (all_rows (items i))) (sym (empty_glue rest has_row)));
  story = λ p stack s.
      let b : Bracket = bracket p o k true in
      let ends : Length = inside_end p o i in
      let es : List Judged = tree_entries (inside_start p o) (suc level) i in
      let us : List Bracket = placed ends rest in
      let place : ends ≡ length_plus p (all_length (pair k o i None ∷ [])) =
      length_plus_assoc p (wide o) (tree_length i)
      ∙ ap (length_plus p) (sym (plus_none (length_plus (wide o) (tree_length i))))
      ∙ ap (length_plus p) (sym (plus_none (tree_length (pair k o i None)))) in
      let none : es ≡ es ++ [] = sym (append-nil es) in
      opened_story kinds level k o ahead rest i p stack below h s
      ∙ ap (λ (x : Story). told stack b opens (prepend es x)) (leaves ends b stack refl s)
      ∙ told-unclosed stack b es (parse stack us)
      ∙ ap (λ (n : ℕ). prepend (judged_opening b n None ∷ es) (parse stack us)) s.size
      ∙ ap (λ (x : List Judged). prepend (judged_opening b level None ∷ x) (parse stack us)) none
      ∙ ap (λ (x : List Judged). prepend x (parse stack us)) (sym (append-nil (tree_entries p level (pair k o i None))))
      ∙ ap (λ (x : Length). prepend (all_entries p level (pair k o i None ∷ [])) (parse stack (placed x rest))) place;
  closes_none = λ j e. missing_of_pair kinds level k o ahead rest i None j h e;
}

-- ... because the text ends
pub Tells-unclosed_end : (kinds level k o : ℕ) (ahead : List Row) (i : Tree)
    → level < MOST_OPEN
    → Tells (with_kind kinds k) (suc level) ahead (empty_row ∷ []) (items i)
    → Tells kinds level (glue (bracket_row k o true) ahead) (empty_row ∷ []) (pair k o i None ∷ [])
unfolding LeavesOpen
Tells-unclosed_end kinds level k o ahead i below h =
    unclosed_from kinds level k o ahead (empty_row ∷ []) i below tt (λ q b stack e s. refl) h

some_from : (o : Option ℕ) → is_some o ≡ true → (n : ℕ) × (o ≡ Some n)
some_from None h = cc
some_from (Some n) h = (n, refl)

depth_of-below : (b : Bracket) (stack : List Bracket) (j n : ℕ)
    → eqb b.kind j ≡ false → depth_of j stack ≡ Some n → depth_of j (b ∷ stack) ≡ Some (suc n)
depth_of-below b stack j n h e = rw (h, e) refl

different : (k j : ℕ) → k ≢ j → eqb k j ≡ false
different k j h = elim (eqb_tells k j) [ inl same ↦ absurd (h same.1) | inr differ ↦ differ.0 ]

-- ... because a bracket below it is closed first
closed_below : (kinds level k j w : ℕ) (more : List Row) → j ≢ k → has_kind kinds j ≡ true
    → LeavesOpen kinds level k (glue (bracket_row j w false) more)
unfolding LeavesOpen
closed_below kinds level k j w more differ open_kind q b stack e s =
    let c : Bracket = bracket q w j false in
    let us : List Bracket = placed (length_plus q (wide w)) more in
    let found = some_from (depth_of j stack) (s.of_kinds j ∙ open_kind) in
    let other : eqb b.kind j ≡ false = different b.kind j (λ same. differ (sym same ∙ e)) in
    let above : event (b ∷ stack) c ≡ closes (suc found.0) = ap closing_event (depth_of-below b stack j found.0 other found.1) in
    let below : event stack c ≡ closes found.0 = ap closing_event found.1 in
    ap (parse (b ∷ stack)) (placed-bracket_row q j w false more)
    ∙ parse-event (b ∷ stack) c (closes (suc found.0)) us above
    ∙ ap under (sym (parse-event stack c (closes found.0) us below))
    ∙ ap (λ (x : List Bracket). under (parse stack x)) (sym (placed-bracket_row q j w false more))

pub Tells-unclosed_below : (kinds level k o j w : ℕ) (ahead more : List Row) (i : Tree)
    → level < MOST_OPEN → HasRow more → j ≢ k → has_kind kinds j ≡ true
    → Tells (with_kind kinds k) (suc level) ahead (glue (bracket_row j w false) more) (items i)
    → Tells kinds level (glue (bracket_row k o true) ahead) (glue (bracket_row j w false) more) (pair k o i None ∷ [])
Tells-unclosed_below kinds level k o j w ahead more i below has_row differ open_kind h =
    unclosed_from kinds level k o ahead (glue (bracket_row j w false) more) i below (HasRow-glue (bracket_row j w false) more tt)
    (closed_below kinds level k j w more differ open_kind) h
