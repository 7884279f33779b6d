-- A reader that takes the longest node at each place, and a bracket if there is no node, pays the price of the way.
use Rattle.std.proofs.Common.{◌≡◌, ℕ, zero, suc, ◌+◌, ◌-◌, ◌<◌, ◌≤◌, true, false, List, ◌∷◌, length, drop, drop-cons, refl, ap, sym, ◌∙◌, subst, arith, inl, inr}
use Rattle.std.specs.Prelude.{slice_index_or}
use Rattle.std.proofs.lemmas.Bool.{cases_lt}
use Rattle.std.proofs.lemmas.Bool.Decides.{nat_tests}
use Rattle.std.proofs.lemmas.Grind.{common_steps}
use Rattle.std.proofs.lemmas.List.{drop-drop}
use Rattle.text_lengths.specs.declared.Length.{Length}
use Rattle.text_lengths.specs.Length.{length_of, no_length, length_plus, is_before}
use Rattle.text_lengths.proofs.Lengths.{same_length}
use Rattle.bracket_rules.specs.declared.TheConstants.{MOST_OPEN}
use Rattle.bracket_rules.specs.Parse.{Bracket}
use Rattle.bracket_tree_rules.specs.Tree.{Tree, wide, tree_length, nesting, is_nothing, IsTree}
use Rattle.bracket_tree_rules.specs.Places.{HasNode, lines_touched, MayBeTaken}
use Rattle.bracket_tree_rules.proofs.Places.{IsTree-node}
use Rattle.mark_rules.specs.declared.Mark.{Mark}
use Rattle.mark_rules.specs.declared.Mark.TheVariants.{Kept, New}
use Rattle.mark_rules.specs.Marks.{kept_run}
use Rattle.reuse_rules.specs.Reuse.{IsKeptAs, Reusable, IsOldBracket}
use Rattle.reuse_rules.specs.Prices.{all_paired, Costs, price}
use Rattle.reuse_rules.specs.Ways.{runs_price, lines_price, way_price}
use Rattle.reuse_rules.proofs.Prices.{IsUpTo, end_of, starts_before_end, NoneEnds, bracket_price, node_falls, bracket_falls}
use Rattle.reuse_rules.proofs.PairedTrees.{paired_fits, paired_node, nesting_node}
use Rattle.reuse_rules.proofs.Ways.{price_in_run, price_behind_run}

-- ---- a run of kept lines, and places of the old text

up_to_line : (line column run lines columns : ℕ) → 0 < run → lines_touched lines columns ≤ run
    → IsUpTo (length_plus (length_of line column) (length_of lines columns)) (length_of (line + run) 0)
up_to_line line column run zero zero some h = grind (arith, nat_tests, common_steps)
up_to_line line column run (suc lines) zero some h = grind (arith, nat_tests, common_steps)
up_to_line line column run lines (suc columns) some h = grind (arith, nat_tests, common_steps)

touched_up_to : (line column run lines columns : ℕ) → 0 < run → IsUpTo (length_plus (length_of line column) (length_of lines columns)) (length_of (line + run) 0)
    → lines_touched lines columns ≤ run
touched_up_to line column run zero zero some h = omega arith
touched_up_to line column run (suc lines) zero some h = grind (arith, nat_tests, common_steps)
touched_up_to line column run zero (suc columns) some h = omega arith
touched_up_to line column run (suc lines) (suc columns) some h = grind (arith, nat_tests, common_steps)

not_longer : (q a b : Length) → is_before a b ≡ false → IsUpTo (length_plus q b) (length_plus q a)
not_longer q a b h = grind (arith, nat_tests, common_steps)

line_before : (line column run : ℕ) → 0 < run → is_before (length_of line column) (length_of (line + run) 0) ≡ true
line_before line column run some = grind (arith, nat_tests)

columns_none : (lines columns run : ℕ) → lines_touched lines columns ≤ run → run ≤ lines → columns ≡ 0
columns_none lines zero run h k = refl
columns_none lines (suc columns) run h k = absurd (omega arith)

lines_all : (lines columns run : ℕ) → lines_touched lines columns ≤ run → columns ≡ 0 → lines ≤ run
lines_all lines zero run h e = h
lines_all lines (suc columns) run h e = absurd (omega arith)

-- ---- the way from a place in a run

module _ (c : Costs) (old : Tree) (marks : List Mark) (p : Length) (line : ℕ) (inside : p.lines < length marks) (kept : IsKeptAs marks p line) where
  run : ℕ
  run = kept_run (drop p.lines marks)

  rest : List Mark
  rest = drop (suc p.lines) marks

  to : Length
  to = length_of (line + run) 0

  these : drop p.lines marks ≡ Kept (line + 1) ∷ rest
  unfolding rest
  these =
      let at : p.lines + 1 - 1 ≡ p.lines = omega arith in
      drop-cons marks p.lines New inside ∙ ap (λ (m : Mark). m ∷ drop (suc p.lines) marks) (ap (λ (n : ℕ). slice_index_or marks n New) (sym at) ∙ kept)

  some : 0 < run
  unfolding run rest
  some = let counted : kept_run (drop p.lines marks) ≡ kept_run (Kept (line + 1) ∷ rest) = ap kept_run these in omega arith

  way_in_run : (k column : ℕ) → k < run
      → way_price c old marks (length_of (p.lines + k) column) ≡ price c (length_of (line + k) column) to no_length old + runs_price c old (suc (line + 1)) rest
  unfolding run rest to
  way_in_run k column h =
      let counted : kept_run (drop p.lines marks) ≡ kept_run (Kept (line + 1) ∷ rest) = ap kept_run these in
      let here : line + 1 - 1 + k ≡ line + k = omega arith in
      let there : line + 1 - 1 + kept_run (Kept (line + 1) ∷ rest) ≡ line + run = omega arith in
      ap (lines_price c old column) (sym (drop-drop k p.lines marks))
      ∙ ap (λ (ms : List Mark). lines_price c old column (drop k ms)) these
      ∙ price_in_run c old k (line + 1) column rest (omega arith) (omega arith)
      ∙ ap (λ (n : ℕ). price c (length_of n column) (length_of (line + 1 - 1 + kept_run (Kept (line + 1) ∷ rest)) 0) no_length old + runs_price c old (suc (line + 1)) rest) here
      ∙ ap (λ (n : ℕ). price c (length_of (line + k) column) (length_of n 0) no_length old + runs_price c old (suc (line + 1)) rest) there

  way_here : way_price c old marks p ≡ price c (length_of line p.columns) to no_length old + runs_price c old (suc (line + 1)) rest
  unfolding run rest to
  way_here =
      let at : p.lines ≡ p.lines + 0 = omega arith in
      let on : line + 0 ≡ line = omega arith in
      ap (λ (n : ℕ). way_price c old marks (length_of n p.columns)) at ∙ way_in_run 0 p.columns some
      ∙ ap (λ (n : ℕ). price c (length_of n p.columns) (length_of (line + kept_run (drop p.lines marks)) 0) no_length old + runs_price c old (suc (line + 1)) (drop (suc p.lines) marks)) on

  way_behind : way_price c old marks (length_of (p.lines + run) 0) ≤ runs_price c old (suc (line + 1)) rest
  unfolding run rest
  way_behind =
      let counted : kept_run (drop p.lines marks) ≡ kept_run (Kept (line + 1) ∷ drop (suc p.lines) marks) = ap kept_run these in
      let same : lines_price c old 0 (drop (p.lines + kept_run (drop p.lines marks)) marks)
      ≡ lines_price c old 0 (drop (kept_run (Kept (line + 1) ∷ drop (suc p.lines) marks)) (Kept (line + 1) ∷ drop (suc p.lines) marks)) =
      ap (lines_price c old 0) (sym (drop-drop (kept_run (drop p.lines marks)) p.lines marks)
      ∙ ap (λ (ms : List Mark). drop (kept_run ms) ms) these) in
      omega (arith, same, price_behind_run c old (line + 1) (drop (suc p.lines) marks))

  -- ---- what may be taken there

  module _ (kinds level : ℕ) (tree : IsTree old) (paired : all_paired old ≡ true) (room : level + nesting old ≤ MOST_OPEN) where
    reusable : (m : Tree) → HasNode no_length old (length_of line p.columns) m → is_nothing m ≡ false → IsUpTo (end_of (length_of line p.columns) m) to
        → Reusable old marks p kinds level m
    unfolding run to
    reusable m there more within = record {
      line = line;
      kept = kept;
      node = there;
      taken = record {
        some = more;
        within = touched_up_to line p.columns run (tree_length m).lines (tree_length m).columns some within;
        fits = paired_fits kinds level m (paired_node no_length old (length_of line p.columns) m there paired)
            (omega (arith, nesting_node no_length old (length_of line p.columns) m there));
      };
    }

    pub node_pays_at : (n : Tree) → HasNode no_length old (length_of line p.columns) n → MayBeTaken (kept_run (drop p.lines marks)) kinds level n
        → ((m : Tree) → Reusable old marks p kinds level m → is_before (tree_length n) (tree_length m) ≡ false)
        → way_price c old marks (length_plus p (tree_length n)) + c.node ≤ way_price c old marks p
    unfolding run rest to
    node_pays_at n there taken longest =
        let q = length_of line p.columns in
        let l = tree_length n in
        let within : IsUpTo (end_of q n) to = up_to_line line p.columns run l.lines l.columns some taken.within in
        let long = starts_before_end q n (IsTree-node no_length old q n tree there) taken.some in
        let falls = node_falls c to no_length old q n tree there taken.some within long
        (λ m at more ends. not_longer q l (tree_length m) (longest m (reusable m at more ends))) in
        elim (cases_lt l.lines run) [
          | inl on ↦ omega (arith, falls, way_here, way_in_run l.lines (length_plus p l).columns on)
          | inr past ↦
              let none : l.columns ≡ 0 = columns_none l.lines l.columns run taken.within past in
              let all : l.lines ≤ run = lines_all l.lines l.columns run taken.within none in
              let start : length_plus p l ≡ length_of (p.lines + run) 0 =
              same_length (length_plus p l) (length_of (p.lines + run) 0) (omega arith) (columns_at l.lines l.columns none (omega (arith, some, past))) in
              let same : way_price c old marks (length_plus p l) ≡ way_price c old marks (length_of (p.lines + run) 0) = ap (way_price c old marks) start in
              omega (arith, falls, way_here, way_behind, same)
        ]
      where
        columns_at : (lines columns : ℕ) → columns ≡ 0 → 0 < lines → (length_plus p (length_of lines columns)).columns ≡ 0
        columns_at lines columns e h = grind (arith, nat_tests, common_steps)

    pub bracket_pays_at : (b : Bracket) → ((m : Tree) → Reusable old marks p kinds level m → ⊥) → IsOldBracket old marks p b → b.place ≡ length_of line p.columns
        → 0 < b.len → way_price c old marks (length_plus p (wide b.len)) + bracket_price c b.opening ≤ way_price c old marks p
    unfolding run rest to
    bracket_pays_at b none stands place long =
        let q = length_of line p.columns in
        let falls = bracket_falls c to no_length old b tree paired stands.bracket long
        (subst (λ (x : Length). is_before x to ≡ true) (sym place) (line_before line p.columns run some))
        (subst (λ (x : Length). NoneEnds to x no_length old) (sym place) (λ m at more ends. none m (reusable m at more ends))) in
        let before : price c b.place to no_length old ≡ price c q to no_length old = ap (λ (x : Length). price c x to no_length old) place in
        let next : length_plus b.place (wide b.len) ≡ length_of (line + 0) (p.columns + b.len) =
        ap (λ (x : Length). length_plus x (wide b.len)) place ∙ same_length (length_plus q (wide b.len)) (length_of (line + 0) (p.columns + b.len)) (omega arith) refl in
        let after : price c (length_plus b.place (wide b.len)) to no_length old ≡ price c (length_of (line + 0) (p.columns + b.len)) to no_length old =
        ap (λ (x : Length). price c x to no_length old) next in
        omega (arith, falls, before, after, way_here, way_in_run 0 (p.columns + b.len) some)
