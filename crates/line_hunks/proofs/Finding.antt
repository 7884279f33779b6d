-- The end of a search for a line, and the position of its item.
use Rattle.std.proofs.Common.{◌≡◌, ℕ, ◌+◌, ◌-◌, ◌<◌, ◌≤◌, cond, ltb, Option, Some, List, [], ◌∷◌, ◌++◌, ◌⊎◌, inl, inr, refl, sym, ◌∙◌, ap, subst, arith}
use Rattle.std.proofs.lemmas.Bool.{cases_lt, lt-ltb, le-ltb}
use Rattle.std.proofs.lemmas.List.{append_assoc}
use Rattle.rb_rules.specs.declared.weave.Turn.{Turn}
use Rattle.rb_rules.specs.declared.weave.Turn.TheVariants.{Stop, Left, Right}
use Rattle.rb_arena.specs.Searching as searching
use Rattle.line_hunks.specs.declared.run.Run.{Run}
use Rattle.line_hunks.specs.declared.run.Place.{Place}
use Rattle.line_hunks.specs.Weave.{adding, run_turn}
use Rattle.line_hunks.specs.Sides.{Shown, turned, runs_of, items_before, items_behind, shown, IsParted, FindsLine, Holds}
use Rattle.line_hunks.proofs.Turning.{turned-turned, lines_in-turned}
use Rattle.line_hunks.proofs.SideLaws.{lines_of, lines_of-append, runs_of-append, sum_is, back-shown, front-lines, around-shown}

-- A search for a line.

-- the meaning of each turn for the line with `line` lines before it
abbrev Means : Turn → ℕ → ℕ → Run → Type 0
Means Left line before run = line < before
Means Stop line before run = (before ≤ line) × (line < before + run.lines)
Means Right line before run = before + run.lines ≤ line

means : (line before : ℕ) (run : Run) → Means (run_turn line before run) line before run
means line before run = elim (cases_lt line before) [
  | inl low ↦ subst (λ t. Means t line before run)
      (sym (ap (λ b. cond b Left (cond (ltb (line - before) run.lines) Stop Right)) (lt-ltb line before low))) low
  | inr high ↦ (let past = ap (λ b. cond b Left (cond (ltb (line - before) run.lines) Stop Right)) (le-ltb line before high) in
      elim (cases_lt (line - before) run.lines) [
        | inl here ↦ subst (λ t. Means t line before run)
            (sym (past ∙ ap (λ b. cond b Stop Right) (lt-ltb (line - before) run.lines here))) (high, omega (arith, high, here))
        | inr over ↦ subst (λ t. Means t line before run)
            (sym (past ∙ ap (λ b. cond b Stop Right) (le-ltb (line - before) run.lines over))) (omega (arith, high, over))
      ])
]

module _ (line : ℕ) where
  heard : (us : List (ℕ × Run)) (x : Run) (t : Turn) → searching.Says adding run_turn line us x t → Means t line (lines_of us) x
  heard us x t says =
      subst (λ u. Means u line (lines_of us) x) (ap (λ n. run_turn line n x) (sym (sum_is us)) ∙ says) (means line (lines_of us) x)

  -- the search ends at the run of the line, or at the last run if there are too few lines
  ended : (us : List (ℕ × Run)) (id : ℕ) (x : Run) (vs : List (ℕ × Run)) → searching.EndsAt adding run_turn line us id x vs
      → (lines_of us ≤ line) × ((line < lines_of us + x.lines) ⊎ ((vs ≡ []) × (lines_of us + x.lines ≤ line)))
  ended us id x vs (inl stop) = let (low, high) = heard us x Stop stop in (low, inl high)
  ended us id x vs (inr (inl (left, inl none))) = let h = heard us x Left left in absurd (omega (arith, h, ap lines_of none))
  ended us id x vs (inr (inl (left, inr (ws, (e, is, right))))) =
      let h = heard us x Left left in let g = heard ws e.1 Right right in
      absurd (omega (arith, h, g, ap lines_of is, lines_of-append ws (e ∷ [])))
  ended us id x vs (inr (inr (right, inl none))) = let h = heard us x Right right in (omega (arith, h), inr (none, h))
  ended us id x vs (inr (inr (right, inr (e, (ws, is, left))))) =
      let h = heard us x Right right in let g = heard (us ++ (id, x) ∷ []) e.1 Left left in
      absurd (omega (arith, h, g, lines_of-append us ((id, x) ∷ [])))

  pub finds : (items : List (ℕ × Run)) (f : ℕ × Run × ℕ) → searching.Found adding run_turn line items (Some f) → line < lines_of items
      → FindsLine items line f.0 (record { run = f.1; before = line - f.2 }) × (f.2 ≤ line)
  finds items f (us, (vs, splits, sum, ends)) within =
      let (low, high) = ended us f.0 f.1 vs ends in
      let all : lines_of items ≡ lines_of us + (f.1.lines + lines_of vs) = ap lines_of splits ∙ lines_of-append us ((f.0, f.1) ∷ vs) in
      let here : line < lines_of us + f.1.lines = elim high [
        | inl here ↦ here
        | inr (none, past) ↦ absurd (omega (arith, within, past, all, ap lines_of none))
      ] in
      let before : f.2 ≡ lines_of us = sum ∙ sum_is us in (
        record { lower = us; upper = vs; splits = splits; line = omega (arith, low, before); within = omega (arith, low, here, before) },
        omega (arith, low, before),
      )

-- An item lies before or after the point at which a list is split.

pub beside : (us vs lower upper : List (ℕ × Run)) (y : ℕ × Run) → us ++ vs ≡ lower ++ y ∷ upper
    → ((ws : List (ℕ × Run)) × (us ≡ lower ++ y ∷ ws) × (upper ≡ ws ++ vs)) ⊎ ((ws : List (ℕ × Run)) × (lower ≡ us ++ ws) × (vs ≡ ws ++ y ∷ upper))
beside [] vs lower upper y same = inr (lower, refl, same)
beside (u ∷ us) vs [] upper y same =
    let first : u ≡ y = cc in
    let rest : us ++ vs ≡ upper = cc in
    inl (us, ap (λ x. x ∷ us) first, sym rest)
beside (u ∷ us) vs (l ∷ lower) upper y same =
    let first : u ≡ l = cc in
    let rest : us ++ vs ≡ lower ++ y ∷ upper = cc in
    elim (beside us vs lower upper y rest) [
      | inl (ws, is, others) ↦ inl (ws, ap (λ x. x ∷ us) first ∙ ap (λ xs. l ∷ xs) is, others)
      | inr (ws, is, others) ↦ inr (ws, ap (λ xs. l ∷ xs) is ∙ ap (λ x. x ∷ us ++ ws) (sym first), others)
    ]

-- The line among the runs with the gap's.

module _ (items : List (ℕ × Run)) (before : Option ℕ) (front_count : ℕ) (parts : IsParted items before front_count)
    (room : ℕ) (s : Shown) (view : shown items front_count room ≡ s) (gap : Run) where
  abbrev us : List (ℕ × Run)
  us = items_before front_count items

  abbrev vs : List (ℕ × Run)
  vs = items_behind front_count items

  pub holds-front : (lines id : ℕ) (place : Place) → FindsLine items lines id place → lines < front_count → Holds s gap lines place
  holds-front lines id place found less =
      let lower = found.lower in
      let upper = found.upper in
      let run = place.run in
      elim (beside us vs lower upper (id, run) (sym parts.whole ∙ found.splits)) [
        | inl (ws, is, others) ↦ record {
          lower = turned (runs_of lower) [];
          upper = runs_of ws ++ (gap ∷ runs_of vs);
          order = turned-turned (runs_of lower) [] (run ∷ runs_of ws ++ (gap ∷ runs_of vs))
              ∙ sym (append_assoc (runs_of lower) (run ∷ runs_of ws) (gap ∷ runs_of vs))
              ∙ ap (λ rs. rs ++ gap ∷ runs_of vs) (sym (runs_of-append lower ((id, run) ∷ ws)) ∙ ap runs_of (sym is))
              ∙ sym (around-shown items before front_count parts room s view (gap ∷ []));
          line = omega (arith, found.line, lines_in-turned (runs_of lower) []);
          within = found.within;
        }
        | inr (ws, is, others) ↦ absurd (omega (arith, found.line, less, parts.count, ap lines_of is, lines_of-append us ws))
      ]

  pub holds-gap : (lines behind : ℕ) → lines ≡ front_count + behind → behind < gap.lines
      → Holds s gap lines (record { run = gap; before = behind })
  holds-gap lines behind at within = record {
    lower = s.front;
    upper = s.back;
    order = refl;
    line = omega (arith, at, front-lines items before front_count parts room s view);
    within = within;
  }

  pub holds-back : (lines id : ℕ) (place : Place) → FindsLine items (lines - gap.lines) id place → front_count + gap.lines ≤ lines
      → Holds s gap lines place
  holds-back lines id place found past =
      let lower = found.lower in
      let upper = found.upper in
      let run = place.run in
      elim (beside us vs lower upper (id, run) (sym parts.whole ∙ found.splits)) [
        | inl (ws, is, others) ↦
            absurd (omega (arith, found.line, found.within, past, parts.count, ap lines_of is, lines_of-append lower ((id, run) ∷ ws)))
        | inr (ws, is, others) ↦ record {
          lower = turned (runs_of ws) (gap ∷ s.front);
          upper = runs_of upper;
          order = turned-turned (runs_of ws) (gap ∷ s.front) (run ∷ runs_of upper)
              ∙ ap (λ rs. turned s.front (gap ∷ rs))
              (sym (runs_of-append ws ((id, run) ∷ upper)) ∙ ap runs_of (sym others)
              ∙ sym (back-shown items before front_count parts room s view));
          line = omega (
            arith,
            found.line,
            past,
            lines_in-turned (runs_of ws) (gap ∷ s.front),
            front-lines items before front_count parts room s view,
            parts.count,
            ap lines_of is,
            lines_of-append us ws,
          );
          within = found.within;
        }
      ]
