-- The bound on the steps of a parse whose lines asked for are one run.
use Rattle.std.proofs.Common.{◌≡◌, ℕ, ◌+◌, ◌*◌, ◌≤◌, Bool, true, false, Option, Some, List, ap, sym, ◌∙◌, subst, arith}
use Rattle.std.proofs.Math.Nat.{mul-le-mul_left}
use Rattle.text_lengths.specs.declared.Length.{Length}
use Rattle.text_lengths.specs.Length.{no_length}
use Rattle.text_lengths.proofs.Lengths.{none_plus}
use Rattle.bracket_rules.specs.Rows.{Row}
use Rattle.bracket_rules.specs.declared.TheConstants.{MOST_OPEN}
use Rattle.bracket_tree_rules.specs.Tree.{Tree, tree_length, nesting, highest}
use Rattle.bracket_tree_rules.proofs.Longest.{not_before_itself}
use Rattle.bracket_nodes.specs.Paying.{HasRoom}
use Rattle.mark_rules.specs.declared.Mark.{Mark}
use Rattle.reuse_rules.specs.Prices.{Costs, calls, openings, all_paired, price}
use Rattle.reuse_rules.specs.Ways.{way_price, IsOneRun}
use Rattle.reuse_rules.proofs.Prices.{IsUpTo, end_of}
use Rattle.reuse_rules.proofs.PriceBounds.{way_bound, price_from_start, price_to_end, none_opens, calls_bound, openings_bound}
use Rattle.node_reuse.specs.declared.line.Line.{Line}
use Rattle.line_states.specs.Lines.{new_lines}
use Rattle.node_reuse.specs.Reading.{AgreesWith, AgreesIfThere}
use Rattle.node_reuse.specs.Reader.{Sight, sight_rows, unasked}
use Rattle.node_reuse.specs.Paying.{all_paired_in, nesting_in, way_price_in, token_count, tokens_read, tokens_ahead, paying_so, most_steps, TakesFewSteps}
use Rattle.node_reuse.proofs.OneRun.{one_run_price}
use Rattle.node_reuse.proofs.NewRuns.{one_run}

module _ (old : Tree) (marks : List Mark) (now : List Row) (agrees : AgreesWith old marks now) (one : IsOneRun (new_lines marks)) where
  from_start : (c : Costs) (to : Length) → price c no_length to no_length old ≤ way_bound c (highest old) old
  from_start c to = price_from_start c (highest old) no_length to no_length old agrees.tree (omega arith) (not_before_itself no_length)

  ends : (to : Length) → IsUpTo (tree_length old) to → IsUpTo (end_of no_length old) to
  ends to h = subst (λ (l : Length). IsUpTo l to) (sym (none_plus (tree_length old))) h

  to_end : (c : Costs) (from to : Length) → IsUpTo (tree_length old) to → price c from to no_length old ≤ way_bound c (highest old) old
  to_end c from to h = price_to_end c (highest old) from to no_length old agrees.tree (omega arith) (ends to h)

  pub way_calls : way_price calls old marks no_length ≤ 2 * (2 + (4 * highest old + nesting old * (4 * highest old + 6)))
  way_calls =
      omega (
        arith,
        calls_bound old,
        one_run_price calls old marks now agrees.rows (way_bound calls (highest old) old) (way_bound calls (highest old) old) (from_start calls) (to_end calls) one,
      )

  pub way_openings : way_price openings old marks no_length ≤ nesting old
  way_openings =
      omega (
        arith,
        openings_bound old,
        one_run_price openings old marks now agrees.rows (way_bound openings (highest old) old) 0 (from_start openings)
            (λ from to h. none_opens from to no_length old (ends to h)) one,
      )

-- the end, the run of new lines, and twice a path with its neighbours
within_bound : (n h : ℕ) → 4 + 2 * (2 + (4 * h + n * (4 * h + 6))) ≤ 16 * ((n + 1) * (h + 1))
within_bound n h =
    let eight : n * (4 * h + 6) ≤ n * (8 * (h + 1)) = mul-le-mul_left n (omega arith) in
    grind (arith, eight)

module _ (s : Sight) (line : Line) (steps : ℕ) (old : Tree) (there : s.old.tree ≡ Some old) (paired : all_paired old ≡ true)
    (agrees : AgreesIfThere s.old.tree s.old.marks (sight_rows s)) (one : IsOneRun (new_lines s.old.marks)) where
  agreed : AgreesWith old s.old.marks (sight_rows s)
  agreed = subst (λ (o : Option Tree). AgreesIfThere o s.old.marks (sight_rows s)) there agrees

  start_room : 2 * nesting old + token_count s.by s.contents (new_lines s.old.marks) ≤ MOST_OPEN → line.scanned ≡ false
      → HasRoom (paying_so s steps no_length line 0) 0
  start_room room unscanned =
      let deep : nesting_in s.old.tree ≡ nesting old = ap nesting_in there in
      let way : way_price_in openings s.old.tree s.old.marks no_length ≡ way_price openings old s.old.marks no_length =
      ap (λ (o : Option Tree). way_price_in openings o s.old.marks no_length) there in
      let tokens : tokens_ahead s no_length line ≡ 0 + token_count s.by s.contents (new_lines s.old.marks) =
      ap (λ (b : Bool). tokens_read b line + token_count s.by s.contents (unasked s.old.marks no_length b)) unscanned in
      record {
        known = ap all_paired_in there ∙ paired;
        room = omega (arith, deep, way, tokens, way_openings old s.old.marks (sight_rows s) agreed one, room);
      }

  steps_within : (after d : ℕ) → after ≤ steps + (paying_so s steps no_length line 0).due → after ≤ steps + most_steps (nesting old) (highest old) d
  steps_within after d spent =
      let way : way_price_in calls s.old.tree s.old.marks no_length ≡ way_price calls old s.old.marks no_length =
      ap (λ (o : Option Tree). way_price_in calls o s.old.marks no_length) there in
      omega (arith, spent, way, way_calls old s.old.marks (sight_rows s) agreed one, one_run s.old.marks one, within_bound (nesting old) (highest old))

-- a reader that begins at the start, and spends at most what is due there if it has room, takes few steps
pub few_steps : (s : Sight) (line : Line) (from to : ℕ) → AgreesIfThere s.old.tree s.old.marks (sight_rows s) → line.scanned ≡ false
    → (HasRoom (paying_so s from no_length line 0) 0 → to ≤ from + (paying_so s from no_length line 0).due)
    → TakesFewSteps s.old s.by s.contents (new_lines s.old.marks) from to
few_steps s line from to agrees unscanned spends = λ old there paired one room.
    steps_within s line from old there paired agrees one to (token_count s.by s.contents (new_lines s.old.marks))
    (spends (start_room s line from old there paired agrees one room unscanned))
