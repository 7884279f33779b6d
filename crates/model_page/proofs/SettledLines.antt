-- What a parse goes by once the lines of a page are settled.
use Rattle.std.proofs.Common.{◌≡◌, ℕ, ◌+◌, ◌≤◌, ◌^◌, false, Option, List, length, sum, ap, sym, ◌∙◌, subst, arith}
use Rattle.std.specs.Prelude.{replicate}
use Rattle.std.proofs.lemmas.List.{length-map}
use Rattle.text_rules.specs.Lines.{Line, lines_of}
use Rattle.bracket_tree_rules.specs.Tree.{Tree, highest, weight}
use Rattle.bracket_tree_rules.specs.Weights.{tree_weights, AreCovered}
use Rattle.bracket_tree_rules.proofs.LineWeights.{AreCovered-sum, sum-tree_weights}
use Rattle.hiding_rules.specs.declared.LineState.TheVariants.{Code}
use Rattle.hiding_rules.specs.Hidden.{Scanner}
use Rattle.hiding_rules.specs.Marks.{has_block}
use Rattle.hiding_rules.specs.Rows.{hidden_rows}
use Rattle.hiding_rules.specs.States.{line_states}
use Rattle.hiding_rules.proofs.NoBlock.{states_are_code, behind_is_code}
use Rattle.hiding_rules.proofs.Rows.{length-states_from}
use Rattle.line_states.specs.Lines.{new_lines, text_weights}
use Rattle.line_states.specs.Settling.{Borders, SettledState, settled_marks}
use Rattle.line_states.proofs.SettledMarks.{length-settled, new_lines-settled, settled_in_code}
use Rattle.mark_rules.specs.declared.Mark.{Mark}
use Rattle.node_reuse.specs.OldText.{OldText}
use Rattle.node_reuse.specs.Paying.{token_count, most_steps}
use Rattle.node_reuse.specs.Paying as reuse
use Rattle.node_reuse.specs.Reading.{AgreesIfThere}
use Rattle.document_rules.specs.Brackets.{line_contents}
use Rattle.model_page.specs.Counting.{TakesFewSteps}
use Rattle.model_page.specs.Asked.{IsLow, lines_to_ask, AreStatesOf}
use Rattle.model_page.specs.Staying.{BeginInCode, StaysWith, AreSettled}
use Rattle.model_page.proofs.LastLines.{agrees_if_settled}

as_contents : (x : List ℕ) (marks : List Mark) → length marks ≡ length (lines_of x) → length marks ≡ length (line_contents x)
as_contents x marks same = same ∙ sym (length-map (lines_of x) (λ (line : Line). line.content))

-- without block comments each line begins in code, and none is restarted
pub settled_plain : (by : Scanner) (x : List ℕ) (last : Borders) (marks : List Mark) (settled : SettledState) → has_block by.marks ≡ false
    → length marks ≡ length (lines_of x) → BeginInCode last → settled.marks ≡ marks → settled.states.begins ≡ replicate (length marks) Code
    → settled.states.ends ≡ Code → AreSettled by x last marks settled
settled_plain by x last marks settled without same plain are begins ends =
    let states : line_states by (line_contents x) ≡ replicate (length marks) Code =
    states_are_code by without (line_contents x) ∙ ap (λ n. replicate n Code) (sym (as_contents x marks same)) in
    record {
      begins = begins ∙ sym states;
      ends = ends ∙ sym (behind_is_code by without (line_contents x));
      marks = are ∙ sym (ap (settled_marks last marks) states ∙ settled_in_code last (length last.begins) marks plain);
    }

module _ (by : Scanner) (x : List ℕ) (last : Borders) (marks : List Mark) (settled : SettledState) (same : length marks ≡ length (lines_of x))
    (are : AreSettled by x last marks settled) where
  as_many : length marks ≡ length (line_states by (line_contents x))
  as_many = as_contents x marks same ∙ sym (length-states_from by Code (line_contents x))

  -- there is a mark for each line
  pub settled_count : length settled.marks ≡ length (line_contents x)
  settled_count = ap length are.marks ∙ length-settled last marks (line_states by (line_contents x)) as_many ∙ as_contents x marks same

  -- the old tree agrees
  pub settled_agrees : (tree : Option Tree) → StaysWith tree marks last by x → AgreesIfThere tree settled.marks (hidden_rows by (line_contents x))
  settled_agrees tree stays =
      subst (λ ms. AgreesIfThere tree ms (hidden_rows by (line_contents x))) (sym are.marks)
      (agrees_if_settled last marks by (line_contents x) (as_contents x marks same) tree stays.agrees)

  -- these lines are asked for
  pub settled_asks : new_lines settled.marks ≡ lines_to_ask last marks by x
  settled_asks = ap new_lines are.marks ∙ new_lines-settled last marks (line_states by (line_contents x)) as_many

  -- the steps of a parse by an old text with this tree are few
  pub few_steps_settled : (tree : Option Tree) (old : OldText) (contents : List (List ℕ)) (from to : ℕ) → old.tree ≡ tree → contents ≡ line_contents x
      → reuse.TakesFewSteps old by contents (new_lines settled.marks) from to → TakesFewSteps tree last marks by x from to
  few_steps_settled tree old contents from to trees lines few =
      let here : reuse.TakesFewSteps old by (line_contents x) (lines_to_ask last marks by x) from to =
      subst (λ asked. reuse.TakesFewSteps old by (line_contents x) asked from to) settled_asks
      (subst (λ cs. reuse.TakesFewSteps old by cs (new_lines settled.marks) from to) lines few) in
      λ t there paired one room. here t (trees ∙ there) paired one room

-- a parse leaves as many states as there are marks
pub states_count : (by : Scanner) (x : List ℕ) (marks : List Mark) (states : Borders) → length marks ≡ length (lines_of x) → AreStatesOf by x states
    → length states.begins ≡ length marks
states_count by x marks states same are =
    ap length are.begins ∙ length-states_from by Code (line_contents x) ∙ sym (as_contents x marks same)

-- a tree that is as light as the lines has no high list
pub low_where_light : (t : Tree) (x : List ℕ) (contents : List (List ℕ)) → contents ≡ line_contents x → 2 ^ highest t ≤ weight t + 1
    → AreCovered (tree_weights t) (text_weights contents) → IsLow t x
low_where_light t x contents same low light =
    let covered : sum (tree_weights t) ≤ sum (text_weights (line_contents x)) =
    subst (λ cs. sum (tree_weights t) ≤ sum (text_weights cs)) same (AreCovered-sum (tree_weights t) (text_weights contents) light) in
    omega (arith, covered, sum-tree_weights t)
