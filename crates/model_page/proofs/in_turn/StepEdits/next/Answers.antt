use Rattle.std.proofs.Common.{◌≡◌, ◌+◌, ◌<◌, [], List, ◌++◌, length, slice_get, Some, ap, sym, subst, ◌∙◌, arith}
use Rattle.std.proofs.lemmas.Grind.{common_steps}
use Rattle.edit_stack.specs.Element.{step_of}
use Rattle.text_rules.specs.declared.Op.{Op}
use Rattle.model_page.specs.InTurn.{begun, all_edits_along}
use Rattle.model_page.specs.Ways.{place_at, rest_on}
use Rattle.model_page.proofs.Turns.{edits_left}
use Rattle.model_page.proofs.in_turn.StepEdits.next.Goals as goal

pub loop-change-preserved : goal.loop-change-preserved
loop-change-preserved c =
    let s = c.loop-change.self-inside in
    let cs = (step_of s.step.now).changes in
    let change = c.change.result.now in
    let later : List Op = all_edits_along s.way (rest_on s.way (s.done + 1) cs) in
    let inside : s.done < length cs = grind (arith, common_steps) in
    let at = c.place_at-at.ensures ∙ ap (λ count. place_at s.way count s.done) c.len-in-loop-change.ensures in
    let is = subst (λ k. slice_get cs k ≡ Some change) at c.change.ensures in
    let none : begun s.edits ≡ [] = grind (arith, common_steps) in record {
      within = omega (arith, inside);
      left =
          ap (λ (edits : List Op). edits ++ later) c.of.ensures ∙ sym (edits_left s.way cs s.done change inside is)
          ∙ ap (λ (edits : List Op). edits ++ all_edits_along s.way (rest_on s.way s.done cs)) (sym none) ∙ c.loop-change.invariant.left;
    }
