use Rattle.std.proofs.Common.{◌≡◌, ℕ, ◌+◌, ◌^◌, ◌≤◌, List, ◌++◌, length, ap, ap₂, subst, ◌∙◌}
use Rattle.hiding_rules.specs.Hidden.{scanner}
use Rattle.hiding_rules.specs.Rows.{hidden_rows}
use Rattle.bracket_tree_rules.specs.Told.{IsTreeOf}
use Rattle.bracket_tree_rules.specs.Tree.{highest, weight}
use Rattle.document_rules.specs.Brackets.{line_contents}
use Rattle.model_page.specs.Counting.{TakesFewSteps}
use Rattle.model_page.specs.Asked.{lines_to_settle}
use Rattle.model_page.specs.Staying.{AreSettled, IsParseOf}
use Rattle.model_page.specs.State.{PageState}
use Rattle.model_page.proofs.SettledLines.{settled_count, settled_agrees, settled_asks, few_steps_settled, low_where_light}
use Rattle.model_page.proofs.TextLines.{some_lines}
use Rattle.model_page.proofs.page.Page.parse_again.Goals as goal
use Rattle.model_page.proofs.page.Page.parse_again.Given.{Over}
use Rattle.model_page.proofs.page.Page.parse_again.Goals.{After-old-old}

-- the lines that are read hold what those of the text hold
same_contents : (g : Over) (c : After-old-old g) → line_contents c.settle.new.lines.lines ≡ line_contents c.self.inside.text.units
same_contents g c = c.settle.ensures.contents ∙ ap line_contents c.new-lines.ensures.units

are_settled : (g : Over) (c : After-old-old g) → let m = c.self.inside in
    AreSettled (scanner m.table m.hiding) m.text.units m.last.states m.last.marks c.in_ok-settled.settled
are_settled g c =
    let m = c.self.inside in
    subst (λ x. AreSettled (scanner m.table m.hiding) x m.last.states m.last.marks c.in_ok-settled.settled) c.new-lines.ensures.units c.in_ok-settled.ensures.settled

pub reparse-requires-clause-some : goal.reparse-requires-clause-some
reparse-requires-clause-some g c =
    rw (same_contents g (goal.at.reparse-requires-clause-some g c).After-old-old) (some_lines c.self.inside.text.units)

pub reparse-requires-clause-count : goal.reparse-requires-clause-count
reparse-requires-clause-count g c =
    let m = c.self.inside in
    let at = (goal.at.reparse-requires-clause-count g c).After-old-old in
    rw (same_contents g at)
    (settled_count (scanner m.table m.hiding) m.text.units m.last.states m.last.marks c.in_ok-settled.settled c.self.invariant.stays.count (are_settled g at))

pub reparse-requires-clause-states : goal.reparse-requires-clause-states
reparse-requires-clause-states g c =
    let at = (goal.at.reparse-requires-clause-states g c).After-old-old in
    rw (same_contents g at) (are_settled g at).begins

pub reparse-requires-clause-agrees : goal.reparse-requires-clause-agrees
reparse-requires-clause-agrees g c =
    let m = c.self.inside in
    let at = (goal.at.reparse-requires-clause-agrees g c).After-old-old in
    rw (c.old-old.ensures.tree, same_contents g at)
    (settled_agrees (scanner m.table m.hiding) m.text.units m.last.states m.last.marks c.in_ok-settled.settled c.self.invariant.stays.count (are_settled g at)
    m.last.tree c.self.invariant.stays)

pub returns-in_err-parsed-clause-steps : goal.returns-in_err-parsed-clause-steps
returns-in_err-parsed-clause-steps g c =
    let m = c.self.inside in
    let at = (goal.at.returns-in_err-parsed-clause-steps g c).After-old-old in
    subst (λ (p : PageState). TakesFewSteps p.tree p.states p.marks p.scanner p.text.units c.args.steps.now c.reparse.new.steps) c.self.view_is
    (few_steps_settled (scanner m.table m.hiding) m.text.units m.last.states m.last.marks c.in_ok-settled.settled c.self.invariant.stays.count (are_settled g at)
    m.last.tree c.old-old.result (line_contents c.settle.new.lines.lines) c.args.steps.now c.reparse.new.steps c.old-old.ensures.tree (same_contents g at)
    c.reparse.ensures.steps)

pub returns-clause-steps : goal.returns-clause-steps
returns-clause-steps g c =
    let m = c.self.inside in
    let at = (goal.at.returns-clause-steps g c).After-old-old in
    subst (λ (p : PageState). TakesFewSteps p.tree p.states p.marks p.scanner p.text.units c.args.steps.now c.reparse.new.steps) c.self.view_is
    (few_steps_settled (scanner m.table m.hiding) m.text.units m.last.states m.last.marks c.in_ok-settled.settled c.self.invariant.stays.count (are_settled g at)
    m.last.tree c.old-old.result (line_contents c.settle.new.lines.lines) c.args.steps.now c.reparse.new.steps c.old-old.ensures.tree (same_contents g at)
    c.reparse.ensures.steps)

pub returns-clause-parsed : goal.returns-clause-parsed
returns-clause-parsed g c =
    let m = c.self.inside in
    let by = scanner m.table m.hiding in
    let at = (goal.at.returns-clause-parsed g c).After-old-old in
    let same = same_contents g at in
    let told = c.in_ok-parsed.ensures in
    let asks = settled_asks by m.text.units m.last.states m.last.marks c.in_ok-settled.settled c.self.invariant.stays.count (are_settled g at) in
    let low = subst (λ t. 2 ^ highest t ≤ weight t + 1) c.tree.ensures
    (subst (λ h. 2 ^ h ≤ weight c.tree.result.now + 1) c.highest-highest.ensures.highest c.highest-highest.ensures.low) in
    let none = c.new-lines.ensures in
    let settled = c.in_ok-settled.ensures.read
    ∙ ap₂ (λ (before : List ℕ) x. before ++ lines_to_settle m.last.states m.last.marks by x) none.asked none.units in
    let read = told.asked ∙ ap₂ (λ (before after : List ℕ). before ++ after) settled asks in
    subst (λ (p : PageState). IsParseOf p.scanner p.text.units p.states p.marks
    (record { parsed = c.in_ok-parsed.parsed; read = c.reparse.new.lines.asked.numbers })) c.self.view_is
    (record {
      now = record {
        table = told.table;
        tells = subst (λ contents. IsTreeOf (hidden_rows by contents) c.in_ok-parsed.parsed.tree) same told.tree;
        low = low_where_light c.in_ok-parsed.parsed.tree m.text.units (line_contents c.settle.new.lines.lines) same low told.light;
      };
      tight = told.tight;
      read = (told.count ∙ ap length asks, read);
    })
