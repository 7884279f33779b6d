use Rattle.std.proofs.Common.{ℕ, get_or, ap₂, arith}
use Rattle.model_page.proofs.LineEdits.{HasEndings, endings_at}
use Rattle.model_page.proofs.line_endings.endings_of.Goals as goal
use Rattle.model_page.proofs.line_endings.endings_of.Goals.{After-starts_of-old_end}

module _ (c : After-starts_of-old_end) where
  endings : HasEndings c.args.from.now c.args.to.now c.args.at (get_or c.args.moves.now c.args.at (record { old = 0; content = 0; new = 0 }))
  endings = endings_at c.args.from.now c.args.to.now c.args.moves.now c.args.at (record { old = 0; content = 0; new = 0 }) c.requires.contents c.requires.moves c.requires.inside

pub overflow_add-old : goal.overflow_add-old
overflow_add-old c =
    let e = endings (goal.at.overflow_add-old c).After-starts_of-old_end in
    omega (arith, e.old, e.old_within.ordered, c.starts_of-old_end.ensures.old)

pub overflow_add-new : goal.overflow_add-new
overflow_add-new c =
    let e = endings (goal.at.overflow_add-new c).After-starts_of-old_end in
    omega (arith, e.new, e.new_within.ordered, c.starts_of-old_end.ensures.new)

pub returns-clause-old : goal.returns-clause-old
returns-clause-old c =
    let e = endings (goal.at.returns-clause-old c).After-starts_of-old_end in
    ap₂ (λ (a b : ℕ). record { start = a; end = b }) e.old c.starts_of-old_end.ensures.old

pub returns-clause-new : goal.returns-clause-new
returns-clause-new c =
    let e = endings (goal.at.returns-clause-new c).After-starts_of-old_end in
    ap₂ (λ (a b : ℕ). record { start = a; end = b }) e.new c.starts_of-old_end.ensures.new

pub returns-clause-old_within : goal.returns-clause-old_within
returns-clause-old_within c =
    let e = endings (goal.at.returns-clause-old_within c).After-starts_of-old_end in
    record {
      ordered = omega (arith, e.old, e.old_within.ordered, c.starts_of-old_end.ensures.old);
      within = omega (arith, e.old_within.within, c.starts_of-old_end.ensures.old);
    }

pub returns-clause-new_within : goal.returns-clause-new_within
returns-clause-new_within c =
    let e = endings (goal.at.returns-clause-new_within c).After-starts_of-old_end in
    record {
      ordered = omega (arith, e.new, e.new_within.ordered, c.starts_of-old_end.ensures.new);
      within = omega (arith, e.new_within.within, c.starts_of-old_end.ensures.new);
    }
