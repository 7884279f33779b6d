use Rattle.std.proofs.Common.{◌≡◌, ◌+◌, ◌-◌, get_or, ap, sym, ◌∙◌, arith}
use Rattle.text_rules.specs.Breaks.{break_ends, count_to}
use Rattle.text_rules.proofs.Breaks.{count_to-drop}
use Rattle.line_starts.proofs.Starts.{count_at_end, count_at_other}
use Rattle.line_starts.proofs.nth_break_end.Goals as goal
use Rattle.line_starts.proofs.nth_break_end.Goals.{then-is_break_end+else-left-eq0, else-is_break_end}

pub returns-then-left-eq0-clause-there : goal.returns-then-left-eq0-clause-there
returns-then-left-eq0-clause-there c = λ enough.
    let x = c.args.units.now in
    let (more, place) = count_at_end c.loop-at.at x (omega arith) (sym c.is_break_end.ensures ∙ c.if-is_break_end.true) in
    let last : count_to c.loop-at.at (break_ends 0 x) ≡ count_to c.args.from (break_ends 0 x) + c.args.k - 1 = omega (arith, c.loop-at.invariant.counted) in
    sym place ∙ ap (λ n. get_or (break_ends 0 x) n 0) last

pub returns-then-left-eq0-clause-past : goal.returns-then-left-eq0-clause-past
returns-then-left-eq0-clause-past c = λ few.
    let x = c.args.units.now in
    let (more, place) = count_at_end c.loop-at.at x (omega arith) (sym c.is_break_end.ensures ∙ c.if-is_break_end.true) in
    let later = count_to-drop (c.loop-at.at + 1) c.args.to (break_ends 0 x) (omega arith) in
    absurd (omega (arith, more, later, few, c.loop-at.invariant.counted))

pub loop-at-preserved : goal.loop-at-preserved
loop-at-preserved c =
    let x = c.args.units.now in
    elim c.if-is_break_end.branch [
      | then-is_break_end+else-left-eq0 w ↦
          let (more, place) = count_at_end c.loop-at.at x (omega arith) (sym c.is_break_end.ensures ∙ w.if-is_break_end.true) in
          record { counted = rw w.left-is (omega (arith, more, c.loop-at.invariant.counted)); some = rw w.left-is (omega arith) }
      | else-is_break_end w ↦
          let same = count_at_other c.loop-at.at x (omega arith) (sym c.is_break_end.ensures ∙ w.if-is_break_end.false) in
          record { counted = rw w.left-is (omega (arith, same, c.loop-at.invariant.counted)); some = rw w.left-is (omega arith) }
    ]
