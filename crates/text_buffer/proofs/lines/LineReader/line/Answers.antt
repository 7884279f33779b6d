use Rattle.std.proofs.Common.{◌≡◌, Some, ◌-◌, ◌≤◌, ◌++◌, List, ℕ, length, drop, ap, sym, subst, ◌∙◌, arith}
use Rattle.text_rules.specs.Lines.{Line, lines_of, line_at}
use Rattle.text_buffer.specs.Reading.{lines_left}
use Rattle.text_buffer.specs.Views.{units_in}
use Rattle.text_buffer.proofs.FirstLines.{first_read, later_left}
use Rattle.text_buffer.proofs.lines.LineReader.line.Goals as goal
use Rattle.text_buffer.proofs.lines.LineReader.line.Goals.{In-Ok}

there : (c : In-Ok) → c.args.n ≤ length (lines_of (units_in c.self.inside.view))
there c = subst (λ (x : List ℕ). c.args.n ≤ length (lines_of x)) (sym c.self.view_is) c.requires.there

lines : (c : In-Ok) → lines_left c.self.inside.view.chunks.now.buffers c.rest_at-rest.result ≡ drop (c.args.n - 1) (lines_of (units_in c.self.inside.view))
lines c = c.rest_at-rest.ensures.lines (omega (arith, there c, c.requires.first))

pub invariant_of-self : goal.invariant_of-self
invariant_of-self c =
    let view = c.self.inside.view in
    let at = (goal.at.invariant_of-self c).In-Ok in (
      c.self.invariant.0,
      record {
        can = c.in-Ok.ensures.can;
        lines = later_left (units_in view) c.args.n c.requires.first (there at) (lines_left view.chunks.now.buffers c.rest_at-rest.result) (lines at)
            (lines_left view.chunks.now.buffers c.push_line.new.rest) c.in-Ok.ensures.lines;
      },
    )

pub returns-in-Ok-clause-ok : goal.returns-in-Ok-clause-ok
returns-in-Ok-clause-ok c = λ line is.
    let view = c.self.inside.view in
    let at = (goal.at.returns-in-Ok-clause-ok c).In-Ok in
    c.in-Ok.ensures.content
    ∙ ap (λ (l : Line). c.args.out.now.items ++ l.content)
    (first_read (units_in view) c.args.n c.requires.first (there at) (lines_left view.chunks.now.buffers c.rest_at-rest.result) (lines at) line
    (subst (λ (x : List ℕ). line_at x c.args.n ≡ Some line) (sym c.self.view_is) is))
