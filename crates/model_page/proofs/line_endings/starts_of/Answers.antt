use Rattle.std.proofs.Common.{◌≡◌, ◌<◌, ◌≤◌, length, get_or, ap, sym, ◌∙◌, arith}
use Rattle.std.proofs.lemmas.Grind.{common_steps}
use Rattle.decoration_rules.specs.declared.LineMove.{LineMove}
use Rattle.text_rules.specs.Lines.{lines_of}
use Rattle.model_page.specs.InTurn.{no_line, starts_at}
use Rattle.model_page.proofs.LineEdits.{length-line_moves, as_many_lines, move_at, starts_at-end}
use Rattle.model_page.proofs.line_endings.starts_of.Goals as goal
use Rattle.model_page.proofs.line_endings.starts_of.Goals.{In-Some, In-None}

-- the line is the one that the rule has there
found : (c : In-Some) → c.in-Some.line.now
    ≡ record {
      old = starts_at c.args.at c.args.from.now;
      content = length (get_or (lines_of c.args.from.now) c.args.at no_line).content;
      new = starts_at c.args.at c.args.to.now;
    }
found c =
    let x = c.args.from.now in
    let y = c.args.to.now in
    let at = c.args.at in
    let line : LineMove = c.in-Some.line.now in
    let inside : at < length c.args.moves.now = grind (arith, common_steps) in
    let is : line ≡ get_or c.args.moves.now at line = grind (arith, common_steps) in
    let lines : at < length (lines_of x) = omega (arith, inside, ap length c.requires.moves, length-line_moves x y c.requires.contents) in
    is ∙ ap (λ moves. get_or moves at line) c.requires.moves ∙ move_at x y at line c.requires.contents lines

past : (c : In-None) → length (lines_of c.args.from.now) ≤ c.args.at
past c =
    let past : length c.args.moves.now ≤ c.args.at = grind (arith, common_steps) in
    omega (arith, past, ap length c.requires.moves, length-line_moves c.args.from.now c.args.to.now c.requires.contents)

pub returns-in-Some-clause-old : goal.returns-in-Some-clause-old
returns-in-Some-clause-old c = ap (λ (line : LineMove). line.old) (found c)

pub returns-in-Some-clause-new : goal.returns-in-Some-clause-new
returns-in-Some-clause-new c = ap (λ (line : LineMove). line.new) (found c)

pub returns-in-None-clause-old : goal.returns-in-None-clause-old
returns-in-None-clause-old c = sym (starts_at-end c.args.from.now c.args.at (past c))

pub returns-in-None-clause-new : goal.returns-in-None-clause-new
returns-in-None-clause-new c =
    sym (starts_at-end c.args.to.now c.args.at (omega (arith, past c, as_many_lines c.args.from.now c.args.to.now c.requires.contents)))
