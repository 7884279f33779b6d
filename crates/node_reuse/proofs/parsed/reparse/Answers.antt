use Rattle.std.proofs.Common.{rules, arith, true, false, ◌≡◌, ◌+◌, ◌≤◌, subst, sym, ◌∙◌, ap, length, List, [], Result, Ok, Err, ℕ}
use Rattle.std.specs.Prelude.{OnErr}
use Rattle.hiding_rules.specs.Hidden.{Scanner, scanner}
use Rattle.bracket_tree_rules.specs.Tree.{Tree, nesting, highest}
use Rattle.mark_rules.specs.declared.Mark.{Mark}
use Rattle.node_reuse.specs.Paying.{most_steps, token_count}
use Rattle.line_states.specs.Lines.{AsksFront, new_lines}
use Rattle.node_reuse.specs.Reading.{AgreesIfThere}
use Rattle.node_reuse.specs.Reader.{Sight, sight, sight_rows, asked_so}
use Rattle.node_reuse.proofs.WholeReader.{some_ahead, first_stands, start_fits, whole_tree, whole_tight, whole_light, none_asked}
use Rattle.node_reuse.proofs.StepBound.{few_steps}
use Rattle.node_reuse.proofs.parsed.reparse.Goals as goal

none_if : {A E : Type 0} (r : Result A E) (lines asked : List ℕ) → OnErr r (AsksFront lines asked asked)
none_if (Ok x) lines asked = tt
none_if (Err e) lines asked = none_asked lines asked

pub returns-in_err-line-clause-front : goal.returns-in_err-line-clause-front
returns-in_err-line-clause-front g c = none_if c.from_residual.result (new_lines c.args.settled.now.marks) (g.Q.Lines.state c.args.lines.now).asked

pub parse-requires-clause-stands : goal.parse-requires-clause-stands
parse-requires-clause-stands g c =
    let s : Sight = sight (scanner c.args.table.now c.args.hiding.now) (g.Q.Lines.state c.args.lines.now).contents (g.O.Old.text c.args.old) in
    let agrees : AgreesIfThere s.old.tree s.old.marks (sight_rows s) = rw c.requires.marks c.requires.agrees in
    record {
      at = first_stands s c.in_ok-line.line c.requires.some c.first_line.ensures.table (ap length c.requires.marks ∙ c.requires.count) agrees
          c.in_ok-line.ensures.scanned c.in_ok-line.ensures.asked;
      marks = c.requires.marks;
      states = c.requires.states;
      told = omega arith;
      scanned = λ e. let clash : true ≡ false = sym e ∙ c.in_ok-line.ensures.scanned in cc;
    }

pub parse-requires-clause-some : goal.parse-requires-clause-some
parse-requires-clause-some g c = some_ahead (scanner c.args.table.now c.args.hiding.now) (g.Q.Lines.state c.args.lines.now).contents c.requires.some

pub parse-requires-clause-fits : goal.parse-requires-clause-fits
parse-requires-clause-fits g c =
    let s : Sight = sight (scanner c.args.table.now c.args.hiding.now) (g.Q.Lines.state c.args.lines.now).contents (g.O.Old.text c.args.old) in
    let agrees : AgreesIfThere s.old.tree s.old.marks (sight_rows s) = rw c.requires.marks c.requires.agrees in
    start_fits s _ c.in_ok-line.line c.first_line.ensures.table c.requires.some agrees (g.met.Q.Lines.fits c.args.lines.now)

pub returns-clause-tree : goal.returns-clause-tree
returns-clause-tree g c =
    let s : Sight = sight (scanner c.args.table.now c.args.hiding.now) (g.Q.Lines.state c.args.lines.now).contents (g.O.Old.text c.args.old) in
    whole_tree s c.in_ok-tree.tree c.requires.some c.in_ok-tree.ensures.tree

pub returns-clause-tight : goal.returns-clause-tight
returns-clause-tight g c =
    let s : Sight = sight (scanner c.args.table.now c.args.hiding.now) (g.Q.Lines.state c.args.lines.now).contents (g.O.Old.text c.args.old) in
    let agrees : AgreesIfThere s.old.tree s.old.marks (sight_rows s) = rw c.requires.marks c.requires.agrees in
    whole_tight s (asked_so [] []) c.in_ok-line.line c.in_ok-tree.tree c.requires.some agrees c.in_ok-tree.ensures.tree c.in_ok-tree.ensures.light

pub returns-clause-light : goal.returns-clause-light
returns-clause-light g c =
    let s : Sight = sight (scanner c.args.table.now c.args.hiding.now) (g.Q.Lines.state c.args.lines.now).contents (g.O.Old.text c.args.old) in
    let agrees : AgreesIfThere s.old.tree s.old.marks (sight_rows s) = rw c.requires.marks c.requires.agrees in
    whole_light s (asked_so [] []) c.in_ok-line.line c.in_ok-tree.tree c.first_line.ensures.table c.requires.some agrees c.in_ok-tree.ensures.light

-- ---- steps

abbrev takes_few : Scanner → List (List ℕ) → Tree → ℕ → ℕ → List Mark → Type 0
takes_few by contents old from to marks =
    to ≤ from + most_steps (nesting old) (highest old) (token_count by contents (new_lines marks))

pub returns-in_err-tree-clause-steps : goal.returns-in_err-tree-clause-steps
returns-in_err-tree-clause-steps g c = λ old there paired one room.
    let s : Sight = sight (scanner c.args.table.now c.args.hiding.now) (g.Q.Lines.state c.args.lines.now).contents (g.O.Old.text c.args.old) in
    let agrees : AgreesIfThere s.old.tree s.old.marks (sight_rows s) = rw c.requires.marks c.requires.agrees in
    let few = few_steps s c.in_ok-line.line c.args.steps.now c.parse.new.source.steps.now agrees c.in_ok-line.ensures.scanned
    c.parse.ensures.spends old there paired (rw c.requires.marks one) (rw c.requires.marks room) in
    let few_here = subst (λ (marks : List Mark). takes_few s.by s.contents old c.args.steps.now c.parse.new.source.steps.now marks) c.requires.marks few in
    search (rules, few_here)

pub returns-clause-steps : goal.returns-clause-steps
returns-clause-steps g c = λ old there paired one room.
    let s : Sight = sight (scanner c.args.table.now c.args.hiding.now) (g.Q.Lines.state c.args.lines.now).contents (g.O.Old.text c.args.old) in
    let agrees : AgreesIfThere s.old.tree s.old.marks (sight_rows s) = rw c.requires.marks c.requires.agrees in
    let few = few_steps s c.in_ok-line.line c.args.steps.now c.parse.new.source.steps.now agrees c.in_ok-line.ensures.scanned
    c.parse.ensures.spends old there paired (rw c.requires.marks one) (rw c.requires.marks room) in
    let few_here = subst (λ (marks : List Mark). takes_few s.by s.contents old c.args.steps.now c.parse.new.source.steps.now marks) c.requires.marks few in
    search (rules, few_here)
