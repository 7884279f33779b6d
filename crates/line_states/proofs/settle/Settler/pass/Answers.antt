use Rattle.std.proofs.Common.{ℕ, ◌≡◌, ◌+◌, ◌-◌, List, ◌∷◌, [], Result, Ok, Err, OnErr, refl, sym, ap, ◌∙◌, subst, drop, true}
use Rattle.std.proofs.lemmas.Result.{on_ok_weaker, on_err_weaker}
use Rattle.mark_rules.specs.declared.Mark.TheVariants.{Kept}
use Rattle.mark_rules.specs.Marks.{mark_at, kept_run}
use Rattle.line_hunks.specs.Numbers.{AreNumbers}
use Rattle.hiding_rules.specs.Known.{is_scanned}
use Rattle.line_states.specs.Lines.{AsksFront}
use Rattle.line_states.specs.Settling.{known_of, IsKeptAs}
use Rattle.line_states.specs.Outcome.{Task, IsTask}
use Rattle.line_states.specs.Walk.{ahead, HasKept, HasScanned}
use Rattle.line_states.proofs.Ways.{RunAhead, LineAhead, can_keep, passes_run, passes_line, front_of_all}
use Rattle.line_states.proofs.settle.Settler.pass.Given.{Over}
use Rattle.line_states.proofs.settle.Settler.pass.Goals.{After-stays}
use Rattle.line_states.proofs.settle.Settler.pass.Goals as goal

-- the kept lines to be passed next
run_ahead : (g : Over) (c : After-stays g) (first : ℕ) → IsKeptAs c.args.self.now.last first c.args.walk.now.state c.at-mark.result.0
    → RunAhead c.args.self.now (g.Q.Lines.state c.args.lines.now) c.args.walk.now first c.at-mark.result.1
run_ahead g c first kept =
    let t = c.args.self.now in
    let passed = c.args.walk.now.passed in
    let marks : c.self.inside.hunks.now.marks ≡ t.marks = ap (λ (s : Task). s.marks) c.self.view_is in
    let numbers : AreNumbers (Kept first) c.at-mark.result.1 = subst (λ m. AreNumbers m c.at-mark.result.1) kept.is c.at-mark.ensures.range in
    record {
      is_task = subst IsTask c.self.view_is c.self.invariant;
      can = c.requires.can;
      way = c.requires.way;
      mark = ap (mark_at (passed + 1)) (sym marks) ∙ sym c.at-mark.ensures.mark ∙ kept.is;
      run = c.at-mark.ensures.kept ∙ ap (λ ms. kept_run (drop (passed + 1 - 1) ms)) marks;
      counted = kept.counted;
      range = numbers.1;
      begins = kept.begins;
    }

-- the line to be passed next
line_ahead : (g : Over) (c : After-stays g) → is_scanned (known_of c.args.self.now.last c.at-mark.result.0) c.args.walk.now.state ≡ true
    → LineAhead c.args.self.now (g.Q.Lines.state c.args.lines.now) c.args.walk.now
line_ahead g c scanned =
    let t = c.args.self.now in
    let passed = c.args.walk.now.passed in
    let marks : c.self.inside.hunks.now.marks ≡ t.marks = ap (λ (s : Task). s.marks) c.self.view_is in
    record {
      is_task = subst IsTask c.self.view_is c.self.invariant;
      can = c.requires.can;
      way = c.requires.way;
      more = c.requires.more;
      scanned =
          subst (λ m. is_scanned (known_of t.last m) c.args.walk.now.state ≡ true)
          (c.at-mark.ensures.mark ∙ ap (mark_at (passed + 1)) marks) scanned;
    }

pub keep-requires : goal.keep-requires
keep-requires g c = can_keep (run_ahead g (goal.at.keep-requires g c).After-stays c.in-Some.first c.in-Some.ensures.some)

pub returns-in-Some-clause-on : goal.returns-in-Some-clause-on
returns-in-Some-clause-on g c =
    let next = run_ahead g (goal.at.returns-in-Some-clause-on g c).After-stays c.in-Some.first c.in-Some.ensures.some in
    on_ok_weaker c.keep.result
    (λ (kept : HasKept c.args.self.now.last c.args.walk.now c.keep.new.walk c.in-Some.first c.at-mark.result.1). passes_run next c.keep.new.walk kept)
    c.keep.ensures

-- no line was asked for
none_asked : {T E : Type 0} (r : Result T E) (lines asked : List ℕ) → OnErr r (AsksFront lines asked asked)
none_asked (Ok x) lines asked = tt
none_asked (Err e) lines asked = (lines, refl)

pub returns-in-Some-clause-front : goal.returns-in-Some-clause-front
returns-in-Some-clause-front g c =
    let q = g.Q.Lines.state c.args.lines.now in
    none_asked c.keep.result (ahead c.args.self.now q c.args.walk.now).asked q.asked

pub returns-in-None-clause-on : goal.returns-in-None-clause-on
returns-in-None-clause-on g c =
    let t = c.args.self.now in
    let q = g.Q.Lines.state c.args.lines.now in
    let r = g.Q.Lines.state c.scan.new.lines in
    let next = line_ahead g (goal.at.returns-in-None-clause-on g c).After-stays c.in-None.ensures.none in
    on_ok_weaker c.scan.result
    (λ (passed : HasScanned t.by q r c.args.walk.now c.scan.new.walk). passes_line next r c.scan.new.walk passed c.scan.ensures.contents)
    c.scan.ensures.scanned

pub returns-in-None-clause-front : goal.returns-in-None-clause-front
returns-in-None-clause-front g c =
    let q = g.Q.Lines.state c.args.lines.now in
    let r = g.Q.Lines.state c.scan.new.lines in
    let next = line_ahead g (goal.at.returns-in-None-clause-front g c).After-stays c.in-None.ensures.none in
    on_err_weaker c.scan.result
    (λ (front : AsksFront ((c.args.walk.now.passed + 1) ∷ []) q.asked r.asked). front_of_all next r front)
    c.scan.ensures.front
