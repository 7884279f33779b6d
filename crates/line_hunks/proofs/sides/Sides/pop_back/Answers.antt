use Rattle.std.proofs.Common.{◌≡◌, [], ◌∷◌, sym, subst}
use Rattle.std.specs.Prelude.{Option, MatchOption, IfNone}
use Rattle.line_hunks.specs.declared.run.Run.{Run}
use Rattle.line_hunks.proofs.Pushing.{named-before}
use Rattle.line_hunks.proofs.Popping.{back-none, back-named, parted-back, popped-back, back-front}
use Rattle.line_hunks.proofs.sides.Sides.pop_back.Goals as goal

pub next_after-requires : goal.next_after-requires
next_after-requires c =
    named-before c.self.inside.tree.items c.self.inside.before c.self.inside.lines c.self.invariant c.self.inside.tree.spare c.args.self.now c.self.view_is

pub returns-in_err-id-clause-back : goal.returns-in_err-id-clause-back
returns-in_err-id-clause-back c =
    subst (λ (o : Option Run). MatchOption o (c.args.self.now.back ≡ []) (λ run. c.args.self.now.back ≡ run ∷ c.args.self.now.back)) (sym c.from_residual.ensures)
    (back-none c.self.inside.tree.items c.self.inside.before c.self.inside.lines c.self.invariant c.self.inside.tree.spare c.args.self.now c.self.view_is c.next_after.result c.next_after.ensures c.in_err-id.was)

pub returns-in_err-id-clause-none : goal.returns-in_err-id-clause-none
returns-in_err-id-clause-none c =
    subst (λ (o : Option Run). IfNone o (c.args.self.now.back ≡ [])) (sym c.from_residual.ensures)
    (back-none c.self.inside.tree.items c.self.inside.before c.self.inside.lines c.self.invariant c.self.inside.tree.spare c.args.self.now c.self.view_is c.next_after.result c.next_after.ensures c.in_err-id.was)

pub get-run-requires : goal.get-run-requires
get-run-requires c =
    back-named c.self.inside.tree.items c.self.inside.before c.self.inside.lines c.self.invariant c.self.inside.tree.spare c.args.self.now c.self.view_is c.next_after.result c.next_after.ensures c.in_ok-id.id c.in_ok-id.was

pub remove-requires : goal.remove-requires
remove-requires c =
    back-named c.self.inside.tree.items c.self.inside.before c.self.inside.lines c.self.invariant c.self.inside.tree.spare c.args.self.now c.self.view_is c.next_after.result c.next_after.ensures c.in_ok-id.id c.in_ok-id.was

pub invariant_of-self : goal.invariant_of-self
invariant_of-self c =
    parted-back c.self.inside.tree.items c.self.inside.before c.self.inside.lines c.self.invariant c.self.inside.tree.spare c.args.self.now c.self.view_is c.next_after.result c.next_after.ensures c.in_ok-id.id c.in_ok-id.was c.get-run.result c.get-run.ensures c.remove.new.self.items c.remove.ensures.items c.remove.new.self.spare

pub returns-clause-back : goal.returns-clause-back
returns-clause-back c =
    popped-back c.self.inside.tree.items c.self.inside.before c.self.inside.lines c.self.invariant c.self.inside.tree.spare c.args.self.now c.self.view_is c.next_after.result c.next_after.ensures c.in_ok-id.id c.in_ok-id.was c.get-run.result c.get-run.ensures c.remove.new.self.items c.remove.ensures.items c.remove.new.self.spare

pub returns-clause-front : goal.returns-clause-front
returns-clause-front c =
    back-front c.self.inside.tree.items c.self.inside.before c.self.inside.lines c.self.invariant c.self.inside.tree.spare c.args.self.now c.self.view_is c.next_after.result c.next_after.ensures c.in_ok-id.id c.in_ok-id.was c.get-run.result c.get-run.ensures c.remove.new.self.items c.remove.ensures.items c.remove.new.self.spare
