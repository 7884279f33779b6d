use Rattle.std.proofs.Common.{◌≡◌, [], ◌∷◌, sym, subst}
use Rattle.std.specs.Prelude.{Option, MatchOption, IfNone}
use Rattle.line_hunks.specs.declared.run.Run.{Run}
use Rattle.line_hunks.proofs.Popping.{front-none, front-named, front-reach, parted-front, popped-front, front-back}
use Rattle.line_hunks.proofs.sides.Sides.pop_front.Goals as goal

pub returns-in_err-id-clause-front : goal.returns-in_err-id-clause-front
returns-in_err-id-clause-front c =
    subst (λ (o : Option Run). MatchOption o (c.args.self.now.front ≡ []) (λ run. c.args.self.now.front ≡ run ∷ c.args.self.now.front)) (sym c.from_residual.ensures)
    (front-none c.self.inside.tree.items c.self.inside.before c.self.inside.lines c.self.invariant c.self.inside.tree.spare c.args.self.now c.self.view_is c.in_err-id.was)

pub returns-in_err-id-clause-none : goal.returns-in_err-id-clause-none
returns-in_err-id-clause-none c =
    subst (λ (o : Option Run). IfNone o (c.args.self.now.front ≡ [])) (sym c.from_residual.ensures)
    (front-none c.self.inside.tree.items c.self.inside.before c.self.inside.lines c.self.invariant c.self.inside.tree.spare c.args.self.now c.self.view_is c.in_err-id.was)

pub get-run-requires : goal.get-run-requires
get-run-requires c =
    front-named c.self.inside.tree.items c.self.inside.before c.self.inside.lines c.self.invariant c.self.inside.tree.spare c.args.self.now c.self.view_is c.in_ok-id.id c.in_ok-id.was

pub prev-self-inside-requires : goal.prev-self-inside-requires
prev-self-inside-requires c =
    front-named c.self.inside.tree.items c.self.inside.before c.self.inside.lines c.self.invariant c.self.inside.tree.spare c.args.self.now c.self.view_is c.in_ok-id.id c.in_ok-id.was

pub remove-requires : goal.remove-requires
remove-requires c =
    front-named c.self.inside.tree.items c.self.inside.before c.self.inside.lines c.self.invariant c.self.inside.tree.spare c.args.self.now c.self.view_is c.in_ok-id.id c.in_ok-id.was

pub overflow_sub-self : goal.overflow_sub-self
overflow_sub-self c =
    front-reach c.self.inside.tree.items c.self.inside.before c.self.inside.lines c.self.invariant c.self.inside.tree.spare c.args.self.now c.self.view_is c.in_ok-id.id c.in_ok-id.was c.get-run.result c.get-run.ensures

pub invariant_of-self : goal.invariant_of-self
invariant_of-self c =
    parted-front c.self.inside.tree.items c.self.inside.before c.self.inside.lines c.self.invariant c.self.inside.tree.spare c.args.self.now c.self.view_is c.in_ok-id.id c.in_ok-id.was c.get-run.result c.get-run.ensures c.prev-self-inside.result c.prev-self-inside.ensures c.remove.new.self.items c.remove.ensures.items c.remove.new.self.spare

pub returns-clause-front : goal.returns-clause-front
returns-clause-front c =
    popped-front c.self.inside.tree.items c.self.inside.before c.self.inside.lines c.self.invariant c.self.inside.tree.spare c.args.self.now c.self.view_is c.in_ok-id.id c.in_ok-id.was c.get-run.result c.get-run.ensures c.prev-self-inside.result c.prev-self-inside.ensures c.remove.new.self.items c.remove.ensures.items c.remove.new.self.spare

pub returns-clause-back : goal.returns-clause-back
returns-clause-back c =
    front-back c.self.inside.tree.items c.self.inside.before c.self.inside.lines c.self.invariant c.self.inside.tree.spare c.args.self.now c.self.view_is c.in_ok-id.id c.in_ok-id.was c.get-run.result c.get-run.ensures c.prev-self-inside.result c.prev-self-inside.ensures c.remove.new.self.items c.remove.ensures.items c.remove.new.self.spare
