use Rattle.std.proofs.Common.{◌≡◌, None, Some, ap, sym, subst, ◌∙◌}
use Rattle.piece_tree.specs.Pieces.{goes_on_from, span_of, pieces_of}
use Rattle.piece_tree.specs.Runs.{last_named}
use Rattle.piece_tree.specs.Splicing.{IsJoint}
use Rattle.piece_tree.proofs.Neighbours.{last_none}
use Rattle.piece_tree.proofs.Joints.{from_last}
use Rattle.piece_tree.proofs.cut.joint.Goals as goal

pub returns-in_err-before : goal.returns-in_err-before
returns-in_err-before c = λ us vs x e.
    let none = last_none us (sym c.in_err-before.was ∙ c.piece_before.ensures us vs x e) in
    subst (IsJoint us (span_of c.args.piece)) (sym c.from_residual-in_err-before.ensures)
    (subst (λ o. IsJoint us (span_of o) None) (sym c.in_ok-piece.was) (ap (λ l. goes_on_from (pieces_of l) c.in_ok-piece.piece.span) none))

pub returns-then-goes_on : goal.returns-then-goes_on
returns-then-goes_on c = λ us vs x e.
    let before = c.in_ok-before.before in let span = c.in_ok-piece.piece.span in
    let is : last_named us ≡ Some before = sym (c.piece_before.ensures us vs x e) ∙ c.in_ok-before.was in
    subst (λ o. IsJoint us (span_of o) (Some before)) (sym c.in_ok-piece.was) (is, from_last us before span is ∙ sym c.goes_on.ensures ∙ c.if-goes_on.true)

pub returns-else-goes_on : goal.returns-else-goes_on
returns-else-goes_on c = λ us vs x e.
    let before = c.in_ok-before.before in let span = c.in_ok-piece.piece.span in
    let is : last_named us ≡ Some before = sym (c.piece_before.ensures us vs x e) ∙ c.in_ok-before.was in
    subst (λ o. IsJoint us (span_of o) None) (sym c.in_ok-piece.was) (from_last us before span is ∙ sym c.goes_on.ensures ∙ c.if-goes_on.false)
