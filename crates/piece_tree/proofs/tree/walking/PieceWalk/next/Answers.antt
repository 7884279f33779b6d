use Rattle.std.proofs.Common.{ap, sym, subst, ◌∙◌}
use Rattle.piece_tree.proofs.Walks.{StandsIn, stands_still, goes_in, moves_in, starts_in}
use Rattle.piece_tree.proofs.tree.walking.PieceWalk.next.Given.{Over}
use Rattle.piece_tree.proofs.tree.walking.PieceWalk.next.Goals.{In_ok-run, then-is_none+in-Some, else-is_none}
use Rattle.piece_tree.proofs.tree.walking.PieceWalk.next.Goals as goal

-- the walk has a current run, whether from this call or an earlier one
stands : (g : Over) (c : In_ok-run g) → StandsIn c.if-is_none.self-inside.pieces.now c.if-is_none.self-inside.place c.if-is_none.self-inside.behind.left
stands g c =
    let was = c.self.inside in
    elim c.if-is_none.branch [
      | then-is_none+in-Some w ↦ subst (λ s. StandsIn s.pieces.now s.place s.behind.left) (sym w.self-inside-is)
          (goes_in was.run was.pieces.now was.place was.behind.left c.self.invariant w.if-is_none.ensures (w.in-Some.told.0, w.in-Some.told.1.now) w.next.new.self.left w.in-Some.ensures.run w.in-Some.ensures.few)
      | else-is_none w ↦ subst (λ s. StandsIn s.pieces.now s.place s.behind.left) (sym w.self-inside-is)
          (stands_still was.run was.pieces.now was.place was.behind.left c.self.invariant c.in_ok-run.run' (ap (λ s. s.run) (sym w.self-inside-is) ∙ c.in_ok-run.was))
    ]

pub invariant_of-self-then-self : goal.invariant_of-self-then-self
invariant_of-self-then-self g c = starts_in _ _ (stands g (goal.at.invariant_of-self-then-self g c).In_ok-run 0).full

pub invariant_of-self-else-self : goal.invariant_of-self-else-self
invariant_of-self-else-self g c =
    let at = c.if-is_none.self-inside in
    moves_in at.run c.in_ok-run.run' c.in_ok-run.was at.pieces.now at.place at.behind.left (stands g (goal.at.invariant_of-self-else-self g c).In_ok-run) c.if-self.false
