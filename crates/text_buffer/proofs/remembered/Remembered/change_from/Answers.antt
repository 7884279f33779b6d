use Rattle.std.specs.Prelude.{IfSome}
use Rattle.std.proofs.Common.{sym, subst}
use Rattle.std.specs.List.{All}
use Rattle.piece_tree.specs.Pieces.{IsFound}
use Rattle.text_buffer.proofs.remembered.Remembered.change_from.Goals as goal

pub returns-in-Some : goal.returns-in-Some
returns-in-Some c = λ old new all kept told.
    c.push_in_room.ensures new (subst (All (IsFound new)) (sym c.self.view_is) (c.forget_from.ensures old new all kept))
    (subst (λ o. IfSome o (IsFound new)) c.in-Some.is told)

pub returns-in_default : goal.returns-in_default
returns-in_default c = λ old new all kept told.
    subst (All (IsFound new)) (sym c.self.view_is) (c.forget_from.ensures old new all kept)
