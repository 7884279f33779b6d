-- Properties of both texts of a recast.
use Rattle.std.proofs.Common.{◌≡◌, ◌≤◌, ◌<◌, ℕ, List, length, sym, subst, arith}
use Rattle.decoration_rules.specs.declared.LineMove.{LineMove}
use Rattle.decoration_rules.specs.Moves.{offset_limit}
use Rattle.decoration_rules.specs.Lines.{AreLineMoves}
use Rattle.unit_text.specs.Kinds.{IsOfKind}
use Rattle.unit_text.proofs.KindLaws.{normalized-of_kind}
use Rattle.text_rules.specs.declared.TheConstants.{MOST_TEXT_UNITS}
use Rattle.decoration_rules.specs.LineMoves.{line_moves, HaveSameContents}
use Rattle.decoration_rules.specs.Recasts.{SideState, AreSides}
use Rattle.decoration_rules.proofs.Contents.{contents-normalized}
use Rattle.decoration_rules.proofs.LineMoves.{are_line_moves}

-- line moves between texts fit, since the maximum length of a text is far below the offset limit
are_moves_of_text : (x y : List ℕ) (moves : List LineMove) → HaveSameContents x y → length y ≤ MOST_TEXT_UNITS → moves ≡ line_moves x y → AreLineMoves moves
are_moves_of_text x y moves same fits is =
    let short : length y < offset_limit = omega (arith, fits) in
    subst AreLineMoves (sym is) (are_line_moves x y same short)

module _ (before after : SideState) (sides : AreSides before after) where
  pub same_contents : HaveSameContents before.units after.units
  same_contents = subst (HaveSameContents before.units) (sym sides.same) (contents-normalized after.kind before.units)

  pub after_of_kind : IsOfKind after.kind after.units
  after_of_kind = subst (IsOfKind after.kind) (sym sides.same) (normalized-of_kind after.kind before.units)

  pub lines_on : AreLineMoves after.moves
  lines_on = are_moves_of_text before.units after.units after.moves same_contents sides.after_fits sides.on

  pub lines_back : AreLineMoves before.moves
  lines_back = are_moves_of_text after.units before.units before.moves (sym same_contents) sides.before_fits sides.back
