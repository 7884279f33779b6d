-- What may be added to the decorations of a document.
use Rattle.std.specs.Prelude.{◌<◌, ◌≤◌}
use Rattle.decoration_rules.specs.declared.TheConstants.{GREATEST_MODE}
use Rattle.decoration_rules.specs.declared.NewDeco.{NewDeco}
use Rattle.decoration_rules.specs.Moves.{offset_limit}

-- the decoration may be added
pub record IsNew (new : NewDeco) : Type 0 where
  pub upright : new.span.start ≤ new.span.end
  pub small : new.span.end < offset_limit
  pub mode : new.stick ≤ GREATEST_MODE
