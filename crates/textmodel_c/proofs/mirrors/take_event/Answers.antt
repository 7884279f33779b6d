use Rattle.std.proofs.Common.{refl}
use Rattle.textmodel_c.proofs.mirrors.take_event.Goals as goal

pub returns : goal.returns
returns c = (
  record {
    outcome = c.carry_out-outcome.result;
    status = c.status_of.ensures;
    told = c.carry_out-outcome.ensures;
    reply = refl;
    telling = refl;
  },
  c.gap_out.ensures,
)
