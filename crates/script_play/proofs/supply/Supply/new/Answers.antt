use Rattle.std.proofs.Common.{◌-◌, ◌++◌, false, refl, sym, ap, ◌∙◌, arith}
use Rattle.script_play.specs.Script.{lines_from}
use Rattle.script_play.proofs.SupplyLemmas.{script-none, script-some, given_all}
use Rattle.script_play.proofs.supply.Supply.new.Goals as goal

pub returns-then-count-eq0 : goal.returns-then-count-eq0
returns-then-count-eq0 c =
    given_all c.new.result.items 0 0 _ (rw c.new.ensures (omega arith)) refl
    ∙ sym (script-none c.args.count c.args.seed c.if-count-eq0.true)

pub returns : goal.returns
returns c =
    ap (λ z. z ++ lines_from (c.args.count - 1) (record { x = c.args.seed; units = 0; pending = false })) c.line_bytes.ensures.bytes
    ∙ sym (script-some c.args.count c.args.seed (omega arith))
