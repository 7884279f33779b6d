use Rattle.std.proofs.Common.{arith, ◌≡◌, ◌+◌, subst, drop, ap}
use Rattle.std.proofs.lemmas.Grind.{common_steps}
use Rattle.script_streams.specs.Streams.{SourceState, Given}
use Rattle.memory_streams.proofs.SupplyLemmas.{Given-front, shown}
use Rattle.memory_streams.proofs.supply.Supply.give.Goals as goal
use Rattle.memory_streams.proofs.supply.Supply.give.Goals.{then-count-eq0, else-count-eq0}

pub returns-clause-given : goal.returns-clause-given
returns-clause-given c =
    let P : SourceState → Type 0 = λ old.
    Given c.copy_front-count.result old
    (shown c.self.inside.bytes.items (c.self.inside.given + c.copy_front-count.result) c.if-count-eq0.self)
    c.copy_front-count.new.buf
    in
    let left : c.left-left.result.now ≡ drop c.self.inside.given c.self.inside.bytes.items = cc (ap (λ (s : SourceState). s.left) c.self.view_is) in
    subst P c.self.view_is
    (Given-front c.self.inside.bytes.items c.copy_front-count.new.buf c.self.inside.given c.args.most c.copy_front-count.result
    c.self.inside.ended c.if-count-eq0.self
    (grind (arith, common_steps)) c.requires
    (grind (arith, common_steps, left)) (grind (arith, common_steps, left))
    (elim c.if-count-eq0.branch [ then-count-eq0 w ↦ grind (arith, common_steps) | else-count-eq0 w ↦ grind (arith, common_steps) ]))
