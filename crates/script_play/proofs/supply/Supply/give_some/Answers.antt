use Rattle.std.proofs.Common.{◌-◌, ◌≤◌, sym, ◌∙◌, ap, arith, take, drop, length, length-drop, length-take}
use Rattle.std.proofs.lemmas.List.{take_all}
use Rattle.script_play.specs.Script.{lines_from}
use Rattle.script_play.proofs.SupplyLemmas.{given_front, given_all}
use Rattle.script_play.proofs.supply.Supply.give_some.Goals as goal

pub returns-clause-given : goal.returns-clause-given
returns-clause-given c =
    let old = c.refill.new.self in
    let n = c.copy_front-count.result in
    let line = c.as_slice.result.now in
    sym c.refill.ensures.left
    ∙ given_front old.line.items c.copy_front-count.new.buf (lines_from old.lines_left old.play) old.given n
    (c.copy_front-count.ensures.front
    ∙ ap (λ z. take n z) (take_all (length line - old.given) (drop old.given line) (omega (arith, length-drop old.given line)))
    ∙ ap (λ z. take n (drop old.given z)) c.as_slice.ensures.value)

pub returns-clause-end : goal.returns-clause-end
returns-clause-end c = λ none some.
    let old = c.refill.new.self in
    let line = c.as_slice.result.now in
    let whole : length old.line.items ≤ old.given =
    omega (arith, length-take (length line - old.given) (drop old.given line), length-drop old.given line, ap length c.as_slice.ensures.value) in
    given_all old.line.items _ old.lines_left old.play (omega arith) (c.refill.ensures.end (omega arith))
