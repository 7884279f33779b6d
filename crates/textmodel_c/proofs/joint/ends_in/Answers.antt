use Rattle.std.proofs.Common.{◌≡◌, length, sym, arith}
use Rattle.textmodel_c.proofs.BatchLemmas.{ends_in-none, ends_in-last}
use Rattle.textmodel_c.proofs.joint.ends_in.Goals as goal

pub returns-in-Some : goal.returns-in-Some
returns-in-Some c =
    let item = c.in-Some.ensures.item in
    sym (ends_in-last c.args.batches.now c.in-Some.last.now item.3.0 (sym (item.3.1 c.in-Some.last.now)) c.args.doc)

pub returns-in-None : goal.returns-in-None
returns-in-None c =
    let none : length c.args.batches.now ≡ 0 = omega (arith, c.in-None.ensures.item.3) in
    sym (ends_in-none c.args.batches.now c.args.doc none)
