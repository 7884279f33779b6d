use Rattle.std.proofs.Common.{◌≤◌, length, ap, arith}
use Rattle.std.proofs.lemmas.List.{nil_from_length}
use Rattle.piece_tree.specs.Runs.{replaced}
use Rattle.piece_tree.proofs.PutPieces.{puts_none, puts_joined}
use Rattle.piece_tree.proofs.put.put.Goals as goal

pub returns-then-all-eq0-clause-put : goal.returns-then-all-eq0-clause-put
returns-then-all-eq0-clause-put c = λ us x vs e.
    let none = c.if-all-eq0.true in
    let size = ap length (c.get-count.ensures.run us x vs e) in
    puts_none c.args.id c.args.to c.args.with.now us x vs c.remove.new.self.runs (nil_from_length c.args.with.now (omega arith)) (omega arith) (omega arith) (c.remove.ensures.runs us x vs e)

pub returns-clause-put : goal.returns-clause-put
returns-clause-put c = λ us x vs e.
    let id = c.args.id in let to = c.args.to in let with = c.args.with.now in let can = c.requires.can in
    let size = ap length (c.get-count.ensures.run us x vs e) in
    let same = ap length (c.get-count.ensures.run can.earlier can.pieces can.later can.place) in
    let within : id.place ≤ length x = omega (arith, can.ordered, can.within) in
    puts_joined id to with us x vs c.join_next.new.runs.runs c.first_put.result within
    (c.join_next.ensures.joined us (replaced id.place to with x) vs (c.replace_in.ensures.runs us x vs e)) c.first_put.ensures
