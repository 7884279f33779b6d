use Rattle.std.proofs.Common.{[], refl, ap, sym, subst}
use Rattle.piece_tree.specs.Pieces.{IsFound}
use Rattle.piece_tree.specs.Runs.{entries_of}
use Rattle.piece_tree.proofs.put.put_only.Goals as goal

pub returns-clause-told : goal.returns-clause-told
returns-clause-told c =
    subst (IsFound (entries_of c.insert_first-run.new.self.runs)) (sym c.found.ensures)
    (record { earlier = []; later = entries_of c.args.runs.now.runs; place = ap entries_of c.insert_first-run.ensures.runs; before = refl })
