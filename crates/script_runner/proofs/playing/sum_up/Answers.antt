use Rattle.std.proofs.Common.{refl, ap}
use Rattle.model_group.proofs.Lists.{doc_in-is}
use Rattle.script_runner.proofs.PlayLemmas.{play_ends, summed_up}
use Rattle.script_runner.proofs.playing.sum_up.Goals as goal

pub refused_of-requires : goal.refused_of-requires
refused_of-requires c =
    play_ends c.args.count c.args.seed c.in-Ok.session c.serve-served.new.session c.in-Ok.ensures (record c.new-src.result { faults = 0 }) (record c.serve-served.new.src { faults = 0 })
    c.new-tally.result c.serve-served.new.out (ap (λ s. s.left) c.new-src.ensures) c.serve-served.result c.requires.count refl
    c.serve-served.ensures

pub returns : goal.returns
returns c =
    summed_up c.args.count c.args.seed c.in-Ok.session c.serve-served.new.session c.in-Ok.ensures (record c.new-src.result { faults = 0 }) (record c.serve-served.new.src { faults = 0 })
    c.new-tally.result c.serve-served.new.out (ap (λ s. s.left) c.new-src.ensures) c.serve-served.result c.in_ok-refused.refused
    c.in_ok-refused.ensures c.new-tally.ensures c.serve-served.ensures
    _ c.doc-model.result.now.document (doc_in-is _ 0 _ c.doc-model.ensures) refl refl c.len.ensures c.line_count.ensures c.count.ensures c.sum.ensures
