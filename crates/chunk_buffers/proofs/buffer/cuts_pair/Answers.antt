use Rattle.std.proofs.Common.{arith, sym, ◌∙◌}
use Rattle.std.proofs.lemmas.Bool.{ne_eqb, and_left}
use Rattle.chunk_buffers.proofs.Cuts.{joins_pair_of_cut}
use Rattle.chunk_buffers.proofs.buffer.cuts_pair.Goals as goal

pub returns-then-units-to-eq-CARRIAGE_RETURN : goal.returns-then-units-to-eq-CARRIAGE_RETURN
returns-then-units-to-eq-CARRIAGE_RETURN c =
    rw (joins_pair_of_cut c.args.units.now c.args.from c.args.to (omega arith) c.requires.inside, c.if-units-to-eq-CARRIAGE_RETURN.true)

pub returns-else-units-to-eq-CARRIAGE_RETURN : goal.returns-else-units-to-eq-CARRIAGE_RETURN
returns-else-units-to-eq-CARRIAGE_RETURN c =
    let other = ne_eqb _ _ c.if-units-to-eq-CARRIAGE_RETURN.false in
    other ∙ sym (joins_pair_of_cut c.args.units.now c.args.from c.args.to (omega arith) c.requires.inside ∙ and_left _ _ other)
