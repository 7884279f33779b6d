use Rattle.std.proofs.Common.{◌≡◌, ◌+◌, ◌-◌, ◌<◌, arith, ap, get_or, inl, inr}
use Rattle.std.proofs.lemmas.Bool.{cases_lt}
use Rattle.text_rules.specs.Lines.{line_start}
use Rattle.text_rules.specs.Breaks.{break_ends, count_to}
use Rattle.chunk_buffers.specs.Buffer.{cut}
use Rattle.line_starts.specs.Starts.{break_count}
use Rattle.chunk_buffers.proofs.Cuts.{nth_of_whole, nth_of_cut}
use Rattle.chunk_buffers.proofs.buffer.Buffer.nth_break.Goals as goal

pub returns : goal.returns
returns c =
    let x = c.args.self.now.units in let i = c.args.k - 1 in
    let there : i < break_count (cut x c.args.from c.args.to) = omega arith in
    let number : i + 2 ≡ c.args.k + 1 = omega arith in
    let index : count_to c.args.from (break_ends 0 x) + c.args.k - 1 ≡ count_to c.args.from (break_ends 0 x) + i = omega arith in
    let same = ap (line_start (cut x c.args.from c.args.to)) number in
    elim (cases_lt (count_to c.args.to (break_ends 0 x)) (count_to c.args.from (break_ends 0 x) + c.args.k)) [
      | inl past ↦ omega (arith, same, c.nth_end.ensures.past past, nth_of_cut x c.args.from c.args.to c.requires.ordered i there (omega arith))
      | inr inside ↦ omega (arith, same, c.nth_end.ensures.there inside, ap (λ n. get_or (break_ends 0 x) n 0) index, nth_of_whole x c.args.from c.args.to c.requires.ordered i there (omega arith))
    ]
