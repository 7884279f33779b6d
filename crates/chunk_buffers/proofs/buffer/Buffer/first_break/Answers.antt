use Rattle.std.proofs.Common.{◌≡◌, ◌+◌, ◌<◌, true, false, drop, get_or, ap, sym, ◌∙◌, arith}
use Rattle.text_rules.specs.Breaks.{break_ends, count_to, joins_pair}
use Rattle.line_starts.specs.Starts.{break_count}
use Rattle.chunk_buffers.specs.Buffer.{cut}
use Rattle.chunk_buffers.proofs.Cuts.{break_count_of_cut, break_count_if, counts_rise, nth_of_whole, nth_of_cut}
use Rattle.chunk_buffers.proofs.buffer.Buffer.first_break.Goals as goal

pub returns-in-Some : goal.returns-in-Some
returns-in-Some c =
    let x = c.args.self.now.units in let (counts, behind, is) = c.in-Some.ensures in
    let some : 0 < break_count (cut x c.args.from c.args.to) = omega (arith, counts, break_count_of_cut x c.args.from c.args.to c.requires.ordered) in
    let index = ap (λ i. get_or (break_ends 0 x) i 0) (let e : count_to c.args.from (break_ends 0 x) + 0 ≡ count_to c.args.from (break_ends 0 x) = omega arith in e) in
    (some, omega (arith, behind, is, index, nth_of_whole x c.args.from c.args.to c.requires.ordered 0 some (omega (arith, counts))))

pub returns-in-None : goal.returns-in-None
returns-in-None c =
    let x = c.args.self.now.units in let none = c.in-None.ensures in
    let split = sym (ap (λ x. joins_pair (cut x c.args.from c.args.to) (drop c.args.to x)) c.units.ensures) ∙ sym c.cuts_pair.ensures ∙ c.if-cuts_pair.true in
    let count = break_count_if x c.args.from c.args.to c.requires.ordered true split in
    let some : 0 < break_count (cut x c.args.from c.args.to) = omega (arith, count, counts_rise x c.args.from c.args.to c.requires.ordered) in
    (some, omega (arith, none, nth_of_cut x c.args.from c.args.to c.requires.ordered 0 some (omega (arith, none))))

pub returns-in-None-2 : goal.returns-in-None-2
returns-in-None-2 c =
    let x = c.args.self.now.units in
    let split = sym (ap (λ x. joins_pair (cut x c.args.from c.args.to) (drop c.args.to x)) c.units.ensures) ∙ sym c.cuts_pair.ensures ∙ c.if-cuts_pair.false in
    omega (arith, c.in-None-2.ensures, break_count_if x c.args.from c.args.to c.requires.ordered false split)
