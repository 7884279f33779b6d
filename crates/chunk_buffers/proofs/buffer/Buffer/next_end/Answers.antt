use Rattle.std.proofs.Common.{◌≡◌, ◌<◌, length, get_or, leb, ap, ◌∙◌, arith}
use Rattle.std.proofs.lemmas.List.Sums.{prefix_len-le-length}
use Rattle.text_rules.specs.Breaks.{break_ends, count_to}
use Rattle.chunk_buffers.proofs.Cuts.{next_behind, next_counts, next_past}
use Rattle.chunk_buffers.proofs.buffer.Buffer.next_end.Goals.{After-len}
use Rattle.chunk_buffers.proofs.buffer.Buffer.next_end.Goals as goal

-- there is a place for each break
count_is : (c : After-len) → c.len.result ≡ length (break_ends 0 c.args.self.now.units)
count_is c = c.len.ensures ∙ c.self.inside.ends.ok.0 ∙ ap length c.self.invariant.0 ∙ ap (λ b. length (break_ends 0 b.units)) c.self.view_is

pub returns-then-index-len : goal.returns-then-index-len
returns-then-index-len c =
    let most = prefix_len-le-length (λ e. leb e c.args.to) (break_ends 0 c.args.self.now.units) in
    omega (arith, most, count_is (goal.at.returns-then-index-len c).After-len, c.ends_to-index.ensures.count)

pub returns-then-end-to : goal.returns-then-end-to
returns-then-end-to c =
    let x = c.args.self.now.units in let all = count_is (goal.at.returns-then-end-to c).After-len in
    let same = ap (λ i. get_or (break_ends 0 x) i 0) c.ends_to-index.ensures.count in
    next_past x c.args.from c.args.to (omega (arith, all, c.ends_to-index.ensures.count)) (omega (arith, same, c.end-end.ensures))

pub returns : goal.returns
returns c =
    let x = c.args.self.now.units in let all = count_is (goal.at.returns c).After-len in
    let same = ap (λ i. get_or (break_ends 0 x) i 0) c.ends_to-index.ensures.count in
    let some : count_to c.args.from (break_ends 0 x) < length (break_ends 0 x) = omega (arith, all, c.ends_to-index.ensures.count) in (
      next_counts x c.args.from c.args.to some (omega (arith, same, c.end-end.ensures)),
      omega (arith, same, c.end-end.ensures, next_behind x c.args.from c.args.to some),
      c.end-end.ensures ∙ same,
    )
