use Rattle.std.proofs.Common.{◌≡◌, ◌+◌, ◌-◌, length, get_or, leb, ap, ◌∙◌, arith}
use Rattle.std.proofs.lemmas.List.Sums.{prefix_len-le-length}
use Rattle.text_rules.specs.Breaks.{break_ends, count_to}
use Rattle.chunk_buffers.proofs.Cuts.{break_count_most, ends_by, ends_behind}
use Rattle.chunk_buffers.proofs.buffer.Buffer.nth_end.Goals.{After-len}
use Rattle.chunk_buffers.proofs.buffer.Buffer.nth_end.Goals as goal

pub overflow_add-index : goal.overflow_add-index
overflow_add-index c =
    let few = prefix_len-le-length (λ e. leb e c.args.to) (break_ends 0 c.args.self.now.units) in
    omega (arith, few, break_count_most c.args.self.now.units c.args.from c.args.to c.requires.ordered)

-- there is a place for each break
count_is : (c : After-len) → c.len.result ≡ length (break_ends 0 c.args.self.now.units)
count_is c = c.len.ensures ∙ c.self.inside.ends.ok.0 ∙ ap length c.self.invariant.0 ∙ ap (λ b. length (break_ends 0 b.units)) c.self.view_is

pub returns-then-index-len-clause-there : goal.returns-then-index-len-clause-there
returns-then-index-len-clause-there c = λ there.
    let all = count_is (goal.at.returns-then-index-len-clause-there c).After-len in
    let most = prefix_len-le-length (λ e. leb e c.args.to) (break_ends 0 c.args.self.now.units) in
    absurd (omega (arith, there, all, most, c.ends_to.ensures.count))

pub end-requires : goal.end-requires
end-requires c = omega (arith, count_is (goal.at.end-requires c).After-len)

pub returns-clause-there : goal.returns-clause-there
returns-clause-there c = λ there.
    let x = c.args.self.now.units in
    let i : count_to c.args.from (break_ends 0 x) + c.args.k - 1 ≡ c.ends_to.result + (c.args.k - 1) = omega (arith, c.ends_to.ensures.count) in
    let by = ends_by c.args.to x (c.ends_to.result + (c.args.k - 1)) (omega (arith, c.ends_to.ensures.count)) in
    let same = ap (λ n. get_or (break_ends 0 x) n 0) i in
    omega (arith, by, same, c.end.ensures, c.min.ensures)

pub returns-clause-past : goal.returns-clause-past
returns-clause-past c = λ past.
    let x = c.args.self.now.units in let all = count_is (goal.at.returns-clause-past c).After-len in
    let behind = ends_behind c.args.to x (c.ends_to.result + (c.args.k - 1)) (omega (arith, c.ends_to.ensures.count)) (omega (arith, all)) in
    omega (arith, behind, c.end.ensures, c.min.ensures)

pub returns-clause-within : goal.returns-clause-within
returns-clause-within c =
    let x = c.args.self.now.units in let all = count_is (goal.at.returns-clause-within c).After-len in
    let behind = ends_behind c.args.from x (c.ends_to.result + (c.args.k - 1)) (omega (arith, c.ends_to.ensures.count)) (omega (arith, all)) in
    (omega (arith, behind, c.end.ensures, c.min.ensures), omega (arith, c.min.ensures))
