use Rattle.std.proofs.Common.{◌≡◌, ◌+◌, ◌-◌, ◌≤◌, ℕ, List, length, refl, ap, ◌∙◌, arith}
use Rattle.piece_tree.specs.Pieces.{pieces_of}
use Rattle.text_rules.specs.Breaks.{count_to, break_ends}
use Rattle.text_buffer.specs.Text.{spelled, one_if}
use Rattle.text_buffer.specs.Edits.{span_between}
use Rattle.text_buffer.proofs.Spots.{count_before, spot_within}
use Rattle.text_buffer.proofs.Touched.{first_within, new_count, counted_is}
use Rattle.text_buffer.proofs.view.View.dirty_between.Goals as goal
use Rattle.text_buffer.proofs.view.View.dirty_between.Goals.{After-one_if}

abbrev text_in : After-one_if → List ℕ
text_in c = spelled c.args.self.now.chunks.now.buffers (pieces_of c.args.self.now.pieces.now.entries)

within : (c : After-one_if) → c.args.ends.now.end.offset ≤ length (text_in c)
within c =
    let end = c.args.ends.now.end in
    spot_within c.args.self.now.pieces.now c.args.self.now.chunks.now end.found end.offset c.requires.view.text c.requires.ends.end.found

-- the breaks up to the start, without one of a CR right before it that ends its line alone
first_breaks : (c : After-one_if) → c.breaks_before-counted.result ≡ count_to (c.args.ends.now.start.offset - c.one_if.result) (break_ends 0 (text_in c)) + c.one_if-own.result
first_breaks c =
    let start = c.args.ends.now.start in let is = c.requires.ends.start in
    let there = spot_within c.args.self.now.pieces.now c.args.self.now.chunks.now start.found start.offset c.requires.view.text is.found in
    omega (
      arith,
      c.breaks_before-counted.ensures.count,
      count_before (text_in c) start.offset start.after_return start.before_feed there is.after_return is.before_feed,
      c.one_if-own.ensures ∙ ap one_if c.ends_line.ensures,
      ap (λ (n : ℕ). count_to (start.offset - n) (break_ends 0 (text_in c))) c.one_if.ensures,
    )

first_count : (c : After-one_if) → c.breaks_before-counted.result - c.one_if-own.result ≡ count_to (c.args.ends.now.start.offset - c.one_if.result) (break_ends 0 (text_in c))
first_count c = omega (arith, first_breaks c)

pub overflow_sub-first : goal.overflow_sub-first
overflow_sub-first c =
    let x : List ℕ = spelled c.args.self.now.chunks.now.buffers (pieces_of c.args.self.now.pieces.now.entries) in
    let start = c.args.ends.now.start in let is = c.requires.ends.start in
    let there = spot_within c.args.self.now.pieces.now c.args.self.now.chunks.now start.found start.offset c.requires.view.text is.found in
    omega (
      arith,
      c.breaks_before-counted.ensures.count,
      count_before x start.offset start.after_return start.before_feed there is.after_return is.before_feed,
      c.one_if-own.ensures ∙ ap one_if c.ends_line.ensures,
    )

pub overflow_sub-result : goal.overflow_sub-result
overflow_sub-result c =
    let at = (goal.at.overflow_sub-result c).After-one_if in
    omega (
      arith,
      first_within (text_in at) (span_between c.args.ends.now) c.args.text.now c.requires.ends.ordered (within at) c.args.ends.now.start.after_return c.one_if.result
          (c.breaks_before-counted.result - c.one_if-own.result) c.breaks_behind-last.result c.count_breaks.result _ c.requires.ends.start.after_return c.one_if.ensures (first_count at)
          c.breaks_behind-last.ensures.count c.count_breaks.ensures.breaks refl,
    )

pub overflow_sub-result-2 : goal.overflow_sub-result-2
overflow_sub-result-2 c =
    let at = (goal.at.overflow_sub-result-2 c).After-one_if in
    omega (
      arith,
      new_count (text_in at) (span_between c.args.ends.now) c.args.text.now c.requires.ends.ordered (within at) c.args.ends.now.start.after_return c.one_if.result
          (c.breaks_before-counted.result - c.one_if-own.result) c.breaks_behind-last.result c.count_breaks.result c.pairs_made.result c.requires.ends.start.after_return c.one_if.ensures (first_count at)
          c.breaks_behind-last.ensures.count c.count_breaks.ensures.breaks (c.pairs_made.ensures (text_in at) (span_between c.args.ends.now) c.requires.joins),
    )

pub returns : goal.returns
returns c =
    let at = (goal.at.returns c).After-one_if in
    counted_is (text_in at) (span_between c.args.ends.now) c.args.text.now c.requires.ends.ordered (within at) c.args.ends.now.start.after_return c.one_if.result
    (c.breaks_before-counted.result - c.one_if-own.result) c.breaks_behind-last.result c.count_breaks.result c.pairs_made.result c.requires.ends.start.after_return c.one_if.ensures (first_count at)
    c.breaks_behind-last.ensures.count c.count_breaks.ensures.breaks (c.pairs_made.ensures (text_in at) (span_between c.args.ends.now) c.requires.joins)
