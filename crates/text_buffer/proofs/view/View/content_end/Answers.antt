use Rattle.std.proofs.Common.{◌≡◌, ◌+◌, ◌-◌, ◌<◌, ◌≤◌, ◌&&◌, ℕ, Bool, true, false, List, inl, inr, if◌then◌else◌, [], length, get_or, take, drop, refl, ap, sym, ◌∙◌, arith}
use Rattle.std.proofs.lemmas.Bool.{cases_lt, le-leb, lt-leb}
use Rattle.chunk_buffers.specs.Chunks.{units_at}
use Rattle.text_rules.specs.Lines.{Line, lines_of, line_start}
use Rattle.text_rules.proofs.Breaks.{line_count_is}
use Rattle.text_rules.proofs.Places.{line_start_within}
use Rattle.piece_tree.specs.Pieces.{pieces_of}
use Rattle.text_buffer.specs.Text.{spelled, one_if, ends_with_pair}
use Rattle.text_buffer.proofs.Contents.{content_end_by, content_end_last, no_pair_before}
use Rattle.text_buffer.proofs.Found.{found_inside, found_line_pair}
use Rattle.text_buffer.proofs.view.View.content_end.Given.{Over}
use Rattle.text_buffer.proofs.view.View.content_end.Goals.{After-break_at-found, After-ends_line_with_pair-is_pair}
use Rattle.text_buffer.proofs.view.View.content_end.Goals as goal

pub returns-then-line-line_count-clause-content : goal.returns-then-line-line_count-clause-content
returns-then-line-line_count-clause-content g c = λ d.
    let x = spelled c.args.self.now.chunks.now.buffers (pieces_of c.args.self.now.pieces.now.entries) in
    omega (arith, c.len.ensures.units, content_end_last x c.args.line c.args.start.now.offset d c.requires.first (omega (arith, c.line_count.ensures.lines)) c.requires.start)

pub ends_line_with_pair-is_pair-requires-clause-inside : goal.ends_line_with_pair-is_pair-requires-clause-inside
ends_line_with_pair-is_pair-requires-clause-inside g c =
    found_inside c.args.self.now.chunks.now.buffers c.args.self.now.pieces.now.entries c.break_at-found.result.0 c.break_at-found.ensures.piece c.requires.view.text.pieces

-- the line is not the last
is_followed : (g : Over) (c : After-break_at-found g) → c.args.line < length (lines_of (spelled c.args.self.now.chunks.now.buffers (pieces_of c.args.self.now.pieces.now.entries)))
is_followed g c = omega (arith, c.requires.there, c.line_count.ensures.lines)

-- where the next line starts
next_line : (g : Over) (c : After-break_at-found g)
    → c.break_at-found.result.0.before.units + c.break_at-found.result.1 ≡ line_start (spelled c.args.self.now.chunks.now.buffers (pieces_of c.args.self.now.pieces.now.entries)) (c.args.line + 1)
next_line g c = c.break_at-found.ensures.line

next_within : (g : Over) (c : After-break_at-found g)
    → c.break_at-found.result.0.before.units + c.break_at-found.result.1 ≤ length (spelled c.args.self.now.chunks.now.buffers (pieces_of c.args.self.now.pieces.now.entries))
next_within g c =
    let x = (spelled c.args.self.now.chunks.now.buffers (pieces_of c.args.self.now.pieces.now.entries)) in
    omega (arith, next_line g c, line_start_within x (c.args.line - 1) (c.args.line + 1) (omega (arith, line_count_is x, is_followed g c)) (omega arith))

-- the line's content and its break, where the break is a pair or is none
content_to_break : (g : Over) (c : After-break_at-found g) (d : Line) (pair : Bool)
    → (let end : ℕ = c.break_at-found.result.0.before.units + c.break_at-found.result.1 in
    ends_with_pair (take (end - c.args.start.now.offset) (drop c.args.start.now.offset (spelled c.args.self.now.chunks.now.buffers (pieces_of c.args.self.now.pieces.now.entries)))) ≡ pair)
    → length (get_or (lines_of (spelled c.args.self.now.chunks.now.buffers (pieces_of c.args.self.now.pieces.now.entries))) (c.args.line - 1) d).content + (if pair then 2 else 1) + c.args.start.now.offset
    ≡ c.break_at-found.result.0.before.units + c.break_at-found.result.1
content_to_break g c d pair seen =
    let end : ℕ = c.break_at-found.result.0.before.units + c.break_at-found.result.1 in
    content_end_by (spelled c.args.self.now.chunks.now.buffers (pieces_of c.args.self.now.pieces.now.entries)) c.args.line c.args.start.now.offset end d pair c.requires.first (is_followed g c) c.requires.start (next_line g c) seen

pub overflow_sub-end : goal.overflow_sub-end
overflow_sub-end g c =
    let whole = content_to_break g (goal.at.overflow_sub-end g c).After-break_at-found (record { content = []; break = [] }) _ refl in
    omega (arith, whole)

-- the line ends with a pair where it is long enough and the part of the piece does
pair_seen : (g : Over) (c : After-ends_line_with_pair-is_pair g)
    → (let end : ℕ = c.break_at-found.result.0.before.units + c.break_at-found.result.1 in
    ends_with_pair (take (end - c.args.start.now.offset) (drop c.args.start.now.offset (spelled c.args.self.now.chunks.now.buffers (pieces_of c.args.self.now.pieces.now.entries)))) ≡ c.ends_line_with_pair-is_pair.result)
pair_seen g c =
    let start : ℕ = c.args.start.now.offset in
    let own : ℕ = c.break_at-found.result.1 in
    let end : ℕ = c.break_at-found.result.0.before.units + own in
    let x : List ℕ = spelled c.args.self.now.chunks.now.buffers (pieces_of c.args.self.now.pieces.now.entries) in
    let seen : Bool = ends_with_pair (take own (units_at c.args.self.now.chunks.now.buffers c.break_at-found.result.0.span)) in
    elim (cases_lt (end - start) 2) [
      | inl short ↦ no_pair_before x start end (omega arith) ∙ sym (ap (λ b. b && seen) (lt-leb 2 (end - start) short))
      | inr long ↦
          found_line_pair c.args.self.now.chunks.now.buffers c.args.self.now.pieces.now.entries c.break_at-found.result.0 c.break_at-found.ensures.piece
          c.requires.view.text.pieces c.requires.view.text.full c.requires.view.text.unsplit start end own refl c.break_at-found.ensures.some c.break_at-found.ensures.within (omega arith)
          ∙ sym (ap (λ b. b && seen) (le-leb 2 (end - start) long))
    ]
    ∙ sym c.ends_line_with_pair-is_pair.ensures

break_units : (pair : Bool) → (if pair then 2 else 1) ≡ one_if pair + 1
break_units true = refl
break_units false = refl

pub returns-clause-content : goal.returns-clause-content
returns-clause-content g c = λ d.
    let at = goal.at.returns-clause-content g c in
    let pair = c.ends_line_with_pair-is_pair.result in
    let whole = content_to_break g at.After-break_at-found d pair (pair_seen g at.After-ends_line_with_pair-is_pair) in
    omega (arith, whole, break_units pair, c.one_if.ensures)

pub returns-clause-within : goal.returns-clause-within
returns-clause-within g c = omega (arith, next_within g (goal.at.returns-clause-within g c).After-break_at-found)
