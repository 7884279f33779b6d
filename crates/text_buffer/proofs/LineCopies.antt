-- A line that is copied from one span to the next.
use Rattle.std.proofs.Common.{◌≡◌, ℕ, ◌-◌, ◌<◌, ◌≤◌, if◌then◌else◌, List, ◌∷◌, ◌++◌, length, take, drop, ap, sym, ◌∙◌, append_assoc, arith}
use Rattle.std.proofs.lemmas.List.{drop-append-le}
use Rattle.std.proofs.lemmas.List.Elements.{All-head}
use Rattle.chunk_buffers.specs.declared.span.ChunkSpan.{ChunkSpan}
use Rattle.chunk_buffers.specs.Chunks.{units_at, LiesIn}
use Rattle.line_starts.specs.Starts.{break_count}
use Rattle.piece_tree.specs.declared.piece.Piece.{Piece}
use Rattle.piece_tree.specs.Pieces.{piece_of, back, IsPieceOf}
use Rattle.text_rules.specs.Lines.{lines_of, line_start}
use Rattle.text_buffer.specs.Reading.{first_line, CanRead}
use Rattle.text_buffer.specs.Text.{spelled, ends_with_pair}
use Rattle.text_buffer.proofs.FirstLines.{in_front, in_front-in_front, first-in_front, some_line, some_break, first_size, first_within, first_some, first_content, lines_after_no_break, first_line_of_both}
use Rattle.text_buffer.proofs.Spelling.{length-units_at, spelled-back}

-- Of a text some units are copied behind old ones, and this one comes behind them: no break is among them.
pub record Copied (whole now old out : List ℕ) : Type 0 where
  pub units : List ℕ
  pub copied : out ≡ old ++ units
  pub lines : lines_of whole ≡ in_front units (lines_of now)

module _ (whole now old out : List ℕ) (w : Copied whole now old out) where
  pub more_copied : (x y new : List ℕ) → now ≡ x ++ y → new ≡ out ++ x → break_count x ≡ 0 → Copied whole y old new
  more_copied x y new now_is new_is none = record {
    units = w.units ++ x;
    copied = new_is ∙ ap (λ s. s ++ x) w.copied ∙ append_assoc old w.units x;
    lines = w.lines ∙ ap (λ s. in_front w.units (lines_of s)) now_is ∙ ap (in_front w.units) (lines_after_no_break x y (omega (arith, none, some_line x)))
        ∙ in_front-in_front w.units x (lines_of y);
  }

  -- the rest of the first line is copied
  pub line_copied : (new : List ℕ) → new ≡ out ++ (first_line (lines_of now)).content → new ≡ old ++ (first_line (lines_of whole)).content
  line_copied new new_is =
      new_is ∙ ap (λ s. s ++ (first_line (lines_of now)).content) w.copied ∙ append_assoc old w.units (first_line (lines_of now)).content
      ∙ ap (λ s. old ++ s) (sym (ap (λ ls. (first_line ls).content) w.lines ∙ first-in_front w.units (lines_of now) (some_line now)))

-- the first of the pieces lies in the buffers
pub first_inside : (b : List (List ℕ)) (span : ChunkSpan) (ps : List Piece) → CanRead b (piece_of b span ∷ ps) → LiesIn b span
first_inside b span ps can = (All-head (IsPieceOf b) (piece_of b span) ps can.counted).inside

-- the line that ends in this span
module _ (b : List (List ℕ)) (span : ChunkSpan) (ps : List Piece) (can : CanRead b (piece_of b span ∷ ps)) (some : 0 < break_count (units_at b span)) (end : ℕ)
    (end_is : end ≡ line_start (units_at b span) 2) where
  abbrev x : List ℕ
  x = units_at b span

  broken : 2 ≤ length (lines_of x)
  broken = some_break x some

  pub end_within : end ≤ length x
  end_within = omega (arith, end_is, first_within x broken)

  pub end_in_span : end ≤ span.units
  end_in_span = omega (arith, end_within, length-units_at b span (first_inside b span ps can))

  pub end_some : 0 < end
  end_some = omega (arith, end_is, first_some x broken)

  both : lines_of (x ++ spelled b ps) ≡ first_line (lines_of x) ∷ lines_of (drop end x ++ spelled b ps)
  both =
      first_line_of_both x (spelled b ps) broken can.unsplit.0
      ∙ ap (λ (n : ℕ). first_line (lines_of x) ∷ lines_of (drop n x ++ spelled b ps)) (sym (end_is ∙ first_size x))

  pub content_there : take (length (take end x) - (if ends_with_pair (take end x) then 2 else 1)) (take end x) ≡ (first_line (lines_of (spelled b (piece_of b span ∷ ps)))).content
  content_there = first_content x end broken end_is ∙ ap (λ ls. (first_line ls).content) (sym both)

  pub lines_behind : lines_of (spelled b (back b end (piece_of b span ∷ ps))) ≡ drop 1 (lines_of (spelled b (piece_of b span ∷ ps)))
  lines_behind =
      ap lines_of (spelled-back b end (piece_of b span ∷ ps) can.counted ∙ drop-append-le end x (spelled b ps) end_within) ∙ sym (ap (drop 1) both)
