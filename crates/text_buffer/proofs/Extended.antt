-- Pieces of buffers that grow.
use Rattle.std.proofs.Common.{◌≡◌, ℕ, ◌++◌, List, [], ◌∷◌, refl, ap, sym, ◌∙◌}
use Rattle.std.specs.List.{All}
use Rattle.std.proofs.lemmas.List.Elements.{All-head, All-tail, All-weaker}
use Rattle.chunk_buffers.specs.Chunks.{units_at, Extends}
use Rattle.chunk_buffers.proofs.Spans.{LiesIn-extended, units_at-extended}
use Rattle.line_starts.specs.Starts.{break_count}
use Rattle.piece_tree.specs.declared.piece.Piece.{Piece}
use Rattle.piece_tree.specs.Pieces.{IsPieceOf}
use Rattle.text_rules.specs.Breaks.{joins_pair}
use Rattle.text_buffer.specs.Text.{spelled, IsUnsplit}

module _ (old new : List (List ℕ)) (grown : Extends old new) where
  IsPieceOf-extended : (p : Piece) → IsPieceOf old p → IsPieceOf new p
  IsPieceOf-extended p is = record {
    inside = LiesIn-extended old new p.span grown is.inside;
    breaks = is.breaks ∙ ap break_count (sym (units_at-extended old new p.span grown is.inside));
  }

  pub pieces-extended : (ps : List Piece) → All (IsPieceOf old) ps → All (IsPieceOf new) ps
  pieces-extended ps all = All-weaker (IsPieceOf old) (IsPieceOf new) IsPieceOf-extended ps all

  pub spelled-extended : (ps : List Piece) → All (IsPieceOf old) ps → spelled new ps ≡ spelled old ps
  spelled-extended [] all = refl
  spelled-extended (p ∷ ps) all =
      let head : IsPieceOf old p = All-head (IsPieceOf old) p ps all in
      ap (λ s. s ++ spelled new ps) (units_at-extended old new p.span grown head.inside)
      ∙ ap (λ s. units_at old p.span ++ s) (spelled-extended ps (All-tail (IsPieceOf old) p ps all))

  pub unsplit-extended : (ps : List Piece) → All (IsPieceOf old) ps → IsUnsplit old ps → IsUnsplit new ps
  unsplit-extended [] all a = tt
  unsplit-extended (p ∷ ps) all a =
      let head : IsPieceOf old p = All-head (IsPieceOf old) p ps all in
      let tail : All (IsPieceOf old) ps = All-tail (IsPieceOf old) p ps all in (
        ap (λ s. joins_pair s (spelled new ps)) (units_at-extended old new p.span grown head.inside)
            ∙ ap (joins_pair (units_at old p.span)) (spelled-extended ps tail) ∙ a.0,
        unsplit-extended ps tail a.1,
      )
