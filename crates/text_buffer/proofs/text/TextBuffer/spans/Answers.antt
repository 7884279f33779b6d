use Rattle.std.proofs.Common.{◌≡◌, sym, subst}
use Rattle.std.specs.List.{All, flat_map}
use Rattle.std.proofs.lemmas.List.Folds.{flat_map-map}
use Rattle.std.proofs.lemmas.List.Elements.{All-map}
use Rattle.chunk_buffers.specs.Chunks.{units_at, LiesIn}
use Rattle.piece_tree.specs.Pieces.{pieces_of}
use Rattle.text_buffer.specs.Text.{Text}
use Rattle.text_buffer.proofs.text.TextBuffer.spans.Goals as goal

pub returns-clause-spelled : goal.returns-clause-spelled
returns-clause-spelled c =
    subst (λ (t : Text). t.units ≡ flat_map (units_at t.buffers) t.spans) c.self.view_is
    (sym (flat_map-map (units_at c.self.inside.chunks.buffers) (λ p. p.span) (pieces_of c.self.inside.pieces.entries)))

pub returns-clause-inside : goal.returns-clause-inside
returns-clause-inside c =
    subst (λ (t : Text). All (LiesIn t.buffers) t.spans) c.self.view_is
    (All-map (LiesIn c.self.inside.chunks.buffers) (λ p. p.span) (pieces_of c.self.inside.pieces.entries)
    (λ k d h. (c.self.invariant.seen.text.pieces k d h).inside))
