-- Pieces that a span is put behind.
use Rattle.std.proofs.Common.{◌≡◌, ℕ, ◌<◌, ◌&&◌, Bool, true, false, Option, Some, None, List, [], ◌∷◌, ◌++◌, length, refl, ap, sym, subst, ◌∙◌, append_assoc, arith}
use Rattle.std.specs.List.{All}
use Rattle.std.proofs.lemmas.List.{append-nil}
use Rattle.std.proofs.lemmas.List.Elements.{All-head, All-tail, All-cons, All-nil}
use Rattle.chunk_buffers.specs.declared.span.ChunkSpan.{ChunkSpan}
use Rattle.chunk_buffers.specs.Chunks.{units_at}
use Rattle.piece_tree.specs.declared.piece.Piece.{Piece}
use Rattle.piece_tree.specs.Pieces.{piece_of, IsPieceOf, goes_on, prolonged, followed, followed_by}
use Rattle.piece_tree.proofs.Prolonged.{units_at-prolonged, followed_on, followed_apart}
use Rattle.text_rules.specs.Lines.{line_feed, carriage_return, begins_with}
use Rattle.text_rules.specs.Breaks.{ends_with, joins_pair}
use Rattle.text_rules.proofs.Breaks.{and_false}
use Rattle.text_buffer.specs.Text.{spelled, IsUnsplit, IsAdded}
use Rattle.text_buffer.proofs.Spelling.{length-units_at}
use Rattle.text_buffer.proofs.Borders.{begins_with-append, ends_with-append, some_spelled}

abbrev pub IsFull : Piece → Type 0
IsFull p = 0 < p.span.units

module _ (b : List (List ℕ)) where
  spelled_one : (p : Piece) (span : ChunkSpan) (goes : Bool) → goes_on p.span span ≡ goes → spelled b (followed b (p ∷ []) span) ≡ units_at b p.span ++ units_at b span
  spelled_one p span true goes = ap (spelled b) (followed_on b p span goes) ∙ append-nil (units_at b (prolonged p.span span)) ∙ units_at-prolonged p.span span goes b
  spelled_one p span false goes = ap (spelled b) (followed_apart b p span goes) ∙ ap (λ s. units_at b p.span ++ s) (append-nil (units_at b span))

  spelled-followed : (ps : List Piece) (span : ChunkSpan) → spelled b (followed b ps span) ≡ spelled b ps ++ units_at b span
  spelled-followed [] span = append-nil (units_at b span)
  spelled-followed (p ∷ []) span = spelled_one p span (goes_on p.span span) refl ∙ ap (λ s. s ++ units_at b span) (sym (append-nil (units_at b p.span)))
  spelled-followed (p ∷ q ∷ ps) span =
      ap (λ s. units_at b p.span ++ s) (spelled-followed (q ∷ ps) span) ∙ sym (append_assoc (units_at b p.span) (spelled b (q ∷ ps)) (units_at b span))

  pub spelled-followed_by : (ps : List Piece) (span : Option ChunkSpan) (units : List ℕ) → IsAdded b span units → spelled b (followed_by b ps span) ≡ spelled b ps ++ units
  spelled-followed_by ps None units added = sym (append-nil (spelled b ps)) ∙ ap (λ s. spelled b ps ++ s) (sym added)
  spelled-followed_by ps (Some span) units added = spelled-followed ps span ∙ ap (λ s. spelled b ps ++ s) added.1.0

  full_one : (p : Piece) (span : ChunkSpan) (goes : Bool) → goes_on p.span span ≡ goes → 0 < span.units → IsFull p → All IsFull (followed b (p ∷ []) span)
  full_one p span true goes some own =
      subst (All IsFull) (sym (followed_on b p span goes)) (All-cons IsFull (piece_of b (prolonged p.span span)) [] (omega (arith, some)) (All-nil IsFull))
  full_one p span false goes some own =
      subst (All IsFull) (sym (followed_apart b p span goes)) (All-cons IsFull p (piece_of b span ∷ []) own (All-cons IsFull (piece_of b span) [] some (All-nil IsFull)))

  full-followed : (ps : List Piece) (span : ChunkSpan) → 0 < span.units → All IsFull ps → All IsFull (followed b ps span)
  full-followed [] span some full = All-cons IsFull (piece_of b span) [] some (All-nil IsFull)
  full-followed (p ∷ []) span some full = full_one p span (goes_on p.span span) refl some (All-head IsFull p [] full)
  full-followed (p ∷ q ∷ ps) span some full =
      All-cons IsFull p (followed b (q ∷ ps) span) (All-head IsFull p (q ∷ ps) full) (full-followed (q ∷ ps) span some (All-tail IsFull p (q ∷ ps) full))

  pub full-followed_by : (ps : List Piece) (span : Option ChunkSpan) (units : List ℕ) → IsAdded b span units → All IsFull ps → All IsFull (followed_by b ps span)
  full-followed_by ps None units added full = full
  full-followed_by ps (Some span) units added full =
      full-followed ps span (omega (arith, length-units_at b span added.0, ap length added.1.0, added.1.1)) full

  unsplit_one : (p : Piece) (span : ChunkSpan) (goes : Bool) → goes_on p.span span ≡ goes → joins_pair (units_at b p.span) (units_at b span) ≡ false
      → IsUnsplit b (followed b (p ∷ []) span)
  unsplit_one p span true goes border =
      subst (IsUnsplit b) (sym (followed_on b p span goes)) (and_false (ends_with carriage_return (units_at b (prolonged p.span span))), tt)
  unsplit_one p span false goes border =
      subst (IsUnsplit b) (sym (followed_apart b p span goes)) (
        subst (λ (s : List ℕ). joins_pair (units_at b p.span) s ≡ false) (sym (append-nil (units_at b span))) border,
        (and_false (ends_with carriage_return (units_at b span)), tt),
      )

  unsplit-followed : (ps : List Piece) (span : ChunkSpan) → All (IsPieceOf b) ps → All IsFull ps → IsUnsplit b ps
      → joins_pair (spelled b ps) (units_at b span) ≡ false → IsUnsplit b (followed b ps span)
  unsplit-followed [] span all full a border = (and_false (ends_with carriage_return (units_at b span)), tt)
  unsplit-followed (p ∷ []) span all full a border =
      unsplit_one p span (goes_on p.span span) refl (subst (λ (s : List ℕ). joins_pair s (units_at b span) ≡ false) (append-nil (units_at b p.span)) border)
  unsplit-followed (p ∷ q ∷ ps) span all full a border =
      let tail : All (IsPieceOf b) (q ∷ ps) = All-tail (IsPieceOf b) p (q ∷ ps) all in
      let full_tail : All IsFull (q ∷ ps) = All-tail IsFull p (q ∷ ps) full in
      let some = some_spelled b q ps tail full_tail in
      let after : begins_with line_feed (spelled b (followed b (q ∷ ps) span)) ≡ begins_with line_feed (spelled b (q ∷ ps)) =
      ap (begins_with line_feed) (spelled-followed (q ∷ ps) span) ∙ begins_with-append line_feed (spelled b (q ∷ ps)) (units_at b span) some in
      let last = ends_with-append carriage_return (units_at b p.span) (spelled b (q ∷ ps)) some in (
        ap (λ f. ends_with carriage_return (units_at b p.span) && f) after ∙ a.0,
        unsplit-followed (q ∷ ps) span tail full_tail a.1 (ap (λ f. f && begins_with line_feed (units_at b span)) (sym last) ∙ border),
      )

  pub unsplit-followed_by : (ps : List Piece) (span : Option ChunkSpan) (units : List ℕ) → IsAdded b span units → All (IsPieceOf b) ps → All IsFull ps → IsUnsplit b ps
      → joins_pair (spelled b ps) units ≡ false → IsUnsplit b (followed_by b ps span)
  unsplit-followed_by ps None units added all full a border = a
  unsplit-followed_by ps (Some span) units added all full a border =
      unsplit-followed ps span all full a (subst (λ (s : List ℕ). joins_pair (spelled b ps) s ≡ false) (sym added.1.0) border)
