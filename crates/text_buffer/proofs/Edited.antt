-- The pieces of a text of which a part is replaced.
use Rattle.std.proofs.Common.{◌≡◌, ℕ, ◌+◌, ◌-◌, ◌≤◌, Bool, false, Option, Some, None, List, [], ◌++◌, length, take, drop, refl, ap, sym, subst, ◌∙◌, append_assoc, arith}
use Rattle.std.specs.List.{All}
use Rattle.std.specs.Option.{ForSome}
use Rattle.std.proofs.lemmas.List.{append-nil, length-append, length-take-le, length-drop}
use Rattle.std.proofs.lemmas.List.Elements.{All-cons, All-nil, All-append}
use Rattle.chunk_buffers.specs.declared.span.ChunkSpan.{ChunkSpan}
use Rattle.chunk_buffers.specs.Chunks.{units_at, LiesIn, Extends}
use Rattle.piece_tree.specs.declared.piece.Piece.{Piece}
use Rattle.piece_tree.specs.Pieces.{unit_count, piece_of, piece_list, listed, span_of, followed_by, IsPieceOf, spliced}
use Rattle.piece_tree.specs.Pieces as P
use Rattle.piece_tree.proofs.Cuts.{pieces-front}
use Rattle.piece_tree.proofs.Prolonged.{listed_is, pieces-spliced, pieces-followed_by, length-followed_by}
use Rattle.text_rules.specs.Breaks.{joins_pair}
use Rattle.text_buffer.specs.Text.{spelled, IsUnsplit, IsAdded}
use Rattle.text_buffer.proofs.Spelling.{spelled-append, spelled-front, spelled-back, length-spelled}
use Rattle.text_buffer.proofs.Borders.{unsplit-append, unsplit-front, unsplit-back, full-front, full-back, length-parts}
use Rattle.text_buffer.proofs.Followed.{IsFull, spelled-followed_by, full-followed_by, unsplit-followed_by}
use Rattle.text_buffer.proofs.Extended.{pieces-extended, spelled-extended, unsplit-extended}
use Rattle.text_buffer.proofs.Replacing.{joins_front}
use Rattle.text_buffer.proofs.Along.{IsFrontAlong, IsBackAlong}

module _ (b : List (List ℕ)) where
  added_inside : (span : Option ChunkSpan) (units : List ℕ) → IsAdded b span units → ForSome span (LiesIn b)
  added_inside None units is = λ s e. absurd cc
  added_inside (Some span) units is = λ s e. let same : span ≡ s = cc in subst (LiesIn b) same is.0

  added_text : (span : Option ChunkSpan) (units : List ℕ) → IsAdded b span units → spelled b (piece_list b span) ≡ units
  added_text None units is = sym is
  added_text (Some span) units is = append-nil (units_at b span) ∙ is.1.0

  added_pieces : (span : Option ChunkSpan) (units : List ℕ) → IsAdded b span units → All (IsPieceOf b) (piece_list b span)
  added_pieces None units is = All-nil (IsPieceOf b)
  added_pieces (Some span) units is = All-cons (IsPieceOf b) (piece_of b span) [] (record { inside = is.0; breaks = refl }) (All-nil (IsPieceOf b))

-- what the pieces are afterwards
pub record IsReplaced (b : List (List ℕ)) (old new : List Piece) (x text : List ℕ) (start end : ℕ) : Type 0 where
  pub text_is : spelled b new ≡ (take start x ++ text) ++ drop end x
  pub pieces : All (IsPieceOf b) new
  pub full : All IsFull new
  pub unsplit : IsUnsplit b new
  pub few : length new ≤ length old + 2

-- a text of which a part goes, with units beside that part, and in whose place these come with another text
module _ (x text front after : List ℕ) (start end : ℕ) (front_joins back_joins : Bool)
    (front_is : front_joins ≡ joins_pair (take start x) (text ++ drop end x)) (back_is : back_joins ≡ joins_pair (take start x ++ text) (drop end x))
    (ahead : IsFrontAlong x start front_joins front) (behind : IsBackAlong x end back_joins after) where
  abbrev from : ℕ
  from = start - length front

  abbrev to : ℕ
  to = end + length after

  abbrev whole : List ℕ
  whole = (front ++ text) ++ after

  replaced_text : (take (start - length front) x ++ ((front ++ text) ++ after)) ++ drop (end + length after) x ≡ (take start x ++ text) ++ drop end x
  replaced_text =
      let a : List ℕ = take (start - length front) x in
      let c : List ℕ = drop (end + length after) x in
      let regroup : (a ++ ((front ++ text) ++ after)) ++ c ≡ ((a ++ front) ++ text) ++ (after ++ c) = simp append_assoc in
      regroup ∙ ap (λ s. (s ++ text) ++ (after ++ c)) ahead.before ∙ ap (λ s. (take start x ++ text) ++ s) behind.behind

  -- what comes makes no pair with what stands before it, nor with what stands behind it
  pub front_border : joins_pair (take (start - length front) x) ((front ++ text) ++ after) ≡ false
  front_border =
      let a : List ℕ = take (start - length front) x in
      let c : List ℕ = drop (end + length after) x in
      let regroup : ((front ++ text) ++ after) ++ c ≡ front ++ (text ++ (after ++ c)) = simp append_assoc in
      joins_front a ((front ++ text) ++ after) c
      (ap (joins_pair a) (regroup ∙ ap (λ s. front ++ (text ++ s)) behind.behind) ∙ ahead.apart (text ++ drop end x) front_is)

  back_border : joins_pair (take (start - length front) x ++ ((front ++ text) ++ after)) (drop (end + length after) x) ≡ false
  back_border =
      let a : List ℕ = take (start - length front) x in
      let regroup : a ++ ((front ++ text) ++ after) ≡ ((a ++ front) ++ text) ++ after = simp append_assoc in
      ap (λ s. joins_pair s (drop (end + length after) x)) (regroup ∙ ap (λ s. (s ++ text) ++ after) ahead.before) ∙ behind.apart (take start x ++ text) back_is

  pub IsReplaced-at : (old_b b : List (List ℕ)) (ps : List Piece) (span : Option ChunkSpan)
      → Extends old_b b → All (IsPieceOf old_b) ps → All IsFull ps → IsUnsplit old_b ps → spelled old_b ps ≡ x → start ≤ end
      → IsAdded b span ((front ++ text) ++ after)
      → IsReplaced b ps (spliced b (start - length front) (end + length after) span ps) x text start end
  IsReplaced-at old_b b ps span grown old_all full old_unsplit x_is ordered added =
      let s : ℕ = start - length front in
      let e : ℕ = end + length after in
      let w : List ℕ = (front ++ text) ++ after in
      let all = pieces-extended old_b b grown ps old_all in
      let unsplit = unsplit-extended old_b b grown ps old_all old_unsplit in
      let same : spelled b ps ≡ x = spelled-extended old_b b grown ps old_all ∙ x_is in
      let fs : List Piece = P.front b s ps in
      let ks : List Piece = P.back b e ps in
      let gs : List Piece = followed_by b fs span in
      let f_text : spelled b fs ≡ take s x = spelled-front b s ps all ∙ ap (take s) same in
      let k_text : spelled b ks ≡ drop e x = spelled-back b e ps all ∙ ap (drop e) same in
      let g_text : spelled b gs ≡ take s x ++ w = spelled-followed_by b fs span w added ∙ ap (λ t. t ++ w) f_text in
      let border : joins_pair (spelled b fs) w ≡ false = ap (λ t. joins_pair t w) f_text ∙ front_border in
      let next_border : joins_pair (spelled b gs) (spelled b ks) ≡ false =
      ap (λ t. joins_pair t (spelled b ks)) g_text ∙ ap (joins_pair (take s x ++ w)) k_text ∙ back_border in
      let all_f = pieces-front b s ps all in
      let full_f = full-front b s ps full in
      let full_g = full-followed_by b fs span w added full_f in
      record {
        text_is = spelled-append b gs ks ∙ ap (λ t. t ++ spelled b ks) g_text ∙ ap (λ t. (take s x ++ w) ++ t) k_text ∙ replaced_text;
        pieces = pieces-spliced b s e span ps (added_inside b span w added) all;
        full = All-append IsFull gs ks full_g (full-back b e ps full);
        unsplit = unsplit-append b gs ks (pieces-followed_by b fs span (added_inside b span w added) all_f) full_g
            (unsplit-followed_by b fs span w added all_f full_f (unsplit-front b s ps all unsplit) border)
            (unsplit-back b e ps all unsplit) next_border;
        few = omega (arith, length-append gs ks, length-followed_by b fs span, length-parts b s e ps (omega (arith, ordered)));
      }

  -- the same, with the numbers as they are handed on
  pub IsReplaced-of : (old_b b : List (List ℕ)) (ps new : List Piece) (span : Option ChunkSpan) (first last : ℕ)
      → Extends old_b b → All (IsPieceOf old_b) ps → All IsFull ps → IsUnsplit old_b ps → spelled old_b ps ≡ x → start ≤ end
      → first ≡ start - length front → last ≡ end + length after
      → IsAdded b span ((front ++ text) ++ after) → new ≡ spliced b first last span ps
      → IsReplaced b ps new x text start end
  IsReplaced-of old_b b ps new span first last grown all full unsplit x_is ordered first_is last_is added new_is =
      let pieces_are : new ≡ spliced b (start - length front) (end + length after) span ps =
      new_is ∙ ap (λ (n : ℕ). spliced b n last span ps) first_is ∙ ap (λ (n : ℕ). spliced b (start - length front) n span ps) last_is in
      subst (λ (qs : List Piece). IsReplaced b ps qs x text start end) (sym pieces_are)
      (IsReplaced-at old_b b ps span grown all full unsplit x_is ordered added)

-- a counted piece has the units that were added
pub units-listed : (b : List (List ℕ)) (piece : Option Piece) (units : List ℕ) → IsAdded b (span_of piece) units → ForSome piece (IsPieceOf b)
    → unit_count (listed piece) ≡ length units
units-listed b piece units added counted =
    let span = span_of piece in
    sym (ap unit_count (listed_is b piece counted)) ∙ sym (length-spelled b (piece_list b span) (added_pieces b span units added))
    ∙ ap length (added_text b span units added)

pub length-edited : (x text : List ℕ) (start end : ℕ) → start ≤ length x → length (take start x ++ text ++ drop end x) ≡ start + length text + (length x - end)
length-edited x text start end within =
    omega (arith, length-append (take start x ++ text) (drop end x), length-append (take start x) text, length-take-le start x within, length-drop end x)
