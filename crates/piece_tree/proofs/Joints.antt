-- Where a splice cuts.
use Rattle.std.proofs.Common.{◌≡◌, ℕ, ◌+◌, ◌-◌, ◌<◌, false, Option, Some, None, List, [], ◌∷◌, ◌++◌, refl, ap, sym, subst, ◌∙◌, append_assoc, arith}
use Rattle.std.specs.List.{All}
use Rattle.std.specs.Option.{ForSome}
use Rattle.std.proofs.lemmas.List.{append-nil, map-append}
use Rattle.std.proofs.lemmas.List.Elements.{All-head}
use Rattle.std.proofs.lemmas.Option.{none-some}
use Rattle.chunk_buffers.specs.declared.span.ChunkSpan.{ChunkSpan}
use Rattle.chunk_buffers.specs.Chunks.{part_of}
use Rattle.piece_tree.specs.declared.piece.Piece.{Piece}
use Rattle.piece_tree.specs.declared.piece.PieceId.{PieceId}
use Rattle.piece_tree.specs.declared.piece.PieceSum.{PieceSum}
use Rattle.piece_tree.specs.declared.cut.Cut.{Cut}
use Rattle.piece_tree.specs.Pieces.{Entry, pieces_of, unit_count, sum_of, piece_of, listed, IsPieceOf, goes_on, goes_on_from, followed_by, front, back, spliced}
use Rattle.piece_tree.specs.Runs.{entry_at, last_named}
use Rattle.piece_tree.specs.Splicing.{IsJoint, IsCut}
use Rattle.piece_tree.proofs.Sums.{All-parts, units-cons, units-append}
use Rattle.piece_tree.proofs.Cuts.{front-append, back-append, front_past, front_none, front_part}
use Rattle.piece_tree.proofs.Neighbours.{last_there}
use Rattle.piece_tree.proofs.Prolonged.{followed-last, followed_new, goes_on_from-last}

-- the pieces before an entry, its own, and those behind it
pub pieces-split : (entries us : List Entry) (id : PieceId) (x : Piece) (vs : List Entry) → entries ≡ us ++ entry_at id x ∷ vs
    → pieces_of entries ≡ pieces_of us ++ x ∷ pieces_of vs
pieces-split entries us id x vs e = ap pieces_of e ∙ map-append (λ (f : Entry). f.piece) us (entry_at id x ∷ vs)

pub units_up_to : (us ws : List Entry) (id : PieceId) (x : Piece) → us ≡ ws ++ entry_at id x ∷ [] → unit_count (pieces_of us) ≡ unit_count (pieces_of ws) + x.span.units
units_up_to us ws id x last =
    omega (arith, ap unit_count (pieces-split us ws id x [] last), units-append (pieces_of ws) (x ∷ []), units-cons x [])

pub sum_up_to : (us ws : List Entry) (id : PieceId) (x : Piece) → us ≡ ws ++ entry_at id x ∷ [] → sum_of (pieces_of us) ≡ sum_of (pieces_of ws ++ x ∷ [])
sum_up_to us ws id x last = ap sum_of (pieces-split us ws id x [] last)

-- a property of all pieces holds for the piece of an entry
pub all_here : (P : Piece → Type 0) (entries us : List Entry) (id : PieceId) (x : Piece) (vs : List Entry) → entries ≡ us ++ entry_at id x ∷ vs → All P (pieces_of entries) → P x
all_here P entries us id x vs e all =
    All-head P x (pieces_of vs) (All-parts P (pieces_of us) (x ∷ pieces_of vs) (subst (All P) (pieces-split entries us id x vs e) all)).1

-- the entry before another, and the entries after it
pub before_place : (entries us ws later : List Entry) (id : PieceId) (y : Piece) → entries ≡ us ++ later → us ≡ ws ++ entry_at id y ∷ [] → entries ≡ ws ++ entry_at id y ∷ later
before_place entries us ws later id y e last = e ∙ ap (λ l. l ++ later) last ∙ append_assoc ws (entry_at id y ∷ []) later

-- the span goes on from the pieces as it does from the last
pub from_last : (us : List Entry) (at : PieceId × Piece) (span : ChunkSpan) → last_named us ≡ Some at → goes_on_from (pieces_of us) span ≡ goes_on at.1.span span
from_last us at span is =
    let (ws, last) = last_there us at.0 at.1 (sym is) in
    ap (λ ps. goes_on_from ps span) (pieces-split us ws at.0 at.1 [] last) ∙ goes_on_from-last (pieces_of ws) at.1 span

-- the piece before one from which a span goes on
pub joint_ends : (us : List Entry) (span : Option ChunkSpan) (told : Option (PieceId × Piece)) (at : PieceId × Piece) → told ≡ Some at → IsJoint us span told
    → (ws : List Entry) × (us ≡ ws ++ entry_at at.0 at.1 ∷ [])
joint_ends us None told at is joint = absurd (none-some at (sym joint ∙ is))
joint_ends us (Some span) told at is joint = let both = subst (IsJoint us (Some span)) is joint in last_there us at.0 at.1 (sym both.0)

some_is : (first second : Piece) → ◌≡◌ {A = Option Piece} (Some first) (Some second) → first ≡ second
some_is first second e = cc

module _ (b : List (List ℕ)) where
  followed_by-last : (ps : List Piece) (p : Piece) (span : Option ChunkSpan) → followed_by b (ps ++ p ∷ []) span ≡ ps ++ followed_by b (p ∷ []) span
  followed_by-last ps p None = refl
  followed_by-last ps p (Some span) = followed-last b ps p span

  apart : (ps : List Piece) (span : Option ChunkSpan) → ForSome span (λ s. goes_on_from ps s ≡ false) → followed_by b ps span ≡ ps ++ followed_by b [] span
  apart ps None says = sym (append-nil ps)
  apart ps (Some span) says = followed_new b ps span (says span refl)

  module _ (entries us : List Entry) (id : PieceId) (x : Piece) (vs : List Entry) (offset deleted : ℕ) (span : Option ChunkSpan) (before : PieceSum) (e : entries ≡ us ++ entry_at id x ∷ vs) (sum : before ≡ sum_of (pieces_of us)) where
    -- a place in a piece cuts the pieces as it cuts this one
    spliced_at : (own : ℕ) (left : Option Piece) → offset ≡ unit_count (pieces_of us) + own
        → followed_by b (pieces_of us ++ front b own (x ∷ pieces_of vs)) span ≡ pieces_of us ++ followed_by b (listed left) span
        → spliced b offset (offset + deleted) span (pieces_of entries) ≡ pieces_of us ++ followed_by b (listed left) span ++ back b (own + deleted) (x ∷ pieces_of vs)
    spliced_at own left count says =
        let parts = pieces-split entries us id x vs e in
        let first = ap (front b offset) parts ∙ front-append b (pieces_of us) (x ∷ pieces_of vs) offset own count in
        let second = ap (back b (offset + deleted)) parts ∙ back-append b (pieces_of us) (x ∷ pieces_of vs) (offset + deleted) (own + deleted) (omega (arith, count)) in
        (λ i. followed_by b (first i) span ++ second i) ∙ ap (λ qs. qs ++ back b (own + deleted) (x ∷ pieces_of vs)) says

    -- a cut right behind a piece
    pub cut_whole : (cut : Cut) → offset ≡ unit_count (pieces_of us) + x.span.units → front b 0 (pieces_of vs) ≡ [] → IsPieceOf b x
        → cut ≡ record { id = id; left = Some x; end = x.span.units + deleted; before = before } → IsCut b offset (offset + deleted) span entries cut
    cut_whole cut count none is told =
        let n = x.span.units in
        let zero : n - n ≡ 0 = omega arith in
        let own : front b n (x ∷ pieces_of vs) ≡ x ∷ [] = front_past b n x (pieces_of vs) (omega arith) ∙ ap (λ (k : ℕ). x ∷ front b k (pieces_of vs)) zero ∙ ap (λ ps. x ∷ ps) none in
        let says : followed_by b (pieces_of us ++ front b n (x ∷ pieces_of vs)) span ≡ pieces_of us ++ followed_by b (x ∷ []) span =
        ap (λ ps. followed_by b (pieces_of us ++ ps) span) own ∙ followed_by-last (pieces_of us) x span in
        subst (IsCut b offset (offset + deleted) span entries) (sym told) (record {
          earlier = us;
          piece = x;
          later = vs;
          place = e;
          counted = λ left eq. subst (IsPieceOf b) (some_is x left eq) is;
          reach = omega (arith, count);
          before = sum;
          begins = omega (arith, count, units-cons x []);
          spliced = spliced_at n (Some x) count says;
        })

    -- a cut inside a piece
    pub cut_inside : (own : ℕ) (left : Piece) → offset ≡ unit_count (pieces_of us) + own → 0 < own → own < x.span.units → left ≡ piece_of b (part_of x.span 0 own) → IsPieceOf b left
        → IsCut b offset (offset + deleted) span entries (record { id = id; left = Some left; end = own + deleted; before = before })
    cut_inside own left count some within part is =
        let own_front : front b own (x ∷ pieces_of vs) ≡ left ∷ [] = front_part b own x (pieces_of vs) some within ∙ ap (λ p. p ∷ []) (sym part) in
        let size = ap (λ (p : Piece). p.span.units) part in record {
          earlier = us;
          piece = x;
          later = vs;
          place = e;
          counted = λ other eq. subst (IsPieceOf b) (some_is left other eq) is;
          reach = omega (arith, count, within);
          before = sum;
          begins = omega (arith, count, size, units-cons left []);
          spliced = spliced_at own (Some left) count (ap (λ ps. followed_by b (pieces_of us ++ ps) span) own_front ∙ followed_by-last (pieces_of us) left span);
        }

    -- a cut right before a piece, where the span does not go on from the pieces before
    pub cut_before : offset ≡ unit_count (pieces_of us) → 0 < x.span.units → ForSome span (λ s. goes_on_from (pieces_of us) s ≡ false)
        → IsCut b offset (offset + deleted) span entries (record { id = id; left = None; end = deleted; before = before })
    cut_before count some says =
        let none : pieces_of us ++ front b 0 (x ∷ pieces_of vs) ≡ pieces_of us = ap (λ ps. pieces_of us ++ ps) (front_none b x (pieces_of vs) some) ∙ append-nil (pieces_of us) in
        let zero : 0 + deleted ≡ deleted = omega arith in record {
          earlier = us;
          piece = x;
          later = vs;
          place = e;
          counted = λ left eq. absurd cc;
          reach = omega (arith, count);
          before = sum;
          begins = omega (arith, count);
          spliced = spliced_at 0 None (omega (arith, count)) (ap (λ ps. followed_by b ps span) none ∙ apart (pieces_of us) span says)
              ∙ ap (λ (n : ℕ). pieces_of us ++ followed_by b [] span ++ back b n (x ∷ pieces_of vs)) zero;
        }
