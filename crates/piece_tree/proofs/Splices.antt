-- The runs after a splice, once the cut is made and the deleted units are removed.
use Rattle.std.proofs.Common.{◌≡◌, ℕ, suc, ◌+◌, ◌-◌, ◌<◌, ◌≤◌, ◌^◌, Option, Some, None, List, [], ◌∷◌, ◌++◌, length, take, drop, refl, ap, sym, ◌∙◌, append_assoc, arith}
use Rattle.std.specs.List.{All}
use Rattle.std.specs.Option.{ForSome}
use Rattle.std.proofs.lemmas.List.{length-append, take_at, drop_at, map-append}
use Rattle.std.proofs.lemmas.List.Elements.{All-append, All-cons, All-nil}
use Rattle.chunk_buffers.specs.declared.span.ChunkSpan.{ChunkSpan}
use Rattle.rb_arena.specs.RbTree.{SplitsAt}
use Rattle.piece_tree.specs.declared.piece.Piece.{Piece}
use Rattle.piece_tree.specs.declared.cut.Cut.{Cut}
use Rattle.piece_tree.specs.declared.left.Left.{Left}
use Rattle.piece_tree.specs.Pieces.{Entry, pieces_of, unit_count, listed, span_of, piece_list, IsPieceOf, followed_by, back, spliced}
use Rattle.piece_tree.specs.Searches.{few_breaks}
use Rattle.piece_tree.specs.Runs.{entry_at, entries_of, entries_from, pieces_in, replaced}
use Rattle.piece_tree.specs.Splicing.{IsCut, CanTake, Takes, CanPut, joined, entries_before}
use Rattle.piece_tree.proofs.Entries.{pieces_entries, pieces_from, split_entries}
use Rattle.piece_tree.proofs.Sums.{units-append}
use Rattle.piece_tree.proofs.Cuts.{pieces_few}
use Rattle.piece_tree.proofs.Prolonged.{inside_listed, pieces-followed_by, units-spliced}
use Rattle.piece_tree.proofs.PutPieces.{all_at}

all_listed : (P : Piece → Type 0) (piece : Option Piece) → ForSome piece P → All P (listed piece)
all_listed P None holds = All-nil P
all_listed P (Some p) holds = All-cons P p [] (holds p refl) (All-nil P)

-- the new pieces have few breaks
pub joined_few : (b : List (List ℕ)) (left piece right : Option Piece) → ForSome left (IsPieceOf b) → ForSome piece (IsPieceOf b) → ForSome right (IsPieceOf b)
    → All few_breaks (joined b left (span_of piece) right)
joined_few b left piece right counted_left counted counted_right =
    let P : Piece → Type 0 = IsPieceOf b in
    pieces_few b (joined b left (span_of piece) right)
    (All-append P (followed_by b (listed left) (span_of piece)) (listed right)
    (pieces-followed_by b (listed left) (span_of piece) (inside_listed b piece counted) (all_listed P left counted_left)) (all_listed P right counted_right))

-- the position of the cut's piece in the runs
pub record CutIn (runs : List (ℕ × List Piece)) (cut : Cut) (earlier later : List Entry) (piece : Piece) : Type 0 where
  pub us : List (ℕ × List Piece)
  pub x : List Piece
  pub vs : List (ℕ × List Piece)
  pub qs : List Piece
  pub place : SplitsAt runs cut.id.run us x vs
  pub rest : drop cut.id.place x ≡ piece ∷ qs
  pub within : cut.id.place ≤ length x
  pub front : earlier ≡ entries_before cut.id us x
  pub behind : pieces_of later ≡ qs ++ pieces_in vs

pub cut_in : (runs : List (ℕ × List Piece)) (cut : Cut) (earlier later : List Entry) (piece : Piece) → entries_of runs ≡ earlier ++ entry_at cut.id piece ∷ later
    → CutIn runs cut earlier later piece
cut_in runs cut earlier later piece e =
    let (us, (x, (vs, (ps, (qs, at, parts, count, before, after))))) = split_entries runs earlier later (entry_at cut.id piece) e in
    let n = cut.id.place in let run = cut.id.run in
    let own : take n x ≡ ps = ap (take n) parts ∙ take_at ps (piece ∷ qs) n (sym count) in record {
      us = us;
      x = x;
      vs = vs;
      qs = qs;
      place = at;
      rest = ap (drop n) parts ∙ drop_at ps (piece ∷ qs) n (sym count);
      within = omega (arith, count, ap length parts, length-append ps (piece ∷ qs));
      front = before ∙ ap (λ l. entries_of us ++ entries_from run 0 l) (sym own);
      behind = ap pieces_of after ∙ map-append (λ (e : Entry). e.piece) (entries_from run (suc (length ps)) qs) (entries_of vs)
          ∙ (λ i. pieces_from run (suc (length ps)) qs i ++ pieces_entries vs i);
    }

regroup : (u t f r d l : List Piece) → u ++ (t ++ (f ++ r) ++ d) ++ l ≡ u ++ t ++ f ++ (r ++ d ++ l)
regroup u t f r d l = simp append_assoc

module _ (b : List (List ℕ)) (start end : ℕ) (span : Option ChunkSpan) (runs : List (ℕ × List Piece)) (cut : Cut) (is : IsCut b start end span (entries_of runs) cut) (all : All (IsPieceOf b) (pieces_in runs)) where
  abbrev pub there : CutIn runs cut is.earlier is.later is.piece
  there = cut_in runs cut is.earlier is.later is.piece is.place

  pub can_take : CanTake b runs cut.id
  can_take =
      let h = there in let (first, own, behind) = all_at (IsPieceOf b) runs h.us cut.id.run h.x h.vs h.place all in
      record { earlier = h.us; pieces = h.x; later = h.vs; place = h.place; within = h.within; own = own; behind = behind }

  module _ (middle : List (ℕ × List Piece)) (left : Left) (taken : Takes b cut.id cut.end there.us there.x there.vs middle left) where
    abbrev came : List Piece
    came = followed_by b (listed cut.left) span

    abbrev stays : List Piece
    stays = listed left.rest ++ drop left.from there.x ++ pieces_in taken.later

    stays_is : stays ≡ back b cut.end (is.piece ∷ pieces_of is.later)
    stays_is =
        let h = there in
        taken.pieces_left ∙ ap (λ ps. back b cut.end (ps ++ pieces_in h.vs)) h.rest ∙ ap (λ ps. back b cut.end (is.piece ∷ ps)) (sym h.behind)

    before_is : pieces_of is.earlier ≡ pieces_in there.us ++ take cut.id.place there.x
    before_is =
        let h = there in let run = cut.id.run in let own = take cut.id.place h.x in
        ap pieces_of h.front ∙ map-append (λ (e : Entry). e.piece) (entries_of h.us) (entries_from run 0 own) ∙ (λ i. pieces_entries h.us i ++ pieces_from run 0 own i)

    spliced_is : spliced b start end span (pieces_in runs) ≡ pieces_in there.us ++ take cut.id.place there.x ++ came ++ stays
    spliced_is =
        ap (spliced b start end span) (sym (pieces_entries runs)) ∙ is.spliced
        ∙ (λ i. before_is i ++ came ++ sym stays_is i)

    pub spliced_put : (new : List Piece) (with : List Piece) → with ≡ joined b cut.left span left.rest
        → new ≡ pieces_in there.us ++ replaced cut.id.place left.from with there.x ++ pieces_in taken.later → new ≡ spliced b start end span (pieces_in runs)
    spliced_put new with same e =
        let h = there in
        e ∙ ap (λ ps. pieces_in h.us ++ replaced cut.id.place left.from ps h.x ++ pieces_in taken.later) same
        ∙ regroup (pieces_in h.us) (take cut.id.place h.x) came (listed left.rest) (drop left.from h.x) (pieces_in taken.later) ∙ sym spliced_is

    -- the pieces of the run can be replaced by these
    pub can_put : (with : List Piece) → with ≡ joined b cut.left span left.rest → start ≤ unit_count (pieces_in runs)
        → start + unit_count (piece_list b span) + (unit_count (pieces_in runs) - end) < 2 ^ 62 → CanPut middle cut.id left.from with
    can_put with same within small =
        let h = there in let place = cut.id.place in let own = replaced place left.from with h.x in
        let sizes = ap unit_count (spliced_put (pieces_in h.us ++ own ++ pieces_in taken.later) with same refl) in record {
          earlier = h.us;
          pieces = h.x;
          later = taken.later;
          place = taken.place;
          ordered = taken.ordered;
          within = taken.within;
          small = omega (
            arith,
            small,
            sizes,
            units-append (pieces_in h.us ++ own) (pieces_in taken.later),
            units-append (pieces_in h.us) own,
            units-spliced b start end span (pieces_in runs) within,
          );
        }
