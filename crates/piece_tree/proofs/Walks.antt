-- Walks over the pieces, by walks over their runs.
use Rattle.std.proofs.Common.{◌≡◌, ℕ, suc, ◌+◌, ◌≤◌, Option, Some, None, List, [], ◌∷◌, ◌++◌, length, drop, refl, ap, sym, subst, ◌∙◌, arith}
use Rattle.std.specs.List.{All}
use Rattle.std.specs.Prelude.{IfSome, false}
use Rattle.std.specs.Option.{is_some}
use Rattle.std.proofs.lemmas.List.{length-append}
use Rattle.std.proofs.lemmas.List.Elements.{All-nil, All-head, All-tail}
use Rattle.std.proofs.Math.Seq.{drop-append_seam}
use Rattle.rb_arena.specs.RbTree.{IsItem, first_or}
use Rattle.rb_arena.specs.Walking as runs_of
use Rattle.piece_tree.specs.declared.piece.Piece.{Piece}
use Rattle.piece_tree.specs.declared.piece.PieceId.{PieceId}
use Rattle.piece_tree.specs.Pieces.{Entry, IsAmong}
use Rattle.piece_tree.specs.Runs.{most_pieces, entry_at, entries_of, entries_from, entries_past}
use Rattle.piece_tree.specs.Walking.{LeftFrom, place_of, WalksIn}
use Rattle.piece_tree.proofs.Entries.{Runs, split_entries}
use Rattle.piece_tree.proofs.FullRuns.{IsFull}
use Rattle.piece_tree.proofs.Sums.{All-parts}
use Rattle.piece_tree.proofs.NearPieces.{run_named}

-- a walk that starts at the front of a run
pub starts_in : (pieces : List Piece) (behind : Runs) → All IsFull behind → WalksIn None pieces 0 behind
starts_in pieces [] full = record { here = tt; full = full }
starts_in pieces (r ∷ rs) full = record { here = All-head IsFull r rs full; full = full }

-- a walk with a current run
abbrev pub StandsIn : List Piece → ℕ → Runs → Type 0
StandsIn pieces place behind = (run : ℕ) → WalksIn (Some run) pieces place behind

pub stands_still : (run : Option ℕ) (pieces : List Piece) (place : ℕ) (behind : Runs) → WalksIn run pieces place behind → (id : ℕ) → run ≡ Some id → StandsIn pieces place behind
stands_still run pieces place behind is id some = λ own.
    let at : WalksIn (Some id) pieces place behind = subst (λ o. WalksIn o pieces place behind) some is in record { here = at.here; full = at.full }

-- a walk that has gone on to the next run
pub goes_in : (run : Option ℕ) (pieces : List Piece) (place : ℕ) (behind : Runs) → WalksIn run pieces place behind → is_some run ≡ false → (next : ℕ × List Piece) (left : Runs)
    → behind ≡ next ∷ left → length next.1 ≤ most_pieces → StandsIn next.1 place left
goes_in None pieces place behind is none next left told few = λ own.
    let at : WalksIn None pieces place (next ∷ left) = subst (λ b. WalksIn None pieces place b) told is in
    record { here = (at.here, few); full = All-tail IsFull next left at.full }
goes_in (Some run) pieces place behind is none next left told few = absurd cc

-- a walk that goes on to the next piece of its run
pub moves_in : (run : Option ℕ) (id : ℕ) → run ≡ Some id → (pieces : List Piece) (place : ℕ) (behind : Runs) → StandsIn pieces place behind → (place + 1 ≡ length pieces → ⊥)
    → WalksIn run pieces (place + 1) behind
moves_in run id some pieces place behind is more =
    let at : WalksIn (Some id) pieces (place + 1) behind = record { here = (omega (arith, (is id).here.0, more), (is id).here.1); full = (is id).full } in
    subst (λ o. WalksIn o pieces (place + 1) behind) (sym some) at

module _ (runs : Runs) (entries : List Entry) (shown : entries_of runs ≡ entries) where
  pub walk_named : (id : Option PieceId) → IfSome id (IsAmong entries) → IfSome (place_of id).0 (IsItem runs)
  walk_named None is = tt
  walk_named (Some id) is = run_named runs id (subst (λ es. IsAmong es id) (sym shown) is)

  pub walk_left : (id : Option PieceId) (left : Runs) → runs_of.LeftFrom runs (place_of id).0 left → LeftFrom entries id (entries_past (place_of id).1 left)
  walk_left None left is = ap (entries_past 0) is
  walk_left (Some id) left is = λ earlier later p e.
      let (us, (x, (vs, (ps, (qs, at, pieces, place, before, behind))))) = split_entries runs earlier later (entry_at id p) (shown ∙ e) in
      ap (entries_past id.place) (is us x vs at)
      ∙ ap (λ l. entries_from id.run id.place l ++ entries_of vs) ((λ i. drop (place i) (pieces i)) ∙ drop-append_seam ps (p ∷ qs))
      ∙ ap (λ k. entry_at id p ∷ (entries_from id.run (suc k) qs ++ entries_of vs)) place
      ∙ ap (λ es. entry_at id p ∷ es) (sym behind)

  pub walk_in : (id : Option PieceId) → IfSome id (IsAmong entries) → (left : Runs) → runs_of.LeftFrom runs (place_of id).0 left → All IsFull runs → (pieces : List Piece)
      → WalksIn None pieces (place_of id).1 left
  walk_in None is left e full pieces = subst (λ l. WalksIn None pieces 0 l) (sym e) (starts_in pieces [] (All-nil IsFull))
  walk_in (Some id) is left e full none =
      let (us, (x, (vs, (ps, (qs, at, pieces, place, before, behind))))) = split_entries runs is.earlier is.later (entry_at id is.piece) (shown ∙ is.place) in
      let there : WalksIn None none id.place ((id.run, x) ∷ vs) = record {
        here = omega (arith, place, ap length pieces, length-append ps (is.piece ∷ qs));
        full = (All-parts IsFull us ((id.run, x) ∷ vs) (subst (All IsFull) at full)).1;
      } in subst (λ l. WalksIn None none id.place l) (sym (e us x vs at)) there

-- all runs are left to a walk from the first on
pub left_all : (runs : Runs) (first : Option ℕ) (left : Runs) → first ≡ first_or None runs → runs_of.LeftFrom runs first left → left ≡ runs
left_all [] first left is from = subst (λ o. runs_of.LeftFrom [] o left) is from
left_all (r ∷ rs) first left is from = let all : runs_of.LeftFrom (r ∷ rs) (Some r.0) left = subst (λ o. runs_of.LeftFrom (r ∷ rs) o left) is from in all [] r.1 rs refl
