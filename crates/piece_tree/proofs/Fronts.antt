-- A splice leaves the entries before its cut unchanged.
use Rattle.std.proofs.Common.{◌≡◌, ℕ, ◌+◌, ◌<◌, ◌≤◌, List, [], ◌∷◌, ◌++◌, ap, sym, ◌∙◌, append_assoc, arith}
use Rattle.piece_tree.specs.declared.piece.Piece.{Piece}
use Rattle.piece_tree.specs.declared.piece.PieceId.{PieceId}
use Rattle.piece_tree.specs.declared.piece.Found.{Found}
use Rattle.piece_tree.specs.Pieces.{Entry, IsFound, entry_found, pieces_of, unit_count}
use Rattle.piece_tree.specs.Runs.{entry_at}
use Rattle.piece_tree.specs.Splicing.{KeepsBefore}
use Rattle.piece_tree.proofs.Sums.{units-cons}

-- an entry that ends before another stands before it
stands_before : (us ws : List Entry) (f e : Entry) (vs zs : List Entry) → us ++ f ∷ vs ≡ ws ++ e ∷ zs
    → unit_count (pieces_of ws) + e.piece.span.units < unit_count (pieces_of us) + f.piece.span.units → (ms : List Entry) × (us ≡ ws ++ e ∷ ms)
stands_before [] [] f e vs zs h less =
    let first : f ≡ e = cc in absurd (omega (arith, less, ap (λ (d : Entry). d.piece.span.units) first))
stands_before [] (w ∷ ws) f e vs zs h less =
    let first : f ≡ w = cc in absurd (omega (arith, less, ap (λ (d : Entry). d.piece.span.units) first, units-cons w.piece (pieces_of ws)))
stands_before (u ∷ us) [] f e vs zs h less = let first : u ≡ e = cc in (us, ap (λ (d : Entry). d ∷ us) first)
stands_before (u ∷ us) (w ∷ ws) f e vs zs h less =
    let first : u ≡ w = cc in
    let rest : us ++ f ∷ vs ≡ ws ++ e ∷ zs = cc in
    let size = ap (λ (d : Entry). d.piece.span.units) first in
    let (ms, is) = stands_before us ws f e vs zs rest (omega (arith, less, size, units-cons u.piece (pieces_of us), units-cons w.piece (pieces_of ws))) in
    (ms, λ i. first i ∷ is i)

-- the entries before one that ends at or after the offset stay
pub keeps_before : (offset : ℕ) (old new us : List Entry) (id : PieceId) (x : Piece) (vs behind : List Entry) → old ≡ us ++ entry_at id x ∷ vs
    → offset ≤ unit_count (pieces_of us) + x.span.units → new ≡ us ++ behind → KeepsBefore offset old new
keeps_before offset old new us id x vs behind place reach kept earlier later e split less =
    let (ms, is) = stands_before us earlier (entry_at id x) e vs later (sym place ∙ split) (omega (arith, less, reach)) in
    (ms ++ behind, kept ∙ ap (λ l. l ++ behind) is ∙ append_assoc earlier (e ∷ ms) behind)

-- a looked-up piece that ends before the offset is still found
pub found_still : (offset : ℕ) (old new : List Entry) (found : Found) → KeepsBefore offset old new → IsFound old found → found.before.units + found.span.units < offset → IsFound new found
found_still offset old new found kept is less =
    let (ws, front) = kept is.earlier is.later (entry_found found) is.place (omega (arith, less, ap (λ s. s.units) is.before)) in
    record { earlier = is.earlier; later = ws; place = front; before = is.before }
