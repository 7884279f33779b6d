-- No run of a tree is empty.
use Rattle.std.proofs.Common.{◌≡◌, ℕ, ◌<◌, List, [], ◌∷◌, length, sym, subst}
use Rattle.std.specs.List.{All}
use Rattle.std.proofs.lemmas.List.Elements.{All-nil, All-cons, All-head, All-tail}
use Rattle.raw_arena.specs.Arena.{Nodes}
use Rattle.rb_arena.specs.RbTree.{Listed}
use Rattle.piece_tree.specs.declared.piece.Piece.{Piece}
use Rattle.piece_tree.specs.declared.run.Run.{Run}
use Rattle.piece_tree.specs.declared.weave.StoredRun.{StoredRun}
use Rattle.piece_tree.specs.Runs.{Runs}
use Rattle.piece_tree.specs.Stored.{IsStored, AreStored, stored_in, runs_of, pieces_at}
use Rattle.piece_tree.proofs.Storing.{pieces_there}

abbrev pub IsFull : ℕ × List Piece → Type 0
IsFull r = 0 < length r.1

full_in : (stored : Nodes Run) (items : List (ℕ × StoredRun)) → All (IsStored stored) items → All IsFull (stored_in stored items)
full_in stored [] all = All-nil IsFull
full_in stored (e ∷ es) all =
    let own : IsStored stored e = All-head (IsStored stored) e es all in
    let some : 0 < length (pieces_at stored e.1.at) = subst (λ ps. 0 < length ps) (sym (pieces_there stored e.1.at own.run own.there)) own.some in
    All-cons IsFull (e.0, pieces_at stored e.1.at) (stored_in stored es) some (full_in stored es (All-tail (IsStored stored) e es all))

pub full_shown : (tree : Listed StoredRun) (stored : Nodes Run) (view : Runs) → AreStored tree stored → runs_of tree stored ≡ view → All (λ r. 0 < length r.1) view.runs
full_shown tree stored view is shown = subst (λ v. All IsFull v.runs) shown (full_in stored tree.items is.each)
