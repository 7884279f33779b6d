use Rattle.std.proofs.Common.{◌≡◌, ℕ, ◌+◌, List, ap, sym, subst, ◌∙◌, arith}
use Rattle.std.specs.List.{All}
use Rattle.piece_tree.specs.declared.piece.Piece.{Piece}
use Rattle.piece_tree.specs.Pieces.{Pieces, pieces_of, unit_count, IsPieceOf, IsFound, span_of, spliced}
use Rattle.piece_tree.specs.Searches.{few_breaks}
use Rattle.piece_tree.specs.Runs.{entries_of, pieces_in}
use Rattle.piece_tree.proofs.Entries.{pieces_entries}
use Rattle.piece_tree.proofs.Cuts.{pieces_few}
use Rattle.piece_tree.proofs.Prolonged.{listed_is, inside_listed, units-spliced, pieces-spliced}
use Rattle.piece_tree.proofs.Fronts.{found_still}
use Rattle.piece_tree.proofs.tree.PieceTree.splice.Goals as goal

-- the pieces that a contract sees are those in the runs
shown : (all : Pieces) (runs : List (ℕ × List Piece)) (spare : ℕ) → record { entries = entries_of runs; spare = spare } ≡ all → pieces_of all.entries ≡ pieces_in runs
shown all runs spare e = ap (λ (v : Pieces). pieces_of v.entries) (sym e) ∙ pieces_entries runs

pub replace_units-first-requires-clause-range : goal.replace_units-first-requires-clause-range
replace_units-first-requires-clause-range c = omega (arith, ap unit_count (shown c.args.self.now c.self.inside.runs.runs _ c.self.view_is), c.requires.range)

pub replace_units-first-requires-clause-pieces : goal.replace_units-first-requires-clause-pieces
replace_units-first-requires-clause-pieces c =
    subst (All (IsPieceOf c.args.chunks.now.buffers)) (shown c.args.self.now c.self.inside.runs.runs _ c.self.view_is) c.requires.pieces

pub replace_units-first-requires-clause-fits : goal.replace_units-first-requires-clause-fits
replace_units-first-requires-clause-fits c = omega (arith, ap unit_count (shown c.args.self.now c.self.inside.runs.runs _ c.self.view_is), c.requires.small)

pub invariant_of-self : goal.invariant_of-self
invariant_of-self c =
    let b = c.args.chunks.now.buffers in let runs = c.self.inside.runs.runs in let ps = pieces_in runs in let end = c.args.offset + c.args.deleted in
    let same = shown c.args.self.now runs _ c.self.view_is in
    let units = ap unit_count same in
    let all = subst (All (IsPieceOf b)) same c.requires.pieces in
    let order : pieces_in c.replace_units-first.new.runs.runs ≡ spliced b c.args.offset end (span_of c.args.piece) ps = c.replace_units-first.ensures.spliced in record {
      small = omega (
        arith,
        ap unit_count order,
        units-spliced b c.args.offset end (span_of c.args.piece) ps (omega (arith, units, c.requires.range)),
        ap unit_count (listed_is b c.args.piece c.requires.counted),
        units,
        c.requires.range,
        c.requires.small,
      );
      few = subst (All few_breaks) (sym order) (pieces_few b _ (pieces-spliced b c.args.offset end (span_of c.args.piece) ps (inside_listed b c.args.piece c.requires.counted) all));
      room = omega (arith, c.self.invariant.room, c.replace_units-first.ensures.room);
    }

pub returns-clause-spliced : goal.returns-clause-spliced
returns-clause-spliced c =
    let b = c.args.chunks.now.buffers in let runs = c.self.inside.runs.runs in
    pieces_entries c.replace_units-first.new.runs.runs ∙ c.replace_units-first.ensures.spliced
    ∙ ap (spliced b c.args.offset (c.args.offset + c.args.deleted) (span_of c.args.piece)) (sym (shown c.args.self.now runs _ c.self.view_is))

pub returns-clause-front : goal.returns-clause-front
returns-clause-front c = λ found is less.
    let was = subst (λ (v : Pieces). IsFound v.entries found) (sym c.self.view_is) is in
    found_still c.args.offset (entries_of c.self.inside.runs.runs) (entries_of c.replace_units-first.new.runs.runs) found c.replace_units-first.ensures.front was less
