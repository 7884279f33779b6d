-- A reader at the start of a line.
use Rattle.std.proofs.Common.{◌≡◌, ℕ, ◌+◌, ◌-◌, ◌≤◌, false, Option, Some, None, List, length, refl, ap, sym, ◌∙◌, arith}
use Rattle.std.specs.Prelude.{slice_index}
use Rattle.text_lengths.specs.declared.Length.{Length}
use Rattle.text_lengths.specs.Length.{length_of}
use Rattle.bracket_rules.specs.declared.Token.{Token}
use Rattle.bracket_rules.specs.Rows.{Row}
use Rattle.bracket_tree_rules.specs.Tree.{Tree}
use Rattle.bracket_tree_rules.specs.Places.{rows_from}
use Rattle.mark_rules.specs.declared.Mark.{Mark}
use Rattle.mark_rules.specs.declared.Mark.TheVariants.{Kept, New}
use Rattle.mark_rules.specs.Marks.{mark_at, Rises}
use Rattle.reuse_rules.specs.Reuse.{IsKeptAs}
use Rattle.reuse_rules.specs.Following.{Reached}
use Rattle.reuse_rules.proofs.Followings.{Follows-line}
use Rattle.bracket_tree_rules.specs.Leaves.{weight_left}
use Rattle.node_reuse.specs.Ahead.{fresh_left}
use Rattle.node_reuse.specs.Reading.{StaysIfThere, IsInLine, left_by, left_at}
use Rattle.node_reuse.proofs.OldPlaces.{kept_from_one}

kept_as : (marks : List Mark) (p : Length) (i : ℕ) → Rises marks → mark_at (p.lines + 1) marks ≡ Kept i → IsKeptAs marks p (i - 1)
kept_as marks p i r e =
    let some : 1 ≤ i = kept_from_one marks (p.lines + 1) i r (sym e) in
    e ∙ ap Kept (omega arith)

starts : (m : Mark) (old : Option Tree) (marks : List Mark) (now : List Row) (weights : List ℕ) (p : Length) (tokens : List Token) (columns : ℕ)
    → mark_at (p.lines + 1) marks ≡ m → StaysIfThere old marks now weights → length weights ≡ length now → p.columns ≡ 0
    → Reached now p (rows_from p now) → IsInLine m old marks now weights p false tokens columns
starts New old marks now weights p tokens columns e s n c r = c
starts (Kept i) None marks now weights p tokens columns e s n c r = s (p.lines + 1) i e
starts (Kept i) (Some old) marks now weights p tokens columns e s n c r = record {
  tree = s.tree;
  light = s.light;
  count = n;
  reached = r;
  follows = Follows-line old marks now p (rows_from p now) (i - 1) s.tree s.agrees c r (kept_as marks p i s.agrees.rises e);
}

-- at the start of a line that was not entered
pub line_starts : (old : Option Tree) (marks : List Mark) (now : List Row) (weights : List ℕ) (p : Length) (tokens : List Token) (columns : ℕ)
    → StaysIfThere old marks now weights → length weights ≡ length now → p.columns ≡ 0 → Reached now p (rows_from p now)
    → IsInLine (mark_at (p.lines + 1) marks) old marks now weights p false tokens columns
line_starts old marks now weights p tokens columns = starts (mark_at (p.lines + 1) marks) old marks now weights p tokens columns refl

left : (m : Mark) (old : Option Tree) (marks : List Mark) (now : List Row) (weights : List ℕ) (p : Length) → mark_at (p.lines + 1) marks ≡ m
    → StaysIfThere old marks now weights → p.columns ≡ 0 → left_by m old weights p ≤ fresh_left weights p
left New old marks now weights p e s c = omega arith
left (Kept i) None marks now weights p e s c = omega arith
left (Kept i) (Some old) marks now weights p e s c =
    let light : weight_left old (length_of (i - 1) 0) ≤ slice_index weights p.lines = s.light p.lines (i - 1) (kept_as marks p i s.agrees.rises e) in
    let column : weight_left old (length_of (i - 1) p.columns) ≡ weight_left old (length_of (i - 1) 0) =
    ap (λ (n : ℕ). weight_left old (length_of (i - 1) n)) c in
    omega arith

-- the weight left of it is at most its bound
pub start_is_light : (old : Option Tree) (marks : List Mark) (now : List Row) (weights : List ℕ) (p : Length) → StaysIfThere old marks now weights
    → p.columns ≡ 0 → left_at old marks weights p ≤ fresh_left weights p
start_is_light old marks now weights p = left (mark_at (p.lines + 1) marks) old marks now weights p refl
