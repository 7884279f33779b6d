-- A reader in a kept line takes an old bracket, or is at the end.
use Rattle.std.proofs.Common.{◌≡◌, ℕ, suc, ◌+◌, ◌<◌, ◌≤◌, inl, inr, Bool, true, false, Option, Some, None, List, [], ◌∷◌, ◌++◌, length, drop, refl, ap, sym, ◌∙◌, subst, arith}
use Rattle.std.specs.Prelude.{slice_index_or}
use Rattle.std.proofs.lemmas.List.{length-drop, nil_from_length, get_or-drop}
use Rattle.text_lengths.specs.declared.Length.{Length}
use Rattle.text_lengths.specs.Length.{length_of, no_length, length_plus}
use Rattle.text_lengths.proofs.Lengths.{none_plus}
use Rattle.bracket_rules.specs.declared.TheConstants.{MOST_OPEN, MOST_PAIRS}
use Rattle.bracket_rules.specs.Parse.{Bracket, bracket}
use Rattle.bracket_rules.specs.Rows.{Row}
use Rattle.bracket_rules.specs.TextRows.{empty_row}
use Rattle.bracket_tree_rules.specs.Tree.{Tree, text, pair, stray, capped, nothing, two, three, wide, bracket_row, tree_length, tree_tokens, closing_brackets, inside_start, inside_end, IsTree, IsWidth}
use Rattle.bracket_tree_rules.specs.Weights.{glue_weights, tree_weights, AreCovered}
use Rattle.bracket_tree_rules.specs.Places.{IsAmong, HasBracket, IsEdge, at_text, at_bracket, at_end, rows_from}
use Rattle.bracket_tree_rules.proofs.Places.{IsAmong-append}
use Rattle.bracket_tree_rules.proofs.LineWeights.{AreCovered-same, AreCovered-then, AreCovered-glue}
use Rattle.bracket_nodes.specs.Source.{Ahead, GivesNode, GivesBracket, IsOver, weights_ahead}
use Rattle.mark_rules.specs.declared.Mark.{Mark}
use Rattle.mark_rules.specs.declared.Mark.TheVariants.{Kept, New}
use Rattle.mark_rules.specs.Marks.{mark_at, kept_run}
use Rattle.reuse_rules.specs.Following.{Reached}
use Rattle.reuse_rules.proofs.Followings.{bracket_taken, ends_alike, text_may_be_taken}
use Rattle.bracket_tree_rules.specs.Leaves.{weight_left}
use Rattle.node_reuse.specs.OldText.{old_text, NoneReusable, NoOldBracket}
use Rattle.node_reuse.specs.Reading.{IsFollowing}
use Rattle.node_reuse.specs.Ahead.{ahead_at}
use Rattle.bracket_tree_rules.proofs.PartedLeaves.{bracket_weighs}
use Rattle.node_reuse.proofs.KeptSteps.{TookAt, took_at, reached_end}

-- ---- brackets of trees

pub record FitsBracket (b : Bracket) : Type 0 where
  pub wide : 0 < b.len
  pub has_kind : b.kind < MOST_PAIRS

only : (b first : Bracket) → 0 < first.len → first.kind < MOST_PAIRS → IsAmong b (first ∷ []) → FitsBracket b
only b first w k (inl h) = subst FitsBracket (sym h) (record { wide = w; has_kind = k })
only b first w k (inr h) = elim h [ ]

closing_fits : (p : Length) (k : ℕ) (c : Option ℕ) (b : Bracket) → k < MOST_PAIRS → IsWidth c → IsAmong b (closing_brackets p k c) → FitsBracket b
closing_fits p k None b h w i = elim i [ ]
closing_fits p k (Some w) b h g i = only b (bracket p w k false) g h i

pub bracket_fits : (p : Length) (t : Tree) (b : Bracket) → IsTree t → HasBracket p t b → FitsBracket b
bracket_fits p (text l) b t h = elim h [ ]
bracket_fits p (pair k o i c) b t (inl h) = subst FitsBracket (sym h) (record { wide = t.0.opening; has_kind = t.0.has_kind })
bracket_fits p (pair k o i c) b t (inr h) =
    elim (IsAmong-append b (tree_tokens (inside_start p o) i) (closing_brackets (inside_end p o i) k c) h) [
      | inl inside ↦ bracket_fits (inside_start p o) i b t.1 inside
      | inr closing ↦ closing_fits (inside_end p o i) k c b t.0.has_kind t.0.closing closing
    ]
bracket_fits p (stray k w) b t h = only b (bracket p w k false) t.wide t.has_kind h
bracket_fits p (capped k w) b t h = only b (bracket p w k true) t.wide t.has_kind h
bracket_fits p nothing b t h = elim h [ ]
bracket_fits p (two x y) b t h =
    let m = length_plus p (tree_length x) in
    elim (IsAmong-append b (tree_tokens p x) (tree_tokens m y) h) [
      | inl first ↦ bracket_fits p x b t.1.0 first
      | inr second ↦ bracket_fits m y b t.1.1 second
    ]
bracket_fits p (three x y z) b t h =
    let m = length_plus p (tree_length x) in
    let n = length_plus m (tree_length y) in
    elim (IsAmong-append b (tree_tokens p x) (tree_tokens m y ++ tree_tokens n z) h) [
      | inl first ↦ bracket_fits p x b t.1.0 first
      | inr rest ↦ elim (IsAmong-append b (tree_tokens m y) (tree_tokens n z) rest) [
        | inl second ↦ bracket_fits m y b t.1.1.0 second
        | inr third ↦ bracket_fits n z b t.1.1.1 third
      ]
    ]

-- ---- a run has a line

abbrev is_kept : Mark → Bool
is_kept (Kept i) = true
is_kept New = false

kept_first : (marks : List Mark) (i : ℕ) → slice_index_or marks 0 New ≡ Kept i → 0 < kept_run marks
kept_first [] i e = let clash : false ≡ true = ap is_kept e in cc
kept_first (New ∷ marks) i e = let clash : false ≡ true = ap is_kept e in cc
kept_first (Kept j ∷ marks) i e = omega arith

pub run_some : (marks : List Mark) (j i : ℕ) → mark_at (j + 1) marks ≡ Kept i → 0 < kept_run (drop j marks)
run_some marks j i e =
    kept_first (drop j marks) i (get_or-drop j marks 0 New ∙ ap (λ (n : ℕ). slice_index_or marks n New) (omega arith) ∙ e)

-- ---- a bracket

pub bracket_took : (old : Tree) (marks : List Mark) (now : List Row) (weights : List ℕ) (p : Length) (line : ℕ) (b : Bracket)
    → IsFollowing old marks now weights p line → HasBracket no_length old b → b.place ≡ length_of line p.columns
    → TookAt old marks now p line (bracket_row b.kind b.len b.opening) (wide b.len)
bracket_took old marks now weights p line b f h e =
    let fits : FitsBracket b = bracket_fits no_length old b f.tree h in
    took_at old marks now p line (bracket_row b.kind b.len b.opening) (wide b.len) refl
    (bracket_taken old marks now p (rows_from p now) line b f.tree f.reached f.follows h e fits.wide)

pub bracket_goes_on : (old : Tree) (marks : List Mark) (now : List Row) (weights : List ℕ) (p : Length) (line : ℕ) (b : Bracket)
    → IsFollowing old marks now weights p line → HasBracket no_length old b → b.place ≡ length_of line p.columns
    → IsFollowing old marks now weights (length_plus p (wide b.len)) (line + 0)
bracket_goes_on old marks now weights p line b f h e =
    let t : TookAt old marks now p line (bracket_row b.kind b.len b.opening) (wide b.len) = bracket_took old marks now weights p line b f h e in
    record {
      tree = f.tree;
      light = f.light;
      count = f.count;
      reached = t.reached;
      follows = t.goes_on (run_some marks p.lines (line + 1) f.follows.kept);
    }

pub bracket_given : (old : Tree) (marks : List Mark) (now : List Row) (weights : List ℕ) (p : Length) (line : ℕ) (b : Bracket)
    → IsFollowing old marks now weights p line → HasBracket no_length old b → b.place ≡ length_of line p.columns
    → GivesBracket (ahead_at now weights p (weight_left old (length_of line p.columns)))
    (ahead_at now weights (length_plus p (wide b.len)) (weight_left old (length_of (line + 0) (length_plus p (wide b.len)).columns))) b.kind b.len b.opening
bracket_given old marks now weights p line b f h e =
    let q = length_of line p.columns in
    let fits : FitsBracket b = bracket_fits no_length old b f.tree h in
    let t : TookAt old marks now p line (bracket_row b.kind b.len b.opening) (wide b.len) = bracket_took old marks now weights p line b f h e in
    let weighed : weight_left old q ≡ b.len + weight_left old (length_plus q (wide b.len)) =
    ap (weight_left old) (sym e) ∙ bracket_weighs old b f.tree h fits.wide
    ∙ ap (λ (x : Length). b.len + weight_left old (length_plus x (wide b.len))) e in
    let later : drop (suc p.lines) weights ≡ drop (suc (p.lines + 0)) weights = ap (λ (n : ℕ). drop (suc n) weights) (omega arith) in
    record {
      has_kind = fits.has_kind;
      wide = fits.wide;
      spells = t.spells;
      weighs = (
        omega (arith, weighed),
        subst (λ (x : List ℕ). AreCovered x (drop (suc p.lines) weights)) later (AreCovered-same (drop (suc p.lines) weights)),
      );
      rest = t.has_rest;
    }

-- ---- the end

-- if no old node is reusable and no old bracket is there, the current text ends
pub kept_over : (old : Tree) (marks : List Mark) (now : List Row) (weights : List ℕ) (p : Length) (line kinds level left : ℕ)
    → IsFollowing old marks now weights p line → level ≤ MOST_OPEN → NoneReusable (old_text (Some old) marks) p kinds level
    → NoOldBracket (old_text (Some old) marks) p → IsOver (ahead_at now weights p left)
kept_over old marks now weights p line kinds level left f room none no_bracket = over f.follows.edge
  where
    over : IsEdge no_length old (length_of line p.columns) → IsOver (ahead_at now weights p left)
    over (at_text l h) =
        elim (none (text l) (record {
          line = line;
          kept = f.follows.kept;
          node = h;
          taken = text_may_be_taken old marks p (rows_from p now) line kinds level l f.tree f.follows h room;
        })) [ ]
    over (at_bracket b h e) = elim (no_bracket b (record { line = line; kept = f.follows.kept; bracket = h; place = e })) [ ]
    over (at_end e) =
        let whole : length_of line p.columns ≡ tree_length old = e ∙ none_plus (tree_length old) in
        let empty : rows_from p now ≡ empty_row ∷ [] = ends_alike old marks p (rows_from p now) line f.tree f.follows whole in
        let last : length now ≡ suc p.lines = reached_end now p (subst (Reached now p) empty f.reached) in
        let count = f.count in
        record {
          empty = empty;
          last = nil_from_length (drop (suc p.lines) weights) (omega (arith, length-drop (suc p.lines) weights));
          asked = refl;
        }

-- ---- less is left

abbrev pub with_left : Ahead → ℕ → Ahead
with_left a left = record a { line = left }

-- a node may still be given if less of the line is left after it
pub lighter : (old new : Ahead) (kinds level : ℕ) (t : Tree) (left : ℕ) → left ≤ new.line → GivesNode old new kinds level t
    → GivesNode old (with_left new left) kinds level t
lighter old new kinds level t left h g = record {
  tree = g.tree;
  some = g.some;
  fits = g.fits;
  spells = g.spells;
  weighs =
      AreCovered-then (glue_weights (tree_weights t) (left ∷ new.later)) (glue_weights (tree_weights t) (new.line ∷ new.later)) (weights_ahead old)
      (AreCovered-glue (tree_weights t) (tree_weights t) (left ∷ new.later) (new.line ∷ new.later) (AreCovered-same (tree_weights t))
      (h, AreCovered-same new.later)) g.weighs;
  rest = g.rest;
}
