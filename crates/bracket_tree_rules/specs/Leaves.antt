-- The leaves of a tree with their places, and the weight of those of a line from a column on.
use Rattle.std.specs.Prelude.{◌≡◌, ℕ, zero, suc, ◌+◌, ◌&&◌, ◌==◌, nat_le, if◌then◌else◌, List, [], ◌∷◌, ◌++◌, Option, Some, None, refl}
use Rattle.text_lengths.specs.declared.Length.{Length}
use Rattle.text_lengths.specs.Length.{length_of, no_length, length_plus}
use Rattle.bracket_rules.specs.Rows.{next_line}
use Rattle.bracket_tree_rules.specs.Tree.{Tree, text, pair, stray, capped, nothing, two, three, tree_length, inside_start, inside_end}

pub record Leaf : Type 0 where
  pub place : Length
  pub weight : ℕ

abbrev pub leaf : Length → ℕ → Leaf
leaf place weight = record { place = place; weight = weight }

abbrev pub closing_leaves : Length → Option ℕ → List Leaf
closing_leaves p None = []
closing_leaves p (Some width) = leaf p width ∷ []

-- the leaves of a tree that starts at place p
abbrev pub leaves : Length → Tree → List Leaf
leaves p (text l) = leaf p (l.lines + l.columns) ∷ []
leaves p (pair kind open_width inside close_width) =
    leaf p open_width ∷
    (leaves (inside_start p open_width) inside ++ closing_leaves (inside_end p open_width inside) close_width)
leaves p (stray kind width) = leaf p width ∷ []
leaves p (capped kind width) = leaf p width ∷ []
leaves p nothing = []
leaves p (two a b) = leaves p a ++ leaves (length_plus p (tree_length a)) b
leaves p (three a b c) =
    leaves p a ++ (leaves (length_plus p (tree_length a)) b
    ++ leaves (length_plus (length_plus p (tree_length a)) (tree_length b)) c)

-- the weight of a leaf if it starts in the line of place q, at or after its column; else 0
abbrev pub leaf_weight : Length → Leaf → ℕ
leaf_weight q l = if l.place.lines == q.lines && nat_le q.columns l.place.columns then l.weight else 0

abbrev pub weight_from : Length → List Leaf → ℕ
weight_from q [] = 0
weight_from q (l ∷ ls) = leaf_weight q l + weight_from q ls

-- the weight from place q on in its line, and then the weight of each of the next `lines` lines
abbrev pub weights_from : Length → ℕ → List Leaf → List ℕ
weights_from q zero ls = weight_from q ls ∷ []
weights_from q (suc lines) ls = weight_from q ls ∷ weights_from (next_line q) lines ls

-- the weight of the tree of a text in the line of this place, from its column on
abbrev pub weight_left : Tree → Length → ℕ
weight_left t q = weight_from q (leaves no_length t)

-- the weight of a line, counted from 0
abbrev pub line_weight : Tree → ℕ → ℕ
line_weight t line = weight_left t (length_of line 0)

-- ---- worked examples: `(ab`, a break and `c)`

abbrev two_lines : Tree
two_lines = pair 0 1 (three (text (length_of 0 2)) (text (length_of 1 0)) (text (length_of 0 1))) (Some 1)

the_first_line_weighs_its_break : line_weight two_lines 0 ≡ 4
the_first_line_weighs_its_break = refl

the_second_line_has_the_closing_bracket : line_weight two_lines 1 ≡ 2
the_second_line_has_the_closing_bracket = refl

behind_a_bracket_it_is_less : weight_left two_lines (length_of 0 1) ≡ 3
behind_a_bracket_it_is_less = refl
