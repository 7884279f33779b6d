-- The price of a way through a tree from one place to another.
use Rattle.std.specs.Prelude.{◌≡◌, ℕ, ◌+◌, Bool, true, false, ◌&&◌, ◌||◌, if◌then◌else◌, Option, Some, None, refl}
use Rattle.text_lengths.specs.declared.Length.{Length}
use Rattle.text_lengths.specs.Length.{length_of, no_length, length_plus, is_before}
use Rattle.bracket_tree_rules.specs.Tree.{Tree, text, pair, stray, capped, nothing, two, three, tree_length, inside_start, inside_end, is_some_width, highest}

-- ---- trees of pairs

-- each bracket of the tree belongs to a pair: none is unclosed, unexpected or beyond the limit of open brackets
abbrev pub all_paired : Tree → Bool
all_paired (text l) = true
all_paired (pair kind open_width inside close_width) = is_some_width close_width && all_paired inside
all_paired (stray kind width) = false
all_paired (capped kind width) = false
all_paired nothing = true
all_paired (two a b) = all_paired a && all_paired b
all_paired (three a b c) = all_paired a && (all_paired b && all_paired c)

-- ---- prices

-- the cost of a node taken as a whole, and of a single bracket
pub record Costs : Type 0 where
  pub node : ℕ
  pub opening : ℕ
  pub closing : ℕ

-- each call costs 1: the one that asks for new lines, then the one for a node, and the one for a bracket if no node is
-- found
abbrev pub calls : Costs
calls = record { node = 2; opening = 3; closing = 3 }

-- 1 for each opening bracket taken as a single one
abbrev pub openings : Costs
openings = record { node = 0; opening = 1; closing = 0 }

-- The price between places `from` and `to` of a tree that starts at `start` and ends at `end`: 0 if it ends at or
-- before `from` or starts at or after `to`, `whole` if it lies between the two, and otherwise `parts`.
abbrev pub between : Length → Length → Length → Length → ℕ → ℕ → ℕ
between from to start end whole parts =
    if is_before from end && is_before start to
    then (if is_before start from || is_before to end then parts else whole)
    else 0

abbrev pub opening_price : Costs → Length → Length → ℕ
opening_price costs from p = if is_before p from then 0 else costs.opening

abbrev pub closing_price : Costs → Length → Length → Length → Option ℕ → ℕ
closing_price costs from to p None = 0
closing_price costs from to p (Some width) =
    if is_before p from then 0 else (if is_before p to then costs.closing else 0)

-- The price of a tree that starts at place p, between two places: of its nodes that lie between the places and are not
-- part of another such node, and of the brackets between the places of the pairs that do not lie between them.
abbrev pub price : Costs → Length → Length → Length → Tree → ℕ
price costs from to p (text l) = between from to p (length_plus p l) costs.node 0
price costs from to p (pair kind open_width inside close_width) =
    between from to p (length_plus p (tree_length (pair kind open_width inside close_width))) costs.node
    (opening_price costs from p + (price costs from to (inside_start p open_width) inside
    + closing_price costs from to (inside_end p open_width inside) close_width))
price costs from to p (stray kind width) = between from to p (length_plus p (tree_length (stray kind width))) costs.node 0
price costs from to p (capped kind width) = between from to p (length_plus p (tree_length (capped kind width))) costs.node 0
price costs from to p nothing = 0
price costs from to p (two a b) =
    between from to p (length_plus p (tree_length (two a b))) costs.node
    (price costs from to p a + price costs from to (length_plus p (tree_length a)) b)
price costs from to p (three a b c) =
    between from to p (length_plus p (tree_length (three a b c))) costs.node
    (price costs from to p a + (price costs from to (length_plus p (tree_length a)) b
    + price costs from to (length_plus (length_plus p (tree_length a)) (tree_length b)) c))

-- ---- worked examples: `(ab`, a break and `c)`

abbrev pub two_lines : Tree
two_lines = pair 0 1 (three (text (length_of 0 2)) (text (length_of 1 0)) (text (length_of 0 1))) (Some 1)

the_whole_is_one_node : price calls no_length (length_of 2 0) no_length two_lines ≡ 2
the_whole_is_one_node = refl

-- the opening bracket, and two nodes of the list inside
to_the_second_line : price calls no_length (length_of 1 0) no_length two_lines ≡ 7
to_the_second_line = refl

-- one node of the list, and the closing bracket
from_the_second_line : price calls (length_of 1 0) (length_of 2 0) no_length two_lines ≡ 5
from_the_second_line = refl

one_bracket_opens : price openings no_length (length_of 1 0) no_length two_lines ≡ 1
one_bracket_opens = refl

the_list_inside_is_the_highest : highest two_lines ≡ 1
the_list_inside_is_the_highest = refl
