-- The weight of the leaves of a tree, line by line. A line weighs its columns, plus one for the break that ends it.
use Rattle.std.specs.Prelude.{ℕ, zero, suc, ◌+◌, ◌≤◌, List, [], ◌∷◌, ⊤}
use Rattle.bracket_tree_rules.specs.Tree.{Tree, text, pair, stray, capped, nothing, two, three, width_of}

-- the weights of a text followed by another: the last line of the first joins the first line of the second
abbrev pub glue_weights : List ℕ → List ℕ → List ℕ
glue_weights [] b = b
glue_weights (w ∷ []) [] = w ∷ []
glue_weights (w ∷ []) (v ∷ b) = (w + v) ∷ b
glue_weights (w ∷ x ∷ a) b = w ∷ glue_weights (x ∷ a) b

-- a line ended by a break weighs 1, for the break alone
abbrev pub gap_weights : ℕ → ℕ → List ℕ
gap_weights zero columns = columns ∷ []
gap_weights (suc lines) columns = 1 ∷ gap_weights lines columns

-- one number for each line that the tree reaches
abbrev pub tree_weights : Tree → List ℕ
tree_weights (text l) = gap_weights l.lines l.columns
tree_weights (pair kind open_width inside close_width) =
    glue_weights (glue_weights (open_width ∷ []) (tree_weights inside)) (width_of close_width ∷ [])
tree_weights (stray kind width) = width ∷ []
tree_weights (capped kind width) = width ∷ []
tree_weights nothing = 0 ∷ []
tree_weights (two a b) = glue_weights (tree_weights a) (tree_weights b)
tree_weights (three a b c) = glue_weights (glue_weights (tree_weights a) (tree_weights b)) (tree_weights c)

-- the weights of a sequence of trees
abbrev pub all_weights : List Tree → List ℕ
all_weights [] = 0 ∷ []
all_weights (t ∷ ts) = glue_weights (tree_weights t) (all_weights ts)

-- the lists are equally long, and no weight of the first exceeds that of the second
abbrev pub AreCovered : List ℕ → List ℕ → Type 0
AreCovered [] [] = ⊤
AreCovered (w ∷ ws) (v ∷ vs) = (w ≤ v) × AreCovered ws vs
AreCovered _ _ = ⊥
