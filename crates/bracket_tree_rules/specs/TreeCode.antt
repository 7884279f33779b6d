-- A tree as a list of numbers, by which proofs distinguish trees: its nodes, each after its parts.
use Rattle.std.specs.Prelude.{◌≡◌, ℕ, zero, suc, List, [], ◌∷◌, ◌++◌, Option, None, refl}
use Rattle.std.specs.Coded.{Coded, code_by, coded_ℕ, coded_list, coded×, coded_option}
use Rattle.std.proofs.Common.{sym, ◌∙◌, ap, append_assoc}
use Rattle.std.proofs.lemmas.List.{append-nil}
use Rattle.text_lengths.specs.Length.{length_of}
use Rattle.bracket_tree_rules.specs.Tree.{Tree, text, pair, stray, capped, nothing, two, three}

-- a node without its parts: its shape, two numbers and a width
abbrev Mark : Type 0
Mark = ℕ × (ℕ × (ℕ × Option ℕ))

abbrev marks : Tree → List Mark
marks (text l) = (0, (l.lines, (l.columns, None))) ∷ []
marks (pair kind open_width inside close_width) = marks inside ++ (1, (kind, (open_width, close_width))) ∷ []
marks (stray kind width) = (2, (kind, (width, None))) ∷ []
marks (capped kind width) = (3, (kind, (width, None))) ∷ []
marks nothing = (4, (0, (0, None))) ∷ []
marks (two a b) = marks a ++ (marks b ++ (5, (0, (0, None))) ∷ [])
marks (three a b c) = marks a ++ (marks b ++ (marks c ++ (6, (0, (0, None))) ∷ []))

abbrev built : ℕ → ℕ → ℕ → Option ℕ → List Tree → List Tree
built zero m n w stack = text (length_of m n) ∷ stack
built (suc zero) m n w (i ∷ stack) = pair m n i w ∷ stack
built (suc (suc zero)) m n w stack = stray m n ∷ stack
built (suc (suc (suc zero))) m n w stack = capped m n ∷ stack
built (suc (suc (suc (suc zero)))) m n w stack = nothing ∷ stack
built (suc (suc (suc (suc (suc zero))))) m n w (b ∷ a ∷ stack) = two a b ∷ stack
built (suc (suc (suc (suc (suc (suc k)))))) m n w (c ∷ b ∷ a ∷ stack) = three a b c ∷ stack
built _ m n w stack = stack

abbrev read : List Mark → List Tree → List Tree
read [] stack = stack
read (m ∷ ms) stack = read ms (built m.0 m.1.0 m.1.1.0 m.1.1.1 stack)

abbrev top : List Tree → Tree
top [] = nothing
top (t ∷ ts) = t

pub read-marks : (t : Tree) (rest : List Mark) (stack : List Tree) → read (marks t ++ rest) stack ≡ read rest (t ∷ stack)
read-marks (text l) rest stack = refl
read-marks (pair kind open_width inside close_width) rest stack =
    ap (λ (x : List Mark). read x stack) (append_assoc (marks inside) ((1, (kind, (open_width, close_width))) ∷ []) rest)
    ∙ read-marks inside ((1, (kind, (open_width, close_width))) ∷ rest) stack
read-marks (stray kind width) rest stack = refl
read-marks (capped kind width) rest stack = refl
read-marks nothing rest stack = refl
read-marks (two a b) rest stack =
    let last : List Mark = (5, (0, (0, None))) ∷ [] in
    ap (λ (x : List Mark). read x stack) (append_assoc (marks a) (marks b ++ last) rest)
    ∙ read-marks a ((marks b ++ last) ++ rest) stack
    ∙ ap (λ (x : List Mark). read x (a ∷ stack)) (append_assoc (marks b) last rest)
    ∙ read-marks b (last ++ rest) (a ∷ stack)
read-marks (three a b c) rest stack =
    let last : List Mark = (6, (0, (0, None))) ∷ [] in
    ap (λ (x : List Mark). read x stack) (append_assoc (marks a) (marks b ++ (marks c ++ last)) rest)
    ∙ read-marks a ((marks b ++ (marks c ++ last)) ++ rest) stack
    ∙ ap (λ (x : List Mark). read x (a ∷ stack)) (append_assoc (marks b) (marks c ++ last) rest)
    ∙ read-marks b ((marks c ++ last) ++ rest) (a ∷ stack)
    ∙ ap (λ (x : List Mark). read x (b ∷ a ∷ stack)) (append_assoc (marks c) last rest)
    ∙ read-marks c (last ++ rest) (b ∷ a ∷ stack)

abbrev tree_of : List Mark → Tree
tree_of ms = top (read ms [])

pub tree_of-marks : (t : Tree) → tree_of (marks t) ≡ t
tree_of-marks t =
    ap (λ (x : List Mark). top (read x [])) (sym (append-nil (marks t))) ∙ ap top (read-marks t [] [])

abbrev pub tree_code : Coded Tree
tree_code = code_by (List Mark)
    (coded_list (coded× coded_ℕ (coded× coded_ℕ (coded× coded_ℕ (coded_option coded_ℕ)))))
    marks tree_of tree_of-marks
