-- The definition of bracket trees, and what a tree shows, by its shape.
use Rattle.std.specs.Prelude.{◌≡◌, ℕ, zero, suc, ◌+◌, ◌<◌, ◌⊎◌, max, Bool, true, false, ◌&&◌, ◌||◌, ◌==◌, if◌then◌else◌, List, [], ◌∷◌, ◌++◌, Option, Some, None, ⊤}
use Rattle.text_lengths.specs.declared.Length.{Length}
use Rattle.text_lengths.specs.Length.{length_of, no_length, length_plus, is_before}
use Rattle.bracket_rules.specs.declared.Entry.{Entry}
use Rattle.bracket_rules.specs.declared.Status.{Status}
use Rattle.bracket_rules.specs.declared.Status.TheVariants.{PairedOpening, PairedClosing, Unclosed, Unexpected}
use Rattle.bracket_rules.specs.declared.TheConstants.{MOST_PAIRS}
use Rattle.bracket_rules.specs.Table.{token}
use Rattle.bracket_rules.specs.Parse.{Bracket, bracket, Spot, spot, Judged, judged_opening, judged_closing, judged_unexpected, partner_at}
use Rattle.bracket_rules.specs.Rows.{Row, row}
use Rattle.bracket_rules.specs.TextRows.{empty_row, glue}

pub data Tree : Type 0 where
  -- text without brackets within one line, or the break that ends a line together with the text before it
  text : Length → Tree
  -- the kind, the width of the opening bracket, the content, and the width of the closing bracket, if there is one
  pair : ℕ → ℕ → Tree → Option ℕ → Tree
  -- an unexpected closing bracket: its kind and its width
  stray : ℕ → ℕ → Tree
  -- an opening bracket beyond the limit on open brackets: its kind and its width
  capped : ℕ → ℕ → Tree
  -- the empty list, and a list as a (2,3)-tree
  nothing : Tree
  two : Tree → Tree → Tree
  three : Tree → Tree → Tree → Tree

-- ---- lengths

abbrev pub wide : ℕ → Length
wide width = length_of 0 width

abbrev pub width_of : Option ℕ → ℕ
width_of None = 0
width_of (Some width) = width

abbrev pub tree_length : Tree → Length
tree_length (text l) = l
tree_length (pair kind open_width inside close_width) =
    length_plus (length_plus (wide open_width) (tree_length inside)) (wide (width_of close_width))
tree_length (stray kind width) = wide width
tree_length (capped kind width) = wide width
tree_length nothing = no_length
tree_length (two a b) = length_plus (tree_length a) (tree_length b)
tree_length (three a b c) = length_plus (length_plus (tree_length a) (tree_length b)) (tree_length c)

-- ---- brackets in order

-- the start of the content of a pair, and its end
abbrev pub inside_start : Length → ℕ → Length
inside_start p open_width = length_plus p (wide open_width)

abbrev pub inside_end : Length → ℕ → Tree → Length
inside_end p open_width inside = length_plus (inside_start p open_width) (tree_length inside)

abbrev pub closing_brackets : Length → ℕ → Option ℕ → List Bracket
closing_brackets p kind None = []
closing_brackets p kind (Some width) = bracket p width kind false ∷ []

-- the brackets of a tree that starts at place p
abbrev pub tree_tokens : Length → Tree → List Bracket
tree_tokens p (text l) = []
tree_tokens p (pair kind open_width inside close_width) =
    bracket p open_width kind true ∷
    (tree_tokens (inside_start p open_width) inside
    ++ closing_brackets (inside_end p open_width inside) kind close_width)
tree_tokens p (stray kind width) = bracket p width kind false ∷ []
tree_tokens p (capped kind width) = bracket p width kind true ∷ []
tree_tokens p nothing = []
tree_tokens p (two a b) = tree_tokens p a ++ tree_tokens (length_plus p (tree_length a)) b
tree_tokens p (three a b c) =
    tree_tokens p a ++ (tree_tokens (length_plus p (tree_length a)) b
    ++ tree_tokens (length_plus (length_plus p (tree_length a)) (tree_length b)) c)

-- ---- line by line

abbrev pub gap_rows : ℕ → ℕ → List Row
gap_rows zero columns = row [] columns ∷ []
gap_rows (suc lines) columns = empty_row ∷ gap_rows lines columns

abbrev pub bracket_row : ℕ → ℕ → Bool → List Row
bracket_row kind width opening = row (token 0 width kind opening ∷ []) width ∷ []

abbrev pub closing_rows : ℕ → Option ℕ → List Row
closing_rows kind None = empty_row ∷ []
closing_rows kind (Some width) = bracket_row kind width false

abbrev pub tree_rows : Tree → List Row
tree_rows (text l) = gap_rows l.lines l.columns
tree_rows (pair kind open_width inside close_width) =
    glue (glue (bracket_row kind open_width true) (tree_rows inside)) (closing_rows kind close_width)
tree_rows (stray kind width) = bracket_row kind width false
tree_rows (capped kind width) = bracket_row kind width true
tree_rows nothing = empty_row ∷ []
tree_rows (two a b) = glue (tree_rows a) (tree_rows b)
tree_rows (three a b c) = glue (glue (tree_rows a) (tree_rows b)) (tree_rows c)

-- ---- entries

abbrev pub closing_spot : Length → Option ℕ → Option Spot
closing_spot p None = None
closing_spot p (Some width) = Some (spot p width)

abbrev pub closing_entries : Length → ℕ → ℕ → Option ℕ → Spot → List Judged
closing_entries p kind level None opener = []
closing_entries p kind level (Some width) opener =
    judged_closing (bracket p width kind false) level (Some opener) ∷ []

-- the entries of a tree that starts at place p inside `level` pairs
abbrev pub tree_entries : Length → ℕ → Tree → List Judged
tree_entries p level (text l) = []
tree_entries p level (pair kind open_width inside close_width) =
    let ends = inside_end p open_width inside in
    judged_opening (bracket p open_width kind true) level (closing_spot ends close_width) ∷
    (tree_entries (inside_start p open_width) (suc level) inside
    ++ closing_entries ends kind level close_width (spot p open_width))
tree_entries p level (stray kind width) = judged_unexpected (bracket p width kind false) level ∷ []
tree_entries p level (capped kind width) = []
tree_entries p level nothing = []
tree_entries p level (two a b) = tree_entries p level a ++ tree_entries (length_plus p (tree_length a)) level b
tree_entries p level (three a b c) =
    tree_entries p level a ++ (tree_entries (length_plus p (tree_length a)) level b
    ++ tree_entries (length_plus (length_plus p (tree_length a)) (tree_length b)) level c)

-- ---- sets and measures

-- whether the tree has an unexpected closing bracket of this kind
abbrev pub is_missing : ℕ → Tree → Bool
is_missing k (text l) = false
is_missing k (pair kind open_width inside close_width) = is_missing k inside
is_missing k (stray kind width) = kind == k
is_missing k (capped kind width) = false
is_missing k nothing = false
is_missing k (two a b) = is_missing k a || is_missing k b
is_missing k (three a b c) = is_missing k a || (is_missing k b || is_missing k c)

abbrev pub is_some_width : Option ℕ → Bool
is_some_width None = false
is_some_width (Some width) = true

-- whether every pair in the tree has its closing bracket
abbrev pub is_closed : Tree → Bool
is_closed (text l) = true
is_closed (pair kind open_width inside close_width) = is_some_width close_width && is_closed inside
is_closed (stray kind width) = true
is_closed (capped kind width) = true
is_closed nothing = true
is_closed (two a b) = is_closed a && is_closed b
is_closed (three a b c) = is_closed a && (is_closed b && is_closed c)

-- whether the tree has a bracket beyond the limit on open brackets
abbrev pub is_capped : Tree → Bool
is_capped (text l) = false
is_capped (pair kind open_width inside close_width) = is_capped inside
is_capped (stray kind width) = false
is_capped (capped kind width) = true
is_capped nothing = false
is_capped (two a b) = is_capped a || is_capped b
is_capped (three a b c) = is_capped a || (is_capped b || is_capped c)

-- the greatest depth to which pairs are nested
abbrev pub nesting : Tree → ℕ
nesting (text l) = 0
nesting (pair kind open_width inside close_width) = suc (nesting inside)
nesting (stray kind width) = 0
nesting (capped kind width) = 0
nesting nothing = 0
nesting (two a b) = max (nesting a) (nesting b)
nesting (three a b c) = max (nesting a) (max (nesting b) (nesting c))

-- the height of a list of two or three parts; 0 for any other tree
abbrev pub height : Tree → ℕ
height (text l) = 0
height (pair kind open_width inside close_width) = 0
height (stray kind width) = 0
height (capped kind width) = 0
height nothing = 0
height (two a b) = suc (height a)
height (three a b c) = suc (height a)

-- the greatest height of a list in the tree, including the tree itself and the content of pairs
abbrev pub highest : Tree → ℕ
highest (text l) = 0
highest (pair kind open_width inside close_width) = highest inside
highest (stray kind width) = 0
highest (capped kind width) = 0
highest nothing = 0
highest (two a b) = max (suc (height a)) (max (highest a) (highest b))
highest (three a b c) = max (suc (height a)) (max (highest a) (max (highest b) (highest c)))

-- the sum of all lines and columns of the leaves, an upper bound for every length, height and nesting in the tree
abbrev pub weight : Tree → ℕ
weight (text l) = l.lines + l.columns
weight (pair kind open_width inside close_width) = open_width + (weight inside + width_of close_width)
weight (stray kind width) = width
weight (capped kind width) = width
weight nothing = 0
weight (two a b) = weight a + weight b
weight (three a b c) = weight a + (weight b + weight c)

-- ---- the rules of nodes

abbrev pub is_nothing : Tree → Bool
is_nothing (text l) = false
is_nothing (pair kind open_width inside close_width) = false
is_nothing (stray kind width) = false
is_nothing (capped kind width) = false
is_nothing nothing = true
is_nothing (two a b) = false
is_nothing (three a b c) = false

-- a text is columns within one line, or the break that ends the line, which includes the text before it
abbrev pub IsGap : Length → Type 0
IsGap l = ((l.lines ≡ 0) × (0 < l.columns)) ⊎ ((l.lines ≡ 1) × (l.columns ≡ 0))

abbrev pub IsWidth : Option ℕ → Type 0
IsWidth None = ⊤
IsWidth (Some width) = 0 < width

pub record IsPair (kind open_width : ℕ) (inside : Tree) (close_width : Option ℕ) : Type 0 where
  pub has_kind : kind < MOST_PAIRS
  pub opening : 0 < open_width
  pub closing : IsWidth close_width
  -- an unexpected closing bracket of its kind would have closed the pair
  pub not_missing : is_missing kind inside ≡ false

-- a single bracket without a partner
pub record IsLone (kind width : ℕ) : Type 0 where
  pub has_kind : kind < MOST_PAIRS
  pub wide : 0 < width

-- the nodes of a list have the same height, and none of them is empty
pub record IsEven (a b : Tree) : Type 0 where
  pub level : height a ≡ height b
  pub first : is_nothing a ≡ false
  pub second : is_nothing b ≡ false

abbrev pub IsTree : Tree → Type 0
IsTree (text l) = IsGap l
IsTree (pair kind open_width inside close_width) = IsPair kind open_width inside close_width × IsTree inside
IsTree (stray kind width) = IsLone kind width
IsTree (capped kind width) = IsLone kind width
IsTree nothing = ⊤
IsTree (two a b) = IsEven a b × (IsTree a × IsTree b)
IsTree (three a b c) = (IsEven a b × IsEven b c) × (IsTree a × (IsTree b × IsTree c))

-- ---- the nodes of a list, in order

abbrev pub items : Tree → List Tree
items (text l) = text l ∷ []
items (pair kind open_width inside close_width) = pair kind open_width inside close_width ∷ []
items (stray kind width) = stray kind width ∷ []
items (capped kind width) = capped kind width ∷ []
items nothing = []
items (two a b) = items a ++ items b
items (three a b c) = items a ++ (items b ++ items c)

abbrev pub all_items : List Tree → List Tree
all_items [] = []
all_items (t ∷ ts) = items t ++ all_items ts

abbrev pub all_weight : List Tree → ℕ
all_weight [] = 0
all_weight (t ∷ ts) = weight t + all_weight ts

-- ---- what is asked of a tree that starts at the text's start

abbrev pub is_opening : Status → Bool
is_opening PairedOpening = true
is_opening PairedClosing = false
is_opening Unclosed = true
is_opening Unexpected = false

abbrev pub level_after : Entry → ℕ
level_after e = if is_opening e.status then suc e.level else e.level

-- the level after the last entry that starts before this place, or `level` if none does
abbrev pub level_before : Length → ℕ → List Judged → ℕ
level_before p level [] = level
level_before p level (j ∷ js) =
    level_before p (if is_before j.entry.place p then level_after j.entry else level) js

abbrev pub tree_story : Tree → List Judged
tree_story t = tree_entries no_length 0 t

abbrev pub tree_level : Tree → Length → ℕ
tree_level t p = level_before p 0 (tree_story t)

abbrev pub tree_partner : Tree → Length → Option Spot
tree_partner t p = partner_at p (tree_story t)
