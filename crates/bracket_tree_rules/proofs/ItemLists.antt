-- The properties of a tree are those of its items, one after another.
use Rattle.std.proofs.Common.{◌≡◌, ℕ, ◌||◌, List, [], ◌∷◌, ◌++◌, refl, ap, sym, ◌∙◌}
use Rattle.std.proofs.Math.Bool.{or-false, or_assoc}
use Rattle.text_lengths.specs.declared.Length.{Length}
use Rattle.text_lengths.specs.Length.{length_plus}
use Rattle.bracket_rules.specs.TextRows.{HasRow, glue}
use Rattle.bracket_tree_rules.specs.Tree.{Tree, tree_length, tree_tokens, tree_entries, tree_rows, is_missing, items, all_items}
use Rattle.bracket_tree_rules.specs.Items.{all_length, all_tokens, entries_at, all_entries, all_rows, any_missing}
use Rattle.bracket_tree_rules.proofs.Adding.{AddsUp, ShowsInTurn, adds_length, added-append, added-items, added-all_items, spread-items, spread-all_items}
use Rattle.bracket_tree_rules.proofs.Glue.{HasRow-tree_rows, HasRow-glue, glue_empty, empty_glue, glue_assoc}

-- ---- lengths

pub all_length-append : (xs ys : List Tree) → all_length (xs ++ ys) ≡ length_plus (all_length xs) (all_length ys)
all_length-append = added-append adds_length

pub all_length-items : (t : Tree) → all_length (items t) ≡ tree_length t
all_length-items = added-items adds_length

-- ---- brackets and entries

shows_tokens : ShowsInTurn tree_tokens
shows_tokens = record { of_nothing = λ p. refl; of_two = λ p a b. refl; of_three = λ p a b c. refl }

shows_entries : (level : ℕ) → ShowsInTurn (entries_at level)
shows_entries level = record { of_nothing = λ p. refl; of_two = λ p a b. refl; of_three = λ p a b c. refl }

pub all_entries-items : (p : Length) (level : ℕ) (t : Tree) → all_entries p level (items t) ≡ tree_entries p level t
all_entries-items p level t = spread-items (entries_at level) (shows_entries level) p t

-- ---- rows

pub HasRow-all_rows : (ts : List Tree) → HasRow (all_rows ts)
HasRow-all_rows [] = tt
HasRow-all_rows (t ∷ ts) = HasRow-glue (tree_rows t) (all_rows ts) (HasRow-tree_rows t)

adds_rows : AddsUp glue tree_rows all_rows
adds_rows = record {
  one_more = λ t ts. refl;
  none_before = λ ts. empty_glue (all_rows ts) (HasRow-all_rows ts);
  none_after = λ t. glue_empty (tree_rows t) (HasRow-tree_rows t);
  in_turn = glue_assoc;
  of_nothing = refl;
  of_two = λ a b. refl;
  of_three = λ a b c. glue_assoc (tree_rows a) (tree_rows b) (tree_rows c);
}

pub all_rows-append : (xs ys : List Tree) → all_rows (xs ++ ys) ≡ glue (all_rows xs) (all_rows ys)
all_rows-append = added-append adds_rows

pub all_rows-items : (t : Tree) → all_rows (items t) ≡ tree_rows t
all_rows-items = added-items adds_rows

-- ---- missing kinds

adds_missing : (k : ℕ) → AddsUp ◌||◌ (is_missing k) (any_missing k)
adds_missing k = record {
  one_more = λ t ts. refl;
  none_before = λ ts. refl;
  none_after = λ t. or-false (is_missing k t);
  in_turn = or_assoc;
  of_nothing = refl;
  of_two = λ a b. refl;
  of_three = λ a b c. refl;
}

pub any_missing-append : (k : ℕ) (xs ys : List Tree) → any_missing k (xs ++ ys) ≡ (any_missing k xs || any_missing k ys)
any_missing-append k = added-append (adds_missing k)

pub any_missing-items : (k : ℕ) (t : Tree) → any_missing k (items t) ≡ is_missing k t
any_missing-items k = added-items (adds_missing k)

-- ---- a list shows what the trees whose items it has show, one after another

module _ (list : Tree) (ts : List Tree) (in_order : items list ≡ all_items ts) where
  pub list_length : tree_length list ≡ all_length ts
  list_length = sym (all_length-items list) ∙ ap all_length in_order ∙ added-all_items adds_length ts

  pub list_tokens : (p : Length) → tree_tokens p list ≡ all_tokens p ts
  list_tokens p =
      sym (spread-items tree_tokens shows_tokens p list)
      ∙ ap (all_tokens p) in_order
      ∙ spread-all_items tree_tokens shows_tokens p ts

  pub list_entries : (p : Length) (level : ℕ) → tree_entries p level list ≡ all_entries p level ts
  list_entries p level =
      sym (all_entries-items p level list)
      ∙ ap (all_entries p level) in_order
      ∙ spread-all_items (entries_at level) (shows_entries level) p ts
