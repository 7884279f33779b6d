-- The nodes of a list of many nodes.
use Rattle.std.proofs.Common.{◌≡◌, ℕ, List, Result, Ok, Err}
use Rattle.std.specs.Prelude.{IfOk}
use Rattle.text_lengths.specs.declared.Length.{Length}
use Rattle.bracket_tree_rules.specs.Items.{all_length, all_tokens, all_entries}
use Rattle.bracket_tree_rules.specs.Tree.{Tree, items, tree_length, tree_tokens, tree_entries, all_items}
use Rattle.bracket_tree_rules.proofs.ItemLists.{list_length, list_tokens, list_entries}

-- the result is a list of the items of these trees, in their order
abbrev pub Joins : {E : Type 0} → Result Tree E → List Tree → Type 0
Joins result ts = IfOk result (λ list. items list ≡ all_items ts)

pub joined_length : {E : Type 0} (result : Result Tree E) (ts : List Tree) → Joins result ts → IfOk result (λ list. tree_length list ≡ all_length ts)
joined_length (Ok list) ts h = list_length list ts h
joined_length (Err e) ts h = tt

pub joined_tokens : {E : Type 0} (result : Result Tree E) (ts : List Tree) → Joins result ts
    → IfOk result (λ list. (p : Length) → tree_tokens p list ≡ all_tokens p ts)
joined_tokens (Ok list) ts h = list_tokens list ts h
joined_tokens (Err e) ts h = tt

pub joined_entries : {E : Type 0} (result : Result Tree E) (ts : List Tree) → Joins result ts
    → IfOk result (λ list. (p : Length) (level : ℕ) → tree_entries p level list ≡ all_entries p level ts)
joined_entries (Ok list) ts h = list_entries list ts h
joined_entries (Err e) ts h = tt
