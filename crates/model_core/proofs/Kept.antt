-- What a kept tree tells of the brackets of the text.
use Rattle.std.proofs.Common.{◌≡◌, ℕ, ◌≤◌, ◌-◌, true, false, Bool, cond, List, length, Option, Some, None, Result, Ok, Err, OnOk, IfSome, refl, ap, sym, subst, ◌∙◌}
use Rattle.std.specs.List.{All}
use Rattle.std.specs.Option.{option_map}
use Rattle.batch_rules.specs.Batches.{most_units}
use Rattle.bracket_rules.specs.declared.Entry.{Entry}
use Rattle.document_rules.specs.Refusals.{range}
use Rattle.document_rules.specs.Document.{FlatState}
use Rattle.document_rules.proofs.Places.{entries_small, partner_small}
use Rattle.bracket_nodes.specs.Walks.{place_and_len}
use Rattle.text_lengths.specs.declared.Length.{Length}
use Rattle.bracket_rules.specs.Table.{is_table}
use Rattle.hiding_rules.specs.Hidden.{Scanner}
use Rattle.bracket_tree_rules.specs.Tree.{Tree, tree_partner}
use Rattle.hiding_rules.specs.Rows.{hidden_brackets}
use Rattle.bracket_rules.specs.Parse.{Spot, partner_at, entries_between, bracket_entries, bracket_partner}
use Rattle.document_rules.specs.Brackets.{line_contents, brackets_of, flat_brackets, IsSmall}
use Rattle.model_page.specs.Staying.{IsKept}

kept_partner : (tree : Tree) (by : Scanner) (x : List ℕ) → IsKept (Some tree) by x → (p : Length)
    → tree_partner tree p ≡ bracket_partner (hidden_brackets by (line_contents x)) p
kept_partner tree by x kept p = ap (partner_at p) kept.tells.story

small_of : (o : Option Spot) → ((s : Spot) → o ≡ Some s → IsSmall s.place) → IfSome (option_map place_and_len o) (λ s. IsSmall s.0)
small_of None small = tt
small_of (Some s) small = small s refl

pub told_small : (tree : Tree) (by : Scanner) (x : List ℕ) → IsKept (Some tree) by x → length x ≤ most_units → (p : Length)
    → IfSome (option_map place_and_len (tree_partner tree p)) (λ s. IsSmall s.0)
told_small tree by x kept fits p =
    small_of (tree_partner tree p) (λ s is. partner_small by x kept.table fits p s (sym (kept_partner tree by x kept p) ∙ is))

pub answered : {A : Type 0} (refused : Bool) (these all : A) → cond refused (Err range) (Ok these) ≡ Ok all → these ≡ all
answered true these all is = absurd cc
answered false these all is = cc

-- by a table of brackets the places are small
flat_small : (f : FlatState) (from to : ℕ) (entries : List Entry) → is_table f.scanner.table ≡ true → length f.units ≤ most_units → flat_brackets f from to ≡ Ok entries
    → All (λ (e : Entry). IsSmall e.place) entries
flat_small f from to entries table fits is =
    subst (All (λ (e : Entry). IsSmall e.place)) (answered _ (entries_between (from - 1) (to - 1) (bracket_entries (brackets_of f))) entries is)
    (entries_small f.scanner f.units table fits (from - 1) (to - 1))

pub small_where_ok : {A E : Type 0} (r : Result A E) (f : FlatState) (from to : ℕ) (entries : List Entry) → OnOk r (is_table f.scanner.table ≡ true)
    → length f.units ≤ most_units → flat_brackets f from to ≡ Ok entries → OnOk r (All (λ (e : Entry). IsSmall e.place) entries)
small_where_ok (Ok x) f from to entries table fits is = flat_small f from to entries table fits is
small_where_ok (Err e) f from to entries table fits is = tt
