-- The parts of a tree, which of them holds a place, and which nodes show there what the whole tree shows.
use Rattle.std.specs.Prelude.{◌≡◌, ◌≢◌, ℕ, ◌+◌, ◌<◌, ◌^◌, ◌⊎◌, true, false, Option, None, ⊤}
use Rattle.text_lengths.specs.declared.Length.{Length}
use Rattle.text_lengths.specs.Length.{no_length, length_plus, is_before}
use Rattle.bracket_rules.specs.declared.Token.{Token}
use Rattle.bracket_tree_rules.specs.Tree.{Tree, text, pair, stray, capped, nothing, two, three, tree_length, inside_start, inside_end, weight}
use Rattle.bracket_tree_rules.specs.Places.{IsHere}
use Rattle.bracket_tree_rules.specs.Found.{IsNodeFound, IsBracketFound}

-- ---- parts

-- the tree that starts at place p starts at or before place q, and ends after it
pub record Holds (p : Length) (t : Tree) (q : Length) : Type 0 where
  pub from : is_before q p ≡ false
  pub ends : is_before q (length_plus p (tree_length t)) ≡ true

-- the node `part`, which starts at place r, is a direct part of the tree that starts at place p
abbrev pub IsPart : Length → Tree → Length → Tree → Type 0
IsPart p (text l) r part = ⊥
IsPart p (pair kind open_width inside close_width) r part = IsHere (inside_start p open_width) inside r part
IsPart p (stray kind width) r part = ⊥
IsPart p (capped kind width) r part = ⊥
IsPart p nothing r part = ⊥
IsPart p (two a b) r part = IsHere p a r part ⊎ IsHere (length_plus p (tree_length a)) b r part
IsPart p (three a b c) r part =
    IsHere p a r part ⊎ (IsHere (length_plus p (tree_length a)) b r part
    ⊎ IsHere (length_plus (length_plus p (tree_length a)) (tree_length b)) c r part)

abbrev pub NoPartHolds : Length → Tree → Length → Type 0
NoPartHolds p t q = (r : Length) (part : Tree) → IsPart p t r part → Holds r part q → ⊥

-- no bracket that belongs to the tree itself, and not to one of its parts, starts at place q
abbrev pub NoOwnBracketAt : Length → Tree → Length → Type 0
NoOwnBracketAt p (text l) q = ⊤
NoOwnBracketAt p (pair kind open_width inside close_width) q =
    (p ≢ q) × ((close_width ≡ None) ⊎ (inside_end p open_width inside ≢ q))
NoOwnBracketAt p (stray kind width) q = p ≢ q
NoOwnBracketAt p (capped kind width) q = p ≢ q
NoOwnBracketAt p nothing q = ⊤
NoOwnBracketAt p (two a b) q = ⊤
NoOwnBracketAt p (three a b c) q = ⊤

-- ---- what the whole shows

-- the node found at place q in the tree that starts at place r is also the one found there in the whole tree
abbrev pub ShowsNode : Tree → Length → Tree → Length → ℕ → ℕ → ℕ → Type 0
ShowsNode whole r t q lines kinds level = (found : Option Tree)
    → IsNodeFound r t q lines kinds level found → IsNodeFound no_length whole q lines kinds level found

abbrev pub ShowsNodes : Tree → Length → Tree → Length → Type 0
ShowsNodes whole r t q = (lines kinds level : ℕ) → ShowsNode whole r t q lines kinds level

-- the bracket found at place q in the tree that starts at place r is also the one found there in the whole tree
abbrev pub ShowsBrackets : Tree → Length → Tree → Length → Type 0
ShowsBrackets whole r t q = (found : Option Token) → IsBracketFound r t q found → IsBracketFound no_length whole q found

-- at each place that it holds, the tree that starts at place r shows the same brackets as the whole tree, and, at
-- places after its start, the same nodes
pub record IsShown (whole : Tree) (r : Length) (t : Tree) : Type 0 where
  pub light : r.lines + r.columns + weight t < 2 ^ 64
  pub nodes : (q : Length) → is_before r q ≡ true → Holds r t q → ShowsNodes whole r t q
  pub brackets : (q : Length) → Holds r t q → ShowsBrackets whole r t q
