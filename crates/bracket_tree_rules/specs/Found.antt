-- The node or bracket found at a place of a tree.
use Rattle.std.specs.Prelude.{◌≡◌, ◌≢◌, ℕ, Bool, Option, Some, None}
use Rattle.text_lengths.specs.declared.Length.{Length}
use Rattle.bracket_rules.specs.declared.Token.{Token}
use Rattle.bracket_rules.specs.Table.{token}
use Rattle.bracket_rules.specs.Parse.{Bracket, bracket}
use Rattle.bracket_tree_rules.specs.Tree.{Tree}
use Rattle.bracket_tree_rules.specs.Places.{HasBracket, MayBeTaken, IsLongest, NoneMayBeTaken}

-- ---- a node

-- the tree that starts at place p starts at place q, and may be taken
abbrev pub IsTakenHere : Length → Tree → Length → ℕ → ℕ → ℕ → Type 0
IsTakenHere p t q lines kinds level = (p ≡ q) × MayBeTaken lines kinds level t

-- the longest node at place q that may be taken, or None if no node may be taken there
abbrev pub IsNodeFound : Length → Tree → Length → ℕ → ℕ → ℕ → Option Tree → Type 0
IsNodeFound p t q lines kinds level None = NoneMayBeTaken p t q lines kinds level
IsNodeFound p t q lines kinds level (Some n) = IsLongest p t q lines kinds level n

-- ---- a bracket

-- the token, as one of its line, is the bracket at place q of the tree that starts at place p
pub record IsTokenAt (p : Length) (t : Tree) (q : Length) (found : Token) : Type 0 where
  pub stands : HasBracket p t (bracket q found.len found.kind found.opening)
  pub column : found.at ≡ q.columns

-- the token, in its line, of a bracket at this place
abbrev pub token_at : Length → ℕ → ℕ → Bool → Token
token_at q width kind opening = token q.columns width kind opening

-- no bracket of the tree that starts at place p starts at place q
abbrev pub NoBracketAt : Length → Tree → Length → Type 0
NoBracketAt p t q = (b : Bracket) → HasBracket p t b → b.place ≢ q

-- the token of a bracket at place q, or None if there is none
abbrev pub IsBracketFound : Length → Tree → Length → Option Token → Type 0
IsBracketFound p t q None = NoBracketAt p t q
IsBracketFound p t q (Some found) = IsTokenAt p t q found
