-- The cost accounting of a source.
use Rattle.std.specs.Prelude.{◌≡◌, ℕ, ◌+◌, ◌<◌, ◌≤◌, Bool, true, false, ⊤}
use Rattle.bracket_rules.specs.declared.TheConstants.{MOST_OPEN}
use Rattle.bracket_nodes.specs.declared.parser.Next.{Next}
use Rattle.bracket_nodes.specs.declared.parser.Next.TheVariants.{End, Ready, Bracket}
use Rattle.bracket_nodes.specs.declared.parser.Stop.{Stop}
use Rattle.bracket_nodes.specs.declared.parser.Stop.TheVariants.{AtEnd, AtClosing}
use Rattle.bracket_nodes.specs.declared.parser.Taken.{Taken}
use Rattle.bracket_nodes.specs.declared.parser.Taken.TheVariants.{One, Last, Nothing}

-- The cost paid so far, and an upper bound for the cost of everything ahead. At most `opens` unmatched opening
-- brackets are still to come, and no node to come is nested deeper than `deepest`. Without `known` nothing is known
-- of the source.
pub record Paying : Type 0 where
  pub known : Bool
  pub paid : ℕ
  pub due : ℕ
  pub opens : ℕ
  pub deepest : ℕ

abbrev pub nothing_known : Paying
nothing_known = record { known = false; paid = 0; due = 0; opens = 0; deepest = 0 }

-- where `level` brackets are open, no node to come reaches the limit on open brackets
pub record HasRoom (a : Paying) (level : ℕ) : Type 0 where
  pub known : a.known ≡ true
  pub room : level + (a.opens + a.deepest) ≤ MOST_OPEN

-- at most the amount due was paid
abbrev pub Spends : Paying → Paying → Type 0
Spends old new = new.paid ≤ old.paid + old.due

-- what was paid is deducted from what is due
pub record PaysOn (old new : Paying) : Type 0 where
  pub known : new.known ≡ old.known
  pub pays : new.paid + new.due ≤ old.paid + old.due
  pub opens : new.opens ≤ old.opens
  pub deepest : new.deepest ≡ old.deepest

-- at the end nothing more is due
abbrev pub PaysFor : Paying → Paying → Next → Type 0
PaysFor old new End = ⊤
PaysFor old new (Ready node) = PaysOn old new
PaysFor old new (Bracket kind width true) = PaysOn old new × (new.opens < old.opens)
PaysFor old new (Bracket kind width false) = PaysOn old new

abbrev pub PaysUpTo : Paying → Paying → Stop → Type 0
PaysUpTo old new AtEnd = ⊤
PaysUpTo old new (AtClosing kind width) = PaysOn old new

abbrev pub PaysTaken : Paying → Paying → Taken → Type 0
PaysTaken old new (One node) = PaysOn old new
PaysTaken old new (Last node stop) = PaysUpTo old new stop
PaysTaken old new (Nothing stop) = PaysUpTo old new stop
