-- The sums of a tree of runs, and the turns of a search.
use Rattle.std.specs.Prelude.{ℕ, ◌+◌, ◌-◌, ◌<◌, ◌≤◌, ◌^◌, cond, nat_lt, List}
use Rattle.rb_rules.specs.declared.weave.Turn.{Turn}
use Rattle.rb_rules.specs.declared.weave.Turn.TheVariants.{Stop, Left, Right}
use Rattle.rb_rules.specs.Weaving.{Weaving}
use Rattle.piece_tree.specs.declared.piece.Piece.{Piece}
use Rattle.piece_tree.specs.declared.piece.PieceSum.{PieceSum}
use Rattle.piece_tree.specs.declared.piece.Found.{Found}
use Rattle.piece_tree.specs.declared.weave.StoredRun.{StoredRun}
use Rattle.piece_tree.specs.declared.weave.Sought.{Sought}
use Rattle.piece_tree.specs.declared.weave.Sought.TheVariants.{Offset, Break}
use Rattle.piece_tree.specs.Pieces.{sum_of}

-- units and breaks are added up, and shifts have no effect
abbrev pub adding : Weaving StoredRun PieceSum (Unit {0})
adding = record {
  none = record { units = 0; breaks = 0 };
  one = λ r. r.sum;
  join = λ a b. record { units = a.units + b.units; breaks = a.breaks + b.breaks };
  still = tt;
  plus = λ a b. tt;
  minus = λ a b. tt;
  shift = λ b r. r;
  shift_sum = λ b s. s;
}

-- no more breaks than units
abbrev pub few_breaks : Piece → Type 0
few_breaks p = p.breaks ≤ p.span.units

abbrev pub few_breaks_in : PieceSum → Type 0
few_breaks_in s = s.breaks ≤ s.units

abbrev pub has_few_breaks : StoredRun → Type 0
has_few_breaks r = few_breaks_in r.sum

abbrev pub is_small : PieceSum → Type 0
is_small s = s.units < 2 ^ 62

-- the turn of a search for index `place` at an item that holds `own` indices from `before` on
abbrev pub toward : ℕ → ℕ → ℕ → Turn
toward place before own = cond (nat_lt place before) Left (cond (nat_lt (place - before) own) Stop Right)

abbrev pub run_turn : Sought → PieceSum → StoredRun → Turn
run_turn (Offset offset) before r = toward offset before.units r.sum.units
run_turn (Break number) before r = toward number before.breaks r.sum.breaks

-- the number of units or breaks before the target
abbrev pub number_of : Sought → ℕ
number_of (Offset offset) = offset
number_of (Break number) = number

-- the number of units or breaks of a sum, as the target asks
abbrev pub counted : Sought → PieceSum → ℕ
counted (Offset offset) sum = sum.units
counted (Break number) sum = sum.breaks

-- how many of what is sought these pieces have
abbrev pub count_of : Sought → List Piece → ℕ
count_of sought pieces = counted sought (sum_of pieces)

-- how many of it a looked-up piece has
abbrev pub own_of : Sought → Found → ℕ
own_of (Offset offset) found = found.span.units
own_of (Break number) found = found.breaks

-- the looked-up piece contains the target
pub record HasNumber (sought : Sought) (found : Found) : Type 0 where
  pub start : counted sought found.before ≤ number_of sought
  pub end : number_of sought < counted sought found.before + own_of sought found
