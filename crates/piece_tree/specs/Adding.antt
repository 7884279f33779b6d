-- The laws of sums of units and of breaks.
use Rattle.std.proofs.Common.{add_assoc, add-zero, zero-add, refl, arith}
use Rattle.rb_rules.specs.Weaving.{Lawful, Sums}
use Rattle.piece_tree.specs.declared.piece.PieceSum.{PieceSum}
use Rattle.piece_tree.specs.Searches.{adding, has_few_breaks, few_breaks_in, is_small}

pub lawful : Lawful adding
lawful = record {
  join_none = λ a j. record { units = add-zero a.units j; breaks = add-zero a.breaks j };
  none_join = λ a j. record { units = zero-add a.units j; breaks = zero-add a.breaks j };
  join_assoc = λ a b c j. record { units = add_assoc a.units b.units c.units j; breaks = add_assoc a.breaks b.breaks c.breaks j };
  plus_still = λ a. refl;
  plus_comm = λ a b. refl;
  plus_assoc = λ a b c. refl;
  plus_minus = λ a b. refl;
  shift_still = λ x. refl;
  shift_plus = λ a b x. refl;
  shift_sum_still = λ s. refl;
  shift_sum_plus = λ a b s. refl;
  shift_none = λ a. refl;
  shift_join = λ a s t. refl;
  shift_one = λ a x. refl;
}

pub sums : Sums adding has_few_breaks few_breaks_in
sums = record { of_none = omega arith; of_one = λ x h. h; of_join = λ a b h g. omega (arith, h, g) }

pub parts : (a b : PieceSum) → is_small (adding.join a b) → is_small a × is_small b
parts a b h = (omega (arith, h), omega (arith, h))

pub thins : (a b c : PieceSum) → is_small (adding.join a (adding.join b c)) → is_small (adding.join a c)
thins a b c h = omega (arith, h)
