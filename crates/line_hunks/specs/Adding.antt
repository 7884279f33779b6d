-- The laws of sums of lines.
use Rattle.std.proofs.Common.{ℕ, add_assoc, add-zero, zero-add, refl, arith}
use Rattle.std.specs.Prelude.{⊤}
use Rattle.rb_rules.specs.Weaving.{Lawful, Sums}
use Rattle.line_hunks.specs.Weave.{adding, has_line, is_few}

pub lawful : Lawful adding
lawful = record {
  join_none = λ a. add-zero a;
  none_join = λ a. zero-add a;
  join_assoc = λ a b c. add_assoc a b c;
  plus_still = λ a. refl;
  plus_comm = λ a b. refl;
  plus_assoc = λ a b c. refl;
  plus_minus = λ a b. refl;
  shift_still = λ x. refl;
  shift_plus = λ a b x. refl;
  shift_sum_still = λ s. refl;
  shift_sum_plus = λ a b s. refl;
  shift_none = λ a. refl;
  shift_join = λ a s t. refl;
  shift_one = λ a x. refl;
}

pub sums : Sums adding has_line (λ _. ⊤)
sums = record { of_none = tt; of_one = λ x h. tt; of_join = λ a b h g. tt }

pub parts : (a b : ℕ) → is_few (adding.join a b) → is_few a × is_few b
parts a b h = (omega (arith, h), omega (arith, h))

pub thins : (a b c : ℕ) → is_few (adding.join a (adding.join b c)) → is_few (adding.join a c)
thins a b c h = omega (arith, h)
