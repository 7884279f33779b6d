-- What a tree stores of runs, and the turns of a search.
use Rattle.std.specs.Prelude.{ℕ, ◌+◌, ◌-◌, ◌<◌, ◌^◌, cond, nat_lt}
use Rattle.rb_rules.specs.declared.weave.Turn.{Turn}
use Rattle.rb_rules.specs.declared.weave.Turn.TheVariants.{Stop, Left, Right}
use Rattle.rb_rules.specs.Weaving.{Weaving}
use Rattle.line_hunks.specs.declared.run.Run.{Run}

-- the sum is the number of lines, and shifts do nothing
abbrev pub adding : Weaving Run ℕ (Unit {0})
adding = record {
  none = 0;
  one = λ run. run.lines;
  join = λ a b. a + b;
  still = tt;
  plus = λ a b. tt;
  minus = λ a b. tt;
  shift = λ b run. run;
  shift_sum = λ b s. s;
}

abbrev pub has_line : Run → Type 0
has_line run = 0 < run.lines

abbrev pub is_few : ℕ → Type 0
is_few lines = lines < 2 ^ 62

-- the turn at a run, with `before` lines before it, of a search for the line with `line` lines before it
abbrev pub run_turn : ℕ → ℕ → Run → Turn
run_turn line before run = cond (nat_lt line before) Left (cond (nat_lt (line - before) run.lines) Stop Right)
