-- The weave of decorations: the sum is the greatest end, and shifts move starts and ends.
use Rattle.std.specs.Prelude.{◌^◌, ℤ, pos, ◌+ℤ◌, ◌-ℤ◌, ◌≤ℤ◌, ◌<ℤ◌, int_lt, cond, Bool, false, not, Option, Some, None, IfSome, if◌then◌else◌}
use Rattle.std.specs.Int.{int_max}
use Rattle.std.specs.Ordering.{int_cmp, nat_cmp, ordering_then}
use Rattle.std.specs.declared.cmp.Ordering.{Ordering}
use Rattle.std.specs.declared.cmp.Ordering.TheVariants.{Less, Equal, Greater}
use Rattle.rb_rules.specs.declared.weave.Turn.{Turn}
use Rattle.rb_rules.specs.declared.weave.Turn.TheVariants.{Stop, Left, Right}
use Rattle.rb_rules.specs.Weaving.{Weaving}
use Rattle.interval_deltas.specs.declared.weave.KeptMark.{KeptMark}
use Rattle.interval_deltas.specs.declared.weave.Place.{Place}
use Rattle.interval_deltas.specs.declared.weave.Sought.{Sought}
use Rattle.interval_deltas.specs.declared.weave.Sought.TheVariants as sought

abbrev pub limit : ℤ
limit = pos (2 ^ 62)

-- the greater of two ends; a missing one is less than any other
abbrev pub later : Option ℤ → Option ℤ → Option ℤ
later None b = b
later (Some x) None = Some x
later (Some x) (Some y) = Some (int_max x y)

abbrev pub moved_by : ℤ → KeptMark → KeptMark
moved_by by m = record { start = by +ℤ m.start; end = by +ℤ m.end; label = m.label }

abbrev pub moved_end : ℤ → Option ℤ → Option ℤ
moved_end by None = None
moved_end by (Some x) = Some (by +ℤ x)

abbrev pub marks : Weaving KeptMark (Option ℤ) ℤ
marks = record {
  none = None;
  one = λ m. Some m.end;
  join = later;
  still = pos 0;
  plus = λ a b. a +ℤ b;
  minus = λ a b. a -ℤ b;
  shift = moved_by;
  shift_sum = moved_end;
}

abbrev pub is_mark : KeptMark → Type 0
is_mark m = (pos 0 ≤ℤ m.start) × (m.start ≤ℤ m.end) × (m.end <ℤ limit)

abbrev pub is_low : Option ℤ → Type 0
is_low s = IfSome s (λ x. x <ℤ limit)

abbrev pub is_end : Option ℤ → Type 0
is_end s = IfSome s (λ x. pos 0 ≤ℤ x)

abbrev pub is_near : ℤ → Type 0
is_near b = (pos 0 <ℤ (b +ℤ limit)) × (b <ℤ limit)

-- a reach bounds the absolute value of shifts
abbrev pub is_within : ℤ → ℤ → Type 0
is_within r b = (pos 0 ≤ℤ (r +ℤ b)) × (b ≤ℤ r) × (r <ℤ limit)

abbrev pub size_of : ℤ → ℤ
size_of b = int_max b (pos 0 -ℤ b)

abbrev pub wider : ℤ → ℤ → Option ℤ
wider r b = cond (int_lt r (pos 0)) None (cond (int_lt (r +ℤ size_of b) limit) (Some (r +ℤ size_of b)) None)

-- compares by start, then by end, then by id
abbrev pub placed : KeptMark → Place → Ordering
placed m p = ordering_then (ordering_then (int_cmp m.start p.start) (int_cmp m.end p.end)) (nat_cmp m.label.id p.id)

abbrev pub toward : Ordering → Turn
toward Less = Right
toward Equal = Stop
toward Greater = Left

abbrev pub place_turn : Place → KeptMark → Turn
place_turn p m = toward (placed m p)

-- the end is at the offset or after it; false if it is missing
abbrev pub reaches : ℤ → Option ℤ → Bool
reaches offset None = false
reaches offset (Some end) = not (int_lt end offset)

-- the turn towards the first decoration that ends at the offset or later
abbrev pub reaching_turn : ℤ → Option ℤ → ℤ → Turn
reaching_turn offset before end = if reaches offset before then Left else (if reaches offset (Some end) then Stop else Right)

abbrev pub mark_turn : Sought → Option ℤ → KeptMark → Turn
mark_turn (sought.Place p) before m = place_turn p m
mark_turn (sought.Reaching offset) before m = reaching_turn offset before m.end
