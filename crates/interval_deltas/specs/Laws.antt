-- The laws of the weave of decorations.
use Rattle.std.specs.Prelude.{◌≡◌, ℤ, pos, ◌+ℤ◌, ◌<ℤ◌, int_lt, cond, Option, Some, None, IsSome, refl}
use Rattle.std.specs.Option.{unwrap_or}
use Rattle.std.proofs.Common.{arith, ap, Bool, true, false}
use Rattle.std.proofs.lemmas.Option.{none-some}
use Rattle.std.proofs.lemmas.Bool.{false≢true}
use Rattle.std.proofs.lemmas.Int.{ints, clamps}
use Rattle.rb_rules.specs.Weaving.{Lawful, Sums}
use Rattle.interval_deltas.specs.declared.weave.KeptMark.{KeptMark}
use Rattle.interval_deltas.specs.Weave.{limit, later, moved_by, moved_end, marks, is_mark, is_low, is_end, is_near, is_within, size_of, wider}

later_assoc : (a b c : Option ℤ) → later (later a b) c ≡ later a (later b c)
later_assoc None b c = refl
later_assoc (Some x) None c = refl
later_assoc (Some x) (Some y) None = refl
later_assoc (Some x) (Some y) (Some z) = ap Some (omega (arith, ints, clamps))

later_none : (a : Option ℤ) → later a None ≡ a
later_none None = refl
later_none (Some x) = refl

end_still : (s : Option ℤ) → moved_end (pos 0) s ≡ s
end_still None = refl
end_still (Some x) = ap Some (omega (arith, ints))

end_twice : (a b : ℤ) (s : Option ℤ) → moved_end (a +ℤ b) s ≡ moved_end a (moved_end b s)
end_twice a b None = refl
end_twice a b (Some x) = ap Some (omega (arith, ints))

end_later : (a : ℤ) (s t : Option ℤ) → moved_end a (later s t) ≡ later (moved_end a s) (moved_end a t)
end_later a None t = refl
end_later a (Some x) None = refl
end_later a (Some x) (Some y) = ap Some (omega (arith, ints, clamps))

still_start : (x : ℤ) → pos 0 +ℤ x ≡ x
still_start x = omega (arith, ints)

twice_moved : (a b x : ℤ) → (a +ℤ b) +ℤ x ≡ a +ℤ (b +ℤ x)
twice_moved a b x = omega (arith, ints)

pub lawful : Lawful marks
lawful = record {
  join_none = later_none;
  none_join = λ a. refl;
  join_assoc = later_assoc;
  plus_still = λ a. omega (arith, ints);
  plus_assoc = λ a b c. omega (arith, ints);
  plus_comm = λ a b. omega (arith, ints);
  plus_minus = λ a b. omega (arith, ints);
  shift_still = λ m i. record { start = still_start m.start i; end = still_start m.end i; label = m.label };
  shift_plus = λ a b m i. record { start = twice_moved a b m.start i; end = twice_moved a b m.end i; label = m.label };
  shift_sum_still = end_still;
  shift_sum_plus = end_twice;
  shift_none = λ a. refl;
  shift_join = end_later;
  shift_one = λ a m. refl;
}

later_end : (a b : Option ℤ) → is_end a → is_end b → is_end (later a b)
later_end None b h g = g
later_end (Some x) None h g = h
later_end (Some x) (Some y) h g = omega (arith, ints, clamps, h, g)

pub sums : Sums marks is_mark is_end
sums = record { of_none = tt; of_one = λ m (h, g, l). omega (arith, ints, h, g); of_join = later_end }

pub parts : (a b : Option ℤ) → is_low (marks.join a b) → is_low a × is_low b
parts None b h = (tt, h)
parts (Some x) None h = (h, tt)
parts (Some x) (Some y) h = (omega (arith, ints, clamps, h), omega (arith, ints, clamps, h))

pub thins : (a b c : Option ℤ) → is_low (marks.join a (marks.join b c)) → is_low (marks.join a c)
thins None None c h = h
thins None (Some y) None h = tt
thins None (Some y) (Some z) h = omega (arith, ints, clamps, h)
thins (Some x) None c h = h
thins (Some x) (Some y) None h = omega (arith, ints, clamps, h)
thins (Some x) (Some y) (Some z) h = omega (arith, ints, clamps, h)

pub starts_near : is_near (pos 0)
starts_near = (omega (arith, ints), omega (arith, ints))

pub within_near : (r b : ℤ) → is_within r b → is_near b
within_near r b (h, g, l) = (omega (arith, ints, h, l), omega (arith, ints, g, l))

pub starts_within : is_within (pos 0) (pos 0)
starts_within = (omega (arith, ints), omega (arith, ints), omega (arith, ints))

wider_is : (a b : Bool) (x s : ℤ) → cond a None (cond b (Some x) None) ≡ Some s → (b ≡ true) × (x ≡ s)
wider_is true b x s e = absurd (none-some s e)
wider_is false true x s e = (refl, ap (λ o. unwrap_or o x) e)
wider_is false false x s e = absurd (none-some s e)

under : (a b : ℤ) → int_lt a b ≡ true → a <ℤ b
under a b e = grind (arith, ints)

not_over : (a b : ℤ) → a <ℤ b → int_lt a b ≡ true
not_over a b h = grind (arith, ints)

some_if : (b : Bool) (x : ℤ) → b ≡ true → IsSome (cond b (Some x) None)
some_if true x e = refl
some_if false x e = absurd (false≢true e)

pub widens : (r by s b : ℤ) → wider r by ≡ Some s → is_within r b → is_within s b × is_within s (by +ℤ b)
widens r by s b e (h, g, l) =
    let (lt, is) = wider_is (int_lt r (pos 0)) (int_lt (r +ℤ size_of by) limit) (r +ℤ size_of by) s e in
    let low = under (r +ℤ size_of by) limit lt in (
      (omega (arith, ints, clamps, h, is), omega (arith, ints, clamps, g, is), omega (arith, ints, is, low)),
      (omega (arith, ints, clamps, h, is), omega (arith, ints, clamps, g, is), omega (arith, ints, is, low)),
    )

pub fits : (by : ℤ) (m : KeptMark) → is_mark m → is_mark (moved_by by m) → IsSome (wider (pos 0) by)
fits by m (h, g, l) (h2, g2, l2) =
    let low : (pos 0 +ℤ size_of by) <ℤ limit = omega (arith, ints, clamps, h, g, l, h2, g2, l2) in
    some_if (int_lt (pos 0 +ℤ size_of by) limit) (pos 0 +ℤ size_of by) (not_over (pos 0 +ℤ size_of by) limit low)
