-- A prefix of a text, from a read of one more unit.
use Rattle.std.proofs.Common.{◌≡◌, ℕ, ◌+◌, ◌-◌, ◌<◌, ◌^◌, ◌&&◌, min, Bool, true, false, cond, nat_lt, List, ◌++◌, length, take, drop, refl, ap, ap₂, sym, ◌∙◌, inl, inr, take-take, take-add, length-take, arith, if◌then◌else◌}
use Rattle.std.specs.Char.Utf16.{is_high_surrogate, is_low_surrogate}
use Rattle.std.proofs.lemmas.Bool.{cases_lt}
use Rattle.std.proofs.lemmas.List.{take_all, take_at, drop_at, get_or-take}
use Rattle.unit_text.specs.Units.{cuts_pair}
use Rattle.snapshot_rules.specs.Snapshots.{front}

cuts_pair-take : (count most : ℕ) (x : List ℕ) → count < most → cuts_pair (take most x) count ≡ cuts_pair x count
cuts_pair-take count most x more =
    ap₂ (λ u v. nat_lt 0 count && is_high_surrogate u && is_low_surrogate v)
    (get_or-take most x (count - 1) 0 (omega arith)) (get_or-take most x count 0 more)

front-take : (count most : ℕ) (x : List ℕ) → count < most → front count (take most x) ≡ front count x
front-take count most x more =
    ap (λ b. cond b (take (count - 1) (take most x)) (take count (take most x))) (cuts_pair-take count most x more)
    ∙ ap₂ (cond (cuts_pair x count)) (take-take (count - 1) most x (omega arith)) (take-take count most x (omega arith))

-- a read of one more unit, or of at most 2 ^ 64 - 1, gives the same prefix
pub front-read : (count most : ℕ) (x : List ℕ) → most ≡ min (count + 1) (2 ^ 64 - 1) → length (take most x) < 2 ^ 63 → front count (take most x) ≡ front count x
front-read count most x is few =
    elim (cases_lt count most) [
      | inl more ↦ front-take count most x more
      | inr none ↦ ap (front count) (take_all most x (omega (arith, length-take most x)))
    ]

front-by : (t : Bool) (count : ℕ) (x : List ℕ) → take (cond t (count - 1) count) x ≡ cond t (take (count - 1) x) (take count x)
front-by true count x = refl
front-by false count x = refl

pub front-kept : (before kept count : ℕ) (out : List ℕ) → kept ≡ (if cuts_pair (drop before out) count then count - 1 else count)
    → take (before + kept) out ≡ take before out ++ front count (drop before out)
front-kept before kept count out is =
    take-add before kept out
    ∙ ap (λ n. take before out ++ take n (drop before out)) is
    ∙ ap (λ u. take before out ++ u) (front-by (cuts_pair (drop before out) count) count (drop before out))

-- the prefix of the units that were read, appended to the old ones
pub front-behind : (count most before : ℕ) (old x out : List ℕ) → before ≡ length old → most ≡ min (count + 1) (2 ^ 64 - 1) → length (take most x) < 2 ^ 63
    → out ≡ old ++ take most x → take before out ++ front count (drop before out) ≡ old ++ front count x
front-behind count most before old x out place is few out_is =
    rw out_is (ap₂ (λ u v. u ++ front count v) (take_at old (take most x) before (sym place)) (drop_at old (take most x) before (sym place))
    ∙ ap (λ u. old ++ u) (front-read count most x is few))
