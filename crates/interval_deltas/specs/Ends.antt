-- Ends in eight bytes: a missing end is encoded as the least 64-bit number, which no end is.
use Rattle.std.specs.Prelude.{◌≡◌, ℤ, pos, ◌-ℤ◌, ◌^◌, cond, Bool, true, false, Option, Some, None, refl}
use Rattle.std.specs.Ordering.{int_eq}
use Rattle.std.proofs.Common.{sym}
use Rattle.std.proofs.lemmas.Bool.Decides.{Decides-int_eq}

abbrev pub least : ℤ
least = pos 0 -ℤ pos (2 ^ 63)

-- decodes a number as an end, and encodes an end as a number
abbrev pub end_of : ℤ → Option ℤ
end_of n = cond (int_eq n least) None (Some n)

abbrev pub number_of : Option ℤ → ℤ
number_of None = least
number_of (Some end) = end

pub same_number : (n : ℤ) → number_of (end_of n) ≡ n
same_number n = told (int_eq n least) refl
  where
    told : (b : Bool) → int_eq n least ≡ b → number_of (cond b None (Some n)) ≡ n
    told true e = sym ((Decides-int_eq n least).0 e)
    told false e = refl
