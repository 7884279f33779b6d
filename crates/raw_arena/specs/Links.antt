-- The name of a link's number: 0 means no name, and n + 1 the name n.
use Rattle.std.specs.Prelude.{◌≡◌, ℕ, zero, suc, Option, Some, None, refl}

abbrev pub name_before : ℕ → Option ℕ
name_before zero = None
name_before (suc n) = Some n

abbrev pub after_name : Option ℕ → ℕ
after_name None = zero
after_name (Some n) = suc n

pub same_link : (n : ℕ) → after_name (name_before n) ≡ n
same_link zero = refl
same_link (suc n) = refl
