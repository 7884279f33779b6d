-- A table in which no row has the name.
use Rattle.std.proofs.Common.{◌≡◌, ◌≢◌, Bool, true, false, List, [], ◌∷◌, ℕ, None, refl}
use Rattle.std.specs.Prelude.{⊤}
use Rattle.std.specs.Str.{bytes_eq}
use Rattle.std.proofs.lemmas.Slice.Eq.{bytes_eq-Decides}
use Rattle.serde_json.specs.Data.{Data}
use Rattle.script_lines.specs.Rows.{Row, named_in}

-- each row has another name
abbrev pub IsNameOfNone : List Row → List ℕ → Type 0
IsNameOfNone [] name = ⊤
IsNameOfNone (r ∷ rows) name = (name ≢ r.name) × IsNameOfNone rows name

never_true : (b : Bool) → b ≢ true → b ≡ false
never_true true never = absurd (never refl)
never_true false never = refl

bytes_eq-other : (name other : List ℕ) → name ≢ other → bytes_eq name other ≡ false
bytes_eq-other name other differs = never_true (bytes_eq name other) (λ is. differs ((bytes_eq-Decides name other).0 is))

pub named_in-none : (rows : List Row) (name : List ℕ) (d : Data) → IsNameOfNone rows name → named_in rows name d ≡ None
named_in-none [] name d is = refl
named_in-none (r ∷ rows) name d is = rw (bytes_eq-other name r.name is.0) (named_in-none rows name d is.1)
