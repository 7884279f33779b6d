-- Groups of the texts of a table: for each bucket, the texts whose first unit is in it.
use Rattle.std.specs.Prelude.{ℕ, suc, ◌%◌, ◌<◌, ◌≤◌, Bool, true, false, ◌==◌, if◌then◌else◌, List, [], ◌∷◌, ◌++◌, slice_index_or, Option, None}
use Rattle.bracket_rules.specs.declared.Token.{Token}
use Rattle.bracket_rules.specs.Table.{Table, standing, longer}
use Rattle.bracket_scan.specs.declared.starts.Start.{Start}
use Rattle.bracket_scan.specs.declared.starts.TheConstants.{BUCKETS}

abbrev pub begins_in : ℕ → List ℕ → Bool
begins_in bucket [] = false
begins_in bucket (u ∷ units) = u % BUCKETS == bucket

abbrev pub start : ℕ → Bool → Start
start kind opening = record { kind = kind; opening = opening }

abbrev pub start_if : Bool → ℕ → Bool → List Start
start_if begins kind opening = if begins then start kind opening ∷ [] else []

-- the texts of the pairs whose first unit is in the bucket, in order; `kind` is the kind of the first pair
abbrev pub starts_in : ℕ → ℕ → Table → List Start
starts_in bucket kind [] = []
starts_in bucket kind (p ∷ ps) =
    start_if (begins_in bucket p.0) kind true
    ++ (start_if (begins_in bucket p.1) kind false ++ starts_in bucket (suc kind) ps)

abbrev pub text_at : Table → Start → List ℕ
text_at pairs s = let p = slice_index_or pairs s.kind ([], []) in if s.opening then p.0 else p.1

-- the longest of these texts with which the units begin
abbrev pub longest_among : Table → ℕ → List Start → List ℕ → Option Token
longest_among pairs at [] units = None
longest_among pairs at (s ∷ ss) units =
    longer (standing at s.kind s.opening (text_at pairs s) units) (longest_among pairs at ss units)

-- the token has at least one unit and at most `most`
pub record IsWithin (most : ℕ) (t : Token) : Type 0 where
  pub some : 0 < t.len
  pub enough : t.len ≤ most
