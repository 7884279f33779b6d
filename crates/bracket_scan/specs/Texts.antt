-- What a `BracketTable` holds, as the list of its pairs.
use Rattle.std.specs.Prelude.{◌≡◌, ℕ, ◌<◌, List, length, slice_index_or, IsTrue, ⊤}
use Rattle.std.specs.declared.vec.Vec.{Vec}
use Rattle.std.specs.declared.alloc.Global.{Global}
use Rattle.bracket_rules.specs.Table.{Table, standard_table, is_table}
use Rattle.bracket_scan.specs.declared.starts.Start.{Start}
use Rattle.bracket_scan.specs.declared.starts.TheConstants.{BUCKETS}
use Rattle.bracket_scan.specs.declared.table.Texts.{Texts}
use Rattle.bracket_scan.specs.declared.table.Texts.TheVariants.{Standard, Listed}
use Rattle.bracket_scan.specs.Firsts.{Indexes}
use Rattle.bracket_scan.specs.Starts.{starts_in}

abbrev pub pairs_of : Texts → Table
pairs_of Standard = standard_table
pairs_of (Listed pairs starts firsts) = pairs.items

-- there are `buckets` buckets, and each has the texts of the pairs whose first unit is in it
pub record Dispatches (buckets : ℕ) (pairs : Table) (starts : List (Vec Start Global)) : Type 0 where
  pub all : length starts ≡ buckets
  pub each : (bucket : ℕ) (other : Vec Start Global) → bucket < buckets
      → (slice_index_or starts bucket other).items ≡ starts_in bucket 0 pairs

abbrev pub AreTexts : Texts → Type 0
AreTexts Standard = ⊤
AreTexts (Listed pairs starts firsts) =
    IsTrue (is_table pairs.items) × Dispatches BUCKETS pairs.items starts.items × Indexes pairs.items firsts.items
