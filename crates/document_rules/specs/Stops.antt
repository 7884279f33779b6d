-- Where a cursor may stop in a line: at the start of each extended grapheme cluster (UAX #29 of the Unicode Standard).
use Rattle.std.specs.Prelude.{ℕ, ◌+◌, true, List, [], ◌∷◌, length, Result, Ok, Err}
use Rattle.unit_text.specs.Text.{units_of, utf8_of}
use Rattle.unicode_segmentation.specs.Grapheme.{graphemes}
use Rattle.document_rules.specs.Refusals.{FlatRefusal}
use Rattle.document_rules.specs.Document.{FlatState, flat_line}

-- the extended grapheme clusters of the units, each in UTF-8; a lone surrogate counts as U+FFFD
abbrev pub clusters_of : List ℕ → List (List ℕ)
clusters_of units = graphemes true (utf8_of units)

-- the number of UTF-16 units of a cluster: a character above U+FFFF has two
abbrev pub width : List ℕ → ℕ
width cluster = length (units_of cluster)

-- the start columns of consecutive clusters, the first of which starts at the given column
abbrev pub starts_from : ℕ → List (List ℕ) → List ℕ
starts_from column [] = []
starts_from column (cluster ∷ more) = column ∷ starts_from (column + width cluster) more

-- the columns, counted from 1, at which a cursor may stop in a line with this content
abbrev pub stops_of : List ℕ → List ℕ
stops_of content = starts_from 1 (clusters_of content)

abbrev pub stops_in : Result (List ℕ) FlatRefusal → Result (List ℕ) FlatRefusal
stops_in (Err why) = Err why
stops_in (Ok content) = Ok (stops_of content)

-- the stops of line n, counted from 1; `range` if there is no such line
abbrev pub flat_stops : FlatState → ℕ → Result (List ℕ) FlatRefusal
flat_stops f n = stops_in (flat_line f n)
