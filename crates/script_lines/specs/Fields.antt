-- The parsing of the fields of a JSON object as read by serde_json.
use Rattle.std.specs.Prelude.{ℕ, Bool, true, false, ◌&&◌, List, [], ◌∷◌, ◌++◌, Option, Some, None, map, option_map, option_and_then, codes, if◌then◌else◌}
use Rattle.std.specs.Borrow.{Bor}
use Rattle.std.specs.List.{list_any}
use Rattle.std.specs.Str.{bytes_eq}
use Rattle.serde_json.specs.Data.{Data, null, boolean, number, string, array, object, Items, no_items, item, Members, no_members, member}
use Rattle.serde_json.specs.Find.{get, as_bool, as_number, as_str, as_array, as_u64}
use Rattle.text_lengths.specs.declared.Position.{Position}
use Rattle.text_lengths.specs.declared.Span.{Span}
use Rattle.unit_text.specs.declared.kind.Kind.{Kind}
use Rattle.unit_text.specs.declared.kind.Kind.TheVariants.{Mixed, Lf, Crlf}
use Rattle.unit_text.specs.Text.{units_of}
use Rattle.script_lines.specs.Reading.{◌>>=◌}

-- a slice of texts as a list of names
abbrev pub names_of : List (Bor (List ℕ)) → List (List ℕ)
names_of texts = map (λ text. text.now) texts

abbrev pub is_name : List (List ℕ) → List ℕ → Bool
is_name names key = list_any (bytes_eq key) names

-- every key is one of the names
abbrev pub keys_among : List (List ℕ) → Members → Bool
keys_among names no_members = true
keys_among names (member key d ms) = is_name names key && keys_among names ms

-- the value is an object whose keys are all among the names
abbrev pub has_only : List (List ℕ) → Data → Bool
has_only names null = false
has_only names (boolean b) = false
has_only names (number n) = false
has_only names (string s) = false
has_only names (array ds) = false
has_only names (object ms) = keys_among names ms

-- the fields that every command on one document may have
abbrev pub common_fields : List (List ℕ)
common_fields = codes "cmd" ∷ codes "doc" ∷ []

-- the value is an object whose keys are all among the common ones and the names
abbrev pub has_fields : List (List ℕ) → Data → Bool
has_fields names d = has_only (common_fields ++ names) d

-- the value as a whole number below 2 ^ 64; None if it is none
abbrev pub whole_number : Data → Option ℕ
whole_number d = option_and_then as_u64 (as_number d)

abbrev pub number_at : List ℕ → Data → Option ℕ
number_at key d = option_and_then whole_number (get key d)

abbrev pub optional_number_of : Option Data → Option (Option ℕ)
optional_number_of None = Some None
optional_number_of (Some d) = option_map Some (whole_number d)

-- a number; no number if the field is missing
abbrev pub optional_number_at : List ℕ → Data → Option (Option ℕ)
optional_number_at key d = optional_number_of (get key d)

-- the results of reading the items, in order; None if one of them is invalid
abbrev pub all_of : {X : Type 0} → (Data → Option X) → Items → Option (List X)
all_of reads no_items = Some []
all_of reads (item d ds) = do
  x ← reads d
  xs ← all_of reads ds
  Some (x ∷ xs)

-- an array of any number of items
abbrev pub list_in : {X : Type 0} → (Data → Option X) → Data → Option (List X)
list_in reads d = option_and_then (all_of reads) (as_array d)

abbrev pub list_at : {X : Type 0} → (Data → Option X) → List ℕ → Data → Option (List X)
list_at reads key d = option_and_then (list_in reads) (get key d)

-- the result of reading exactly two items; None for any other number of items
abbrev pub two_of : {X : Type 0} → (Data → Data → Option X) → Items → Option X
two_of reads no_items = None
two_of reads (item a no_items) = None
two_of reads (item a (item b no_items)) = reads a b
two_of reads (item a (item b (item c ds))) = None

abbrev pub string_at : List ℕ → Data → Option (List ℕ)
string_at key d = option_and_then as_str (get key d)

-- the units of a value that is a text
abbrev pub text_of : Data → Option (List ℕ)
text_of d = option_map units_of (as_str d)

abbrev pub text_at : List ℕ → Data → Option (List ℕ)
text_at key d = option_and_then text_of (get key d)

abbrev pub optional_text_of : Option Data → Option (Option (List ℕ))
optional_text_of None = Some None
optional_text_of (Some d) = option_map Some (text_of d)

-- a text; no text if the field is missing
abbrev pub optional_text_at : List ℕ → Data → Option (Option (List ℕ))
optional_text_at key d = optional_text_of (get key d)

abbrev pub span_of : Data → Data → Option Span
span_of a b = do
  start ← whole_number a
  end ← whole_number b
  Some (record { start = start; end = end })

-- an array of two whole numbers
abbrev pub span_in : Items → Option Span
span_in ds = two_of span_of ds

abbrev pub span_from : Data → Option Span
span_from d = option_and_then span_in (as_array d)

abbrev pub span_at : List ℕ → Data → Option Span
span_at key d = option_and_then span_from (get key d)

abbrev pub flag_of : Option Data → Option Bool
flag_of None = Some false
flag_of (Some d) = as_bool d

-- a flag; false if the field is missing
abbrev pub flag_at : List ℕ → Data → Option Bool
flag_at key d = flag_of (get key d)

-- the kind of line ending that the word names
abbrev pub kind_named : List ℕ → Option Kind
kind_named word = if bytes_eq word (codes "lf") then Some Lf else
    (if bytes_eq word (codes "crlf") then Some Crlf else None)

abbrev pub kind_of : Data → Option Kind
kind_of d = option_and_then kind_named (as_str d)

abbrev pub kind_at : List ℕ → Data → Option Kind
kind_at key d = option_and_then kind_of (get key d)

abbrev pub optional_kind_of : Option Data → Option Kind
optional_kind_of None = Some Mixed
optional_kind_of (Some d) = kind_of d

-- the kind that the field names; `Mixed`, which allows any line endings, if the field is missing
abbrev pub optional_kind_at : List ℕ → Data → Option Kind
optional_kind_at key d = optional_kind_of (get key d)

-- a line and a column
abbrev pub position_of : Data → Data → Option Position
position_of a b = do
  line ← whole_number a
  column ← whole_number b
  Some (record { line = line; column = column })

-- an array of four whole numbers: the line and the column of a start, and those of an end
abbrev pub positions_in : Items → Option (Position × Position)
positions_in no_items = None
positions_in (item a no_items) = None
positions_in (item a (item b no_items)) = None
positions_in (item a (item b (item c no_items))) = None
positions_in (item a (item b (item c (item d no_items)))) =
    position_of a b >>= (λ start. position_of c d >>= (λ end. Some (start, end)))
positions_in (item a (item b (item c (item d (item e ds))))) = None

abbrev pub positions_at : List ℕ → Data → Option (Position × Position)
positions_at key d = option_and_then positions_in (option_and_then as_array (get key d))

-- the position in the fields `line` and `col`
abbrev pub position_in : Data → Option Position
position_in d = do
  line ← number_at (codes "line") d
  column ← number_at (codes "col") d
  Some (record { line = line; column = column })
