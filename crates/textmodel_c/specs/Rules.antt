-- What the C calls return, by the flat document and its group.
use Rattle.std.specs.Prelude.{ℕ, ◌+◌, ◌-◌, ◌/◌, ◌==◌, ◌&&◌, ◌||◌, not, Bool, true, false, nat_lt, nat_le, if◌then◌else◌, List, [], ◌∷◌, length, map, filter, reverse, take, drop, Option, Some, None, option_map, option_and_then, Result, Ok, Err}
use Rattle.text_lengths.specs.declared.Position.{Position}
use Rattle.text_lengths.specs.declared.Span.{Span}
use Rattle.unit_text.specs.declared.kind.Kind.{Kind}
use Rattle.unit_text.specs.declared.kind.Kind.TheVariants.{Mixed, Lf, Crlf}
use Rattle.unit_text.specs.Kinds.{is_place_in}
use Rattle.unit_text.specs.Text.{utf8_of}
use Rattle.text_rules.specs.declared.Op.{Op}
use Rattle.decoration_rules.specs.declared.NewDeco.{NewDeco}
use Rattle.decoration_rules.specs.declared.Deco.{Deco}
use Rattle.bracket_rules.specs.Table.{Table, is_table, standard_table}
use Rattle.hiding_rules.specs.Marks.{Marks, marks, are_marks}
use Rattle.hiding_rules.specs.Hidden.{scanner}
use Rattle.bracket_rules.specs.declared.Entry.{Entry}
use Rattle.bracket_rules.specs.declared.Status.{Status as State}
use Rattle.bracket_rules.specs.declared.Status.TheVariants.{PairedOpening, PairedClosing, Unclosed, Unexpected}
use Rattle.column_encodings.specs.declared.Encoding.{Encoding}
use Rattle.column_encodings.specs.declared.Encoding.TheVariants.{Utf8, Utf16, Utf32}
use Rattle.column_encodings.specs.Columns.{length_in, column_in, offset_of}
use Rattle.document_rules.specs.Refusals.{FlatRefusal, range}
use Rattle.document_rules.specs.Document.{FlatState, flat_position, flat_offset, flat_decos, flat_line, flat_value}
use Rattle.document_rules.specs.Brackets.{flat_brackets, flat_match, flat_level, position_at}
use Rattle.document_rules.specs.Columns.{of_line}
use Rattle.document_rules.specs.Stops.{flat_stops}
use Rattle.search_rules.specs.Replacing.{flat_find}
use Rattle.group_rules.specs.Group.{FlatGroup, doc_in, group_open, group_edit, group_eol, group_replace_all}
use Rattle.textmodel_c.specs.declared.opening.PairUnits.{PairUnits}
use Rattle.textmodel_c.specs.declared.positions.Place.{Place}
use Rattle.textmodel_c.specs.declared.marks.NewDecoration.{NewDecoration}
use Rattle.textmodel_c.specs.declared.marks.Decoration.{Decoration}
use Rattle.textmodel_c.specs.declared.search.Found.{Found}
use Rattle.textmodel_c.specs.declared.brackets.Bracket.{Bracket}
use Rattle.textmodel_c.specs.declared.brackets.Partner.{Partner}

abbrev pub at : ℕ → ℕ → Position
at line column = record { line = line; column = column }

abbrev pub span : ℕ → ℕ → Span
span start end = record { start = start; end = end }

-- None is refused with `Range`
abbrev pub or_range : {A B : Type 0} → Option A → (A → Result B FlatRefusal) → Result B FlatRefusal
or_range None rule = Err range
or_range (Some x) rule = rule x

-- an error stays the same, a value goes to the next rule
abbrev pub or_refused : {A B : Type 0} → Result A FlatRefusal → (A → Result B FlatRefusal) → Result B FlatRefusal
or_refused (Err why) rule = Err why
or_refused (Ok x) rule = rule x

-- the value of the rule, converted
abbrev pub told_as : {A B : Type 0} → (A → B) → Result A FlatRefusal → Result B FlatRefusal
told_as tell (Ok x) = Ok (tell x)
told_as tell (Err why) = Err why

-- ---- texts joined into one

abbrev pub before_all : {A : Type 0} → A → Result (List A) FlatRefusal → Result (List A) FlatRefusal
before_all x (Ok xs) = Ok (x ∷ xs)
before_all x (Err why) = Err why

-- what `make` gives for each item and its part of the joined text, which they use up exactly
abbrev pub pieces_of : {A B : Type 0} → (A → ℕ) → (A → List ℕ → B) → List A → List ℕ → Result (List B) FlatRefusal
pieces_of units make [] [] = Ok []
pieces_of units make [] (unit ∷ text) = Err range
pieces_of units make (x ∷ xs) text =
    if nat_lt (length text) (units x) then Err range
    else before_all (make x (take (units x) text)) (pieces_of units make xs (drop (units x) text))

-- ---- kinds of line ending

abbrev pub kind_of : ℕ → Option Kind
kind_of number =
    if number == 0 then Some Mixed else
    (if number == 1 then Some Lf else
    (if number == 2 then Some Crlf else None))

abbrev pub number_of_kind : Kind → ℕ
number_of_kind Mixed = 0
number_of_kind Lf = 1
number_of_kind Crlf = 2

-- ---- a new document

abbrev pub pair_units : ℕ → ℕ → PairUnits
pair_units opening closing = record { opening = opening; closing = closing }

-- the two texts of a pair, split
abbrev pub pair_of : PairUnits → List ℕ → List ℕ × List ℕ
pair_of pair text = (take pair.opening text, drop pair.opening text)

abbrev pub pairs_of : List PairUnits → List ℕ → Result (List (List ℕ × List ℕ)) FlatRefusal
pairs_of pairs text = pieces_of (λ (pair : PairUnits). pair.opening + pair.closing) pair_of pairs text

abbrev pub table_or_range : Result Table FlatRefusal → Result Table FlatRefusal
table_or_range told = or_refused told (λ pairs. if is_table pairs then Ok pairs else Err range)

-- the bracket table of these pairs, whose texts use up the joined text; the standard one without pairs
abbrev pub table_of : List PairUnits → List ℕ → Result Table FlatRefusal
table_of [] [] = Ok standard_table
table_of [] (unit ∷ text) = Err range
table_of (pair ∷ pairs) text = table_or_range (pairs_of (pair ∷ pairs) text)

-- an empty text is no mark, and two empty texts are no pair of marks
abbrev pub line_mark : List ℕ → Option (List ℕ)
line_mark [] = None
line_mark (unit ∷ text) = Some (unit ∷ text)

abbrev pub block_marks : PairUnits → List ℕ → Option (List ℕ × List ℕ)
block_marks block text = if block.opening + block.closing == 0 then None else Some (pair_of block text)

-- the marks of a joined text: the one that begins a line comment, the two of a block comment, and the quotes
abbrev pub marks_behind : Option (List ℕ) → PairUnits → List ℕ → Marks
marks_behind line block text =
    let units = block.opening + block.closing in marks line (block_marks block (take units text)) (drop units text)

abbrev pub marks_in : ℕ → PairUnits → List ℕ → Marks
marks_in line block text = marks_behind (line_mark (take line text)) block (drop line text)

abbrev pub checked_marks : Marks → Result Marks FlatRefusal
checked_marks m = if are_marks m then Ok m else Err range

abbrev pub marks_of : ℕ → PairUnits → List ℕ → Result Marks FlatRefusal
marks_of line block text =
    if nat_lt (length text) (line + (block.opening + block.closing)) then Err range else checked_marks (marks_in line block text)

abbrev pub both : {A B : Type 0} → Result A FlatRefusal → Result B FlatRefusal → Result (A × B) FlatRefusal
both one other = or_refused one (λ x. told_as (λ y. (x, y)) other)

-- the brackets, and the marks that hide some of them, if all are valid
abbrev pub Scanning : Type 0
Scanning = Result (Table × Marks) FlatRefusal

abbrev pub scanning_of : List PairUnits → List ℕ → ℕ → PairUnits → List ℕ → Scanning
scanning_of pairs brackets line block text = both (table_of pairs brackets) (marks_of line block text)

abbrev pub scanning_in : List PairUnits → List ℕ → ℕ → ℕ → ℕ → List ℕ → Scanning
scanning_in pairs brackets line opening closing text = scanning_of pairs brackets line (pair_units opening closing) text

-- this document replaced by a new one
abbrev pub group_open_as : ℕ → ℕ → Scanning → List ℕ → FlatGroup → Result FlatGroup FlatRefusal
group_open_as doc number scanning text g =
    or_range (kind_of number) (λ kind. or_refused scanning (λ by. group_open g doc text (scanner by.0 by.1) kind))

abbrev pub group_eol_as : ℕ → ℕ → FlatGroup → Result (Option FlatGroup) FlatRefusal
group_eol_as doc number g = or_range (kind_of number) (group_eol g doc)

-- ---- positions, whose columns count from 1

abbrev pub encoding_of : ℕ → Option Encoding
encoding_of number =
    if number == 8 then Some Utf8 else
    (if number == 16 then Some Utf16 else
    (if number == 32 then Some Utf32 else None))

abbrev pub is_utf16 : Encoding → Bool
is_utf16 Utf8 = false
is_utf16 Utf16 = true
is_utf16 Utf32 = false

abbrev pub place : ℕ → ℕ → Place
place line column = record { line = line; column = column }

-- An offset in a line, converted into the encoding. In a mixed document the offset between CR and LF is valid: one beyond the content.
abbrev pub column_before : Encoding → List ℕ → ℕ → Option ℕ
column_before encoding content before =
    if before == length content + 1 then Some (length_in encoding content + 1) else column_in encoding content before

-- a column in units, converted into the encoding
abbrev pub column_at : Encoding → ℕ → List ℕ → Option ℕ
column_at encoding column content =
    if column == 0 then None else option_map (λ n. n + 1) (column_before encoding content (column - 1))

abbrev pub column_of : FlatState → Encoding → Position → Result ℕ FlatRefusal
column_of f encoding p = of_line (column_at encoding p.column) (flat_line f p.line)

abbrev pub column_as : FlatState → Encoding → Position → Result ℕ FlatRefusal
column_as f encoding p = if is_utf16 encoding then Ok p.column else column_of f encoding p

-- a position in units, converted into the encoding
abbrev pub place_in : FlatState → Encoding → Position → Result Place FlatRefusal
place_in f encoding p = told_as (place p.line) (column_as f encoding p)

abbrev pub place_if : FlatState → Encoding → Option Position → Result (Option Place) FlatRefusal
place_if f encoding None = Ok None
place_if f encoding (Some p) = told_as Some (place_in f encoding p)

abbrev pub flat_place : FlatState → ℕ → ℕ → Result (Option Place) FlatRefusal
flat_place f number offset = or_range (encoding_of number) (λ encoding. place_if f encoding (flat_position f offset))

-- an offset in a line, converted from the encoding into units
abbrev pub units_before : Encoding → List ℕ → ℕ → Option ℕ
units_before encoding content before =
    if before == length_in encoding content + 1 then Some (length content + 1) else offset_of encoding content before

-- a column of the encoding, converted into units
abbrev pub units_column : Encoding → ℕ → List ℕ → Option ℕ
units_column encoding column content =
    if column == 0 then None else option_map (λ n. n + 1) (units_before encoding content (column - 1))

-- a position of the encoding, converted into units; None if it is inside a character or beyond its line
abbrev pub position_if : ℕ → Result ℕ FlatRefusal → Option Position
position_if line (Ok column) = Some (at line column)
position_if line (Err why) = None

abbrev pub position_in : FlatState → Encoding → Position → Option Position
position_in f encoding p =
    if is_utf16 encoding then Some p else position_if p.line (of_line (units_column encoding p.column) (flat_line f p.line))

abbrev pub offset_in : FlatState → Encoding → Position → Option ℕ
offset_in f encoding p = option_and_then (flat_offset f) (position_in f encoding p)

abbrev pub flat_offset_as : FlatState → ℕ → Position → Result (Option ℕ) FlatRefusal
flat_offset_as f number p = or_range (encoding_of number) (λ encoding. Ok (offset_in f encoding p))

-- ---- edits

abbrev pub one_op : Span → List ℕ → Bool → List Op
one_op span text force = record { span = span; text = text; force = force } ∷ []

abbrev pub both_ends : Option ℕ → Option ℕ → Option Span
both_ends (Some start) (Some end) = Some (span start end)
both_ends (Some start) None = None
both_ends None end = None

abbrev pub span_between : FlatState → Encoding → Position → Position → Option Span
span_between f encoding from to = both_ends (offset_in f encoding from) (offset_in f encoding to)

-- an edit from one position up to another
abbrev pub group_edit_at : ℕ → ℕ → Position → Position → List ℕ → FlatGroup → Result FlatGroup FlatRefusal
group_edit_at doc number from to text g =
    or_range (encoding_of number) (λ encoding. or_range (span_between (doc_in g doc) encoding from to)
    (λ span. group_edit g doc (one_op span text false)))

-- ---- what is read

-- one less if the end is not a valid offset
abbrev pub cut_back : FlatState → ℕ → ℕ → ℕ
cut_back f offset end = if nat_lt offset end && not (is_place_in f.kind f.units end) then end - 1 else end

-- the end of the units from the offset on that fit into this room
abbrev pub fitting_end : FlatState → ℕ → ℕ → ℕ
fitting_end f offset room =
    if nat_le (length f.units) offset || nat_le (length f.units - offset) room then length f.units
    else cut_back f offset (offset + room)

abbrev pub fitting_span : FlatState → ℕ → ℕ → Span
fitting_span f offset room = span offset (fitting_end f offset room)

-- the room must be 2 units or more, since a pair is never split
abbrev pub flat_read : FlatState → ℕ → ℕ → Result (List ℕ) FlatRefusal
flat_read f offset room = if nat_lt room 2 then Err range else flat_value f (fitting_span f offset room)

-- the units of a rule in UTF-8, where a lone surrogate becomes U+FFFD
abbrev pub in_utf8 : Result (List ℕ) FlatRefusal → Result (List ℕ) FlatRefusal
in_utf8 rule = told_as utf8_of rule

-- how many units are sure to fit into these bytes: each takes at most 3
abbrev pub units_for : ℕ → ℕ
units_for bytes = bytes / 3

-- ---- decorations

abbrev pub new_deco_of : NewDecoration → NewDeco
new_deco_of new = record { span = span new.start new.end; stick = new.stick; collapse = new.collapse }

abbrev pub decoration_of : Deco → Decoration
decoration_of deco = record {
  id = deco.id;
  owner = deco.owner;
  start = deco.span.start;
  end = deco.span.end;
  stick = deco.stick;
  collapse = deco.collapse;
}

abbrev pub owner_of : ℕ → Bool → Option ℕ
owner_of owner true = None
owner_of owner false = Some owner

abbrev pub flat_decoration_list : FlatState → Span → Option ℕ → Result (List Decoration) FlatRefusal
flat_decoration_list f span owner = told_as (map decoration_of) (flat_decos f span owner)

-- ---- search

abbrev pub found_of : Span → Found
found_of span = record { start = span.start; end = span.end }

-- the span starts at or after `from`; with `back`, it ends at or before it
abbrev pub is_within : ℕ → Bool → Span → Bool
is_within from false span = nat_le from span.start
is_within from true span = nat_le span.end from

abbrev pub in_turn : {A : Type 0} → Bool → List A → List A
in_turn false xs = xs
in_turn true xs = reverse xs

-- the spans of `is_within`, from left to right; with `back`, from right to left
abbrev pub found_list : ℕ → Bool → List Span → List Found
found_list from back spans = in_turn back (map found_of (filter (is_within from back) spans))

-- at most `most` spans at which the text occurs; an empty text is refused
abbrev pub flat_find_list : FlatState → List ℕ → ℕ → Bool → ℕ → Result (List Found) FlatRefusal
flat_find_list f [] from back most = Err range
flat_find_list f (u ∷ units) from back most = Ok (take most (found_list from back (flat_find f (u ∷ units))))

abbrev pub group_replace_some : ℕ → List ℕ → List ℕ → FlatGroup → Result (Option FlatGroup) FlatRefusal
group_replace_some doc [] text g = Err range
group_replace_some doc (u ∷ units) text g = group_replace_all g doc (u ∷ units) text

-- ---- brackets

abbrev pub number_of_state : State → ℕ
number_of_state PairedOpening = 0
number_of_state PairedClosing = 1
number_of_state Unclosed = 2
number_of_state Unexpected = 3

-- the column and the length of a span in a line, in the encoding
abbrev pub extent_of : FlatState → Encoding → Position → ℕ → Result (ℕ × ℕ) FlatRefusal
extent_of f encoding p units =
    if is_utf16 encoding then Ok (p.column, units)
    else told_as (λ (c : ℕ × ℕ). (c.0, c.1 - c.0)) (both (column_of f encoding p) (column_of f encoding (at p.line (p.column + units))))

abbrev pub bracket_of : Entry → ℕ × ℕ → Bracket
bracket_of entry extent = record {
  line = entry.place.lines + 1;
  column = extent.0;
  length = extent.1;
  kind = entry.kind;
  level = entry.level;
  state = number_of_state entry.status;
}

abbrev pub bracket_in : FlatState → Encoding → Entry → Result Bracket FlatRefusal
bracket_in f encoding entry = told_as (bracket_of entry) (extent_of f encoding (position_at entry.place) entry.len)

-- the values of all, or the first error
abbrev pub all_of : {A : Type 0} → List (Result A FlatRefusal) → Result (List A) FlatRefusal
all_of [] = Ok []
all_of (Err why ∷ told) = Err why
all_of (Ok x ∷ told) = before_all x (all_of told)

abbrev pub flat_bracket_list : FlatState → ℕ → ℕ → ℕ → Result (List Bracket) FlatRefusal
flat_bracket_list f number from to =
    or_range (encoding_of number) (λ encoding. or_refused (flat_brackets f from to)
    (λ entries. all_of (map (bracket_in f encoding) entries)))

abbrev pub partner_of : ℕ → ℕ × ℕ → Partner
partner_of line extent = record { line = line; column = extent.0; length = extent.1 }

abbrev pub partner_in : FlatState → Encoding → Option (Position × ℕ) → Result (Option Partner) FlatRefusal
partner_in f encoding None = Ok None
partner_in f encoding (Some (p, units)) = told_as (λ extent. Some (partner_of p.line extent)) (extent_of f encoding p units)

abbrev pub flat_partner : FlatState → ℕ → Position → Result (Option Partner) FlatRefusal
flat_partner f number p =
    or_range (encoding_of number) (λ encoding. or_range (position_in f encoding p)
    (λ p. or_refused (flat_match f p) (partner_in f encoding)))

abbrev pub flat_level_at : FlatState → ℕ → Position → Result ℕ FlatRefusal
flat_level_at f number p =
    or_range (encoding_of number) (λ encoding. or_range (position_in f encoding p) (flat_level f))

-- ---- stops of a cursor

-- columns of a line in units, converted into the encoding
abbrev pub columns_in : FlatState → Encoding → ℕ → List ℕ → Result (List ℕ) FlatRefusal
columns_in f encoding line columns = all_of (map (λ column. column_as f encoding (at line column)) columns)

abbrev pub flat_stop_list : FlatState → ℕ → ℕ → Result (List ℕ) FlatRefusal
flat_stop_list f number n =
    or_range (encoding_of number) (λ encoding. or_refused (flat_stops f n) (columns_in f encoding n))
