-- What a looked-up piece says of the text.
use Rattle.std.proofs.Common.{◌≡◌, ℕ, zero, suc, ◌+◌, ◌-◌, ◌<◌, ◌≤◌, ◌^◌, leb, not, true, false, cond, List, [], ◌∷◌, ◌++◌, length, take, drop, get_or, map, add-zero, zero-add, refl, ap, sym, subst, ◌∙◌, arith}
use Rattle.std.specs.List.{All}
use Rattle.std.specs.Prelude.{Option, Some, None, MatchOption, IfSome}
use Rattle.std.proofs.lemmas.List.{map-append, length-map, length-take-le, take_at, take-append-le, drop-append-le, length-append, get_or_append_left, get_or-append_right, get_or-map}
use Rattle.std.proofs.lemmas.Bool.{and_parts, leb-true}
use Rattle.std.proofs.lemmas.List.Sums.{prefix_len-le-length}
use Rattle.std.proofs.lemmas.List.Elements.{All-head, All-tail}
use Rattle.chunk_buffers.specs.Chunks.{Shown, units_at, LiesIn}
use Rattle.line_starts.specs.Starts.{starts_of}
use Rattle.line_starts.proofs.Starts.{break_count_is, starts_of_is}
use Rattle.piece_tree.specs.declared.piece.Piece.{Piece}
use Rattle.piece_tree.specs.declared.piece.Found.{Found}
use Rattle.piece_tree.specs.Pieces.{Pieces, Entry, pieces_of, unit_count, break_count_of, IsPieceOf, IsFound, AreNeighbours}
use Rattle.piece_tree.proofs.Sums.{All-parts, breaks-cons}
use Rattle.unit_text.specs.declared.kind.Kind.{Kind}
use Rattle.unit_text.specs.Units.{cuts_pair, is_place}
use Rattle.text_rules.specs.Lines.{lines_of, line_start}
use Rattle.text_rules.specs.Breaks.{ends_break, break_ends, joins_pair, count_to}
use Rattle.text_rules.proofs.Breaks.{break_ends_few, break_ends-append, break_ends_moved, line_count_is, line_start_is, count_to_all, count_to_none, count_to-append, count_to-later, count_to-moved}
use Rattle.text_buffer.specs.Text.{Text, text_of, spelled, IsUnsplit, IsText, ends_with_pair}
use Rattle.text_buffer.proofs.Spelling.{spelled-append, length-spelled, length-units_at, take-past, drop-past}
use Rattle.text_buffer.proofs.Borders.{unsplit-parts, begins_with-take}
use Rattle.text_buffer.proofs.Contents.{pair_of_line}

after_cons : (at e : ℕ) (ends : List ℕ) → at < e → ((k d : ℕ) → k < length ends → at < get_or ends k d) → (k d : ℕ) → k < length (e ∷ ends) → at < get_or (e ∷ ends) k d
after_cons at e ends first later zero d inside = first
after_cons at e ends first later (suc k) d inside = later k d (omega arith)

-- each break ends after the place where the text stands
pub break_ends_after : (at place : ℕ) (x : List ℕ) → at ≤ place → (k d : ℕ) → k < length (break_ends place x) → at < get_or (break_ends place x) k d
break_ends_after at place [] h = λ k d inside. absurd (omega arith)
break_ends_after at place (u ∷ x) h =
    let ends : List ℕ = break_ends (place + 1) x in
    elim (ends_break u x) as (λ b. (k d : ℕ) → k < length (cond b ((place + 1) ∷ ends) ends) → at < get_or (cond b ((place + 1) ∷ ends) ends) k d) [
      | true ↦ after_cons at (place + 1) ends (omega arith) (break_ends_after at (place + 1) x (omega arith))
      | false ↦ break_ends_after at (place + 1) x (omega arith)
    ]

ends_count : (at : ℕ) (x : List ℕ) → length (break_ends at x) ≡ length (break_ends 0 x)
ends_count at x =
    ap (λ (n : ℕ). length (break_ends n x)) (sym (add-zero at)) ∙ ap length (break_ends_moved at 0 x) ∙ length-map (break_ends 0 x) (λ e. at + e)

-- the pieces have as many breaks as the text
pub breaks_of_pieces : (b : List (List ℕ)) (ps : List Piece) → All (IsPieceOf b) ps → IsUnsplit b ps → break_count_of ps ≡ length (break_ends 0 (spelled b ps))
breaks_of_pieces b [] all a = refl
breaks_of_pieces b (p ∷ ps) all a =
    let head : IsPieceOf b p = All-head (IsPieceOf b) p ps all in
    let own = units_at b p.span in
    let parts = ap length (break_ends-append 0 own (spelled b ps) a.0) in
    let moved : length (break_ends (0 + length own) (spelled b ps)) ≡ length (break_ends 0 (spelled b ps)) = ends_count (0 + length own) (spelled b ps) in
    omega (
      arith,
      breaks-cons p ps,
      head.breaks,
      break_count_is own,
      parts,
      length-append (break_ends 0 own) (break_ends (0 + length own) (spelled b ps)),
      moved,
      breaks_of_pieces b ps (All-tail (IsPieceOf b) p ps all) a.1,
    )

pub line_count_of_pieces : (b : List (List ℕ)) (ps : List Piece) → All (IsPieceOf b) ps → IsUnsplit b ps → break_count_of ps + 1 ≡ length (lines_of (spelled b ps))
line_count_of_pieces b ps all a = omega (arith, breaks_of_pieces b ps all a, line_count_is (spelled b ps))

pub lines_of_pieces : (b : List (List ℕ)) (ps : List Piece) → All (IsPieceOf b) ps → IsUnsplit b ps → length (lines_of (spelled b ps)) ≡ break_count_of ps + 1
lines_of_pieces b ps all a = sym (line_count_of_pieces b ps all a)

pub all_breaks : (b : List (List ℕ)) (ps : List Piece) → All (IsPieceOf b) ps → IsUnsplit b ps
    → count_to (length (spelled b ps)) (break_ends 0 (spelled b ps)) ≡ break_count_of ps
all_breaks b ps all a =
    let x : List ℕ = spelled b ps in
    count_to_all 0 (length x) x (omega arith) ∙ sym (breaks_of_pieces b ps all a)

-- the text has as many units, breaks and lines as the pieces count
pub ruleset sizes = (length-spelled, lines_of_pieces, all_breaks)

-- what the pieces count, in the text that contracts see
pub units_shown : {kind : Kind} (tree : Pieces) (chunks : Shown) (seen : Text) → IsText tree chunks → text_of kind tree chunks ≡ seen
    → unit_count (pieces_of tree.entries) ≡ length seen.units
units_shown tree chunks seen is shown =
    omega (arith, length-spelled chunks.buffers (pieces_of tree.entries) is.pieces, ap (λ (t : Text). length t.units) shown)

-- whether a text ends with a pair that its second part has whole
pair_after : (x w : List ℕ) → 0 < length w → joins_pair x w ≡ false → ends_with_pair (x ++ w) ≡ ends_with_pair w
pair_after x [] some apart = absurd (omega arith)
pair_after [] (v ∷ w) some apart = refl
pair_after (u ∷ []) (v ∷ []) some apart = apart
pair_after (u ∷ []) (v ∷ w ∷ ws) some apart = refl
pair_after (u ∷ t ∷ []) (v ∷ w) some apart = pair_after (t ∷ []) (v ∷ w) some apart
pair_after (u ∷ t ∷ s ∷ x) (v ∷ w) some apart = pair_after (t ∷ s ∷ x) (v ∷ w) some apart

module _ (b : List (List ℕ)) (entries : List Entry) (found : Found) (is : IsFound entries found) (all : All (IsPieceOf b) (pieces_of entries)) where
  abbrev pub earlier_text : List ℕ
  earlier_text = spelled b (pieces_of is.earlier)

  abbrev pub own_text : List ℕ
  own_text = units_at b found.span

  abbrev pub later_text : List ℕ
  later_text = spelled b (pieces_of is.later)

  abbrev pub own : Piece
  own = record { span = found.span; breaks = found.breaks }

  pub pieces_are : pieces_of entries ≡ pieces_of is.earlier ++ own ∷ pieces_of is.later
  pieces_are = ap pieces_of is.place ∙ map-append (λ (e : Entry). e.piece) is.earlier _

  -- what holds of all pieces holds of those before it, and of it and those behind it
  at_parts : (P : Piece → Type 0) → All P (pieces_of entries) → All P (pieces_of is.earlier) × All P (own ∷ pieces_of is.later)
  at_parts P of_all = All-parts P (pieces_of is.earlier) (own ∷ pieces_of is.later) (subst (All P) pieces_are of_all)

  pub all_earlier : All (IsPieceOf b) (pieces_of is.earlier)
  all_earlier = (at_parts (IsPieceOf b) all).0

  pub all_later : All (IsPieceOf b) (own ∷ pieces_of is.later)
  all_later = (at_parts (IsPieceOf b) all).1

  pub own_is : IsPieceOf b own
  own_is = All-head (IsPieceOf b) own (pieces_of is.later) all_later

  pub found_inside : LiesIn b found.span
  found_inside = own_is.inside

  pub found_text : spelled b (pieces_of entries) ≡ earlier_text ++ (own_text ++ later_text)
  found_text = ap (spelled b) pieces_are ∙ spelled-append b (pieces_of is.earlier) (own ∷ pieces_of is.later)

  pub found_start : length earlier_text ≡ found.before.units
  found_start = length-spelled b (pieces_of is.earlier) all_earlier ∙ ap (λ s. s.units) (sym is.before)

  pub found_size : length own_text ≡ found.span.units
  found_size = length-units_at b found.span found_inside

  pub found_reach : found.before.units + found.span.units ≤ length (spelled b (pieces_of entries))
  found_reach =
      omega (arith, ap length found_text, length-append earlier_text (own_text ++ later_text), length-append own_text later_text, found_start, found_size)

  pub found_unit : (offset : ℕ) → found.before.units ≤ offset → offset < found.before.units + found.span.units
      → get_or (spelled b (pieces_of entries)) offset 0 ≡ get_or own_text (offset - found.before.units) 0
  found_unit offset start end =
      ap (λ s. get_or s offset 0) found_text
      ∙ get_or-append_right earlier_text (own_text ++ later_text) found.before.units offset 0 found_start start
      ∙ get_or_append_left own_text later_text 0 (offset - found.before.units) (omega (arith, found_size))

  -- from a place in the piece the text goes on with the rest of the piece
  pub found_rest : (offset : ℕ) → found.before.units ≤ offset → offset < found.before.units + found.span.units
      → drop offset (spelled b (pieces_of entries)) ≡ drop (offset - found.before.units) own_text ++ later_text
  found_rest offset start end =
      ap (drop offset) found_text ∙ drop-past offset found.before.units earlier_text (own_text ++ later_text) (sym found_start) start
      ∙ drop-append-le (offset - found.before.units) own_text later_text (omega (arith, found_size))

  -- the units from a place in the piece to its end are the next ones of the text
  pub found_run : (offset : ℕ) → found.before.units ≤ offset → offset < found.before.units + found.span.units
      → drop (offset - found.before.units) own_text ≡ take (length (drop (offset - found.before.units) own_text)) (drop offset (spelled b (pieces_of entries)))
  found_run offset start end =
      let run : List ℕ = drop (offset - found.before.units) own_text in
      sym (ap (take (length run)) (found_rest offset start end) ∙ take_at run later_text (length run) refl)

  module _ (full : All (λ (p : Piece). 0 < p.span.units) (pieces_of entries)) (unsplit : IsUnsplit b (pieces_of entries)) where
    pub full_earlier : All (λ (p : Piece). 0 < p.span.units) (pieces_of is.earlier)
    full_earlier = (at_parts (λ (p : Piece). 0 < p.span.units) full).0

    pub parts : (joins_pair earlier_text (own_text ++ later_text) ≡ false) × (IsUnsplit b (pieces_of is.earlier) × IsUnsplit b (own ∷ pieces_of is.later))
    parts = unsplit-parts b (pieces_of is.earlier) (own ∷ pieces_of is.later) all_earlier full_earlier (subst (IsUnsplit b) pieces_are unsplit)

    -- a CR LF at the end of a front of the piece lies in the piece
    pub found_pair : (own : ℕ) → 0 < own → own ≤ found.span.units
        → ends_with_pair (take (found.before.units + own) (spelled b (pieces_of entries))) ≡ ends_with_pair (take own own_text)
    found_pair own some within =
        let rest : found.before.units + own - found.before.units ≡ own = omega arith in
        let front : take own (own_text ++ later_text) ≡ take own own_text = take-append-le own own_text later_text (omega (arith, found_size)) in
        let size : 0 < length (take own own_text) = omega (arith, length-take-le own own_text (omega (arith, found_size))) in
        ap (λ s. ends_with_pair (take (found.before.units + own) s)) found_text
        ∙ ap ends_with_pair
        (take-past (found.before.units + own) found.before.units earlier_text (own_text ++ later_text) (sym found_start) (omega arith)
        ∙ ap (λ (n : ℕ). earlier_text ++ take n (own_text ++ later_text)) rest)
        ∙ ap (λ s. ends_with_pair (earlier_text ++ s)) front
        ∙ pair_after earlier_text (take own own_text) size
        (ap (joins_pair earlier_text) (sym front) ∙ begins_with-take own earlier_text (own_text ++ later_text) parts.0)

    -- whether a line ends with CR LF, where the piece has its break
    pub found_line_pair : (start end own : ℕ) → found.before.units + own ≡ end → 0 < own → own ≤ found.span.units → start + 2 ≤ end
        → ends_with_pair (take (end - start) (drop start (spelled b (pieces_of entries)))) ≡ ends_with_pair (take own own_text)
    found_line_pair start end own end_is some within long =
        let x : List ℕ = spelled b (pieces_of entries) in
        let reach : end ≤ length x = omega (arith, found_reach) in
        pair_of_line x start end long reach ∙ ap (λ (n : ℕ). ends_with_pair (take n x)) (sym end_is) ∙ found_pair own some within

    pub earlier_breaks : length (break_ends 0 earlier_text) ≡ found.before.breaks
    earlier_breaks = sym (breaks_of_pieces b (pieces_of is.earlier) all_earlier parts.1.0) ∙ ap (λ s. s.breaks) (sym is.before)

    pub own_breaks : length (break_ends 0 own_text) ≡ found.breaks
    own_breaks = sym (break_count_is own_text) ∙ sym own_is.breaks

    -- the places after the breaks of the text
    ends_parts : break_ends 0 (spelled b (pieces_of entries))
        ≡ break_ends 0 earlier_text ++ (map (λ e. found.before.units + e) (break_ends 0 own_text) ++ break_ends (found.before.units + length own_text) later_text)
    ends_parts =
        let start : ℕ = found.before.units in
        ap (break_ends 0) found_text ∙ break_ends-append 0 earlier_text (own_text ++ later_text) parts.0
        ∙ ap (λ ends. break_ends 0 earlier_text ++ ends)
        (ap (λ (n : ℕ). break_ends n (own_text ++ later_text)) (zero-add (length earlier_text) ∙ found_start)
        ∙ break_ends-append start own_text later_text parts.1.1.0
        ∙ ap (λ ends. ends ++ break_ends (start + length own_text) later_text)
        (ap (λ (n : ℕ). break_ends n own_text) (sym (add-zero start)) ∙ break_ends_moved start 0 own_text))

    -- the breaks that end at a place in the piece or before it
    pub found_breaks_to : (offset : ℕ) → found.before.units ≤ offset → offset < found.before.units + found.span.units
        → count_to offset (break_ends 0 (spelled b (pieces_of entries))) ≡ found.before.breaks + count_to (offset - found.before.units) (break_ends 0 own_text)
    found_breaks_to offset start end =
        let s : ℕ = found.before.units in
        let mine : List ℕ = map (λ e. s + e) (break_ends 0 own_text) in
        let place : s + (offset - s) ≡ offset = omega arith in
        let all_before = count_to_all 0 offset earlier_text (omega (arith, found_start)) in
        let none_after = count_to_none (s + length own_text) offset later_text (omega (arith, found_size)) in
        ap (count_to offset) ends_parts
        ∙ count_to-append offset (break_ends 0 earlier_text) (mine ++ break_ends (s + length own_text) later_text) all_before
        ∙ ap (λ (n : ℕ). n + count_to offset (mine ++ break_ends (s + length own_text) later_text)) earlier_breaks
        ∙ ap (λ (n : ℕ). found.before.breaks + n)
        (count_to-later offset mine (break_ends (s + length own_text) later_text) none_after
        ∙ ap (λ (t : ℕ). count_to t mine) (sym place) ∙ count_to-moved s (offset - s) (break_ends 0 own_text))

    -- they are those before the piece, and those of its own that its starts tell
    pub found_count : (offset mine : ℕ) → found.before.units ≤ offset → offset < found.before.units + found.span.units
        → mine ≡ count_to (offset - found.before.units) (drop 1 (starts_of own_text))
        → found.before.breaks + mine ≡ count_to offset (break_ends 0 (spelled b (pieces_of entries)))
    found_count offset mine start end mine_is =
        ap (λ (n : ℕ). found.before.breaks + n) (mine_is ∙ ap (λ s. count_to (offset - found.before.units) (drop 1 s)) (starts_of_is own_text))
        ∙ sym (found_breaks_to offset start end)

    -- the start of the line after a break in the piece
    pub found_line_start : (n : ℕ) → found.before.breaks < n → n ≤ found.before.breaks + found.breaks
        → line_start (spelled b (pieces_of entries)) (n + 1) ≡ found.before.units + line_start own_text (n - found.before.breaks + 1)
    found_line_start n start end =
        let s : ℕ = found.before.units in
        let x : List ℕ = spelled b (pieces_of entries) in
        let mine : List ℕ = map (λ e. s + e) (break_ends 0 own_text) in
        let later : List ℕ = break_ends (s + length own_text) later_text in
        let i : ℕ = n - 1 - found.before.breaks in
        let mine_size : length mine ≡ found.breaks = length-map (break_ends 0 own_text) (λ e. s + e) ∙ own_breaks in
        let whole = ap length ends_parts ∙ length-append (break_ends 0 earlier_text) (mine ++ later) in
        let there : n - 1 < length (break_ends 0 x) = omega (arith, whole, length-append mine later, mine_size, earlier_breaks) in
        let inside : i < length (break_ends 0 own_text) = omega (arith, own_breaks) in
        line_start_is x (n - 1) (n + 1) there (omega arith)
        ∙ ap (λ ends. get_or ends (n - 1) 0) ends_parts
        ∙ get_or-append_right (break_ends 0 earlier_text) (mine ++ later) found.before.breaks (n - 1) 0 earlier_breaks (omega arith)
        ∙ get_or_append_left mine later 0 i (omega (arith, mine_size))
        ∙ get_or-map (λ e. s + e) (break_ends 0 own_text) i 0 0 inside
        ∙ ap (λ (k : ℕ). s + k) (sym (line_start_is own_text i (n - found.before.breaks + 1) inside (omega arith)))

-- what is counted up to the end of a piece fits
pub found_small : (tree : Pieces) (chunks : Shown) → IsText tree chunks → (found : Found) → IsFound tree.entries found → found.before.units + found.span.units < 2 ^ 62
found_small tree chunks text found is =
    omega (arith, found_reach chunks.buffers tree.entries found is text.pieces, length-spelled chunks.buffers (pieces_of tree.entries) text.pieces, text.small)

-- the piece beside a looked-up one is looked up too, if there is one
pub before_found : (P : Type 0) (entries : List Entry) (found : Found) (prev : Option Found) → MatchOption prev P (λ p. AreNeighbours entries p found)
    → IfSome prev (IsFound entries)
before_found P entries found None beside = tt
before_found P entries found (Some prev) beside = beside.left

pub after_found : (P : Type 0) (entries : List Entry) (found : Found) (next : Option Found) → MatchOption next P (AreNeighbours entries found)
    → IfSome next (IsFound entries)
after_found P entries found None beside = tt
after_found P entries found (Some next) beside = beside.right

-- so does a number of breaks
pub count_small : (tree : Pieces) (chunks : Shown) → IsText tree chunks → (offset : ℕ)
    → count_to offset (break_ends 0 (spelled chunks.buffers (pieces_of tree.entries))) < 2 ^ 62
count_small tree chunks text offset =
    let x : List ℕ = spelled chunks.buffers (pieces_of tree.entries) in
    omega (
      arith,
      prefix_len-le-length (λ e. leb e offset) (break_ends 0 x),
      break_ends_few 0 x,
      length-spelled chunks.buffers (pieces_of tree.entries) text.pieces,
      text.small,
    )

-- and no place has more breaks before it than there are lines
pub count_in_lines : (x : List ℕ) (offset : ℕ) → count_to offset (break_ends 0 x) < length (lines_of x)
count_in_lines x offset = omega (arith, line_count_is x, prefix_len-le-length (λ e. leb e offset) (break_ends 0 x))

-- a place is in the text, or at its end
pub place_small : (tree : Pieces) (chunks : Shown) → IsText tree chunks → (offset : ℕ)
    → is_place (spelled chunks.buffers (pieces_of tree.entries)) offset ≡ true → offset < 2 ^ 62
place_small tree chunks text offset place =
    let x : List ℕ = spelled chunks.buffers (pieces_of tree.entries) in
    let within : offset ≤ length x = leb-true offset (length x) (and_parts (leb offset (length x)) (not (cuts_pair x offset)) place).0 in
    omega (arith, length-spelled chunks.buffers (pieces_of tree.entries) text.pieces, text.small)

-- the units of a looked-up piece, in the piece and in the text
pub ruleset units_of_piece = (found_unit, length-units_at)

pub ruleset run_sizes = (length-spelled, length-units_at)
