-- The units that an edit takes along: they stand beside its span, and cut no CR LF from the rest of the text.
use Rattle.std.proofs.Common.{◌≡◌, ℕ, ◌+◌, ◌-◌, ◌<◌, ◌≤◌, ◌==◌, ◌&&◌, ◌||◌, Bool, true, false, if◌then◌else◌, Option, Some, None, List, [], ◌∷◌, ◌++◌, length, take, drop, refl, ap, sym, subst, ◌∙◌, add-zero, arith}
use Rattle.std.specs.Prelude.{IfSome, nat_le, nat_lt, is_none}
use Rattle.std.proofs.lemmas.Bool.{and_parts, leb-true, ltb-true, eqb-false, ne_eqb}
use Rattle.std.proofs.lemmas.List.{append-nil, length-take-le, length-drop, take-append-le, take_at, take-take, drop_at, drop-drop}
use Rattle.chunk_buffers.specs.declared.span.ChunkSpan.{ChunkSpan}
use Rattle.chunk_buffers.specs.Chunks.{Shown, units_at, LiesIn, part_of}
use Rattle.line_starts.specs.Starts.{break_count}
use Rattle.piece_tree.specs.declared.piece.Piece.{Piece}
use Rattle.piece_tree.specs.declared.piece.Found.{Found}
use Rattle.piece_tree.specs.Pieces.{Pieces, pieces_of, unit_count, StandsAt, HasUnit}
use Rattle.text_rules.specs.Lines.{line_feed, carriage_return, begins_with}
use Rattle.text_rules.specs.Breaks.{ends_with, joins_pair}
use Rattle.text_rules.proofs.Breaks.{and_false, ends_with_push}
use Rattle.text_buffer.specs.declared.edit.Spot.{Spot}
use Rattle.text_buffer.specs.declared.beside.Rests.{Rests}
use Rattle.text_buffer.specs.declared.beside.TheConstants.{MOST_BREAKS_ALONG}
use Rattle.text_buffer.specs.Text.{spelled, IsText, unit_if, most_along}
use Rattle.text_buffer.specs.Edits.{IsSpot}
use Rattle.text_buffer.specs.Along.{is_little, if_little, rest_before, rest_behind, rests_of, units_along}
use Rattle.text_buffer.proofs.AddedBreaks.{one_break_most}
use Rattle.text_buffer.proofs.Borders.{begins_with-append, begins_with-take, ends_with-append, ends_with-drop}
use Rattle.text_buffer.proofs.Replacing.{ends_with_split, ends_with_some, begins_with_split, begins_with_some}
use Rattle.text_buffer.proofs.Spelling.{take-past, drop-past, front_of_piece, back_of_piece, length-units_at}
use Rattle.text_buffer.proofs.Spots.{spot_within}
use Rattle.text_buffer.proofs.Growing.{found_there}
use Rattle.text_buffer.proofs.Found.{earlier_text, own_text, later_text, own_is, found_inside, found_text, found_start, found_size, found_reach, found_rest, parts}

-- the units end the text before an offset, and make no pair with what stands before them, whatever comes behind them
pub record IsFrontAlong (x : List ℕ) (offset : ℕ) (joins : Bool) (units : List ℕ) : Type 0 where
  pub few : length units ≤ most_along
  pub breaks : break_count units ≤ MOST_BREAKS_ALONG
  pub there : length units ≤ offset
  pub before : take (offset - length units) x ++ units ≡ take offset x
  pub apart : (rest : List ℕ) → joins ≡ joins_pair (take offset x) rest → joins_pair (take (offset - length units) x) (units ++ rest) ≡ false

-- the units begin the text behind an offset, and make no pair with what stands behind them, whatever comes before them
pub record IsBackAlong (x : List ℕ) (offset : ℕ) (joins : Bool) (units : List ℕ) : Type 0 where
  pub few : length units ≤ most_along
  pub breaks : break_count units ≤ MOST_BREAKS_ALONG
  pub there : offset + length units ≤ length x
  pub behind : units ++ drop (offset + length units) x ≡ drop offset x
  pub apart : (front : List ℕ) → joins ≡ joins_pair front (drop offset x) → joins_pair (front ++ units) (drop (offset + length units) x) ≡ false

-- a span that is little
pub record IsLittle (b : List (List ℕ)) (span : ChunkSpan) : Type 0 where
  pub some : 0 < span.units
  pub few : span.units ≤ most_along
  pub breaks : break_count (units_at b span) ≤ MOST_BREAKS_ALONG

module _ (b : List (List ℕ)) where
  little_of : (span : ChunkSpan) (test : Bool) (part : ChunkSpan) → is_little b span ≡ test → (if test then Some span else None) ≡ Some part
      → (part ≡ span) × IsLittle b span
  little_of span true part is e =
      let (some, rest) = and_parts (nat_lt 0 span.units) (nat_le span.units most_along && nat_le (break_count (units_at b span)) MOST_BREAKS_ALONG) is in
      let (few, breaks) = and_parts (nat_le span.units most_along) (nat_le (break_count (units_at b span)) MOST_BREAKS_ALONG) rest in
      let same : part ≡ span = cc in
      (same, record { some = ltb-true 0 span.units some; few = leb-true span.units most_along few; breaks = leb-true (break_count (units_at b span)) MOST_BREAKS_ALONG breaks })
  little_of span false part is e = absurd cc

  -- what is taken along before a place, and behind it
  front_rest : (at : Option Found) (offset : ℕ) (part : ChunkSpan) → rest_before b at offset ≡ Some part
      → (found : Found) × (at ≡ Some found) × (part ≡ part_of found.span 0 (offset - found.before.units)) × IsLittle b part
  front_rest None offset part e = absurd cc
  front_rest (Some found) offset part e =
      let span : ChunkSpan = part_of found.span 0 (offset - found.before.units) in
      let (same, little) = little_of span (is_little b span) part refl e in
      (found, refl, same, subst (IsLittle b) (sym same) little)

  back_cases : (found : Found) (offset : ℕ) (test : Bool) (part : ChunkSpan) → (offset == found.before.units) ≡ test
      → (if test then None else if_little b (part_of found.span (offset - found.before.units) found.span.units)) ≡ Some part
      → (offset ≡ found.before.units → ⊥) × ((part ≡ part_of found.span (offset - found.before.units) found.span.units) × IsLittle b part)
  back_cases found offset true part is e = absurd cc
  back_cases found offset false part is e =
      let span : ChunkSpan = part_of found.span (offset - found.before.units) found.span.units in
      let (same, little) = little_of span (is_little b span) part refl e in
      (eqb-false offset found.before.units is, (same, subst (IsLittle b) (sym same) little))

  back_rest : (at : Option Found) (offset : ℕ) (part : ChunkSpan) → rest_behind b at offset ≡ Some part
      → (found : Found) × (at ≡ Some found) × (offset ≡ found.before.units → ⊥)
      × (part ≡ part_of found.span (offset - found.before.units) found.span.units) × IsLittle b part
  back_rest None offset part e = absurd cc
  back_rest (Some found) offset part e =
      let (other, (same, little)) = back_cases found offset (offset == found.before.units) part refl e in (found, refl, other, same, little)

-- where there is no rest: the CR at the end of a text, and the LF at its start, where the two would make a pair
along_front : (x more : List ℕ) (offset : ℕ) (joins : Bool) → offset ≤ length x → joins ≡ joins_pair (take offset x) more
    → IsFrontAlong x offset joins (unit_if joins carriage_return)
along_front x more offset false within e =
    let here : offset - 0 ≡ offset = omega arith in record {
      few = omega arith;
      breaks = omega (arith, one_break_most false carriage_return);
      there = omega arith;
      before = append-nil (take (offset - 0) x) ∙ ap (λ (n : ℕ). take n x) here;
      apart = λ rest is. ap (λ (n : ℕ). joins_pair (take n x) rest) here ∙ sym is;
    }
along_front x more offset true within e =
    let front : List ℕ = take offset x in
    let returns = (and_parts (ends_with carriage_return front) (begins_with line_feed more) (sym e)).0 in
    let size = length-take-le offset x within in
    let some = ends_with_some carriage_return front returns in
    let last : length front - 1 ≡ offset - 1 = omega (arith, size) in record {
      few = omega arith;
      breaks = omega (arith, one_break_most true carriage_return);
      there = omega (arith, size, some);
      before = sym (ends_with_split carriage_return front returns
          ∙ ap (λ s. s ++ carriage_return ∷ []) (ap (λ (n : ℕ). take n front) last ∙ take-take (offset - 1) offset x (omega arith)));
      apart = λ rest is. and_false (ends_with carriage_return (take (offset - 1) x));
    }

along_back : (x more : List ℕ) (offset : ℕ) (joins : Bool) → offset ≤ length x → joins ≡ joins_pair more (drop offset x)
    → IsBackAlong x offset joins (unit_if joins line_feed)
along_back x more offset false within e = record {
  few = omega arith;
  breaks = omega (arith, one_break_most false line_feed);
  there = omega (arith, within);
  behind = ap (λ (n : ℕ). drop n x) (add-zero offset);
  apart = λ front is. ap (λ (n : ℕ). joins_pair (front ++ []) (drop n x)) (add-zero offset) ∙ ap (λ s. joins_pair s (drop offset x)) (append-nil front) ∙ sym is;
}
along_back x more offset true within e =
    let back : List ℕ = drop offset x in
    let feeds = (and_parts (ends_with carriage_return more) (begins_with line_feed back) (sym e)).1 in
    let some = begins_with_some line_feed back feeds in record {
      few = omega arith;
      breaks = omega (arith, one_break_most true line_feed);
      there = omega (arith, some, length-drop offset x);
      behind = sym (begins_with_split line_feed back feeds ∙ ap (λ s. line_feed ∷ s) (drop-drop 1 offset x));
      apart = λ front is. ap (λ t. t && begins_with line_feed (drop (offset + 1) x)) (ends_with_push carriage_return line_feed front);
    }

module _ (tree : Pieces) (chunks : Shown) (is : IsText tree chunks) where
  abbrev b : List (List ℕ)
  b = chunks.buffers

  abbrev x : List ℕ
  x = spelled chunks.buffers (pieces_of tree.entries)

  -- a part of a piece that was looked up lies in the buffers
  part_inside : (found : Found) (offset from to : ℕ) → HasUnit tree.entries found offset → from ≤ to → to ≤ found.span.units → LiesIn chunks.buffers (part_of found.span from to)
  part_inside found offset from to at ordered within =
      let lies = found_inside chunks.buffers tree.entries found at.piece is.pieces in
      record { buffer = lies.buffer; few = lies.few; end = omega (arith, lies.end, ordered, within); fits = omega (arith, lies.fits, ordered, within) }

  -- a place in a piece that was looked up, and the texts before the piece, in it and behind it
  module _ (found : Found) (offset : ℕ) (joins : Bool) (at : HasUnit tree.entries found offset) where
    abbrev n : ℕ
    n = offset - found.before.units

    abbrev y : List ℕ
    y = earlier_text chunks.buffers tree.entries found at.piece is.pieces

    abbrev w : List ℕ
    w = own_text chunks.buffers tree.entries found at.piece is.pieces

    abbrev z : List ℕ
    z = later_text chunks.buffers tree.entries found at.piece is.pieces

    text : x ≡ y ++ (w ++ z)
    text = found_text chunks.buffers tree.entries found at.piece is.pieces

    start : length y ≡ found.before.units
    start = found_start chunks.buffers tree.entries found at.piece is.pieces

    size : length w ≡ found.span.units
    size = found_size chunks.buffers tree.entries found at.piece is.pieces

    front_little : IsLittle b (part_of found.span 0 n) → IsFrontAlong x offset joins (units_at b (part_of found.span 0 n))
    front_little little =
        let u_is : units_at b (part_of found.span 0 n) ≡ take n w =
        front_of_piece b (record { span = found.span; breaks = found.breaks }) n (own_is b tree.entries found at.piece is.pieces) (omega (arith, at.start, at.end)) in
        let u = units_at b (part_of found.span 0 n) in
        let long : length u ≡ n = ap length u_is ∙ length-take-le n w (omega (arith, size, at.start, at.end)) in
        let back : offset - length u ≡ found.before.units = omega (arith, long, at.start) in
        let front : take (offset - length u) x ≡ y =
        ap (λ (k : ℕ). take k x) back ∙ ap (take found.before.units) text ∙ take_at y (w ++ z) found.before.units start in
        let own : take n (w ++ z) ≡ take n w = take-append-le n w z (omega (arith, size, at.start, at.end)) in
        let none : joins_pair y (units_at b (part_of found.span 0 n)) ≡ false =
        ap (joins_pair y) (u_is ∙ sym own) ∙ begins_with-take n y (w ++ z) (parts b tree.entries found at.piece is.pieces is.full is.unsplit).0 in
        record {
          few = omega (arith, long, little.few);
          breaks = little.breaks;
          there = omega (arith, long, at.start);
          before = ap (λ s. s ++ u) front ∙ ap (λ s. y ++ s) (u_is ∙ sym own)
              ∙ sym (ap (take offset) text ∙ take-past offset found.before.units y (w ++ z) (sym start) at.start);
          apart = λ rest e. ap (λ s. joins_pair s (u ++ rest)) front
              ∙ ap (λ f. ends_with carriage_return y && f) (begins_with-append line_feed u rest (omega (arith, long, little.some))) ∙ none;
        }

    back_little : IsLittle b (part_of found.span n found.span.units) → IsBackAlong x offset joins (units_at b (part_of found.span n found.span.units))
    back_little little =
        let u_is : units_at b (part_of found.span n found.span.units) ≡ drop n w =
        back_of_piece b (record { span = found.span; breaks = found.breaks }) n (own_is b tree.entries found at.piece is.pieces) (omega (arith, at.start, at.end)) in
        let u = units_at b (part_of found.span n found.span.units) in
        let long : length u ≡ found.span.units - n = ap length u_is ∙ length-drop n w ∙ ap (λ (k : ℕ). k - n) size in
        let ends : offset + length u ≡ found.before.units + found.span.units = omega (arith, long, at.start, at.end) in
        let last : found.before.units + found.span.units - found.before.units ≡ length w = omega (arith, size) in
        let rest : drop (offset + length u) x ≡ z =
        ap (λ (k : ℕ). drop k x) ends ∙ ap (drop (found.before.units + found.span.units)) text
        ∙ drop-past (found.before.units + found.span.units) found.before.units y (w ++ z) (sym start) (omega arith)
        ∙ drop_at w z (found.before.units + found.span.units - found.before.units) (sym last) in
        record {
          few = omega (arith, long, little.few);
          breaks = little.breaks;
          there = omega (arith, ends, found_reach b tree.entries found at.piece is.pieces);
          behind = ap (λ s. u ++ s) rest ∙ ap (λ s. s ++ z) u_is ∙ sym (found_rest b tree.entries found at.piece is.pieces offset at.start at.end);
          apart = λ front e. ap (joins_pair (front ++ u)) rest
              ∙ ap (λ f. f && begins_with line_feed z)
              (ends_with-append carriage_return front u (omega (arith, long, little.some)) ∙ ap (ends_with carriage_return) u_is
              ∙ ends_with-drop carriage_return n w (omega (arith, size, at.start, at.end)))
              ∙ (parts b tree.entries found at.piece is.pieces is.full is.unsplit).1.1.0;
        }

  -- what an edit takes along, whichever it is
  module _ (spot : Spot) (there : IsSpot tree chunks spot) (within : spot.offset ≤ length (spelled chunks.buffers (pieces_of tree.entries))) where
    at_found : (found : Found) → spot.found ≡ Some found → HasUnit tree.entries found spot.offset
    at_found found e = subst (λ a. StandsAt tree.entries a spot.offset) e there.found

    pub front_along : (rest : Option ChunkSpan) (joins : Bool) (more : List ℕ) → joins ≡ joins_pair (take spot.offset (spelled chunks.buffers (pieces_of tree.entries))) more
        → ((part : ChunkSpan) → rest ≡ Some part → rest_before chunks.buffers spot.found spot.offset ≡ Some part)
        → IsFrontAlong (spelled chunks.buffers (pieces_of tree.entries)) spot.offset joins (units_along chunks.buffers rest joins carriage_return)
    front_along None joins more e h = along_front (spelled chunks.buffers (pieces_of tree.entries)) more spot.offset joins within e
    front_along (Some part) joins more e h =
        let (found, at, same, little) = front_rest chunks.buffers spot.found spot.offset part (h part refl) in
        subst (λ s. IsFrontAlong (spelled chunks.buffers (pieces_of tree.entries)) spot.offset joins (units_at chunks.buffers s)) (sym same)
        (front_little found spot.offset joins (at_found found at) (subst (IsLittle chunks.buffers) same little))

    pub back_along : (rest : Option ChunkSpan) (joins : Bool) (more : List ℕ) → joins ≡ joins_pair more (drop spot.offset (spelled chunks.buffers (pieces_of tree.entries)))
        → ((part : ChunkSpan) → rest ≡ Some part → rest_behind chunks.buffers spot.found spot.offset ≡ Some part)
        → IsBackAlong (spelled chunks.buffers (pieces_of tree.entries)) spot.offset joins (units_along chunks.buffers rest joins line_feed)
    back_along None joins more e h = along_back (spelled chunks.buffers (pieces_of tree.entries)) more spot.offset joins within e
    back_along (Some part) joins more e h =
        let (found, at, other, same, little) = back_rest chunks.buffers spot.found spot.offset part (h part refl) in
        subst (λ s. IsBackAlong (spelled chunks.buffers (pieces_of tree.entries)) spot.offset joins (units_at chunks.buffers s)) (sym same)
        (back_little found spot.offset joins (at_found found at) (subst (IsLittle chunks.buffers) same little))

    pub front_fits : (part : ChunkSpan) → rest_before chunks.buffers spot.found spot.offset ≡ Some part → LiesIn chunks.buffers part × (part.units ≤ most_along)
    front_fits part e =
        let (found, at, same, little) = front_rest chunks.buffers spot.found spot.offset part e in
        let has = at_found found at in
        (subst (LiesIn chunks.buffers) (sym same) (part_inside found spot.offset 0 (spot.offset - found.before.units) has (omega arith) (omega (arith, has.start, has.end))), little.few)

    pub back_fits : (part : ChunkSpan) → rest_behind chunks.buffers spot.found spot.offset ≡ Some part → LiesIn chunks.buffers part × (part.units ≤ most_along)
    back_fits part e =
        let (found, at, other, same, little) = back_rest chunks.buffers spot.found spot.offset part e in
        let has = at_found found at in
        (subst (LiesIn chunks.buffers) (sym same) (part_inside found spot.offset (spot.offset - found.before.units) found.span.units has (omega (arith, has.start, has.end)) (omega arith)), little.few)

    -- a rest before a place is of a piece that the place stands inside
    pub front_cuts : (part : ChunkSpan) → rest_before chunks.buffers spot.found spot.offset ≡ Some part → (found : Found) × HasUnit tree.entries found spot.offset × (found.before.units < spot.offset)
    front_cuts part e =
        let (found, at, same, little) = front_rest chunks.buffers spot.found spot.offset part e in
        (found, at_found found at, omega (arith, little.some, ap (λ s. s.units) same))

-- which rests are taken along
module _ (b : List (List ℕ)) (start end : Spot) where
  abbrev both : Bool → Option ChunkSpan → Option ChunkSpan → Rests
  both test front back = if test then record { front = None; back = None } else record { front = front; back = back }

  taken_front : (test : Bool) (front back : Option ChunkSpan) (part : ChunkSpan) → (both test front back).front ≡ Some part → front ≡ Some part
  taken_front true front back part e = absurd cc
  taken_front false front back part e = e

  taken_back : (test : Bool) (front back : Option ChunkSpan) (part : ChunkSpan) → (both test front back).back ≡ Some part → back ≡ Some part
  taken_back true front back part e = absurd cc
  taken_back false front back part e = e

  behind_cut : (test : Bool) (back : Option ChunkSpan) (part : ChunkSpan) → (if test then None else back) ≡ Some part → (test ≡ false) × (back ≡ Some part)
  behind_cut true back part e = absurd cc
  behind_cut false back part e = (refl, e)

  pub rests_front : (n : ℕ) (part : ChunkSpan) → (rests_of b start end n).front ≡ Some part → rest_before b start.found start.offset ≡ Some part
  rests_front n part e =
      let front = rest_before b start.found start.offset in
      let back = if start.offset == end.offset then None else rest_behind b end.found end.offset in
      taken_front (n == 0 && (is_none front || is_none back)) front back part e

  -- what stands behind the span is taken along only where the edit removes units
  pub rests_back : (n : ℕ) (part : ChunkSpan) → (rests_of b start end n).back ≡ Some part → ((start.offset == end.offset) ≡ false) × (rest_behind b end.found end.offset ≡ Some part)
  rests_back n part e =
      let front = rest_before b start.found start.offset in
      let back = if start.offset == end.offset then None else rest_behind b end.found end.offset in
      behind_cut (start.offset == end.offset) (rest_behind b end.found end.offset) part
      (taken_back (n == 0 && (is_none front || is_none back)) front back part e)

pub if_some : (P : ChunkSpan → Type 0) (rest : Option ChunkSpan) → ((part : ChunkSpan) → rest ≡ Some part → P part) → IfSome rest P
if_some P None h = tt
if_some P (Some part) h = h part refl

-- nothing is taken along where there is no rest and no pair
pub none_along : (b : List (List ℕ)) (rest : Option ChunkSpan) (joins : Bool) (unit : ℕ) → ((part : ChunkSpan) → rest ≡ Some part → ⊥) → joins ≡ false
    → units_along b rest joins unit ≡ []
none_along b None joins unit never e = ap (λ t. unit_if t unit) e
none_along b (Some part) joins unit never e = absurd (never part refl)

-- where both rests are little and units go, both are taken along
pub rests_both : (b : List (List ℕ)) (start end : Spot) (n : ℕ) (front back : ChunkSpan) → rest_before b start.found start.offset ≡ Some front → rest_behind b end.found end.offset ≡ Some back
    → (start.offset ≡ end.offset → ⊥) → rests_of b start end n ≡ record { front = Some front; back = Some back }
rests_both b start end n front back first last apart = rw (first, ne_eqb start.offset end.offset apart, last, and_false (n == 0)) refl

pub little_before : (b : List (List ℕ)) (found : Found) (offset before : ℕ) (own : ChunkSpan) → found.before.units ≡ before → found.span ≡ own → is_little b (part_of own 0 (offset - before)) ≡ true
    → rest_before b (Some found) offset ≡ Some (part_of own 0 (offset - before))
little_before b found offset before own at same little = rw (at, same, little) refl

pub little_behind : (b : List (List ℕ)) (found : Found) (offset before : ℕ) (own : ChunkSpan) → found.before.units ≡ before → found.span ≡ own → (offset ≡ before → ⊥)
    → is_little b (part_of own (offset - before) own.units) ≡ true → rest_behind b (Some found) offset ≡ Some (part_of own (offset - before) own.units)
little_behind b found offset before own at same inside little = rw (at, same, ne_eqb offset before inside, little) refl

pub little_units : (b : List (List ℕ)) (span : ChunkSpan) → is_little b span ≡ true → 0 < span.units
little_units b span little = ltb-true 0 span.units (and_parts (nat_lt 0 span.units) (nat_le span.units most_along && nat_le (break_count (units_at b span)) MOST_BREAKS_ALONG) little).0

-- two places in one piece, of which little is left on both sides of them
module _ (tree : Pieces) (chunks : Shown) (is : IsText tree chunks) (start end : Spot) (one : IsSpot tree chunks start) (two : IsSpot tree chunks end)
    (us : List Piece) (p : Piece) (vs : List Piece) (whole : pieces_of tree.entries ≡ us ++ p ∷ vs) (some : start.offset < end.offset)
    (ahead : is_little chunks.buffers (part_of p.span 0 (start.offset - unit_count us)) ≡ true)
    (behind : is_little chunks.buffers (part_of p.span (end.offset - unit_count us) p.span.units) ≡ true) where
  first_cut : rest_before chunks.buffers start.found start.offset ≡ Some (part_of p.span 0 (start.offset - unit_count us))
  first_cut =
      let low = little_units chunks.buffers (part_of p.span 0 (start.offset - unit_count us)) ahead in
      let high = little_units chunks.buffers (part_of p.span (end.offset - unit_count us) p.span.units) behind in
      let (found, at, before, own) = found_there tree.entries us p vs start.found start.offset whole one.found (omega (arith, low)) (omega (arith, low, high, some)) in
      ap (λ a. rest_before chunks.buffers a start.offset) at ∙ little_before chunks.buffers found start.offset (unit_count us) p.span before own ahead

  last_cut : rest_behind chunks.buffers end.found end.offset ≡ Some (part_of p.span (end.offset - unit_count us) p.span.units)
  last_cut =
      let low = little_units chunks.buffers (part_of p.span 0 (start.offset - unit_count us)) ahead in
      let high = little_units chunks.buffers (part_of p.span (end.offset - unit_count us) p.span.units) behind in
      let (found, at, before, own) = found_there tree.entries us p vs end.found end.offset whole two.found (omega (arith, low, some)) (omega (arith, low, high, some)) in
      ap (λ a. rest_behind chunks.buffers a end.offset) at
      ∙ little_behind chunks.buffers found end.offset (unit_count us) p.span before own (λ e. omega (arith, e, low, some)) behind

  pub both_cut : (n : ℕ) → rests_of chunks.buffers start end n
      ≡ record { front = Some (part_of p.span 0 (start.offset - unit_count us)); back = Some (part_of p.span (end.offset - unit_count us) p.span.units) }
  both_cut n =
      rests_both chunks.buffers start end n (part_of p.span 0 (start.offset - unit_count us)) (part_of p.span (end.offset - unit_count us) p.span.units) first_cut last_cut
      (λ e. omega (arith, e, some))

  pub first_length : length (units_at chunks.buffers (part_of p.span 0 (start.offset - unit_count us))) ≡ start.offset - unit_count us
  first_length =
      let fits = front_fits tree chunks is start one (spot_within tree chunks start.found start.offset is one.found) (part_of p.span 0 (start.offset - unit_count us)) first_cut in
      omega (arith, length-units_at chunks.buffers (part_of p.span 0 (start.offset - unit_count us)) fits.0)

  pub last_length : length (units_at chunks.buffers (part_of p.span (end.offset - unit_count us) p.span.units)) ≡ p.span.units - (end.offset - unit_count us)
  last_length =
      let fits = back_fits tree chunks is end two (spot_within tree chunks end.found end.offset is two.found) (part_of p.span (end.offset - unit_count us) p.span.units) last_cut in
      length-units_at chunks.buffers (part_of p.span (end.offset - unit_count us) p.span.units) fits.0
