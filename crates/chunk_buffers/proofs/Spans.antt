-- Spans of buffers that grow.
use Rattle.std.proofs.Common.{◌≡◌, ℕ, ◌+◌, ◌-◌, ◌<◌, ◌≤◌, Bool, true, false, cond, Option, Some, List, [], ◌∷◌, ◌++◌, length, take, drop, set, get_or, map, refl, ap, sym, subst, ◌∙◌, inl, inr, append_assoc, arith}
use Rattle.std.proofs.lemmas.Bool.{cases_eq}
use Rattle.std.proofs.lemmas.List.{length-append, length-map, map-set, get_or-map, length-set, length-take, length-take-le, length-drop, drop-drop, length_push, take_all, take_at, take-take, drop_at, drop-take, get_or-set_same, get_or-set_other, get_or_append_left, get_or_default, get_or_push, map-append}
use Rattle.std.proofs.lemmas.List.Elements.{All-weaker, All-pop}
use Rattle.std.proofs.lemmas.List.Sums.{sum_by-set, sum_by_push}
use Rattle.std.specs.List.{All}
use Rattle.std.proofs.Math.Seq.{map-set_same}
use Rattle.text_rules.specs.Breaks.{joins_pair}
use Rattle.chunk_buffers.specs.Buffer.{most_units, Filled, padding, padded}
use Rattle.chunk_buffers.specs.declared.span.ChunkSpan.{ChunkSpan}
use Rattle.chunk_buffers.specs.Chunks.{most_buffers, buffer_at, units_at, LiesIn, Extends, EndsLast, unit_count, at_most_64_bits, part_of, last_buffer, IsReady, AreChunks}

module _ (front whole : List ℕ) (is_front : take (length front) whole ≡ front) where
  front_le : length front ≤ length whole
  front_le = omega (arith, ap length is_front, length-take (length front) whole)

  front_part : (start units : ℕ) → start + units ≤ length front → take units (drop start whole) ≡ take units (drop start front)
  front_part start units within =
      let rest : start + (length front - start) ≡ length front = omega arith in
      sym (ap (λ x. take units (drop start x)) (sym is_front)
      ∙ ap (λ n. take units (drop start (take n whole))) (sym rest)
      ∙ ap (take units) (drop-take start (length front - start) whole)
      ∙ take-take units (length front - start) (drop start whole) (omega arith))

pub Extends-refl : (bs : List (List ℕ)) → Extends bs bs
Extends-refl bs = record { count = omega arith; fronts = λ k inside. take_all _ _ (omega arith) }

pub Extends-trans : (old mid new : List (List ℕ)) → Extends old mid → Extends mid new → Extends old new
Extends-trans old mid new a b = record {
  count = omega arith;
  fronts = λ k inside.
      let in_mid : k < length mid = omega arith in
      sym (take-take (length (buffer_at old k)) (length (buffer_at mid k)) (buffer_at new k) (front_le _ _ (a.fronts k inside)))
      ∙ ap (take (length (buffer_at old k))) (b.fronts k in_mid) ∙ a.fronts k inside;
}

pub Extends-push : (bs : List (List ℕ)) (b : List ℕ) → Extends bs (bs ++ b ∷ [])
Extends-push bs b = record {
  count = omega (arith, length_push bs b);
  fronts = λ k inside. ap (take (length (buffer_at bs k))) (get_or_append_left bs (b ∷ []) [] k inside) ∙ take_all _ _ (omega arith);
}

pub LiesIn-extended : (old new : List (List ℕ)) (span : ChunkSpan) → Extends old new → LiesIn old span → LiesIn new span
LiesIn-extended old new span grown lies = record {
  buffer = omega arith;
  few = lies.few;
  end = omega (arith, front_le _ _ (grown.fronts span.buffer lies.buffer));
  fits = lies.fits;
}

-- the units of a span never change
pub units_at-extended : (old new : List (List ℕ)) (span : ChunkSpan) → Extends old new → LiesIn old span → units_at new span ≡ units_at old span
units_at-extended old new span grown lies = front_part _ _ (grown.fronts span.buffer lies.buffer) span.start span.units lies.end

-- the units of a part of a span are a part of its units
pub units_at-part : (bs : List (List ℕ)) (span : ChunkSpan) (from to : ℕ) → from ≤ to → to ≤ span.units → LiesIn bs span
    → units_at bs (part_of span from to) ≡ take (to - from) (drop from (units_at bs span))
units_at-part bs span from to ordered within lies =
    let rest = drop span.start (buffer_at bs span.buffer) in
    let enough : span.units ≤ length rest = omega (arith, length-drop span.start (buffer_at bs span.buffer)) in
    let size = length-take-le span.units rest enough in
    let is_front : take (length (units_at bs span)) rest ≡ units_at bs span = ap (λ n. take n rest) size in
    ap (take (to - from)) (sym (drop-drop from span.start (buffer_at bs span.buffer)))
    ∙ front_part (units_at bs span) rest is_front from (to - from) (omega (arith, size))

padded_front : (buffer text : List ℕ) (b : Bool) → take (length buffer) (cond b (buffer ++ padding ∷ []) buffer ++ text) ≡ buffer
padded_front buffer text true = ap (take (length buffer)) (append_assoc buffer (padding ∷ []) text) ∙ take_at buffer (padding ∷ [] ++ text) (length buffer) refl
padded_front buffer text false = take_at buffer text (length buffer) refl

padded_count : (buffer : List ℕ) (b : Bool) → length (cond b (buffer ++ padding ∷ []) buffer) ≤ length buffer + 1
padded_count buffer true = omega (arith, length_push buffer padding)
padded_count buffer false = omega arith

padded_least : (buffer : List ℕ) (b : Bool) → length buffer ≤ length (cond b (buffer ++ padding ∷ []) buffer)
padded_least buffer true = omega (arith, length_push buffer padding)
padded_least buffer false = omega arith

-- a buffer that is appended to has no fewer units
pub appended_least : (buffer text new : List ℕ) → new ≡ padded buffer text ++ text → length buffer ≤ length new
appended_least buffer text new is =
    omega (arith, ap length is, length-append (padded buffer text) text, padded_least buffer (joins_pair buffer text))

module _ (bs : List (List ℕ)) (number start units : ℕ) (text new : List ℕ) (inside : number < length bs)
    (new_is : new ≡ padded (buffer_at bs number) text ++ text) (start_is : start ≡ length (padded (buffer_at bs number) text)) (units_is : units ≡ length text) where
  abbrev appended : ChunkSpan
  appended = record { buffer = number; start = start; units = units }

  there : buffer_at (set bs number new) number ≡ padded (buffer_at bs number) text ++ text
  there = get_or-set_same bs number new [] inside ∙ new_is

  pub appended_shown : units_at (set bs number new) appended ≡ text
  appended_shown =
      ap (λ b. take units (drop start b)) there
      ∙ ap (take units) (drop_at (padded (buffer_at bs number) text) text start (sym start_is))
      ∙ take_all units text (omega arith)

  pub appended_inside : number < most_buffers → start + units ≤ most_units → LiesIn (set bs number new) appended
  appended_inside few fits = record {
    buffer = omega (arith, length-set bs number new);
    few = few;
    end = omega (arith, ap length there, length-append (padded (buffer_at bs number) text) text);
    fits = fits;
  }

  pub appended_grown : Extends bs (set bs number new)
  appended_grown = record {
    count = omega (arith, length-set bs number new);
    fronts = λ k within. elim (cases_eq k number) [
      | inl same ↦ subst (λ (j : ℕ). take (length (buffer_at bs j)) (buffer_at (set bs number new) j) ≡ buffer_at bs j) (sym same)
          (ap (take (length (buffer_at bs number))) there ∙ padded_front (buffer_at bs number) text (joins_pair (buffer_at bs number) text))
      | inr other ↦ ap (take (length (buffer_at bs k))) (get_or-set_other bs number k new [] other) ∙ take_all _ _ (omega arith)
    ];
  }

  pub appended_count : unit_count (set bs number new) ≤ unit_count bs + length text + 1
  appended_count =
      omega (
        arith,
        sum_by-set length bs number new [] inside,
        ap length new_is,
        length-append (padded (buffer_at bs number) text) text,
        padded_count (buffer_at bs number) (joins_pair (buffer_at bs number) text),
      )

  -- the exact growth of the units of all buffers
  pub appended_total : unit_count (set bs number new) + length (buffer_at bs number) ≡ unit_count bs + length new
  appended_total = omega (arith, sum_by-set length bs number new [] inside)

  pub appended_last : number + 1 ≡ length bs → EndsLast bs (set bs number new) appended text
  appended_last last = record {
    count = length-set bs number new;
    last = last;
    start = start_is;
    end = omega (arith, ap length there, length-append (padded (buffer_at bs number) text) text, start_is, units_is);
  }

-- the result of appending to the last buffer
pub record IsAppended (old new : List (List ℕ)) (span : ChunkSpan) (text : List ℕ) : Type 0 where
  pub shown : units_at new span ≡ text
  pub inside : LiesIn new span
  pub grown : Extends old new
  pub few : unit_count new ≤ unit_count old + length text + 1
  pub last : EndsLast old new span text

pub IsAppended-at : (items : List Filled) (number : ℕ) (old new : Filled) (start units : ℕ) (text : List ℕ) → number + 1 ≡ length items
    → old ≡ get_or items number old → new.units ≡ padded old.units text ++ text → start ≡ length (padded old.units text) → units ≡ length text
    → length items ≤ most_buffers → start + length text ≤ most_units
    → IsAppended (map (λ b. b.units) items) (map (λ b. b.units) (set items number new)) (record { buffer = number; start = start; units = units }) text
IsAppended-at items number old new start units text last old_is new_is start_is units_is few fits =
    let inside : number < length items = omega (arith, last) in
    let bs : List (List ℕ) = map (λ b. b.units) items in
    let here : buffer_at bs number ≡ old.units = get_or-map (λ (b : Filled). b.units) items number old [] inside ∙ ap (λ (b : Filled). b.units) (sym old_is) in
    let within : number < length bs = omega (arith, length-map items (λ (b : Filled). b.units)) in
    let new_units : new.units ≡ padded (buffer_at bs number) text ++ text = new_is ∙ ap (λ b. padded b text ++ text) (sym here) in
    let place : start ≡ length (padded (buffer_at bs number) text) = start_is ∙ ap (λ b. length (padded b text)) (sym here) in
    rw (map-set (λ (b : Filled). b.units) items number new)
    (record {
      shown = appended_shown bs number start units text new.units within new_units place units_is;
      inside = appended_inside bs number start units text new.units within new_units place units_is (omega (arith, last, few)) (omega arith);
      grown = appended_grown bs number start units text new.units within new_units place units_is;
      few = appended_count bs number start units text new.units within new_units place units_is;
      last = appended_last bs number start units text new.units within new_units place units_is (omega (arith, last, length-map items (λ (b : Filled). b.units)));
    })

pub last_buffer_some : (items : List Filled) → 0 < (last_buffer items).room → 0 < length items
last_buffer_some [] h = absurd (omega arith)
last_buffer_some (b ∷ items) h = omega arith

-- replacing a buffer by one with the same units leaves the units of all buffers unchanged
pub same_units : (items : List Filled) (number : ℕ) (old new : Filled) → old ≡ get_or items number old → new.units ≡ old.units
    → map (λ b. b.units) (set items number new) ≡ map (λ b. b.units) items
same_units items number old new old_is units_are =
    map-set_same (λ (b : Filled). b.units) items number new old (units_are ∙ ap (λ (b : Filled). b.units) old_is)

pub last_set : (items : List Filled) (number : ℕ) (new : Filled) → number + 1 ≡ length items → last_buffer (set items number new) ≡ new
last_set items number new last =
    let there : length (set items number new) - 1 ≡ number = omega (arith, length-set items number new, last) in
    ap (λ n. get_or (set items number new) n (record { units = []; room = 0; break_room = 0 })) there
    ∙ get_or-set_same items number new (record { units = []; room = 0; break_room = 0 }) (omega (arith, last))

pub last_is : (items : List Filled) (number : ℕ) (old : Filled) → number + 1 ≡ length items → old ≡ get_or items number old → last_buffer items ≡ old
last_is items number old last old_is =
    let there : length items - 1 ≡ number = omega (arith, last) in
    ap (λ n. get_or items n (record { units = []; room = 0; break_room = 0 })) there
    ∙ get_or_default items number (record { units = []; room = 0; break_room = 0 }) old (omega (arith, last)) ∙ sym old_is

-- a ready buffer has room for fewer breaks too
pub AreReady-fewer : (ready : List Filled) (breaks fewer : ℕ) → fewer ≤ breaks → All (IsReady breaks) ready → All (IsReady fewer) ready
AreReady-fewer ready breaks fewer least = All-weaker (IsReady breaks) (IsReady fewer) (λ b is. record { empty = is.empty; room = is.room; breaks = omega (arith, is.breaks) }) ready

-- the last buffer is replaced by one with the same units that has room for `breaks` breaks, as the ready ones have
pub AreChunks-set : (items ready : List Filled) (number : ℕ) (old new : Filled) (units spare breaks more : ℕ) → AreChunks items ready units spare more
    → number + 1 ≡ length items → old ≡ get_or items number old → new.units ≡ old.units → breaks ≤ new.break_room → All (IsReady breaks) ready
    → AreChunks (set items number new) ready units breaks more
AreChunks-set items ready number old new units spare breaks more are last old_is units_are enough full = record {
  breaks = omega (arith, enough, ap (λ b. b.break_room) (last_set items number new last));
  full = full;
  few = omega (arith, are.few, length-set items number new);
  place = are.place;
  total = are.total ∙ ap (λ bs. at_most_64_bits (unit_count bs)) (sym (same_units items number old new old_is units_are));
}

pub last_push : (items : List Filled) (b : Filled) → last_buffer (items ++ b ∷ []) ≡ b
last_push items b = get_or_push items b _ (length (items ++ b ∷ []) - 1) (omega (arith, length_push items b))

-- the one of the ready buffers that is begun
pub last_begun : (ready left : List Filled) (b : Filled) (spare : ℕ) → All (IsReady spare) ready → ready ≡ left ++ b ∷ [] → IsReady spare b
last_begun ready left b spare full is = (All-pop (IsReady spare) ready left (Some b) is full).1

pub units_begun : (items : List Filled) (b : Filled) → b.units ≡ [] → map (λ b. b.units) (items ++ b ∷ []) ≡ map (λ b. b.units) items ++ [] ∷ []
units_begun items b empty = map-append (λ (b : Filled). b.units) items (b ∷ []) ∙ ap (λ u. map (λ (b : Filled). b.units) items ++ u ∷ []) empty

-- the last of the ready buffers becomes the last buffer
pub AreChunks-begun : (items ready left new : List Filled) (b : Filled) (units spare more places : ℕ) → AreChunks items ready units spare more
    → ready ≡ left ++ b ∷ [] → new ≡ items ++ b ∷ [] → more ≤ places + 1 → AreChunks new left units spare places
AreChunks-begun items ready left new b units spare more places are is new_is enough =
    let begun = last_begun ready left b spare are.full is in
    let long = ap length is ∙ length_push left b in record {
      breaks = omega (arith, begun.breaks, ap (λ bs. (last_buffer bs).break_room) new_is, ap (λ b. b.break_room) (last_push items b));
      full = (All-pop (IsReady spare) ready left (Some b) is are.full).0;
      few = omega (arith, are.few, long, ap length new_is, length_push items b);
      place = omega (arith, are.place, long);
      total = are.total ∙ ap at_most_64_bits (let e : unit_count (map (λ (b : Filled). b.units) items) ≡ unit_count (map (λ (b : Filled). b.units) (items ++ b ∷ [])) =
          omega (arith, ap unit_count (units_begun items b begun.empty), sum_by_push length (map (λ (b : Filled). b.units) items) []) in e)
          ∙ ap (λ bs. at_most_64_bits (unit_count (map (λ (b : Filled). b.units) bs))) (sym new_is);
    }

counted_on : (a more : ℕ) → at_most_64_bits (at_most_64_bits a + more) ≡ at_most_64_bits (a + more)
counted_on a more = omega arith

-- `more` units were appended to the last buffer, which has room for `breaks` breaks
pub AreChunks-appended : (items ready : List Filled) (number : ℕ) (old new : Filled) (units more total spare breaks places : ℕ)
    → AreChunks items ready units spare places → number + 1 ≡ length items → old ≡ get_or items number old → length old.units + more ≡ length new.units
    → total ≡ at_most_64_bits (units + more) → breaks ≤ new.break_room → breaks ≤ spare → AreChunks (set items number new) ready total breaks places
AreChunks-appended items ready number old new units more total spare breaks places are last old_is grown total_is enough fewer =
    let inside : number < length items = omega (arith, last) in
    let bs : List (List ℕ) = map (λ b. b.units) items in
    let here : buffer_at bs number ≡ old.units = get_or-map (λ (b : Filled). b.units) items number old [] inside ∙ ap (λ (b : Filled). b.units) (sym old_is) in
    let within : number < length bs = omega (arith, length-map items (λ (b : Filled). b.units)) in
    let count : unit_count (set bs number new.units) ≡ unit_count bs + more =
    omega (arith, sum_by-set length bs number new.units [] within, ap length here, grown) in record {
      breaks = omega (arith, enough, ap (λ b. b.break_room) (last_set items number new last));
      full = AreReady-fewer ready spare breaks fewer are.full;
      few = omega (arith, are.few, length-set items number new);
      place = are.place;
      total = total_is ∙ ap (λ n. at_most_64_bits (n + more)) are.total ∙ counted_on (unit_count bs) more ∙ ap at_most_64_bits (sym count)
          ∙ ap (λ ls. at_most_64_bits (unit_count ls)) (sym (map-set (λ (b : Filled). b.units) items number new));
    }
