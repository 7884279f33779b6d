-- The places of a text's brackets are small numbers: their lines and columns are at most as many as the text has units.
use Rattle.std.proofs.Common.{◌≡◌, ℕ, zero, suc, ◌+◌, ◌≤◌, ◌==◌, Bool, cond, true, false, ◌&&◌, ◌||◌, if◌then◌else◌, Option, Some, None, List, [], ◌∷◌, ◌++◌, length, map, drop, replicate, refl, subst, arith}
use Rattle.std.specs.Prelude.{⊤}
use Rattle.std.specs.List.{All}
use Rattle.std.proofs.lemmas.List.{length-map}
use Rattle.std.proofs.lemmas.List.Elements.{All-nil, All-cons, All-filter}
use Rattle.text_lengths.specs.declared.Length.{Length}
use Rattle.text_lengths.specs.Length.{no_length}
use Rattle.text_rules.specs.Lines.{Line, lines_of, line_feed, carriage_return, begins_with, in_first_line, in_first_break}
use Rattle.batch_rules.specs.Batches.{most_units}
use Rattle.bracket_rules.specs.declared.Entry.{Entry}
use Rattle.bracket_rules.specs.declared.Token.{Token}
use Rattle.bracket_rules.specs.Table.{is_table, AreInLine}
use Rattle.bracket_rules.specs.Parse.{Bracket, Spot, Judged, Event, opens, too_deep, closes, unexpected, event, stack_after, judged_opening, spot_at, first_closer, Story, told, parse, bracket_story, entries_of, bracket_entries, is_between, entries_between, same_place, partner_at, bracket_partner}
use Rattle.bracket_rules.specs.Rows.{next_line, brackets_at, placed}
use Rattle.hiding_rules.specs.declared.LineState.{LineState}
use Rattle.hiding_rules.specs.Hidden.{Scanner, hidden_scan}
use Rattle.hiding_rules.specs.States.{line_states}
use Rattle.hiding_rules.specs.Rows.{lines_by, broken, hidden_brackets}
use Rattle.hiding_rules.proofs.InLine.{hidden_tokens_in_line}
use Rattle.document_rules.specs.Brackets.{line_contents, IsSmall}

-- ---- contents of lines

-- each of the lists has at most n units
abbrev AreShort : ℕ → List (List ℕ) → Type 0
AreShort n [] = ⊤
AreShort n (x ∷ xs) = (length x ≤ n) × AreShort n xs

-- the lines of a text of n units: at most n + 1 lines, each with at most n units
record AreFew (n : ℕ) (lines : List Line) : Type 0 where
  pub count : length lines ≤ suc n
  pub short : AreShort n (map (λ line. line.content) lines)

AreShort-more : (n : ℕ) (xs : List (List ℕ)) → AreShort n xs → AreShort (suc n) xs
AreShort-more n [] h = tt
AreShort-more n (x ∷ xs) h = let first : length x ≤ n = h.0 in (omega arith, AreShort-more n xs h.1)

AreFew-step : (n u : ℕ) (joins breaks : Bool) (lines : List Line) → AreFew n lines
    → AreFew (suc n) (if joins then in_first_break u lines else (if breaks then record { content = []; break = u ∷ [] } ∷ lines else in_first_line u lines))
AreFew-step n u true breaks [] h = record { count = omega arith; short = tt }
AreFew-step n u true breaks (l ∷ ls) h =
    let count : length (l ∷ ls) ≤ suc n = h.count in
    record { count = omega arith; short = AreShort-more n (map (λ line. line.content) (l ∷ ls)) h.short }
AreFew-step n u false true lines h =
    let count : length lines ≤ suc n = h.count in
    record { count = omega arith; short = (omega arith, AreShort-more n (map (λ line. line.content) lines) h.short) }
AreFew-step n u false false [] h = record { count = omega arith; short = tt }
AreFew-step n u false false (l ∷ ls) h =
    let count : length (l ∷ ls) ≤ suc n = h.count in
    let first : length l.content ≤ n = h.short.0 in
    record { count = omega arith; short = (omega arith, AreShort-more n (map (λ line. line.content) ls) h.short.1) }

lines_few : (x : List ℕ) → AreFew (length x) (lines_of x)
lines_few [] = record { count = omega arith; short = (omega arith, tt) }
lines_few (u ∷ after) =
    AreFew-step (length after) u (u == carriage_return && begins_with line_feed after) (u == carriage_return || u == line_feed) (lines_of after) (lines_few after)

-- ---- a property of the place of each bracket

start_within : (column columns : ℕ) (ts : List Token) → AreInLine column columns ts → column ≤ columns
start_within column columns [] h = h
start_within column columns (t ∷ ts) h =
    let first : column ≤ t.at = h.0 in
    let rest = start_within (t.at + t.len) columns ts h.3 in
    omega arith

module _ (P : Length → Type 0) where
  abbrev Stand : List Bracket → Type 0
  Stand [] = ⊤
  Stand (b ∷ bs) = P b.place × Stand bs

  abbrev Holds : Option Spot → Type 0
  Holds None = ⊤
  Holds (Some s) = P s.place

  abbrev Close : List (Option Spot) → Type 0
  Close [] = ⊤
  Close (c ∷ cs) = Holds c × Close cs

  abbrev Tell : List Judged → Type 0
  Tell [] = ⊤
  Tell (j ∷ js) = P j.entry.place × Holds j.partner × Tell js

  record Keeps (s : Story) : Type 0 where
    pub closers : Close s.closers
    pub entries : Tell s.entries

  Stand-append : (bs cs : List Bracket) → Stand bs → Stand cs → Stand (bs ++ cs)
  Stand-append [] cs h k = k
  Stand-append (b ∷ bs) cs h k = (h.0, Stand-append bs cs h.1 k)

  Stand-drop : (n : ℕ) (bs : List Bracket) → Stand bs → Stand (drop n bs)
  Stand-drop zero bs h = h
  Stand-drop (suc n) [] h = tt
  Stand-drop (suc n) (b ∷ bs) h = Stand-drop n bs h.1

  Holds-spot_at : (n : ℕ) (bs : List Bracket) → Stand bs → Holds (spot_at n bs)
  Holds-spot_at n [] h = tt
  Holds-spot_at zero (b ∷ bs) h = h.0
  Holds-spot_at (suc n) (b ∷ bs) h = Holds-spot_at n bs h.1

  Holds-first_closer : (cs : List (Option Spot)) → Close cs → Holds (first_closer cs)
  Holds-first_closer [] h = tt
  Holds-first_closer (c ∷ cs) h = h.0

  Close-drop : (cs : List (Option Spot)) → Close cs → Close (drop 1 cs)
  Close-drop [] h = tt
  Close-drop (c ∷ cs) h = h.1

  Close-none : (n : ℕ) → Close (replicate n None)
  Close-none zero = tt
  Close-none (suc n) = (tt, Close-none n)

  Close-after_none : (n : ℕ) (cs : List (Option Spot)) → Close cs → Close (replicate n None ++ cs)
  Close-after_none zero cs h = h
  Close-after_none (suc n) cs h = (tt, Close-after_none n cs h)

  -- ---- ... so through the parse

  Stand-stack_after : (stack : List Bracket) (b : Bracket) (e : Event) → Stand stack → P b.place → Stand (stack_after stack b e)
  Stand-stack_after stack b opens h k = (k, h)
  Stand-stack_after stack b too_deep h k = h
  Stand-stack_after stack b (closes depth) h k = Stand-drop (suc depth) stack h
  Stand-stack_after stack b unexpected h k = h

  Tell-opening : (b : Bracket) (level : ℕ) (closer : Option Spot) (js : List Judged) → P b.place → Holds closer → Tell js → Tell (judged_opening b level closer ∷ js)
  Tell-opening b level None js h k rest = (h, tt, rest)
  Tell-opening b level (Some s) js h k rest = (h, k, rest)

  Keeps-told : (stack : List Bracket) (b : Bracket) (e : Event) (s : Story) → Stand stack → P b.place → Keeps s → Keeps (told stack b e s)
  Keeps-told stack b opens s h k rest = record {
    closers = Close-drop s.closers rest.closers;
    entries = Tell-opening b (length stack) (first_closer s.closers) s.entries k (Holds-first_closer s.closers rest.closers) rest.entries;
  }
  Keeps-told stack b too_deep s h k rest = rest
  Keeps-told stack b (closes depth) s h k rest = record {
    closers = Close-after_none depth _ (k, rest.closers);
    entries = (k, Holds-spot_at depth stack h, rest.entries);
  }
  Keeps-told stack b unexpected s h k rest = record { closers = rest.closers; entries = (k, tt, rest.entries) }

  Keeps-parse : (stack brackets : List Bracket) → Stand stack → Stand brackets → Keeps (parse stack brackets)
  Keeps-parse stack [] h k = record { closers = Close-none (length stack); entries = tt }
  Keeps-parse stack (b ∷ rest) h k =
      Keeps-told stack b (event stack b) (parse (stack_after stack b (event stack b)) rest) h k.0
      (Keeps-parse (stack_after stack b (event stack b)) rest (Stand-stack_after stack b (event stack b) h k.0) k.1)

  All-entries_of : (js : List Judged) → Tell js → All (λ (e : Entry). P e.place) (entries_of js)
  All-entries_of [] h = All-nil (λ (e : Entry). P e.place)
  All-entries_of (j ∷ js) h = All-cons (λ (e : Entry). P e.place) j.entry (entries_of js) h.0 (All-entries_of js h.2)

  Holds-partner_at : (p : Length) (js : List Judged) → Tell js → Holds (partner_at p js)
  Holds-partner_at p [] h = tt
  Holds-partner_at p (j ∷ js) h =
      elim (same_place j.entry.place p) as (λ b. Holds (cond b j.partner (partner_at p js))) [ true ↦ h.1 | false ↦ Holds-partner_at p js h.2 ]

  -- ---- ... and of the brackets of a text, by the numbers of its lines and columns

  module _ (most : ℕ) (within : (place : Length) → place.lines ≤ most → place.columns ≤ most → P place) where
    Stand-brackets_at : (p : Length) (column columns : ℕ) (ts : List Token) → p.lines ≤ most → p.columns ≡ 0 → columns ≤ most
        → AreInLine column columns ts → Stand (brackets_at p ts)
    Stand-brackets_at p column columns [] h e k in_line = tt
    Stand-brackets_at p column columns (t ∷ ts) h e k in_line =
        let last = start_within (t.at + t.len) columns ts in_line.3 in
        (within _ h (omega arith), Stand-brackets_at p (t.at + t.len) columns ts h e k in_line.3)

    Stand-line : (by : Scanner) (state : LineState) (p : Length) (x : List ℕ) → is_table by.table ≡ true → p.lines ≤ most → p.columns ≡ 0 → length x ≤ most
        → Stand (brackets_at p (hidden_scan by state x).tokens)
    Stand-line by state p x h k e short =
        Stand-brackets_at p 0 (length x) (hidden_scan by state x).tokens k e short (hidden_tokens_in_line by h state x)

    Stand-placed : (by : Scanner) (states : List LineState) (p : Length) (contents : List (List ℕ)) → is_table by.table ≡ true → p.columns ≡ 0
        → p.lines + length contents ≤ suc most → AreShort most contents → Stand (placed p (broken (lines_by by states contents)))
    Stand-placed by [] p contents h e few short = tt
    Stand-placed by (s ∷ states) p [] h e few short = tt
    Stand-placed by (s ∷ []) p (x ∷ contents) h e few short =
        Stand-append (brackets_at p (hidden_scan by s x).tokens) [] (Stand-line by s p x h (omega arith) e short.0) tt
    Stand-placed by (s ∷ t ∷ states) p (x ∷ []) h e few short =
        Stand-append (brackets_at p (hidden_scan by s x).tokens) [] (Stand-line by s p x h (omega arith) e short.0) tt
    Stand-placed by (s ∷ t ∷ states) p (x ∷ y ∷ contents) h e few short =
        Stand-append (brackets_at p (hidden_scan by s x).tokens) (placed (next_line p) (broken (lines_by by (t ∷ states) (y ∷ contents))))
        (Stand-line by s p x h (omega arith) e short.0)
        (Stand-placed by (t ∷ states) (next_line p) (y ∷ contents) h refl (omega arith) short.1)

-- ---- the places of a text's brackets

IsSmall-within : (units : ℕ) → units ≤ most_units → (place : Length) → place.lines ≤ units → place.columns ≤ units → IsSmall place
IsSmall-within units h place lines columns = record { lines = omega arith; columns = omega arith }

story_small : (by : Scanner) (x : List ℕ) → is_table by.table ≡ true → length x ≤ most_units → Tell IsSmall (bracket_story (hidden_brackets by (line_contents x)))
story_small by x h k =
    let few = lines_few x in
    let count : length (lines_of x) ≤ suc (length x) = few.count in
    let contents : no_length.lines + length (line_contents x) ≤ suc (length x) = omega (arith, length-map (lines_of x) (λ line. line.content)) in
    let brackets = Stand-placed IsSmall (length x) (IsSmall-within (length x) k) by (line_states by (line_contents x)) no_length (line_contents x) h refl contents few.short in
    (Keeps-parse IsSmall [] (hidden_brackets by (line_contents x)) tt brackets).entries

pub entries_small : (by : Scanner) (x : List ℕ) → is_table by.table ≡ true → length x ≤ most_units → (from to : ℕ)
    → All (λ (e : Entry). IsSmall e.place) (entries_between from to (bracket_entries (hidden_brackets by (line_contents x))))
entries_small by x h k from to =
    let brackets : List Bracket = hidden_brackets by (line_contents x) in
    All-filter (is_between from to) (λ (e : Entry). IsSmall e.place) (bracket_entries brackets)
    (All-entries_of IsSmall (bracket_story brackets) (story_small by x h k))

pub partner_small : (by : Scanner) (x : List ℕ) → is_table by.table ≡ true → length x ≤ most_units → (p : Length) (s : Spot)
    → bracket_partner (hidden_brackets by (line_contents x)) p ≡ Some s → IsSmall s.place
partner_small by x h k p s e =
    subst (Holds IsSmall) e (Holds-partner_at IsSmall p (bracket_story (hidden_brackets by (line_contents x))) (story_small by x h k))
