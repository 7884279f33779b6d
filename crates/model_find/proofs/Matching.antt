-- The match at the end of a text after each unit, and offsets at which the sought units do not occur.
use Rattle.std.proofs.Common.{◌≡◌, ℕ, zero, suc, ◌+◌, ◌-◌, ◌<◌, ◌≤◌, ◌==◌, ltb, leb, ◌&&◌, ◌||◌, not, Bool, true, false, List, [], ◌∷◌, ◌++◌, length, take, drop, get_or, refl, ap, sym, subst, ◌∙◌, inl, inr, arith}
use Rattle.std.specs.Int.{from_bool}
use Rattle.std.specs.Char.Utf16.{is_high_surrogate, is_low_surrogate}
use Rattle.std.proofs.lemmas.Bool.{true≢false, lt-ltb, le-leb, eq-eqb, eqb-true, and_parts, and_from, and_right, or_left, or_right, not-true, not_from_false, false_from_ne_true, cond-false, cases_Bool, cases_lt, cases_eq}
use Rattle.std.proofs.lemmas.Bool.Decides.{Decides-eqb}
use Rattle.std.proofs.lemmas.List.{get_or-drop, get_or-take, append_assoc, append-nil, get_or_past, length-append, length-drop, length-take, drop-drop, drop_at, take_at, take-take, take_all, get_or_append_left, get_or_push}
use Rattle.std.proofs.lemmas.List.Prefix.{front_reads, front_from_reads}
use Rattle.std.proofs.lemmas.Slice.Eq.{starts_is}
use Rattle.text_lengths.specs.declared.Span.{Span}
use Rattle.unit_text.specs.declared.kind.Kind.{Kind}
use Rattle.unit_text.specs.declared.kind.Kind.TheVariants.{Mixed, Lf, Crlf}
use Rattle.unit_text.specs.Kinds.{cuts_in, cuts_ending}
use Rattle.unit_text.specs.Units.{cuts_pair}
use Rattle.unit_text.specs.Endings.{line_feed, carriage_return}
use Rattle.search_rules.specs.Occurrences.{stands_at, span_at, occurrences_after}
use Rattle.search_rules.proofs.Walking.{places_of, found_after, none_between, none_after}
use Rattle.model_find.specs.Matching.{EndsWith, IsLongest, AreBorders, HasRead, IsRunAt, unit_before, may_begin}

-- ---- between two units

-- the two units beside a place decide whether it is one
pub cuts_same : (kind : Kind) (x y : List ℕ) (i j : ℕ) → 0 < i → 0 < j → get_or x (i - 1) 0 ≡ get_or y (j - 1) 0 → get_or x i 0 ≡ get_or y j 0
    → cuts_in kind x i ≡ cuts_in kind y j
cuts_same kind x y i j some_i some_j before unit = same kind
  where
    inside : ltb 0 i ≡ ltb 0 j
    inside = lt-ltb 0 i some_i ∙ sym (lt-ltb 0 j some_j)

    pair : cuts_pair x i ≡ cuts_pair y j
    pair = λ k. inside k && is_high_surrogate (before k) && is_low_surrogate (unit k)

    ending : cuts_ending x i ≡ cuts_ending y j
    ending = λ k. inside k && before k == carriage_return && unit k == line_feed

    same : (kind : Kind) → cuts_in kind x i ≡ cuts_in kind y j
    same Mixed = pair
    same Lf = pair
    same Crlf = λ k. ending k || pair k

never_first : (kind : Kind) (x : List ℕ) → cuts_in kind x 0 ≡ false
never_first Mixed x = refl
never_first Lf x = refl
never_first Crlf x = refl

never_after_none : (kind : Kind) (unit : ℕ) → cuts_in kind (0 ∷ unit ∷ []) 1 ≡ false
never_after_none Mixed unit = refl
never_after_none Lf unit = refl
never_after_none Crlf unit = refl

pub unit_after : (x : List ℕ) (at : ℕ) → 0 < at → unit_before x at ≡ get_or x (at - 1) 0
unit_after x at some = cond-false (at == 0) 0 (get_or x (at - 1) 0) (false_from_ne_true (at == 0) (λ none. absurd (omega (arith, eqb-true at 0 none))))

pub cuts_between : (kind : Kind) (x : List ℕ) (at before unit : ℕ) → before ≡ unit_before x at → unit ≡ get_or x at 0
    → cuts_in kind (before ∷ unit ∷ []) 1 ≡ cuts_in kind x at
cuts_between kind x zero before unit last next =
    ap (λ (b : ℕ). cuts_in kind (b ∷ unit ∷ []) 1) last ∙ never_after_none kind unit ∙ sym (never_first kind x)
cuts_between kind x (suc at) before unit last next =
    cuts_same kind (before ∷ unit ∷ []) x 1 (suc at) (omega arith) (omega arith) (last ∙ unit_after x (suc at) (omega arith)) next

pub never_last : (kind : Kind) (x : List ℕ) → cuts_in kind x (length x) ≡ false
never_last kind x = none kind
  where
    no_low : is_low_surrogate (get_or x (length x) 0) ≡ false
    no_low = ap is_low_surrogate (get_or_past x (length x) 0 (omega arith))

    no_feed : (get_or x (length x) 0 == line_feed) ≡ false
    no_feed = ap (λ (u : ℕ). u == line_feed) (get_or_past x (length x) 0 (omega arith))

    pair : cuts_pair x (length x) ≡ false
    pair = and_right _ _ no_low

    ending : cuts_ending x (length x) ≡ false
    ending = and_right _ _ no_feed

    none : (kind : Kind) → cuts_in kind x (length x) ≡ false
    none Mixed = pair
    none Lf = pair
    none Crlf = λ k. ending k || pair k

-- ---- the sought units at the end of what was read

module _ (kind : Kind) (x sought : List ℕ) where
  pub ends_none : (at : ℕ) → EndsWith kind x sought at 0
  ends_none at = record {
    few = omega arith;
    there = omega arith;
    same = λ k below. absurd (omega arith);
    begins = λ some. absurd (omega arith);
  }

  -- with one unit more
  pub one_more : (at n : ℕ) → EndsWith kind x sought at n → n < length sought → get_or x at 0 ≡ get_or sought n 0
      → (n ≡ 0 → cuts_in kind x at ≡ false) → EndsWith kind x sought (at + 1) (n + 1)
  one_more at n ends more next first = record {
    few = omega arith;
    there = omega (arith, ends.there);
    same = λ k below. elim (cases_lt k n) [
      | inl less ↦ ap (λ (i : ℕ). get_or x i 0) (omega (arith, ends.there)) ∙ ends.same k less
      | inr last ↦
          let is : k ≡ n = omega arith in
          ap (λ (i : ℕ). get_or x i 0) (omega (arith, ends.there)) ∙ next ∙ ap (λ (i : ℕ). get_or sought i 0) (sym is)
    ];
    begins = λ some. elim (cases_eq n 0) [
      | inl none ↦ ap (cuts_in kind x) (omega arith) ∙ first none
      | inr any ↦ ap (cuts_in kind x) (omega (arith, ends.there)) ∙ ends.begins (omega arith)
    ];
  }

  -- without the last of them
  pub one_less : (at n : ℕ) → EndsWith kind x sought (at + 1) (n + 1) → EndsWith kind x sought at n
  one_less at n ends = record {
    few = omega (arith, ends.few);
    there = omega (arith, ends.there);
    same = λ k below. ap (λ (i : ℕ). get_or x i 0) (omega (arith, ends.there)) ∙ ends.same k (omega arith);
    begins = λ some. ap (cuts_in kind x) (omega (arith, ends.there)) ∙ ends.begins (omega arith);
  }

  pub last_unit : (at n : ℕ) → EndsWith kind x sought (at + 1) (n + 1) → get_or x at 0 ≡ get_or sought n 0
  last_unit at n ends = ap (λ (i : ℕ). get_or x i 0) (omega (arith, ends.there)) ∙ ends.same n (omega arith)

  pub first_place : (at : ℕ) → EndsWith kind x sought (at + 1) (0 + 1) → cuts_in kind x at ≡ false
  first_place at ends = ap (cuts_in kind x) (omega arith) ∙ ends.begins (omega arith)

  -- given a match of n units: shorter prefixes at the end of these units, and of the text read
  module _ (at n less : ℕ) (ends : EndsWith kind x sought at n) (fewer : less < n) where
    same_place : 0 < less → cuts_in kind sought (n - less) ≡ cuts_in kind x (at - less)
    same_place some =
        cuts_same kind sought x (n - less) (at - less) (omega arith) (omega (arith, ends.there))
        (sym (ends.same (n - less - 1) (omega arith)) ∙ ap (λ (i : ℕ). get_or x i 0) (omega (arith, ends.there)))
        (sym (ends.same (n - less) (omega arith)) ∙ ap (λ (i : ℕ). get_or x i 0) (omega (arith, ends.there)))

    same_unit : (k : ℕ) → k < less → get_or x (at - less + k) 0 ≡ get_or sought (n - less + k) 0
    same_unit k below = ap (λ (i : ℕ). get_or x i 0) (omega (arith, ends.there)) ∙ ends.same (n - less + k) (omega arith)

    pub inner : EndsWith kind x sought at less → EndsWith kind sought sought n less
    inner part = record {
      few = part.few;
      there = omega arith;
      same = λ k below. sym (same_unit k below) ∙ part.same k below;
      begins = λ some. same_place some ∙ part.begins some;
    }

    pub outer : EndsWith kind sought sought n less → EndsWith kind x sought at less
    outer part = record {
      few = part.few;
      there = omega (arith, ends.there);
      same = λ k below. same_unit k below ∙ part.same k below;
      begins = λ some. sym (same_place some) ∙ part.begins some;
    }

  -- ---- the longest of them, after one unit more

  pub up_to_fewer : (most low at n : ℕ) → IsLongest (length sought) kind x sought low at n → most ≤ length sought → IsLongest most kind x sought low at n
  up_to_fewer most low at n longest fewer = record {
    ends = longest.ends;
    behind = longest.behind;
    longer = λ k more few there ends. longest.longer k more (omega arith) there ends;
  }

  -- the text read ends with n of the sought units, and no longer match can be extended by the unit
  pub record Falls (low at n unit : ℕ) : Type 0 where
    pub ends : EndsWith kind x sought at n
    pub behind : low + n ≤ at
    pub others : (k : ℕ) → n < k → k < length sought → low + k ≤ at → EndsWith kind x sought at k → get_or sought k 0 ≡ unit → ⊥

  pub falls_first : (low at n unit : ℕ) → IsLongest (length sought - 1) kind x sought low at n → Falls low at n unit
  falls_first low at n unit longest = record {
    ends = longest.ends;
    behind = longest.behind;
    others = λ k more few there ends next. longest.longer k more (omega arith) there ends;
  }

  pub falls_next : (low at n unit less : ℕ) → Falls low at n unit → 0 < n → (get_or sought n 0 ≡ unit → ⊥)
      → IsLongest (length sought) kind sought sought 1 n less → Falls low at less unit
  falls_next low at n unit less falls some other border =
      let fewer : less < n = omega (arith, border.behind) in
      record {
        ends = outer at n less falls.ends fewer border.ends;
        behind = omega (arith, falls.behind);
        others = λ k more few there ends next. elim (cases_lt k n) [
          | inl inside ↦ border.longer k more (omega arith) (omega arith) (inner at n k falls.ends inside ends)
          | inr beyond ↦ elim (cases_eq k n) [
            | inl same ↦ other (ap (λ (i : ℕ). get_or sought i 0) (sym same) ∙ next)
            | inr further ↦ falls.others k (omega arith) few there ends next
          ]
        ];
      }

  -- a longer match would have been found before
  none_longer : (low at n unit : ℕ) → Falls low at n unit → get_or x at 0 ≡ unit → (k : ℕ) → n < k → k + 1 ≤ length sought → low + (k + 1) ≤ at + 1
      → EndsWith kind x sought (at + 1) (k + 1) → ⊥
  none_longer low at n unit falls next k more few there ends =
      falls.others k more (omega arith) (omega arith) (one_less at k ends) (sym (last_unit at k ends) ∙ next)

  pub falls_found : (low at n unit : ℕ) → Falls low at n unit → n < length sought → get_or x at 0 ≡ unit → get_or sought n 0 ≡ unit
      → (n ≡ 0 → cuts_in kind x at ≡ false) → IsLongest (length sought) kind x sought low (at + 1) (n + 1)
  falls_found low at n unit falls few next same first = record {
    ends = one_more at n falls.ends few (next ∙ sym same) first;
    behind = omega (arith, falls.behind);
    longer = λ k more most there ends.
        let is : k ≡ k - 1 + 1 = omega arith in
        none_longer low at n unit falls next (k - 1) (omega arith) (omega arith) (omega arith)
        (subst (λ (i : ℕ). EndsWith kind x sought (at + 1) i) is ends);
  }

  pub falls_out : (low at unit : ℕ) → Falls low at 0 unit → get_or x at 0 ≡ unit → (get_or sought 0 0 ≡ unit → cuts_in kind x at ≡ false → ⊥)
      → IsLongest (length sought) kind x sought low (at + 1) 0
  falls_out low at unit falls next other = record {
    ends = ends_none (at + 1);
    behind = omega (arith, falls.behind);
    longer = λ k more most there ends.
        let is : k ≡ k - 1 + 1 = omega arith in
        let ends_so = subst (λ (i : ℕ). EndsWith kind x sought (at + 1) i) is ends in
        elim (cases_eq (k - 1) 0) [
          | inl one ↦
              let first = subst (λ (i : ℕ). EndsWith kind x sought (at + 1) (i + 1)) one ends_so in
              other (sym (last_unit at 0 first) ∙ next) (first_place at first)
          | inr several ↦
              none_longer low at 0 unit falls next (k - 1) (omega arith) (omega arith) (omega arith) ends_so
        ];
  }

  -- with nothing matched before
  pub falls_last : (low at before unit : ℕ) (begins : Bool) → at < length x → before ≡ unit_before x at → unit ≡ get_or x at 0 → Falls low at 0 unit → 0 < length sought
      → begins ≡ (get_or sought 0 0 == unit && not (cuts_in kind (before ∷ unit ∷ []) 1))
      → IsLongest (length sought) kind x sought low (at + 1) (from_bool begins)
  falls_last low at before unit begins inside last next falls some is =
      let here = cuts_between kind x at before unit last next in
      elim (cases_Bool begins) [
        | inl begun ↦
            let both = and_parts _ _ (sym is ∙ begun) in
            rw begun (falls_found low at 0 unit falls some (sym next) (eqb-true _ _ both.0) (λ none. sym here ∙ not-true _ both.1))
        | inr other ↦ rw other (falls_out low at unit falls (sym next)
            (λ same place. true≢false (sym (and_from _ _ (eq-eqb _ _ same) (not_from_false _ (here ∙ place))) ∙ sym is ∙ other)))
      ]

  -- ---- occurrences

  stands_here : (place : ℕ) → stands_at kind x sought place ≡ true → (k : ℕ) → k < length sought → get_or x (place + k) 0 ≡ get_or sought k 0
  stands_here place there k below =
      let goes_on = (starts_is Decides-eqb (drop place x) sought _ refl).0 (and_parts _ _ (and_parts _ _ there).0).0 in
      sym (get_or-drop place x k 0) ∙ front_reads 0 (drop place x) sought (drop (length sought) (drop place x)) goes_on k below

  -- if they occur at a place in the text read, and end at its end or later, the text read ends with a prefix of them
  pub stands_ends : (place at : ℕ) → stands_at kind x sought place ≡ true → place ≤ at → at ≤ place + length sought → EndsWith kind x sought at (at - place)
  stands_ends place at there ordered within =
      let begins : (leb place (length x) ≡ true) × (not (cuts_in kind x place) ≡ true) = and_parts _ _ (places_of kind x sought place there).0 in
      let start : at - (at - place) ≡ place = omega arith in
      record {
        few = omega arith;
        there = omega arith;
        same = λ k below. ap (λ (i : ℕ). get_or x i 0) (omega arith) ∙ stands_here place there k (omega arith);
        begins = λ some. ap (cuts_in kind x) start ∙ not-true _ begins.1;
      }

  -- if the text read ends with all of them, they occur there
  pub ends_stands : (at : ℕ) → 0 < length sought → at ≤ length x → EndsWith kind x sought at (length sought) → cuts_in kind x at ≡ false
      → stands_at kind x sought (at - length sought) ≡ true
  ends_stands at some within ends place =
      let start : ℕ = at - length sought in
      let end : start + length sought ≡ at = omega (arith, ends.there) in
      let long : length sought ≤ length (drop start x) = omega (arith, ends.there, length-drop start x) in
      let reads = front_from_reads 0 (drop start x) sought long (λ k below. get_or-drop start x k 0 ∙ ends.same k below) in
      and_from _ _ (and_from _ _ ((starts_is Decides-eqb (drop start x) sought _ refl).1 _ reads)
      (and_from _ _ (le-leb start (length x) (omega arith)) (not_from_false _ (ends.begins some))))
      (and_from _ _ (le-leb (start + length sought) (length x) (omega arith)) (not_from_false _ (ap (cuts_in kind x) end ∙ place)))

  -- ---- what was found so far

  no_less : (n : ℕ) → n ≡ n - 0
  no_less n = omega arith

  module _ (some : 0 < length sought) (all found : List Span) where
    -- after one unit more
    pub read_on : (most at before n unit m : ℕ) → HasRead most kind x sought all found at before n → n < length sought → at < length x → unit ≡ get_or x at 0
        → ((low : ℕ) → IsLongest most kind x sought low at n → IsLongest (length sought) kind x sought low (at + 1) m) → m ≤ n + 1
        → HasRead (length sought) kind x sought all found (at + 1) unit m
    read_on most at before n unit m read part inside next longest few =
        let low : ℕ = read.low in
        let now = longest low read.longest in
        let behind : low + n ≤ at = read.longest.behind in
        let last : at ≡ at + 1 - 1 = omega arith in
        let nowhere : (place : ℕ) → at - n ≤ place → place < at + 1 - m → stands_at kind x sought place ≡ false =
        λ place above below. false_from_ne_true _ (λ here.
        now.longer (at + 1 - place) (omega arith) (omega arith) (omega arith) (stands_ends place (at + 1) here (omega arith) (omega arith))) in
        record {
          within = omega arith;
          unit = next ∙ ap (λ (i : ℕ). get_or x i 0) last ∙ sym (unit_after x (at + 1) (omega arith));
          low = low;
          longest = now;
          goes_on = read.goes_on ∙ ap (λ (l : List Span). found ++ l) (none_between kind x sought some (at - n) (at + 1 - m) (omega arith) nowhere);
        }

    -- where no place is behind all of them, with the longest border
    pub read_cut : (at before less : ℕ) → HasRead (length sought) kind x sought all found at before (length sought) → cuts_in kind x at ≡ true
        → IsLongest (length sought) kind sought sought 1 (length sought) less → HasRead (length sought - 1) kind x sought all found at before less
    read_cut at before less read cut border =
        let n : ℕ = length sought in
        let ends = read.longest.ends in
        let fewer : less < n = omega (arith, border.behind) in
        let above : n ≤ at = ends.there in
        let none : (place : ℕ) → at - n ≤ place → place < at - less → stands_at kind x sought place ≡ true → ⊥ =
        λ place from below here. elim (cases_lt (at - n) place) [
          | inl later ↦ border.longer (at - place) (omega arith) (omega arith) (omega arith)
              (inner at n (at - place) ends (omega arith) (stands_ends place at here (omega arith) (omega arith)))
          | inr first ↦
              let end : place + n ≡ at = omega arith in
              let place_there = and_parts _ _ (places_of kind x sought place here).1 in
              true≢false (sym cut ∙ ap (cuts_in kind x) (sym end) ∙ not-true _ place_there.1)
        ] in
        record {
          within = read.within;
          unit = read.unit;
          low = read.low;
          longest = record {
            ends = outer at n less ends fewer border.ends;
            behind = omega (arith, read.longest.behind);
            longer = λ k more most there part. border.longer k more (omega arith) (omega arith) (inner at n k ends (omega arith) part);
          };
          goes_on = read.goes_on ∙ ap (λ (l : List Span). found ++ l)
              (none_between kind x sought some (at - n) (at - less) (omega arith) (λ place from below. false_from_ne_true _ (none place from below)));
        }

    -- all of them are found where a place is behind them
    found_now : (at before : ℕ) (span : Span) → HasRead (length sought) kind x sought all found at before (length sought) → cuts_in kind x at ≡ false
        → span ≡ record { start = at - length sought; end = at } → all ≡ (found ++ span ∷ []) ++ occurrences_after kind x sought at
    found_now at before span read place is =
        let n : ℕ = length sought in
        let ends = read.longest.ends in
        let start : ℕ = at - n in
        let end : start + n ≡ at = omega (arith, ends.there) in
        let same : span_at sought start ≡ span = ap (λ (i : ℕ). record { start = start; end = i }) end ∙ sym is in
        read.goes_on
        ∙ ap (λ (l : List Span). found ++ l) (found_after kind x sought some start (ends_stands at some read.within ends place)
        ∙ (λ k. same k ∷ occurrences_after kind x sought (end k)))
        ∙ sym (append_assoc found (span ∷ []) (occurrences_after kind x sought at))

    pub read_found : (at before : ℕ) (span : Span) → HasRead (length sought) kind x sought all found at before (length sought) → cuts_in kind x at ≡ false
        → span ≡ record { start = at - length sought; end = at } → HasRead (length sought - 1) kind x sought all (found ++ span ∷ []) at before 0
    read_found at before span read place is = record {
      within = read.within;
      unit = read.unit;
      low = at;
      longest = record {
        ends = ends_none at;
        behind = omega arith;
        longer = λ k more most there part. absurd (omega arith);
      };
      goes_on = found_now at before span read place is ∙ ap (λ (i : ℕ). (found ++ span ∷ []) ++ occurrences_after kind x sought i) (no_less at);
    }

    -- at the end of the text
    pub read_all : (before n : ℕ) → HasRead (length sought) kind x sought all found (length x) before n → n < length sought → found ≡ all
    read_all before n read part =
        let there = read.longest.ends.there in
        sym (read.goes_on ∙ ap (λ (l : List Span). found ++ l) (none_after kind x sought some (length x - n) (omega arith)) ∙ append-nil found)

    pub read_all_found : (before : ℕ) (span : Span) → HasRead (length sought) kind x sought all found (length x) before (length sought)
        → span ≡ record { start = length x - length sought; end = length x } → found ++ span ∷ [] ≡ all
    read_all_found before span read is =
        sym (found_now (length x) before span read (never_last kind x) is
        ∙ ap (λ (l : List Span). (found ++ span ∷ []) ++ l) (none_after kind x sought some (length x) (omega arith)) ∙ append-nil (found ++ span ∷ []))

    -- over places at which they don't begin
    pub read_over : (at before to unit : ℕ) → HasRead (length sought) kind x sought all found at before 0 → at < to → to ≤ length x → unit ≡ get_or x (to - 1) 0
        → ((place : ℕ) → at ≤ place → place < to → stands_at kind x sought place ≡ false) → HasRead (length sought) kind x sought all found to unit 0
    read_over at before to unit read ordered within last nowhere = record {
      within = within;
      unit = last ∙ sym (unit_after x to (omega arith));
      low = to;
      longest = record {
        ends = ends_none to;
        behind = omega arith;
        longer = λ k more most there part. absurd (omega arith);
      };
      goes_on = read.goes_on ∙ ap (λ (l : List Span). found ++ l) (ap (occurrences_after kind x sought) (sym (no_less at))
          ∙ none_between kind x sought some at to (omega arith) nowhere ∙ ap (occurrences_after kind x sought) (no_less to));
    }

    pub read_none : HasRead (length sought) kind x sought (found ++ occurrences_after kind x sought 0) found 0 0 0
    read_none = record {
      within = omega arith;
      unit = refl;
      low = 0;
      longest = record {
        ends = ends_none 0;
        behind = omega arith;
        longer = λ k more most there part. absurd (omega arith);
      };
      goes_on = refl;
    }

  -- ---- in a run

  pub run_unit : (run : List ℕ) (start i : ℕ) → IsRunAt x start run → i < length run → get_or run i 0 ≡ get_or x (start + i) 0
  run_unit run start i is inside =
      ap (λ (l : List ℕ). get_or l i 0) is ∙ get_or-take (length run) (drop start x) i 0 inside ∙ get_or-drop start x i 0

  pub run_within : (run : List ℕ) (start : ℕ) → IsRunAt x start run → 0 < length run → start + length run ≤ length x
  run_within run start is some = omega (arith, ap length is, length-take (length run) (drop start x), length-drop start x)

  -- they do not occur where they can't begin
  pub none_begins : (run : List ℕ) (start i : ℕ) → IsRunAt x start run → i < length run → 0 < length sought → may_begin run sought i ≡ false
      → stands_at kind x sought (start + i) ≡ false
  none_begins run start i is inside some none =
      false_from_ne_true _ (λ here.
      let last : ℕ = length sought - 1 in
      let zero_more : start + i + 0 ≡ start + i = omega arith in
      let first = run_unit run start i is inside ∙ ap (λ (n : ℕ). get_or x n 0) (sym zero_more) ∙ stands_here (start + i) here 0 some in
      let end : (leb (length run) (i + last) || get_or run (i + last) 0 == get_or sought last 0) ≡ true =
      elim (cases_lt (i + last) (length run)) [
        | inl short ↦
            let there : start + (i + last) ≡ start + i + last = omega arith in
            or_right _ _ (eq-eqb _ _ (run_unit run start (i + last) is short ∙ ap (λ (n : ℕ). get_or x n 0) there ∙ stands_here (start + i) here last (omega arith)))
        | inr long ↦ or_left _ _ (le-leb (length run) (i + last) long)
      ] in
      true≢false (sym (and_from _ _ (eq-eqb _ _ first) end) ∙ none))

-- ---- run by run

-- the run that comes next in what is left of the text
module _ (x rest run left : List ℕ) (at : ℕ) (there : rest ≡ drop at x) (parts : rest ≡ run ++ left) where
  whole : drop at x ≡ run ++ left
  whole = sym there ∙ parts

  pub next_is : IsRunAt x at run
  next_is = sym (ap (take (length run)) whole ∙ take_at run left (length run) refl)

  pub next_left : left ≡ drop (at + length run) x
  next_left = sym (sym (drop-drop (length run) at x) ∙ ap (drop (length run)) whole ∙ drop_at run left (length run) refl)

  pub next_within : at ≤ length x → at + length run ≤ length x
  next_within inside = omega (arith, length-drop at x, ap length whole, length-append run left)

-- ---- the old items of a list stay at its front

pub kept_on : (old now new : List Span) → take (length old) now ≡ old → take (length now) new ≡ now → take (length old) new ≡ old
kept_on old now new first second =
    sym (take-take (length old) (length now) new (omega (arith, ap length first, length-take (length old) now)))
    ∙ ap (take (length old)) second ∙ first

pub kept : (old : List Span) → take (length old) old ≡ old
kept old = take_all (length old) old (omega arith)

-- ---- the borders of all prefixes

module _ (kind : Kind) (sought : List ℕ) where
  pub first_border : IsLongest (length sought) kind sought sought 1 1 0
  first_border = record {
    ends = ends_none kind sought sought 1;
    behind = omega arith;
    longer = λ k more most there part. absurd (omega arith);
  }

  pub one_border_more : (borders : List ℕ) (n border : ℕ) → length borders ≡ n → AreBorders kind sought borders
      → IsLongest (length sought) kind sought sought 1 (n + 1) border → AreBorders kind sought (borders ++ border ∷ [])
  one_border_more borders n border count known next = λ k some few.
      elim (cases_lt (k - 1) n) [
        | inl before ↦
            subst (IsLongest (length sought) kind sought sought 1 k) (sym (get_or_append_left borders (border ∷ []) 0 (k - 1) (omega (arith, count))))
            (known k some (omega (arith, count)))
        | inr last ↦
            let is : n + 1 ≡ k = omega (arith, count, length-append borders (border ∷ [])) in
            let there : k - 1 ≡ length borders = omega (arith, count) in
            subst (IsLongest (length sought) kind sought sought 1 k)
            (sym (get_or_push borders border 0 (k - 1) (sym there)))
            (subst (λ (i : ℕ). IsLongest (length sought) kind sought sought 1 i border) is next)
      ]
