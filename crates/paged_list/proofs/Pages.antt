-- Pages of slots, each with twice as many as the one before, and the row of their slots.
use Rattle.std.proofs.Common.{◌≡◌, ℕ, zero, suc, ◌+◌, ◌-◌, ◌*◌, ◌%◌, ◌/◌, ◌^◌, ◌<◌, ◌≤◌, List, [], ◌∷◌, ◌++◌, Option, Some, None, length, get_or, replicate, set, sym, ap, ◌∙◌, arith, inl, inr, lit<}
use Rattle.std.specs.Int.{bit_at}
use Rattle.std.specs.Int.Bits.{bit_or, bit_xor, or_zero_r, xor_add_and}
use Rattle.std.proofs.lemmas.Bool.{cases_lt}
use Rattle.std.proofs.lemmas.Bool.Decides.{eqb_tells}
use Rattle.std.proofs.lemmas.List.{get_or-append_right, get_or-set_same, get_or-set_other, get_or_default, set-append_left, set-append_right, append-nil, append_assoc}
use Rattle.std.proofs.lemmas.Nat.{or_shr, pow_pos}
use Rattle.std.proofs.lemmas.Nat.Bits.{and_pow}
use Rattle.std.proofs.Math.ListN.{get_or-append, length-set, length-append, length-replicate}
use Rattle.std.proofs.Math.Pow.{high}
use Rattle.std.proofs.Math.Seq.{get_or-append_seam}
use Rattle.std.proofs.Math.Nat.{pow-le-pow_right, mul-le-mul_left, pow-suc}
use Rattle.paged_list.specs.Pages.{row, AllDouble, ArePages, IsSpot}
use Rattle.paged_list.specs.Slots.{IsFilled}
use Rattle.paged_list.proofs.Rows.{within}

-- a number with its lowest bit set has the same highest bit
pub same_top : (n top : ℕ) → 0 < n → 2 ^ top ≤ bit_or n 1 → 2 ^ top ≤ n
same_top n zero some le = omega (arith, some)
same_top n (suc k) some le =
    let half : bit_or n 1 / 2 ≡ n / 2 = or_shr n 1 1 ∙ or_zero_r (n / 2) in omega (arith, pow-suc 2 k, half, le)

-- the highest bit of a number, cleared
pub cleared : (n top : ℕ) → 2 ^ top ≤ n → n < 2 * 2 ^ top → bit_xor n (2 ^ top) ≡ n - 2 ^ top
cleared n top le lt =
    let split : n ≡ 1 * 2 ^ top + (n - 2 ^ top) = omega (arith, le) in
    let set_ : bit_at n top ≡ 1 = ap (λ m. m / 2 ^ top % 2) split ∙ ap (λ q. q % 2) (high 1 top (omega (arith, le, lt))) in
    omega (arith, xor_add_and n (2 ^ top), and_pow n top, ap (λ b. b * 2 ^ top) set_, le)

twice : (s i : ℕ) → s * 2 ^ suc i ≡ s * 2 * 2 ^ i
twice s i = let more = pow-suc 2 i in omega (arith, ap (λ k. s * k) more)

-- a slot of a later page comes after the first page
behind : (s n k place : ℕ) → s * 2 ^ suc k + place ≡ n + s → s ≤ n
behind s n k place at = let one = mul-le-mul_left s (pow_pos k) in omega (arith, at, one, twice s k)

moved : (s n k place : ℕ) → s * 2 ^ suc k + place ≡ n + s → s * 2 * 2 ^ k + place ≡ n - s + s * 2
moved s n k place at = omega (arith, at, twice s k, behind s n k place at)

module _ {X : Type 0} where
  -- as AllDouble, for a first page of s slots
  abbrev Doubles : ℕ → List (List (Option X)) → Type 0
  Doubles s pages = (i : ℕ) → i < length pages → length (get_or pages i []) ≡ s * 2 ^ i

  first_long : (s : ℕ) (page : List (Option X)) (pages : List (List (Option X))) → Doubles s (page ∷ pages) → length page ≡ s
  first_long s page pages all = let long = all 0 (omega arith) in omega (arith, long)

  later : (s : ℕ) (page : List (Option X)) (pages : List (List (Option X))) → Doubles s (page ∷ pages) → Doubles (s * 2) pages
  later s page pages all i lt = all (suc i) (omega arith) ∙ twice s i

  length_from : (s : ℕ) (pages : List (List (Option X))) → Doubles s pages → length (row pages) + s ≡ s * 2 ^ length pages
  length_from s [] all = omega arith
  length_from s (page ∷ pages) all =
      let rest = length_from (s * 2) pages (later s page pages all) in let long = first_long s page pages all in
      omega (arith, rest, long, length-append page (row pages), twice s (length pages))

  from_one : (pages : List (List (Option X))) → AllDouble pages → Doubles 1 pages
  from_one pages all i lt = let long = all i lt in omega (arith, long)

  pub length-row : (pages : List (List (Option X))) → AllDouble pages → length (row pages) + 1 ≡ 2 ^ length pages
  length-row pages all = let long = length_from 1 pages (from_one pages all) in omega (arith, long)

  pub few_slots : (pages : List (List (Option X))) → ArePages pages → length (row pages) < 2 ^ 32
  few_slots pages h =
      let long = length-row pages h.double in let most = pow-le-pow_right {n = 2} (lit< tt) h.few in omega (arith, long, most)

  look_from : (s : ℕ) (pages : List (List (Option X))) (n page place : ℕ) → Doubles s pages → page < length pages → s * 2 ^ page + place ≡ n + s → place < s * 2 ^ page
      → get_or (row pages) n None ≡ get_or (get_or pages page []) place None
  look_from s [] n page place all lt at within = absurd (omega arith)
  look_from s (first ∷ pages) n zero place all lt at within =
      let long = first_long s first pages all in let same : n ≡ place = omega (arith, at) in
      get_or-append first (row pages) None n (omega (arith, long, same, within)) ∙ ap (λ k. get_or first k None) same
  look_from s (first ∷ pages) n (suc k) place all lt at within =
      get_or-append_right first (row pages) s n None (first_long s first pages all) (behind s n k place at)
      ∙ look_from (s * 2) pages (n - s) k place (later s first pages all) (omega (arith, lt)) (moved s n k place at) (omega (arith, within, twice s k))

  write_from : (s : ℕ) (pages : List (List (Option X))) (n page place : ℕ) (c : Option X) → Doubles s pages → page < length pages → s * 2 ^ page + place ≡ n + s → place < s * 2 ^ page
      → row (set pages page (set (get_or pages page []) place c)) ≡ set (row pages) n c
  write_from s [] n page place c all lt at within = absurd (omega arith)
  write_from s (first ∷ pages) n zero place c all lt at within =
      let long = first_long s first pages all in let same : n ≡ place = omega (arith, at) in
      ap (λ k. set first k c ++ row pages) (sym same) ∙ sym (set-append_left first (row pages) n c (omega (arith, long, same, within)))
  write_from s (first ∷ pages) n (suc k) place c all lt at within =
      ap (λ rest. first ++ rest) (write_from (s * 2) pages (n - s) k place c (later s first pages all) (omega (arith, lt)) (moved s n k place at) (omega (arith, within, twice s k)))
      ∙ sym (set-append_right first (row pages) s n c (first_long s first pages all) (behind s n k place at))

  row-append : (pages : List (List (Option X))) (page : List (Option X)) → row (pages ++ page ∷ []) ≡ row pages ++ page
  row-append [] page = append-nil page
  row-append (first ∷ pages) page = ap (λ rest. first ++ rest) (row-append pages page) ∙ sym (append_assoc first (row pages) page)

  -- a page without values is added
  pub row-grown : (pages : List (List (Option X))) (count : ℕ) → row (pages ++ replicate count None ∷ []) ≡ row pages ++ replicate count None
  row-grown pages count = row-append pages (replicate count None)

  pub length-grown : (pages : List (List (Option X))) (count : ℕ) → length (row (pages ++ replicate count None ∷ [])) ≡ length (row pages) + count
  length-grown pages count = ap length (row-grown pages count) ∙ length-append (row pages) (replicate count None) ∙ ap (λ k. length (row pages) + k) (length-replicate {A = Option X} count None)

  pub double-grown : (pages : List (List (Option X))) (count : ℕ) → count ≡ 2 ^ length pages → AllDouble pages → AllDouble (pages ++ replicate count None ∷ [])
  double-grown pages count is all i lt =
      elim (cases_lt i (length pages)) [
        | inl low ↦ ap length (get_or-append pages (replicate count None ∷ []) [] i low) ∙ all i low
        | inr high ↦ let last : i ≡ length pages = omega (arith, length-append pages (replicate {A = Option X} count None ∷ [])) in
            ap (λ k. length (get_or (pages ++ replicate count None ∷ []) k [])) last ∙ ap length (get_or-append_seam pages (replicate count None) [] []) ∙ length-replicate {A = Option X} count None
            ∙ is ∙ ap (λ k. 2 ^ k) (sym last)
      ]

  module _ (pages : List (List (Option X))) (all : AllDouble pages) (n page place : ℕ) (at : IsSpot n page place) (fits : n < length (row pages)) where
    -- a slot has a page, and a place in it
    pub page_within : page < length pages
    page_within = elim (cases_lt page (length pages)) [
      | inl lt ↦ lt
      | inr le ↦ let long = length-row pages all in let higher = pow-le-pow_right {n = 2} (lit< tt) le in let is = at.0 in absurd (omega (arith, long, higher, is, fits))
    ]

    scaled : (1 * 2 ^ page + place ≡ n + 1) × (place < 1 * 2 ^ page)
    scaled = let is = at in (omega (arith, is), omega (arith, is))

    pub place_within : place < length (get_or pages page [])
    place_within = rw (all page page_within) at.1

    -- the page of a slot as a call lends it, and the effect of a write to it on the pages
    pub page_is : (lent : List (Option X)) → lent ≡ get_or pages page lent → lent ≡ get_or pages page []
    page_is lent is = is ∙ get_or_default pages page lent [] page_within

    pub slot_is : (lent : List (Option X)) → lent ≡ get_or pages page lent → get_or lent place None ≡ get_or (row pages) n None
    slot_is lent is = ap (λ l. get_or l place None) (page_is lent is) ∙ sym (look_from 1 pages n page place (from_one pages all) page_within scaled.0 scaled.1)

    module _ (lent new : List (Option X)) (c : Option X) (is : lent ≡ get_or pages page lent) (wrote : new ≡ set lent place c) where
      changed : set pages page new ≡ set pages page (set (get_or pages page []) place c)
      changed = ap (set pages page) (wrote ∙ ap (λ l. set l place c) (page_is lent is))

      pub row-changed : row (set pages page new) ≡ set (row pages) n c
      row-changed = ap row changed ∙ write_from 1 pages n page place c (from_one pages all) page_within scaled.0 scaled.1

      pub double-changed : AllDouble (set pages page new)
      double-changed i lt = elim (eqb_tells i page) [
        | inl (_, e) ↦ ap (λ k. length (get_or (set pages page new) k [])) e ∙ ap length (get_or-set_same pages page new [] page_within)
            ∙ ap length wrote ∙ length-set lent place c ∙ ap length (page_is lent is) ∙ all page page_within ∙ ap (λ k. 2 ^ k) (sym e)
        | inr (_, ne) ↦ ap length (get_or-set_other pages page i new [] ne) ∙ all i (omega (arith, length-set pages page new))
      ]

  -- facts about the slot n of a row of slots
  module _ (pages : List (List (Option X))) (h : ArePages pages) (slots : List (Option X)) (is : row pages ≡ slots) (n : ℕ) (lt : n < length slots) where
    in_row : n < length (row pages)
    in_row = let same = ap length is in omega (arith, same, lt)

    pub number_fits : n + 1 < 2 ^ 32
    number_fits = let few = few_slots pages h in let same = ap length is in omega (arith, few, same, lt)

    module _ (page place : ℕ) (at : IsSpot n page place) where
      pub page_at : page < length pages
      page_at = page_within pages h.double n page place at in_row

      module _ (lent : List (Option X)) (e : lent ≡ get_or pages page lent) where
        pub place_at : place < length lent
        place_at = let long = ap length (page_is pages h.double n page place at in_row lent e) in let fits = place_within pages h.double n page place at in_row in omega (arith, long, fits)

        pub slot_at : get_or lent place None ≡ get_or slots n None
        slot_at = slot_is pages h.double n page place at in_row lent e ∙ ap (λ s. get_or s n None) is

        module _ (new : List (Option X)) (c : Option X) (wrote : new ≡ set lent place c) where
          pub pages_written : ArePages (set pages page new)
          pages_written = record {
            double = double-changed pages h.double n page place at in_row lent new c e wrote;
            few = let long = length-set pages page new in let few = h.few in omega (arith, long, few);
          }

          pub row_written : row (set pages page new) ≡ set slots n c
          row_written = row-changed pages h.double n page place at in_row lent new c e wrote ∙ ap (λ s. set s n c) is

  -- a page is added
  pub pages_grown : (pages : List (List (Option X))) (h : ArePages pages) (count : ℕ) → count ≡ 2 ^ length pages → length pages < 32 → ArePages (pages ++ replicate count None ∷ [])
  pages_grown pages h count is lt = record {
    double = double-grown pages count is h.double;
    few = let long = length-append pages (replicate {A = Option X} count None ∷ []) in omega (arith, long, lt);
  }

  pub row_longer : (pages : List (List (Option X))) (h : ArePages pages) (slots : List (Option X)) → row pages ≡ slots → (count : ℕ) → count ≡ 2 ^ length pages
      → row (pages ++ replicate count None ∷ []) ≡ slots ++ replicate (length slots + 1) None
  row_longer pages h slots is count many =
      let long = length-row pages h.double in let same = ap length is in let all : count ≡ length slots + 1 = omega (arith, long, same, many) in
      row-grown pages count ∙ ap (λ s. s ++ replicate count None) is ∙ ap (λ k. slots ++ replicate k None) all

-- the same for a slot that holds a value
module _ {X : Type 0} (pages : List (List (Option X))) (h : ArePages pages) (slots : List (Option X)) (is : row pages ≡ slots) (n : ℕ) (filled : IsFilled slots n) where
  pub filled_within : n < length slots
  filled_within = within slots n filled.0 filled.1

  pub filled_fits : n + 1 < 2 ^ 32
  filled_fits = number_fits pages h slots is n filled_within

  module _ (page place : ℕ) (at : IsSpot n page place) where
    pub filled_page : page < length pages
    filled_page = page_at pages h slots is n filled_within page place at

    module _ (lent : List (Option X)) (e : lent ≡ get_or pages page lent) where
      pub filled_at : IsFilled lent place
      filled_at = (filled.0, slot_at pages h slots is n filled_within page place at lent e ∙ filled.1)

      pub filled_is : (x : X) → get_or lent place None ≡ Some x → get_or slots n None ≡ Some x
      filled_is x read = sym (slot_at pages h slots is n filled_within page place at lent e) ∙ read

      pub filled_written : (new : List (Option X)) (c : Option X) → new ≡ set lent place c → row (set pages page new) ≡ set slots n c
      filled_written new c wrote = row_written pages h slots is n filled_within page place at lent e new c wrote

pub ruleset filling = (number_fits, slot_at, pages_written, row_written)

pub ruleset reading = (filled_is, pages_written, filled_written)
