-- The line of a place is found.
use Rattle.std.proofs.Common.{◌≡◌, ℕ, ◌+◌, ◌-◌, ◌<◌, ◌≤◌, Bool, true, false, leb, inl, inr, List, length, take, drop, get_or, sym, ◌∙◌, ap, subst, arith}
use Rattle.std.specs.List.{HoldsAt}
use Rattle.std.specs.List.Sorted.{IsNonDecreasingBy, IsPartitionedBy, IsPartitionPoint}
use Rattle.std.proofs.lemmas.Bool.{cases_lt, leb-true, leb-false}
use Rattle.std.proofs.lemmas.List.{get_or-drop, get_or_default, length-drop, take_all}
use Rattle.std.proofs.lemmas.List.Sorted.{IsPartitionedBy-leb}
use Rattle.decoration_rules.specs.declared.LineMove.{LineMove}
use Rattle.decoration_rules.specs.Lines.{AreLineMoves}
use Rattle.interval_deltas.specs.Lines.{HasStarted, IsLineAt}

module _ (lines : List LineMove) (place : ℕ) (are : AreLineMoves lines) where
  abbrev Started : ℕ → Type 0
  Started at = HoldsAt (λ line. line.old ≤ place) lines at

  -- the line that was read
  pub started_here : (at here : ℕ) (d : LineMove) → at ≡ here → here < length lines → (get_or lines here d).old ≤ place → HasStarted lines place at
  started_here at here d is within low = subst (HasStarted lines place) (sym is) (within, λ e. subst (λ (l : LineMove). l.old ≤ place) (get_or_default lines here d e within) low)

  -- the next line starts after the place
  pub last_started : (at next : ℕ) (e : LineMove) → next ≡ at + 1 → next < length lines → HasStarted lines place at → place < (get_or lines next e).old → IsLineAt lines place at
  last_started at next e is within started behind = (
    started,
    λ k d low high.
        let one : place < (get_or lines next d).old = subst (λ (l : LineMove). place < l.old) (get_or_default lines next e d within) behind in elim (cases_lt next k) [
          | inl lt ↦ let rises = are.rising next k d lt high in omega (arith, rises, one)
          | inr le ↦ let same : next ≡ k = omega (arith, is, low, le) in subst (λ n. place < (get_or lines n d).old) same one
        ],
  )

  -- there is no next line
  pub all_started : (at : ℕ) → at + 1 ≡ length lines → HasStarted lines place at → IsLineAt lines place at
  all_started at is started = (started, λ k d low high. absurd (omega (arith, is, low, high)))

  abbrev pub is_started : LineMove → Bool
  is_started line = leb line.old place

  -- the search covers the lines after one that starts at the place or earlier
  module _ (from : ℕ) (begins : HasStarted lines place from) where
    abbrev rest : List LineMove
    rest = take (length lines - (from + 1)) (drop (from + 1) lines)

    all : rest ≡ drop (from + 1) lines
    all = take_all (length lines - (from + 1)) (drop (from + 1) lines) (omega (arith, length-drop (from + 1) lines))

    left : length rest ≡ length lines - (from + 1)
    left = ap length all ∙ length-drop (from + 1) lines

    at : (k : ℕ) (d : LineMove) → get_or rest k d ≡ get_or lines (from + 1 + k) d
    at k d = ap (λ ls. get_or ls k d) all ∙ get_or-drop (from + 1) lines k d

    rises : IsNonDecreasingBy (λ (line : LineMove). line.old) rest
    rises i j d le within = elim (cases_lt i j) [
      | inl lt ↦
          let up = are.rising (from + 1 + i) (from + 1 + j) d (omega (arith, lt)) (omega (arith, within, left)) in
          let one = ap (λ (l : LineMove). l.old) (at i d) in let two = ap (λ (l : LineMove). l.old) (at j d) in omega (arith, up, one, two)
      | inr ge ↦ let same : i ≡ j = omega (arith, le, ge) in let is = ap (λ k. (get_or rest k d).old) same in omega (arith, is)
    ]

    pub parted : IsPartitionedBy is_started rest
    parted = IsPartitionedBy-leb (λ (line : LineMove). line.old) rest place rises

    module _ (count : ℕ) (within : count ≤ length rest) (point : IsPartitionPoint (λ l. is_started l ≡ true) (λ l. is_started l ≡ false) rest count) where
      started : HoldsAt (λ line. line.old ≤ place) lines (from + count)
      started d = elim (cases_lt 0 count) [
        | inl some ↦
            let low = leb-true (get_or rest (count - 1) d).old place (point.0 (count - 1) d (omega arith) (omega (arith, some))) in
            let same : from + 1 + (count - 1) ≡ from + count = omega (arith, some) in
            subst (λ k. (get_or lines k d).old ≤ place) same (subst (λ (l : LineMove). l.old ≤ place) (at (count - 1) d) low)
        | inr none ↦ let same : from ≡ from + count = omega (arith, none) in subst (λ k. (get_or lines k d).old ≤ place) same (begins.1 d)
      ]

      pub found : IsLineAt lines place (from + count)
      found = (
        (omega (arith, within, begins.0, left), started),
        λ k d low high.
            let behind = leb-false (get_or rest (k - (from + 1)) d).old place (point.1 (k - (from + 1)) d (omega (arith, low)) (omega (arith, high, low, left))) in
            let same : from + 1 + (k - (from + 1)) ≡ k = omega (arith, low) in
            subst (λ n. place < (get_or lines n d).old) same (subst (λ (l : LineMove). place < l.old) (at (k - (from + 1)) d) behind),
      )
