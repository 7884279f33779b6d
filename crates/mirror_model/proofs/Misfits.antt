-- Batches that fit a text in turn, or the first that does not.
use Rattle.std.proofs.Common.{◌≡◌, ℕ, ◌+◌, ◌<◌, ◌≤◌, Bool, true, false, cond, List, ◌∷◌, length, drop, get_or, Option, Some, None, refl, ap, sym, ◌∙◌, arith}
use Rattle.std.specs.Option.{option_map}
use Rattle.std.proofs.lemmas.List.{drop_more, drop_all}
use Rattle.text_rules.specs.declared.Op.{Op}
use Rattle.batch_rules.specs.Batches.{applied_from}
use Rattle.batch_rules.specs.Events.{is_misfit, first_misfit, length_after}

-- so many of the batches fit the text in turn, and leave one of this length
pub record FitSoFar (x : List ℕ) (batches : List (List Op)) (i len : ℕ) : Type 0 where
  pub now : List ℕ
  pub length : length now ≡ len
  pub rest : first_misfit x batches ≡ option_map (λ n. n + i) (first_misfit now (drop i batches))

map_none : (r : Option ℕ) → option_map (λ n. n + 0) r ≡ r
map_none None = refl
map_none (Some n) = ap (λ n. Some n) (omega arith)

map_more : (i : ℕ) (r : Option ℕ) → option_map (λ n. n + i) (option_map (λ n. n + 1) r) ≡ option_map (λ n. n + (i + 1)) r
map_more i None = refl
map_more i (Some n) = ap (λ n. Some n) (omega arith)

-- the items from a place on are the one there and those after it
pub next_in : {X : Type 0} → (items : List X) (i : ℕ) (item : X) → i < length items → item ≡ get_or items i item → drop i items ≡ item ∷ drop (i + 1) items
next_in items i item inside is = drop_more items i item inside ∙ ap (λ o. o ∷ drop (i + 1) items) (sym is)

pub none_yet : (x : List ℕ) (batches : List (List Op)) → FitSoFar x batches 0 (length x)
none_yet x batches = record { now = x; length = refl; rest = sym (map_none (first_misfit x batches)) }

-- a batch that has a length after it fits, and one that has none does not
has_length : (long : Bool) (n len : ℕ) → cond long None (Some n) ≡ Some len → (long ≡ false) × (n ≡ len)
has_length true n len e = absurd cc
has_length false n len e = (refl, cc)

has_none : (long : Bool) (n : ℕ) → cond long None (Some n) ≡ None → long ≡ true
has_none true n e = refl
has_none false n e = absurd cc

module _ (x : List ℕ) (batches : List (List Op)) (i len : ℕ) (so_far : FitSoFar x batches i len) where
  pub all_fit : length batches ≤ i → None ≡ first_misfit x batches
  all_fit past = sym (so_far.rest ∙ ap (λ b. option_map (λ n. n + i) (first_misfit so_far.now b)) (drop_all i batches past))

  module _ (ops : List Op) (inside : i < length batches) (is : ops ≡ get_or batches i ops) where
    here : first_misfit x batches ≡ option_map (λ n. n + i) (first_misfit so_far.now (ops ∷ drop (i + 1) batches))
    here = so_far.rest ∙ ap (λ b. option_map (λ n. n + i) (first_misfit so_far.now b)) (next_in batches i ops inside is)

    pub one_more : (after : ℕ) → Some after ≡ length_after so_far.now ops → FitSoFar x batches (i + 1) after
    one_more after told =
        let fits = has_length (is_misfit so_far.now ops) (length (applied_from 0 so_far.now ops)) after (sym told) in
        record {
          now = applied_from 0 so_far.now ops;
          length = fits.1;
          rest = here ∙ rw fits.0 (map_more i (first_misfit (applied_from 0 so_far.now ops) (drop (i + 1) batches)));
        }

    pub does_not_fit : None ≡ length_after so_far.now ops → Some (i + 1) ≡ first_misfit x batches
    does_not_fit told =
        let misfit = has_none (is_misfit so_far.now ops) (length (applied_from 0 so_far.now ops)) (sym told) in
        sym (here ∙ rw misfit (ap (λ n. Some n) (omega arith)))
