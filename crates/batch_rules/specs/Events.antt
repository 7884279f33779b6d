-- Events: batches that were applied to a text in sequence, by which another text can follow it.
use Rattle.std.specs.Prelude.{ℕ, ◌+◌, ◌≡◌, ◌||◌, Bool, false, nat_lt, if◌then◌else◌, List, [], ◌∷◌, length, Option, Some, None, option_map}
use Rattle.std.specs.List.{list_any}
use Rattle.text_rules.specs.declared.Op.{Op}
use Rattle.batch_rules.specs.Batches.{most_units, applied_from}

-- a change of a text: the version before it, and the applied batches in order
pub record EventState : Type 0 where
  pub from : ℕ
  pub batches : List (List Op)

-- the batch does not fit: an op ends beyond the text, or the text after the batch would be too long
abbrev pub is_misfit : List ℕ → List Op → Bool
is_misfit x ops = list_any (λ op. nat_lt (length x) op.span.end) ops || nat_lt most_units (length (applied_from 0 x ops))

-- the number of the first batch, counted from 1, that does not fit the text to which it applies
abbrev pub first_misfit : List ℕ → List (List Op) → Option ℕ
first_misfit x [] = None
first_misfit x (ops ∷ batches) =
    if is_misfit x ops then Some 1 else option_map (λ n. n + 1) (first_misfit (applied_from 0 x ops) batches)

-- the text after the batches
abbrev pub after_batches : List ℕ → List (List Op) → List ℕ
after_batches x [] = x
after_batches x (ops ∷ batches) = after_batches (applied_from 0 x ops) batches

-- the batches turn text x into text y, and each fits the text to which it applies
pub record TakeTo (x : List ℕ) (batches : List (List Op)) (y : List ℕ) : Type 0 where
  pub fits : first_misfit x batches ≡ None
  pub text : after_batches x batches ≡ y

-- the length of the text after a batch; None if the batch does not fit
abbrev pub length_after : List ℕ → List Op → Option ℕ
length_after x ops = if is_misfit x ops then None else Some (length (applied_from 0 x ops))

-- a batch of one op that replaces the whole text
abbrev pub whole_op : List ℕ → List ℕ → List Op
whole_op old new = record { span = record { start = 0; end = length old }; text = new; force = false } ∷ []
