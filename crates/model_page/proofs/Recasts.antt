-- A page whose line endings become those of another kind.
use Rattle.std.proofs.Common.{◌≡◌, ℕ, List, ◌++◌, length, ap, ◌∙◌, append-nil, arith}
use Rattle.std.proofs.lemmas.List.{drop_all}
use Rattle.batch_rules.specs.Batches.{applied_from, text_units}
use Rattle.line_starts.specs.Starts.{break_count}
use Rattle.batch_rules.specs.Events.{whole_op}
use Rattle.text_batches.specs.Needs.{text_breaks}

-- the op that puts a text in the place of another leaves that text
pub applied-whole : (x y : List ℕ) → applied_from 0 x (whole_op x y) ≡ y
applied-whole x y = ap (λ (rest : List ℕ). y ++ rest) (drop_all (length x) x (omega arith)) ∙ append-nil y

pub units-whole : (x y : List ℕ) → text_units (whole_op x y) ≡ length y
units-whole x y = omega arith

pub breaks-whole : (x y : List ℕ) → text_breaks (whole_op x y) ≡ break_count y
breaks-whole x y = omega arith
