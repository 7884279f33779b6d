-- The numbers of edits on a way, and of the units and breaks of their texts.
use Rattle.std.specs.Prelude.{ℕ, List, length, sum_by}
use Rattle.batch_rules.specs.Batches.{text_units}
use Rattle.text_batches.specs.Needs.{edit_count, text_breaks}
use Rattle.model_page.specs.declared.change.Change.{Change}
use Rattle.model_page.specs.declared.change.Change.TheVariants.{Ops, Endings}
use Rattle.model_page.specs.declared.change.Way.{Way}
use Rattle.model_page.specs.Changes.{ops_by}

-- the number of edits on the way, and of the units and breaks of their texts
abbrev pub edit_count_along : Way → List Change → ℕ
edit_count_along way cs = sum_by (λ c. edit_count (ops_by way c)) cs

abbrev pub unit_count : Way → List Change → ℕ
unit_count way cs = sum_by (λ c. text_units (ops_by way c)) cs

abbrev pub breaks_along : Way → List Change → ℕ
breaks_along way cs = sum_by (λ c. text_breaks (ops_by way c)) cs

-- how many ops of the change mark lines; new line endings mark none
abbrev pub marking_ops : Way → Change → ℕ
marking_ops way (Ops ops inverse) = length (ops_by way (Ops ops inverse))
marking_ops way (Endings r) = 0

abbrev pub marking_count : Way → List Change → ℕ
marking_count way cs = sum_by (λ c. marking_ops way c) cs
