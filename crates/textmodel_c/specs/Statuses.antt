-- The statuses and their numbers.
use Rattle.std.specs.Prelude.{ℕ, Bool, true, false, Option, Some, None, Result, Ok as Accepted, Err, ⊤}
use Rattle.document_rules.specs.declared.ModelError.{ModelError}
use Rattle.document_rules.specs.declared.ModelError.TheVariants as error
use Rattle.group_rules.specs.declared.GroupError.{GroupError}
use Rattle.group_rules.specs.declared.GroupError.TheVariants as group
use Rattle.script_lines.specs.declared.reason.Refusal.{Refusal}
use Rattle.script_lines.specs.declared.reason.Refusal.TheVariants as reason
use Rattle.textmodel_c.specs.declared.status.Status.{Status}
use Rattle.textmodel_c.specs.declared.status.Status.TheVariants.{Ok, Nothing, Unknown, Range, Overlap, Limit, Memory, Encoding, Empty, Short, Joint, Gap}

abbrev pub number_of : Status → ℕ
number_of Ok = 0
number_of Nothing = 1
number_of Unknown = 2
number_of Range = 3
number_of Overlap = 4
number_of Limit = 5
number_of Memory = 6
number_of Encoding = 7
number_of Empty = 8
number_of Short = 9
number_of Joint = 10
number_of Gap = 11

abbrev pub status_of_error : ModelError → Status
status_of_error error.Unknown = Unknown
status_of_error error.Range = Range
status_of_error error.Overlap = Overlap
status_of_error error.Limit = Limit
status_of_error error.Memory = Memory

abbrev pub status_of_group_error : GroupError → Status
status_of_group_error group.Unknown = Unknown
status_of_group_error group.Range = Range
status_of_group_error group.Overlap = Overlap
status_of_group_error group.Limit = Limit
status_of_group_error (group.Joint n) = Joint
status_of_group_error group.Memory = Memory

-- the status of a refused script command
abbrev pub status_of_refusal : Refusal → Status
status_of_refusal reason.Syntax = Range
status_of_refusal reason.Unknown = Unknown
status_of_refusal reason.Range = Range
status_of_refusal reason.Overlap = Overlap
status_of_refusal reason.Limit = Limit
status_of_refusal reason.Memory = Memory
status_of_refusal (reason.Gap have need) = Gap
status_of_refusal (reason.Joint n) = Joint

-- the status of a call that may have nothing to do
abbrev pub status_of_step : Result Bool ModelError → Status
status_of_step (Accepted true) = Ok
status_of_step (Accepted false) = Nothing
status_of_step (Err e) = status_of_error e

-- `status_of_step` for undo and redo
abbrev pub status_of_going : Result Bool GroupError → Status
status_of_going (Accepted true) = Ok
status_of_going (Accepted false) = Nothing
status_of_going (Err e) = status_of_group_error e

-- the status of a call on several documents without a result
abbrev pub status_of_joint : Result ⊤ GroupError → Status
status_of_joint (Accepted x) = Ok
status_of_joint (Err e) = status_of_group_error e

abbrev pub status_of_given : {A : Type 0} → Result A ModelError → Status
status_of_given (Accepted x) = Ok
status_of_given (Err e) = status_of_error e

-- the result, or the old value after an error
abbrev pub given_or : {A : Type 0} → A → Result A ModelError → A
given_or old (Accepted x) = x
given_or old (Err e) = old

-- the status of a call with an optional result
abbrev pub status_of_found : {A : Type 0} → Result (Option A) ModelError → Status
status_of_found (Accepted (Some x)) = Ok
status_of_found (Accepted None) = Nothing
status_of_found (Err e) = status_of_error e

abbrev pub found_or : {A : Type 0} → A → Result (Option A) ModelError → A
found_or old (Accepted (Some x)) = x
found_or old (Accepted None) = old
found_or old (Err e) = old
