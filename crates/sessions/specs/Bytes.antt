-- The outcome of a line, and its bytes.
use Rattle.std.specs.Prelude.{◌≡◌, ℕ, ◌⊎◌, Bool, true, false, List, [], Option, None, Some, Result, Ok, Err}
use Rattle.text_rules.specs.declared.Op.{Op}
use Rattle.std.specs.declared.vec.Vec.{Vec}
use Rattle.std.specs.declared.alloc.Global.{Global}
use Rattle.document_rules.specs.declared.ModelError.{ModelError}
use Rattle.document_rules.specs.declared.ModelError.TheVariants as error
use Rattle.group_rules.specs.declared.GroupError.{GroupError}
use Rattle.group_rules.specs.declared.GroupError.TheVariants as group
use Rattle.script_lines.specs.declared.fields.LineFault.{LineFault}
use Rattle.script_lines.specs.declared.fields.LineFault.TheVariants as fault
use Rattle.script_lines.specs.declared.reason.Refusal.{Refusal}
use Rattle.script_lines.specs.declared.reason.Refusal.TheVariants as refusal
use Rattle.script_lines.specs.Replies.{refusal_reply}
use Rattle.sessions.specs.declared.outcome.Reply.{Reply}
use Rattle.sessions.specs.declared.outcome.Reply.TheVariants.{Nothing, Short, Long}
use Rattle.sessions.specs.declared.outcome.Refused.{Refused}

-- the reason in a reply for the error of a call
abbrev pub refusal_of : ModelError → Refusal
refusal_of error.Unknown = refusal.Unknown
refusal_of error.Range = refusal.Range
refusal_of error.Overlap = refusal.Overlap
refusal_of error.Limit = refusal.Limit
refusal_of error.Memory = refusal.Memory

-- the reason in a reply for the error of a call on several documents
abbrev pub refusal_of_group : GroupError → Refusal
refusal_of_group group.Unknown = refusal.Unknown
refusal_of_group group.Range = refusal.Range
refusal_of_group group.Overlap = refusal.Overlap
refusal_of_group group.Limit = refusal.Limit
refusal_of_group (group.Joint doc) = refusal.Joint doc
refusal_of_group group.Memory = refusal.Memory

-- the reason in a reply for a line that could not be read
abbrev pub refusal_of_fault : LineFault → Refusal
refusal_of_fault fault.Syntax = refusal.Syntax
refusal_of_fault fault.Memory = refusal.Memory

abbrev pub bytes_of : Reply → List ℕ
bytes_of Nothing = []
bytes_of (Short bytes) = bytes
bytes_of (Long bytes) = bytes.items

-- the bytes that are written for a line: its reply, or the reply that refuses it
abbrev pub bytes_of_outcome : Result Reply Refused → List ℕ
bytes_of_outcome (Ok reply) = bytes_of reply
bytes_of_outcome (Err refused) = refusal_reply refused.0

abbrev pub is_memory : Refusal → Bool
is_memory refusal.Memory = true
is_memory refusal.Syntax = false
is_memory refusal.Unknown = false
is_memory refusal.Range = false
is_memory refusal.Overlap = false
is_memory refusal.Limit = false
is_memory (refusal.Gap have need) = false
is_memory (refusal.Joint doc) = false

-- the line was refused since memory was short
abbrev pub is_for_memory : Result Reply Refused → Bool
is_for_memory (Ok reply) = false
is_for_memory (Err refused) = is_memory refused.0

-- the result is these ops, or `Range` if a position is invalid, or `Memory`
abbrev pub AreFound : Result (Vec Op Global) ModelError → Option (List Op) → Type 0
AreFound (Ok ops) rule = rule ≡ Some ops.items
AreFound (Err e) rule = (e ≡ error.Memory) ⊎ ((e ≡ error.Range) × (rule ≡ None))
