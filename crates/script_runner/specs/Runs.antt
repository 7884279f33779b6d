-- What a run of the program does, by its exit status.
use Rattle.std.specs.Prelude.{◌≡◌, ℕ, suc, ◌+◌, ◌^◌, ◌<◌, ◌≤◌, ◌⊎◌, Bool, true, false, if◌then◌else◌, List, [], ◌∷◌, ◌++◌, length, count_by, Some, codes}
use Rattle.std.specs.List.{list_any}
use Rattle.std.specs.Str.{bytes_eq}
use Rattle.script_streams.specs.Streams.{SourceState, SinkState, greatest_count, Gave, NothingLeft, Wrote, Rose, StartsWith, TakenWhole, Cut}
use Rattle.script_runner.specs.declared.running.Status.{Status}
use Rattle.script_runner.specs.declared.running.Status.TheVariants as status
use Rattle.script_runner.specs.declared.serving.Served.{Served}
use Rattle.script_runner.specs.declared.serving.Served.TheVariants.{Ended, ReadFault, WriteFault, TooLong}
use Rattle.session_rules.specs.Session.{FlatSession, new_session}
use Rattle.session_rules.specs.Step.{memory_reply}
use Rattle.session_rules.specs.Script.{whole_lines, all_lines, written, is_refused, Transcript}

abbrev pub usage_line : List ℕ
usage_line = codes "usage: textmodel run | textmodel play COUNT SEED\n"

-- a script has fewer bytes than this
abbrev pub most_script_bytes : ℕ
most_script_bytes = 2 ^ 40

-- the number of a status
abbrev pub number_of : Status → ℕ
number_of status.Answered = 0
number_of status.Refused = 1
number_of status.Usage = 2
number_of status.Memory = 3
number_of status.ReadFault = 4
number_of status.WriteFault = 5
number_of status.TooLong = 6

-- the number of a status of which `Holds` holds
abbrev pub EndsWith : ℕ → (Status → Type 0) → Type 0
EndsWith number Holds = (s : Status) × (number ≡ number_of s) × Holds s

-- The arguments are no command: the usage line was written, or only a part of it if the write failed, or nothing if there was no memory to
-- read the arguments.
abbrev pub ShowsUsage : Status → SinkState → SinkState → Type 0
ShowsUsage status.Usage err err' = TakenWhole err err' usage_line
ShowsUsage status.WriteFault err err' = Cut err err' usage_line
ShowsUsage status.Memory err err' = err' ≡ err
ShowsUsage status.Answered err err' = ⊥
ShowsUsage status.Refused err err' = ⊥
ShowsUsage status.ReadFault err err' = ⊥
ShowsUsage status.TooLong err err' = ⊥

-- the written bytes are the replies to all lines of the script, and the status tells whether one begins with `!`
pub record IsAnswered (script before after : List ℕ) (number : ℕ) : Type 0 where
  pub replies : List (List ℕ)
  pub end : FlatSession
  pub transcript : Transcript new_session (all_lines script) replies end
  pub grown : after ≡ before ++ written replies
  pub status : number ≡ (if list_any is_refused replies then 1 else 0)

-- The replies to all lines of the script were written. A sink that told its bytes before tells these too if it has room for them.
pub record IsTold (script before : List ℕ) (out out' : SinkState) (number : ℕ) : Type 0 where
  pub replies : List (List ℕ)
  pub end : FlatSession
  pub transcript : Transcript new_session (all_lines script) replies end
  pub status : number ≡ (if list_any is_refused replies then 1 else 0)
  pub told : length before + length (written replies) ≤ out.room
      → out'.taken ≡ Some (before ++ written replies)

-- if the source tells its script, and the sink its bytes before and after
abbrev pub IsAnsweredFrom : SourceState → SinkState → SinkState → ℕ → Type 0
IsAnsweredFrom src out out' number = (script before after : List ℕ)
    → src.left ≡ Some script → out.taken ≡ Some before → out'.taken ≡ Some after → IsAnswered script before after number

-- if the source tells its script, and the sink its bytes before
abbrev pub IsToldFrom : SourceState → SinkState → SinkState → ℕ → Type 0
IsToldFrom src out out' number = (script before : List ℕ)
    → src.left ≡ Some script → out.taken ≡ Some before → IsTold script before out out' number

-- no read ever fails
abbrev pub ReadsWell : {S : Type 0} → (S → SourceState) → Type 0
ReadsWell {S} state = (s : S) → (state s).faults ≡ 0

-- no write ever fails
abbrev pub WritesWell : {K : Type 0} → (K → SinkState) → Type 0
WritesWell {K} state = (k : K) → (state k).faults ≡ 0

-- a script within the limit is answered, unless there is no memory to begin
abbrev pub IsAnsweredWithin : SourceState → ℕ → Type 0
IsAnsweredWithin src number = (script : List ℕ) → src.left ≡ Some script → length script < most_script_bytes
    → (number ≤ 1) ⊎ (number ≡ 3)

-- ---- what was written for a script, by streams that tell and by others

-- how many replies begin with `!`
abbrev pub refusals : List (List ℕ) → ℕ
refusals replies = count_by is_refused replies

-- how many of these are `! memory`
abbrev pub memory_refusals : List (List ℕ) → ℕ
memory_refusals replies = count_by (bytes_eq memory_reply) replies

-- a count that went up by `by`, or has its greatest value
abbrev pub RoseBy : ℕ → ℕ → ℕ → Type 0
RoseBy old by new = (new ≡ old + by) ⊎ (new ≡ greatest_count)

-- the lines that were read: an unfinished last line counts if the end was seen
abbrev pub lines_read : Bool → List ℕ → List (List ℕ)
lines_read ended script = if ended then all_lines script else whole_lines script

-- a relation of lines and replies, from one state to another: `Transcript` for flat states
abbrev pub Answering : Type 0 → Type 1
Answering E = E → List (List ℕ) → List (List ℕ) → E → Type 0

-- the bytes are whole replies that answer the lines one by one
pub record WholeReplies {E : Type 0} (Answers : Answering E) (start : E) (lines : List (List ℕ)) (bytes : List ℕ) (end : E) : Type 0 where
  pub replies : List (List ℕ)
  pub answers : Answers start lines replies end
  pub bytes_are : bytes ≡ written replies

-- the bytes are whole replies to the first lines, and a part of the reply to the next one
pub record CutReplies {E : Type 0} (Answers : Answering E) (start : E) (lines : List (List ℕ)) (bytes : List ℕ) (end : E) : Type 0 where
  pub done : List (List ℕ)
  pub line : List ℕ
  pub others : List (List ℕ)
  pub lines_are : lines ≡ done ++ line ∷ others
  pub replies : List (List ℕ)
  pub mid : E
  pub answers : Answers start done replies mid
  pub reply : List ℕ
  pub last : Answers mid (line ∷ []) (reply ∷ []) end
  pub front : List ℕ
  pub starts : StartsWith reply front
  pub bytes_are : bytes ≡ written replies ++ front

-- the bytes written for the script, by how serving it ended
abbrev pub WritesBy : {E : Type 0} → Answering E → Served → E → Bool → List ℕ → List ℕ → E → Type 0
-- the replies to all lines, with the numbers of those that begin with `!` and that are `! memory`
WritesBy Answers (Ended refused memory) start ended script bytes end = (whole : WholeReplies Answers start (all_lines script) bytes end)
    × (refused ≡ refusals whole.replies) × (memory ≡ memory_refusals whole.replies)
-- the replies to the lines that end with LF
WritesBy Answers ReadFault start ended script bytes end = WholeReplies Answers start (whole_lines script) bytes end
WritesBy Answers TooLong start ended script bytes end = WholeReplies Answers start (whole_lines script) bytes end
-- some whole replies, and a part of the next one
WritesBy Answers WriteFault start ended script bytes end = CutReplies Answers start (lines_read ended script) bytes end

-- how many bytes were read, at most `most`, and the source and the sink afterwards
abbrev pub LeavesBy : Served → ℕ → ℕ → SourceState → SourceState → SinkState → SinkState → Type 0
-- the end was seen before the limit, and no call failed
LeavesBy (Ended refused memory) most read src src' out out' =
    (read < most) × (src'.ended ≡ true) × NothingLeft src'.left × (src'.faults ≡ src.faults) × (out'.faults ≡ out.faults)
-- a read failed
LeavesBy ReadFault most read src src' out out' =
    (read < most) × (src'.ended ≡ false) × Rose src.faults src'.faults × (out'.faults ≡ out.faults)
-- a write failed
LeavesBy WriteFault most read src src' out out' = (read ≤ most) × (src'.faults ≡ src.faults) × Rose out.faults out'.faults
-- the limit of bytes was read, and the end was not seen
LeavesBy TooLong most read src src' out out' =
    (read ≡ most) × (0 < most → src'.ended ≡ false) × (src'.faults ≡ src.faults) × (out'.faults ≡ out.faults)

-- the bytes read from the source, at most `most`, and those written to the sink, by how serving ended
pub record ServesBy {E : Type 0} (Answers : Answering E) (served : Served) (most : ℕ) (start end : E)
    (src src' : SourceState) (out out' : SinkState) : Type 0 where
  pub script : List ℕ
  pub gave : Gave src.left src'.left script
  pub given : RoseBy src.given (length script) src'.given
  pub bytes : List ℕ
  pub writes : WritesBy Answers served start src'.ended script bytes end
  pub wrote : Wrote out out' bytes
  pub leaves : LeavesBy served most (length script) src src' out out'

-- `ServesBy` for flat documents, from new ones on
abbrev pub ServesNew : Served → SourceState → SourceState → SinkState → SinkState → Type 0
ServesNew served src src' out out' = (end : FlatSession) × ServesBy Transcript served most_script_bytes new_session end src src' out out'

abbrev pub Runs : Status → SourceState → SourceState → SinkState → SinkState → Type 0
-- every line of the script was answered, and no reply begins with `!`
Runs status.Answered src src' out out' = (memory : ℕ) × ServesNew (Ended 0 memory) src src' out out'
-- every line of the script was answered, and some reply begins with `!`
Runs status.Refused src src' out out' = (more memory : ℕ) × ServesNew (Ended (suc more) memory) src src' out out'
-- there was no memory to begin, and nothing was read or written
Runs status.Memory src src' out out' = (src' ≡ src) × (out' ≡ out)
Runs status.ReadFault src src' out out' = ServesNew ReadFault src src' out out'
Runs status.WriteFault src src' out out' = ServesNew WriteFault src src' out out'
Runs status.TooLong src src' out out' = ServesNew TooLong src src' out out'
-- does not happen: `run` is a command
Runs status.Usage src src' out out' = ⊥

-- `Runs` by the number of the status
abbrev pub EndsRun : ℕ → SourceState → SourceState → SinkState → SinkState → Type 0
EndsRun number src src' out out' = EndsWith number (λ status. Runs status src src' out out')
