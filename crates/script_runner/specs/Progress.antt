-- The state of the loop over a script, for any bytes read before.
use Rattle.std.specs.Prelude.{◌≡◌, ℕ, ◌+◌, ◌≤◌, min, false, List, [], ◌∷◌, ◌++◌, length, Result, Ok, Err, ⊤}
use Rattle.script_streams.specs.declared.Failed.{Failed}
use Rattle.script_streams.specs.Streams.{SinkState, greatest_count, Rose, Wrote, TakenWhole, Cut}
use Rattle.script_runner.specs.declared.line.PartialLine.{PartialLine}
use Rattle.script_runner.specs.declared.serving.Progress.{Progress}
use Rattle.sessions.specs.declared.session.Session.{Session}
use Rattle.sessions.specs.Standing.{Turns, Replied}
use Rattle.session_rules.specs.Script.{cut, whole_lines, most_line_bytes, is_blank}
use Rattle.script_runner.specs.Runs.{refusals, memory_refusals, WholeReplies, CutReplies}

-- the bytes of a line so far; they are kept up to the limit, unless memory is short
pub record IsLineSoFar (line : PartialLine) (bytes : List ℕ) : Type 0 where
  pub len : line.len ≡ min (length bytes) (most_line_bytes + 1)
  pub blank : line.is_blank ≡ is_blank bytes
  pub kept : line.is_lost ≡ false → length bytes ≤ most_line_bytes → line.bytes.items ≡ bytes

-- These lines were answered, and the numbers are those of the replies, up to the greatest count.
pub record Counted (start : Session) (lines : List (List ℕ)) (out : List ℕ) (now : Session) (refused memory : ℕ) : Type 0 where
  pub whole : WholeReplies Replied start lines out now
  pub refused_is : refused ≡ min (refusals whole.replies) greatest_count
  pub memory_is : memory ≡ min (memory_refusals whole.replies) greatest_count

-- From this start, reading `read` wrote `out` and led to this session and this progress.
pub record Led (start : Session) (read out : List ℕ) (now : Session) (progress : Progress) : Type 0 where
  pub counted : Counted start (whole_lines read) out now progress.refused progress.memory
  pub line : IsLineSoFar progress.line (cut read).rest

-- From any start: after reading `bytes` and writing `added` the loop is in the new state.
abbrev pub Went : Session → Progress → List ℕ → List ℕ → Session → Progress → Type 0
Went state progress bytes added state' progress' =
    (start : Session) (read out : List ℕ) → Led start read out state progress
    → Led start (read ++ bytes) (out ++ added) state' progress'

-- From any start: a write failed after `added`, on a reply to one of these lines.
abbrev pub Broke : (List ℕ → List (List ℕ)) → Session → Progress → List ℕ → Session → Type 0
Broke lines state progress added state' = (start : Session) (read out : List ℕ) → Led start read out state progress
    → CutReplies Replied start (lines read) (out ++ added) state'

-- `Broke` with the sink that failed
pub record Broken (lines : List ℕ → List (List ℕ)) (state : Session) (progress : Progress)
    (state' : Session) (out out' : SinkState) : Type 0 where
  pub added : List ℕ
  pub broke : Broke lines state progress added state'
  pub wrote : Wrote out out' added
  pub faults : Rose out.faults out'.faults

-- ---- one line

-- the line that ends with these bytes was answered, and the next one begins
pub record LineAnswered (end : List ℕ) (state : Session) (progress : Progress)
    (state' : Session) (progress' : Progress) (out out' : SinkState) : Type 0 where
  pub reply : List ℕ
  pub turn : (line : List ℕ) → IsLineSoFar progress.line line → Turns state (line ++ end) reply state'
  pub sink : TakenWhole out out' reply
  pub line : IsLineSoFar progress'.line []
  pub refused : progress'.refused ≡ min (progress.refused + refusals (reply ∷ [])) greatest_count
  pub memory : progress'.memory ≡ min (progress.memory + memory_refusals (reply ∷ [])) greatest_count

-- the line that ends with these bytes was answered, but the write of its reply failed
pub record LineBroken (end : List ℕ) (state : Session) (progress : Progress)
    (state' : Session) (out out' : SinkState) : Type 0 where
  pub reply : List ℕ
  pub turn : (line : List ℕ) → IsLineSoFar progress.line line → Turns state (line ++ end) reply state'
  pub sink : Cut out out' reply

abbrev pub AnswersLine : Result ⊤ Failed → List ℕ → Session → Progress → Session → Progress → SinkState → SinkState → Type 0
AnswersLine (Ok x) end state progress state' progress' out out' = LineAnswered end state progress state' progress' out out'
AnswersLine (Err failed) end state progress state' progress' out out' = LineBroken end state progress state' out out'

-- ---- a piece of the script, cut anywhere

pub record PieceAnswered (piece : List ℕ) (state : Session) (progress : Progress)
    (state' : Session) (progress' : Progress) (out out' : SinkState) : Type 0 where
  pub added : List ℕ
  pub went : Went state progress piece added state' progress'
  pub sink : TakenWhole out out' added

-- the lines that are complete at the end of the piece
abbrev pub lines_with : List ℕ → List ℕ → List (List ℕ)
lines_with piece read = whole_lines (read ++ piece)

abbrev pub AnswersPiece : Result ⊤ Failed → List ℕ → Session → Progress → Session → Progress → SinkState → SinkState → Type 0
AnswersPiece (Ok x) piece state progress state' progress' out out' = PieceAnswered piece state progress state' progress' out out'
AnswersPiece (Err failed) piece state progress state' progress' out out' = Broken (lines_with piece) state progress state' out out'
