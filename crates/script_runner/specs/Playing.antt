-- What `play COUNT SEED` does, by the exit status of the program.
use Rattle.std.specs.Prelude.{◌≡◌, ℕ, ◌^◌, ◌%◌, ◌<◌, List, ◌++◌, length, sum, codes, decimal, ⊤}
use Rattle.document_rules.specs.Document.{flat_line_count}
use Rattle.script_streams.specs.Streams.{SinkState, TakenWhole, Cut}
use Rattle.script_play.specs.Script.{script}
use Rattle.script_runner.specs.declared.playing.Summary.{Summary}
use Rattle.script_runner.specs.declared.running.Status.{Status}
use Rattle.script_runner.specs.declared.running.Status.TheVariants as status
use Rattle.script_runner.specs.declared.serving.Served.{Served}
use Rattle.script_runner.specs.declared.serving.Served.TheVariants.{Ended, ReadFault, WriteFault, TooLong}
use Rattle.group_rules.specs.Group.{doc_in}
use Rattle.session_rules.specs.Session.{FlatSession, new_session}
use Rattle.session_rules.specs.Script.{all_lines, written, Transcript}
use Rattle.script_runner.specs.Runs.{refusals, memory_refusals, EndsWith}

-- a word of the line with its number
abbrev pub part : List ℕ → ℕ → List ℕ
part word number = word ++ decimal number

abbrev pub summary_line : ℕ → ℕ → ℕ → ℕ → ℕ → ℕ → List ℕ
summary_line count refused units lines bytes total =
    part (codes "commands ") count ++ part (codes " refused ") refused ++ part (codes " units ") units
    ++ part (codes " lines ") lines ++ part (codes " bytes ") bytes ++ part (codes " sum ") total ++ codes "\n"

abbrev pub line_of : Summary → List ℕ
line_of s = summary_line s.count s.refused s.units s.lines s.bytes s.total

-- The lines of the script were answered one by one, none with `! memory`, and the numbers are those of the replies and the text.
pub record SumsUp (summary : Summary) (count seed : ℕ) : Type 0 where
  pub replies : List (List ℕ)
  pub end : FlatSession
  pub transcript : Transcript new_session (all_lines (script count seed)) replies end
  pub had_memory : memory_refusals replies ≡ 0
  pub count_is : summary.count ≡ count
  -- how many replies begin with `!`
  pub refused_is : summary.refused ≡ refusals replies
  -- the text of document 0 at the end
  pub units_are : summary.units ≡ length (doc_in end.documents 0).units
  pub lines_are : summary.lines ≡ flat_line_count (doc_in end.documents 0)
  -- the number and the sum of the bytes of all replies
  pub bytes_are : summary.bytes ≡ length (written replies) % 2 ^ 32
  pub total_is : summary.total ≡ sum (written replies) % 2 ^ 32

-- the line was written whole, and the status tells whether a reply began with `!`; or the write failed after a part of the line
abbrev pub Shows : Status → Summary → SinkState → SinkState → Type 0
Shows status.Answered summary out out' = (summary.refused ≡ 0) × TakenWhole out out' (line_of summary)
Shows status.Refused summary out out' = (0 < summary.refused) × TakenWhole out out' (line_of summary)
Shows status.WriteFault summary out out' = Cut out out' (line_of summary)
Shows status.Memory summary out out' = ⊥
Shows status.Usage summary out out' = ⊥
Shows status.ReadFault summary out out' = ⊥
Shows status.TooLong summary out out' = ⊥

abbrev pub Plays : Status → ℕ → ℕ → SinkState → SinkState → Type 0
-- every line of the script was answered, and no reply begins with `!`
Plays status.Answered count seed out out' = (s : Summary) × SumsUp s count seed × Shows status.Answered s out out'
-- every line of the script was answered, and some reply begins with `!`
Plays status.Refused count seed out out' = (s : Summary) × SumsUp s count seed × Shows status.Refused s out out'
Plays status.WriteFault count seed out out' = (s : Summary) × SumsUp s count seed × Shows status.WriteFault s out out'
-- there was no memory to begin, or for some reply, and nothing was written
Plays status.Memory count seed out out' = out' ≡ out
-- does not happen: the arguments are a command, and the script is read and answered without a fault
Plays status.Usage count seed out out' = ⊥
Plays status.ReadFault count seed out out' = ⊥
Plays status.TooLong count seed out out' = ⊥

-- `Plays` by the number of the status
abbrev pub EndsPlay : ℕ → ℕ → ℕ → SinkState → SinkState → Type 0
EndsPlay number count seed out out' = EndsWith number (λ status. Plays status count seed out out')

-- the script was read to its end, and every reply written
abbrev pub HasEnded : Served → Type 0
HasEnded (Ended refused memory) = ⊤
HasEnded ReadFault = ⊥
HasEnded WriteFault = ⊥
HasEnded TooLong = ⊥
