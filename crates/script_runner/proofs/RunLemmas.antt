-- What a run of the program comes to.
use Rattle.std.proofs.Common.{◌≡◌, ℕ, zero, suc, ◌+◌, ◌≤◌, ◌<◌, Bool, true, false, ◌||◌, cond, List, [], ◌∷◌, ◌++◌, Option, Some, None, refl, ap, sym, ◌∙◌, subst, arith}
use Rattle.std.specs.List.{list_any}
use Rattle.std.proofs.lemmas.Bool.{lt-ltb}
use Rattle.std.proofs.lemmas.List.{append-nil}
use Rattle.std.proofs.lemmas.List.Sums.{sum_by-cons}
use Rattle.script_streams.specs.Streams.{SourceState, SinkState, Gave, NothingLeft, Took, Wrote}
use Rattle.script_runner.specs.declared.running.Status.TheVariants as status
use Rattle.script_runner.specs.declared.serving.Served.{Served}
use Rattle.script_runner.specs.declared.serving.Served.TheVariants.{Ended, ReadFault, WriteFault, TooLong}
use Rattle.sessions.specs.declared.session.Session.{Session}
use Rattle.session_rules.specs.Session.{FlatSession, new_session}
use Rattle.session_rules.specs.Script.{all_lines, written, is_refused, Transcript}
use Rattle.sessions.specs.Standing.{Replied, Represents}
use Rattle.script_runner.specs.Serving.{Serves, status_after}
use Rattle.script_runner.specs.Runs.{most_script_bytes, refusals, WholeReplies, WritesBy, ServesBy, ServesNew, EndsWith, Runs, IsAnswered, IsTold}

-- ---- from a session to the flat one that it represents

module _ (start end : Session) (flat : FlatSession) (stands : Represents start flat) where
  whole_flat : (lines : List (List ℕ)) (bytes : List ℕ) → WholeReplies Replied start lines bytes end
      → (next : FlatSession) × WholeReplies Transcript flat lines bytes next
  whole_flat lines bytes whole =
      let told = whole.answers.told flat stands in
      (told.0, record { replies = whole.replies; answers = told.1; bytes_are = whole.bytes_are })

  writes_flat : (served : Served) (ended : Bool) (script bytes : List ℕ) → WritesBy Replied served start ended script bytes end
      → (next : FlatSession) × WritesBy Transcript served flat ended script bytes next
  writes_flat (Ended refused memory) ended script bytes (whole, counted, for_memory) =
      let told = whole.answers.told flat stands in
      (told.0, (record { replies = whole.replies; answers = told.1; bytes_are = whole.bytes_are }, counted, for_memory))
  writes_flat ReadFault ended script bytes whole = whole_flat _ bytes whole
  writes_flat TooLong ended script bytes whole = whole_flat _ bytes whole
  writes_flat WriteFault ended script bytes cut =
      let was = cut.answers.told flat stands in
      let now = cut.last.told was.0 was.2 in (
        now.0,
        record {
          done = cut.done;
          line = cut.line;
          others = cut.others;
          lines_are = cut.lines_are;
          replies = cut.replies;
          mid = was.0;
          answers = was.1;
          reply = cut.reply;
          last = now.1;
          front = cut.front;
          starts = cut.starts;
          bytes_are = cut.bytes_are;
        },
      )

module _ (src src' : SourceState) (out out' : SinkState) where
  pub serves_new : (served : Served) (start end : Session) → Represents start new_session
      → Serves served most_script_bytes start end src src' out out' → ServesNew served src src' out out'
  serves_new served start end new serves =
      let flat = writes_flat start end new_session new served src'.ended serves.script serves.bytes serves.writes in (
        flat.0,
        record {
          script = serves.script;
          gave = serves.gave;
          given = serves.given;
          bytes = serves.bytes;
          writes = flat.1;
          wrote = serves.wrote;
          leaves = serves.leaves;
        },
      )

  -- the status after serving tells what stands
  pub runs_after : (served : Served) → ServesNew served src src' out out' → Runs (status_after served) src src' out out'
  runs_after (Ended zero memory) served = (memory, served)
  runs_after (Ended (suc more) memory) served = rw (lt-ltb 0 (suc more) (omega arith)) (more, memory, served)
  runs_after ReadFault served = served
  runs_after WriteFault served = served
  runs_after TooLong served = served

-- ---- whether a reply begins with `!`

-- a reply begins with `!` where some are counted
counted : (here : Bool) (n : ℕ) (more : Bool) → (n ≡ 0 → more ≡ false) → (0 < n → more ≡ true)
    → let m = cond here 1 0 + n in (m ≡ 0 → (here || more) ≡ false) × (0 < m → (here || more) ≡ true)
counted true n more none some = (λ e. absurd (omega arith), λ e. refl)
counted false n more none some = (λ e. none (omega arith), λ e. some (omega arith))

any_refused : (replies : List (List ℕ)) → (refusals replies ≡ 0 → list_any is_refused replies ≡ false) × (0 < refusals replies → list_any is_refused replies ≡ true)
any_refused [] = (λ e. refl, λ e. absurd (omega arith))
any_refused (reply ∷ replies) =
    let rest = any_refused replies in
    rw sum_by-cons (counted (is_refused reply) (refusals replies) (list_any is_refused replies) rest.0 rest.1)

pub whole_script : (left : Option (List ℕ)) (script read : List ℕ) → Gave (Some script) left read → NothingLeft left → read ≡ script
whole_script None script read gave none = absurd gave
whole_script (Some rest) script read gave none = sym (gave ∙ ap (λ x. read ++ x) none ∙ append-nil read)

-- the replies to all lines of the script were written
pub record IsWritten (script : List ℕ) (out out' : SinkState) (number : ℕ) : Type 0 where
  pub replies : List (List ℕ)
  pub end : FlatSession
  pub transcript : Transcript new_session (all_lines script) replies end
  pub status : number ≡ cond (list_any is_refused replies) 1 0
  pub wrote : Wrote out out' (written replies)

module _ (src src' : SourceState) (out out' : SinkState) (script : List ℕ) (left : src.left ≡ Some script) where
  written_is : (number refused memory : ℕ) (end : FlatSession)
      → ServesBy Transcript (Ended refused memory) most_script_bytes new_session end src src' out out'
      → ((replies : List (List ℕ)) → refused ≡ refusals replies → number ≡ cond (list_any is_refused replies) 1 0) → IsWritten script out out' number
  written_is number refused memory end served status =
      let all = whole_script src'.left script served.script
      (subst (λ left. Gave left src'.left served.script) left served.gave) served.leaves.2 in
      let whole = served.writes.0 in
      record {
        replies = whole.replies;
        end = end;
        transcript = subst (λ x. Transcript new_session (all_lines x) whole.replies end) all whole.answers;
        status = status whole.replies served.writes.1;
        wrote = subst (λ x. Wrote out out' x) whole.bytes_are served.wrote;
      }

  -- a run that ends with 0 or 1 answered the whole script
  pub written_from_run : (number : ℕ) → number ≤ 1 → EndsWith number (λ s. Runs s src src' out out') → IsWritten script out out' number
  written_from_run number few (status.Answered, is, (memory, (end, served))) =
      written_is number 0 memory end served (λ replies none. is ∙ sym (rw ((any_refused replies).0 (sym none)) refl))
  written_from_run number few (status.Refused, is, (more, memory, (end, served))) =
      written_is number (suc more) memory end served (λ replies some. is ∙ sym (rw ((any_refused replies).1 (omega arith)) refl))
  written_from_run number few (status.Usage, is, never) = absurd never
  written_from_run number few (status.Memory, is, same) = absurd (omega arith)
  written_from_run number few (status.ReadFault, is, fault) = absurd (omega arith)
  written_from_run number few (status.WriteFault, is, fault) = absurd (omega arith)
  written_from_run number few (status.TooLong, is, long) = absurd (omega arith)

module _ (out out' : SinkState) (script before : List ℕ) (number : ℕ) (w : IsWritten script out out' number) (taken : out.taken ≡ Some before) where
  pub answered_from_written : (after : List ℕ) → out'.taken ≡ Some after → IsAnswered script before after number
  answered_from_written after takes = record {
    replies = w.replies;
    end = w.end;
    transcript = w.transcript;
    grown = subst (λ t. Took (Some before) t (written w.replies)) takes (subst (λ t. Took t out'.taken (written w.replies)) taken w.wrote.took);
    status = w.status;
  }

  pub told_from_written : IsTold script before out out' number
  told_from_written = record {
    replies = w.replies;
    end = w.end;
    transcript = w.transcript;
    status = w.status;
    told = w.wrote.told before taken;
  }
