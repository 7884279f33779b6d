-- How a whole script is served.
use Rattle.std.proofs.Common.{◌≡◌, ℕ, ◌+◌, ◌-◌, ◌≤◌, ◌<◌, ◌^◌, min, true, false, List, [], ◌∷◌, ◌++◌, length, take, length-append, refl, ap, sym, ◌∙◌, subst, arith, inl, inr, Result, Ok, Err, is_err}
use Rattle.std.specs.Bool.{⊤}
use Rattle.std.proofs.lemmas.Bool.{cases_lt, and_left, and_from, ne_eqb, eq-eqb, lt-ltb}
use Rattle.std.proofs.lemmas.List.{append-nil, nil_from_length, length-take-le}
use Rattle.script_streams.specs.declared.Failed.{Failed}
use Rattle.script_streams.specs.Streams.{SourceState, SinkState, Wrote, Gave, Given, Rose, greatest_count}
use Rattle.script_streams.proofs.StreamLaws.{Wrote-append, Wrote-nothing, Gave-append, Gave-nothing}
use Rattle.script_runner.specs.declared.line.PartialLine.{PartialLine}
use Rattle.script_runner.specs.declared.serving.Progress.{Progress}
use Rattle.sessions.specs.declared.session.Session.{Session}
use Rattle.sessions.specs.Standing.{Turns}
use Rattle.session_rules.specs.Script.{cut, most_line_bytes, whole_lines, all_lines, last_line}
use Rattle.script_runner.specs.Progress.{IsLineSoFar, Led, Broken, LineAnswered, LineBroken, lines_with, PieceAnswered, AnswersPiece}
use Rattle.script_runner.specs.declared.serving.Served.{Served}
use Rattle.script_runner.specs.declared.serving.Served.TheVariants.{Ended, ReadFault, WriteFault, TooLong}
use Rattle.script_runner.specs.Runs.{RoseBy}
use Rattle.script_runner.specs.Serving.{Serves, Finishes, Finished}
use Rattle.script_runner.proofs.LedLemmas.{Counted-push, broken_at, few_refusals, few_memory_refusals, Led-start}

-- ---- the last line

last_line_some : (x : List ℕ) → (length x ≡ 0 → ⊥) → last_line x ≡ x ∷ []
last_line_some [] some = absurd (some refl)
last_line_some (byte ∷ x) some = refl

no_bytes : (line : ℕ) (x : List ℕ) (most : ℕ) → line ≡ min (length x) (most + 1) → line ≡ 0 → length x ≡ 0
no_bytes line x most is none = omega arith

pub nothing_so_far : (line : PartialLine) (bytes : List ℕ) → IsLineSoFar line bytes → line.len ≡ 0 → bytes ≡ []
nothing_so_far line bytes so_far empty = nil_from_length bytes (no_bytes line.len bytes most_line_bytes so_far.len empty)

some_bytes : (line : ℕ) (x : List ℕ) (most : ℕ) → line ≡ min (length x) (most + 1) → (line ≡ 0 → ⊥) → length x ≡ 0 → ⊥
some_bytes line x most is some none = some (omega arith)

pub finish_empty : (state : Session) (progress : Progress) (out : SinkState) → progress.line.len ≡ 0
    → Finished state progress state out out progress.refused progress.memory
finish_empty state progress out empty = record {
  added = [];
  answered = λ start read before led.
      rw (nothing_so_far progress.line (cut read).rest led.line empty, append-nil (whole_lines read), append-nil before) led.counted;
  sink = record { wrote = Wrote-nothing out; faults = refl };
}

module _ (state : Session) (progress : Progress) (state' : Session) (progress' : Progress) (out out' : SinkState) (some : progress.line.len ≡ 0 → ⊥) where
  pub finish_line : LineAnswered [] state progress state' progress' out out' → Finished state progress state' out out' progress'.refused progress'.memory
  finish_line answered = record {
    added = answered.reply;
    answered = λ start read before led.
        rw (last_line_some (cut read).rest (some_bytes progress.line.len (cut read).rest most_line_bytes led.line.len some))
        (Counted-push _ _ _ _ _ _ _ _ _ _ _ led.counted
        (subst (λ line. Turns state line answered.reply state') (append-nil (cut read).rest) (answered.turn _ led.line))
        answered.refused answered.memory);
    sink = answered.sink;
  }

  pub finish_broken : LineBroken [] state progress state' out out' → Broken all_lines state progress state' out out'
  finish_broken broken = record {
    added = broken.sink.front;
    broke = λ start read before led.
        broken_at [] state state' progress progress' out out' broken start read before _ []
        (rw (last_line_some (cut read).rest (some_bytes progress.line.len (cut read).rest most_line_bytes led.line.len some), append-nil (cut read).rest) refl) led;
    wrote = broken.sink.wrote;
    faults = broken.sink.faults;
  }

-- ---- the loop over the source

counted_exactly : (n : ℕ) → n ≤ greatest_count → min n greatest_count ≡ n
counted_exactly n within = omega arith

-- so far these bytes were read and those written, and no fault came
pub record IsServedTo (most left : ℕ) (start now : Session) (progress : Progress) (src src' : SourceState) (out out' : SinkState) : Type 0 where
  pub script : List ℕ
  pub added : List ℕ
  pub gave : Gave src.left src'.left script
  pub wrote : Wrote out out' added
  pub led : Led start script added now progress
  pub read : length script + left ≡ most
  pub given : RoseBy src.given (length script) src'.given
  pub not_ended : left < most → src'.ended ≡ false
  pub source_faults : src'.faults ≡ src.faults
  pub sink_faults : out'.faults ≡ out.faults

pub served_to_start : (most : ℕ) (start : Session) (progress : Progress) (src : SourceState) (out : SinkState)
    → IsLineSoFar progress.line [] → progress.refused ≡ 0 → progress.memory ≡ 0
    → IsServedTo most most start start progress src src out out
served_to_start most start progress src out line refused memory = record {
  script = [];
  added = [];
  gave = Gave-nothing src.left;
  wrote = Wrote-nothing out;
  led = Led-start start progress line refused memory;
  read = omega arith;
  given = inl (omega arith);
  not_ended = λ less. absurd (omega arith);
  source_faults = refl;
  sink_faults = refl;
}

rose_to : (a n m c : ℕ) → c ≡ min (a + n + m) greatest_count → RoseBy a (n + m) c
rose_to a n m c is = elim (cases_lt greatest_count (a + n + m)) [ inl above ↦ inr (omega arith) | inr within ↦ inl (omega arith) ]

rose_more : (a n b m c : ℕ) → RoseBy a n b → c ≡ min (b + m) greatest_count → RoseBy a (n + m) c
rose_more a n b m c (inl rose) is = rose_to a n m c (rw (← rose) is)
rose_more a n b m c (inr top) is = inr (omega arith)

module _ (most left : ℕ) (start now : Session) (progress : Progress) (src src' : SourceState) (out out' : SinkState)
    (before : IsServedTo most left start now progress src src' out out') (src'' : SourceState) where
  module _ (n : ℕ) (buf : List ℕ) (given : Given n src' src'' buf) where
    gave_more : Gave src.left src''.left (before.script ++ take n buf)
    gave_more = Gave-append _ _ _ _ _ before.gave given.bytes

    length_given : length (take n buf) ≡ n
    length_given = length-take-le n buf given.within

    given_more : RoseBy src.given (length (before.script ++ take n buf)) src''.given
    given_more = subst (λ k. RoseBy src.given k src''.given) (sym (length-append before.script (take n buf) ∙ ap (λ k. length before.script + k) length_given))
        (rose_more src.given (length before.script) src'.given n src''.given before.given given.given)

    -- some bytes came, and the lines that they complete are answered
    pub served_to_more : 0 < n → n ≤ left → (now' : Session) (progress' : Progress) (out'' : SinkState)
        → PieceAnswered (take n buf) now progress now' progress' out' out''
        → IsServedTo most (left - n) start now' progress' src src'' out out''
    served_to_more some within now' progress' out'' answered = record {
      script = before.script ++ take n buf;
      added = before.added ++ answered.added;
      gave = gave_more;
      wrote = Wrote-append _ _ _ _ _ before.wrote answered.sink.wrote;
      led = answered.went start before.script before.added before.led;
      read = omega (arith, before.read, length_given, length-append before.script (take n buf));
      given = given_more;
      not_ended = λ less. given.ended ∙ and_left _ _ (ne_eqb n 0 (λ none. omega arith));
      source_faults = given.faults ∙ before.source_faults;
      sink_faults = answered.sink.faults ∙ before.sink_faults;
    }

    -- some bytes came, and a reply was not written whole
    pub served_to_write_fault : 0 < n → n ≤ left → (now' : Session) (out'' : SinkState) → Broken (lines_with (take n buf)) now progress now' out' out''
        → Serves WriteFault most start now' src src'' out out''
    served_to_write_fault some within now' out'' broken = record {
      script = before.script ++ take n buf;
      gave = gave_more;
      given = given_more;
      bytes = before.added ++ broken.added;
      writes = rw (given.ended ∙ and_left _ _ (ne_eqb n 0 (λ none. omega arith)))
          (broken.broke start before.script before.added before.led);
      wrote = Wrote-append _ _ _ _ _ before.wrote broken.wrote;
      leaves = (
        omega (arith, before.read, length_given, length-append before.script (take n buf)),
        given.faults ∙ before.source_faults,
        subst (λ k. Rose k out''.faults) before.sink_faults broken.faults,
      );
    }

    module _ (none : n ≡ 0) (room : 0 < length buf) where
      gave_all : Gave src.left src''.left before.script
      gave_all = subst (λ x. Gave src.left src''.left x) (rw (none, append-nil before.script) refl) gave_more

      given_all : RoseBy src.given (length before.script) src''.given
      given_all = subst (λ x. RoseBy src.given (length x) src''.given) (rw (none, append-nil before.script) refl) given_more

      end_seen : src''.ended ≡ true
      end_seen = given.ended ∙ and_from _ _ (eq-eqb n 0 none) (lt-ltb 0 (length buf) room)

      -- the end came, and the last line is answered
      pub served_to_end : most < 2 ^ 64 → 0 < left → (now' : Session) (out'' : SinkState) (refused memory : ℕ)
          → Finished now progress now' out' out'' refused memory → Serves (Ended refused memory) most start now' src src'' out out''
      served_to_end small more now' out'' refused memory finished =
          let all = finished.answered start before.script before.added before.led in
          let few = few_refusals _ before.script all.whole.replies _ all.whole.answers in
          let few_memory = few_memory_refusals _ before.script all.whole.replies _ all.whole.answers in
          let within : length before.script ≤ most = omega (arith, before.read) in
          record {
            script = before.script;
            gave = gave_all;
            given = given_all;
            bytes = before.added ++ finished.added;
            writes = (all.whole, all.refused_is ∙ counted_exactly _ (omega arith), all.memory_is ∙ counted_exactly _ (omega arith));
            wrote = Wrote-append _ _ _ _ _ before.wrote finished.sink.wrote;
            leaves = (
              omega (arith, before.read),
              end_seen,
              given.nothing_left none room,
              given.faults ∙ before.source_faults,
              finished.sink.faults ∙ before.sink_faults,
            );
          }

      -- the end came, and the reply to the last line was not written whole
      pub served_to_broken_end : (now' : Session) (out'' : SinkState) → Broken all_lines now progress now' out' out''
          → Serves WriteFault most start now' src src'' out out''
      served_to_broken_end now' out'' broken = record {
        script = before.script;
        gave = gave_all;
        given = given_all;
        bytes = before.added ++ broken.added;
        writes = rw end_seen (broken.broke start before.script before.added before.led);
        wrote = Wrote-append _ _ _ _ _ before.wrote broken.wrote;
        leaves = (
          omega (arith, before.read),
          given.faults ∙ before.source_faults,
          subst (λ k. Rose k out''.faults) before.sink_faults broken.faults,
        );
      }

-- how the script ended, where nothing more was given
pub serves_end : (served : Served) (most left : ℕ) (start now now' : Session) (progress : Progress) (src src' src'' : SourceState) (out out' out'' : SinkState)
    → IsServedTo most left start now progress src src' out out' → (n : ℕ) (buf : List ℕ) → Given n src' src'' buf → n ≡ 0 → 0 < length buf → most < 2 ^ 64 → 0 < left
    → Finishes served now progress now' out' out'' → Serves served most start now' src src'' out out''
serves_end (Ended refused memory) most left start now now' progress src src' src'' out out' out'' before n buf given none room small more finished =
    served_to_end _ _ _ _ _ _ _ _ _ before src'' n buf given none room small more now' out'' refused memory finished
serves_end WriteFault most left start now now' progress src src' src'' out out' out'' before n buf given none room small more broken =
    served_to_broken_end _ _ _ _ _ _ _ _ _ before src'' n buf given none room now' out'' broken
serves_end ReadFault most left start now now' progress src src' src'' out out' out'' before n buf given none room small more never = absurd never
serves_end TooLong most left start now now' progress src src' src'' out out' out'' before n buf given none room small more never = absurd never

-- how a piece was answered, by the test of its result
module _ (r : Result ⊤ Failed) (piece : List ℕ) (state : Session) (progress : Progress) (state' : Session) (progress' : Progress) (out out' : SinkState) where
  pub piece_broken_at_err : is_err r ≡ true → AnswersPiece r piece state progress state' progress' out out' → Broken (lines_with piece) state progress state' out out'
  piece_broken_at_err e h = elim r as (λ r. is_err r ≡ true → AnswersPiece r piece state progress state' progress' out out' → Broken (lines_with piece) state progress state' out out')
      [ Ok x ↦ λ e h. cc | Err failed ↦ λ e h. h ] e h

  pub piece_answered_at_ok : is_err r ≡ false → AnswersPiece r piece state progress state' progress' out out' → PieceAnswered piece state progress state' progress' out out'
  piece_answered_at_ok e h = elim r as (λ r. is_err r ≡ false → AnswersPiece r piece state progress state' progress' out out' → PieceAnswered piece state progress state' progress' out out')
      [ Ok x ↦ λ e h. h | Err failed ↦ λ e h. cc ] e h
