-- How a script is answered, line by line and piece by piece.
use Rattle.std.proofs.Common.{◌≡◌, ℕ, ◌+◌, ◌≤◌, min, List, [], ◌∷◌, ◌++◌, length, length-append, append_assoc, refl, ap, sym, ◌∙◌, subst, arith}
use Rattle.std.specs.Str.{bytes_eq}
use Rattle.std.proofs.lemmas.List.{append-nil}
use Rattle.std.proofs.lemmas.List.Concat.{flat_map-append}
use Rattle.std.proofs.lemmas.List.Sums.{sum_by-append, count_by-le-length}
use Rattle.script_streams.specs.Streams.{SinkState, TakenWhole, Rose, greatest_count}
use Rattle.script_streams.proofs.StreamLaws.{Wrote-append, Wrote-nothing}
use Rattle.script_runner.specs.declared.serving.Progress.{Progress}
use Rattle.sessions.specs.declared.session.Session.{Session}
use Rattle.session_rules.specs.Session.{FlatSession}
use Rattle.sessions.specs.Standing.{Turns, Replied}
use Rattle.session_rules.specs.Script.{cut, is_refused, whole_lines, all_lines, written, IsInOneLine, Turn, Transcript}
use Rattle.script_runner.specs.Runs.{refusals, memory_refusals, CutReplies}
use Rattle.script_runner.specs.Progress.{IsLineSoFar, Counted, Led, Went, Broke, Broken, LineAnswered, LineBroken, lines_with, PieceAnswered}
use Rattle.session_rules.specs.Step.{memory_reply}
use Rattle.session_rules.proofs.CutLemmas.{cut-append_line, cut-append_break, length-all_lines}

-- ---- transcripts

pub Transcript-push : (start : FlatSession) (lines : List (List ℕ)) (replies : List (List ℕ)) (mid : FlatSession) (line reply : List ℕ) (end : FlatSession)
    → Transcript start lines replies mid → Turn mid line reply end → Transcript start (lines ++ line ∷ []) (replies ++ reply ∷ []) end
Transcript-push start [] [] mid line reply end before turn =
    (end, subst (λ s. Turn s line reply end) before turn, refl)
Transcript-push start [] (r ∷ replies) mid line reply end before turn = absurd before
Transcript-push start (l ∷ lines) [] mid line reply end before turn = absurd before
Transcript-push start (l ∷ lines) (r ∷ replies) mid line reply end before turn =
    (before.0, before.1, Transcript-push before.0 lines replies mid line reply end before.2 turn)

pub Replied-nothing : (start : Session) → Replied start [] [] start
Replied-nothing start = record { count = refl; told = λ flat stands. (flat, refl, stands) }

pub Replied-push : (start : Session) (lines replies : List (List ℕ)) (mid : Session) (line reply : List ℕ) (end : Session)
    → Replied start lines replies mid → Turns mid line reply end → Replied start (lines ++ line ∷ []) (replies ++ reply ∷ []) end
Replied-push start lines replies mid line reply end before turn = record {
  count = length-append replies (reply ∷ []) ∙ ap (λ n. n + 1) before.count ∙ sym (length-append lines (line ∷ []));
  told = λ flat stands.
      let was = before.told flat stands in
      let now = turn was.0 was.2 in
      (now.0, Transcript-push flat lines replies was.0 line reply now.0 was.1 now.1, now.2);
}

-- there are at most as many refusals as lines, and as lines as bytes
pub few_refusals : (start : Session) (script : List ℕ) (replies : List (List ℕ)) (end : Session) → Replied start (all_lines script) replies end
    → refusals replies ≤ length script
few_refusals start script replies end t = omega (arith, length-all_lines script, t.count, count_by-le-length is_refused replies)

pub few_memory_refusals : (start : Session) (script : List ℕ) (replies : List (List ℕ)) (end : Session) → Replied start (all_lines script) replies end
    → memory_refusals replies ≤ length script
few_memory_refusals start script replies end t =
    omega (arith, length-all_lines script, t.count, count_by-le-length (bytes_eq memory_reply) replies)

-- ---- what led here

pub Led-start : (start : Session) (progress : Progress) → IsLineSoFar progress.line [] → progress.refused ≡ 0 → progress.memory ≡ 0
    → Led start [] [] start progress
Led-start start progress line refused memory = record {
  counted = record {
    whole = record { replies = []; answers = Replied-nothing start; bytes_are = refl };
    refused_is = refused;
    memory_is = memory;
  };
  line = line;
}

pub Went-nothing : (state : Session) (progress : Progress) → Went state progress [] [] state progress
Went-nothing state progress start read out led = rw (append-nil read, append-nil out) led

module _ (state state' state'' : Session) (progress progress' progress'' : Progress) (x y a b : List ℕ) where
  pub Went-append : Went state progress x a state' progress' → Went state' progress' y b state'' progress''
      → Went state progress (x ++ y) (a ++ b) state'' progress''
  Went-append first second start read out led =
      rw (← append_assoc read x y, ← append_assoc out a b) (second start (read ++ x) (out ++ a) (first start read out led))

  pub Broke-append : Went state progress x a state' progress' → Broke (lines_with y) state' progress' b state''
      → Broke (lines_with (x ++ y)) state progress (a ++ b) state''
  Broke-append first second start read out led =
      rw (← append_assoc read x y, ← append_assoc out a b) (second start (read ++ x) (out ++ a) (first start read out led))

-- the line goes on
pub Went-line : (state : Session) (progress progress' : Progress) (bytes : List ℕ) → IsInOneLine bytes
    → ((line : List ℕ) → IsLineSoFar progress.line line → IsLineSoFar progress'.line (line ++ bytes))
    → progress'.refused ≡ progress.refused → progress'.memory ≡ progress.memory
    → Went state progress bytes [] state progress'
Went-line state progress progress' bytes one line refused memory start read out led = record {
  counted = rw (ap (λ c. c.ended) (cut-append_line read bytes one), append-nil out, refused, memory) led.counted;
  line = rw (ap (λ c. c.rest) (cut-append_line read bytes one)) (line _ led.line);
}

-- ---- the end of a line

ended-break : (read end after : List ℕ) → IsInOneLine end
    → whole_lines (read ++ (end ++ 10 ∷ after)) ≡ whole_lines read ++ ((cut read).rest ++ end) ∷ whole_lines after
ended-break read end after one =
    ap (λ x. (cut x).ended) (sym (append_assoc read end (10 ∷ after))) ∙ ap (λ c. c.ended) (cut-append_break (read ++ end) after)
    ∙ ap (λ c. c.ended ++ c.rest ∷ whole_lines after) (cut-append_line read end one)

rest-break : (read end : List ℕ) → (cut (read ++ (end ++ 10 ∷ []))).rest ≡ []
rest-break read end =
    ap (λ x. (cut x).rest) (sym (append_assoc read end (10 ∷ []))) ∙ ap (λ c. c.rest) (cut-append_break (read ++ end) [])

counted_more : (n m a : ℕ) → n ≡ min a greatest_count → min (n + m) greatest_count ≡ min (a + m) greatest_count
counted_more n m a is = omega arith

-- one line more
pub Counted-push : (start : Session) (lines : List (List ℕ)) (out : List ℕ) (mid : Session) (refused memory : ℕ)
    (line reply : List ℕ) (end : Session) (refused' memory' : ℕ) → Counted start lines out mid refused memory → Turns mid line reply end
    → refused' ≡ min (refused + refusals (reply ∷ [])) greatest_count → memory' ≡ min (memory + memory_refusals (reply ∷ [])) greatest_count
    → Counted start (lines ++ line ∷ []) (out ++ reply) end refused' memory'
Counted-push start lines out mid refused memory line reply end refused' memory' before turn more_refused more_memory = record {
  whole = record {
    replies = before.whole.replies ++ reply ∷ [];
    answers = Replied-push start lines before.whole.replies mid line reply end before.whole.answers turn;
    bytes_are = rw (before.whole.bytes_are, flat_map-append) (ap (λ x. written before.whole.replies ++ x) (sym (append-nil reply)));
  };
  refused_is = more_refused ∙ counted_more refused _ (refusals before.whole.replies) before.refused_is
      ∙ ap (λ n. min n greatest_count) (sym (sum_by-append _ before.whole.replies (reply ∷ [])));
  memory_is = more_memory ∙ counted_more memory _ (memory_refusals before.whole.replies) before.memory_is
      ∙ ap (λ n. min n greatest_count) (sym (sum_by-append _ before.whole.replies (reply ∷ [])));
}

module _ (end : List ℕ) (state state' : Session) (progress progress' : Progress) (out out' : SinkState) where
  pub Went-break : IsInOneLine end → (answered : LineAnswered end state progress state' progress' out out')
      → Went state progress (end ++ 10 ∷ []) answered.reply state' progress'
  Went-break one answered start read written_so_far led = record {
    counted = rw (ended-break read end [] one)
        (Counted-push _ _ _ _ _ _ _ _ _ _ _ led.counted (answered.turn _ led.line) answered.refused answered.memory);
    line = rw (rest-break read end) answered.line;
  }

  -- the reply to the line that ends here broke off
  pub broken_at : (broken : LineBroken end state progress state' out out') (start : Session) (read before : List ℕ) (lines others : List (List ℕ))
      → lines ≡ whole_lines read ++ ((cut read).rest ++ end) ∷ others → Led start read before state progress
      → CutReplies Replied start lines (before ++ broken.sink.front) state'
  broken_at broken start read before lines others lines_are led = record {
    done = whole_lines read;
    line = (cut read).rest ++ end;
    others = others;
    lines_are = lines_are;
    replies = led.counted.whole.replies;
    mid = state;
    answers = led.counted.whole.answers;
    reply = broken.reply;
    last = Replied-push state [] [] state _ broken.reply state' (Replied-nothing state) (broken.turn _ led.line);
    front = broken.sink.front;
    starts = broken.sink.starts;
    bytes_are = ap (λ x. x ++ broken.sink.front) led.counted.whole.bytes_are;
  }

  pub Broke-break : IsInOneLine end → (after : List ℕ) (broken : LineBroken end state progress state' out out')
      → Broke (lines_with (end ++ 10 ∷ after)) state progress broken.sink.front state'
  Broke-break one after broken start read written_so_far led =
      broken_at broken start read written_so_far _ (whole_lines after) (ended-break read end after one) led

-- ---- a piece of the script

-- of the piece, what stands before rest is answered
pub record IsAnsweredTo (piece rest : List ℕ) (state : Session) (progress : Progress) (state' : Session) (progress' : Progress) (out out' : SinkState) : Type 0 where
  pub consumed : List ℕ
  pub added : List ℕ
  pub whole : piece ≡ consumed ++ rest
  pub went : Went state progress consumed added state' progress'
  pub sink : TakenWhole out out' added

pub answered_to_start : (piece : List ℕ) (state : Session) (progress : Progress) (out : SinkState) → IsAnsweredTo piece piece state progress state progress out out
answered_to_start piece state progress out = record {
  consumed = [];
  added = [];
  whole = refl;
  went = Went-nothing state progress;
  sink = record { wrote = Wrote-nothing out; faults = refl };
}

module _ (piece rest : List ℕ) (state : Session) (progress : Progress) (mid : Session) (progress' : Progress) (out out' : SinkState)
    (before : IsAnsweredTo piece rest state progress mid progress' out out') (line : List ℕ) (one : IsInOneLine line) where
  pub answered_to_line : (after : List ℕ) (state' : Session) (progress'' : Progress) (out'' : SinkState) → rest ≡ line ++ 10 ∷ after
      → LineAnswered line mid progress' state' progress'' out' out'' → IsAnsweredTo piece after state progress state' progress'' out out''
  answered_to_line after state' progress'' out'' parts answered = record {
    consumed = before.consumed ++ (line ++ 10 ∷ []);
    added = before.added ++ answered.reply;
    whole = before.whole ∙ ap (λ x. before.consumed ++ x) (parts ∙ sym (append_assoc line (10 ∷ []) after))
        ∙ sym (append_assoc before.consumed (line ++ 10 ∷ []) after);
    went = Went-append _ _ _ _ _ _ _ _ _ _ before.went (Went-break line _ _ _ _ _ _ one answered);
    sink = record {
      wrote = Wrote-append _ _ _ _ _ before.sink.wrote answered.sink.wrote;
      faults = answered.sink.faults ∙ before.sink.faults;
    };
  }

  pub piece_broken : (after : List ℕ) (state' : Session) (out'' : SinkState) → rest ≡ line ++ 10 ∷ after
      → LineBroken line mid progress' state' out' out'' → Broken (lines_with piece) state progress state' out out''
  piece_broken after state' out'' parts broken = record {
    added = before.added ++ broken.sink.front;
    broke = rw (before.whole, parts)
        (Broke-append _ _ _ _ progress' progress' _ _ _ _ before.went (Broke-break line _ _ _ progress' _ _ one after broken));
    wrote = Wrote-append _ _ _ _ _ before.sink.wrote broken.sink.wrote;
    faults = subst (λ n. Rose n out''.faults) before.sink.faults broken.sink.faults;
  }

  pub piece_answered : (progress'' : Progress)
      → ((bytes : List ℕ) → IsLineSoFar progress'.line bytes → IsLineSoFar progress''.line (bytes ++ line))
      → progress''.refused ≡ progress'.refused → progress''.memory ≡ progress'.memory
      → rest ≡ line → PieceAnswered piece state progress mid progress'' out out'
  piece_answered progress'' extended refused memory last = record {
    added = before.added ++ [];
    went = rw (before.whole, last)
        (Went-append _ _ _ _ _ _ _ _ _ _ before.went (Went-line mid progress' progress'' line one extended refused memory));
    sink = rw (append-nil before.added) before.sink;
  }
