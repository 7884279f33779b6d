-- What playing a script comes to.
use Rattle.std.proofs.Common.{◌≡◌, inl, inr, ℕ, ◌+◌, ◌%◌, ◌^◌, ◌<◌, ◌≤◌, List, length, sum, length-append, Option, Some, None, refl, ap, sym, ◌∙◌, subst, arith}
use Rattle.document_rules.specs.Document.{FlatState, flat_line_count}
use Rattle.group_rules.specs.Group.{doc_in}
use Rattle.model_group.specs.State.{documents}
use Rattle.script_streams.specs.Streams.{SourceState, SinkState, Tally, tally_after, Gave, Rose}
use Rattle.script_streams.specs.Fresh.{no_tally}
use Rattle.script_play.specs.Script.{script, IsCount}
use Rattle.script_play.specs.Tallies.{tally_sink}
use Rattle.script_play.proofs.LengthLemmas.{length-script}
use Rattle.script_runner.specs.declared.playing.Summary.{Summary}
use Rattle.script_runner.specs.declared.serving.Served.{Served}
use Rattle.script_runner.specs.declared.serving.Served.TheVariants.{Ended, ReadFault, WriteFault, TooLong}
use Rattle.sessions.specs.declared.session.Session.{Session}
use Rattle.session_rules.specs.Session.{new_session}
use Rattle.sessions.specs.Standing.{Represents}
use Rattle.session_rules.specs.Script.{all_lines, written, Transcript}
use Rattle.script_runner.specs.Serving.{Serves}
use Rattle.script_runner.specs.Runs.{most_script_bytes}
use Rattle.script_runner.specs.Playing.{SumsUp, HasEnded}
use Rattle.script_runner.proofs.RunLemmas.{whole_script}

-- ---- the only way out

never_rose : (old new : ℕ) → new ≡ 0 → Rose old new → ⊥
never_rose old new none (inl more) = omega arith
never_rose old new none (inr top) = omega arith

gave_within : (left : Option (List ℕ)) (all read : List ℕ) → Gave (Some all) left read → length read ≤ length all
gave_within None all read gave = absurd gave
gave_within (Some rest) all read gave = omega (arith, ap length gave, length-append read rest)

module _ (most : ℕ) (start end : Session) (src src' : SourceState) (out out' : SinkState) (all : List ℕ)
    (left : src.left ≡ Some all) (few : length all < most) (no_read_fault : src'.faults ≡ 0) (no_write_fault : out'.faults ≡ 0) where
  -- a script within the limit is read to its end where no read and no write fails
  has_ended : (served : Served) → Serves served most start end src src' out out' → HasEnded served
  has_ended (Ended refused memory) served = tt
  has_ended ReadFault served = never_rose src.faults src'.faults no_read_fault served.leaves.2
  has_ended WriteFault served = never_rose out.faults out'.faults no_write_fault served.leaves.2
  has_ended TooLong served =
      let within = gave_within src'.left all served.script (subst (λ l. Gave l src'.left served.script) left served.gave) in
      absurd (omega (arith, within, served.leaves.0))

short_script : (count seed : ℕ) → IsCount count → length (script count seed) < most_script_bytes
short_script count seed few = omega (arith, length-script count seed)

module _ (count seed : ℕ) (start end : Session) (new : Represents start new_session) (src src' : SourceState) (before after : Tally) (left : src.left ≡ Some (script count seed)) where
  -- a script that is played is read to its end
  pub play_ends : (served : Served) → IsCount count → src'.faults ≡ 0
      → Serves served most_script_bytes start end src src' (tally_sink before) (tally_sink after) → HasEnded served
  play_ends served few none serves =
      has_ended most_script_bytes start end src src' (tally_sink before) (tally_sink after) (script count seed) left (short_script count seed few)
      none refl served serves

  module _ (refused : ℕ) (fresh : before ≡ no_tally)
      (served : Serves (Ended refused 0) most_script_bytes start end src src' (tally_sink before) (tally_sink after)) where
    abbrev replies : List (List ℕ)
    replies = served.writes.0.replies

    whole : served.script ≡ script count seed
    whole = whole_script src'.left (script count seed) served.script
        (subst (λ l. Gave l src'.left served.script) left served.gave) served.leaves.2

    count_before : before.count ≡ 0
    count_before = ap (λ t. t.count) fresh

    sum_before : before.sum ≡ 0
    sum_before = ap (λ t. t.sum) fresh

    tally : Some after ≡ Some (tally_after before (written replies))
    tally = rw (← served.writes.0.bytes_are)
        (served.wrote.tally before refl (record { count = omega (arith, count_before); sum = omega (arith, sum_before) }))

    tally_is : after ≡ tally_after before (written replies)
    tally_is = let told = tally in cc

    count_is : after.count ≡ length (written replies) % 2 ^ 32
    count_is = let counted : after.count ≡ (before.count + length (written replies)) % 2 ^ 32 = ap (λ t. t.count) tally_is in
        omega (arith, counted, count_before)

    sum_is : after.sum ≡ sum (written replies) % 2 ^ 32
    sum_is = let summed : after.sum ≡ (before.sum + sum (written replies)) % 2 ^ 32 = ap (λ t. t.sum) tally_is in
        omega (arith, summed, sum_before)

    sums_up : (s : Summary) (f : FlatState) → doc_in (documents end.group) 0 ≡ f → s.count ≡ count → s.refused ≡ refused → s.units ≡ length f.units
        → s.lines ≡ flat_line_count f → s.bytes ≡ after.count → s.total ≡ after.sum → SumsUp s count seed
    sums_up s f is count_kept refused_kept units lines bytes total =
        let told = served.writes.0.answers.told new_session new in
        let here : f ≡ doc_in told.0.documents 0 = sym (ap (λ g. doc_in g 0) told.2.documents ∙ is) in record {
          replies = replies;
          end = told.0;
          transcript = subst (λ x. Transcript new_session (all_lines x) replies told.0) whole told.1;
          had_memory = sym served.writes.2;
          count_is = count_kept;
          refused_is = refused_kept ∙ served.writes.1;
          units_are = units ∙ ap (λ (f : FlatState). length f.units) here;
          lines_are = lines ∙ ap flat_line_count here;
          bytes_are = bytes ∙ count_is;
          total_is = total ∙ sum_is;
        }

  -- where no reply is `! memory`, these are the numbers
  pub summed_up : (served : Served) (refused : ℕ) → served ≡ Ended refused 0 → before ≡ no_tally
      → Serves served most_script_bytes start end src src' (tally_sink before) (tally_sink after)
      → (s : Summary) (f : FlatState) → doc_in (documents end.group) 0 ≡ f → s.count ≡ count → s.refused ≡ refused → s.units ≡ length f.units
      → s.lines ≡ flat_line_count f → s.bytes ≡ after.count → s.total ≡ after.sum → SumsUp s count seed
  summed_up served refused is fresh serves =
      sums_up refused fresh (subst (λ served. Serves served most_script_bytes start end src src' (tally_sink before) (tally_sink after)) is serves)
