use Rattle.std.proofs.Common.{◌≡◌, ℕ, false, List, [], ◌∷◌, if◌then◌else◌, Result, Ok, Err, is_err, IfOk, refl, sym, arith}
use Rattle.std.proofs.lemmas.Bool.{ne_eqb, eq-eqb, both_ways}
use Rattle.std.proofs.lemmas.Grind.{common_steps}
use Rattle.script_lines.specs.declared.reason.Refusal.{Refusal}
use Rattle.script_lines.specs.declared.reason.Refusal.TheVariants.{Syntax, Unknown, Range, Overlap, Limit, Memory, Gap, Joint}
use Rattle.script_lines.specs.Replies.{refusal_reply}
use Rattle.sessions.specs.declared.outcome.Reply.{Reply}
use Rattle.sessions.specs.declared.outcome.Refused.{Refused}
use Rattle.sessions.specs.Bytes.{bytes_of, bytes_of_outcome, is_memory, is_for_memory}
use Rattle.session_rules.specs.Script.{is_refused}
use Rattle.script_runner.specs.Runs.{refusals, memory_refusals}
use Rattle.script_runner.proofs.serving.answer_line.Goals as goal

-- the reply to a refusal is counted as one, and as one for want of memory where it is
counted_refusal : (r : Refusal) → (refusals (refusal_reply r ∷ []) ≡ 1) × (memory_refusals (refusal_reply r ∷ []) ≡ (if is_memory r then 1 else 0))
counted_refusal Syntax = (refl, refl)
counted_refusal Unknown = (refl, refl)
counted_refusal Range = (refl, refl)
counted_refusal Overlap = (refl, refl)
counted_refusal Limit = (refl, refl)
counted_refusal Memory = (refl, refl)
counted_refusal (Gap have need) = (refl, refl)
counted_refusal (Joint doc) = (refl, refl)

no_memory_refusal : (reply : List ℕ) → is_refused reply ≡ false → memory_refusals (reply ∷ []) ≡ 0
no_memory_refusal [] other = refl
no_memory_refusal (byte ∷ bytes) other = rw (ne_eqb 33 byte (λ e. both_ways _ other (eq-eqb byte 33 (sym e)))) refl

refusals_of : (o : Result Reply Refused) → IfOk o (λ reply. is_refused (bytes_of reply) ≡ false)
    → refusals (bytes_of_outcome o ∷ []) ≡ (if is_err o then 1 else 0)
refusals_of (Ok reply) accepted = rw accepted refl
refusals_of (Err refused) accepted = (counted_refusal refused.0).0

memory_refusals_of : (o : Result Reply Refused) → IfOk o (λ reply. is_refused (bytes_of reply) ≡ false)
    → memory_refusals (bytes_of_outcome o ∷ []) ≡ (if is_for_memory o then 1 else 0)
memory_refusals_of (Ok reply) accepted = no_memory_refusal (bytes_of reply) accepted
memory_refusals_of (Err refused) accepted = (counted_refusal refused.0).1

pub returns : goal.returns
returns g c = record {
  reply = bytes_of_outcome c.reply_at_end-outcome.result;
  turn = c.reply_at_end-outcome.ensures.turn;
  sink = c.in_ok-write_outcome.ensures;
  line = grind (arith, common_steps);
  refused = rw (refusals_of c.reply_at_end-outcome.result c.reply_at_end-outcome.ensures.accepted) c.count.ensures.refused;
  memory = rw (memory_refusals_of c.reply_at_end-outcome.result c.reply_at_end-outcome.ensures.accepted) c.count.ensures.memory;
}
