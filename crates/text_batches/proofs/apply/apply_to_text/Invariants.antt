use Rattle.text_batches.proofs.Texts.{IsTextAfter}
use Rattle.text_batches.proofs.apply.apply_to_text.Given as goal

abbrev pub invariant-loop-done : goal.invariant-loop-done
invariant-loop-done l = IsTextAfter l.fn.text l.ops l.done l.text
