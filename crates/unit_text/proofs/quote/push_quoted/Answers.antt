use Rattle.std.proofs.Common.{append_assoc}
use Rattle.std.proofs.lemmas.List.{append-nil}
use Rattle.unit_text.proofs.Chars.{utf16_lossy_chars-nil}
use Rattle.unit_text.proofs.quote.push_quoted.Goals as goal

pub returns-clause-ok : goal.returns-clause-ok
returns-clause-ok c =
    let rest = rw (c.in_default.ensures.none, utf16_lossy_chars-nil) at c.loop-c.invariant.text in
    let whole = rw append-nil at rest in
    rw (c.in_ok-push-2.ensures.items, whole) (simp append_assoc)
