use Rattle.std.proofs.lemmas.List.{append-nil}
use Rattle.unit_text.proofs.Chars.{utf16_lossy_chars-nil}
use Rattle.unit_text.proofs.utf8.push_utf8.Goals as goal

pub returns-clause-ok : goal.returns-clause-ok
returns-clause-ok c =
    let whole = rw (c.in_default.ensures.none, utf16_lossy_chars-nil) at c.loop-c.invariant.text in
    rw append-nil at whole
