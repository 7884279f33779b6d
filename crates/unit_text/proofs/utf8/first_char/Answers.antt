use Rattle.std.proofs.Common.{sym, ◌∙◌}
use Rattle.std.proofs.lemmas.List.{nil_from_length}
use Rattle.unit_text.proofs.Chars.{utf16_lossy_chars_pair, utf16_lossy_chars_lone, utf16_lossy_chars_last}
use Rattle.unit_text.proofs.utf8.first_char.Goals as goal

pub returns-then-is_surrogate_pair-clause-first : goal.returns-then-is_surrogate_pair-clause-first
returns-then-is_surrogate_pair-clause-first c =
    rw (c.in_ok-first.ensures.cases.0, c.in-Some.ensures.cases.0, c.paired_char.ensures)
    (utf16_lossy_chars_pair _ _ _ (sym c.is_surrogate_pair.ensures ∙ c.if-is_surrogate_pair.true))

pub returns-else-is_surrogate_pair-clause-first : goal.returns-else-is_surrogate_pair-clause-first
returns-else-is_surrogate_pair-clause-first c =
    rw (c.in_ok-first.ensures.cases.0, c.in-Some.ensures.cases.0, c.lone_char.ensures)
    (utf16_lossy_chars_lone _ _ _ (sym c.is_surrogate_pair.ensures ∙ c.if-is_surrogate_pair.false))

pub returns-in-None-clause-first : goal.returns-in-None-clause-first
returns-in-None-clause-first c =
    let alone = nil_from_length c.in_ok-first.after.now c.in-None.ensures.cases in
    rw (c.in_ok-first.ensures.cases.0, alone, c.lone_char-in-None.ensures) (utf16_lossy_chars_last _)
