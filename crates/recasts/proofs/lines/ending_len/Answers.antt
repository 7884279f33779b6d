use Rattle.std.proofs.Common.{◌≡◌, [], length, ap, sym, ◌∙◌, subst}
use Rattle.recasts.specs.FirstLine.{first_line}
use Rattle.recasts.proofs.FirstLines.{plain_break}
use Rattle.recasts.proofs.lines.ending_len.Goals as goal

pub returns-else-starts_with-clause-ending : goal.returns-else-starts_with-clause-ending
returns-else-starts_with-clause-ending c =
    let back = c.split_at.ensures.back in
    let none = subst (λ units. (first_line units).content ≡ []) (sym back) c.requires.empty in
    c.min.ensures ∙ plain_break _ none (sym c.starts_with.ensures.value ∙ c.if-starts_with.false) ∙ ap (λ units. length (first_line units).break) back
