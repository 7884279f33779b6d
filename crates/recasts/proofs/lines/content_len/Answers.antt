use Rattle.std.proofs.Common.{◌∙◌, sym, ap, length, rules, tests}
use Rattle.std.specs.List.{position_or_len}
use Rattle.std.proofs.lemmas.List.Sums.{prefix_len-le-length}
use Rattle.std.proofs.lemmas.Iterator.{YieldsList-from_slice}
use Rattle.std.proofs.lemmas.Iterator.Search.{position_from_yields_List}
use Rattle.recasts.specs.FirstLine.{first_line}
use Rattle.recasts.proofs.FirstLines.{ends_line, first_content, found_or_length}
use Rattle.recasts.proofs.lines.content_len.Goals as goal

pub returns-clause-content : goal.returns-clause-content
returns-clause-content c =
    let rest = c.split_at.result.1.now in
    let found = position_from_yields_List ends_line _ _ c.position-end.result c.position-end.ensures.ran (YieldsList-from_slice rest cc) (λ u b q k. search (rules, tests)) in
    c.unwrap_or.ensures ∙ found_or_length _ (position_or_len ends_line rest) (length rest) (prefix_len-le-length _ rest) found ∙ sym (first_content rest)
    ∙ ap (λ units. length (first_line units).content) c.split_at.ensures.back
