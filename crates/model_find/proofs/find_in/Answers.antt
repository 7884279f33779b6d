use Rattle.std.proofs.Common.{[], List, length, drop, refl, sym, ap, subst, ◌∙◌}
use Rattle.std.proofs.lemmas.List.{drop_at}
use Rattle.text_lengths.specs.declared.Span.{Span}
use Rattle.search_rules.specs.Occurrences.{occurrences, AreOccurrences}
use Rattle.search_rules.proofs.Walking.{occurrences_are}
use Rattle.model_find.proofs.Matching.{read_none}
use Rattle.model_find.proofs.find_in.Goals as goal

pub returns-clause-ok : goal.returns-clause-ok
returns-clause-ok g c =
    c.in_default.ensures.found _ (read_none c.args.kind (g.R.Reader.left c.args.reader) c.args.sought.now c.requires.some [] c.args.out.now.items)

pub returns-clause-occurrences : goal.returns-clause-occurrences
returns-clause-occurrences g c =
    let kind = c.args.kind in
    let sought = c.args.sought.now in
    let before : List Span = c.args.out.now.items in
    let found : List Span = occurrences kind (g.R.Reader.left c.args.reader) sought in
    subst (AreOccurrences kind (g.R.Reader.left c.args.reader) sought)
    (sym (ap (drop (length before)) (returns-clause-ok g c) ∙ drop_at before found (length before) refl))
    (occurrences_are kind (g.R.Reader.left c.args.reader) sought c.requires.some)
