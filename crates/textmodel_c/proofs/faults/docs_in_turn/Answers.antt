use Rattle.std.proofs.Common.{rules, ◌≡◌, eqb, map, ◌∙◌, ap}
use Rattle.std.specs.List.{dedup}
use Rattle.std.proofs.lemmas.List.Filters.{dedup_is}
use Rattle.textmodel_c.proofs.DocsInTurn.{doc_of, turns}
use Rattle.textmodel_c.proofs.faults.docs_in_turn.Goals as goal

pub returns : goal.returns
returns c =
    let all : c.in_ok-docs.docs.items ≡ map doc_of c.args.ops.now = search rules in
    dedup_is eqb _ _ c.dedup.ensures.filtered ∙ ap (dedup eqb) all ∙ turns c.args.ops.now
