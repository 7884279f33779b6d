use Rattle.std.proofs.Common.{◌≡◌, List, length, drop, subst, ap, ◌∙◌}
use Rattle.undo_rules.specs.declared.Tag.{Tag}
use Rattle.undo_rules.specs.Tags.{all_steps}
use Rattle.document_rules.specs.Document.{FlatState}
use Rattle.group_rules.specs.Group.{doc_in, tags_of}
use Rattle.model_group.specs.State.{documents}
use Rattle.model_group.specs.Losing.{LoseTags}
use Rattle.model_group.proofs.Lists.{read_document}
use Rattle.model_group.proofs.Losses.{next_count, redo_steps}
use Rattle.model_group.proofs.losing.lose_redo.Goals as goal

pub returns : goal.returns
returns c =
    let g = c.args.models.now in
    let f = doc_in (documents g) c.args.doc in
    let count = next_count _ _ _ _ g c.requires.there c.requires.spared c.requires.next in
    let read = read_document g c.args.doc c.index-models-doc.result count c.requires.there c.index-models-doc.is in
    let undo : c.counts-undo.result.0 ≡ length f.history.undo =
    c.counts-undo.ensures.undo ∙ ap (λ (f : FlatState). length f.history.undo) read in
    let from : drop c.counts-undo.result.0 (all_steps f.history) ≡ f.history.redo = ap (λ n. drop n (all_steps f.history)) undo ∙ redo_steps f.history in
    subst (λ (tags : List Tag). LoseTags tags c.args.spared g c.lose_from.new.models) (ap tags_of from) c.lose_from.ensures
