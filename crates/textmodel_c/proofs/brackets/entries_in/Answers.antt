use Rattle.textmodel_c.proofs.SmallPlaces.{all_small}
use Rattle.textmodel_c.proofs.Others.{documents_kept}
use Rattle.textmodel_c.proofs.brackets.entries_in.Goals as goal

pub returns-clause-small : goal.returns-clause-small
returns-clause-small c =
    let appends = c.brackets_in.ensures.done.0 in
    all_small c.brackets_in.result c.args.out.now.items c.brackets_in.new.out.items _ c.requires.none appends.entries appends.small

pub returns-clause-documents : goal.returns-clause-documents
returns-clause-documents c = documents_kept c.args.doc c.args.group.now c.brackets_in.new.self c.brackets_in.ensures c.brackets_in.ensures.done.0.parse.document
