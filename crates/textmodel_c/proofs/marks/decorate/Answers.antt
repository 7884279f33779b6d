use Rattle.std.proofs.Common.{◌≡◌, List, map, subst, rules}
use Rattle.std.specs.Prelude.{⊤}
use Rattle.decoration_rules.specs.declared.NewDeco.{NewDeco}
use Rattle.model_core.specs.Decorating.{HasDecorated}
use Rattle.textmodel_c.specs.Rules.{new_deco_of}
use Rattle.textmodel_c.proofs.Others.{on_document, others_same}
use Rattle.textmodel_c.proofs.marks.decorate.Goals as goal

pub returns-in_err-add-clause-others : goal.returns-in_err-add-clause-others
returns-in_err-add-clause-others c = others_same c.args.doc c.args.group.now

pub returns-clause-document : goal.returns-clause-document
returns-clause-document c =
    let made : c.deref.result.now ≡ map new_deco_of c.args.add.now = search rules in
    (on_document c.args.doc (HasDecorated c.args.owner c.args.remove.now (map new_deco_of c.args.add.now) c.decorate.result)
    c.args.group.now c.decorate.new.self c.decorate.ensures
    (subst (λ (add : List NewDeco). HasDecorated c.args.owner c.args.remove.now add c.decorate.result c.decorate.ensures.before.document c.decorate.ensures.after.document)
    made c.decorate.ensures.done.0)).0

pub returns-clause-others : goal.returns-clause-others
returns-clause-others c = (on_document c.args.doc (λ f g. ⊤) c.args.group.now c.decorate.new.self c.decorate.ensures tt).1
