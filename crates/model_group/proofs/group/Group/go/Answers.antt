use Rattle.std.proofs.Common.{◌≡◌, length, ◌∙◌, sym, ap, subst}
use Rattle.group_rules.specs.Outcomes.{MovesAll}
use Rattle.group_rules.specs.Going.{front_tag, go_by, group_go}
use Rattle.group_rules.specs.Together.{gone_with}
use Rattle.model_group.specs.Calls.{TheyGo, next_tag}
use Rattle.model_group.specs.Prepared.{going_along}
use Rattle.model_group.specs.State.{documents}
use Rattle.model_group.proofs.Committing.{model_at}
use Rattle.model_group.proofs.Lists.{doc_in-is}
use Rattle.model_group.proofs.Goings.{go_stays, go_all}
use Rattle.model_group.proofs.group.Group.go.Goals as goal
use Rattle.model_group.proofs.group.Group.go.Goals.{After-next_tag-tag}

tag : (c : After-next_tag-tag) → c.next_tag-tag.result ≡ next_tag c.args.way c.args.self.now c.args.doc
tag c =
    let g = c.args.self.now in
    let at = model_at g c.self.inside.models.items c.args.doc c.index.result.now c.self.view_is c.self.invariant.count c.requires c.index.ensures in
    c.next_tag-tag.ensures ∙ ap (λ f. front_tag ((going_along c.args.way).steps f)) (sym (doc_in-is g c.args.doc c.index.result.now at))

pub go_by-requires-clause-next : goal.go_by-requires-clause-next
go_by-requires-clause-next c = tag (goal.at.go_by-requires-clause-next c).After-next_tag-tag

pub returns : goal.returns
returns c =
    let g = c.args.self.now in
    let new = c.go_by.new.self in
    let going = going_along c.args.way in
    let next = tag (goal.at.returns c).After-next_tag-tag in
    let done : MovesAll c.go_by.result (documents g) (documents new) (group_go going (documents g) c.args.doc) =
    subst (λ t. MovesAll c.go_by.result (documents g) (documents new) (go_by going (documents g) c.args.doc t)) next c.go_by.ensures.documents in
    let count = ap length (sym c.self.view_is) ∙ c.self.invariant.count in
    record {
      documents = done;
      models = subst (λ t. TheyGo c.args.way (gone_with c.args.doc t) c.go_by.result g new) next c.go_by.ensures.models;
      stay = go_stays c.args.way c.args.doc g new count c.go_by.result done;
      all = go_all c.args.way c.args.doc g new count c.go_by.result done;
    }
