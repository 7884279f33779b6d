use Rattle.std.proofs.Common.{◌≡◌, None, sym, subst, refl}
use Rattle.model_group.specs.Calls.{next_tag}
use Rattle.model_group.proofs.Committing.{model_at}
use Rattle.model_group.proofs.Goings.{alone_moved}
use Rattle.model_group.proofs.Grouping.{group_gone_alone}
use Rattle.model_group.proofs.Lists.{done_on}
use Rattle.model_group.proofs.group.Group.go_alone.Goals as goal

pub invariant_of-self : goal.invariant_of-self
invariant_of-self c =
    let m = c.index_mut.result.now in
    group_gone_alone c.args.way c.self.inside.models.items c.args.doc m c.go_next.new.model c.go_next.result c.self.invariant c.requires.there
    c.index_mut.ensures.value (subst (λ g. None ≡ next_tag c.args.way g c.args.doc) (sym c.self.view_is) c.requires.next) c.go_next.ensures.document

pub returns : goal.returns
returns c =
    let m = c.index_mut.result.now in
    let items = c.self.inside.models.items in
    let at = model_at items items c.args.doc m refl c.self.invariant.count c.requires.there c.index_mut.ensures.value in
    let moved = alone_moved c.args.way c.args.doc c.args.self.now _ c.go_next.result c.map_err.result c.map_err.ensures.cases
    (done_on c.args.doc _ items _ m c.go_next.new.model c.self.view_is at (c.go_next.ensures.document, c.go_next.ensures.parse)) in
    record { documents = moved.0; models = moved.1 }
