use Rattle.std.proofs.Common.{ap, sym, ◌∙◌}
use Rattle.std.proofs.lemmas.Option.{get_or_from_slice_get}
use Rattle.interval_deltas.specs.declared.names.Entry.{Entry}
use Rattle.interval_deltas.specs.Names.{Named, node_of}
use Rattle.interval_deltas.proofs.Naming.{node_at, none_belongs}
use Rattle.interval_deltas.proofs.names.Names.find.Goals as goal

pub returns-in-Ok : goal.returns-in-Ok
returns-in-Ok c =
    let es = c.self.inside.entries.items in let at = c.in-Ok.at in let entry = c.get.result.now in let stands = c.in-Ok.ensures in
    c.name.ensures ∙ ap (λ (e : Entry). e.node) (sym (get_or_from_slice_get es at entry entry c.get.ensures))
    ∙ sym (node_at es c.args.id at entry c.self.invariant.0 stands.0 (stands.1 entry))
    ∙ ap (λ (v : Named). node_of v.entries c.args.id) c.self.view_is

pub returns-in-Err : goal.returns-in-Err
returns-in-Err c =
    sym (none_belongs c.self.inside.entries.items c.args.id c.in-Err.field-0 c.in-Err.ensures)
    ∙ ap (λ (v : Named). node_of v.entries c.args.id) c.self.view_is
