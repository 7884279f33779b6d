use Rattle.std.proofs.Common.{ap, sym, subst, ◌∙◌}
use Rattle.document_rules.specs.Document.{FlatState}
use Rattle.model_core.specs.Compact.{is_outgrown}
use Rattle.model_core.specs.Prepared.{Acts}
use Rattle.model_core.specs.State.{ModelState}
use Rattle.model_core.proofs.Held.{bound_after}
use Rattle.model_core.proofs.Preparing.{IsPairedState-acted}
use Rattle.model_core.proofs.model.Model.commit.Goals as goal

pub returns-clause-paired_state : goal.returns-clause-paired_state
returns-clause-paired_state c =
    let done = subst (λ (f : FlatState). Acts c.args.ready.action c.args.self.now.document f) (sym c.rewrite.ensures.model.document) c.act-room.ensures.document in
    IsPairedState-acted c.args.ready.action c.args.self.now.document c.rewrite.new.self.document done

pub returns-clause-held : goal.returns-clause-held
returns-clause-held c =
    let due = c.is_outgrown-due.ensures ∙ ap (λ (s : ModelState). is_outgrown s) c.self.view_is in
    bound_after c.args.ready.action c.is_outgrown-due.result c.act-room.result c.args.self.now c.act-room.new.self c.rewrite.new.self due c.act-room.ensures.held c.rewrite.ensures.held
