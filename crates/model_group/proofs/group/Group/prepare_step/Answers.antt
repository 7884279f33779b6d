use Rattle.std.proofs.Common.{◌≡◌, ◌+◌, ◌∷◌, [], ◌++◌, true, OnOk, List, sym, subst, ◌∙◌, arith}
use Rattle.std.proofs.lemmas.Grind.{common_steps}
use Rattle.std.proofs.lemmas.Result.{on_ok_weaker}
use Rattle.undo_rules.specs.Tags.{is_member}
use Rattle.model_group.specs.declared.ready.DocReady.{DocReady}
use Rattle.model_group.specs.Prepared.{AreStepsReady}
use Rattle.model_group.proofs.Goings.{memory_alone, none_more, step_prepared, none_prepared}
use Rattle.model_group.proofs.group.Group.prepare_step.Goals as goal

pub returns-then-not-is_member-clause-ready : goal.returns-then-not-is_member-clause-ready
returns-then-not-is_member-clause-ready c =
    none_more c.args.way c.args.tag c.args.doc c.args.self.now c.args.ready.now.items c.requires.ready (λ m at member. absurd (cc))

pub returns-in-Ok-Some-clause-ready : goal.returns-in-Ok-Some-clause-ready
returns-in-Ok-Some-clause-ready c =
    let r : DocReady = record { doc = c.args.doc; ready = c.in-Ok-Some.one } in
    let member : is_member c.args.doc c.args.tag ≡ true = sym c.is_member.ensures ∙ c.if-not-is_member.false in
    let more = step_prepared c.args.way c.args.tag c.args.doc c.prepare_move.result c.args.self.now c.prepare_move.new.self c.prepare_move.ensures
    c.args.ready.now.items c.requires.ready c.in-Ok-Some.one (cc) c.requires.there member in
    let pushed : OnOk c.map_err.result (c.push.new.self.items ≡ c.args.ready.now.items ++ r ∷ []) = grind (arith, common_steps) in
    on_ok_weaker c.map_err.result
    (λ same. subst (λ (ready : List DocReady). AreStepsReady c.args.way c.args.tag (c.args.doc + 1) c.prepare_move.new.self ready) (sym same) more) pushed

pub returns-in-Ok-None-clause-ready : goal.returns-in-Ok-None-clause-ready
returns-in-Ok-None-clause-ready c =
    none_prepared _ c.args.tag _ c.prepare_move.result _ _ c.prepare_move.ensures _ c.requires.ready cc

pub returns-in-Err-clause-memory : goal.returns-in-Err-clause-memory
returns-in-Err-clause-memory c =
    let member : is_member c.args.doc c.args.tag ≡ true = sym c.is_member.ensures ∙ c.if-not-is_member.false in
    c.group_error_of.ensures
    ∙ memory_alone c.args.way c.args.tag c.args.doc c.prepare_move.result c.args.self.now c.prepare_move.new.self c.prepare_move.ensures
    c.in-Err.error (cc) c.requires.last member
