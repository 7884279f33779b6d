use Rattle.std.proofs.Common.{get_or}
use Rattle.model_core.proofs.Leaving.{leaves_until}
use Rattle.model_group.specs.declared.ready.Manner.TheVariants.{Plain, Alone, Joint}
use Rattle.model_group.proofs.Committing.{can_by, done_by}
use Rattle.model_group.proofs.Joining.{alone_step}
use Rattle.model_group.proofs.ready.commit_step.Goals as goal

pub commit-requires : goal.commit-requires
commit-requires c = record { can = can_by _ Plain _ _ c.index-models-one.result c.in-Plain.is c.requires.count c.requires.ready }

pub returns-in-Plain : goal.returns-in-Plain
returns-in-Plain c =
    done_by _ Plain _ c.args.one _ c.in-Plain.is c.requires.count _ c.requires.ready.there c.commit.ensures.document c.commit.ensures.parse

pub commit_alone-requires : goal.commit_alone-requires
commit_alone-requires c = record { can = can_by _ Alone _ _ c.index-models-one.result c.in-Alone.is c.requires.count c.requires.ready }

pub returns-in-Alone : goal.returns-in-Alone
returns-in-Alone c =
    done_by _ Alone _ c.args.one _ c.in-Alone.is c.requires.count _ c.requires.ready.there c.commit_alone.ensures.document c.commit_alone.ensures.parse

pub commit_alone-requires-in-Joint : goal.commit_alone-requires-in-Joint
commit_alone-requires-in-Joint c =
    let edit = can_by _ (Joint c.in-Joint.tag) _ _ c.index-models-one.result c.in-Joint.is c.requires.count c.requires.ready in
    record { can = edit.is.can }

pub tag_last-requires : goal.tag_last-requires
tag_last-requires c =
    let edit = can_by _ (Joint c.in-Joint.tag) _ _ c.index-models-one.result c.in-Joint.is c.requires.count c.requires.ready in
    alone_step edit.ops _ c.args.one.ready _ edit.is c.commit_alone-in-Joint.ensures.document

pub returns-in-Joint : goal.returns-in-Joint
returns-in-Joint c =
    let made = c.commit_alone-in-Joint in
    done_by _ (Joint c.in-Joint.tag) _ c.args.one _ c.in-Joint.is c.requires.count _ c.requires.ready.there
    (record { made = made.new.self.document; alone = made.ensures.document; tagged = c.tag_last.ensures.document })
    (leaves_until _ _ _ (get_or c.args.models.now c.args.one.doc c.index-models-one.result) _ _ made.ensures.parse c.tag_last.ensures.parse)
