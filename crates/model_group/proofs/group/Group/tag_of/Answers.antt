use Rattle.std.proofs.Common.{◌≡◌, ◌<◌, map, sym, ap, ◌∙◌, arith}
use Rattle.std.proofs.lemmas.List.{length-map}
use Rattle.group_rules.specs.declared.TheConstants.{DOC_COUNT}
use Rattle.group_rules.specs.Group.{doc_in}
use Rattle.group_rules.specs.Joint.{flat_batch, least_of}
use Rattle.model_group.specs.State.{documents}
use Rattle.model_group.proofs.Lists.{doc_in-is}
use Rattle.model_group.proofs.Naming.{least_there, tag_is}
use Rattle.model_group.proofs.Committing.{model_at}
use Rattle.model_group.proofs.group.Group.tag_of.Goals as goal

pub index-requires : goal.index-requires
index-requires c =
    let xs = c.args.batches.now in
    let there = least_there (map flat_batch xs) (omega (arith, length-map xs flat_batch, c.requires.some)) c.requires.named in
    omega (arith, c.least_of-least.ensures, there, c.self.invariant.count, c.self.inside.models.ok.0)

pub returns : goal.returns
returns c =
    let xs = c.args.batches.now in
    let g = c.args.self.now in
    let n = c.least_of-least.result in
    let there = least_there (map flat_batch xs) (omega (arith, length-map xs flat_batch, c.requires.some)) c.requires.named in
    let here : n < DOC_COUNT = omega (arith, c.least_of-least.ensures, there) in
    let at = model_at g c.self.inside.models.items n c.index.result.now c.self.view_is c.self.invariant.count here c.index.ensures in
    let version : c.versions.result.0 ≡ (doc_in (documents g) (least_of (map flat_batch xs))).version =
    c.versions.ensures.version ∙ sym (ap (λ (f : _). f.version) (doc_in-is g n c.index.result.now at))
    ∙ ap (λ k. (doc_in (documents g) k).version) c.least_of-least.ensures in
    tag_is (documents g) (map flat_batch xs) n c.versions.result.0 c.bits.result c.least_of-least.ensures version (c.bits.ensures ∙ c.requires.members)
