use Rattle.std.proofs.Common.{◌≡◌, ◌<◌, Some, subst, arith, rules}
use Rattle.group_rules.specs.declared.TheConstants.{DOC_COUNT}
use Rattle.textmodel_c.specs.declared.contents.Contents.{Contents}
use Rattle.textmodel_c.specs.Mirroring.{TakesEvent}
use Rattle.textmodel_c.proofs.Calls.{leaves_with}
use Rattle.textmodel_c.proofs.mirrors.tm_raw_deliver.Goals as goal

pub returns : goal.returns
returns c =
    let there : c.args.handle.now.held ≡ Some c.in-Some.contents.value = search rules in
    let within : c.args.doc < DOC_COUNT = omega arith in
    let same : c.deref_mut.result.now ≡ c.in-Some.contents.value = search rules in
    let s = c.deliver-status.result in
    let left = c.deliver-status.new.contents in
    let event = subst (λ (x : Contents). TakesEvent s c.args.doc c.args.number x left (c.args.have.now, c.args.need.now) (c.deliver-status.new.have, c.deliver-status.new.need))
    same c.deliver-status.ensures.carried in
    record {
      carried = leaves_with c.number-2.result c.args.doc _ _ c.args.handle.now.held c.put-2.new.self.held c.in-Some.contents.value _ there within c.put-2.ensures
          (s, c.number-2.ensures, (event, c.deliver-status.ensures.followed));
    }
