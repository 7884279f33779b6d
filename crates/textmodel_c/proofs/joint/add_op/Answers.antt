use Rattle.std.proofs.Common.{◌≡◌, ◌<◌, true, false, map, length, vec_len, refl, sym, arith, rules}
use Rattle.group_rules.specs.Joint.{flat_batch}
use Rattle.textmodel_c.specs.JointOps.{ends_in}
use Rattle.textmodel_c.proofs.BatchLemmas.{put_last, push_behind}
use Rattle.textmodel_c.proofs.joint.add_op.Goals as goal

pub returns-then-not-ends_in : goal.returns-then-not-ends_in
returns-then-not-ends_in c =
    let other : ends_in (map flat_batch c.args.batches.now.items) c.args.doc ≡ false = search rules in
    rw c.in_ok-push-2.ensures.items (push_behind c.args.batches.now.items c.args.doc c.args.op _ other refl (search rules))

pub returns-in_ok-push-3 : goal.returns-in_ok-push-3
returns-in_ok-push-3 c =
    let len : vec_len c.args.batches.now ≡ length c.args.batches.now.items = search rules in
    let same : ends_in (map flat_batch c.args.batches.now.items) c.args.doc ≡ true = search rules in
    let some : 0 < length c.args.batches.now.items = omega (arith, c.in-Some.ensures.variant.0 refl, len) in
    rw len (put_last c.args.batches.now.items c.in-Some.last.now some (sym (rw len at c.in-Some.ensures.value)) c.args.doc c.args.op _ same refl
    c.in_ok-push-3.ensures.items)
