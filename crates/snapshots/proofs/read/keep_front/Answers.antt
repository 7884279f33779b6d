use Rattle.std.proofs.Common.{ℕ, ◌-◌, if◌then◌else◌, List, drop, ap, ◌∙◌}
use Rattle.unit_text.specs.Units.{cuts_pair}
use Rattle.snapshots.proofs.Fronts.{front-kept}
use Rattle.snapshots.proofs.read.keep_front.Goals as goal

pub returns : goal.returns
returns c =
    let count : ℕ = c.args.count in
    let kept = c.front_len-kept.ensures.length
    ∙ ap (λ (x : List ℕ). if cuts_pair x count then count - 1 else count) (c.split_at.ensures.back ∙ ap (λ (x : List ℕ). drop c.args.before x) c.deref.ensures.value) in
    c.truncate.ensures.items ∙ front-kept c.args.before c.front_len-kept.result c.args.count c.args.out.now.items kept
