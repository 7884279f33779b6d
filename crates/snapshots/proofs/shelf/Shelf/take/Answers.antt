use Rattle.std.proofs.Common.{◌≡◌, ◌++◌, ◌∷◌, [], ◌||◌, nat_le, nat_lt, length, ap, sym, ◌∙◌, rules}
use Rattle.snapshot_rules.specs.Snapshots.{most_snapshots, greatest_snapshot}
use Rattle.snapshots.specs.Shown.{Shown}
use Rattle.snapshots.proofs.Places.{taken-ordered}
use Rattle.snapshots.proofs.shelf.Shelf.take.Goals as goal

pub invariant_of-self-2 : goal.invariant_of-self-2
invariant_of-self-2 c =
    let items : c.push.new.self.items ≡ c.self.inside.snapshots.items ++ c.of_spans-kept.result ∷ [] = search rules in
    let room = ap (λ (t : Shown). nat_le most_snapshots (length t.snapshots) || nat_lt greatest_snapshot t.next_id) c.self.view_is ∙ sym c.is_full.ensures ∙ c.if-is_full.false in
    rw (items, c.of_spans-kept.ensures)
    (taken-ordered (record { snapshots = c.self.inside.snapshots.items; next_id = c.self.inside.next_id }) c.self.invariant c.args.spans.items room)
