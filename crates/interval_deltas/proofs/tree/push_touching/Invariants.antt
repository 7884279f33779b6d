use Rattle.std.proofs.Common.{◌≡◌, ℕ, ◌≤◌, ◌++◌, List, length}
use Rattle.decoration_rules.specs.Marks.{touching}
use Rattle.interval_deltas.specs.declared.weave.KeptMark.{KeptMark}
use Rattle.interval_deltas.specs.Kept.{FirstReaching, capped, marks_of}
use Rattle.interval_deltas.proofs.tree.push_touching.Given as goal

abbrev pub invariant-loop-turn : goal.invariant-loop-turn
invariant-loop-turn l =
    (us : List (ℕ × KeptMark)) × ((vs : List (ℕ × KeptMark)) × (l.tree.items ≡ us ++ vs) × FirstReaching (capped l.span.start) vs l.next × (l._turn ≤ length us)
    × (l.out.items ≡ l.fn.out.items ++ touching l.span (marks_of us)))
