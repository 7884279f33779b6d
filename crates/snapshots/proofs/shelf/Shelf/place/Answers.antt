use Rattle.std.proofs.Common.{rules, []}
use Rattle.std.proofs.lemmas.List.Sorted.{answers_always}
use Rattle.snapshots.specs.Spans.{Spelled}
use Rattle.snapshots.proofs.Places.{rises, place-searched}
use Rattle.snapshots.proofs.shelf.Shelf.place.Goals as goal

pub returns : goal.returns
returns c =
    let facts = c.binary_search_by_key.ensures in
    let by_key = facts.position (λ (s : Spelled). s.id) (answers_always _ _ _ (λ f a r g called. search rules)) in
    rw (← c.self.view_is, ← c.deref.ensures.value)
    (place-searched c.args.id c.deref.result.now (rw c.deref.ensures.value (rises [] _ c.self.invariant.rising)) _ facts.bound by_key _ c.ok.ensures.value)
