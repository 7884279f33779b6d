use Rattle.std.proofs.Common.{◌≡◌, ◌+◌, ◌-◌, ◌++◌, ◌∷◌, [], length, map, ap, sym, subst, ◌∙◌, arith}
use Rattle.chunk_buffers.specs.Chunks.{last_buffer}
use Rattle.chunk_buffers.proofs.Spans.{AreChunks-begun, last_begun, last_push, units_begun}
use Rattle.chunk_buffers.proofs.chunks.Chunks.begin_ready.Goals as goal

pub invariant_of-self : goal.invariant_of-self
invariant_of-self c =
    AreChunks-begun c.self.inside.buffers.items c.self.inside.ready.items c.pop.new.self.items c.push_reserved.new.self.items c.in-Some.buffer
    _ _ _ _ c.self.invariant c.in-Some.ensures.items c.push_reserved.ensures.items
    (omega (arith, c.self.invariant.place, c.push_reserved.ensures.len, c.push_reserved.ensures.capacity, c.in-Some.ensures.len))

pub returns-in-Some-clause-here : goal.returns-in-Some-clause-here
returns-in-Some-clause-here c =
    let begun = (last_begun c.self.inside.ready.items c.pop.new.self.items c.in-Some.buffer _ c.self.invariant.full c.in-Some.ensures.items).room in
    omega (arith, begun, ap (λ items. (last_buffer items).room) c.push_reserved.ensures.items, ap (λ b. b.room) (last_push c.self.inside.buffers.items c.in-Some.buffer))

pub returns-in-Some-clause-buffers : goal.returns-in-Some-clause-buffers
returns-in-Some-clause-buffers c =
    let begun = last_begun c.self.inside.ready.items c.pop.new.self.items c.in-Some.buffer _ c.self.invariant.full c.in-Some.ensures.items in
    ap (map (λ b. b.units)) c.push_reserved.ensures.items ∙ units_begun c.self.inside.buffers.items c.in-Some.buffer begun.empty
    ∙ ap (λ v. v.buffers ++ [] ∷ []) c.self.view_is
