use Rattle.std.proofs.Common.{◌≡◌, ◌+◌, ◌-◌, ◌*◌, length, ap, sym, ◌∙◌, arith}
use Rattle.std.proofs.lemmas.List.{length-map}
use Rattle.chunk_buffers.proofs.Spans.{same_units, last_is, AreChunks-set}
use Rattle.chunk_buffers.proofs.chunks.Chunks.reserve_breaks.Goals as goal

pub returns-in_err-reserve_breaks-clause-same : goal.returns-in_err-reserve_breaks-clause-same
returns-in_err-reserve_breaks-clause-same c =
    same_units c.self.inside.buffers.items (c.len-number.result - 1) c.index_mut.result.now c.reserve_breaks.new.self c.index_mut.ensures.value c.reserve_breaks.ensures.units
    ∙ ap (λ v. v.buffers) c.self.view_is

pub returns-clause-same : goal.returns-clause-same
returns-clause-same c =
    same_units c.self.inside.buffers.items (c.len-number.result - 1) c.index_mut.result.now c.reserve_breaks.new.self c.index_mut.ensures.value c.reserve_breaks.ensures.units
    ∙ ap (λ v. v.buffers) c.self.view_is

pub invariant_of-self : goal.invariant_of-self
invariant_of-self c =
    let number = c.len-number.result - 1 in let items = c.self.inside.buffers.items in
    let last : number + 1 ≡ length items = omega (arith, c.len-number.ensures, c.requires.some, length-map items (λ b. b.units), ap (λ v. length v.buffers) c.self.view_is) in
    let room = ap (λ b. b.break_room) (last_is items number c.index_mut.result.now last c.index_mut.ensures.value) in
    AreChunks-set items c.self.inside.ready.items number c.index_mut.result.now c.reserve_breaks.new.self _ _ _ _ c.self.invariant last c.index_mut.ensures.value
    c.reserve_breaks.ensures.units (omega (arith, room, c.self.invariant.breaks, c.reserve_breaks.ensures.kept)) c.self.invariant.full

pub invariant_of-self-2 : goal.invariant_of-self-2
invariant_of-self-2 c =
    let number = c.len-number.result - 1 in let items = c.self.inside.buffers.items in
    let last : number + 1 ≡ length items = omega (arith, c.len-number.ensures, c.requires.some, length-map items (λ b. b.units), ap (λ v. length v.buffers) c.self.view_is) in
    let none : length c.self.inside.ready.items ≡ 0 = omega (arith, c.requires.alone, ap (λ v. v.here) c.self.view_is, ap (λ v. v.spare) c.self.view_is) in
    AreChunks-set items c.self.inside.ready.items number c.index_mut.result.now c.reserve_breaks.new.self _ _ _ _ c.self.invariant last c.index_mut.ensures.value
    c.reserve_breaks.ensures.units (omega (arith, c.in_ok-reserve_breaks.ensures.ok)) (λ k d lt. absurd (omega (arith, none)))
