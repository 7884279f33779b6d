use Rattle.std.proofs.Common.{◌≡◌, ◌+◌, ◌-◌, ◌++◌, ◌∙◌, length, map, set, sym, ap, arith}
use Rattle.std.proofs.lemmas.List.{length-append}
use Rattle.chunk_buffers.specs.Chunks.{at_most_64_bits}
use Rattle.chunk_buffers.proofs.Spans.{IsAppended, IsAppended-at, AreChunks-appended, appended_least, last_is, last_buffer_some}
use Rattle.chunk_buffers.proofs.chunks.Chunks.append_last.Goals as goal

appended : (c : goal.After-self-3-1) → IsAppended (map (λ b. b.units) c.self.inside.buffers.items)
    (map (λ b. b.units) (set c.self.inside.buffers.items (c.len-number.result - 1) c.append-start.new.self))
    (record { buffer = c.len-number.result - 1; start = c.append-start.result; units = length c.args.before.now + length c.args.text.now + length c.args.after.now })
    (c.args.before.now ++ c.args.text.now ++ c.args.after.now)
appended c =
    let text = c.args.before.now ++ c.args.text.now ++ c.args.after.now in
    let size : length c.args.before.now + length c.args.text.now + length c.args.after.now ≡ length text =
    omega (arith, length-append (c.args.before.now ++ c.args.text.now) c.args.after.now, length-append c.args.before.now c.args.text.now) in
    let spare = ap (λ v. v.here) c.self.view_is in
    let some = last_buffer_some c.self.inside.buffers.items (omega (arith, spare)) in
    let last : c.len-number.result - 1 + 1 ≡ length c.self.inside.buffers.items = omega (arith, some) in
    IsAppended-at c.self.inside.buffers.items (c.len-number.result - 1) c.index_mut-buffer.result.now c.append-start.new.self c.append-start.result _ text
    last c.index_mut-buffer.ensures.value c.append-start.ensures.units c.append-start.ensures.start size (omega (arith, c.self.invariant.few)) c.append-start.ensures.fits

pub returns-clause-shown : goal.returns-clause-shown
returns-clause-shown c = (appended c).shown

pub returns-clause-inside : goal.returns-clause-inside
returns-clause-inside c = (appended c).inside

pub returns-clause-grown : goal.returns-clause-grown
returns-clause-grown c = rw (ap (λ v. v.buffers) (sym c.self.view_is)) (appended c).grown

pub returns-clause-units : goal.returns-clause-units
returns-clause-units c = rw (ap (λ v. v.buffers) (sym c.self.view_is)) (appended c).few

pub returns-clause-last : goal.returns-clause-last
returns-clause-last c = rw (ap (λ v. v.buffers) (sym c.self.view_is)) (appended c).last

pub invariant_of-self : goal.invariant_of-self
invariant_of-self c =
    let items = c.self.inside.buffers.items in let old = c.index_mut-buffer.result.now in let new = c.append-start.new.self in
    let spare = ap (λ v. v.here) c.self.view_is in
    let last : c.len-number.result - 1 + 1 ≡ length items = omega (arith, last_buffer_some items (omega (arith, spare))) in
    let room = ap (λ b. b.break_room) (last_is items (c.len-number.result - 1) old last c.index_mut-buffer.ensures.value) in
    let least = appended_least old.units (c.args.before.now ++ c.args.text.now ++ c.args.after.now) new.units c.append-start.ensures.units in
    AreChunks-appended items c.self.inside.ready.items (c.len-number.result - 1) old new c.self.inside.units (length new.units - length old.units) c.saturating_add-self-inside.result
    c.self.inside.spare_breaks (c.self.inside.spare_breaks - (c.break_count.result - c.break_count-earlier.result)) _ c.self.invariant last c.index_mut-buffer.ensures.value
    (omega (arith, least))
    (c.saturating_add-self-inside.ensures
    ∙ (λ i. at_most_64_bits (c.self.inside.units + (length (c.units-2.ensures i) - length (c.units.ensures i)))))
    (omega (arith, room, c.self.invariant.breaks, c.append-start.ensures.break_room, c.append-start.ensures.breaks, c.break_count.ensures.count, c.break_count-earlier.ensures.count))
    (omega arith)
