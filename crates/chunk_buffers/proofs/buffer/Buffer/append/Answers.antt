use Rattle.std.proofs.Common.{◌+◌, ◌++◌, sym, ap, ◌∙◌, cond, [], ◌∷◌, arith}
use Rattle.text_rules.specs.Breaks.{joins_pair}
use Rattle.line_starts.specs.Starts.{break_count}
use Rattle.chunk_buffers.specs.Buffer.{padding}
use Rattle.chunk_buffers.proofs.Padding.{ends_appended, from_place_of, break_count-appended}
use Rattle.chunk_buffers.proofs.buffer.Buffer.append.Goals as goal

pub push_ends-requires-clause-room : goal.push_ends-requires-clause-room
push_ends-requires-clause-room c =
    let text = c.args.before.now ++ c.args.text.now ++ c.args.after.now in
    let added = from_place_of c.pad.new.units.items text c.deref.result.now c.len-start.result (c.deref.ensures.value ∙ c.push_all.ensures.items) (c.len-start.ensures ∙ c.pad.new.units.ok.0) in
    let room = ap (λ b. b.break_room) c.self.view_is in
    omega (arith, ap break_count added, room)

pub invariant_of-self : goal.invariant_of-self
invariant_of-self c =
    let text = c.args.before.now ++ c.args.text.now ++ c.args.after.now in
    let buffer = c.self.inside.units.items in
    let pair = c.would_make_pair-pair.ensures ∙ ap (λ b. joins_pair b.units text) (sym c.self.view_is) in
    let front = c.pad.ensures.items ∙ ap (λ b. cond b (buffer ++ padding ∷ []) buffer) pair in
    let ends = rw c.deref.ensures.value at
    (ends_appended buffer text c.pad.new.units.items c.deref.result.now c.self.inside.ends.items c.push_ends.new.ends.items c.len-start.result
    front (c.deref.ensures.value ∙ c.push_all.ensures.items) c.self.invariant.0 (c.len-start.ensures ∙ c.pad.new.units.ok.0) c.push_ends.ensures.items) in
    let room = ap (λ b. b.room) c.self.view_is in
    (ends, omega (arith, room))

pub returns-clause-break_room : goal.returns-clause-break_room
returns-clause-break_room c =
    let text = c.args.before.now ++ c.args.text.now ++ c.args.after.now in
    let added = from_place_of c.pad.new.units.items text c.deref.result.now c.len-start.result (c.deref.ensures.value ∙ c.push_all.ensures.items) (c.len-start.ensures ∙ c.pad.new.units.ok.0) in
    let room = ap (λ b. b.break_room) c.self.view_is in
    omega (arith, ap break_count added, room)

pub returns-clause-breaks : goal.returns-clause-breaks
returns-clause-breaks c =
    let text = c.args.before.now ++ c.args.text.now ++ c.args.after.now in
    let buffer = c.self.inside.units.items in
    let pair = c.would_make_pair-pair.ensures ∙ ap (λ b. joins_pair b.units text) (sym c.self.view_is) in
    let front = c.pad.ensures.items ∙ ap (λ b. cond b (buffer ++ padding ∷ []) buffer) pair in
    ap break_count (c.push_all.ensures.items ∙ ap (λ f. f ++ text) front) ∙ break_count-appended buffer text
    ∙ ap (λ b. break_count b.units + break_count text) c.self.view_is
