use Rattle.std.proofs.Common.{◌≡◌, ◌+◌, slice_get, Some, ap, subst, ◌∙◌, arith}
use Rattle.edit_stack.specs.Element.{step_of}
use Rattle.std.specs.Prelude.{Bool}
use Rattle.model_page.specs.State.{flat_text}
use Rattle.model_page.specs.Ways.{place_at, rest_on}
use Rattle.model_page.proofs.Pages.{IsFollowed, way_begins, can_follow, way_goes_on, way_ends}
use Rattle.model_page.proofs.Turns.{turn_by, IsNext, all_left, none_left}
use Rattle.model_page.proofs.page.Page.lead.Goals as goal
use Rattle.model_page.proofs.page.Page.lead.Goals.{After-forces}

next_now : (c : After-forces) → let cs = (step_of c.args.step.now).changes in
    IsNext c.args.way (rest_on c.args.way c.loop-done.done cs) c.change.result.now (rest_on c.args.way (c.loop-done.done + 1) cs) (flat_text c.loop-done.self.text)
next_now c =
    let cs = (step_of c.args.step.now).changes in
    let at = c.place_at-at.ensures ∙ ap (λ count. place_at c.args.way count c.loop-done.done) c.len.ensures in
    let is = subst (λ k. slice_get cs k ≡ Some c.change.result.now) at c.change.ensures in
    turn_by c.args.way cs c.loop-done.done c.change.result.now (flat_text c.loop-done.self.text) (omega arith) is c.loop-done.invariant.can.lead

pub loop-done-init : goal.loop-done-init
loop-done-init c =
    let cs = (step_of c.args.step.now).changes in
    way_begins c.args.way c.args.self.now cs (rest_on c.args.way 0 cs) (all_left c.args.way cs) c.requires

pub follow-requires : goal.follow-requires
follow-requires c =
    let cs = (step_of c.args.step.now).changes in
    let left = rest_on c.args.way c.loop-done.done cs in
    let rest = rest_on c.args.way (c.loop-done.done + 1) cs in
    can_follow c.args.way c.args.self.now c.loop-done.self cs left c.change.result.now rest c.loop-done.invariant (next_now c)

pub loop-done-preserved : goal.loop-done-preserved
loop-done-preserved c =
    let cs = (step_of c.args.step.now).changes in
    let left = rest_on c.args.way c.loop-done.done cs in
    let rest = rest_on c.args.way (c.loop-done.done + 1) cs in
    let done : IsFollowed c.args.way c.forces.result c.change.result.now c.loop-done.self c.follow.new.self = record {
      text = c.follow.ensures.text;
      decorations = c.follow.ensures.decorations;
      marks = c.follow.ensures.marks;
      parse = c.follow.ensures.parse;
      grown = c.follow.ensures.grown;
      spent = c.follow.ensures.spent;
    } in
    let as_way = subst (λ (b : Bool). IsFollowed c.args.way b c.change.result.now c.loop-done.self c.follow.new.self) c.forces.ensures done in
    way_goes_on c.args.way c.args.self.now c.loop-done.self cs left c.change.result.now rest c.loop-done.invariant (next_now (goal.at.loop-done-preserved c).After-forces)
    c.follow.new.self as_way

pub returns : goal.returns
returns c =
    let cs = (step_of c.args.step.now).changes in
    let none = none_left c.args.way cs c.loop-done.done (omega arith) in
    let led = way_ends c.args.way c.args.self.now c.loop-done.self cs (rest_on c.args.way c.loop-done.done cs) none c.loop-done.invariant in
    record { text = led.text; decorations = led.decorations; marks = led.marks; parse = led.parse; grown = led.grown; appended = led.appended }
