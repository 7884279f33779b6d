use Rattle.std.proofs.Common.{◌≡◌, ◌+◌, ◌-◌, ◌<◌, List, take, refl, arith, sym, subst, ◌∙◌, inl}
use Rattle.std.proofs.Math.Seq.{take-set-lt}
use Rattle.std.proofs.lemmas.List.{length-take, length-set, get_or-take}
use Rattle.edit_stack.specs.declared.element.Element.{Element}
use Rattle.edit_stack.proofs.Cursors.{item_read}
use Rattle.edit_stack.proofs.LastTags.{AreUntagged, untagged_end, untagged_one, untagged_all}
use Rattle.edit_stack.proofs.stack.untag_closed.Goals as goal

pub loop-left-init : goal.loop-left-init
loop-left-init g c =
    let kept = c.args.kept in
    let items = c.args.elements.now.items in record {
      within = omega arith;
      done = untagged_end c.args.doc c.args.count (take kept items) kept (omega (arith, length-take kept items));
      len = refl;
      capacity = refl;
    }

pub loop-left-preserved : goal.loop-left-preserved
loop-left-preserved g c =
    let kept = c.args.kept in
    let at = c.loop-left.at - 1 in
    let old = c.args.elements.now.items in
    let items = c.loop-left.elements.items in
    let e = c.get_mut.result.now in
    let new = c.untag_of-left.new.self in
    let h = c.loop-left.invariant in
    let back : at + 1 ≡ c.loop-left.at = omega arith in
    let inside : at < kept = omega arith in
    let so_far = subst (λ n. AreUntagged c.args.doc c.args.count c.loop-left.left n (take kept old) (take kept items)) (sym back) h.done in
    let one = untagged_one c.args.doc c.args.count c.loop-left.left c.untag_of-left.result at (take kept old) (take kept items) e new
    (omega (arith, length-take kept items, h.len, c.requires.kept)) so_far (item_read items at e c.get_mut.ensures.value ∙ sym (get_or-take kept items at e inside)) c.untag_of-left.ensures.step c.untag_of-left.ensures.left in record {
      within = omega arith;
      done = subst (λ (es : List (Element g.row.C.Denot)). AreUntagged c.args.doc c.args.count c.untag_of-left.result at (take kept old) es)
          (sym (take-set-lt kept items at new inside)) one;
      len = length-set items at new ∙ h.len;
      capacity = h.capacity;
    }

pub returns-after-loop-left-clause-items : goal.returns-after-loop-left-clause-items
returns-after-loop-left-clause-items g c =
    untagged_all c.args.doc c.args.count c.loop-left.left c.loop-left.at (take c.args.kept c.args.elements.now.items)
    (take c.args.kept c.loop-left.elements.items) c.loop-left.invariant.done (inl (omega arith))
