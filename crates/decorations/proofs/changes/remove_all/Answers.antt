use Rattle.std.proofs.Common.{◌≡◌, ◌+◌, ◌∷◌, List, drop, get_or, refl, sym, ◌∙◌, ap, subst, arith}
use Rattle.std.specs.List.{list_all}
use Rattle.std.proofs.lemmas.Bool.{and_parts}
use Rattle.std.proofs.lemmas.List.{drop_more, drop_all}
use Rattle.decoration_rules.specs.declared.Mark.{Mark}
use Rattle.decoration_rules.specs.Marks.{is_live}
use Rattle.decoration_rules.specs.Decorations.{kept}
use Rattle.decorations.proofs.Removed.{kept-none, kept-first, AreLeft, AreLeft-rest}
use Rattle.decorations.proofs.changes.remove_all.Goals as goal

pub loop-id-init : goal.loop-id-init
loop-id-init c = record { same = refl; left = record { live = c.requires.live; once = c.requires.once }; room = omega arith }

pub remove-requires : goal.remove-requires
remove-requires c =
    let id = get_or c.args.ids.now c.loop-id.id-index 0 in
    let rest = drop (c.loop-id.id-index + 1) c.args.ids.now in
    let here : drop c.loop-id.id-index c.args.ids.now ≡ id ∷ rest = drop_more c.args.ids.now c.loop-id.id-index 0 (omega arith) in
    let left : AreLeft c.loop-id.tree.marks (id ∷ rest) = subst (AreLeft c.loop-id.tree.marks) here c.loop-id.invariant.left in
    (and_parts (is_live c.loop-id.tree.marks id) (list_all (is_live c.loop-id.tree.marks) rest) left.live).0

pub loop-id-preserved : goal.loop-id-preserved
loop-id-preserved c =
    let id = get_or c.args.ids.now c.loop-id.id-index 0 in
    let rest = drop (c.loop-id.id-index + 1) c.args.ids.now in
    let here : drop c.loop-id.id-index c.args.ids.now ≡ id ∷ rest = drop_more c.args.ids.now c.loop-id.id-index 0 (omega arith) in
    let left : AreLeft c.loop-id.tree.marks (id ∷ rest) = subst (AreLeft c.loop-id.tree.marks) here c.loop-id.invariant.left in
    record {
      same = ap (λ ms. kept ms rest) c.remove.ensures.marks ∙ sym (kept-first id rest c.loop-id.tree.marks) ∙ ap (kept c.loop-id.tree.marks) (sym here) ∙ c.loop-id.invariant.same;
      left = subst (λ (ms : List Mark). AreLeft ms rest) (sym c.remove.ensures.marks) (AreLeft-rest id rest c.loop-id.tree.marks left);
      room = omega arith;
    }

pub returns-clause-marks : goal.returns-clause-marks
returns-clause-marks c =
    sym (kept-none c.loop-id.tree.marks) ∙ ap (kept c.loop-id.tree.marks) (sym (drop_all c.loop-id.id-index c.args.ids.now (omega arith))) ∙ c.loop-id.invariant.same
