-- What a set keeps.
use Rattle.std.proofs.Common.{◌≡◌, ◌<◌, ◌≤◌, List, get_or, map, refl, sym, subst, arith}
use Rattle.std.proofs.lemmas.List.{length-map}
use Rattle.std.proofs.lemmas.List.Elements.{All-map}
use Rattle.decoration_rules.specs.declared.Edit.{Edit}
use Rattle.decoration_rules.specs.declared.LineMove.{LineMove}
use Rattle.decoration_rules.specs.declared.Mark.{Mark}
use Rattle.decoration_rules.specs.Lines.{AreLineMoves, carried_mark, carried_with_lines}
use Rattle.decoration_rules.specs.Moves.{moved_mark}
use Rattle.decoration_rules.specs.Marks.{in_order}
use Rattle.decoration_rules.proofs.LineLemmas.{carried_mark-upright}
use Rattle.decoration_rules.proofs.MoveLemmas.{moved-upright}
use Rattle.decoration_rules.proofs.MarkLists.{All-in_order, IsInOrder-in_order, distinct_in_order, distinct_map, length-in_order}
use Rattle.decoration_rules.specs.Decorations.{Decorations, IsSound}

-- each is changed, and keeps its id and stays upright
IsSound-changed : (to : Mark → Mark) → ((m : Mark) → (to m).id ≡ m.id) → ((m : Mark) → m.span.start ≤ m.span.end → (to m).span.start ≤ (to m).span.end) → (d : Decorations) → IsSound d
    → IsSound (record d { marks = in_order (map to d.marks) })
IsSound-changed to keeps upright d sound =
    let changed = map to d.marks in
    let distinct = distinct_map to keeps d.marks sound.distinct in
    record {
      ordered = IsInOrder-in_order changed distinct;
      distinct = distinct_in_order changed distinct;
      used = All-in_order (λ (mark : Mark). mark.id < d.next_id) changed
          (All-map (λ (mark : Mark). mark.id < d.next_id) to d.marks (λ k e k_in. subst (λ id. id < d.next_id) (sym (keeps (get_or d.marks k e))) (sound.used k e k_in)));
      upright = All-in_order (λ (mark : Mark). mark.span.start ≤ mark.span.end) changed
          (All-map (λ (mark : Mark). mark.span.start ≤ mark.span.end) to d.marks (λ k e k_in. upright (get_or d.marks k e) (sound.upright k e k_in)));
      few = omega (arith, length-in_order changed, length-map d.marks to, sound.few);
      first = sound.first;
      last = sound.last;
    }

pub IsSound-accept : (edit : Edit) (d : Decorations) → IsSound d → IsSound (record d { marks = in_order (map (moved_mark edit) d.marks) })
IsSound-accept edit d sound = IsSound-changed (moved_mark edit) (λ _. refl) (λ m _. moved-upright m.span m.sticky m.collapse edit) d sound

pub IsSound-carry : (lines : List LineMove) (d : Decorations) → AreLineMoves lines → IsSound d → IsSound (record d { marks = carried_with_lines lines d.marks })
IsSound-carry lines d are sound = IsSound-changed (carried_mark lines) (λ _. refl) (λ m upright. carried_mark-upright lines m are upright) d sound
