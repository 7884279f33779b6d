use Rattle.std.proofs.Common.{[], length, None, refl, sym, subst, arith}
use Rattle.std.specs.Prelude.{replicate}
use Rattle.std.proofs.lemmas.List.Elements.{All-nil}
use Rattle.hiding_rules.specs.declared.LineState.TheVariants.{Code}
use Rattle.hiding_rules.specs.Hidden.{scanner}
use Rattle.line_states.specs.Settling.{borders}
use Rattle.mark_rules.specs.declared.Mark.TheVariants.{New}
use Rattle.decoration_rules.specs.declared.Mark.{Mark}
use Rattle.decoration_rules.specs.Decorations.{Decorations}
use Rattle.decoration_rules.specs.Moves.{IsSpanIn, LieIn}
use Rattle.model_page.proofs.Staying.{stays_as, stays_unparsed}
use Rattle.model_page.proofs.page.Page.new.Goals as goal

pub invariant_of-result : goal.invariant_of-result
invariant_of-result c =
    let x = c.new.result.units in
    let len = length x in
    let by = scanner c.standard.result c.none.result in
    record {
      endings = rw (c.new.ensures.units, c.new.ensures.kind) refl;
      fits = rw c.new.ensures.units (omega arith);
      inside = record {
        sound = c.new-2.ensures.sound;
        inside = subst (λ (d : Decorations). LieIn len d.marks) (sym c.new-2.ensures.value) (All-nil (λ (mark : Mark). IsSpanIn mark.span len));
      };
      stays = stays_as None c.none-2.result.tree (replicate 1 New) c.none-2.result.marks (borders [] Code) c.none-2.result.states by [] x
          c.none-2.ensures.tree c.none-2.ensures.marks c.none-2.ensures.states c.new.ensures.units (stays_unparsed (borders [] Code) by [] 1 refl refl);
    }
