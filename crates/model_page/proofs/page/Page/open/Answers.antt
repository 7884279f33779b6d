use Rattle.std.proofs.Common.{[], length, None, refl, sym, subst}
use Rattle.std.specs.Prelude.{replicate}
use Rattle.std.proofs.lemmas.List.Elements.{All-nil}
use Rattle.text_rules.specs.Lines.{lines_of}
use Rattle.hiding_rules.specs.declared.LineState.TheVariants.{Code}
use Rattle.hiding_rules.specs.Hidden.{scanner}
use Rattle.line_states.specs.Settling.{borders}
use Rattle.mark_rules.specs.declared.Mark.TheVariants.{New}
use Rattle.decoration_rules.specs.declared.Mark.{Mark}
use Rattle.decoration_rules.specs.Decorations.{Decorations}
use Rattle.decoration_rules.specs.Moves.{IsSpanIn, LieIn}
use Rattle.model_page.proofs.Staying.{stays_as, stays_unparsed}
use Rattle.model_page.proofs.page.Page.open.Goals as goal

pub invariant_of-result : goal.invariant_of-result
invariant_of-result c =
    let x = c.args.units.now in
    let text = c.in_ok-text.text in
    let last = c.in_ok-text.last in
    let len = length text.units in
    let lines = length (lines_of x) in
    let told = c.in_ok-text.ensures in
    let by = scanner c.args.table c.args.hiding in
    record {
      endings = rw (told.units, told.kind) c.requires.endings;
      fits = rw told.units c.requires.fits;
      inside = record {
        sound = c.new.ensures.sound;
        inside = subst (λ (d : Decorations). LieIn len d.marks) (sym c.new.ensures.value) (All-nil (λ (mark : Mark). IsSpanIn mark.span len));
      };
      stays = stays_as None last.tree (replicate lines New) last.marks (borders [] Code) last.states by x text.units told.tree told.marks told.states told.units
          (stays_unparsed (borders [] Code) by x lines refl refl);
    }
