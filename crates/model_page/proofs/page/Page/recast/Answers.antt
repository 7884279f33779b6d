use Rattle.std.proofs.Common.{◌≡◌, ℕ, List, length, ap, sym, ◌∙◌, arith}
use Rattle.decoration_rules.specs.Decorations.{Decorations}
use Rattle.decoration_rules.specs.Lines.{length_now}
use Rattle.decoration_rules.proofs.LineLemmas.{LieIn-carried}
use Rattle.hiding_rules.specs.Hidden.{scanner}
use Rattle.document_rules.specs.Document.{FlatText}
use Rattle.decoration_rules.specs.LineMoves.{line_moves, HaveSameContents}
use Rattle.decoration_rules.proofs.LineMoves.{length_now-moves}
use Rattle.model_page.specs.Changes.{text_from, text_to}
use Rattle.model_page.specs.State.{PageState, flat_text}
use Rattle.model_page.proofs.Staying.{stays_recast}
use Rattle.model_page.proofs.page.Page.recast.Goals as goal

pub invariant_of-self : goal.invariant_of-self
invariant_of-self c =
    let page = c.self.inside in
    let old = c.self.invariant in
    let side = c.side-side.result.now in
    let from : List ℕ = (text_from c.args.way c.args.recast.now).units in
    let to : List ℕ = (text_to c.args.way c.args.recast.now).units in
    let was : page.text.units ≡ from = sym (ap (λ (t : FlatText). t.units) (c.requires.text ∙ sym (ap (λ (p : PageState). flat_text p.text) c.self.view_is))) in
    let there : side.units ≡ to = ap (λ (t : FlatText). t.units) c.side-side.ensures.text in
    let units : c.recast_again.new.self.units ≡ to = c.recast_again.ensures.units ∙ c.units.ensures ∙ there in
    let same : HaveSameContents page.text.units c.recast_again.new.self.units = rw (was, units) c.side-side.ensures.contents in
    let moves : c.moves.result.now ≡ line_moves from to = c.moves.ensures ∙ c.side-side.ensures.moves in
    let lie = LieIn-carried c.moves.result.now (length page.text.units) page.decorations.marks (rw c.moves.ensures c.side-side.ensures.lines) old.inside.inside in
    let size : length_now c.moves.result.now ≡ length c.recast_again.new.self.units =
    ap length_now moves ∙ length_now-moves from to c.side-side.ensures.contents ∙ ap length (sym units) in
    let marks = ap (λ (d : Decorations). d.marks) c.carry.ensures.carried in
    record {
      endings = rw (c.recast_again.ensures.kind, c.kind.ensures, c.recast_again.ensures.units, c.units.ensures) c.side-side.ensures.endings;
      fits = omega (arith, ap length units, ap length there, c.side-side.ensures.fits);
      inside = record {
        sound = c.carry.ensures.sound;
        inside = rw (marks, ← size) lie;
      };
      stays = stays_recast page.last.tree page.last.marks page.last.states (scanner page.table page.hiding) page.text.units c.recast_again.new.self.units same old.stays;
    }
