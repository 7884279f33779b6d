use Rattle.model_page.proofs.Carries.{inside-decorated}
use Rattle.model_page.proofs.page.Page.decorate.Goals as goal

pub invariant_of-self : goal.invariant_of-self
invariant_of-self c =
    let m = c.self.inside in
    let old = c.self.invariant in
    let inside = inside-decorated c.delta.result m.decorations c.delta.new.self c.args.owner c.args.remove.now c.args.add.now m.text.kind m.text.units c.delta.ensures.change old.inside.inside in
    record { endings = old.endings; fits = old.fits; inside = record { sound = c.delta.ensures.sound; inside = inside }; stays = old.stays }
