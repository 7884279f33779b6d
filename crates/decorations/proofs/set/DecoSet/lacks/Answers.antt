use Rattle.std.proofs.Common.{◌≡◌, ◌↔◌, [], eqb, IsTrue, Option, None, sym, subst, ℕ}
use Rattle.std.specs.List.{filter}
use Rattle.decoration_rules.specs.Decorations.{Decorations, is_of}
use Rattle.decorations.proofs.Counted.{none-at_all}
use Rattle.decorations.proofs.set.DecoSet.lacks.Goals as goal

pub returns-in-None : goal.returns-in-None
returns-in-None c =
    subst (λ (owner : Option ℕ). IsTrue (eqb c.len.result 0) ↔ (filter (is_of owner) c.args.self.now.marks ≡ [])) (sym c.in-None.is)
    (subst (λ (d : Decorations). IsTrue (eqb c.len.result 0) ↔ (filter (is_of None) d.marks ≡ [])) c.self.view_is
    (none-at_all c.self.inside.tree.marks c.len.result c.len.ensures))
