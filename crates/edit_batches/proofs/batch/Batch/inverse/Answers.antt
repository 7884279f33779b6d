use Rattle.std.proofs.Common.{◌≡◌, ◌≤◌, ℕ, List, length, sym, subst, rules, arith}
use Rattle.text_rules.specs.declared.Op.{Op}
use Rattle.batch_rules.specs.Batches.{applied_from, applied, inverse_from, text_units, StandFrom}
use Rattle.batch_rules.proofs.Standing.{follow_standing, text_units_inverse}
use Rattle.batch_rules.proofs.Inverses.{inverse_stands_from_start, inverse_takes_back}
use Rattle.edit_batches.proofs.batch.Batch.inverse.Goals as goal

-- the properties of the inverse of ops that stand in a text
record TakesBack (x : List ℕ) (ops back : List Op) : Type 0 where
  standing : StandFrom 0 (applied_from 0 x ops) back
  gives : applied (applied x ops) back ≡ x
  texts : text_units back ≤ length x

takes_back : (x : List ℕ) (ops back : List Op) → StandFrom 0 x ops → back ≡ inverse_from 0 0 x ops → TakesBack x ops back
takes_back x ops back standing same =
    let facts : TakesBack x ops (inverse_from 0 0 x ops) = record {
      standing = inverse_stands_from_start x ops standing;
      gives = inverse_takes_back x ops standing;
      texts = omega (arith, text_units_inverse 0 0 x ops standing);
    } in
    subst (TakesBack x ops) (sym same) facts

pub invariant_of-result : goal.invariant_of-result
invariant_of-result g c =
    let facts = takes_back (g.F.Flat.units c.args.text.now) c.args.self.now c.in_ok-ops.ops.items c.requires.standing (search rules) in
    follow_standing 0 (applied_from 0 (g.F.Flat.units c.args.text.now) c.args.self.now) c.in_ok-ops.ops.items facts.standing

pub returns-clause-standing : goal.returns-clause-standing
returns-clause-standing g c =
    let facts = takes_back (g.F.Flat.units c.args.text.now) c.args.self.now c.in_ok-ops.ops.items c.requires.standing (search rules) in
    facts.standing

pub returns-clause-back : goal.returns-clause-back
returns-clause-back g c =
    let facts = takes_back (g.F.Flat.units c.args.text.now) c.args.self.now c.in_ok-ops.ops.items c.requires.standing (search rules) in
    facts.gives

pub returns-clause-texts : goal.returns-clause-texts
returns-clause-texts g c =
    let facts = takes_back (g.F.Flat.units c.args.text.now) c.args.self.now c.in_ok-ops.ops.items c.requires.standing (search rules) in
    facts.texts
