-- The cost from call to call.
use Rattle.std.proofs.Common.{ℕ, ◌+◌, ◌<◌, eqb, refl, ◌∙◌, arith, inl, inr}
use Rattle.std.proofs.lemmas.Bool.{cases_Bool}
use Rattle.bracket_nodes.specs.declared.parser.Stop.{Stop}
use Rattle.bracket_nodes.specs.declared.parser.Stop.TheVariants.{AtEnd, AtClosing}
use Rattle.bracket_tree_rules.specs.Tree.{Tree}
use Rattle.bracket_tree_rules.specs.Told.{has_kind}
use Rattle.bracket_nodes.specs.Source.{closing_taken, pair_taken}
use Rattle.bracket_nodes.specs.Paying.{Paying, HasRoom, Spends, PaysOn, PaysUpTo, PaysTaken}

pub PaysOn-same : (a : Paying) → PaysOn a a
PaysOn-same a = record { known = refl; pays = omega arith; opens = omega arith; deepest = refl }

pub PaysOn-then : (a b c : Paying) → PaysOn a b → PaysOn b c → PaysOn a c
PaysOn-then a b c h k = record {
  known = k.known ∙ h.known;
  pays = omega (arith, h.pays, k.pays);
  opens = omega (arith, h.opens, k.opens);
  deepest = k.deepest ∙ h.deepest;
}

-- there is as much room after a paid call
pub HasRoom-on : (a b : Paying) (level : ℕ) → PaysOn a b → HasRoom a level → HasRoom b level
HasRoom-on a b level h room = record { known = h.known ∙ room.known; room = omega (arith, h.opens, h.deepest, room.room) }

-- after an opening bracket there is room one level higher
pub HasRoom-opened : (a b : Paying) (level : ℕ) → PaysOn a b × (b.opens < a.opens) → HasRoom a level → HasRoom b (level + 1)
HasRoom-opened a b level h room =
    let fewer : b.opens < a.opens = h.1 in
    record { known = h.0.known ∙ room.known; room = omega (arith, h.0.deepest, room.room) }

pub Spends-on : (a b : Paying) → PaysOn a b → Spends a b
Spends-on a b h = omega (arith, h.pays)

pub Spends-then : (a b c : Paying) → PaysOn a b → Spends b c → Spends a c
Spends-then a b c h k = omega (arith, h.pays, k)

pub PaysUpTo-then : (a b c : Paying) (stop : Stop) → PaysOn a b → PaysUpTo b c stop → PaysUpTo a c stop
PaysUpTo-then a b c AtEnd h k = tt
PaysUpTo-then a b c (AtClosing j v) h k = PaysOn-then a b c h k

pub PaysTaken-closing : (a b : Paying) (kinds k w : ℕ) → PaysOn a b → PaysTaken a b (closing_taken kinds k w)
PaysTaken-closing a b kinds k w h =
    elim (cases_Bool (has_kind kinds k)) [
      | inl e ↦ rw e h
      | inr e ↦ rw e h
    ]

pub PaysTaken-paired : (a b : Paying) (k w : ℕ) (t : Tree) (stop : Stop) → PaysUpTo a b stop → PaysTaken a b (pair_taken k w t stop)
PaysTaken-paired a b k w t AtEnd h = tt
PaysTaken-paired a b k w t (AtClosing j v) h =
    elim (cases_Bool (eqb j k)) [
      | inl e ↦ rw e h
      | inr e ↦ rw e h
    ]
