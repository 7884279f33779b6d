-- Ops whose texts are told in bytes, and in turn counted in units.
use Rattle.std.proofs.Common.{◌≡◌, ℕ, ◌<◌, ◌≤◌, ◌||◌, not, true, false, List, [], ◌∷◌, ◌++◌, length, take, drop, nat_lt, Ok, Err, refl, ap, append-nil, arith}
use Rattle.std.proofs.lemmas.Grind.{common_steps}
use Rattle.std.specs.Str.{is_utf8}
use Rattle.unit_text.specs.Text.{units_of}
use Rattle.document_rules.specs.Refusals.{range}
use Rattle.textmodel_c.specs.declared.joint.DocOp.{DocOp}
use Rattle.textmodel_c.specs.JointOps.{ops_in_units}
use Rattle.textmodel_c.proofs.JoinedTexts.{found_before, found_before-one, is_short}

fits : (a b : ℕ) → b ≤ a → nat_lt a b ≡ false
fits a b le = grind (arith, common_steps)

pub counted_step : (front : List DocOp) (op counted : DocOp) (more : List DocOp) (rest : List ℕ) → op.units ≤ length rest → is_utf8 (take op.units rest) ≡ true
    → counted ≡ record op { units = length (units_of (take op.units rest)) }
    → found_before front (ops_in_units (op ∷ more) rest) ≡ found_before (front ++ counted ∷ []) (ops_in_units more (drop op.units rest))
counted_step front op counted more rest le valid is =
    rw (fits (length rest) op.units le, valid, is)
    (found_before-one front (record op { units = length (units_of (take op.units rest)) }) (ops_in_units more (drop op.units rest)))

pub counted_short : (front : List DocOp) (op : DocOp) (more : List DocOp) (rest : List ℕ) → length rest < op.units
    → found_before front (ops_in_units (op ∷ more) rest) ≡ Err range
counted_short front op more rest lt = rw (is_short (length rest) op.units lt) refl

pub counted_cut : (front : List DocOp) (op : DocOp) (more : List DocOp) (rest : List ℕ) → op.units ≤ length rest → is_utf8 (take op.units rest) ≡ false
    → found_before front (ops_in_units (op ∷ more) rest) ≡ Err range
counted_cut front op more rest le invalid = rw (fits (length rest) op.units le, invalid) refl

pub counted_left : (front : List DocOp) (rest : List ℕ) → 0 < length rest → found_before front (ops_in_units [] rest) ≡ Err range
counted_left front [] lt = absurd (omega (arith, lt))
counted_left front (byte ∷ rest) lt = refl

pub counted_all : (front : List DocOp) (rest : List ℕ) → length rest ≡ 0 → found_before front (ops_in_units [] rest) ≡ Ok front
counted_all front [] none = ap Ok (append-nil front)
counted_all front (byte ∷ rest) none = absurd (omega (arith, none))
