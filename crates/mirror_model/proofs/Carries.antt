-- A text along batches that fit it, in the room that was made for them.
use Rattle.std.proofs.Common.{◌≡◌, ℕ, ◌+◌, ◌≤◌, Bool, true, false, cond, List, [], ◌∷◌, length, Option, Some, None, refl, ap, sym, ◌∙◌, arith}
use Rattle.std.specs.List.{All}
use Rattle.std.specs.Option.{option_map}
use Rattle.std.proofs.lemmas.Bool.{ltb-false, or_parts}
use Rattle.std.proofs.lemmas.List.Elements.{All-nil, All-cons}
use Rattle.std.proofs.lemmas.List.Sums.{sum_by-cons}
use Rattle.unit_text.specs.declared.kind.Kind.TheVariants.{Mixed}
use Rattle.text_rules.specs.declared.Op.{Op}
use Rattle.text_buffer.specs.Text.{Text}
use Rattle.text_buffer.specs.Room.{IsEnough, HasSpent}
use Rattle.batch_rules.specs.Batches.{most_units, applied_from, text_units, StandFrom, FollowFrom}
use Rattle.batch_rules.specs.Events.{is_misfit, first_misfit, after_batches}
use Rattle.batch_rules.proofs.Standing.{text_units_applied}
use Rattle.edit_batches.proofs.Lengths.{standing_below}
use Rattle.text_batches.specs.Needs.{edit_count, text_breaks, need_of_ops, need_of_batches}

-- the first of batches that fit, and those after it
pub record IsFit (x : List ℕ) (ops : List Op) (rest : List (List Op)) : Type 0 where
  pub fits : is_misfit x ops ≡ false
  pub later : first_misfit (applied_from 0 x ops) rest ≡ None

no_misfit : (b : Bool) (rest : Option ℕ) → cond b (Some 1) (option_map (λ n. n + 1) rest) ≡ None → (b ≡ false) × (rest ≡ None)
no_misfit true rest e = absurd cc
no_misfit false None e = (refl, refl)
no_misfit false (Some n) e = absurd cc

pub fit_first : (x : List ℕ) (ops : List Op) (rest : List (List Op)) → first_misfit x (ops ∷ rest) ≡ None → IsFit x ops rest
fit_first x ops rest e =
    let parts = no_misfit (is_misfit x ops) (first_misfit (applied_from 0 x ops) rest) e in
    record { fits = parts.0; later = parts.1 }

-- a batch that fits a text
module _ (x : List ℕ) (ops : List Op) (fits : is_misfit x ops ≡ false) where
  pub fit_length : length (applied_from 0 x ops) ≤ most_units
  fit_length = ltb-false _ _ (or_parts _ _ fits).1

  pub fit_stands : FollowFrom 0 ops → StandFrom 0 x ops
  fit_stands follow = standing_below 0 x ops follow (or_parts _ _ fits).0 (omega arith)

  pub fit_texts : FollowFrom 0 ops → text_units ops ≤ most_units
  fit_texts follow = omega (arith, fit_length, text_units_applied 0 x ops (fit_stands follow))

-- no batch that fits has more units in its texts than a text may have
pub few_texts : (x : List ℕ) (batches : List (List Op)) → first_misfit x batches ≡ None → All (λ ops. FollowFrom 0 ops → text_units ops ≤ most_units) batches
few_texts x [] e = All-nil (λ (ops : List Op). FollowFrom 0 ops → text_units ops ≤ most_units)
few_texts x (ops ∷ batches) e =
    let fit = fit_first x ops batches e in
    All-cons (λ (ops : List Op). FollowFrom 0 ops → text_units ops ≤ most_units) ops batches (fit_texts x ops fit.fits) (few_texts (applied_from 0 x ops) batches fit.later)

-- these batches are left on the way, and there is room for them
pub record IsOnWay (old : List ℕ) (batches left : List (List Op)) (now : Text) : Type 0 where
  pub kind : now.kind ≡ Mixed
  pub small : length now.units ≤ most_units
  pub fits : first_misfit now.units left ≡ None
  pub after : after_batches now.units left ≡ after_batches old batches
  pub room : IsEnough now.room (need_of_batches left)

module _ (old : List ℕ) (batches : List (List Op)) (now : Text) where
  pub way_ends : (left : List (List Op)) → left ≡ [] → IsOnWay old batches left now → now.units ≡ after_batches old batches
  way_ends left none way = sym (ap (after_batches now.units) none) ∙ way.after

  module _ (ops : List Op) (rest : List (List Op)) (way : IsOnWay old batches (ops ∷ rest) now) where
    first_fits : IsFit now.units ops rest
    first_fits = fit_first now.units ops rest way.fits

    pub first_stands : FollowFrom 0 ops → StandFrom 0 now.units ops
    first_stands follow = fit_stands now.units ops first_fits.fits follow

    pub first_texts : FollowFrom 0 ops → text_units ops ≤ most_units
    first_texts follow = fit_texts now.units ops first_fits.fits follow

    need_edits : (need_of_batches (ops ∷ rest)).edits ≡ edit_count ops + (need_of_batches rest).edits
    need_edits = sum_by-cons {X = List Op} edit_count ops rest

    need_units : (need_of_batches (ops ∷ rest)).units ≡ text_units ops + (need_of_batches rest).units
    need_units = sum_by-cons {X = List Op} text_units ops rest

    need_breaks : (need_of_batches (ops ∷ rest)).breaks ≡ text_breaks ops + (need_of_batches rest).breaks
    need_breaks = sum_by-cons {X = List Op} text_breaks ops rest

    pub first_room : IsEnough now.room (need_of_ops ops)
    first_room = record {
      edits = omega (arith, way.room.edits, need_edits);
      units = omega (arith, way.room.units, need_edits, need_units);
      breaks = omega (arith, way.room.breaks, need_edits, need_breaks);
    }

    pub way_goes_on : (new : Text) → new.units ≡ applied_from 0 now.units ops → new.kind ≡ now.kind → HasSpent (need_of_ops ops) now.room new.room → IsOnWay old batches rest new
    way_goes_on new units kind spent = record {
      kind = kind ∙ way.kind;
      small = rw units (fit_length now.units ops first_fits.fits);
      fits = ap (λ x. first_misfit x rest) units ∙ first_fits.later;
      after = ap (λ x. after_batches x rest) units ∙ way.after;
      room = record {
        edits = omega (arith, way.room.edits, spent.edits, need_edits);
        units = omega (arith, way.room.units, spent.units, need_edits, need_units);
        breaks = omega (arith, way.room.breaks, spent.breaks, need_edits, need_breaks);
      };
    }
