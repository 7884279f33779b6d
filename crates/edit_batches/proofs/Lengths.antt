-- The length of a text after a batch, from its length alone.
use Rattle.std.proofs.Common.{◌≡◌, ℕ, ◌+◌, ◌-◌, ◌<◌, ◌≤◌, nat_lt, ◌||◌, Bool, true, false, not, cond, List, [], ◌∷◌, length, drop, get_or, Option, Some, None, refl, ap, sym, subst, ◌∙◌, length-drop, arith}
use Rattle.std.specs.Option.{is_some}
use Rattle.std.specs.List.{list_any}
use Rattle.std.proofs.lemmas.Bool.{lt-ltb, le-ltb, ltb-false, or_parts}
use Rattle.std.proofs.lemmas.List.{drop_all}
use Rattle.text_rules.specs.declared.Op.{Op}
use Rattle.batch_rules.specs.Batches.{most_units, applied_from, StandFrom, FollowFrom}
use Rattle.batch_rules.specs.Events.{is_misfit, length_after}
use Rattle.batch_rules.proofs.Standing.{standing_within, length-applied_from}
use Rattle.edit_batches.proofs.Passes.{next_op}

abbrev pub ends_above : ℕ → List Op → Bool
ends_above len ops = list_any (λ op. nat_lt len op.span.end) ops

-- the length of the text from a place on after the ops, for a text of length `len`
abbrev pub length_from : ℕ → ℕ → List Op → ℕ
length_from len at [] = len - at
length_from len at (op ∷ ops) = op.span.start - at + length op.text + length_from len op.span.end ops

-- ops in order none of which ends above the text stand in it
pub standing_below : (at : ℕ) (x : List ℕ) (ops : List Op) → FollowFrom at ops → ends_above (length x) ops ≡ false → at ≤ length x → StandFrom at x ops
standing_below at x [] follow below within = within
standing_below at x (op ∷ ops) follow below within =
    let parts = or_parts _ _ below in
    (follow.0, follow.1, standing_below op.span.end x ops follow.2 parts.1 (ltb-false _ _ parts.0))

pub below_standing : (at : ℕ) (x : List ℕ) (ops : List Op) → StandFrom at x ops → ends_above (length x) ops ≡ false
below_standing at x [] standing = refl
below_standing at x (op ∷ ops) standing =
    rw (le-ltb (length x) op.span.end (standing_within op.span.end x ops standing.2)) (below_standing op.span.end x ops standing.2)

pub length_standing : (at : ℕ) (x : List ℕ) (ops : List Op) → StandFrom at x ops → length (applied_from at x ops) ≡ length_from (length x) at ops
length_standing at x [] standing = length-drop at x
length_standing at x (op ∷ ops) standing =
    omega (arith, length-applied_from at x op ops standing, length_standing op.span.end x ops standing.2)

-- the result of the pass: None if an op ends above the text or the result is too long, else the length
misfit_above : (x : List ℕ) (ops : List Op) → ends_above (length x) ops ≡ true → is_misfit x ops ≡ true
misfit_above x ops above = rw above refl

misfit_long : (x : List ℕ) (ops : List Op) (b : Bool) → ends_above (length x) ops ≡ b → FollowFrom 0 ops → most_units < length_from (length x) 0 ops → is_misfit x ops ≡ true
misfit_long x ops true above follow long = misfit_above x ops above
misfit_long x ops false below follow long =
    let same = length_standing 0 x ops (standing_below 0 x ops follow below (omega arith)) in
    rw (below, lt-ltb most_units (length (applied_from 0 x ops)) (omega (arith, same))) refl

module _ (len : ℕ) (ops : List Op) (x : List ℕ) (is : length x ≡ len) where
  pub none_above : ends_above len ops ≡ true → None ≡ length_after x ops
  none_above above =
      let misfit = misfit_above x ops (ap (λ n. ends_above n ops) is ∙ above) in
      rw misfit refl

  pub none_long : FollowFrom 0 ops → most_units < length_from len 0 ops → None ≡ length_after x ops
  none_long follow long =
      let misfit = misfit_long x ops _ refl follow (subst (λ n. most_units < length_from n 0 ops) (sym is) long) in
      rw misfit refl

  pub some_length : (n : ℕ) → FollowFrom 0 ops → ends_above len ops ≡ false → n ≤ most_units → n ≡ length_from len 0 ops → Some n ≡ length_after x ops
  some_length n follow below fits counted =
      let inside = ap (λ n. ends_above n ops) is ∙ below in
      let same : length (applied_from 0 x ops) ≡ n =
      length_standing 0 x ops (standing_below 0 x ops follow inside (omega arith)) ∙ ap (λ n. length_from n 0 ops) is ∙ sym counted in
      rw (inside, same, le-ltb most_units n fits) refl

none_where_cut : (long none : Bool) (n : ℕ) → is_some (cond long None (Some n)) ≡ not none → none ≡ long
none_where_cut true true n e = refl
none_where_cut false false n e = refl
none_where_cut true false n e = cc
none_where_cut false true n e = cc

-- if the ops stand in the text, the result is None only because the new text would be too long
pub none_where_long : (x : List ℕ) (ops : List Op) (r : Option ℕ) (none : Bool) → StandFrom 0 x ops → r ≡ length_after x ops → is_some r ≡ not none
    → none ≡ nat_lt most_units (length (applied_from 0 x ops))
none_where_long x ops r none standing e is =
    none_where_cut _ none _ (rw (e, below_standing 0 x ops standing) at is)

-- the properties of the op at a position of the pass
pub record IsMeasured (len at : ℕ) (ops : List Op) (i : ℕ) (op : Op) : Type 0 where
  pub above : at ≤ op.span.start
  pub ordered : op.span.start ≤ op.span.end
  pub later : FollowFrom op.span.end (drop (i + 1) ops)
  pub ends : ends_above len (drop i ops) ≡ (nat_lt len op.span.end || ends_above len (drop (i + 1) ops))
  pub units : length_from len at (drop i ops) ≡ op.span.start - at + length op.text + length_from len op.span.end (drop (i + 1) ops)

pub measured : (len at : ℕ) (ops : List Op) (i : ℕ) (op : Op) → FollowFrom at (drop i ops) → i < length ops → op ≡ get_or ops i op → IsMeasured len at ops i op
measured len at ops i op follow inside e =
    let next = next_op ops i op inside e in
    let here : FollowFrom at (op ∷ drop (i + 1) ops) = subst (FollowFrom at) next follow in
    record {
      above = here.0;
      ordered = here.1;
      later = here.2;
      ends = ap (ends_above len) next;
      units = ap (length_from len at) next;
    }

pub measured_all : (len at : ℕ) (ops : List Op) (i : ℕ) → length ops ≤ i → (ends_above len (drop i ops) ≡ false) × (length_from len at (drop i ops) ≡ len - at)
measured_all len at ops i past = let none = drop_all i ops past in (ap (ends_above len) none, ap (length_from len at) none)
