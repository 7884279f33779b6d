use Rattle.std.proofs.Common.{◌≡◌, ◌<◌, ◌≤◌, ℕ, List, length, true, false, Ok, Err, ap, sym, subst, ◌∙◌, rules, arith}
use Rattle.unit_text.specs.declared.kind.Kind.{Kind}
use Rattle.text_rules.specs.declared.Op.{Op}
use Rattle.batch_rules.specs.Refusals as refused
use Rattle.batch_rules.specs.Batches.{most_units, has_bad_span, sorted_ops, overlap, applied_from, ops_in, checked_ops, checked_batch, StandFrom}
use Rattle.batch_rules.proofs.Answers.{refused_for_range, refused_for_overlap, refused_for_limit, accepted_in_order, sorted_ops-ops_in}
use Rattle.batch_rules.proofs.Standing.{all_good, stand_from_start, follow_standing, text_units_applied}
use Rattle.edit_batches.proofs.batch.Batch.checked.Goals as goal

-- the result of the rule, from the tests of the sorted ops
module _ (kind : Kind) (x : List ℕ) (ops taken : List Op) (made : ops ≡ ops_in kind taken) (in_order : sorted_ops taken ≡ taken) where
  same : ops ≡ sorted_ops ops
  same = made ∙ ap (ops_in kind) (sym in_order) ∙ sorted_ops-ops_in kind taken ∙ ap sorted_ops (sym made)

  same_answer : checked_batch kind x taken ≡ checked_ops kind x ops
  same_answer = ap (checked_ops kind x) (sym made)

  same_overlap : overlap (sorted_ops ops) ≡ overlap ops
  same_overlap = ap overlap (sym same)

  by_range : has_bad_span kind x ops ≡ true → checked_batch kind x taken ≡ Err refused.range
  by_range bad = same_answer ∙ refused_for_range kind x ops bad

  by_overlap : has_bad_span kind x ops ≡ false → overlap ops ≡ true → checked_batch kind x taken ≡ Err refused.overlap
  by_overlap good overlaps = same_answer ∙ refused_for_overlap kind x ops good (same_overlap ∙ overlaps)

  by_limit : has_bad_span kind x ops ≡ false → overlap ops ≡ false → most_units < length (applied_from 0 x ops) → checked_batch kind x taken ≡ Err refused.limit
  by_limit good apart long =
      same_answer ∙ refused_for_limit kind x ops good (same_overlap ∙ apart) (subst (λ l. most_units < length (applied_from 0 x l)) same long)

  by_none : has_bad_span kind x ops ≡ false → overlap ops ≡ false → length (applied_from 0 x ops) ≤ most_units → checked_batch kind x taken ≡ Ok ops
  by_none good apart fits =
      same_answer ∙ accepted_in_order kind x ops good (same_overlap ∙ apart) (subst (λ l. length (applied_from 0 x l) ≤ most_units) same fits)
      ∙ ap (λ (l : List Op). Ok l) (sym same)

stand : (kind : Kind) (x : List ℕ) (ops : List Op) → has_bad_span kind x ops ≡ false → overlap ops ≡ false → StandFrom 0 x ops
stand kind x ops good apart = stand_from_start kind x ops (all_good kind x ops good) apart

pub returns-then-has_bad_span-clause-rule : goal.returns-then-has_bad_span-clause-rule
returns-then-has_bad_span-clause-rule g c =
    by_range (g.F.Flat.kind c.args.text.now) (g.F.Flat.units c.args.text.now) c.in_ok-ops.ops.items c.args.ops (search rules) (search rules) (search rules)

pub returns-then-overlap-clause-rule : goal.returns-then-overlap-clause-rule
returns-then-overlap-clause-rule g c =
    by_overlap (g.F.Flat.kind c.args.text.now) (g.F.Flat.units c.args.text.now) c.in_ok-ops.ops.items c.args.ops (search rules) (search rules) (search rules) (search rules)

pub returns-then-is_too_long-clause-rule : goal.returns-then-is_too_long-clause-rule
returns-then-is_too_long-clause-rule g c =
    by_limit (g.F.Flat.kind c.args.text.now) (g.F.Flat.units c.args.text.now) c.in_ok-ops.ops.items c.args.ops (search rules) (search rules) (search rules) (search rules) (search rules)

pub returns-clause-rule : goal.returns-clause-rule
returns-clause-rule g c =
    by_none (g.F.Flat.kind c.args.text.now) (g.F.Flat.units c.args.text.now) c.in_ok-ops.ops.items c.args.ops (search rules) (search rules) (search rules) (search rules) (search rules)

pub is_too_long-requires : goal.is_too_long-requires
is_too_long-requires g c =
    stand (g.F.Flat.kind c.args.text.now) (g.F.Flat.units c.args.text.now) c.deref-3.result.now (search rules) (search rules)

pub returns-clause-standing : goal.returns-clause-standing
returns-clause-standing g c =
    stand (g.F.Flat.kind c.args.text.now) (g.F.Flat.units c.args.text.now) c.in_ok-ops.ops.items (search rules) (search rules)

pub returns-clause-texts : goal.returns-clause-texts
returns-clause-texts g c =
    let standing = stand (g.F.Flat.kind c.args.text.now) (g.F.Flat.units c.args.text.now) c.in_ok-ops.ops.items (search rules) (search rules) in
    let fits : length (applied_from 0 (g.F.Flat.units c.args.text.now) c.in_ok-ops.ops.items) ≤ most_units = search rules in
    omega (arith, fits, text_units_applied 0 (g.F.Flat.units c.args.text.now) c.in_ok-ops.ops.items standing)

pub invariant_of-result : goal.invariant_of-result
invariant_of-result g c =
    follow_standing 0 (g.F.Flat.units c.args.text.now) c.in_ok-ops.ops.items
    (stand (g.F.Flat.kind c.args.text.now) (g.F.Flat.units c.args.text.now) c.in_ok-ops.ops.items (search rules) (search rules))
