use Rattle.std.proofs.Common.{ℕ, ◌-◌, ◌<◌, Option, Some, sym, subst, arith}
use Rattle.rb_rules.specs.declared.slot.Data.{Data}
use Rattle.rb_rules.specs.Tree.{Tree, Hole, plug}
use Rattle.rb_rules.specs.Memory.{Made}
use Rattle.rb_rules.specs.Shifts.{levelled}
use Rattle.rb_arena.specs.Nodes.{Rewrites}
use Rattle.rb_arena.specs.declared.links.Links.{Links}
use Rattle.rb_arena.specs.Shifting.{CanLevel, CanLevelAt, Levels}
use Rattle.rb_arena.proofs.Levelling.{Topmost, topmost, spot, held_item, held_before, held_whole, held_right, on_left, on_right, left_next, right_next}
use Rattle.rb_arena.proofs.level.+level.Given.{Over}
use Rattle.rb_arena.proofs.level.+level.Goals as goal

module _ (g : Over) where
  abbrev Datum : Type 0
  Datum = Data g.row.W-Item.Denot g.row.W-Sum.Denot g.row.W-By.Denot

  -- the subtree hangs there, and its shifts may be applied
  abbrev Can : Links Datum → Option ℕ → g.row.W-By.Denot → ℕ → Tree Datum → Hole Datum → Tree Datum → Type 0
  Can tree at by n beside k t = CanLevel g.W.Weave.weaving g.W.Weave.is_near g.W.Weave.is_item g.W.Weave.is_value beside tree.nodes.live tree.root at by n k t

  module _ (tree : Links Datum) (id : ℕ) (by : g.row.W-By.Denot) (n : ℕ) (beside u : Tree Datum) (k : Hole Datum) where
    abbrev Top : Type 0
    Top =
        let q = g.W.Weave in let laws = g.met.W.Weave in
        Topmost q.weaving laws.laws q.is_near q.is_item q.is_sum q.is_value laws.sums laws.parts laws.starts_near beside tree.nodes.live tree.root id by n k u

    top : Can tree (Some id) by n beside k u → Top
    top whole =
        let q = g.W.Weave in let laws = g.met.W.Weave in
        topmost q.weaving laws.laws q.is_near q.is_item q.is_sum q.is_value laws.sums laws.parts laws.starts_near beside tree.nodes.live tree.root id by n k u whole

pub node_of-slot-requires : goal.node_of-slot-requires
unfolding CanLevelAt Levels
node_of-slot-requires g t c =
    let (beside, (u, (k, whole))) = c.requires in let z = top g c.args.tree.now c.in-Some.id c.args.by c.args.levels beside u k (rw c.in-Some.is at whole) in (spot z, z.can.0)

pub level_datum-datum-requires : goal.level_datum-datum-requires
unfolding CanLevelAt Levels
level_datum-datum-requires g t c =
    let (beside, (u, (k, whole))) = c.requires in let z = top g c.args.tree.now c.in-Some.id c.args.by c.args.levels beside u k (rw c.in-Some.is at whole) in
    let is = c.node_of-slot.ensures.slot (spot z) z.can.0 in record { item = rw is (held_item z); before = rw is (held_before z); whole = rw is (held_whole z) }

pub rewrite-requires : goal.rewrite-requires
unfolding CanLevelAt Levels
rewrite-requires g t c =
    let (beside, (u, (k, whole))) = c.requires in let z = top g c.args.tree.now c.in-Some.id c.args.by c.args.levels beside u k (rw c.in-Some.is at whole) in (spot z, z.can.0)

pub plus-right-requires : goal.plus-right-requires
unfolding CanLevelAt Levels
plus-right-requires g t c =
    let (beside, (u, (k, whole))) = c.requires in let z = top g c.args.tree.now c.in-Some.id c.args.by c.args.levels beside u k (rw c.in-Some.is at whole) in
    rw (c.node_of-slot.ensures.slot (spot z) z.can.0) (held_right z)

pub level-requires : goal.level-requires
unfolding CanLevelAt Levels Rewrites
level-requires g t c κs within =
    let (beside, (u, (k, whole))) = c.requires in let z = top g c.args.tree.now c.in-Some.id c.args.by c.args.levels beside u k (rw c.in-Some.is at whole) in
    let is = c.node_of-slot.ensures.slot (spot z) z.can.0 in
    let left : Can g c.rewrite.new.tree c.node_of-slot.result.left c.args.by (c.args.levels - 1) beside (on_left z) z.left
    = rw is (left_next z (rw (c.level_datum-datum.ensures, is) at (c.rewrite.ensures.made (spot z) z.can.0))) in
    let high = z.can.4 in let less : c.args.levels - 1 < t = omega (arith, high, c.decreases) in
    (less, (within.0, (within.1.0, (within.1.1.0, (within.1.1.1.0, (within.1.1.1.1, (beside, (_, (on_left z, left)))))))))

pub level-requires-2 : goal.level-requires-2
unfolding CanLevelAt Levels Rewrites
level-requires-2 g t c κs within =
    let (beside, (u, (k, whole))) = c.requires in let z = top g c.args.tree.now c.in-Some.id c.args.by c.args.levels beside u k (rw c.in-Some.is at whole) in
    let is = c.node_of-slot.ensures.slot (spot z) z.can.0 in
    let left : Can g c.rewrite.new.tree c.node_of-slot.result.left c.args.by (c.args.levels - 1) beside (on_left z) z.left
    = rw is (left_next z (rw (c.level_datum-datum.ensures, is) at (c.rewrite.ensures.made (spot z) z.can.0))) in
    let right : Can g c.level.new.tree c.node_of-slot.result.right c.plus-right.result (c.args.levels - 1) beside (on_right z) z.right
    = rw (c.plus-right.ensures, is) (right_next z (c.level.ensures.made beside _ (on_left z) left)) in
    let high = z.can.4 in let less : c.args.levels - 1 < t = omega (arith, high, c.decreases) in
    (less, (within.0, (within.1.0, (within.1.1.0, (within.1.1.1.0, (within.1.1.1.1, (beside, (_, (on_right z, right)))))))))

pub returns-clause-made : goal.returns-clause-made
unfolding CanLevelAt Levels Rewrites
returns-clause-made g t c = λ beside u k whole.
    let z = top g c.args.tree.now c.in-Some.id c.args.by c.args.levels beside u k (rw c.in-Some.is at whole) in let last = c.level-2.new.tree in
    let is = c.node_of-slot.ensures.slot (spot z) z.can.0 in
    let left : Can g c.rewrite.new.tree c.node_of-slot.result.left c.args.by (c.args.levels - 1) beside (on_left z) z.left
    = rw is (left_next z (rw (c.level_datum-datum.ensures, is) at (c.rewrite.ensures.made (spot z) z.can.0))) in
    let right : Can g c.level.new.tree c.node_of-slot.result.right c.plus-right.result (c.args.levels - 1) beside (on_right z) z.right
    = rw (c.plus-right.ensures, is) (right_next z (c.level.ensures.made beside _ (on_left z) left)) in
    subst (λ o. Made beside last.nodes.live last.root (plug k (levelled g.W.Weave.weaving c.args.by o))) (sym z.is)
    (rw (c.plus-right.ensures, is) at (c.level-2.ensures.made beside _ (on_right z) right))
