-- A tree after the removal of a leaf: its sums are recomputed and its gap is closed.
use Rattle.std.proofs.Common.{◌≡◌, ℕ, ◌++◌, Bool, true, false, Option, ap, ◌∙◌}
use Rattle.rb_rules.specs.declared.slot.Data.{Data}
use Rattle.rb_rules.specs.declared.slot.Side.{Side}
use Rattle.rb_rules.specs.declared.weave.Weave.{Ghosts}
use Rattle.rb_rules.specs.Sound.{IsSlack}
use Rattle.rb_rules.specs.Tree.{Tree, tip, Hole, plug}
use Rattle.rb_rules.specs.Woven.{lefts, rights}
use Rattle.rb_arena.specs.Closing.{IsClosing, ClosesFrom}
use Rattle.rb_arena.specs.declared.links.Links.{Links}
use Rattle.rb_arena.specs.Leaving.{Emptied, IsEmptied, Settles}
use Rattle.rb_arena.specs.Placing.{above_place}
use Rattle.rb_arena.specs.Relative.{IsSlackFrom, LawsOf, RenewsFrom}
use Rattle.rb_arena.proofs.Leaving.{slack_empty, empty_mended, empty_closing}
use Rattle.rb_arena.proofs.Paths.{above-place}

module _ {W X S B K : Type 0} (w : Ghosts W X S B K) (old : Links (Data X S B)) (at : Option (ℕ × Side)) (red : Bool) where
  slack_there : LawsOf w → (reach : B) (beside : Tree (Data X S B)) (k : Hole (Data X S B))
      → Emptied w.weaving (w.within reach) w.is_item w.is_value beside old.nodes.live old.root at red k → (from : Option ℕ) → from ≡ above_place at
      → IsSlack w.weaving (w.within reach) w.is_item w.is_value beside old.nodes.live old.root from 128 (plug k tip)
  slack_there l reach beside k h from is =
      slack_empty w.weaving l.laws (w.within reach) w.is_item w.is_sum w.is_value l.sums l.parts l.thins beside old.nodes.live old.root at red k h from (is ∙ ap above_place h.0 ∙ above-place k)

  -- a tree after the removal of a leaf from a hole
  pub emptied_at : LawsOf w → (reach : B) (beside : Tree (Data X S B)) (k : Hole (Data X S B))
      → Emptied w.weaving (w.within reach) w.is_item w.is_value beside old.nodes.live old.root at red k → IsEmptied w old at red
  unfolding IsEmptied
  emptied_at l reach beside k h = (l, (reach, (beside, (k, h))))

  -- its sums are right except in the nodes above the hole
  pub emptied_slack : (from : Option ℕ) → IsEmptied w old at red → from ≡ above_place at → IsSlackFrom w old from 128
  unfolding IsEmptied IsSlackFrom
  emptied_slack from (l, (reach, (beside, (k, h)))) is = (reach, (beside, (_, slack_there l reach beside k h from is)))

  module _ (mid : Links (Data X S B)) (from : Option ℕ) (renews : RenewsFrom w old mid from 128) (is : from ≡ above_place at) (emptied : IsEmptied w old at red) where
    pub settled_red : red ≡ true → Settles w old mid at red
    unfolding IsEmptied RenewsFrom Settles
    settled_red is_red = λ reach beside k h.
        let l = emptied.0 in
        empty_mended w.weaving l.laws (w.within reach) w.is_item w.is_sum w.is_value l.sums l.parts l.thins beside old.nodes.live old.root at red k h mid.nodes.live mid.root
        (renews reach beside _ (slack_there l reach beside k h from is)) is_red

    pub gap_left : red ≡ false → IsClosing w mid at 129
    unfolding IsEmptied RenewsFrom IsClosing
    gap_left is_black =
        let (l, (reach, (beside, (k, h)))) = emptied in (
          reach,
          (
            beside,
            (
              lefts w.weaving k ++ rights w.weaving k,
              empty_closing w.weaving l.laws (w.within reach) w.is_item w.is_sum w.is_value l.sums l.parts l.thins beside old.nodes.live old.root at red k h mid.nodes.live mid.root
                  (renews reach beside _ (slack_there l reach beside k h from is)) is_black,
              h.4,
            ),
          ),
        )

    pub settled_black : (new : Links (Data X S B)) → red ≡ false → ClosesFrom w mid new at 129 → Settles w old new at red
    unfolding IsEmptied RenewsFrom Settles ClosesFrom
    settled_black new is_black closes = λ reach beside k h.
        let l = emptied.0 in
        closes reach beside (lefts w.weaving k ++ rights w.weaving k)
        (empty_closing w.weaving l.laws (w.within reach) w.is_item w.is_sum w.is_value l.sums l.parts l.thins beside old.nodes.live old.root at red k h mid.nodes.live mid.root
        (renews reach beside _ (slack_there l reach beside k h from is)) is_black) h.4

pub ruleset settling = (emptied_slack, settled_red, gap_left, settled_black)
