-- Rewriting of the items of a whole tree.
use Rattle.std.proofs.Common.{◌≡◌, ℕ, suc, List, Option, [], ◌∷◌, length, refl, sym, ap, ◌∙◌, subst, arith}
use Rattle.std.specs.FinMap as map
use Rattle.rb_rules.specs.declared.slot.Data.{Data}
use Rattle.rb_rules.specs.declared.weave.Weave.{Ghosts}
use Rattle.rb_rules.specs.Rewriting.{rewritten_all, onward_all}
use Rattle.rb_rules.specs.Tree.{top}
use Rattle.rb_rules.specs.Woven.{Valued}
use Rattle.rb_rules.proofs.Levels.{balanced_alike}
use Rattle.rb_rules.proofs.Wider.{woven_wider}
use Rattle.rb_arena.specs.declared.links.Links.{Links}
use Rattle.rb_arena.specs.RbTree.{Listed, seen, Kept, KeepsWithin}
use Rattle.rb_arena.specs.Relative.{LawsOf}
use Rattle.rb_arena.specs.Rewriting.{CanRewrite, CanRewriteAt, RewritesAt, Rewrote}
use Rattle.rb_arena.proofs.Keeping.{Shows, all_items, items_seen, loose_seen}
use Rattle.rb_arena.proofs.Listing.{keeps_mended, low}

length-rewritten : {V X : Type 0} (rewritten : V → X → X) (onward : V → X → V) (v : V) (es : List (ℕ × X)) → length (rewritten_all rewritten onward v es) ≡ length es
length-rewritten rewritten onward v [] = refl
length-rewritten rewritten onward v (e ∷ es) = λ j. suc (length-rewritten rewritten onward (onward v e.1) es j)

module _ {W X S B K V : Type 0} (w : Ghosts W X S B K) (rewritten : V → X → X) (onward : V → X → V) (reach : B) (links : Links (Data X S B)) (front : Option ℕ)
    (view : Listed X) (v : V) where
  abbrev all : List (ℕ × X) → List (ℕ × X)
  all es = rewritten_all rewritten onward v es

  module _ (l : LawsOf w) (kept : KeepsWithin w reach links front) (shows : seen w.weaving links front ≡ view) (values : Valued w.weaving w.is_item w.is_value (all view.items)) where
    items_are : view.items ≡ all_items w reach links front kept
    unfolding seen
    items_are = items_seen w reach links front kept (ap (λ s. s.items) shows)

    can : CanRewrite w rewritten onward kept.beside links v links.root w.weaving.still 128 top kept.tree
    can =
        let few = low kept in (
          (kept.made, kept.made.from, woven_wider w.weaving (w.within reach) w.is_near (l.within_near reach) w.weaving.still kept.tree kept.woven, kept.values, omega (arith, few)),
          subst (λ es. Valued w.weaving w.is_item w.is_value (all es)) items_are values,
        )

    module _ (new : Links (Data X S B)) (after : V) (sum : S) (many : map.len new.nodes.live ≡ map.len links.nodes.live)
        (does : RewritesAt w rewritten onward links v new after links.root w.weaving.still 128 sum) where
      rewrote : Rewrote w rewritten onward kept.beside new v after w.weaving.still top kept.tree sum
      unfolding RewritesAt
      rewrote = does kept.beside kept.tree top can

      shows_rewritten : Shows w reach new front (all view.items) view.loose
      unfolding seen
      shows_rewritten =
          let all_ = kept.all in let few = kept.few in let long = length-rewritten rewritten onward v view.items in let before = ap length items_are in
          let (keeps, is, loose) = keeps_mended w.weaving (w.within reach) w.is_item w.is_value new.nodes.live new.root front (all view.items) kept.beside
          (rewrote.subtree, rewrote.made, (rewrote.within reach kept.woven, rewrote.items ∙ sym (ap all items_are)), balanced_alike kept.tree rewrote.subtree (sym rewrote.alike) kept.balanced)
          kept.first kept.chain values (omega (arith, all_, long, before, many)) (omega (arith, few, many)) in
          (keeps, is, loose ∙ loose_seen w reach links front kept (ap (λ s. s.loose) shows))

      goes_on : after ≡ onward_all rewritten onward v view.items
      goes_on = rewrote.onwards ∙ sym (ap (onward_all rewritten onward v) items_are)

  -- by a walk from the root, without a shift above it
  module _ (kept : Kept w reach links front) (shows : seen w.weaving links front ≡ view) (values : Valued w.weaving w.is_item w.is_value (all view.items)) (by : B) (still : by ≡ w.weaving.still) where
    pub can_rewrite : CanRewriteAt w rewritten onward links v links.root by 128
    unfolding Kept CanRewriteAt
    can_rewrite =
        subst (λ b. CanRewriteAt w rewritten onward links v links.root b 128) (sym still)
        (kept.2.beside, (kept.2.tree, (top, can kept.0 kept.2 shows values)))

    module _ (new : Links (Data X S B)) (after : V) (sum : S) (many : map.len new.nodes.live ≡ map.len links.nodes.live)
        (does : RewritesAt w rewritten onward links v new after links.root by 128 sum) where
      does_still : RewritesAt w rewritten onward links v new after links.root w.weaving.still 128 sum
      does_still = subst (λ b. RewritesAt w rewritten onward links v new after links.root b 128 sum) still does

      pub kept_rewritten : Kept w reach new front
      unfolding Kept
      kept_rewritten = (kept.0, kept.1, (shows_rewritten kept.0 kept.2 shows values new after sum many does_still).0)

      pub items_rewritten : (seen w.weaving new front).items ≡ all view.items
      unfolding Kept seen
      items_rewritten = (shows_rewritten kept.0 kept.2 shows values new after sum many does_still).1

      pub loose_rewritten : (seen w.weaving new front).loose ≡ view.loose
      unfolding Kept seen
      loose_rewritten = (shows_rewritten kept.0 kept.2 shows values new after sum many does_still).2

      pub went_on : after ≡ onward_all rewritten onward v view.items
      unfolding Kept
      went_on = goes_on kept.0 kept.2 shows values new after sum many does_still
