-- The runs on both sides of a gap, as a tree stores them.
use Rattle.std.proofs.Common.{◌≡◌, ℕ, ◌+◌, ◌-◌, ◌<◌, ◌^◌, Option, Some, None, List, [], ◌∷◌, ◌++◌, refl, sym, ◌∙◌, ap, subst, arith}
use Rattle.std.specs.Prelude.{if◌then◌else◌}
use Rattle.std.proofs.lemmas.Bool.{lt-ltb, le-ltb}
use Rattle.rb_rules.specs.Woven as woven
use Rattle.rb_arena.specs.RbTree.{EndsWith, last_or}
use Rattle.line_hunks.specs.declared.run.Run.{Run}
use Rattle.line_hunks.specs.Run.{lines_in}
use Rattle.line_hunks.specs.Weave.{adding}
use Rattle.line_hunks.specs.Sides.{Shown, turned, runs_of, items_before, items_behind, shown, HaveLines, AreParts, IsParted}
use Rattle.line_hunks.proofs.Turning.{turned-turned, lines_in-turned}

pub runs_of-append : (us vs : List (ℕ × Run)) → runs_of (us ++ vs) ≡ runs_of us ++ runs_of vs
runs_of-append [] vs = refl
runs_of-append (u ∷ us) vs = ap (λ rs. u.1 ∷ rs) (runs_of-append us vs)

abbrev pub lines_of : List (ℕ × Run) → ℕ
lines_of items = lines_in (runs_of items)

pub lines_of-append : (us vs : List (ℕ × Run)) → lines_of (us ++ vs) ≡ lines_of us + lines_of vs
lines_of-append [] vs = omega arith
lines_of-append (u ∷ us) vs = omega (arith, lines_of-append us vs)

pub sum_is : (items : List (ℕ × Run)) → woven.sum_of adding items ≡ lines_of items
sum_is [] = refl
sum_is (item ∷ items) = ap (λ n. item.1.lines + n) (sum_is items)

pub HaveLines-parts : (us vs : List (ℕ × Run)) → HaveLines (us ++ vs) → HaveLines us × HaveLines vs
HaveLines-parts [] vs some = (tt, some)
HaveLines-parts (u ∷ us) vs some = let (left, right) = HaveLines-parts us vs some.1 in ((some.0, left), right)

pub HaveLines-append : (us vs : List (ℕ × Run)) → HaveLines us → HaveLines vs → HaveLines (us ++ vs)
HaveLines-append [] vs left right = right
HaveLines-append (u ∷ us) vs left right = (left.0, HaveLines-append us vs left.1 right)

-- The split of the items at the gap.

before-is : (us vs : List (ℕ × Run)) → HaveLines vs → items_before (lines_of us) (us ++ vs) ≡ us
before-is [] [] some = refl
before-is [] (v ∷ vs) some =
    ap (λ b. if b then [] else v ∷ items_before (0 - v.1.lines) vs) (lt-ltb 0 v.1.lines some.0)
before-is (u ∷ us) vs some =
    let rest : u.1.lines + lines_of us - u.1.lines ≡ lines_of us = omega arith in
    ap (λ b. if b then [] else u ∷ items_before (u.1.lines + lines_of us - u.1.lines) (us ++ vs))
    (le-ltb (u.1.lines + lines_of us) u.1.lines (omega arith))
    ∙ ap (λ n. u ∷ items_before n (us ++ vs)) rest
    ∙ ap (λ items. u ∷ items) (before-is us vs some)

behind-is : (us vs : List (ℕ × Run)) → HaveLines vs → items_behind (lines_of us) (us ++ vs) ≡ vs
behind-is [] [] some = refl
behind-is [] (v ∷ vs) some =
    ap (λ b. if b then v ∷ vs else items_behind (0 - v.1.lines) vs) (lt-ltb 0 v.1.lines some.0)
behind-is (u ∷ us) vs some =
    let rest : u.1.lines + lines_of us - u.1.lines ≡ lines_of us = omega arith in
    ap (λ b. if b then u ∷ us ++ vs else items_behind (u.1.lines + lines_of us - u.1.lines) (us ++ vs))
    (le-ltb (u.1.lines + lines_of us) u.1.lines (omega arith))
    ∙ ap (λ n. items_behind n (us ++ vs)) rest
    ∙ behind-is us vs some

module _ (items : List (ℕ × Run)) (before : Option ℕ) (lines : ℕ) (us vs : List (ℕ × Run))
    (parts : AreParts items before lines us vs) where
  some-behind : HaveLines vs
  some-behind = (HaveLines-parts us vs (subst HaveLines parts.whole parts.some)).1

  pub first-is : items_before lines items ≡ us
  first-is = ap (λ n. items_before n items) parts.count ∙ ap (items_before (lines_of us)) parts.whole ∙ before-is us vs some-behind

  pub others-are : items_behind lines items ≡ vs
  others-are = ap (λ n. items_behind n items) parts.count ∙ ap (items_behind (lines_of us)) parts.whole ∙ behind-is us vs some-behind

  pub parted : IsParted items before lines
  parted = subst (AreParts items before lines (items_before lines items)) (sym others-are)
      (subst (λ xs. AreParts items before lines xs vs) (sym first-is) parts)

  pub front-is : (room : ℕ) → (shown items lines room).front ≡ turned (runs_of us) []
  front-is room = ap (λ xs. turned (runs_of xs) []) first-is

  pub back-is : (room : ℕ) → (shown items lines room).back ≡ runs_of vs
  back-is room = ap runs_of others-are

-- The name before the gap.

pub last_or-append : (o : Option ℕ) (us : List (ℕ × Run)) (id : ℕ) (run : Run) → last_or o (us ++ (id, run) ∷ []) ≡ Some id
last_or-append o [] id run = refl
last_or-append o (u ∷ us) id run = last_or-append (Some u.0) us id run

-- a non-empty list ends with the item of its last name
ends-from : (o : Option ℕ) (u : ℕ × Run) (us : List (ℕ × Run))
    → (ws : List (ℕ × Run)) × ((id : ℕ) × ((run : Run) × (last_or o (u ∷ us) ≡ Some id) × (u ∷ us ≡ ws ++ (id, run) ∷ [])))
ends-from o u [] = ([], (u.0, (u.1, refl, refl)))
ends-from o u (v ∷ us) =
    let (ws, (id, (run, last, is))) = ends-from (Some u.0) v us in
    (u ∷ ws, (id, (run, last, ap (λ items. u ∷ items) is)))

pub EndsWith-last : (us : List (ℕ × Run)) (before : Option ℕ) → before ≡ last_or None us → EndsWith us before
EndsWith-last [] before is = subst (EndsWith []) (sym is) refl
EndsWith-last (u ∷ us) before is =
    let (ws, (id, (run, last, ends))) = ends-from None u us in
    subst (EndsWith (u ∷ us)) (sym (is ∙ last)) (ws, (run, ends))

-- What is shown of a tree.

module _ (items : List (ℕ × Run)) (before : Option ℕ) (lines : ℕ) (parts : IsParted items before lines)
    (room : ℕ) (s : Shown) (view : shown items lines room ≡ s) where
  abbrev pub front_items : List (ℕ × Run)
  front_items = items_before lines items

  abbrev pub back_items : List (ℕ × Run)
  back_items = items_behind lines items

  pub front-shown : s.front ≡ turned (runs_of front_items) []
  front-shown = sym (ap (λ (t : Shown). t.front) view)

  pub back-shown : s.back ≡ runs_of back_items
  back-shown = sym (ap (λ (t : Shown). t.back) view)

  pub front-lines : lines ≡ lines_in s.front
  front-lines = omega (arith, parts.count, ap lines_in front-shown, lines_in-turned (runs_of front_items) [])

  pub all-lines : lines_of items ≡ lines_in s.front + lines_in s.back
  all-lines = omega (arith, ap lines_of parts.whole, lines_of-append front_items back_items, front-lines, parts.count, ap lines_in back-shown)

  pub small-shown : lines_in s.front + lines_in s.back < 2 ^ 62
  small-shown = omega (arith, all-lines, parts.small)

  -- with others between the two sides
  pub around-shown : (between : List Run) → turned s.front (between ++ s.back) ≡ runs_of front_items ++ (between ++ runs_of back_items)
  around-shown between =
      ap (λ front. turned front (between ++ s.back)) front-shown
      ∙ turned-turned (runs_of front_items) [] (between ++ s.back)
      ∙ ap (λ back. runs_of front_items ++ (between ++ back)) back-shown

  pub runs-shown : turned s.front s.back ≡ runs_of items
  runs-shown = around-shown [] ∙ sym (runs_of-append front_items back_items) ∙ ap runs_of (sym parts.whole)

  pub ends_before : EndsWith front_items before
  ends_before = EndsWith-last front_items before parts.last
