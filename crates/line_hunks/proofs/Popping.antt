-- A run that is removed.
use Rattle.std.proofs.Common.{◌≡◌, ℕ, ◌+◌, ◌-◌, ◌<◌, ◌≤◌, ◌^◌, Option, Some, None, List, [], ◌∷◌, ◌++◌, refl, sym, ◌∙◌, ap, subst, arith}
use Rattle.std.proofs.lemmas.List.{append_assoc}
use Rattle.rb_arena.specs.RbTree.{SplitsAt, EndsWith, IsItem, AtItem, AtPlace, first_or, last_or, LeavesOut}
use Rattle.line_hunks.specs.declared.run.Run.{Run}
use Rattle.line_hunks.specs.declared.run.Place.{Place}
use Rattle.line_hunks.specs.Run.{lines_in}
use Rattle.line_hunks.specs.Sides.{Shown, turned, runs_of, items_before, items_behind, shown, HaveLines, AreParts, IsParted, FindsLine}
use Rattle.line_hunks.proofs.SideLaws.{lines_of, lines_of-append, runs_of-append, HaveLines-parts, HaveLines-append, parted, first-is, others-are, front-is, back-is, ends_before, front-shown, back-shown, front-lines, around-shown, runs-shown}
use Rattle.line_hunks.proofs.Pushing.{front-put}

pub parts-out : (items new us vs : List (ℕ × Run)) (before : Option ℕ) (lines id : ℕ) (run : Run) → SplitsAt items id us run vs
    → HaveLines items → lines_of items < 2 ^ 62 → new ≡ us ++ vs → before ≡ last_or None us → lines ≡ lines_of us
    → AreParts new before lines us vs
parts-out items new us vs before lines id run splits some small out last count =
    let (left, right) = HaveLines-parts us ((id, run) ∷ vs) (subst HaveLines splits some) in
    record {
      whole = out;
      count = count;
      last = last;
      some = subst HaveLines (sym out) (HaveLines-append us vs left right.1);
      small = omega (arith, small, ap lines_of splits, ap lines_of out, lines_of-append us ((id, run) ∷ vs), lines_of-append us vs);
    }

-- the item with the name is the first of `vs`, which follow the items `us`
pub first-splits : (items us vs : List (ℕ × Run)) (id : ℕ) → items ≡ us ++ vs → Some id ≡ first_or None vs
    → (run : Run) × ((ws : List (ℕ × Run)) × (vs ≡ (id, run) ∷ ws) × SplitsAt items id us run ws)
first-splits items us [] id whole first = cc
first-splits items us (v ∷ vs) id whole first =
    let same : v.0 ≡ id = cc in
    let is : v ∷ vs ≡ (id, v.1) ∷ vs = ap (λ n. (n, v.1) ∷ vs) same in
    (v.1, (vs, is, whole ∙ ap (λ xs. us ++ xs) is))

pub first-none : (vs : List (ℕ × Run)) → None ≡ first_or None vs → vs ≡ []
first-none [] first = refl
first-none (v ∷ vs) first = cc

pub last-none : (us : List (ℕ × Run)) (before : Option ℕ) → EndsWith us before → before ≡ None → us ≡ []
last-none us None ends is = ends
last-none us (Some id) ends is = cc

-- the item with the name is the last of `us`, which the items `vs` follow
pub last-splits : (items us vs : List (ℕ × Run)) (before : Option ℕ) (id : ℕ) → items ≡ us ++ vs → EndsWith us before → before ≡ Some id
    → (run : Run) × ((ws : List (ℕ × Run)) × (us ≡ ws ++ (id, run) ∷ []) × SplitsAt items id ws run vs)
last-splits items us vs before id whole ends is =
    let (ws, (run, last)) = subst (EndsWith us) is ends in
    (run, (ws, last, whole ∙ ap (λ xs. xs ++ vs) last ∙ append_assoc ws ((id, run) ∷ []) vs))

module _ (items : List (ℕ × Run)) (before : Option ℕ) (lines : ℕ) (parts : IsParted items before lines)
    (room : ℕ) (s : Shown) (view : shown items lines room ≡ s) where
  abbrev us : List (ℕ × Run)
  us = items_before lines items

  abbrev vs : List (ℕ × Run)
  vs = items_behind lines items

  -- the run right before the gap

  pub front-none : before ≡ None → s.front ≡ []
  front-none is =
      front-shown items before lines parts room s view
      ∙ ap (λ xs. turned (runs_of xs) []) (last-none us before (ends_before items before lines parts room s view) is)

  module _ (id : ℕ) (is : before ≡ Some id) where
    last : (run : Run) × ((ws : List (ℕ × Run)) × (us ≡ ws ++ (id, run) ∷ []) × SplitsAt items id ws run vs)
    last = last-splits items us vs before id parts.whole (ends_before items before lines parts room s view) is

    pub front-named : IsItem items id
    front-named = (last.1.0, (last.0, (vs, last.1.2)))

    module _ (run : Run) (got : AtItem items id (λ xs x ys. run ≡ x)) where
      abbrev ws : List (ℕ × Run)
      ws = last.1.0

      same : run ≡ last.0
      same = got ws last.0 vs last.1.2

      ends : us ≡ ws ++ (id, run) ∷ []
      ends = last.1.1 ∙ ap (λ x. ws ++ (id, x) ∷ []) (sym same)

      splits : SplitsAt items id ws run vs
      splits = last.1.2 ∙ ap (λ x. ws ++ (id, x) ∷ vs) (sym same)

      count : lines ≡ lines_of ws + run.lines
      count = omega (arith, parts.count, ap lines_of ends, lines_of-append ws ((id, run) ∷ []))

      pub front-reach : run.lines ≤ lines
      front-reach = omega (arith, count)

      module _ (prev : Option ℕ) (beside : AtItem items id (λ xs x ys. prev ≡ last_or None xs)) (new : List (ℕ × Run))
          (removed : LeavesOut items new id) (left : ℕ) where
        rest : AreParts new prev (lines - run.lines) ws vs
        rest =
            parts-out items new ws vs prev (lines - run.lines) id run splits parts.some parts.small (removed ws run vs splits)
            (beside ws run vs splits) (omega (arith, count))

        pub parted-front : IsParted new prev (lines - run.lines)
        parted-front = parted new prev (lines - run.lines) ws vs rest

        pub popped-front : s.front ≡ run ∷ (shown new (lines - run.lines) left).front
        popped-front =
            front-shown items before lines parts room s view
            ∙ ap (λ xs. turned (runs_of xs) []) ends
            ∙ front-put ws id run
            ∙ ap (λ runs. run ∷ runs) (sym (front-is new prev (lines - run.lines) ws vs rest left))

        pub front-back : (shown new (lines - run.lines) left).back ≡ s.back
        front-back = back-is new prev (lines - run.lines) ws vs rest left ∙ sym (back-shown items before lines parts room s view)

  -- the run right behind the gap

  module _ (found : Option ℕ) (next : AtPlace items before (λ xs ys. found ≡ first_or None ys)) where
    first : found ≡ first_or None vs
    first = next us vs (parts.whole, ends_before items before lines parts room s view)

    pub back-none : found ≡ None → s.back ≡ []
    back-none is = back-shown items before lines parts room s view ∙ ap runs_of (first-none vs (sym is ∙ first))

    module _ (id : ℕ) (is : found ≡ Some id) where
      at : (run : Run) × ((ws : List (ℕ × Run)) × (vs ≡ (id, run) ∷ ws) × SplitsAt items id us run ws)
      at = first-splits items us vs id parts.whole (sym is ∙ first)

      pub back-named : IsItem items id
      back-named = (us, (at.0, (at.1.0, at.1.2)))

      module _ (run : Run) (got : AtItem items id (λ xs x ys. run ≡ x)) (new : List (ℕ × Run)) (removed : LeavesOut items new id) (left : ℕ) where
        abbrev later : List (ℕ × Run)
        later = at.1.0

        alike : run ≡ at.0
        alike = got us at.0 later at.1.2

        parts-at : SplitsAt items id us run later
        parts-at = at.1.2 ∙ ap (λ x. us ++ (id, x) ∷ later) (sym alike)

        others : AreParts new before lines us later
        others =
            parts-out items new us later before lines id run parts-at parts.some parts.small (removed us run later parts-at)
            parts.last parts.count

        pub parted-back : IsParted new before lines
        parted-back = parted new before lines us later others

        pub popped-back : s.back ≡ run ∷ (shown new lines left).back
        popped-back =
            back-shown items before lines parts room s view
            ∙ ap runs_of at.1.1
            ∙ ap (λ x. x ∷ runs_of later) (sym alike)
            ∙ ap (λ runs. run ∷ runs) (sym (back-is new before lines us later others left))

        pub back-front : (shown new lines left).front ≡ s.front
        back-front = front-is new before lines us later others left ∙ sym (front-shown items before lines parts room s view)

  -- the run of a line, with no run in the gap

  module _ (line id : ℕ) (place : Place) (found : FindsLine items line id place) where
    pub found-named : IsItem items id
    found-named = (found.lower, (place.run, (found.upper, found.splits)))

    module _ (prev : Option ℕ) (beside : AtItem items id (λ xs x ys. prev ≡ last_or None xs)) (new : List (ℕ × Run))
        (removed : LeavesOut items new id) (left : ℕ) where
      out : AreParts new prev (line - place.before) found.lower found.upper
      out =
          parts-out items new found.lower found.upper prev (line - place.before) id place.run found.splits parts.some parts.small
          (removed found.lower place.run found.upper found.splits) (beside found.lower place.run found.upper found.splits)
          (omega (arith, found.line))

      pub parted-at : IsParted new prev (line - place.before)
      parted-at = parted new prev (line - place.before) found.lower found.upper out

      pub front-at : lines_in (shown new (line - place.before) left).front ≡ line - place.before
      front-at = sym (front-lines new prev (line - place.before) parted-at left (shown new (line - place.before) left) refl)

      pub order-at : turned (shown new (line - place.before) left).front (place.run ∷ (shown new (line - place.before) left).back)
          ≡ turned s.front s.back
      order-at =
          around-shown new prev (line - place.before) parted-at left (shown new (line - place.before) left) refl (place.run ∷ [])
          ∙ ap (λ xs. runs_of xs ++ place.run ∷ runs_of (items_behind (line - place.before) new))
          (first-is new prev (line - place.before) found.lower found.upper out)
          ∙ ap (λ xs. runs_of found.lower ++ place.run ∷ runs_of xs)
          (others-are new prev (line - place.before) found.lower found.upper out)
          ∙ sym (runs_of-append found.lower ((id, place.run) ∷ found.upper))
          ∙ ap runs_of (sym found.splits)
          ∙ sym (runs-shown items before lines parts room s view)
