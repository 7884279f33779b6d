-- A run that is inserted at the gap.
use Rattle.std.proofs.Common.{◌≡◌, ℕ, ◌+◌, ◌<◌, ◌^◌, Option, Some, None, List, [], ◌∷◌, ◌++◌, sym, ◌∙◌, ap, subst, arith}
use Rattle.std.proofs.lemmas.List.{append_assoc}
use Rattle.rb_arena.specs.RbTree.{EndsWith, PlaceAfter, SumsPut, HasPut}
use Rattle.line_hunks.specs.declared.run.Run.{Run}
use Rattle.line_hunks.specs.Run.{lines_in}
use Rattle.line_hunks.specs.Weave.{adding, is_few}
use Rattle.line_hunks.specs.Sides.{Shown, turned, runs_of, items_before, items_behind, shown, HaveLines, AreParts, IsParted}
use Rattle.line_hunks.proofs.Turning.{turned-append}
use Rattle.line_hunks.proofs.SideLaws.{lines_of, lines_of-append, runs_of-append, sum_is, HaveLines-parts, HaveLines-append, parted, front-is, back-is, last_or-append, ends_before, front-shown, back-shown, all-lines}

pub PlaceAfter-ends : (items us vs : List (ℕ × Run)) (before : Option ℕ) → items ≡ us ++ vs → EndsWith us before → PlaceAfter items before
PlaceAfter-ends items us vs None whole ends = tt
PlaceAfter-ends items us vs (Some id) whole (ws, (run, is)) =
    (ws, (run, (vs, whole ∙ ap (λ xs. xs ++ vs) is ∙ append_assoc ws ((id, run) ∷ []) vs)))

pub SumsPut-few : (items : List (ℕ × Run)) (before : Option ℕ) (run : Run) → lines_of items + run.lines < 2 ^ 62
    → SumsPut adding is_few items before run
SumsPut-few items None run few = omega (arith, few, sum_is items)
SumsPut-few items (Some id) run few = λ us x vs splits.
    let put = us ++ (id, x) ∷ (0, run) ∷ vs in
    omega (
      arith,
      few,
      sum_is put,
      lines_of-append us ((id, x) ∷ (0, run) ∷ vs),
      ap lines_of splits,
      lines_of-append us ((id, x) ∷ vs),
    )

pub put-between : (items new us vs : List (ℕ × Run)) (before : Option ℕ) (entry : ℕ × Run) → items ≡ us ++ vs → EndsWith us before
    → HasPut items new before entry → new ≡ us ++ entry ∷ vs
put-between items new us vs None entry whole ends put =
    put ∙ ap (λ xs. entry ∷ xs) (whole ∙ ap (λ xs. xs ++ vs) ends) ∙ ap (λ xs. xs ++ entry ∷ vs) (sym ends)
put-between items new us vs (Some id) entry whole (ws, (run, is)) put =
    put ws run vs (whole ∙ ap (λ xs. xs ++ vs) is ∙ append_assoc ws ((id, run) ∷ []) vs)
    ∙ sym (append_assoc ws ((id, run) ∷ []) (entry ∷ vs))
    ∙ ap (λ xs. xs ++ entry ∷ vs) (sym is)

module _ (items new us vs : List (ℕ × Run)) (before : Option ℕ) (lines id : ℕ) (run : Run) (parts : AreParts items before lines us vs)
    (put : new ≡ us ++ (id, run) ∷ vs) (some : 0 < run.lines) (few : lines_of items + run.lines < 2 ^ 62) where
  some-put : HaveLines new
  some-put =
      let (left, right) = HaveLines-parts us vs (subst HaveLines parts.whole parts.some) in
      subst HaveLines (sym put) (HaveLines-append us ((id, run) ∷ vs) left (some, right))

  few-put : lines_of new < 2 ^ 62
  few-put = omega (arith, few, ap lines_of put, lines_of-append us ((id, run) ∷ vs), ap lines_of parts.whole, lines_of-append us vs)

  pub parts-back : AreParts new before lines us ((id, run) ∷ vs)
  parts-back = record { whole = put; count = parts.count; last = parts.last; some = some-put; small = few-put }

  pub parts-front : AreParts new (Some id) (lines + run.lines) (us ++ (id, run) ∷ []) vs
  parts-front = record {
    whole = put ∙ sym (append_assoc us ((id, run) ∷ []) vs);
    count = omega (arith, parts.count, lines_of-append us ((id, run) ∷ []));
    last = sym (last_or-append None us id run);
    some = some-put;
    small = few-put;
  }

pub front-put : (us : List (ℕ × Run)) (id : ℕ) (run : Run) → turned (runs_of (us ++ (id, run) ∷ [])) [] ≡ run ∷ turned (runs_of us) []
front-put us id run =
    ap (λ runs. turned runs []) (runs_of-append us ((id, run) ∷ [])) ∙ turned-append (runs_of us) (run ∷ []) []

module _ (items : List (ℕ × Run)) (before : Option ℕ) (lines : ℕ) (parts : IsParted items before lines)
    (room : ℕ) (s : Shown) (view : shown items lines room ≡ s) where
  pub named-before : PlaceAfter items before
  named-before =
      PlaceAfter-ends items (items_before lines items) (items_behind lines items) before parts.whole
      (ends_before items before lines parts room s view)

  module _ (run : Run) (fits : lines_in s.front + run.lines + lines_in s.back < 2 ^ 62) where
    few : lines_of items + run.lines < 2 ^ 62
    few = omega (arith, fits, all-lines items before lines parts room s view)

    pub few-sum : SumsPut adding is_few items before run
    few-sum = SumsPut-few items before run few

    module _ (new : List (ℕ × Run)) (id : ℕ) (put : HasPut items new before (id, run)) (some : 0 < run.lines) (left : ℕ) where
      abbrev us : List (ℕ × Run)
      us = items_before lines items

      abbrev vs : List (ℕ × Run)
      vs = items_behind lines items

      between : new ≡ us ++ (id, run) ∷ vs
      between = put-between items new us vs before (id, run) parts.whole (ends_before items before lines parts room s view) put

      behind : AreParts new before lines us ((id, run) ∷ vs)
      behind = parts-back items new us vs before lines id run parts between some few

      ahead : AreParts new (Some id) (lines + run.lines) (us ++ (id, run) ∷ []) vs
      ahead = parts-front items new us vs before lines id run parts between some few

      pub pushed-behind : IsParted new before lines
      pushed-behind = parted new before lines us ((id, run) ∷ vs) behind

      pub front-behind : (shown new lines left).front ≡ s.front
      front-behind = front-is new before lines us ((id, run) ∷ vs) behind left ∙ sym (front-shown items before lines parts room s view)

      pub back-behind : (shown new lines left).back ≡ run ∷ s.back
      back-behind =
          back-is new before lines us ((id, run) ∷ vs) behind left
          ∙ ap (λ runs. run ∷ runs) (sym (back-shown items before lines parts room s view))

      pub pushed-ahead : IsParted new (Some id) (lines + run.lines)
      pushed-ahead = parted new (Some id) (lines + run.lines) (us ++ (id, run) ∷ []) vs ahead

      pub front-ahead : (shown new (lines + run.lines) left).front ≡ run ∷ s.front
      front-ahead =
          front-is new (Some id) (lines + run.lines) (us ++ (id, run) ∷ []) vs ahead left
          ∙ front-put us id run
          ∙ ap (λ runs. run ∷ runs) (sym (front-shown items before lines parts room s view))

      pub back-ahead : (shown new (lines + run.lines) left).back ≡ s.back
      back-ahead =
          back-is new (Some id) (lines + run.lines) (us ++ (id, run) ∷ []) vs ahead left
          ∙ sym (back-shown items before lines parts room s view)
