-- The decorations that touch a span.
use Rattle.std.proofs.Common.{◌≡◌, ℕ, ◌<◌, ◌≤◌, ◌<ℤ◌, ◌≤ℤ◌, true, false, inl, inr, List, [], ◌∷◌, ◌++◌, refl, sym, ◌∙◌, ap, subst, arith, append_assoc}
use Rattle.std.proofs.lemmas.Bool.{cond-true, cond-false, cases_Bool}
use Rattle.std.proofs.lemmas.Bool.Decides.{nat_tests}
use Rattle.std.proofs.lemmas.Int.{ints}
use Rattle.std.proofs.lemmas.List.{append-nil}
use Rattle.text_lengths.specs.declared.Span.{Span}
use Rattle.decoration_rules.specs.declared.Mark.{Mark}
use Rattle.decoration_rules.specs.Marks.{stands_before, IsInOrder, touches, touching}
use Rattle.interval_deltas.specs.declared.weave.KeptMark.{KeptMark}
use Rattle.interval_deltas.specs.Weave.{is_mark}
use Rattle.interval_deltas.specs.Kept.{Each, AreMarks, as_mark, marks_of, capped}
use Rattle.interval_deltas.proofs.Items.{each_left, each_right, each_weaker, each_with, after_it}
use Rattle.interval_deltas.proofs.Moving.{grounded}
use Rattle.interval_deltas.proofs.Untouched.{starts_later}

pub apart_low : (span : Span) (mark : Mark) → mark.span.end < span.start → touches span mark ≡ false
apart_low span mark low = grind (arith, nat_tests)

pub apart_high : (span : Span) (mark : Mark) → span.end < mark.span.start → touches span mark ≡ false
apart_high span mark high = grind (arith, nat_tests)

pub touching_none : (span : Span) (es : List (ℕ × KeptMark)) → Each (λ m. touches span (as_mark m) ≡ false) es → touching span (marks_of es) ≡ []
touching_none span [] h = refl
touching_none span (e ∷ es) (h, hs) = cond-false (touches span (as_mark e.1)) (as_mark e.1 ∷ touching span (marks_of es)) (touching span (marks_of es)) h ∙ touching_none span es hs

pub touching-append : (span : Span) (us vs : List (ℕ × KeptMark)) → touching span (marks_of (us ++ vs)) ≡ touching span (marks_of us) ++ touching span (marks_of vs)
touching-append span [] vs = refl
touching-append span (u ∷ us) vs = elim (cases_Bool (touches span (as_mark u.1))) [
  | inl here ↦
      cond-true (touches span (as_mark u.1)) (as_mark u.1 ∷ touching span (marks_of (us ++ vs))) (touching span (marks_of (us ++ vs))) here
      ∙ ap (λ l. as_mark u.1 ∷ l) (touching-append span us vs)
      ∙ ap (λ l. l ++ touching span (marks_of vs)) (sym (cond-true (touches span (as_mark u.1)) (as_mark u.1 ∷ touching span (marks_of us)) (touching span (marks_of us)) here))
  | inr away ↦
      cond-false (touches span (as_mark u.1)) (as_mark u.1 ∷ touching span (marks_of (us ++ vs))) (touching span (marks_of (us ++ vs))) away
      ∙ touching-append span us vs
      ∙ ap (λ l. l ++ touching span (marks_of vs)) (sym (cond-false (touches span (as_mark u.1)) (as_mark u.1 ∷ touching span (marks_of us)) (touching span (marks_of us)) away))
]

pub below_apart : (span : Span) (m : KeptMark) → is_mark m → m.end <ℤ capped span.start → touches span (as_mark m) ≡ false
below_apart span m (h, g, l) low = let second = grounded m.end (omega (arith, ints, h, g)) in apart_low span (as_mark m) (omega (arith, ints, second, low))

-- no decoration touches the span from the first on that starts after it
pub none_behind : (span : Span) (us : List (ℕ × KeptMark)) (e : ℕ × KeptMark) (vs : List (ℕ × KeptMark)) → IsInOrder (marks_of (us ++ e ∷ vs)) → span.end < (as_mark e.1).span.start → touching span (marks_of (e ∷ vs)) ≡ []
none_behind span us e vs ordered high =
    touching_none span (e ∷ vs) (
      apart_high span (as_mark e.1) high,
      each_weaker (λ m. stands_before (as_mark e.1) (as_mark m) ≡ true) (λ m. touches span (as_mark m) ≡ false)
          (λ m before. let le = starts_later (as_mark e.1) (as_mark m) before in apart_high span (as_mark m) (omega (arith, high, le))) vs (after_it us e vs ordered),
    )

-- none of those that end before the span touches it
pub ended_apart : (span : Span) (us : List (ℕ × KeptMark)) → AreMarks us → Each (λ m. m.end <ℤ capped span.start) us → touching span (marks_of us) ≡ []
ended_apart span us values low = touching_none span us (each_with is_mark (λ m. m.end <ℤ capped span.start) (λ m. touches span (as_mark m) ≡ false) (below_apart span) us values low)

pub touch_both : (span : Span) (mark : Mark) → mark.span.start ≤ span.end → span.start ≤ mark.span.end → touches span mark ≡ true
touch_both span mark first second = grind (arith, nat_tests)

pub reaching_touches : (span : Span) (m : KeptMark) → is_mark m → (as_mark m).span.start ≤ span.end → capped span.start ≤ℤ m.end → touches span (as_mark m) ≡ true
reaching_touches span m (h, g, l) first high = let second = grounded m.end (omega (arith, ints, h, g)) in touch_both span (as_mark m) first (omega (arith, ints, second, high, l))

-- if none of the rest touches the span, the walk has found all that do
pub walk_end : (span : Span) (items us vs : List (ℕ × KeptMark)) → items ≡ us ++ vs → touching span (marks_of vs) ≡ [] → touching span (marks_of items) ≡ touching span (marks_of us)
walk_end span items us vs is none =
    ap (λ l. touching span (marks_of l)) is ∙ touching-append span us vs ∙ ap (λ l. touching span (marks_of us) ++ l) none ∙ append-nil (touching span (marks_of us))

-- the walk passes over those that end before the span, to the next that reaches it
pub walk_on : (span : Span) (items us vs ws : List (ℕ × KeptMark)) (e : ℕ × KeptMark) (zs : List (ℕ × KeptMark)) → AreMarks items → items ≡ us ++ vs → vs ≡ ws ++ e ∷ zs → Each (λ m. m.end <ℤ capped span.start) ws
    → (items ≡ (us ++ ws) ++ e ∷ zs) × (touching span (marks_of (us ++ ws)) ≡ touching span (marks_of us))
walk_on span items us vs ws e zs values whole is low =
    let rest : AreMarks (ws ++ e ∷ zs) = subst AreMarks is (each_right is_mark us vs (subst AreMarks whole values)) in
    (whole ∙ ap (λ l. us ++ l) is ∙ sym (append_assoc us ws (e ∷ zs)), walk_end span (us ++ ws) us ws refl (ended_apart span ws (each_left is_mark ws (e ∷ zs) rest) low))

-- and appends that one if it touches the span
pub walk_more : (span : Span) (us : List (ℕ × KeptMark)) (e : ℕ × KeptMark) → touches span (as_mark e.1) ≡ true → touching span (marks_of (us ++ e ∷ [])) ≡ touching span (marks_of us) ++ as_mark e.1 ∷ []
walk_more span us e touch =
    touching-append span us (e ∷ []) ∙ ap (λ l. touching span (marks_of us) ++ l) (cond-true (touches span (as_mark e.1)) (as_mark e.1 ∷ []) [] touch)
