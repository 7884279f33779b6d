-- What an edit touches.
use Rattle.std.proofs.Common.{◌≡◌, ℕ, ◌<◌, ◌≤◌, pos, ◌+ℤ◌, ◌<ℤ◌, true, false, inl, inr, List, [], ◌∷◌, refl, sym, ◌∙◌, arith}
use Rattle.std.proofs.lemmas.Bool.Decides.{nat_tests}
use Rattle.std.proofs.lemmas.Int.{ints}
use Rattle.decoration_rules.specs.declared.Edit.{Edit}
use Rattle.decoration_rules.specs.declared.Mark.{Mark}
use Rattle.decoration_rules.specs.Marks.{stands_before}
use Rattle.decoration_rules.specs.Moves.{removed}
use Rattle.interval_deltas.specs.declared.weave.KeptMark.{KeptMark}
use Rattle.interval_deltas.specs.declared.weave.Place.{Place}
use Rattle.interval_deltas.specs.Weave.{is_mark}
use Rattle.interval_deltas.specs.Laws.{lawful}
use Rattle.interval_deltas.specs.Kept.{AreMarks, CanFollow, MovesNone, capped, moved_items, moved_kept}
use Rattle.interval_deltas.proofs.Moving.{past_kept, small_edit}

pub starts_later : (a b : Mark) → stands_before a b ≡ true → a.span.start ≤ b.span.start
starts_later a b before = grind (arith, nat_tests)

-- The place right after an edit.

abbrev pub after_edit : Edit → Place
after_edit edit = record { start = capped edit.end +ℤ pos 1; end = pos 0; id = 0 }

pub starts_before : (a : Mark) (n : ℕ) (b : Mark) → b.span.start ≡ n → b.span.end ≡ 0 → b.id ≡ 0 → stands_before a b ≡ true → a.span.start < n
starts_before a n b e f g before = grind (arith, nat_tests)

pub starts_behind_place : (a : Mark) (n : ℕ) (b : Mark) → b.span.start ≡ n → stands_before a b ≡ false → n ≤ a.span.start
starts_behind_place a n b e other = grind (arith, nat_tests)

-- Decorations after an edit that do not move.

stays : (edit : Edit) (m : KeptMark) → is_mark m → edit.start ≤ edit.end → pos edit.end <ℤ m.start → edit.units ≡ removed edit → moved_kept edit m ≡ m
stays edit m h up behind same = sym (past_kept edit m (pos 0) h up behind (omega (arith, ints, same))) ∙ lawful.shift_still m

pub follow_still : (edit : Edit) (vs : List (ℕ × KeptMark)) → edit.start ≤ edit.end → MovesNone edit → AreMarks vs → CanFollow edit vs → moved_items edit vs ≡ vs
follow_still edit [] up none values follow = refl
follow_still edit (v ∷ vs) up (inl same) (h, hs) ((f, fs), (g, gs)) = λ i. (v.0, stays edit v.1 h up g same i) ∷ follow_still edit vs up (inl same) hs (fs, gs) i
follow_still edit (v ∷ vs) up (inr (inl large)) (h, hs) ((f, fs), (g, gs)) = absurd (omega (arith, large, (small_edit edit v.1 h up g f).0))
follow_still edit (v ∷ vs) up (inr (inr large)) (h, hs) ((f, fs), (g, gs)) = absurd (omega (arith, large, (small_edit edit v.1 h up g f).1))
