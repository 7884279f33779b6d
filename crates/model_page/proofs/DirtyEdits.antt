-- The lines that an edit of a text touches are edited lines.
use Rattle.std.proofs.Common.{◌≡◌, ℕ, ◌+◌, ◌-◌, ◌<◌, ◌≤◌, ◌==◌, leb, Bool, true, false, ◌&&◌, ◌||◌, cond, List, [], ◌∷◌, ◌++◌, length, map, take, drop, refl, ap, sym, subst, ◌∙◌, arith}
use Rattle.std.proofs.lemmas.List.{length-map, length-drop, take-map, drop-map}
use Rattle.std.proofs.lemmas.List.Sums.{prefix_len-le-length}
use Rattle.text_lengths.specs.declared.Span.{Span}
use Rattle.text_rules.specs.Lines.{lines_of, line_feed, carriage_return, begins_with}
use Rattle.text_rules.specs.Dirty.{replaced, first_dirty, old_dirty, new_dirty}
use Rattle.text_rules.specs.Breaks.{ends_break, break_ends, ends_with}
use Rattle.text_rules.proofs.Breaks.{line_count_is, break_ends_few}
use Rattle.text_rules.proofs.DirtyLines.{one_if, after_return_is, first_is, last_is, f_within, lines_before, lines_after, new_is}
use Rattle.reuse_rules.specs.Edits.{IsEdited}

-- ---- an edit leaves a line

and_few : (a b : Bool) → one_if (a && b) ≤ one_if a
and_few true true = omega arith
and_few true false = omega arith
and_few false b = omega arith

last_return : (a b : Bool) → a ≡ true → cond (a && false) false (a || b) ≡ true
last_return true b e = refl
last_return false b e = absurd cc

break_at_end : (at : ℕ) (x : List ℕ) → ends_with carriage_return x ≡ true → 0 < length (break_ends at x)
break_at_end at [] e = absurd cc
break_at_end at (u ∷ []) e =
    let ends : ends_break u [] ≡ true = last_return (u == carriage_return) (u == line_feed) e in
    subst (λ b. 0 < length (cond b ((at + 1) ∷ []) [])) (sym ends) (omega arith)
break_at_end at (u ∷ v ∷ x) e =
    let later : List ℕ = break_ends (at + 1) (v ∷ x) in
    let some : 0 < length later = break_at_end (at + 1) (v ∷ x) e in
    elim (ends_break u (v ∷ x)) as (λ b. 0 < length (cond b ((at + 1) ∷ later) later)) [
      | true ↦ omega arith
      | false ↦ some
    ]

few_joined : (text back : List ℕ) (b : Bool) → ends_with carriage_return text ≡ b → one_if (b && begins_with line_feed back) ≤ length (break_ends 0 text)
few_joined text back true e = omega (arith, and_few true (begins_with line_feed back), break_at_end 0 text e)
few_joined text back false e = omega arith

module _ (x : List ℕ) (span : Span) (text : List ℕ) (ordered : span.start ≤ span.end) (within : span.end ≤ length x) where
  some_new : 1 ≤ new_dirty x span text
  some_new =
      let back : List ℕ = drop span.end x in
      let joined = and_few (ends_with carriage_return (take span.start x)) (begins_with line_feed (text ++ back)) in
      let after = ap one_if (after_return_is x span.start (omega arith)) in
      let behind = few_joined text back (ends_with carriage_return text) refl in
      omega (arith, new_is x span text ordered within, joined, after, behind)

  -- the lines that an edit touches became others, and the rest stayed
  pub lines_edited : IsEdited (first_dirty x span) (old_dirty x span) (new_dirty x span text) (lines_of x) (lines_of (replaced x span text))
  lines_edited =
      let first = first_is x span text ordered within in
      let last = last_is x span text ordered within in
      let reach = f_within x span text ordered within in
      let few = prefix_len-le-length (λ e. leb e span.end) (break_ends 0 x) in
      let old : first_dirty x span - 1 + old_dirty x span ≤ length (lines_of x) = omega (arith, first, last, reach, few, line_count_is x) in
      record {
        first_is = omega (arith, first);
        some = omega (arith, first, last, reach);
        more = some_new;
        within = old;
        there = omega (arith, some_new, old);
        front = lines_before x span text ordered within;
        rest = lines_after x span text ordered within;
      }

-- ---- what stands in edited lines

module _ {X Y : Type 0} (f : X → Y) (first old new : ℕ) (before after : List X) (edit : IsEdited first old new before after) where
  pub IsEdited-map : IsEdited first old new (map f before) (map f after)
  IsEdited-map = record {
    first_is = edit.first_is;
    some = edit.some;
    more = edit.more;
    within = rw (length-map before f) edit.within;
    there = rw (length-map after f) edit.there;
    front = take-map f (first - 1) after ∙ ap (map f) edit.front ∙ sym (take-map f (first - 1) before);
    rest = drop-map f (first - 1 + new) after ∙ ap (map f) edit.rest ∙ sym (drop-map f (first - 1 + old) before);
  }

-- how many lines there are after an edit
pub length-after : {X : Type 0} (first old new : ℕ) (before after : List X) → IsEdited first old new before after
    → length after ≡ first - 1 + new + (length before - (first - 1 + old))
length-after first old new before after edit =
    omega (
      arith,
      ap length edit.rest,
      length-drop (first - 1 + new) after,
      length-drop (first - 1 + old) before,
      edit.there,
      edit.within,
    )

-- a text has at most one line more than units
pub few_lines : (x : List ℕ) → length (lines_of x) ≤ length x + 1
few_lines x = omega (arith, line_count_is x, break_ends_few 0 x)
