-- Line breaks as a list in which every list has two parts.
use Rattle.std.proofs.Common.{◌≡◌, ℕ, zero, suc, ◌+◌, ◌-◌, ◌*◌, ◌%◌, ◌<◌, ◌≤◌, ◌^◌, min, true, false, None, refl, ap, ◌∙◌, inr, arith}
use Rattle.std.proofs.Math.Nat.{two-pow-succ}
use Rattle.std.proofs.lemmas.Nat.{pow_pos, pow_below}
use Rattle.std.proofs.lemmas.Grind.{common_steps}
use Rattle.text_lengths.specs.Length.{length_of, length_plus}
use Rattle.bracket_tree_rules.specs.Tree.{two, tree_length, is_missing, is_closed, is_capped, nesting, height, highest, weight, is_nothing, IsTree}
use Rattle.bracket_tree_rules.proofs.KindSets.{has_kind-none}
use Rattle.bracket_nodes.specs.declared.kept.Kept.{Kept}
use Rattle.bracket_nodes.specs.declared.leaf.TheConstants.{HIGHEST_BREAKS}
use Rattle.bracket_nodes.specs.Forms.{breaks, IsSound}
use Rattle.bracket_nodes.specs.Kept.{Keeps, last_level}

pub breaks_some : (h : ℕ) → is_nothing (breaks h) ≡ false
breaks_some zero = refl
breaks_some (suc h) = refl

pub breaks_height : (h : ℕ) → height (breaks h) ≡ h
breaks_height zero = refl
breaks_height (suc h) = ap suc (breaks_height h)

pub breaks_tree : (h : ℕ) → IsTree (breaks h)
breaks_tree zero = inr (refl, refl)
breaks_tree (suc h) =
    (record { level = refl; first = breaks_some h; second = breaks_some h }, (breaks_tree h, breaks_tree h))

pub breaks_weight : (h : ℕ) → weight (breaks h) ≡ 2 ^ h
breaks_weight zero = omega arith
breaks_weight (suc h) = omega (arith, breaks_weight h, two-pow-succ h)

twice : (n : ℕ) → 0 < n → length_plus (length_of n 0) (length_of n 0) ≡ length_of (n + n) 0
twice n h = grind (arith, common_steps)

pub breaks_length : (h : ℕ) → tree_length (breaks h) ≡ length_of (2 ^ h) 0
breaks_length zero = refl
breaks_length (suc h) =
    let part = breaks_length h in
    rw part (twice (2 ^ h) (pow_pos h) ∙ ap (λ (n : ℕ). length_of n 0) (omega (arith, two-pow-succ h)))

breaks_missing : (k h : ℕ) → is_missing k (breaks h) ≡ false
breaks_missing k zero = refl
breaks_missing k (suc h) = rw (breaks_missing k h) refl

breaks_closed : (h : ℕ) → is_closed (breaks h) ≡ true
breaks_closed zero = refl
breaks_closed (suc h) = rw (breaks_closed h) refl

breaks_capped : (h : ℕ) → is_capped (breaks h) ≡ false
breaks_capped zero = refl
breaks_capped (suc h) = rw (breaks_capped h) refl

breaks_highest : (h : ℕ) → highest (breaks h) ≡ h
breaks_highest zero = refl
breaks_highest (suc h) = omega (arith, breaks_highest h, breaks_height h)

breaks_nesting : (h : ℕ) → nesting (breaks h) ≡ 0
breaks_nesting zero = refl
breaks_nesting (suc h) = omega (arith, breaks_nesting h)

breaks_last : (h : ℕ) → last_level (breaks h) ≡ None
breaks_last zero = refl
breaks_last (suc h) = rw (breaks_last h) refl

-- ---- those that are not too high

pub breaks_sound : (h : ℕ) → h ≤ HIGHEST_BREAKS → IsSound (breaks h)
breaks_sound h low = record {
  tree = breaks_tree h;
  light = omega (arith, breaks_weight h, pow_below h 64 (omega arith));
}

pub breaks_lines : (h : ℕ) → h ≤ HIGHEST_BREAKS → (1 * 2 ^ h) % 2 ^ 64 ≡ 2 ^ h
breaks_lines h low = let below = pow_below h 64 (omega arith) in omega arith

pub breaks_twice : (h : ℕ) → h < HIGHEST_BREAKS
    → breaks (min (h + 1) HIGHEST_BREAKS) ≡ two (breaks (min h HIGHEST_BREAKS)) (breaks (min h HIGHEST_BREAKS))
breaks_twice h low =
    let above : min (h + 1) HIGHEST_BREAKS ≡ suc h = omega arith in
    let same : min h HIGHEST_BREAKS ≡ h = omega arith in
    rw (above, same) refl

pub breaks_halved : (h : ℕ) → 0 < h → two (breaks (h - 1)) (breaks (h - 1)) ≡ breaks h
breaks_halved zero some = absurd (omega arith)
breaks_halved (suc h) some = let below : suc h - 1 ≡ h = omega arith in rw below refl

abbrev pub breaks_kept : ℕ → Kept
breaks_kept h = record {
  length = tree_length (breaks h);
  missing = 0;
  closed = true;
  capped = false;
  height = h;
  highest = h;
  nesting = 0;
  last_level = None;
}

pub Keeps-breaks : (h : ℕ) → h ≤ HIGHEST_BREAKS → Keeps (breaks h) (breaks_kept h)
Keeps-breaks h low = record {
  tree = breaks_tree h;
  light = (breaks_sound h low).light;
  length = refl;
  missing = λ k. rw (breaks_missing k h) (has_kind-none k);
  closed = rw (breaks_closed h) refl;
  capped = rw (breaks_capped h) refl;
  height = rw (breaks_height h) refl;
  highest = rw (breaks_highest h) refl;
  nesting = rw (breaks_nesting h) refl;
  last = rw (breaks_last h) refl;
}
