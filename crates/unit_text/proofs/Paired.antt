-- Texts whose surrogates are all paired, when they are cut and joined.
use Rattle.std.proofs.Common.{◌≡◌, ℕ, suc, zero, ◌-◌, ◌≤◌, ◌<◌, Bool, true, false, ◌&&◌, ◌||◌, not, List, [], ◌∷◌, ◌++◌, length, get_or, take, drop, sym, refl, ◌∙◌, arith, is_some, cond, nat_le, nat_lt, Option, Some, None}
use Rattle.std.proofs.lemmas.Bool.Decides.{nat_tests}
use Rattle.std.proofs.lemmas.Bool.{lt-ltb, leb-true, and_parts, or_parts, or_from, not-true}
use Rattle.std.proofs.lemmas.List.{take-append-drop}
use Rattle.std.specs.Char.Utf16.{utf16_chars, is_high_surrogate, is_low_surrogate, has_unpaired_surrogate, lone_unit_char}
use Rattle.unit_text.specs.Units.{cuts_pair, is_place, IsPaired}

abbrev pair : ℕ → ℕ → Bool
pair u v = is_high_surrogate u && is_low_surrogate v

has_unpaired-pair : (u v : ℕ) (us : List ℕ) → pair u v ≡ true → has_unpaired_surrogate (u ∷ v ∷ us) ≡ has_unpaired_surrogate us
unfolding utf16_chars
has_unpaired-pair u v us p = rw p

has_unpaired-lone : (u v : ℕ) (us : List ℕ) → pair u v ≡ false
    → has_unpaired_surrogate (u ∷ v ∷ us) ≡ (not (is_some (lone_unit_char u)) || has_unpaired_surrogate (v ∷ us))
unfolding utf16_chars
has_unpaired-lone u v us p = rw p

-- the first list ends with a high surrogate and the second begins with a low one
abbrev seam : List ℕ → List ℕ → Bool
seam [] b = false
seam (u ∷ []) b = pair u (get_or b 0 0)
seam (u ∷ v ∷ a) b = seam (v ∷ a) b

seam-shorter : (v : ℕ) (a b : List ℕ) → seam (v ∷ a) b ≡ false → seam a b ≡ false
seam-shorter v [] b e = refl
seam-shorter v (w ∷ a) b e = e

abbrev BothPaired : List ℕ → List ℕ → Type 0
BothPaired a b = IsPaired a × IsPaired b

lone : (u : ℕ) → not (is_some (lone_unit_char u)) ≡ false → IsPaired (u ∷ [])
unfolding utf16_chars
lone u e = rw e

parts_by_pair : (u v : ℕ) (a b : List ℕ) (t : Bool) → pair u v ≡ t → (IsPaired (a ++ b) → seam a b ≡ false → BothPaired a b)
    → (IsPaired (v ∷ a ++ b) → seam (v ∷ a) b ≡ false → BothPaired (v ∷ a) b)
    → IsPaired (u ∷ v ∷ a ++ b) → seam (v ∷ a) b ≡ false → BothPaired (u ∷ v ∷ a) b
parts_by_pair u v a b true p shorter next whole apart =
    let parts = shorter (sym (has_unpaired-pair u v (a ++ b) p) ∙ whole) (seam-shorter v a b apart) in
    (has_unpaired-pair u v a p ∙ parts.0, parts.1)
parts_by_pair u v a b false p shorter next whole apart =
    let split = or_parts _ _ (sym (has_unpaired-lone u v (a ++ b) p) ∙ whole) in
    let parts = next split.1 apart in
    (has_unpaired-lone u v a p ∙ or_from _ _ split.0 parts.0, parts.1)

one_before : (u : ℕ) (b : List ℕ) → IsPaired (u ∷ b) → pair u (get_or b 0 0) ≡ false → BothPaired (u ∷ []) b
one_before u [] whole apart = (whole, unfold utf16_chars in refl)
one_before u (v ∷ b) whole apart =
    let split = or_parts _ _ (sym (has_unpaired-lone u v b apart) ∙ whole) in
    (lone u split.0, split.1)

pub IsPaired-parts : (a b : List ℕ) → IsPaired (a ++ b) → seam a b ≡ false → BothPaired a b
IsPaired-parts [] b whole apart = (unfold utf16_chars in refl, whole)
IsPaired-parts (u ∷ []) b whole apart = one_before u b whole apart
IsPaired-parts (u ∷ v ∷ a) b whole apart =
    parts_by_pair u v a b _ refl (IsPaired-parts a b) (IsPaired-parts (v ∷ a) b) whole apart

IsPaired-after_pair : (u v : ℕ) (a b : List ℕ) (t : Bool) → pair u v ≡ t → (IsPaired a → IsPaired (a ++ b)) → (IsPaired (v ∷ a) → IsPaired (v ∷ a ++ b))
    → IsPaired (u ∷ v ∷ a) → IsPaired (u ∷ v ∷ a ++ b)
IsPaired-after_pair u v a b true p shorter next whole =
    has_unpaired-pair u v (a ++ b) p ∙ shorter (sym (has_unpaired-pair u v a p) ∙ whole)
IsPaired-after_pair u v a b false p shorter next whole =
    let split = or_parts _ _ (sym (has_unpaired-lone u v a p) ∙ whole) in
    has_unpaired-lone u v (a ++ b) p ∙ or_from _ _ split.0 (next split.1)

-- a text of one unit without unpaired surrogates contains no surrogate
is_some_lone : (u : ℕ) → IsPaired (u ∷ []) → not (is_some (lone_unit_char u)) ≡ false
unfolding utf16_chars
is_some_lone u e = (or_parts _ _ e).0

no_surrogate : (u : ℕ) (t : Bool) → not (is_some (cond {A = Option ℕ} t None (Some u))) ≡ false → t ≡ false
no_surrogate u true e = cc
no_surrogate u false e = refl

no_high : (u : ℕ) → (nat_le 0xD800 u && nat_lt u 0xE000) ≡ false → is_high_surrogate u ≡ false
no_high u e = grind (arith, nat_tests)

no_pair : (u v : ℕ) → IsPaired (u ∷ []) → pair u v ≡ false
no_pair u v one = let high = no_high u (no_surrogate u _ (is_some_lone u one)) in rw high

IsPaired-after_one : (u : ℕ) (b : List ℕ) → IsPaired (u ∷ []) → IsPaired b → IsPaired (u ∷ b)
IsPaired-after_one u [] one rest = one
IsPaired-after_one u (v ∷ b) one rest =
    has_unpaired-lone u v b (no_pair u v one) ∙ or_from _ _ (is_some_lone u one) rest

pub IsPaired-append : (a b : List ℕ) → IsPaired a → IsPaired b → IsPaired (a ++ b)
IsPaired-append [] b left right = right
IsPaired-append (u ∷ []) b left right = IsPaired-after_one u b left right
IsPaired-append (u ∷ v ∷ a) b left right =
    IsPaired-after_pair u v a b _ refl (λ e. IsPaired-append a b e right) (λ e. IsPaired-append (v ∷ a) b e right) left

seam_at : (x : List ℕ) (n : ℕ) → n < length x → pair (get_or x n 0) (get_or x (suc n) 0) ≡ seam (take (suc n) x) (drop (suc n) x)
seam_at [] n short = refl
seam_at (u ∷ []) zero short = refl
seam_at (u ∷ v ∷ x) zero short = refl
seam_at (u ∷ []) (suc n) short = absurd (omega arith)
seam_at (u ∷ v ∷ x) (suc n) short = seam_at (v ∷ x) n (omega arith)

cuts_pair-seam : (x : List ℕ) (n : ℕ) → n ≤ length x → cuts_pair x n ≡ seam (take n x) (drop n x)
cuts_pair-seam x zero within = refl
cuts_pair-seam x (suc n) within =
    let above : nat_lt 0 (suc n) ≡ true = lt-ltb 0 (suc n) (omega arith) in
    let before : suc n - 1 ≡ n = omega arith in
    rw (above, before) (seam_at x n within)

-- both parts of a text that is cut at a valid offset are paired
pub IsPaired-cut : (x : List ℕ) (n : ℕ) → is_place x n ≡ true → IsPaired x → IsPaired (take n x) × IsPaired (drop n x)
IsPaired-cut x n place whole =
    let facts = and_parts _ _ place in
    let apart = not-true _ facts.1 in
    IsPaired-parts (take n x) (drop n x) (rw take-append-drop whole) (sym (cuts_pair-seam x n (leb-true _ _ facts.0)) ∙ apart)
