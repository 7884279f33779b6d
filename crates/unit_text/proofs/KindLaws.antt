-- Texts of a kind that are cut at valid offsets, or joined, are again texts of the kind.
use Rattle.std.proofs.Common.{◌≡◌, ◌↔◌, ℕ, zero, suc, ◌+◌, ◌-◌, ◌<◌, ◌≤◌, ◌==◌, Bool, cond, true, false, ◌&&◌, ◌||◌, List, [], ◌∷◌, ◌++◌, length, take, drop, slice_index, not, refl, ap, sym, ◌∙◌, inl, inr, arith}
use Rattle.std.proofs.lemmas.Bool.{eqb-true, and_parts, and_from, or_parts, lt-ltb, not-true, cases_Bool, cases_lt}
use Rattle.std.proofs.lemmas.List.{length-append, take-append-drop, get_or_past}
use Rattle.std.proofs.Math.Seq.{take-append_seam, drop-append_seam}
use Rattle.std.proofs.lemmas.List.Elements.{All-take, All-drop, All-append}
use Rattle.unit_text.specs.declared.kind.Kind.{Kind}
use Rattle.unit_text.specs.declared.kind.Kind.TheVariants.{Mixed, Lf, Crlf}
use Rattle.unit_text.specs.Units.{is_place}
use Rattle.unit_text.specs.Endings.{line_feed, carriage_return, begins_with, ends_with, joins_pair}
use Rattle.unit_text.specs.Kinds.{with_endings, normalized, IsOfKind, HasNoReturn, cuts_ending, is_place_in}
use Rattle.unit_text.proofs.WithEndings.{with_endings-append, has_no_return, is_of_kind_lf, normalized-lf, step, pairs, NoReturn}

abbrev one_if : Bool → ℕ
one_if b = cond b 1 0

-- with each ending replaced by CR LF a text is no shorter; it is longer if it begins with an LF or ends with a CR
longer_step : (u : ℕ) (returns feeds joins ends : Bool) (n : ℕ) (rest : List ℕ) → (feeds ≡ true → returns ≡ false)
    → n + one_if joins + one_if ends ≤ length rest
    → suc n + one_if feeds + one_if ends ≤ length (step pairs u (returns && joins) (returns || feeds) rest)
longer_step u true true joins ends n rest apart h = absurd (cc (apart refl))
longer_step u true false true ends n rest apart h = omega arith
longer_step u true false false ends n rest apart h = omega arith
longer_step u false true joins ends n rest apart h = omega arith
longer_step u false false joins ends n rest apart h = omega arith

last_step : (u : ℕ) (returns feeds : Bool) → (feeds ≡ true → returns ≡ false)
    → 1 + one_if feeds + one_if returns ≤ length (step pairs u (returns && false) (returns || feeds) [])
last_step u true true apart = absurd (cc (apart refl))
last_step u true false apart = omega arith
last_step u false true apart = omega arith
last_step u false false apart = omega arith

feeds_alone : (u : ℕ) → (u == line_feed) ≡ true → (u == carriage_return) ≡ false
feeds_alone u e = let same : u ≡ line_feed = eqb-true u line_feed e in rw same refl

with_pairs-longer : (x : List ℕ)
    → length x + one_if (begins_with line_feed x) + one_if (ends_with carriage_return x) ≤ length (with_endings pairs x)
with_pairs-longer [] = omega arith
with_pairs-longer (u ∷ []) =
    last_step u (u == carriage_return) (u == line_feed) (feeds_alone u)
with_pairs-longer (u ∷ v ∷ x) =
    longer_step u (u == carriage_return) (u == line_feed) (v == line_feed) (ends_with carriage_return (v ∷ x)) (length (v ∷ x))
    (with_endings pairs (v ∷ x)) (feeds_alone u) (with_pairs-longer (v ∷ x))

ends_apart : (ends : Bool) (k n m : ℕ) → n + k + one_if ends ≤ m → m ≡ n → ends ≡ false
ends_apart true k n m h e = absurd (omega arith)
ends_apart false k n m h e = refl

no_unit : (b : Bool) → (b && false) ≡ false
no_unit true = refl
no_unit false = refl

later_cut : (u v : ℕ) (x : List ℕ) (n : ℕ) → cuts_ending (u ∷ v ∷ x) (suc (suc n)) ≡ false → cuts_ending (v ∷ x) (suc n) ≡ false
later_cut u v x n e =
    let first : suc (suc n) - 1 ≡ suc n = omega arith in
    let second : suc n - 1 ≡ n = omega arith in
    rw (second, lt-ltb 0 (suc n) (omega arith)) (rw (first, lt-ltb 0 (suc (suc n)) (omega arith)) at e)

pub crlf_ends : (x : List ℕ) → IsOfKind Crlf x → ends_with carriage_return x ≡ false
crlf_ends x e = ends_apart (ends_with carriage_return x) (one_if (begins_with line_feed x)) (length x) (length (with_endings pairs x))
    (with_pairs-longer x) (ap length e)

joined_crlf : (x y : List ℕ) → IsOfKind Crlf x → IsOfKind Crlf y → IsOfKind Crlf (x ++ y)
joined_crlf x y e f =
    let apart : joins_pair x y ≡ false = rw (crlf_ends x e) refl in
    with_endings-append pairs x y apart ∙ rw (e, f) refl

-- if a text is of kind Crlf, so are its two parts, unless the cut is inside a CR LF
parts_crlf : (x y : List ℕ) → joins_pair x y ≡ false → IsOfKind Crlf (x ++ y) → IsOfKind Crlf x × IsOfKind Crlf y
parts_crlf x y apart whole =
    let same : with_endings pairs x ++ with_endings pairs y ≡ x ++ y = sym (with_endings-append pairs x y apart) ∙ whole in
    let lengths : length (with_endings pairs x) + length (with_endings pairs y) ≡ length x + length y =
    sym (length-append (with_endings pairs x) (with_endings pairs y)) ∙ ap length same ∙ length-append x y in
    let first : length (with_endings pairs x) ≡ length x =
    omega (arith, with_pairs-longer x, with_pairs-longer y, lengths) in (
      sym (take-append_seam (with_endings pairs x) (with_endings pairs y)) ∙ ap (λ n. take n (with_endings pairs x ++ with_endings pairs y)) first
          ∙ ap (take (length x)) same ∙ take-append_seam x y,
      sym (drop-append_seam (with_endings pairs x) (with_endings pairs y)) ∙ ap (λ n. drop n (with_endings pairs x ++ with_endings pairs y)) first
          ∙ ap (drop (length x)) same ∙ drop-append_seam x y,
    )

-- a cut at a valid offset does not split a CR LF
cut_apart : (x : List ℕ) (place : ℕ) → cuts_ending x place ≡ false → joins_pair (take place x) (drop place x) ≡ false
cut_apart x zero e = refl
cut_apart [] (suc n) e = refl
cut_apart (u ∷ []) (suc zero) e = no_unit (u == carriage_return)
cut_apart (u ∷ v ∷ x) (suc zero) e = e
cut_apart (u ∷ []) (suc (suc n)) e = no_unit (u == carriage_return)
cut_apart (u ∷ v ∷ x) (suc (suc n)) e = cut_apart (v ∷ x) (suc n) (later_cut u v x n e)

normalized_crlf_step : (u : ℕ) (returns feeds joined : Bool) (rest : List ℕ) → (u == carriage_return) ≡ returns → (u == line_feed) ≡ feeds
    → IsOfKind Crlf rest → IsOfKind Crlf (step pairs u (returns && joined) (returns || feeds) rest)
normalized_crlf_step u true feeds true rest r f e = e
normalized_crlf_step u true feeds false rest r f e = ap (λ s. pairs ++ s) e
normalized_crlf_step u false true joined rest r f e = ap (λ s. pairs ++ s) e
normalized_crlf_step u false false joined rest r f e = rw (r, f) (ap (λ s. u ∷ s) e)

normalized_crlf : (x : List ℕ) → IsOfKind Crlf (with_endings pairs x)
normalized_crlf [] = refl
normalized_crlf (u ∷ after) =
    normalized_crlf_step u (u == carriage_return) (u == line_feed) (begins_with line_feed after) (with_endings pairs after) refl refl
    (normalized_crlf after)

-- a normalized text is of the kind
pub normalized-of_kind : (kind : Kind) (x : List ℕ) → IsOfKind kind (normalized kind x)
normalized-of_kind Mixed x = refl
normalized-of_kind Lf x = is_of_kind_lf _ (normalized-lf x)
normalized-of_kind Crlf x = normalized_crlf x

pub of_kind-append : (kind : Kind) (x y : List ℕ) → IsOfKind kind x → IsOfKind kind y → IsOfKind kind (x ++ y)
of_kind-append Mixed x y e f = refl
of_kind-append Lf x y e f = is_of_kind_lf (x ++ y) (All-append NoReturn x y (has_no_return x e) (has_no_return y f))
of_kind-append Crlf x y e f = joined_crlf x y e f

uncut : (x : List ℕ) (place : ℕ) → is_place_in Crlf x place ≡ true → cuts_ending x place ≡ false
uncut x place e = (or_parts _ _ (not-true _ (and_parts _ _ e).1)).0

uncut_parts : (x : List ℕ) (place : ℕ) → IsOfKind Crlf x → cuts_ending x place ≡ false
    → IsOfKind Crlf (take place x) × IsOfKind Crlf (drop place x)
uncut_parts x place e whole = parts_crlf (take place x) (drop place x) (cut_apart x place whole) (rw take-append-drop e)

crlf_parts_at : (x : List ℕ) (place : ℕ) → IsOfKind Crlf x → is_place_in Crlf x place ≡ true
    → IsOfKind Crlf (take place x) × IsOfKind Crlf (drop place x)
crlf_parts_at x place e there = uncut_parts x place e (uncut x place there)

-- the parts before and after a valid offset are of the kind
pub of_kind-take : (kind : Kind) (x : List ℕ) (place : ℕ) → IsOfKind kind x → is_place_in kind x place ≡ true → IsOfKind kind (take place x)
of_kind-take Mixed x place e there = refl
of_kind-take Lf x place e there = is_of_kind_lf _ (All-take NoReturn place x (has_no_return x e))
of_kind-take Crlf x place e there = (crlf_parts_at x place e there).0

pub of_kind-drop : (kind : Kind) (x : List ℕ) (place : ℕ) → IsOfKind kind x → is_place_in kind x place ≡ true → IsOfKind kind (drop place x)
of_kind-drop Mixed x place e there = refl
of_kind-drop Lf x place e there = is_of_kind_lf _ (All-drop NoReturn place x (has_no_return x e))
of_kind-drop Crlf x place e there = (crlf_parts_at x place e there).1

-- a text is of kind Lf exactly if it contains no CR
pub has_no_return_iff : (x : List ℕ) → HasNoReturn x ↔ IsOfKind Lf x
has_no_return_iff x = (is_of_kind_lf x, has_no_return x)

-- an offset that is valid for a kind is valid
pub is_place-of_kind : (kind : Kind) (x : List ℕ) (place : ℕ) → is_place_in kind x place ≡ true → is_place x place ≡ true
is_place-of_kind Mixed x place there = there
is_place-of_kind Lf x place there = there
is_place-of_kind Crlf x place there =
    let parts = and_parts _ _ there in
    and_from _ _ parts.0 (ap not (or_parts _ _ (not-true _ parts.1)).1)

begins_apart : (begins : Bool) (k n m : ℕ) → n + one_if begins + k ≤ m → m ≡ n → begins ≡ false
begins_apart true k n m h e = absurd (omega arith)
begins_apart false k n m h e = refl

crlf_begins : (x : List ℕ) → IsOfKind Crlf x → begins_with line_feed x ≡ false
crlf_begins x e = begins_apart (begins_with line_feed x) (one_if (ends_with carriage_return x)) (length x) (length (with_endings pairs x))
    (with_pairs-longer x) (ap length e)

first_of_rest : (unit : ℕ) (x : List ℕ) (place : ℕ) → place < length x → begins_with unit (drop place x) ≡ (slice_index x place == unit)
first_of_rest unit [] place h = absurd (omega arith)
first_of_rest unit (u ∷ x) zero h = refl
first_of_rest unit (u ∷ x) (suc place) h = first_of_rest unit x place (omega arith)

-- in a text of kind Crlf each LF follows a CR
pub cuts_ending-at_feed : (x : List ℕ) (place : ℕ) → IsOfKind Crlf x → (slice_index x place == line_feed) ≡ true → cuts_ending x place ≡ true
cuts_ending-at_feed x place e feed =
    elim (cases_Bool (cuts_ending x place)) [
      | inl cut ↦ cut
      | inr whole ↦ elim (cases_lt place (length x)) [
        | inl inside ↦
            let none : (slice_index x place == line_feed) ≡ false =
            sym (first_of_rest line_feed x place inside) ∙ crlf_begins (drop place x) (uncut_parts x place e whole).1 in
            cc
        | inr past ↦
            let none : (slice_index x place == line_feed) ≡ false = ap (λ u. u == line_feed) (get_or_past x place 0 past) in
            cc
      ]
    ]
