-- Texts with line endings of one kind, when they are joined and cut.
use Rattle.std.proofs.Common.{◌≡◌, ℕ, suc, ◌≤◌, ◌==◌, Bool, true, false, ◌&&◌, ◌||◌, if◌then◌else◌, List, [], ◌∷◌, ◌++◌, length, refl, ap, sym, ◌∙◌, arith}
use Rattle.std.proofs.lemmas.Bool.{eqb-true}
use Rattle.std.proofs.lemmas.List.{append_assoc, append-nil}
use Rattle.std.proofs.lemmas.List.Elements.{All-nil, All-cons, All-head, All-tail}
use Rattle.unit_text.specs.Endings.{line_feed, carriage_return, begins_with, joins_pair}
use Rattle.unit_text.specs.declared.kind.Kind.TheVariants.{Lf}
use Rattle.unit_text.specs.Kinds.{with_endings, IsOfKind, HasNoReturn}

abbrev pub step : List ℕ → ℕ → Bool → Bool → List ℕ → List ℕ
step ending u joins ends rest = if joins then rest else (if ends then ending ++ rest else u ∷ rest)

step-append : (ending : List ℕ) (u : ℕ) (joins ends : Bool) (x y : List ℕ) → step ending u joins ends (x ++ y) ≡ step ending u joins ends x ++ y
step-append ending u true ends x y = refl
step-append ending u false true x y = sym (append_assoc ending x y)
step-append ending u false false x y = refl

step-last : (ending : List ℕ) (u : ℕ) (returns feeds : Bool) (y : List ℕ)
    → step ending u false (returns || feeds) y ≡ step ending u (returns && false) (returns || feeds) [] ++ y
step-last ending u true feeds y = ap (λ s. s ++ y) (sym (append-nil ending))
step-last ending u false true y = ap (λ s. s ++ y) (sym (append-nil ending))
step-last ending u false false y = refl

-- endings can be replaced in two texts separately, unless a CR LF lies across the border
pub with_endings-append : (ending x y : List ℕ) → joins_pair x y ≡ false
    → with_endings ending (x ++ y) ≡ with_endings ending x ++ with_endings ending y
with_endings-append ending [] y apart = refl
with_endings-append ending (u ∷ []) y apart =
    rw apart (step-last ending u (u == carriage_return) (u == line_feed) (with_endings ending y))
with_endings-append ending (u ∷ v ∷ x) y apart =
    let joins = u == carriage_return && v == line_feed in
    let ends = u == carriage_return || u == line_feed in
    ap (step ending u joins ends) (with_endings-append ending (v ∷ x) y apart)
    ∙ step-append ending u joins ends (with_endings ending (v ∷ x)) (with_endings ending y)

abbrev pub feeds : List ℕ
feeds = line_feed ∷ []

abbrev pub pairs : List ℕ
pairs = carriage_return ∷ line_feed ∷ []

-- the length of a text after its endings are replaced
shorter_step : (u : ℕ) (joins ends : Bool) (n : ℕ) (rest : List ℕ) → length rest ≤ n → length (step feeds u joins ends rest) ≤ suc n
shorter_step u true ends n rest h = omega arith
shorter_step u false true n rest h = omega arith
shorter_step u false false n rest h = omega arith

pub with_feeds-shorter : (x : List ℕ) → length (with_endings feeds x) ≤ length x
with_feeds-shorter [] = omega arith
with_feeds-shorter (u ∷ after) =
    shorter_step u (u == carriage_return && begins_with line_feed after) (u == carriage_return || u == line_feed)
    (length after) (with_endings feeds after) (with_feeds-shorter after)

-- if the text is unchanged by the replacement, its first unit is no CR, and the units after it are unchanged
lf_parts : (u : ℕ) (returns joined ends : Bool) (rest after : List ℕ) → (u == carriage_return) ≡ returns → length rest ≤ length after
    → step feeds u (returns && joined) (returns || ends) rest ≡ u ∷ after → (returns ≡ false) × (rest ≡ after)
lf_parts u true true ends rest after r h e =
    let longer : length rest ≡ suc (length after) = ap length e in
    absurd (omega arith)
lf_parts u true false ends rest after r h e =
    let feeds_here : line_feed ≡ u = cc in
    let returns_here : u ≡ carriage_return = eqb-true u carriage_return r in
    let same : line_feed ≡ carriage_return = feeds_here ∙ returns_here in
    cc
lf_parts u false joined true rest after r h e = (refl, cc)
lf_parts u false joined false rest after r h e = (refl, cc)

abbrev pub NoReturn : ℕ → Type 0
NoReturn u = (u == carriage_return) ≡ false

-- a text of kind Lf contains no CR
pub has_no_return : (x : List ℕ) → IsOfKind Lf x → HasNoReturn x
has_no_return [] e = All-nil NoReturn
has_no_return (u ∷ after) e =
    let parts = lf_parts u (u == carriage_return) (begins_with line_feed after) (u == line_feed) (with_endings feeds after) after refl
    (with_feeds-shorter after) e in
    All-cons NoReturn u after parts.0 (has_no_return after parts.1)

-- a text without a CR is of kind Lf
lf_step : (u : ℕ) (returns joined ends : Bool) (rest after : List ℕ) → returns ≡ false → (u == line_feed) ≡ ends → rest ≡ after
    → step feeds u (returns && joined) (returns || ends) rest ≡ u ∷ after
lf_step u true joined ends rest after none r e = cc
lf_step u false joined true rest after none r e =
    let feeds_here : u ≡ line_feed = eqb-true u line_feed r in
    ap (λ s. line_feed ∷ s) e ∙ ap (λ v. v ∷ after) (sym feeds_here)
lf_step u false joined false rest after none r e = ap (λ s. u ∷ s) e

pub is_of_kind_lf : (x : List ℕ) → HasNoReturn x → IsOfKind Lf x
is_of_kind_lf [] h = refl
is_of_kind_lf (u ∷ after) h =
    lf_step u (u == carriage_return) (begins_with line_feed after) (u == line_feed) (with_endings feeds after) after
    (All-head NoReturn u after h) refl (is_of_kind_lf after (All-tail NoReturn u after h))

no_return_step : (u : ℕ) (returns joined ends : Bool) (rest : List ℕ) → (u == carriage_return) ≡ returns → HasNoReturn rest
    → HasNoReturn (step feeds u (returns && joined) (returns || ends) rest)
no_return_step u true true ends rest r h = h
no_return_step u true false ends rest r h = All-cons NoReturn line_feed rest refl h
no_return_step u false joined true rest r h = All-cons NoReturn line_feed rest refl h
no_return_step u false joined false rest r h = All-cons NoReturn u rest r h

-- a text normalized to Lf contains no CR
pub normalized-lf : (x : List ℕ) → HasNoReturn (with_endings feeds x)
normalized-lf [] = All-nil NoReturn
normalized-lf (u ∷ after) =
    no_return_step u (u == carriage_return) (begins_with line_feed after) (u == line_feed) (with_endings feeds after) refl (normalized-lf after)
