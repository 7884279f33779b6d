-- Texts that stand one after another in one, found in turn.
use Rattle.std.proofs.Common.{◌≡◌, ℕ, ◌+◌, ◌<◌, ◌≤◌, true, false, List, [], ◌∷◌, ◌++◌, map, get_or, length, take, drop, nat_lt, Result, Ok, Err, refl, sym, ap, ◌∙◌, subst, append_assoc, append-nil, arith}
use Rattle.std.proofs.lemmas.Grind.{common_steps}
use Rattle.std.proofs.lemmas.List.{at_drop_more}
use Rattle.document_rules.specs.declared.ModelError.{ModelError}
use Rattle.document_rules.specs.declared.ModelError.TheVariants.{Unknown, Range, Overlap, Limit, Memory}
use Rattle.document_rules.specs.Refusals.{FlatRefusal, unknown, range, overlap, limit}
use Rattle.document_rules.specs.Outcomes.{RefusedFor}
use Rattle.textmodel_c.specs.Rules.{pieces_of, all_of, before_all}

-- those that were found, before those that are found in the rest
abbrev pub found_before : {B : Type 0} → List B → Result (List B) FlatRefusal → Result (List B) FlatRefusal
found_before front (Ok xs) = Ok (front ++ xs)
found_before front (Err why) = Err why

pub found_before-none : {B : Type 0} (rule : Result (List B) FlatRefusal) → found_before [] rule ≡ rule
found_before-none (Ok xs) = refl
found_before-none (Err why) = refl

fits : (a b : ℕ) → b ≤ a → nat_lt a b ≡ false
fits a b le = grind (arith, common_steps)

pub is_short : (a b : ℕ) → a < b → nat_lt a b ≡ true
is_short a b lt = grind (arith, common_steps)

pub found_before-one : {B : Type 0} (front : List B) (x : B) (rule : Result (List B) FlatRefusal)
    → found_before front (before_all x rule) ≡ found_before (front ++ x ∷ []) rule
found_before-one front x (Ok xs) = ap Ok (sym (append_assoc front (x ∷ []) xs))
found_before-one front x (Err why) = refl

-- ---- each of some is told in turn

next_told : {A B : Type 0} (tell : A → Result B FlatRefusal) (front : List B) (xs : List A) (n : ℕ) (d : A) (told : Result B FlatRefusal)
    → n < length xs → tell (get_or xs n d) ≡ told
    → found_before front (all_of (map tell (drop n xs))) ≡ found_before front (all_of (told ∷ map tell (drop (n + 1) xs)))
next_told tell front xs n d told within is =
    at_drop_more (λ ys. found_before front (all_of (map tell ys))) xs n d within
    ∙ ap (λ y. found_before front (all_of (y ∷ map tell (drop (n + 1) xs)))) is

pub told_on : {A B : Type 0} (tell : A → Result B FlatRefusal) (front : List B) (xs : List A) (n : ℕ) (d : A) (y : B)
    → n < length xs → tell (get_or xs n d) ≡ Ok y
    → found_before (front ++ y ∷ []) (all_of (map tell (drop (n + 1) xs))) ≡ found_before front (all_of (map tell (drop n xs)))
told_on tell front xs n d y within is =
    sym (next_told tell front xs n d (Ok y) within is ∙ found_before-one front y (all_of (map tell (drop (n + 1) xs))))

told_no_more : {A B : Type 0} (tell : A → Result B FlatRefusal) (front : List B) (xs : List A) (n : ℕ) (d : A) (e : ModelError)
    → n < length xs → RefusedFor e (tell (get_or xs n d)) → RefusedFor e (found_before front (all_of (map tell (drop n xs))))
told_no_more tell front xs n d Unknown within why = next_told tell front xs n d (Err unknown) within why
told_no_more tell front xs n d Range within why = next_told tell front xs n d (Err range) within why
told_no_more tell front xs n d Overlap within why = next_told tell front xs n d (Err overlap) within why
told_no_more tell front xs n d Limit within why = next_told tell front xs n d (Err limit) within why
told_no_more tell front xs n d Memory within why = tt

pub told_refused : {A B : Type 0} (tell : A → Result B FlatRefusal) (front : List B) (xs : List A) (n : ℕ) (d : A) (e : ModelError)
    (rule : Result (List B) FlatRefusal) → n < length xs → found_before front (all_of (map tell (drop n xs))) ≡ rule
    → RefusedFor e (tell (get_or xs n d)) → RefusedFor e rule
told_refused tell front xs n d e rule within is why = subst (RefusedFor e) is (told_no_more tell front xs n d e within why)

module _ {A B : Type 0} (units : A → ℕ) (make : A → List ℕ → B) where
  pub found_before-step : (front : List B) (x : A) (more : List A) (rest : List ℕ) → units x ≤ length rest
      → found_before front (pieces_of units make (x ∷ more) rest) ≡ found_before (front ++ make x (take (units x) rest) ∷ []) (pieces_of units make more (drop (units x) rest))
  found_before-step front x more rest le =
      rw (fits (length rest) (units x) le) (found_before-one front (make x (take (units x) rest)) (pieces_of units make more (drop (units x) rest)))

  pub found_before-short : (front : List B) (x : A) (more : List A) (rest : List ℕ) → length rest < units x
      → found_before front (pieces_of units make (x ∷ more) rest) ≡ Err range
  found_before-short front x more rest lt = rw (is_short (length rest) (units x) lt) refl

  pub found_before-left : (front : List B) (rest : List ℕ) → 0 < length rest → found_before front (pieces_of units make [] rest) ≡ Err range
  found_before-left front [] lt = absurd (omega (arith, lt))
  found_before-left front (unit ∷ rest) lt = refl

  pub found_before-all : (front : List B) (rest : List ℕ) → length rest ≡ 0 → found_before front (pieces_of units make [] rest) ≡ Ok front
  found_before-all front [] none = ap Ok (append-nil front)
  found_before-all front (unit ∷ rest) none = absurd (omega (arith, none))
