-- The last steps shared with document n, and the replacement of all steps.
use Rattle.std.proofs.Common.{◌≡◌, ℕ, suc, ◌+◌, ◌-◌, ◌&&◌, nat_lt, arith, Bool, false, if◌then◌else◌, List, [], ◌∷◌, ◌++◌, length, map, reverse, filter, None, refl, sym, ap, ap₂, ◌∙◌, ⊎_elim}
use Rattle.std.proofs.lemmas.Bool.{and_right, cases_lt, lt-ltb, le-ltb}
use Rattle.std.proofs.lemmas.List.{length-append, length-reverse, reverse-append, reverse-reverse, map-append, take_at, drop_at}
use Rattle.std.proofs.lemmas.List.Elements.{filter-append}
use Rattle.undo_rules.specs.Stack.{Step, Stack}
use Rattle.undo_rules.specs.Tags.{is_member, passes, all_steps, tagged_count, untagged_last, with_steps}

pub map_reverse : {X Y : Type 0} (f : X → Y) (xs : List X) → map f (reverse xs) ≡ reverse (map f xs)
map_reverse f [] = refl
map_reverse f (x ∷ xs) =
    ap (map f) (reverse-append (x ∷ []) xs) ∙ map-append f (reverse xs) (x ∷ [])
    ∙ ap (λ rest. rest ++ f x ∷ []) (map_reverse f xs) ∙ sym (reverse-append (f x ∷ []) (map f xs))

module _ {C : Type 0} where
  pub with_steps-same : (s t : Stack C) → length t.undo ≡ length s.undo → t.is_open ≡ s.is_open → with_steps s (all_steps t) ≡ t
  with_steps-same s t long same_open =
      let front : length (reverse t.undo) ≡ length s.undo = length-reverse t.undo ∙ long in
      ap₂ (λ (undo redo : List (Step C)). record s { undo = undo; redo = redo })
      (ap reverse (take_at (reverse t.undo) t.redo (length s.undo) front) ∙ reverse-reverse t.undo)
      (drop_at (reverse t.undo) t.redo (length s.undo) front)
      ∙ ap (λ (is_open : Bool). record t { is_open = is_open }) (sym same_open)

  module _ (n : ℕ) where
    pub tagged_count-append : (xs ys : List (Step C)) → tagged_count n (xs ++ ys) ≡ tagged_count n xs + tagged_count n ys
    tagged_count-append xs ys =
        let tagged : List (Step C) → List (Step C) = filter (λ step. passes (is_member n) step.tag) in
        ap length (filter-append (λ (step : Step C). passes (is_member n) step.tag) xs ys) ∙ length-append (tagged xs) (tagged ys)

    pub untagged_last_none : (steps : List (Step C)) → untagged_last n 0 steps ≡ steps
    untagged_last_none [] = refl
    untagged_last_none (step ∷ steps) =
        ap₂ (λ (b : Bool) (rest : List (Step C)). (if b then record step { tag = None } else step) ∷ rest)
        (ap (λ b. passes (is_member n) step.tag && b) (le-ltb (tagged_count n steps) 0 (omega arith)) ∙ and_right (passes (is_member n) step.tag) false refl)
        (untagged_last_none steps)

    -- later steps lose their tags first
    pub untagged_last-append : (c : ℕ) (xs ys : List (Step C))
        → untagged_last n c (xs ++ ys) ≡ untagged_last n (c - tagged_count n ys) xs ++ untagged_last n c ys
    untagged_last-append c [] ys = refl
    untagged_last-append c (step ∷ xs) ys =
        ap₂ (λ (b : Bool) (rest : List (Step C)). (if passes (is_member n) step.tag && b then record step { tag = None } else step) ∷ rest)
        (ap (λ m. nat_lt m c) (tagged_count-append xs ys) ∙ fewer (tagged_count n xs) (tagged_count n ys)) (untagged_last-append c xs ys)
      where
        fewer : (k m : ℕ) → nat_lt (k + m) c ≡ nat_lt k (c - m)
        fewer k m = ⊎_elim (λ lt. lt-ltb (k + m) c lt ∙ sym (lt-ltb k (c - m) (omega arith)))
            (λ le. le-ltb (k + m) c le ∙ sym (le-ltb k (c - m) (omega arith))) (cases_lt (k + m) c)

    pub length-untagged_last : (c : ℕ) (steps : List (Step C)) → length (untagged_last n c steps) ≡ length steps
    length-untagged_last c [] = refl
    length-untagged_last c (step ∷ steps) = ap suc (length-untagged_last c steps)
