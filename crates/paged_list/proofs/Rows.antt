-- Removal of one slot from a row of slots, and insertion of another in its place. Assumes `Logic`.
use Rattle.paged_list.proofs.Steps.{◌≡◌, ℕ, zero, suc, ◌+◌, ◌*◌, ◌<◌, ◌≤◌, ◌^◌, List, [], ◌∷◌, length, get_or, set, Option, Some, None, refl, sym, arith, zero-mul, suc-mul, mul-le-mul_right, Ura, Fml, Lft, ftrue, fsep, ent, sep, ‵, ◌⊛◌, ◌$◌, ◌∵◌, !, qed, done, drop, keep, move, rewrite, split, fsplit, fjoin, use1, use2, Logic, sem}
use Rattle.paged_list.specs.Slots.{in_a_row, seen_in_a_row}

first_place : (s n : ℕ) → n ≡ 0 * s + n
first_place s n = omega (arith, zero-mul s)

next_place : (i s n : ℕ) → i * s + (n + s) ≡ suc i * s + n
next_place i s n = omega (arith, suc-mul i s)

pub step_down : (i m s : ℕ) → i < m → m * s < 2 ^ 63 → (s < 2 ^ 64) × (i * s < 2 ^ 64)
step_down i m s lt few = let more : suc i * s ≤ m * s = mul-le-mul_right s lt in (omega (arith, more, few, suc-mul i s), omega (arith, more, few, suc-mul i s))

pub within : {X : Type 0} (cs : List (Option X)) (i : ℕ) (x : X) → get_or cs i None ≡ Some x → i < length cs
within [] i x e = cc
within (c ∷ cs) zero x e = omega arith
within (c ∷ cs) (suc i) x e = let shorter = within cs i x e in omega (arith, shorter)

module _ {X : Type 0} (s : ℕ) (slot : Option X → ℕ → Fml) where
  -- the row without the slot at the index
  abbrev pub but_one : ℕ → List (Option X) → ℕ → Fml
  but_one i [] n = ftrue
  but_one zero (c ∷ cs) n = in_a_row s slot cs (n + s)
  but_one (suc i) (c ∷ cs) n = fsep (slot c n) (but_one i cs (n + s))

  module _ {M : Type 1} {𝓤 : Ura M} (𝓛 : Logic 𝓤) where
    pub take_out : (i : ℕ) (cs : List (Option X)) (n : ℕ) → i < length cs
        → ent 𝓤 (sem 𝓛 (in_a_row s slot cs n)) (sep 𝓤 (sem 𝓛 (slot (get_or cs i None) (i * s + n))) (sem 𝓛 (but_one i cs n)))
    take_out i [] n lt = absurd (omega arith)
    take_out zero (c ∷ cs) n lt = qed 𝓛 (‵ (in_a_row s slot (c ∷ cs) n) ∷ []) ∵ fsplit ! $ rewrite ! 0 (λ (k : ℕ). ‵ (slot c k)) (first_place s n) refl $ done !
    take_out (suc i) (c ∷ cs) n lt =
        let found : Option X = get_or cs i None in
        qed 𝓛 (‵ (in_a_row s slot (c ∷ cs) n) ∷ []) ∵ fsplit ! $ move ! (1 ∷ []) $
        use1 𝓛 (‵ (slot found (i * s + (n + s))) ⊛ ‵ (but_one i cs (n + s))) (take_out i cs (n + s) (omega arith)) $ split ! $
        rewrite ! 0 (λ (k : ℕ). ‵ (slot found k)) (next_place i s n) refl $ move ! (2 ∷ 1 ∷ []) $ fjoin ! $ move ! (1 ∷ 0 ∷ []) $ done !

    pub put_in : (i : ℕ) (cs : List (Option X)) (n : ℕ) → i < length cs → (d : Option X)
        → ent 𝓤 (sep 𝓤 (sem 𝓛 (slot d (i * s + n))) (sem 𝓛 (but_one i cs n))) (sem 𝓛 (in_a_row s slot (set cs i d) n))
    put_in i [] n lt d = absurd (omega arith)
    put_in zero (c ∷ cs) n lt d =
        qed 𝓛 (‵ (slot d (0 * s + n)) ∷ ‵ (but_one 0 (c ∷ cs) n) ∷ []) ∵ rewrite ! 0 (λ (k : ℕ). ‵ (slot d k)) (sym (first_place s n)) refl $ fjoin ! $ done !
    put_in (suc i) (c ∷ cs) n lt d =
        qed 𝓛 (‵ (slot d (suc i * s + n)) ∷ ‵ (but_one (suc i) (c ∷ cs) n) ∷ []) ∵ rewrite ! 0 (λ (k : ℕ). ‵ (slot d k)) (sym (next_place i s n)) refl $
        move ! (1 ∷ []) $ fsplit ! $ move ! (2 ∷ 1 ∷ []) $ use2 𝓛 (‵ (in_a_row s slot (set cs i d) (n + s))) (put_in i cs (n + s) (omega arith) d) $
        move ! (1 ∷ 0 ∷ []) $ fjoin ! $ done !

module _ {X : Type 0} (s : ℕ) (seen : Option X → ℕ → Lft → Fml) (κ : Lft) {M : Type 1} {𝓤 : Ura M} (𝓛 : Logic 𝓤) where
  -- if a row is shown, so is the slot at the index
  pub look_up : (i : ℕ) (cs : List (Option X)) (n : ℕ) → i < length cs → ent 𝓤 (sem 𝓛 (seen_in_a_row s seen cs n κ)) (sem 𝓛 (seen (get_or cs i None) (i * s + n) κ))
  look_up i [] n lt = absurd (omega arith)
  look_up zero (c ∷ cs) n lt = qed 𝓛 (‵ (seen_in_a_row s seen (c ∷ cs) n κ) ∷ []) ∵ fsplit ! $ rewrite ! 0 (λ (k : ℕ). ‵ (seen c k κ)) (first_place s n) refl $ keep ! (0 ∷ []) $ done !
  look_up (suc i) (c ∷ cs) n lt =
      let found : Option X = get_or cs i None in
      qed 𝓛 (‵ (seen_in_a_row s seen (c ∷ cs) n κ) ∷ []) ∵ fsplit ! $ drop ! $
      use1 𝓛 (‵ (seen found (i * s + (n + s)) κ)) (look_up i cs (n + s) (omega arith)) $ rewrite ! 0 (λ (k : ℕ). ‵ (seen found k κ)) (next_place i s n) refl $ done !
