-- Copies of a text run by run.
use Rattle.std.proofs.Common.{◌≡◌, ℕ, zero, suc, ◌+◌, ◌-◌, ◌≤◌, min, List, [], ◌∷◌, ◌++◌, length, take, drop, refl, ap, sym, ◌∙◌, append_assoc, arith}
use Rattle.std.proofs.lemmas.List.{length-take-le, take_at, take-append-le, take-append-drop, drop_at, drop-drop}
use Rattle.text_buffer.proofs.Spelling.{take-past, drop-past}

-- the front of two texts
take-both : (n : ℕ) (xs ys : List ℕ) → take n (xs ++ ys) ≡ take n xs ++ take (n - length xs) ys
take-both zero [] ys = refl
take-both (suc n) [] ys = let all : suc n ≡ suc n - length {A = ℕ} [] = omega arith in ap (λ (k : ℕ). take k ys) all
take-both zero (x ∷ xs) ys = let none : 0 ≡ 0 - length (x ∷ xs) = omega arith in ap (λ (k : ℕ). take k ys) none
take-both (suc n) (x ∷ xs) ys =
    let rest : n - length xs ≡ suc n - length (x ∷ xs) = omega arith in
    ap (λ s. x ∷ s) (take-both n xs ys) ∙ ap (λ (k : ℕ). x ∷ (take n xs ++ take k ys)) rest

-- a copy of two texts, of which the first goes first
pub copied : (old out whole xs ys : List ℕ) (most left : ℕ) → out ≡ old ++ take most xs → left ≡ most - min most (length xs) → old ++ take most (xs ++ ys) ≡ whole
    → out ++ take left ys ≡ whole
copied old out whole xs ys most left is count so_far =
    let rest : left ≡ most - length xs = omega (arith, count) in
    ap (λ s. s ++ take left ys) is ∙ append_assoc old (take most xs) (take left ys) ∙ ap (λ (k : ℕ). old ++ (take most xs ++ take k ys)) rest
    ∙ ap (λ s. old ++ s) (sym (take-both most xs ys)) ∙ so_far

-- the front of a text that was read, and the run behind it
module _ (whole run next : List ℕ) (done count : ℕ) (more : drop done whole ≡ run ++ next) (within : count ≤ length run) where
  next_front : done ≤ length whole → take (done + count) whole ≡ take done whole ++ take count run
  next_front there =
      let front : List ℕ = take done whole in
      let size = length-take-le done whole there in
      let left : done + count - done ≡ count = omega arith in
      ap (take (done + count)) (sym (take-append-drop done whole) ∙ ap (λ s. front ++ s) more)
      ∙ take-past (done + count) done front (run ++ next) (sym size) (omega arith)
      ∙ ap (λ (k : ℕ). front ++ take k (run ++ next)) left
      ∙ ap (λ s. front ++ s) (take-append-le count run next within)

  -- the run is read into the place behind what was read before
  pub read_more : (old out : List ℕ) → done ≤ length whole → out ≡ take done whole ++ drop done old
      → take done out ++ (take count run ++ drop (done + count) out) ≡ take (done + count) whole ++ drop (done + count) old
  read_more old out there read =
      let front : List ℕ = take done whole in
      let size = length-take-le done whole there in
      let left : done + count - done ≡ count = omega arith in
      let first : take done out ≡ front = ap (take done) read ∙ take_at front (drop done old) done size in
      let rest : drop (done + count) out ≡ drop (done + count) old =
      ap (drop (done + count)) read ∙ drop-past (done + count) done front (drop done old) (sym size) (omega arith)
      ∙ ap (λ (k : ℕ). drop k (drop done old)) left ∙ drop-drop count done old in
      ap (λ s. s ++ (take count run ++ drop (done + count) out)) first ∙ ap (λ s. front ++ (take count run ++ s)) rest
      ∙ sym (append_assoc front (take count run) (drop (done + count) old)) ∙ ap (λ s. s ++ drop (done + count) old) (sym (next_front there))

  -- a run that was read whole leaves what stands behind it
  pub read_rest : count ≡ length run → next ≡ drop (done + count) whole
  read_rest all = sym (sym (drop-drop count done whole) ∙ ap (drop count) more ∙ drop_at run next count (sym all))
