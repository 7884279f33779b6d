-- A part of the elements at the front of a block is replaced by others.
use Rattle.std.proofs.Common.{◌≡◌, ℕ, ◌+◌, ◌-◌, ◌≤◌, List, ◌++◌, length, take, drop, sym, ap, ◌∙◌, arith, append_assoc}
use Rattle.std.specs.List.{copy_within}
use Rattle.std.proofs.lemmas.List.{take-append-drop, take-take, drop-take, take_at, drop_at, length-take-le, length-drop}
use Rattle.std.proofs.lemmas.List.Edits.{length-paste}
use Rattle.std.proofs.lemmas.Slice.{take-put_mid, drop-put_mid}
use borrow.Rule.Slice.PartMut.{put_mid}

take-add : {X : Type 0} (n m : ℕ) (xs : List X) → take (n + m) xs ≡ take n xs ++ take m (drop n xs)
take-add n m xs =
    sym (take-append-drop n (take (n + m) xs)) ∙ ap (λ l. l ++ drop n (take (n + m) xs)) (take-take n (n + m) xs (omega arith))
    ∙ ap (λ l. take n xs ++ l) (drop-take n m xs)

module _ {X : Type 0} (from to count : ℕ) (block with : List X) (ordered : from ≤ to) (within : to ≤ count) (few : count ≤ length block)
    (fits : from + length with + (count - to) ≤ length block) where
  -- the block after the elements behind the part are moved
  abbrev moved : List X
  moved = copy_within block to count (from + length with)

  shape : moved ≡ take (from + length with) block ++ (take (count - to) (drop to block) ++ drop (from + length with + (count - to)) block)
  shape = append_assoc (take (from + length with) block) (take (count - to) (drop to block)) (drop (from + length with + (count - to)) block)

  front : length (take (from + length with) block) ≡ from + length with
  front = length-take-le (from + length with) block (omega arith)

  size : length (take (count - to) (drop to block)) ≡ count - to
  size = length-take-le (count - to) (drop to block) (omega (arith, length-drop to block))

  moved_front : take from moved ≡ take from block
  moved_front =
      sym (take-take from (from + length with) moved (omega arith)) ∙ ap (λ l. take from (take (from + length with) l)) shape
      ∙ ap (take from) (take_at (take (from + length with) block) _ (from + length with) front) ∙ take-take from (from + length with) block (omega arith)

  moved_behind : take (count - to) (drop (from + length with) moved) ≡ take (count - to) (drop to block)
  moved_behind =
      ap (λ l. take (count - to) (drop (from + length with) l)) shape
      ∙ ap (take (count - to)) (drop_at (take (from + length with) block) _ (from + length with) front)
      ∙ take_at (take (count - to) (drop to block)) _ (count - to) size

  long : length moved ≡ length block
  long = length-paste block (from + length with) (drop to block) (count - to) (omega arith) (omega (arith, length-drop to block))

  pub replaced_is : (k : ℕ) → k ≡ length with
      → take (from + length with + (count - to)) (put_mid from k moved with) ≡ take from (take count block) ++ with ++ drop to (take count block)
  replaced_is k same =
      let rest : to + (count - to) ≡ count = omega arith in
      let before = take-put_mid from k moved with (from + length with) (omega arith) (omega (arith, long)) in
      let after = drop-put_mid from k moved with (from + length with) (omega (arith, same)) (omega (arith, long)) (omega (arith, same)) in
      take-add (from + length with) (count - to) (put_mid from k moved with)
      ∙ ap (λ l. l ++ take (count - to) (drop (from + length with) (put_mid from k moved with))) (before ∙ ap (λ l. l ++ with) (moved_front ∙ sym (take-take from count block (omega arith))))
      ∙ ap (λ l. take from (take count block) ++ with ++ l)
      (ap (take (count - to)) after ∙ moved_behind ∙ sym (drop-take to (count - to) block) ∙ ap (λ n. drop to (take n block)) rest)
