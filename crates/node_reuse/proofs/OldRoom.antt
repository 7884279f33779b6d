-- A node or bracket found in an old tree ends at a place that fits 64 bits.
use Rattle.std.proofs.Common.{◌≡◌, ℕ, zero, suc, ◌+◌, ◌<◌, ◌≤◌, ◌^◌, inl, inr, false, true, cond, eqb, Option, Some, None, List, [], ◌∷◌, ◌++◌, length, ap, sym, subst, arith}
use Rattle.std.specs.Prelude.{IfSome}
use Rattle.std.proofs.lemmas.Grind.{common_steps}
use Rattle.text_lengths.specs.declared.Length.{Length}
use Rattle.text_lengths.specs.Length.{no_length, length_plus}
use Rattle.bracket_rules.specs.declared.Token.{Token}
use Rattle.bracket_rules.specs.Parse.{Bracket, bracket}
use Rattle.bracket_tree_rules.specs.Tree.{Tree, text, pair, stray, capped, nothing, two, three, wide, width_of, tree_length, tree_tokens, closing_brackets, inside_start, inside_end, weight}
use Rattle.bracket_tree_rules.specs.Places.{HasNode, IsHere, HasBracket, IsAmong, IsLongest, lines_touched}
use Rattle.bracket_tree_rules.specs.Found.{IsTokenAt}
use Rattle.bracket_tree_rules.proofs.Places.{IsAmong-append}
use Rattle.bracket_tree_rules.proofs.Weights.{units_of, plus_within, length_within}
use Rattle.mark_rules.specs.declared.Mark.{Mark}
use Rattle.mark_rules.specs.declared.Mark.TheVariants.{Kept, New}
use Rattle.mark_rules.specs.Marks.{numbered, kept_run}
use Rattle.bracket_nodes.specs.declared.find.NodeRef.{NodeRef}
use Rattle.bracket_nodes.specs.Borrowed.{node_of}
use Rattle.node_reuse.specs.OldText.{IsOldPlace, Fits64}

-- ---- within a tree

here_within : (p : Length) (t : Tree) (q : Length) (n : Tree) → IsHere p t q n → units_of q + weight n ≤ units_of p + weight t
here_within p t q n h =
    let place : units_of q ≡ units_of p = ap units_of h.place in
    let node : weight n ≡ weight t = ap weight h.node in
    omega arith

-- no node ends after its tree
node_within : (p : Length) (t : Tree) (q : Length) (n : Tree) → HasNode p t q n → units_of q + weight n ≤ units_of p + weight t
node_within p (text l) q n h = here_within p (text l) q n h
node_within p (pair k o i c) q n (inl h) = here_within p (pair k o i c) q n h
node_within p (pair k o i c) q n (inr h) =
    let inside = node_within (inside_start p o) i q n h in
    let start = plus_within p (wide o) in
    omega arith
node_within p (stray k w) q n h = here_within p (stray k w) q n h
node_within p (capped k w) q n h = here_within p (capped k w) q n h
node_within p nothing q n h = here_within p nothing q n h
node_within p (two a b) q n (inl h) = here_within p (two a b) q n h
node_within p (two a b) q n (inr (inl h)) = let first = node_within p a q n h in omega arith
node_within p (two a b) q n (inr (inr h)) =
    let second = node_within (length_plus p (tree_length a)) b q n h in
    let start = plus_within p (tree_length a) in
    let first = length_within a in
    omega arith
node_within p (three a b c) q n (inl h) = here_within p (three a b c) q n h
node_within p (three a b c) q n (inr (inl h)) = let first = node_within p a q n h in omega arith
node_within p (three a b c) q n (inr (inr (inl h))) =
    let second = node_within (length_plus p (tree_length a)) b q n h in
    let start = plus_within p (tree_length a) in
    let first = length_within a in
    omega arith
node_within p (three a b c) q n (inr (inr (inr h))) =
    let third = node_within (length_plus (length_plus p (tree_length a)) (tree_length b)) c q n h in
    let start = plus_within p (tree_length a) in
    let next = plus_within (length_plus p (tree_length a)) (tree_length b) in
    let first = length_within a in
    let second = length_within b in
    omega arith

only_within : (p : Length) (b first : Bracket) (w : ℕ) → units_of first.place + first.len ≤ w → IsAmong b (first ∷ []) → units_of b.place + b.len ≤ w
only_within p b first w h (inl e) = subst (λ (x : Bracket). units_of x.place + x.len ≤ w) (sym e) h
only_within p b first w h (inr e) = elim e [ ]

closing_within : (p : Length) (k : ℕ) (c : Option ℕ) (b : Bracket) → IsAmong b (closing_brackets p k c) → units_of b.place + b.len ≤ units_of p + width_of c
closing_within p k None b h = elim h [ ]
closing_within p k (Some w) b h = only_within p b (bracket p w k false) (units_of p + w) (omega arith) h

-- no bracket ends after its tree
bracket_within : (p : Length) (t : Tree) (b : Bracket) → HasBracket p t b → units_of b.place + b.len ≤ units_of p + weight t
bracket_within p (text l) b h = elim h [ ]
bracket_within p (pair k o i c) b (inl e) =
    let whole : units_of b.place + b.len ≡ units_of p + o = ap (λ (x : Bracket). units_of x.place + x.len) e in
    omega arith
bracket_within p (pair k o i c) b (inr h) =
    let start = plus_within p (wide o) in
    let end = plus_within (inside_start p o) (tree_length i) in
    let inside = length_within i in
    elim (IsAmong-append b (tree_tokens (inside_start p o) i) (closing_brackets (inside_end p o i) k c) h) [
      | inl within ↦ omega (arith, bracket_within (inside_start p o) i b within)
      | inr closing ↦ omega (arith, closing_within (inside_end p o i) k c b closing)
    ]
bracket_within p (stray k w) b h = only_within p b (bracket p w k false) (units_of p + w) (omega arith) h
bracket_within p (capped k w) b h = only_within p b (bracket p w k true) (units_of p + w) (omega arith) h
bracket_within p nothing b h = elim h [ ]
bracket_within p (two x y) b h =
    let m = length_plus p (tree_length x) in
    let start = plus_within p (tree_length x) in
    let first = length_within x in
    elim (IsAmong-append b (tree_tokens p x) (tree_tokens m y) h) [
      | inl within ↦ omega (arith, bracket_within p x b within)
      | inr behind ↦ omega (arith, bracket_within m y b behind)
    ]
bracket_within p (three x y z) b h =
    let m = length_plus p (tree_length x) in
    let n = length_plus m (tree_length y) in
    let start = plus_within p (tree_length x) in
    let next = plus_within m (tree_length y) in
    let first = length_within x in
    let second = length_within y in
    elim (IsAmong-append b (tree_tokens p x) (tree_tokens m y ++ tree_tokens n z) h) [
      | inl within ↦ omega (arith, bracket_within p x b within)
      | inr rest ↦ elim (IsAmong-append b (tree_tokens m y) (tree_tokens n z) rest) [
        | inl behind ↦ omega (arith, bracket_within m y b behind)
        | inr last ↦ omega (arith, bracket_within n z b last)
      ]
    ]

-- ---- within a run

numbered_within : (number : ℕ) (marks : List Mark) → numbered number marks ≤ length marks
numbered_within number [] = omega arith
numbered_within number (New ∷ marks) = omega arith
numbered_within number (Kept i ∷ marks) =
    let rest = numbered_within (suc number) marks in
    either (eqb i number) rest
  where
    either : (b : _) → numbered (suc number) marks ≤ length marks → cond b (suc (numbered (suc number) marks)) 0 ≤ suc (length marks)
    either true h = omega arith
    either false h = omega arith

pub run_within : (marks : List Mark) → kept_run marks ≤ length marks
run_within [] = omega arith
run_within (New ∷ marks) = omega arith
run_within (Kept i ∷ marks) = omega (arith, numbered_within (suc i) marks)

touched_lines : (lines columns run : ℕ) → lines_touched lines columns ≤ run → lines ≤ run
touched_lines lines zero run h = h
touched_lines lines (suc columns) run h = omega arith

-- ---- where a node or a bracket of an old tree ends

plus_columns : (p l : Length) → (length_plus p l).columns ≤ p.columns + l.columns
plus_columns p l = grind (arith, common_steps)

node_fits : (t : Tree) (p q : Length) (run kinds level : ℕ) (n : Tree) → q.columns ≡ p.columns → weight t < 2 ^ 64 → p.lines + run < 2 ^ 64
    → IsLongest no_length t q run kinds level n → Fits64 (length_plus p (tree_length n))
node_fits t p q run kinds level n column light count l =
    let ends = node_within no_length t q n l.stands in
    let node = length_within n in
    let columns = plus_columns p (tree_length n) in
    let lines = touched_lines (tree_length n).lines (tree_length n).columns run l.taken.within in
    record { lines = omega arith; columns = omega arith }

token_fits : (t : Tree) (p q : Length) (found : Token) → q.columns ≡ p.columns → weight t < 2 ^ 64 → IsTokenAt no_length t q found
    → p.columns + found.len < 2 ^ 64
token_fits t p q found column light h =
    let ends = bracket_within no_length t (bracket q found.len found.kind found.opening) h.stands in
    omega arith

pub node_fits_if : (t : Tree) (marks : List Mark) (p q : Length) (run kinds level : ℕ) (found : Option NodeRef) → IsOldPlace marks p q
    → weight t < 2 ^ 64 → p.lines + run < 2 ^ 64 → IfSome found (λ n. IsLongest no_length t q run kinds level (node_of n))
    → IfSome found (λ n. Fits64 (length_plus p (tree_length (node_of n))))
node_fits_if t marks p q run kinds level None o light count l = tt
node_fits_if t marks p q run kinds level (Some n) o light count l = node_fits t p q run kinds level (node_of n) o.column light count l

pub token_fits_if : (t : Tree) (marks : List Mark) (p q : Length) (found : Option Token) → IsOldPlace marks p q → weight t < 2 ^ 64
    → IfSome found (IsTokenAt no_length t q) → IfSome found (λ token. p.columns + token.len < 2 ^ 64)
token_fits_if t marks p q None o light h = tt
token_fits_if t marks p q (Some found) o light h = token_fits t p q found o.column light h
