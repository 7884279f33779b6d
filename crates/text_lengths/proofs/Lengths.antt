-- The algebra of lengths: adding them is associative, has a unit and can be undone from the left.
use Rattle.std.proofs.Common.{◌≡◌, ℕ, ◌∙◌, ap, arith}
use Rattle.std.proofs.lemmas.Grind.{common_steps}
use Rattle.text_lengths.specs.declared.Length.{Length}
use Rattle.text_lengths.specs.Length.{length_of, no_length, length_plus}

-- two lengths with the same lines and columns are equal
pub same_length : (l m : Length) → l.lines ≡ m.lines → l.columns ≡ m.columns → l ≡ m
same_length l m same_lines same_columns =
    let with_lines : ℕ → Length = λ n. length_of n l.columns in
    ap with_lines same_lines ∙ ap (length_of m.lines) same_columns

pub plus_none : (a : Length) → length_plus a no_length ≡ a
plus_none a = same_length _ _ (grind (arith, common_steps)) (grind (arith, common_steps))

pub none_plus : (a : Length) → length_plus no_length a ≡ a
none_plus a = same_length _ _ (grind (arith, common_steps)) (grind (arith, common_steps))

pub length_plus_assoc : (a b c : Length) → length_plus (length_plus a b) c ≡ length_plus a (length_plus b c)
length_plus_assoc a b c = same_length _ _ (grind (arith, common_steps)) (grind (arith, common_steps))

pub length_plus_cancel : (a b c : Length) → length_plus a b ≡ length_plus a c → b ≡ c
length_plus_cancel a b c e =
    let lines : (length_plus a b).lines ≡ (length_plus a c).lines = ap (λ (l : Length). l.lines) e in
    let columns : (length_plus a b).columns ≡ (length_plus a c).columns = ap (λ (l : Length). l.columns) e in
    same_length b c (omega arith) (grind (arith, common_steps))
