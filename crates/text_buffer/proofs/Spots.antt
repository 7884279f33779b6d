-- What stands on both sides of a place of the text.
use Rattle.std.proofs.Common.{◌≡◌, ℕ, ◌+◌, ◌-◌, ◌≤◌, ◌&&◌, Bool, true, false, Option, Some, None, List, [], ◌∷◌, ◌++◌, length, take, drop, refl, ap, sym, ◌∙◌, append_assoc, arith}
use Rattle.std.specs.Prelude.{not}
use Rattle.std.proofs.lemmas.Bool.{le-leb}
use Rattle.std.proofs.lemmas.List.{length-take-le, take-take, take-append-drop}
use Rattle.chunk_buffers.specs.Chunks.{Shown}
use Rattle.piece_tree.specs.declared.piece.Found.{Found}
use Rattle.piece_tree.specs.Pieces.{Pieces, pieces_of, StandsAt}
use Rattle.text_rules.specs.Lines.{line_feed, carriage_return, begins_with}
use Rattle.text_rules.specs.Breaks.{ends_with, joins_pair, count_to, break_ends}
use Rattle.text_rules.proofs.Breaks.{and_false, break_ends-append, count_to_all, count_to_none, count_to-append}
use Rattle.text_buffer.specs.Text.{one_if, units_from, IsText}
use Rattle.text_buffer.proofs.Replacing.{ends_with_split, ends_with_some}
use Rattle.text_buffer.proofs.Spelling.{length-spelled}
use Rattle.text_buffer.proofs.Found.{found_reach}

-- the breaks up to a place behind the first text, where no pair lies across the two
count_parts : (y z : List ℕ) (place : ℕ) → joins_pair y z ≡ false → length y ≤ place
    → count_to place (break_ends 0 (y ++ z)) ≡ length (break_ends 0 y) + count_to place (break_ends (0 + length y) z)
count_parts y z place apart behind =
    ap (count_to place) (break_ends-append 0 y z apart)
    ∙ count_to-append place (break_ends 0 y) (break_ends (0 + length y) z) (count_to_all 0 place y (omega arith))

-- whether the break of a CR ends right behind it
count_return : (z : List ℕ) (at place : ℕ) (feed : Bool) → feed ≡ begins_with line_feed z → place ≡ at + 1
    → count_to place (break_ends at (carriage_return ∷ z)) ≡ one_if (not feed)
count_return z at place true e p = rw (sym e) (count_to_none (at + 1) place z (omega arith))
count_return z at place false e p = let none = count_to_none (at + 1) place z (omega arith) in rw (sym e, le-leb (at + 1) place (omega arith), none) refl

-- a text around a CR
return_before : (x : List ℕ) (place : ℕ) → place ≤ length x → ends_with carriage_return (take place x) ≡ true → x ≡ take (place - 1) x ++ carriage_return ∷ drop place x
return_before x place within e =
    let front : List ℕ = take place x in
    let size = length-take-le place x within in
    let last : length front - 1 ≡ place - 1 = omega (arith, size) in
    let split : front ≡ take (place - 1) x ++ carriage_return ∷ [] =
    ends_with_split carriage_return front e ∙ ap (λ s. s ++ carriage_return ∷ []) (ap (λ (n : ℕ). take n front) last ∙ take-take (place - 1) place x (omega arith)) in
    sym (take-append-drop place x) ∙ ap (λ s. s ++ drop place x) split ∙ append_assoc (take (place - 1) x) (carriage_return ∷ []) (drop place x)

-- the breaks up to a place, and those up to a CR right before it
pub count_before : (x : List ℕ) (place : ℕ) (after feed : Bool) → place ≤ length x → after ≡ ends_with carriage_return (take place x)
    → feed ≡ begins_with line_feed (drop place x)
    → count_to place (break_ends 0 x) ≡ count_to (place - one_if after) (break_ends 0 x) + one_if (after && not feed)
count_before x place false feed within a f = omega (arith, ap (λ (n : ℕ). count_to n (break_ends 0 x)) (let same : place - 0 ≡ place = omega arith in same))
count_before x place true feed within a f =
    let size = length-take-le place x within in
    let some = ends_with_some carriage_return (take place x) (sym a) in
    let y : List ℕ = take (place - 1) x in
    let z : List ℕ = carriage_return ∷ drop place x in
    let whole : x ≡ y ++ z = return_before x place within (sym a) in
    let apart : joins_pair y z ≡ false = and_false (ends_with carriage_return y) in
    let long : length y ≡ place - 1 = length-take-le (place - 1) x (omega (arith, within)) in
    let here = ap (λ t. count_to place (break_ends 0 t)) whole ∙ count_parts y z place apart (omega (arith, long)) in
    let before = ap (λ t. count_to (place - 1) (break_ends 0 t)) whole ∙ count_parts y z (place - 1) apart (omega (arith, long)) in
    let none = count_to_none (0 + length y) (place - 1) z (omega (arith, long)) in
    let own = count_return (drop place x) (0 + length y) place feed f (omega (arith, long, some, size)) in
    omega (arith, here, before, none, own)

-- a place that was looked up is one of the text
pub spot_within : (tree : Pieces) (chunks : Shown) (at : Option Found) (offset : ℕ) → IsText tree chunks → StandsAt tree.entries at offset
    → offset ≤ length (units_from tree chunks)
spot_within tree chunks None offset is here = omega (arith, here, length-spelled chunks.buffers (pieces_of tree.entries) is.pieces)
spot_within tree chunks (Some found) offset is here =
    omega (arith, here.end, found_reach chunks.buffers tree.entries found here.piece is.pieces)
