-- Laws of edits that are carried out one after another.
use Rattle.std.proofs.Common.{◌≡◌, ℕ, ◌+◌, ◌==◌, Bool, true, false, ◌&&◌, ◌||◌, if◌then◌else◌, List, [], ◌∷◌, ◌++◌, length, take, drop, nat_eq, refl, ap, ap₂, sym, subst, ◌∙◌, append_assoc, length-append, arith}
use Rattle.std.proofs.lemmas.Bool.{eqb-true, and_parts}
use Rattle.std.proofs.lemmas.List.{take_at, drop_at}
use Rattle.text_rules.specs.declared.Op.{Op}
use Rattle.text_rules.specs.Edits.{edited}
use Rattle.text_rules.specs.Lines.{Line, lines_of, line_length, line_feed, carriage_return, begins_with, in_first_line, in_first_break}
use Rattle.batch_rules.specs.Batches.{applied_from, StandFrom, edited_backwards}
use Rattle.batch_rules.proofs.Backwards.{backwards_is_one_pass}
use Rattle.bracket_rules.specs.Table.{same_units}
use Rattle.decoration_rules.specs.LineMoves.{HaveSameContents}
use Rattle.decoration_rules.proofs.Contents.{contents}
use Rattle.decoration_rules.proofs.LineMoves.{EndAsLines, lines_of-ends}
use Rattle.document_rules.specs.InTurn.{edited_in_turn, unforced, one_by_one, ending_edit, ending_edits_from, ending_edits}

pub in_turn-append : (x : List ℕ) (a b : List Op) → edited_in_turn x (a ++ b) ≡ edited_in_turn (edited_in_turn x a) b
in_turn-append x [] b = refl
in_turn-append x (op ∷ a) b = in_turn-append (edited x op) a b

-- ---- batches

one_by_one-backwards : (x : List ℕ) (ops : List Op) → edited_in_turn x (one_by_one ops) ≡ edited_backwards x ops
one_by_one-backwards x [] = refl
one_by_one-backwards x (op ∷ ops) =
    in_turn-append x (one_by_one ops) (unforced op ∷ []) ∙ ap (λ (y : List ℕ). edited y op) (one_by_one-backwards x ops)

-- the edits of a batch do what the batch does
pub one_by_one-text : (x : List ℕ) (ops : List Op) → StandFrom 0 x ops → edited_in_turn x (one_by_one ops) ≡ applied_from 0 x ops
one_by_one-text x ops standing = one_by_one-backwards x ops ∙ backwards_is_one_pass x ops standing

-- ---- the lines of a text, put together

abbrev pub text_of_lines : List Line → List ℕ
text_of_lines [] = []
text_of_lines (line ∷ lines) = line.content ++ (line.break ++ text_of_lines lines)

-- an LF that a CR stands before
together_pair : (u : ℕ) (after : List ℕ) → begins_with line_feed after ≡ true → text_of_lines (lines_of after) ≡ after
    → text_of_lines (in_first_break u (lines_of after)) ≡ u ∷ after
together_pair u [] begins same = absurd cc
together_pair u (v ∷ after) begins same =
    let feed : v ≡ line_feed = eqb-true v line_feed begins in
    subst (λ (w : ℕ). text_of_lines (lines_of (w ∷ after)) ≡ w ∷ after → text_of_lines (in_first_break u (lines_of (w ∷ after))) ≡ u ∷ w ∷ after)
    (sym feed) (λ same. ap (λ (x : List ℕ). u ∷ x) same) same

together_first : (u : ℕ) (lines : List Line) → EndAsLines lines → text_of_lines (in_first_line u lines) ≡ u ∷ text_of_lines lines
together_first u [] ends = absurd ends
together_first u (line ∷ lines) ends = refl

together_step : (u : ℕ) (returns joined ends : Bool) (after : List ℕ) → begins_with line_feed after ≡ joined → text_of_lines (lines_of after) ≡ after
    → text_of_lines (if returns && joined then in_first_break u (lines_of after) else
    (if ends then record { content = []; break = u ∷ [] } ∷ lines_of after else in_first_line u (lines_of after)))
    ≡ u ∷ after
together_step u true true ends after begins same = together_pair u after begins same
together_step u true false true after begins same = ap (λ (x : List ℕ). u ∷ x) same
together_step u true false false after begins same = together_first u (lines_of after) (lines_of-ends after) ∙ ap (λ (x : List ℕ). u ∷ x) same
together_step u false joined true after begins same = ap (λ (x : List ℕ). u ∷ x) same
together_step u false joined false after begins same = together_first u (lines_of after) (lines_of-ends after) ∙ ap (λ (x : List ℕ). u ∷ x) same

-- they are the text
pub lines_together : (x : List ℕ) → text_of_lines (lines_of x) ≡ x
lines_together [] = refl
lines_together (u ∷ after) =
    together_step u (u == carriage_return) (begins_with line_feed after) (u == carriage_return || u == line_feed) after refl (lines_together after)

-- ---- line endings

pub same_units-true : (x y : List ℕ) → same_units x y ≡ true → x ≡ y
same_units-true [] [] same = refl
same_units-true [] (v ∷ y) same = absurd cc
same_units-true (u ∷ x) [] same = absurd cc
same_units-true (u ∷ x) (v ∷ y) same =
    let parts = and_parts (nat_eq u v) (same_units x y) same in
    let first : u ≡ v = eqb-true u v parts.0 in
    ap₂ (λ (w : ℕ) (z : List ℕ). w ∷ z) first (same_units-true x y parts.1)

-- between two texts an ending becomes the other one
ending_edit-text : (front old new back : List ℕ) (same : Bool) → same_units old new ≡ same
    → edited_in_turn (front ++ (old ++ back)) (ending_edit (length front) old new) ≡ front ++ (new ++ back)
ending_edit-text front old new back true same =
    rw same (ap (λ (z : List ℕ). front ++ (z ++ back)) (same_units-true old new same))
ending_edit-text front old new back false same =
    let kept : take (length front) (front ++ (old ++ back)) ≡ front = take_at front (old ++ back) (length front) refl in
    let behind : drop (length front + length old) (front ++ (old ++ back)) ≡ back =
    ap (drop (length front + length old)) (sym (append_assoc front old back)) ∙ drop_at (front ++ old) back (length front + length old) (length-append front old) in
    rw (same, kept, behind) (append_assoc front new back)

ending_edits_from-text : (front : List ℕ) (lines others : List Line) → contents lines ≡ contents others
    → edited_in_turn (front ++ text_of_lines lines) (ending_edits_from (length front) lines others) ≡ front ++ text_of_lines others
ending_edits_from-text front [] [] same = refl
ending_edits_from-text front [] (other ∷ others) same = absurd cc
ending_edits_from-text front (line ∷ lines) [] same = absurd cc
ending_edits_from-text front (line ∷ lines) (other ∷ others) same =
    let content : line.content ≡ other.content = cc in
    let rest : contents lines ≡ contents others = cc in
    let before : List ℕ = front ++ line.content in
    let whole : List ℕ = before ++ line.break in
    let at : length before ≡ length front + length line.content = length-append front line.content in
    let end : length whole ≡ length front + line_length line = omega (arith, at, length-append before line.break) in
    let cut : (z : List ℕ) → front ++ (line.content ++ (line.break ++ z)) ≡ whole ++ z =
    λ z. sym (append_assoc front line.content (line.break ++ z)) ∙ sym (append_assoc before line.break z) in
    let later : edited_in_turn (whole ++ text_of_lines lines) (ending_edits_from (length front + line_length line) lines others)
    ≡ before ++ (line.break ++ text_of_lines others) =
    ap (λ (n : ℕ). edited_in_turn (whole ++ text_of_lines lines) (ending_edits_from n lines others)) (sym end)
    ∙ ending_edits_from-text whole lines others rest ∙ append_assoc before line.break (text_of_lines others) in
    let this : edited_in_turn (before ++ (line.break ++ text_of_lines others)) (ending_edit (length front + length line.content) line.break other.break)
    ≡ before ++ (other.break ++ text_of_lines others) =
    ap (λ (n : ℕ). edited_in_turn (before ++ (line.break ++ text_of_lines others)) (ending_edit n line.break other.break)) (sym at)
    ∙ ending_edit-text before line.break other.break (text_of_lines others) _ refl in
    rw (cut (text_of_lines lines), in_turn-append, later, this)
    (append_assoc front line.content (other.break ++ text_of_lines others)
    ∙ ap (λ (z : List ℕ). front ++ (z ++ (other.break ++ text_of_lines others))) content)

-- the edits of the endings lead from the one text to the other
pub ending_edits-text : (x y : List ℕ) → HaveSameContents x y → edited_in_turn x (ending_edits x y) ≡ y
ending_edits-text x y same =
    ap (λ (z : List ℕ). edited_in_turn z (ending_edits x y)) (sym (lines_together x))
    ∙ ending_edits_from-text [] (lines_of x) (lines_of y) same ∙ lines_together y
