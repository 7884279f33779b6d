-- Laws of lines in two parts: the outcome of both is that of the first, followed by that of the second.
use Rattle.std.proofs.Common.{◌≡◌, ℕ, zero, suc, ◌+◌, Bool, true, false, List, [], ◌∷◌, ◌++◌, length, take, drop, refl, ap, ◌∙◌, Option, arith}
use Rattle.mark_rules.specs.declared.Mark.{Mark}
use Rattle.hiding_rules.specs.declared.LineState.{LineState}
use Rattle.hiding_rules.specs.Hidden.{Scanner, hidden_scan}
use Rattle.hiding_rules.specs.States.{states_from}
use Rattle.hiding_rules.specs.Known.{Known, state_behind, is_scanned, scanned_lines, numbered_if, Lead}
use Rattle.line_states.specs.Settling.{Borders, settled_mark, settled_marks}

pub length-states_from : (by : Scanner) (state : LineState) (lines : List (List ℕ)) → length (states_from by state lines) ≡ length lines
length-states_from by state [] = refl
length-states_from by state (x ∷ lines) = ap suc (length-states_from by (hidden_scan by state x).state lines)

pub state_behind-append : (by : Scanner) (state : LineState) (first second : List (List ℕ))
    → state_behind by state (first ++ second) ≡ state_behind by (state_behind by state first) second
state_behind-append by state [] second = refl
state_behind-append by state (x ∷ first) second = state_behind-append by (hidden_scan by state x).state first second

pub settled_marks-append : (last : Borders) (first second : List Mark) (states others : List LineState) → length first ≡ length states
    → settled_marks last (first ++ second) (states ++ others) ≡ settled_marks last first states ++ settled_marks last second others
settled_marks-append last [] second [] others e = refl
settled_marks-append last [] second (s ∷ states) others e = absurd cc
settled_marks-append last (m ∷ first) second [] others e = absurd cc
settled_marks-append last (m ∷ first) second (s ∷ states) others e =
    ap (λ marks. settled_mark last m s ∷ marks) (settled_marks-append last first second states others (omega (arith, e)))

numbered_if-append : (b : Bool) (n : ℕ) (lines others : List ℕ) → numbered_if b n (lines ++ others) ≡ numbered_if b n lines ++ others
numbered_if-append true n lines others = refl
numbered_if-append false n lines others = refl

pub scanned_lines-append : (n : ℕ) (first second : List (Option Known)) (states others : List LineState) → length first ≡ length states
    → scanned_lines n (first ++ second) (states ++ others) ≡ scanned_lines n first states ++ scanned_lines (n + length first) second others
scanned_lines-append n [] second [] others e = ap (λ m. scanned_lines m second others) (omega arith)
scanned_lines-append n [] second (s ∷ states) others e = absurd cc
scanned_lines-append n (k ∷ first) second [] others e = absurd cc
scanned_lines-append n (k ∷ first) second (s ∷ states) others e =
    let rest = scanned_lines-append (suc n) first second states others (omega (arith, e)) in
    let number : suc n + length first ≡ n + suc (length first) = omega arith in
    ap (numbered_if (is_scanned k s) n) (rest ∙ ap (λ m. scanned_lines (suc n) first states ++ scanned_lines m second others) number)
    ∙ numbered_if-append (is_scanned k s) n (scanned_lines (suc n) first states) (scanned_lines (n + suc (length first)) second others)

-- ---- lines that lead where they led

pub Lead-drop : (by : Scanner) (n : ℕ) (known : List (Option Known)) (lines : List (List ℕ)) → Lead by known lines → Lead by (drop n known) (drop n lines)
Lead-drop by zero known lines lead = lead
Lead-drop by (suc n) [] lines lead = tt
Lead-drop by (suc n) (k ∷ known) [] lead = leads_nowhere (drop n known)
  where
    leads_nowhere : (ks : List (Option Known)) → Lead by ks []
    leads_nowhere [] = tt
    leads_nowhere (k ∷ ks) = tt
Lead-drop by (suc n) (k ∷ known) (x ∷ lines) lead = Lead-drop by n known lines lead.1

pub Lead-take : (by : Scanner) (n : ℕ) (known : List (Option Known)) (lines : List (List ℕ)) → Lead by known lines → Lead by (take n known) (take n lines)
Lead-take by zero known lines lead = tt
Lead-take by (suc n) [] lines lead = tt
Lead-take by (suc n) (k ∷ known) [] lead = tt
Lead-take by (suc n) (k ∷ known) (x ∷ lines) lead = (lead.0, Lead-take by n known lines lead.1)
