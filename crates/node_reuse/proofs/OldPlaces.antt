-- The nodes and brackets found in an old tree at the old place are those that may be reused at the current place.
use Rattle.std.proofs.Common.{◌≡◌, ℕ, zero, suc, ◌+◌, ◌-◌, ◌≤◌, Bool, true, false, Option, Some, None, List, [], ◌∷◌, drop, refl, ap, sym, ◌∙◌, subst, arith}
use Rattle.std.specs.Prelude.{slice_index_or, IfSome, IfNone}
use Rattle.text_lengths.specs.declared.Length.{Length}
use Rattle.text_lengths.specs.Length.{length_of, no_length}
use Rattle.text_lengths.proofs.Lengths.{same_length}
use Rattle.bracket_rules.specs.declared.Token.{Token}
use Rattle.bracket_rules.specs.Table.{token}
use Rattle.bracket_rules.specs.Parse.{bracket}
use Rattle.bracket_tree_rules.specs.Tree.{Tree}
use Rattle.bracket_tree_rules.specs.Places.{HasNode, IsLongest, NoneMayBeTaken}
use Rattle.bracket_tree_rules.specs.Found.{IsTokenAt, NoBracketAt}
use Rattle.mark_rules.specs.declared.Mark.{Mark}
use Rattle.mark_rules.specs.declared.Mark.TheVariants.{Kept, New}
use Rattle.mark_rules.specs.Marks.{mark_at, kept_run, RisesFrom, Rises}
use Rattle.reuse_rules.specs.Reuse.{IsKeptAs}
use Rattle.node_reuse.specs.OldText.{IsOldPlace, IsNewLine, OldText, old_text, IsLongestReusable, NoneReusable, IsOldToken, NoOldBracket}

-- ---- marks

abbrev pub number_of : Mark → ℕ
number_of (Kept i) = i
number_of New = 0

abbrev is_kept : Mark → Bool
is_kept (Kept i) = true
is_kept New = false

rises-at : (least k i : ℕ) (marks : List Mark) → RisesFrom least marks → Kept i ≡ slice_index_or marks k New → least ≤ i
rises-at least k i [] r e = let clash : true ≡ false = ap is_kept e in cc
rises-at least zero i (New ∷ marks) r e = let clash : true ≡ false = ap is_kept e in cc
rises-at least zero i (Kept j ∷ marks) r e = let same : i ≡ j = ap number_of e in let low : least ≤ j = r.0 in omega arith
rises-at least (suc k) i (New ∷ marks) r e = rises-at least k i marks r e
rises-at least (suc k) i (Kept j ∷ marks) r e =
    let low : least ≤ j = r.0 in let more : suc j ≤ i = rises-at (suc j) k i marks r.2 e in omega arith

-- the number of a kept line is at least 1
pub kept_from_one : (marks : List Mark) (n number : ℕ) → Rises marks → Kept number ≡ mark_at n marks → 1 ≤ number
kept_from_one marks n number r e = rises-at 1 (n - 1) number marks r e

pub kept_place : (marks : List Mark) (p : Length) (number : ℕ) → Rises marks → Kept number ≡ mark_at (p.lines + 1) marks
    → IsOldPlace marks p (length_of (number - 1) p.columns)
kept_place marks p number r e =
    let some : 1 ≤ number = kept_from_one marks (p.lines + 1) number r e in
    record { kept = sym e ∙ ap Kept (omega arith); column = refl }

pub same_line : (marks : List Mark) (p : Length) (m n : ℕ) → IsKeptAs marks p m → IsKeptAs marks p n → m ≡ n
same_line marks p m n h k = let same : m + 1 ≡ n + 1 = ap number_of (sym h ∙ k) in omega arith

old_place_is : (marks : List Mark) (p q : Length) → IsOldPlace marks p q → q ≡ length_of q.lines p.columns
old_place_is marks p q o = same_length q (length_of q.lines p.columns) refl o.column

back_at : (marks : List Mark) (p q : Length) (line : ℕ) → IsOldPlace marks p q → IsKeptAs marks p line → length_of line p.columns ≡ q
back_at marks p q line o k =
    ap (λ (n : ℕ). length_of n p.columns) (same_line marks p line q.lines k o.kept) ∙ sym (old_place_is marks p q o)

-- ---- an old text that has a tree

pub seen : (old : OldText) (tree : Option Tree) (marks : List Mark) (t : Tree) → old_text tree marks ≡ old → tree ≡ Some t
    → old ≡ old_text (Some t) old.marks
seen old tree marks t e h =
    let same : marks ≡ old.marks = ap (λ (o : OldText). o.marks) e in
    sym e ∙ ap (λ (x : Option Tree). old_text x marks) h ∙ ap (old_text (Some t)) same

-- ---- nodes

pub longest_reusable : (t : Tree) (marks : List Mark) (p q : Length) (kinds level : ℕ) (n : Tree) → IsOldPlace marks p q
    → IsLongest no_length t q (kept_run (drop p.lines marks)) kinds level n → IsLongestReusable (old_text (Some t) marks) p kinds level n
longest_reusable t marks p q kinds level n o l = record {
  reusable = record {
    line = q.lines;
    kept = o.kept;
    node = subst (λ (x : Length). HasNode no_length t x n) (old_place_is marks p q o) l.stands;
    taken = l.taken;
  };
  longest = λ m r. l.longest m (subst (λ (x : Length). HasNode no_length t x m) (back_at marks p q r.line o r.kept) r.node) r.taken;
}

pub none_reusable : (t : Tree) (marks : List Mark) (p q : Length) (kinds level : ℕ) → IsOldPlace marks p q
    → NoneMayBeTaken no_length t q (kept_run (drop p.lines marks)) kinds level → NoneReusable (old_text (Some t) marks) p kinds level
none_reusable t marks p q kinds level o none m r =
    none m (subst (λ (x : Length). HasNode no_length t x m) (back_at marks p q r.line o r.kept) r.node) r.taken

pub no_tree_reusable : (marks : List Mark) (p : Length) (kinds level : ℕ) → NoneReusable (old_text None marks) p kinds level
no_tree_reusable marks p kinds level m r = r

pub new_line_reusable : (t : Tree) (marks : List Mark) (p : Length) (kinds level : ℕ) → IsNewLine marks p → NoneReusable (old_text (Some t) marks) p kinds level
new_line_reusable t marks p kinds level new m r = new r.line r.kept

pub ruleset node_laws = (longest_reusable, none_reusable, no_tree_reusable, new_line_reusable)

-- ---- brackets

pub old_token : (t : Tree) (marks : List Mark) (p q : Length) (found : Token) → IsOldPlace marks p q → IsTokenAt no_length t q found
    → IsOldToken (old_text (Some t) marks) p found
old_token t marks p q found o h = record {
  bracket = bracket q found.len found.kind found.opening;
  stands = record { line = q.lines; kept = o.kept; bracket = h.stands; place = old_place_is marks p q o };
  shows = ap (λ (n : ℕ). token n found.len found.kind found.opening) (h.column ∙ o.column);
}

pub no_old_bracket : (t : Tree) (marks : List Mark) (p q : Length) → IsOldPlace marks p q → NoBracketAt no_length t q
    → NoOldBracket (old_text (Some t) marks) p
no_old_bracket t marks p q o none b r = none b r.bracket (r.place ∙ back_at marks p q r.line o r.kept)

pub no_tree_bracket : (marks : List Mark) (p : Length) → NoOldBracket (old_text None marks) p
no_tree_bracket marks p b r = r

pub new_line_bracket : (t : Tree) (marks : List Mark) (p : Length) → IsNewLine marks p → NoOldBracket (old_text (Some t) marks) p
new_line_bracket t marks p new b r = new r.line r.kept

pub ruleset bracket_laws = (old_token, no_old_bracket, no_tree_bracket, new_line_bracket)

pub old_token_if : (t : Tree) (marks : List Mark) (p q : Length) (o : Option Token) → IsOldPlace marks p q → IfSome o (IsTokenAt no_length t q)
    → IfSome o (IsOldToken (old_text (Some t) marks) p)
old_token_if t marks p q None h k = tt
old_token_if t marks p q (Some found) h k = old_token t marks p q found h k

pub no_old_bracket_if : (t : Tree) (marks : List Mark) (p q : Length) (o : Option Token) → IsOldPlace marks p q → IfNone o (NoBracketAt no_length t q)
    → IfNone o (NoOldBracket (old_text (Some t) marks) p)
no_old_bracket_if t marks p q None h k = no_old_bracket t marks p q h k
no_old_bracket_if t marks p q (Some found) h k = tt
