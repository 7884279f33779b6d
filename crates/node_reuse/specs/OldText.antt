-- The old text in contracts, and which nodes of its tree may be reused at a place of the current text.
use Rattle.std.specs.Prelude.{◌≡◌, ℕ, ◌<◌, ◌^◌, false, List, Option, Some, None, refl}
use Rattle.std.specs.Coded.{Coded, code_by, coded_ℕ, coded_list, coded×, coded_option}
use Rattle.text_lengths.specs.declared.Length.{Length}
use Rattle.text_lengths.specs.Length.{is_before}
use Rattle.bracket_rules.specs.declared.Token.{Token}
use Rattle.bracket_rules.specs.Parse.{Bracket}
use Rattle.bracket_rules.specs.Table.{token}
use Rattle.bracket_tree_rules.specs.Tree.{Tree, tree_length}
use Rattle.bracket_tree_rules.specs.TreeCode.{tree_code}
use Rattle.mark_rules.specs.declared.Mark.{Mark}
use Rattle.mark_rules.specs.declared.Mark.TheVariants.{Kept, New}
use Rattle.reuse_rules.specs.Reuse.{IsKeptAs, Reusable, IsOldBracket}

-- ---- places

-- the line of place p is kept from the old line of place q, at the same column
pub record IsOldPlace (marks : List Mark) (p q : Length) : Type 0 where
  pub kept : IsKeptAs marks p q.lines
  pub column : q.columns ≡ p.columns

-- the line of place p is new
abbrev pub IsNewLine : List Mark → Length → Type 0
IsNewLine marks p = (line : ℕ) → IsKeptAs marks p line → ⊥

-- lines and columns that fit 64 bits
pub record Fits64 (p : Length) : Type 0 where
  pub lines : p.lines < 2 ^ 64
  pub columns : p.columns < 2 ^ 64

-- ---- an old text

-- the tree of an old text, if there is one, and how the lines of the current text relate to it
pub record OldText : Type 0 where
  pub tree : Option Tree
  pub marks : List Mark

abbrev pub old_text : Option Tree → List Mark → OldText
old_text tree marks = record { tree = tree; marks = marks }

-- ---- nodes

-- without a tree no node is reusable
abbrev pub IsReusableOf : Option Tree → List Mark → Length → ℕ → ℕ → Tree → Type 0
IsReusableOf None marks p kinds level n = ⊥
IsReusableOf (Some t) marks p kinds level n = Reusable t marks p kinds level n

abbrev pub IsReusable : OldText → Length → ℕ → ℕ → Tree → Type 0
IsReusable old p kinds level n = IsReusableOf old.tree old.marks p kinds level n

-- n is reusable at place p, and no longer node is
pub record IsLongestReusable (old : OldText) (p : Length) (kinds level : ℕ) (n : Tree) : Type 0 where
  pub reusable : IsReusable old p kinds level n
  pub longest : (m : Tree) → IsReusable old p kinds level m → is_before (tree_length n) (tree_length m) ≡ false

abbrev pub NoneReusable : OldText → Length → ℕ → ℕ → Type 0
NoneReusable old p kinds level = (n : Tree) → IsReusable old p kinds level n → ⊥

-- ---- brackets

abbrev pub HasOldBracketOf : Option Tree → List Mark → Length → Bracket → Type 0
HasOldBracketOf None marks p b = ⊥
HasOldBracketOf (Some t) marks p b = IsOldBracket t marks p b

-- the bracket was in the line from which the line of place p is kept, at the column of p
abbrev pub HasOldBracket : OldText → Length → Bracket → Type 0
HasOldBracket old p b = HasOldBracketOf old.tree old.marks p b

-- the token is the old bracket at place p, as one of its line
pub record IsOldToken (old : OldText) (p : Length) (found : Token) : Type 0 where
  pub bracket : Bracket
  pub stands : HasOldBracket old p bracket
  pub shows : found ≡ token p.columns bracket.len bracket.kind bracket.opening

abbrev pub NoOldBracket : OldText → Length → Type 0
NoOldBracket old p = (b : Bracket) → HasOldBracket old p b → ⊥

-- ---- the code of an old text, by which proofs tell old texts apart

abbrev number_of : Mark → Option ℕ
number_of (Kept i) = Some i
number_of New = None

abbrev mark_of : Option ℕ → Mark
mark_of (Some i) = Kept i
mark_of None = New

pub mark_of-number : (m : Mark) → mark_of (number_of m) ≡ m
mark_of-number (Kept i) = refl
mark_of-number New = refl

abbrev pub mark_code : Coded Mark
mark_code = code_by (Option ℕ) (coded_option coded_ℕ) number_of mark_of mark_of-number

abbrev pub old_text_code : Coded OldText
old_text_code =
    code_by (Option Tree × List Mark) (coded× (coded_option tree_code) (coded_list mark_code))
    (λ o. (o.tree, o.marks)) (λ p. record { tree = p.0; marks = p.1 }) (λ _. refl)
