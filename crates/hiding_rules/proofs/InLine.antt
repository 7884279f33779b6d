-- The tokens of a line that begins in any state are in order within the line.
use Rattle.std.proofs.Common.{◌≡◌, ℕ, zero, suc, ◌+◌, ◌-◌, ◌<◌, ◌≤◌, true, Option, Some, None, IfSome, List, [], ◌∷◌, ◌++◌, length, refl, arith}
use Rattle.std.specs.Option.{option_to_list}
use Rattle.bracket_rules.specs.declared.Token.{Token}
use Rattle.bracket_rules.specs.declared.TheConstants.{MOST_PAIRS}
use Rattle.bracket_rules.specs.Table.{is_table, AreInLine}
use Rattle.bracket_rules.proofs.Tokens.{IsThere, longest-there}
use Rattle.hiding_rules.specs.declared.LineState.{LineState}
use Rattle.hiding_rules.specs.declared.Within.{Within}
use Rattle.hiding_rules.specs.declared.Within.TheVariants.{State}
use Rattle.hiding_rules.specs.declared.Stretch.{Stretch}
use Rattle.hiding_rules.specs.Hidden.{Scanner, hidden, Front, front_of, front, scanned_from, hidden_scan}

-- if the front is a token, it is at `at`, has at most `most` units, and takes up exactly its units
abbrev Fits : ℕ → ℕ → Front → Type 0
Fits at most f = IfSome f.token (λ t. IsThere at most MOST_PAIRS t × (f.after_first ≡ t.len - 1))

front_fits : (at most : ℕ) (hiding : Option Stretch) (found : Option Token) → IfSome found (IsThere at most MOST_PAIRS) → Fits at most (front_of hiding found)
front_fits at most (Some s) found there = tt
front_fits at most None None there = tt
front_fits at most None (Some t) there = (there, refl)

module _ (by : Scanner) (checked : is_table by.table ≡ true) where
  -- the tokens are in order within the line from each column that is at most `at + passed` and at most `n`
  abbrev StandFrom : ℕ → ℕ → ℕ → List Token → Type 0
  StandFrom at passed n tokens = (c : ℕ) → c ≤ at + passed → c ≤ n → AreInLine c n tokens

  front_stands : (at n : ℕ) (f : Front) (units : ℕ) (tokens : List Token) → suc units + at ≡ n → Fits at (suc units) f
      → StandFrom (suc at) f.after_first n tokens → StandFrom at 0 n (option_to_list f.token ++ tokens)
  front_stands at n f units tokens ends fits behind c here within = either f.token fits
    where
      either : (o : Option Token) → IfSome o (λ t. IsThere at (suc units) MOST_PAIRS t × (f.after_first ≡ t.len - 1))
          → AreInLine c n (option_to_list o ++ tokens)
      either None found = behind c (omega arith) within
      either (Some t) found =
          let place : t.at ≡ at = found.0.place in
          let some : 0 < t.len = found.0.some in
          let enough : t.len ≤ suc units = found.0.enough in
          let size = found.1 in
          (omega arith, some, found.0.kind, behind (t.at + t.len) (omega arith) (omega arith))

  scanned_stand : (at passed n : ℕ) (within : Within) (units : List ℕ) → length units + at ≡ n
      → StandFrom at passed n (scanned_from by at passed within units).tokens
  scanned_stand at passed n within [] ends c here most = most
  scanned_stand at (suc passed) n within (u ∷ units) ends c here most =
      scanned_stand (suc at) passed n within units (omega arith) c (omega arith) most
  scanned_stand at zero n within (u ∷ units) ends c here most =
      let f : Front = front by at within (u ∷ units) in
      let fits : Fits at (suc (length units)) f = front_fits at (suc (length units)) (hidden by.marks within (u ∷ units)) _ (longest-there at by.table (u ∷ units) checked) in
      let behind = scanned_stand (suc at) f.after_first n f.behind units (omega arith) in
      front_stands at n f (length units) _ (omega arith) fits behind c here most

  pub hidden_tokens_in_line : (state : LineState) (line : List ℕ) → AreInLine 0 (length line) (hidden_scan by state line).tokens
  hidden_tokens_in_line state line = scanned_stand 0 0 (length line) (State state) line (omega arith) 0 (omega arith) (omega arith)
