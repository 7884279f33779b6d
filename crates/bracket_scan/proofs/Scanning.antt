-- The steps of a scan: past a token, and past a unit at which no token begins.
use Rattle.std.proofs.Common.{◌≡◌, ℕ, zero, suc, ◌+◌, ◌-◌, ◌<◌, ◌≤◌, Bool, true, false, cond, Option, Some, None, List, [], ◌∷◌, ◌++◌, length, take, drop, get_or, refl, ap, sym, ◌∙◌, arith, length-take, length-drop, drop_of_length-le}
use Rattle.std.specs.Prelude.{IfSome, not, nat_lt}
use Rattle.std.specs.List.{position, position_or_len}
use Rattle.std.specs.Option.{option_to_list}
use Rattle.std.proofs.lemmas.Bool.{ltb-true, ltb-false}
use Rattle.std.proofs.lemmas.List.{drop_more, drop-drop, take-append-le, append_assoc}
use Rattle.bracket_rules.specs.declared.Token.{Token}
use Rattle.bracket_rules.specs.Table.{Table, is_table, longest, units_after_first, tokens_from}
use Rattle.bracket_scan.specs.Firsts.{may_begin}
use Rattle.bracket_scan.specs.Starts.{IsWithin}
use Rattle.bracket_rules.specs.declared.TheConstants.{MOST_PAIRS}
use Rattle.bracket_rules.proofs.Tokens.{IsThere, longest-there}
use Rattle.bracket_scan.proofs.FirstUnits.{none_begins}

-- ---- a token has units, and no more than are there

within_from : (at n kinds : ℕ) (found : Option Token) → IfSome found (IsThere at n kinds) → IfSome found (IsWithin n)
within_from at n kinds None h = tt
within_from at n kinds (Some t) h = record { some = h.some; enough = h.enough }

pub longest-within : (at : ℕ) (table : Table) (units : List ℕ) → is_table table ≡ true
    → IfSome (longest at 0 table units) (IsWithin (length units))
longest-within at table units h = within_from at (length units) MOST_PAIRS (longest at 0 table units) (longest-there at table units h)

-- ---- steps

tokens_from-passed : (table : Table) (at passed : ℕ) (units : List ℕ)
    → tokens_from table at passed units ≡ tokens_from table (at + passed) 0 (drop passed units)
tokens_from-passed table at zero units = ap (λ (n : ℕ). tokens_from table n 0 units) (omega arith)
tokens_from-passed table at (suc passed) [] = refl
tokens_from-passed table at (suc passed) (u ∷ units) =
    tokens_from-passed table (suc at) passed units
    ∙ ap (λ (n : ℕ). tokens_from table n 0 (drop passed units)) (omega arith)

tokens_from-found : (table : Table) (at u : ℕ) (units : List ℕ) (found : Option Token) → longest at 0 table (u ∷ units) ≡ found
    → tokens_from table at 0 (u ∷ units) ≡ option_to_list found ++ tokens_from table (suc at) (units_after_first found) units
tokens_from-found table at u units found h =
    ap (λ (x : Option Token). option_to_list x ++ tokens_from table (suc at) (units_after_first x) units) h

drop-suc : (n u : ℕ) (units : List ℕ) → 0 < n → drop (n - 1) units ≡ drop n (u ∷ units)
drop-suc zero u units h = absurd (omega arith)
drop-suc (suc n) u units h = ap (λ (k : ℕ). drop k units) (omega arith)

-- the same from a position of a line on
pub tokens_from-some : (table : Table) (line : List ℕ) (at : ℕ) (t : Token)
    → at < length line → longest at 0 table (drop at line) ≡ Some t → 0 < t.len
    → tokens_from table at 0 (drop at line) ≡ t ∷ tokens_from table (at + t.len) 0 (drop (at + t.len) line)
tokens_from-some table line at t h k some =
    let u : ℕ = get_or line at 0 in
    let rest : List ℕ = drop (at + 1) line in
    let units : drop at line ≡ u ∷ rest = drop_more line at 0 h in
    let left : drop (t.len - 1) rest ≡ drop (at + t.len) line =
    drop-suc t.len u rest some ∙ ap (drop t.len) (sym units) ∙ drop-drop t.len at line in
    ap (tokens_from table at 0) units
    ∙ tokens_from-found table at u rest (Some t) (ap (longest at 0 table) (sym units) ∙ k)
    ∙ ap (λ (x : List Token). t ∷ x)
    (tokens_from-passed table (suc at) (t.len - 1) rest
    ∙ ap (λ (n : ℕ). tokens_from table n 0 (drop (t.len - 1) rest)) (omega arith)
    ∙ ap (tokens_from table (at + t.len) 0) left)

pub tokens_from-none : (table : Table) (line : List ℕ) (at : ℕ)
    → at < length line → longest at 0 table (drop at line) ≡ None
    → tokens_from table at 0 (drop at line) ≡ tokens_from table (at + 1) 0 (drop (at + 1) line)
tokens_from-none table line at h k =
    let u : ℕ = get_or line at 0 in
    let rest : List ℕ = drop (at + 1) line in
    let units : drop at line ≡ u ∷ rest = drop_more line at 0 h in
    ap (tokens_from table at 0) units
    ∙ tokens_from-found table at u rest None (ap (longest at 0 table) (sym units) ∙ k)
    ∙ ap (λ (n : ℕ). tokens_from table n 0 rest) (omega arith)

-- ---- past the units at which no text begins

past_first : (table : Table) (at next u : ℕ) (units : List ℕ) (b : Bool) → is_table table ≡ true → b ≡ may_begin table u
    → tokens_from table (suc at) 0 units ≡ tokens_from table (suc at + next) 0 (drop next units)
    → tokens_from table at 0 (u ∷ units)
    ≡ tokens_from table (at + cond (not b) (1 + next) 0) 0 (drop (cond (not b) (1 + next) 0) (u ∷ units))
past_first table at next u units true h e rest = ap (λ (n : ℕ). tokens_from table n 0 (u ∷ units)) (omega arith)
past_first table at next u units false h e rest =
    let behind : suc at + next ≡ at + (1 + next) = omega arith in
    let more : suc next ≡ 1 + next = omega arith in
    tokens_from-found table at u units None (none_begins at u table units h (sym e))
    ∙ rest
    ∙ ap (λ (n : ℕ). tokens_from table n 0 (drop next units)) behind
    ∙ ap (λ (n : ℕ). tokens_from table (at + (1 + next)) 0 (drop n (u ∷ units))) more

to_next_start : (table : Table) (at : ℕ) (units : List ℕ) → is_table table ≡ true
    → tokens_from table at 0 units
    ≡ tokens_from table (at + position_or_len (may_begin table) units) 0 (drop (position_or_len (may_begin table) units) units)
to_next_start table at [] h = refl
to_next_start table at (u ∷ units) h =
    past_first table at (position_or_len (may_begin table) units) u units (may_begin table u) h refl (to_next_start table (suc at) units h)

-- the next start is in the line, and the tokens are those from there on
pub tokens_from-next : (table : Table) (line : List ℕ) (at next : ℕ) → is_table table ≡ true
    → position (may_begin table) (drop at line) ≡ Some next
    → (at + next < length line) × (tokens_from table at 0 (drop at line) ≡ tokens_from table (at + next) 0 (drop (at + next) line))
tokens_from-next table line at next h k = either (nat_lt first (length units)) refl k
  where
    units : List ℕ
    units = drop at line

    first : ℕ
    first = position_or_len (may_begin table) units

    either : (b : Bool) → b ≡ nat_lt first (length units) → cond b (Some first) None ≡ Some next
        → (at + next < length line) × (tokens_from table at 0 units ≡ tokens_from table (at + next) 0 (drop (at + next) line))
    either true e is =
        let same : first ≡ next = cc in
        let within : first < length units = ltb-true first (length units) (sym e) in (
          omega (arith, within, same, length-drop at line),
          to_next_start table at units h
              ∙ ap (λ (n : ℕ). tokens_from table (at + n) 0 (drop n units)) same
              ∙ ap (tokens_from table (at + next) 0) (drop-drop next at line),
        )
    either false e is = cc

-- without a next start there are no tokens
pub tokens_from-no_next : (table : Table) (at : ℕ) (units : List ℕ) → is_table table ≡ true
    → position (may_begin table) units ≡ None → tokens_from table at 0 units ≡ []
tokens_from-no_next table at units h k = either (nat_lt first (length units)) refl k
  where
    first : ℕ
    first = position_or_len (may_begin table) units

    either : (b : Bool) → b ≡ nat_lt first (length units) → cond b (Some first) None ≡ None → tokens_from table at 0 units ≡ []
    either true e is = cc
    either false e is =
        let past : length units ≤ first = ltb-false first (length units) (sym e) in
        to_next_start table at units h ∙ ap (tokens_from table (at + first) 0) (drop_of_length-le units past)

-- ---- what has been pushed

pub kept-push : (old items : List Token) (t : Token) → take (length old) items ≡ old → take (length old) (items ++ t ∷ []) ≡ old
kept-push old items t h =
    let enough : length old ≤ length items = omega (arith, ap length h, length-take (length old) items) in
    take-append-le (length old) items (t ∷ []) enough ∙ h

pub tokens-push : (items rest rest' whole : List Token) (t : Token)
    → items ++ rest ≡ whole → rest ≡ t ∷ rest' → (items ++ t ∷ []) ++ rest' ≡ whole
tokens-push items rest rest' whole t h k =
    append_assoc items (t ∷ []) rest' ∙ ap (λ (x : List Token). items ++ x) (sym k) ∙ h
