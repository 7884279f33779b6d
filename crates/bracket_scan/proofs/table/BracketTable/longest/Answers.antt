use Rattle.std.proofs.Common.{◌≡◌, ℕ, ◌%◌, ◌<◌, true, Option, List, length, get_or, drop, ap, sym, ◌∙◌, arith}
use Rattle.std.specs.Prelude.{IfSome}
use Rattle.bracket_rules.specs.declared.Token.{Token}
use Rattle.bracket_rules.specs.Table.{Table, is_table, standard_table, longest}
use Rattle.bracket_scan.specs.declared.starts.TheConstants.{BUCKETS}
use Rattle.bracket_scan.specs.Starts.{starts_in, longest_among, IsWithin}
use Rattle.bracket_scan.specs.Texts.{pairs_of}
use Rattle.bracket_scan.proofs.Buckets.{starts_in-kinds, first_and_rest, longest_among-dispatched}
use Rattle.bracket_scan.proofs.Scanning.{longest-within}
use Rattle.bracket_scan.proofs.table.BracketTable.longest.Goals as goal
use Rattle.bracket_scan.proofs.table.BracketTable.longest.Goals.{After-deref-in-Listed}

-- what the bucket of the first unit holds
in_bucket : (c : After-deref-in-Listed)
    → c.deref-in-Listed.result.now ≡ starts_in (get_or c.args.units.now 0 0 % BUCKETS) 0 c.in-Listed.pairs.items
in_bucket c =
    let invariant = rw c.in-Listed.is at c.self.invariant in
    let below : get_or c.args.units.now 0 0 % BUCKETS < BUCKETS = omega arith in
    let each = invariant.1.each (get_or c.args.units.now 0 0 % BUCKETS) c.index.result.now below in
    cc

pub longest_among-requires : goal.longest_among-requires
longest_among-requires c =
    rw (in_bucket c, c.deref.ensures.value)
    (starts_in-kinds (get_or c.args.units.now 0 0 % BUCKETS) c.in-Listed.pairs.items)

-- the result is the longest text of the table, so it has at least one unit and at most all units there
answer : (at : ℕ) (table : Table) (units : List ℕ) (found : Option Token) → is_table table ≡ true → found ≡ longest at 0 table units
    → IfSome found (IsWithin (length units))
answer at table units found h e = rw e (longest-within at table units h)

pub returns-in-Standard : goal.returns-in-Standard
returns-in-Standard c =
    let units : List ℕ = c.args.units.now in
    let shown : standard_table ≡ c.args.self.now = sym (ap pairs_of c.in-Standard.is) ∙ c.self.view_is in
    let found : c.standard_token.result ≡ longest c.args.at 0 c.args.self.now units =
    c.standard_token.ensures (drop 1 units)
    ∙ ap (longest c.args.at 0 standard_table) (sym (first_and_rest units c.requires))
    ∙ ap (λ (t : Table). longest c.args.at 0 t units) shown in
    let table : is_table c.args.self.now ≡ true = ap is_table (sym shown) in
    record { longest = found; within = answer c.args.at c.args.self.now units c.standard_token.result table found }

pub returns-in-Listed : goal.returns-in-Listed
returns-in-Listed c =
    let invariant = rw c.in-Listed.is at c.self.invariant in
    let units : List ℕ = c.args.units.now in
    let pairs : Table = c.in-Listed.pairs.items in
    let shown : pairs ≡ c.args.self.now = sym (ap pairs_of c.in-Listed.is) ∙ c.self.view_is in
    let found : c.longest_among.result ≡ longest c.args.at 0 c.args.self.now units =
    c.longest_among.ensures
    ∙ ap (λ (t : Table). longest_among t c.args.at c.deref-in-Listed.result.now units) c.deref.ensures.value
    ∙ longest_among-dispatched pairs c.args.at c.deref-in-Listed.result.now units invariant.0 c.requires
    (in_bucket (goal.at.returns-in-Listed c).After-deref-in-Listed)
    ∙ ap (λ (t : Table). longest c.args.at 0 t units) shown in
    let table : is_table c.args.self.now ≡ true = ap is_table (sym shown) ∙ invariant.0 in
    record { longest = found; within = answer c.args.at c.args.self.now units c.longest_among.result table found }
