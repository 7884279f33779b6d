use Rattle.std.proofs.Common.{◌≡◌, ℕ, ◌+◌, true, Some, None, List, ◌++◌, length, drop, ap, sym, ◌∙◌, arith, length-drop}
use Rattle.std.specs.List.{position}
use Rattle.std.proofs.lemmas.List.{take_rest, append-nil}
use Rattle.bracket_rules.specs.declared.Token.{Token}
use Rattle.bracket_rules.specs.Table.{Table, is_table, longest, tokens_of, tokens_from}
use Rattle.bracket_scan.specs.Firsts.{may_begin}
use Rattle.bracket_scan.proofs.Texts.{is_table_of}
use Rattle.bracket_scan.proofs.Scanning.{tokens_from-some, tokens_from-none, tokens_from-next, tokens_from-no_next, kept-push, tokens-push}
use Rattle.bracket_scan.proofs.table.BracketTable.push_tokens.Goals as goal
use Rattle.bracket_scan.proofs.table.BracketTable.push_tokens.Goals.{After-next_start}

valid : (c : After-next_start) → is_table c.args.self.now ≡ true
valid c = sym (ap is_table c.self.view_is) ∙ is_table_of c.self.inside.texts c.self.invariant

-- what the search for the next start has found
searched : (c : After-next_start) → position (may_begin c.args.self.now) (drop c.loop-passed.at c.args.line.now) ≡ c.next_start.result
searched c = ap (position (may_begin c.args.self.now)) (sym (take_rest c.args.line.now c.loop-passed.at)) ∙ sym c.next_start.ensures

pub loop-passed-preserved-in-Some-longest : goal.loop-passed-preserved-in-Some-longest
loop-passed-preserved-in-Some-longest c =
    let table : Table = c.args.self.now in
    let line : List ℕ = c.args.line.now in
    let at : ℕ = c.loop-passed.at + c.in-Some.passed in
    let t : Token = c.in-Some-longest.token in
    let items : List Token = c.loop-passed.out.items in
    let before = (goal.at.loop-passed-preserved-in-Some-longest c).After-next_start in
    let next = tokens_from-next table line c.loop-passed.at c.in-Some.passed (valid before) (searched before ∙ c.in-Some.is) in
    let found : longest at 0 table (drop at line) ≡ Some t =
    ap (longest at 0 table) (sym (take_rest line at)) ∙ sym (c.in-Some-longest.ensures).longest in
    let within = (c.in-Some-longest.ensures).within in
    let step = tokens_from-some table line at t next.0 found within.some in
    let pushed = (c.in_ok-push-in-Some-longest.ensures).items in
    record {
      within = omega (arith, within.enough, next.0, length-drop at line, ap length (take_rest line at));
      kept = rw pushed (kept-push c.args.out.now.items items t c.loop-passed.invariant.kept);
      tokens = rw pushed (tokens-push items (tokens_from table c.loop-passed.at 0 (drop c.loop-passed.at line)) _
          (c.args.out.now.items ++ tokens_of table line) t c.loop-passed.invariant.tokens (next.1 ∙ step));
    }

pub loop-passed-preserved : goal.loop-passed-preserved
loop-passed-preserved c =
    let table : Table = c.args.self.now in
    let line : List ℕ = c.args.line.now in
    let at : ℕ = c.loop-passed.at + c.in-Some.passed in
    let before = (goal.at.loop-passed-preserved c).After-next_start in
    let next = tokens_from-next table line c.loop-passed.at c.in-Some.passed (valid before) (searched before ∙ c.in-Some.is) in
    let found : longest at 0 table (drop at line) ≡ None =
    ap (longest at 0 table) (sym (take_rest line at)) ∙ sym (c.in-None.ensures).longest in
    record {
      within = omega (arith, next.0);
      kept = c.loop-passed.invariant.kept;
      tokens = ap (λ (x : List Token). c.loop-passed.out.items ++ x) (sym (next.1 ∙ tokens_from-none table line at next.0 found))
          ∙ c.loop-passed.invariant.tokens;
    }

pub returns-clause-ok : goal.returns-clause-ok
returns-clause-ok c =
    let items : List Token = c.loop-passed.out.items in
    let before = (goal.at.returns-clause-ok c).After-next_start in
    let none = tokens_from-no_next c.args.self.now c.loop-passed.at (drop c.loop-passed.at c.args.line.now) (valid before) (searched before ∙ c.in_default.is) in
    sym (append-nil items) ∙ ap (λ (x : List Token). items ++ x) (sym none) ∙ c.loop-passed.invariant.tokens
