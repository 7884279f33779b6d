use Rattle.std.proofs.Common.{◌≡◌, ap, sym, ◌∙◌, ◌++◌}
use Rattle.bracket_rules.specs.Table.{tokens_of}
use Rattle.hiding_rules.specs.declared.LineState.TheVariants.{Code}
use Rattle.hiding_rules.specs.Hidden.{scanner, Scanned, scanned, hidden_scan}
use Rattle.bracket_scan.proofs.Parts.{unhidden}
use Rattle.bracket_scan.proofs.table.BracketTable.scan_from.Goals as goal

plain : (c : goal.In_ok-scan) → hidden_scan (scanner c.args.self.now c.args.hiding.now) c.args.state c.args.line.now ≡ scanned (tokens_of c.args.self.now c.args.line.now) Code
plain c = unhidden c.args.self.now c.args.hiding.now c.args.state c.args.line.now c.in-Code.is (sym c.is_none.ensures ∙ c.if-is_none.true)

pub returns-clause-tokens : goal.returns-clause-tokens
returns-clause-tokens c = c.in_ok-scan.ensures.ok ∙ ap (λ (s : Scanned). c.args.out.now.items ++ s.tokens) (sym (plain c))

pub returns-clause-state : goal.returns-clause-state
returns-clause-state c = ap (λ (s : Scanned). s.state) (sym (plain c))
