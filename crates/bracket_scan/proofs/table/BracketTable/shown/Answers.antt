use Rattle.std.proofs.Common.{◌≡◌, ℕ, List, true, get_or, drop, ap, sym, ◌∙◌}
use Rattle.bracket_rules.specs.Table.{Table, is_table, longest}
use Rattle.bracket_scan.proofs.Texts.{is_table_of}
use Rattle.bracket_scan.proofs.Buckets.{first_and_rest}
use Rattle.bracket_scan.proofs.FirstUnits.{none_begins}
use Rattle.bracket_scan.proofs.table.BracketTable.shown.Goals as goal
use Rattle.bracket_scan.proofs.table.BracketTable.shown.Goals.{then-may_begin, else-may_begin}

pub returns-in-None-clause-token : goal.returns-in-None-clause-token
returns-in-None-clause-token c = elim c.if-may_begin.branch [
  | then-may_begin w ↦ w.token-is ∙ w.longest-token.ensures.longest
  | else-may_begin w ↦
      let table : Table = c.args.self.now in
      let units : List ℕ = c.args.units.now in
      let valid : is_table table ≡ true = sym (ap is_table c.self.view_is) ∙ is_table_of c.self.inside.texts c.self.invariant in
      let none = none_begins c.args.at (get_or units 0 0) table (drop 1 units) valid (sym (c.may_begin.ensures) ∙ w.if-may_begin.false) in
      w.token-is ∙ sym (ap (longest c.args.at 0 table) (first_and_rest units c.requires) ∙ none)
]
