use Rattle.std.proofs.Common.{◌≡◌, ap, sym, ◌∙◌, subst}
use Rattle.bracket_rules.specs.Table.{Table, standard_table}
use Rattle.bracket_scan.specs.Firsts.{Indexes}
use Rattle.bracket_scan.specs.Texts.{pairs_of}
use Rattle.bracket_scan.proofs.table.BracketTable.firsts.Goals as goal

pub returns-in-Standard : goal.returns-in-Standard
returns-in-Standard c =
    let shown : standard_table ≡ c.args.self.now = sym (ap pairs_of c.in-Standard.is) ∙ c.self.view_is in
    subst (λ (t : Table). Indexes t c.standard_firsts.result.now) shown c.standard_firsts.ensures

pub returns-in-Listed : goal.returns-in-Listed
returns-in-Listed c =
    let invariant = rw c.in-Listed.is at c.self.invariant in
    let shown : c.in-Listed.field-0.items ≡ c.args.self.now = sym (ap pairs_of c.in-Listed.is) ∙ c.self.view_is in
    rw c.deref.ensures.value (subst (λ (t : Table). Indexes t c.in-Listed.firsts.items) shown invariant.2)
