use Rattle.std.proofs.Common.{◌≡◌, true, ap, sym, ◌∙◌}
use Rattle.bracket_rules.specs.Table.{is_table}
use Rattle.hiding_rules.specs.Hidden.{scanner}
use Rattle.bracket_scan.proofs.Parts.{comment_part, hidden_part, shown_part}
use Rattle.bracket_scan.proofs.Passing.{passing_part}
use Rattle.bracket_scan.proofs.Texts.{is_table_of}
use Rattle.bracket_scan.proofs.table.BracketTable.part.Goals as goal

pub returns-in-Comment : goal.returns-in-Comment
returns-in-Comment c =
    comment_part (scanner c.args.self.now c.args.hiding.now) c.args.at c.args.within c.args.units.now c.in-Comment.is c.requires

pub returns-in-Some : goal.returns-in-Some
returns-in-Some c =
    let is = c.in-Some.ensures in
    hidden_part (scanner c.args.self.now c.args.hiding.now) c.args.at c.args.within c.args.units.now c.in-Some.stretch
    c.requires (sym is.stretch) is.some is.few

pub returns-in-None : goal.returns-in-None
returns-in-None c =
    let is = c.shown.ensures in
    shown_part (scanner c.args.self.now c.args.hiding.now) c.args.at c.args.within c.args.units.now c.shown.result
    c.requires (sym (c.in-None.ensures).stretch) is.token is.within is.len is.behind

pub returns-then-passed-gt0 : goal.returns-then-passed-gt0
returns-then-passed-gt0 c =
    let valid : is_table c.args.self.now ≡ true = sym (ap is_table c.self.view_is) ∙ is_table_of c.self.inside.texts c.self.invariant in
    passing_part (scanner c.args.self.now c.args.hiding.now) valid c.args.at c.args.within c.args.units.now c.passing-passed.result
    c.passing-passed.ensures c.if-passed-gt0.true
