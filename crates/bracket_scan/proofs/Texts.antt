-- What a `BracketTable` holds is a table.
use Rattle.std.proofs.Common.{◌≡◌, true, refl}
use Rattle.bracket_rules.specs.Table.{is_table}
use Rattle.bracket_scan.specs.declared.table.Texts.{Texts}
use Rattle.bracket_scan.specs.declared.table.Texts.TheVariants.{Standard, Listed}
use Rattle.bracket_scan.specs.Texts.{pairs_of, AreTexts}

pub is_table_of : (texts : Texts) → AreTexts texts → is_table (pairs_of texts) ≡ true
is_table_of Standard h = refl
is_table_of (Listed pairs starts firsts) h = h.0
