use Rattle.std.proofs.Common.{Ok, sym, ap}
use Rattle.textmodel_c.specs.Tellings.{told_text}
use Rattle.textmodel_c.proofs.changes.text_utf8_out.Goals as goal

pub returns-in-Some : goal.returns-in-Some
returns-in-Some c = rw c.in-Some.is (c.utf8_out.ensures (Ok (told_text c.in-Some.telling.edits)) (ap Ok (sym c.text.ensures)))
