-- What a call leaves that is on a document and was carried out.
use Rattle.std.proofs.Common.{◌≡◌, ℕ, ◌<◌, true, nat_lt, Option, Some, sym, subst, arith}
use Rattle.std.proofs.lemmas.Grind.{common_steps}
use Rattle.group_rules.specs.declared.TheConstants.{DOC_COUNT}
use Rattle.textmodel_c.specs.declared.contents.Contents.{Contents}
use Rattle.textmodel_c.specs.Told.{LeavesWith}

there : (doc : ℕ) → doc < DOC_COUNT → nat_lt doc DOC_COUNT ≡ true
there doc lt = grind (arith, common_steps)

pub leaves_with : (n doc : ℕ) (kept : Type 0) (says : Contents → Contents → Type 0) (held new : Option Contents) (old now : Contents)
    → held ≡ Some old → doc < DOC_COUNT → new ≡ Some now → says old now → LeavesWith n doc held new kept says
leaves_with n doc kept says held new old now is within left told =
    subst (λ (held : Option Contents). LeavesWith n doc held new kept says) (sym is)
    (subst (λ (new : Option Contents). LeavesWith n doc (Some old) new kept says) (sym left) (rw (there doc within) told))
