use Rattle.std.proofs.Common.{rules, ◌≡◌, ◌==◌, ◌||◌, true, slice_index, ap, sym, subst, ◌∙◌}
use Rattle.unit_text.specs.declared.kind.Kind.TheVariants.{Crlf}
use Rattle.unit_text.specs.Endings.{line_feed}
use Rattle.unit_text.specs.Kinds.{IsOfKind, cuts_in}
use Rattle.unit_text.specs.Units.{cuts_pair}
use Rattle.unit_text.proofs.KindLaws.{cuts_ending-at_feed}
use Rattle.text_buffer.specs.Views.{units_in}
use Rattle.text_buffer.proofs.view.View.cuts_beside.Goals as goal

pub returns-then-unit_in-eq-LINE_FEED-clause-cuts : goal.returns-then-unit_in-eq-LINE_FEED-clause-cuts
returns-then-unit_in-eq-LINE_FEED-clause-cuts g c =
    let x = units_in c.args.self.now in
    let is : c.args.kind ≡ Crlf = search rules in
    let feed : (slice_index x c.args.offset == line_feed) ≡ true = search rules in
    let cut = cuts_ending-at_feed x c.args.offset (subst (λ k. IsOfKind k x) is c.requires.kind) feed in
    sym (ap (λ k. cuts_in k x c.args.offset) is ∙ ap (λ b. b || cuts_pair x c.args.offset) cut)
