use Rattle.std.proofs.Common.{◌≡◌, ◌∙◌, Some, ap, sym, subst, rules}
use Rattle.std.specs.Prelude.{IfSome, IfNone}
use Rattle.std.specs.Option.{option_copied_mut}
use Rattle.node_reuse.specs.OldText.{OldText, old_text, IsOldToken, NoOldBracket}
use Rattle.node_reuse.proofs.OldPlaces.{seen, old_token_if, no_old_bracket_if}
use Rattle.node_reuse.proofs.OldRoom.{token_fits_if}
use Rattle.node_reuse.proofs.old.OldReader.bracket_at.Goals as goal

pub returns : goal.returns
returns c =
    let old : OldText = c.args.self.now in
    let t = c.in_ok-tree.tree.now in
    let there : c.self.inside.tree ≡ Some t = sym c.as_mut.ensures.value ∙ ap option_copied_mut c.in_ok-tree.was in
    let e : old ≡ old_text (Some t) old.marks = seen old c.self.inside.tree c.self.inside.marks t (c.self.view_is ∙ c.old_place.ensures.same) there in
    let place = c.in_ok-old.old.place in
    let kept = c.in_ok-old.ensures.some in
    record {
      some =
          subst (λ (o : OldText). IfSome c.bracket_at.result (IsOldToken o c.args.place)) (sym e)
          (old_token_if t old.marks c.args.place place c.bracket_at.result kept c.bracket_at.ensures.some);
      none =
          subst (λ (o : OldText). IfNone c.bracket_at.result (NoOldBracket o c.args.place)) (sym e)
          (no_old_bracket_if t old.marks c.args.place place c.bracket_at.result kept c.bracket_at.ensures.none);
      fits = token_fits_if t old.marks c.args.place place c.bracket_at.result kept c.length-length.ensures.light c.bracket_at.ensures.some;
      same = search rules;
    }
