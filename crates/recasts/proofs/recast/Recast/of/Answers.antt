use Rattle.std.proofs.Common.{◌≡◌, ◌∙◌, List, ℕ, map, ap, ap₂, sym, subst, arith}
use Rattle.unit_text.specs.Kinds.{normalized}
use Rattle.decoration_rules.specs.LineMoves.{line_moves, turned, HaveSameContents}
use Rattle.decoration_rules.specs.Recasts.{SideState, AreSides}
use Rattle.decoration_rules.proofs.Contents.{contents-normalized}
use Rattle.decoration_rules.proofs.LineMoves.{line_moves-turned}
use Rattle.recasts.proofs.recast.Recast.of.Goals as goal

pub line_moves-requires : goal.line_moves-requires
line_moves-requires g c =
    rw (c.deref-2.ensures.value, c.deref-3.ensures.value, c.in_ok-after.ensures, c.deref.ensures.value)
    (contents-normalized c.args.kind c.in_ok-before.before.items)

pub invariant_of-result : goal.invariant_of-result
invariant_of-result g c =
    let before : List ℕ = c.in_ok-before.before.items in
    let after : List ℕ = c.in_ok-after.after.items in
    let same : after ≡ normalized c.args.kind before = c.in_ok-after.ensures ∙ ap (normalized c.args.kind) c.deref.ensures.value in
    let contents : HaveSameContents before after = rw same (contents-normalized c.args.kind before) in
    let on : c.in_ok-on.on.items ≡ line_moves before after =
    c.in_ok-on.ensures ∙ ap₂ line_moves c.deref-2.ensures.value c.deref-3.ensures.value in
    let first : SideState = record { units = before; kind = c.kind.result; moves = c.in_ok-back.back.items } in
    let second : SideState = record { units = after; kind = c.args.kind; moves = c.in_ok-on.on.items } in
    let sides : AreSides first second = record {
      endings = rw (c.kind.ensures, c.in_ok-before.ensures) c.requires.endings;
      same = same;
      before_fits = rw c.in_ok-before.ensures c.requires.fits;
      after_fits = omega (arith, c.if-len-gt-MOST_TEXT_UNITS.false, c.len.ensures, c.in_ok-after.after.ok.0);
      back = c.in_ok-back.ensures ∙ ap (map turned) (c.deref-4.ensures.value ∙ on) ∙ sym (line_moves-turned before after contents);
      on = on;
    } in
    subst (λ (b : SideState). AreSides b c.new-2.result) (sym c.new.ensures) (subst (AreSides first) (sym c.new-2.ensures) sides)
