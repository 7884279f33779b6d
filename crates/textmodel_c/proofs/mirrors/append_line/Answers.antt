use Rattle.std.proofs.Common.{◌≡◌, ◌<◌, ◌≤◌, true, length, Result, Ok, Err, Option, sym, ap, ◌∙◌, arith}
use Rattle.std.specs.Prelude.{OnOk, is_ok}
use Rattle.std.specs.Option.{option_copied}
use Rattle.text_rules.specs.Lines.{lines_of}
use Rattle.document_rules.specs.Document.{content_of}
use Rattle.mirror_rules.specs.Mirrors.{MirrorState}
use Rattle.model_core.proofs.LineLemmas.{line_there}
use Rattle.textmodel_c.specs.Mirroring.{mirrored_line}
use Rattle.textmodel_c.proofs.mirrors.append_line.Goals as goal

where_ok : {T E : Type 0} (r : Result T E) (P : Type 0) → true ≡ is_ok r → OnOk r P → P
where_ok (Ok x) P is p = p
where_ok (Err e) P is p = absurd cc

pub returns : goal.returns
returns c =
    let first : 0 < c.args.n = omega (arith, c.if-n-eq0.false) in
    let last : c.args.n ≤ length (lines_of c.in_ok-mirror.mirror.now.units) = omega (arith, c.if-n-line_count.false, c.line_count.ensures) in
    let there = line_there c.in_ok-mirror.mirror.now.units c.args.n first last in
    let mirror = sym c.mirror_in.ensures ∙ ap option_copied c.in_ok-mirror.ensures.ok_part in (
      there.0.content,
      ap (λ (m : Option MirrorState). mirrored_line m c.args.n) mirror ∙ ap content_of there.1,
      where_ok c.line.result _ c.in_ok-map_err.ensures.variant (c.line.ensures.ok there.0 there.1),
    )
