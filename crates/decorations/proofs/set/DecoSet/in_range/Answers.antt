use Rattle.std.proofs.Common.{◌++◌, map, sym, ◌∙◌, ap}
use Rattle.std.proofs.lemmas.List.{append-nil}
use Rattle.decoration_rules.specs.Marks.{touches}
use Rattle.decoration_rules.specs.Decorations.{deco_of, is_of}
use Rattle.decorations.proofs.Counted.{filter-none}
use Rattle.decorations.proofs.set.DecoSet.in_range.Goals as goal

pub returns-then-lacks-clause-ok : goal.returns-then-lacks-clause-ok
returns-then-lacks-clause-ok c =
    sym (append-nil c.args.out.now.items)
    ∙ ap (λ ms. c.args.out.now.items ++ map deco_of ms)
    (sym (filter-none (is_of c.args.owner) (touches c.args.span) c.args.self.now.marks (c.lacks.ensures.0 c.if-lacks.true)))
