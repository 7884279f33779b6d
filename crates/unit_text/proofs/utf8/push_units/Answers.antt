use Rattle.std.proofs.Common.{◌≡◌, ◌++◌, length, sym, ap, ◌∙◌, rules}
use Rattle.std.proofs.lemmas.List.{append-nil, nil_from_length}
use Rattle.unit_text.specs.Text.{units_of}
use Rattle.unit_text.proofs.Fronts.{units_of_nil}
use Rattle.unit_text.proofs.utf8.push_units.Goals as goal

pub returns-clause-ok : goal.returns-clause-ok
returns-clause-ok c =
    let empty : length c.loop-rest.rest.now ≡ 0 = search rules in
    let none = ap units_of (nil_from_length c.loop-rest.rest.now empty) ∙ units_of_nil in
    sym (append-nil c.loop-rest.out.items) ∙ ap (λ units. c.loop-rest.out.items ++ units) (sym none) ∙ c.loop-rest.invariant.text
