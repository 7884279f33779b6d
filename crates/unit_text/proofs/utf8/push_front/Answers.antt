use Rattle.std.proofs.Common.{sym, ap, ◌++◌, ◌∙◌, take, drop}
use Rattle.std.proofs.lemmas.List.{append_assoc}
use Rattle.unit_text.specs.Text.{units_of}
use Rattle.unit_text.proofs.Fronts.{past_ascii}
use Rattle.unit_text.proofs.utf8.push_front.Goals as goal

pub returns-in_ok-push_ascii-in-Some-clause-ok : goal.returns-in_ok-push_ascii-in-Some-clause-ok
returns-in_ok-push_ascii-in-Some-clause-ok c =
    let text = c.args.text.now in
    let front = c.in-Some.ensures.front in
    rw (c.in_ok-push_ascii-in-Some.ensures.ok, front, c.in-Some.ensures.after)
    (append_assoc c.args.out.now.items (units_of (take 32 text)) (units_of (drop 32 text))
    ∙ ap (λ units. c.args.out.now.items ++ units) (sym (past_ascii 32 text (rw front at c.in-Some.ensures.ascii))))
