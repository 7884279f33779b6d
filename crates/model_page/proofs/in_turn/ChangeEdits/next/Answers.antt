use Rattle.std.proofs.Common.{◌≡◌, ℕ, ◌+◌, ◌-◌, ◌<◌, ◌≤◌, List, ◌∷◌, length, take, get_or, ap, sym, subst, ◌∙◌, arith}
use Rattle.text_rules.specs.declared.Op.{Op}
use Rattle.document_rules.specs.InTurn.{unforced, one_by_one}
use Rattle.model_page.specs.declared.change.Change.{Change}
use Rattle.model_page.specs.declared.change.Change.TheVariants.{Ops}
use Rattle.model_page.specs.Changes.{ops_by}
use Rattle.model_page.specs.InTurn.{edits_of_first, parts_along}
use Rattle.model_page.specs.Placed.{op_of}
use Rattle.model_page.proofs.LineEdits.{one_by_one-last}
use Rattle.model_page.proofs.in_turn.ChangeEdits.next.Goals as goal

pub returns-in_ok-at-in-Ops-clause-told : goal.returns-in_ok-at-in-Ops-clause-told
returns-in_ok-at-in-Ops-clause-told c =
    let way = c.self.inside.way in
    let left = c.self.inside.left in
    let at = c.in_ok-at-in-Ops.at in
    let change : Change = Ops c.in-Ops.batch c.in-Ops.inverse in
    let is : c.self.inside.change.now ≡ change = c.in-Ops.is in
    let ops : List Op = ops_by way change in
    let op : Op = op_of c.op.result in
    let here : op ≡ get_or ops at op = c.op.ensures ∙ ap (λ (all : List Op). get_or all at op) c.batch_for.ensures in
    let next : left ≡ at + 1 = omega arith in
    let inside : at < length ops = omega (arith, next, subst (λ (d : Change). left ≤ parts_along way d) is c.self.invariant) in
    sym c.self.view_is ∙ ap (edits_of_first left way) is ∙ ap (λ (k : ℕ). one_by_one (take k ops)) next ∙ one_by_one-last ops at op inside
    ∙ ap (λ (o : Op). unforced o ∷ one_by_one (take at ops)) (sym here)
    ∙ ap (λ (edits : List Op). unforced op ∷ edits) (ap (edits_of_first at way) (sym is))
