use Rattle.std.proofs.Common.{rules, ◌≡◌, ◌≤◌, ◌<◌, ◌++◌, ◌∙◌, length, map, take, drop, get_or, set, sym, ap}
use Rattle.std.proofs.lemmas.List.{take_all, drop_all, append-nil}
use Rattle.batch_rules.specs.Batches.{op_in}
use Rattle.batch_rules.proofs.Answers.{ops_in-map}
use Rattle.edit_batches.proofs.TextPasses.{get_or-next, set-next}
use Rattle.edit_batches.proofs.kinds.ops_in.Goals as goal

pub loop-at-preserved : goal.loop-at-preserved
loop-at-preserved c =
    let given = c.args.ops.items in
    let at = c.loop-at.at in
    let old = c.index_mut.result.now in
    let kind = c.args.kind in
    let inside : at < length given = search rules in
    let found : get_or given at old ≡ old =
    sym (get_or-next (op_in kind) given at old inside) ∙ ap (λ l. get_or l at old) (sym c.loop-at.invariant) ∙ sym c.index_mut.ensures.value in
    let changed : (record old { text = c.normalize.new.self }) ≡ op_in kind (get_or given at old) =
    ap (λ t. record old { text = t }) c.in_ok-normalize.ensures.ok ∙ ap (op_in kind) (sym found) in
    ap (λ l. set l at (record old { text = c.normalize.new.self })) c.loop-at.invariant
    ∙ ap (set (map (op_in kind) (take at given) ++ drop at given) at) changed ∙ set-next (op_in kind) given at old inside

pub returns-clause-ok : goal.returns-clause-ok
returns-clause-ok c =
    let given = c.args.ops.items in
    let at = c.loop-at.at in
    let all : length given ≤ at = search rules in
    c.loop-at.invariant
    ∙ ap (λ l. map (op_in c.args.kind) l ++ drop at given) (take_all at given all)
    ∙ ap (λ l. map (op_in c.args.kind) given ++ l) (drop_all at given all)
    ∙ append-nil _ ∙ sym (ops_in-map c.args.kind given)
