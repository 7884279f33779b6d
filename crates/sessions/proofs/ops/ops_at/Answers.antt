use Rattle.std.proofs.Common.{◌≡◌, ◌∷◌, [], ◌++◌, List, length, Some, None, refl, sym, ap, ◌∙◌, append_assoc, append-nil, arith}
use Rattle.std.proofs.lemmas.Grind.{common_steps}
use Rattle.std.specs.Vec.Iter.{into_iter_items}
use Rattle.script_lines.specs.declared.op.LineOp.{LineOp}
use Rattle.group_rules.specs.Group.{doc_in}
use Rattle.model_group.specs.State.{documents}
use Rattle.session_rules.specs.Step.{op_at, ops_at}
use Rattle.sessions.proofs.OpLemmas.{ops_at-more, ops_at-refused}
use Rattle.sessions.proofs.ops.ops_at.Goals as goal

nothing_left : (ops : List LineOp) → length ops ≡ 0 → ops ≡ []
nothing_left [] none = refl
nothing_left (op ∷ ops) none = absurd (omega arith)

pub loop-op-init : goal.loop-op-init
loop-op-init c = record {
  all = c.into_iter-op-iterator.ensures.into_iter_gives.0 ∙ c.into_vec-ops.ensures;
  len = grind (arith, common_steps);
  found = grind (arith, common_steps);
  same = refl;
}

pub returns-in_err-op-clause-found : goal.returns-in_err-op-clause-found
returns-in_err-op-clause-found c =
    let f = doc_in (documents c.args.group.now) c.args.doc in
    let steps : into_iter_items c.loop-op.op-iterator ≡ c.in-Some.op ∷ into_iter_items c.next.new.self = c.in-Some.ensures.steps.0 in
    let none : op_at f c.in-Some.op ≡ None = grind (arith, common_steps) in
    let refused : ops_at f c.args.ops ≡ None =
    ap (ops_at f) (sym c.loop-op.invariant.all ∙ ap (λ rest. c.loop-op.yielded ++ rest) steps) ∙ ops_at-refused f c.loop-op.yielded c.in-Some.op (into_iter_items c.next.new.self) none in
    grind (arith, common_steps)

pub loop-op-preserved : goal.loop-op-preserved
loop-op-preserved c =
    let f = doc_in (documents c.args.group.now) c.args.doc in
    let steps : into_iter_items c.loop-op.op-iterator ≡ c.in-Some.op ∷ into_iter_items c.next.new.self = c.in-Some.ensures.steps.0 in
    let is : op_at f c.in-Some.op ≡ Some c.in_ok-op.op = grind (arith, common_steps) in
    let pushed : c.push.new.self.items ≡ c.loop-op.found.items ++ c.in_ok-op.op ∷ [] = grind (arith, common_steps) in
    let gone = c.in-Some.ensures.steps.1 in
    let short = ap length steps in
    record {
      all = append_assoc c.loop-op.yielded (c.in-Some.op ∷ []) _ ∙ ap (λ rest. c.loop-op.yielded ++ rest) (sym steps) ∙ c.loop-op.invariant.all;
      len = omega (arith, c.loop-op.invariant.len, gone, short);
      found = ops_at-more f c.loop-op.yielded c.in-Some.op c.loop-op.found.items c.in_ok-op.op c.loop-op.invariant.found is ∙ ap Some (sym pushed);
      same = grind (arith, common_steps);
    }

pub returns-clause-found : goal.returns-clause-found
returns-clause-found c =
    let f = doc_in (documents c.args.group.now) c.args.doc in
    let empty : into_iter_items c.loop-op.op-iterator ≡ [] = nothing_left _ (sym c.loop-op.invariant.len ∙ c.in-None.ensures.steps.0) in
    let all = sym (append-nil c.loop-op.yielded) ∙ ap (λ rest. c.loop-op.yielded ++ rest) (sym empty) ∙ c.loop-op.invariant.all in
    sym (ap (ops_at f) all) ∙ c.loop-op.invariant.found
