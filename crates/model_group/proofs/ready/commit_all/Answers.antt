use Rattle.std.proofs.Common.{◌≡◌, ◌∷◌, [], ◌++◌, length, ap, sym, ◌∙◌, append_assoc, arith}
use Rattle.std.specs.Vec.Iter.{into_iter_items}
use Rattle.model_group.specs.Prepared.{CanIn, acts_in}
use Rattle.model_group.proofs.Committing.{next_ready, next_done}
use Rattle.model_group.proofs.ready.commit_all.Goals as goal

pub commit_step-requires-clause-ready : goal.commit_step-requires-clause-ready
commit_step-requires-clause-ready c =
    let steps : into_iter_items c.loop-one.one-iterator ≡ c.in-Some.one ∷ into_iter_items c.next.new.self = c.in-Some.ensures.steps.0 in
    let whole = ap (λ rest. c.loop-one.yielded ++ rest) (sym steps) ∙ c.loop-one.invariant.all in
    next_ready (acts_in c.args.manner) (CanIn c.args.manner) c.args.ready.items c.loop-one.yielded c.in-Some.one (into_iter_items c.next.new.self)
    c.args.models.now c.loop-one.models whole c.requires.apart c.requires.each c.loop-one.invariant.done

pub loop-one-preserved : goal.loop-one-preserved
loop-one-preserved c =
    let steps : into_iter_items c.loop-one.one-iterator ≡ c.in-Some.one ∷ into_iter_items c.next.new.self = c.in-Some.ensures.steps.0 in
    let whole = ap (λ rest. c.loop-one.yielded ++ rest) (sym steps) ∙ c.loop-one.invariant.all in
    record {
      all = append_assoc c.loop-one.yielded (c.in-Some.one ∷ []) _ ∙ whole;
      len = omega (arith, c.loop-one.invariant.len, c.in-Some.ensures.steps.1, ap length steps);
      done = next_done (acts_in c.args.manner) (CanIn c.args.manner) c.args.ready.items c.loop-one.yielded c.in-Some.one
          (into_iter_items c.next.new.self) c.args.models.now c.loop-one.models whole c.requires.apart c.requires.each c.loop-one.invariant.done
          c.commit_step.new.models c.commit_step.ensures;
    }
