use Rattle.std.proofs.Common.{inl, inr, arith}
use Rattle.std.proofs.lemmas.Bool.{cases_lt}
use Rattle.model_find.proofs.Ahead.{none_begins, first_within, none_before}
use Rattle.model_find.proofs.starts.Starts.next.Goals as goal

pub returns-then-self-run-clause-none : goal.returns-then-self-run-clause-none
returns-then-self-run-clause-none g c = λ k from below.
    elim (cases_lt k c.loop-self.self.at) [
      | inl before ↦ c.loop-self.invariant.none k from before
      | inr behind ↦ none_begins c.args.run.now c.args.sought.now c.loop-self.self c.loop-self.invariant.knows c.loop-self-test.true k behind below
    ]

pub loop-self-preserved : goal.loop-self-preserved
loop-self-preserved g c =
    let knows = c.loop-self.invariant.knows in
    record {
      knows = c.look.ensures.knows;
      behind = omega (arith, c.look.ensures.at, c.loop-self.invariant.behind);
      none = λ k from below. elim (cases_lt k c.loop-self.self.at) [
        | inl before ↦ c.loop-self.invariant.none k from before
        | inr behind ↦ none_begins c.args.run.now c.args.sought.now c.loop-self.self knows c.loop-self-test.true k behind (omega (arith, c.look.ensures.at))
      ];
      cost = omega (arith, c.add.ensures, c.look.ensures.at, c.loop-self.invariant.cost);
    }

pub returns-clause-within : goal.returns-clause-within
returns-clause-within g c =
    let knows = c.loop-self.invariant.knows in
    omega (arith, knows.within, first_within c.args.run.now c.args.sought.now c.loop-self.self knows (omega (arith, c.loop-self-test.false)))

pub returns-clause-none : goal.returns-clause-none
returns-clause-none g c = λ k from below.
    elim (cases_lt k c.loop-self.self.at) [
      | inl before ↦ c.loop-self.invariant.none k from before
      | inr behind ↦ none_before c.args.run.now c.args.sought.now c.loop-self.self c.loop-self.invariant.knows (omega (arith, c.loop-self-test.false)) k behind below
    ]

pub returns-clause-known : goal.returns-clause-known
returns-clause-known g c = λ inside.
    omega (arith, first_within c.args.run.now c.args.sought.now c.loop-self.self c.loop-self.invariant.knows (omega (arith, c.loop-self-test.false)))
