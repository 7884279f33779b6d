use Rattle.std.proofs.Common.{◌≡◌, ℕ, [], length, drop, sym, ap, ◌∙◌, arith}
use Rattle.std.proofs.lemmas.List.{length-drop}
use Rattle.model_find.proofs.Matching.{next_is, next_left, next_within, kept_on}
use Rattle.model_find.proofs.search.Search.through_all.Goals as goal

pub through-requires : goal.through-requires
through-requires g c =
    let x = g.R.Reader.left c.args.reader in
    let inv = c.loop-run.invariant in
    let within = next_within x (g.R.Reader.left c.loop-run.reader) c.in-Some.run'.now (g.R.Reader.left c.next_run.new.self) c.loop-run.self.at
    inv.left c.in-Some.ensures.run inv.within in
    omega (arith, within, c.requires.small)

pub loop-run-preserved : goal.loop-run-preserved
loop-run-preserved g c =
    let x = g.R.Reader.left c.args.reader in
    let rest = g.R.Reader.left c.loop-run.reader in
    let left = g.R.Reader.left c.next_run.new.self in
    let run = c.in-Some.run'.now in
    let inv = c.loop-run.invariant in
    let at : ℕ = c.loop-run.self.at in
    let parts = c.in-Some.ensures.run in
    let within = next_within x rest run left at inv.left parts inv.within in
    let through = c.in_ok-through.ensures in
    record {
      left = next_left x rest run left at inv.left parts ∙ ap (λ (n : ℕ). drop n x) (sym through.at);
      within = omega (arith, through.at, within);
      stands = λ all stands. through.reads x all (inv.stands all stands) (next_is x rest run left at inv.left parts);
      before = kept_on c.args.out.now.items c.loop-run.out.items c.through.new.out.items inv.before through.before;
      cost = omega (arith, through.cost, through.at, inv.cost);
    }

pub returns-in_err-through-clause-cost : goal.returns-in_err-through-clause-cost
returns-in_err-through-clause-cost g c =
    let x = g.R.Reader.left c.args.reader in
    let inv = c.loop-run.invariant in
    let within = next_within x (g.R.Reader.left c.loop-run.reader) c.in-Some.run'.now (g.R.Reader.left c.next_run.new.self) c.loop-run.self.at
    inv.left c.in-Some.ensures.run inv.within in
    omega (arith, within, c.through.ensures.cost, inv.cost)

pub returns-clause-found : goal.returns-clause-found
returns-clause-found g c = λ all stands.
    let x = g.R.Reader.left c.args.reader in
    let inv = c.loop-run.invariant in
    let none : drop c.loop-run.self.at x ≡ [] = sym inv.left ∙ c.in_default.ensures.run in
    let end : c.loop-run.self.at ≡ length x = omega (arith, inv.within, ap length none, length-drop c.loop-run.self.at x) in
    c.finish.ensures.found x all (inv.stands all stands) end
