use Rattle.std.proofs.Common.{Bor, ◌≡◌, ℕ, ◌+◌, ◌-◌, List, get_or, ap, subst, ◌∙◌, arith}
use Rattle.model_find.specs.declared.search.Search.{Search}
use Rattle.model_find.specs.Matching.{IsRunAt}
use Rattle.model_find.specs.Ahead.{KnowsStarts}
use Rattle.model_find.specs.Searching.{IsSame}
use Rattle.model_find.proofs.Matching.{run_unit, run_within, kept, kept_on}
use Rattle.model_find.proofs.search.Search.through.Goals as goal

same_after : (a b d : Search) → IsSame a b → IsSame b d → IsSame a d
same_after a b d first second = record {
  kind = first.kind ∙ second.kind;
  sought = first.sought ∙ second.sought;
  borders = first.borders ∙ second.borders;
}

-- the run, where part of it was read
run_so_far : (x run : List ℕ) (old now i : ℕ) → IsRunAt x old run → now ≡ old + i → IsRunAt x (now - i) run
run_so_far x run old now i is at =
    let start : old ≡ now - i = omega arith in
    subst (λ (n : ℕ). IsRunAt x n run) start is

pub loop-i-init : goal.loop-i-init
loop-i-init g c =
    let skip = c.skip-i.ensures in
    let old = c.args.self.now in
    record {
      same = skip.same;
      within = skip.within;
      at = omega (arith, skip.at);
      stands = λ x all stands is. skip.passes x all c.args.out.now.items stands (run_so_far x c.args.run.now old.at old.at 0 is (omega arith));
      before = kept c.args.out.now.items;
      knows = subst (λ (l : Bor (List ℕ)). KnowsStarts c.args.run.now l.now c.skip-i.new.starts) skip.same.sought skip.knows;
      known = skip.known;
      cost = omega (arith, skip.cost, skip.matched, c.none-starts.ensures.end);
    }

pub loop-i-preserved : goal.loop-i-preserved
loop-i-preserved g c =
    let inv = c.loop-i.invariant in
    let feed = c.in_ok-feed.ensures in
    let skip = c.skip-i-in-loop-i.ensures in
    let old = c.args.self.now in
    let i : ℕ = c.loop-i.i in
    record {
      same = same_after old c.feed.new.self c.skip-i-in-loop-i.new.self (same_after old c.loop-i.self c.feed.new.self inv.same feed.same) skip.same;
      within = skip.within;
      at = omega (arith, skip.at, feed.at, inv.at, skip.on);
      stands = λ x all stands is.
          let so_far = inv.stands x all stands is in
          let within = run_within old.kind x old.sought.now c.args.run.now old.at is (omega (arith, c.loop-i-test.true)) in
          let place : old.at + i ≡ c.loop-i.self.at = omega (arith, inv.at) in
          let unit = run_unit old.kind x old.sought.now c.args.run.now old.at i is c.loop-i-test.true ∙ ap (λ (n : ℕ). get_or x n 0) place in
          let fed = feed.reads x all so_far (omega (arith, within, place, c.loop-i-test.true), unit) in
          skip.passes x all c.feed.new.out.items fed (run_so_far x c.args.run.now old.at c.feed.new.self.at (i + 1) is (omega (arith, feed.at, inv.at)));
      before = kept_on c.args.out.now.items c.loop-i.out.items c.feed.new.out.items inv.before feed.before;
      knows = subst (λ (l : Bor (List ℕ)). KnowsStarts c.args.run.now l.now c.skip-i-in-loop-i.new.starts) skip.same.sought skip.knows;
      known = skip.known;
      cost = omega (arith, skip.cost, skip.matched, feed.cost, inv.cost, skip.on);
    }
