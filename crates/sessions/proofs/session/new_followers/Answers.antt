use Rattle.std.proofs.Common.{◌≡◌, ◌+◌, ◌++◌, ◌∷◌, [], length, length-append, slice_get, Some, None, ap, sym, ◌∙◌, arith}
use Rattle.sessions.proofs.StandingLemmas.{fresh_more}
use Rattle.sessions.proofs.session.new_followers.Goals as goal

pub loop-init : goal.loop-init
loop-init c = record {
  count = ap length c.in_ok-followers.ensures.items;
  each = λ n own is.
      let none : None ≡ Some own = sym (ap (λ xs. slice_get xs n) c.in_ok-followers.ensures.items) ∙ is in absurd cc;
}

pub loop-preserved : goal.loop-preserved
loop-preserved c =
    let before = c.loop.followers.items in
    let pushed : c.push.new.self.items ≡ before ++ c.new.result ∷ [] = c.in_ok-push.ensures.items in
    record {
      count = ap length pushed ∙ length-append before (c.new.result ∷ []) ∙ ap (λ n. n + 1) c.loop.invariant.count;
      each = λ n own is.
          fresh_more before c.new.result c.loop.invariant.each (record { mirror = c.new.ensures.mirror; sent = c.new.ensures.sent }) n own
          (sym (ap (λ xs. slice_get xs n) pushed) ∙ is);
    }

pub returns : goal.returns
returns c = record { count = omega (arith, c.loop.invariant.count, c.loop-test.false, c.loop.auto.counter-end); each = c.loop.invariant.each }
