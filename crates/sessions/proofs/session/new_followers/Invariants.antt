use Rattle.std.proofs.Common.{◌≡◌, ℕ, length, slice_get, Some}
use Rattle.sessions.specs.declared.session.Follower.{Follower}
use Rattle.sessions.specs.Standing.{IsFresh}
use Rattle.sessions.proofs.session.new_followers.Given as goal

abbrev pub invariant-loop : goal.invariant-loop
invariant-loop l = record {
  count : length l.followers.items ≡ l.counter;
  each : (n : ℕ) (own : Follower) → slice_get l.followers.items n ≡ Some own → IsFresh own;
}
