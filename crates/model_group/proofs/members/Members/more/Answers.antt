use Rattle.std.proofs.Common.{◌≡◌, ℕ, ◌+◌, ◌*◌, ◌%◌, ◌^◌, ◌<◌, false, nat_eq, nat_le, bit_or, Some, sym, ap, ◌∙◌, arith, rules}
use Rattle.std.specs.Int.{bit_at}
use Rattle.std.proofs.lemmas.Bool.Decides.{nat_tests}
use Rattle.std.proofs.lemmas.Bool.{lt-leb}
use Rattle.std.proofs.lemmas.Nat.{or_disjoint}
use Rattle.group_rules.specs.declared.TheConstants.{DOC_COUNT}
use Rattle.model_group.specs.Losing.{has_doc}
use Rattle.std.proofs.lemmas.Nat.Bits.{and_pow, bit_at-lt}
use Rattle.model_group.proofs.members.Members.more.Goals as goal

-- a bit that is not set is added
added : (n k : ℕ) → k < 64 → nat_eq (bit_at n k) 1 ≡ false → bit_or n (1 * 2 ^ k % 18446744073709551616) ≡ n + 2 ^ k
added n k few unset =
    let none : bit_at n k ≡ 0 = grind (arith, nat_tests, bit_at-lt n k) in
    let shifted : 1 * 2 ^ k % 18446744073709551616 ≡ 2 ^ k = search rules in
    ap (bit_or n) shifted ∙ or_disjoint n (2 ^ k) (and_pow n k ∙ omega (arith, ap (λ b. b * 2 ^ k) none))

pub returns : goal.returns
returns c =
    let n = c.args.doc in
    let below : nat_le DOC_COUNT n ≡ false = lt-leb DOC_COUNT n c.if-doc-ge-DOC_COUNT.false in
    let free : has_doc c.args.self n ≡ false = sym c.has.ensures ∙ c.if-has.false in
    let sum : bit_or c.self.inside.bits (1 * 2 ^ n % 18446744073709551616) ≡ c.args.self + 2 ^ n = search (rules, added) in
    rw (below, free) (ap (λ m. Some m) sum)
