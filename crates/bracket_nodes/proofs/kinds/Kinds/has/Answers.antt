use Rattle.std.proofs.Common.{◌≡◌, ℕ, ◌<◌, ◌^◌, false, eqb, ltb, ap, sym, ◌∙◌, arith}
use Rattle.std.proofs.lemmas.Bool.Decides.{nat_tests}
use Rattle.std.proofs.lemmas.Nat.Bits.{bit_at_above}
use Rattle.bracket_tree_rules.specs.Told.{has_kind}
use Rattle.bracket_nodes.proofs.kinds.Kinds.has.Goals as goal

pub returns-else-kind : goal.returns-else-kind
returns-else-kind c =
    let bits : ℕ = c.self.inside.bits in
    let fits : bits < 2 ^ 64 = omega arith in
    let late : ltb c.args.kind 64 ≡ false = grind (arith, nat_tests) in
    late ∙ ap (λ (n : ℕ). eqb n 1) (sym (bit_at_above bits 64 c.args.kind fits c.if-kind.false))
    ∙ ap (λ (n : ℕ). has_kind n c.args.kind) c.self.view_is
