use Rattle.std.proofs.Common.{◌≡◌, ℕ, ◌<◌, ◌^◌, ap, sym, ◌∙◌, arith}
use Rattle.std.specs.Prelude.{bit_and}
use Rattle.std.proofs.lemmas.Bool.{eqb-true, eq-eqb}
use Rattle.bracket_tree_rules.specs.Told.{has_kind}
use Rattle.bracket_tree_rules.proofs.KindSets.{kinds_apart, apart_kinds}
use Rattle.bracket_nodes.proofs.kinds.Kinds.is_apart_from.Goals as goal

pub returns : goal.returns
returns c =
    let a : ℕ = c.self.inside.bits in
    let b : ℕ = c.other.inside.bits in
    let fits : a < 2 ^ 64 = omega arith in
    let same : a ≡ c.args.self = c.self.view_is in
    let same_other : b ≡ c.args.other = c.other.view_is in (
      λ h k e. ap (λ (n : ℕ). has_kind n k) (sym same_other)
          ∙ kinds_apart a b (eqb-true (bit_and a b) 0 h) k (ap (λ (n : ℕ). has_kind n k) same ∙ e),
      λ apart. eq-eqb (bit_and a b) 0
          (apart_kinds a b fits (λ k e. ap (λ (n : ℕ). has_kind n k) same_other
          ∙ apart k (ap (λ (n : ℕ). has_kind n k) (sym same) ∙ e))),
    )
