use Rattle.std.proofs.Common.{sym, subst, arith, rules}
use Rattle.std.proofs.lemmas.List.{take_all}
use Rattle.std.proofs.lemmas.List.Sorted.{IsNonDecreasingBy-from_sort_by_key, All-permutation}
use Rattle.std.specs.List.{All}
use Rattle.std.specs.List.Sorted.{IsNonDecreasingBy}
use Rattle.piece_tree.specs.Pieces.{IsFound}
use Rattle.text_buffer.specs.Remembering.{end_of}
use Rattle.text_buffer.proofs.remembered.Remembered.settle.Goals as goal

pub invariant_of-self : goal.invariant_of-self
invariant_of-self c =
    let items = c.sort_unstable_by_key.new.self.items in
    let sorted = IsNonDecreasingBy-from_sort_by_key end_of items c.sort_unstable_by_key.ensures.sorted (λ a r q h. search rules) in (
      omega (arith, c.len-self-inside.ensures),
      subst (IsNonDecreasingBy end_of) (sym (take_all c.len-self-inside.result items (omega (arith, c.len-self-inside.ensures)))) sorted,
    )

pub returns-then-self-len : goal.returns-then-self-len
returns-then-self-len c = λ entries all.
    All-permutation (IsFound entries) c.self.inside.pieces.items c.sort_unstable_by_key.new.self.items c.sort_unstable_by_key.ensures.permutation
    (subst (All (IsFound entries)) (sym c.self.view_is) all)
