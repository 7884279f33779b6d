use Rattle.std.proofs.Common.{◌≡◌, ◌<◌, List, length, get_or, take, ltb, sym, ap, subst, ◌∙◌, arith, rules}
use Rattle.std.proofs.lemmas.Bool.{ltb-true}
use Rattle.std.proofs.lemmas.List.{get_or-take, length-take-le}
use Rattle.std.proofs.lemmas.List.Sorted.{IsPartitionPoint-from_clause, IsPartitionedBy-ltb}
use Rattle.std.specs.List.{All}
use Rattle.std.specs.List.Sorted.{IsNonDecreasingBy}
use Rattle.piece_tree.specs.declared.piece.Found.{Found}
use Rattle.piece_tree.specs.Pieces.{IsFound}
use Rattle.text_buffer.specs.Remembering.{end_of}
use Rattle.text_buffer.proofs.remembered.Remembered.forget_from.Goals as goal

-- what is left is found in the new text too
pub returns : goal.returns
returns c = λ old new all kept k d below.
    let items = c.self.inside.pieces.items in let settled = c.self.inside.settled in
    let n = c.partition_point-self-inside.result in let offset = c.args.offset in
    let front : List Found = take settled c.deref.result.now in
    let own = ap (take settled) c.deref.ensures.value in
    let size = ap length own ∙ length-take-le settled items c.self.invariant.0 in
    let parted = IsPartitionedBy-ltb end_of front offset (subst (IsNonDecreasingBy end_of) (sym own) c.self.invariant.1) in
    let point = IsPartitionPoint-from_clause (λ f. ltb (end_of f) offset) _ _ c.partition_point-self-inside.ensures.partitioned parted (λ a r q h. search rules) in
    let left = c.truncate.ensures.items in
    let bound = c.partition_point-self-inside.ensures.bound in
    let few : k < n = omega (arith, below, ap length left ∙ length-take-le n items (omega (arith, bound, size, c.self.invariant.0))) in
    let same = ap (λ (l : List Found). get_or l k d) left ∙ get_or-take n items k d few in
    let here : get_or front k d ≡ get_or items k d =
    ap (λ (l : List Found). get_or l k d) own ∙ get_or-take settled items k d (omega (arith, few, bound, size)) in
    let is = subst (All (IsFound old)) (sym c.self.view_is) all k d (omega (arith, few, bound, size, c.self.invariant.0)) in
    subst (IsFound new) (sym same)
    (kept (get_or items k d) is (subst (λ (f : Found). end_of f < offset) here (ltb-true _ _ (point.0 k d (omega arith) few))))
