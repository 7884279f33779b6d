use Rattle.std.proofs.Common.{◌<◌, ◌≤◌, length, sym, subst}
use Rattle.piece_tree.specs.Runs.{most_pieces}
use Rattle.piece_tree.proofs.Storing.{told_first, few_read, few_pieces, some_read}
use Rattle.piece_tree.proofs.runs.RunWalk.next.Goals as goal

pub visit-requires : goal.visit-requires
visit-requires g c =
    let (s, rest) = told_first c.self.inside.stored.now c.self.inside.walk.left c.next.new.self.left (c.in_ok-id.id, c.in_ok-id.run') c.in_ok-id.ensures.item.1 c.self.invariant in
    (s.run, s.there)

pub pieces-requires : goal.pieces-requires
pieces-requires g c =
    let (s, rest) = told_first c.self.inside.stored.now c.self.inside.walk.left c.next.new.self.left (c.in_ok-id.id, c.in_ok-id.run') c.in_ok-id.ensures.item.1 c.self.invariant in
    few_read c.self.inside.stored.now (c.in_ok-id.id, c.in_ok-id.run') s c.visit.result.now c.visit.ensures.value

pub invariant_of-self-2 : goal.invariant_of-self-2
invariant_of-self-2 g c =
    let (s, rest) = told_first c.self.inside.stored.now c.self.inside.walk.left c.next.new.self.left (c.in_ok-id.id, c.in_ok-id.run') c.in_ok-id.ensures.item.1 c.self.invariant in
    rest

pub returns-clause-some : goal.returns-clause-some
returns-clause-some g c =
    let (s, rest) = told_first c.self.inside.stored.now c.self.inside.walk.left c.next.new.self.left (c.in_ok-id.id, c.in_ok-id.run') c.in_ok-id.ensures.item.1 c.self.invariant in
    subst (λ ps. 0 < length ps) (sym c.pieces.ensures) (some_read c.self.inside.stored.now (c.in_ok-id.id, c.in_ok-id.run') s c.visit.result.now c.visit.ensures.value)

pub returns-clause-few : goal.returns-clause-few
returns-clause-few g c =
    let (s, rest) = told_first c.self.inside.stored.now c.self.inside.walk.left c.next.new.self.left (c.in_ok-id.id, c.in_ok-id.run') c.in_ok-id.ensures.item.1 c.self.invariant in
    subst (λ ps. length ps ≤ most_pieces) (sym c.pieces.ensures) (few_pieces c.self.inside.stored.now (c.in_ok-id.id, c.in_ok-id.run') s c.visit.result.now c.visit.ensures.value)
