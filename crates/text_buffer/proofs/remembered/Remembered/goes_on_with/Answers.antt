use Rattle.std.proofs.Common.{◌≤◌, ◌<◌, ◌-◌, ◌++◌, ◌∷◌, List, [], length, get_or, subst, arith}
use Rattle.std.specs.List.Sorted.{IsNonDecreasingBy}
use Rattle.std.proofs.lemmas.List.{take_all}
use Rattle.std.proofs.lemmas.List.Sorted.{IsNonDecreasingBy-push}
use Rattle.piece_tree.specs.declared.piece.Found.{Found}
use Rattle.text_buffer.specs.Remembering.{end_of}
use Rattle.text_buffer.proofs.remembered.Remembered.goes_on_with.Goals as goal

pub returns : goal.returns
returns c = λ is.
    let items = c.self.inside.pieces.items in
    let settled = c.self.inside.settled in
    let found = c.args.found.now in
    let whole : length items ≤ settled = omega (arith, c.len.ensures, c.if-self-len.false) in
    let sorted = subst (IsNonDecreasingBy end_of) (take_all settled items whole) c.self.invariant.1 in
    let behind = subst (λ (l : List Found). (d : Found) → 0 < length l → end_of (get_or l (length l - 1) d) ≤ found.before.units) c.deref.ensures.value
    (c.end_by.ensures is) in
    subst (λ (l : List Found). IsNonDecreasingBy end_of (l ++ found ∷ [])) c.self.view_is
    (IsNonDecreasingBy-push end_of items found sorted (λ d some. omega (arith, behind d some)))
