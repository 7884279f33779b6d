-- The cost of consecutive look-ups, with examples in numbers.
use Rattle.std.proofs.Common.{◌≡◌, ℕ, ◌+◌, ◌-◌, ◌*◌, ◌≤◌, ◌^◌, sym, ap, subst, arith, lit≤, lit<}
use Rattle.std.proofs.Math.Nat.{pow-le-pow_right, one-le-pow, mul-le-mul}
use Rattle.std.proofs.lemmas.Nat.{pow-add}
use Rattle.piece_tree.specs.Costs.{WithinLookUps}

-- among 1, 7 and 1,000 pieces a look-up visits at most 2, 6 and 19 nodes
two_nodes_of_one_piece : WithinLookUps 1 1 2 × ¬ WithinLookUps 1 1 3
two_nodes_of_one_piece = (lit≤ tt, λ more. absurd (omega (arith, more)))

six_nodes_of_seven_pieces : WithinLookUps 1 7 6 × ¬ WithinLookUps 1 7 7
six_nodes_of_seven_pieces = (lit≤ tt, λ more. absurd (omega (arith, more)))

nineteen_nodes_of_a_thousand_pieces : WithinLookUps 1 1000 19 × ¬ WithinLookUps 1 1000 20
nineteen_nodes_of_a_thousand_pieces = (lit≤ tt, λ more. absurd (omega (arith, more)))

-- no node was visited
pub no_look_up : (look_ups pieces from to : ℕ) → from ≡ to → WithinLookUps look_ups pieces (to - from)
no_look_up look_ups pieces from to same =
    let none : to - from ≡ 0 = omega arith in
    subst (WithinLookUps look_ups pieces) (sym none) (one-le-pow (2 * look_ups) (pieces + 1) (omega arith))

-- a bound for fewer look-ups holds for more
pub fewer_look_ups : (few many pieces nodes : ℕ) → few ≤ many → WithinLookUps few pieces nodes → WithinLookUps many pieces nodes
fewer_look_ups few many pieces nodes fewer cost =
    let up = pow-le-pow_right {n = pieces + 1} (omega arith) {i = 2 * few} {j = 2 * many} (omega arith) in omega (arith, cost, up)

-- the bounds of consecutive look-ups add up
pub look_ups-add : (first second pieces from between to : ℕ) → WithinLookUps first pieces (between - from) → WithinLookUps second pieces (to - between)
    → WithinLookUps (first + second) pieces (to - from)
look_ups-add first second pieces from between to one other =
    let both = mul-le-mul one other in
    let nodes : 2 ^ (between - from + (to - between)) ≡ 2 ^ (between - from) * 2 ^ (to - between) = pow-add 2 (between - from) (to - between) in
    let bound : (pieces + 1) ^ (2 * first + 2 * second) ≡ (pieces + 1) ^ (2 * first) * (pieces + 1) ^ (2 * second) = pow-add (pieces + 1) (2 * first) (2 * second) in
    let whole : 2 * (first + second) ≡ 2 * first + 2 * second = omega arith in
    let up = pow-le-pow_right {n = 2} (lit< tt) {i = to - from} {j = between - from + (to - between)} (omega arith) in
    omega (arith, both, nodes, bound, ap (λ k. (pieces + 1) ^ k) whole, up)
