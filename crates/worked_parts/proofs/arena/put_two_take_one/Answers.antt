use Rattle.std.proofs.Common.{◌≡◌, ◌≢◌, ◌+◌, ◌-◌, Some, refl, sym, ◌∙◌, ap, arith}
use Rattle.std.specs.Ordering.{nat_cmp}
use Rattle.std.specs.FinMap as map
use Rattle.std.proofs.lemmas.Cmp.{nat_cmp_total}
use Rattle.std.proofs.lemmas.Option.{none-some}
use Rattle.raw_arena.proofs.Names.{get-insert_same, get-insert_other, get-remove_other}
use Rattle.worked_parts.proofs.arena.put_two_take_one.Goals as goal

pub take-requires : goal.take-requires
take-requires c =
    let m = c.put-first.new.self.live in let first = c.put-first.result in let second = c.put-second.result in
    let here : map.get m first ≡ Some 7 = ap (λ l. map.get l first) c.put-first.ensures.live ∙ get-insert_same c.args.arena.now.live first 7 in
    let apart : first ≢ second = λ e. none-some 7 (sym c.put-second.ensures.new_name ∙ ap (map.get m) (sym e) ∙ here) in
    (7, ap (λ l. map.get l first) c.put-second.ensures.live ∙ get-insert_other m second 9 first apart ∙ here)

pub returns-clause-value : goal.returns-clause-value
returns-clause-value c =
    let m = c.put-first.new.self.live in let first = c.put-first.result in let second = c.put-second.result in
    let here : map.get m first ≡ Some 7 = ap (λ l. map.get l first) c.put-first.ensures.live ∙ get-insert_same c.args.arena.now.live first 7 in
    let apart : second ≢ first = λ e. none-some 7 (sym c.put-second.ensures.new_name ∙ ap (map.get m) e ∙ here) in
    ap (λ l. map.get l second) c.take.ensures.live ∙ get-remove_other c.put-second.new.self.live first second apart ∙ ap (λ l. map.get l second) c.put-second.ensures.live ∙ get-insert_same m second 9

pub returns-clause-one : goal.returns-clause-one
returns-clause-one c =
    let m0 = c.args.arena.now.live in let m1 = c.put-first.new.self.live in let m2 = c.put-second.new.self.live in let first = c.put-first.result in let second = c.put-second.result in
    let none : map.len m0 ≡ 0 = ap map.len c.requires.empty ∙ map.len-empty nat_cmp _ in
    let one : map.len m1 ≡ map.len m0 + 1 = ap map.len c.put-first.ensures.live ∙ map.len-insert nat_cmp_total m0 first 7 ∙ rw c.put-first.ensures.new_name refl in
    let two : map.len m2 ≡ map.len m1 + 1 = ap map.len c.put-second.ensures.live ∙ map.len-insert nat_cmp_total m1 second 9 ∙ rw c.put-second.ensures.new_name refl in
    let left : map.len c.take.new.self.live ≡ map.len m2 - 1 = ap map.len c.take.ensures.live ∙ map.len-remove nat_cmp_total m2 first ∙ rw c.take.ensures.value refl in
    omega (arith, none, one, two, left)
