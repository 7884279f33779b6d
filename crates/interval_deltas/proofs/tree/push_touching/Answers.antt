use Rattle.std.proofs.Common.{◌≡◌, ℕ, ◌<◌, ◌≤◌, ℤ, ◌∷◌, ◌++◌, [], w64, to_z, of_z, refl, sym, ◌∙◌, ap, subst, arith, append_assoc}
use Rattle.std.proofs.lemmas.Int.{ints}
use Rattle.std.proofs.lemmas.List.{append-nil, length-append}
use Rattle.decoration_rules.specs.declared.Mark.{Mark}
use Rattle.decoration_rules.specs.Marks.{IsInOrder, touching}
use Rattle.interval_deltas.specs.declared.weave.KeptMark.{KeptMark}
use Rattle.interval_deltas.specs.Weave.{is_mark}
use Rattle.interval_deltas.specs.Kept.{AreMarks, FirstReaching, as_mark, capped, marks_of}
use Rattle.interval_deltas.proofs.Items.{each_right}
use Rattle.interval_deltas.proofs.Touching.{ended_apart, none_behind, reaching_touches, walk_end, walk_on, walk_more}
use Rattle.interval_deltas.proofs.tree.push_touching.Goals as goal

pub loop-turn-init : goal.loop-turn-init
loop-turn-init c =
    let items = c.args.tree.now.items in
    let own : to_z w64 (of_z w64 c.capped-start.result) ≡ capped c.args.span.start = omega (arith, ints, c.capped-start.ensures) in
    ([], (items, refl, subst (λ (z : ℤ). FirstReaching z items c.first_reaching-next.result) own c.first_reaching-next.ensures, omega arith, sym (append-nil c.args.out.now.items)))

pub mark-mark-requires : goal.mark-mark-requires
mark-mark-requires c =
    let items = c.args.tree.now.items in let span = c.args.span in let found : ℕ × KeptMark = c.in-Some.found in
    let (us, (vs, whole, next, turn, out)) = c.loop-turn.invariant in
    let (ws, (zs, is, low, high)) = subst (FirstReaching (capped span.start) vs) c.in-Some.is next in
    let (at, same) = walk_on span items us vs ws found zs c.requires.values whole is low in
    (each_right is_mark (us ++ ws) (found ∷ zs) (subst AreMarks at c.requires.values)).0

pub reaching_after-next-requires : goal.reaching_after-next-requires
reaching_after-next-requires c =
    let items = c.args.tree.now.items in let span = c.args.span in let found : ℕ × KeptMark = c.in-Some.found in
    let (us, (vs, whole, next, turn, out)) = c.loop-turn.invariant in
    let (ws, (zs, is, low, high)) = subst (FirstReaching (capped span.start) vs) c.in-Some.is next in
    let (at, same) = walk_on span items us vs ws found zs c.requires.values whole is low in
    (us ++ ws, (found.1, (zs, at)))

pub returns-in_default-clause-ok : goal.returns-in_default-clause-ok
returns-in_default-clause-ok c =
    let items = c.args.tree.now.items in let span = c.args.span in
    let (us, (vs, whole, next, turn, out)) = c.loop-turn.invariant in
    let low = subst (FirstReaching (capped span.start) vs) c.in_default.is next in
    let none = ended_apart span vs (each_right is_mark us vs (subst AreMarks whole c.requires.values)) low in
    out ∙ ap (λ l. c.args.out.now.items ++ l) (sym (walk_end span items us vs whole none))

pub returns-then-mark-span-clause-ok : goal.returns-then-mark-span-clause-ok
returns-then-mark-span-clause-ok c =
    let items = c.args.tree.now.items in let span = c.args.span in let found : ℕ × KeptMark = c.in-Some.found in
    let (us, (vs, whole, next, turn, out)) = c.loop-turn.invariant in
    let (ws, (zs, is, low, high)) = subst (FirstReaching (capped span.start) vs) c.in-Some.is next in
    let (at, same) = walk_on span items us vs ws found zs c.requires.values whole is low in
    let mark : c.mark-mark.result ≡ as_mark found.1 = c.mark-mark.ensures in
    let behind : span.end < (as_mark found.1).span.start = subst (λ (m : Mark). span.end < m.span.start) mark c.if-mark-span.true in
    let rest = none_behind span (us ++ ws) found zs (subst (λ l. IsInOrder (marks_of l)) at c.requires.ordered) behind in
    out ∙ ap (λ l. c.args.out.now.items ++ l) (sym (walk_end span items (us ++ ws) (found ∷ zs) at rest ∙ same))

pub loop-turn-preserved : goal.loop-turn-preserved
loop-turn-preserved c =
    let items = c.args.tree.now.items in let span = c.args.span in let found : ℕ × KeptMark = c.in-Some.found in
    let old = c.args.out.now.items in
    let (us, (vs, whole, next, turn, out)) = c.loop-turn.invariant in
    let (ws, (zs, is, low, high)) = subst (FirstReaching (capped span.start) vs) c.in-Some.is next in
    let (at, same) = walk_on span items us vs ws found zs c.requires.values whole is low in
    let value = (each_right is_mark (us ++ ws) (found ∷ zs) (subst AreMarks at c.requires.values)).0 in
    let mark : c.mark-mark.result ≡ as_mark found.1 = c.mark-mark.ensures in
    let first : (as_mark found.1).span.start ≤ span.end = subst (λ (m : Mark). m.span.start ≤ span.end) mark c.if-mark-span.false in
    let told : touching span (marks_of ((us ++ ws) ++ found ∷ [])) ≡ touching span (marks_of us) ++ as_mark found.1 ∷ [] =
    walk_more span (us ++ ws) found (reaching_touches span found.1 value first high) ∙ ap (λ l. l ++ as_mark found.1 ∷ []) same in
    let own : to_z w64 (of_z w64 c.capped-start.result) ≡ capped span.start = omega (arith, ints, c.capped-start.ensures) in
    let pushed : c.push.new.self.items ≡ c.loop-turn.out.items ++ as_mark found.1 ∷ [] = c.in_ok-push.ensures.items ∙ ap (λ (m : Mark). c.loop-turn.out.items ++ m ∷ []) mark in (
      (us ++ ws) ++ found ∷ [],
      (
        zs,
        at ∙ sym (append_assoc (us ++ ws) (found ∷ []) zs),
        subst (λ (z : ℤ). FirstReaching z zs c.reaching_after-next.result) own (c.reaching_after-next.ensures (us ++ ws) found.1 zs at),
        omega (arith, turn, length-append us ws, length-append (us ++ ws) (found ∷ [])),
        pushed ∙ ap (λ l. l ++ as_mark found.1 ∷ []) out ∙ append_assoc old (touching span (marks_of us)) (as_mark found.1 ∷ []) ∙ ap (λ l. old ++ l) (sym told),
      ),
    )
