use Rattle.std.proofs.Common.{◌+◌, ◌<◌, None, length, set, ap, sym, ◌∙◌, subst, arith}
use Rattle.std.specs.Prelude.{IsSome}
use Rattle.std.specs.List.{count_by, filter}
use Rattle.std.proofs.lemmas.Bool.{false≢true}
use Rattle.std.proofs.lemmas.List.{length-set}
use Rattle.std.proofs.lemmas.List.Sums.{count_by-le-length}
use Rattle.std.proofs.lemmas.List.Kept.{AllPairs-filter}
use Rattle.paged_list.specs.List.{Paged}
use Rattle.interval_deltas.specs.declared.names.Entry.{Entry}
use Rattle.interval_deltas.specs.Names.{Named, node_of, HasNode, is_named}
use Rattle.interval_deltas.proofs.Naming.{has_set, has_swept, none_belongs, count-forget, count-swept, length-swept, IsById-set}
use Rattle.interval_deltas.proofs.names.Names.forget.Goals.{In_default}
use Rattle.interval_deltas.proofs.names.Names.forget.Goals as goal

-- the id has a node, so it has an entry
has_entry : (c : In_default) → ⊥
has_entry c =
    false≢true (subst IsSome (none_belongs c.self.inside.entries.items c.args.id c.in_default.field-0 c.in_default.ensures)
    (subst (λ (v : Named). IsSome (node_of v.entries c.args.id)) (sym c.self.view_is) c.requires))

pub returns-in_default-clause-node : goal.returns-in_default-clause-node
returns-in_default-clause-node c = absurd (has_entry c)

pub returns-in_default-clause-count : goal.returns-in_default-clause-count
returns-in_default-clause-count c = absurd (has_entry c)

pub invariant_of-self : goal.invariant_of-self
invariant_of-self c =
    let es = c.self.inside.entries.items in let at = c.in-Ok.at in let entry : Entry = record { id = c.args.id; node = None } in
    let some = subst (λ (v : Named). IsSome (node_of v.entries c.args.id)) (sym c.self.view_is) c.requires in
    let is = ap (λ (p : Paged Entry). p.items) c.set.ensures ∙ ap (set es at) c.of.ensures in (
      rw is (IsById-set es at entry c.self.invariant.0 c.in-Ok.ensures.0 c.in-Ok.ensures.1),
      omega (arith, c.self.invariant.1, ap (count_by is_named) is, ap length is, length-set es at entry, count-forget es c.args.id at c.self.invariant.0 c.in-Ok.ensures some),
    )

pub returns-then-self-len-clause-node : goal.returns-then-self-len-clause-node
returns-then-self-len-clause-node c =
    let es = c.self.inside.entries.items in let at = c.in-Ok.at in let entry : Entry = record { id = c.args.id; node = None } in
    subst (λ (v : Named). HasNode v.entries c.set.new.self.items c.args.id None) c.self.view_is
    (rw (ap (λ (p : Paged Entry). p.items) c.set.ensures ∙ ap (set es at) c.of.ensures) (has_set es at entry entry c.self.invariant.0 c.in-Ok.ensures.0 (c.in-Ok.ensures.1 entry)))

pub returns-then-self-len-clause-count : goal.returns-then-self-len-clause-count
returns-then-self-len-clause-count c =
    let some = subst (λ (v : Named). IsSome (node_of v.entries c.args.id)) (sym c.self.view_is) c.requires in
    ap (λ (p : Paged Entry). count_by is_named p.items + 1) c.set.ensures ∙ ap (λ e. count_by is_named (set c.self.inside.entries.items c.in-Ok.at e) + 1) c.of.ensures
    ∙ count-forget c.self.inside.entries.items c.args.id c.in-Ok.at c.self.invariant.0 c.in-Ok.ensures some ∙ ap (λ (v : Named). count_by is_named v.entries) c.self.view_is

pub invariant_of-self-else-self-len : goal.invariant_of-self-else-self-len
invariant_of-self-else-self-len c =
    let es = c.self.inside.entries.items in let at = c.in-Ok.at in let entry : Entry = record { id = c.args.id; node = None } in
    let by_id = IsById-set es at entry c.self.invariant.0 c.in-Ok.ensures.0 c.in-Ok.ensures.1 in
    let swept = ap (λ (p : Paged Entry). p.items) c.sweep.ensures ∙ ap (λ (p : Paged Entry). filter is_named p.items) c.set.ensures ∙ ap (λ e. filter is_named (set es at e)) c.of.ensures in (
      rw swept (AllPairs-filter (λ (a b : Entry). a.id < b.id) is_named (set es at entry) by_id),
      omega (arith, ap (count_by is_named) swept, ap length swept, count-swept (set es at entry), length-swept (set es at entry)),
    )

pub returns-else-self-len-clause-node : goal.returns-else-self-len-clause-node
returns-else-self-len-clause-node c =
    let es = c.self.inside.entries.items in let at = c.in-Ok.at in let entry : Entry = record { id = c.args.id; node = None } in
    let by_id = IsById-set es at entry c.self.invariant.0 c.in-Ok.ensures.0 c.in-Ok.ensures.1 in
    let swept = ap (λ (p : Paged Entry). p.items) c.sweep.ensures ∙ ap (λ (p : Paged Entry). filter is_named p.items) c.set.ensures ∙ ap (λ e. filter is_named (set es at e)) c.of.ensures in
    subst (λ (v : Named). HasNode v.entries c.sweep.new.entries.items c.args.id None) c.self.view_is
    (rw swept (has_swept es (set es at entry) c.args.id None by_id (has_set es at entry entry c.self.invariant.0 c.in-Ok.ensures.0 (c.in-Ok.ensures.1 entry))))

pub returns-else-self-len-clause-count : goal.returns-else-self-len-clause-count
returns-else-self-len-clause-count c =
    let es = c.self.inside.entries.items in let at = c.in-Ok.at in let entry : Entry = record { id = c.args.id; node = None } in
    let some = subst (λ (v : Named). IsSome (node_of v.entries c.args.id)) (sym c.self.view_is) c.requires in
    let swept = ap (λ (p : Paged Entry). p.items) c.sweep.ensures ∙ ap (λ (p : Paged Entry). filter is_named p.items) c.set.ensures ∙ ap (λ e. filter is_named (set es at e)) c.of.ensures in
    let shown = ap (λ (v : Named). count_by is_named v.entries) c.self.view_is in
    omega (arith, ap (count_by is_named) swept, shown, count-swept (set es at entry), count-forget es c.args.id at c.self.invariant.0 c.in-Ok.ensures some)

pub returns-else-self-len-clause-room : goal.returns-else-self-len-clause-room
returns-else-self-len-clause-room c =
    let es = c.self.inside.entries.items in let at = c.in-Ok.at in let entry : Entry = record { id = c.args.id; node = None } in
    let swept = ap (λ (p : Paged Entry). p.items) c.sweep.ensures ∙ ap (λ (p : Paged Entry). filter is_named p.items) c.set.ensures ∙ ap (λ e. filter is_named (set es at e)) c.of.ensures in
    let room = ap (λ (p : Paged Entry). p.capacity) c.sweep.ensures ∙ ap (λ (p : Paged Entry). p.capacity) c.set.ensures in
    let spare = ap (λ (v : Named). v.spare) c.self.view_is in
    omega (arith, spare, room, ap length swept, length-swept (set es at entry), count_by-le-length is_named (set es at entry), length-set es at entry)
