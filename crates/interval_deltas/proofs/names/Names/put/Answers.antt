use Rattle.std.proofs.Common.{◌≡◌, ℕ, ◌+◌, ◌≤◌, List, Some, None, length, set, ap, ◌∙◌, subst, arith}
use Rattle.std.specs.List.{count_by, insert}
use Rattle.std.proofs.lemmas.List.{length-set}
use Rattle.std.proofs.lemmas.List.Edits.{length-insert}
use Rattle.std.proofs.lemmas.List.Sums.{count_by-le-length}
use Rattle.paged_list.specs.List.{Paged}
use Rattle.interval_deltas.specs.declared.names.Entry.{Entry}
use Rattle.interval_deltas.specs.Names.{Named, node_of, HasNode, IsById, StandsAt, is_named}
use Rattle.interval_deltas.proofs.Naming.{has_set, has_insert, count-put, count-insert, IsById-set, IsById-insert}
use Rattle.interval_deltas.proofs.names.Names.put.Goals as goal

more : (es : List Entry) (id at node : ℕ) → IsById es → StandsAt es id at → node_of es id ≡ None → count_by is_named es + 1 ≤ length es
more es id at node by_id stands none =
    let e : Entry = record { id = id; node = Some node } in
    omega (arith, count-put es id at node by_id stands none, count_by-le-length is_named (set es at e), length-set es at e)

pub overflow_sub-self : goal.overflow_sub-self
overflow_sub-self c =
    let none : node_of c.self.inside.entries.items c.args.id ≡ None = ap (λ (v : Named). node_of v.entries c.args.id) c.self.view_is ∙ c.requires.new in
    omega (arith, c.self.invariant.1, more c.self.inside.entries.items c.args.id c.in-Ok.at c.args.node c.self.invariant.0 c.in-Ok.ensures none)

pub invariant_of-self : goal.invariant_of-self
invariant_of-self c =
    let es = c.self.inside.entries.items in let at = c.in-Ok.at in let id = c.args.id in let stands = c.in-Ok.ensures in
    let entry : Entry = record { id = id; node = Some c.args.node } in
    let none : node_of es id ≡ None = ap (λ (v : Named). node_of v.entries id) c.self.view_is ∙ c.requires.new in
    let is = ap (λ (p : Paged Entry). p.items) c.set.ensures ∙ ap (set es at) c.of-entry.ensures in (
      rw is (IsById-set es at entry c.self.invariant.0 stands.0 stands.1),
      omega (
        arith,
        c.self.invariant.1,
        ap (count_by is_named) is,
        ap length is,
        length-set es at entry,
        count-put es id at c.args.node c.self.invariant.0 stands none,
        more es id at c.args.node c.self.invariant.0 stands none,
      ),
    )

pub returns-in-Ok-clause-node : goal.returns-in-Ok-clause-node
returns-in-Ok-clause-node c =
    let es = c.self.inside.entries.items in let at = c.in-Ok.at in let entry : Entry = record { id = c.args.id; node = Some c.args.node } in
    subst (λ (v : Named). HasNode v.entries c.set.new.self.items c.args.id (Some c.args.node)) c.self.view_is
    (rw (ap (λ (p : Paged Entry). p.items) c.set.ensures ∙ ap (set es at) c.of-entry.ensures) (has_set es at entry entry c.self.invariant.0 c.in-Ok.ensures.0 (c.in-Ok.ensures.1 entry)))

pub returns-in-Ok-clause-count : goal.returns-in-Ok-clause-count
returns-in-Ok-clause-count c =
    let es = c.self.inside.entries.items in
    let none : node_of es c.args.id ≡ None = ap (λ (v : Named). node_of v.entries c.args.id) c.self.view_is ∙ c.requires.new in
    ap (λ (p : Paged Entry). count_by is_named p.items) c.set.ensures ∙ ap (λ e. count_by is_named (set es c.in-Ok.at e)) c.of-entry.ensures
    ∙ count-put es c.args.id c.in-Ok.at c.args.node c.self.invariant.0 c.in-Ok.ensures none ∙ ap (λ (v : Named). count_by is_named v.entries + 1) c.self.view_is

pub invariant_of-self-in-Err : goal.invariant_of-self-in-Err
invariant_of-self-in-Err c =
    let es = c.self.inside.entries.items in let at = c.in-Err.at in let belongs = c.in-Err.ensures in
    let entry : Entry = record { id = c.args.id; node = Some c.args.node } in
    let is = ap (λ (p : Paged Entry). p.items) c.insert_at.ensures ∙ ap (insert es at) c.of-entry.ensures in (
      rw is (IsById-insert es at entry c.self.invariant.0 belongs.1 belongs.2 belongs.0),
      omega (arith, c.self.invariant.1, ap (count_by is_named) is, count-insert es at entry, ap length is, length-insert es at entry belongs.0),
    )

pub returns-in-Err-clause-node : goal.returns-in-Err-clause-node
returns-in-Err-clause-node c =
    let es = c.self.inside.entries.items in let at = c.in-Err.at in let belongs = c.in-Err.ensures in
    let entry : Entry = record { id = c.args.id; node = Some c.args.node } in
    subst (λ (v : Named). HasNode v.entries c.insert_at.new.entries.items c.args.id (Some c.args.node)) c.self.view_is
    (rw (ap (λ (p : Paged Entry). p.items) c.insert_at.ensures ∙ ap (insert es at) c.of-entry.ensures) (has_insert es at entry belongs.1 belongs.0))

pub returns-in-Err-clause-count : goal.returns-in-Err-clause-count
returns-in-Err-clause-count c =
    let es = c.self.inside.entries.items in let at = c.in-Err.at in let entry : Entry = record { id = c.args.id; node = Some c.args.node } in
    ap (λ (p : Paged Entry). count_by is_named p.items) c.insert_at.ensures ∙ ap (λ e. count_by is_named (insert es at e)) c.of-entry.ensures
    ∙ count-insert es at entry ∙ ap (λ (v : Named). count_by is_named v.entries + 1) c.self.view_is
