use Rattle.std.proofs.Common.{◌+◌, ◌∙◌, sym, subst, arith}
use Rattle.bracket_tree_rules.specs.Tree.{Tree}
use Rattle.bracket_nodes.specs.Borrowed.{node_of}
use Rattle.node_reuse.specs.OldText.{OldText, IsReusable, IsLongestReusable, NoneReusable, IsOldToken, NoOldBracket}
use Rattle.node_reuse.proofs.KeptReader.{kept_node, kept_bracket, kept_end}
use Rattle.node_reuse.proofs.ReaderPays.{kept_node_pays, kept_bracket_pays}
use Rattle.node_reuse.proofs.kept.next_of_old.Goals as goal

pub returns-in-Some-clause-reads : goal.returns-in-Some-clause-reads
returns-in-Some-clause-reads g c = λ s line old kept scanned h.
    let n : Tree = node_of c.in-Some.node in
    let reusable : IsReusable s.old c.args.place.now c.args.opened c.args.level n =
    subst (λ (o : OldText). IsReusable o c.args.place.now c.args.opened c.args.level n) (sym old) c.in-Some.ensures.some.reusable in
    rw (c.plus.ensures, c.length-length.ensures, c.in_ok-node.ensures)
    (kept_node s c.args.place.now line c.args.opened c.args.level n h kept scanned reusable)

pub returns-in-Some-token_at-clause-reads : goal.returns-in-Some-token_at-clause-reads
returns-in-Some-token_at-clause-reads g c = λ s line old kept scanned h.
    kept_bracket s c.args.place.now line c.args.opened c.args.level c.in-Some-token_at.token h kept scanned
    (subst (λ (o : OldText). IsOldToken o c.args.place.now c.in-Some-token_at.token) (sym (old ∙ sym c.longest_at.follows.holds-at-none)) c.in-Some-token_at.ensures.some)

pub returns-clause-reads : goal.returns-clause-reads
returns-clause-reads g c = λ s line old kept scanned h.
    kept_end s c.args.place.now line c.args.opened c.args.level c.requires.level h kept scanned
    (subst (λ (o : OldText). NoneReusable o c.args.place.now c.args.opened c.args.level) (sym old) c.in_default.ensures.none)
    (subst (λ (o : OldText). NoOldBracket o c.args.place.now) (sym (old ∙ sym c.longest_at.follows.holds-at-none)) c.in_default-token_at.ensures.none)

pub returns-in-Some-clause-pays : goal.returns-in-Some-clause-pays
returns-in-Some-clause-pays g c = λ s line steps old kept scanned h asked room.
    let n : Tree = node_of c.in-Some.node in
    let longest : IsLongestReusable s.old c.args.place.now c.args.opened c.args.level n =
    subst (λ (o : OldText). IsLongestReusable o c.args.place.now c.args.opened c.args.level n) (sym old) c.in-Some.ensures.some in
    rw (c.plus.ensures, c.length-length.ensures, c.longest_at.ensures.step)
    (kept_node_pays s c.args.place.now line steps c.args.opened c.args.level h kept scanned room n (c.args.steps.now + 1) (omega (arith, asked)) longest)

pub returns-in-Some-token_at-clause-pays : goal.returns-in-Some-token_at-clause-pays
returns-in-Some-token_at-clause-pays g c = λ s line steps old kept scanned h asked room.
    (kept_bracket_pays s c.args.place.now line steps c.args.opened c.args.level h kept scanned room c.in-Some-token_at.token c.token_at.new.steps
    (omega (arith, asked, c.longest_at.ensures.step, c.token_at.ensures.step))
    (subst (λ (o : OldText). NoneReusable o c.args.place.now c.args.opened c.args.level) (sym old) c.in_default.ensures.none)
    (subst (λ (o : OldText). IsOldToken o c.args.place.now c.in-Some-token_at.token) (sym (old ∙ sym c.longest_at.follows.holds-at-none)) c.in-Some-token_at.ensures.some))
