use Rattle.std.proofs.Common.{◌≡◌, ◌<◌, sym, subst, add-zero, add-one, true, rules, Result, arith}
use Rattle.std.specs.Prelude.{IfOk}
use Rattle.std.proofs.lemmas.Result.{IfOk-weaker}
use Rattle.bracket_rules.specs.declared.TheConstants.{MOST_OPEN}
use Rattle.std.proofs.lemmas.List.{append-nil}
use Rattle.bracket_tree_rules.specs.Tree.{Tree, capped, nothing, items, weight}
use Rattle.bracket_nodes.specs.Joining.{joined_items, joined_weight, IsFinished}
use Rattle.bracket_nodes.specs.declared.joiner.Joiner.{Joiner}
use Rattle.bracket_nodes.specs.declared.parser.Part.{Part}
use Rattle.bracket_nodes.specs.declared.parser.Stop.{Stop}
use Rattle.bracket_nodes.specs.declared.parser.Taken.{Taken}
use Rattle.bracket_nodes.specs.declared.parser.Taken.TheVariants.{One}
use Rattle.bracket_nodes.specs.Source.{Ahead, Listed, Takes, closing_taken, pair_taken}
use Rattle.bracket_nodes.proofs.Parsing.{Takes-end, AsksOn-same, AsksOn-then, Takes-ready, Takes-closing, Takes-capped, Takes-paired, asks_not_missing, Reads-start, Reads-one, Listed-after, bracket_weighs}
use Rattle.bracket_nodes.proofs.Payments.{PaysOn-same, PaysOn-then, HasRoom-on}
use Rattle.bracket_nodes.proofs.parser.+parser.Goals as goal

taken_as : {E : Type 0} (r : Result Taken E) (x : Taken) (P : Taken → Type 0) → IfOk r (λ y. y ≡ x) → P x → IfOk r P
taken_as r x P h p = IfOk-weaker r (λ (y : Taken). y ≡ x) P (λ y e. subst P (sym e) p) h

finished_as : {E : Type 0} (r : Result Part E) (j : Joiner) (stop : Stop) (P : Tree → Stop → Type 0) → IfOk r (IsFinished j stop)
    → ((list : Tree) → items list ≡ joined_items j → weight list ≡ joined_weight j → P list stop) → IfOk r (λ part. P part.list part.stop)
finished_as r j stop P h k =
    IfOk-weaker r (IsFinished j stop) (λ part. P part.list part.stop)
    (λ part is. subst (P part.list) (sym is.stops) (k part.list is.in_order is.weighs)) h

pub parse_list-loop-joiner-init : goal.parse_list-loop-joiner-init
parse_list-loop-joiner-init g t c =
    let start : Ahead = g.S.Source.ahead c.args.source.now in
    (rw (c.new-joiner.ensures.items, c.new-joiner.ensures.weight) (Reads-start start c.args.opened c.args.level c.requires.some), c.requires.stands, AsksOn-same start.asking, λ room. PaysOn-same (g.S.Source.paying c.args.source.now))

pub parse_list-loop-joiner-preserved : goal.parse_list-loop-joiner-preserved
parse_list-loop-joiner-preserved g t c =
    let parsed = rw c.in-One.is at c.in_ok-node.ensures.takes in
    let start : Ahead = g.S.Source.ahead c.args.source.now in
    let now : Ahead = g.S.Source.ahead c.loop-joiner.source in
    let new : Ahead = g.S.Source.ahead c.take.new.source in (
      rw ((c.in_ok-push-in-One.ensures).in_order, (c.in_ok-push-in-One.ensures).weighs)
          (Reads-one start now new c.args.opened c.args.level
          (joined_items c.loop-joiner.joiner) (joined_weight c.loop-joiner.joiner) c.in-One.node c.loop-joiner.invariant.0 parsed),
      c.in_ok-node.ensures.stands,
      AsksOn-then start.asking now.asking new.asking c.loop-joiner.invariant.2 c.take.ensures.asks,
      λ room.
          let on = c.loop-joiner.invariant.3 room in
          PaysOn-then (g.S.Source.paying c.args.source.now) (g.S.Source.paying c.loop-joiner.source) (g.S.Source.paying c.take.new.source) on
          (rw c.in-One.is at (c.in_ok-node.ensures.pays (HasRoom-on (g.S.Source.paying c.args.source.now) (g.S.Source.paying c.loop-joiner.source) c.args.level on room))),
    )

pub parse_list-returns-in-Last-clause-listed : goal.parse_list-returns-in-Last-clause-listed
parse_list-returns-in-Last-clause-listed g t c =
    let start : Ahead = g.S.Source.ahead c.args.source.now in
    let now : Ahead = g.S.Source.ahead c.loop-joiner.source in
    let new : Ahead = g.S.Source.ahead c.take.new.source in
    let listed = rw c.in-Last.is at c.in_ok-node.ensures.takes in
    finished_as c.finished.result c.push-in-Last.new.self c.in-Last.stop (Listed start new c.args.opened c.args.level) c.finished.ensures
    (λ list nodes weighs. Listed-after start now new c.args.opened c.args.level
    (joined_items c.loop-joiner.joiner) (joined_weight c.loop-joiner.joiner) c.in-Last.node list c.in-Last.stop
    c.loop-joiner.invariant.0 listed
    (rw (c.in_ok-push-in-Last.ensures).in_order at nodes) (rw (c.in_ok-push-in-Last.ensures).weighs at weighs))

pub parse_list-returns-in-Nothing-clause-listed : goal.parse_list-returns-in-Nothing-clause-listed
parse_list-returns-in-Nothing-clause-listed g t c =
    let start : Ahead = g.S.Source.ahead c.args.source.now in
    let now : Ahead = g.S.Source.ahead c.loop-joiner.source in
    let new : Ahead = g.S.Source.ahead c.take.new.source in
    let listed = rw c.in-Nothing.is at c.in_ok-node.ensures.takes in
    finished_as c.finished-in-Nothing.result c.loop-joiner.joiner c.in-Nothing.stop (Listed start new c.args.opened c.args.level) c.finished-in-Nothing.ensures
    (λ list nodes weighs. Listed-after start now new c.args.opened c.args.level
    (joined_items c.loop-joiner.joiner) (joined_weight c.loop-joiner.joiner) nothing list c.in-Nothing.stop
    c.loop-joiner.invariant.0 listed
    (rw (append-nil (joined_items c.loop-joiner.joiner)) nodes) (rw (add-zero (joined_weight c.loop-joiner.joiner)) weighs))

pub take-returns-in-End-clause-takes : goal.take-returns-in-End-clause-takes
take-returns-in-End-clause-takes g t c =
    let ends = rw c.in-End.is at c.in_ok-next_of.ensures.comes in
    Takes-end (g.S.Source.ahead c.args.source.now) (g.S.Source.ahead c.next_of.new.source) c.args.opened c.args.level ends

pub take-returns-in-Ready-clause-takes : goal.take-returns-in-Ready-clause-takes
take-returns-in-Ready-clause-takes g t c =
    let given = rw c.in-Ready.is at c.in_ok-next_of.ensures.comes in
    Takes-ready (g.S.Source.ahead c.args.source.now) (g.S.Source.ahead c.next_of.new.source) c.args.opened c.args.level c.in-Ready.node given

pub take-returns-then-not-opening-clause-takes : goal.take-returns-then-not-opening-clause-takes
take-returns-then-not-opening-clause-takes g t c =
    let given = rw c.if-not-opening.true at (rw c.in-Bracket.is at c.in_ok-next_of.ensures.comes) in
    let old : Ahead = g.S.Source.ahead c.args.source.now in
    let new : Ahead = g.S.Source.ahead c.next_of.new.source in
    let takes = Takes-closing old new c.args.opened c.args.level c.in-Bracket.kind c.in-Bracket.width c.requires.level given in
    taken_as c.closing.result (closing_taken c.args.opened c.in-Bracket.kind c.in-Bracket.width) (Takes old new c.args.opened c.args.level) c.closing.ensures takes

pub take-returns-then-level-eq-MOST_OPEN-clause-takes : goal.take-returns-then-level-eq-MOST_OPEN-clause-takes
take-returns-then-level-eq-MOST_OPEN-clause-takes g t c =
    let given = rw c.if-not-opening.false at (rw c.in-Bracket.is at c.in_ok-next_of.ensures.comes) in
    let old : Ahead = g.S.Source.ahead c.args.source.now in
    let new : Ahead = g.S.Source.ahead c.next_of.new.source in
    taken_as c.too_deep.result (One (capped c.in-Bracket.kind c.in-Bracket.width)) (Takes old new c.args.opened c.args.level) c.too_deep.ensures
    (Takes-capped old new c.args.opened c.args.level c.in-Bracket.kind c.in-Bracket.width c.if-level-eq-MOST_OPEN.true given)

pub take-parse_list-requires : goal.take-parse_list-requires
take-parse_list-requires g t c κs within =
    let given = rw c.if-not-opening.false at (rw c.in-Bracket.is at c.in_ok-next_of.ensures.comes) in
    let weighs = bracket_weighs (g.S.Source.ahead c.args.source.now) (g.S.Source.ahead c.next_of.new.source) c.in-Bracket.kind c.in-Bracket.width true given in
    search (rules, weighs)

pub take-paired-requires-clause-fits : goal.take-paired-requires-clause-fits
take-paired-requires-clause-fits g t c =
    let given = rw c.if-not-opening.false at (rw c.in-Bracket.is at c.in_ok-next_of.ensures.comes) in
    let weighs = bracket_weighs (g.S.Source.ahead c.args.source.now) (g.S.Source.ahead c.next_of.new.source) c.in-Bracket.kind c.in-Bracket.width true given in
    omega (arith, weighs, c.in_ok-part.ensures.listed.together, c.requires.fits)

pub take-paired-requires-clause-not_missing : goal.take-paired-requires-clause-not_missing
take-paired-requires-clause-not_missing g t c =
    asks_not_missing (g.S.Source.ahead c.next_of.new.source) (g.S.Source.ahead c.parse_list.new.source) c.args.opened c.args.level c.in-Bracket.kind
    c.in_ok-part.part.list c.in_ok-part.part.stop
    (rw (← c.with.ensures, ← add-one c.args.level) c.in_ok-part.ensures.listed)

pub take-returns-clause-takes : goal.take-returns-clause-takes
take-returns-clause-takes g t c =
    let given = rw c.if-not-opening.false at (rw c.in-Bracket.is at c.in_ok-next_of.ensures.comes) in
    let old : Ahead = g.S.Source.ahead c.args.source.now in
    let new : Ahead = g.S.Source.ahead c.parse_list.new.source in
    let part = c.in_ok-part.part in
    let below : c.args.level < MOST_OPEN = omega arith in
    taken_as c.paired.result (pair_taken c.in-Bracket.kind c.in-Bracket.width part.list part.stop) (Takes old new c.args.opened c.args.level) c.paired.ensures
    (Takes-paired old (g.S.Source.ahead c.next_of.new.source) new c.args.opened c.args.level c.in-Bracket.kind c.in-Bracket.width part.list part.stop below given
    (rw (← c.with.ensures, ← add-one c.args.level) c.in_ok-part.ensures.listed))
