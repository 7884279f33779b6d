use Rattle.std.proofs.Common.{◌≡◌, ◌<◌, true, take, get_or, sym, subst, ap}
use Rattle.std.proofs.lemmas.List.{take_all}
use Rattle.std.proofs.lemmas.List.Elements.{All-take, All-weaker}
use Rattle.group_rules.specs.declared.TheConstants.{DOC_COUNT}
use Rattle.group_rules.specs.Group.{doc_in, lost_by_change}
use Rattle.model_group.specs.declared.ready.DocReady.{DocReady}
use Rattle.model_group.specs.State.{documents}
use Rattle.model_group.specs.Losing.{has_doc, LoseTags}
use Rattle.model_group.proofs.Losses.{lost_of, next_of}
use Rattle.model_group.proofs.Joining.{lost_more}
use Rattle.model_group.proofs.losing.lose_redo_of.Goals as goal

pub lose_redo-requires-clause-next : goal.lose_redo-requires-clause-next
lose_redo-requires-clause-next c =
    let ready = c.args.ready.now in
    let i = c.loop-i.i in
    let one = c.requires.each i c.index-ready-i.result c.loop-i-test.true in
    next_of c.args.members (get_or ready i c.index-ready-i.result).doc (take i ready) c.args.models.now c.loop-i.models c.requires.group one.0 one.1
    (All-weaker (λ (r : DocReady). (r.doc < DOC_COUNT) × (has_doc c.args.members r.doc ≡ true)) (λ (r : DocReady). r.doc < DOC_COUNT) (λ r h. h.0)
    (take i ready) (All-take (λ (r : DocReady). (r.doc < DOC_COUNT) × (has_doc c.args.members r.doc ≡ true)) i ready c.requires.each)) c.loop-i.invariant

pub loop-i-preserved : goal.loop-i-preserved
loop-i-preserved c =
    let mid = c.loop-i.models in
    lost_more c.args.ready.now c.loop-i.i c.index-ready-i.result c.args.members c.args.models.now mid c.lose_redo.new.models c.loop-i-test.true
    c.index-ready-i.is c.requires.each c.loop-i.invariant
    (subst (λ (r : DocReady). LoseTags (lost_by_change (doc_in (documents mid) r.doc)) c.args.members mid c.lose_redo.new.models)
    (sym c.index-ready-i.is) c.lose_redo.ensures)

pub returns : goal.returns
returns c =
    let all = take_all c.loop-i.i c.args.ready.now c.loop-i-test.false in
    subst (λ tags. LoseTags tags c.args.members c.args.models.now c.loop-i.models) (ap (lost_of c.args.models.now) all) c.loop-i.invariant
