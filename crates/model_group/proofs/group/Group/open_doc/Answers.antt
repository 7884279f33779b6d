use Rattle.std.proofs.Common.{◌≡◌, ◌^◌, set, length, refl, rules, Ok, Err, sym, subst, ap, ◌∙◌, arith}
use Rattle.std.proofs.lemmas.List.{length-set}
use Rattle.hiding_rules.specs.Hidden.{scanner}
use Rattle.unit_text.specs.Kinds.{normalized}
use Rattle.group_rules.specs.Group.{doc_in, group_open, lost_by_open}
use Rattle.group_rules.proofs.Shared.{shared_open}
use Rattle.group_rules.proofs.Together.{open_others_stay}
use Rattle.model_core.specs.Opened.{IsUnparsed}
use Rattle.model_group.specs.State.{IsGroup, documents}
use Rattle.model_group.specs.Losing.{LoseTags}
use Rattle.model_group.proofs.Committing.{keep_same}
use Rattle.model_group.proofs.Lists.{length-documents}
use Rattle.model_group.proofs.Grouping.{put_back, lent_back}
use Rattle.model_group.proofs.Changing.{all_stay, kept_on, opened, opened_models}
use Rattle.model_group.proofs.group.Group.open_doc.Goals as goal
use Rattle.model_group.proofs.group.Group.open_doc.Goals.{After-lose_all}

pub returns-in_err-model-clause-models : goal.returns-in_err-model-clause-models
returns-in_err-model-clause-models c =
    let is : c.from_residual.result ≡ Err c.in_err-model.field-0.0 = search rules in rw is (kept_on _ _ _ (keep_same c.args.self.now).parses)

pub returns-in_err-model-clause-stay : goal.returns-in_err-model-clause-stay
returns-in_err-model-clause-stay c = all_stay _ _ _ refl

left : (c : After-lose_all) → LoseTags (lost_by_open (doc_in (documents c.args.self.now) c.args.doc)) (2 ^ c.args.doc) c.args.self.now c.lose_all.new.models
left c =
    subst (λ g. LoseTags (lost_by_open (doc_in (documents g) c.args.doc)) (2 ^ c.args.doc) g c.lose_all.new.models)
    (c.as_mut_slice-models.ensures.value ∙ c.self.view_is) c.lose_all.ensures

back : (c : After-lose_all) → put_back c.self.inside.models.items c.self.inside.models.len (set c.lose_all.new.models c.args.doc c.in_ok-model.model)
    ≡ set c.lose_all.new.models c.args.doc c.in_ok-model.model
back c =
    let models = c.self.inside.models in
    let new = c.lose_all.new.models in
    lent_back models.items (set new c.args.doc c.in_ok-model.model) models.len (omega (arith, models.ok.0))
    (omega (arith, length-set new c.args.doc c.in_ok-model.model, c.lose_all.auto.models, ap length c.as_mut_slice-models.ensures.value))

done : (c : After-lose_all) → group_open (documents c.args.self.now) c.args.doc c.args.text.now (scanner c.args.table c.args.hiding) c.args.kind
    ≡ Ok (documents (set c.lose_all.new.models c.args.doc c.in_ok-model.model))
done c =
    opened c.args.doc c.args.self.now c.lose_all.new.models c.in_ok-model.model (left c) c.args.text.now (scanner c.args.table c.args.hiding) c.args.kind
    c.in_ok-model.ensures.document

pub returns : goal.returns
returns c =
    let after = (goal.at.returns c).After-lose_all in
    rw (back after) (record {
      documents = done after;
      models = opened_models c.args.doc c.args.self.now c.lose_all.new.models c.in_ok-model.model (left after)
          (IsUnparsed (normalized c.args.kind c.args.text.now)) c.in_ok-model.ensures.parse;
      stay = open_others_stay _ _ _ c.args.text.now (scanner c.args.table c.args.hiding) c.args.kind (done after);
    })

pub invariant_of-self : goal.invariant_of-self
invariant_of-self c =
    let after = (goal.at.invariant_of-self c).After-lose_all in
    let is = subst IsGroup c.self.view_is c.self.invariant in
    subst IsGroup (sym (back after)) (record {
      count = length-set c.lose_all.new.models c.args.doc c.in_ok-model.model ∙ (left after).count ∙ is.count;
      shared = shared_open (documents c.args.self.now) _ c.args.doc is.shared (length-documents c.args.self.now ∙ is.count) c.requires
          c.args.text.now (scanner c.args.table c.args.hiding) c.args.kind (done after);
    })
