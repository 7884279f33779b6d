use Rattle.std.proofs.Common.{◌≡◌, ◌≤◌, ◌+◌, false, true, length, drop, refl, sym, subst, ap, ◌∙◌, eqb-true, arith}
use Rattle.std.proofs.lemmas.Grind.{common_steps}
use Rattle.undo_rules.specs.Tags.{all_steps}
use Rattle.document_rules.specs.Document.{FlatState, flat_untag_last}
use Rattle.group_rules.specs.declared.TheConstants.{DOC_COUNT}
use Rattle.group_rules.specs.Group.{tags_of}
use Rattle.model_core.specs.State.{ModelState, KeepsParse}
use Rattle.model_group.specs.Losing.{has_doc, left_count, tags_from, LosesTags, Names}
use Rattle.model_group.proofs.Lists.{item_within, read_document, stays_on, doc_in-same}
use Rattle.model_group.proofs.Committing.{model_at}
use Rattle.model_group.proofs.Losses.{LostBelow, last_lost_in, lost_below_all, lost_below_more, next_count, spared_stays, unnamed_lost, unnamed_stays}
use Rattle.model_group.proofs.losing.lose_from.Goals as goal
use Rattle.model_group.proofs.losing.lose_from.Goals.{After-named_from-named, then-has+then-not-has, else-has, else-has-via-then-has+else-not-has, else-has-via-else-has}

count : (c : After-named_from-named) → length c.args.models.now ≡ DOC_COUNT
count c = next_count _ _ _ _ c.args.models.now c.requires.there c.requires.spared c.requires.next

names : (c : After-named_from-named) → Names (tags_from c.args.models.now c.args.doc c.args.first) c.named_from-named.result
names c =
    let read = read_document c.args.models.now c.args.doc c.index-models-doc.result (count c) c.requires.there c.index-models-doc.is in
    subst (λ (f : FlatState). Names (tags_of (drop c.args.first (all_steps f.history))) c.named_from-named.result) read c.named_from-named.ensures

pub returns-then-is_empty : goal.returns-then-is_empty
returns-then-is_empty c =
    let tags = tags_from c.args.models.now c.args.doc c.args.first in
    let none : c.named_from-named.result ≡ 0 = eqb-true c.named_from-named.result 0 (sym c.is_empty.ensures ∙ c.if-is_empty.true) in
    unnamed_lost tags c.args.spared c.args.models.now (subst (Names tags) none (names (goal.at.returns-then-is_empty c).After-named_from-named))

pub left_from-count-requires-clause-first : goal.left_from-count-requires-clause-first
left_from-count-requires-clause-first c =
    let now = c.loop-k.models in
    let same = doc_in-same c.args.models.now now c.args.doc (c.loop-k.invariant.same c.args.doc c.requires.spared) in
    let all = c.loop-k.invariant.count ∙ count (goal.at.left_from-count-requires-clause-first c).After-named_from-named in
    let m = c.index-models-doc-then-not-has.result in
    let read = read_document now c.args.doc m all c.requires.there c.index-models-doc-then-not-has.is in
    subst (λ (f : FlatState). c.args.first ≤ length (all_steps f.history)) (sym (read ∙ same)) c.requires.first

pub loop-k-preserved : goal.loop-k-preserved
loop-k-preserved c =
    let old = c.args.models.now in
    let now = c.loop-k.models in
    let n = c.loop-k.k in
    let tags = tags_from old c.args.doc c.args.first in
    let spared = c.args.spared in
    let known = (goal.at.loop-k-preserved c).After-named_from-named in
    let all = c.loop-k.invariant.count ∙ count known in
    elim c.if-has.branch [
      | then-has+then-not-has w ↦
          let m = w.index-models-k.result in
          let at = model_at now now n m refl all c.loop-k-test.true w.index-models-k.is in
          let same = doc_in-same old now c.args.doc (c.loop-k.invariant.same c.args.doc c.requires.spared) in
          let read = read_document now c.args.doc w.index-models-doc-then-not-has.result all c.requires.there w.index-models-doc-then-not-has.is in
          let bare : has_doc spared n ≡ false = grind (arith, common_steps) in
          subst (LostBelow (n + 1) tags spared old) (sym w.models-is)
          (last_lost_in spared c.args.doc c.args.first c.args.before.now old c.requires.there c.requires.spared c.requires.next n
          w.left_from-count.result now m w.untag_last.new.self c.loop-k-test.true bare c.loop-k.invariant at
          (w.left_from-count.ensures
          ∙ ap (λ (f : FlatState). left_count c.args.before.now n (tags_of (drop c.args.first (all_steps f.history)))) (read ∙ same))
          (w.untag_last.ensures.document
          ∙ ap (λ (m : ModelState). flat_untag_last m.document c.args.doc w.left_from-count.result) (sym w.index-models-k.is))
          (subst (λ m. KeepsParse m w.untag_last.new.self) (sym w.index-models-k.is) w.untag_last.ensures.parse))
      | else-has w ↦
          let m = item_within now n (omega (arith, all, c.loop-k-test.true)) in
          let same : LosesTags tags spared n m.0 m.0 =
          elim w.else-has.branch [
            | else-has-via-then-has+else-not-has w' ↦
                let is : has_doc spared n ≡ true = grind (arith, common_steps) in spared_stays tags spared n m.0 is
            | else-has-via-else-has w' ↦
                let off : has_doc c.named_from-named.result n ≡ false = grind (arith, common_steps) in
                unnamed_stays tags spared n m.0 (sym (names known n) ∙ off)
          ] in
          subst (LostBelow (n + 1) tags spared old) (sym w.models-is)
          (lost_below_more n tags spared old now now c.loop-k.invariant (stays_on n (LosesTags tags spared n) now m.0 m.1 same) (λ is. refl))
    ]

pub returns : goal.returns
returns c =
    lost_below_all c.loop-k.k _ c.args.spared c.args.models.now c.loop-k.models
    (omega (arith, count (goal.at.returns c).After-named_from-named, c.loop-k-test.false)) c.loop-k.invariant
