use Rattle.std.proofs.Common.{◌≡◌, ℕ, ◌+◌, ◌∷◌, [], ◌++◌, List, length, refl, ap, sym, ◌∙◌, append_assoc}
use Rattle.std.proofs.lemmas.List.{length-append}
use Rattle.text_rules.specs.declared.Op.{Op}
use Rattle.model_page.specs.InTurn.{told_op}
use Rattle.textmodel_c.specs.declared.telling.Change.{Change}
use Rattle.textmodel_c.specs.Tellings.{change_of, edits_in}
use Rattle.textmodel_c.proofs.Collected.{units_in-more, edits_in-more}
use Rattle.textmodel_c.proofs.telling.collected.Goals as goal

pub loop-change-preserved : goal.loop-change-preserved
loop-change-preserved c =
    let op : Op = told_op c.in-Some.change in
    let found = c.loop-change.edits.items in
    let texts = c.loop-change.texts.items in
    let told : c.loop-change.changes ≡ op ∷ c.next.new.self = c.in-Some.ensures.told in
    let pushed : c.push.new.self.items ≡ found ++ change_of op ∷ [] =
    c.in_ok-push.ensures.items ∙ ap (λ (change : Change). found ++ change ∷ []) c.change_of.ensures in
    let joined : c.extend_from_slice.new.self.items ≡ texts ++ op.text = c.in_ok-extend_from_slice.ensures.items in
    record {
      edits = rw (pushed, joined) (
          ap (λ (ops : List Op). ops ++ c.next.new.self) (edits_in-more found texts (change_of op) op.text c.loop-change.invariant.texts refl)
          ∙ append_assoc (edits_in found texts) (op ∷ []) c.next.new.self
          ∙ ap (λ (ops : List Op). edits_in found texts ++ ops) (sym told)
          ∙ c.loop-change.invariant.edits
          );
      texts = rw (pushed, joined) (
          units_in-more found (change_of op) ∙ ap (λ (n : ℕ). n + length op.text) c.loop-change.invariant.texts ∙ sym (length-append texts op.text)
          );
    }
