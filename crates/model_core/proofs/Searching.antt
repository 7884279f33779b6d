-- A replace of all that is found: prepared as an edit, and carried out as a step of undo of its own.
use Rattle.std.proofs.Common.{◌≡◌, ◌<◌, ℕ, true, List, length, Ok, Some, refl, ap, sym, subst, ◌∙◌}
use Rattle.batch_rules.specs.Batches.{checked_batch}
use Rattle.text_rules.specs.declared.Op.{Op}
use Rattle.document_rules.specs.declared.ModelError.{ModelError}
use Rattle.document_rules.specs.declared.ModelError.TheVariants.{Unknown, Range, Overlap, Limit, Memory}
use Rattle.document_rules.specs.Refusals.{unknown, range, overlap, limit}
use Rattle.document_rules.specs.Outcomes.{RefusedFor}
use Rattle.document_rules.specs.Document.{FlatState, after_batch, flat_edit, flat_stop}
use Rattle.search_rules.specs.Replacing.{flat_replace_all}
use Rattle.search_rules.proofs.Replacing.{replace_refusal, made_as_edit, refused_as_edit}
use Rattle.model_page.specs.LineMarks.{marked_backwards}
use Rattle.model_core.specs.Edited.{ops_as_done}
use Rattle.model_core.specs.Prepared.{Prepared, Acts, ActsAlone, HasActed}
use Rattle.text_batches.specs.Needs.{edit_count}
use Rattle.model_core.specs.Replaced.{IsForRoom, replacing_ops, HasReplaced, IsReplaceReady}
use Rattle.model_core.specs.State.{ModelState, KeepsParse}
use Rattle.model_core.proofs.Leaving.{leaves_from, leaves_as}
use Rattle.model_core.proofs.Preparing.{ruled, edit_again, edits_leave}

-- ---- refusals

-- what the edit is refused for, the replace is
refused_for : (f : FlatState) (sought text : List ℕ) (e : ModelError) → 0 < length (replacing_ops f sought text)
    → RefusedFor e (flat_edit f (replacing_ops f sought text)) → RefusedFor e (flat_replace_all f sought text)
refused_for f sought text Unknown some why = refused_as_edit f sought text unknown some why
refused_for f sought text Range some why = refused_as_edit f sought text range some why
refused_for f sought text Overlap some why = refused_as_edit f sought text overlap some why
refused_for f sought text Limit some why = refused_as_edit f sought text limit some why
refused_for f sought text Memory some why = tt

for_room : (f : FlatState) (sought text : List ℕ) (e : ModelError) → 0 < length sought → RefusedFor e (flat_replace_all f sought text) → IsForRoom e
for_room f sought text Unknown some why = absurd (let e : unknown ≡ limit = replace_refusal f sought text unknown some why in cc)
for_room f sought text Range some why = absurd (let e : range ≡ limit = replace_refusal f sought text range some why in cc)
for_room f sought text Overlap some why = absurd (let e : overlap ≡ limit = replace_refusal f sought text overlap some why in cc)
for_room f sought text Limit some why = tt
for_room f sought text Memory some why = tt

pub refused_replace : (f : FlatState) (sought text : List ℕ) (e : ModelError) → 0 < length sought → 0 < length (replacing_ops f sought text)
    → RefusedFor e (flat_edit f (replacing_ops f sought text)) → RefusedFor e (flat_replace_all f sought text) × IsForRoom e
refused_replace f sought text e some ops why =
    let told = refused_for f sought text e ops why in
    (told, for_room f sought text e some told)

-- ---- what is left

pub record IsReplaced (sought text : List ℕ) (old new : ModelState) : Type 0 where
  pub document : flat_replace_all old.document sought text ≡ Ok (Some new.document)
  pub parse : HasReplaced sought text (Ok true) old new

-- the ops are prepared, and carried out as a step of undo of their own
module _ (mid new : ModelState) (ready : Prepared) (alone : ActsAlone ready.action mid.document new.document) (acted : HasActed ready.action mid new) where
  carried_out : (sought text : List ℕ) → IsReplaceReady sought text mid ready → IsReplaced sought text mid new
  carried_out sought text is =
      let f : FlatState = mid.document in
      let ops : List Op = replacing_ops f sought text in
      let sorted : List Op = ops_as_done f ops in
      let rule : checked_batch f.kind f.units ops ≡ Ok sorted = ruled f ops (checked_batch f.kind f.units ops) (after_batch f sorted) refl is.ready.accepted in
      let does : flat_edit (flat_stop f) sorted ≡ Ok alone.made = subst (λ a. Acts a (flat_stop f) alone.made) is.ready.action alone.acts in
      let edited : flat_edit (flat_stop f) ops ≡ Ok alone.made = sym (edit_again (flat_stop f) ops sorted rule) ∙ does in
      record {
        document = made_as_edit f alone.made sought text is.some edited ∙ ap (λ g. Ok (Some g)) (sym alone.closed);
        parse = edits_leave ops mid new (subst (λ a. HasActed a mid new) is.ready.action acted);
      }

  pub replaced_as_prepared : (old : ModelState) (sought text : List ℕ) → mid.document ≡ old.document → KeepsParse old mid → IsReplaceReady sought text mid ready
      → IsReplaced sought text old new
  replaced_as_prepared old sought text same before is =
      let there = carried_out sought text is in
      let ops : List Op = replacing_ops old.document sought text in
      let count = ap (λ g. length (replacing_ops g sought text)) same in
      let edits = ap (λ (g : FlatState). edit_count (ops_as_done g (replacing_ops g sought text))) same in
      let marks = ap (λ (g : FlatState). marked_backwards g.units (ops_as_done g (replacing_ops g sought text)) mid.marks) same
      ∙ ap (marked_backwards old.document.units (ops_as_done old.document ops)) before.marks in
      record {
        document = ap (λ g. flat_replace_all g sought text) (sym same) ∙ there.document;
        parse = leaves_from (edit_count (ops_as_done old.document ops)) (length ops) _ old mid new before
            (leaves_as _ (edit_count (ops_as_done old.document ops)) _ (length ops) _ _ mid new edits count marks there.parse);
      }
