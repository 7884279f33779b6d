use Rattle.std.proofs.Common.{rules, ◌≡◌, ◌++◌, length, Ok, sym, ap, ◌∙◌}
use Rattle.document_rules.specs.Snapshots.{flat_peek_of, flat_skipped}
use Rattle.model_core.specs.State.{ModelState}
use Rattle.session_rules.specs.Step.{read_answer}
use Rattle.sessions.proofs.AnswerLemmas.{tells_changed_on, tells_unchanged, tells_read}
use Rattle.sessions.proofs.snapshot_replies.read_reply.Goals as goal

pub returns-in_err-peek : goal.returns-in_err-peek
returns-in_err-peek c =
    tells_unchanged c.args.doc _ c.doc.result.now c.doc.ensures _ (λ f. read_answer f c.args.id (flat_peek_of f c.args.id c.args.count)) (search rules)

pub returns : goal.returns
returns c =
    let f = c.skip.ensures.before.document in
    let same : c.doc.result.now ≡ c.skip.ensures.before = cc (c.doc.ensures, c.skip.ensures.is) in
    let units = c.as_slice.result.now in
    let all : units ≡ c.in_ok-peek.ensures.0 =
    c.as_slice.ensures.value ∙ c.in_ok-peek.ensures.2 ∙ ap (λ x. x ++ c.in_ok-peek.ensures.0) c.new-units.ensures.items in
    let peeked : flat_peek_of f c.args.id c.args.count ≡ Ok units =
    ap (λ (m : ModelState). flat_peek_of m.document c.args.id c.args.count) (sym same) ∙ c.in_ok-peek.ensures.1 ∙ ap Ok (sym all) in
    let skipped : c.skip.ensures.after.document ≡ flat_skipped f c.args.id (length units) =
    c.skip.ensures.done.0 ∙ ap (flat_skipped f c.args.id) (c.len.ensures ∙ c.peek.new.out.ok.0 ∙ ap length (sym c.as_slice.ensures.value)) in
    tells_changed_on _ _ _ _ c.skip.ensures _ (λ f. read_answer f c.args.id (flat_peek_of f c.args.id c.args.count))
    (tells_read f _ c.args.id _ units _ peeked skipped c.in_ok-reply.ensures)
