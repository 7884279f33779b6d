use Rattle.std.proofs.Common.{◌≡◌, ◌+◌, ◌<◌, ◌++◌, List, ℕ, take, get_or, codes, Result, Ok, Err, sym, ap, ◌∙◌, append_assoc, arith, vec_len, vec_capacity}
use Rattle.std.specs.Bool.{⊤}
use Rattle.std.specs.Prelude.{OnOk, OnErr}
use Rattle.std.specs.List.{flat_map}
use Rattle.group_rules.specs.Group.{doc_in}
use Rattle.model_group.specs.State.{documents}
use Rattle.model_group.proofs.Lists.{doc_in-is}
use Rattle.sessions.specs.Joint.{doc_part}
use Rattle.sessions.proofs.JointLemmas.{joint_reply-parts, flat_map-take_more, flat_map-take_all}
use Rattle.sessions.proofs.joint_replies.tell_all.Goals as goal

pub doc-requires : goal.doc-requires
doc-requires c = c.requires.there c.loop-doc.doc-index 0 c.loop-doc-test.true

pub loop-doc-preserved : goal.loop-doc-preserved
loop-doc-preserved c =
    let docs = c.args.docs.now in
    let i = c.loop-doc.doc-index in
    let n : ℕ = get_or docs i 0 in
    let front : List ℕ = c.args.reply.now.items ++ codes "ok" in
    let part : ℕ → List ℕ = λ n. doc_part n (doc_in (documents c.args.group.now) n) in
    let own : doc_part n c.doc.result.now.document ≡ part n = ap (doc_part n) (sym (doc_in-is c.args.group.now n c.doc.result.now c.doc.ensures)) in
    let more = flat_map-take_more part docs i c.loop-doc-test.true in
    record {
      told = c.tell_doc.ensures.told ∙ ap (λ x. x ++ doc_part n c.doc.result.now.document) c.loop-doc.invariant.told
          ∙ append_assoc front (flat_map part (take i docs)) (doc_part n c.doc.result.now.document)
          ∙ ap (λ x. front ++ (flat_map part (take i docs) ++ x)) own ∙ ap (λ x. front ++ x) (sym more);
      room = omega (arith, c.loop-doc.invariant.room, c.tell_doc.ensures.len, c.tell_doc.ensures.capacity, c.loop-doc-test.true);
    }

-- what a part leaves that had room
within_room : {E : Type 0} (r : Result ⊤ E) (P Q : Type 0) → OnOk r P → OnErr r Q → (Q → ⊥) → P
within_room (Ok x) P Q written full never = written
within_room (Err e) P Q written full never = absurd (never full)

pub returns-clause-told : goal.returns-clause-told
returns-clause-told c =
    let docs = c.args.docs.now in
    let g = documents c.args.group.now in
    let old = c.args.reply.now.items in
    let part : ℕ → List ℕ = λ n. doc_part n (doc_in g n) in
    let parts : List ℕ = flat_map part docs in
    let end = within_room c.long_end.result (c.long_end.new.out.items ≡ c.loop-doc.reply.items ++ codes "\n")
    (vec_capacity c.loop-doc.reply < vec_len c.loop-doc.reply + 1) c.long_end.ensures.ok c.long_end.ensures.full
    (λ full. absurd (omega (arith, full, c.loop-doc.invariant.room))) in
    end ∙ ap (λ x. x ++ codes "\n") (c.loop-doc.invariant.told
    ∙ ap (λ x. (old ++ codes "ok") ++ x) (flat_map-take_all part docs c.loop-doc.doc-index c.loop-doc-test.false) ∙ append_assoc old (codes "ok") parts)
    ∙ append_assoc old (codes "ok" ++ parts) (codes "\n") ∙ ap (λ x. old ++ x) (sym (joint_reply-parts g docs))
