-- A session that represents a flat one goes on representing one after a joint edit, which a line of the same batches would make too.
use Rattle.std.proofs.Common.{◌≡◌, ℕ, Bool, true, false, cond, List, [], ◌∷◌, map, nat_lt, Option, Some, None, Result, Ok, Err, refl, sym, ap, subst}
use Rattle.std.specs.Prelude.{⊤}
use Rattle.std.specs.Option.{option_map}
use Rattle.text_rules.specs.declared.Op.{Op}
use Rattle.document_rules.specs.Refusals.{FlatRefusal, unknown}
use Rattle.document_rules.specs.Document.{FlatState}
use Rattle.group_rules.specs.declared.GroupError.{GroupError}
use Rattle.group_rules.specs.declared.TheConstants.{DOC_COUNT}
use Rattle.group_rules.specs.Refusals.{plain}
use Rattle.group_rules.specs.Outcomes.{ChangesAll}
use Rattle.group_rules.specs.Group.{FlatGroup, doc_in, group_edit}
use Rattle.group_rules.specs.Joint.{FlatBatch, docs_of, names_badly, joined, unless_refused, group_joint}
use Rattle.model_group.specs.State.{documents}
use Rattle.script_lines.specs.declared.op.LineOp.{LineOp}
use Rattle.script_lines.specs.declared.op.Place.TheVariants.{At}
use Rattle.script_lines.specs.declared.request.DocEdit.{DocEdit}
use Rattle.session_rules.specs.Step.{changed, ops_at, batches_at, joint_answer}
use Rattle.sessions.proofs.GoesLemmas.{AllGo, go_edited, go_joint}
use Rattle.sessions.proofs.StandingLemmas.{stands_on}
use Rattle.textmodel_c.specs.declared.contents.Contents.{Contents}
use Rattle.textmodel_c.specs.JointOps.{joint_of, plainly, JointlyChanged}
use Rattle.textmodel_c.specs.Told.{StaysFlat}

-- ---- the batches as a line has them

line_op : Op → LineOp
line_op op = record { place = At op.span; text = op.text; force = op.force }

doc_edit : FlatBatch → DocEdit
doc_edit b = record { doc = b.doc; ops = map line_op b.ops }

ops_at-line_op : (f : FlatState) (ops : List Op) → ops_at f (map line_op ops) ≡ Some ops
unfolding line_op
ops_at-line_op f [] = refl
ops_at-line_op f (op ∷ ops) = ap (option_map (λ (rest : List Op). op ∷ rest)) (ops_at-line_op f ops)

batches_at-doc_edit : (g : FlatGroup) (batches : List FlatBatch) → batches_at g (map doc_edit batches) ≡ Some batches
unfolding doc_edit
batches_at-doc_edit g [] = refl
batches_at-doc_edit g (b ∷ batches) = rw (ops_at-line_op (doc_in g b.doc) b.ops, batches_at-doc_edit g batches) refl

docs-doc_edit : (batches : List FlatBatch) → map (λ (edit : DocEdit). edit.doc) (map doc_edit batches) ≡ docs_of batches
unfolding doc_edit
docs-doc_edit [] = refl
docs-doc_edit (b ∷ batches) = ap (λ (docs : List ℕ). b.doc ∷ docs) (docs-doc_edit batches)

-- ---- each document goes on by one version, or stays at its text

-- no document is named badly in a joint edit that is carried out
named_well : (g h : FlatGroup) (batches : List FlatBatch) (badly : Bool) (other : Option FlatRefusal)
    → unless_refused (joined g batches) (cond badly (Some unknown) other) ≡ Ok h → badly ≡ false
named_well g h batches true other is = absurd cc
named_well g h batches false other is = refl

line_gives : (g h : FlatGroup) (batches : List FlatBatch) → group_joint g batches ≡ Ok h → (joint_answer g (map doc_edit batches)).1 ≡ h
line_gives g h batches is =
    let well : names_badly (docs_of batches) ≡ false = named_well g h batches (names_badly (docs_of batches)) _ is in
    rw (docs-doc_edit batches, well, batches_at-doc_edit g batches, is) refl

go_group_joint : (g h : FlatGroup) (batches : List FlatBatch) → group_joint g batches ≡ Ok h → AllGo g h
go_group_joint g h batches is = subst (AllGo g) (line_gives g h batches is) (go_joint g (map doc_edit batches))

-- a batch of one document is as an edit of it
go_plainly : (g h : FlatGroup) (doc : ℕ) (rule : Result FlatGroup FlatRefusal) → AllGo g (changed g doc rule).1 → plainly rule ≡ Ok h → AllGo g h
go_plainly g h doc (Ok new) go is = let same : new ≡ h = cc in subst (AllGo g) same go
go_plainly g h doc (Err why) go is = absurd cc

go_if_there : (g h : FlatGroup) (b : FlatBatch) (is_there : Bool)
    → cond is_there (plainly (group_edit g b.doc b.ops)) (Err (plain unknown)) ≡ Ok h → AllGo g h
go_if_there g h b true is = go_plainly g h b.doc (group_edit g b.doc b.ops) (go_edited g b.doc (Some b.ops)) is
go_if_there g h b false is = absurd cc

go_joint_of : (g h : FlatGroup) (found : Result (List FlatBatch) FlatRefusal) → joint_of found g ≡ Ok h → AllGo g h
go_joint_of g h (Err why) is = absurd cc
go_joint_of g h (Ok []) is = absurd cc
go_joint_of g h (Ok (b ∷ [])) is = go_if_there g h b (nat_lt b.doc DOC_COUNT) is
go_joint_of g h (Ok (b ∷ c ∷ batches)) is = go_group_joint g h (b ∷ c ∷ batches) is

joint_goes : (g h : FlatGroup) (found : Result (List FlatBatch) FlatRefusal) (answer : Result ⊤ GroupError) → ChangesAll answer g h (joint_of found g) → AllGo g h
joint_goes g h found (Ok x) is = go_joint_of g h found is
joint_goes g h found (Err e) (same, why) = subst (AllGo g) (sym same) (go_edited g 0 None)

pub joint_stands : (n : ℕ) (old new : Contents) (batches : Result (List FlatBatch) FlatRefusal) → JointlyChanged n batches old new → StaysFlat old new
joint_stands n old new batches (answer, is, done, kept) flat was =
    stands_on old.session new.session flat was kept.followers
    (joint_goes (documents old.session.group) (documents new.session.group) batches answer done)
