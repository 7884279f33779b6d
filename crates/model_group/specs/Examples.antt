-- Worked examples of the definitions: a joint edit of two of three documents, its undo, and an edit of one of them.
use Rattle.std.specs.Prelude.{◌≡◌, ℕ, zero, suc, false, true, List, [], ◌∷◌, map, codes, Option, Some, None, Result, Ok, Err, refl}
use Rattle.std.proofs.Common.{arith, reverse, ap, subst₂}
use Rattle.unit_text.specs.declared.kind.Kind.TheVariants.{Mixed}
use Rattle.text_rules.specs.declared.Op.{Op}
use Rattle.mark_rules.specs.declared.Mark.TheVariants.{New}
use Rattle.undo_rules.specs.declared.Tag.{Tag}
use Rattle.hiding_rules.specs.declared.LineState.TheVariants.{Code}
use Rattle.hiding_rules.specs.Hidden.{standard_scanner}
use Rattle.document_rules.specs.Document.{FlatState, new_document}
use Rattle.group_rules.specs.Group.{FlatGroup, doc_in, with_doc, group_edit}
use Rattle.group_rules.specs.Joint.{FlatBatch, batch_for, group_joint}
use Rattle.group_rules.specs.Going.{group_undo}
use Rattle.group_rules.specs.Shared.{shared_with, undo_tags, AreShared}
use Rattle.model_page.specs.declared.change.Way.TheVariants.{Back}
use Rattle.model_core.specs.Edited.{HasEdited}
use Rattle.model_core.specs.State.{ModelState, KeepsParse}
use Rattle.model_group.specs.Calls.{HasJoined, AllJoin, GoesOrStays, AllGo, going_with}
use Rattle.model_group.specs.State.{GroupState, EachModel, ActsOn, documents}

-- a model of the document, whose text has this many pieces
abbrev model : FlatState → ℕ → ModelState
model f pieces = record {
  document = f;
  parsed = None;
  tree = None;
  marks = New ∷ [];
  states = record { begins = []; ends = Code };
  fresh = false;
  pieces = pieces;
  held = 0;
  overfull = false;
  room = record { text = record { edits = 1; units = 66; breaks = 2 }; marks = 1; changes = 1 };
}

abbrev letter : List ℕ → FlatState
letter text = new_document text standard_scanner Mixed

-- "a", "b" and "c"
abbrev three : GroupState
three = model (letter (codes "a")) 1 ∷ model (letter (codes "b")) 1 ∷ model (letter (codes "c")) 1 ∷ []

abbrev insert : ℕ → List ℕ → List Op
insert at text = record { span = record { start = at; end = at }; text = text; force = false } ∷ []

-- "x" behind "a", and "y" before "b"
abbrev batches : List FlatBatch
batches = record { doc = 0; ops = insert 1 (codes "x") } ∷ record { doc = 1; ops = insert 0 (codes "y") } ∷ []

abbrev after : {E : Type 0} → Result FlatGroup E → FlatGroup
after (Ok g) = g
after (Err why) = []

abbrev moved : {E : Type 0} → Result (Option FlatGroup) E → FlatGroup
moved (Ok (Some g)) = g
moved (Ok None) = []
moved (Err why) = []

-- models of these documents, whose texts have this many pieces
abbrev models : FlatGroup → ℕ → ℕ → ℕ → GroupState
models g a b c = model (doc_in g 0) a ∷ model (doc_in g 1) b ∷ model (doc_in g 2) c ∷ []

-- a relation of three models, shown for each
each_of_three : (P : ℕ → ModelState → ModelState → Type 0) (a b c x y z : ModelState) → P 0 a x → P 1 b y → P 2 c z
    → EachModel P (a ∷ b ∷ c ∷ []) (x ∷ y ∷ z ∷ [])
each_of_three P a b c x y z p q r zero m k was is = let old : a ≡ m = cc in let new : x ≡ k = cc in subst₂ (P 0) old new p
each_of_three P a b c x y z p q r (suc zero) m k was is = let old : b ≡ m = cc in let new : y ≡ k = cc in subst₂ (P 1) old new q
each_of_three P a b c x y z p q r (suc (suc zero)) m k was is = let old : c ≡ m = cc in let new : z ≡ k = cc in subst₂ (P 2) old new r
each_of_three P a b c x y z p q r (suc (suc (suc n))) m k was is = absurd cc

-- a model with one piece keeps its parse
stays : (f g : FlatState) → KeepsParse (model f 1) (model g 1)
stays f g = record {
  parsed = refl;
  tree = refl;
  marks = refl;
  states = refl;
  fresh = refl;
  pieces = refl;
  held = refl;
  overfull = refl;
  room = record {
    text = record { edits = omega arith; units = omega arith; breaks = omega arith };
    marks = omega arith;
    changes = λ some. some;
  };
}

-- ---- a joint edit

-- "ax", "yb" and "c"
abbrev joined : GroupState
joined = models (after (group_joint (documents three) batches)) 3 2 1

they_are_the_documents_of_the_rule : group_joint (documents three) batches ≡ Ok (documents joined)
they_are_the_documents_of_the_rule = refl

an_insert_adds_two_pieces_at_most : AllJoin batches (Ok tt) three joined
an_insert_adds_two_pieces_at_most =
    each_of_three (λ n m k. HasJoined (batch_for n batches) m k) _ _ _ _ _ _
    (record { parsed = refl; tree = refl; states = refl; marks = refl; fresh = refl; pieces = omega arith })
    (record { parsed = refl; tree = refl; states = refl; marks = refl; fresh = refl; pieces = omega arith })
    (stays (letter (codes "c")) (letter (codes "c")))

-- ---- an undo in one of the two, which undoes both

abbrev undone : GroupState
undone = models (moved (group_undo (documents joined) 1)) 5 2 1

the_rule_undoes_both : group_undo (documents joined) 1 ≡ Ok (Some (documents undone))
the_rule_undoes_both = refl

both_go_back_and_the_third_stays : AllGo Back 1 (Ok true) joined undone
both_go_back_and_the_third_stays =
    each_of_three (λ n m k. GoesOrStays Back (going_with Back joined 1 n) m k) _ _ _ _ _ _
    (record { parsed = refl; tree = refl; states = refl; marks = refl; fresh = refl; pieces = omega arith })
    (record { parsed = refl; tree = refl; states = refl; marks = refl; fresh = refl; pieces = omega arith })
    (stays (letter (codes "c")) (letter (codes "c")))

-- ---- an edit of one of them

-- "a", "bz" and "c"
abbrev edited : GroupState
edited = models (after (group_edit (documents three) 1 (insert 1 (codes "z")))) 1 3 1

an_edit_acts_on_its_document : ActsOn 1 (HasEdited (insert 1 (codes "z")) (Ok tt)) three edited
an_edit_acts_on_its_document =
    each_of_three _ _ _ _ _ _ _
    (λ same. absurd (omega arith), λ other. stays (letter (codes "a")) (letter (codes "a"))) (
      λ same. record { parsed = refl; tree = refl; states = refl; marks = refl; fresh = refl; pieces = omega arith },
      λ other. absurd (other refl),
    )
    (λ same. absurd (omega arith), λ other. stays (letter (codes "c")) (letter (codes "c")))

-- ---- shared steps

abbrev versions : List Tag → List ℕ
versions tags = map (λ (tag : Tag). tag.version) tags

-- a second joint edit of the same two documents
abbrev joined_twice : FlatGroup
joined_twice = after (group_joint (documents joined) batches)

both_share_the_last_step_first : versions (shared_with 1 (undo_tags joined_twice 0)) ≡ 3 ∷ 2 ∷ []
both_share_the_last_step_first = refl

they_stand_in_one_order_in_both : shared_with 0 (undo_tags joined_twice 1) ≡ shared_with 1 (undo_tags joined_twice 0)
they_stand_in_one_order_in_both = refl

-- the steps of one document in reverse order
abbrev turned : FlatState → FlatState
turned f = record f { history = record f.history { undo = reverse f.history.undo } }

another_order_is_none_that_they_share : AreShared (with_doc joined_twice 1 (turned (doc_in joined_twice 1))) → ⊥
another_order_is_none_that_they_share shared =
    let same = shared.in_order.undo 0 1 (omega arith) (omega arith) in
    let turned : ◌≡◌ {A = List ℕ} (3 ∷ 2 ∷ []) (2 ∷ 3 ∷ []) = ap versions same in absurd cc
