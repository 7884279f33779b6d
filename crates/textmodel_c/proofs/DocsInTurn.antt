-- The documents of ops in turn, as the numbers of all ops without repeats in a row.
use Rattle.std.proofs.Common.{◌≡◌, ℕ, eqb, List, [], ◌∷◌, map, inl, inr, refl, ap, sym, ◌∙◌}
use Rattle.std.specs.List.{dedup, dedup_from}
use Rattle.std.proofs.lemmas.Bool.{eqb-true, eq-eqb, ne_eqb, eqb-false, cases_Bool}
use Rattle.textmodel_c.specs.declared.joint.DocOp.{DocOp}
use Rattle.textmodel_c.specs.Faults.{docs_in_turn}

abbrev pub doc_of : DocOp → ℕ
doc_of op = op.doc

turns_from : (op : DocOp) (ops : List DocOp) → dedup_from eqb op.doc (map doc_of ops) ≡ docs_in_turn (op ∷ ops)
turns_from op [] = refl
turns_from op (next ∷ ops) =
    elim (cases_Bool (eqb op.doc next.doc)) [
      | inl same ↦
          let is = eqb-true op.doc next.doc same in
          rw (same, eq-eqb next.doc op.doc (sym is)) (ap (λ (n : ℕ). dedup_from eqb n (map doc_of ops)) is ∙ turns_from next ops)
      | inr other ↦
          rw (other, ne_eqb next.doc op.doc (λ is. eqb-false op.doc next.doc other (sym is))) (ap (λ (ns : List ℕ). op.doc ∷ ns) (turns_from next ops))
    ]

pub turns : (ops : List DocOp) → dedup eqb (map doc_of ops) ≡ docs_in_turn ops
turns [] = refl
turns (op ∷ ops) = turns_from op ops
