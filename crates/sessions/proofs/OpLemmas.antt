-- The ops of a line at their spans, one after another.
use Rattle.std.proofs.Common.{◌≡◌, List, [], ◌∷◌, ◌++◌, Option, Some, None, refl, ap, sym, ◌∙◌}
use Rattle.std.specs.Option.{option_and_then, option_map}
use Rattle.text_rules.specs.declared.Op.{Op}
use Rattle.document_rules.specs.Document.{FlatState}
use Rattle.script_lines.specs.declared.op.LineOp.{LineOp}
use Rattle.session_rules.specs.Step.{op_at, ops_at}

abbrev joined : Option Op → Option (List Op) → Option (List Op)
joined first rest = option_and_then (λ op. option_map (λ ops. op ∷ ops) rest) first

joined_some : (first : Option Op) (rest : Option (List Op)) (all : List Op) → joined first rest ≡ Some all
    → (op : Op) × (ops : List Op) × (first ≡ Some op) × (rest ≡ Some ops) × (all ≡ op ∷ ops)
joined_some None rest all is = absurd cc
joined_some (Some op) None all is = absurd cc
joined_some (Some op) (Some ops) all is = (op, ops, refl, refl, cc)

joined_none : (first : Option Op) → joined first None ≡ None
joined_none None = refl
joined_none (Some op) = refl

module _ (f : FlatState) where
  pub ops_at-more : (ops : List LineOp) (op : LineOp) (found : List Op) (next : Op) → ops_at f ops ≡ Some found → op_at f op ≡ Some next
      → ops_at f (ops ++ op ∷ []) ≡ Some (found ++ next ∷ [])
  ops_at-more [] op found next read is =
      let none : found ≡ [] = cc in
      rw (is, none) refl
  ops_at-more (o ∷ ops) op found next read is =
      let parts = joined_some (op_at f o) (ops_at f ops) found read in
      let more = ops_at-more ops op parts.1 next parts.3 is in
      ap (λ first. joined first (ops_at f (ops ++ op ∷ []))) parts.2 ∙ ap (joined (Some parts.0)) more ∙ ap (λ all. Some (all ++ next ∷ [])) (sym parts.4)

  pub ops_at-refused : (ops : List LineOp) (op : LineOp) (rest : List LineOp) → op_at f op ≡ None → ops_at f (ops ++ op ∷ rest) ≡ None
  ops_at-refused [] op rest none = rw none refl
  ops_at-refused (o ∷ ops) op rest none = rw (ops_at-refused ops op rest none) (joined_none (op_at f o))
