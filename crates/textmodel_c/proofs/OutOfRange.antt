-- One pass over ops, up to the first that is out of range.
use Rattle.std.proofs.Common.{◌≡◌, ℕ, ◌+◌, ◌-◌, ◌<◌, Bool, true, false, ◌||◌, ltb, List, [], ◌∷◌, ◌++◌, length, take, get_or, refl, sym, ap, ◌∙◌, add-one}
use Rattle.std.specs.List.{list_any}
use Rattle.std.proofs.lemmas.Bool.{or_parts, or_from}
use Rattle.std.proofs.lemmas.List.{take_more}
use Rattle.std.proofs.lemmas.List.Folds.{list_any_more}
use Rattle.textmodel_c.specs.declared.joint.DocOp.{DocOp}
use Rattle.textmodel_c.specs.Faults.{pass_end, IsFirst}

-- what the texts of ops leave of a joined one
abbrev pub left_by : ℕ → List DocOp → ℕ
left_by left [] = left
left_by left (op ∷ ops) = left_by (left - op.units) ops

left_by-more : (left : ℕ) (ops : List DocOp) (op : DocOp) → left_by left (ops ++ op ∷ []) ≡ left_by left ops - op.units
left_by-more left [] op = refl
left_by-more left (first ∷ ops) op = left_by-more (left - first.units) ops op

or_none : (a : Bool) → (a || false) ≡ a
or_none true = refl
or_none false = refl

or_assoc : (a b c : Bool) → (a || (b || c)) ≡ ((a || b) || c)
or_assoc true b c = refl
or_assoc false b c = refl

pass_end-more : (left : ℕ) (ops : List DocOp) (op : DocOp) → pass_end left (ops ++ op ∷ []) ≡ (pass_end left ops || ltb (left_by left ops) op.units)
pass_end-more left [] op = or_none (ltb left op.units)
pass_end-more left (first ∷ ops) op =
    ap (λ (b : Bool). ltb left first.units || b) (pass_end-more (left - first.units) ops op)
    ∙ or_assoc (ltb left first.units) (pass_end (left - first.units) ops) (ltb (left_by (left - first.units) ops) op.units)

-- no op of those so far is out of range, and their texts leave so much
pub record AreInRange (bad : DocOp → Bool) (left rest : ℕ) (ops : List DocOp) : Type 0 where
  pub rest_is : rest ≡ left_by left ops
  pub texts : pass_end left ops ≡ false
  pub spans : list_any bad ops ≡ false

-- the op at a place, where there is one
abbrev pub any_op : DocOp
any_op = record { doc = 0; start = 0; end = 0; units = 0; force = false }

abbrev pub op_at : List DocOp → ℕ → DocOp
op_at ops i = get_or ops i any_op

module _ (bad : DocOp → Bool) (left rest : ℕ) (ops : List DocOp) (i : ℕ) (inside : i < length ops) (so_far : AreInRange bad left rest (take i ops)) where
  next : take (i + 1) ops ≡ take i ops ++ op_at ops i ∷ []
  next = take_more ops i any_op inside

  texts_next : pass_end left (take (i + 1) ops) ≡ ltb rest (op_at ops i).units
  texts_next =
      ap (pass_end left) next ∙ pass_end-more left (take i ops) (op_at ops i)
      ∙ ap (λ (b : Bool). b || ltb (left_by left (take i ops)) (op_at ops i).units) so_far.texts
      ∙ ap (λ (n : ℕ). ltb n (op_at ops i).units) (sym so_far.rest_is)

  spans_next : list_any bad (take (i + 1) ops) ≡ bad (op_at ops i)
  spans_next = list_any_more bad ops i any_op inside ∙ ap (λ (b : Bool). b || bad (op_at ops i)) so_far.spans

  pub in_range-more : (ltb rest (op_at ops i).units || bad (op_at ops i)) ≡ false → AreInRange bad left (rest - (op_at ops i).units) (take (i + 1) ops)
  in_range-more good =
      let parts = or_parts (ltb rest (op_at ops i).units) (bad (op_at ops i)) good in
      record {
        rest_is =
            ap (λ (n : ℕ). n - (op_at ops i).units) so_far.rest_is ∙ sym (left_by-more left (take i ops) (op_at ops i)) ∙ ap (left_by left) (sym next);
        texts = texts_next ∙ parts.0;
        spans = spans_next ∙ parts.1;
      }

  pub out_here : (ltb rest (op_at ops i).units || bad (op_at ops i)) ≡ true → IsFirst (λ (ops : List DocOp). pass_end left ops || list_any bad ops) ops i
  out_here out = record {
    within = inside;
    before = or_from (pass_end left (take i ops)) (list_any bad (take i ops)) so_far.texts so_far.spans;
    there =
        ap (λ (n : ℕ). pass_end left (take n ops) || list_any bad (take n ops)) (sym (add-one i))
        ∙ ap (λ (b : Bool). b || list_any bad (take (i + 1) ops)) texts_next ∙ ap (λ (b : Bool). ltb rest (op_at ops i).units || b) spans_next ∙ out;
  }

-- the first one that is bad
pub bad_here : {A : Type 0} (bad : A → Bool) (xs : List A) (i : ℕ) (d : A) → i < length xs → list_any bad (take i xs) ≡ false → bad (get_or xs i d) ≡ true
    → IsFirst (list_any bad) xs i
bad_here bad xs i d inside so_far is = record {
  within = inside;
  before = so_far;
  there =
      ap (λ (n : ℕ). list_any bad (take n xs)) (sym (add-one i))
      ∙ list_any_more bad xs i d inside ∙ ap (λ (b : Bool). b || bad (get_or xs i d)) so_far ∙ is;
}
