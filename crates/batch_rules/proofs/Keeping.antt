-- A batch with texts of a kind, applied to a text of the kind, keeps the text of the kind at each step, and so does its
-- inverse.
use Rattle.std.proofs.Common.{◌≡◌, ℕ, zero, suc, ◌+◌, ◌-◌, ◌≤◌, true, false, not, nat_lt, List, [], ◌∷◌, ◌++◌, length, map, take, drop, Ok, refl, ap, sym, subst, ◌∙◌, length-append, length-drop, arith}
use Rattle.std.specs.List.{All}
use Rattle.std.proofs.lemmas.Bool.{lt-ltb, le-leb, and_from, and_parts}
use Rattle.std.proofs.lemmas.List.{get_or-drop, drop-drop, take-append-drop, take_at, drop_at}
use Rattle.std.proofs.lemmas.List.Elements.{All-nil, All-cons, All-head, All-tail}
use Rattle.std.proofs.Math.Seq.{take-add}
use Rattle.unit_text.specs.declared.kind.Kind.{Kind}
use Rattle.unit_text.specs.declared.kind.Kind.TheVariants.{Mixed, Lf, Crlf}
use Rattle.unit_text.specs.Kinds.{IsOfKind, cuts_ending, cuts_in, is_place_in}
use Rattle.unit_text.proofs.KindLaws.{normalized-of_kind, of_kind-append, of_kind-take, of_kind-drop}
use Rattle.text_rules.specs.declared.Op.{Op}
use Rattle.text_rules.proofs.EditLemmas.{span_from_test, places_from_test}
use Rattle.batch_rules.specs.Batches.{applied_from, edited_backwards, op_in, ops_in, checked_batch, sorted_ops, inverse_from, StandFrom, KeepsKind}
use Rattle.batch_rules.proofs.Answers.{sorted_ops-ops_in, checked_ops-sorted_ops}
use Rattle.batch_rules.proofs.Order.{All-sorted_ops}
use Rattle.batch_rules.proofs.Standing.{IsGood, accepted, length-kept, length-applied_from}
use Rattle.batch_rules.proofs.Backwards.{backwards_from, backwards_is_one_pass}
use Rattle.batch_rules.proofs.Inverses.{inverse_stands, inverse_applied}
use Rattle.batch_rules.proofs.Pairs.{cuts_pair-drop}

abbrev pub HasTextOf : Kind → Op → Type 0
HasTextOf kind op = IsOfKind kind op.text

-- ---- the texts of a checked batch

texts_mapped : (kind : Kind) (ops : List Op) → All (HasTextOf kind) (map (op_in kind) ops)
texts_mapped kind [] = All-nil (HasTextOf kind)
texts_mapped kind (op ∷ ops) =
    All-cons (HasTextOf kind) (op_in kind op) (map (op_in kind) ops) (normalized-of_kind kind op.text) (texts_mapped kind ops)

mixed_texts : (ops : List Op) → All (HasTextOf Mixed) ops
mixed_texts [] = All-nil (HasTextOf Mixed)
mixed_texts (op ∷ ops) = All-cons (HasTextOf Mixed) op ops refl (mixed_texts ops)

pub texts_in : (kind : Kind) (ops : List Op) → All (HasTextOf kind) (ops_in kind ops)
texts_in Mixed ops = mixed_texts ops
texts_in Lf ops = texts_mapped Lf ops
texts_in Crlf ops = texts_mapped Crlf ops

mapped_again : (kind : Kind) (ops : List Op) → map (op_in kind) (map (op_in kind) ops) ≡ map (op_in kind) ops
mapped_again kind [] = refl
mapped_again kind (op ∷ ops) =
    ap (λ text. record { span = op.span; text = text; force = op.force } ∷ map (op_in kind) (map (op_in kind) ops))
    (normalized-of_kind kind op.text)
    ∙ ap (λ l. op_in kind op ∷ l) (mapped_again kind ops)

ops_in_again : (kind : Kind) (ops : List Op) → ops_in kind (ops_in kind ops) ≡ ops_in kind ops
ops_in_again Mixed ops = refl
ops_in_again Lf ops = mapped_again Lf ops
ops_in_again Crlf ops = mapped_again Crlf ops

-- checking a checked batch again gives the same result
pub checked_again : (kind : Kind) (x : List ℕ) (ops sorted : List Op) → checked_batch kind x ops ≡ Ok sorted
    → checked_batch kind x sorted ≡ Ok sorted
checked_again kind x ops sorted rule =
    let ok = accepted kind x (ops_in kind ops) sorted rule in
    let again : ops_in kind sorted ≡ sorted =
    ap (ops_in kind) ok.in_order ∙ sorted_ops-ops_in kind (ops_in kind ops) ∙ ap sorted_ops (ops_in_again kind ops) ∙ sym ok.in_order in
    rw again (rw (ok.in_order, checked_ops-sorted_ops kind x (ops_in kind ops)) (rw ok.in_order at rule))

-- ---- valid offsets in the suffix of a text

cuts_ending-drop : (at k : ℕ) (x : List ℕ) → cuts_ending (drop at x) (suc k) ≡ cuts_ending x (at + suc k)
cuts_ending-drop at k x =
    let here : nat_lt 0 (suc k) ≡ true = lt-ltb 0 (suc k) (omega arith) in
    let there : nat_lt 0 (at + suc k) ≡ true = lt-ltb 0 (at + suc k) (omega arith) in
    let before : suc k - 1 ≡ k = omega arith in
    let before_there : at + suc k - 1 ≡ at + k = omega arith in
    rw (here, there, before, before_there, get_or-drop at x k 0, get_or-drop at x (suc k) 0) refl

cuts_in-drop : (kind : Kind) (at k : ℕ) (x : List ℕ) → cuts_in kind (drop at x) (suc k) ≡ cuts_in kind x (at + suc k)
cuts_in-drop Mixed at k x = cuts_pair-drop at k x
cuts_in-drop Lf at k x = cuts_pair-drop at k x
cuts_in-drop Crlf at k x = rw (cuts_ending-drop at k x, cuts_pair-drop at k x) refl

nothing_of_kind : (kind : Kind) → IsOfKind kind []
nothing_of_kind Mixed = refl
nothing_of_kind Lf = refl
nothing_of_kind Crlf = refl

never_at_start : (kind : Kind) (x : List ℕ) → cuts_in kind x 0 ≡ false
never_at_start Mixed x = refl
never_at_start Lf x = refl
never_at_start Crlf x = refl

place_in_rest : (kind : Kind) (at k : ℕ) (x : List ℕ) → at + k ≤ length x → is_place_in kind x (at + k) ≡ true → is_place_in kind (drop at x) k ≡ true
place_in_rest kind at zero x within place =
    and_from _ _ (le-leb 0 (length (drop at x)) (omega arith)) (ap not (never_at_start kind (drop at x)))
place_in_rest kind at (suc k) x within place =
    and_from _ _ (le-leb (suc k) (length (drop at x)) (omega (arith, length-drop at x))) (ap not (cuts_in-drop kind at k x) ∙ (and_parts _ _ place).1)

-- ---- the steps of a batch and of its inverse

-- ops that are ordered from an offset on are ordered from the start of the text on
stands_lower : (at : ℕ) (x : List ℕ) (ops : List Op) → StandFrom at x ops → StandFrom 0 x ops
stands_lower at x [] standing = omega arith
stands_lower at x (op ∷ ops) standing = (omega arith, standing.1, standing.2)

module _ (kind : Kind) (x : List ℕ) (whole : IsOfKind kind x) where
  -- the text before an op and the text after it are of the kind
  kept_of_kind : (at : ℕ) (op : Op) → at ≤ op.span.start → IsGood kind x op → IsOfKind kind (drop at x)
      → IsOfKind kind (take (op.span.start - at) (drop at x)) × IsOfKind kind (drop op.span.end x)
  kept_of_kind at op above good rest =
      let k : ℕ = op.span.start - at in
      let span = span_from_test kind x op.span good in
      let places = places_from_test kind x op.span good in
      let place : is_place_in kind x (at + k) ≡ true = ap (is_place_in kind x) (omega (arith, above)) ∙ places.0 in (
        of_kind-take kind (drop at x) k rest (place_in_rest kind at k x (omega (arith, span.ordered, span.within, above)) place),
        of_kind-drop kind x op.span.end whole places.1,
      )

  of_kind-applied_from : (at : ℕ) (ops : List Op) → StandFrom at x ops → All (IsGood kind x) ops → All (HasTextOf kind) ops
      → IsOfKind kind (drop at x) → IsOfKind kind (applied_from at x ops)
  of_kind-applied_from at [] standing good texts rest = rest
  of_kind-applied_from at (op ∷ ops) standing good texts rest =
      let parts = kept_of_kind at op standing.0 (All-head (IsGood kind x) op ops good) rest in
      let later = of_kind-applied_from op.span.end ops standing.2 (All-tail (IsGood kind x) op ops good) (All-tail (HasTextOf kind) op ops texts) parts.1 in
      of_kind-append kind (take (op.span.start - at) (drop at x) ++ op.text) (applied_from op.span.end x ops)
      (of_kind-append kind (take (op.span.start - at) (drop at x)) op.text parts.0 (All-head (HasTextOf kind) op ops texts)) later

  -- the batch keeps the kind at each step
  keeps_from : (ops : List Op) → StandFrom 0 x ops → All (IsGood kind x) ops → All (HasTextOf kind) ops → KeepsKind kind x ops
  keeps_from ops standing good texts zero =
      subst (IsOfKind kind) (sym (backwards_is_one_pass x ops standing)) (of_kind-applied_from 0 ops standing good texts whole)
  keeps_from [] standing good texts (suc k) = whole
  keeps_from (op ∷ ops) standing good texts (suc k) =
      keeps_from ops (stands_lower op.span.end x ops standing.2) (All-tail (IsGood kind x) op ops good) (All-tail (HasTextOf kind) op ops texts) k

  -- the inverse keeps the kind at each step
  keeps_back_from : (at now : ℕ) (y : List ℕ) (ops : List Op) → StandFrom at x ops → All (IsGood kind x) ops → All (HasTextOf kind) ops
      → drop now y ≡ applied_from at x ops → now + length (applied_from at x ops) ≡ length y
      → IsOfKind kind (drop at x) → IsOfKind kind (take now y) → KeepsKind kind y (inverse_from at now x ops)
  keeps_back_from at now y ops standing good texts same size rest front zero =
      let inverse : List Op = inverse_from at now x ops in
      let all : edited_backwards y inverse ≡ take now y ++ drop at x =
      backwards_from now y inverse (inverse_stands at now x y ops standing size)
      ∙ ap (λ (z : List ℕ). take now y ++ z) (inverse_applied at now x y ops standing same) in
      subst (IsOfKind kind) (sym all) (of_kind-append kind (take now y) (drop at x) front rest)
  keeps_back_from at now y [] standing good texts same size rest front (suc k) =
      subst (IsOfKind kind) (take-append-drop now y)
      (of_kind-append kind (take now y) (drop now y) front (subst (IsOfKind kind) (sym same) rest))
  keeps_back_from at now y (op ∷ ops) standing good texts same size rest front (suc k) =
      let n : ℕ = op.span.start - at in
      let kept : List ℕ = take n (drop at x) in
      let behind : List ℕ = applied_from op.span.end x ops in
      let more : ℕ = n + length op.text in
      let later : ℕ = now + n + length op.text in
      let parts = kept_of_kind at op standing.0 (All-head (IsGood kind x) op ops good) rest in
      let whole_front : length (kept ++ op.text) ≡ more = omega (arith, length-append kept op.text, length-kept at x op ops standing) in
      let taken : take more (drop now y) ≡ kept ++ op.text = ap (take more) same ∙ take_at (kept ++ op.text) behind more whole_front in
      let left : drop more (drop now y) ≡ behind = ap (drop more) same ∙ drop_at (kept ++ op.text) behind more whole_front in
      let start : drop later y ≡ behind = ap (λ (k : ℕ). drop k y) (omega arith) ∙ sym (drop-drop more now y) ∙ left in
      let passed : take later y ≡ take now y ++ (kept ++ op.text) =
      ap (λ (k : ℕ). take k y) (omega arith) ∙ take-add now more y ∙ ap (λ (z : List ℕ). take now y ++ z) taken in
      let passed_of_kind = of_kind-append kind (take now y) (kept ++ op.text) front
      (of_kind-append kind kept op.text parts.0 (All-head (HasTextOf kind) op ops texts)) in
      keeps_back_from op.span.end later y ops standing.2 (All-tail (IsGood kind x) op ops good) (All-tail (HasTextOf kind) op ops texts)
      start (omega (arith, size, length-applied_from at x op ops standing)) parts.1 (subst (IsOfKind kind) (sym passed) passed_of_kind) k

-- the same for a checked batch
module _ (kind : Kind) (x : List ℕ) (ops sorted : List Op) (rule : checked_batch kind x ops ≡ Ok sorted) (whole : IsOfKind kind x) where
  texts : All (HasTextOf kind) sorted
  texts = rw (accepted kind x (ops_in kind ops) sorted rule).in_order (All-sorted_ops (HasTextOf kind) (ops_in kind ops) (texts_in kind ops))

  pub keeps_kind : KeepsKind kind x sorted
  keeps_kind =
      let ok = accepted kind x (ops_in kind ops) sorted rule in
      keeps_from kind x whole sorted ok.standing ok.good texts

  pub keeps_kind_back : KeepsKind kind (applied_from 0 x sorted) (inverse_from 0 0 x sorted)
  keeps_kind_back =
      let ok = accepted kind x (ops_in kind ops) sorted rule in
      keeps_back_from kind x whole 0 0 (applied_from 0 x sorted) sorted ok.standing ok.good texts refl (omega arith) whole (nothing_of_kind kind)
