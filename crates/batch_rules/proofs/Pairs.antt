-- A batch splits no pair of surrogates.
use Rattle.std.proofs.Common.{◌≡◌, ℕ, zero, suc, ◌+◌, ◌-◌, ◌≤◌, true, false, not, nat_lt, List, [], ◌∷◌, ◌++◌, length, take, drop, refl, ap, sym, ◌∙◌, length-drop, arith}
use Rattle.std.specs.List.{All}
use Rattle.std.proofs.lemmas.Bool.{lt-ltb, le-leb, and_from, and_parts}
use Rattle.std.proofs.lemmas.List.{get_or-drop}
use Rattle.std.proofs.lemmas.List.Elements.{All-nil, All-cons, All-head, All-tail}
use Rattle.unit_text.specs.Units.{is_place, cuts_pair, IsPaired}
use Rattle.unit_text.proofs.Paired.{IsPaired-cut, IsPaired-append}
use Rattle.unit_text.specs.declared.kind.Kind.{Kind}
use Rattle.text_rules.specs.declared.Op.{Op}
use Rattle.text_rules.proofs.EditLemmas.{span_from_test}
use Rattle.batch_rules.specs.Batches.{applied_from, StandFrom, inverse_from}
use Rattle.batch_rules.proofs.Standing.{IsGood}

abbrev pub HasPairedText : Op → Type 0
HasPairedText op = IsPaired op.text

-- an offset greater than 0 in a suffix is inside a pair exactly if the same offset of the text is
pub cuts_pair-drop : (at k : ℕ) (x : List ℕ) → cuts_pair (drop at x) (suc k) ≡ cuts_pair x (at + suc k)
cuts_pair-drop at k x =
    let here : nat_lt 0 (suc k) ≡ true = lt-ltb 0 (suc k) (omega arith) in
    let there : nat_lt 0 (at + suc k) ≡ true = lt-ltb 0 (at + suc k) (omega arith) in
    let before : suc k - 1 ≡ k = omega arith in
    let before_there : at + suc k - 1 ≡ at + k = omega arith in
    rw (here, there, before, before_there, get_or-drop at x k 0, get_or-drop at x (suc k) 0) refl

place_in_rest : (at k : ℕ) (x : List ℕ) → at + k ≤ length x → is_place x (at + k) ≡ true → is_place (drop at x) k ≡ true
place_in_rest at zero x within place = and_from _ _ (le-leb 0 (length (drop at x)) (omega arith)) refl
place_in_rest at (suc k) x within place =
    and_from _ _ (le-leb (suc k) (length (drop at x)) (omega (arith, length-drop at x))) (ap not (cuts_pair-drop at k x) ∙ (and_parts _ _ place).1)

-- if the texts have no unpaired surrogate, the rest of the text after the batch has none
IsPaired-applied_from : (kind : Kind) (at : ℕ) (x : List ℕ) (ops : List Op) → StandFrom at x ops → All (IsGood kind x) ops → All HasPairedText ops → IsPaired x → IsPaired (drop at x)
    → IsPaired (applied_from at x ops)
IsPaired-applied_from kind at x [] standing good texts whole rest = rest
IsPaired-applied_from kind at x (op ∷ ops) standing good texts whole rest =
    let k : ℕ = op.span.start - at in
    let span = span_from_test kind x op.span (All-head (IsGood kind x) op ops good) in
    let same : op.span.start ≡ at + k = omega (arith, standing.0) in
    let place : is_place x (at + k) ≡ true = ap (is_place x) (sym same) ∙ span.start in
    let kept = IsPaired-cut (drop at x) k (place_in_rest at k x (omega (arith, span.ordered, span.within)) place) rest in
    let after = IsPaired-cut x op.span.end span.end whole in
    let later = IsPaired-applied_from kind op.span.end x ops standing.2 (All-tail (IsGood kind x) op ops good) (All-tail HasPairedText op ops texts) whole after.1 in
    IsPaired-append (take k (drop at x) ++ op.text) (applied_from op.span.end x ops)
    (IsPaired-append (take k (drop at x)) op.text kept.0 (All-head HasPairedText op ops texts)) later

pub IsPaired-applied : (kind : Kind) (x : List ℕ) (ops : List Op) → StandFrom 0 x ops → All (IsGood kind x) ops → All HasPairedText ops → IsPaired x → IsPaired (applied_from 0 x ops)
IsPaired-applied kind x ops standing good texts whole = IsPaired-applied_from kind 0 x ops standing good texts whole whole

-- the texts of the inverse have no unpaired surrogate
IsPaired-inverse_from : (kind : Kind) (at now : ℕ) (x : List ℕ) (ops : List Op) → All (IsGood kind x) ops → IsPaired x → All HasPairedText (inverse_from at now x ops)
IsPaired-inverse_from kind at now x [] good whole = All-nil HasPairedText
IsPaired-inverse_from kind at now x (op ∷ ops) good whole =
    let s : ℕ = op.span.start in
    let k : ℕ = op.span.end - s in
    let later : ℕ = now + (s - at) + length op.text in
    let span = span_from_test kind x op.span (All-head (IsGood kind x) op ops good) in
    let place : is_place x (s + k) ≡ true = ap (is_place x) (omega (arith, span.ordered)) ∙ span.end in
    let rest = IsPaired-cut x s span.start whole in
    let taken = IsPaired-cut (drop s x) k (place_in_rest s k x (omega (arith, span.ordered, span.within)) place) rest.1 in
    All-cons HasPairedText (record { span = record { start = now + (s - at); end = later }; text = take k (drop s x); force = false }) (inverse_from op.span.end later x ops)
    taken.0 (IsPaired-inverse_from kind op.span.end later x ops (All-tail (IsGood kind x) op ops good) whole)

pub IsPaired-inverse : (kind : Kind) (x : List ℕ) (ops : List Op) → All (IsGood kind x) ops → IsPaired x → All HasPairedText (inverse_from 0 0 x ops)
IsPaired-inverse kind x ops good whole = IsPaired-inverse_from kind 0 0 x ops good whole
