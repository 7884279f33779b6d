-- Results of an edit of a valid span.
use Rattle.std.proofs.Common.{◌≡◌, ℕ, ◌+◌, ◌-◌, ◌≤◌, true, false, List, ◌++◌, length, take, drop, length-append, length-drop, arith}
use Rattle.std.proofs.lemmas.Bool.{ltb-false, leb-true, and_parts, or_parts, not-false}
use Rattle.std.proofs.lemmas.List.{length-take-le}
use Rattle.text_lengths.specs.declared.Span.{Span}
use Rattle.unit_text.specs.declared.kind.Kind.{Kind}
use Rattle.unit_text.specs.Kinds.{IsOfKind, is_place_in}
use Rattle.unit_text.specs.Units.{is_place, IsPaired}
use Rattle.unit_text.proofs.KindLaws.{is_place-of_kind, of_kind-append, of_kind-take, of_kind-drop}
use Rattle.unit_text.proofs.Paired.{IsPaired-cut, IsPaired-append}
use Rattle.text_rules.specs.declared.Op.{Op}
use Rattle.text_rules.specs.Edits.{is_bad_span, edited}

-- the properties of a valid span
pub record IsSpan (x : List ℕ) (span : Span) : Type 0 where
  pub ordered : span.start ≤ span.end
  pub within : span.end ≤ length x
  pub start : is_place x span.start ≡ true
  pub end : is_place x span.end ≡ true

-- both ends of a span that passes the test are valid offsets
pub places_from_test : (kind : Kind) (x : List ℕ) (span : Span) → is_bad_span kind x span ≡ false
    → (is_place_in kind x span.start ≡ true) × (is_place_in kind x span.end ≡ true)
places_from_test kind x span e = and_parts _ _ (not-false _ (or_parts _ _ e).1)

pub span_from_test : (kind : Kind) (x : List ℕ) (span : Span) → is_bad_span kind x span ≡ false → IsSpan x span
span_from_test kind x span e =
    let places = places_from_test kind x span e in
    let start = is_place-of_kind kind x span.start places.0 in
    let end = is_place-of_kind kind x span.end places.1 in
    record { ordered = ltb-false _ _ (or_parts _ _ e).0; within = leb-true _ _ (and_parts _ _ end).0; start = start; end = end }

pub length-edited : (x : List ℕ) (op : Op) → IsSpan x op.span
    → length (edited x op) ≡ length x - (op.span.end - op.span.start) + length op.text
length-edited x op span =
    let ordered = span.ordered in
    let within = span.within in
    omega (
      arith,
      length-append (take op.span.start x ++ op.text) (drop op.span.end x),
      length-append (take op.span.start x) op.text,
      length-take-le op.span.start x (omega arith),
      length-drop op.span.end x,
    )

pub IsPaired-edited : (x : List ℕ) (op : Op) → IsSpan x op.span → IsPaired x → IsPaired op.text → IsPaired (edited x op)
IsPaired-edited x op span old text =
    IsPaired-append (take op.span.start x ++ op.text) (drop op.span.end x)
    (IsPaired-append (take op.span.start x) op.text (IsPaired-cut x op.span.start span.start old).0 text)
    (IsPaired-cut x op.span.end span.end old).1

-- an edit at valid offsets with a text of the kind results in a text of the kind
pub IsOfKind-edited : (kind : Kind) (x : List ℕ) (op : Op) → IsOfKind kind x → IsOfKind kind op.text
    → is_place_in kind x op.span.start ≡ true → is_place_in kind x op.span.end ≡ true → IsOfKind kind (edited x op)
IsOfKind-edited kind x op old text start end =
    of_kind-append kind (take op.span.start x ++ op.text) (drop op.span.end x)
    (of_kind-append kind (take op.span.start x) op.text (of_kind-take kind x op.span.start old start) text)
    (of_kind-drop kind x op.span.end old end)
