-- The replacement of all occurrences: one batch, which only a limit refuses, and which one undo reverts.
use Rattle.std.proofs.Common.{◌≡◌, ◌↔◌, ◌⊎◌, ℕ, ◌+◌, ◌-◌, ◌*◌, ◌<◌, ◌≤◌, Bool, true, false, not, if◌then◌else◌, nat_lt, nat_le, List, [], ◌∷◌, ◌++◌, length, map, take, drop, Option, Some, None, Result, Ok, Err, refl, ap, sym, subst, ◌∙◌, inl, inr, arith}
use Rattle.std.specs.List.{All}
use Rattle.std.proofs.lemmas.Bool.{le-ltb, lt-ltb, and_from, or_from}
use Rattle.std.proofs.Math.Nat.{suc-mul}
use Rattle.std.proofs.lemmas.List.{length-take, length-drop, length-append}
use Rattle.std.proofs.lemmas.List.Elements.{All-nil, All-cons, All-head, All-tail}
use Rattle.text_lengths.specs.declared.Span.{Span}
use Rattle.unit_text.specs.declared.kind.Kind.{Kind}
use Rattle.unit_text.specs.Units.{IsPaired}
use Rattle.unit_text.specs.Kinds.{normalized}
use Rattle.text_rules.specs.declared.Op.{Op}
use Rattle.text_rules.specs.Edits.{is_bad_span}
use Rattle.batch_rules.specs.Refusals.{BatchRefusal}
use Rattle.batch_rules.specs.Refusals as refused
use Rattle.batch_rules.specs.Batches.{most_units, has_bad_span, overlap, applied_from, op_in, ops_in, checked_ops, checked_batch, StandFrom}
use Rattle.batch_rules.proofs.Answers.{ops_in-map}
use Rattle.batch_rules.proofs.Order.{sorted_ops_standing}
use Rattle.batch_rules.proofs.Pairs.{HasPairedText}
use Rattle.document_rules.specs.declared.ModelError.{ModelError}
use Rattle.document_rules.specs.Refusals.{FlatRefusal, limit}
use Rattle.document_rules.specs.Outcomes.{Moves}
use Rattle.document_rules.specs.Document.{greatest_version, FlatState, after_batch, edited_by, flat_edit, flat_stop}
use Rattle.document_rules.specs.Paired.{IsPairedState}
use Rattle.document_rules.proofs.PairedStates.{edited_paired}
use Rattle.search_rules.specs.Occurrences.{span_at, occurrences, IsOccurrence, AreApart, AreOccurrences}
use Rattle.search_rules.specs.Replacing.{flat_find, op_for, replacing, closed_after, edited_alone, flat_replace_all, replaced_from, replaced, TakesBack}
use Rattle.search_rules.proofs.Walking.{places_of, stands_within, occurrences_are}

-- ---- the ops of a replace, as a batch

-- an occurrence is a span of the text
good_span : (kind : Kind) (x sought : List ℕ) (span : Span) → IsOccurrence kind x sought span → is_bad_span kind x span ≡ false
good_span kind x sought span there =
    let at : ℕ = span.start in
    let places = places_of kind x sought at there.1 in
    let good : is_bad_span kind x (span_at sought at) ≡ false =
    or_from _ _ (le-ltb (at + length sought) at (omega arith)) (ap not (and_from _ _ places.0 places.1)) in
    subst (λ (s : Span). is_bad_span kind x s ≡ false) (sym there.0) good

no_bad_span : (kind : Kind) (x sought text : List ℕ) (spans : List Span) → All (IsOccurrence kind x sought) spans
    → has_bad_span kind x (replacing spans text) ≡ false
no_bad_span kind x sought text [] each = refl
no_bad_span kind x sought text (span ∷ spans) each =
    or_from _ _ (good_span kind x sought span (All-head (IsOccurrence kind x sought) span spans each))
    (no_bad_span kind x sought text spans (All-tail (IsOccurrence kind x sought) span spans each))

span_within : (kind : Kind) (x sought : List ℕ) (span : Span) → IsOccurrence kind x sought span → span.end ≤ length x
span_within kind x sought span there =
    let end : span.end ≡ span.start + length sought = ap (λ (s : Span). s.end) there.0 in
    omega (arith, end, stands_within kind x sought span.start there.1)

-- the ops stand one after another
replacing_stands : (kind : Kind) (at : ℕ) (x sought text : List ℕ) (spans : List Span) → at ≤ length x → AreApart at spans
    → All (IsOccurrence kind x sought) spans → StandFrom at x (replacing spans text)
replacing_stands kind at x sought text [] within apart each = within
replacing_stands kind at x sought text (span ∷ spans) within apart each =
    let later = span_within kind x sought span (All-head (IsOccurrence kind x sought) span spans each) in (
      apart.0,
      omega (arith, apart.1),
      replacing_stands kind span.end x sought text spans later apart.2 (All-tail (IsOccurrence kind x sought) span spans each),
    )

no_overlap : (at : ℕ) (x : List ℕ) (ops : List Op) → StandFrom at x ops → overlap ops ≡ false
no_overlap at x [] standing = refl
no_overlap at x (op ∷ []) standing = refl
no_overlap at x (op ∷ next ∷ ops) standing =
    or_from _ _ (le-ltb next.span.start op.span.end standing.2.0) (no_overlap op.span.end x (next ∷ ops) standing.2)

-- the line endings of the kind come into the new text
replacing_in : (kind : Kind) (spans : List Span) (text : List ℕ) → ops_in kind (replacing spans text) ≡ replacing spans (normalized kind text)
replacing_in kind spans text = ops_in-map kind (replacing spans text) ∙ each spans
  where
    each : (spans : List Span) → map (op_in kind) (replacing spans text) ≡ replacing spans (normalized kind text)
    each [] = refl
    each (span ∷ spans) = ap (λ l. op_for (normalized kind text) span ∷ l) (each spans)

replacing_applied : (at : ℕ) (x : List ℕ) (spans : List Span) (text : List ℕ)
    → applied_from at x (replacing spans text) ≡ replaced_from at x spans text
replacing_applied at x [] text = refl
replacing_applied at x (span ∷ spans) text =
    ap (λ l. take (span.start - at) (drop at x) ++ text ++ l) (replacing_applied span.end x spans text)

-- the result of checking a batch whose ops are in order and apart
checked_standing : (kind : Kind) (x : List ℕ) (ops : List Op) → has_bad_span kind x ops ≡ false → StandFrom 0 x ops
    → checked_ops kind x ops ≡ (if nat_lt most_units (length (applied_from 0 x ops)) then Err refused.limit else Ok ops)
checked_standing kind x ops good standing = rw (good, sorted_ops_standing 0 x ops standing, no_overlap 0 x ops standing) refl

-- a replace of occurrences is refused neither for a span nor for an overlap
checked_spans : (kind : Kind) (x sought text : List ℕ) (spans : List Span) → AreOccurrences kind x sought spans
    → checked_batch kind x (replacing spans text)
    ≡ (if nat_lt most_units (length (replaced kind x spans text)) then Err refused.limit else Ok (replacing spans (normalized kind text)))
checked_spans kind x sought text spans found =
    let new : List ℕ = normalized kind text in
    let standing = replacing_stands kind 0 x sought new spans (omega arith) found.apart found.each in
    ap (checked_ops kind x) (replacing_in kind spans text)
    ∙ checked_standing kind x (replacing spans new) (no_bad_span kind x sought new spans found.each) standing
    ∙ ap (λ (y : List ℕ). if nat_lt most_units (length y) then Err refused.limit else Ok (replacing spans new)) (replacing_applied 0 x spans new)

pub checked_replacing : (kind : Kind) (x sought text : List ℕ) → 0 < length sought
    → checked_batch kind x (replacing (occurrences kind x sought) text)
    ≡ (if nat_lt most_units (length (replaced kind x (occurrences kind x sought) text)) then Err refused.limit
    else Ok (replacing (occurrences kind x sought) (normalized kind text)))
checked_replacing kind x sought text some =
    checked_spans kind x sought text (occurrences kind x sought) (occurrences_are kind x sought some)

-- ---- the rule, by its cases

-- the result of the rule if something is found: the new document, unless a limit refuses it
abbrev unless_limit : Bool → Bool → FlatState → Result (Option FlatState) FlatRefusal
unless_limit too_long last new = if too_long then Err limit else (if last then Err limit else Ok (Some new))

closed_by : (too_long last : Bool) (f : FlatState) (ops : List Op)
    → nat_le greatest_version f.version ≡ last
    → closed_after (edited_by f (if too_long then Err refused.limit else Ok ops)) ≡ unless_limit too_long last (flat_stop (after_batch f ops))
closed_by true last f ops is = refl
closed_by false true f ops is = rw is refl
closed_by false false f ops is = rw is refl

-- the document after a replace
abbrev pub after_replace : FlatState → List ℕ → List ℕ → FlatState
after_replace f sought text = flat_stop (after_batch (flat_stop f) (replacing (flat_find f sought) (normalized f.kind text)))

abbrev too_long : FlatState → List ℕ → List ℕ → Bool
too_long f sought text = nat_lt most_units (length (replaced f.kind f.units (flat_find f sought) text))

some_found : (f : FlatState) (sought text : List ℕ) (span : Span) (spans : List Span) → 0 < length sought → flat_find f sought ≡ span ∷ spans
    → flat_replace_all f sought text
    ≡ unless_limit (too_long f sought text) (nat_le greatest_version f.version) (after_replace f sought text)
some_found f sought text span spans some found =
    ap (λ (l : List Span). edited_alone f (replacing l text)) found
    ∙ ap (λ (l : List Span). closed_after (flat_edit (flat_stop f) (replacing l text))) (sym found)
    ∙ ap (λ r. closed_after (edited_by (flat_stop f) r)) (checked_replacing f.kind f.units sought text some)
    ∙ closed_by (too_long f sought text) (nat_le greatest_version f.version) (flat_stop f)
    (replacing (flat_find f sought) (normalized f.kind text)) refl

-- nothing is found, or the rule makes that document unless a limit refuses it
replace_cases : (f : FlatState) (sought text : List ℕ) → 0 < length sought
    → ((flat_find f sought ≡ []) × (flat_replace_all f sought text ≡ Ok None))
    ⊎ (flat_replace_all f sought text ≡ unless_limit (too_long f sought text) (nat_le greatest_version f.version) (after_replace f sought text))
replace_cases f sought text some = by (flat_find f sought) refl
  where
    by : (spans : List Span) → flat_find f sought ≡ spans
        → ((flat_find f sought ≡ []) × (flat_replace_all f sought text ≡ Ok None))
        ⊎ (flat_replace_all f sought text ≡ unless_limit (too_long f sought text) (nat_le greatest_version f.version) (after_replace f sought text))
    by [] found = inl (found, ap (λ (l : List Span). edited_alone f (replacing l text)) found)
    by (span ∷ spans) found = inr (some_found f sought text span spans some found)

limit_alone : (a b : Bool) (new : FlatState) (why : FlatRefusal) → unless_limit a b new ≡ Err why → why ≡ limit
limit_alone true b new why e = cc
limit_alone false true new why e = cc
limit_alone false false new why e = absurd cc

made_alone : (a b : Bool) (new g : FlatState) → unless_limit a b new ≡ Ok (Some g) → g ≡ new
made_alone true b new g e = absurd cc
made_alone false true new g e = absurd cc
made_alone false false new g e = cc

never_nothing : (a b : Bool) (new : FlatState) → unless_limit a b new ≡ Ok None → ⊥
never_nothing true b new e = cc
never_nothing false true new e = cc
never_nothing false false new e = cc

-- only a limit refuses a replace
pub replace_refusal : (f : FlatState) (sought text : List ℕ) (why : FlatRefusal) → 0 < length sought
    → flat_replace_all f sought text ≡ Err why → why ≡ limit
replace_refusal f sought text why some refusal =
    elim (replace_cases f sought text some) [
      | inl none ↦ absurd (let e : Ok None ≡ Err why = sym none.1 ∙ refusal in cc)
      | inr is ↦ limit_alone (too_long f sought text) (nat_le greatest_version f.version) (after_replace f sought text) why (sym is ∙ refusal)
    ]

-- what an accepted replace makes
pub replace_makes : (f g : FlatState) (sought text : List ℕ) → 0 < length sought → flat_replace_all f sought text ≡ Ok (Some g)
    → g ≡ after_replace f sought text
replace_makes f g sought text some done =
    elim (replace_cases f sought text some) [
      | inl none ↦ absurd (let e : Ok None ≡ Ok (Some g) = sym none.1 ∙ done in cc)
      | inr is ↦ made_alone (too_long f sought text) (nat_le greatest_version f.version) (after_replace f sought text) g (sym is ∙ done)
    ]

-- nothing is to be done exactly where nothing is found
pub nothing_found : (f : FlatState) (sought text : List ℕ) → 0 < length sought
    → (flat_replace_all f sought text ≡ Ok None) ↔ (flat_find f sought ≡ [])
nothing_found f sought text some = (
  λ done. elim (replace_cases f sought text some) [
    | inl none ↦ none.0
    | inr is ↦ absurd (never_nothing (too_long f sought text) (nat_le greatest_version f.version) (after_replace f sought text) (sym is ∙ done))
  ],
  λ found. ap (λ (l : List Span). edited_alone f (replacing l text)) found,
)

-- ---- what it leaves

-- the new text has the text in the place of each occurrence
pub replaced_units : (f g : FlatState) (sought text : List ℕ) → 0 < length sought → flat_replace_all f sought text ≡ Ok (Some g)
    → g.units ≡ replaced f.kind f.units (flat_find f sought) text
replaced_units f g sought text some done =
    ap (λ (h : FlatState). h.units) (replace_makes f g sought text some done)
    ∙ replacing_applied 0 f.units (flat_find f sought) (normalized f.kind text)

back_again : (f : FlatState) (ops : List Op) → TakesBack f (flat_stop (after_batch (flat_stop f) ops))
back_again f ops = record {
  undone = _;
  rule = refl;
  units = refl;
  kind = refl;
  alternative = refl;
  steps = refl;
}

-- one undo takes it back
pub replaced_taken_back : (f g : FlatState) (sought text : List ℕ) → 0 < length sought → flat_replace_all f sought text ≡ Ok (Some g)
    → TakesBack f g
replaced_taken_back f g sought text some done =
    subst (TakesBack f) (sym (replace_makes f g sought text some done))
    (back_again f (replacing (flat_find f sought) (normalized f.kind text)))

-- ---- how long the new text is

-- from an offset on: the occurrences have at most as many units as the rest of the text
found_within : (kind : Kind) (at : ℕ) (x sought : List ℕ) (spans : List Span) → at ≤ length x → AreApart at spans → All (IsOccurrence kind x sought) spans
    → at + length spans * length sought ≤ length x
found_within kind at x sought [] within apart each = omega (arith, within)
found_within kind at x sought (span ∷ spans) within apart each =
    let here = All-head (IsOccurrence kind x sought) span spans each in
    let end : span.end ≡ span.start + length sought = ap (λ (s : Span). s.end) here.0 in
    let rest = found_within kind span.end x sought spans (span_within kind x sought span here) apart.2 (All-tail (IsOccurrence kind x sought) span spans each) in
    let one : length (span ∷ spans) * length sought ≡ length spans * length sought + length sought = suc-mul (length spans) (length sought) in
    omega (arith, end, rest, one, apart.0)

grown_from : (kind : Kind) (at : ℕ) (x sought text : List ℕ) (spans : List Span) → at ≤ length x → AreApart at spans → All (IsOccurrence kind x sought) spans
    → length (replaced_from at x spans text) + length spans * length sought ≡ (length x - at) + length spans * length text
grown_from kind at x sought text [] within apart each = omega (arith, length-drop at x)
grown_from kind at x sought text (span ∷ spans) within apart each =
    let here = All-head (IsOccurrence kind x sought) span spans each in
    let end : span.end ≡ span.start + length sought = ap (λ (s : Span). s.end) here.0 in
    let later = span_within kind x sought span here in
    let rest = grown_from kind span.end x sought text spans later apart.2 (All-tail (IsOccurrence kind x sought) span spans each) in
    let front : length (take (span.start - at) (drop at x)) ≡ span.start - at =
    length-take (span.start - at) (drop at x) ∙ omega (arith, length-drop at x, later, end, apart.0) in
    let first : List ℕ = take (span.start - at) (drop at x) in
    let last : List ℕ = replaced_from span.end x spans text in
    let parts : length ((first ++ text) ++ last) ≡ (span.start - at) + (length text + length last) =
    length-append (first ++ text) last ∙ omega (arith, front, length-append first text) in
    let whole : length (replaced_from at x (span ∷ spans) text) ≡ length ((first ++ text) ++ last) = refl in
    let one : length (span ∷ spans) * length sought ≡ length spans * length sought + length sought = suc-mul (length spans) (length sought) in
    let other : length (span ∷ spans) * length text ≡ length spans * length text + length text = suc-mul (length spans) (length text) in
    omega (arith, whole, parts, rest, one, other, end, later, apart.0)

-- all that is found lies in the text
pub found_fits : (f : FlatState) (sought : List ℕ) → 0 < length sought → length (flat_find f sought) * length sought ≤ length f.units
found_fits f sought some =
    let found = occurrences_are f.kind f.units sought some in
    omega (arith, found_within f.kind 0 f.units sought (flat_find f sought) (omega arith) found.apart found.each)

-- each place loses the sought units and gets the new ones
pub replaced-length : (f : FlatState) (sought text : List ℕ) → 0 < length sought
    → length (replaced f.kind f.units (flat_find f sought) text) + length (flat_find f sought) * length sought
    ≡ length f.units + length (flat_find f sought) * length (normalized f.kind text)
replaced-length f sought text some =
    let found = occurrences_are f.kind f.units sought some in
    omega (arith, grown_from f.kind 0 f.units sought (normalized f.kind text) (flat_find f sought) (omega arith) found.apart found.each)

-- a text that would be too long is refused
pub replace_too_long : (f : FlatState) (sought text : List ℕ) → 0 < length sought → length f.units ≤ most_units
    → most_units < length (replaced f.kind f.units (flat_find f sought) text) → flat_replace_all f sought text ≡ Err limit
replace_too_long f sought text some fits long =
    elim (replace_cases f sought text some) [
      | inl none ↦ absurd (omega (arith, fits, long, ap (λ (l : List Span). length (replaced_from 0 f.units l (normalized f.kind text))) none.0))
      | inr is ↦ is ∙ ap (λ b. unless_limit b (nat_le greatest_version f.version) (after_replace f sought text)) (lt-ltb _ _ long)
    ]

-- ---- a replacement is an edit with the undo step closed before and after it

pub nothing_as_edit : (f : FlatState) (sought text : List ℕ) → replacing (flat_find f sought) text ≡ [] → flat_replace_all f sought text ≡ Ok None
nothing_as_edit f sought text none = ap (edited_alone f) none

alone_with_ops : (f : FlatState) (ops : List Op) → 0 < length ops → edited_alone f ops ≡ closed_after (flat_edit (flat_stop f) ops)
alone_with_ops f [] some = absurd (omega arith)
alone_with_ops f (op ∷ ops) some = refl

pub made_as_edit : (f g : FlatState) (sought text : List ℕ) → 0 < length (replacing (flat_find f sought) text)
    → flat_edit (flat_stop f) (replacing (flat_find f sought) text) ≡ Ok g → flat_replace_all f sought text ≡ Ok (Some (flat_stop g))
made_as_edit f g sought text some done = alone_with_ops f (replacing (flat_find f sought) text) some ∙ ap closed_after done

refused_by : (f : FlatState) (r : Result (List Op) BatchRefusal) (why : FlatRefusal) → edited_by f r ≡ Err why → edited_by (flat_stop f) r ≡ Err why
refused_by f (Err e) why refusal = refusal
refused_by f (Ok ops) why refusal = last (nat_le greatest_version f.version) refusal
  where
    last : (b : Bool) → (if b then Err limit else Ok (after_batch f ops)) ≡ Err why
        → (if b then Err limit else Ok (after_batch (flat_stop f) ops)) ≡ Err why
    last true e = cc
    last false e = absurd cc

-- which refuses what the edit refuses, before the step of undo is closed
pub refused_as_edit : (f : FlatState) (sought text : List ℕ) (why : FlatRefusal) → 0 < length (replacing (flat_find f sought) text)
    → flat_edit f (replacing (flat_find f sought) text) ≡ Err why → flat_replace_all f sought text ≡ Err why
refused_as_edit f sought text why some refusal =
    let ops : List Op = replacing (flat_find f sought) text in
    alone_with_ops f ops some ∙ ap closed_after (refused_by f (checked_batch f.kind f.units ops) why refusal)

-- ---- lone surrogates

paired_texts : (spans : List Span) (text : List ℕ) → IsPaired text → All HasPairedText (replacing spans text)
paired_texts [] text paired = All-nil HasPairedText
paired_texts (span ∷ spans) text paired =
    All-cons HasPairedText (op_for text span) (replacing spans text) paired (paired_texts spans text paired)

paired_stop : (f : FlatState) → IsPairedState f → IsPairedState (flat_stop f)
paired_stop f h = record { units = h.units; undo = h.undo; redo = h.redo; shelf = h.shelf }

paired_alone : (f g : FlatState) (ops : List Op) → edited_alone f ops ≡ Ok (Some g) → IsPairedState f → All HasPairedText ops → IsPairedState g
paired_alone f g [] done h texts = absurd cc
paired_alone f g (op ∷ ops) done h texts = by (flat_edit (flat_stop f) (op ∷ ops)) refl done
  where
    by : (r : Result FlatState FlatRefusal) → flat_edit (flat_stop f) (op ∷ ops) ≡ r → closed_after r ≡ Ok (Some g) → IsPairedState g
    by (Err why) is e = absurd cc
    by (Ok new) is e =
        let same : flat_stop new ≡ g = cc in
        subst IsPairedState same (paired_stop new (edited_paired (flat_stop f) new (op ∷ ops) is (paired_stop f h) texts))

-- a replace brings no lone surrogate into a document that has none, where the new text has none
pub replaced_paired : (f g : FlatState) (sought text : List ℕ) → flat_replace_all f sought text ≡ Ok (Some g) → IsPaired text → IsPairedState f
    → IsPairedState g
replaced_paired f g sought text done paired h =
    paired_alone f g (replacing (flat_find f sought) text) done h (paired_texts (flat_find f sought) text paired)

-- and so of a call that follows the rule
pub IsPairedState-replace_all : (result : Result Bool ModelError) (old new : FlatState) (sought text : List ℕ)
    → Moves result old new (flat_replace_all old sought text) → IsPaired text → IsPairedState old → IsPairedState new
IsPairedState-replace_all (Ok true) old new sought text done paired h = replaced_paired old new sought text done paired h
IsPairedState-replace_all (Ok false) old new sought text done paired h = subst IsPairedState (sym done.1) h
IsPairedState-replace_all (Err e) old new sought text done paired h = subst IsPairedState (sym done.0) h
