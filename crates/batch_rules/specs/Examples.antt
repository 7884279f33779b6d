-- Worked examples of the definitions.
use Rattle.std.specs.Prelude.{◌≡◌, ℕ, [], ◌∷◌, List, codes, true, false, Some, None, Ok, Err, refl}
use Rattle.unit_text.specs.declared.kind.Kind.TheVariants.{Mixed, Crlf}
use Rattle.text_rules.specs.declared.Op.{Op}
use Rattle.batch_rules.specs.Refusals as refused
use Rattle.batch_rules.specs.Batches.{sorted_ops, overlap, applied, checked_batch, inverse_of, edited_backwards, text_units}
use Rattle.batch_rules.specs.Events.{first_misfit, after_batches}

abbrev op : ℕ → ℕ → List ℕ → Op
op start end text = record { span = record { start = start; end = end }; text = text; force = false }

two_ops_in_the_other_order : applied (codes "abcdef") (op 4 5 (codes "Y") ∷ op 1 2 (codes "XX") ∷ []) ≡ codes "aXXcdYf"
two_ops_in_the_other_order = refl

two_inserts_at_one_place : applied (codes "ab") (op 1 1 (codes "1") ∷ op 1 1 (codes "2") ∷ []) ≡ codes "a12b"
two_inserts_at_one_place = refl

an_insert_inside_a_deletion : overlap (sorted_ops (op 1 4 [] ∷ op 3 3 [] ∷ [])) ≡ true
an_insert_inside_a_deletion = refl

an_insert_at_the_end_of_a_deletion : overlap (sorted_ops (op 1 3 [] ∷ op 3 3 (codes "z") ∷ [])) ≡ false
an_insert_at_the_end_of_a_deletion = refl

two_deletions_that_touch : inverse_of (codes "abcdef") (op 1 3 [] ∷ op 3 5 [] ∷ []) ≡ op 1 1 (codes "bc") ∷ op 1 1 (codes "de") ∷ []
two_deletions_that_touch = refl

the_inverse_of_two_ops : inverse_of (codes "abcdef") (op 4 5 (codes "Y") ∷ op 1 2 (codes "XX") ∷ [])
    ≡ op 1 3 (codes "b") ∷ op 5 6 (codes "e") ∷ []
the_inverse_of_two_ops = refl

two_ops_taken_back : applied (codes "aXXcdYf") (op 1 3 (codes "b") ∷ op 5 6 (codes "e") ∷ []) ≡ codes "abcdef"
two_ops_taken_back = refl

two_ops_from_the_last_to_the_first : edited_backwards (codes "abcdef") (op 1 2 (codes "XX") ∷ op 4 5 (codes "Y") ∷ []) ≡ codes "aXXcdYf"
two_ops_from_the_last_to_the_first = refl

texts_of_two_ops : text_units (op 1 2 (codes "XX") ∷ op 4 5 (codes "Y") ∷ []) ≡ 3
texts_of_two_ops = refl

a_batch_comes_in_order : checked_batch Mixed (codes "abcdef") (op 4 5 (codes "Y") ∷ op 1 2 (codes "XX") ∷ [])
    ≡ Ok (op 1 2 (codes "XX") ∷ op 4 5 (codes "Y") ∷ [])
a_batch_comes_in_order = refl

a_bad_span_comes_before_an_overlap : checked_batch Mixed (codes "abc") (op 0 2 [] ∷ op 1 3 [] ∷ op 2 9 [] ∷ []) ≡ Err refused.range
a_bad_span_comes_before_an_overlap = refl

an_overlap : checked_batch Mixed (codes "abc") (op 1 3 [] ∷ op 0 2 [] ∷ []) ≡ Err refused.overlap
an_overlap = refl

texts_of_the_kind : checked_batch Crlf (codes "a\r\nb") (op 4 4 (codes "\nc\r") ∷ []) ≡ Ok (op 4 4 (codes "\r\nc\r\n") ∷ [])
texts_of_the_kind = refl

a_place_inside_an_ending : checked_batch Crlf (codes "a\r\nb") (op 2 2 (codes "x") ∷ []) ≡ Err refused.range
a_place_inside_an_ending = refl

-- `X` before `ab`, and then `Y` at the end of the result
two_batches_in_turn : after_batches (codes "ab") ((op 0 0 (codes "X") ∷ []) ∷ (op 3 3 (codes "Y") ∷ []) ∷ []) ≡ codes "XabY"
two_batches_in_turn = refl

each_fits_the_text_of_its_moment : first_misfit (codes "ab") ((op 0 0 (codes "X") ∷ []) ∷ (op 3 3 (codes "Y") ∷ []) ∷ []) ≡ None
each_fits_the_text_of_its_moment = refl

the_second_ends_above_the_text : first_misfit (codes "ab") ((op 0 1 [] ∷ []) ∷ (op 1 2 [] ∷ []) ∷ []) ≡ Some 2
the_second_ends_above_the_text = refl
