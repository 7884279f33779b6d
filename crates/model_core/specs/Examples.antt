-- Worked examples of the definitions.
use Rattle.std.specs.Prelude.{◌≡◌, ◌+◌, ℕ, List, [], ◌∷◌, None, codes, true, false, refl}
use Rattle.std.proofs.Common.{arith}
use Rattle.unit_text.specs.declared.kind.Kind.TheVariants.{Mixed, Lf}
use Rattle.text_rules.specs.declared.Op.{Op}
use Rattle.mark_rules.specs.declared.Mark.TheVariants.{New}
use Rattle.undo_rules.specs.Stack.{Step}
use Rattle.hiding_rules.specs.declared.LineState.TheVariants.{Code}
use Rattle.hiding_rules.specs.Hidden.{standard_scanner}
use Rattle.line_states.specs.Settling.{borders}
use Rattle.document_rules.specs.Document.{FlatChange, batch, recast, new_document}
use Rattle.model_page.specs.declared.change.Change.{Change}
use Rattle.model_page.specs.declared.change.Way.TheVariants.{Back, On}
use Rattle.model_core.specs.declared.ready.Action.TheVariants.{Make}
use Rattle.model_core.specs.State.{Room, ModelState}
use Rattle.model_page.specs.Compact.{outgrows}
use Rattle.model_core.specs.Compact.{most_held_after, KeepsBound}
use Rattle.model_core.specs.Prepared.{Need, CanCommit, IsEnough, next_edit_count, next_marking_count, next_unit_count, next_break_count}
use Rattle.model_page.specs.declared.change.Change.TheVariants.{Ops}

abbrev insert : ℕ → Op
insert at = record { span = record { start = at; end = at }; text = codes "x"; force = false }

-- a batch on a text with mixed line endings
abbrev changed : List ℕ → List Op → List ℕ → FlatChange
changed before ops after = record {
  before = record { units = before; kind = Mixed };
  deed = batch ops;
  after = record { units = after; kind = Mixed };
}

-- a batch of two ops, and then one of a single op
abbrev two_batches : Step FlatChange
two_batches = record {
  changes = changed (codes "a") (insert 0 ∷ insert 1 ∷ []) (codes "xax")
      ∷ changed (codes "xax") (insert 3 ∷ []) (codes "xaxx") ∷ [];
  alt_before = 1;
  alt_after = 3;
  tag = None;
}

abbrev one_batch : Step FlatChange
one_batch = record { changes = changed [] (insert 0 ∷ []) (codes "x") ∷ []; alt_before = 0; alt_after = 1; tag = None }

the_edits_of_all_batches_of_the_next_step : next_edit_count Back (two_batches ∷ one_batch ∷ []) ≡ 3
the_edits_of_all_batches_of_the_next_step = refl

no_step_has_no_edits : next_edit_count On [] ≡ 0
no_step_has_no_edits = refl

their_texts_on_the_way_on : next_unit_count On (two_batches ∷ one_batch ∷ []) ≡ 3
their_texts_on_the_way_on = refl

no_text_takes_inserts_back : next_unit_count Back (two_batches ∷ one_batch ∷ []) ≡ 0
no_text_takes_inserts_back = refl

abbrev replace : ℕ → ℕ → List ℕ → Op
replace start end text = record { span = record { start = start; end = end }; text = text; force = false }

-- a break after `a`, and then a text with two breaks that replaces both
abbrev two_changes : Step FlatChange
two_changes = record {
  changes = changed (codes "a") (replace 1 1 (codes "\n") ∷ []) (codes "a\n")
      ∷ changed (codes "a\n") (replace 0 2 (codes "b\r\nc\n") ∷ []) (codes "b\r\nc\n") ∷ [];
  alt_before = 1;
  alt_after = 3;
  tag = None;
}

the_breaks_of_both_changes : next_break_count On (two_changes ∷ one_batch ∷ []) ≡ 3
the_breaks_of_both_changes = refl

the_break_that_comes_back : next_break_count Back (two_changes ∷ one_batch ∷ []) ≡ 1
the_break_that_comes_back = refl

-- the lines of `a` and `b` get LF
abbrev other_endings : Step FlatChange
other_endings = record {
  changes = record {
    before = record { units = codes "a\r\nb"; kind = Mixed };
    deed = recast;
    after = record { units = codes "a\nb"; kind = Lf };
  } ∷ [];
  alt_before = 1;
  alt_after = 2;
  tag = None;
}

the_whole_text_is_put_in : next_unit_count On (other_endings ∷ []) ≡ 3
the_whole_text_is_put_in = refl

the_whole_text_comes_back : next_unit_count Back (other_endings ∷ []) ≡ 4
the_whole_text_comes_back = refl

no_line_is_marked : next_marking_count (other_endings ∷ []) ≡ 0
no_line_is_marked = refl

-- two edits, whose texts have five units and one break together
abbrev two_edits : Need
two_edits = record { text = record { edits = 2; units = 5; breaks = 1 }; changes = 1 }

-- room for them, with this many breaks
abbrev room_with : ℕ → Room
room_with breaks = record { text = record { edits = 2; units = 135; breaks = breaks }; marks = 2; changes = 1 }

seven_breaks_are_enough : IsEnough (room_with 7) two_edits
seven_breaks_are_enough = record {
  text = record { edits = omega arith; units = omega arith; breaks = omega arith };
  marks = omega arith;
  changes = omega arith;
}

six_breaks_are_one_too_few : IsEnough (room_with 6) two_edits → ⊥
six_breaks_are_one_too_few enough = omega (arith, enough.text.breaks)

-- a document of one line, with room for one edit that inserts one unit
abbrev six_letters : ModelState
six_letters = record {
  document = new_document (codes "abcdef") standard_scanner Mixed;
  parsed = None;
  tree = None;
  marks = New ∷ [];
  states = borders [] Code;
  fresh = false;
  pieces = 1;
  held = 6;
  overfull = false;
  room = record { text = record { edits = 1; units = 66; breaks = 3 }; marks = 1; changes = 1 };
}

-- `x` replaces `cd`, with the inverse
abbrev two_by_one : Change
two_by_one = Ops (replace 2 4 (codes "x") ∷ []) (replace 2 3 (codes "cd") ∷ [])

two_units_make_way_for_one : CanCommit six_letters (record { version = 1; kind = Mixed; action = Make two_by_one; room = None })
two_units_make_way_for_one = record {
  version = refl;
  kind = refl;
  action = record { accepted = refl; back = refl };
  room = record {
    text = record { edits = omega arith; units = omega arith; breaks = omega arith };
    marks = omega arith;
    changes = omega arith;
  };
}

-- ---- the buffers

-- three times six units and 2^15 are 32786
no_more_than_that : outgrows 6 32786 ≡ false
no_more_than_that = refl

one_unit_more : outgrows 6 32787 ≡ true
one_unit_more = refl

-- six units before, five after, and an edit that puts in one
after_an_edit : most_held_after 6 5 1 1 ≡ 18 + 5 + 9 + 65536
after_an_edit = refl

-- the same document with buffers that hold this many units
abbrev holding : ℕ → ModelState
holding units = record six_letters { held = units }

a_text_is_not_rewritten_for_nothing : KeepsBound 1 1 (holding 20) (holding 7) → ⊥
a_text_is_not_rewritten_for_nothing keeps = let due : false ≡ true = keeps.paid (omega arith) in cc

it_is_rewritten_in_time : KeepsBound 1 1 (holding 20) (holding 65600) → ⊥
it_is_rewritten_in_time keeps = omega (arith, keeps.bound refl)
