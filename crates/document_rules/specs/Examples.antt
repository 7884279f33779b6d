-- Worked examples of the rules.
use Rattle.std.specs.Prelude.{◌≡◌, ℕ, List, [], ◌∷◌, Result, Ok, Err, Option, Some, None, codes, false, true, refl}
use Rattle.std.specs.List.{flat_map}
use Rattle.unit_text.specs.declared.kind.Kind.TheVariants.{Mixed, Lf, Crlf}
use Rattle.text_rules.specs.declared.Op.{Op}
use Rattle.decoration_rules.specs.declared.Deco.{Deco}
use Rattle.decoration_rules.specs.declared.Mark.{Mark}
use Rattle.decoration_rules.specs.declared.Sticky.TheVariants.{AlwaysGrows}
use Rattle.hiding_rules.specs.Hidden.{standard_scanner}
use Rattle.bracket_rules.specs.declared.Entry.{Entry}
use Rattle.bracket_rules.specs.declared.Status.{Status}
use Rattle.bracket_rules.specs.declared.Status.TheVariants.{PairedOpening, PairedClosing, Unclosed, Unexpected}
use Rattle.undo_rules.specs.Stack.{Stack}
use Rattle.snapshot_rules.specs.Snapshots.{FlatShelf}
use Rattle.document_rules.specs.Snapshots.{flat_snapshot, flat_peek_of, flat_skipped, flat_close_of, EndsBesidePairs}
use Rattle.document_rules.specs.Stops.{flat_stops}
use Rattle.document_rules.specs.Brackets.{flat_brackets, flat_match, flat_level}
use Rattle.document_rules.specs.Refusals.{FlatRefusal, unknown, range, overlap, limit}
use Rattle.document_rules.specs.InTurn.{edited_in_turn, one_by_one}
use Rattle.document_rules.specs.Document.{FlatText, FlatState, FlatChange, batch, recast, flat_open, flat_eol, new_document, after_batch, flat_edit, flat_undo, flat_redo, flat_decorate, flat_deco, flat_decos, carried_on, flat_line, flat_value, flat_position, flat_offset, flat_line_count, flat_event, flat_changes, greatest_version}

abbrev op : ℕ → ℕ → List ℕ → Op
op start end text = record { span = record { start = start; end = end }; text = text; force = false }

abbrev mixed : List ℕ → FlatText
mixed units = record { units = units; kind = Mixed }

-- a document with this text, versions, last change, and undo and redo steps
abbrev at_version : ℕ → ℕ → List ℕ → List (List Op) → List ℕ → Stack FlatChange → FlatState
at_version version alternative before batches text history = record (new_document text standard_scanner Mixed) {
  version = version;
  alternative = alternative;
  history = history;
  last = Some (record { before = before; batches = batches; edits = flat_map one_by_one batches });
}

an_edit_over_a_break : flat_edit (new_document (codes "ab\ncd") standard_scanner Mixed) (op 1 4 (codes "X") ∷ [])
    ≡ Ok (at_version 2 2 (codes "ab\ncd") ((op 1 4 (codes "X") ∷ []) ∷ []) (codes "aXd") (record {
      undo = record {
        changes = record { before = mixed (codes "ab\ncd"); deed = batch (op 1 4 (codes "X") ∷ []); after = mixed (codes "aXd") } ∷ [];
        alt_before = 1;
        alt_after = 2;
        tag = None;
      } ∷ [];
      redo = [];
      is_open = true;
    }))
an_edit_over_a_break = refl

an_edit_past_the_end : flat_edit (new_document (codes "ab") standard_scanner Mixed) (op 1 3 (codes "X") ∷ []) ≡ Err range
an_edit_past_the_end = refl

two_edits_that_overlap : flat_edit (new_document (codes "abcde") standard_scanner Mixed) (op 1 4 [] ∷ op 3 3 [] ∷ []) ≡ Err overlap
two_edits_that_overlap = refl

an_edit_at_the_last_version : flat_edit (record (new_document (codes "ab") standard_scanner Mixed) { version = greatest_version })
    (op 1 2 (codes "X") ∷ [])
    ≡ Err limit
an_edit_at_the_last_version = refl

-- "a", after an edit that appends "b"
abbrev one_edit : FlatState
one_edit = after_batch (new_document (codes "a") standard_scanner Mixed) (op 1 1 (codes "b") ∷ [])

-- ... and after the undo of this edit
abbrev undone_edit : FlatState
undone_edit = at_version 3 1 (codes "ab") ((op 1 2 [] ∷ []) ∷ []) (codes "a")
    (record { undo = []; redo = one_edit.history.undo; is_open = false })

an_undo_goes_back_to_the_old_text : flat_undo one_edit
    ≡ Ok (Some undone_edit)
an_undo_goes_back_to_the_old_text = refl

a_redo_makes_the_step_again : flat_redo undone_edit
    ≡ Ok (Some (at_version 4 2 (codes "a") ((op 1 1 (codes "b") ∷ []) ∷ []) (codes "ab")
    (record { undo = one_edit.history.undo; redo = []; is_open = false })))
a_redo_makes_the_step_again = refl

-- two edits without a stop are one step
abbrev two_edits : FlatState
two_edits = after_batch one_edit (op 2 2 (codes "c") ∷ [])

an_undo_takes_back_the_whole_step : flat_undo two_edits
    ≡ Ok (Some (at_version 4 1 (codes "abc") ((op 2 3 [] ∷ []) ∷ (op 1 2 [] ∷ []) ∷ []) (codes "a")
    (record { undo = []; redo = two_edits.history.undo; is_open = false })))
an_undo_takes_back_the_whole_step = refl

a_new_document_has_no_event : flat_event (new_document (codes "a") standard_scanner Mixed) ≡ None
a_new_document_has_no_event = refl

-- the second edit alone, from the version before it
the_event_of_an_edit : flat_event two_edits ≡ Some (record { from = 2; batches = (op 2 2 (codes "c") ∷ []) ∷ [] })
the_event_of_an_edit = refl

the_event_of_an_undo : flat_event undone_edit ≡ Some (record { from = 2; batches = (op 1 2 [] ∷ []) ∷ [] })
the_event_of_an_undo = refl

a_new_document_has_no_changes : flat_changes (new_document (codes "a") standard_scanner Mixed) ≡ []
a_new_document_has_no_changes = refl

abbrev two_ops : List Op
two_ops = op 0 1 (codes "XX") ∷ op 2 3 (codes "Y") ∷ []

-- the edits of a batch of two ops begin with the last one
the_changes_of_two_ops : flat_changes (after_batch (new_document (codes "abcd") standard_scanner Mixed) two_ops)
    ≡ op 2 3 (codes "Y") ∷ op 0 1 (codes "XX") ∷ []
the_changes_of_two_ops = refl

they_give_the_text_of_now : edited_in_turn (codes "abcd") (op 2 3 (codes "Y") ∷ op 0 1 (codes "XX") ∷ []) ≡ codes "XXbYd"
they_give_the_text_of_now = refl

-- the changes of a call that has something to do
abbrev changes_then : Result (Option FlatState) FlatRefusal → List Op
changes_then (Ok (Some f)) = flat_changes f
changes_then (Ok None) = []
changes_then (Err why) = []

-- the second edit of the step is undone first
the_changes_of_an_undo : changes_then (flat_undo two_edits) ≡ op 2 3 [] ∷ op 1 2 [] ∷ []
the_changes_of_an_undo = refl

no_undo_at_the_last_version : flat_undo (record one_edit { version = greatest_version }) ≡ Err limit
no_undo_at_the_last_version = refl

-- a decoration of owner 1, the first
abbrev mark_at : ℕ → ℕ → Mark
mark_at start end =
    record { id = 1; owner = 1; span = record { start = start; end = end }; sticky = AlwaysGrows; collapse = false }

-- "ab" with a decoration at its one inner place
abbrev decorated_text : FlatState
decorated_text = record (new_document (codes "ab") standard_scanner Mixed) {
  decorations = record { marks = mark_at 1 1 ∷ []; next_id = 2 };
}

a_decoration_of_one_place : flat_decorate (new_document (codes "ab") standard_scanner Mixed) 1 []
    (record { span = record { start = 1; end = 1 }; stick = 0; collapse = false } ∷ [])
    ≡ Ok decorated_text
a_decoration_of_one_place = refl

-- the span of the decoration
abbrev stands_at : FlatState → Option Deco
stands_at f = flat_deco f 1

abbrev deco : ℕ → ℕ → Deco
deco start end = record { id = 1; owner = 1; span = record { start = start; end = end }; stick = 0; collapse = false }

abbrev forced_op : Op
forced_op = record (op 1 1 (codes "x")) { force = true }

abbrev forced_insert : FlatState
forced_insert = after_batch decorated_text (forced_op ∷ [])

a_forced_insert_moves_it : stands_at forced_insert ≡ Some (deco 2 2)
a_forced_insert_moves_it = refl

-- the span of the decoration after an undo
abbrev stands_back_at : Result (Option FlatState) FlatRefusal → Option Deco
stands_back_at (Ok (Some f)) = stands_at f
stands_back_at (Ok None) = None
stands_back_at (Err e) = None

an_undo_moves_it_back : stands_back_at (flat_undo forced_insert) ≡ Some (deco 1 1)
an_undo_moves_it_back = refl

-- ... and after a second insert in the same step, before it
abbrev second_insert : FlatState
second_insert = after_batch forced_insert (op 0 0 (codes "yy") ∷ [])

a_second_insert_moves_it_on : stands_at second_insert ≡ Some (deco 4 4)
a_second_insert_moves_it_on = refl

an_undo_moves_it_back_over_both : stands_back_at (flat_undo second_insert) ≡ Some (deco 1 1)
an_undo_moves_it_back_over_both = refl

it_touches_the_unit_before_it : flat_decos decorated_text (record { start = 0; end = 1 }) None ≡ Ok (deco 1 1 ∷ [])
it_touches_the_unit_before_it = refl

-- a redo forces nothing: the decoration grows, as it did not in the original edit
a_redo_forces_nothing : carried_on decorated_text.decorations
    (record { before = mixed (codes "ab"); deed = batch (forced_op ∷ []); after = mixed (codes "axb") } ∷ [])
    ≡ record { marks = mark_at 1 2 ∷ []; next_id = 2 }
a_redo_forces_nothing = refl

nothing_to_undo : flat_undo (new_document (codes "ab") standard_scanner Mixed) ≡ Ok None
nothing_to_undo = refl

the_second_line : flat_line (new_document (codes "ab\ncd") standard_scanner Mixed) 2 ≡ Ok (codes "cd")
the_second_line = refl

an_empty_text_has_a_line : flat_line_count (new_document (codes "") standard_scanner Mixed) ≡ 1
an_empty_text_has_a_line = refl

units_of_a_span : flat_value (new_document (codes "abcd") standard_scanner Mixed) (record { start = 1; end = 3 }) ≡ Ok (codes "bc")
units_of_a_span = refl

a_span_past_the_end : flat_value (new_document (codes "abcd") standard_scanner Mixed) (record { start = 1; end = 5 }) ≡ Err range
a_span_past_the_end = refl

position_inside_a_break : flat_position (new_document (codes "a\r\nb") standard_scanner Mixed) 2 ≡ Some (record { line = 1; column = 3 })
position_inside_a_break = refl

no_position_past_the_end : flat_position (new_document (codes "ab") standard_scanner Mixed) 3 ≡ None
no_position_past_the_end = refl

no_offset_inside_a_break : flat_offset (new_document (codes "a\r\nb") standard_scanner Mixed) (record { line = 1; column = 3 }) ≡ None
no_offset_inside_a_break = refl

abbrev entry : ℕ → ℕ → Status → ℕ → Entry
entry column kind status level =
    record { place = record { lines = 0; columns = column }; len = 1; kind = kind; status = status; level = level }

brackets_of_one_line : flat_brackets (new_document (codes "([)]{") standard_scanner Mixed) 1 1
    ≡ Ok (entry 0 0 PairedOpening 0 ∷ entry 1 1 Unclosed 1 ∷ entry 2 0 PairedClosing 0 ∷ entry 3 1 Unexpected 0 ∷ entry 4 2 Unclosed 0 ∷ [])
brackets_of_one_line = refl

no_second_line_of_brackets : flat_brackets (new_document (codes "()") standard_scanner Mixed) 1 2 ≡ Err range
no_second_line_of_brackets = refl

the_partner_of_the_first : flat_match (new_document (codes "([)]{") standard_scanner Mixed) (record { line = 1; column = 1 })
    ≡ Ok (Some (record { line = 1; column = 3 }, 1))
the_partner_of_the_first = refl

an_unclosed_one_has_no_partner : flat_match (new_document (codes "([)]{") standard_scanner Mixed) (record { line = 1; column = 2 })
    ≡ Ok None
an_unclosed_one_has_no_partner = refl

level_inside_two : flat_level (new_document (codes "([)]{") standard_scanner Mixed) (record { line = 1; column = 3 }) ≡ Ok 2
level_inside_two = refl

level_after_a_pair : flat_level (new_document (codes "([)]{") standard_scanner Mixed) (record { line = 1; column = 4 }) ≡ Ok 0
level_after_a_pair = refl

level_at_the_end : flat_level (new_document (codes "([)]{") standard_scanner Mixed) (record { line = 1; column = 6 }) ≡ Ok 1
level_at_the_end = refl

-- the only snapshot, with this unread rest
abbrev one_snapshot : List ℕ → FlatShelf
one_snapshot rest = record { snapshots = record { id = 1; rest = rest } ∷ []; next_id = 2 }

-- `hi`, of which a snapshot was taken
abbrev hi : FlatState
hi = record (new_document (codes "hi") standard_scanner Mixed) { shelf = one_snapshot (codes "hi") }

a_snapshot_of_the_text_of_now : flat_snapshot (new_document (codes "hi") standard_scanner Mixed) ≡ Ok hi
a_snapshot_of_the_text_of_now = refl

-- ... and then became `Xhi`
abbrev hi_edited : FlatState
hi_edited = after_batch hi (op 0 0 (codes "X") ∷ [])

an_edit_leaves_the_snapshot : flat_peek_of hi_edited 1 2 ≡ Ok (codes "hi")
an_edit_leaves_the_snapshot = refl

what_was_read_is_read_once : flat_peek_of (flat_skipped hi_edited 1 2) 1 2 ≡ Ok []
what_was_read_is_read_once = refl

-- the first two units of `a` and a surrogate pair end inside the pair
abbrev smile : FlatState
smile = record (new_document [] standard_scanner Mixed) { shelf = one_snapshot (97 ∷ 0xD83D ∷ 0xDE00 ∷ []) }

a_unit_before_a_pair : EndsBesidePairs smile 1 1
a_unit_before_a_pair = refl

a_pair_that_is_cut : EndsBesidePairs smile 1 2 ≡ (true ≡ false)
a_pair_that_is_cut = refl

no_such_snapshot : flat_peek_of hi 2 2 ≡ Err unknown
no_such_snapshot = refl

a_read_of_one_unit : flat_peek_of hi 1 1 ≡ Err range
a_read_of_one_unit = refl

a_snapshot_is_closed : flat_close_of hi 1
    ≡ Ok (record (new_document (codes "hi") standard_scanner Mixed) { shelf = record { snapshots = []; next_id = 2 } })
a_snapshot_is_closed = refl

no_snapshot_to_close : flat_close_of (new_document (codes "hi") standard_scanner Mixed) 1 ≡ Err unknown
no_snapshot_to_close = refl

no_stops_past_the_last_line : flat_stops (new_document (codes "hi") standard_scanner Mixed) 2 ≡ Err range
no_stops_past_the_last_line = refl

-- `a\r\nb\rc`, which is opened with LF, and a decoration at its second line
abbrev three_lines : FlatState
three_lines = record (new_document (codes "a\nb\nc") standard_scanner Lf) { decorations = record { marks = mark_at 2 3 ∷ []; next_id = 2 } }

a_text_gets_its_endings : flat_open (codes "a\r\nb\rc") standard_scanner Lf ≡ Ok (new_document (codes "a\nb\nc") standard_scanner Lf)
a_text_gets_its_endings = refl

-- ... and then with CR LF
abbrev three_pairs : FlatState
three_pairs = record (at_version 2 2 (codes "a\nb\nc") ((op 0 5 (codes "a\r\nb\r\nc") ∷ []) ∷ []) (codes "a\r\nb\r\nc") (record {
  undo = record {
    changes = record {
      before = record { units = codes "a\nb\nc"; kind = Lf };
      deed = recast;
      after = record { units = codes "a\r\nb\r\nc"; kind = Crlf };
    } ∷ [];
    alt_before = 1;
    alt_after = 2;
    tag = None;
  } ∷ [];
  redo = [];
  is_open = false;
})) {
  kind = Crlf;
  decorations = record { marks = mark_at 3 4 ∷ []; next_id = 2 };
  last = Some (record {
    before = codes "a\nb\nc";
    batches = (op 0 5 (codes "a\r\nb\r\nc") ∷ []) ∷ [];
    edits = op 3 4 (codes "\r\n") ∷ op 1 2 (codes "\r\n") ∷ [];
  });
}

a_change_of_endings : flat_eol three_lines Crlf ≡ Ok (Some three_pairs)
a_change_of_endings = refl

the_endings_are_so_already : flat_eol three_pairs Crlf ≡ Ok None
the_endings_are_so_already = refl

no_place_inside_an_ending : flat_position three_pairs 2 ≡ None
no_place_inside_an_ending = refl

texts_of_an_edit_get_them_too : flat_line_count (after_batch three_pairs (op 7 7 (codes "x\r\ny") ∷ [])) ≡ 4
texts_of_an_edit_get_them_too = refl

-- an undo restores text and kind, and moves the decoration along
abbrev undone_endings : FlatState
undone_endings = record three_lines {
  version = 3;
  history = record { undo = []; redo = three_pairs.history.undo; is_open = false };
  last = Some (record {
    before = codes "a\r\nb\r\nc";
    batches = (op 0 7 (codes "a\nb\nc") ∷ []) ∷ [];
    edits = op 4 6 (codes "\n") ∷ op 1 3 (codes "\n") ∷ [];
  });
}

endings_are_taken_back : flat_undo three_pairs ≡ Ok (Some undone_endings)
endings_are_taken_back = refl

-- of three endings, the one that is an LF already gets no edit
only_other_endings_change : changes_then (flat_eol (new_document (codes "a\r\nb\nc\r") standard_scanner Mixed) Lf)
    ≡ op 6 7 (codes "\n") ∷ op 1 3 (codes "\n") ∷ []
only_other_endings_change = refl

-- a decoration inside a CR LF goes to the end of its line
abbrev inside_a_pair : FlatState
inside_a_pair =
    record (new_document (codes "a\r\nb") standard_scanner Mixed) { decorations = record { marks = mark_at 2 2 ∷ []; next_id = 2 } }

it_goes_to_the_end_of_its_line : stands_back_at (flat_eol inside_a_pair Lf) ≡ Some (deco 1 1)
it_goes_to_the_end_of_its_line = refl
