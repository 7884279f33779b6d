-- Worked examples: what an edit takes along, and the runs from an offset on.
use Rattle.std.specs.Prelude.{◌≡◌, ℕ, false, Some, None, List, [], ◌∷◌, codes, refl}
use Rattle.chunk_buffers.specs.declared.span.ChunkSpan.{ChunkSpan}
use Rattle.text_buffer.specs.declared.edit.Spot.{Spot}
use Rattle.text_buffer.specs.Along.{rest_before, rests_of}
use Rattle.text_buffer.specs.Reading.{rest_from}

abbrev span : ℕ → ℕ → ChunkSpan
span start units = record { buffer = 0; start = start; units = units }

-- a spot in a text of one piece with this many units
abbrev place : ℕ → ℕ → Spot
place units offset = record {
  offset = offset;
  found = Some (record { id = record { run = 1; place = 0 }; span = span 0 units; breaks = 0; before = record { units = 0; breaks = 0 } });
  after_return = false;
  before_feed = false;
}

abbrev words : List (List ℕ)
words = codes "some words" ∷ []

a_unit_gives_way_and_both_rests_come : rests_of words (place 7 3) (place 7 4) 1 ≡ record { front = Some (span 0 3); back = Some (span 4 3) }
a_unit_gives_way_and_both_rests_come = refl

what_is_typed_takes_the_front_alone : rests_of words (place 7 3) (place 7 3) 1 ≡ record { front = Some (span 0 3); back = None }
what_is_typed_takes_the_front_alone = refl

a_unit_that_goes_joins_the_rests : rests_of words (place 7 3) (place 7 4) 0 ≡ record { front = Some (span 0 3); back = Some (span 4 3) }
a_unit_that_goes_joins_the_rests = refl

the_first_unit_goes_and_nothing_comes : rests_of words (place 10 0) (place 10 1) 0 ≡ record { front = None; back = None }
the_first_unit_goes_and_nothing_comes = refl

-- four units before the offset are too many
a_long_front_stays : rests_of words (place 8 4) (place 8 5) 1 ≡ record { front = None; back = Some (span 5 3) }
a_long_front_stays = refl

-- and so are two breaks, here two LF
two_breaks_stay : rest_before ((10 ∷ 97 ∷ 10 ∷ 98 ∷ []) ∷ []) (place 4 3).found 3 ≡ None
two_breaks_stay = refl

abbrev three : List (List ℕ)
three = codes "ab" ∷ codes "cde" ∷ codes "f" ∷ []

the_list_in_which_the_offset_stands_is_cut : rest_from 3 three ≡ codes "de" ∷ codes "f" ∷ []
the_list_in_which_the_offset_stands_is_cut = refl

one_that_ends_at_the_offset_is_left_out : rest_from 5 three ≡ codes "f" ∷ []
one_that_ends_at_the_offset_is_left_out = refl

from_the_front_all_are_left : rest_from 0 three ≡ three
from_the_front_all_are_left = refl
