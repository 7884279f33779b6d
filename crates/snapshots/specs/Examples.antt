-- Worked examples of the definitions: spans of `hi` and an emoji, in two buffers.
use Rattle.std.specs.Prelude.{◌≡◌, ℕ, List, [], ◌∷◌, Ok, refl}
use Rattle.chunk_buffers.specs.declared.span.ChunkSpan.{ChunkSpan}
use Rattle.snapshot_rules.specs.Snapshots.{flat_take, flat_peek}
use Rattle.snapshots.specs.Spans.{spelled, without}
use Rattle.snapshots.specs.Shown.{Shown, shown}

abbrev buffers : List (List ℕ)
buffers = (0x68 ∷ 0x21 ∷ []) ∷ (0x69 ∷ 0xD83D ∷ 0xDE00 ∷ []) ∷ []

abbrev span : ℕ → ℕ → ℕ → ChunkSpan
span buffer start units = record { buffer = buffer; start = start; units = units }

-- `hi`, and `hi😀`
abbrev hi : List ChunkSpan
hi = span 0 0 1 ∷ span 1 0 1 ∷ []

abbrev emoji : List ChunkSpan
emoji = span 0 0 1 ∷ span 1 0 3 ∷ []

abbrev no_shelf : Shown
no_shelf = record { snapshots = []; next_id = 1 }

abbrev one : List ChunkSpan → Shown
one spans = record { snapshots = record { id = 1; spans = spans } ∷ []; next_id = 2 }

spans_spell : spelled buffers hi ≡ 0x68 ∷ 0x69 ∷ []
spans_spell = refl

the_first_snapshot : flat_take (shown buffers no_shelf) (spelled buffers hi) ≡ Ok (shown buffers (one hi))
the_first_snapshot = refl

a_read : flat_peek (shown buffers (one hi)) 1 2 ≡ Ok (0x68 ∷ 0x69 ∷ [])
a_read = refl

all_was_read : flat_peek (shown buffers (one (without 2 hi))) 1 2 ≡ Ok []
all_was_read = refl

part_of_a_span_was_read : without 2 emoji ≡ span 1 1 2 ∷ []
part_of_a_span_was_read = refl

a_pair_is_not_cut : flat_peek (shown buffers (one emoji)) 1 3 ≡ Ok (0x68 ∷ 0x69 ∷ [])
a_pair_is_not_cut = refl
