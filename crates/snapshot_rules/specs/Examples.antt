-- Worked examples of the definitions.
use Rattle.std.specs.Prelude.{◌≡◌, ℕ, ◌+◌, ◌^◌, List, [], ◌∷◌, true, false, replicate, Ok, Err, refl}
use Rattle.snapshot_rules.specs.Refusals.{unknown, range, limit}
use Rattle.snapshot_rules.specs.Snapshots.{FlatShelf, empty_shelf, is_full, flat_take, flat_peek, flat_skip, flat_close}

-- `hi`
abbrev hi : List ℕ
hi = 0x68 ∷ 0x69 ∷ []

-- a shelf with one snapshot that has this id; the next id is one larger
abbrev one : ℕ → List ℕ → FlatShelf
one id rest = record { snapshots = record { id = id; rest = rest } ∷ []; next_id = id + 1 }

the_first_id : flat_take empty_shelf hi ≡ Ok (one 1 hi)
the_first_id = refl

a_read : flat_peek (one 1 hi) 1 2 ≡ Ok hi
a_read = refl

nothing_is_left : flat_peek (flat_skip (one 1 hi) 1 2) 1 2 ≡ Ok []
nothing_is_left = refl

fewer_are_left : flat_peek (flat_skip (one 1 hi) 1 1) 1 9 ≡ Ok (0x69 ∷ [])
fewer_are_left = refl

-- `a😀`
a_pair_is_not_cut : flat_peek (one 1 (0x61 ∷ 0xD83D ∷ 0xDE00 ∷ [])) 1 2 ≡ Ok (0x61 ∷ [])
a_pair_is_not_cut = refl

a_pair_is_read_whole : flat_peek (one 1 (0xD83D ∷ 0xDE00 ∷ 0x61 ∷ [])) 1 2 ≡ Ok (0xD83D ∷ 0xDE00 ∷ [])
a_pair_is_read_whole = refl

-- a high surrogate at the end of the text is unpaired
a_lone_surrogate_is_read : flat_peek (one 1 (0x61 ∷ 0xD83D ∷ [])) 1 2 ≡ Ok (0x61 ∷ 0xD83D ∷ [])
a_lone_surrogate_is_read = refl

not_open : flat_peek (one 1 hi) 2 1 ≡ Err unknown
not_open = refl

too_few : flat_peek (one 1 hi) 1 1 ≡ Err range
too_few = refl

a_close : flat_close (one 1 hi) 1 ≡ Ok (record { snapshots = []; next_id = 2 })
a_close = refl

closed_twice : flat_close (record { snapshots = []; next_id = 2 }) 1 ≡ Err unknown
closed_twice = refl

an_id_is_not_used_again : flat_take (record { snapshots = []; next_id = 2 }) hi ≡ Ok (one 2 hi)
an_id_is_not_used_again = refl

-- a shelf with `count` open snapshots
abbrev many : ℕ → FlatShelf
many count = record { snapshots = replicate count (record { id = 1; rest = hi }); next_id = 2000 }

one_more_goes_on : is_full (many 999) ≡ false
one_more_goes_on = refl

a_thousand_are_all : is_full (many 1000) ≡ true
a_thousand_are_all = refl

no_id_is_left : flat_take (record { snapshots = []; next_id = 2 ^ 63 }) hi ≡ Err limit
no_id_is_left = refl
