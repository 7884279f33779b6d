-- The brackets of a whole text: its tokens are folded with a stack of the open brackets, as in "Bracket pair
-- colorization 10,000x faster" (2021). The closer of a bracket depends on the tokens after it. The parse therefore
-- returns, beside the entries of the tokens, the closer of each bracket that is open before them.
use Rattle.std.specs.Prelude.{ℕ, zero, suc, Bool, ◌&&◌, ◌==◌, nat_lt, nat_le, if◌then◌else◌, List, [], ◌∷◌, ◌++◌, length, drop, replicate, Option, Some, None}
use Rattle.std.specs.List.{filter}
use Rattle.std.specs.Option.{option_map}
use Rattle.text_lengths.specs.declared.Length.{Length}
use Rattle.text_lengths.specs.Length.{is_before}
use Rattle.bracket_rules.specs.declared.Entry.{Entry}
use Rattle.bracket_rules.specs.declared.Status.{Status}
use Rattle.bracket_rules.specs.declared.Status.TheVariants.{PairedOpening, PairedClosing, Unclosed, Unexpected}
use Rattle.bracket_rules.specs.declared.TheConstants.{MOST_OPEN}

-- a token of a text
pub record Bracket : Type 0 where
  pub place : Length
  pub len : ℕ
  pub kind : ℕ
  pub opening : Bool

abbrev pub bracket : Length → ℕ → ℕ → Bool → Bracket
bracket place len kind opening = record { place = place; len = len; kind = kind; opening = opening }

-- the start and the length of a bracket
pub record Spot : Type 0 where
  pub place : Length
  pub len : ℕ

abbrev pub spot : Length → ℕ → Spot
spot place len = record { place = place; len = len }

abbrev pub spot_of : Bracket → Spot
spot_of b = spot b.place b.len

-- an entry, and the other bracket of its pair
pub record Judged : Type 0 where
  pub entry : Entry
  pub partner : Option Spot

-- ---- the effect of a token on the stack

pub data Event : Type 0 where
  opens : Event
  too_deep : Event
  -- closes the open bracket at this depth, with this number of brackets above it
  closes : ℕ → Event
  unexpected : Event

-- the depth of the nearest bracket of this kind: the number of brackets above it on the stack
abbrev pub depth_of : ℕ → List Bracket → Option ℕ
depth_of kind [] = None
depth_of kind (b ∷ stack) = if b.kind == kind then Some 0 else option_map suc (depth_of kind stack)

abbrev pub closing_event : Option ℕ → Event
closing_event None = unexpected
closing_event (Some depth) = closes depth

abbrev pub event : List Bracket → Bracket → Event
event stack b =
    if b.opening then (if nat_lt (length stack) MOST_OPEN then opens else too_deep)
    else closing_event (depth_of b.kind stack)

abbrev pub stack_after : List Bracket → Bracket → Event → List Bracket
stack_after stack b opens = b ∷ stack
stack_after stack b too_deep = stack
stack_after stack b (closes depth) = drop (suc depth) stack
stack_after stack b unexpected = stack

-- ---- entries

abbrev pub judged : Bracket → Status → ℕ → Option Spot → Judged
judged b status level partner = record {
  entry = record { place = b.place; len = b.len; kind = b.kind; status = status; level = level };
  partner = partner;
}

-- the entry of an opening bracket, given its closer if it has one
abbrev pub judged_opening : Bracket → ℕ → Option Spot → Judged
judged_opening b level None = judged b Unclosed level None
judged_opening b level (Some closer) = judged b PairedOpening level (Some closer)

abbrev pub judged_closing : Bracket → ℕ → Option Spot → Judged
judged_closing b level opener = judged b PairedClosing level opener

abbrev pub judged_unexpected : Bracket → ℕ → Judged
judged_unexpected b level = judged b Unexpected level None

abbrev pub spot_at : ℕ → List Bracket → Option Spot
spot_at n [] = None
spot_at zero (b ∷ stack) = Some (spot_of b)
spot_at (suc n) (b ∷ stack) = spot_at n stack

-- ---- the parse

-- the entries of some tokens, and the closer of each bracket that is open before them, the nearest first
pub record Story : Type 0 where
  pub closers : List (Option Spot)
  pub entries : List Judged

abbrev pub first_closer : List (Option Spot) → Option Spot
first_closer [] = None
first_closer (c ∷ cs) = c

abbrev pub told : List Bracket → Bracket → Event → Story → Story
told stack b opens s = record {
  closers = drop 1 s.closers;
  entries = judged_opening b (length stack) (first_closer s.closers) ∷ s.entries;
}
told stack b too_deep s = s
told stack b (closes depth) s = record {
  closers = replicate depth None ++ Some (spot_of b) ∷ s.closers;
  entries = judged_closing b (length (drop (suc depth) stack)) (spot_at depth stack) ∷ s.entries;
}
told stack b unexpected s = record {
  closers = s.closers;
  entries = judged_unexpected b (length stack) ∷ s.entries;
}

-- the end of the text: the open brackets have no closer
abbrev pub story_end : List Bracket → Story
story_end stack = record { closers = replicate (length stack) None; entries = [] }

abbrev pub parse : List Bracket → List Bracket → Story
parse stack [] = story_end stack
parse stack (b ∷ rest) = told stack b (event stack b) (parse (stack_after stack b (event stack b)) rest)

-- ---- queries on a text with these tokens

abbrev pub bracket_story : List Bracket → List Judged
bracket_story brackets = (parse [] brackets).entries

abbrev pub entries_of : List Judged → List Entry
entries_of [] = []
entries_of (j ∷ js) = j.entry ∷ entries_of js

-- all entries, in text order
abbrev pub bracket_entries : List Bracket → List Entry
bracket_entries brackets = entries_of (bracket_story brackets)

-- the entries that start in lines `from` to `to`, both included and counted from 0
abbrev pub is_between : ℕ → ℕ → Entry → Bool
is_between from to e = nat_le from e.place.lines && nat_le e.place.lines to

abbrev pub entries_between : ℕ → ℕ → List Entry → List Entry
entries_between from to entries = filter (is_between from to) entries

abbrev pub same_place : Length → Length → Bool
same_place p q = p.lines == q.lines && p.columns == q.columns

-- the partner of the entry that starts at position `p`
abbrev pub partner_at : Length → List Judged → Option Spot
partner_at p [] = None
partner_at p (j ∷ js) = if same_place j.entry.place p then j.partner else partner_at p js

abbrev pub bracket_partner : List Bracket → Length → Option Spot
bracket_partner brackets p = partner_at p (bracket_story brackets)

-- the stack after the tokens that start before position `p`
abbrev pub stack_before : Length → List Bracket → List Bracket → List Bracket
stack_before p stack [] = stack
stack_before p stack (b ∷ rest) =
    stack_before p (if is_before b.place p then stack_after stack b (event stack b) else stack) rest

abbrev pub bracket_level : List Bracket → Length → ℕ
bracket_level brackets p = length (stack_before p [] brackets)
