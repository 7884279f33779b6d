-- The decorations of a document: the queries on them, and the rule for their change.
use Rattle.std.specs.Prelude.{ℕ, ◌≡◌, ◌+◌, ◌-◌, ◌<◌, ◌≤◌, ◌==◌, ◌&&◌, ◌||◌, Bool, true, false, not, nat_lt, if◌then◌else◌, List, [], ◌∷◌, ◌++◌, length, map, filter, Option, Some, None, option_map, unwrap_or, Result, Ok, Err, ⊤}
use Rattle.std.specs.List.{list_any, All}
use Rattle.text_lengths.specs.declared.Span.{Span}
use Rattle.text_lengths.specs.declared.TheConstants.{GREATEST_NUMBER}
use Rattle.unit_text.specs.declared.kind.Kind.{Kind}
use Rattle.unit_text.specs.Kinds.{is_place_in}
use Rattle.decoration_rules.specs.declared.TheConstants.{MOST_DECORATIONS, GREATEST_MODE}
use Rattle.decoration_rules.specs.declared.Sticky.{Sticky}
use Rattle.decoration_rules.specs.declared.Sticky.TheVariants.{AlwaysGrows, NeverGrows, GrowsBefore, GrowsAfter}
use Rattle.decoration_rules.specs.declared.Mark.{Mark}
use Rattle.decoration_rules.specs.declared.NewDeco.{NewDeco}
use Rattle.decoration_rules.specs.declared.Deco.{Deco}
use Rattle.decoration_rules.specs.declared.DecoError.{DecoError}
use Rattle.decoration_rules.specs.declared.DecoError.TheVariants.{Unknown, Range, Limit, Memory}
use Rattle.decoration_rules.specs.Refusals.{DecoRefusal, unknown, range, limit}
use Rattle.decoration_rules.specs.Marks.{IsInOrder, HasDistinctIds, in_order, mark_of, touching}

-- the maximum number of live decorations
abbrev pub most_decorations : ℕ
most_decorations = MOST_DECORATIONS

abbrev pub greatest_id : ℕ
greatest_id = GREATEST_NUMBER

-- The modes and their numbers.
abbrev pub sticky_of : ℕ → Option Sticky
sticky_of mode =
    if mode == 0 then Some AlwaysGrows else
    (if mode == 1 then Some NeverGrows else
    (if mode == 2 then Some GrowsBefore else
    (if mode == 3 then Some GrowsAfter else None)))

abbrev pub mode_of : Sticky → ℕ
mode_of AlwaysGrows = 0
mode_of NeverGrows = 1
mode_of GrowsBefore = 2
mode_of GrowsAfter = 3

-- a decoration in the form of query results
abbrev pub deco_of : Mark → Deco
deco_of mark = record { id = mark.id; owner = mark.owner; span = mark.span; stick = mode_of mark.sticky; collapse = mark.collapse }

pub record Decorations : Type 0 where
  -- the live decorations, ordered by start, then by end, then by id
  pub marks : List Mark
  pub next_id : ℕ

abbrev pub no_decorations : Decorations
no_decorations = record { marks = []; next_id = 1 }

-- the invariant of the decorations of a document
pub record IsSound (d : Decorations) : Type 0 where
  pub ordered : IsInOrder d.marks
  pub distinct : HasDistinctIds d.marks
  -- each live id is below the next id, so it is not used again
  pub used : All (λ (mark : Mark). mark.id < d.next_id) d.marks
  pub upright : All (λ (mark : Mark). mark.span.start ≤ mark.span.end) d.marks
  pub few : length d.marks ≤ most_decorations
  pub first : 1 ≤ d.next_id
  pub last : d.next_id ≤ greatest_id + 1

-- the live decoration with this id
abbrev pub deco_at : Decorations → ℕ → Option Deco
deco_at d id = option_map deco_of (mark_of d.marks id)

abbrev pub is_of : Option ℕ → Mark → Bool
is_of None mark = true
is_of (Some owner) mark = mark.owner == owner

-- the decorations that touch the span, of one owner, or of all owners for None
abbrev pub decos_in : Decorations → Span → Option ℕ → List Deco
decos_in d span owner = map deco_of (filter (is_of owner) (touching span d.marks))

-- The ids that a change removes, and why it may be refused.
abbrev pub owned_by : ℕ → Option Mark → Bool
owned_by owner None = false
owned_by owner (Some mark) = mark.owner == owner

abbrev pub owns : List Mark → ℕ → ℕ → Bool
owns marks owner id = owned_by owner (mark_of marks id)

abbrev pub has_repeat : List ℕ → Bool
has_repeat [] = false
has_repeat (id ∷ ids) = list_any (λ other. other == id) ids || has_repeat ids

-- an id is not live, belongs to another owner, or is given twice
abbrev pub is_unknown : List Mark → ℕ → List ℕ → Bool
is_unknown marks owner ids = list_any (λ id. not (owns marks owner id)) ids || has_repeat ids

-- the span's start is greater than its end, or one of the two is no valid offset of the text of the kind, or the mode
-- is invalid
abbrev pub is_bad : Kind → List ℕ → NewDeco → Bool
is_bad kind units new =
    nat_lt new.span.end new.span.start || not (is_place_in kind units new.span.start && is_place_in kind units new.span.end)
    || nat_lt GREATEST_MODE new.stick

-- the live decorations whose ids are not among these
abbrev pub kept : List Mark → List ℕ → List Mark
kept marks ids = filter (λ mark. not (list_any (λ id. mark.id == id) ids)) marks

abbrev pub new_mark : ℕ → ℕ → NewDeco → Mark
new_mark owner id new =
    record { id = id; owner = owner; span = new.span; sticky = unwrap_or (sticky_of new.stick) AlwaysGrows; collapse = new.collapse }

-- the new decorations, with consecutive ids from `id` on
abbrev pub new_marks : ℕ → ℕ → List NewDeco → List Mark
new_marks owner id [] = []
new_marks owner id (new ∷ more) = new_mark owner id new ∷ new_marks owner (id + 1) more

-- the change would exceed the limit of live decorations or the largest id
abbrev pub is_too_much : Decorations → List ℕ → ℕ → Bool
is_too_much d ids added =
    nat_lt most_decorations (length (kept d.marks ids) + added) || nat_lt greatest_id (d.next_id + added - 1)

-- the result of a change: decorations of one owner are removed, and new ones are added
abbrev pub decorated : Decorations → ℕ → List ℕ → List NewDeco → Kind → List ℕ → Result Decorations DecoRefusal
decorated d owner ids add kind units =
    if is_unknown d.marks owner ids then Err unknown else
    (if list_any (is_bad kind units) add then Err range else
    (if is_too_much d ids (length add) then Err limit
    else Ok (record {
      marks = in_order (kept d.marks ids ++ new_marks owner d.next_id add);
      next_id = d.next_id + length add;
    })))

-- the rule refuses for the reason that the call returns; a call may also fail for lack of memory, whatever the rule
-- gives
abbrev pub RefusedFor : DecoError → Result Decorations DecoRefusal → Type 0
RefusedFor Unknown rule = rule ≡ Err unknown
RefusedFor Range rule = rule ≡ Err range
RefusedFor Limit rule = rule ≡ Err limit
RefusedFor Memory rule = ⊤

-- An accepted change returns the first new id, or the next free id if nothing is added. A refused one leaves the
-- decorations unchanged; the reason is that of the rule, or lack of memory.
abbrev pub Decorates : Result ℕ DecoError → Decorations → Decorations → Result Decorations DecoRefusal → Type 0
Decorates (Ok first) old new rule = (rule ≡ Ok new) × (first ≡ old.next_id)
Decorates (Err e) old new rule = (new ≡ old) × RefusedFor e rule
