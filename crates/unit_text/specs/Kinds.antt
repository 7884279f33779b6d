-- Texts with line endings of one kind. Line endings are those of the text buffer of VS Code, which also has documents
-- of one kind: CR LF, or a CR or LF that is not part of a CR LF.
use Rattle.std.specs.Prelude.{ℕ, ◌≡◌, ◌-◌, ◌==◌, Bool, false, not, ◌&&◌, ◌||◌, nat_lt, nat_le, if◌then◌else◌, List, [], ◌∷◌, ◌++◌, length, All, slice_index}
use Rattle.unit_text.specs.declared.kind.Kind.{Kind}
use Rattle.unit_text.specs.declared.kind.Kind.TheVariants.{Mixed, Lf, Crlf}
use Rattle.unit_text.specs.Units.{cuts_pair}
use Rattle.unit_text.specs.Endings.{line_feed, carriage_return, begins_with}

-- the text with each CR LF, CR and LF replaced by `ending`
abbrev pub with_endings : List ℕ → List ℕ → List ℕ
with_endings ending [] = []
with_endings ending (u ∷ after) =
    if u == carriage_return && begins_with line_feed after then with_endings ending after else
    (if u == carriage_return || u == line_feed then ending ++ with_endings ending after
    else u ∷ with_endings ending after)

-- the text with all line endings replaced by those of the kind
abbrev pub normalized : Kind → List ℕ → List ℕ
normalized Mixed units = units
normalized Lf units = with_endings (line_feed ∷ []) units
normalized Crlf units = with_endings (carriage_return ∷ line_feed ∷ []) units

-- all line endings of the text are those of the kind
abbrev pub IsOfKind : Kind → List ℕ → Type 0
IsOfKind kind units = normalized kind units ≡ units

-- the offset is between a CR and an LF that follows it
abbrev pub cuts_ending : List ℕ → ℕ → Bool
cuts_ending units offset =
    nat_lt 0 offset && slice_index units (offset - 1) == carriage_return && slice_index units offset == line_feed

-- the offset is inside a pair of surrogates or, in a text of kind Crlf, inside a CR LF
abbrev pub cuts_in : Kind → List ℕ → ℕ → Bool
cuts_in Mixed units offset = cuts_pair units offset
cuts_in Lf units offset = cuts_pair units offset
cuts_in Crlf units offset = cuts_ending units offset || cuts_pair units offset

-- the offset is valid in a text of the kind: at most the length, and not inside a pair or, for Crlf, a CR LF
abbrev pub is_place_in : Kind → List ℕ → ℕ → Bool
is_place_in kind units offset = nat_le offset (length units) && not (cuts_in kind units offset)

-- the text contains no CR
abbrev pub HasNoReturn : List ℕ → Type 0
HasNoReturn units = All (λ u. (u == carriage_return) ≡ false) units
