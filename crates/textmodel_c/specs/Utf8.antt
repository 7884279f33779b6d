-- Calls with texts in UTF-8, by what they do with the units of the text.
use Rattle.std.specs.Prelude.{◌≡◌, ◌⊎◌, ℕ, List, Option, Result, Ok, Err, IsUtf8}
use Rattle.std.specs.Str.Lossy.{utf8_valid_len}
use Rattle.std.specs.declared.vec.Vec.{Vec}
use Rattle.std.specs.declared.alloc.Global.{Global}
use Rattle.unit_text.specs.Text.{units_of}
use Rattle.document_rules.specs.Refusals.{FlatRefusal}
use Rattle.document_rules.specs.Document.{FlatState}
use Rattle.group_rules.specs.Group.{FlatGroup}
use Rattle.textmodel_c.specs.declared.status.Status.{Status}
use Rattle.textmodel_c.specs.declared.status.Status.TheVariants as status
use Rattle.textmodel_c.specs.declared.contents.Contents.{Contents}
use Rattle.textmodel_c.specs.Statuses.{number_of}
use Rattle.textmodel_c.specs.Rules.{Scanning}
use Rattle.textmodel_c.specs.Told.{ChangesHeld, LeavesWith, ListsHeld, OpensHeld, Replaced}

-- The call does this with the units of the text, or fails with `Memory`. It fails with `Encoding` if the text is invalid UTF-8. After these
-- two errors `kept` holds.
pub record InUtf8 (n : ℕ) (text : List ℕ) (kept : Type 0) (says : List ℕ → Type 0) : Type 0 where
  pub valid : IsUtf8 text → says (units_of text) ⊎ ((n ≡ number_of status.Memory) × kept)
  pub invalid : (IsUtf8 text → ⊥) → (n ≡ number_of status.Encoding) × kept

-- `InUtf8` for a call that changes documents by a rule
abbrev pub ChangesInUtf8 : ℕ → List ℕ → ℕ → Option Contents → Option Contents
    → (List ℕ → FlatGroup → Result FlatGroup FlatRefusal) → Type 0
ChangesInUtf8 n text doc old new rule = InUtf8 n text (new ≡ old) (λ units. ChangesHeld n doc old new (rule units))

-- `InUtf8` for a call that opens a document
abbrev pub OpensInUtf8 : ℕ → List ℕ → ℕ → ℕ → Scanning → Option Contents → Option Contents → Type 0
OpensInUtf8 n text doc kind scanning old new = InUtf8 n text (new ≡ old) (λ units. OpensHeld n doc kind scanning units old new)

-- `InUtf8` for a call that lists what a rule gives for the units
abbrev pub ListsInUtf8 : {A : Type 0} → ℕ → List ℕ → ℕ → Option Contents → List A → List A → ℕ → ℕ
    → (List ℕ → FlatState → Result (List A) FlatRefusal) → Type 0
ListsInUtf8 n text doc held out out' count count' rule =
    InUtf8 n text ((out' ≡ out) × (count' ≡ count)) (λ units. ListsHeld n doc held out out' count count' (rule units))

-- `InUtf8` for a replacement of a text by another; the sought text is checked first
abbrev pub ReplacesInUtf8 : ℕ → ℕ → List ℕ → List ℕ → Option Contents → Option Contents → ℕ → ℕ → Type 0
ReplacesInUtf8 n doc sought text old new count count' =
    let kept = (new ≡ old) × (count' ≡ count) in
    InUtf8 n sought kept (λ sought. InUtf8 n text kept
    (λ text. LeavesWith n doc old new (count' ≡ count) (Replaced n doc sought text count count')))

-- `bad'` is the length of the valid part of an invalid text
pub record TellsFault (text : List ℕ) (bad bad' : ℕ) : Type 0 where
  pub valid : IsUtf8 text → bad' ≡ bad
  pub invalid : (IsUtf8 text → ⊥) → bad' ≡ utf8_valid_len text

-- `TellsFault` for two texts: the second is checked if the first is valid and memory is not short
pub record TellsFaults (n : ℕ) (text other : List ℕ) (bad bad' : ℕ) : Type 0 where
  pub first : (IsUtf8 text → ⊥) → bad' ≡ utf8_valid_len text
  pub second : IsUtf8 text → TellsFault other bad bad' ⊎ ((n ≡ number_of status.Memory) × (bad' ≡ bad))

-- the units of a text, or the error
abbrev pub GivesUnits : List ℕ → Result (Vec ℕ Global) Status → Type 0
GivesUnits text (Ok units) = IsUtf8 text × (units.items ≡ units_of text)
GivesUnits text (Err s) = (IsUtf8 text × (s ≡ status.Memory)) ⊎ ((IsUtf8 text → ⊥) × (s ≡ status.Encoding))
