-- Calls that return the edits of a document's last change.
use Rattle.std.specs.Prelude.{◌≡◌, ◌⊎◌, ℕ, false, List, Option, None, Some, option_and_then, Ok}
use Rattle.document_rules.specs.Document.{FlatState}
use Rattle.textmodel_c.specs.declared.status.Status.{Status}
use Rattle.textmodel_c.specs.declared.status.Status.TheVariants as status
use Rattle.textmodel_c.specs.declared.contents.Contents.{Contents}
use Rattle.textmodel_c.specs.declared.telling.Change.{Change}
use Rattle.textmodel_c.specs.Documents.{document_in}
use Rattle.textmodel_c.specs.Tellings.{TellingState, told_edit, told_text, is_telling, telling_after}
use Rattle.textmodel_c.specs.Rules.{in_utf8}
use Rattle.textmodel_c.specs.Told.{Called, Numbers, Listed, Lists}

-- the present edit is stored, if there is one
abbrev pub EditOut : Status → Change → Change → Option Change → Type 0
EditOut s out out' None = (s ≡ status.Nothing) × (out' ≡ out)
EditOut s out out' (Some change) = (s ≡ status.Ok) × (out' ≡ change)

-- Memory was short at the first edit; `telling` is unchanged.
pub record IsNotTold (s : Status) (doc : ℕ) (f : FlatState) (out out' : Change) (old new : Option TellingState) : Type 0 where
  pub memory : s ≡ status.Memory
  pub begun : is_telling old doc f ≡ false
  pub handed : out' ≡ out
  pub kept : new ≡ old

-- the next edit is the present one now
pub record IsTold (s : Status) (doc : ℕ) (f : FlatState) (out out' : Change) (old new : Option TellingState) : Type 0 where
  pub next : new ≡ telling_after old doc f
  pub handed : EditOut s out out' (option_and_then (λ (t : TellingState). told_edit t.edits) new)

-- the next edit of this document is returned, and nothing else changes
pub record NextTold (s : Status) (doc : ℕ) (out out' : Change) (old new : Contents) : Type 0 where
  pub session : new.session ≡ old.session
  pub reply : new.reply ≡ old.reply
  pub told : let f = document_in old.session.group doc in
      IsNotTold s doc f out out' old.telling new.telling ⊎ IsTold s doc f out out' old.telling new.telling

abbrev pub TellsNext : ℕ → ℕ → Change → Change → Contents → Contents → Type 0
TellsNext n doc out out' old new = Numbers n (λ s. NextTold s doc out out' old new)

-- the text of the present edit is copied, if there is one
abbrev pub TextOut : Status → List ℕ → List ℕ → ℕ → ℕ → Option TellingState → Type 0
TextOut s out out' count count' None = (s ≡ status.Nothing) × (out' ≡ out) × (count' ≡ count)
TextOut s out out' count count' (Some t) = Listed s (told_text t.edits) out out' count'

abbrev pub ChangeTextHeld : ℕ → Option Contents → List ℕ → List ℕ → ℕ → ℕ → Type 0
ChangeTextHeld n held out out' count count' = Called n held ((out' ≡ out) × (count' ≡ count))
    (λ c. Numbers n (λ s. TextOut s out out' count count' c.telling))

-- `TextOut` in UTF-8; memory may be short
abbrev pub TextOutUtf8 : Status → List ℕ → List ℕ → ℕ → ℕ → Option TellingState → Type 0
TextOutUtf8 s out out' count count' None = (s ≡ status.Nothing) × (out' ≡ out) × (count' ≡ count)
TextOutUtf8 s out out' count count' (Some t) = Lists s out out' count count' (in_utf8 (Ok (told_text t.edits)))

abbrev pub ChangeTextUtf8Held : ℕ → Option Contents → List ℕ → List ℕ → ℕ → ℕ → Type 0
ChangeTextUtf8Held n held out out' count count' = Called n held ((out' ≡ out) × (count' ≡ count))
    (λ c. Numbers n (λ s. TextOutUtf8 s out out' count count' c.telling))
