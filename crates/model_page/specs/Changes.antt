-- Changes that were carried out, and the texts before and after them.
use Rattle.std.specs.Prelude.{◌≡◌, ◌≤◌, List, [], ◌∷◌, length, ⊤}
use Rattle.unit_text.specs.declared.kind.Kind.{Kind}
use Rattle.text_rules.specs.declared.Op.{Op}
use Rattle.batch_rules.specs.Batches.{most_units, applied_from, inverse_from, StandFrom, KeepsKind}
use Rattle.batch_rules.specs.Events.{whole_op}
use Rattle.decoration_rules.specs.LineMoves.{HaveSameContents}
use Rattle.decoration_rules.specs.Recasts.{RecastState}
use Rattle.document_rules.specs.Document.{FlatText, Deed, FlatChange, batch, recast}
use Rattle.model_page.specs.declared.change.Change.{Change}
use Rattle.model_page.specs.declared.change.Change.TheVariants.{Ops, Endings}
use Rattle.model_page.specs.declared.change.Way.{Way}
use Rattle.model_page.specs.declared.change.Way.TheVariants.{Back, On}

-- the text before a change of line endings on this way, and the one after it
abbrev pub text_from : Way → RecastState → FlatText
text_from Back r = record { units = r.after; kind = r.to }
text_from On r = record { units = r.before; kind = r.from }

abbrev pub text_to : Way → RecastState → FlatText
text_to Back r = record { units = r.before; kind = r.from }
text_to On r = record { units = r.after; kind = r.to }

-- the ops that carry out the change this way
abbrev pub ops_by : Way → Change → List Op
ops_by Back (Ops ops inverse) = inverse
ops_by On (Ops ops inverse) = ops
ops_by way (Endings r) = whole_op (text_from way r).units (text_to way r).units

-- the kind of the text after the change, from the kind before it
abbrev pub kind_by : Way → Change → Kind → Kind
kind_by way (Ops ops inverse) kind = kind
kind_by way (Endings r) kind = (text_to way r).kind

-- the text after the change, carried out this way
abbrev pub led : Way → Change → FlatText → FlatText
led way c text = record { units = applied_from 0 text.units (ops_by way c); kind = kind_by way c text.kind }

-- the text before the changes, from the text after them
abbrev pub text_back : FlatText → List Change → FlatText
text_back after [] = after
text_back after (c ∷ cs) = led Back c (text_back after cs)

-- the text after the changes, from the text before them
abbrev pub text_on : FlatText → List Change → FlatText
text_on before [] = before
text_on before (c ∷ cs) = text_on (led On c before) cs

-- what the change did
abbrev pub deed_of : Change → Deed
deed_of (Ops ops inverse) = batch ops
deed_of (Endings r) = recast

-- the changes with their whole texts, from the text after them
abbrev pub changes_back : FlatText → List Change → List FlatChange
changes_back after [] = []
changes_back after (c ∷ cs) =
    record { before = text_back after (c ∷ cs); deed = deed_of c; after = text_back after cs } ∷ changes_back after cs

-- the changes with their whole texts, from the text before them
abbrev pub changes_on : FlatText → List Change → List FlatChange
changes_on before [] = []
changes_on before (c ∷ cs) =
    let after = led On c before in record { before = before; deed = deed_of c; after = after } ∷ changes_on after cs

-- The text keeps its kind after each op, on both ways. A change of line endings has these two texts, whose lines have the same contents.
abbrev pub AreOfKinds : FlatText → Change → FlatText → Type 0
AreOfKinds before (Ops ops inverse) after = KeepsKind before.kind before.units ops × KeepsKind after.kind after.units inverse
AreOfKinds before (Endings r) after = (text_from On r ≡ before) × (text_to On r ≡ after) × HaveSameContents r.before r.after

-- the change leads from one text to the other, and back
pub record Leads (before : FlatText) (c : Change) (after : FlatText) : Type 0 where
  pub standing : StandFrom 0 before.units (ops_by On c)
  pub on : after ≡ led On c before
  pub inverse : ops_by Back c ≡ inverse_from 0 0 before.units (ops_by On c)
  pub fits_before : length before.units ≤ most_units
  pub fits_after : length after.units ≤ most_units
  pub kinds : AreOfKinds before c after

abbrev pub LeadBack : FlatText → List Change → Type 0
LeadBack after [] = ⊤
LeadBack after (c ∷ cs) = Leads (text_back after (c ∷ cs)) c (text_back after cs) × LeadBack after cs

abbrev pub LeadOn : FlatText → List Change → Type 0
LeadOn before [] = ⊤
LeadOn before (c ∷ cs) = Leads before c (led On c before) × LeadOn (led On c before) cs
