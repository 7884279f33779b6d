-- The flat group: a flat document for each number, and the effect that a change of one document has on the others.
use Rattle.std.specs.Prelude.{ℕ, suc, if◌then◌else◌, List, [], ◌∷◌, ◌++◌, replicate, slice_get, slice_set, unwrap_or, Option, Some, None, option_to_list, Result, Ok, Err}
use Rattle.undo_rules.specs.declared.Tag.{Tag}
use Rattle.undo_rules.specs.Stack.{Step}
use Rattle.undo_rules.specs.Tags.{is_member, all_steps}
use Rattle.unit_text.specs.declared.kind.Kind.{Kind}
use Rattle.text_rules.specs.declared.Op.{Op}
use Rattle.hiding_rules.specs.Hidden.{Scanner}
use Rattle.document_rules.specs.Refusals.{FlatRefusal}
use Rattle.document_rules.specs.Document.{FlatChange, FlatState, empty_document, flat_open, flat_edit, flat_eol, flat_untag}
use Rattle.search_rules.specs.Replacing.{flat_replace_all}
use Rattle.group_rules.specs.declared.TheConstants.{DOC_COUNT}

-- the documents by their numbers
abbrev pub FlatGroup : Type 0
FlatGroup = List FlatState

abbrev pub new_group : FlatGroup
new_group = replicate DOC_COUNT empty_document

-- document n; an empty document if n is out of range
abbrev pub doc_in : FlatGroup → ℕ → FlatState
doc_in g n = unwrap_or (slice_get g n) empty_document

-- the group with document n replaced by f
abbrev pub with_doc : FlatGroup → ℕ → FlatState → FlatGroup
with_doc g n f = slice_set g n f

-- applies `change` to each document and its number; n is the number of the first document of the list
abbrev pub each_from : ℕ → (ℕ → FlatState → FlatState) → FlatGroup → FlatGroup
each_from n change [] = []
each_from n change (f ∷ g) = change n f ∷ each_from (suc n) change g

-- ---- lost tags

-- the tags of these steps
abbrev pub tags_of : List (Step FlatChange) → List Tag
tags_of [] = []
tags_of (step ∷ steps) = option_to_list step.tag ++ tags_of steps

-- A change of a document removes its redo steps, and opening a new document in its place removes all steps.
abbrev pub lost_by_change : FlatState → List Tag
lost_by_change f = tags_of f.history.redo

abbrev pub lost_by_open : FlatState → List Tag
lost_by_open f = tags_of (all_steps f.history)

-- document n after these tags were lost in another document: its steps with these tags lose them
abbrev pub without_tags : List Tag → ℕ → FlatState → FlatState
without_tags [] n f = f
without_tags (tag ∷ tags) n f = without_tags tags n (if is_member n tag then flat_untag f tag else f)

-- the group after document n became f, by which these tags were lost
abbrev pub with_changed : FlatGroup → List Tag → ℕ → FlatState → FlatGroup
with_changed g lost n f = with_doc (each_from 0 (without_tags lost) g) n f

abbrev pub changed_in : FlatGroup → List Tag → ℕ → Result FlatState FlatRefusal → Result FlatGroup FlatRefusal
changed_in g lost n (Err why) = Err why
changed_in g lost n (Ok f) = Ok (with_changed g lost n f)

abbrev pub moved_in : FlatGroup → List Tag → ℕ → Result (Option FlatState) FlatRefusal → Result (Option FlatGroup) FlatRefusal
moved_in g lost n (Err why) = Err why
moved_in g lost n (Ok None) = Ok None
moved_in g lost n (Ok (Some f)) = Ok (Some (with_changed g lost n f))

-- ---- calls on one document that lose tags

abbrev pub group_open : FlatGroup → ℕ → List ℕ → Scanner → Kind → Result FlatGroup FlatRefusal
group_open g n text scanner kind = changed_in g (lost_by_open (doc_in g n)) n (flat_open text scanner kind)

abbrev pub group_edit : FlatGroup → ℕ → List Op → Result FlatGroup FlatRefusal
group_edit g n ops = let f = doc_in g n in changed_in g (lost_by_change f) n (flat_edit f ops)

abbrev pub group_eol : FlatGroup → ℕ → Kind → Result (Option FlatGroup) FlatRefusal
group_eol g n kind = let f = doc_in g n in moved_in g (lost_by_change f) n (flat_eol f kind)

abbrev pub group_replace_all : FlatGroup → ℕ → List ℕ → List ℕ → Result (Option FlatGroup) FlatRefusal
group_replace_all g n sought text = let f = doc_in g n in moved_in g (lost_by_change f) n (flat_replace_all f sought text)
