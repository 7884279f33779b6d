-- The tags of the kept steps: the flat history has the same, in the same order.
use Rattle.std.proofs.Common.{◌≡◌, ℕ, ◌||◌, List, [], ◌∷◌, ◌++◌, map, reverse, length, slice_get, Option, Some, None, option_map, option_and_then, refl, ap, sym, ◌∙◌}
use Rattle.std.specs.List.{list_any}
use Rattle.std.proofs.lemmas.List.{append_assoc, reverse-append, length-map}
use Rattle.std.proofs.lemmas.Option.{slice_get-map}
use Rattle.undo_rules.specs.declared.Tag.{Tag}
use Rattle.undo_rules.specs.Stack.{Step, Stack}
use Rattle.undo_rules.specs.Tags.{is_tag, has_tag, all_steps, holds, tag_at}
use Rattle.document_rules.specs.Document.{FlatText, FlatChange}
use Rattle.model_page.specs.declared.change.Change.{Change}
use Rattle.model_page.specs.declared.change.Way.{Way}
use Rattle.model_page.specs.declared.change.Way.TheVariants.{Back, On}
use Rattle.model_page.specs.Changes.{text_back, text_on, changes_back}
use Rattle.model_core.specs.History.{step_with, undo_steps, redo_steps, history_of}
use Rattle.model_core.specs.Ways.{next_steps}

abbrev pub tags_of : {C : Type 0} → List (Step C) → List (Option Tag)
tags_of ss = map (λ s. s.tag) ss

pub undo_tags : (now : FlatText) (ss : List (Step Change)) → tags_of (undo_steps now ss) ≡ tags_of ss
undo_tags now [] = refl
undo_tags now (s ∷ ss) = ap (λ l. s.tag ∷ l) (undo_tags (text_back now s.changes) ss)

pub redo_tags : (now : FlatText) (ss : List (Step Change)) → tags_of (redo_steps now ss) ≡ tags_of ss
redo_tags now [] = refl
redo_tags now (s ∷ ss) = ap (λ l. s.tag ∷ l) (redo_tags (text_on now s.changes) ss)

-- in the order in which the steps were made
tags_behind : {C : Type 0} (step : Step C) (ss rs : List (Step C)) → tags_of (reverse (step ∷ ss) ++ rs) ≡ tags_of (reverse ss ++ (step ∷ rs))
tags_behind step ss rs = ap tags_of (ap (λ l. l ++ rs) (reverse-append (step ∷ []) ss) ∙ append_assoc (reverse ss) (step ∷ []) rs)

made_tags : (now : FlatText) (ss : List (Step Change)) (flat : List (Step FlatChange)) (rs : List (Step Change)) → tags_of flat ≡ tags_of rs
    → tags_of (reverse (undo_steps now ss) ++ flat) ≡ tags_of (reverse ss ++ rs)
made_tags now [] flat rs same = same
made_tags now (s ∷ ss) flat rs same =
    let first : Step FlatChange = step_with s (changes_back now s.changes) in
    tags_behind first (undo_steps (text_back now s.changes) ss) flat
    ∙ made_tags (text_back now s.changes) ss (first ∷ flat) (s ∷ rs) (ap (λ l. s.tag ∷ l) same)
    ∙ sym (tags_behind s ss rs)

any_of_tags : {C : Type 0} (tag : Tag) (ss : List (Step C)) → list_any (has_tag tag) ss ≡ list_any (is_tag tag) (tags_of ss)
any_of_tags tag [] = refl
any_of_tags tag (s ∷ ss) = ap (λ b. is_tag tag s.tag || b) (any_of_tags tag ss)

tag_of : {C : Type 0} (o : Option (Step C)) → option_and_then (λ s. s.tag) o ≡ option_and_then (λ own. own) (option_map (λ (s : Step C). s.tag) o)
tag_of None = refl
tag_of (Some s) = refl

tag_of_tags : {C : Type 0} (ss : List (Step C)) (k : ℕ) → option_and_then (λ s. s.tag) (slice_get ss k) ≡ option_and_then (λ own. own) (slice_get (tags_of ss) k)
tag_of_tags {C} ss k = tag_of (slice_get ss k) ∙ ap (option_and_then (λ own. own)) (sym (slice_get-map (λ (s : Step C). s.tag) ss k))

same_length : {C D : Type 0} (ss : List (Step C)) (rs : List (Step D)) → tags_of ss ≡ tags_of rs → length ss ≡ length rs
same_length {C} {D} ss rs same = sym (length-map ss (λ (s : Step C). s.tag)) ∙ ap length same ∙ length-map rs (λ (s : Step D). s.tag)

module _ (now : FlatText) (s : Stack Change) where
  pub same_tags : tags_of (all_steps (history_of now s)) ≡ tags_of (all_steps s)
  same_tags = made_tags now s.undo (redo_steps now s.redo) s.redo (redo_tags now s.redo)

  pub length-undo : length (undo_steps now s.undo) ≡ length s.undo
  length-undo = same_length (undo_steps now s.undo) s.undo (undo_tags now s.undo)

  pub length-redo : length (redo_steps now s.redo) ≡ length s.redo
  length-redo = same_length (redo_steps now s.redo) s.redo (redo_tags now s.redo)

  pub length-all_steps : length (all_steps (history_of now s)) ≡ length (all_steps s)
  length-all_steps = same_length (all_steps (history_of now s)) (all_steps s) same_tags

  pub holds-history : (tag : Tag) → holds (history_of now s) tag ≡ holds s tag
  holds-history tag =
      any_of_tags tag (all_steps (history_of now s)) ∙ ap (list_any (is_tag tag)) same_tags ∙ sym (any_of_tags tag (all_steps s))

  pub tag_at-history : (k : ℕ) → tag_at (history_of now s) k ≡ tag_at s k
  tag_at-history k =
      tag_of_tags (all_steps (history_of now s)) k ∙ ap (λ l. option_and_then (λ own. own) (slice_get l k)) same_tags ∙ sym (tag_of_tags (all_steps s) k)

  -- the tag of the step that comes next
  first_tag : (flat : List (Step FlatChange)) (ss : List (Step Change)) → tags_of flat ≡ tags_of ss
      → option_and_then (λ s. s.tag) (slice_get flat 0) ≡ option_and_then (λ s. s.tag) (slice_get ss 0)
  first_tag flat ss same = tag_of_tags flat 0 ∙ ap (λ l. option_and_then (λ own. own) (slice_get l 0)) same ∙ sym (tag_of_tags ss 0)

  pub next_tag-history : (way : Way)
      → option_and_then (λ step. step.tag) (slice_get (next_steps way (history_of now s)) 0) ≡ option_and_then (λ step. step.tag) (slice_get (next_steps way s) 0)
  next_tag-history Back = first_tag (undo_steps now s.undo) s.undo (undo_tags now s.undo)
  next_tag-history On = first_tag (redo_steps now s.redo) s.redo (redo_tags now s.redo)
