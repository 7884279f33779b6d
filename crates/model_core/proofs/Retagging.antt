-- Steps that differ in their tags alone: no text reads these, and where the flat history gets the same tags it stays that of the kept steps.
use Rattle.std.proofs.Common.{◌≡◌, ℕ, ◌&&◌, nat_lt, arith, Bool, true, false, if◌then◌else◌, List, [], ◌∷◌, take, drop, map, reverse, length, filter, Option, Some, None, suc, refl, ap, ap₂, sym, subst, ◌∙◌}
use Rattle.std.proofs.lemmas.List.{length-map, take-map, drop-map}
use Rattle.undo_rules.specs.declared.Tag.{Tag}
use Rattle.undo_rules.specs.Stack.{Step, Stack}
use Rattle.undo_rules.specs.Tags.{is_member, is_tag, has_tag, without_tag, passes, tagged_front, tagged, untagged, all_steps, tagged_count, untagged_last, with_steps}
use Rattle.undo_rules.proofs.LastTags.{map_reverse, with_steps-same}
use Rattle.snapshot_rules.specs.Snapshots.{FlatShelf}
use Rattle.decoration_rules.specs.Decorations.{Decorations}
use Rattle.hiding_rules.specs.Hidden.{Scanner}
use Rattle.document_rules.specs.Document.{FlatText, FlatChange}
use Rattle.model_page.specs.declared.change.Change.{Change}
use Rattle.model_page.specs.Changes.{text_back, text_on, changes_back, changes_on, LeadBack, LeadOn}
use Rattle.model_core.specs.declared.latest.Latest.{Latest}
use Rattle.model_core.specs.declared.latest.Latest.TheVariants.{Made, TakenBack, MadeAgain}
use Rattle.model_core.specs.History.{step_with, undo_steps, redo_steps, history_of, StepsLeadBack, StepsLeadOn, IsHistory, last_of, last_in, last_of_steps, HasLatest}
use Rattle.model_core.proofs.Stepping.{document_of}
use Rattle.model_core.proofs.Tags.{tags_of, undo_tags, redo_tags, same_tags, length-undo}

-- ---- lists

abbrev without : {C : Type 0} → Step C → Step C
without step = record step { tag = None }

abbrev bare : {C : Type 0} → List (Step C) → List (Step C)
bare steps = map without steps

same_steps : {C : Type 0} (a b : List (Step C)) → bare a ≡ bare b → tags_of a ≡ tags_of b → a ≡ b
same_steps [] [] same tags = refl
same_steps [] (y ∷ b) same tags = absurd cc
same_steps (x ∷ a) [] same tags = absurd cc
same_steps {C} (x ∷ a) (y ∷ b) same tags =
    let first : without x ≡ without y = cc in
    let tag : x.tag ≡ y.tag = cc in
    let later : bare a ≡ bare b = cc in
    let tags_later : tags_of a ≡ tags_of b = cc in
    ap₂ (λ (s : Step C) (rest : List (Step C)). s ∷ rest) (λ i. record (first i) { tag = tag i }) (same_steps a b later tags_later)

length-bare : {C : Type 0} (a b : List (Step C)) → bare a ≡ bare b → length a ≡ length b
length-bare a b same =
    sym (length-map a without) ∙ ap length same ∙ length-map b without

same_changes : (x y : Step Change) → without x ≡ without y → x.changes ≡ y.changes
same_changes x y same = ap (λ (s : Step Change). s.changes) same

undo_bare : (now : FlatText) (ss : List (Step Change)) → undo_steps now (bare ss) ≡ bare (undo_steps now ss)
undo_bare now [] = refl
undo_bare now (s ∷ ss) = ap (λ l. without (step_with s (changes_back now s.changes)) ∷ l) (undo_bare (text_back now s.changes) ss)

redo_bare : (now : FlatText) (ss : List (Step Change)) → redo_steps now (bare ss) ≡ bare (redo_steps now ss)
redo_bare now [] = refl
redo_bare now (s ∷ ss) = ap (λ l. without (step_with s (changes_on now s.changes)) ∷ l) (redo_bare (text_on now s.changes) ss)

back_bare : (now : FlatText) (a b : List (Step Change)) → bare a ≡ bare b → StepsLeadBack now a → StepsLeadBack now b
back_bare now [] [] same old = tt
back_bare now [] (y ∷ b) same old = absurd cc
back_bare now (x ∷ a) [] same old = absurd cc
back_bare now (x ∷ a) (y ∷ b) same old =
    let first : without x ≡ without y = cc in
    let later : bare a ≡ bare b = cc in
    subst (λ cs. LeadBack now cs × StepsLeadBack (text_back now cs) b) (same_changes x y first)
    (old.0, back_bare (text_back now x.changes) a b later old.1)

on_bare : (now : FlatText) (a b : List (Step Change)) → bare a ≡ bare b → StepsLeadOn now a → StepsLeadOn now b
on_bare now [] [] same old = tt
on_bare now [] (y ∷ b) same old = absurd cc
on_bare now (x ∷ a) [] same old = absurd cc
on_bare now (x ∷ a) (y ∷ b) same old =
    let first : without x ≡ without y = cc in
    let later : bare a ≡ bare b = cc in
    subst (λ cs. LeadOn now cs × StepsLeadOn (text_on now cs) b) (same_changes x y first)
    (old.0, on_bare (text_on now x.changes) a b later old.1)

last_bare : (latest : Latest) (now : FlatText) (a b : List (Step Change)) → bare a ≡ bare b → last_of_steps latest now a ≡ last_of_steps latest now b
last_bare latest now [] [] same = refl
last_bare latest now [] (y ∷ b) same = absurd cc
last_bare latest now (x ∷ a) [] same = absurd cc
last_bare latest now (x ∷ a) (y ∷ b) same =
    let first : without x ≡ without y = cc in
    ap (last_in latest now) (same_changes x y first)

-- ---- stacks

-- the same steps, whatever their tags
record AreAlike {C : Type 0} (old new : Stack C) : Type 0 where
  undo : bare new.undo ≡ bare old.undo
  redo : bare new.redo ≡ bare old.redo
  is_open : new.is_open ≡ old.is_open

-- the kept steps and those of the flat history got the same tags
pub record IsRetagged (now : FlatText) (old new : Stack Change) (flat : Stack FlatChange) : Type 0 where
  kept : AreAlike old new
  flat_kept : AreAlike (history_of now old) flat
  undo : tags_of new.undo ≡ tags_of flat.undo
  redo : tags_of new.redo ≡ tags_of flat.redo

module _ (now : FlatText) (old new : Stack Change) (flat : Stack FlatChange) (is : IsRetagged now old new flat) where
  history-retagged : history_of now new ≡ flat
  history-retagged = λ i. record { undo = undo i; redo = redo i; is_open = (is.kept.is_open ∙ sym is.flat_kept.is_open) i }
    where
      undo : undo_steps now new.undo ≡ flat.undo
      undo =
          same_steps (undo_steps now new.undo) flat.undo
          (sym (undo_bare now new.undo) ∙ ap (undo_steps now) is.kept.undo ∙ undo_bare now old.undo ∙ sym is.flat_kept.undo)
          (undo_tags now new.undo ∙ is.undo)

      redo : redo_steps now new.redo ≡ flat.redo
      redo =
          same_steps (redo_steps now new.redo) flat.redo
          (sym (redo_bare now new.redo) ∙ ap (redo_steps now) is.kept.redo ∙ redo_bare now old.redo ∙ sym is.flat_kept.redo)
          (redo_tags now new.redo ∙ is.redo)

  last-retagged : (latest : Option Latest) → last_of latest now new ≡ last_of latest now old
  last-retagged None = refl
  last-retagged (Some Made) = last_bare Made now new.undo old.undo is.kept.undo
  last-retagged (Some TakenBack) = last_bare TakenBack now new.redo old.redo is.kept.redo
  last-retagged (Some MadeAgain) = last_bare MadeAgain now new.undo old.undo is.kept.undo

  IsHistory-retagged : IsHistory now old → IsHistory now new
  IsHistory-retagged history = record {
    back = back_bare now old.undo new.undo (sym is.kept.undo) history.back;
    on = on_bare now old.redo new.redo (sym is.kept.redo) history.on;
  }

  HasLatest-retagged : (latest : Option Latest) (version : ℕ) → HasLatest latest version old → HasLatest latest version new
  HasLatest-retagged None version has = has
  HasLatest-retagged (Some Made) version has = (has.0, omega (arith, has.1, length-bare new.undo old.undo is.kept.undo))
  HasLatest-retagged (Some TakenBack) version has = (has.0, omega (arith, has.1, length-bare new.redo old.redo is.kept.redo))
  HasLatest-retagged (Some MadeAgain) version has = (has.0, omega (arith, has.1, length-bare new.undo old.undo is.kept.undo))

  document-retagged : (version alternative : ℕ) (d : Decorations) (scanner : Scanner) (shelf : FlatShelf) (latest : Option Latest)
      → document_of now version alternative d scanner shelf latest new
      ≡ record (document_of now version alternative d scanner shelf latest old) { history = flat }
  document-retagged version alternative d scanner shelf latest =
      λ i. record (document_of now version alternative d scanner shelf latest old) { history = history-retagged i; last = last-retagged latest i }

  -- ... where the model keeps this stack
  module _ (stack : Stack Change) (same : stack ≡ new) where
    pub kept_then : (latest : Option Latest) (version : ℕ) → IsHistory now old → HasLatest latest version old
        → IsHistory now stack × HasLatest latest version stack
    kept_then latest version history has =
        subst (λ (s : Stack Change). IsHistory now s × HasLatest latest version s) (sym same) (IsHistory-retagged history, HasLatest-retagged latest version has)

    pub document_then : (version alternative : ℕ) (d : Decorations) (scanner : Scanner) (shelf : FlatShelf) (latest : Option Latest)
        → document_of now version alternative d scanner shelf latest stack
        ≡ record (document_of now version alternative d scanner shelf latest old) { history = flat }
    document_then version alternative d scanner shelf latest =
        ap (document_of now version alternative d scanner shelf latest) same ∙ document-retagged version alternative d scanner shelf latest

-- ---- a tag that is put on

module _ (tag : Tag) where
  alike-tagged : {C : Type 0} (s : Stack C) → AreAlike s (tagged s tag)
  alike-tagged {C} s = record { undo = front s.undo; redo = refl; is_open = refl }
    where
      front : (ss : List (Step C)) → bare (tagged_front ss tag) ≡ bare ss
      front [] = refl
      front (s ∷ ss) = refl

  front_tags : {C D : Type 0} (ss : List (Step C)) (rs : List (Step D)) → tags_of ss ≡ tags_of rs → tags_of (tagged_front ss tag) ≡ tags_of (tagged_front rs tag)
  front_tags [] [] same = refl
  front_tags [] (r ∷ rs) same = absurd cc
  front_tags (s ∷ ss) [] same = absurd cc
  front_tags (s ∷ ss) (r ∷ rs) same = let later : tags_of ss ≡ tags_of rs = cc in ap (λ tags. Some tag ∷ tags) later

  pub is_tagged : (now : FlatText) (s : Stack Change) → IsRetagged now s (tagged s tag) (tagged (history_of now s) tag)
  is_tagged now s = record {
    kept = alike-tagged s;
    flat_kept = alike-tagged (history_of now s);
    undo = front_tags s.undo (undo_steps now s.undo) (sym (undo_tags now s.undo));
    redo = sym (redo_tags now s.redo);
  }

-- ---- a tag that is taken off

module _ (tag : Tag) where
  bare-without : {C : Type 0} (ss : List (Step C)) → bare (map (without_tag tag) ss) ≡ bare ss
  bare-without [] = refl
  bare-without {C} (s ∷ ss) = ap₂ (λ (s : Step C) (rest : List (Step C)). s ∷ rest) (one (has_tag tag s)) (bare-without ss)
    where
      one : (b : Bool) → without (if b then without s else s) ≡ without s
      one true = refl
      one false = refl

  tags-without : {C : Type 0} (ss : List (Step C)) → tags_of (map (without_tag tag) ss) ≡ map (λ own. if is_tag tag own then None else own) (tags_of ss)
  tags-without [] = refl
  tags-without (s ∷ ss) = ap₂ (λ (own : Option Tag) rest. own ∷ rest) (one (has_tag tag s)) (tags-without ss)
    where
      one : (b : Bool) → (if b then record s { tag = None } else s).tag ≡ (if b then None else s.tag)
      one true = refl
      one false = refl

  alike-untagged : {C : Type 0} (s : Stack C) → AreAlike s (untagged s tag)
  alike-untagged s = record { undo = bare-without s.undo; redo = bare-without s.redo; is_open = refl }

  pub is_untagged : (now : FlatText) (s : Stack Change) → IsRetagged now s (untagged s tag) (untagged (history_of now s) tag)
  is_untagged now s = record {
    kept = alike-untagged s;
    flat_kept = alike-untagged (history_of now s);
    undo = tags-without s.undo ∙ ap (map (λ own. if is_tag tag own then None else own)) (sym (undo_tags now s.undo))
        ∙ sym (tags-without (undo_steps now s.undo));
    redo = tags-without s.redo ∙ ap (map (λ own. if is_tag tag own then None else own)) (sym (redo_tags now s.redo))
        ∙ sym (tags-without (redo_steps now s.redo));
  }

-- ---- those of the last steps that were made with document n

length-filter-tags : {C : Type 0} (n : ℕ) (steps : List (Step C)) → tagged_count n steps ≡ length (filter (passes (is_member n)) (tags_of steps))
length-filter-tags n [] = refl
length-filter-tags {C} n (step ∷ steps) =
    one (passes (is_member n) step.tag) (filter (λ (step : Step C). passes (is_member n) step.tag) steps) (filter (passes (is_member n)) (tags_of steps))
    (length-filter-tags n steps)
  where
    one : (b : Bool) (xs : List (Step C)) (ts : List (Option Tag)) → length xs ≡ length ts
        → length (if b then step ∷ xs else xs) ≡ length (if b then step.tag ∷ ts else ts)
    one true xs ts same = ap suc same
    one false xs ts same = same

abbrev last_off : ℕ → ℕ → List (Option Tag) → List (Option Tag)
last_off n c [] = []
last_off n c (tag ∷ tags) =
    (if passes (is_member n) tag && nat_lt (length (filter (passes (is_member n)) tags)) c then None else tag) ∷ last_off n c tags

tags_of-last : {C : Type 0} (n c : ℕ) (steps : List (Step C)) → tags_of (untagged_last n c steps) ≡ last_off n c (tags_of steps)
tags_of-last n c [] = refl
tags_of-last {C} n c (step ∷ steps) =
    ap₂ (λ (tag : Option Tag) rest. tag ∷ rest)
    (one (passes (is_member n) step.tag && nat_lt (tagged_count n steps) c)
    ∙ ap (λ m. if passes (is_member n) step.tag && nat_lt m c then None else step.tag) (length-filter-tags n steps)) (tags_of-last n c steps)
  where
    one : (b : Bool) → (if b then record step { tag = None } else step).tag ≡ (if b then None else step.tag)
    one true = refl
    one false = refl

bare-last : {C : Type 0} (n c : ℕ) (steps : List (Step C)) → bare (untagged_last n c steps) ≡ bare steps
bare-last n c [] = refl
bare-last {C} n c (step ∷ steps) =
    ap₂ (λ (s : Step C) (rest : List (Step C)). s ∷ rest) (one (passes (is_member n) step.tag && nat_lt (tagged_count n steps) c)) (bare-last n c steps)
  where
    one : (b : Bool) → without (if b then without step else step) ≡ without step
    one true = refl
    one false = refl

front : {X Y : Type 0} (f : X → Y) (k : ℕ) (xs : List X) → map f (reverse (take k xs)) ≡ reverse (take k (map f xs))
front f k xs = map_reverse f (take k xs) ∙ ap reverse (sym (take-map f k xs))

module _ (n c : ℕ) where
  abbrev off : {C : Type 0} → Stack C → Stack C
  off s = with_steps s (untagged_last n c (all_steps s))

  alike-off : {C : Type 0} (s : Stack C) → AreAlike s (off s)
  alike-off {C} s = record { undo = undo; redo = redo; is_open = refl }
    where
      undo : bare (off s).undo ≡ bare s.undo
      undo =
          front without (length s.undo) (untagged_last n c (all_steps s)) ∙ ap (λ l. reverse (take (length s.undo) l)) (bare-last n c (all_steps s))
          ∙ sym (front without (length s.undo) (all_steps s)) ∙ ap (λ (t : Stack C). bare t.undo) (with_steps-same s s refl refl)

      redo : bare (off s).redo ≡ bare s.redo
      redo =
          sym (drop-map without (length s.undo) (untagged_last n c (all_steps s))) ∙ ap (drop (length s.undo)) (bare-last n c (all_steps s))
          ∙ drop-map without (length s.undo) (all_steps s) ∙ ap (λ (t : Stack C). bare t.redo) (with_steps-same s s refl refl)

  tags-undo : {C : Type 0} (s : Stack C) → tags_of (off s).undo ≡ reverse (take (length s.undo) (last_off n c (tags_of (all_steps s))))
  tags-undo {C} s =
      front (λ (step : Step C). step.tag) (length s.undo) (untagged_last n c (all_steps s))
      ∙ ap (λ l. reverse (take (length s.undo) l)) (tags_of-last n c (all_steps s))

  tags-redo : {C : Type 0} (s : Stack C) → tags_of (off s).redo ≡ drop (length s.undo) (last_off n c (tags_of (all_steps s)))
  tags-redo {C} s =
      sym (drop-map (λ (step : Step C). step.tag) (length s.undo) (untagged_last n c (all_steps s)))
      ∙ ap (drop (length s.undo)) (tags_of-last n c (all_steps s))

  pub is_untagged_last : (now : FlatText) (s : Stack Change) → IsRetagged now s (off s) (off (history_of now s))
  is_untagged_last now s =
      let tags = ap (last_off n c) (sym (same_tags now s)) in
      record {
        kept = alike-off s;
        flat_kept = alike-off (history_of now s);
        undo = tags-undo s ∙ ap₂ (λ k l. reverse (take k l)) (sym (length-undo now s)) tags ∙ sym (tags-undo (history_of now s));
        redo = tags-redo s ∙ ap₂ (λ k l. drop k l) (sym (length-undo now s)) tags ∙ sym (tags-redo (history_of now s));
      }
