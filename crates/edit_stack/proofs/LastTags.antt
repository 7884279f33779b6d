-- The tags of the last elements are removed, from the last one down.
use Rattle.std.proofs.Common.{◌≡◌, ◌⊎◌, ℕ, ◌+◌, ◌-◌, ◌<◌, ◌≤◌, true, List, [], ◌∷◌, ◌++◌, take, drop, set, length, map, get_or, Option, refl, sym, ◌∙◌, ap, ap₂, arith, inl, inr}
use Rattle.std.specs.Prelude.{is_some, min}
use Rattle.std.proofs.lemmas.List.{map-append, length-append, length-set, take-append-drop, take-set, take-take, drop_all, drop_more, drop-set, get_or-take}
use Rattle.edit_stack.specs.declared.element.Element.{Element}
use Rattle.edit_stack.specs.Element.{step_of}
use Rattle.edit_stack.specs.Lists.{opened}
use Rattle.edit_stack.proofs.Cursors.{before, behind, length_before}
use Rattle.edit_stack.proofs.Tags.{in_order}
use Rattle.undo_rules.specs.Stack.{Stack}
use Rattle.undo_rules.specs.Tags.{all_steps, tagged_count, untagged_last, with_steps}
use Rattle.undo_rules.proofs.LastTags.{with_steps-same, tagged_count-append, untagged_last_none, untagged_last-append, length-untagged_last}

abbrev stack_of : {C : Type 0} → Option (Element C) → List (Element C) → ℕ → ℕ → Stack C
stack_of o es done kept = record { undo = opened o ++ before (take kept es) done; redo = behind (take kept es) done; is_open = is_some o }

module _ {C : Type 0} (doc count : ℕ) where
  -- The elements from index `at` on have lost their tags, and `left` tags are still to be removed.
  pub record AreUntagged (left at : ℕ) (old new : List (Element C)) : Type 0 where
    pub first : take at new ≡ take at old
    pub later : map step_of (drop at new) ≡ untagged_last doc count (map step_of (drop at old))
    pub less : left ≡ count - tagged_count doc (map step_of (drop at old))
    pub len : length new ≡ length old

  pub untagged_end : (es : List (Element C)) (at : ℕ) → length es ≤ at → AreUntagged count at es es
  untagged_end es at all =
      let none = drop_all at es all in record {
        first = refl;
        later = ap (map step_of) none ∙ sym (ap (λ l. untagged_last doc count (map step_of l)) none);
        less = omega (arith, ap (λ l. tagged_count doc (map (step_of {C = C}) l)) none);
        len = refl;
      }

  pub untagged_one : (left next at : ℕ) (old es : List (Element C)) (e new : Element C) → at < length es → AreUntagged left (at + 1) old es
      → e ≡ get_or es at e → step_of new ∷ [] ≡ untagged_last doc left (step_of e ∷ []) → next ≡ left - tagged_count doc (step_of e ∷ [])
      → AreUntagged next at old (set es at new)
  untagged_one left next at old es e new within so_far read step less =
      let there : at < length old = omega (arith, within, so_far.len) in
      let same : e ≡ get_or old at e =
      read ∙ sym (get_or-take (at + 1) es at e (omega arith)) ∙ ap (λ l. get_or l at e) so_far.first ∙ get_or-take (at + 1) old at e (omega arith) in
      let rest = map step_of (drop (at + 1) old) in
      let one : map step_of (drop at old) ≡ (step_of e ∷ []) ++ rest =
      ap (map step_of) (drop_more old at e there) ∙ ap (λ x. step_of x ∷ rest) (sym same) in
      record {
        first = take-set es at new ∙ fewer es ∙ ap (take at) so_far.first ∙ sym (fewer old);
        later = ap (map step_of) (drop-set es at new within) ∙ ap₂ (λ a b. a ++ b) step so_far.later
            ∙ ap (λ c. untagged_last doc c (step_of e ∷ []) ++ untagged_last doc count rest) so_far.less
            ∙ sym (untagged_last-append doc count (step_of e ∷ []) rest) ∙ sym (ap (untagged_last doc count) one);
        less = less ∙ omega (arith, so_far.less, ap (tagged_count doc) one, tagged_count-append doc (step_of e ∷ []) rest);
        len = length-set es at new ∙ so_far.len;
      }
    where
      fewer : (xs : List (Element C)) → take at xs ≡ take at (take (at + 1) xs)
      fewer xs = sym (take-take at (at + 1) xs (omega arith))

  -- no tag is left to remove, or no element is left
  pub untagged_all : (left at : ℕ) (old new : List (Element C)) → AreUntagged left at old new → (left ≡ 0) ⊎ (at ≡ 0)
      → map step_of new ≡ untagged_last doc count (map step_of old)
  untagged_all left at old new so_far done =
      let front = map step_of (take at old) in
      let last = map step_of (drop at old) in
      let parts : map step_of old ≡ front ++ last =
      ap (map step_of) (sym (take-append-drop at old)) ∙ map-append (step_of {C = C}) (take at old) (drop at old) in
      ap (map step_of) (sym (take-append-drop at new)) ∙ map-append (step_of {C = C}) (take at new) (drop at new)
      ∙ ap₂ (λ a b. a ++ b) (ap (map step_of) so_far.first ∙ sym (stay done)) so_far.later
      ∙ ap (λ c. untagged_last doc c front ++ untagged_last doc count last) so_far.less
      ∙ sym (untagged_last-append doc count front last) ∙ sym (ap (untagged_last doc count) parts)
    where
      stay : (left ≡ 0) ⊎ (at ≡ 0) → untagged_last doc left (map step_of (take at old)) ≡ map step_of (take at old)
      stay (inl none) = ap (λ c. untagged_last doc c (map step_of (take at old))) none ∙ untagged_last_none doc (map step_of (take at old))
      stay (inr none) =
          ap (λ n. untagged_last doc left (map step_of (take n old))) none ∙ sym (ap (λ n. map (step_of {C = C}) (take n old)) none)

  -- the tags of all steps, with the open one
  pub last_untagged : (new o : Option (Element C)) (es old : List (Element C)) (done kept : ℕ) → (is_some o ≡ true → kept ≡ done) → is_some new ≡ is_some o
      → length es ≡ length old → opened new ≡ untagged_last doc count (opened o)
      → map step_of (take kept es) ≡ untagged_last doc (count - tagged_count doc (opened o)) (map step_of (take kept old))
      → stack_of new es done kept ≡ with_steps (stack_of o old done kept) (untagged_last doc count (all_steps (stack_of o old done kept)))
  last_untagged new o es old done kept apart still len last closed =
      let was = stack_of o old done kept in
      let now = stack_of new es done kept in
      let steps : all_steps now ≡ untagged_last doc count (all_steps was) =
      in_order new es done kept (λ is. apart (sym still ∙ is)) ∙ ap₂ (λ a b. a ++ b) closed last
      ∙ sym (untagged_last-append doc count (map step_of (take kept old)) (opened o))
      ∙ sym (ap (untagged_last doc count) (in_order o old done kept apart)) in
      let long : length now.undo ≡ length was.undo =
      omega (
        arith,
        length-append (opened new) (before (take kept es) done),
        length-append (opened o) (before (take kept old) done),
        ap length last,
        length-untagged_last doc count (opened o),
        length_before es done kept,
        length_before old done kept,
        ap (min done) (ap (min kept) len),
      ) in
      sym (with_steps-same was now long still) ∙ ap (with_steps was) steps
