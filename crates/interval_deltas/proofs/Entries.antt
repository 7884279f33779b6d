-- Lists of entries under a binary search, a move up by one and a gathering.
use Rattle.std.proofs.Common.{◌≡◌, ℕ, ◌+◌, ◌<◌, ◌≤◌, true, false, inl, inr, List, [], ◌∷◌, ◌++◌, length, get_or, set, take, drop, Some, sym, ◌∙◌, ap, subst, arith, append_assoc}
use Rattle.std.specs.Prelude.{slice_get}
use Rattle.std.specs.List.{AllWithin, filter}
use Rattle.std.proofs.lemmas.Bool.{cases_lt, cond-true, cond-false}
use Rattle.std.proofs.lemmas.List.{drop_more, drop-set-lt, get_or-drop, length-set, take_more, take_more_set, append-nil}
use Rattle.std.proofs.lemmas.List.Elements.{filter-append}
use Rattle.std.proofs.lemmas.Grind.{drop_more_same}
use Rattle.std.proofs.lemmas.Option.{get_or_from_slice_get, slice_get_within}
use Rattle.interval_deltas.specs.declared.names.Entry.{Entry}
use Rattle.interval_deltas.specs.Names.{IsById, is_named}

-- the entries before low have lower ids, and those from high on greater ones
pub record IsHalved (es : List Entry) (id low high : ℕ) : Type 0 where
  pub order : low ≤ high
  pub within : high ≤ length es
  pub lower : AllWithin (λ e. e.id < id) es 0 low
  pub higher : AllWithin (λ e. id < e.id) es high (length es)

module _ (es : List Entry) (id low high : ℕ) (by_id : IsById es) (h : IsHalved es id low high) (middle : ℕ) (first : low ≤ middle) (last : middle < high) (e : Entry) (found : slice_get es middle ≡ Some e) where
  middle_id : (d : Entry) → (get_or es middle d).id ≡ e.id
  middle_id d = ap (λ (x : Entry). x.id) (get_or_from_slice_get es middle e d found)

  pub halved_up : e.id < id → IsHalved es id (middle + 1) high
  halved_up less = record {
    order = omega (arith, last);
    within = h.within;
    lower = λ k d from below. elim (cases_lt k middle) [
      | inl lt ↦ omega (arith, by_id k middle d lt (slice_get_within es middle e found), middle_id d, less)
      | inr le ↦ let same : k ≡ middle = omega (arith, le, below) in subst (λ n. (get_or es n d).id < id) (sym same) (omega (arith, middle_id d, less))
    ];
    higher = h.higher;
  }

  pub halved_down : id < e.id → IsHalved es id low middle
  halved_down greater = record {
    order = first;
    within = let within = h.within in omega (arith, within, last);
    lower = h.lower;
    higher = λ k d from below. elim (cases_lt middle k) [
      | inl lt ↦ omega (arith, by_id middle k d lt below, middle_id d, greater)
      | inr le ↦ let same : k ≡ middle = omega (arith, le, from) in subst (λ n. id < (get_or es n d).id) (sym same) (omega (arith, middle_id d, greater))
    ];
  }

module _ {X : Type 0} where
  -- the item at the index is taken out and replaced by the one taken out before
  pub moved_up : (items target : List X) (place : ℕ) (moved stood : X) → take place items ++ moved ∷ drop place items ≡ target → slice_get items place ≡ Some stood
      → take (place + 1) (set items place moved) ++ stood ∷ drop (place + 1) (set items place moved) ≡ target
  moved_up items target place moved stood is found =
      let below = slice_get_within items place stood found in
      let rest : drop place items ≡ stood ∷ drop (place + 1) items =
      drop_more items place stood below ∙ ap (λ x. x ∷ drop (place + 1) items) (get_or_from_slice_get items place stood stood found) in
      ap (λ l. l ++ stood ∷ drop (place + 1) (set items place moved)) (take_more_set items place moved below)
      ∙ append_assoc (take place items) (moved ∷ []) (stood ∷ drop (place + 1) (set items place moved))
      ∙ ap (λ l. take place items ++ moved ∷ stood ∷ l) (drop-set-lt (place + 1) items place moved (omega arith))
      ∙ ap (λ l. take place items ++ moved ∷ l) (sym rest) ∙ is

-- the entries before `at` are gathered at the front, and the others are unchanged
pub record IsGathered (old es : List Entry) (kept at : ℕ) : Type 0 where
  pub few : kept ≤ at
  pub long : length es ≡ length old
  pub front : take kept es ≡ filter is_named (take at old)
  pub rest : drop at es ≡ drop at old

module _ (old es : List Entry) (kept at : ℕ) (h : IsGathered old es kept at) (e : Entry) (found : slice_get es at ≡ Some e) where
  below : at < length es
  below = slice_get_within es at e found

  there : get_or old at e ≡ e
  there =
      let here : at + 0 ≡ at = omega arith in
      ap (λ k. get_or old k e) (sym here) ∙ sym (get_or-drop at old 0 e) ∙ ap (λ l. get_or l 0 e) (sym h.rest) ∙ get_or-drop at es 0 e
      ∙ ap (λ k. get_or es k e) here ∙ get_or_from_slice_get es at e e found

  next : filter is_named (take (at + 1) old) ≡ filter is_named (take at old) ++ filter is_named (e ∷ [])
  next =
      ap (filter is_named) (take_more old at e (omega (arith, below, h.long)) ∙ ap (λ x. take at old ++ x ∷ []) there)
      ∙ filter-append is_named (take at old) (e ∷ [])

  pub gathered_one : is_named e ≡ true → IsGathered old (set es kept e) (kept + 1) (at + 1)
  gathered_one named = record {
    few = omega (arith, h.few);
    long = length-set es kept e ∙ h.long;
    front = take_more_set es kept e (omega (arith, h.few, below)) ∙ ap (λ l. l ++ e ∷ []) h.front
        ∙ ap (λ l. filter is_named (take at old) ++ l) (sym (cond-true (is_named e) (e ∷ []) [] named)) ∙ sym next;
    rest = drop-set-lt (at + 1) es kept e (omega (arith, h.few)) ∙ drop_more_same es old at h.rest;
  }

  pub passed_one : is_named e ≡ false → IsGathered old es kept (at + 1)
  passed_one dead = record {
    few = omega (arith, h.few);
    long = h.long;
    front = h.front ∙ sym (append-nil (filter is_named (take at old))) ∙ ap (λ l. filter is_named (take at old) ++ l) (sym (cond-false (is_named e) (e ∷ []) [] dead)) ∙ sym next;
    rest = drop_more_same es old at h.rest;
  }
