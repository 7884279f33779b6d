-- The layout of a list in slots: its items in the first slots, and empty slots after them.
use Rattle.std.proofs.Common.{◌≡◌, ℕ, zero, suc, ◌+◌, ◌-◌, ◌^◌, ◌<◌, ◌≤◌, List, [], ◌∷◌, ◌++◌, Option, Some, None, length, get_or, replicate, set, refl, sym, ap, ◌∙◌, arith, inl, inr, lit<}
use Rattle.std.specs.List.{slice_get}
use Rattle.std.proofs.lemmas.List.{length-replicate, replicate-append-replicate}
use Rattle.std.proofs.lemmas.Option.{slice_get_cases}
use Rattle.std.proofs.Math.ListN.{length-set, length-append}
use Rattle.std.specs.Option.{unwrap_or}
use Rattle.paged_list.specs.List.{Paged, paged, values, laid, IsLaid}

module _ {X : Type 0} where
  values-empty : (n : ℕ) → values {X = X} (replicate n None) ≡ []
  values-empty zero = refl
  values-empty (suc n) = values-empty n

  values-laid : (xs : List X) (n : ℕ) → values (laid xs n) ≡ xs
  values-laid [] n = values-empty n
  values-laid (x ∷ xs) n = ap (λ ys. x ∷ ys) (values-laid xs n)

  length-laid : (xs : List X) (n : ℕ) → length (laid xs n) ≡ length xs + n
  length-laid [] n = let long = length-replicate {A = Option X} n None in omega (arith, long)
  length-laid (x ∷ xs) n = let long = length-laid xs n in omega (arith, long)

  laid-pushed : (xs : List X) (n : ℕ) (x : X) → set (laid xs (suc n)) (length xs) (Some x) ≡ laid (xs ++ x ∷ []) n
  laid-pushed [] n x = refl
  laid-pushed (y ∷ ys) n x = ap (λ slots. Some y ∷ slots) (laid-pushed ys n x)

  laid-popped : (xs : List X) (n : ℕ) (x : X) → set (laid (xs ++ x ∷ []) n) (length xs) None ≡ laid xs (suc n)
  laid-popped [] n x = refl
  laid-popped (y ∷ ys) n x = ap (λ slots. Some y ∷ slots) (laid-popped ys n x)

  laid-set : (xs : List X) (n i : ℕ) (w : X) → i < length xs → set (laid xs n) i (Some w) ≡ laid (set xs i w) n
  laid-set [] n i w lt = absurd (omega arith)
  laid-set (x ∷ xs) n zero w lt = refl
  laid-set (x ∷ xs) n (suc i) w lt = ap (λ slots. Some x ∷ slots) (laid-set xs n i w (omega (arith, lt)))

  laid-longer : (xs : List X) (n m : ℕ) → laid xs n ++ replicate m None ≡ laid xs (n + m)
  laid-longer [] n m = replicate-append-replicate n m None
  laid-longer (x ∷ xs) n m = ap (λ slots. Some x ∷ slots) (laid-longer xs n m)

  item-laid : (xs : List X) (n i : ℕ) → i < length xs → get_or (laid xs n) i None ≡ slice_get xs i
  item-laid [] n i lt = absurd (omega arith)
  item-laid (x ∷ xs) n zero lt = refl
  item-laid (x ∷ xs) n (suc i) lt = item-laid xs n i (omega (arith, lt))

  last-laid : (xs : List X) (n : ℕ) (x : X) → get_or (laid (xs ++ x ∷ []) n) (length xs) None ≡ Some x
  last-laid [] n x = refl
  last-laid (y ∷ ys) n x = last-laid ys n x

  first-empty : (xs : List X) (n : ℕ) → get_or (laid xs n) (length xs) None ≡ None
  first-empty [] zero = refl
  first-empty [] (suc n) = refl
  first-empty (x ∷ xs) n = first-empty xs n

  split_last : (xs : List X) → 0 < length xs → (ys : List X) × (x : X) × (xs ≡ ys ++ x ∷ [])
  split_last [] lt = absurd (omega arith)
  split_last (x ∷ []) lt = ([], x, refl)
  split_last (x ∷ y ∷ ys) lt = let rest = split_last (y ∷ ys) (omega arith) in (x ∷ rest.0, rest.1, ap (λ zs. x ∷ zs) rest.2)

  module _ (slots : List (Option X)) (xs : List X) (n : ℕ) (is : slots ≡ laid xs n) where
    values_are : values slots ≡ xs
    values_are = ap values is ∙ values-laid xs n

    long_is : length slots ≡ length xs + n
    long_is = ap length is ∙ length-laid xs n

    lies : (len : ℕ) → len ≡ length xs → length slots < 2 ^ 32 → IsLaid slots len
    lies len same few =
        let items = values_are in let long = long_is in let left : length slots - len ≡ n = omega (arith, long, same) in
        record { count = ap length items ∙ sym same; ordered = (λ i. laid (items i) (left i)) ∙ sym is; few = few }

  pub none_laid : IsLaid {X = X} [] 0
  none_laid = lies [] [] 0 refl 0 refl (lit< tt)

  module _ (slots : List (Option X)) (len : ℕ) (h : IsLaid slots len) where
    abbrev items : List X
    items = values slots

    abbrev left : ℕ
    left = length slots - len

    pub within_slots : len ≤ length slots
    within_slots = let long = long_is slots items left (sym h.ordered) in let count = h.count in omega (arith, long, count)

    pub next_empty : get_or slots len None ≡ None
    next_empty = ap (λ s. get_or s len None) (sym h.ordered) ∙ ap (λ k. get_or (laid items left) k None) (sym h.count) ∙ first-empty items left

    item_at : (i : ℕ) → i < length items → get_or slots i None ≡ slice_get items i
    item_at i lt = ap (λ s. get_or s i None) (sym h.ordered) ∙ item-laid items left i lt

    filled_at : (i : ℕ) → i < length items → (x : X) × (get_or slots i None ≡ Some x)
    filled_at i lt = elim (slice_get_cases items i).1 [
      | inl found ↦ (found.0, item_at i lt ∙ found.2)
      | inr past ↦ let le = past.0 in absurd (omega (arith, le, lt))
    ]

    -- the item that a call names
    module _ (old : Paged X) (is : paged items (length slots) ≡ old) (i : ℕ) (named : i < length old.items) where
      lt : i < length items
      lt = let same = ap (λ a. length a.items) is in omega (arith, same, named)

      pub item_filled : (x : X) × (get_or slots i None ≡ Some x)
      item_filled = filled_at i lt

      pub item_read : (x : X) → get_or slots i None ≡ Some x → slice_get old.items i ≡ Some x
      item_read x read = ap (λ a. slice_get a.items i) (sym is) ∙ sym (item_at i lt) ∙ read

      module _ (w : X) where
        set_is : set slots i (Some w) ≡ laid (set items i w) left
        set_is = ap (λ s. set s i (Some w)) (sym h.ordered) ∙ laid-set items left i w lt

        pub set_laid : IsLaid (set slots i (Some w)) len
        set_laid =
            let count = h.count in let few = h.few in let same = length-set items i w in let long = length-set slots i (Some w) in
            lies (set slots i (Some w)) (set items i w) left set_is len (omega (arith, count, same)) (omega (arith, few, long))

        pub set_shows : let new = set slots i (Some w) in ◌≡◌ {A = Paged X} (paged (values new) (length new)) (paged (set old.items i w) old.capacity)
        set_shows =
            let shown = values_are (set slots i (Some w)) (set items i w) left set_is in let long = length-set slots i (Some w) in
            (λ t. paged (shown t) (long t)) ∙ ap (λ a. paged (set a.items i w) a.capacity) is

    module _ (x : X) (new : List (Option X)) (wrote : new ≡ set slots len (Some x)) (lt : len < length slots) where
      abbrev rest : ℕ
      rest = length slots - len - 1

      pushed_is : new ≡ laid (items ++ x ∷ []) rest
      pushed_is =
          let one : left ≡ suc rest = omega (arith, lt) in
          wrote ∙ ap (λ s. set s len (Some x)) (sym h.ordered) ∙ ap (λ k. set (laid items left) k (Some x)) (sym h.count) ∙ ap (λ k. set (laid items k) (length items) (Some x)) one ∙ laid-pushed items rest x

      pushed_long : length new ≡ length slots
      pushed_long = ap length wrote ∙ length-set slots len (Some x)

      pub pushed_laid : IsLaid new (len + 1)
      pushed_laid =
          let count = h.count in let few = h.few in let more = length-append items (x ∷ []) in let long = pushed_long in
          lies new (items ++ x ∷ []) rest pushed_is (len + 1) (omega (arith, count, more)) (omega (arith, few, long))

      pub pushed_shows : (old : Paged X) → paged items (length slots) ≡ old → ◌≡◌ {A = Paged X} (paged (values new) (length new)) (paged (old.items ++ x ∷ []) old.capacity)
      pushed_shows old is =
          let shown = values_are new (items ++ x ∷ []) rest pushed_is in let long = pushed_long in
          (λ t. paged (shown t) (long t)) ∙ ap (λ a. paged (a.items ++ x ∷ []) a.capacity) is

    -- the last item is removed
    module _ (some : 0 < len) where
      last : (ys : List X) × (x : X) × (items ≡ ys ++ x ∷ [])
      last = let count = h.count in split_last items (omega (arith, some, count))

      last_at : length last.0 ≡ len - 1
      last_at = let count = h.count in let same = ap length last.2 in let more = length-append last.0 (last.1 ∷ []) in omega (arith, count, same, more)

      ends : slots ≡ laid (last.0 ++ last.1 ∷ []) left
      ends = sym h.ordered ∙ ap (λ xs. laid xs left) last.2

      last_is : get_or slots (len - 1) None ≡ Some last.1
      last_is = ap (λ s. get_or s (len - 1) None) ends ∙ ap (λ k. get_or (laid (last.0 ++ last.1 ∷ []) left) k None) (sym last_at) ∙ last-laid last.0 left last.1

      pub last_filled : (x : X) × (get_or slots (len - 1) None ≡ Some x)
      last_filled = (last.1, last_is)

      module _ (new : List (Option X)) (wrote : new ≡ set slots (len - 1) None) where
        popped_is : new ≡ laid last.0 (suc left)
        popped_is = wrote ∙ ap (λ s. set s (len - 1) None) ends ∙ ap (λ k. set (laid (last.0 ++ last.1 ∷ []) left) k None) (sym last_at) ∙ laid-popped last.0 left last.1

        pub popped_long : length new ≡ length slots
        popped_long = ap length wrote ∙ length-set slots (len - 1) None

        pub popped_laid : IsLaid new (len - 1)
        popped_laid = let few = h.few in let long = popped_long in lies new last.0 (suc left) popped_is (len - 1) (sym last_at) (omega (arith, few, long))

        pub popped_items : (x : X) → get_or slots (len - 1) None ≡ Some x → items ≡ values new ++ x ∷ []
        popped_items x read =
            let same : last.1 ≡ x = ap (λ o. unwrap_or o x) (sym last_is ∙ read) in let shown = values_are new last.0 (suc left) popped_is in
            last.2 ∙ (λ t. sym shown t ++ same t ∷ [])

    -- slots are added
    module _ (count : ℕ) (new : List (Option X)) (wrote : new ≡ slots ++ replicate count None) where
      longer_is : new ≡ laid items (left + count)
      longer_is = wrote ∙ ap (λ s. s ++ replicate count None) (sym h.ordered) ∙ laid-longer items left count

      pub longer_long : length new ≡ length slots + count
      longer_long = ap length wrote ∙ length-append slots (replicate {A = Option X} count None) ∙ ap (λ k. length slots + k) (length-replicate {A = Option X} count None)

      pub longer_laid : length new < 2 ^ 32 → IsLaid new len
      longer_laid few = let same = h.count in lies new items (left + count) longer_is len (sym same) few

      pub longer_values : values new ≡ items
      longer_values = values_are new items (left + count) longer_is
