-- Each call keeps the invariant of an arena's slots.
use Rattle.std.proofs.Common.{◌≡◌, ℕ, ◌+◌, ◌-◌, ◌<◌, ◌==◌, ◌^◌, Bool, true, false, cond, List, [], ◌∷◌, ◌++◌, Option, Some, None, length, get_or, set, refl, sym, ap, ◌∙◌, subst, arith, inl, inr, lit≤, lit<, eq-eqb, ◌↔◌, IsSome}
use Rattle.std.specs.List.{All, IsDistinct, slice_get}
use Rattle.std.specs.Ordering.{nat_cmp}
use Rattle.std.specs.Cmp.{nat_eq_equiv}
use Rattle.std.specs.FinMap as map
use Rattle.std.proofs.lemmas.Cmp.{nat_cmp_total}
use Rattle.std.proofs.lemmas.Bool.{cases_lt}
use Rattle.std.proofs.lemmas.Option.{none-some, slice_get_within, slice_get_past}
use Rattle.std.proofs.lemmas.List.{nil_from_length, append-nil}
use Rattle.std.proofs.lemmas.List.Elements.{All-push}
use Rattle.std.proofs.lemmas.List.Folds.{list_any_none, list_any_at}
use Rattle.std.proofs.lemmas.Map.Keys.{IsDistinct-push, IsDistinct-from_apart, apart_from_distinct}
use Rattle.std.proofs.Math.ListN.{get_or-append, length-set, length-append}
use Rattle.std.proofs.Math.Seq.{get_or-append_seam}
use Rattle.raw_arena.specs.Arena.{Nodes, nodes}
use Rattle.raw_arena.specs.Fields.{AreFree, IsArena, is_free, live_of}
use Rattle.raw_arena.proofs.Names.{live_is, live_none, live_taken, live_set, live_refilled, live_pushed}

not_empty : {X : Type 0} (m : map.FinMap nat_cmp X) (n : ℕ) (x : X) → map.get m n ≡ Some x → 0 < map.len m
not_empty m n x e = elim (cases_lt 0 (map.len m)) [
  | inl lt ↦ lt
  | inr le ↦ absurd (none-some x (sym (map.get-empty nat_cmp n) ∙ ap (λ k. map.get k n) (sym (map.empty_of_len m (omega arith))) ∙ e))
]

module _ {X : Type 0} where
  some_of : (b : Bool) (o : Option X) (x : X) → cond b None o ≡ Some x → (b ≡ false) × (o ≡ Some x)
  some_of true o x e = cc
  some_of false o x e = (refl, e)

  pub starts_empty : ◌≡◌ {A = Nodes X} (nodes (live_of [] []) 0) (nodes map.empty 0)
  starts_empty = ap (λ m. nodes m 0) live_none

  pub starts : (slots_room free_room : ℕ) → IsArena {X = X} [] [] 0 slots_room free_room
  starts slots_room free_room = record {
    given_back = record { within = λ k d lt. absurd (omega arith); distinct = IsDistinct-from_apart ◌==◌ [] (λ i j d lt more. absurd (omega arith)); others = ap (λ m. map.len m + 0) live_none ∙ ap (λ k. k + 0) (map.len-empty nat_cmp X) };
    few = (lit≤ tt, lit< tt);
    room = (omega arith, omega arith);
  }

  module _ (slots : List X) where
    -- a name with a live value is that of a slot that is not free
    used : (free : List ℕ) (n : ℕ) (x : X) → map.get (live_of slots free) n ≡ Some x → (is_free free n ≡ false) × (slice_get slots n ≡ Some x) × (n < length slots)
    used free n x e = let both = some_of (is_free free n) (slice_get slots n) x (sym (live_is slots free n) ∙ e) in (both.0, both.1, slice_get_within slots n x both.1)

    -- facts about the slot n of a live name, and the value read there
    pub found : (free : List ℕ) (live : map.FinMap nat_cmp X) (id n : ℕ) (x : X) → live_of slots free ≡ live → n ≡ id → map.get live id ≡ Some x
        → (n < length slots) × (map.get (live_of slots free) n ≡ Some x) × ((y : X) → slice_get slots n ≡ Some y → map.get live id ≡ Some y)
    found free live id n x is same e =
        let here : map.get (live_of slots free) n ≡ Some x = ap (map.get (live_of slots free)) same ∙ ap (λ m. map.get m id) is ∙ e in
        let at = used free n x here in
        (at.2, here, λ y read. e ∙ sym at.1 ∙ read)

    -- the last of the free slots occurs once in the list
    module _ (left : List ℕ) (n : ℕ) (h : AreFree slots (left ++ n ∷ [])) where
      longer : length (left ++ n ∷ []) ≡ length left + 1
      longer = length-append left (n ∷ [])

      last_within : n < length slots
      last_within = let l = longer in subst (λ k. k < length slots) (get_or-append_seam left n [] 0) (h.within (length left) 0 (omega arith))

      left_within : All (λ m. m < length slots) left
      left_within k d lt = let l = longer in subst (λ m. m < length slots) (get_or-append left (n ∷ []) d k lt) (h.within k d (omega arith))

      left_distinct : IsDistinct ◌==◌ left
      left_distinct = IsDistinct-from_apart ◌==◌ left (λ i j d lt more.
          let l = longer in let both = apart_from_distinct ◌==◌ (left ++ n ∷ []) i j d h.distinct lt (omega arith) in
          let at_i : get_or left i d ≡ get_or (left ++ n ∷ []) i d = sym (get_or-append left (n ∷ []) d i (omega arith)) in
          let at_j : get_or left j d ≡ get_or (left ++ n ∷ []) j d = sym (get_or-append left (n ∷ []) d j more) in
          (λ t. at_i t == at_j t) ∙ both)

      not_left : is_free left n ≡ false
      not_left = list_any_none (λ m. n == m) left (λ k d lt.
          let l = longer in let both = apart_from_distinct ◌==◌ (left ++ n ∷ []) k (length left) d h.distinct lt (omega arith) in
          let old : get_or left k d ≡ get_or (left ++ n ∷ []) k d = sym (get_or-append left (n ∷ []) d k lt) in
          let last : n ≡ get_or (left ++ n ∷ []) (length left) d = sym (get_or-append_seam left n [] d) in
          nat_eq_equiv.symm n (get_or left k d) ∙ (λ t. old t == last t) ∙ both)

      was_free : is_free (left ++ n ∷ []) n ≡ true
      was_free = let l = longer in list_any_at (λ m. n == m) (left ++ n ∷ []) (length left) 0 (omega arith) (ap (λ k. n == k) (get_or-append_seam left n [] 0) ∙ eq-eqb n n refl)

      -- the name of the value is new
      pub no_name : map.get (live_of slots (left ++ n ∷ [])) n ≡ None
      no_name = live_is slots (left ++ n ∷ []) n ∙ ap (λ b. cond b None (slice_get slots n)) was_free

      pub refilled_live : (x : X) → live_of (set slots n x) left ≡ map.insert (live_of slots (left ++ n ∷ [])) n x
      refilled_live x = live_refilled slots left n x not_left last_within

      refilled_free : (x : X) → AreFree (set slots n x) left
      refilled_free x = let long = length-set slots n x in record {
        within = λ k d lt. let w = left_within k d lt in omega (arith, w, long);
        distinct = left_distinct;
        others = let all = h.others in let l = longer in let more : map.len (map.insert (live_of slots (left ++ n ∷ [])) n x) ≡ map.len (live_of slots (left ++ n ∷ [])) + 1 = map.len-insert nat_cmp_total (live_of slots (left ++ n ∷ [])) n x ∙ rw no_name refl in
            ap (λ m. map.len m + length left) (refilled_live x) ∙ omega (arith, all, l, more, long);
      }

    module _ (free : List ℕ) (h : AreFree slots free) (n : ℕ) (x : X) (live : map.get (live_of slots free) n ≡ Some x) where
      -- some slot is not free
      fewer : length free < length slots
      fewer = let some = not_empty (live_of slots free) n x live in let all = h.others in omega (arith, some, all)

      taken_free : AreFree slots (free ++ n ∷ [])
      taken_free = let use_ = used free n x live in record {
        within = All-push (λ m. m < length slots) free n h.within use_.2;
        distinct = IsDistinct-push nat_eq_equiv free n h.distinct use_.0;
        others = let all = h.others in let some = not_empty (live_of slots free) n x live in let l = length-append free (n ∷ []) in
            let less : map.len (map.remove (live_of slots free) n) ≡ map.len (live_of slots free) - 1 = map.len-remove nat_cmp_total (live_of slots free) n ∙ rw live refl in
            ap (λ m. map.len m + length (free ++ n ∷ [])) (live_taken slots free n) ∙ omega (arith, all, some, l, less);
      }

      pub rewritten_live : (w : X) → live_of (set slots n w) free ≡ map.insert (live_of slots free) n w
      rewritten_live w = let use_ = used free n x live in live_set slots free n w use_.0 use_.2

      -- the effect of a write through a `&mut` to the value
      pub lent : (w : X) (limit : ℕ) → let other = set slots n w in
          ◌≡◌ {A = Nodes X} (nodes (live_of other free) (length free + (limit - length other))) (nodes (map.insert (live_of slots free) n w) (length free + (limit - length slots)))
      lent w limit = let long = length-set slots n w in λ i. nodes (rewritten_live w i) (length free + (limit - long i))

      rewritten_free : (w : X) → AreFree (set slots n w) free
      rewritten_free w = let long = length-set slots n w in record {
        within = λ k d lt. let old = h.within k d lt in omega (arith, old, long);
        distinct = h.distinct;
        others = let all = h.others in let same : map.len (map.insert (live_of slots free) n w) ≡ map.len (live_of slots free) = map.len-insert nat_cmp_total (live_of slots free) n w ∙ rw live refl in
            ap (λ m. map.len m + length free) (rewritten_live w) ∙ omega (arith, all, same, long);
      }

    pub no_name_yet : map.get (live_of slots []) (length slots) ≡ None
    no_name_yet = live_is slots [] (length slots) ∙ slice_get_past slots (length slots) (omega arith)

    pushed_free : (x : X) → AreFree slots [] → AreFree (slots ++ x ∷ []) []
    pushed_free x h = record {
      within = λ k d lt. absurd (omega arith);
      distinct = h.distinct;
      others = let all = h.others in let l = length-append slots (x ∷ []) in let more : map.len (map.insert (live_of slots []) (length slots) x) ≡ map.len (live_of slots []) + 1 = map.len-insert nat_cmp_total (live_of slots []) (length slots) x ∙ rw no_name_yet refl in
          ap (λ m. map.len m + 0) (live_pushed slots x) ∙ omega (arith, all, l, more);
    }

  module _ (slots : List X) (free : List ℕ) (limit slots_room free_room : ℕ) (h : IsArena slots free limit slots_room free_room) where
    pub few_names : map.len (live_of slots free) + (length free + (limit - length slots)) < 2 ^ 63
    few_names = let all = h.given_back.others in let few = h.few in omega (arith, all, few)

    pub has_room : (n : ℕ) (x : X) → map.get (live_of slots free) n ≡ Some x → length free < free_room
    has_room n x live = let lt = fewer slots free h.given_back n x live in let few = h.few in let room = h.room in omega (arith, lt, few, room)

    pub taken : (n : ℕ) (x : X) → map.get (live_of slots free) n ≡ Some x → IsArena slots (free ++ n ∷ []) limit slots_room free_room
    taken n x live = record { given_back = taken_free slots free h.given_back n x live; few = h.few; room = h.room }

    pub rewritten : (n : ℕ) (x w : X) → map.get (live_of slots free) n ≡ Some x → IsArena (set slots n w) free limit slots_room free_room
    rewritten n x w live = record {
      given_back = rewritten_free slots free h.given_back n x live w;
      few = let few = h.few in let long = length-set slots n w in (omega (arith, few, long), few.1);
      room = h.room;
    }

    -- a free slot is filled
    module _ (left : List ℕ) (n : ℕ) (was : free ≡ left ++ n ∷ []) where
      last : AreFree slots (left ++ n ∷ [])
      last = subst (AreFree slots) was h.given_back

      pub refilled : (x : X) → IsArena (set slots n x) left limit slots_room free_room
      refilled x = record {
        given_back = refilled_free slots left n last x;
        few = let few = h.few in let long = length-set slots n x in (omega (arith, few, long), few.1);
        room = h.room;
      }

      pub refilled_name : map.get (live_of slots free) n ≡ None
      refilled_name = ap (λ l. map.get (live_of slots l) n) was ∙ no_name slots left n last

      pub refilled_is : (x : X) → live_of (set slots n x) left ≡ map.insert (live_of slots free) n x
      refilled_is x = refilled_live slots left n last x ∙ sym (ap (λ l. map.insert (live_of slots l) n x) was)

    -- if no slot is free, an unused slot is filled
    module _ (left : List ℕ) (variant : IsSome {T = ℕ} None ↔ (0 < length free)) (was : free ≡ left ++ []) where
      none_free : free ≡ []
      none_free = elim (cases_lt 0 (length free)) [
        | inl lt ↦ let some = variant.1 lt in cc
        | inr le ↦ nil_from_length free (omega (arith, le))
      ]

      none_left : left ≡ []
      none_left = sym (append-nil left) ∙ sym was ∙ none_free

      pub pushed : (x : X) → 0 < length free + (limit - length slots) → IsArena (slots ++ x ∷ []) left limit slots_room free_room
      pushed x lt = let few = h.few in let l = length-append slots (x ∷ []) in let none : length free ≡ 0 = ap length none_free in record {
        given_back = subst (AreFree (slots ++ x ∷ [])) (sym none_left) (pushed_free slots x (subst (AreFree slots) none_free h.given_back));
        few = (omega (arith, few, l, lt, none), few.1);
        room = h.room;
      }

      pub pushed_name : map.get (live_of slots free) (length slots) ≡ None
      pushed_name = ap (λ l. map.get (live_of slots l) (length slots)) none_free ∙ no_name_yet slots

      pub pushed_is : (x : X) → live_of (slots ++ x ∷ []) left ≡ map.insert (live_of slots free) (length slots) x
      pushed_is x = ap (live_of (slots ++ x ∷ [])) none_left ∙ live_pushed slots x ∙ sym (ap (λ l. map.insert (live_of slots l) (length slots) x) none_free)
