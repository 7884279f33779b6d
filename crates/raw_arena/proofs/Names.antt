-- The live values of slots, name by name.
use Rattle.std.proofs.Common.{◌≡◌, ◌≢◌, ℕ, zero, suc, ◌+◌, ◌<◌, ◌==◌, Bool, true, false, ◌||◌, cond, not, List, [], ◌∷◌, ◌++◌, Option, Some, None, length, set, refl, sym, ap, ◌∙◌, arith, eq-eqb, zero-add, inl, inr, subst}
use Rattle.std.specs.List.{enumerate_from, slice_get}
use Rattle.std.specs.Ordering.{nat_cmp, eq_by_cmp}
use Rattle.std.specs.Cmp.{unsigned_tied}
use Rattle.std.specs.FinMap as map
use Rattle.std.proofs.lemmas.Cmp.{nat_cmp_total}
use Rattle.std.proofs.lemmas.Bool.{ne_eqb}
use Rattle.std.proofs.lemmas.Bool.Decides.{eqb_tells}
use Rattle.std.proofs.lemmas.List.Folds.{list_any-append}
use Rattle.raw_arena.specs.Fields.{is_free, live_of}

pub tied : (m n : ℕ) → m ≡ n → eq_by_cmp nat_cmp m n ≡ true
tied m n e = unsigned_tied m n ∙ eq-eqb m n e

pub apart : (m n : ℕ) → m ≢ n → eq_by_cmp nat_cmp m n ≡ false
apart m n ne = unsigned_tied m n ∙ ne_eqb m n ne

module _ {X : Type 0} (m : map.FinMap nat_cmp X) (k : ℕ) where
  pub get-insert_same : (v : X) → map.get (map.insert m k v) k ≡ Some v
  get-insert_same v = map.get-insert nat_cmp_total m k v k ∙ rw (tied k k refl) refl

  pub get-insert_other : (v : X) (q : ℕ) → q ≢ k → map.get (map.insert m k v) q ≡ map.get m q
  get-insert_other v q ne = map.get-insert nat_cmp_total m k v q ∙ rw (apart q k ne) refl

  pub get-remove_same : map.get (map.remove m k) k ≡ None
  get-remove_same = map.get-remove nat_cmp_total m k k ∙ rw (tied k k refl) refl

  pub get-remove_other : (q : ℕ) → q ≢ k → map.get (map.remove m k) q ≡ map.get m q
  get-remove_other q ne = map.get-remove nat_cmp_total m k q ∙ rw (apart q k ne) refl

module _ {X : Type 0} where
  find-enumerated : (n d : ℕ) (xs : List X) → map.find nat_cmp (n + d) (enumerate_from n xs) ≡ slice_get xs d
  find-enumerated n d [] = refl
  find-enumerated n zero (x ∷ xs) = rw (tied (n + 0) n (omega arith)) refl
  find-enumerated n (suc d) (x ∷ xs) =
      let e : n + suc d ≡ n + 1 + d = omega arith in
      rw (apart (n + suc d) n (omega arith)) (ap (λ k. map.find nat_cmp k (enumerate_from (n + 1) xs)) e ∙ find-enumerated (n + 1) d xs)

  found : (slots : List X) (q : ℕ) → map.get (map.from_entries {R = nat_cmp} (enumerate_from 0 slots)) q ≡ slice_get slots q
  found slots q = map.get-from_entries nat_cmp_total (enumerate_from 0 slots) q ∙ ap (λ k. map.find nat_cmp k (enumerate_from 0 slots)) (sym (zero-add q)) ∙ find-enumerated 0 q slots

  kept_if : (b : Bool) (o : Option X) → cond (not b) o None ≡ cond b None o
  kept_if true o = refl
  kept_if false o = refl

  -- a name has the value of its slot, unless that slot is free
  pub live_is : (slots : List X) (free : List ℕ) (q : ℕ) → map.get (live_of slots free) q ≡ cond (is_free free q) None (slice_get slots q)
  unfolding live_of
  live_is slots free q =
      map.get-retain_keys (map.from_entries (enumerate_from 0 slots)) (λ n. not (is_free free n)) q (λ x e. ap (λ n. not (is_free free n)) (sym (map.nat_cmp-IsAntisymmetric q x e)))
      ∙ kept_if (is_free free q) _ ∙ ap (cond (is_free free q) None) (found slots q)

  same_live : (slots : List X) (free : List ℕ) (m : map.FinMap nat_cmp X) → ((q : ℕ) → cond (is_free free q) None (slice_get slots q) ≡ map.get m q) → live_of slots free ≡ m
  same_live slots free m is = map.same_map nat_cmp_total map.nat_cmp-IsAntisymmetric (live_of slots free) m (λ q. live_is slots free q ∙ is q)

  pushed_last : (slots : List X) (x : X) → slice_get (slots ++ x ∷ []) (length slots) ≡ Some x
  pushed_last [] x = refl
  pushed_last (y ∷ slots) x = pushed_last slots x

  pushed_other : (slots : List X) (x : X) (q : ℕ) → q ≢ length slots → slice_get (slots ++ x ∷ []) q ≡ slice_get slots q
  pushed_other [] x zero ne = absurd (ne refl)
  pushed_other [] x (suc q) ne = refl
  pushed_other (y ∷ slots) x zero ne = refl
  pushed_other (y ∷ slots) x (suc q) ne = pushed_other slots x q (λ e. ne (ap suc e))

  set_same : (slots : List X) (n : ℕ) (x : X) → n < length slots → slice_get (set slots n x) n ≡ Some x
  set_same [] n x fits = absurd (omega arith)
  set_same (y ∷ slots) zero x fits = refl
  set_same (y ∷ slots) (suc n) x fits = set_same slots n x (omega arith)

  set_other : (slots : List X) (n : ℕ) (x : X) (q : ℕ) → q ≢ n → slice_get (set slots n x) q ≡ slice_get slots q
  set_other [] n x q ne = refl
  set_other (y ∷ slots) zero x zero ne = absurd (ne refl)
  set_other (y ∷ slots) zero x (suc q) ne = refl
  set_other (y ∷ slots) (suc n) x zero ne = refl
  set_other (y ∷ slots) (suc n) x (suc q) ne = set_other slots n x q (λ e. ne (ap suc e))

  pub live_none : live_of {X = X} [] [] ≡ map.empty
  live_none = same_live [] [] map.empty (λ q. sym (map.get-empty nat_cmp q))

  put_back : (m : map.FinMap nat_cmp X) (n : ℕ) (x : X) (q : ℕ) → map.get (map.insert (map.remove m n) n x) q ≡ map.get (map.insert m n x) q
  put_back m n x q = elim (eqb_tells q n) [
    | inl (_, e) ↦ ap (map.get (map.insert (map.remove m n) n x)) e ∙ get-insert_same (map.remove m n) n x ∙ sym (ap (map.get (map.insert m n x)) e ∙ get-insert_same m n x)
    | inr (_, ne) ↦ get-insert_other (map.remove m n) n x q ne ∙ get-remove_other m n q ne ∙ sym (get-insert_other m n x q ne)
  ]

  module _ (slots : List X) where
    none_if_either : (a b : Bool) (o : Option X) → cond (a || (b || false)) None o ≡ cond b None (cond a None o)
    none_if_either true true o = refl
    none_if_either true false o = refl
    none_if_either false true o = refl
    none_if_either false false o = refl

    -- a slot that was freed is no longer live
    pub live_taken : (free : List ℕ) (n : ℕ) → live_of slots (free ++ n ∷ []) ≡ map.remove (live_of slots free) n
    live_taken free n = same_live slots (free ++ n ∷ []) (map.remove (live_of slots free) n) (λ q.
        let gone : map.get (map.remove (live_of slots free) n) q ≡ cond (q == n) None (cond (is_free free q) None (slice_get slots q)) =
        map.get-remove nat_cmp_total (live_of slots free) n q ∙ (λ i. cond (unsigned_tied q n i) None (live_is slots free q i)) in
        ap (λ b. cond b None (slice_get slots q)) (list_any-append (λ m. q == m) free (n ∷ [])) ∙ none_if_either (is_free free q) (q == n) (slice_get slots q) ∙ sym gone)

    -- a slot that was not free is written
    module _ (free : List ℕ) (n : ℕ) (x : X) (used : is_free free n ≡ false) where
      now : map.get (map.insert (live_of slots free) n x) n ≡ Some x
      now = get-insert_same (live_of slots free) n x

      others : (q : ℕ) → q ≢ n → cond (is_free free q) None (slice_get slots q) ≡ map.get (map.insert (live_of slots free) n x) q
      others q ne = sym (get-insert_other (live_of slots free) n x q ne ∙ live_is slots free q)

      -- the other slots differ only at n, where they have x
      live_at : (other : List X) → slice_get other n ≡ Some x → ((q : ℕ) → q ≢ n → slice_get other q ≡ slice_get slots q) → live_of other free ≡ map.insert (live_of slots free) n x
      live_at other here same = same_live other free (map.insert (live_of slots free) n x) (λ q.
          elim (eqb_tells q n) [
            | inl (_, e) ↦ subst (λ k. cond (is_free free k) None (slice_get other k) ≡ map.get (map.insert (live_of slots free) n x) k) (sym e)
                (ap (λ b. cond b None (slice_get other n)) used ∙ here ∙ sym now)
            | inr (_, ne) ↦ ap (cond (is_free free q) None) (same q ne) ∙ others q ne
          ])

      pub live_set : n < length slots → live_of (set slots n x) free ≡ map.insert (live_of slots free) n x
      live_set fits = live_at (set slots n x) (set_same slots n x fits) (λ q ne. set_other slots n x q ne)

    -- the slot freed last is filled
    pub live_refilled : (left : List ℕ) (n : ℕ) (x : X) → is_free left n ≡ false → n < length slots → live_of (set slots n x) left ≡ map.insert (live_of slots (left ++ n ∷ [])) n x
    live_refilled left n x unused fits =
        live_set left n x unused fits
        ∙ sym (ap (λ m. map.insert m n x) (live_taken left n) ∙ map.same_map nat_cmp_total map.nat_cmp-IsAntisymmetric _ _ (put_back (live_of slots left) n x))

    pub live_pushed : (x : X) → live_of (slots ++ x ∷ []) [] ≡ map.insert (live_of slots []) (length slots) x
    live_pushed x = live_at [] (length slots) x refl (slots ++ x ∷ []) (pushed_last slots x) (λ q ne. pushed_other slots x q ne)
