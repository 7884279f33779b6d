-- A block as its allocator sees it, and as a row of empty slots. Assumes `Logic`.
--     bytes, aligned     the block's size and alignment, as passed to the allocator
--     carved, smoothed   room for m items is a row of m empty slots;  and any row is room again, with any content
use Rattle.paged_list.proofs.Steps.{◌≡◌, ℕ, zero, suc, ◌+◌, ◌*◌, ◌<◌, ◌^◌, List, [], ◌∷◌, length, replicate, Option, Some, None, refl, ap, ◌∙◌, Ura, fat, froom, ftrue, full_share, ent, part_out, layout, bare, Ty, ty_array, Val, capped_is, size, align, capped, size-raw, align-raw, ‵, ◌⊛◌, some, ◌$◌, ◌∵◌, !, qed, by, done, fjoin, fsplit, keep, move, pick, split, use1, Logic, sem}
use Rattle.paged_list.specs.Slots.{in_a_row, slot_owned}
use Rattle.paged_list.proofs.Behind.{Given, Thing, width}

module _ (P : Given) where
  abbrev pub Cut : ℕ → Ty
  Cut m = bare (ty_array (layout P.item) m)

  pub bytes : (m : ℕ) → m * width P < 2 ^ 64 → capped (size (Cut m)) ≡ m * width P
  bytes m fits = ap capped (size-raw (ty_array (layout P.item) m)) ∙ capped_is (m * width P) fits

  pub aligned : (m : ℕ) → capped (align (Cut m)) ≡ capped (align (layout P.item))
  aligned m = ap capped (align-raw (ty_array (layout P.item) m))

  module _ {M : Type 1} {𝓤 : Ura M} (𝓛 : Logic 𝓤) (b : ℕ) where
    open 𝓛 use {H, laws}

    carved_at : (m n : ℕ) → ent 𝓤 (H.room (ty_array (layout P.item) m) b n) (sem 𝓛 (in_a_row (width P) (slot_owned (Thing P) b) (replicate m None) n))
    carved_at zero n = qed 𝓛 (‵ (froom (ty_array (layout P.item) 0) b n) ∷ []) {P = sem 𝓛 ftrue} (keep ! [] $ done !)
    carved_at (suc m) n =
        qed 𝓛 (‵ (froom (ty_array (layout P.item) (suc m)) b n) ∷ []) ∵
        use1 𝓛 (‵ (froom (layout P.item) b n) ⊛ ‵ (froom (ty_array (layout P.item) m) b (n + width P))) (laws.room_uncons (layout P.item) m b n) $ split ! $
        use1 𝓛 (‵ (slot_owned (Thing P) b None n)) (laws.room-raw (layout P.item) b n) $ move ! (1 ∷ []) $
        use1 𝓛 (‵ (in_a_row (width P) (slot_owned (Thing P) b) (replicate m None) (n + width P))) (carved_at m (n + width P)) $ move ! (1 ∷ 0 ∷ []) $ fjoin ! $ done !

    pub carved : (m n : ℕ) → ent 𝓤 (H.room (Cut m) b n) (sem 𝓛 (in_a_row (width P) (slot_owned (Thing P) b) (replicate m None) n))
    carved m n =
        qed 𝓛 (‵ (froom (Cut m) b n) ∷ []) ∵ use1 𝓛 (‵ (froom (ty_array (layout P.item) m) b n)) (laws.raw-room (ty_array (layout P.item) m) b n) $ by ! (carved_at m n)

    emptied : (c : Option P.item.Denot) (n : ℕ) → ent 𝓤 (sem 𝓛 (slot_owned (Thing P) b c n)) (H.room (layout P.item) b n)
    emptied None n = laws.raw-room (layout P.item) b n
    emptied (Some x) n =
        qed 𝓛 (‵ (slot_owned (Thing P) b (Some x) n) ∷ []) ∵
        use1 𝓛 (some (λ (v : Val). ‵ (fat full_share (layout P.item) b n v) ⊛ ‵ ((Thing P).own_val x (v ∷ [])))) (part_out 𝓛 (Thing P) refl full_share x b n) $ pick ! (λ v. split ! $
        keep ! (0 ∷ []) $ by ! (laws.at_room (layout P.item) b n v))

    smoothed_at : (cs : List (Option P.item.Denot)) (n : ℕ) → ent 𝓤 (sem 𝓛 (in_a_row (width P) (slot_owned (Thing P) b) cs n)) (H.room (ty_array (layout P.item) (length cs)) b n)
    smoothed_at [] n = laws.room_nil (layout P.item) b n
    smoothed_at (c ∷ cs) n =
        qed 𝓛 (‵ (in_a_row (width P) (slot_owned (Thing P) b) (c ∷ cs) n) ∷ []) ∵ fsplit ! $ use1 𝓛 (‵ (froom (layout P.item) b n)) (emptied c n) $ move ! (1 ∷ []) $
        use1 𝓛 (‵ (froom (ty_array (layout P.item) (length cs)) b (n + width P))) (smoothed_at cs (n + width P)) $ move ! (1 ∷ 0 ∷ []) $
        by ! (laws.room_cons (layout P.item) (length cs) b n)

    pub smoothed : (cs : List (Option P.item.Denot)) (n : ℕ) → ent 𝓤 (sem 𝓛 (in_a_row (width P) (slot_owned (Thing P) b) cs n)) (H.room (Cut (length cs)) b n)
    smoothed cs n =
        qed 𝓛 (‵ (in_a_row (width P) (slot_owned (Thing P) b) cs n) ∷ []) ∵ use1 𝓛 (‵ (froom (ty_array (layout P.item) (length cs)) b n)) (smoothed_at cs n) $
        by ! (laws.room-raw (ty_array (layout P.item) (length cs)) b n)
