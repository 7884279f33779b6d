-- A block is taken apart into its slots and all else, and put together again. Assumes `Logic`.
--     Given                       what a call gives for the two type parameters
--     held                        the machine value of a block whose slots begin at p
--     opened, whole               a block by value is [its slots; all else], and back
--     opens_at, closes_at         a block behind a `&mut`, opened at one of its slots, and closed again with that slot anew
--     Elsewhere, comes_home       a block in memory without one lent value, and the whole block again, with any value there
--     shown, twice                what a `&` to a block shows;  and that of a pointer in memory, which is shown twice
--     begun, spends, lent_still   the begin of a walk with two type parameters, and its end
use Rattle.paged_list.proofs.Steps.{◌≡◌, ℕ, zero, suc, ◌+◌, ◌*◌, ◌<◌, ◌^◌, List, [], ◌∷◌, length, get_or, set, Option, Some, None, MutBor, refl, sym, ap, subst, ◌∙◌, length-set, type_size, Ghosts, Ura, Fml, Lft, Share, GName, ftrue, fhide, flft, fobor, fbor, fobs, fauth, fsep, full_share, SProp, ent, sep, emp, id⊢, never, Gv, fact, Is, shows, cell_at, hidden_shr, lone, mem, part_at, part_of, shr_dup, bounded, param, Laws, param_laws, RattleType, Ptr, RawPtr, block_ptr, in_a_block, ptr_row_laws, ptr_val, MutRef, makes_shadow, closes, heard, nothing, opens, peeks, lent_out, Owning, shape, to, Struct, bare, Args, Body, Dict, a_type, dcons, dnil, named, ty_array, Val, vcons, vnil, vptr, vstruct, Calls, Env, Heap, Loops, Out, Wp, after_seq, Goal, Item, Post, Seq, Soaks, Step, any_q, done, drop, feq_i, fjoin, fjoin3, flt_i, flt_l, fpack, fsplit, fsplit3, move, post, qed, raw, rewrite, split, split3, step, use1, use2, ‵, ◌⊛◌, ◌$◌, ◌∵◌, !, Logic, sem, Borrowed}
use Rattle.std.specs.contracts.marker.PhantomData as phantom
use Rattle.paged_list.specs.SlotLends.{with_value}
use Rattle.paged_list.specs.Slots.{in_a_row, slot_owned, block_owned, block_seen}
use Rattle.paged_list.specs.contracts.block.Block as block
use Rattle.paged_list.proofs.Rows.{but_one, put_in, take_out}
use Rattle.paged_list.proofs.block.Block.TheLaws.{lowers}

pub record Given : Type 2 where
  pub item : RattleType
  pub heap : RattleType
  pub item_laws : Laws item
  pub heap_laws : Laws heap
  pub ghosts : Ghosts heap.Denot
  pub dict : Dict
  pub drops : Dict

abbrev pub held : Ptr → Val
held p = vstruct (vcons (ptr_val p) (vcons (vstruct vnil) vnil))

module _ (P : Given) where
  abbrev pub args : Args
  args = bounded (a_type ∷ a_type ∷ []) (P.item, (P.heap, tt)) (dcons P.dict (dcons P.drops dnil))

  abbrev pub Thing : RattleType
  Thing = param 0 P.item

  abbrev pub Lender : RattleType
  Lender = param 1 P.heap

  abbrev pub Blk : RattleType
  Blk = block.the_row Thing Lender P.ghosts

  -- the bytes of a slot
  abbrev pub width : ℕ
  width = type_size Thing

  abbrev pub Parts : Owning
  Parts = block.the_type Thing Lender P.ghosts

  -- the right to free a block of m slots at p
  abbrev pub Right : P.heap.Denot → ℕ → Ptr → Fml
  Right a m p = P.ghosts.dealloc_token a (bare (ty_array (lone Thing.mir) m)) p

  module _ (h : Blk.Denot) where
    -- all parts except the slots, for a block of m slots
    abbrev pub Beside : ℕ → Fml
    Beside m = fsep ((Struct (shape Parts)).own_val (to Parts h) (held h.start ∷ [])) (Right h.from m h.start)

    abbrev pub Slots : ℕ → ℕ → Fml
    Slots b n = in_a_row width (slot_owned Thing b) h.holds n

    module _ {M : Type 1} {𝓤 : Ura M} (𝓛 : Logic 𝓤) where
      -- the fields own nothing
      pub fields : ent 𝓤 (emp 𝓤) (sem 𝓛 ((Struct (shape Parts)).own_val (to Parts h) (held h.start ∷ [])))
      fields =
          makes_shadow 𝓛 ((Struct (shape Parts)).own_val (to Parts h) (held h.start ∷ [])) (λ _. (tt, (tt, ((λ _. (tt, tt)), tt))))
          ((ptr_val h.start ∷ [], (vstruct vnil ∷ [], tt)), (refl, (refl, ((tt, (refl, tt)), tt))))

      pub whole : (b n m : ℕ) → h.start ≡ block_ptr b n → m ≡ length h.holds → m * width < 2 ^ 63
          → ent 𝓤 (sep 𝓤 (sem 𝓛 (Slots b n)) (sem 𝓛 (Beside m))) (sem 𝓛 (Blk.own_val h (held h.start ∷ [])))
      whole b n m begins many few =
          let k : ℕ = length h.holds in
          qed 𝓛 (‵ (Slots b n) ∷ ‵ (Beside m) ∷ []) ∵ rewrite ! 1 (λ (c : ℕ). ‵ (Beside c)) many refl $
          move ! (1 ∷ []) $ fsplit ! $ move ! (1 ∷ []) $ rewrite ! 0 (λ (p : Ptr). ‵ (Right h.from k p)) begins refl $
          flt_i ! (k * width) (2 ^ 63) (subst (λ (c : ℕ). c * width < 2 ^ 63) many few) $ fjoin ! $ move ! (2 ∷ 0 ∷ []) $ fjoin ! $
          rewrite ! 0 (λ (p : Ptr). ‵ (block_owned Thing (P.ghosts.dealloc_token h.from) p h.holds)) (sym begins) refl $ move ! (1 ∷ 0 ∷ []) $ fjoin ! $ done !

    module _ {M : Type 1} {𝓤 : Ura M} {𝓛 : Logic 𝓤} {T : Type 0} {Δ : List (Item 𝓤)} {Aim : Goal 𝓤 𝓛.H} where
      pub opened : T → (vs : List Val)
          → ((b n : ℕ) → vs ≡ held h.start ∷ [] → h.start ≡ block_ptr b n → length h.holds * width < 2 ^ 63 → Seq T 𝓛 (‵ (Slots b n) ∷ ‵ (Beside (length h.holds)) ∷ Δ) Aim)
          → Seq T 𝓛 (‵ (Blk.own_val h vs) ∷ Δ) Aim
      opened t vs next =
          let k : ℕ = length h.holds in
          peeks t Blk (Is Blk) (shows 𝓛 Blk) h vs (λ is.
          let value : vs ≡ held h.start ∷ [] = (lowers Thing Lender P.ghosts (param_laws 0 P.item P.item_laws) (param_laws 1 P.heap P.heap_laws)).val_is h vs is in
          rewrite t 0 (λ (us : List Val). ‵ (Blk.own_val h us)) value refl $ fsplit t $ move t (1 ∷ []) $
          in_a_block t h.start (λ p. block_owned Thing (P.ghosts.dealloc_token h.from) p h.holds) (id⊢ 𝓤 (never 𝓤)) (λ b n begins. fsplit3 t $ move t (1 ∷ []) $ flt_l t (λ few.
          move t (1 ∷ []) $ rewrite t 0 (λ (p : Ptr). ‵ (Right h.from k p)) (sym begins) refl $ move t (2 ∷ 0 ∷ []) $ fjoin t $ move t (1 ∷ []) $ next b n value begins few)))

module _ (P : Given) (h : (Blk P).Denot) (i : ℕ) where
  abbrev pub Chosen : ℕ → ℕ → Option P.item.Denot → Fml
  Chosen b n c = slot_owned (Thing P) b c (i * width P + n)

  -- the other slots, and all parts except the block's cell
  abbrev pub Others : ℕ → ℕ → Fml
  Others b n = fsep (but_one (width P) (slot_owned (Thing P) b) i h.holds n) (Beside P h (length h.holds))

  abbrev pub with_slot : Option P.item.Denot → (Blk P).Denot
  with_slot c = record h { holds = set h.holds i c }

  -- the cell of the block, which lies ro bytes into the block rb
  abbrev pub Cell : ℕ → ℕ → Ptr → Fml
  Cell rb ro p = cell_at full_share (Blk P).mir (held p ∷ []) rb ro

  anew : {M : Type 1} {𝓤 : Ura M} (𝓛 : Logic 𝓤) (b n : ℕ) (c : Option P.item.Denot) → h.start ≡ block_ptr b n → i < length h.holds → length h.holds * width P < 2 ^ 63
      → ent 𝓤 (sep 𝓤 (sem 𝓛 (Chosen b n c)) (sem 𝓛 (Others b n))) (sem 𝓛 ((Blk P).own_val (with_slot c) (held h.start ∷ [])))
  anew 𝓛 b n c begins lt few =
      qed 𝓛 (‵ (Chosen b n c) ∷ ‵ (Others b n) ∷ []) ∵ move ! (1 ∷ []) $ fsplit ! $ move ! (2 ∷ 0 ∷ []) $
      use2 𝓛 (‵ (Slots P (with_slot c) b n)) (put_in (width P) (slot_owned (Thing P) b) 𝓛 i h.holds n lt c) $
      use2 𝓛 (‵ ((Blk P).own_val (with_slot c) (held h.start ∷ []))) (whole P (with_slot c) 𝓛 b n (length h.holds) begins (sym (length-set h.holds i c)) few) $ done !

  module _ {M : Type 1} {𝓤 : Ura M} {𝓛 : Logic 𝓤} {T : Type 0} {Δ : List (Item 𝓤)} {Aim : Goal 𝓤 𝓛.H} where
    pub opens_at : T → Soaks Aim → {κ : Lft} {q : Share} {γ : GName} (rb ro : ℕ) → i < length h.holds
        → ((b n : ℕ) → h.start ≡ block_ptr b n → length h.holds * width P < 2 ^ 63
        → Seq T 𝓛 (‵ (Chosen b n (get_or h.holds i None)) ∷ ‵ (Others b n) ∷ ‵ (Cell rb ro (block_ptr b n)) ∷ ‵ (fobor κ q (Borrowed (mem (Blk P)) rb ro γ))
        ∷ ‵ (fobs γ ((Blk P).coded.code h)) ∷ ‵ (fauth γ ((Blk P).coded.code h)) ∷ Δ) Aim)
        → Seq T 𝓛 (‵ (fobs γ ((Blk P).coded.code h)) ∷ ‵ (fbor κ (Borrowed (mem (Blk P)) rb ro γ)) ∷ ‵ (flft κ q) ∷ Δ) Aim
    opens_at t soaks rb ro lt next =
        opens t soaks (Blk P) {h = h} rb ro (λ us. move t (1 ∷ []) $ opened P h t us (λ b n value begins few.
        rewrite t 2 (λ (ws : List Val). ‵ (cell_at full_share (Blk P).mir ws rb ro)) (value ∙ ap (λ (p : Ptr). held p ∷ []) begins) refl $
        use1 𝓛 (‵ (Chosen b n (get_or h.holds i None)) ⊛ ‵ (but_one (width P) (slot_owned (Thing P) b) i h.holds n)) (take_out (width P) (slot_owned (Thing P) b) 𝓛 i h.holds n lt) $
        split t $ move t (1 ∷ 2 ∷ []) $ fjoin t $ move t (1 ∷ []) $ next b n begins few))

    pub closes_at : T → Soaks Aim → {κ : Lft} {q : Share} {u v : Gv} {γ : GName} (rb ro b n : ℕ) (c : Option P.item.Denot)
        → h.start ≡ block_ptr b n → i < length h.holds → length h.holds * width P < 2 ^ 63
        → Step T 𝓛 (‵ (fobs γ ((Blk P).coded.code (with_slot c))) ∷ ‵ (fbor κ (Borrowed (mem (Blk P)) rb ro γ)) ∷ ‵ (flft κ q) ∷ Δ) Aim
        (‵ (Chosen b n c) ∷ ‵ (Others b n) ∷ ‵ (Cell rb ro (block_ptr b n)) ∷ ‵ (fobor κ q (Borrowed (mem (Blk P)) rb ro γ)) ∷ ‵ (fobs γ u) ∷ ‵ (fauth γ v) ∷ Δ) Aim
    closes_at t soaks rb ro b n c begins lt few = step (λ next.
        use2 𝓛 (‵ ((Blk P).own_val (with_slot c) (held h.start ∷ []))) (anew 𝓛 b n c begins lt few) $ move t (1 ∷ 0 ∷ []) $
        rewrite t 0 (λ (p : Ptr). ‵ (Cell rb ro p)) (sym begins) refl $ closes t soaks (Blk P) (with_slot c) (held h.start ∷ []) rb ro $ next)

  module _ (rb ro b n : ℕ) where
    abbrev pub Elsewhere : Fml
    Elsewhere = fsep (Cell rb ro (block_ptr b n)) (Others b n)

    pub comes_home : {M : Type 1} {𝓤 : Ura M} (𝓛 : Logic 𝓤) → h.start ≡ block_ptr b n → i < length h.holds → length h.holds * width P < 2 ^ 63
        → (x : P.item.Denot) → ent 𝓤 (sep 𝓤 (sem 𝓛 ((mem (Thing P)).own_at x b (i * width P + n))) (sem 𝓛 Elsewhere)) (sem 𝓛 ((mem (Blk P)).own_at (with_value h i x) rb ro))
    unfolding part_of
    comes_home 𝓛 begins lt few x =
        let Again : List Val → Fml = λ us. fsep (cell_at full_share (Blk P).mir us rb ro) ((Blk P).own_val (with_value h i x) us) in
        qed 𝓛 (‵ (part_at (Thing P) full_share x b (i * width P + n)) ∷ ‵ Elsewhere ∷ []) ∵ move ! (1 ∷ []) $ fsplit ! $ move ! (2 ∷ 1 ∷ []) $
        use2 𝓛 (‵ ((Blk P).own_val (with_value h i x) (held h.start ∷ []))) (anew 𝓛 b n (Some x) begins lt few) $
        move ! (1 ∷ []) $ rewrite ! 0 (λ (p : Ptr). ‵ (Cell rb ro p)) (sym begins) refl $ fjoin ! $ fpack ! (List Val) Again (held h.start ∷ []) $ done !

module _ (P : Given) (h : (Blk P).Denot) where
  -- what a `&` to a block shows of its fields
  abbrev pub Words : Lft → ℕ → ℕ → Fml
  Words κ rb ro = hidden_shr (Struct (shape (Parts P))) κ (to (Parts P) h) rb ro

  pub shown : {M : Type 1} {𝓤 : Ura M} (𝓛 : Logic 𝓤) (κ : Lft) (rb ro : ℕ)
      → ent 𝓤 (sem 𝓛 (hidden_shr (Blk P) κ h rb ro)) (sep 𝓤 (sem 𝓛 (Words κ rb ro)) (sem 𝓛 (fhide (block_seen (Thing P) h.start h.holds κ))))
  shown 𝓛 κ rb ro =
      lent_out 𝓛 (block.struct (Thing P) (Lender P) P.ghosts) (block.the_codes (Thing P).Denot (Lender P).Denot (Thing P).coded (Lender P).coded (phantom.the_row (Lender P)).coded)
      (block.the_heap (Thing P) (Lender P) P.ghosts) (block.the_lent (Thing P) (Lender P) P.ghosts) κ h rb ro

pub twice : {M : Type 1} {𝓤 : Ura M} (𝓛 : Logic 𝓤) (p : Ptr) (κ : Lft) (b n : ℕ)
    → ent 𝓤 (sem 𝓛 (hidden_shr RawPtr κ p b n)) (sep 𝓤 (sem 𝓛 (hidden_shr RawPtr κ p b n)) (sem 𝓛 (hidden_shr RawPtr κ p b n)))
twice 𝓛 p κ b n = qed 𝓛 (‵ (hidden_shr RawPtr κ p b n) ∷ []) ∵ shr_dup ! RawPtr ptr_row_laws p b n κ $ done !

-- nothing, for k parameters
abbrev pub spent : ℕ → Fml
spent zero = ftrue
spent (suc k) = fsep ftrue (spent k)

module _ {M : Type 1} {𝓤 : Ura M} {𝓛 : Logic 𝓤} {T : Type 0} {Δ : List (Item 𝓤)} {Aim : Goal 𝓤 𝓛.H} where
  pub spends : T → (k : ℕ) → Step T 𝓛 (‵ (spent k) ∷ Δ) Aim Δ Aim
  spends t zero = nothing t
  spends t (suc k) = step (λ next. spends t k $ nothing t $ fjoin t $ next)

  -- the first token is split off, and the bounds of the lifetimes are taken from the clauses:
  -- [the `requires`; the parameters; the first token; the others]
  pub begun : T → (φ ψ : Type 0) {token tokens params asked : Item 𝓤} → (ψ → Seq T 𝓛 (asked ∷ params ∷ token ∷ tokens ∷ Δ) Aim)
      → Seq T 𝓛 (((token ⊛ tokens) ⊛ params) ∷ (raw (fact 𝓤 φ) ⊛ raw (fact 𝓤 ψ) ⊛ asked) ∷ Δ) Aim
  begun t φ ψ next = move t (1 ∷ []) $ split3 t $ drop t $ heard t ψ (λ y. move t (1 ∷ []) $ split t $ split t $ move t (3 ∷ 2 ∷ 0 ∷ 1 ∷ []) $ next y)

  -- a borrow that is still lent at the end, as a value of its type
  pub lent_still : T → (R : RattleType) (κ : Lft) (r : MutBor R.Denot) (vs : List Val) → vs ≡ vptr r.ref_ptr.0 r.ref_ptr.1 ∷ []
      → Step T 𝓛 (‵ ((MutRef (named 0) κ R).own_val r vs) ∷ Δ) Aim (‵ (fobs r.ghost_name (R.coded.code r.now)) ∷ ‵ (fbor κ (Borrowed (mem R) r.ref_ptr.0 r.ref_ptr.1 r.ghost_name)) ∷ Δ) Aim
  lent_still t R κ r vs is = step (λ next. feq_i t (List Val) vs (vptr r.ref_ptr.0 r.ref_ptr.1 ∷ []) is $ fjoin3 t $ next)

-- what remains to be shown when a part of a body ends and b comes next
abbrev pub Ending : {M : Type 1} (𝓤 : Ura M) → Heap 𝓤 → Type 2
Ending = Post

module _ {M : Type 1} {𝓤 : Ura M} (𝓛 : Logic 𝓤) where
  open 𝓛 use {H}

  abbrev pub goes_on : Calls 𝓤 H → Loops 𝓤 H → Env 𝓤 H → Body → Ending 𝓤 H → Ending 𝓤 H
  goes_on C Λ E b q = let Rest : Out → SProp 𝓤 = post 𝓤 H q in any_q (after_seq 𝓤 H (Wp 𝓤 H C Λ E b Rest) Rest)
