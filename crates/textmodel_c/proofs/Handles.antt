-- The box of what a handle holds, and what a handle is laid out as.
use Rattle.textmodel_c.proofs.Boxed.{◌≡◌, List, [], ◌∷◌, ◌++◌, refl, subst, Val, vnull, vstruct, vcons, vnil, of_list, Logic, Ura, Goal, Seq, Step, step, Item, ‵, ◌$◌, move, drop, fsplit, fjoin, fpick, fpack, feq_i, feq_l, RattleType, Valss, Ptr, RawPtr, null_ptr, nothing, within, shape, handle_tells, Fits, Bx}
use denote.Struct.Owning.{to}
use mir.Syntax.{impl, tnil, dnil}
use Rattle.std.specs.Prelude.{Option, None}
use Rattle.std.specs.Global.{Global}
use Rattle.std.specs.contracts.alloc.Global as heap
use Rattle.std.proofs.alloc.Global.TheLaws as heap_laws
use Rattle.std.specs.contracts.impls.GlobalAllocator.TheImpl.{ghosts}
use Rattle.textmodel_c.specs.contracts.contents.Contents as contents
use Rattle.textmodel_c.proofs.contents.Contents.TheLaws as contents_laws
use Rattle.textmodel_c.specs.contracts.handle.Handle as handle
use Rattle.textmodel_c.specs.contracts.handle.raw_box.RawBox as raw_box

abbrev pub E : Bx
E = record { row = contents.the_row; laws = contents_laws.the_row_laws; al = record { row = heap.the_row; laws = heap_laws.the_row_laws; g = ghosts; d = impl [] tnil dnil; drops = impl [] tnil dnil } }

abbrev pub Handle : RattleType
Handle = handle.the_row

abbrev pub RawContents : RattleType
RawContents = raw_box.the_row contents.the_row heap.the_row ghosts

abbrev pub Held : Type 0
Held = Option contents.the_row.Denot

abbrev pub handle_at : Ptr → Global → Held → Handle.Denot
handle_at at a held = record { at = at; alloc = a; held = held }

-- the machine value of an empty handle
abbrev pub null_word : Val → Val
null_word hv = vstruct (vcons vnull (vcons hv vnil))

module _ {M : Type 1} {𝓤 : Ura M} {𝓛 : Logic 𝓤} {K : Type 0} {Γ : List (Item 𝓤)} {G : Goal 𝓤 𝓛.H} where
  pub null_in : K → (a : Global) (hv : Val) → Step K 𝓛 (‵ (Handle.own_val (handle_at null_ptr a None) (null_word hv ∷ [])) ∷ Γ) G (‵ (heap.the_row.own_val a (hv ∷ [])) ∷ Γ) G
  null_in t a hv = step (λ s.
      nothing t $ nothing t $ move t (2 ∷ 0 ∷ []) $ fjoin t $ feq_i t (List Val) (vnull ∷ []) (vnull ∷ []) refl $ fjoin t $
      feq_i t (List Val) (null_word hv ∷ []) (null_word hv ∷ []) refl $ fjoin t $
      fpack t (Valss (RawPtr ∷ heap.the_row ∷ [])) (within (shape handle.the_type) (to handle.the_type (handle_at null_ptr a None)) (null_word hv ∷ [])) (vnull ∷ [], (hv ∷ [], tt)) $ fjoin t $ s)

  pub null_out : K → (a : Global) (vs : List Val)
      → ((hv : Val) → vs ≡ null_word hv ∷ [] → Fits E.al hv → Seq K 𝓛 (‵ (heap.the_row.own_val a (hv ∷ [])) ∷ Γ) G)
      → Seq K 𝓛 (‵ (Handle.own_val (handle_at null_ptr a None) vs) ∷ Γ) G
  null_out t a vs k =
      fsplit t $ fpick t (λ parts. fsplit t $ feq_l t (λ laid. fsplit t $ feq_l t (λ laid_ptr. fsplit t $
      handle_tells E.al t a parts.1.0 (λ hv laid_alloc fits. move t (1 ∷ 2 ∷ []) $ drop t $ drop t $
      k hv (subst (λ (ws : List Val). vs ≡ vstruct (of_list (vnull ∷ (ws ++ []))) ∷ []) laid_alloc
      (subst (λ (ps : List Val). vs ≡ vstruct (of_list (ps ++ (parts.1.0 ++ []))) ∷ []) laid_ptr laid)) fits))))
