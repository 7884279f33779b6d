-- The runs of a tree have distinct names.
use Rattle.std.proofs.Common.{◌≡◌, ◌≢◌, ℕ, List, [], ◌∷◌, ◌++◌, ap, sym, subst, ◌∙◌, append_assoc}
use Rattle.std.specs.List.{All}
use Rattle.std.proofs.lemmas.List.{append-nil}
use Rattle.std.proofs.lemmas.List.Elements.{All-nil, All-cons, All-head, All-tail, All-append}
use Rattle.raw_arena.specs.Arena.{Nodes}
use Rattle.rb_arena.specs.RbTree.{Listed, AtItem}
use Rattle.piece_tree.specs.declared.piece.Piece.{Piece}
use Rattle.piece_tree.specs.declared.run.Run.{Run}
use Rattle.piece_tree.specs.declared.weave.StoredRun.{StoredRun}
use Rattle.piece_tree.specs.Runs.{Runs}
use Rattle.piece_tree.specs.Stored.{AreStored, stored_in, runs_of, pieces_at, times_at}
use Rattle.piece_tree.proofs.Storing.{stands, around_one, none_first}

abbrev Items : Type 0
Items = List (ℕ × StoredRun)

module _ (id : ℕ) where
  abbrev IsOther : ℕ × StoredRun → Type 0
  IsOther e = e.0 ≢ id

  abbrev IsOtherRun : ℕ × List Piece → Type 0
  IsOtherRun r = r.0 ≢ id

  others_stored : (stored : Nodes Run) (es : Items) → All IsOther es → All IsOtherRun (stored_in stored es)
  others_stored stored [] all = All-nil IsOtherRun
  others_stored stored (e ∷ es) all =
      All-cons IsOtherRun (e.0, pieces_at stored e.1.at) (stored_in stored es) (All-head IsOther e es all) (others_stored stored es (All-tail IsOther e es all))

  module _ (items : Items) (got : StoredRun) (own : AtItem items id (λ us x vs. got ≡ x)) where
    -- runs stored at another arena node have another name
    others_named : (before es after : Items) → items ≡ before ++ (es ++ after) → times_at got.at es ≡ 0 → All IsOther es
    others_named before [] after e none = All-nil IsOther
    others_named before (f ∷ es) after e none =
        let (other, rest) = none_first got.at f es none in
        let head : IsOther f = λ same. other (ap (λ (r : StoredRun). r.at) (sym (own before f.1 (es ++ after) (e ∙ ap (λ k. before ++ (k, f.1) ∷ (es ++ after)) same)))) in
        All-cons IsOther f es head (others_named (before ++ f ∷ []) es after (e ∙ sym (append_assoc before (f ∷ []) (es ++ after))) rest)

  pub own_shown : (tree : Listed StoredRun) (stored : Nodes Run) (view : Runs) → AreStored tree stored → runs_of tree stored ≡ view → (got : StoredRun) → AtItem tree.items id (λ us x vs. got ≡ x)
      → AtItem view.runs id (λ us x vs. All (λ r. r.0 ≢ id) (us ++ vs))
  own_shown tree stored view is shown got own = λ us x vs e.
      let s = stands stored tree.items id us x vs (ap (λ (v : Runs). v.runs) shown ∙ e) in
      let a = around_one tree stored is s.before id s.here s.after s.place in
      let same : s.here.at ≡ got.at = ap (λ (r : StoredRun). r.at) (sym (own s.before s.here s.after s.place)) in
      let here : ℕ × StoredRun = (id, s.here) in
      let behind : tree.items ≡ (s.before ++ here ∷ []) ++ (s.after ++ []) =
      s.place ∙ sym (append_assoc s.before (here ∷ []) s.after) ∙ ap (λ l. (s.before ++ here ∷ []) ++ l) (sym (append-nil s.after)) in
      let left = others_named tree.items got own [] s.before (here ∷ s.after) s.place (subst (λ q. times_at q s.before ≡ 0) same a.none_left) in
      let right = others_named tree.items got own (s.before ++ here ∷ []) s.after [] behind (subst (λ q. times_at q s.after ≡ 0) same a.none_right) in
      All-append IsOtherRun us vs (subst (All IsOtherRun) s.befores (others_stored stored s.before left)) (subst (All IsOtherRun) s.afters (others_stored stored s.after right))
