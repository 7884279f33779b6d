-- The neighbours of a piece, and their runs.
use Rattle.std.proofs.Common.{◌≡◌, ℕ, suc, ◌+◌, ◌-◌, ◌<◌, Option, Some, None, List, [], ◌∷◌, ◌++◌, length, get_or, take, refl, ap, sym, subst, ◌∙◌, append_assoc, arith}
use Rattle.std.proofs.lemmas.List.{length-append, length-take, take_all, get_or_append_left, get_or-append-add, append-nil}
use Rattle.std.proofs.Math.Seq.{take-suc}
use Rattle.std.specs.Prelude.{IfSome, MatchOption}
use Rattle.rb_arena.specs.RbTree.{IsItem, AtItem, SplitsAt, EndsWith, first_or, last_or}
use Rattle.piece_tree.specs.declared.piece.Piece.{Piece}
use Rattle.piece_tree.specs.declared.piece.PieceId.{PieceId}
use Rattle.piece_tree.specs.Pieces.{Entry, IsAmong}
use Rattle.piece_tree.specs.Runs.{name_of, entry_at, entries_of, entries_from, first_named, last_named}
use Rattle.piece_tree.proofs.Entries.{Runs, split_entries, entries-append, from-append}

length_none : {X : Type 0} (xs : List X) → length xs ≡ 0 → xs ≡ []
length_none [] e = refl
length_none (x ∷ xs) e = absurd (omega arith)

pub run_named : (runs : Runs) (id : PieceId) → IsAmong (entries_of runs) id → IsItem runs id.run
run_named runs id is =
    let (us, (x, (vs, (ps, (qs, at, pieces, place, before, behind))))) = split_entries runs is.earlier is.later (entry_at id is.piece) is.place in (us, (x, (vs, at)))

last_pushed : (es : List Entry) (e : Entry) → last_named (es ++ e ∷ []) ≡ Some (e.id, e.piece)
last_pushed [] e = refl
last_pushed (d ∷ []) e = refl
last_pushed (d ∷ f ∷ es) e = last_pushed (f ∷ es) e

-- the last piece of a run
pub last_from : (es : List Entry) (run place : ℕ) (ps : List Piece) (d : Piece) → length ps ≡ suc place → last_named (es ++ entries_from run 0 ps) ≡ Some (name_of run place, get_or ps place d)
last_from es run place ps d few =
    let own = get_or ps place d in
    let parts : take place ps ++ own ∷ [] ≡ ps = sym (take-suc ps place d (omega arith)) ∙ take_all (suc place) ps (omega arith) in
    let size : 0 + length (take place ps) ≡ place = omega (arith, length-take place ps) in
    let shown : entries_from run 0 ps ≡ entries_from run 0 (take place ps) ++ entry_at (name_of run place) own ∷ [] =
    ap (entries_from run 0) (sym parts) ∙ from-append run 0 (take place ps) (own ∷ []) ∙ ap (λ k. entries_from run 0 (take place ps) ++ entries_from run k (own ∷ [])) size in
    ap (λ l. last_named (es ++ l)) shown
    ∙ ap last_named (sym (append_assoc es (entries_from run 0 (take place ps)) (entry_at (name_of run place) own ∷ [])))
    ∙ last_pushed (es ++ entries_from run 0 (take place ps)) (entry_at (name_of run place) own)

pub first_from : (es : List Entry) (run place : ℕ) (ps : List Piece) (d : Piece) → 0 < length ps → first_named (entries_from run place ps ++ es) ≡ Some (name_of run place, get_or ps 0 d)
first_from es run place [] d some = absurd (omega arith)
first_from es run place (p ∷ ps) d some = refl

ends_later : (ws : Runs) (e : ℕ × List Piece) (us : Runs) → EndsWith (ws ++ e ∷ us) (last_or (Some e.0) us)
ends_later ws e [] = (ws, (e.1, refl))
ends_later ws e (u ∷ us) = subst (λ l. EndsWith l (last_or (Some u.0) us)) (append_assoc ws (e ∷ []) (u ∷ us)) (ends_later (ws ++ e ∷ []) u us)

pub ends_last : (us : Runs) → EndsWith us (last_or None us)
ends_last [] = refl
ends_last (u ∷ us) = ends_later [] u us

abbrev pub FirstIn : Runs → Option ℕ → Option (PieceId × Piece) → Type 0
FirstIn runs run told = MatchOption run (told ≡ None) (λ id. AtItem runs id (λ us x vs. told ≡ first_named (entries_of ((id, x) ∷ vs))))

abbrev pub LastIn : Runs → Option ℕ → Option (PieceId × Piece) → Type 0
LastIn runs run told = MatchOption run (told ≡ None) (λ id. AtItem runs id (λ us x vs. told ≡ last_named (entries_of (us ++ (id, x) ∷ []))))

module _ (runs us : Runs) where
  -- the first of the runs behind a place, and its first piece
  pub run_behind : (vs : Runs) → runs ≡ us ++ vs → (run : Option ℕ) → run ≡ first_or None vs → IfSome run (IsItem runs)
  run_behind [] at run is = subst (λ o. IfSome o (IsItem runs)) (sym is) tt
  run_behind (v ∷ vs) at run is = subst (λ o. IfSome o (IsItem runs)) (sym is) (us, (v.1, (vs, at)))

  pub piece_behind : (vs : Runs) → runs ≡ us ++ vs → (run : Option ℕ) (told : Option (PieceId × Piece)) → run ≡ first_or None vs → FirstIn runs run told → told ≡ first_named (entries_of vs)
  piece_behind [] at run told is tells = subst (λ o. FirstIn runs o told) is tells
  piece_behind (v ∷ vs) at run told is tells = let h : FirstIn runs (Some v.0) told = subst (λ o. FirstIn runs o told) is tells in h us v.1 vs at

  module _ (vs : Runs) (at : runs ≡ us ++ vs) where
    ends_at : (id : ℕ) → EndsWith us (Some id) → (ws : Runs) × ((x : List Piece) × SplitsAt runs id ws x vs × (us ≡ ws ++ (id, x) ∷ []))
    ends_at id (ws, (x, e)) = (ws, (x, at ∙ ap (λ l. l ++ vs) e ∙ append_assoc ws ((id, x) ∷ []) vs, e))

    -- the last of the runs before it, and its last piece
    run_at_end : (run : Option ℕ) → EndsWith us run → IfSome run (IsItem runs)
    run_at_end None e = tt
    run_at_end (Some id) e = let (ws, (x, split, end)) = ends_at id e in (ws, (x, (vs, split)))

    piece_at_end : (run : Option ℕ) (told : Option (PieceId × Piece)) → EndsWith us run → LastIn runs run told → told ≡ last_named (entries_of us)
    piece_at_end None told e tells = tells ∙ ap (λ l. last_named (entries_of l)) (sym e)
    piece_at_end (Some id) told e tells = let (ws, (x, split, end)) = ends_at id e in tells ws x vs split ∙ ap (λ l. last_named (entries_of l)) (sym end)

    pub run_before : (run : Option ℕ) → run ≡ last_or None us → IfSome run (IsItem runs)
    run_before run is = run_at_end run (subst (EndsWith us) (sym is) (ends_last us))

    pub piece_before : (run : Option ℕ) (told : Option (PieceId × Piece)) → run ≡ last_or None us → LastIn runs run told → told ≡ last_named (entries_of us)
    piece_before run told is tells = piece_at_end run told (subst (EndsWith us) (sym is) (ends_last us)) tells

-- the last piece of a run is the last of those up to its end
pub last_is : (runs : Runs) (run : Option ℕ) (id : ℕ) → run ≡ Some id → (xs : List Piece) → AtItem runs id (λ us x vs. xs ≡ x) → 0 < length xs → (d : Piece)
    → LastIn runs run (Some (name_of id (length xs - 1), get_or xs (length xs - 1) d))
last_is runs run id is xs own some d =
    let told : Option (PieceId × Piece) = Some (name_of id (length xs - 1), get_or xs (length xs - 1) d) in
    let there : LastIn runs (Some id) told = λ us x vs at.
    let shown : entries_of (us ++ (id, x) ∷ []) ≡ entries_of us ++ entries_from id 0 xs =
    entries-append us ((id, x) ∷ []) ∙ ap (λ es. entries_of us ++ es) (append-nil (entries_from id 0 x) ∙ ap (entries_from id 0) (sym (own us x vs at))) in
    sym (ap last_named shown ∙ last_from (entries_of us) id (length xs - 1) xs d (omega arith)) in
    subst (λ o. LastIn runs o told) (sym is) there

-- the position of an entry
module _ (runs : Runs) (id : PieceId) (p : Piece) (earlier later : List Entry) (h : entries_of runs ≡ earlier ++ entry_at id p ∷ later) where
  -- at the front of its run, the entry before it is in the run before
  pub before_all : id.place ≡ 0 → (run : Option ℕ) (told : Option (PieceId × Piece)) → AtItem runs id.run (λ us x vs. run ≡ last_or None us) → LastIn runs run told → told ≡ last_named earlier
  before_all front run told prev tells =
      let (us, (x, (vs, (ps, (qs, at, pieces, place, before, behind))))) = split_entries runs earlier later (entry_at id p) h in
      let none : ps ≡ [] = length_none ps (omega (arith, front, place)) in
      piece_before runs us ((id.run, x) ∷ vs) at run told (prev us x vs at) tells
      ∙ ap last_named (sym (before ∙ ap (λ l. entries_of us ++ entries_from id.run 0 l) none ∙ append-nil (entries_of us)))

  -- and the pieces of its run
  module _ (xs : List Piece) (own : AtItem runs id.run (λ us x vs. xs ≡ x)) where
    -- its place is in the run
    pub within : id.place < length xs
    within =
        let (us, (x, (vs, (ps, (qs, at, pieces, place, before, behind))))) = split_entries runs earlier later (entry_at id p) h in
        omega (arith, place, ap length (own us x vs at ∙ pieces), length-append ps (p ∷ qs))

    -- at the end of its run, the entry after it is in the next run
    pub after_all : id.place + 1 ≡ length xs → (run : Option ℕ) (told : Option (PieceId × Piece)) → AtItem runs id.run (λ us x vs. run ≡ first_or None vs) → FirstIn runs run told
        → told ≡ first_named later
    after_all end run told next tells =
        let (us, (x, (vs, (ps, (qs, at, pieces, place, before, behind))))) = split_entries runs earlier later (entry_at id p) h in
        let none : qs ≡ [] = length_none qs (omega (arith, end, place, ap length (own us x vs at ∙ pieces), length-append ps (p ∷ qs))) in
        piece_behind runs (us ++ (id.run, x) ∷ []) vs (at ∙ sym (append_assoc us ((id.run, x) ∷ []) vs)) run told (next us x vs at) tells
        ∙ ap first_named (sym (behind ∙ ap (λ l. entries_from id.run (suc (length ps)) l ++ entries_of vs) none))

    -- else the entry after it is the next of its run
    pub after_one : (d : Piece) → id.place + 1 < length xs → Some (name_of id.run (id.place + 1), get_or xs (id.place + 1) d) ≡ first_named later
    after_one d more =
        let (us, (x, (vs, (ps, (qs, at, pieces, place, before, behind))))) = split_entries runs earlier later (entry_at id p) h in
        let next : id.place + 1 ≡ suc (length ps) = omega (arith, place) in
        let far : id.place + 1 ≡ length ps + 1 = omega (arith, place) in
        let some : 0 < length qs = omega (arith, more, place, ap length (own us x vs at ∙ pieces), length-append ps (p ∷ qs)) in
        let piece : get_or xs (id.place + 1) d ≡ get_or qs 0 d =
        (λ i. get_or ((own us x vs at ∙ pieces) i) (far i) d) ∙ get_or-append-add ps (p ∷ qs) 1 d in
        (λ i. Some (name_of id.run (next i), piece i)) ∙ sym (ap first_named behind ∙ first_from (entries_of vs) id.run (suc (length ps)) qs d some)

    -- else the entry before it is the previous one of its run
    pub before_one : (d : Piece) → 0 < id.place → Some (name_of id.run (id.place - 1), get_or xs (id.place - 1) d) ≡ last_named earlier
    before_one d some =
        let (us, (x, (vs, (ps, (qs, at, pieces, place, before, behind))))) = split_entries runs earlier later (entry_at id p) h in
        let piece : get_or xs (id.place - 1) d ≡ get_or ps (id.place - 1) d =
        ap (λ l. get_or l (id.place - 1) d) (own us x vs at ∙ pieces) ∙ get_or_append_left ps (p ∷ qs) d (id.place - 1) (omega (arith, some, place)) in
        ap (λ q. Some (name_of id.run (id.place - 1), q)) piece
        ∙ sym (ap last_named before ∙ last_from (entries_of us) id.run (id.place - 1) ps d (omega (arith, some, place)))
