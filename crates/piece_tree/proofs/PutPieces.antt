-- Pieces of a run replaced by others.
use Rattle.std.proofs.Common.{◌≡◌, ℕ, suc, ◌+◌, ◌-◌, ◌<◌, ◌≤◌, ◌^◌, Option, Some, None, List, [], ◌∷◌, ◌++◌, length, take, drop, refl, ap, sym, subst, ◌∙◌, append_assoc, arith}
use Rattle.std.specs.List.{All}
use Rattle.std.proofs.lemmas.List.{append-nil, drop_all, take_all, length-append, length-take-le, length-drop}
use Rattle.std.proofs.lemmas.Option.{none-some}
use Rattle.std.specs.Option.{unwrap_or}
use Rattle.rb_arena.specs.RbTree.{SplitsAt, IsItem, AtItem, LeavesOut, first_or}
use Rattle.piece_tree.specs.declared.piece.Piece.{Piece}
use Rattle.piece_tree.specs.declared.piece.PieceId.{PieceId}
use Rattle.piece_tree.specs.Pieces.{Entry, unit_count, listed}
use Rattle.piece_tree.specs.Runs.{name_of, pieces_in, entries_of, entries_from, replaced, CanReplaceIn, HasReplacedIn}
use Rattle.piece_tree.specs.Splicing.{HeadsRest, Puts, Joins, entries_before, first_put}
use Rattle.piece_tree.proofs.Entries.{entries-append, from-append, in-append, units-at}
use Rattle.piece_tree.proofs.Sums.{units-append, All-parts}

-- the pieces before a run, its own, and those behind it
pub in-split : (runs us : List (ℕ × List Piece)) (id : ℕ) (x : List Piece) (vs : List (ℕ × List Piece)) → SplitsAt runs id us x vs
    → pieces_in runs ≡ pieces_in us ++ (x ++ pieces_in vs)
in-split runs us id x vs e = ap pieces_in e ∙ in-append us ((id, x) ∷ vs)

pub units-split : (runs us : List (ℕ × List Piece)) (id : ℕ) (x : List Piece) (vs : List (ℕ × List Piece)) → SplitsAt runs id us x vs
    → unit_count (pieces_in runs) ≡ unit_count (pieces_in us) + unit_count x + unit_count (pieces_in vs)
units-split runs us id x vs e =
    omega (arith, ap (λ rs. unit_count (pieces_in rs)) e, units-at us id x vs)

-- a property of all pieces holds for those before a run, in it and behind it
pub all_at : (P : Piece → Type 0) (runs us : List (ℕ × List Piece)) (id : ℕ) (x : List Piece) (vs : List (ℕ × List Piece)) → SplitsAt runs id us x vs → All P (pieces_in runs)
    → All P (pieces_in us) × All P x × All P (pieces_in vs)
all_at P runs us id x vs e all =
    let (first, others) = All-parts P (pieces_in us) (x ++ pieces_in vs) (subst (All P) (in-split runs us id x vs e) all) in
    let (own, behind) = All-parts P x (pieces_in vs) others in (first, own, behind)

-- the run right behind another
pub run_after : (runs us : List (ℕ × List Piece)) (id : ℕ) (x : List Piece) (vs : List (ℕ × List Piece)) (other : ℕ) (r : Option ℕ) → SplitsAt runs id us x vs
    → r ≡ Some other → r ≡ first_or None vs
    → (y : List Piece) × ((ws : List (ℕ × List Piece)) × SplitsAt runs other (us ++ (id, x) ∷ []) y ws × (vs ≡ (other, y) ∷ ws))
run_after runs us id x [] other r e some is = absurd (none-some other (sym is ∙ some))
run_after runs us id x (v ∷ ws) other r e some is =
    let name : v.0 ≡ other = ap (λ o. unwrap_or o other) (sym is ∙ some) in
    let first : v ∷ ws ≡ (other, v.1) ∷ ws = ap (λ (n : ℕ). (n, v.1) ∷ ws) name in
    (v.1, (ws, e ∙ ap (λ l. us ++ (id, x) ∷ l) first ∙ sym (append_assoc us ((id, x) ∷ []) ((other, v.1) ∷ ws)), first))

pub units-replaced : (from to : ℕ) (with ps : List Piece)
    → unit_count (replaced from to with ps) ≡ unit_count (take from ps) + unit_count with + unit_count (drop to ps)
units-replaced from to with ps =
    omega (arith, units-append (take from ps ++ with) (drop to ps), units-append (take from ps) with)

pub length-replaced : (from to : ℕ) (with ps : List Piece) → from ≤ length ps → length (replaced from to with ps) ≡ from + length with + (length ps - to)
length-replaced from to with ps h =
    omega (arith, length-append (take from ps ++ with) (drop to ps), length-append (take from ps) with, length-take-le from ps h, length-drop to ps)

regroup : (u t z l d v : List Piece) → z ++ l ≡ d ++ v → u ++ ((t ++ z) ++ l) ≡ u ++ (t ++ d) ++ v
regroup u t z l d v e =
    ap (λ q. u ++ q) (append_assoc t z l ∙ ap (λ q. t ++ q) e ∙ sym (append_assoc t d v)) ∙ sym (append_assoc u (t ++ d) v)

-- the first of the pieces that stand at a place
heads_at : (earlier : List Entry) (id : PieceId) (with zs : List Piece) (more new : List Entry) → new ≡ earlier ++ (entries_from id.run id.place (with ++ zs) ++ more)
    → HeadsRest earlier with (first_put id with) new
heads_at earlier id [] zs more new e = refl
heads_at earlier id (p ∷ ps) zs more new e = (id, (entries_from id.run (suc id.place) (ps ++ zs) ++ more, refl, e))

module _ (id : PieceId) (to : ℕ) (with : List Piece) (us : List (ℕ × List Piece)) (x : List Piece) (vs new : List (ℕ × List Piece)) where
  -- the new pieces are in the run itself
  pub puts_here : (told : Option (PieceId × Piece)) (zs : List Piece) (later : List (ℕ × List Piece)) → id.place ≤ length x
      → SplitsAt new id.run us (take id.place x ++ with ++ zs) later → zs ++ pieces_in later ≡ drop to x ++ pieces_in vs → told ≡ first_put id with
      → Puts id to with us x vs new told
  puts_here told zs later within e same is =
      let front = take id.place x in
      let size : 0 + length front ≡ id.place = omega (arith, length-take-le id.place x within) in
      let own : entries_from id.run 0 (front ++ with ++ zs) ≡ entries_from id.run 0 front ++ entries_from id.run id.place (with ++ zs) =
      ap (entries_from id.run 0) (append_assoc front with zs) ∙ from-append id.run 0 front (with ++ zs)
      ∙ ap (λ (n : ℕ). entries_from id.run 0 front ++ entries_from id.run n (with ++ zs)) size in
      let behind = entries_from id.run id.place (with ++ zs) ++ entries_of later in
      let place : entries_of new ≡ entries_before id us x ++ behind =
      ap entries_of e ∙ entries-append us ((id.run, front ++ with ++ zs) ∷ later)
      ∙ ap (λ es. entries_of us ++ es) (ap (λ es. es ++ entries_of later) own ∙ append_assoc (entries_from id.run 0 front) (entries_from id.run id.place (with ++ zs)) (entries_of later))
      ∙ sym (append_assoc (entries_of us) (entries_from id.run 0 front) behind) in
      subst (λ o. Puts id to with us x vs new o) (sym is) (record {
        pieces = in-split new us id.run (front ++ with ++ zs) later e ∙ regroup (pieces_in us) (front ++ with) zs (pieces_in later) (drop to x) (pieces_in vs) same;
        behind = behind;
        front = place;
        first = heads_at (entries_before id us x) id with zs (entries_of later) (entries_of new) place;
      })

  -- the new pieces are at the front of a new run right behind it
  pub puts_behind : (told : Option (PieceId × Piece)) (other : ℕ) → SplitsAt new id.run us (take id.place x) ((other, with ++ drop to x) ∷ vs)
      → told ≡ first_put (name_of other 0) with → Puts id to with us x vs new told
  puts_behind told other e is =
      let front = take id.place x in let more = with ++ drop to x in
      let behind = entries_from other 0 more ++ entries_of vs in
      let place : entries_of new ≡ entries_before id us x ++ behind =
      ap entries_of e ∙ entries-append us ((id.run, front) ∷ (other, more) ∷ vs) ∙ sym (append_assoc (entries_of us) (entries_from id.run 0 front) behind) in
      let parts : front ++ (more ++ pieces_in vs) ≡ front ++ with ++ drop to x ++ pieces_in vs =
      sym (append_assoc front more (pieces_in vs)) ∙ ap (λ q. q ++ pieces_in vs) (sym (append_assoc front with (drop to x))) in
      subst (λ o. Puts id to with us x vs new o) (sym is) (record {
        pieces = in-split new us id.run front ((other, more) ∷ vs) e ∙ ap (λ q. pieces_in us ++ q) parts
            ∙ sym (append_assoc (pieces_in us) (front ++ with ++ drop to x) (pieces_in vs));
        behind = behind;
        front = place;
        first = heads_at (entries_before id us x) (name_of other 0) with (drop to x) (entries_of vs) (entries_of new) place;
      })

  -- there are no new pieces, and the run is removed
  pub puts_none : with ≡ [] → id.place ≡ 0 → length x ≤ to → new ≡ us ++ vs → Puts id to with us x vs new None
  puts_none none first all e =
      let before : take id.place x ≡ [] = ap (λ (n : ℕ). take n x) first in
      let after : drop to x ≡ [] = drop_all to x all in record {
        pieces = ap pieces_in e ∙ in-append us vs
            ∙ ap (λ ps. ps ++ pieces_in vs) (sym (append-nil (pieces_in us)) ∙ (λ i. pieces_in us ++ (sym before i ++ sym none i ++ sym after i)));
        behind = entries_of vs;
        front = ap entries_of e ∙ entries-append us vs
            ∙ ap (λ es. es ++ entries_of vs) (sym (append-nil (entries_of us)) ∙ ap (λ ps. entries_of us ++ entries_from id.run 0 ps) (sym before));
        first = subst (λ ws. HeadsRest (entries_before id us x) ws None (entries_of new)) (sym none) refl;
      }

  -- the new pieces are in the run itself, which was then joined with the next run or not
  pub puts_joined : (told : Option (PieceId × Piece)) → id.place ≤ length x → Joins id.run us (replaced id.place to with x) vs new → told ≡ first_put id with
      → Puts id to with us x vs new told
  puts_joined told within h is =
      let front = take id.place x ++ with in let behind = drop to x in
      puts_here told (behind ++ h.more) h.later within
      (h.place ∙ ap (λ ps. us ++ (id.run, ps) ∷ h.later) (append_assoc front behind h.more))
      (append_assoc behind h.more (pieces_in h.later) ∙ ap (λ ps. behind ++ ps) (sym h.same)) is

  -- the new pieces are in the run itself, and the pieces behind the place are in a new one
  pub puts_beside : (told : Option (PieceId × Piece)) (other end : ℕ) (behind : List Piece) → id.place ≤ length x → length x ≤ end
      → SplitsAt new id.run us (replaced id.place end with x) ((other, behind) ∷ vs) → behind ≡ drop to x → told ≡ first_put id with → Puts id to with us x vs new told
  puts_beside told other end behind within all e same is =
      puts_here told (drop end x) ((other, behind) ∷ vs) within e
      (ap (λ ps. ps ++ (behind ++ pieces_in vs)) (drop_all end x all) ∙ ap (λ ps. ps ++ pieces_in vs) same) is

  -- the new pieces are in a new run, with the pieces behind the place
  pub puts_apart : (told : Option (PieceId × Piece)) (other end : ℕ) (more : List Piece) → length x ≤ end
      → SplitsAt new id.run us (replaced id.place end [] x) ((other, more) ∷ vs) → more ≡ with ++ drop to x → told ≡ first_put (name_of other 0) with
      → Puts id to with us x vs new told
  puts_apart told other end more all e same is =
      let own : replaced id.place end [] x ≡ take id.place x =
      ap (λ ps. take id.place x ++ [] ++ ps) (drop_all end x all) ∙ append-nil (take id.place x ++ []) ∙ append-nil (take id.place x) in
      puts_behind told other (e ∙ (λ i. us ++ (id.run, own i) ∷ (other, same i) ∷ vs)) is

pub replaced_end : (ps qs : List Piece) → replaced (length ps) (length ps) qs ps ≡ ps ++ qs
replaced_end ps qs =
    let all : length ps ≤ length ps = omega arith in
    (λ i. take_all (length ps) ps all i ++ qs ++ drop_all (length ps) ps all i) ∙ append-nil (ps ++ qs)

-- the runs behind a run, and the join with the next one
module _ (runs us : List (ℕ × List Piece)) (id : ℕ) (x : List Piece) (vs : List (ℕ × List Piece)) (e : SplitsAt runs id us x vs) where
  pub joins_none : Joins id us x vs runs
  joins_none = record { more = []; later = vs; place = e ∙ ap (λ ps. us ++ (id, ps) ∷ vs) (sym (append-nil x)); same = refl }

  module _ (other : ℕ) (r : Option ℕ) (some : r ≡ Some other) (is : r ≡ first_or None vs) where
    pub next_named : IsItem runs other
    next_named = let (y, (ws, at, first)) = run_after runs us id x vs other r e some is in (us ++ (id, x) ∷ [], (y, (ws, at)))

    pub next_left : (new : List (ℕ × List Piece)) → LeavesOut runs new other
        → (y : List Piece) × ((ws : List (ℕ × List Piece)) × SplitsAt runs other (us ++ (id, x) ∷ []) y ws × (vs ≡ (other, y) ∷ ws) × SplitsAt new id us x ws)
    next_left new left =
        let (y, (ws, at, first)) = run_after runs us id x vs other r e some is in
        (y, (ws, at, first, left (us ++ (id, x) ∷ []) y ws at ∙ append_assoc us ((id, x) ∷ []) ws))

    pub joins_next : (mid new : List (ℕ × List Piece)) (more : List Piece) (end : ℕ) → LeavesOut runs mid other → AtItem runs other (λ us y ws. more ≡ y) → end ≡ length x
        → HasReplacedIn mid new id end end more → Joins id us x vs new
    joins_next mid new more end left read size has =
        let (y, (ws, at, first, place)) = next_left mid left in
        let same = read (us ++ (id, x) ∷ []) y ws at in
        let whole : replaced end end more x ≡ x ++ y =
        ap (λ (n : ℕ). replaced n n more x) size ∙ replaced_end x more ∙ ap (λ ps. x ++ ps) same in record {
          more = y;
          later = ws;
          place = has us x ws place ∙ ap (λ ps. us ++ (id, ps) ∷ ws) whole;
          same = ap pieces_in first;
        }

    pub can_join : (mid : List (ℕ × List Piece)) (more : List Piece) (end : ℕ) → LeavesOut runs mid other → AtItem runs other (λ us y ws. more ≡ y) → end ≡ length x
        → 0 < length x → length x + length more ≤ 16 → unit_count (pieces_in runs) < 2 ^ 62 → CanReplaceIn mid id end end more
    can_join mid more end left read size some few small =
        let (y, (ws, at, first, place)) = next_left mid left in
        let same = read (us ++ (id, x) ∷ []) y ws at in
        let whole = ap (λ (n : ℕ). replaced n n more x) size ∙ replaced_end x more in record {
          earlier = us;
          pieces = x;
          later = ws;
          place = place;
          ordered = omega arith;
          within = omega (arith, size);
          some = omega (arith, size, some);
          few = omega (arith, size, few);
          small = omega (
            arith,
            small,
            ap unit_count whole,
            units-append x more,
            ap unit_count same,
            units-split runs us id x vs e,
            ap (λ l. unit_count (pieces_in l)) first,
            units-append y (pieces_in ws),
          );
        }

pub length-listed : (piece : Option Piece) → length (listed piece) ≤ 1
length-listed None = omega arith
length-listed (Some p) = omega arith
