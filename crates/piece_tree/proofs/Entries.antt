-- The entries of a text, by its runs.
use Rattle.std.proofs.Common.{◌≡◌, ℕ, suc, ◌+◌, List, [], ◌∷◌, ◌++◌, length, refl, ap, sym, ◌∙◌, append_assoc, ◌⊎◌, inl, inr, arith}
use Rattle.std.specs.List.{sum_by}
use Rattle.std.proofs.lemmas.List.{map-append}
use Rattle.std.proofs.lemmas.List.Concat.{flat_map-append}
use Rattle.std.proofs.lemmas.List.Sums.{sum_by-append}
use Rattle.rb_arena.specs.RbTree.{SplitsAt}
use Rattle.piece_tree.specs.declared.piece.Piece.{Piece}
use Rattle.piece_tree.specs.declared.piece.PieceId.{PieceId}
use Rattle.piece_tree.specs.Pieces.{Entry, pieces_of, unit_count}
use Rattle.piece_tree.specs.Runs.{name_of, entry_at, pieces_in, entries_of, entries_from}

abbrev pub Runs : Type 0
Runs = List (ℕ × List Piece)

pub pieces_from : (run place : ℕ) (ps : List Piece) → pieces_of (entries_from run place ps) ≡ ps
pieces_from run place [] = refl
pieces_from run place (p ∷ ps) = ap (λ qs. p ∷ qs) (pieces_from run (suc place) ps)

pub pieces_entries : (runs : List (ℕ × List Piece)) → pieces_of (entries_of runs) ≡ pieces_in runs
pieces_entries [] = refl
pieces_entries (r ∷ rs) =
    map-append (λ (e : Entry). e.piece) (entries_from r.0 0 r.1) (entries_of rs)
    ∙ ap (λ ps. ps ++ pieces_of (entries_of rs)) (pieces_from r.0 0 r.1)
    ∙ ap (λ ps. r.1 ++ ps) (pieces_entries rs)

pub entries-append : (us vs : List (ℕ × List Piece)) → entries_of (us ++ vs) ≡ entries_of us ++ entries_of vs
entries-append [] vs = refl
entries-append (u ∷ us) vs =
    ap (λ es. entries_from u.0 0 u.1 ++ es) (entries-append us vs) ∙ sym (append_assoc (entries_from u.0 0 u.1) (entries_of us) (entries_of vs))

pub from-append : (run place : ℕ) (ps qs : List Piece) → entries_from run place (ps ++ qs) ≡ entries_from run place ps ++ entries_from run (place + length ps) qs
from-append run place [] qs = let none : place ≡ place + 0 = omega arith in ap (λ k. entries_from run k qs) none
from-append run place (p ∷ ps) qs =
    let more : suc place + length ps ≡ place + length (p ∷ ps) = omega arith in
    ap (λ es. entry_at (name_of run place) p ∷ es)
    (from-append run (suc place) ps qs ∙ ap (λ k. entries_from run (suc place) ps ++ entries_from run k qs) more)

pub in-append : (us vs : List (ℕ × List Piece)) → pieces_in (us ++ vs) ≡ pieces_in us ++ pieces_in vs
in-append us vs = flat_map-append (λ (r : ℕ × List Piece). r.1) us vs

-- the pieces before a run, those of it, and those behind it
pub sum-at : (f : Piece → ℕ) (us : List (ℕ × List Piece)) (id : ℕ) (x : List Piece) (vs : List (ℕ × List Piece))
    → sum_by f (pieces_in (us ++ (id, x) ∷ vs)) ≡ sum_by f (pieces_in us) + (sum_by f x + sum_by f (pieces_in vs))
sum-at f us id x vs =
    ap (sum_by f) (in-append us ((id, x) ∷ vs)) ∙ sum_by-append f (pieces_in us) (x ++ pieces_in vs) ∙ ap (λ n. sum_by f (pieces_in us) + n) (sum_by-append f x (pieces_in vs))

pub units-at : (us : List (ℕ × List Piece)) (id : ℕ) (x : List Piece) (vs : List (ℕ × List Piece))
    → unit_count (pieces_in (us ++ (id, x) ∷ vs)) ≡ unit_count (pieces_in us) + (unit_count x + unit_count (pieces_in vs))
units-at us id x vs = sum-at (λ (p : Piece). p.span.units) us id x vs

-- an entry of a run and of others is one of the run, or of the others
record LiesIn (run place : ℕ) (x : List Piece) (rest earlier later : List Entry) (e : Entry) : Type 0 where
  ps : List Piece
  qs : List Piece
  pieces : x ≡ ps ++ e.piece ∷ qs
  id : e.id ≡ name_of run (place + length ps)
  before : earlier ≡ entries_from run place ps
  behind : later ≡ entries_from run (suc (place + length ps)) qs ++ rest

split_from : (run place : ℕ) (x : List Piece) (rest earlier later : List Entry) (e : Entry) → entries_from run place x ++ rest ≡ earlier ++ e ∷ later
    → LiesIn run place x rest earlier later e ⊎ ((ws : List Entry) × (earlier ≡ entries_from run place x ++ ws) × (rest ≡ ws ++ e ∷ later))
split_from run place [] rest earlier later e h = inr (earlier, refl, h)
split_from run place (p ∷ ps) rest [] later e h =
    let first : entry_at (name_of run place) p ≡ e = cc in
    let others : entries_from run (suc place) ps ++ rest ≡ later = cc in
    let none : place ≡ place + 0 = omega arith in
    inl (record {
      ps = [];
      qs = ps;
      pieces = ap (λ (f : Entry). f.piece ∷ ps) first;
      id = sym (ap (λ (f : Entry). f.id) first) ∙ ap (λ k. name_of run k) none;
      before = refl;
      behind = sym others ∙ ap (λ k. entries_from run (suc k) ps ++ rest) none;
    })
split_from run place (p ∷ ps) rest (f ∷ earlier) later e h =
    let first : entry_at (name_of run place) p ≡ f = cc in
    let others : entries_from run (suc place) ps ++ rest ≡ earlier ++ e ∷ later = cc in
    elim (split_from run (suc place) ps rest earlier later e others) [
      | inl is ↦ (let more : suc place + length is.ps ≡ place + length (p ∷ is.ps) = omega arith in
          inl (record {
            ps = p ∷ is.ps;
            qs = is.qs;
            pieces = ap (λ qs. p ∷ qs) is.pieces;
            id = is.id ∙ ap (λ k. name_of run k) more;
            before = λ i. sym first i ∷ is.before i;
            behind = is.behind ∙ ap (λ k. entries_from run (suc k) is.qs ++ rest) more;
          }))
      | inr (ws, before, is) ↦ inr (ws, λ i. sym first i ∷ before i, is)
    ]

pub split_entries : (runs : List (ℕ × List Piece)) (earlier later : List Entry) (e : Entry) → entries_of runs ≡ earlier ++ e ∷ later
    → (us : List (ℕ × List Piece)) × ((x : List Piece) × ((vs : List (ℕ × List Piece)) × ((ps : List Piece) × ((qs : List Piece) × SplitsAt runs e.id.run us x vs × (x ≡ ps ++ e.piece ∷ qs) × (e.id.place ≡ length ps)
    × (earlier ≡ entries_of us ++ entries_from e.id.run 0 ps) × (later ≡ entries_from e.id.run (suc (length ps)) qs ++ entries_of vs)))))
split_entries [] [] later e h = absurd cc
split_entries [] (f ∷ earlier) later e h = absurd cc
split_entries (r ∷ rs) earlier later e h = elim (split_from r.0 0 r.1 (entries_of rs) earlier later e h) [
  | inl is ↦ (let none : 0 + length is.ps ≡ length is.ps = omega arith in
      let run : r.0 ≡ e.id.run = sym (ap (λ (n : PieceId). n.run) is.id) in (
        [],
        (
          r.1,
          (
            rs,
            (
              is.ps,
              (
                is.qs,
                ap (λ k. (k, r.1) ∷ rs) run,
                is.pieces,
                ap (λ (n : PieceId). n.place) is.id ∙ none,
                is.before ∙ ap (λ k. entries_from k 0 is.ps) run,
                is.behind ∙ (λ i. entries_from (run i) (suc (none i)) is.qs ++ entries_of rs),
              ),
            ),
          ),
        ),
      ))
  | inr (ws, before, is) ↦ (
      let (us, (x, (vs, (ps, (qs, at, pieces, place, front, behind))))) = split_entries rs ws later e is in (
        r ∷ us,
        (
          x,
          (
            vs,
            (
              ps,
              (
                qs,
                ap (λ l. r ∷ l) at,
                pieces,
                place,
                before ∙ ap (λ es. entries_from r.0 0 r.1 ++ es) front ∙ sym (append_assoc (entries_from r.0 0 r.1) (entries_of us) (entries_from e.id.run 0 ps)),
                behind,
              ),
            ),
          ),
        ),
      ))
]

-- the position of an entry of a run
pub entries-at : (us : List (ℕ × List Piece)) (run : ℕ) (ps : List Piece) (p : Piece) (qs : List Piece) (vs : List (ℕ × List Piece))
    → entries_of (us ++ (run, ps ++ p ∷ qs) ∷ vs) ≡ (entries_of us ++ entries_from run 0 ps) ++ entry_at (name_of run (length ps)) p ∷ (entries_from run (suc (length ps)) qs ++ entries_of vs)
entries-at us run ps p qs vs =
    let none : 0 + length ps ≡ length ps = omega arith in
    entries-append us ((run, ps ++ p ∷ qs) ∷ vs)
    ∙ ap (λ es. entries_of us ++ (es ++ entries_of vs)) (from-append run 0 ps (p ∷ qs) ∙ ap (λ k. entries_from run 0 ps ++ entries_from run k (p ∷ qs)) none)
    ∙ ap (λ es. entries_of us ++ es) (append_assoc (entries_from run 0 ps) (entries_from run (length ps) (p ∷ qs)) (entries_of vs))
    ∙ sym (append_assoc (entries_of us) (entries_from run 0 ps) (entries_from run (length ps) (p ∷ qs) ++ entries_of vs))
