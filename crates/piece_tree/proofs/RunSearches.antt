-- Where a search of the runs ends.
use Rattle.std.proofs.Common.{◌≡◌, ℕ, ◌+◌, ◌-◌, ◌<◌, ◌≤◌, cond, ltb, Some, List, [], ◌∷◌, ◌++◌, inl, inr, ◌⊎◌, refl, ap, sym, subst, ◌∙◌, arith}
use Rattle.std.proofs.lemmas.Bool.{cases_lt, lt-ltb, le-ltb}
use Rattle.raw_arena.specs.Arena.{Nodes}
use Rattle.rb_rules.specs.declared.weave.Turn.{Turn}
use Rattle.rb_rules.specs.declared.weave.Turn.TheVariants.{Stop, Left, Right}
use Rattle.rb_rules.specs.Woven as woven
use Rattle.rb_arena.specs.RbTree.{Listed, SplitsAt}
use Rattle.rb_arena.specs.Searching as searching
use Rattle.piece_tree.specs.declared.piece.PieceSum.{PieceSum}
use Rattle.piece_tree.specs.declared.run.Run.{Run}
use Rattle.piece_tree.specs.declared.weave.StoredRun.{StoredRun}
use Rattle.piece_tree.specs.declared.weave.Sought.{Sought}
use Rattle.piece_tree.specs.declared.weave.Sought.TheVariants.{Offset, Break}
use Rattle.piece_tree.specs.Pieces.{sum_of}
use Rattle.piece_tree.specs.Searches.{adding, toward, run_turn, count_of, number_of, counted}
use Rattle.piece_tree.specs.Runs.{Runs, HasRunOf, pieces_in}
use Rattle.piece_tree.specs.Stored.{runs_of, stored_in, pieces_at, AreStored}
use Rattle.piece_tree.proofs.Storing.{sum_is, stored_here, stored-append, pieces_there}

-- what each turn says of the target
abbrev Means : Turn → ℕ → ℕ → ℕ → Type 0
Means Left place before own = place < before
Means Stop place before own = (before ≤ place) × (place < before + own)
Means Right place before own = before + own ≤ place

means : (place before own : ℕ) → Means (toward place before own) place before own
means place before own = elim (cases_lt place before) [
  | inl low ↦ subst (λ t. Means t place before own) (sym (ap (λ b. cond b Left (cond (ltb (place - before) own) Stop Right)) (lt-ltb place before low))) low
  | inr high ↦ (let past = ap (λ b. cond b Left (cond (ltb (place - before) own) Stop Right)) (le-ltb place before high) in
      elim (cases_lt (place - before) own) [
        | inl here ↦ subst (λ t. Means t place before own) (sym (past ∙ ap (λ b. cond b Stop Right) (lt-ltb (place - before) own here))) (high, omega (arith, high, here))
        | inr over ↦ subst (λ t. Means t place before own) (sym (past ∙ ap (λ b. cond b Stop Right) (le-ltb (place - before) own over))) (omega (arith, high, over))
      ])
]

-- the count of the target's kind in the runs before, in one, and in those after
module _ (sought : Sought) where
  abbrev tally : List (ℕ × StoredRun) → ℕ
  tally us = counted sought (woven.sum_of adding us)

  abbrev own : StoredRun → ℕ
  own r = counted sought r.sum

says : (sought : Sought) (us : List (ℕ × StoredRun)) (x : StoredRun) → run_turn sought (woven.sum_of adding us) x ≡ toward (number_of sought) (tally sought us) (own sought x)
says (Offset offset) us x = refl
says (Break number) us x = refl

tally-none : (sought : Sought) → tally sought [] ≡ 0
tally-none (Offset offset) = refl
tally-none (Break number) = refl

tally-cons : (sought : Sought) (u : ℕ × StoredRun) (us : List (ℕ × StoredRun)) → tally sought (u ∷ us) ≡ own sought u.1 + tally sought us
tally-cons (Offset offset) u us = refl
tally-cons (Break number) u us = refl

tally-split : (sought : Sought) (us : List (ℕ × StoredRun)) (e : ℕ × StoredRun) (vs : List (ℕ × StoredRun)) → tally sought (us ++ e ∷ vs) ≡ tally sought us + (own sought e.1 + tally sought vs)
tally-split sought [] e vs = omega (arith, tally-none sought, tally-cons sought e vs)
tally-split sought (u ∷ us) e vs = omega (arith, tally-split sought us e vs, tally-cons sought u us, tally-cons sought u (us ++ e ∷ vs))

module _ (sought : Sought) where
  heard : (us : List (ℕ × StoredRun)) (x : StoredRun) (t : Turn) → searching.Says adding run_turn sought us x t → Means t (number_of sought) (tally sought us) (own sought x)
  heard us x t e =
      subst (λ u. Means u (number_of sought) (tally sought us) (own sought x)) (sym (says sought us x) ∙ e) (means (number_of sought) (tally sought us) (own sought x))

  -- the search ends at the run of the target, or at the last run if the target is past the end
  ended : (us : List (ℕ × StoredRun)) (id : ℕ) (x : StoredRun) (vs : List (ℕ × StoredRun)) → searching.EndsAt adding run_turn sought us id x vs
      → (tally sought us ≤ number_of sought) × ((number_of sought < tally sought us + own sought x) ⊎ ((vs ≡ []) × (tally sought us + own sought x ≤ number_of sought)))
  ended us id x vs (inl stop) = let (low, high) = heard us x Stop stop in (low, inl high)
  ended us id x vs (inr (inl (left, inl none))) = let h = heard us x Left left in absurd (omega (arith, h, ap (tally sought) none, tally-none sought))
  ended us id x vs (inr (inl (left, inr (ws, (e, is, right))))) =
      let h = heard us x Left left in
      let g = heard ws e.1 Right right in
      absurd (omega (arith, h, g, ap (tally sought) is, tally-split sought ws e [], tally-none sought))
  ended us id x vs (inr (inr (right, inl none))) = let h = heard us x Right right in (omega (arith, h), inr (none, h))
  ended us id x vs (inr (inr (right, inr (e, (ws, is, left))))) =
      let h = heard us x Right right in
      let g = heard (us ++ (id, x) ∷ []) e.1 Left left in
      absurd (omega (arith, h, g, tally-split sought us (id, x) [], tally-none sought))

  ended_within : (items us : List (ℕ × StoredRun)) (id : ℕ) (x : StoredRun) (vs : List (ℕ × StoredRun)) → SplitsAt items id us x vs → searching.EndsAt adding run_turn sought us id x vs
      → number_of sought < tally sought items → (tally sought us ≤ number_of sought) × (number_of sought < tally sought us + own sought x)
  ended_within items us id x vs e ends h =
      let (low, high) = ended us id x vs ends in (
        low,
        elim high [
          | inl here ↦ here
          | inr (none, past) ↦ absurd (omega (arith, h, past, ap (tally sought) e, tally-split sought us (id, x) vs, ap (tally sought) none, tally-none sought))
        ],
      )

  pub found_run : (tree : Listed StoredRun) (stored : Nodes Run) → AreStored tree stored → (seen : Runs) → runs_of tree stored ≡ seen → (f : ℕ × StoredRun × PieceSum)
      → searching.Found adding run_turn sought tree.items (Some f) → number_of sought < count_of sought (pieces_in seen.runs) → HasRunOf seen.runs sought (f.0, f.2)
  found_run tree stored h seen shown f (us, (vs, e, before, ends)) inside =
      let all = ap (counted sought) (sum_is stored tree.items h.each) in
      let (left, here, right) = stored_here stored tree.items us f.0 f.1 vs e h.each in
      let (low, high) = ended_within tree.items us f.0 f.1 vs e ends (omega (arith, all, ap (λ (r : Runs). count_of sought (pieces_in r.runs)) shown, inside)) in
      let earlier = ap (counted sought) (sum_is stored us left) in
      let pieces = pieces_there stored f.1.at here.run here.there in
      let this = ap (counted sought) (here.sum ∙ ap sum_of (sym pieces)) in
      record {
        earlier = stored_in stored us;
        pieces = pieces_at stored f.1.at;
        later = stored_in stored vs;
        place = sym (ap (λ (r : Runs). r.runs) shown) ∙ ap (stored_in stored) e ∙ stored-append stored us ((f.0, f.1) ∷ vs);
        before = before ∙ sum_is stored us left;
        start = omega (arith, low, earlier);
        end = omega (arith, high, earlier, this);
      }
