-- The cost of a reader's calls.
use Rattle.std.proofs.Common.{◌≡◌, ℕ, zero, suc, ◌+◌, ◌-◌, ◌<◌, ◌≤◌, Bool, true, false, Option, Some, None, List, [], ◌∷◌, length, drop, drop-cons, Result, Ok, Err, refl, ap, sym, ◌∙◌, subst, arith}
use Rattle.std.specs.Prelude.{IfOk, OnOk, slice_index_or}
use Rattle.text_lengths.specs.declared.Length.{Length}
use Rattle.text_lengths.specs.Length.{length_of, no_length, length_plus, is_before}
use Rattle.text_lengths.proofs.Lengths.{same_length}
use Rattle.bracket_rules.specs.declared.Token.{Token}
use Rattle.bracket_rules.specs.declared.TheConstants.{MOST_OPEN}
use Rattle.hiding_rules.specs.Hidden.{Scanner}
use Rattle.bracket_rules.specs.Parse.{Bracket}
use Rattle.bracket_tree_rules.specs.Tree.{Tree, text, wide, tree_length, nesting}
use Rattle.bracket_tree_rules.specs.Places.{HasNode, lines_touched}
use Rattle.bracket_nodes.specs.declared.parser.Next.{Next}
use Rattle.bracket_nodes.specs.declared.parser.Next.TheVariants.{End, Ready, Bracket as NextBracket}
use Rattle.bracket_nodes.specs.Paying.{Paying, HasRoom, PaysOn, PaysFor}
use Rattle.bracket_nodes.proofs.Payments.{PaysOn-then}
use Rattle.mark_rules.specs.declared.Mark.{Mark}
use Rattle.mark_rules.specs.declared.Mark.TheVariants.{New}
use Rattle.mark_rules.specs.Marks.{mark_at, kept_run, RisesFrom}
use Rattle.mark_rules.proofs.MarkLaws.{RisesFrom-drop}
use Rattle.reuse_rules.specs.Reuse.{Reusable, IsOldBracket}
use Rattle.reuse_rules.specs.Prices.{Costs, calls, openings, all_paired}
use Rattle.reuse_rules.specs.Ways.{runs_price, lines_price, way_price}
use Rattle.reuse_rules.proofs.Prices.{bracket_price}
use Rattle.reuse_rules.proofs.Ways.{price_at_start}
use Rattle.reuse_rules.proofs.Walks.{node_pays_at, bracket_pays_at}
use Rattle.node_reuse.specs.declared.line.Line.{Line}
use Rattle.node_reuse.specs.Texts.{line_tokens}
use Rattle.node_reuse.specs.OldText.{OldText, IsReusable, IsLongestReusable, NoneReusable, IsOldToken, HasOldBracket}
use Rattle.node_reuse.specs.Reading.{StaysIfThere}
use Rattle.node_reuse.specs.Reader.{Sight, sight, sight_rows, sight_weights, IsKept, mark_of, new_lines_at, unasked, tokens_left, StandsAt}
use Rattle.node_reuse.specs.Paying.{all_paired_in, nesting_in, way_price_in, token_count, tokens_read, tokens_ahead, runs_ahead, paying_at, paying_so}
use Rattle.node_reuse.proofs.OldPlaces.{same_line}
use Rattle.node_reuse.proofs.KeptEnds.{bracket_fits}
use Rattle.node_reuse.proofs.KeptReader.{FollowsOld, following, run_left}
use Rattle.node_reuse.proofs.FreshReader.{lines_within}
use Rattle.node_reuse.proofs.Unasked.{new_unasked}

inside_marks : (s : Sight) (p : Length) (line : Line) → StandsAt s p line → p.lines < length s.old.marks
inside_marks s p line h = omega (arith, h.sound.counted, lines_within s p line h)

-- ---- brackets

three_calls : (opening : Bool) → bracket_price calls opening ≡ 3
three_calls true = refl
three_calls false = refl

pays_for : (opening : Bool) (old new : Paying) (k w : ℕ) → PaysOn old new → new.opens + bracket_price openings opening ≤ old.opens → PaysFor old new (NextBracket k w opening)
pays_for true old new k w h fewer = (h, omega (arith, fewer))
pays_for false old new k w h fewer = h

pub PaysFor-then : (a b c : Paying) (next : Next) → PaysOn a b → PaysFor b c next → PaysFor a c next
PaysFor-then a b c End h k = tt
PaysFor-then a b c (Ready n) h k = PaysOn-then a b c h k
PaysFor-then a b c (NextBracket kind w true) h k = (PaysOn-then a b c h k.0, omega (arith, h.opens, k.1))
PaysFor-then a b c (NextBracket kind w false) h k = PaysOn-then a b c h k

-- ---- a kept line

module _ (s : Sight) (p : Length) (line : Line) (steps kinds level : ℕ) (h : StandsAt s p line) (kept : IsKept s p) (scanned : line.scanned ≡ false)
    (room : HasRoom (paying_at s steps p line) level) where
  followed : FollowsOld s p
  followed = following s p line h kept

  t : Tree
  t = followed.tree

  -- there is an old tree
  there : s.old.tree ≡ Some t
  unfolding t
  there = ap (λ (o : OldText). o.tree) followed.whole

  way : (c : Costs) (q : Length) → way_price_in c s.old.tree s.old.marks q ≡ way_price c t s.old.marks q
  unfolding t
  way c q = ap (λ (o : Option Tree). way_price_in c o s.old.marks q) there

  paired : all_paired t ≡ true
  unfolding t
  paired = ap all_paired_in (sym there) ∙ room.known

  deep : level + nesting t ≤ MOST_OPEN
  unfolding t
  deep = let same : nesting_in s.old.tree ≡ nesting followed.tree = ap nesting_in there in omega (arith, room.room, same)

  same_tokens : (q : Length) → unasked s.old.marks q line.scanned ≡ unasked s.old.marks p line.scanned → tokens_ahead s q line ≡ tokens_ahead s p line
  same_tokens q e = ap (λ (lines : List ℕ). tokens_read line.scanned line + token_count s.by s.contents lines) e

  pub kept_node_pays : (n : Tree) (after : ℕ) → after ≤ steps + 2 → IsLongestReusable s.old p kinds level n
      → PaysOn (paying_at s steps p line) (paying_at s after (length_plus p (tree_length n)) line)
  unfolding t
  kept_node_pays n after taken longest =
      let whole = followed.whole in
      let l = followed.line in
      let r : Reusable t s.old.marks p kinds level n = subst (λ (o : OldText). IsReusable o p kinds level n) whole longest.reusable in
      let best : (m : Tree) → Reusable t s.old.marks p kinds level m → is_before (tree_length n) (tree_length m) ≡ false =
      λ m other. longest.longest m (subst (λ (o : OldText). IsReusable o p kinds level m) (sym whole) other) in
      let node : HasNode no_length t (length_of l p.columns) n =
      subst (λ (m : ℕ). HasNode no_length t (length_of m p.columns) n) (same_line s.old.marks p r.line l r.kept followed.follows.follows.kept) r.node in
      let pays = λ (c : Costs). node_pays_at c t s.old.marks p l (inside_marks s p line h) followed.follows.follows.kept kinds level followed.follows.tree paired deep n node
      r.taken best in
      let q = length_plus p (tree_length n) in
      let all : (tree_length n).lines ≤ kept_run (drop p.lines s.old.marks) = lines_in (tree_length n).lines (tree_length n).columns r.taken.within in
      let left = same_tokens q (run_left s p q line.scanned (tree_length n).lines scanned refl all) in
      record {
        known = refl;
        pays = omega (arith, taken, pays calls, way calls p, way calls q);
        opens = omega (arith, pays openings, way openings p, way openings q, left);
        deepest = refl;
      }
    where
      lines_in : (lines columns : ℕ) → lines_touched lines columns ≤ kept_run (drop p.lines s.old.marks) → lines ≤ kept_run (drop p.lines s.old.marks)
      lines_in lines zero g = g
      lines_in lines (suc columns) g = omega (arith, g)

  pub kept_bracket_pays : (found : Token) (after : ℕ) → after ≤ steps + 3 → NoneReusable s.old p kinds level → IsOldToken s.old p found
      → PaysFor (paying_at s steps p line) (paying_at s after (length_of p.lines (p.columns + found.len)) line)
      (NextBracket found.kind found.len found.opening)
  unfolding t
  kept_bracket_pays found after taken none o =
      let whole = followed.whole in
      let l = followed.line in
      let b : Bracket = o.bracket in
      let stands : IsOldBracket t s.old.marks p b = subst (λ (x : OldText). HasOldBracket x p b) whole o.stands in
      let empty : (m : Tree) → Reusable t s.old.marks p kinds level m → ⊥ =
      λ m other. none m (subst (λ (x : OldText). IsReusable x p kinds level m) (sym whole) other) in
      let place : b.place ≡ length_of l p.columns =
      stands.place ∙ ap (λ (m : ℕ). length_of m p.columns) (same_line s.old.marks p stands.line l stands.kept followed.follows.follows.kept) in
      let fits = bracket_fits no_length t b followed.follows.tree stands.bracket in
      let pays = λ (c : Costs). bracket_pays_at c t s.old.marks p l (inside_marks s p line h) followed.follows.follows.kept kinds level followed.follows.tree paired deep b
      empty stands place fits.wide in
      let q = length_plus p (wide b.len) in
      let left = same_tokens q (run_left s p q line.scanned 0 scanned refl (omega arith)) in
      subst (λ (x : Token). PaysFor (paying_at s steps p line) (paying_at s after (length_of p.lines (p.columns + x.len)) line) (NextBracket x.kind x.len x.opening))
      (sym o.shows)
      (subst (λ (x : Length). PaysFor (paying_at s steps p line) (paying_at s after x line) (NextBracket b.kind b.len b.opening))
      (same_length q (length_of p.lines (p.columns + b.len)) (omega arith) refl)
      (pays_for b.opening (paying_at s steps p line) (paying_at s after q line) b.kind b.len
      (record {
        known = refl;
        pays = omega (arith, taken, pays calls, three_calls b.opening, way calls p, way calls q);
        opens = omega (arith, pays openings, way openings p, way openings q, left);
        deepest = refl;
      })
      (omega (arith, pays openings, way openings p, way openings q, left))))

-- ---- a new line

-- the price of the way is the same from each column of the line
new_way : (c : Costs) (o : Option Tree) (marks : List Mark) (p : Length) (column : ℕ) → p.lines < length marks → mark_at (p.lines + 1) marks ≡ New
    → way_price_in c o marks (length_of p.lines column) ≡ way_price_in c o marks p
new_way c None marks p column inside e = refl
new_way c (Some old) marks p column inside e = ap (lines_price c old column) these ∙ sym (ap (lines_price c old p.columns) these)
  where
    these : drop p.lines marks ≡ New ∷ drop (suc p.lines) marks
    these =
        let at : p.lines + 1 - 1 ≡ p.lines = omega arith in
        drop-cons marks p.lines New inside ∙ ap (λ (m : Mark). m ∷ drop (suc p.lines) marks) (ap (λ (n : ℕ). slice_index_or marks n New) (sym at) ∙ e)

fresh_gap_pays : (s : Sight) (p q : Length) (line : Line) (steps d : ℕ) → StandsAt s p line → line.scanned ≡ true
    → q.lines ≡ p.lines → q.columns ≡ d → PaysOn (paying_at s steps p line) (paying_at s steps q line)
fresh_gap_pays s p q line steps d h scanned lines column =
    subst (λ (x : Length). PaysOn (paying_at s steps p line) (paying_at s steps x line)) (sym (same_length q (length_of p.lines d) lines column))
    (let way = λ (c : Costs). new_way c s.old.tree s.old.marks p d (inside_marks s p line h) (h.is_new scanned) in
    record {
      known = refl;
      pays = omega (arith, way calls);
      opens = omega (arith, way openings);
      deepest = refl;
    })

pub gap_pays_if : {E : Type 0} (next : Result Next E) (s : Sight) (p q : Length) (line : Line) (steps d : ℕ) → StandsAt s p line → line.scanned ≡ true
    → IfOk next (λ n. n ≡ Ready (text (wide (d - p.columns)))) → q.lines ≡ p.lines → IfOk next (λ _. q.columns ≡ d)
    → IfOk next (PaysFor (paying_at s steps p line) (paying_at s steps q line))
gap_pays_if (Err e) s p q line steps d h scanned given lines column = tt
gap_pays_if (Ok n) s p q line steps d h scanned given lines column =
    subst (PaysFor (paying_at s steps p line) (paying_at s steps q line)) (sym given) (fresh_gap_pays s p q line steps d h scanned lines column)

pub fresh_bracket_pays : (s : Sight) (p : Length) (line to : Line) (t : Token) (steps : ℕ) → StandsAt s p line → line.scanned ≡ true → to.scanned ≡ true
    → tokens_left line ≡ t ∷ tokens_left to
    → PaysFor (paying_at s steps p line) (paying_at s steps (length_of p.lines (p.columns + t.len)) to) (NextBracket t.kind t.len t.opening)
fresh_bracket_pays s p line to t steps h scanned same split =
    let way = λ (c : Costs). new_way c s.old.tree s.old.marks p (p.columns + t.len) (inside_marks s p line h) (h.is_new scanned) in
    let old = paying_at s steps p line in
    let q = length_of p.lines (p.columns + t.len) in
    let new = paying_at s steps q to in
    let before : tokens_ahead s p line ≡ length (tokens_left line) + token_count s.by s.contents (new_lines_at (suc p.lines) s.old.marks) =
    ap (λ (b : Bool). tokens_read b line + token_count s.by s.contents (unasked s.old.marks p b)) scanned in
    let after : tokens_ahead s q to ≡ length (tokens_left to) + token_count s.by s.contents (new_lines_at (suc p.lines) s.old.marks) =
    ap (λ (b : Bool). tokens_read b to + token_count s.by s.contents (unasked s.old.marks q b)) same in
    let one : length (tokens_left line) ≡ suc (length (tokens_left to)) = ap length split in
    pays_for t.opening old new t.kind t.len
    (record { known = refl; pays = omega (arith, way calls); opens = omega (arith, way openings, before, after, one); deepest = refl })
    (omega (arith, way openings, before, after, one, at_most_one t.opening))
  where
    at_most_one : (b : Bool) → bracket_price openings b ≤ 1
    at_most_one true = omega arith
    at_most_one false = omega arith

-- the price of the way after the break of a new line
break_way : (c : Costs) (o : Option Tree) (marks : List Mark) (p : Length) → ((old : Tree) → o ≡ Some old → RisesFrom 1 marks) → p.lines < length marks
    → mark_at (p.lines + 1) marks ≡ New → way_price_in c o marks (length_of (suc p.lines) 0) ≡ way_price_in c o marks p
break_way c None marks p rises inside e = refl
break_way c (Some old) marks p rises inside e = starts (drop (suc p.lines) marks) (RisesFrom-drop 1 (suc p.lines) marks (rises old refl)) ∙ sym (ap (lines_price c old p.columns) these)
  where
    these : drop p.lines marks ≡ New ∷ drop (suc p.lines) marks
    these =
        let at : p.lines + 1 - 1 ≡ p.lines = omega arith in
        drop-cons marks p.lines New inside ∙ ap (λ (m : Mark). m ∷ drop (suc p.lines) marks) (ap (λ (n : ℕ). slice_index_or marks n New) (sym at) ∙ e)

    starts : (ms : List Mark) → RisesFrom 1 ms → lines_price c old 0 ms ≡ runs_price c old 0 ms
    starts = price_at_start c old

kept_rise : (s : Sight) (p : Length) (line : Line) → StandsAt s p line → (old : Tree) → s.old.tree ≡ Some old → RisesFrom 1 s.old.marks
kept_rise s p line h old e =
    (subst (λ (o : Option Tree). StaysIfThere o s.old.marks (sight_rows s) (sight_weights s)) e h.sound.stays).agrees.rises

pub fresh_break_pays : (s : Sight) (p : Length) (line to : Line) (steps : ℕ) → StandsAt s p line → line.scanned ≡ true → to.scanned ≡ false
    → tokens_left line ≡ [] → PaysOn (paying_at s steps p line) (paying_at s steps (length_of (suc p.lines) 0) to)
fresh_break_pays s p line to steps h scanned left none =
    let way = λ (c : Costs). break_way c s.old.tree s.old.marks p (kept_rise s p line h) (inside_marks s p line h) (h.is_new scanned) in
    let q = length_of (suc p.lines) 0 in
    let before : tokens_ahead s p line ≡ length (tokens_left line) + token_count s.by s.contents (new_lines_at (suc p.lines) s.old.marks) =
    ap (λ (b : Bool). tokens_read b line + token_count s.by s.contents (unasked s.old.marks p b)) scanned in
    let after : tokens_ahead s q to ≡ 0 + token_count s.by s.contents (new_lines_at (suc p.lines) s.old.marks) =
    ap (λ (b : Bool). tokens_read b to + token_count s.by s.contents (unasked s.old.marks q b)) left in
    record { known = refl; pays = omega (arith, way calls); opens = omega (arith, way openings, before, after); deepest = refl }

-- ---- a line is entered

pub entered_pays : (s : Sight) (p : Length) (line to : Line) (steps : ℕ) → StandsAt s p line → line.scanned ≡ false → to.scanned ≡ true → mark_of s p ≡ New
    → tokens_left to ≡ line_tokens s.by s.contents (p.lines + 1) → PaysOn (paying_at s steps p line) (paying_at s steps p to)
entered_pays s p line to steps h unscanned scanned new tokens =
    let first : new_lines_at p.lines s.old.marks ≡ suc p.lines ∷ new_lines_at (suc p.lines) s.old.marks = new_unasked s.old.marks p.lines (inside_marks s p line h) new in
    let before : tokens_ahead s p line ≡ 0 + token_count s.by s.contents (suc p.lines ∷ new_lines_at (suc p.lines) s.old.marks) =
    ap (λ (b : Bool). tokens_read b line + token_count s.by s.contents (unasked s.old.marks p b)) unscanned
    ∙ ap (λ (lines : List ℕ). 0 + token_count s.by s.contents lines) first in
    let after : tokens_ahead s p to ≡ length (tokens_left to) + token_count s.by s.contents (new_lines_at (suc p.lines) s.old.marks) =
    ap (λ (b : Bool). tokens_read b to + token_count s.by s.contents (unasked s.old.marks p b)) scanned in
    let at : p.lines + 1 ≡ suc p.lines = omega arith in
    let here : length (tokens_left to) ≡ length (line_tokens s.by s.contents (suc p.lines)) =
    ap length tokens ∙ ap (λ (n : ℕ). length (line_tokens s.by s.contents n)) at in
    record { known = refl; pays = omega arith; opens = omega (arith, before, after, here); deepest = refl }

pub entered_pays_if : {A E : Type 0} (r : Result A E) (s : Sight) (p : Length) (n : ℕ) (line to : Line) (steps : ℕ) → p.lines + 1 ≡ n → StandsAt s p line
    → line.scanned ≡ false → mark_of s p ≡ New → OnOk r (tokens_left to ≡ line_tokens s.by s.contents n) → OnOk r (to.scanned ≡ true)
    → OnOk r (PaysOn (paying_at s steps p line) (paying_at s steps p to))
entered_pays_if (Ok x) s p n line to steps e h unscanned new tokens scanned = entered_pays s p line to steps h unscanned scanned new (rw e tokens)
entered_pays_if (Err x) s p n line to steps e h unscanned new tokens scanned = tt

-- ---- a call

pub room_at : (s : Sight) (steps : ℕ) (p : Length) (line : Line) (new_to level : ℕ) → HasRoom (paying_so s steps p line new_to) level
    → HasRoom (paying_at s steps p line) level
room_at s steps p line new_to level h = record { known = h.known; room = h.room }

-- the next item was paid with `paid` steps in all, and the steps up to `after` are deducted from the runs ahead
module _ (s : Sight) (p q : Length) (line to : Line) (steps paid after new_to told : ℕ)
    (less : after + runs_ahead s.old.marks q.lines told ≤ paid + runs_ahead s.old.marks p.lines new_to) where
  on_so : PaysOn (paying_at s steps p line) (paying_at s paid q to) → PaysOn (paying_so s steps p line new_to) (paying_so s after q to told)
  on_so h = record { known = h.known; pays = omega (arith, h.pays, less); opens = h.opens; deepest = h.deepest }

  pays_so : (n : Next) → PaysFor (paying_at s steps p line) (paying_at s paid q to) n → PaysFor (paying_so s steps p line new_to) (paying_so s after q to told) n
  pays_so End h = tt
  pays_so (Ready n) h = on_so h
  pays_so (NextBracket kind w true) h = (on_so h.0, h.1)
  pays_so (NextBracket kind w false) h = on_so h

  pub pays_so_if : {E : Type 0} (r : Result Next E) → IfOk r (PaysFor (paying_at s steps p line) (paying_at s paid q to))
      → IfOk r (PaysFor (paying_so s steps p line new_to) (paying_so s after q to told))
  pays_so_if (Err e) h = tt
  pays_so_if (Ok n) h = pays_so n h

-- a call in a new line, whose lines have the same contents afterwards
pub new_pays : {E : Type 0} (r : Result Next E) (by : Scanner) (before after : List (List ℕ)) (old : OldText) → after ≡ before
    → (steps : ℕ) (p q : Length) (start from to : Line)
    → PaysOn (paying_at (sight by before old) steps p start) (paying_at (sight by before old) steps p from)
    → IfOk r (PaysFor (paying_at (sight by before old) steps p from) (paying_at (sight by before old) steps q to))
    → (ticked new_to told : ℕ) → ticked + runs_ahead old.marks q.lines told ≤ steps + runs_ahead old.marks p.lines new_to
    → IfOk r (PaysFor (paying_so (sight by before old) steps p start new_to) (paying_so (sight by after old) ticked q to told))
new_pays (Err e) by before after old same steps p q start from to entered read ticked new_to told less = tt
new_pays (Ok n) by before after old same steps p q start from to entered read ticked new_to told less =
    let s = sight by before old in
    subst (λ (x : List (List ℕ)). PaysFor (paying_so s steps p start new_to) (paying_so (sight by x old) ticked q to told) n) (sym same)
    (pays_so s p q start to steps steps ticked new_to told less n
    (PaysFor-then (paying_at s steps p start) (paying_at s steps p from) (paying_at s steps q to) n entered read))
