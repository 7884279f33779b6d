-- The steps of a reader in a new line, which was scanned.
use Rattle.std.proofs.Common.{◌≡◌, ℕ, suc, ◌+◌, ◌-◌, ◌<◌, ◌≤◌, Bool, true, false, List, [], ◌∷◌, ◌++◌, length, drop, Result, Ok, Err, refl, ap, sym, ◌∙◌, subst, arith}
use Rattle.std.proofs.lemmas.List.{length-drop, nil_from_length}
use Rattle.text_lengths.specs.declared.Length.{Length}
use Rattle.text_lengths.specs.Length.{length_of}
use Rattle.std.specs.Prelude.{IfOk}
use Rattle.text_lengths.proofs.Lengths.{same_length}
use Rattle.bracket_rules.specs.declared.Token.{Token}
use Rattle.bracket_rules.specs.declared.TheConstants.{MOST_OPEN}
use Rattle.bracket_rules.specs.Rows.{Row}
use Rattle.bracket_rules.specs.Table.{AreInLine}
use Rattle.bracket_tree_rules.specs.Tree.{Tree, text, wide}
use Rattle.bracket_tree_rules.specs.Weights.{glue_weights, tree_weights, AreCovered}
use Rattle.bracket_tree_rules.specs.Places.{rows_from}
use Rattle.bracket_nodes.specs.declared.parser.Next.{Next}
use Rattle.bracket_nodes.specs.declared.parser.Next.TheVariants.{End, Ready, Bracket}
use Rattle.bracket_nodes.specs.Source.{GivesNode, GivesBracket, IsOver, AsksOn}
use Rattle.mark_rules.specs.declared.Mark.{Mark}
use Rattle.mark_rules.specs.declared.Mark.TheVariants.{New}
use Rattle.reuse_rules.specs.Following.{Reached}
use Rattle.reuse_rules.proofs.Followings.{Reached-rows}
use Rattle.node_reuse.specs.declared.line.Line.{Line}
use Rattle.node_reuse.specs.Ahead.{ahead_at, fresh_left, IsFresh}
use Rattle.node_reuse.specs.Reading.{IsInLine, left_by, left_at}
use Rattle.node_reuse.specs.Reader.{Sight, sight_rows, sight_weights, mark_of, unasked, new_lines_at, Asked, asking_at, seen_at, tokens_left, StandsAt, ReadsOn}
use Rattle.node_reuse.proofs.FreshSteps.{IsBeforeMore, gap_next, gap_given, bracket_next, bracket_given, break_next}
use Rattle.hiding_rules.proofs.Rows.{length-hidden_rows}
use Rattle.node_reuse.proofs.FreshLines.{break_given, fresh_over}
use Rattle.node_reuse.proofs.LightLines.{length-row_weights}
use Rattle.node_reuse.proofs.KeptSteps.{reached_within}
use Rattle.node_reuse.proofs.KeptEnds.{lighter}
use Rattle.node_reuse.proofs.LineStarts.{line_starts, start_is_light}
use Rattle.node_reuse.proofs.Unasked.{none_unasked}

-- ---- what a source gives, with what it has yet to ask for

-- the weights left at the two places: `weights` and the weights left at the second are within those left at the first
covered_left : (s : Sight) (p q : Length) (l m : ℕ) (weights : List ℕ)
    → left_at s.old.tree s.old.marks (sight_weights s) p ≡ l → left_at s.old.tree s.old.marks (sight_weights s) q ≡ m
    → AreCovered (glue_weights weights (m ∷ drop (suc q.lines) (sight_weights s))) (l ∷ drop (suc p.lines) (sight_weights s))
    → AreCovered (glue_weights weights (left_at s.old.tree s.old.marks (sight_weights s) q ∷ drop (suc q.lines) (sight_weights s)))
    (left_at s.old.tree s.old.marks (sight_weights s) p ∷ drop (suc p.lines) (sight_weights s))
covered_left s p q l m weights e f h =
    subst (λ (x : ℕ). AreCovered (glue_weights weights (left_at s.old.tree s.old.marks (sight_weights s) q ∷ drop (suc q.lines) (sight_weights s)))
    (x ∷ drop (suc p.lines) (sight_weights s))) (sym e)
    (subst (λ (x : ℕ). AreCovered (glue_weights weights (x ∷ drop (suc q.lines) (sight_weights s))) (l ∷ drop (suc p.lines) (sight_weights s))) (sym f) h)

pub node_seen : (s : Sight) (asked : Asked) (p q : Length) (from to : Line) (kinds level l m : ℕ) (t : Tree)
    → left_at s.old.tree s.old.marks (sight_weights s) p ≡ l → left_at s.old.tree s.old.marks (sight_weights s) q ≡ m
    → GivesNode (ahead_at (sight_rows s) (sight_weights s) p l) (ahead_at (sight_rows s) (sight_weights s) q m) kinds level t
    → GivesNode (seen_at s asked p from) (seen_at s asked q to) kinds level t
node_seen s asked p q from to kinds level l m t e f g = record {
  tree = g.tree;
  some = g.some;
  fits = g.fits;
  spells = g.spells;
  weighs = covered_left s p q l m (tree_weights t) e f g.weighs;
  rest = g.rest;
}

pub bracket_seen : (s : Sight) (asked : Asked) (p q : Length) (from to : Line) (k w l m : ℕ) (opening : Bool)
    → left_at s.old.tree s.old.marks (sight_weights s) p ≡ l → left_at s.old.tree s.old.marks (sight_weights s) q ≡ m
    → GivesBracket (ahead_at (sight_rows s) (sight_weights s) p l) (ahead_at (sight_rows s) (sight_weights s) q m) k w opening
    → GivesBracket (seen_at s asked p from) (seen_at s asked q to) k w opening
bracket_seen s asked p q from to k w l m opening e f g = record {
  has_kind = g.has_kind;
  wide = g.wide;
  spells = g.spells;
  weighs = covered_left s p q l m (w ∷ []) e f g.weighs;
  rest = g.rest;
}

-- the lines left to ask for are the same
pub asks_same : (s : Sight) (asked : Asked) (p q : Length) (from to : Line) → unasked s.old.marks q to.scanned ≡ unasked s.old.marks p from.scanned
    → to.asked ≡ from.asked → AsksOn (asking_at s asked p from) (asking_at s asked q to)
asks_same s asked p q from to left count = record {
  contents = refl;
  asked = ap (λ (x : List ℕ). asked.lines ++ x) left;
  count = ap (λ (n : ℕ). n + length (unasked s.old.marks q to.scanned)) count ∙ ap (λ (x : List ℕ). from.asked + length x) left;
  borrows = refl;
}

-- a reader's line is a line of the text
pub lines_within : (s : Sight) (p : Length) (line : Line) → StandsAt s p line → p.lines < length s.contents
lines_within s p line h = omega (arith, reached_within (sight_rows s) p (rows_from p (sight_rows s)) h.reached, length-hidden_rows s.by s.contents)

pub same_count : (s : Sight) → length (sight_weights s) ≡ length (sight_rows s)
same_count s = length-row_weights (sight_rows s)

-- ---- where the line was scanned

pub fresh_line : (s : Sight) (p : Length) (line : Line) → StandsAt s p line → line.scanned ≡ true
    → IsFresh (sight_rows s) (sight_weights s) p (tokens_left line) line.columns
fresh_line s p line h e =
    subst (λ (b : Bool). IsInLine New s.old.tree s.old.marks (sight_rows s) (sight_weights s) p b (tokens_left line) line.columns) e
    (subst (λ (m : Mark). IsInLine m s.old.tree s.old.marks (sight_rows s) (sight_weights s) p line.scanned (tokens_left line) line.columns) (h.is_new e)
    h.in_line)

left_new : (s : Sight) (p : Length) → mark_of s p ≡ New → left_at s.old.tree s.old.marks (sight_weights s) p ≡ fresh_left (sight_weights s) p
left_new s p e = ap (λ (m : Mark). left_by m s.old.tree (sight_weights s) p) e

unasked_scanned : (s : Sight) (p : Length) (b : Bool) → b ≡ true → unasked s.old.marks p b ≡ new_lines_at (suc p.lines) s.old.marks
unasked_scanned s p b e = ap (unasked s.old.marks p) e

pub unasked_unscanned : (s : Sight) (p : Length) (b : Bool) → b ≡ false → unasked s.old.marks p b ≡ new_lines_at p.lines s.old.marks
unasked_unscanned s p b e = ap (unasked s.old.marks p) e

-- the reader moves to another column of the line
module _ (s : Sight) (p : Length) (line : Line) (h : StandsAt s p line) (e : line.scanned ≡ true)
    (c : ℕ) (to : Line) (scanned : to.scanned ≡ true) (counted : to.asked ≡ line.asked)
    (f : IsFresh (sight_rows s) (sight_weights s) (length_of p.lines c) (tokens_left to) to.columns) where
  column_unasked : unasked s.old.marks (length_of p.lines c) to.scanned ≡ unasked s.old.marks p line.scanned
  column_unasked = unasked_scanned s (length_of p.lines c) to.scanned scanned ∙ sym (unasked_scanned s p line.scanned e)

  column_stands : StandsAt s (length_of p.lines c) to
  column_stands = record {
    sound = h.sound;
    reached =
        subst (Reached (sight_rows s) (length_of p.lines c)) (sym (Reached-rows (sight_rows s) (length_of p.lines c) _ f.reached)) f.reached;
    in_line =
        subst (λ (m : Mark). IsInLine m s.old.tree s.old.marks (sight_rows s) (sight_weights s) (length_of p.lines c) to.scanned (tokens_left to) to.columns)
        (sym (h.is_new e))
        (subst (λ (b : Bool). IsInLine New s.old.tree s.old.marks (sight_rows s) (sight_weights s) (length_of p.lines c) b (tokens_left to) to.columns) (sym scanned) f);
    is_new = λ _. h.is_new e;
    asked = ap (λ (n : ℕ). n + length (unasked s.old.marks (length_of p.lines c) to.scanned)) counted
        ∙ ap (λ (x : List ℕ). line.asked + length x) column_unasked ∙ h.asked;
  }

  column_left : left_at s.old.tree s.old.marks (sight_weights s) (length_of p.lines c) ≡ fresh_left (sight_weights s) (length_of p.lines c)
  column_left = left_new s (length_of p.lines c) (h.is_new e)

pub fresh_gap : (s : Sight) (p : Length) (line : Line) (d kinds level : ℕ) → level ≤ MOST_OPEN → StandsAt s p line → line.scanned ≡ true
    → p.columns < d → AreInLine d line.columns (tokens_left line) → IsBeforeMore (tokens_left line) (drop (suc p.lines) (sight_rows s))
    → ReadsOn s p line (length_of p.lines d) line kinds level (Ready (text (wide (d - p.columns))))
fresh_gap s p line d kinds level room h e g k more =
    let rows = sight_rows s in
    let weights = sight_weights s in
    let here : IsFresh rows weights p (tokens_left line) line.columns = fresh_line s p line h e in
    let next : IsFresh rows weights (length_of p.lines d) (tokens_left line) line.columns = gap_next rows weights p d line.columns (tokens_left line) here g k more in
    record {
      comes = λ asked. node_seen s asked p (length_of p.lines d) line line kinds level (fresh_left weights p)
          (fresh_left weights (length_of p.lines d)) (text (wide (d - p.columns))) (left_new s p (h.is_new e)) (column_left s p line h e d line e refl next)
          (gap_given rows weights p d line.columns kinds level (tokens_left line) room here g k more);
      asks = λ asked. asks_same s asked p (length_of p.lines d) line line (column_unasked s p line h e d line e refl next) refl;
      stands = column_stands s p line h e d line e refl next;
    }

pub fresh_gap_if : {E : Type 0} (next : Result Next E) (s : Sight) (p q : Length) (line : Line) (d kinds level : ℕ) → level ≤ MOST_OPEN → StandsAt s p line
    → line.scanned ≡ true → p.columns < d → AreInLine d line.columns (tokens_left line) → IsBeforeMore (tokens_left line) (drop (suc p.lines) (sight_rows s)) → IfOk next (λ n. n ≡ Ready (text (wide (d - p.columns))))
    → q.lines ≡ p.lines → IfOk next (λ _. q.columns ≡ d) → IfOk next (ReadsOn s p line q line kinds level)
fresh_gap_if (Err e) s p q line d kinds level room h scanned g k more given lines column = tt
fresh_gap_if (Ok n) s p q line d kinds level room h scanned g k more given lines column =
    subst (λ (x : Length). ReadsOn s p line x line kinds level n) (sym (same_length q (length_of p.lines d) lines column))
    (subst (ReadsOn s p line (length_of p.lines d) line kinds level) (sym given) (fresh_gap s p line d kinds level room h scanned g k more))

-- a bracket is left in the line, or the line is the last one
pub before_bracket : (t : Token) (ts us : List Token) (rest : List Row) → us ≡ t ∷ ts → IsBeforeMore us rest
before_bracket t ts us rest e = subst (λ (x : List Token). IsBeforeMore x rest) (sym e) tt

before_none : (ts : List Token) → IsBeforeMore ts []
before_none [] = tt
before_none (t ∷ ts) = tt

pub before_end : (s : Sight) (p : Length) (ts : List Token) → length s.contents ≤ suc p.lines → IsBeforeMore ts (drop (suc p.lines) (sight_rows s))
before_end s p ts last =
    subst (IsBeforeMore ts) (sym (nil_from_length (drop (suc p.lines) (sight_rows s))
    (omega (arith, length-drop (suc p.lines) (sight_rows s), length-hidden_rows s.by s.contents)))) (before_none ts)

pub fresh_bracket : (s : Sight) (p : Length) (line to : Line) (t : Token) (kinds level : ℕ) → StandsAt s p line → line.scanned ≡ true
    → tokens_left line ≡ t ∷ tokens_left to → t.at ≤ p.columns → to.scanned ≡ true → to.asked ≡ line.asked → to.columns ≡ line.columns
    → ReadsOn s p line (length_of p.lines (p.columns + t.len)) to kinds level (Bracket t.kind t.len t.opening)
fresh_bracket s p line to t kinds level h e split at scanned counted columns =
    let rows = sight_rows s in
    let weights = sight_weights s in
    let d = p.columns + t.len in
    let here : IsFresh rows weights p (t ∷ tokens_left to) line.columns =
    subst (λ (ts : List Token). IsFresh rows weights p ts line.columns) split (fresh_line s p line h e) in
    let next : IsFresh rows weights (length_of p.lines d) (tokens_left to) to.columns =
    subst (λ (n : ℕ). IsFresh rows weights (length_of p.lines d) (tokens_left to) n) (sym columns)
    (bracket_next rows weights p line.columns t (tokens_left to) here at) in
    record {
      comes = λ asked. bracket_seen s asked p (length_of p.lines d) line to t.kind t.len (fresh_left weights p)
          (fresh_left weights (length_of p.lines d)) t.opening (left_new s p (h.is_new e)) (column_left s p line h e d to scanned counted next)
          (bracket_given rows weights p line.columns t (tokens_left to) here at);
      asks = λ asked. asks_same s asked p (length_of p.lines d) line to (column_unasked s p line h e d to scanned counted next) counted;
      stands = column_stands s p line h e d to scanned counted next;
    }

-- ---- the start of a line

pub start_stands : (s : Sight) (p q : Length) (line to : Line) → StandsAt s p line → q.columns ≡ 0
    → Reached (sight_rows s) q (rows_from q (sight_rows s)) → to.scanned ≡ false → to.asked ≡ line.asked
    → unasked s.old.marks q to.scanned ≡ unasked s.old.marks p line.scanned → StandsAt s q to
start_stands s p q line to h start r scanned counted left = record {
  sound = h.sound;
  reached = r;
  in_line =
      subst (λ (b : Bool). IsInLine (mark_of s q) s.old.tree s.old.marks (sight_rows s) (sight_weights s) q b (tokens_left to) to.columns) (sym scanned)
      (line_starts s.old.tree s.old.marks (sight_rows s) (sight_weights s) q (tokens_left to) to.columns h.sound.stays (same_count s) start r);
  is_new = λ k. let clash : true ≡ false = sym k ∙ scanned in cc;
  asked = ap (λ (n : ℕ). n + length (unasked s.old.marks q to.scanned)) counted ∙ ap (λ (x : List ℕ). line.asked + length x) left ∙ h.asked;
}

-- a node that ends at the start of a line may be given with the weight left of that line, if it may be given with the
-- line's bound
pub node_seen_at_start : (s : Sight) (asked : Asked) (p q : Length) (from to : Line) (kinds level l : ℕ) (t : Tree) (line : Line) → StandsAt s p line
    → q.columns ≡ 0 → left_at s.old.tree s.old.marks (sight_weights s) p ≡ l
    → GivesNode (ahead_at (sight_rows s) (sight_weights s) p l) (ahead_at (sight_rows s) (sight_weights s) q (fresh_left (sight_weights s) q)) kinds level t
    → GivesNode (seen_at s asked p from) (seen_at s asked q to) kinds level t
node_seen_at_start s asked p q from to kinds level l t line h start e g =
    let left = left_at s.old.tree s.old.marks (sight_weights s) q in
    node_seen s asked p q from to kinds level l left t e refl
    (lighter (ahead_at (sight_rows s) (sight_weights s) p l) (ahead_at (sight_rows s) (sight_weights s) q (fresh_left (sight_weights s) q)) kinds level t left
    (start_is_light s.old.tree s.old.marks (sight_rows s) (sight_weights s) q h.sound.stays start) g)

pub fresh_break : (s : Sight) (p : Length) (line to : Line) (kinds level : ℕ) → level ≤ MOST_OPEN → StandsAt s p line → line.scanned ≡ true
    → tokens_left line ≡ [] → suc p.lines < length s.contents → to.scanned ≡ false → to.asked ≡ line.asked
    → ReadsOn s p line (length_of (suc p.lines) 0) to kinds level (Ready (text (length_of 1 0)))
fresh_break s p line to kinds level room h e none more scanned counted =
    let rows = sight_rows s in
    let weights = sight_weights s in
    let q = length_of (suc p.lines) 0 in
    let here : IsFresh rows weights p [] line.columns =
    subst (λ (ts : List Token). IsFresh rows weights p ts line.columns) none (fresh_line s p line h e) in
    let count : suc p.lines < length rows = omega (arith, length-hidden_rows s.by s.contents) in
    let r : Reached rows q (drop (suc p.lines) rows) = break_next rows weights p line.columns here count in
    let reached : Reached rows q (rows_from q rows) = subst (Reached rows q) (sym (Reached-rows rows q (drop (suc p.lines) rows) r)) r in
    let left : unasked s.old.marks q to.scanned ≡ unasked s.old.marks p line.scanned =
    unasked_unscanned s q to.scanned scanned ∙ sym (unasked_scanned s p line.scanned e) in
    record {
      comes = λ asked. node_seen_at_start s asked p q line to kinds level (fresh_left weights p) (text (length_of 1 0)) line h refl
          (left_new s p (h.is_new e)) (break_given rows weights p line.columns kinds level room here (same_count s) count);
      asks = λ asked. asks_same s asked p q line to left counted;
      stands = start_stands s p q line to h refl reached scanned counted left;
    }

-- ---- the end

pub fresh_end : (s : Sight) (p : Length) (line : Line) (kinds level : ℕ) → StandsAt s p line → line.scanned ≡ true → tokens_left line ≡ []
    → length s.contents ≤ suc p.lines → line.columns ≤ p.columns → ReadsOn s p line p line kinds level End
fresh_end s p line kinds level h e none last end =
    let rows = sight_rows s in
    let weights = sight_weights s in
    let here : IsFresh rows weights p [] line.columns =
    subst (λ (ts : List Token). IsFresh rows weights p ts line.columns) none (fresh_line s p line h e) in
    let over : IsOver (ahead_at rows weights p 0) =
    fresh_over rows weights p line.columns 0 here (same_count s) (omega (arith, length-hidden_rows s.by s.contents)) end in
    let count = h.sound.counted in
    let asked_all : unasked s.old.marks p line.scanned ≡ [] = unasked_scanned s p line.scanned e ∙ none_unasked s.old.marks (suc p.lines) (omega arith) in
    record {
      comes = λ asked. record { over = record { empty = over.empty; last = over.last; asked = asked_all }; rows = refl; weights = refl };
      asks = λ asked. asks_same s asked p p line line refl refl;
      stands = h;
    }
