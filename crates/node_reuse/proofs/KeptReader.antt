-- The steps of a reader in a line that is kept.
use Rattle.std.proofs.Common.{◌≡◌, ◌⊎◌, ℕ, zero, suc, ◌+◌, ◌-◌, ◌<◌, ◌≤◌, Bool, true, false, Option, Some, None, List, [], length, drop, refl, ap, sym, ◌∙◌, subst, arith, inl, inr}
use Rattle.std.proofs.lemmas.Bool.{cases_lt}
use Rattle.std.proofs.lemmas.List.{length-drop}
use Rattle.text_lengths.specs.declared.Length.{Length}
use Rattle.text_lengths.specs.Length.{length_of, no_length, length_plus}
use Rattle.text_lengths.proofs.Lengths.{same_length}
use Rattle.bracket_rules.specs.declared.Token.{Token}
use Rattle.bracket_rules.specs.declared.TheConstants.{MOST_OPEN}
use Rattle.bracket_rules.specs.Parse.{Bracket}
use Rattle.bracket_tree_rules.specs.Tree.{Tree, wide, tree_length}
use Rattle.bracket_tree_rules.specs.Places.{HasNode, lines_touched, rows_from}
use Rattle.bracket_tree_rules.specs.Leaves.{weight_left}
use Rattle.bracket_nodes.specs.declared.parser.Next.TheVariants.{End, Ready, Bracket as NextBracket}
use Rattle.bracket_nodes.specs.Source.{IsOver}
use Rattle.mark_rules.specs.declared.Mark.{Mark}
use Rattle.mark_rules.specs.declared.Mark.TheVariants.{Kept}
use Rattle.mark_rules.specs.Marks.{kept_run}
use Rattle.reuse_rules.specs.Reuse.{Reusable, IsOldBracket}
use Rattle.node_reuse.specs.declared.line.Line.{Line}
use Rattle.node_reuse.specs.OldText.{OldText, old_text, IsReusable, NoneReusable, HasOldBracket, IsOldToken, NoOldBracket}
use Rattle.node_reuse.specs.Ahead.{ahead_at}
use Rattle.node_reuse.specs.Reading.{IsInLine, IsFollowing, left_by, left_at}
use Rattle.node_reuse.specs.Reader.{Sight, sight_rows, sight_weights, mark_of, IsKept, unasked, new_lines_at, tokens_left, StandsAt, ReadsOn}
use Rattle.node_reuse.proofs.OldPlaces.{same_line, seen}
use Rattle.node_reuse.proofs.KeptSteps.{OldNode, node_took, node_goes_on, node_given, node_turned, columns_zero, reached_within}
use Rattle.node_reuse.proofs.KeptEnds.{run_some, bracket_goes_on, bracket_given, kept_over}
use Rattle.node_reuse.proofs.Unasked.{run_unasked, kept_last}
use Rattle.hiding_rules.proofs.Rows.{length-hidden_rows}
use Rattle.node_reuse.proofs.FreshReader.{same_count, node_seen, bracket_seen, node_seen_at_start, asks_same, unasked_unscanned, start_stands}

-- ---- the old tree

-- in a kept line there is an old tree, and the reader follows it
pub record FollowsOld (s : Sight) (p : Length) : Type 0 where
  pub tree : Tree
  pub line : ℕ
  pub whole : s.old ≡ old_text (Some tree) s.old.marks
  pub follows : IsFollowing tree s.old.marks (sight_rows s) (sight_weights s) p line

module _ (s : Sight) (p : Length) (line : Line) (h : StandsAt s p line) (kept : IsKept s p) where
  at_tree : (o : Option Tree) → s.old.tree ≡ o
      → IsInLine (Kept kept.0) o s.old.marks (sight_rows s) (sight_weights s) p line.scanned (tokens_left line) line.columns → FollowsOld s p
  at_tree None e f = elim f [ ]
  at_tree (Some t) e f = record {
    tree = t;
    line = kept.0 - 1;
    whole = seen s.old s.old.tree s.old.marks t refl e;
    follows = f;
  }

  pub following : FollowsOld s p
  following =
      at_tree s.old.tree refl
      (subst (λ (m : Mark). IsInLine m s.old.tree s.old.marks (sight_rows s) (sight_weights s) p line.scanned (tokens_left line) line.columns) kept.1 h.in_line)

-- the weight that an old tree has left of the line being followed
left_kept : (s : Sight) (p : Length) (t : Tree) (line : ℕ) → s.old ≡ old_text (Some t) s.old.marks → mark_of s p ≡ Kept (line + 1)
    → left_at s.old.tree s.old.marks (sight_weights s) p ≡ weight_left t (length_of line p.columns)
left_kept s p t line whole kept =
    ap (λ (m : Mark). left_by m s.old.tree (sight_weights s) p) kept
    ∙ ap (λ (o : OldText). left_by (Kept (line + 1)) o.tree (sight_weights s) p) whole
    ∙ ap (λ (n : ℕ). weight_left t (length_of n p.columns)) (omega arith)

-- the reader moves within the run of kept lines, or to the line after it
pub run_left : (s : Sight) (p q : Length) (b : Bool) (k : ℕ) → b ≡ false → q.lines ≡ p.lines + k → k ≤ kept_run (drop p.lines s.old.marks)
    → unasked s.old.marks q b ≡ unasked s.old.marks p b
run_left s p q b k scanned lines within =
    unasked_unscanned s q b scanned ∙ ap (λ (n : ℕ). new_lines_at n s.old.marks) lines ∙ run_unasked s.old.marks p.lines k within
    ∙ sym (unasked_unscanned s p b scanned)

kept_stands : (s : Sight) (p q : Length) (line : Line) (t : Tree) (m : ℕ) → StandsAt s p line → line.scanned ≡ false → s.old ≡ old_text (Some t) s.old.marks
    → IsFollowing t s.old.marks (sight_rows s) (sight_weights s) q m → unasked s.old.marks q line.scanned ≡ unasked s.old.marks p line.scanned → StandsAt s q line
kept_stands s p q line t m h scanned whole f left = record {
  sound = h.sound;
  reached = f.reached;
  in_line =
      subst (λ (o : OldText). IsInLine (mark_of s q) o.tree s.old.marks (sight_rows s) (sight_weights s) q line.scanned (tokens_left line) line.columns) (sym whole)
      (subst (λ (x : Mark). IsInLine x (Some t) s.old.marks (sight_rows s) (sight_weights s) q line.scanned (tokens_left line) line.columns) (sym f.follows.kept)
      (subst (λ (n : ℕ). IsFollowing t s.old.marks (sight_rows s) (sight_weights s) q n) (omega arith) f));
  is_new = λ e. let clash : true ≡ false = sym e ∙ scanned in cc;
  asked = ap (λ (x : List ℕ). line.asked + length x) left ∙ h.asked;
}

-- ---- a node

columns_none : (lines columns run : ℕ) → lines_touched lines columns ≤ run → run ≤ lines → columns ≡ 0
columns_none lines zero run h k = refl
columns_none lines (suc columns) run h k = absurd (omega arith)

pub kept_node : (s : Sight) (p : Length) (line : Line) (kinds level : ℕ) (n : Tree) → StandsAt s p line → IsKept s p → line.scanned ≡ false
    → IsReusable s.old p kinds level n → ReadsOn s p line (length_plus p (tree_length n)) line kinds level (Ready n)
kept_node s p line kinds level n h kept scanned reusable = either (cases_lt l.lines run)
  where
    old : FollowsOld s p
    old = following s p line h kept

    l : Length
    l = tree_length n

    q : Length
    q = length_plus p l

    run : ℕ
    run = kept_run (drop p.lines s.old.marks)

    is_old : Reusable old.tree s.old.marks p kinds level n → OldNode old.tree s.old.marks p old.line kinds level n
    is_old r = (
      subst (λ (m : ℕ). HasNode no_length old.tree (length_of m p.columns) n) (same_line s.old.marks p r.line old.line r.kept old.follows.follows.kept) r.node,
      r.taken,
    )

    node : OldNode old.tree s.old.marks p old.line kinds level n
    node = is_old (subst (λ (o : OldText). IsReusable o p kinds level n) old.whole reusable)

    here : left_at s.old.tree s.old.marks (sight_weights s) p ≡ weight_left old.tree (length_of old.line p.columns)
    here = left_kept s p old.tree old.line old.whole old.follows.follows.kept

    within : l.lines < run → ReadsOn s p line q line kinds level (Ready n)
    within k =
        let f : IsFollowing old.tree s.old.marks (sight_rows s) (sight_weights s) q (old.line + l.lines) =
        node_goes_on old.tree s.old.marks (sight_rows s) (sight_weights s) p old.line kinds level n old.follows node k in
        let left : unasked s.old.marks q line.scanned ≡ unasked s.old.marks p line.scanned = run_left s p q line.scanned l.lines scanned refl (omega arith) in
        record {
          comes = λ asked. node_seen s asked p q line line kinds level (weight_left old.tree (length_of old.line p.columns))
              (weight_left old.tree (length_of (old.line + l.lines) q.columns)) n here (left_kept s q old.tree (old.line + l.lines) old.whole f.follows.kept)
              (node_given old.tree s.old.marks (sight_rows s) (sight_weights s) p old.line kinds level n old.follows node k);
          asks = λ asked. asks_same s asked p q line line left refl;
          stands = kept_stands s p q line old.tree (old.line + l.lines) h scanned old.whole f left;
        }

    turned : run ≤ l.lines → ReadsOn s p line q line kinds level (Ready n)
    turned k =
        let none : l.columns ≡ 0 = columns_none l.lines l.columns run node.1.within k in
        let some : 0 < run = run_some s.old.marks p.lines (old.line + 1) old.follows.follows.kept in
        let lines : l.lines ≡ suc (l.lines - 1) = omega arith in
        let start : q.columns ≡ 0 = columns_zero p l (omega arith) none in
        let all : l.lines ≤ run = whole_lines l.columns none node.1.within in
        let left : unasked s.old.marks q line.scanned ≡ unasked s.old.marks p line.scanned = run_left s p q line.scanned l.lines scanned refl all in
        let took = node_took old.tree s.old.marks (sight_rows s) (sight_weights s) p old.line kinds level n old.follows node in
        record {
          comes = λ asked. node_seen_at_start s asked p q line line kinds level (weight_left old.tree (length_of old.line p.columns)) n line h
              start here (node_turned old.tree s.old.marks (sight_rows s) (sight_weights s) p old.line kinds level (l.lines - 1) n old.follows node lines none);
          asks = λ asked. asks_same s asked p q line line left refl;
          stands = start_stands s p q line line h start took.reached scanned refl left;
        }
      where
        whole_lines : (columns : ℕ) → columns ≡ 0 → lines_touched l.lines columns ≤ run → l.lines ≤ run
        whole_lines zero e g = g
        whole_lines (suc columns) e g = absurd (omega arith)

    either : (l.lines < run) ⊎ (run ≤ l.lines) → ReadsOn s p line q line kinds level (Ready n)
    either (inl k) = within k
    either (inr k) = turned k

-- ---- a bracket

pub kept_bracket : (s : Sight) (p : Length) (line : Line) (kinds level : ℕ) (found : Token) → StandsAt s p line → IsKept s p → line.scanned ≡ false
    → IsOldToken s.old p found
    → ReadsOn s p line (length_of p.lines (p.columns + found.len)) line kinds level (NextBracket found.kind found.len found.opening)
kept_bracket s p line kinds level found h kept scanned o =
    subst (λ (x : Token). ReadsOn s p line (length_of p.lines (p.columns + x.len)) line kinds level (NextBracket x.kind x.len x.opening)) (sym o.shows)
    (subst (λ (x : Length). ReadsOn s p line x line kinds level (NextBracket b.kind b.len b.opening))
    (same_length q (length_of p.lines (p.columns + b.len)) (omega arith) refl)
    (taken (subst (λ (x : OldText). HasOldBracket x p b) old.whole o.stands)))
  where
    old : FollowsOld s p
    old = following s p line h kept

    b : Bracket
    b = o.bracket

    q : Length
    q = length_plus p (wide b.len)

    taken : IsOldBracket old.tree s.old.marks p b → ReadsOn s p line q line kinds level (NextBracket b.kind b.len b.opening)
    taken r =
        let place : b.place ≡ length_of old.line p.columns =
        r.place ∙ ap (λ (m : ℕ). length_of m p.columns) (same_line s.old.marks p r.line old.line r.kept old.follows.follows.kept) in
        let f : IsFollowing old.tree s.old.marks (sight_rows s) (sight_weights s) q (old.line + 0) =
        bracket_goes_on old.tree s.old.marks (sight_rows s) (sight_weights s) p old.line b old.follows r.bracket place in
        let left : unasked s.old.marks q line.scanned ≡ unasked s.old.marks p line.scanned = run_left s p q line.scanned 0 scanned refl (omega arith) in
        record {
          comes = λ asked. bracket_seen s asked p q line line b.kind b.len (weight_left old.tree (length_of old.line p.columns))
              (weight_left old.tree (length_of (old.line + 0) q.columns)) b.opening
              (left_kept s p old.tree old.line old.whole old.follows.follows.kept) (left_kept s q old.tree (old.line + 0) old.whole f.follows.kept)
              (bracket_given old.tree s.old.marks (sight_rows s) (sight_weights s) p old.line b old.follows r.bracket place);
          asks = λ asked. asks_same s asked p q line line left refl;
          stands = kept_stands s p q line old.tree (old.line + 0) h scanned old.whole f left;
        }

-- ---- the end

pub kept_end : (s : Sight) (p : Length) (line : Line) (kinds level : ℕ) → level ≤ MOST_OPEN → StandsAt s p line → IsKept s p → line.scanned ≡ false
    → NoneReusable s.old p kinds level → NoOldBracket s.old p → ReadsOn s p line p line kinds level End
kept_end s p line kinds level room h kept scanned none no_bracket =
    let old : FollowsOld s p = following s p line h kept in
    let over : IsOver (ahead_at (sight_rows s) (sight_weights s) p 0) =
    kept_over old.tree s.old.marks (sight_rows s) (sight_weights s) p old.line kinds level 0 old.follows room
    (subst (λ (o : OldText). NoneReusable o p kinds level) old.whole none) (subst (λ (o : OldText). NoOldBracket o p) old.whole no_bracket) in
    let none_later : length (drop (suc p.lines) (sight_weights s)) ≡ 0 = ap length over.last in
    let count = h.sound.counted in
    let texts = old.follows.count in
    let last : length s.old.marks ≡ suc p.lines =
    omega (
      arith,
      length-drop (suc p.lines) (sight_weights s),
      same_count s,
      length-hidden_rows s.by s.contents,
      reached_within (sight_rows s) p (rows_from p (sight_rows s)) h.reached,
    ) in
    let asked_all : unasked s.old.marks p line.scanned ≡ [] =
    unasked_unscanned s p line.scanned scanned ∙ kept_last s.old.marks p.lines last (run_some s.old.marks p.lines (old.line + 1) old.follows.follows.kept) in
    record {
      comes = λ asked. record { over = record { empty = over.empty; last = over.last; asked = asked_all }; rows = refl; weights = refl };
      asks = λ asked. asks_same s asked p p line line refl refl;
      stands = h;
    }
