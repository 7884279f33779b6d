-- The results of a reader's calls.
use Rattle.std.proofs.Common.{◌≡◌, ℕ, suc, ◌+◌, ◌<◌, ◌≤◌, ◌≢◌, ◌⊎◌, inl, inr, Bool, true, false, eqb, Result, Ok, Err, List, [], ◌∷◌, ◌++◌, length, drop, get_or, refl, ap, sym, ◌∙◌, subst, arith, append_assoc}
use Rattle.std.specs.Prelude.{IfOk, OnOk, OnErr}
use Rattle.std.proofs.lemmas.List.{append-nil}
use Rattle.std.proofs.lemmas.Bool.Decides.{eqb_tells}
use Rattle.text_lengths.specs.declared.Length.{Length}
use Rattle.text_lengths.specs.Length.{length_of}
use Rattle.text_lengths.proofs.Lengths.{same_length}
use Rattle.bracket_rules.specs.declared.Token.{Token}
use Rattle.hiding_rules.specs.Hidden.{Scanner}
use Rattle.bracket_tree_rules.specs.Places.{rows_from}
use Rattle.bracket_nodes.specs.declared.parser.Next.{Next}
use Rattle.bracket_nodes.specs.declared.parser.Next.TheVariants.{End, Ready, Bracket}
use Rattle.bracket_nodes.specs.Source.{Ahead, Comes, AsksOn}
use Rattle.bracket_nodes.proofs.Parsing.{AsksOn-then}
use Rattle.mark_rules.specs.declared.Mark.{Mark}
use Rattle.mark_rules.specs.declared.Mark.TheVariants.{Kept, New}
use Rattle.mark_rules.specs.Marks.{new_run}
use Rattle.reuse_rules.specs.Following.{Reached}
use Rattle.node_reuse.specs.declared.line.Line.{Line}
use Rattle.line_states.specs.Lines.{content_at}
use Rattle.line_states.specs.Settling.{SettledState}
use Rattle.node_reuse.specs.Texts.{line_tokens}
use Rattle.node_reuse.specs.Ahead.{IsFresh}
use Rattle.node_reuse.specs.Reading.{IsInLine}
use Rattle.node_reuse.specs.OldText.{OldText}
use Rattle.node_reuse.specs.Reader.{Sight, sight, IsKept, IsLast, sight_rows, sight_weights, mark_of, new_lines_at, unasked, asked_if, Asked, asked_so, asking_at, seen_at, tokens_left, StandsAt, Stands, ReadsOn}
use Rattle.node_reuse.proofs.FreshLines.{tokens_at, fresh_start}
use Rattle.node_reuse.proofs.FreshReader.{asks_same, lines_within, unasked_unscanned}
use Rattle.node_reuse.proofs.Unasked.{new_unasked, new_count}

-- ---- what a call in a line comes to

pub reads_comes : {E : Type 0} (r : Result Next E) (s : Sight) (asked : Asked) (p q : Length) (from to : Line) (kinds level : ℕ)
    → IfOk r (ReadsOn s p from q to kinds level) → IfOk r (Comes (seen_at s asked p from) (seen_at s asked q to) kinds level)
reads_comes (Ok n) s asked p q from to kinds level h = h.comes asked
reads_comes (Err e) s asked p q from to kinds level h = tt

pub reads_stands : {E : Type 0} (r : Result Next E) (s : Sight) (p q : Length) (from to : Line) (kinds level : ℕ)
    → IfOk r (ReadsOn s p from q to kinds level) → OnOk r (StandsAt s q to)
reads_stands (Ok n) s p q from to kinds level h = h.stands
reads_stands (Err e) s p q from to kinds level h = tt

pub reads_asks : {E : Type 0} (r : Result Next E) (s : Sight) (asked : Asked) (p q : Length) (from to : Line) (kinds level : ℕ)
    → IfOk r (ReadsOn s p from q to kinds level) → OnErr r (q ≡ p) → OnErr r (to ≡ from) → AsksOn (asking_at s asked p from) (asking_at s asked q to)
reads_asks (Ok n) s asked p q from to kinds level h place line = h.asks asked
reads_asks (Err e) s asked p q from to kinds level h place line =
    asks_same s asked p q from to (ap (λ (x : Length). unasked s.old.marks x to.scanned) place ∙ ap (λ (l : Line). unasked s.old.marks p l.scanned) line)
    (ap (λ (l : Line). l.asked) line)

-- the next item does not depend on which lines were asked for before
pub comes_from : (s : Sight) (asked before : Asked) (p : Length) (from start : Line) (new : Ahead) (kinds level : ℕ) (n : Next)
    → Comes (seen_at s asked p from) new kinds level n → Comes (seen_at s before p start) new kinds level n
comes_from s asked before p from start new kinds level End h = record { over = h.over; rows = h.rows; weights = h.weights }
comes_from s asked before p from start new kinds level (Ready t) h =
    record { tree = h.tree; some = h.some; fits = h.fits; spells = h.spells; weighs = h.weighs; rest = h.rest }
comes_from s asked before p from start new kinds level (Bracket k w opening) h =
    record { has_kind = h.has_kind; wide = h.wide; spells = h.spells; weighs = h.weighs; rest = h.rest }

pub comes_from_if : {E : Type 0} (r : Result Next E) (s : Sight) (asked before : Asked) (p : Length) (from start : Line) (new : Ahead) (kinds level : ℕ)
    → IfOk r (Comes (seen_at s asked p from) new kinds level) → IfOk r (Comes (seen_at s before p start) new kinds level)
comes_from_if (Ok n) s asked before p from start new kinds level h = comes_from s asked before p from start new kinds level n h
comes_from_if (Err e) s asked before p from start new kinds level h = tt

-- ---- a line is entered

entered_in_line : (s : Sight) (p : Length) (line to : Line) → StandsAt s p line → line.scanned ≡ false → mark_of s p ≡ New
    → tokens_left to ≡ line_tokens s.by s.contents (p.lines + 1) → to.columns ≡ length (content_at (p.lines + 1) s.contents)
    → IsFresh (sight_rows s) (sight_weights s) p (tokens_left to) to.columns
entered_in_line s p line to h unscanned new tokens columns =
    let start : p.columns ≡ 0 =
    subst (λ (b : Bool). IsInLine New s.old.tree s.old.marks (sight_rows s) (sight_weights s) p b (tokens_left line) line.columns) unscanned
    (subst (λ (m : Mark). IsInLine m s.old.tree s.old.marks (sight_rows s) (sight_weights s) p line.scanned (tokens_left line) line.columns) new h.in_line) in
    let place : p ≡ length_of p.lines 0 = same_length p (length_of p.lines 0) refl start in
    let reached : Reached (sight_rows s) (length_of p.lines 0) (rows_from (length_of p.lines 0) (sight_rows s)) =
    subst (λ (x : Length). Reached (sight_rows s) x (rows_from x (sight_rows s))) place h.reached in
    let tokens_here : line_tokens s.by s.contents (p.lines + 1) ≡ tokens_at s.by s.contents p.lines = ap (tokens_at s.by s.contents) (omega arith) in
    let content : content_at (p.lines + 1) s.contents ≡ get_or s.contents p.lines [] = ap (λ (i : ℕ). get_or s.contents i []) (omega arith) in
    let fresh : IsFresh (sight_rows s) (sight_weights s) (length_of p.lines 0) (tokens_at s.by s.contents p.lines) (length (get_or s.contents p.lines [])) =
    fresh_start s.by s.contents p.lines h.sound.table (lines_within s p line h) reached in
    subst (λ (x : Length). IsFresh (sight_rows s) (sight_weights s) x (tokens_left to) to.columns) (sym place)
    (subst (λ (n : ℕ). IsFresh (sight_rows s) (sight_weights s) (length_of p.lines 0) (tokens_left to) n) (sym (columns ∙ ap length content))
    (subst (λ (ts : List Token). IsFresh (sight_rows s) (sight_weights s) (length_of p.lines 0) ts (length (get_or s.contents p.lines [])))
    (sym (tokens ∙ tokens_here)) fresh))

entered_stands : (s : Sight) (p : Length) (line to : Line) → StandsAt s p line → line.scanned ≡ false → mark_of s p ≡ New
    → tokens_left to ≡ line_tokens s.by s.contents (p.lines + 1) → to.columns ≡ length (content_at (p.lines + 1) s.contents)
    → to.scanned ≡ true → to.asked ≡ line.asked + 1 → StandsAt s p to
entered_stands s p line to h unscanned new tokens columns scanned counted =
    let count = h.sound.counted in
    let within : p.lines < length s.old.marks = omega (arith, lines_within s p line h) in
    let before : unasked s.old.marks p line.scanned ≡ suc p.lines ∷ new_lines_at (suc p.lines) s.old.marks =
    unasked_unscanned s p line.scanned unscanned ∙ new_unasked s.old.marks p.lines within new in
    let one : length (unasked s.old.marks p line.scanned) ≡ suc (length (new_lines_at (suc p.lines) s.old.marks)) = ap length before in
    let after : length (unasked s.old.marks p to.scanned) ≡ length (new_lines_at (suc p.lines) s.old.marks) = ap (λ (b : Bool). length (unasked s.old.marks p b)) scanned in
    let was = h.asked in
    record {
      sound = h.sound;
      reached = h.reached;
      in_line =
          subst (λ (m : Mark). IsInLine m s.old.tree s.old.marks (sight_rows s) (sight_weights s) p to.scanned (tokens_left to) to.columns) (sym new)
          (subst (λ (b : Bool). IsInLine New s.old.tree s.old.marks (sight_rows s) (sight_weights s) p b (tokens_left to) to.columns) (sym scanned)
          (entered_in_line s p line to h unscanned new tokens columns));
      is_new = λ _. new;
      asked = omega arith;
    }

pub entered_if : {A E : Type 0} (r : Result A E) (s : Sight) (p : Length) (n : ℕ) (line to : Line) → p.lines + 1 ≡ n → StandsAt s p line → line.scanned ≡ false
    → mark_of s p ≡ New → OnOk r (tokens_left to ≡ line_tokens s.by s.contents n) → OnOk r (to.columns ≡ length (content_at n s.contents))
    → OnOk r (to.scanned ≡ true) → to.asked ≡ line.asked + length (asked_if to.scanned n) → OnOk r (StandsAt s p to)
entered_if (Ok x) s p n line to e h unscanned new tokens columns scanned counted =
    entered_stands s p line to h unscanned new (rw e tokens) (rw e columns) scanned
    (counted ∙ ap (λ (b : Bool). line.asked + length (asked_if b n)) scanned)
entered_if (Err x) s p n line to e h unscanned new tokens columns scanned counted = tt

-- the line was asked for, or is still to be asked for
pub entered_asks : (s : Sight) (p : Length) (n : ℕ) (line to : Line) (old new borrows : List ℕ) → p.lines + 1 ≡ n → StandsAt s p line
    → line.scanned ≡ false → mark_of s p ≡ New → new ≡ old ++ asked_if to.scanned n → to.asked ≡ line.asked + length (asked_if to.scanned n)
    → AsksOn (asking_at s (asked_so old borrows) p line) (asking_at s (asked_so new borrows) p to)
entered_asks s p n line to old new borrows number h unscanned new_mark e f = record {
  contents = refl;
  asked = told to.scanned e;
  count = counted to.scanned f;
  borrows = refl;
}
  where
    left : unasked s.old.marks p line.scanned ≡ new_lines_at p.lines s.old.marks
    left = unasked_unscanned s p line.scanned unscanned

    first : new_lines_at p.lines s.old.marks ≡ suc p.lines ∷ new_lines_at (suc p.lines) s.old.marks
    first =
        let count = h.sound.counted in
        let within : p.lines < length s.old.marks = omega (arith, lines_within s p line h) in
        new_unasked s.old.marks p.lines within new_mark

    told : (b : Bool) → new ≡ old ++ asked_if b n → new ++ unasked s.old.marks p b ≡ old ++ unasked s.old.marks p line.scanned
    told false g = ap (λ (x : List ℕ). x ++ new_lines_at p.lines s.old.marks) (g ∙ append-nil old) ∙ ap (λ (x : List ℕ). old ++ x) (sym left)
    told true g =
        let on : n ≡ suc p.lines = omega arith in
        ap (λ (x : List ℕ). x ++ new_lines_at (suc p.lines) s.old.marks) (g ∙ ap (λ (m : ℕ). old ++ m ∷ []) on)
        ∙ append_assoc old (suc p.lines ∷ []) (new_lines_at (suc p.lines) s.old.marks) ∙ ap (λ (x : List ℕ). old ++ x) (sym (left ∙ first))

    counted : (b : Bool) → to.asked ≡ line.asked + length (asked_if b n)
        → to.asked + length (unasked s.old.marks p b) ≡ line.asked + length (unasked s.old.marks p line.scanned)
    counted false g = let same : length (unasked s.old.marks p line.scanned) ≡ length (new_lines_at p.lines s.old.marks) = ap length left in omega arith
    counted true g =
        let all : length (unasked s.old.marks p line.scanned) ≡ suc (length (new_lines_at (suc p.lines) s.old.marks)) = ap length (left ∙ first) in
        omega arith

-- the knowledge of new lines at a place
pub record IsKnown (s : Sight) (p : Length) (line : Line) (new_to : ℕ) : Type 0 where
  pub told : new_to ≤ p.lines + new_run (drop p.lines s.old.marks)
  pub scanned : line.scanned ≡ true → p.lines < new_to

-- the lines that the reader reads remain settled
pub still_settled : {A E : Type 0} (r : Result A E) (s : Sight) (settled : SettledState) (p q : Length) (from to : Line) (new_to told : ℕ)
    → Stands s settled p from new_to → IsKnown s q to told → OnOk r (StandsAt s q to) → OnOk r (Stands s settled q to told)
still_settled (Ok x) s settled p q from to new_to told h known at =
    record { at = at; marks = h.marks; states = h.states; told = known.told; scanned = known.scanned }
still_settled (Err e) s settled p q from to new_to told h known at = tt

-- ---- a call in a new line, whose lines have the same contents afterwards

-- the next item of a new line: the reader moves from place p and line state `start` to place q and line state `to`
pub record NextInNew {E : Type 0} (r : Result Next E) (before after : Sight) (settled : SettledState) (asked told : Asked) (p q : Length) (start to : Line)
    (new_to kinds level : ℕ) : Type 0 where
  pub comes : IfOk r (Comes (seen_at before asked p start) (seen_at after told q to) kinds level)
  pub stands : OnOk r (Stands after settled q to new_to)
  pub asks : AsksOn (asking_at before asked p start) (asking_at after told q to)

pub new_call : {E : Type 0} (r : Result Next E) (by : Scanner) (before after : List (List ℕ)) (old : OldText) (settled : SettledState) → after ≡ before
    → (asked told borrows : List ℕ) (p q : Length) (start from to : Line) (was_to new_to kinds level : ℕ)
    → Stands (sight by before old) settled p start was_to → IsKnown (sight by before old) q to new_to
    → IfOk r (ReadsOn (sight by before old) p from q to kinds level) → OnErr r (q ≡ p) → OnErr r (to ≡ from)
    → AsksOn (asking_at (sight by before old) (asked_so asked borrows) p start)
    (asking_at (sight by before old) (asked_so told borrows) p from)
    → NextInNew r (sight by before old) (sight by after old) settled (asked_so asked borrows) (asked_so told borrows) p q start to new_to kinds level
new_call r by before after old settled same asked told borrows p q start from to was_to new_to kinds level stands known reads place line entered =
    let s = sight by before old in
    let was = asked_so asked borrows in
    let now = asked_so told borrows in
    subst (λ (x : List (List ℕ)). NextInNew r s (sight by x old) settled was now p q start to new_to kinds level) (sym same)
    (record {
      comes = comes_from_if r s now was p from start (seen_at s now q to) kinds level (reads_comes r s now p q from to kinds level reads);
      stands = still_settled r s settled p q start to was_to new_to stands known (reads_stands r s p q from to kinds level reads);
      asks =
          AsksOn-then (asking_at s was p start) (asking_at s now p from) (asking_at s now q to) entered
          (reads_asks r s now p q from to kinds level reads place line);
    })

-- entering the line failed, whatever lines were asked for
pub failed_asks : (by : Scanner) (before after : List (List ℕ)) (old : OldText) → after ≡ before → (asked told : Asked) (p : Length) (from to : Line)
    → AsksOn (asking_at (sight by before old) asked p from) (asking_at (sight by before old) told p to)
    → AsksOn (asking_at (sight by before old) asked p from) (asking_at (sight by after old) told p to)
failed_asks by before after old same asked told p from to h =
    subst (λ (x : List (List ℕ)). AsksOn (asking_at (sight by before old) asked p from) (asking_at (sight by x old) told p to)) (sym same) h

-- ---- the last line

pub last_line : (s : Sight) (p : Length) (count : ℕ) → count ≡ length s.contents → p.lines < length s.contents → IsLast s p (eqb (p.lines + 1) count)
last_line s p count same within = either (eqb_tells (p.lines + 1) count)
  where
    either : ((eqb (p.lines + 1) count ≡ true) × (p.lines + 1 ≡ count)) ⊎ ((eqb (p.lines + 1) count ≡ false) × (p.lines + 1 ≢ count))
        → IsLast s p (eqb (p.lines + 1) count)
    either (inl last) = let number = last.1 in subst (IsLast s p) (sym last.0) (omega arith)
    either (inr more) = let number = more.1 in subst (IsLast s p) (sym more.0) (omega arith)

-- ---- a line that was entered

-- a line not known to be new was not scanned
pub unscanned : (scanned : Bool) (line new_to : ℕ) → (scanned ≡ true → line < new_to) → new_to ≤ line → scanned ≡ false
unscanned true line new_to h untold = absurd (omega (arith, h refl))
unscanned false line new_to h untold = refl

-- a reader inside a line that it did not scan is in a kept line
pub entered_kept : (s : Sight) (p : Length) (line : Line) → StandsAt s p line → line.scanned ≡ false → 0 < p.columns → IsKept s p
entered_kept s p line h unscanned within =
    by (mark_of s p) refl
    (subst (λ (b : Bool). IsInLine (mark_of s p) s.old.tree s.old.marks (sight_rows s) (sight_weights s) p b (tokens_left line) line.columns) unscanned h.in_line)
  where
    by : (m : Mark) → mark_of s p ≡ m → IsInLine m s.old.tree s.old.marks (sight_rows s) (sight_weights s) p false (tokens_left line) line.columns → IsKept s p
    by (Kept i) e in_it = (i, e)
    by New e in_it = absurd (let start : p.columns ≡ 0 = in_it in omega arith)

-- ---- numbers that fit

-- the reader's line, and the number of lines it asked for, are within the text
pub record HasNumbers (s : Sight) (p : Length) (line : Line) : Type 0 where
  pub within : p.lines < length s.old.marks
  pub asked : line.asked ≤ length s.old.marks

pub has_numbers : {s : Sight} {p : Length} {line : Line} → StandsAt s p line → HasNumbers s p line
has_numbers {s} {p} {line} h =
    let count = h.sound.counted in
    let told = h.asked in
    record { within = omega (arith, lines_within s p line h); asked = omega (arith, new_count s.old.marks) }
