-- The tree of the last parse stays with the text: after edits, after steps back and on, and after a parse.
use Rattle.std.proofs.Common.{◌≡◌, ℕ, zero, suc, ◌+◌, ◌-◌, ◌<◌, ◌≤◌, ◌^◌, Bool, true, false, cond, List, [], ◌∷◌, length, drop, sum, slice_index_or, Option, Some, None, is_some, refl, ap, sym, subst, ◌∙◌, arith}
use Rattle.std.specs.Prelude.{replicate}
use Rattle.std.proofs.Math.Seq.{drop-cons}
use Rattle.std.proofs.lemmas.List.{length-map, length-replicate}
use Rattle.text_rules.specs.declared.Op.{Op}
use Rattle.text_rules.specs.Lines.{Line, lines_of}
use Rattle.text_rules.specs.Dirty.{first_dirty, old_dirty, new_dirty}
use Rattle.text_rules.specs.Edits.{edited}
use Rattle.batch_rules.specs.Batches.{applied_from, StandFrom, edited_backwards}
use Rattle.batch_rules.proofs.Backwards.{backwards_is_one_pass, backwards_step}
use Rattle.bracket_rules.specs.Rows.{Row}
use Rattle.bracket_tree_rules.specs.Told.{IsTreeOf}
use Rattle.bracket_tree_rules.specs.Tree.{Tree, tree_rows, highest, IsTree}
use Rattle.hiding_rules.specs.declared.LineState.{LineState}
use Rattle.hiding_rules.specs.declared.LineState.TheVariants.{Code}
use Rattle.hiding_rules.specs.Hidden.{Scanner}
use Rattle.hiding_rules.specs.Rows.{broken, hidden_rows}
use Rattle.hiding_rules.specs.Known.{Lead}
use Rattle.hiding_rules.proofs.Rows.{length-states_from, length-hidden_rows}
use Rattle.hiding_rules.proofs.NoBlock.{states_are_code}
use Rattle.line_states.specs.Lines.{text_weights}
use Rattle.line_states.specs.Settling.{Borders, borders, known_lines}
use Rattle.mark_rules.specs.declared.Mark.{Mark}
use Rattle.mark_rules.specs.declared.Mark.TheVariants.{New}
use Rattle.mark_rules.specs.Marks.{clean_marks, has_new}
use Rattle.mark_rules.proofs.MarkLaws.{length-kept_marks, has_new-kept_marks}
use Rattle.reuse_rules.specs.Agreement.{Agrees}
use Rattle.reuse_rules.specs.Edits.{IsEdited}
use Rattle.reuse_rules.proofs.EditedLines.{Agrees-edited, Agrees-clean}
use Rattle.node_reuse.specs.Texts.{IsTight}
use Rattle.node_reuse.specs.Reading.{AgreesIfThere}
use Rattle.document_rules.specs.Brackets.{line_contents}
use Rattle.model_page.specs.declared.change.Change.{Change}
use Rattle.model_page.specs.declared.change.Way.{Way}
use Rattle.model_page.specs.declared.change.Way.TheVariants.{Back, On}
use Rattle.document_rules.specs.Document.{FlatText}
use Rattle.decoration_rules.specs.LineMoves.{HaveSameContents}
use Rattle.model_page.specs.declared.change.Change.TheVariants.{Ops, Endings}
use Rattle.model_page.specs.Changes.{ops_by, led, text_back, changes_back, changes_on, LeadBack, LeadOn}
use Rattle.model_page.specs.Counts.{marking_ops, marking_count}
use Rattle.model_page.specs.Ways.{changes_by, LeadBy, marked_along}
use Rattle.model_page.specs.LineMarks.{marked_by, marked_backwards, marks_over, marked_back, marked_on}
use Rattle.model_page.specs.Staying.{fresh_tree, IsKept, IsTreeNow, last_lines, StaysWith}
use Rattle.model_page.specs.Asked.{AreStatesOf, KeptBy, HasLowTree}
use Rattle.model_page.proofs.LastLines.{last_lines_edited, clean_lines, Lead-new, Lead-edited, Lead-clean}
use Rattle.model_page.proofs.DirtyEdits.{lines_edited, IsEdited-map, length-after}
use Rattle.model_page.proofs.EditedMarks.{length-edited_marks, has_new-edited, AllNew-replicate, AllNew-edited, clean_where_kept}
use Rattle.model_page.proofs.Turns.{IsFit, fit_back, fit_on, marks_back, marks_on, marking_count-cons}

-- ---- trees of the text of now

no_tree : (by : Scanner) (x : List ℕ) (tree : Option Tree) (b : Bool) → b ≡ true → IsKept (cond b None tree) by x
no_tree by x tree true e = tt
no_tree by x tree false e = absurd cc

never_tree : (by : Scanner) (x : List ℕ) (b : Bool) → IsKept (cond b None None) by x
never_tree by x true = tt
never_tree by x false = tt

the_tree : (by : Scanner) (x : List ℕ) (tree : Option Tree) (b : Bool) → b ≡ false → IsKept tree by x → IsKept (cond b None tree) by x
the_tree by x tree true e kept = absurd cc
the_tree by x tree false e kept = kept

-- before any parse each line is new
pub stays_unparsed : (last : Borders) (by : Scanner) (x : List ℕ) (lines : ℕ) → last ≡ borders [] Code → lines ≡ length (lines_of x)
    → StaysWith None (replicate lines New) last by x
stays_unparsed last by x lines none count = record {
  count = length-replicate lines New ∙ count;
  agrees = AllNew-replicate lines;
  lead = Lead-new by last lines (line_contents x);
  plain = λ _. ap (λ (b : Borders). b.begins) none ∙ sym (ap (λ (b : Borders). replicate (length b.begins) Code) none);
  kept = never_tree by x (has_new (replicate lines New));
}

-- of the same tree, marks, states and text
pub stays_as : (old_tree tree : Option Tree) (old_marks marks : List Mark) (old_last last : Borders) (by : Scanner) (old_text x : List ℕ)
    → tree ≡ old_tree → marks ≡ old_marks → last ≡ old_last → x ≡ old_text
    → StaysWith old_tree old_marks old_last by old_text → StaysWith tree marks last by x
stays_as old_tree tree old_marks marks old_last last by old_text x trees are states texts stays =
    subst (λ t. StaysWith t marks last by x) (sym trees) (subst (λ ms. StaysWith old_tree ms last by x) (sym are)
    (subst (λ b. StaysWith old_tree old_marks b by x) (sym states) (subst (StaysWith old_tree old_marks old_last by) (sym texts) stays)))

kept_recast : (tree : Option Tree) (by : Scanner) (x y : List ℕ) → HaveSameContents x y → IsKept tree by x → IsKept tree by y
kept_recast None by x y same kept = tt
kept_recast (Some t) by x y same kept = record {
  table = kept.table;
  tells = subst (λ (contents : List (List ℕ)). IsTreeOf (hidden_rows by contents) t) same kept.tells;
  low = subst (λ (contents : List (List ℕ)). 2 ^ highest t ≤ sum (text_weights contents) + 1) same kept.low;
}

-- of a text whose lines hold the same
pub stays_recast : (tree : Option Tree) (marks : List Mark) (last : Borders) (by : Scanner) (x y : List ℕ) → HaveSameContents x y
    → StaysWith tree marks last by x → StaysWith tree marks last by y
stays_recast tree marks last by x y same stays = record {
  count = omega (
    arith,
    stays.count,
    length-map (lines_of x) (λ (line : Line). line.content),
    length-map (lines_of y) (λ (line : Line). line.content),
    ap length same,
  );
  agrees = subst (λ (contents : List (List ℕ)). AgreesIfThere tree marks (broken (last_lines last marks by contents))) same stays.agrees;
  lead = subst (Lead by (known_lines last marks)) same stays.lead;
  plain = stays.plain;
  kept = kept_recast (fresh_tree tree marks) by x y same stays.kept;
}

-- ---- an op

module _ (x : List ℕ) (op : Op) (ordered : op.span.start ≤ op.span.end) (within : op.span.end ≤ length x) where
  first : ℕ
  first = first_dirty x op.span

  old : ℕ
  old = old_dirty x op.span

  new : ℕ
  new = new_dirty x op.span op.text

  lines : IsEdited first old new (lines_of x) (lines_of (edited x op))
  unfolding first old new
  lines = lines_edited x op.span op.text ordered within

  contents : IsEdited first old new (line_contents x) (line_contents (edited x op))
  contents = IsEdited-map (λ (line : Line). line.content) first old new (lines_of x) (lines_of (edited x op)) lines

  -- there is a mark for each line
  pub as_many : (marks : List Mark) → length marks ≡ length (lines_of x) → length (marked_by x op marks) ≡ length (lines_of (edited x op))
  unfolding first old new
  as_many marks count =
      let inside = lines.within in
      omega (arith, count, length-edited_marks first old new marks (omega (arith, count, inside)), length-after first old new (lines_of x) (lines_of (edited x op)) lines)

  pub some_new : (marks : List Mark) → has_new (marked_by x op marks) ≡ true
  unfolding first old new
  some_new marks = has_new-edited first old new marks lines.more

  counted : (marks : List Mark) → length marks ≡ length (lines_of x) → length marks ≡ length (line_contents x)
  counted marks count = count ∙ sym (length-map (lines_of x) (λ (line : Line). line.content))

  agrees_if_there : (tree : Option Tree) (marks : List Mark) (last : Borders) (by : Scanner) → length marks ≡ length (lines_of x)
      → AgreesIfThere tree marks (broken (last_lines last marks by (line_contents x)))
      → AgreesIfThere tree (marked_by x op marks) (broken (last_lines last (marked_by x op marks) by (line_contents (edited x op))))
  unfolding first old new
  agrees_if_there None marks last by count agrees = AllNew-edited first old new marks agrees
  agrees_if_there (Some t) marks last by count agrees =
      let same = counted marks count in
      let rows = last_lines_edited last by first old new marks (line_contents x) (line_contents (edited x op)) contents same in
      record {
        tree = agrees.tree;
        tight = agrees.tight;
        rows = Agrees-edited (tree_rows t) first old new marks (last_lines last marks by (line_contents x))
            (last_lines last (marked_by x op marks) by (line_contents (edited x op))) rows agrees.rows;
      }

  lead_if_known : (marks : List Mark) (last : Borders) (by : Scanner) → length marks ≡ length (lines_of x) → Lead by (known_lines last marks) (line_contents x)
      → Lead by (known_lines last (marked_by x op marks)) (line_contents (edited x op))
  unfolding first old new
  lead_if_known marks last by count lead =
      Lead-edited last by first old new marks (line_contents x) (line_contents (edited x op)) contents (counted marks count) lead

  pub stays_edited : (tree : Option Tree) (marks : List Mark) (last : Borders) (by : Scanner) → StaysWith tree marks last by x
      → StaysWith tree (marked_by x op marks) last by (edited x op)
  stays_edited tree marks last by stays = record {
    count = as_many marks stays.count;
    agrees = agrees_if_there tree marks last by stays.count stays.agrees;
    lead = lead_if_known marks last by stays.count stays.lead;
    plain = stays.plain;
    kept = no_tree by (edited x op) tree (has_new (marked_by x op marks)) (some_new marks);
  }

-- ---- a batch

op_within : (at : ℕ) (x : List ℕ) (op : Op) (ops : List Op) → StandFrom at x (op ∷ ops) → op.span.end ≤ length (edited_backwards x ops)
op_within at x op ops standing = (backwards_step at x (op ∷ ops) 0 op standing (omega arith)).within

stays_backwards : (tree : Option Tree) (marks : List Mark) (last : Borders) (by : Scanner) (at : ℕ) (x : List ℕ) (ops : List Op) → StandFrom at x ops
    → StaysWith tree marks last by x → StaysWith tree (marked_backwards x ops marks) last by (edited_backwards x ops)
stays_backwards tree marks last by at x [] standing stays = stays
stays_backwards tree marks last by at x (op ∷ ops) standing stays =
    stays_edited (edited_backwards x ops) op standing.1 (op_within at x op ops standing) tree (marked_backwards x ops marks) last by
    (stays_backwards tree marks last by op.span.end x ops standing.2 stays)

pub stays_applied : (tree : Option Tree) (marks : List Mark) (last : Borders) (by : Scanner) (x : List ℕ) (ops : List Op) → StandFrom 0 x ops
    → StaysWith tree marks last by x → StaysWith tree (marked_backwards x ops marks) last by (applied_from 0 x ops)
stays_applied tree marks last by x ops standing stays =
    subst (StaysWith tree (marked_backwards x ops marks) last by) (backwards_is_one_pass x ops standing) (stays_backwards tree marks last by 0 x ops standing stays)

-- ---- a step

-- the op whose turn it is, after so many others from the last on
pub marked_turn : (x : List ℕ) (ops : List Op) (marks : List Mark) (done : ℕ) (op : Op) (now : List ℕ) (ms : List Mark) → done < length ops
    → op ≡ slice_index_or ops (length ops - 1 - done) op → now ≡ edited_backwards x (drop (length ops - done) ops) → ms ≡ marked_backwards x (drop (length ops - done) ops) marks
    → marked_by now op ms ≡ marked_backwards x (drop (length ops - (done + 1)) ops) marks
marked_turn x ops marks done op now ms inside is text marked =
    let i : ℕ = length ops - 1 - done in
    let here : length ops - (done + 1) ≡ i = omega arith in
    let next : length ops - done ≡ suc i = omega arith in
    let cut : drop i ops ≡ op ∷ drop (suc i) ops = drop-cons ops i op (omega arith) ∙ ap (λ o. o ∷ drop (suc i) ops) (sym is) in
    let now_is : now ≡ edited_backwards x (drop (suc i) ops) = text ∙ ap (λ (k : ℕ). edited_backwards x (drop k ops)) next in
    let marks_are : ms ≡ marked_backwards x (drop (suc i) ops) marks = marked ∙ ap (λ (k : ℕ). marked_backwards x (drop k ops) marks) next in
    ap (λ t. marked_by t op ms) now_is ∙ ap (marked_by (edited_backwards x (drop (suc i) ops)) op) marks_are
    ∙ sym (ap (λ o. marked_backwards x o marks) (ap (λ (k : ℕ). drop k ops) here ∙ cut))

-- ---- whether the tree is that of the text of now

-- so many ops leave a new line; none leaves the marks
pub MarkedBy : ℕ → List Mark → List Mark → Type 0
MarkedBy zero before after = after ≡ before
MarkedBy (suc ops) before after = has_new after ≡ true

marked_more : (n a b : ℕ) (old mid new : List Mark) → n ≡ b + a → MarkedBy a old mid → MarkedBy b mid new → MarkedBy n old new
unfolding MarkedBy
marked_more zero zero zero old mid new sum first second = second ∙ first
marked_more zero (suc a) b old mid new sum first second = absurd (omega arith)
marked_more zero zero (suc b) old mid new sum first second = absurd (omega arith)
marked_more (suc n) a (suc b) old mid new sum first second = second
marked_more (suc n) (suc a) zero old mid new sum first second = ap has_new second ∙ first
marked_more (suc n) zero zero old mid new sum first second = absurd (omega arith)

pub marked_ops : (at : ℕ) (x : List ℕ) (ops : List Op) (marks : List Mark) → StandFrom at x ops → MarkedBy (length ops) marks (marked_backwards x ops marks)
unfolding MarkedBy
marked_ops at x [] marks standing = refl
marked_ops at x (op ∷ ops) marks standing =
    some_new (edited_backwards x ops) op standing.1 (op_within at x op ops standing) (marked_backwards x ops marks)

pub marked_over : (way : Way) (c : Change) (now : FlatText) (marks : List Mark) → IsFit way c now → MarkedBy (marking_ops way c) marks (marks_over way c now.units marks)
unfolding MarkedBy
marked_over way (Ops ops inverse) now marks fit = marked_ops 0 now.units (ops_by way (Ops ops inverse)) marks fit.standing
marked_over way (Endings r) now marks fit = refl

marked_step_back : (marks : List Mark) (after : FlatText) (cs : List Change) → LeadBack after cs → MarkedBy (marking_count Back cs) marks (marked_back marks (changes_back after cs))
unfolding MarkedBy
marked_step_back marks after [] lead = refl
marked_step_back marks after (c ∷ cs) lead =
    let mid : List Mark = marked_back marks (changes_back after cs) in
    let now : FlatText = text_back after cs in
    subst (MarkedBy (marking_count Back (c ∷ cs)) marks) (sym (marks_back (text_back after (c ∷ cs)) now c mid lead.0))
    (marked_more (marking_count Back (c ∷ cs)) (marking_count Back cs) (marking_ops Back c) marks mid (marks_over Back c now.units mid) (marking_count-cons Back c cs)
    (marked_step_back marks after cs lead.1) (marked_over Back c now mid (fit_back _ _ c lead.0)))

marked_step_on : (marks : List Mark) (before : FlatText) (cs : List Change) → LeadOn before cs → MarkedBy (marking_count On cs) marks (marked_on marks (changes_on before cs))
unfolding MarkedBy
marked_step_on marks before [] lead = refl
marked_step_on marks before (c ∷ cs) lead =
    let after : FlatText = led On c before in
    let mid : List Mark = marks_over On c before.units marks in
    subst (λ ms. MarkedBy (marking_count On (c ∷ cs)) marks (marked_on ms (changes_on after cs))) (sym (marks_on before c marks))
    (marked_more (marking_count On (c ∷ cs)) (marking_ops On c) (marking_count On cs) marks mid (marked_on mid (changes_on after cs)) (omega (arith, marking_count-cons On c cs))
    (marked_over On c before marks (fit_on before after c lead.0)) (marked_step_on mid after cs lead.1))

pub marked_by_way : (way : Way) (marks : List Mark) (now : FlatText) (cs : List Change) → LeadBy way now cs
    → MarkedBy (marking_count way cs) marks (marked_along way marks (changes_by way now cs))
marked_by_way Back marks now cs lead = marked_step_back marks now cs lead
marked_by_way On marks now cs lead = marked_step_on marks now cs lead

kept_by : (ops : ℕ) (tree : Option Tree) (before after : List Mark) → MarkedBy ops before after → KeptBy ops (is_some (fresh_tree tree before)) (is_some (fresh_tree tree after))
unfolding MarkedBy
kept_by zero tree before after marked = ap (λ marks. is_some (fresh_tree tree marks)) marked
kept_by (suc ops) tree before after marked = rw marked refl

-- of the same tree and marks
pub kept_as : (n ops : ℕ) (old_tree tree : Option Tree) (before after marks : List Mark) (was : Bool) → n ≡ ops → tree ≡ old_tree → marks ≡ after
    → is_some (fresh_tree old_tree before) ≡ was → MarkedBy n before after → KeptBy ops was (is_some (fresh_tree tree marks))
kept_as n ops old_tree tree before after marks was count trees are old marked =
    subst (λ k. KeptBy k was (is_some (fresh_tree tree marks))) count
    (subst (λ b. KeptBy n b (is_some (fresh_tree tree marks))) old
    (subst (λ t. KeptBy n (is_some (fresh_tree old_tree before)) (is_some (fresh_tree t marks))) (sym trees)
    (subst (λ ms. KeptBy n (is_some (fresh_tree old_tree before)) (is_some (fresh_tree old_tree ms))) (sym are) (kept_by n old_tree before after marked))))

-- ---- a parse

pub stays_parsed : (t : Tree) (marks : List Mark) (by : Scanner) (x : List ℕ) (states : Borders) → length marks ≡ length (lines_of x)
    → IsTree t → IsTreeNow t by x → IsTight t → AreStatesOf by x states → StaysWith (Some t) (clean_marks (length marks)) states by x
stays_parsed t marks by x states count good now tight are =
    let contents : List (List ℕ) = line_contents x in
    let rows : List Row = hidden_rows by contents in
    let as_contents : length contents ≡ length marks = length-map (lines_of x) (λ (line : Line). line.content) ∙ sym count in
    let as_rows : length rows ≡ length marks = length-hidden_rows by contents ∙ as_contents in
    let same : broken (last_lines states (clean_marks (length marks)) by contents) ≡ rows =
    ap (λ n. broken (last_lines states (clean_marks n) by contents)) (sym as_contents) ∙ ap broken (clean_lines by contents states are.begins) in
    record {
      count = length-kept_marks 1 (length marks) ∙ count;
      agrees = record {
        tree = good;
        tight = tight;
        rows = subst (λ now. Agrees (tree_rows t) (clean_marks (length marks)) now) (sym same)
            (subst (λ old. Agrees old (clean_marks (length marks)) rows) (sym now.tells.spells) (subst (λ n. Agrees rows (clean_marks n) rows) as_rows (Agrees-clean rows)));
      };
      lead = subst (λ n. Lead by (known_lines states (clean_marks n)) contents) as_contents (Lead-clean by contents states are.begins are.ends);
      plain = λ without. are.begins ∙ states_are_code by without contents
          ∙ ap (λ n. replicate n Code) (sym (length-states_from by Code contents)) ∙ sym (ap (λ (begins : List LineState). replicate (length begins) Code) are.begins);
      kept = the_tree by x (Some t) (has_new (clean_marks (length marks))) (has_new-kept_marks 1 (length marks)) now;
    }

clean_if : (tree : Option Tree) (marks : List Mark) (last : Borders) (by : Scanner) (x : List ℕ) (b : Bool) → has_new marks ≡ b
    → is_some (cond b None tree) ≡ true → StaysWith tree marks last by x → marks ≡ clean_marks (length marks)
clean_if tree marks last by x true e some stays = absurd cc
clean_if None marks last by x false e some stays = absurd cc
clean_if (Some t) marks last by x false e some stays = clean_where_kept marks e stays.agrees.rows.rises stays.agrees.rows.begins

-- where the tree is that of the text, each line is kept as itself
pub clean_where_fresh : (tree : Option Tree) (marks : List Mark) (last : Borders) (by : Scanner) (x : List ℕ) → is_some (fresh_tree tree marks) ≡ true
    → StaysWith tree marks last by x → marks ≡ clean_marks (length marks)
clean_where_fresh tree marks last by x some stays = clean_if tree marks last by x (has_new marks) refl some stays

-- ... and no list of it is high
pub low_where_fresh : (tree : Option Tree) (by : Scanner) (x : List ℕ) (b : Bool) → is_some (cond b None tree) ≡ true → IsKept (cond b None tree) by x
    → HasLowTree tree x
low_where_fresh tree by x true some kept = absurd cc
low_where_fresh None by x false some kept = absurd cc
low_where_fresh (Some t) by x false some kept = kept.low
