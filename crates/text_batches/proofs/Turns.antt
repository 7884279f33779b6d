-- One turn of the walk along the ops of a batch, from the last to the first.
use Rattle.std.proofs.Common.{◌≡◌, ℕ, suc, ◌+◌, ◌-◌, ◌<◌, ◌≤◌, List, length, drop, get_or, slice_index_or, ap, sym, subst, ◌∙◌, arith}
use Rattle.std.specs.Prelude.{sum_by}
use Rattle.std.proofs.lemmas.List.Sums.{sum_by-drop_more, sum_by-take-drop}
use Rattle.text_rules.specs.declared.Op.{Op}
use Rattle.text_rules.specs.Edits.{edited}
use Rattle.line_starts.specs.Starts.{break_count}
use Rattle.batch_rules.specs.Batches.{text_units, StandFrom, edited_backwards}
use Rattle.batch_rules.proofs.Backwards.{backwards_step, backwards_few, IsStep}
use Rattle.text_buffer.specs.Room.{part_count}
use Rattle.text_batches.specs.Needs.{edit_count, text_breaks}

-- the op whose turn it is, after so many others, on the text of the moment
pub record IsTurn (x : List ℕ) (ops : List Op) (done : ℕ) (op : Op) (now : List ℕ) : Type 0 where
  pub ordered : op.span.start ≤ op.span.end
  pub within : op.span.end ≤ length now
  pub leaves : edited_backwards x (drop (length ops - (done + 1)) ops) ≡ edited now op
  pub few : length (edited now op) ≤ length x + text_units ops
  pub units : text_units (drop (length ops - (done + 1)) ops) ≡ length op.text + text_units (drop (length ops - done) ops)
  pub left : text_units (drop (length ops - (done + 1)) ops) ≤ text_units ops
  pub edits : edit_count (drop (length ops - (done + 1)) ops) ≡ part_count op.text + edit_count (drop (length ops - done) ops)
  pub edits_left : edit_count (drop (length ops - (done + 1)) ops) ≤ edit_count ops
  pub breaks : text_breaks (drop (length ops - (done + 1)) ops) ≡ break_count op.text + text_breaks (drop (length ops - done) ops)
  pub breaks_left : text_breaks (drop (length ops - (done + 1)) ops) ≤ text_breaks ops

-- a sum over the ops from a place on
sum_from : (f : Op → ℕ) (ops : List Op) (i : ℕ) (op : Op) → i < length ops → op ≡ get_or ops i op → sum_by f (drop i ops) ≡ f op + sum_by f (drop (suc i) ops)
sum_from f ops i op inside is =
    let sum = sum_by-drop_more {X = Op} f ops i op inside in
    let own : f (get_or ops i op) ≡ f op = ap f (sym is) in
    let more : i + 1 ≡ suc i = omega arith in
    let rest : sum_by f (drop (i + 1) ops) ≡ sum_by f (drop (suc i) ops) = ap (λ (k : ℕ). sum_by f (drop k ops)) more in
    omega (arith, sum, own, rest)

turn_at : (x : List ℕ) (ops : List Op) (i done : ℕ) (op : Op) (now : List ℕ) → StandFrom 0 x ops → i < length ops → length ops - (done + 1) ≡ i → length ops - done ≡ suc i
    → op ≡ get_or ops i op → now ≡ edited_backwards x (drop (suc i) ops) → IsTurn x ops done op now
turn_at x ops i done op now standing inside here next is text =
    let step : IsStep x op now (edited_backwards x (drop i ops)) =
    subst (λ t. IsStep x op t (edited_backwards x (drop i ops))) (sym text)
    (subst (λ o. IsStep x o (edited_backwards x (drop (suc i) ops)) (edited_backwards x (drop i ops))) (sym is) (backwards_step 0 x ops i op standing inside)) in
    let few : length (edited_backwards x (drop i ops)) ≤ length x + text_units ops = backwards_few 0 x ops i standing in
    let units : text_units (drop i ops) ≡ length op.text + text_units (drop (suc i) ops) = sum_from (λ o. length o.text) ops i op inside is in
    let edits : edit_count (drop i ops) ≡ part_count op.text + edit_count (drop (suc i) ops) = sum_from (λ o. part_count o.text) ops i op inside is in
    let breaks : text_breaks (drop i ops) ≡ break_count op.text + text_breaks (drop (suc i) ops) = sum_from (λ o. break_count o.text) ops i op inside is in
    let all = sum_by-take-drop {X = Op} (λ o. length o.text) ops i in
    let all_edits = sum_by-take-drop {X = Op} (λ o. part_count o.text) ops i in
    let all_breaks = sum_by-take-drop {X = Op} (λ o. break_count o.text) ops i in
    record {
      ordered = step.ordered;
      within = step.within;
      leaves = rw here step.leaves;
      few = subst (λ t. length t ≤ length x + text_units ops) step.leaves few;
      units = rw (here, next) units;
      left = rw here (omega (arith, all));
      edits = rw (here, next) edits;
      edits_left = rw here (omega (arith, all_edits));
      breaks = rw (here, next) breaks;
      breaks_left = rw here (omega (arith, all_breaks));
    }

pub turn : (x : List ℕ) (ops : List Op) (done : ℕ) (op : Op) (now : List ℕ) → StandFrom 0 x ops → done < length ops
    → op ≡ slice_index_or ops (length ops - 1 - done) op → now ≡ edited_backwards x (drop (length ops - done) ops) → IsTurn x ops done op now
turn x ops done op now standing inside is text =
    let next : length ops - done ≡ suc (length ops - 1 - done) = omega arith in
    turn_at x ops (length ops - 1 - done) done op now standing (omega arith) (omega arith) next is (text ∙ ap (λ (k : ℕ). edited_backwards x (drop k ops)) next)
