-- A text along the ops of a batch, which are carried out from the last to the first.
use Rattle.std.proofs.Common.{◌≡◌, ℕ, ◌+◌, ◌-◌, ◌*◌, ◌<◌, ◌≤◌, List, [], length, drop, refl, ap, sym, ◌∙◌, arith}
use Rattle.std.proofs.lemmas.List.{drop_all}
use Rattle.text_rules.specs.declared.Op.{Op}
use Rattle.text_rules.specs.Edits.{edited}
use Rattle.batch_rules.specs.Batches.{applied_from, text_units, edited_backwards, StandFrom}
use Rattle.batch_rules.proofs.Backwards.{backwards_is_one_pass}
use Rattle.chunk_buffers.specs.Chunks.{Extends}
use Rattle.chunk_buffers.proofs.Spans.{Extends-refl, Extends-trans}
use Rattle.text_buffer.specs.Text.{Text}
use Rattle.text_buffer.specs.Room.{IsEnough, HasSpent, need_of_edit, part_count}
use Rattle.text_batches.specs.Growth.{HasGrown}
use Rattle.text_batches.specs.Needs.{edit_count, text_breaks, need_of_ops}
use Rattle.text_batches.proofs.Turns.{IsTurn}

-- what so many of the ops leave
pub record IsTextAfter (old : Text) (ops : List Op) (done : ℕ) (now : Text) : Type 0 where
  pub units : now.units ≡ edited_backwards old.units (drop (length ops - done) ops)
  pub kind : now.kind ≡ old.kind
  pub grown : HasGrown (edit_count (drop (length ops - done) ops)) old now
  pub spent : HasSpent (record { edits = edit_count (drop (length ops - done) ops); units = text_units (drop (length ops - done) ops); breaks = text_breaks (drop (length ops - done) ops) }) old.room now.room

module _ (old : Text) (ops : List Op) where
  pub text_before : IsTextAfter old ops 0 old
  text_before =
      let none : drop (length ops - 0) ops ≡ [] = drop_all (length ops - 0) ops (omega arith) in
      record {
        units = sym (ap (edited_backwards old.units) none);
        kind = refl;
        grown = record { pieces = omega (arith, ap edit_count none); buffers = Extends-refl old.buffers };
        spent = record { edits = omega (arith, ap edit_count none); units = omega arith; breaks = omega arith };
      }

  pub text_after : (now : Text) (done : ℕ) → StandFrom 0 old.units ops → length ops ≤ done → done ≤ length ops → IsTextAfter old ops done now
      → (now.units ≡ applied_from 0 old.units ops) × HasGrown (edit_count ops) old now × HasSpent (need_of_ops ops) old.room now.room
  text_after now done standing past within after =
      let all : length ops - done ≡ 0 = omega arith in
      let spent = after.spent in (
        after.units ∙ ap (λ (k : ℕ). edited_backwards old.units (drop k ops)) all ∙ backwards_is_one_pass old.units ops standing,
        record { pieces = omega (arith, after.grown.pieces, ap (λ (k : ℕ). edit_count (drop k ops)) all); buffers = after.grown.buffers },
        record {
          edits = omega (arith, spent.edits, ap (λ (k : ℕ). edit_count (drop k ops)) all);
          units = omega (arith, spent.units, ap (λ (k : ℕ). edit_count (drop k ops)) all, ap (λ (k : ℕ). text_units (drop k ops)) all);
          breaks = omega (arith, spent.breaks, ap (λ (k : ℕ). edit_count (drop k ops)) all, ap (λ (k : ℕ). text_breaks (drop k ops)) all);
        },
      )

  module _ (now : Text) (done : ℕ) (op : Op) (after : IsTextAfter old ops done now) (turn : IsTurn old.units ops done op now.units) where
    pub text_turn : (new : Text) → new.units ≡ edited now.units op → new.kind ≡ now.kind → length new.spans ≤ length now.spans + 2 * part_count op.text → Extends now.buffers new.buffers
        → HasSpent (need_of_edit op.text) now.room new.room → IsTextAfter old ops (done + 1) new
    text_turn new units kind pieces grown spent = record {
      units = units ∙ sym turn.leaves;
      kind = kind ∙ after.kind;
      grown = record {
        pieces = omega (arith, after.grown.pieces, pieces, turn.edits);
        buffers = Extends-trans old.buffers now.buffers new.buffers after.grown.buffers grown;
      };
      spent = record {
        edits = omega (arith, after.spent.edits, spent.edits, turn.edits);
        units = omega (arith, after.spent.units, spent.units, turn.edits, turn.units);
        breaks = omega (arith, after.spent.breaks, spent.breaks, turn.edits, turn.breaks);
      };
    }

    -- there is room for the op whose turn it is
    pub room_now : IsEnough old.room (need_of_ops ops) → IsEnough now.room (need_of_edit op.text)
    room_now room = record {
      edits = omega (arith, room.edits, after.spent.edits, turn.edits, turn.edits_left);
      units = omega (arith, room.units, after.spent.units, turn.edits, turn.edits_left, turn.units, turn.left);
      breaks = omega (arith, room.breaks, after.spent.breaks, turn.edits, turn.edits_left, turn.breaks, turn.breaks_left);
    }
