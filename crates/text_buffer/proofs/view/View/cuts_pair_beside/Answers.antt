use Rattle.std.proofs.Common.{◌≡◌, ◌-◌, ◌&&◌, Bool, true, false, get_or, ap, refl, sym, ◌∙◌, arith}
use Rattle.std.specs.Prelude.{nat_lt}
use Rattle.std.specs.Char.Utf16.{is_high_surrogate, is_low_surrogate}
use Rattle.std.proofs.lemmas.Bool.{lt-ltb}
use Rattle.piece_tree.specs.Pieces.{pieces_of}
use Rattle.unit_text.specs.Units.{cuts_pair}
use Rattle.text_buffer.specs.Text.{spelled}
use Rattle.text_buffer.proofs.view.View.cuts_pair_beside.Goals as goal
use Rattle.text_buffer.proofs.view.View.cuts_pair_beside.Goals.{then-offset-eq0-via-then-offset-eq0, then-offset-eq0-via-else-offset-eq0+then-not-is_low_surrogate}

no_pair : (a b : Bool) → (a && b && false) ≡ false
no_pair false b = refl
no_pair true false = refl
no_pair true true = refl

pub returns-then-offset-eq0-clause-cuts : goal.returns-then-offset-eq0-clause-cuts
returns-then-offset-eq0-clause-cuts g c =
    let x = spelled c.args.self.now.chunks.now.buffers (pieces_of c.args.self.now.pieces.now.entries) in
    elim c.then-offset-eq0.branch [
      | then-offset-eq0-via-then-offset-eq0 w ↦ sym (ap (cuts_pair x) w.if-offset-eq0.true)
      | then-offset-eq0-via-else-offset-eq0+then-not-is_low_surrogate w ↦
          let none = ap is_low_surrogate (sym c.unit_in-unit.ensures) ∙ sym w.is_low_surrogate.ensures ∙ w.if-not-is_low_surrogate.true in
          sym (ap (λ t. nat_lt 0 c.args.offset && is_high_surrogate (get_or x (c.args.offset - 1) 0) && t) none
          ∙ no_pair (nat_lt 0 c.args.offset) (is_high_surrogate (get_or x (c.args.offset - 1) 0)))
    ]

pub piece_with-holder-requires-clause-near : goal.piece_with-holder-requires-clause-near
piece_with-holder-requires-clause-near g c = c.nearer-nearest.ensures c.args.self.now.pieces.now.entries c.requires.unit.piece c.requires.near

pub returns-clause-cuts : goal.returns-clause-cuts
returns-clause-cuts g c =
    let x = spelled c.args.self.now.chunks.now.buffers (pieces_of c.args.self.now.pieces.now.entries) in
    c.cuts_pair.ensures
    ∙ ap (λ u. is_high_surrogate u && is_low_surrogate c.unit_in-unit.result) c.unit_in-before.ensures
    ∙ ap (λ u. is_high_surrogate (get_or x (c.args.offset - 1) 0) && is_low_surrogate u) c.unit_in-unit.ensures
    ∙ ap (λ t. t && is_high_surrogate (get_or x (c.args.offset - 1) 0) && is_low_surrogate (get_or x c.args.offset 0)) (sym (lt-ltb 0 c.args.offset (omega (arith, c.if-offset-eq0.false))))
