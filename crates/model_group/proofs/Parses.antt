-- What calls leave that leave the last parse.
use Rattle.std.proofs.Common.{refl, ◌∙◌, arith}
use Rattle.model_core.specs.State.{ModelState, KeepsParse}

pub KeepsParse-same : (m : ModelState) → KeepsParse m m
KeepsParse-same m = record {
  parsed = refl;
  tree = refl;
  marks = refl;
  states = refl;
  fresh = refl;
  pieces = refl;
  held = refl;
  overfull = refl;
  room = record { text = record { edits = omega arith; units = omega arith; breaks = omega arith }; marks = omega arith; changes = λ some. some };
}

pub KeepsParse-then : (a b c : ModelState) → KeepsParse a b → KeepsParse b c → KeepsParse a c
KeepsParse-then a b c first next = record {
  parsed = next.parsed ∙ first.parsed;
  tree = next.tree ∙ first.tree;
  marks = next.marks ∙ first.marks;
  states = next.states ∙ first.states;
  fresh = next.fresh ∙ first.fresh;
  pieces = next.pieces ∙ first.pieces;
  held = next.held ∙ first.held;
  overfull = next.overfull ∙ first.overfull;
  room = record {
    text = record {
      edits = omega (arith, first.room.text.edits, next.room.text.edits);
      units = omega (arith, first.room.text.units, next.room.text.units);
      breaks = omega (arith, first.room.text.breaks, next.room.text.breaks);
    };
    marks = omega (arith, first.room.marks, next.room.marks);
    changes = λ some. next.room.changes (first.room.changes some);
  };
}
