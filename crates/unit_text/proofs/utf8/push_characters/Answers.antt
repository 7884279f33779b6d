use Rattle.std.proofs.Common.{sym, ap, ◌++◌, ◌∙◌, arith}
use Rattle.std.proofs.lemmas.Grind.{common_steps}
use Rattle.std.proofs.lemmas.List.{append_assoc}
use Rattle.std.specs.Char.Escape.{encode_utf16}
use Rattle.std.specs.Str.Iter.{chars_rest}
use Rattle.unit_text.specs.Text.{units_of}
use Rattle.unit_text.proofs.Fronts.{past_character}
use Rattle.unit_text.proofs.utf8.push_characters.Goals as goal

pub loop-preserved : goal.loop-preserved
loop-preserved c =
    let past = past_character (chars_rest c.loop.chars) (chars_rest c.next.new.self) c.in-Some.c c.loop.invariant.utf8 c.in-Some.ensures.steps.0 in
    record {
      utf8 = past.0;
      text = rw c.in_ok-push_char-in-Some.ensures.ok
          (append_assoc c.loop.out.items (encode_utf16 c.in-Some.c) (units_of (chars_rest c.next.new.self))
          ∙ ap (λ units. c.loop.out.items ++ units) (sym past.1) ∙ c.loop.invariant.text);
      shorter = omega (arith, past.2, c.loop.invariant.shorter);
      before = grind (arith, common_steps);
      grown = grind (arith, common_steps);
    }
