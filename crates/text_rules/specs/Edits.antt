-- Edits of a text.
use Rattle.std.specs.Prelude.{ℕ, List, ◌++◌, take, drop, Bool, not, ◌&&◌, ◌||◌, nat_lt}
use Rattle.text_lengths.specs.declared.Span.{Span}
use Rattle.unit_text.specs.declared.kind.Kind.{Kind}
use Rattle.unit_text.specs.Kinds.{is_place_in}
use Rattle.text_rules.specs.declared.Op.{Op}

-- the span is invalid in a text of the kind: its start is greater than its end, or one of the two is no valid offset
abbrev pub is_bad_span : Kind → List ℕ → Span → Bool
is_bad_span kind x span = nat_lt span.end span.start || not (is_place_in kind x span.start && is_place_in kind x span.end)

-- the text after the op's text replaces its span
abbrev pub edited : List ℕ → Op → List ℕ
edited x op = take op.span.start x ++ op.text ++ drop op.span.end x
