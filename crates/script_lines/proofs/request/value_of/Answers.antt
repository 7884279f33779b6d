use Rattle.std.proofs.lemmas.Str.{is_utf8-from_IsUtf8, IsUtf8-from_is_utf8}
use Rattle.script_lines.proofs.request.value_of.Goals as goal

pub returns-in-Ok-clause-utf8 : goal.returns-in-Ok-clause-utf8
returns-in-Ok-clause-utf8 c = is_utf8-from_IsUtf8 _ c.in-Ok.ensures.ok.0

pub returns-in_default : goal.returns-in_default
returns-in_default c = record {
  utf8 = tt;
  ok = tt;
  syntax = λ _ utf8. c.in-Err.ensures.err (λ memory. c.in_default.not-Memory (c.classify.ensures.memory.1 memory)) (IsUtf8-from_is_utf8 _ utf8);
}
