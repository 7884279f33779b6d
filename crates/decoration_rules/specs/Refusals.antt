-- The reasons why the rule refuses a change of decorations. Lack of memory is not among them: the rule needs none.
pub data DecoRefusal : Type 0 where
  -- a given id is not live, belongs to another owner, or is given twice
  unknown : DecoRefusal
  -- a span is invalid for the text, or a mode is invalid
  range : DecoRefusal
  -- there would be too many decorations, or no id is left for a new one
  limit : DecoRefusal
