-- The reasons why the rule refuses a batch. Lack of memory is not among them: the rule needs none.
pub data BatchRefusal : Type 0 where
  -- the span of an edit is invalid for the text
  range : BatchRefusal
  -- two edits overlap
  overlap : BatchRefusal
  -- the new text would have too many units
  limit : BatchRefusal
