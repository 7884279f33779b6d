-- The reasons for which a rule of the flat document refuses. Lack of memory is not among them: the flat document allocates none.
pub data FlatRefusal : Type 0 where
  -- a named item does not exist
  unknown : FlatRefusal
  -- an offset, a position, a line or a span is invalid in the text
  range : FlatRefusal
  -- two edits of a batch overlap
  overlap : FlatRefusal
  -- a limit would be exceeded
  limit : FlatRefusal
