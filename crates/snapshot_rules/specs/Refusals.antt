-- The reasons why the rules of snapshots refuse a call. Lack of memory is not among them: the rules need none.
pub data ShelfRefusal : Type 0 where
  -- no open snapshot has this id
  unknown : ShelfRefusal
  -- the requested number of units is below the length of a pair of surrogates
  range : ShelfRefusal
  -- there would be too many snapshots, or no id is left for a new one
  limit : ShelfRefusal
