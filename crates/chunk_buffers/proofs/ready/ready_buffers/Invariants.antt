-- The buffers made so far are ready.
use Rattle.std.proofs.Common.{◌≡◌, length}
use Rattle.std.specs.List.{All}
use Rattle.chunk_buffers.specs.Chunks.{IsReady}
use Rattle.chunk_buffers.proofs.ready.ready_buffers.Given as goal

abbrev pub invariant-loop-buffer : goal.invariant-loop-buffer
invariant-loop-buffer l = record {
  full : All (IsReady l.breaks) l.ready.items;
  count : length l.ready.items ≡ l._buffer;
}
