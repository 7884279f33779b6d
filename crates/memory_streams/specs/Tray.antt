-- The bytes that a tray shows.
use Rattle.std.specs.Prelude.{ℕ, List, Option, Some, None, if◌then◌else◌}
use Rattle.memory_streams.specs.declared.tray.Tray.{Tray}

-- all the bytes that were put on the tray, or None once they exceeded its room
abbrev pub bytes_told : Tray → Option (List ℕ)
bytes_told tray = if tray.overflowed then None else Some tray.bytes.items
