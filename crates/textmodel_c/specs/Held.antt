-- What a handle owns.
use Rattle.std.specs.Prelude.{Option, None, Some}
use base.Fml.{Fml, ftrue, ffalse}
use Rattle.std.specs.Coded.{Coded, coded_option}
use denote.RawPtr.{Ptr, null_ptr, block_ptr}
use Rattle.std.specs.Box.Ownership.{box_owns}
use Rattle.std.specs.Global.{Global}
use Rattle.std.specs.contracts.impls.GlobalAllocator.TheImpl.{ghosts}
use Rattle.textmodel_c.specs.contracts.contents.Contents.{the_row}

-- only the null pointer
abbrev pub is_null : Ptr → Fml
is_null null_ptr = ftrue
is_null (block_ptr b o) = ffalse

abbrev pub handle_owns : Global → Ptr → Option the_row.Denot → Fml
handle_owns alloc at None = is_null at
handle_owns alloc at (Some x) = box_owns (ghosts.dealloc_token alloc) the_row at x

abbrev pub held_coded : Coded (Option the_row.Denot)
held_coded = coded_option the_row.coded
