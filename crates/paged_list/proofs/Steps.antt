-- The names that this crate's walks through raw memory cite, passed on from one place. Declares nothing.
pub use Rattle.std.proofs.Common.{◌≡◌, ℕ, zero, suc, ◌+◌, ◌*◌, ◌<◌, ◌≤◌, ◌^◌, List, [], ◌∷◌, ◌++◌, length, get_or, set, replicate, Option, Some, None, Ok, Err, IfOk, true, false, MutBor, refl, sym, ap, subst, ◌∙◌, arith, lit<, w64, length-set, zero-mul, suc-mul, mul-le-mul_right}
pub use Rattle.std.specs.Mem.{type_size}
pub use Rattle.std.specs.Vec.Ownership.{FitsInBlock}
pub use Rattle.std.specs.declared.alloc.Allocator.{Ghosts}
pub use seplogic.Ra.Ura.{Ura}
pub use base.Fml.{Fml, Lft, Share, GName, ftrue, fat, fhide, flft, fobor, fbor, fobs, fauth, froom, fsep}
pub use base.Fraction.{full_share}
pub use base.Logic.{SProp, ent, sep, emp, id⊢, never}
pub use base.Stored.{Gv}
pub use borrow.Table.OneValue.{part_in, part_out}
pub use contract.BorrowLft.{◌⊑◌, ⊑_trans}
pub use contract.Monad.{fact, fact_i}
pub use contract.Running.{tables}
pub use denote.Builtin.{RefOf, usize}
pub use denote.Exit.{no, yes}
pub use denote.Follow.{Part, follows, lends_Part}
pub use denote.Laws.{Is, shows}
pub use denote.Memory.{cell_at, hidden_shr, lone, mem, part_at}
unfoldable pub use denote.Memory.{part_of}
pub use denote.Opens.{hide, shr_dup, unhide}
pub use denote.Param.{bounded, layout, param}
pub use denote.Param.Laws.{Laws, param_laws}
pub use denote.RattleType.{RattleType, owns}
pub use denote.RawPtr.{Ptr, RawPtr, block_ptr, in_a_block, ptr_row_laws, ptr_val}
pub use denote.Ref.{MutRef, mut_Tells}
pub use denote.Shadow.{makes_shadow}
pub use denote.Signature.{Slot, mut_ref_to, plain, type_at, types_at}
pub use denote.Steps.{closes, heard, nothing, opens, peeks}
pub use denote.Struct.Lending.{lent_out}
pub use denote.Struct.Owning.{Owning, shape, to}
pub use denote.Struct.Struct.{Struct}
pub use denote.Triple.Call.{calls_at, calls_at_last}
pub use denote.Triple.Table.{framed}
pub use denote.Triple.Walked.{Goes-dropped, Goes-ref, Goes-spent_ref, Stays, stay_dropped, stay_ref, walk_of}
pub use mir.MapTy.{inst_fn}
pub use mir.Raw.{raw as bare}
pub use mir.Syntax.{Args, Body, Dict, Fn, Ty, a_type, dcons, dnil, named, place, ty_array}
pub use mir.Val.{Val, vcons, vint, vnil, vptr, vstruct, vunit}
pub use prog.Capped.{capped_fits, capped_is}
pub use prog.Memory.{align, capped, size}
pub use prog.RawLaws.{align-raw, size-raw}
pub use prog.Wp.{Calls, Env, Heap, Loops, Out, Wp, WpFn, after_block, after_seq}
pub use types.ByLocal.{alloc_all, env, free_all, get, get_in, get_tag, lands_as, lands_last, look_at, pass_all, sets, sets_last, through}
pub use types.Kit.{Goal, Item, Post, Seq, Soaks, Step, any_q, at_ret, await, by, done, drop, feq_i, fjoin, fjoin3, flt_i, flt_l, fpack, frame, fsplit, fsplit3, given, group, join, keep, later, learn, move, pick, post, prop, qed, raw, regoal, rewrite, settles, some, split, split3, step, use0, use1, use2, use3, ‵, ◌⊛◌, ◌$◌, ◌∵◌, ! }
pub use types.Logic.{Logic, sem}
pub use types.Match.{in_variant, live, vrt}
pub use types.Part.{agg, look_in, sub, whole as all_of}
pub use types.Run.{addr, align_word, and_then, assigns_last, bin, blocks, enter, exec, first, fld, init, lit, load, look, no_more, of_opd, returns, size_lit, stop, switches_on, unit_lit, well_typed}
pub use types.SemTy.{Body as Borrowed}
pub use Rattle.std.proofs.alloc.Calls.{Al, Answer-typed, Answered, Gives, Gives-Gives, Gives-goes, Goes-blank, Takes, Takes-gives, Takes-goes, answers, at_gives, at_takes, seen}
pub use Rattle.std.proofs.alloc.Shapes.{after, arm_body, head}
pub use Rattle.std.proofs.cell.Inside.{Good, one}
pub use Rattle.std.proofs.lemmas.List.{length-replicate}
pub use Rattle.std.proofs.raw_atomic.Walks.{leaves, proved_at}
pub use Rattle.std_alloc.proofs.ResultValues.{err_of, ok_of}
pub use Rattle.std_alloc.proofs.Words.{pointer_in, pointer_out}
