-- A box and its parts: one address and one allocator, and what they own.
pub use Rattle.std.proofs.Common.{◌≡◌, List, [], ◌∷◌, ◌++◌, refl, sym, ap, ◌∙◌, subst, lit<}
pub use lib.Dec.{T}
pub use mir.Syntax.{Fn, Args, Dict, a_type, dcons, dnil}
pub use mir.MapTy.{inst_fn}
pub use mir.Raw.{raw as bare}
pub use mir.Val.{Val, vptr, vnull, vstruct, vcons, vnil, of_list, has_ty, WT}
pub use base.Logic.{SProp, ent, emp, never, never_e, guard_i, id⊢, fst∗}
pub use base.Fml.{ftrue, ffalse, fsep, flft}
pub use prog.Wp.{WpFn}
pub use types.Logic.{Logic, sem}
pub use types.Kit.{Goal, Seq, Step, step, Item, ‵, raw, ◌⊛◌, some, later, given, at_ret, ◌$◌, ◌∵◌, !, qed, by, move, keep, drop, split, split3, join, fsplit, fjoin, fpick, fpack, pick, learn, suffices, use0, use1, await, rewrite, feq_i, feq_l, done}
pub use types.Run.{stop, fld, lit, of_opd, bin, no_more, and_then, first, blocks, branches, skips, exec, returns, returns_within, enter}
pub use types.ByLocal.{alloc_all, pass_all, free_all, look_at, get, get_in, sets, lands_as, lands_last, env}
pub use types.Part.{agg, sub, whole}
pub use types.Match.{live}
pub use contract.Monad.{fact, fact_i, fact_use}
pub use contract.BorrowLft.{◌⊑◌}
pub use contract.Running.{tables}
pub use denote.Exit.{yes, no}
pub use denote.RattleType.{RattleType, Valss, owns}
pub use denote.Signature.{plain, type_at}
pub use denote.RawPtr.{Ptr, RawPtr, block_ptr, null_ptr, ptr_val, in_a_block, Testable, tests_null}
pub use denote.Steps.{nothing, only, heard}
pub use denote.Param.{layout, bounded}
pub use denote.Struct.Tuple.{Tuple}
pub use denote.Struct.Struct.{within}
pub use denote.Struct.Owning.{shape}
pub use denote.Triple.Clauses.{Ended, Lasts, lasts}
pub use denote.Triple.Spec.{triple_of}
pub use denote.Triple.Call.{calls_at, calls_at_last}
pub use denote.Triple.Walked.{Stays, stay_dropped, walk_of, Goes-dropped}
pub use Rattle.core.proofs.alloc.Calls.{Goes-blank, handle_tells, token, Fits, α}
pub use Rattle.core.proofs.alloc.Shapes.{after}
pub use Rattle.std_alloc.proofs.ResultValues.{and_tt}
pub use seplogic.Ra.Ura.{Ura}
pub use Rattle.core.proofs.atomic.Steps.{fm}
pub use Rattle.core.proofs.option.Made.{Some-of, none_of}
pub use Rattle.std_alloc.specs.Box.Ownership.{box_owns}
pub use Rattle.std_alloc.proofs.BoxSteps.Form.{Bx, D, P, R, B, τ, word, handle, box_typed}
pub use Rattle.std_alloc.proofs.BoxSteps.Steps.{box_out, box_in}
pub use Rattle.std.proofs.raw_atomic.Walks.{proved_at, leaves}
use denote.Param.Laws.{Laws}
use Rattle.core.specs.declared.alloc.Allocator.{Ghosts}
use Rattle.textmodel_c.specs.contracts.handle.raw_box.RawBox as raw_box

-- the types of a box, with what is passed for its two parameters
abbrev pub form : (T A : RattleType) → Laws T → Laws A → Ghosts A.Denot → Dict → Dict → Bx
form T A LT LA g d drops = record { row = T; laws = LT; al = record { row = A; laws = LA; g = g; d = d; drops = drops } }

-- a box by its address
abbrev pub Raw : Bx → RattleType
Raw E = raw_box.the_row (R E) (P E) E.al.g

abbrev pub raw_of : (E : Bx) → D E → (Raw E).Denot
raw_of E d = record { at = d.ptr; alloc = d.alloc; value = d.value }

abbrev pub box_of : (E : Bx) → (Raw E).Denot → D E
box_of E r = record { ptr = r.at; alloc = r.alloc; value = r.value }
