-- The names that the proofs by hand of the calls on a living switch cite, from here on.
pub use Rattle.std.proofs.Common.{◌≡◌, ℕ, List, [], ◌∷◌, ◌++◌, refl, ap, w32, w64, MutBor, Bor}
pub use Rattle.std.proofs.raw_atomic.Walks.{proved}
pub use base.Fraction.{full_share}
pub use base.Logic.{id⊢, sep}
pub use base.Fml.{ftrue, flft, fres, fsep, fbor, flent, feq}
pub use mir.Syntax.{named}
pub use mir.Val.{Val, vunit, vint, vptr}
pub use types.Logic.{sem}
pub use contract.Monad.{fact}
pub use contract.Running.{tables}
pub use types.Kit.{‵, raw, ◌⊛◌, some, later, prop, at_ret, ◌$◌, ◌∵◌, !, qed, done, move, keep, drop, use1, use2, use3, split, join, fsplit, fjoin, feq_i, feq_l, pick, await, rewrite, regoal, suffices, frame, group, show}
pub use types.Run.{enter, of_opd, unit_lit, addr, from, hop, stop, fld, no_more, and_then, first, blocks, exec, returns}
pub use types.ByLocal.{alloc_all, pass_all, free_all, look_at, look_in_at, get, get_in, through, sets, sets_last, lands_as, env}
pub use types.Part.{whole, sub, agg}
pub use types.Tokens.{lft_new, lft_end}
pub use types.SemTy.{Body}
pub use prog.Wp.{WpFn}
pub use denote.Builtin.{u8, u32, u64, unit, SliceRefOf}
pub use denote.Exit.{yes, left}
pub use denote.Lend.{lends_ref, ref_back}
pub use denote.Memory.{mem, part_at}
pub use denote.Plain.{uint_vals, uint_Tells}
pub use denote.RawPtr.{Ptr, RawPtr, block_ptr, lies_at, in_a_block, rawptr_vals, rawptr_Tells}
pub use denote.Ref.{MutRef, mut_vals, mut_Tells}
pub use denote.Slice.{MutSlice, ShrSlice, shr_slice_vals, shr_slice_Tells, mut_slice_vals, mut_slice_Tells, finally}
pub use denote.Signature.{plain, shr_slice_of, mut_slice_of, mut_ref_to}
pub use denote.Steps.{nothing, heard, only}
pub use denote.Triple.Call.{calls_at}
pub use denote.Triple.Clauses.{lasts}
pub use denote.Triple.Entry.{on_entry}
pub use denote.Triple.Spec.{triple_of}
pub use denote.Triple.Table.{framed}
pub use denote.Triple.Walked.{Stays, walk_of, says, stay_dropped, gave_ref, gave_slice, Goes-dropped, Goes-gave_ref, Goes-gave_slice, ends_at}
pub use mir.Val.{vstruct, vcons, vnil}
pub use mir.Syntax.{Ty}
pub use base.Fml.{fat, froom}
pub use borrow.Table.OneValue.{part_in, part_out}
pub use denote.Laws.{Is, shows}
pub use denote.Memory.{lone}
pub use denote.RawPtr.{room_at}
pub use denote.Steps.{peeks}
pub use denote.Struct.Laws.{tells}
pub use denote.Triple.Clauses.{ensured}
pub use types.Run.{assigns_last, init, load, look, well_typed}
