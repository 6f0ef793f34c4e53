-- The names that the walks of `cells.rt` cite.
pub use mathlib.Core.Path.{◌≡◌, refl, sym, ap, subst, ◌∙◌}
pub use mathlib.Core.Bool.{true, false}
pub use Prim.Native.Nat.{◌+◌, ◌*◌, ◌<◌, ◌^◌}
pub use native.Mathlib.Omega.{arith}
pub use mathlib.Core.List.{List, [], ◌∷◌}
pub use lib.ListN.{length, get_or, replicate}
pub use lib.Dec.{lit<}
pub use mir.Syntax.{named, w64, ty_unit}
pub use mir.MapTy.{inst_fn}
pub use mir.Val.{Val, vptr, vint, vunit}
pub use base.Logic.{ent, sep, emp, id⊢}
pub use base.Fml.{Incl-trans, flft}
pub use prog.Wp.{WpFn}
pub use contract.Monad.{fact, fact_i}
pub use contract.Running.{tables}
pub use contract.BorrowLft.{◌⊑◌}
pub use contract.Lifetimes.{toks}
pub use types.Kit.{‵, raw, given, later, ◌⊛◌, prop, at_ret, Sq, ◌$◌, ◌∵◌, !, qed, by, move, keep, drop, use0, use1, use2, use3, split, join, group, rewrite, await, learn, fsplit, fsplit3, fjoin, feq_i, suffices, frame}
pub use types.Part.{whole, sub, agg}
pub use types.Match.{vrt, in_variant}
pub use types.Run.{init, stop, fld, lit, unit_lit, of_opd, bin, size_word, align_word, addr, and_then, no_more, assigns_last, first, blocks, exec, returns, returns_within, enter, switches_on}
pub use types.ByLocal.{alloc_all, pass_all, free_all, look_at, get, get_in, get_tag, through, is, sets, sets_last, lands_as, lands_last, env}
pub use denote.Exit.{yes, no}
pub use denote.RattleType.{flat, owns}
pub use denote.Param.{layout}
pub use denote.Param.Laws.{param_laws}
pub use denote.RawPtr.{block_ptr, ptr_val, ◌+ₚ◌}
pub use denote.Plain.{uint_vals, uint_Tells}
pub use denote.Ref.{ShrRef, MutRef, shr_vals, shr_Tells, mut_vals, mut_Tells}
pub use denote.Builtin.{usize}
pub use denote.Signature.{plain, types_at}
pub use denote.Opens.{hide}
pub use denote.Steps.{heard, opens, closes}
pub use denote.Triple.Call.{calls_at, calls_at_last}
pub use denote.Triple.Clauses.{Lasts}
pub use denote.Triple.Entry.{Vals, on_entry}
pub use denote.Triple.Table.{framed}
pub use denote.Triple.Walked.{Stays, stay_ref, has_of, walk_of, Goes-ref}
pub use Rattle.std.proofs.raw_atomic.Walks.{proved, proved_at, leaves}
pub use Rattle.std.specs.Prelude.{None, IfOk, Err}
pub use Rattle.std.specs.Vec.Ownership.{FitsInBlock}
pub use Rattle.core.proofs.alloc.Calls.{Al, Answer-typed, Takes, Gives, Answered, answers}
pub use Rattle.core.proofs.mem.Param.{El, R}
pub use Rattle.core.proofs.ptr.Rows.{times_below}
pub use Rattle.core.proofs.slots.Leases.{args, uncapped, block_ty, P}
pub use Rattle.std_alloc.proofs.RcSteps.{Good, word, word-Good}
pub use Rattle.std_alloc.proofs.VecSteps.Shapes.{after, head, arm_body}
pub use Rattle.item_ring.specs.Memory.{IsFilled, place_lent}
pub use Rattle.item_ring.proofs.Followed.{leads, looks_into, one_out, one_in, filled}
pub use Rattle.item_ring.proofs.Ends.{spent, Spent, all_go, nothing_left, returned, then_on}
pub use Rattle.item_ring.proofs.Rooms.{De, Three, Handed, three_val, handed, handed_out, refused, refused_val, handed_val, handed_in, OfOne, Asking, asks, answered, Giving, gives, gave, link_made}
pub use Rattle.item_ring.proofs.Blocks.{Ln, Cr, size, Place, filled_within, place_seen}
