-- The names that the walks of `places.rt` cite.
pub use mathlib.Core.Path.{◌≡◌, refl, sym, ap, subst, ◌∙◌}
pub use mathlib.Core.Bool.{true, false}
pub use Prim.Native.Nat.{◌+◌, ◌*◌, ◌<◌, ◌^◌}
pub use native.Mathlib.Omega.{arith}
pub use mathlib.Core.List.{List, [], ◌∷◌}
pub use lib.ListN.{length, set, get_or, replicate}
pub use lib.Dec.{lit<}
pub use base.Fraction.{full_share}
pub use mir.Syntax.{named, w64, ty_unit}
pub use mir.MapTy.{inst_fn}
pub use mir.Val.{Val, vptr, vint, vunit}
pub use base.Logic.{ent, sep, emp, id⊢}
pub use base.Fml.{GName, Incl-trans, fat, froom, flft}
pub use prog.Wp.{WpFn}
pub use contract.Monad.{fact, fact_i}
pub use contract.Running.{tables}
pub use contract.BorrowLft.{◌⊑◌}
pub use contract.Lifetimes.{toks}
pub use types.Kit.{‵, raw, some, given, later, ◌⊛◌, prop, at_ret, Sq, ◌$◌, ◌∵◌, !, qed, by, move, keep, drop, use0, use1, use2, split, join, group, rewrite, await, pick, learn, fsplit, fsplit3, fjoin, feq_i, suffices, frame, done}
pub use types.Part.{whole, sub, agg}
pub use types.Match.{vrt, in_variant}
pub use types.Run.{init, load, look, stop, fld, lit, unit_lit, of_opd, bin, size_word, align_word, addr, and_then, no_more, assigns_last, first, blocks, exec, returns, returns_within, enter, switches_on}
pub use types.ByLocal.{alloc_all, pass_all, free_all, look_at, get, get_in, get_tag, through, is, sets, sets_last, lands_as, lands_last, env, take_at, give_at}
pub use denote.Exit.{yes, no}
pub use denote.Follow.{follows, Part, lends_Part}
pub use denote.RattleType.{flat, owns}
pub use denote.Param.{layout}
pub use denote.Param.Laws.{param_laws}
pub use denote.RawPtr.{Ptr, block_ptr, ptr_val}
pub use denote.Plain.{uint_vals, uint_Tells}
pub use denote.Ref.{ShrRef, MutBor, MutRef, shr_vals, shr_Tells, mut_vals, mut_Tells}
pub use denote.Builtin.{usize}
pub use denote.Signature.{plain, types_at}
pub use denote.Opens.{hide}
pub use denote.Steps.{heard, opens, closes}
pub use denote.Triple.Call.{calls_at, calls_at_last}
pub use denote.Triple.Clauses.{Lasts}
pub use denote.Triple.Entry.{Vals, on_entry}
pub use denote.Triple.Table.{framed}
pub use denote.Triple.Walked.{Stays, stay_ref, has_of, walk_of, Goes-ref}
pub use Rattle.std.proofs.raw_atomic.Walks.{proved, proved_at, leaves}
pub use Rattle.std.specs.Prelude.{Some, None, IfOk, Err}
pub use Rattle.std.specs.Vec.Ownership.{FitsInBlock}
pub use Rattle.core.proofs.alloc.Calls.{Al, Answer-typed, Takes, Gives, Answered, answers}
pub use Rattle.core.proofs.mem.Param.{El, R, elτ}
pub use Rattle.core.proofs.slots.Leases.{args, uncapped, block_ty, P}
pub use Rattle.std_alloc.proofs.RawLayout.{as_written, as_raw}
pub use Rattle.std_alloc.proofs.RcSteps.{Good, word, word-Good}
pub use Rattle.std_alloc.proofs.VecSteps.Shapes.{after, head, arm_body}
pub use Rattle.item_pool.specs.Ownership.{place, place_lent}
pub use Rattle.item_pool.specs.PlaceLent.{with_row}
pub use Rattle.item_pool.specs.Filled.{IsFilled}
pub use Rattle.item_pool.proofs.Opened.{near, opened, shut, Kept, comes_back, looks_into}
pub use Rattle.item_pool.proofs.Ends.{spent, Spent, all_go, nothing_left, hands_out, returned, then_on}
pub use Rattle.item_pool.proofs.Rooms.{De, Three, Handed, three_val, handed, handed_out, refused, refused_val, handed_val, handed_in, OfOne, Asking, asks, answered, Giving, gives, gave}
pub use Rattle.item_pool.proofs.OnePlace.{Pl, St, size, Place, in_row, value_in, value_out, place_seen}
