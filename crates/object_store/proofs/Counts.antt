-- The pool has as many items as there are.
use Rattle.std.proofs.Common.{◌≡◌, ◌≢◌, cond, Option, Some, None, is_some, sym, ◌∙◌}
use Rattle.std.specs.Prelude.{◌==◌}
use Rattle.std.specs.FinMap as finmap
use Rattle.item_pool.specs.declared.pool.TheConstants.{MOST_SERIALS}
use Rattle.item_pool.specs.Contents.{Contents, IsWithin}
use Rattle.reply_text.specs.declared.refusal.Refusal.{Refusal}
use Rattle.reply_text.specs.declared.refusal.Refusal.TheVariants.{FullItems, Spent}
use Rattle.object_store.specs.declared.objects.Place.{Place}
use Rattle.object_store.specs.declared.objects.TheConstants.{CELL_LIMIT}
use Rattle.object_store.specs.Commands.{full_cell}
use Rattle.object_store.specs.Views.{is_live, live_cells}
use Rattle.object_store.specs.Kept.{Places, state_of, IsKept}
use Rattle.object_store.proofs.Holders.{live_is}
use Rattle.object_store.proofs.Lists.{cond_true, cond_false}
use Rattle.object_store.proofs.Pairs.{number_of, number_not}
use Rattle.object_store.proofs.Passing.{passing_same, passing_len}

module _ (ps : Places) (cells : Contents Place) (kept : IsKept ps cells) (range : IsWithin cells) where
  pub count_live : live_cells (state_of ps cells) ≡ finmap.len cells.live
  count_live =
      passing_same (is_live (state_of ps cells)) (λ i. is_some (finmap.get cells.live i)) cells.made (λ i le. live_is ps cells kept i)
      ∙ passing_len cells.made cells.live range.0

  abbrev second : Option Refusal
  second = cond (cells.made == MOST_SERIALS) (Some Spent) None

  pub full_items : finmap.len cells.live ≡ CELL_LIMIT → full_cell (state_of ps cells) ≡ Some FullItems
  full_items e = cond_true (live_cells (state_of ps cells) == CELL_LIMIT) (Some FullItems) second (number_of (live_cells (state_of ps cells)) CELL_LIMIT (count_live ∙ e))

  not_full : finmap.len cells.live ≢ CELL_LIMIT → full_cell (state_of ps cells) ≡ second
  not_full ne = cond_false (live_cells (state_of ps cells) == CELL_LIMIT) (Some FullItems) second (number_not (live_cells (state_of ps cells)) CELL_LIMIT (λ e. ne (sym count_live ∙ e)))

  pub spent : finmap.len cells.live ≢ CELL_LIMIT → cells.made ≡ MOST_SERIALS → full_cell (state_of ps cells) ≡ Some Spent
  spent ne e = not_full ne ∙ cond_true (cells.made == MOST_SERIALS) (Some Spent) None (number_of cells.made MOST_SERIALS e)

  pub not_spent : finmap.len cells.live ≢ CELL_LIMIT → cells.made ≢ MOST_SERIALS → full_cell (state_of ps cells) ≡ None
  not_spent ne few = not_full ne ∙ cond_false (cells.made == MOST_SERIALS) (Some Spent) None (number_not cells.made MOST_SERIALS few)
