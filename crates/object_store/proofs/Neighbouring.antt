-- The item beside another one, as its row says.
use Rattle.std.proofs.Common.{◌≡◌, ℕ, true, List, [], ◌∷◌, ◌++◌, map, Option, Some, refl, sym, ap, subst, ◌∙◌}
use Rattle.std.specs.Prelude.{ℤ}
use Rattle.item_pool.specs.Contents.{Contents}
use Rattle.item_list.specs.Items.{value_at}
use Rattle.script_text.specs.declared.argument.Arg.TheVariants as args
use Rattle.script_text.specs.declared.form.Kinds.{Kinds}
use Rattle.reply_text.specs.declared.reply.Reply.TheVariants.{Line}
use Rattle.reply_text.specs.Outcome.{Outcome, done}
use Rattle.object_store.specs.declared.kind.ObjectKind.{ObjectKind}
use Rattle.object_store.specs.declared.near.Neighbour.{Neighbour}
use Rattle.object_store.specs.declared.near.Neighbour.TheVariants.{Succ, Pred, CyclicSucc, CyclicPred}
use Rattle.object_store.specs.declared.objects.Place.{Place}
use Rattle.object_store.specs.State.{Cell, Object, ObjectState}
use Rattle.object_store.specs.Cells.{first_of, last_of, before, behind}
use Rattle.object_store.specs.Commands.{objects_done, on_cell, number_line}
use Rattle.object_store.specs.Views.{is_of}
use Rattle.object_store.specs.Words.{neighbour_word, neighbour_kinds}
use Rattle.object_store.specs.Inner.{Inner, inner, cell_in, cells_in}
use Rattle.object_store.specs.Near.{near_of, near_kinds, IsNumber, IsPlaced}
use Rattle.item_pool.specs.declared.pool.Item.{Item}
use Rattle.object_store.specs.Kept.{Places, state_of, IsKept}
use Rattle.object_store.proofs.Holders.{agrees}
use Rattle.object_store.proofs.Leads.{CellAt, on_cell_there}
use Rattle.object_store.proofs.Lists.{map_more}
use Rattle.object_store.proofs.Pairs.{Agrees}
use Rattle.object_store.proofs.Standing.{Cut, cut_at, behind_cut, before_cut}

-- the number that the row says
abbrev beside : Neighbour → ℕ → List Cell → List ℤ → Option ℕ
beside Succ i cs v = first_of (behind i cs)
beside Pred i cs v = last_of (before i cs)
beside CyclicSucc i cs v = first_of (behind i cs ++ before i cs ++ (i, v) ∷ [])
beside CyclicPred i cs v = last_of ((i, v) ∷ behind i cs ++ before i cs)

abbrev beside_row : Neighbour → ℕ → ObjectState → List ℕ → Object → List ℤ → Outcome ObjectState
beside_row what i s x o v = done s (number_line (beside what i o.cells v))

row_is : (what : Neighbour) (i : ℕ) (s : ObjectState) → objects_done (neighbour_word what) (args.Cell i ∷ []) s ≡ on_cell s (neighbour_kinds what) i (beside_row what i s)
row_is Succ i s = refl
row_is Pred i s = refl
row_is CyclicSucc i s = refl
row_is CyclicPred i s = refl

module _ (ps : Places) (cells : Contents Place) (kept : IsKept ps cells) (p : Place) (i : ℕ) where
  abbrev s : ObjectState
  s = state_of ps cells

  module _ (asked : Kinds) (w : CellAt ps asked p i) where
    cut : Cut p.item.serial w.cell (inner w.object.object)
    cut = cut_at p.item.serial w.cell (inner w.object.object) w.has

    agree : Agrees cell_in p.item.serial i (cut.front ++ (p.item.serial, w.cell) ∷ cut.rear)
    agree = subst (Agrees cell_in p.item.serial i) cut.whole (agrees ps cells kept p.slot p.item.serial i w.object w.cell w.at w.has w.is)

    behind_is : behind i (cells_in w.object.object) ≡ map cell_in cut.rear
    behind_is = ap (λ xs. behind i (map cell_in xs)) cut.whole ∙ behind_cut p.item.serial i w.cell cut.rear cut.front cut.none agree

    before_is : before i (cells_in w.object.object) ≡ map cell_in cut.front
    before_is = ap (λ xs. before i (map cell_in xs)) cut.whole ∙ before_cut p.item.serial i w.cell cut.rear cut.front cut.none agree

    cell_is : (i, w.cell.1) ≡ w.cell
    cell_is = λ j. (sym w.is j, w.cell.1)

    beside_is : (what : Neighbour) (n : Option ℕ) → IsNumber (near_of what p.item) w.object.object n → beside what i (cells_in w.object.object) w.cell.1 ≡ n
    beside_is Succ n h = ap first_of behind_is ∙ sym (h cut.front cut.rear w.cell cut.whole)
    beside_is Pred n h = ap last_of before_is ∙ sym (h cut.front cut.rear w.cell cut.whole)
    beside_is CyclicSucc n h =
        (λ j. first_of (behind_is j ++ before_is j ++ cell_is j ∷ []))
        ∙ ap first_of (sym (map_more cell_in (cut.rear ++ cut.front) ((p.item.serial, w.cell) ∷ []) ∙ ap (λ ys. ys ++ w.cell ∷ []) (map_more cell_in cut.rear cut.front)))
        ∙ sym (h cut.front cut.rear w.cell cut.whole)
    beside_is CyclicPred n h =
        (λ j. last_of (cell_is j ∷ behind_is j ++ before_is j))
        ∙ ap (λ ys. last_of (w.cell ∷ ys)) (sym (map_more cell_in cut.rear cut.front))
        ∙ sym (h cut.front cut.rear w.cell cut.whole)

  pub near_row : (what : Neighbour) (w : CellAt ps (neighbour_kinds what) p i) (n : Option ℕ) → IsNumber (near_of what p.item) w.object.object n → objects_done (neighbour_word what) (args.Cell i ∷ []) s ≡ Some (s, Line (number_line n))
  near_row what w n h =
      row_is what i s
      ∙ on_cell_there ps cells kept (neighbour_kinds what) i p w (beside_row what i s)
      ∙ ap (λ o. Some (s, Line (number_line o))) (beside_is (neighbour_kinds what) w what n h)

-- what is asked for is there, in an object that has such a place
pub placed_near : (what : Neighbour) (it : Item) (xs : List Inner) (c : Cell) → value_at it.serial xs ≡ Some c → IsPlaced (near_of what it) xs
placed_near Succ it xs c at = (c, at)
placed_near Pred it xs c at = (c, at)
placed_near CyclicSucc it xs c at = (c, at)
placed_near CyclicPred it xs c at = (c, at)

pub kind_near : (what : Neighbour) (it : Item) (kind : ObjectKind) → is_of (neighbour_kinds what) kind ≡ true → is_of (near_kinds (near_of what it)) kind ≡ true
kind_near Succ it kind h = h
kind_near Pred it kind h = h
kind_near CyclicSucc it kind h = h
kind_near CyclicPred it kind h = h
