-- What the calls on lists make of their names, list by list and element by element.
use Rattle.std.proofs.Common.{◌≡◌, true, false, cond, not, List, [], ◌∷◌, ◌++◌, Some, None, refl, sym, ap, ◌∙◌, inl, inr}
use Rattle.std.proofs.lemmas.List.{append-nil}
use Rattle.graph_state.specs.declared.name.ListName.{ListName}
use Rattle.graph_state.specs.declared.name.Element.{Element}
use Rattle.graph_state.specs.Names.{same_element, same_list, without}
use Rattle.graph_state.proofs.Same.{list_tells, element_tells, same_self}
use Rattle.graph_state.proofs.Lists.{one}
use Rattle.graph_lists.specs.declared.token.Hook.{Hook}
use Rattle.graph_lists.specs.Named.{Lists, Named, hook_at, list_at, shows_at, pushed, hooked, SameRoom}
use Rattle.graph_lists.proofs.Numbers.{look_new, look_else}

pub pushed_list : (k : ListName) (x : Element) (n : Named) (l : ListName) → list_at (pushed k x n) l ≡ list_at n l ++ one (same_list k l) x
pushed_list k x n l = elim (list_tells k l) [
  | inl y ↦
      ap (λ b. cond b (list_at n k ++ x ∷ []) (list_at n l)) y.0 ∙ ap (λ l. list_at n l ++ x ∷ []) y.1 ∙ sym (ap (λ b. list_at n l ++ one b x) y.0)
  | inr ne ↦ ap (λ b. cond b (list_at n k ++ x ∷ []) (list_at n l)) ne.0 ∙ sym (append-nil (list_at n l)) ∙ sym (ap (λ b. list_at n l ++ one b x) ne.0)
]

-- of what stands nowhere, the first is taken
pub taken : (x : Element) (xs : List Element) → without same_element x (x ∷ xs) ≡ without same_element x xs
taken x xs = ap (λ b. cond (not b) (x ∷ without same_element x xs) (without same_element x xs)) (same_self same_element element_tells x)

pub shows_hooked : (x : Element) (w : Hook) (n : Named) → shows_at (hooked x w n) x ≡ true
shows_hooked x w n = look_new same_element element_tells false x true n.shown

pub shows_else : (x : Element) (w : Hook) (n : Named) (y : Element) → (y ≡ x → ⊥) → shows_at (hooked x w n) y ≡ shows_at n y
shows_else x w n y ne = look_else same_element element_tells false x y true n.shown ne

pub hook_new : (x : Element) (w : Hook) (n : Named) → hook_at (hooked x w n) x ≡ Some w
hook_new x w n = look_new same_element element_tells None x (Some w) n.hooks

pub hook_else : (x : Element) (w : Hook) (n : Named) (y : Element) → (y ≡ x → ⊥) → hook_at (hooked x w n) y ≡ hook_at n y
hook_else x w n y ne = look_else same_element element_tells None x y (Some w) n.hooks ne

-- the room stays, step by step
pub room_same : (t : Lists) → SameRoom t t
room_same t = record { heads = refl; members = refl; spare_heads = refl; spare_members = refl }

pub room_on : (t u w : Lists) → SameRoom t u → SameRoom u w → SameRoom t w
room_on t u w a b = record {
  heads = b.heads ∙ a.heads;
  members = b.members ∙ a.members;
  spare_heads = b.spare_heads ∙ a.spare_heads;
  spare_members = b.spare_members ∙ a.spare_members;
}
