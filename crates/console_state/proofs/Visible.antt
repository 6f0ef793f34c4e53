-- What it says of the graph that items stand as a command asks.
use Rattle.std.proofs.Common.{◌≡◌, ℕ, ◌<◌, ◌≤◌, Bool, true, false, not, ◌==◌, ◌||◌, ◌&&◌, List, [], ◌∷◌, length, refl, sym, subst, ◌⊎◌, inl, inr, arith}
use Rattle.std.specs.List.{list_all}
use Rattle.std.proofs.lemmas.Bool.{leb-true}
use Rattle.std.proofs.lemmas.Bool.Decides.{nat_tests}
use Rattle.std.specs.Bool.{MatchBool}
use Rattle.std.specs.Prelude.{nat_le, if◌then◌else◌, IsTrue, ⊤, is_ok, OnOk, IfErr, Result, Ok, Err}
use Rattle.item_pool.specs.Contents.{WhyGone}
use Rattle.item_pool.specs.declared.pool.Gone.{Gone}
use Rattle.item_pool.specs.declared.pool.Gone.TheVariants as gone
use Rattle.leda_base.specs.declared.ItemName.{ItemName}
use Rattle.leda_base.specs.declared.ItemName.TheVariants as items
use Rattle.graph_state.specs.declared.item.NodeItem.{NodeItem}
use Rattle.graph_state.specs.declared.refusal.LookRefusal.{LookRefusal}
use Rattle.graph_state.specs.declared.refusal.LookRefusal.TheVariants as look
use Rattle.graph_state.specs.State.{GraphState, visible_nodes, shows_node, shows_edge}
use Rattle.graph_state.specs.Names.{Has}
use Rattle.graph_state.specs.Formed.{IsLabel}
use Rattle.graph_state.specs.Refusals.{IsThere, IsGone, AreVisible, RefusesLook}
use Rattle.graph_state.proofs.Same.{nat_tells}
use Rattle.graph_state.proofs.Has.{filter_has}
use Rattle.graph_state.proofs.Labels.{no_line}
use Rattle.script_text.specs.Text.{is_label}
use Rattle.script_text.specs.declared.form.Form.{Form}
use Rattle.console_state.specs.declared.order.Standing.TheVariants.{Unknown, Dead, Visible}
use Rattle.console_state.specs.Clear.{IsLive, StandsFor, StandsIn}
use Rattle.console_state.specs.Order.{asks_visible}
use Rattle.console_state.specs.State.{State}
use Rattle.console_state.specs.Views.{is_listed, is_given, stands, standing}
use Rattle.console_state.specs.Refused.{standing_of}

pub listed_has : (k : ℕ) (ks : List ℕ) → is_listed k ks ≡ true → Has k ks
listed_has k [] e = cc
listed_has k (j ∷ js) e = elim (nat_tells j k) [
  | inl y ↦ inl (sym y.1)
  | inr n ↦ inr (listed_has k js (subst (λ b. (b || is_listed k js) ≡ true) n.0 e))
]

pub has_listed : (k : ℕ) (ks : List ℕ) → Has k ks → is_listed k ks ≡ true
has_listed k [] i = absurd i
has_listed k (j ∷ js) i = elim (nat_tells j k) [
  | inl y ↦ subst (λ b. (b || is_listed k js) ≡ true) (sym y.0) refl
  | inr n ↦ subst (λ b. (b || is_listed k js) ≡ true) (sym n.0) (elim i [ inl e ↦ absurd (n.1 (sym e)) | inr j ↦ has_listed k js j ])
]

pub unlisted : (k : ℕ) (ks : List ℕ) → (Has k ks → ⊥) → is_listed k ks ≡ false
unlisted k [] out = refl
unlisted k (j ∷ js) out = elim (nat_tells j k) [
  | inl y ↦ absurd (out (inl (sym y.1)))
  | inr n ↦ subst (λ b. (b || is_listed k js) ≡ false) (sym n.0) (unlisted k js (λ i. out (inr i)))
]

pub stands_visible : (listed shows given : Bool) → stands listed shows given ≡ Visible → (listed ≡ true) × (shows ≡ true)
stands_visible true true given e = (refl, refl)
stands_visible true false given e = cc
stands_visible false shows true e = cc
stands_visible false shows false e = cc

stands_live : (listed shows given : Bool) → IsLive (stands listed shows given) → listed ≡ true
stands_live true shows given live = refl
stands_live false shows true live = absurd live
stands_live false shows false live = absurd live

-- the item is one of the graph
abbrev pub IsElement : ItemName → Type 0
IsElement (items.Node v) = ⊤
IsElement (items.Edge e) = ⊤
IsElement (items.Cell i) = ⊥

-- an item of the graph that is there, and one that is visible
module _ (s : State) where
  there : (x : ItemName) → IsElement x → IsLive (standing s x) → IsThere s.graph x
  there (items.Node v) is live = listed_has v s.graph.nodes (stands_live _ _ _ live)
  there (items.Edge e) is live = listed_has e s.graph.edges (stands_live _ _ _ live)
  there (items.Cell i) is live = absurd is

  visible : (x : ItemName) → IsElement x → standing s x ≡ Visible → AreVisible s.graph (x ∷ [])
  visible (items.Node v) is e = let r = stands_visible _ _ _ e in (listed_has v s.graph.nodes r.0, r.1, tt)
  visible (items.Edge v) is e = let r = stands_visible _ _ _ e in (listed_has v s.graph.edges r.0, r.1, tt)
  visible (items.Cell i) is e = absurd is

  by_test : (test : Bool) (x : ItemName) → IsElement x → MatchBool test (standing s x ≡ Visible) (IsLive (standing s x)) → MatchBool test (AreVisible s.graph (x ∷ [])) (IsThere s.graph x)
  by_test true x is h = visible x is h
  by_test false x is h = there x is h

  pub stands_in : (form : Form) (x : ItemName) → IsElement x → StandsFor form (standing s x) → StandsIn s.graph form x
  stands_in form x is h = by_test (asks_visible form) x is h

pub both_visible : (g : GraphState) (x y : ItemName) → AreVisible g (x ∷ []) → AreVisible g (y ∷ []) → AreVisible g (x ∷ y ∷ [])
both_visible g x y a b = (a.0, a.1, b)

-- visible nodes stand in the list of visible nodes
pub ends_listed : (g : GraphState) (v w : ℕ) → AreVisible g (items.Node v ∷ items.Node w ∷ []) → Has v (visible_nodes g) × Has w (visible_nodes g)
ends_listed g v w see = (filter_has (shows_node g) v g.nodes see.0 see.1, filter_has (shows_node g) w g.nodes see.2.0 see.2.1)

both : (a b : Bool) → (a && b) ≡ true → (a ≡ true) × (b ≡ true)
both true b e = (refl, e)
both false b e = cc

-- the label of an argument is one that the graph takes
pub label_is : (label : List ℕ) → IsTrue (is_label label) → IsLabel label
label_is label is =
    let parts = both (nat_le (length label) 60000) (list_all (λ b. not (b == 10)) label) is in
    record { few = leb-true (length label) 60000 parts.0; line = no_line label parts.1 }

-- what is there isn't gone
pub not_gone : (s : GraphState) (x : ItemName) (y : Gone) → IsThere s x → IsGone s x y → ⊥
not_gone s (items.Node v) y i g = g.0 i
not_gone s (items.Edge e) y i g = g.0 i
not_gone s (items.Cell c) y i g = i

given : (made number : ℕ) → 0 < number → number ≤ made → is_given made number ≡ true
given made number above within = grind (arith, nat_tests)

ungiven : (made number : ℕ) → (number ≡ 0) ⊎ (made < number) → is_given made number ≡ false
ungiven made number out = grind (arith, nat_tests)

-- how an item stands, by what the graph tells of it
pub stands_there : (number : ℕ) (numbers : List ℕ) (shows given : Bool) → Has number numbers → stands true shows true ≡ stands (is_listed number numbers) shows given
stands_there number numbers shows given i = subst (λ b. stands true shows true ≡ stands b shows given) (sym (has_listed number numbers i)) refl

pub stands_unlisted : (number made : ℕ) (listed shows : Bool) (why : Gone) → listed ≡ false → WhyGone made number why → standing_of why ≡ stands listed shows (is_given made number)
stands_unlisted number made listed shows why out w = subst (λ b. standing_of why ≡ stands b shows (is_given made number)) (sym out) (by_given why w)
  where
    by_given : (why : Gone) → WhyGone made number why → standing_of why ≡ (if is_given made number then Dead else Unknown)
    by_given gone.Dead w = subst (λ b. Dead ≡ (if b then Dead else Unknown)) (sym (given made number w.0 w.1)) refl
    by_given gone.Unknown w = subst (λ b. Unknown ≡ (if b then Dead else Unknown)) (sym (ungiven made number w)) refl

pub stands_gone : (number made : ℕ) (numbers : List ℕ) (shows : Bool) (why : Gone) → (Has number numbers → ⊥) → WhyGone made number why → standing_of why ≡ stands (is_listed number numbers) shows (is_given made number)
stands_gone number made numbers shows why out w = stands_unlisted number made (is_listed number numbers) shows why (unlisted number numbers out) w

-- an edge shows exactly where a look at it is answered
pub answered_shows : (g : GraphState) (e : ℕ) (answer : Result NodeItem LookRefusal) → OnOk answer (AreVisible g (items.Edge e ∷ [])) → IfErr answer (RefusesLook g (items.Edge e ∷ [])) → IsThere g (items.Edge e) → is_ok answer ≡ shows_edge g e
answered_shows g e (Ok v) see why there = sym see.1
answered_shows g e (Err (look.Gone x y)) see why there = absurd (elim why [ inl w ↦ not_gone g (items.Edge e) y there w.1 | inr w ↦ w.1 ])
answered_shows g e (Err (look.Hidden x)) see why there = elim why.1 [ inl w ↦ sym w.1 | inr w ↦ absurd w.1 ]
