-- A state with other reversals and labels is well-formed.
use Rattle.std.proofs.Common.{◌≡◌, ℕ, List, Option, Some, None, option_map, refl, sym, ap, subst, ◌∙◌, inl, inr}
use Rattle.std.specs.Ordering.{nat_cmp}
use Rattle.std.specs.FinMap as map
use Rattle.graph_state.specs.declared.name.ListName.{ListName}
use Rattle.graph_state.specs.declared.name.ListName.TheVariants.{Nodes, Edges, Out, In}
use Rattle.graph_state.specs.declared.name.Element.{Element}
use Rattle.graph_state.specs.declared.name.Element.TheVariants.{Node, Edge, End}
use Rattle.graph_state.specs.State.{GraphState}
use Rattle.graph_state.specs.Names.{Has, IsOnce, list_of, IsLive, home, shows}
use Rattle.graph_state.specs.Formed.{IsFormed, IsLabel, IsPair}
use Rattle.graph_state.specs.Edits.{unpaired_at, unpaired, paired}
use Rattle.graph_state.specs.Reversals.{AreOpposite}
use Rattle.graph_state.proofs.Has.{some_same, none_some}
use Rattle.graph_state.proofs.Same.{nat_tells}
use Rattle.graph_state.proofs.Maps.{put_here, put_else, out_here, out_else}

module _ (s : GraphState) (r : map.FinMap nat_cmp ℕ) (a b : map.FinMap nat_cmp (List ℕ)) where
  abbrev pub with_columns : GraphState
  with_columns = record s { reversals = r; node_labels = a; edge_labels = b }

  pub lists_stay : (l : ListName) → list_of with_columns l ≡ list_of s l
  lists_stay Nodes = refl
  lists_stay Edges = refl
  lists_stay (Out v) = refl
  lists_stay (In v) = refl

  pub live_stays : (x : Element) → IsLive with_columns x → IsLive s x
  live_stays (Node v) i = i
  live_stays (Edge e) i = i
  live_stays (End d) i = i

  live_still : (x : Element) → IsLive s x → IsLive with_columns x
  live_still (Node v) i = i
  live_still (Edge e) i = i
  live_still (End d) i = i

  home_stays : (x : Element) → home with_columns x ≡ home s x
  home_stays (Node v) = refl
  home_stays (Edge e) = refl
  home_stays (End d) = refl

  pub shows_stays : (x : Element) → shows with_columns x ≡ shows s x
  shows_stays (Node v) = refl
  shows_stays (Edge e) = refl
  shows_stays (End d) = refl

  pub formed_columns : IsFormed s → ((e f : ℕ) → map.get r e ≡ Some f → IsPair with_columns e f)
      → ((v : ℕ) (label : List ℕ) → map.get a v ≡ Some label → IsLabel label) → ((e : ℕ) (label : List ℕ) → map.get b e ≡ Some label → IsLabel label) → IsFormed with_columns
  formed_columns f pairs nodes edges = record {
    homes = λ l x i. let j = f.homes l x (subst (Has x) (lists_stay l) i) in (live_still x j.0, home_stays x ∙ j.1);
    housed = λ x i. subst (Has x) (sym (lists_stay (home with_columns x))) (subst (λ l. Has x (list_of s l)) (sym (home_stays x)) (f.housed x (live_stays x i)));
    once = λ l. subst IsOnce (sym (lists_stay l)) (f.once l);
    ends = f.ends;
    reversals = pairs;
    hidden_nodes = f.hidden_nodes;
    hidden_edges = f.hidden_edges;
    given_nodes = f.given_nodes;
    given_edges = f.given_edges;
    node_labels = nodes;
    edge_labels = edges;
    few = f.few;
    made = f.made;
    types = f.types;
  }

-- what is left of a map of reversals where e and its reversal lose each other
module _ (m : map.FinMap nat_cmp ℕ) (e : ℕ) where
  pub unpaired_from : (o : Option ℕ) (i f : ℕ) → map.get (unpaired_at e o m) i ≡ Some f → (map.get m i ≡ Some f) × ((g : ℕ) → o ≡ Some g → (i ≡ e → ⊥) × (i ≡ g → ⊥))
  unpaired_from None i f is = (is, λ g n. absurd (none_some n))
  unpaired_from (Some h) i f is =
      let ne : i ≡ h → ⊥ = λ n. none_some (sym (out_here (map.remove m e) h i n) ∙ is) in
      let at = sym (out_else (map.remove m e) h i ne) ∙ is in
      let nf : i ≡ e → ⊥ = λ n. none_some (sym (out_here m e i n) ∙ at) in
      (sym (out_else m e i nf) ∙ at, λ g n. (nf, λ w. ne (w ∙ sym (some_same n))))

  unpaired_to : (o : Option ℕ) (i f : ℕ) → map.get m i ≡ Some f → ((g : ℕ) → o ≡ Some g → (i ≡ e → ⊥) × (i ≡ g → ⊥)) → map.get (unpaired_at e o m) i ≡ Some f
  unpaired_to None i f is apart = is
  unpaired_to (Some h) i f is apart =
      let ne = apart h refl in
      out_else (map.remove m e) h i ne.1 ∙ out_else m e i ne.0 ∙ is

  pub unpaired_gone : (o : Option ℕ) → map.get m e ≡ o → (f : ℕ) → map.get (unpaired_at e o m) e ≡ Some f → ⊥
  unpaired_gone None is f some = none_some (sym is ∙ some)
  unpaired_gone (Some h) is f some = ((unpaired_from (Some h) e f some).1 h refl).0 refl

module _ (s : GraphState) (f : IsFormed s) where
  -- those that stay reversals are mutual
  unpaired_pairs : (e i g : ℕ) → map.get (unpaired_at e (map.get s.reversals e) s.reversals) i ≡ Some g → IsPair (unpaired e s) i g
  unpaired_pairs e i g is =
      let from = unpaired_from s.reversals e (map.get s.reversals e) i g is in
      let p = f.reversals i g from.0 in
      record {
        both = unpaired_to s.reversals e (map.get s.reversals e) g i p.both (λ h at. (
          (λ n. (from.1 h at).1 (some_same (sym p.both ∙ ap (map.get s.reversals) n ∙ at))),
          (λ n. (from.1 h at).0 (some_same (sym p.both ∙ ap (map.get s.reversals) n ∙ (f.reversals e h at).both))),
        ));
        apart = p.apart;
        listed = p.listed;
        opposite = p.opposite;
      }

  pub formed_unpaired : (e : ℕ) → IsFormed (unpaired e s)
  formed_unpaired e = formed_columns s (unpaired_at e (map.get s.reversals e) s.reversals) s.node_labels s.edge_labels f (unpaired_pairs e) f.node_labels f.edge_labels

-- an entry of a map that is replaced keeps the part in which the new one is like it
pub part_put : {X Y : Type 0} (f : X → Y) (m : map.FinMap nat_cmp X) (k : ℕ) (x y : X) → map.get m k ≡ Some x → f y ≡ f x → (i : ℕ) → option_map f (map.get (map.insert m k y) i) ≡ option_map f (map.get m i)
part_put f m k x y at alike i = elim (nat_tells i k) [
  | inl t ↦ ap (option_map f) (put_here m k y i t.1) ∙ ap Some alike ∙ sym (ap (option_map f) (ap (map.get m) t.1 ∙ at))
  | inr n ↦ ap (option_map f) (put_else m k y i n.1)
]

-- labels among which one is replaced
pub labels_put : (m : map.FinMap nat_cmp (List ℕ)) (k : ℕ) (label : List ℕ) → IsLabel label → ((i : ℕ) (l : List ℕ) → map.get m i ≡ Some l → IsLabel l) → (i : ℕ) (l : List ℕ) → map.get (map.insert m k label) i ≡ Some l → IsLabel l
labels_put m k label lab old i l is = elim (nat_tells i k) [
  | inl y ↦ subst IsLabel (some_same (sym (put_here m k label i y.1) ∙ is)) lab
  | inr n ↦ old i l (sym (put_else m k label i n.1) ∙ is)
]

module _ (s : GraphState) (f : IsFormed s) where
  pub formed_labels : (a b : map.FinMap nat_cmp (List ℕ)) → ((v : ℕ) (label : List ℕ) → map.get a v ≡ Some label → IsLabel label) → ((e : ℕ) (label : List ℕ) → map.get b e ≡ Some label → IsLabel label)
      → IsFormed (record s { node_labels = a; edge_labels = b })
  formed_labels a b nodes edges = formed_columns s s.reversals a b f (λ e g r. let p = f.reversals e g r in record { both = p.both; apart = p.apart; listed = p.listed; opposite = p.opposite }) nodes edges

  module _ (e g : ℕ) (he : Has e s.edges) (hg : Has g s.edges) (o : AreOpposite s e g) where
    abbrev first_gone : map.FinMap nat_cmp ℕ
    first_gone = unpaired_at e (map.get s.reversals e) s.reversals

    abbrev both_gone : map.FinMap nat_cmp ℕ
    both_gone = unpaired_at g (map.get first_gone g) first_gone

    abbrev pair_state : GraphState
    pair_state = record s { reversals = map.insert (map.insert both_gone e g) g e }

    none_first : (h : ℕ) → map.get both_gone e ≡ Some h → ⊥
    none_first h is = unpaired_gone s.reversals e (map.get s.reversals e) refl h (unpaired_from first_gone g (map.get first_gone g) e h is).0

    none_second : (h : ℕ) → map.get both_gone g ≡ Some h → ⊥
    none_second h is = unpaired_gone first_gone g (map.get first_gone g) refl h is

    first_pair : IsPair pair_state e g
    first_pair = record { both = put_here (map.insert both_gone e g) g e g refl; apart = o.0; listed = he; opposite = (o.1.0, o.1.1) }

    second_pair : IsPair pair_state g e
    second_pair = record {
      both = put_else (map.insert both_gone e g) g e e o.0 ∙ put_here both_gone e g e refl;
      apart = λ n. o.0 (sym n);
      listed = hg;
      opposite = (sym o.1.1, sym o.1.0);
    }

    old_pair : (i h : ℕ) → map.get both_gone i ≡ Some h → IsPair pair_state i h
    old_pair i h is =
        let p = (formed_unpaired (unpaired e s) (formed_unpaired s f e) g).reversals i h is in
        record {
          both = put_else (map.insert both_gone e g) g e h (λ n. none_second i (ap (map.get both_gone) (sym n) ∙ p.both)) ∙ put_else both_gone e g h (λ n. none_first i (ap (map.get both_gone) (sym n) ∙ p.both)) ∙ p.both;
          apart = p.apart;
          listed = p.listed;
          opposite = p.opposite;
        }

    all_pairs : (i h : ℕ) → map.get (map.insert (map.insert both_gone e g) g e) i ≡ Some h → IsPair pair_state i h
    all_pairs i h is = elim (nat_tells i g) [
      | inl y ↦ subst (λ i. IsPair pair_state i h) (sym y.1) (subst (IsPair pair_state g) (some_same (sym (put_here (map.insert both_gone e g) g e i y.1) ∙ is)) second_pair)
      | inr n ↦
          let at = sym (put_else (map.insert both_gone e g) g e i n.1) ∙ is in
          elim (nat_tells i e) [
            | inl y ↦ subst (λ i. IsPair pair_state i h) (sym y.1) (subst (IsPair pair_state e) (some_same (sym (put_here both_gone e g i y.1) ∙ at)) first_pair)
            | inr m ↦ old_pair i h (sym (put_else both_gone e g i m.1) ∙ at)
          ]
    ]

    pub formed_paired : IsFormed (paired e g s)
    unfolding paired
    formed_paired = formed_columns s (map.insert (map.insert both_gone e g) g e) s.node_labels s.edge_labels f all_pairs f.node_labels f.edge_labels
