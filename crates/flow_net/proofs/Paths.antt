-- An augmenting path, read back from the sink: no arc stands on it twice.
use Rattle.std.proofs.Common.{◌≡◌, ◌≢◌, ◌⊎◌, inl, inr, ℕ, zero, suc, ◌+◌, ◌-◌, ◌<◌, ◌≤◌, ℤ, pos, ◌+ℤ◌, ◌-ℤ◌, ◌≤ℤ◌, List, [], length, set, get_or, refl, sym, ◌∙◌, ap, subst, arith, length-set, get_or-set_same, get_or-set_other}
use borrow.Author.Differences.{ints}
use Rattle.std.proofs.lemmas.Bool.{cases_eq, cases_lt}
use Rattle.graph_defs.specs.declared.net.Net.{Net}
use Rattle.graph_defs.specs.Flow.{outflow, AreWithin, IsFlow}
use Rattle.graph_defs.specs.Grouped.{grouped}
use Rattle.graph_defs.specs.Net.{Ends, source, target}
use Rattle.graph_defs.specs.Sum.{at}
use Rattle.graph_defs.proofs.Incidences.{grouped_only}
use Rattle.flow_net.specs.declared.breadth_first.Found.{Found}
use Rattle.flow_net.specs.Residual.{turned, darts, HasRoom, IsMoved}
use Rattle.flow_net.specs.Search.{found_at, IsLink, IsTree}
use Rattle.flow_net.proofs.Flows.{darts_long, front_ends, back_ends, moved_none, moved_front, moved_back, moved_is_flow, moved_value}

-- ---- a dart leads from one node to another
pub record GoesFrom (net : Net) (dart u v : ℕ) : Type 0 where
  pub below : dart < length net.arcs + length net.arcs
  pub front : dart < length net.arcs → (source net dart ≡ u) × (target net dart ≡ v)
  pub back : length net.arcs ≤ dart → (source net (dart - length net.arcs) ≡ v) × (target net (dart - length net.arcs) ≡ u)

pub goes_of : (net : Net) (cap flow : List ℤ) (queue : List Found) (k : ℕ) (f : Found) → IsLink (grouped net.n (darts net)) cap flow queue k f
    → GoesFrom net f.dart (found_at queue f.predecessor).node f.node
goes_of net cap flow queue k f link =
    let m = length net.arcs in
    let entry = grouped_only net.n (darts net) (found_at queue f.predecessor).node (record { number = f.dart; end = f.node }) link.by in
    let long = darts_long net in
    let is_below : f.dart < length (darts net) = entry.below in
    record {
      below = omega arith;
      front = λ h.
          let e = front_ends net f.dart h in
          (sym (ap (λ (p : Ends). p.0) e) ∙ entry.key_is, sym (ap (λ (p : Ends). p.1) e) ∙ sym entry.end_is);
      back = λ h.
          let e = ap (λ (i : ℕ). get_or (darts net) i (0, 0)) (let q : f.dart ≡ length net.arcs + (f.dart - length net.arcs) = omega arith in q)
          ∙ back_ends net (f.dart - length net.arcs) (omega arith) in
          (sym (ap (λ (p : Ends). p.1) e) ∙ sym entry.end_is, sym (ap (λ (p : Ends). p.0) e) ∙ entry.key_is);
    }

-- an arc with an end that a dart hasn't isn't the arc of that dart
pub record IsApart (net : Net) (dart arc : ℕ) : Type 0 where
  pub front : dart < length net.arcs → dart ≡ arc → ⊥
  pub back : length net.arcs ≤ dart → dart - length net.arcs ≡ arc → ⊥

apart_of : (net : Net) (dart arc u v w : ℕ) → GoesFrom net dart u v → (u ≡ w → ⊥) → (v ≡ w → ⊥) → (source net arc ≡ w) ⊎ (target net arc ≡ w) → IsApart net dart arc
apart_of net dart arc u v w g nu nv (inl e) = record {
  front = λ h q. nu (sym (g.front h).0 ∙ ap (source net) q ∙ e);
  back = λ h q. nv (sym (g.back h).0 ∙ ap (source net) q ∙ e);
}
apart_of net dart arc u v w g nu nv (inr e) = record {
  front = λ h q. nv (sym (g.front h).1 ∙ ap (target net) q ∙ e);
  back = λ h q. nu (sym (g.back h).1 ∙ ap (target net) q ∙ e);
}

-- ---- the path, as far as it was read back
pub record IsOnPath (net : Net) (t : ℕ) (cap flow0 : List ℤ) (queue : List Found) (x : ℤ) (here : ℕ) (flow : List ℤ) : Type 0 where
  pub long : length flow ≡ length net.arcs
  pub within : AreWithin [] cap flow (length net.arcs)
  pub moved : IsMoved net flow0 flow (found_at queue here).node t x
  pub below : here < length queue
  pub enough : x ≤ℤ (found_at queue here).room
  pub some : pos 1 ≤ℤ x
  pub rooms : (j : ℕ) → 0 < j → j ≤ here → HasRoom cap flow (found_at queue j).dart (found_at queue j).room

no_start : (s t : ℕ) (queue : List Found) (place : ℕ) → s ≢ t → (found_at queue 0).node ≡ s → (found_at queue place).node ≡ t → 0 < place
no_start s t queue zero ne root last = absurd (ne (sym root ∙ last))
no_start s t queue (suc k) ne root last = omega arith

pub path_start : (net : Net) (s t : ℕ) (cap flow : List ℤ) (queue : List Found) (place : ℕ) → s ≢ t → IsFlow net s t cap flow → IsTree (grouped net.n (darts net)) cap flow queue
    → place < length queue → (found_at queue 0).node ≡ s → (found_at queue place).node ≡ t
    → IsOnPath net t cap flow queue (found_at queue place).room place flow × (pos 1 ≤ℤ (found_at queue place).room)
path_start net s t cap flow queue place ne f tree l root last =
    let x = (found_at queue place).room in
    let link = tree place (no_start s t queue place ne root last) l in
    let one = link.some in
    let P : ℕ → Type 0 = λ v. IsMoved net flow flow v t x in (
      record {
        long = f.long;
        within = f.bounds;
        moved = subst P (sym last) (moved_none net flow t x);
        below = l;
        enough = omega (arith, ints);
        some = omega (arith, ints);
        rooms = λ j some m. (tree j some (omega arith)).room;
      },
      one,
    )

within_at : (net : Net) (cap flow : List ℤ) (arc i : ℕ) (y : ℤ) → AreWithin [] cap flow (length net.arcs) → arc < length flow → (pos 0 ≤ℤ y) × (y ≤ℤ at cap arc)
    → (i ≡ arc) ⊎ (i ≡ arc → ⊥) → i < length net.arcs → (pos 0 ≤ℤ at (set flow arc y) i) × (at (set flow arc y) i ≤ℤ at cap i)
within_at net cap flow arc i y w l h (inl e) m =
    let P : ℕ → Type 0 = λ k. (pos 0 ≤ℤ at (set flow arc y) k) × (at (set flow arc y) k ≤ℤ at cap k) in
    let Q : ℤ → Type 0 = λ z. (pos 0 ≤ℤ z) × (z ≤ℤ at cap arc) in
    subst P (sym e) (subst Q (sym (get_or-set_same flow arc y (pos 0) l)) h)
within_at net cap flow arc i y w l h (inr ne) m =
    let Q : ℤ → Type 0 = λ z. (pos 0 ≤ℤ z) × (z ≤ℤ at cap i) in
    subst Q (sym (get_or-set_other flow arc i y (pos 0) ne)) (w i m)

room_kept : (net : Net) (cap flow : List ℤ) (dart arc : ℕ) (x y : ℤ) → length flow ≡ length net.arcs → IsApart net dart arc → HasRoom cap flow dart x → HasRoom cap (set flow arc y) dart x
room_kept net cap flow dart arc x y long apart has =
    let l = length-set flow arc y in
    record {
      front = λ h.
          let e : at (set flow arc y) dart ≡ at flow dart = get_or-set_other flow arc dart y (pos 0) (apart.front (omega arith)) in
          let r = has.front (omega arith) in
          omega (arith, ints);
      back = λ h.
          let P : ℕ → Type 0 = λ k. x ≤ℤ at (set flow arc y) (dart - k) in
          let Q : ℕ → Type 0 = λ k. x ≤ℤ at flow (dart - k) in
          let e : at (set flow arc y) (dart - length net.arcs) ≡ at flow (dart - length net.arcs) = get_or-set_other flow arc (dart - length net.arcs) y (pos 0) (apart.back (omega arith)) in
          let r = subst Q long (has.back (omega arith)) in
          subst P (sym (l ∙ long)) (omega (arith, ints));
    }

-- one arc more, which has an end that isn't found before this place
path_at : (net : Net) (t : ℕ) (cap flow0 : List ℤ) (queue : List Found) (x : ℤ) (here arc : ℕ) (flow : List ℤ) (y : ℤ) (f : Found)
    → IsTree (grouped net.n (darts net)) cap flow0 queue → IsLink (grouped net.n (darts net)) cap flow0 queue here f → IsOnPath net t cap flow0 queue x here flow → x ≤ℤ f.room
    → arc < length net.arcs → (source net arc ≡ f.node) ⊎ (target net arc ≡ f.node) → (pos 0 ≤ℤ y) × (y ≤ℤ at cap arc)
    → IsMoved net flow0 (set flow arc y) (found_at queue f.predecessor).node t x
    → IsOnPath net t cap flow0 queue x f.predecessor (set flow arc y)
path_at net t cap flow0 queue x here arc flow y f tree link p enough h end bound moved =
    let before = link.before in
    let below = p.below in
    record {
      long = length-set flow arc y ∙ p.long;
      within = λ i m. within_at net cap flow arc i y p.within (omega (arith, p.long)) bound (cases_eq i arc) m;
      moved = moved;
      below = omega arith;
      enough = (let l = link.least in omega (arith, ints));
      some = p.some;
      rooms = λ j some l.
          let other = tree j some (omega arith) in
          let j_before = other.before in
          let u = (found_at queue (found_at queue j).predecessor).node in
          let apart = apart_of net (found_at queue j).dart arc u (found_at queue j).node f.node (goes_of net cap flow0 queue j (found_at queue j) other)
          (link.fresh (found_at queue j).predecessor (omega arith)) (link.fresh j (omega arith)) end in
          room_kept net cap flow (found_at queue j).dart arc (found_at queue j).room y p.long apart (p.rooms j some (omega arith));
    }

step_front : (net : Net) (t : ℕ) (cap flow0 : List ℤ) (queue : List Found) (x : ℤ) (here : ℕ) (flow : List ℤ) (f : Found)
    → IsTree (grouped net.n (darts net)) cap flow0 queue → IsLink (grouped net.n (darts net)) cap flow0 queue here f → IsOnPath net t cap flow0 queue x here flow → x ≤ℤ f.room → (found_at queue here).node ≡ f.node
    → HasRoom cap flow f.dart f.room → f.dart < length net.arcs → IsOnPath net t cap flow0 queue x f.predecessor (set flow f.dart (at flow f.dart +ℤ x))
step_front net t cap flow0 queue x here flow f tree link p enough same has h =
    let goes = (goes_of net cap flow0 queue here f link).front h in
    let room = has.front (omega (arith, p.long)) in
    let bounds = p.within f.dart h in
    let low : pos 0 ≤ℤ at flow f.dart = bounds.0 in
    let some = p.some in
    path_at net t cap flow0 queue x here f.dart flow (at flow f.dart +ℤ x) f tree link p enough h (inr goes.1) (omega (arith, ints), omega (arith, ints))
    (moved_front net flow0 flow f.dart (found_at queue here).node (found_at queue f.predecessor).node t x h (omega (arith, p.long)) goes.0 (goes.1 ∙ sym same) p.moved)

step_back : (net : Net) (t : ℕ) (cap flow0 : List ℤ) (queue : List Found) (x : ℤ) (here : ℕ) (flow : List ℤ) (f : Found)
    → IsTree (grouped net.n (darts net)) cap flow0 queue → IsLink (grouped net.n (darts net)) cap flow0 queue here f → IsOnPath net t cap flow0 queue x here flow → x ≤ℤ f.room → (found_at queue here).node ≡ f.node
    → HasRoom cap flow f.dart f.room → length net.arcs ≤ f.dart → IsOnPath net t cap flow0 queue x f.predecessor (set flow (f.dart - length net.arcs) (at flow (f.dart - length net.arcs) -ℤ x))
step_back net t cap flow0 queue x here flow f tree link p enough same has h =
    let arc = f.dart - length net.arcs in
    let all = goes_of net cap flow0 queue here f link in
    let goes = all.back h in
    let below : arc < length net.arcs = (let b = all.below in omega arith) in
    let Q : ℕ → Type 0 = λ k. f.room ≤ℤ at flow (f.dart - k) in
    let room = subst Q p.long (has.back (omega (arith, p.long))) in
    let bounds = p.within arc below in
    let high : at flow arc ≤ℤ at cap arc = bounds.1 in
    let some = p.some in
    path_at net t cap flow0 queue x here arc flow (at flow arc -ℤ x) f tree link p enough below (inl goes.0) (omega (arith, ints), omega (arith, ints))
    (moved_back net flow0 flow arc (found_at queue here).node (found_at queue f.predecessor).node t x below (omega (arith, p.long)) goes.1 (goes.0 ∙ sym same) p.moved)

-- the next place of the path, from what is sent along its dart
pub path_more : (net : Net) (t : ℕ) (cap flow0 : List ℤ) (queue : List Found) (x : ℤ) (here : ℕ) (flow flow' : List ℤ)
    → IsTree (grouped net.n (darts net)) cap flow0 queue → 0 < here → IsOnPath net t cap flow0 queue x here flow
    → ((found_at queue here).dart < length flow → flow' ≡ set flow (found_at queue here).dart (at flow (found_at queue here).dart +ℤ x))
    → (length flow ≤ (found_at queue here).dart → flow' ≡ set flow ((found_at queue here).dart - length flow) (at flow ((found_at queue here).dart - length flow) -ℤ x))
    → IsOnPath net t cap flow0 queue x (found_at queue here).predecessor flow'
path_more net t cap flow0 queue x here flow flow' tree some p front back =
    let f = found_at queue here in
    let link = tree here some p.below in
    let P : List ℤ → Type 0 = λ g. IsOnPath net t cap flow0 queue x f.predecessor g in
    elim (cases_lt f.dart (length net.arcs)) [
      | inl h ↦ subst P (sym (front (omega (arith, p.long)))) (step_front net t cap flow0 queue x here flow f tree link p p.enough refl (p.rooms here some (omega arith)) h)
      | inr h ↦ (
          let Q : ℕ → Type 0 = λ k. flow' ≡ set flow (f.dart - k) (at flow (f.dart - k) -ℤ x) in
          let e = subst Q p.long (back (omega (arith, p.long))) in
          subst P (sym e) (step_back net t cap flow0 queue x here flow f tree link p p.enough refl (p.rooms here some (omega arith)) h))
    ]

-- what is sent fits
pub sent : (net : Net) (t : ℕ) (cap flow0 : List ℤ) (queue : List Found) (x : ℤ) (here : ℕ) (flow : List ℤ) → IsTree (grouped net.n (darts net)) cap flow0 queue → 0 < here
    → IsOnPath net t cap flow0 queue x here flow
    → ((found_at queue here).dart < length flow + length flow)
    × ((found_at queue here).dart < length flow → (pos 0 ≤ℤ (at flow (found_at queue here).dart +ℤ x)) × ((at flow (found_at queue here).dart +ℤ x) ≤ℤ at cap (found_at queue here).dart))
    × (length flow ≤ (found_at queue here).dart → (pos 0 ≤ℤ (at flow ((found_at queue here).dart - length flow) -ℤ x))
    × ((at flow ((found_at queue here).dart - length flow) -ℤ x) ≤ℤ at cap ((found_at queue here).dart - length flow)))
sent net t cap flow0 queue x here flow tree some p =
    let f = found_at queue here in
    let link = tree here some p.below in
    let goes = goes_of net cap flow0 queue here f link in
    let has = p.rooms here some (omega arith) in
    let enough = p.enough in
    let least = p.some in
    let long = p.long in
    let b = goes.below in (
      omega arith,
      λ h. (
          let room = has.front h in
          let low : pos 0 ≤ℤ at flow f.dart = (p.within f.dart (omega arith)).0 in
          (omega (arith, ints), omega (arith, ints))),
      λ h. (
          let room = has.back h in
          let high : at flow (f.dart - length flow) ≤ℤ at cap (f.dart - length flow) = (p.within (f.dart - length flow) (omega arith)).1 in
          (omega (arith, ints), omega (arith, ints))),
    )

-- the whole path
pub path_end : (net : Net) (s t : ℕ) (cap flow0 : List ℤ) (queue : List Found) (x : ℤ) (here : ℕ) (flow : List ℤ) → s ≢ t → IsFlow net s t cap flow0 → (found_at queue 0).node ≡ s → here ≤ 0
    → IsOnPath net t cap flow0 queue x here flow → IsFlow net s t cap flow × (outflow net flow s ≡ (outflow net flow0 s +ℤ x))
path_end net s t cap flow0 queue x here flow ne f root z p =
    let e : here ≡ 0 = omega arith in
    let P : ℕ → Type 0 = λ k. IsMoved net flow0 flow (found_at queue k).node t x in
    let Q : ℕ → Type 0 = λ v. IsMoved net flow0 flow v t x in
    let moved = subst Q root (subst P e p.moved) in
    (moved_is_flow net s t cap flow0 flow x f p.long p.within moved, moved_value net s t flow0 flow x ne moved)
