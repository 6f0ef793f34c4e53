-- The items of a dictionary in the order of the keys: which is first, last, next and before.
use Rattle.std.proofs.Common.{◌≡◌, ℕ, ◌≢◌, List, [], ◌∷◌, ◌++◌, map, Option, Some, None, refl, sym, ap, subst, ◌∙◌, ◌⊎◌, inl, inr, ⊎_elim, arith}
use Rattle.std.proofs.lemmas.Int.{ints}
use Rattle.std.specs.Prelude.{ℤ, ◌<ℤ◌, ◌≤ℤ◌, ⊤, T, option_map}
use Rattle.std.specs.declared.cmp.Ordering.{Ordering}
use Rattle.std.specs.declared.cmp.Ordering.TheVariants.{Less, Equal, Greater}
use Rattle.std.specs.Ordering.{int_cmp, int_eq, is_lt, eq_by_cmp, is_eq}
use Rattle.std.specs.Cmp.{int_cmp_total, int_ranked, tied_itself}
use Rattle.std.specs.FinMap as finmap
use Rattle.std.specs.FinMap.Entries.{find, is_sorted, below_all}
use Rattle.item_dict.proofs.Maps.{untied, same_or_not}
use Rattle.item_pool.specs.declared.pool.Item.{Item}
use Rattle.item_ring.specs.RingLists.{IsDistinct, front, back}
use Rattle.item_list.specs.Items.{serials, value_at}
use Rattle.item_dict.specs.Contents.{Contents as DictOf, HasKey}
use Rattle.object_store.specs.declared.near.Near.{Near}
use Rattle.object_store.specs.declared.near.Near.TheVariants.{First, Last, WithKey, Least, Behind, Before, RoundBehind, RoundBefore}
use Rattle.object_store.specs.declared.object.Entry.{Entry}
use Rattle.object_store.specs.declared.object.Object.TheVariants as held
use Rattle.object_store.specs.State.{Cell}
use Rattle.object_store.specs.Cells.{head_of}
use Rattle.object_store.specs.Inner.{Inner, inner, dict_cell}
use Rattle.object_store.specs.Near.{IsKeyed}
use Rattle.object_store.proofs.Going.{DictEntry, AllFound, all_found, both_front, both_rear}
use Rattle.object_store.proofs.ItemsRead.{dict_at, dict_bare}
use Rattle.object_store.proofs.Lists.{cond_true, cond_false}
use Rattle.object_store.proofs.Standing.{IsSerial, key_in}

none_some : {A : Type 0} (a : A) → None ≡ Some a → ⊥
none_some a e = cc

some_same : {A : Type 0} (a b : A) → Some a ≡ Some b → a ≡ b
some_same a b e = cc

same_head : {A : Type 0} (x y : A) (xs ys : List A) → x ∷ xs ≡ y ∷ ys → x ≡ y
same_head x y xs ys e = cc

same_tail : {A : Type 0} (x y : A) (xs ys : List A) → x ∷ xs ≡ y ∷ ys → xs ≡ ys
same_tail x y xs ys e = cc

not_empty : {A : Type 0} (x : A) (xs : List A) → [] ≡ x ∷ xs → ⊥
not_empty x xs e = cc

clash : (x y : ℤ) → x <ℤ y → y ≤ℤ x → ⊥
clash x y less least = omega (arith, ints)

less_is : (o : Ordering) → T (is_lt o) → o ≡ Less
less_is Less h = refl
less_is Equal h = absurd h
less_is Greater h = absurd h

-- ---- entries among others
abbrev pub Among : DictEntry → List DictEntry → Type 0
Among e [] = ⊥
Among e (f ∷ fs) = (e ≡ f) ⊎ Among e fs

among_left : (e : DictEntry) (xs ys : List DictEntry) → Among e xs → Among e (xs ++ ys)
among_left e [] ys m = absurd m
among_left e (x ∷ xs) ys m = ⊎_elim (λ is. inl is) (λ later. inr (among_left e xs ys later)) m

among_right : (e : DictEntry) (xs ys : List DictEntry) → Among e ys → Among e (xs ++ ys)
among_right e [] ys m = m
among_right e (x ∷ xs) ys m = inr (among_right e xs ys m)

among_parts : (e : DictEntry) (xs ys : List DictEntry) → Among e (xs ++ ys) → Among e xs ⊎ Among e ys
among_parts e [] ys m = inr m
among_parts e (x ∷ xs) ys m = ⊎_elim
    (λ is. inl (inl is))
    (λ later. ⊎_elim (λ l. inl (inr l)) (λ r. inr r) (among_parts e xs ys later))
    m

-- an entry is found by its key just where it is among the entries
pub among_found : (k : ℤ) (v : ℕ × Entry) (es : List DictEntry) → find int_cmp k es ≡ Some v → Among (k, v) es
among_found k v [] h = absurd (none_some v h)
among_found k v (e ∷ es) h = ⊎_elim
    (λ (is : k ≡ e.0).
    let one : e.1 ≡ v = some_same e.1 v (sym (cond_true (eq_by_cmp int_cmp k e.0) (Some e.1) (find int_cmp k es) (ap (λ z. eq_by_cmp int_cmp k z) (sym is) ∙ ap is_eq (tied_itself int_cmp_total k))) ∙ h) in
    inl (λ j. (is j, sym one j)))
    (λ (ne : k ≢ e.0). inr (among_found k v es (sym (cond_false (eq_by_cmp int_cmp k e.0) (Some e.1) (find int_cmp k es) (untied int_cmp_total finmap.int_cmp-IsAntisymmetric k e.0 ne)) ∙ h)))
    (same_or_not int_cmp_total finmap.int_cmp-IsAntisymmetric k e.0)

found_among : (whole es : List DictEntry) → AllFound whole es → (e : DictEntry) → Among e es → find int_cmp e.0 whole ≡ Some e.1
found_among whole [] h e m = absurd m
found_among whole (f ∷ fs) h e m = ⊎_elim
    (λ (is : e ≡ f). subst (λ (z : DictEntry). find int_cmp z.0 whole ≡ Some z.1) (sym is) h.0)
    (λ later. found_among whole fs h.1 e later)
    m

pub entry_held : (d : DictOf Entry) (e : DictEntry) → Among e (finmap.entries d.triples) → finmap.get d.triples e.0 ≡ Some e.1
entry_held d e m =
    finmap.get-entries d.triples e.0
    ∙ found_among (finmap.entries d.triples) (finmap.entries d.triples) (all_found (finmap.entries d.triples) (finmap.entries_sorted d.triples)) e m

pub held_entry : (d : DictOf Entry) (k : ℤ) (v : ℕ × Entry) → finmap.get d.triples k ≡ Some v → Among (k, v) (finmap.entries d.triples)
held_entry d k v h = among_found k v (finmap.entries d.triples) (sym (finmap.get-entries d.triples k) ∙ h)

-- what has the key among the items
key_of : (k : ℤ) (es : List DictEntry) → key_in k (map dict_cell es) ≡ option_map (λ (v : ℕ × Entry). dict_cell (k, v)) (find int_cmp k es)
key_of k [] = refl
key_of k (e ∷ es) =
    let g : ℕ × Entry → Inner = λ v. dict_cell (k, v) in
    ⊎_elim
    (λ (is : k ≡ e.0).
    cond_true (int_eq e.0 k) (Some (dict_cell e)) (key_in k (map dict_cell es)) (ap (λ z. int_eq z k) (sym is) ∙ ap is_eq (tied_itself int_cmp_total k))
    ∙ ap (λ z. Some (dict_cell (z, e.1))) (sym is)
    ∙ ap (λ v. option_map g v) (sym (cond_true (eq_by_cmp int_cmp k e.0) (Some e.1) (find int_cmp k es) (ap (λ z. eq_by_cmp int_cmp k z) (sym is) ∙ ap is_eq (tied_itself int_cmp_total k)))))
    (λ (ne : k ≢ e.0).
    cond_false (int_eq e.0 k) (Some (dict_cell e)) (key_in k (map dict_cell es)) (untied int_cmp_total finmap.int_cmp-IsAntisymmetric e.0 k (λ is. ne (sym is)))
    ∙ key_of k es
    ∙ ap (λ v. option_map g v) (sym (cond_false (eq_by_cmp int_cmp k e.0) (Some e.1) (find int_cmp k es) (untied int_cmp_total finmap.int_cmp-IsAntisymmetric k e.0 ne))))
    (same_or_not int_cmp_total finmap.int_cmp-IsAntisymmetric k e.0)

pub key_held : (d : DictOf Entry) (k : ℤ) → key_in k (inner (held.Dict d)) ≡ option_map (λ (v : ℕ × Entry). dict_cell (k, v)) (finmap.get d.triples k)
key_held d k = key_of k (finmap.entries d.triples) ∙ ap (λ o. option_map (λ (v : ℕ × Entry). dict_cell (k, v)) o) (sym (finmap.get-entries d.triples k))

-- ---- keys that rise
abbrev pub IsAbove : ℤ → List DictEntry → Type 0
IsAbove k [] = ⊤
IsAbove k (e ∷ es) = (k <ℤ e.0) × IsAbove k es

abbrev pub IsRising : List DictEntry → Type 0
IsRising [] = ⊤
IsRising (e ∷ es) = IsAbove e.0 es × IsRising es

above : (k : ℤ) (es : List DictEntry) → T (below_all int_cmp k es) → IsAbove k es
above k [] h = tt
above k (e ∷ es) h = (
  int_ranked k e.0 Less (sym (less_is (int_cmp k e.0) (both_front (is_lt (int_cmp k e.0)) (below_all int_cmp k es) h))),
  above k es (both_rear (is_lt (int_cmp k e.0)) (below_all int_cmp k es) h),
)

pub rising : (es : List DictEntry) → T (is_sorted int_cmp es) → IsRising es
rising [] h = tt
rising (e ∷ es) h = (
  above e.0 es (both_front (below_all int_cmp e.0 es) (is_sorted int_cmp es) h),
  rising es (both_rear (below_all int_cmp e.0 es) (is_sorted int_cmp es) h),
)

pub above_each : (k : ℤ) (es : List DictEntry) → IsAbove k es → (e : DictEntry) → Among e es → k <ℤ e.0
above_each k [] h e m = absurd m
above_each k (f ∷ fs) h e m = ⊎_elim
    (λ (is : e ≡ f). subst (λ (z : DictEntry). k <ℤ z.0) (sym is) h.0)
    (λ later. above_each k fs h.1 e later)
    m

above_left : (k : ℤ) (xs ys : List DictEntry) → IsAbove k (xs ++ ys) → IsAbove k xs
above_left k [] ys h = tt
above_left k (x ∷ xs) ys h = (h.0, above_left k xs ys h.1)

least_first : (es : List DictEntry) → IsRising es → (e : DictEntry) → Among e es → ((f : DictEntry) → Among f es → e.0 ≤ℤ f.0) → Some e.1.0 ≡ front (serials (map dict_cell es))
least_first [] rise e m least = absurd m
least_first (f ∷ fs) rise e m least = ⊎_elim
    (λ (is : e ≡ f). ap (λ (z : DictEntry). Some z.1.0) is)
    (λ later. absurd (clash f.0 e.0 (above_each f.0 fs rise.0 e later) (least f (inl refl))))
    m

greatest_last : (es : List DictEntry) → IsRising es → (e : DictEntry) → Among e es → ((f : DictEntry) → Among f es → f.0 ≤ℤ e.0) → Some e.1.0 ≡ back (serials (map dict_cell es))
greatest_last [] rise e m greatest = absurd m
greatest_last (f ∷ []) rise e m greatest = ⊎_elim (λ (is : e ≡ f). ap (λ (z : DictEntry). Some z.1.0) is) (λ later. absurd later) m
greatest_last (f ∷ g ∷ gs) rise e m greatest = ⊎_elim
    (λ (is : e ≡ f). absurd (clash e.0 g.0 (subst (λ (z : DictEntry). z.0 <ℤ g.0) (sym is) rise.0.0) (greatest g (inr (inl refl)))))
    (λ later. greatest_last (g ∷ gs) rise.1 e later (λ h a. greatest h (inr a)))
    m

-- entries that can't be
no_entries : (es : List DictEntry) → ((f : DictEntry) → Among f es → ⊥) → [] ≡ es
no_entries [] none = refl
no_entries (e ∷ es) none = absurd (none e (inl refl))

-- ---- entries that are cut at one
record Parted (bs : List DictEntry) (e : DictEntry) (rs : List DictEntry) : Type 0 where
  pub front : (f : DictEntry) → Among f bs → f.0 <ℤ e.0
  pub rear : (f : DictEntry) → Among f rs → e.0 <ℤ f.0
  pub front_rise : IsRising bs
  pub rear_rise : IsRising rs

parted : (bs : List DictEntry) (e : DictEntry) (rs : List DictEntry) → IsRising (bs ++ e ∷ rs) → Parted bs e rs
parted [] e rs h = record { front = λ f m. absurd m; rear = above_each e.0 rs h.0; front_rise = tt; rear_rise = h.1 }
parted (b ∷ bs) e rs h =
    let p = parted bs e rs h.1 in
    record {
      front = λ f m. ⊎_elim
          (λ (is : f ≡ b). subst (λ (z : DictEntry). z.0 <ℤ e.0) (sym is) (above_each b.0 (bs ++ e ∷ rs) h.0 e (among_right e bs (e ∷ rs) (inl refl))))
          (λ later. p.front f later)
          m;
      rear = p.rear;
      front_rise = (above_left b.0 bs (e ∷ rs) h.0, p.front_rise);
      rear_rise = p.rear_rise;
    }

record CutMap (es : List DictEntry) (bs : List Inner) (x : Inner) (rs : List Inner) : Type 0 where
  pub before : List DictEntry
  pub at : DictEntry
  pub behind : List DictEntry
  pub whole : es ≡ before ++ at ∷ behind
  pub before_is : map dict_cell before ≡ bs
  pub at_is : dict_cell at ≡ x
  pub behind_is : map dict_cell behind ≡ rs

cut_map : (es : List DictEntry) (bs : List Inner) (x : Inner) (rs : List Inner) → map dict_cell es ≡ bs ++ x ∷ rs → CutMap es bs x rs
cut_map [] [] x rs h = absurd (not_empty x rs h)
cut_map [] (b ∷ bs) x rs h = absurd (not_empty b (bs ++ x ∷ rs) h)
cut_map (e ∷ es) [] x rs h = record {
  before = [];
  at = e;
  behind = es;
  whole = refl;
  before_is = refl;
  at_is = same_head (dict_cell e) x (map dict_cell es) rs h;
  behind_is = same_tail (dict_cell e) x (map dict_cell es) rs h;
}
cut_map (e ∷ es) (b ∷ bs) x rs h =
    let w = cut_map es bs x rs (same_tail (dict_cell e) b (map dict_cell es) (bs ++ x ∷ rs) h) in
    record {
      before = e ∷ w.before;
      at = w.at;
      behind = w.behind;
      whole = ap (λ ys. e ∷ ys) w.whole;
      before_is = λ j. same_head (dict_cell e) b (map dict_cell es) (bs ++ x ∷ rs) h j ∷ w.before_is j;
      at_is = w.at_is;
      behind_is = w.behind_is;
    }

-- ---- the items of a dictionary
module _ (d : DictOf Entry) (apart : IsDistinct (serials (inner (held.Dict d)))) where
  abbrev es : List DictEntry
  es = finmap.entries d.triples

  rise : IsRising es
  rise = rising es (finmap.entries_sorted d.triples)

  -- an item has one key
  one_key : (s : ℕ) (k : ℤ) → HasKey d s k → (e : DictEntry) → Among e es → e.1.0 ≡ s → e.0 ≡ k
  one_key s k h e m is =
      let there : value_at s (inner (held.Dict d)) ≡ Some (e.1.1.number, e.0 ∷ e.1.1.value ∷ []) =
      ap (λ t. value_at t (inner (held.Dict d))) (sym is) ∙ dict_at d e.0 e.1.0 e.1.1 apart (entry_held d e m) in
      ap (λ (c : Cell). head_of c.1) (some_same (e.1.1.number, e.0 ∷ e.1.1.value ∷ []) (h.0.number, k ∷ h.0.value ∷ []) (sym there ∙ dict_at d k s h.0 apart h.1))

  of_entry : (e : DictEntry) → Among e es → HasKey d e.1.0 e.0
  of_entry e m = (e.1.1, entry_held d e m)

  module _ (s : ℕ) (k : ℤ) (has : HasKey d s k) (bs : List Inner) (c : Cell) (rs : List Inner) (is : inner (held.Dict d) ≡ bs ++ (s, c) ∷ rs) where
    w : CutMap es bs (s, c) rs
    w = cut_map es bs (s, c) rs is

    in_whole : (f : DictEntry) → Among f (w.before ++ w.at ∷ w.behind) → Among f es
    in_whole f m = subst (Among f) (sym w.whole) m

    key : w.at.0 ≡ k
    key = one_key s k has w.at (in_whole w.at (among_right w.at w.before (w.at ∷ w.behind) (inl refl))) (ap (λ (x : Inner). x.0) w.at_is)

    p : Parted w.before w.at w.behind
    p = parted w.before w.at w.behind (subst IsRising w.whole rise)

    held_behind : (f : DictEntry) → Among f w.behind → HasKey d f.1.0 f.0
    held_behind f m = of_entry f (in_whole f (among_right f w.before (w.at ∷ w.behind) (inr m)))

    held_before : (f : DictEntry) → Among f w.before → HasKey d f.1.0 f.0
    held_before f m = of_entry f (in_whole f (among_left f w.before (w.at ∷ w.behind) m))

    behind_key : (f : DictEntry) → Among f w.behind → k <ℤ f.0
    behind_key f m = subst (λ z. z <ℤ f.0) key (p.rear f m)

    before_key : (f : DictEntry) → Among f w.before → f.0 <ℤ k
    before_key f m = subst (λ z. f.0 <ℤ z) key (p.front f m)

    pub none_behind : ((t : ℕ) (q : ℤ) → HasKey d t q → q ≤ℤ k) → None ≡ front (serials rs)
    none_behind least =
        ap (λ ys. front (serials (map dict_cell ys))) (no_entries w.behind (λ f m. clash k f.0 (behind_key f m) (least f.1.0 f.0 (held_behind f m))))
        ∙ ap (λ ys. front (serials ys)) w.behind_is

    pub none_before : ((t : ℕ) (q : ℤ) → HasKey d t q → k ≤ℤ q) → None ≡ back (serials bs)
    none_before greatest =
        ap (λ ys. back (serials (map dict_cell ys))) (no_entries w.before (λ f m. clash f.0 k (before_key f m) (greatest f.1.0 f.0 (held_before f m))))
        ∙ ap (λ ys. back (serials ys)) w.before_is

    -- an entry stands before this one, behind it, or is it
    where_is : (f : DictEntry) → Among f es → Among f w.before ⊎ ((f ≡ w.at) ⊎ Among f w.behind)
    where_is f m = among_parts f w.before (w.at ∷ w.behind) (subst (Among f) w.whole m)

    pub some_behind : (t : ℕ) (j : ℤ) → HasKey d t j → k <ℤ j → ((u : ℕ) (q : ℤ) → HasKey d u q → k <ℤ q → j ≤ℤ q) → Some t ≡ front (serials rs)
    some_behind t j h more least =
        let e : DictEntry = (j, (t, h.0)) in
        let there : Among e w.behind = ⊎_elim
        (λ m. absurd (clash j k (before_key e m) (omega (arith, ints, more))))
        (λ r. ⊎_elim (λ (same : e ≡ w.at). absurd (clash k j more (subst (λ z. z ≤ℤ k) (sym (ap (λ (z : DictEntry). z.0) same ∙ key)) (omega (arith, ints))))) (λ m. m) r)
        (where_is e (held_entry d j (t, h.0) h.1)) in
        least_first w.behind p.rear_rise e there (λ f m. least f.1.0 f.0 (held_behind f m) (behind_key f m))
        ∙ ap (λ ys. front (serials ys)) w.behind_is

    pub some_before : (t : ℕ) (j : ℤ) → HasKey d t j → j <ℤ k → ((u : ℕ) (q : ℤ) → HasKey d u q → q <ℤ k → q ≤ℤ j) → Some t ≡ back (serials bs)
    some_before t j h less greatest =
        let e : DictEntry = (j, (t, h.0)) in
        let there : Among e w.before = ⊎_elim
        (λ m. m)
        (λ r. ⊎_elim (λ (same : e ≡ w.at). absurd (clash j k less (subst (λ z. k ≤ℤ z) (sym (ap (λ (z : DictEntry). z.0) same ∙ key)) (omega (arith, ints))))) (λ m. absurd (clash k j (behind_key e m) (omega (arith, ints, less)))) r)
        (where_is e (held_entry d j (t, h.0) h.1)) in
        greatest_last w.before p.front_rise e there (λ f m. greatest f.1.0 f.0 (held_before f m) (before_key f m))
        ∙ ap (λ ys. back (serials ys)) w.before_is

  -- the item that a dictionary has there is the one among its items
  pub keyed_serial : (near : Near) (r : Option Item) → IsKeyed near d r → IsSerial near (inner (held.Dict d)) r
  keyed_serial First None h = ap (λ xs. front (serials xs)) (sym (dict_bare d h))
  keyed_serial First (Some it) h =
      least_first es rise (h.0, (it.serial, h.1.0.0)) (held_entry d h.0 (it.serial, h.1.0.0) h.1.0.1) (λ f m. h.1.1 f.1.0 f.0 (of_entry f m))
  keyed_serial Last None h = ap (λ xs. back (serials xs)) (sym (dict_bare d h))
  keyed_serial Last (Some it) h =
      greatest_last es rise (h.0, (it.serial, h.1.0.0)) (held_entry d h.0 (it.serial, h.1.0.0) h.1.0.1) (λ f m. h.1.1 f.1.0 f.0 (of_entry f m))
  keyed_serial (WithKey k) None h = sym (ap (λ o. option_map (λ (x : Inner). x.0) o) (key_held d k ∙ ap (λ o. option_map (λ (v : ℕ × Entry). dict_cell (k, v)) o) h))
  keyed_serial (WithKey k) (Some it) h = sym (ap (λ o. option_map (λ (x : Inner). x.0) o) (key_held d k ∙ ap (λ o. option_map (λ (v : ℕ × Entry). dict_cell (k, v)) o) h.1))
  keyed_serial Least r h = absurd h
  keyed_serial (Behind at) None h = λ bs rs c is. none_behind at.serial h.0 h.1 bs c rs is h.2
  keyed_serial (Behind at) (Some it) h = λ bs rs c is.
      some_behind at.serial h.0 h.1 bs c rs is it.serial h.2.0 h.2.1.0 h.2.1.1 h.2.1.2
  keyed_serial (Before at) None h = λ bs rs c is. none_before at.serial h.0 h.1 bs c rs is h.2
  keyed_serial (Before at) (Some it) h = λ bs rs c is.
      some_before at.serial h.0 h.1 bs c rs is it.serial h.2.0 h.2.1.0 h.2.1.1 h.2.1.2
  keyed_serial (RoundBehind at) r h = absurd h
  keyed_serial (RoundBefore at) r h = absurd h
