-- What one insertion, change or removal in the pool and the tree makes of the triples.
use Rattle.std.proofs.Common.{◌≡◌, ℕ, ◌≢◌, ◌+◌, ◌-◌, Option, Some, None, refl, sym, ap, ◌∙◌, ⊎_elim}
use Rattle.std.proofs.lemmas.Bool.{cases_eq}
use Rattle.std.specs.Prelude.{ℤ}
use Rattle.std.specs.Ordering.{nat_cmp, int_cmp}
use Rattle.std.specs.Cmp.{nat_cmp_total, int_cmp_total}
use Rattle.std.specs.FinMap as map
use Rattle.item_dict.specs.declared.dict.Entry.{Entry}
use Rattle.item_dict.specs.Index.{pair, with_inf, found_in, triples_of, IsIndexed}
use Rattle.item_dict.proofs.Maps.{same_or_not, get_here, get_there, gone_here, gone_there, len_more, len_kept, len_less, inserted, removed}
use Rattle.item_dict.proofs.Triples.{get_triples, triples_empty, same_pair, holds, absent}

module _ {X : Type 0} where
  pub indexed_empty : (live : map.FinMap nat_cmp (Entry X)) (serials : map.FinMap int_cmp ℕ) → live ≡ map.empty → serials ≡ map.empty → IsIndexed live serials
  indexed_empty live serials bare blank = record {
    listed = λ s k x h. let twice : None ≡ Some (pair k x) = sym (ap (λ m. map.get m s) bare ∙ map.get-empty nat_cmp s) ∙ h in cc;
    found = λ k s h. let twice : None ≡ Some s = sym (ap (λ m. map.get m k) blank ∙ map.get-empty int_cmp k) ∙ h in cc;
    counted = ap (λ m. map.len m) bare ∙ map.len-empty nat_cmp (Entry X) ∙ sym (ap (λ m. map.len m) (triples_empty live serials blank) ∙ map.len-empty int_cmp (ℕ × X));
  }

  -- a key is found in two pools alike where they have one entry under its serial
  found_alike : (live more : map.FinMap nat_cmp (Entry X)) (r : Option ℕ) → ((t : ℕ) → r ≡ Some t → map.get more t ≡ map.get live t) → found_in more r ≡ found_in live r
  found_alike live more None same = refl
  found_alike live more (Some t) same = ap (λ n. with_inf t n) (same t refl)

  module _ (live : map.FinMap nat_cmp (Entry X)) (serials : map.FinMap int_cmp ℕ) (is : IsIndexed live serials) where
    others : (more : map.FinMap nat_cmp (Entry X)) (names : map.FinMap int_cmp ℕ) (q : ℤ) → map.get names q ≡ map.get serials q
        → ((t : ℕ) → map.get serials q ≡ Some t → map.get more t ≡ map.get live t) → map.get (triples_of more names) q ≡ map.get (triples_of live serials) q
    others more names q at same = get_triples more names q ∙ ap (λ r. found_in more r) at ∙ found_alike live more (map.get serials q) same ∙ sym (get_triples live serials q)

    -- another key has another serial
    other : (s : ℕ) (k : ℤ) (x : X) → map.get live s ≡ Some (pair k x) → (q : ℤ) (t : ℕ) → q ≢ k → map.get serials q ≡ Some t → t ≢ s
    other s k x held q t ne e at = let f = is.found q t e in ne (same_pair q k f.0 x (sym f.1 ∙ ap (λ u. map.get live u) at ∙ held)).0

    module _ (s : ℕ) (k : ℤ) (x : X) (fresh : map.get live s ≡ None) (none : map.get serials k ≡ None) where
      unnamed : (q : ℤ) (t : ℕ) → map.get serials q ≡ Some t → t ≢ s
      unnamed q t e at = let f = is.found q t e in let twice : None ≡ Some (pair q f.0) = sym fresh ∙ ap (λ u. map.get live u) (sym at) ∙ f.1 in cc

      pub triples_add : triples_of (map.insert live s (pair k x)) (map.insert serials k s) ≡ map.insert (triples_of live serials) k (s, x)
      triples_add =
          let nt = nat_cmp_total in let ns = map.nat_cmp-IsAntisymmetric in let zo = int_cmp_total in let zs = map.int_cmp-IsAntisymmetric in
          let more = map.insert live s (pair k x) in let names = map.insert serials k s in
          inserted zo zs (triples_of live serials) k (triples_of more names) (s, x)
          (get_triples more names k ∙ ap (λ r. found_in more r) (get_here zo zs serials k s) ∙ ap (λ n. with_inf s n) (get_here nt ns live s (pair k x)))
          (λ q ne. others more names q (get_there zo zs serials k s q ne) (λ t e. get_there nt ns live s (pair k x) t (unnamed q t e)))

      pub indexed_add : IsIndexed (map.insert live s (pair k x)) (map.insert serials k s)
      indexed_add =
          let nt = nat_cmp_total in let ns = map.nat_cmp-IsAntisymmetric in let zo = int_cmp_total in let zs = map.int_cmp-IsAntisymmetric in
          let more = map.insert live s (pair k x) in let names = map.insert serials k s in record {
            listed = λ t j y h. ⊎_elim
                (λ at. let key : k ≡ j = (same_pair k j x y (sym (get_here nt ns live s (pair k x)) ∙ ap (λ u. map.get more u) (sym at) ∙ h)).0 in
                ap (λ u. map.get names u) (sym key) ∙ get_here zo zs serials k s ∙ ap (λ u. Some u) (sym at))
                (λ ne. let f = is.listed t j y (sym (get_there nt ns live s (pair k x) t ne) ∙ h) in
                get_there zo zs serials k s j (λ at. let twice : None ≡ Some t = sym none ∙ ap (λ u. map.get serials u) (sym at) ∙ f in cc) ∙ f)
                (cases_eq t s);
            found = λ j t h. ⊎_elim
                (λ at. let both : Some s ≡ Some t = sym (get_here zo zs serials k s) ∙ ap (λ u. map.get names u) (sym at) ∙ h in let one : s ≡ t = cc in
                let here : (y : X) × (map.get more t ≡ Some (pair j y)) = (x, ap (λ u. map.get more u) (sym one) ∙ get_here nt ns live s (pair k x) ∙ ap (λ u. Some (pair u x)) (sym at)) in here)
                (λ ne. let e = sym (get_there zo zs serials k s j ne) ∙ h in let f = is.found j t e in
                let there : (y : X) × (map.get more t ≡ Some (pair j y)) = (f.0, get_there nt ns live s (pair k x) t (unnamed j t e) ∙ f.1) in there)
                (same_or_not zo zs j k);
            counted = len_more nt ns live s (pair k x) fresh ∙ ap (λ n. n + 1) is.counted ∙ sym (len_more zo zs (triples_of live serials) k (s, x) (absent live serials is k none)) ∙ ap (λ m. map.len m) (sym triples_add);
          }

    module _ (s : ℕ) (k : ℤ) (old : X) (held : map.get live s ≡ Some (pair k old)) where
      pub triples_write : (x : X) → triples_of (map.insert live s (pair k x)) serials ≡ map.insert (triples_of live serials) k (s, x)
      triples_write x =
          let nt = nat_cmp_total in let ns = map.nat_cmp-IsAntisymmetric in let zo = int_cmp_total in let zs = map.int_cmp-IsAntisymmetric in
          let more = map.insert live s (pair k x) in
          inserted zo zs (triples_of live serials) k (triples_of more serials) (s, x)
          (get_triples more serials k ∙ ap (λ r. found_in more r) (is.listed s k old held) ∙ ap (λ n. with_inf s n) (get_here nt ns live s (pair k x)))
          (λ q ne. others more serials q refl (λ t e. get_there nt ns live s (pair k x) t (other s k old held q t ne e)))

      pub indexed_write : (x : X) → IsIndexed (map.insert live s (pair k x)) serials
      indexed_write x =
          let nt = nat_cmp_total in let ns = map.nat_cmp-IsAntisymmetric in let zo = int_cmp_total in let zs = map.int_cmp-IsAntisymmetric in
          let more = map.insert live s (pair k x) in record {
            listed = λ t j y h. ⊎_elim
                (λ at. let key : k ≡ j = (same_pair k j x y (sym (get_here nt ns live s (pair k x)) ∙ ap (λ u. map.get more u) (sym at) ∙ h)).0 in
                ap (λ u. map.get serials u) (sym key) ∙ is.listed s k old held ∙ ap (λ u. Some u) (sym at))
                (λ ne. is.listed t j y (sym (get_there nt ns live s (pair k x) t ne) ∙ h))
                (cases_eq t s);
            found = λ j t h. let f = is.found j t h in ⊎_elim
                (λ at. let key : k ≡ j = (same_pair k j old f.0 (sym held ∙ ap (λ u. map.get live u) (sym at) ∙ f.1)).0 in
                let here : (y : X) × (map.get more t ≡ Some (pair j y)) = (x, ap (λ u. map.get more u) at ∙ get_here nt ns live s (pair k x) ∙ ap (λ u. Some (pair u x)) key) in here)
                (λ ne. let there : (y : X) × (map.get more t ≡ Some (pair j y)) = (f.0, get_there nt ns live s (pair k x) t ne ∙ f.1) in there)
                (cases_eq t s);
            counted = len_kept nt ns live s (pair k old) (pair k x) held ∙ is.counted ∙ sym (len_kept zo zs (triples_of live serials) k (s, old) (s, x) (holds live serials is s k old held)) ∙ ap (λ m. map.len m) (sym (triples_write x));
          }

      pub triples_remove : triples_of (map.remove live s) (map.remove serials k) ≡ map.remove (triples_of live serials) k
      triples_remove =
          let nt = nat_cmp_total in let ns = map.nat_cmp-IsAntisymmetric in let zo = int_cmp_total in let zs = map.int_cmp-IsAntisymmetric in
          let less = map.remove live s in let names = map.remove serials k in
          removed zo zs (triples_of live serials) k (triples_of less names)
          (get_triples less names k ∙ ap (λ r. found_in less r) (gone_here zo zs serials k))
          (λ q ne. others less names q (gone_there zo zs serials k q ne) (λ t e. gone_there nt ns live s t (other s k old held q t ne e)))

      pub indexed_remove : IsIndexed (map.remove live s) (map.remove serials k)
      indexed_remove =
          let nt = nat_cmp_total in let ns = map.nat_cmp-IsAntisymmetric in let zo = int_cmp_total in let zs = map.int_cmp-IsAntisymmetric in
          let less = map.remove live s in let names = map.remove serials k in record {
            listed = λ t j y h. ⊎_elim
                (λ at. let twice : None ≡ Some (pair j y) = sym (gone_here nt ns live s) ∙ ap (λ u. map.get less u) (sym at) ∙ h in cc)
                (λ ne. let f = is.listed t j y (sym (gone_there nt ns live s t ne) ∙ h) in
                gone_there zo zs serials k j (λ at. let both : Some s ≡ Some t = sym (is.listed s k old held) ∙ ap (λ u. map.get serials u) (sym at) ∙ f in let one : t ≡ s = cc in ne one) ∙ f)
                (cases_eq t s);
            found = λ j t h. ⊎_elim
                (λ at. let twice : None ≡ Some t = sym (gone_here zo zs serials k) ∙ ap (λ u. map.get names u) (sym at) ∙ h in cc)
                (λ ne. let e = sym (gone_there zo zs serials k j ne) ∙ h in let f = is.found j t e in
                let there : (y : X) × (map.get less t ≡ Some (pair j y)) = (f.0, gone_there nt ns live s t (other s k old held j t ne e) ∙ f.1) in there)
                (same_or_not zo zs j k);
            counted = len_less nt ns live s (pair k old) held ∙ ap (λ n. n - 1) is.counted ∙ sym (len_less zo zs (triples_of live serials) k (s, old) (holds live serials is s k old held)) ∙ ap (λ m. map.len m) (sym triples_remove);
          }
