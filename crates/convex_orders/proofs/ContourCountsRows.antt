-- Darts by the rows of their numbers.
use Rattle.std.proofs.Common.{◌≡◌, ◌↔◌, ℕ, ◌<◌, length, slice_index, get_or, Contains, sym, ap, ◌∙◌, subst, arith}
use Rattle.std.proofs.lemmas.List.Elements.{Contains-get_or}
use Rattle.map_lists.specs.Lists.{Lists}
use Rattle.map_theory.specs.Maps.{list_of, HasDart, IsSimpleMap, place_of}
use Rattle.map_theory.proofs.DartLemmas.{HasDart-at, place_of-get_or, place_of-lt-length, get_or-place_of}
use Rattle.convex_peeling.specs.Contours.{face_of, Passes}
use Rattle.convex_orders.specs.FaceNumbers.{entry, IsTable, AreFaceNumbers}

-- the entry of a dart stands in its row
pub entry_within : (lists table : Lists) (count : ℕ) → IsTable lists table count → (x y : ℕ) → HasDart lists x y → place_of y (list_of lists x) < length (list_of table x)
entry_within lists table count t x y has = let l = place_of-lt-length y (list_of lists x) has.1 in omega (arith, l, t.sizes x has.0)

pub entry-lt : (lists table : Lists) (count : ℕ) → IsTable lists table count → (x y : ℕ) → HasDart lists x y → entry lists table x y < count
entry-lt lists table count t x y has = t.below x (place_of y (list_of lists x)) has.0 (entry_within lists table count t x y has)

pub Contains-entry : (lists table : Lists) (count : ℕ) → IsTable lists table count → (x y : ℕ) → HasDart lists x y → Contains (list_of table x) (entry lists table x y)
Contains-entry lists table count t x y has = Contains-get_or (list_of table x) (place_of y (list_of lists x)) 0 (entry_within lists table count t x y has)

-- at each place of a row stands the entry of a dart
pub record IsEntryAt (lists table : Lists) (x k : ℕ) : Type 0 where
  pub dart : HasDart lists x (slice_index (list_of lists x) k)
  pub is : slice_index (list_of table x) k ≡ entry lists table x (slice_index (list_of lists x) k)

pub entry_at : (lists table : Lists) (count : ℕ) → IsSimpleMap lists → IsTable lists table count → (x k : ℕ) → x < length lists → k < length (list_of table x) → IsEntryAt lists table x k
entry_at lists table count simple t x k l m =
    let in_list : k < length (list_of lists x) = omega (arith, m, t.sizes x l) in
    record {
      dart = HasDart-at lists x k 0 l in_list;
      is = ap (λ z. get_or (list_of table x) z 0) (sym (place_of-get_or (list_of lists x) k 0 (simple.no_repeat x l) in_list));
    }

module _ (lists own other : Lists) (count : ℕ) (simple : IsSimpleMap lists) (n : AreFaceNumbers lists own other count) where
  -- a number in the row of v is that of a face that passes v
  pub passes-number : (x y v : ℕ) → HasDart lists x y → v < length lists → (Contains (list_of own v) (entry lists own x y)) ↔ Passes lists (face_of lists x y) v
  passes-number x y v has l = (
    (λ c.
        let k = place_of (entry lists own x y) (list_of own v) in
        let m = place_of-lt-length (entry lists own x y) (list_of own v) c in
        let at = entry_at lists own count simple n.own_table v k l m in
        let u = slice_index (list_of lists v) k in
        (u, at.dart, (n.alike v u x y at.dart has).0 (sym at.is ∙ get_or-place_of (entry lists own x y) (list_of own v) 0 m))),
    (λ p. subst (Contains (list_of own v)) ((n.alike v p.0 x y p.1 has).1 p.2) (Contains-entry lists own count n.own_table v p.0 p.1)),
  )

-- the number at the place of y in the list of x is the entry of their dart
pub entry_of_place : (lists table : Lists) → IsSimpleMap lists → (x y k : ℕ) → HasDart lists x y → k < length (list_of lists x) → slice_index (list_of lists x) k ≡ y → slice_index (list_of table x) k ≡ entry lists table x y
entry_of_place lists table simple x y k has l e =
    let us = list_of lists x in
    ap (λ z. get_or (list_of table x) z 0) (sym (place_of-get_or us k 0 (simple.no_repeat x has.0) l) ∙ ap (λ z. place_of z us) e)
