-- The outer cycle as marks: how it begins, that some vertex is removable, one taken off, and how it ends.
use Rattle.std.proofs.Common.{◌≡◌, ◌≢◌, ◌↔◌, ℕ, ◌+◌, ◌<◌, Bool, true, false, not, List, [], ◌∷◌, length, count_by, Contains, sym, ap, ◌∙◌, subst, inr, arith, ltb, length-set}
use Rattle.std.proofs.lemmas.Bool.{true≢false, and_right}
use Rattle.map_lists.specs.Lists.{Lists}
use Rattle.map_theory.specs.Maps.{HasDart, IsSimpleMap, list_of, follows, entry_after}
use Rattle.plane_peeling.specs.Restricted.{restricted, kept_but}
use Rattle.plane_peeling.specs.NearTriangulations.{IsRemovable}
use Rattle.plane_peeling.proofs.RestrictedMaps.{restricted-old}
use Rattle.plane_peeling.proofs.RemovableCounts.{removable_by_count}
use Rattle.canon_order.specs.Marks.{is_set, kept_of, IsTaken}
use Rattle.canon_order.specs.Lefts.{IsCycleAfter}
use Rattle.canon_order.proofs.Marks.{is_set-other, kept_of-parts, kept_of-from, gone_of-false, kept_of-set, marks_after}
use Rattle.rect_orders.specs.Maps.{IsRectMap, closed}
use Rattle.rect_orders.specs.Orders.{IsRectOrder}
use Rattle.rect_orders.specs.Lefts.{HasTwoGone, IsRectLeft}
use Rattle.rect_orders.proofs.Closed.{more, put, length-closed, list_elsewhere, dart_ts, dart_dp, s_not_p, d_not_p, d_not_t}
use Rattle.rect_orders.proofs.Lefts.{IsRectLeft-begin, some_two_gone, IsRectLeft-less, IsRectLeft-three}
use Rattle.rect_orders.specs.Contours.{LooksRemovable, IsPrepared, IsClosedOf, IsContour}
use Rattle.rect_orders.proofs.Passing.{two_pass, two_counted}

module _ (map : Lists) (s d p t x : ℕ) (L : Lists) (h : IsClosedOf L map s d p t x) where
  abbrev C : Lists
  C = closed map s d p t

  class : IsRectMap map s d p t
  class = h.class

  simple : IsSimpleMap C
  simple = (more map s d p t class).simple

  taken_closed : (v : ℕ) (marked gone marked' gone' : List Bool) → IsTaken L v marked gone marked' gone' → IsTaken C v marked gone marked' gone'
  taken_closed v marked gone marked' gone' k = subst (λ l. IsTaken l v marked gone marked' gone') h.closed_is k

  pub same_length : length L ≡ length map
  same_length = ap length h.closed_is ∙ length-closed map s d p t class

  pub simple_here : IsSimpleMap L
  simple_here = subst IsSimpleMap (sym h.closed_is) simple

  -- the top and the right vertex are taken off
  pub IsContour-begin : (marked gone marked1 gone1 marked2 gone2 : List Bool) → length marked ≡ length L → length gone ≡ length L → ((u : ℕ) → is_set gone u ≡ false) → ((u : ℕ) → (is_set marked u ≡ true) ↔ Contains (s ∷ d ∷ t ∷ []) u) → IsTaken L d marked gone marked1 gone1 → length marked1 ≡ length L → IsTaken L p marked1 gone1 marked2 gone2 → IsContour map s d p t gone2 marked2 (p ∷ d ∷ [])
  IsContour-begin marked gone marked1 gone1 marked2 gone2 m n none marks one m1 two =
      let same = same_length in
      let e = ap length h.closed_is in
      let all : (v : ℕ) → v < length map → kept_of gone v ≡ true = λ v l. kept_of-from gone v (omega arith) (none v) in
      let begin = IsRectLeft-begin map s d p t class (kept_of gone) all (λ v k. (let l = (kept_of-parts gone v k).0 in omega arith)) in
      let d_in = (dart_dp map s d p t class).0 in
      let p_in = class.near.simple.in_range d p (dart_dp map s d p t class) in
      let g1 : kept_but (kept_of gone) d ≡ kept_of gone1 = (kept_of-set gone d (omega arith)) ∙ sym (ap kept_of one.gone_is) in
      let n1 : length gone1 ≡ length L = ap length one.gone_is ∙ (length-set gone d true ∙ n) in
      let g2 : kept_but (kept_but (kept_of gone) d) p ≡ kept_of gone2 = ap (λ k. kept_but k p) g1 ∙ (kept_of-set gone1 p (omega arith) ∙ sym (ap kept_of two.gone_is)) in
      let marks1 = marks_after C gone marked d gone1 marked1 (s ∷ d ∷ t ∷ []) begin.0 simple (omega arith) (omega arith) (omega arith) (all d d_in) begin.2 marks (taken_closed d marked gone marked1 gone1 one) in
      let kept_p : kept_of gone1 p ≡ true = kept_of-from gone1 p (omega arith) (ap (λ g. is_set g p) one.gone_is ∙ (is_set-other gone d p true (λ q. d_not_p map s d p t class (sym q)) ∙ none p)) in
      let cycle2 = subst (λ k. IsCycleAfter C k p begin.0 begin.1) g1 begin.3 in
      record {
        ws = begin.1;
        left = subst (λ k. IsRectLeft map s d p t k begin.1 (p ∷ d ∷ [])) g2 begin.4;
        marks = marks_after C gone1 marked1 p gone2 marked2 begin.0 begin.1 simple (omega arith) (omega arith) (omega arith) kept_p cycle2 marks1 (taken_closed p marked1 gone1 marked2 gone2 two);
      }

  -- the right vertex is marked once the top is taken off
  pub right_marked : (marked gone marked1 gone1 : List Bool) → length gone ≡ length L → ((u : ℕ) → is_set gone u ≡ false) → IsTaken L d marked gone marked1 gone1 → (is_set marked1 p ≡ true) × (is_set gone1 p ≡ false)
  right_marked marked gone marked1 gone1 n none one =
      let left : is_set gone1 p ≡ false = ap (λ g. is_set g p) one.gone_is ∙ (is_set-other gone d p true (λ q. d_not_p map s d p t class (sym q)) ∙ none p) in
      let dp = (more map s d p t class).kept d p (dart_dp map s d p t class) in
      ((one.marks p).1 (inr (subst (λ l. Contains (list_of l d) p) (sym h.closed_is) dp.1, left)), left)

  module _ (gone marked : List Bool) (rest : List ℕ) (o : IsContour map s d p t gone marked rest) where
    abbrev kept : ℕ → Bool
    kept = kept_of gone

    -- what is marked is left
    pub on_left : (v : ℕ) → is_set marked v ≡ true → (v < length L) × (is_set gone v ≡ false) × (kept v ≡ true)
    on_left v e =
        let old = restricted-old C kept v (entry_after v o.ws) (o.left.left.peeled.near.cycle.darts v ((o.marks v).0 e)) in
        (omega (arith, ap length h.closed_is), (kept_of-parts gone v old.1).1, old.1)

    not_top : (v : ℕ) → is_set marked v ≡ true → v ≢ d
    not_top v e q = true≢false (sym (on_left v e).2 ∙ (ap kept q ∙ o.left.top))

    module _ (near away stack : List ℕ) (k : IsPrepared L t s marked near gone away stack) where
      -- the lists of a vertex off the base are those of the map
      list_same : (v : ℕ) → is_set marked v ≡ true → v ≢ t → list_of L v ≡ list_of map v
      list_same v e n = ap (λ l. list_of l v) h.closed_is ∙ list_elsewhere map s d p t class v (not_top v e) n

      -- some vertex is removable
      pub some_removable : (v : ℕ) × LooksRemovable t s marked near away v
      some_removable =
          let found = some_two_gone map s d p t class kept o.ws rest o.left in
          let v = found.0 in
          let removable = found.1 in
          let g = found.2 in
          let on = (o.marks v).1 removable.on in
          let l = (on_left v on).0 in
          let two = (removable_by_count C kept (is_set marked) s t o.ws v o.left.left.peeled o.marks removable.on removable.not_first removable.not_last).0 removable in
          let list = list_same v on removable.not_last in
          let n = k.tally_gone.marks_of_all in
          let same = same_length in
          let gone_at : (u : ℕ) → HasDart map v u → kept u ≡ false → is_set gone u ≡ true = λ u a out. (let m = class.near.simple.in_range v u a in gone_of-false gone u (omega arith) out) in
          let many = two_counted (is_set gone) (list_of map v) g.one g.other g.apart g.first.1 g.second.1 (gone_at g.one g.first g.first_gone) (gone_at g.other g.second g.second_gone) in
          let count = k.tally_gone.counted v l ∙ ap (λ us. count_by (is_set gone) us) list in (
            v,
            record {
              marked_is = on;
              not_last = removable.not_last;
              not_first = removable.not_first;
              two = k.tally.counted v l ∙ (ap (λ l. count_by (is_set marked) (list_of l v)) h.closed_is ∙ two);
              two_gone = omega (arith, count, many);
            },
          )

      module _ (v : ℕ) (removable : LooksRemovable t s marked near away v) where
        -- and one that is may be taken off
        removable_free : IsRemovable (restricted kept C) s t o.ws v
        removable_free =
            let on = removable.marked_is in
            (removable_by_count C kept (is_set marked) s t o.ws v o.left.left.peeled o.marks ((o.marks v).0 on) removable.not_first removable.not_last).1
            (sym (k.tally.counted v (on_left v on).0 ∙ ap (λ l. count_by (is_set marked) (list_of l v)) h.closed_is) ∙ removable.two)

        removable_gone : HasTwoGone map kept v
        removable_gone =
            let on = removable.marked_is in
            let l = (on_left v on).0 in
            let same = same_length in
            let list = list_same v on removable.not_last in
            let count = k.tally_gone.counted v l ∙ ap (λ us. count_by (is_set gone) us) list in
            let many = removable.two_gone in
            let l' : v < length map = omega arith in
            let two = two_pass (is_set gone) (list_of map v) (class.near.simple.no_repeat v l') (omega (arith, count, many)) in
            let out : (u : ℕ) → is_set gone u ≡ true → kept u ≡ false = λ u e. and_right (ltb u (length gone)) (not (is_set gone u)) (ap not e) in
            record {
              one = two.0;
              other = two.1;
              apart = two.2;
              first = (l', two.3);
              second = (l', two.4);
              first_gone = out two.0 two.5;
              second_gone = out two.1 two.6;
            }

        pub IsContour-taken : length rest + 3 < length L → (marked' gone' : List Bool) → IsTaken L v marked gone marked' gone' → IsContour map s d p t gone' marked' (v ∷ rest)
        IsContour-taken many marked' gone' taken =
            let on = removable.marked_is in
            let left = on_left v on in
            let n = k.tally_gone.marks_of_all in
            let m = k.tally.marks_of_all in
            let count = o.left.left.count in
            let e = ap length h.closed_is in
            let l = left.0 in
            let less = IsRectLeft-less map s d p t class kept o.ws rest o.left v removable_free removable_gone (omega arith) in
            let g : kept_but kept v ≡ kept_of gone' = kept_of-set gone v (omega arith) ∙ sym (ap kept_of taken.gone_is) in
            record {
              ws = less.0;
              left = subst (λ z. IsRectLeft map s d p t z less.0 (v ∷ rest)) g less.2;
              marks = marks_after C gone marked v gone' marked' o.ws less.0 simple (omega arith) (omega arith) (omega arith) left.2 less.1 o.marks (taken_closed v marked gone marked' gone' taken);
            }

    -- three are left
    pub IsContour-three : length rest + 3 ≡ length L → IsRectOrder map s d p t (s ∷ t ∷ x ∷ rest)
    IsContour-three few =
        let e = ap length h.closed_is in
        let inner : follows C t s ≡ x =
        (put map s d p t class).other t s (dart_ts map s d p t class) (λ q. absurd (d_not_t map s d p t class (sym q))) (λ _. s_not_p map s d p t class) ∙ sym h.inner_is in
        subst (λ z. IsRectOrder map s d p t (s ∷ t ∷ z ∷ rest)) inner (IsRectLeft-three map s d p t class kept o.ws rest o.left (omega arith))
