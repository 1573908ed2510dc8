-- What the code makes at a vertex is what the laws speak of: lists cut, orders of its edges, its entries and what returns by them.
use Rattle.std.proofs.Common.{◌≡◌, ◌≢◌, ◌↔◌, ℕ, ◌<◌, Bool, true, cond, not, eqb, List, [], ◌∷◌, ◌++◌, AllPairs, Contains, get_or, refl, sym, ap, ap₂, ◌∙◌, subst, inl, inr, arith}
use Rattle.std.proofs.lemmas.Bool.{cases_Bool, cond-true, cond-false}
use Rattle.std.proofs.lemmas.List.{append_cancel_right}
use Rattle.std.proofs.lemmas.List.Elements.{Contains-get_or}
use Rattle.map_theory.specs.Maps.{Dart}
use Rattle.left_right_laws.specs.Forests.{IsLeftRight}
use Rattle.left_right_maps.specs.Orders.{IsEdge, MayAllPrecede}
use Rattle.left_right_maps.specs.RootedMaps.{is_child, joined}
use Rattle.left_right_maps.specs.Trees.{IsDepthFirstTree}
use Rattle.left_right_maps.proofs.Opens.{joined_same}
use Rattle.left_right_maps.proofs.Ends.{lead as lead_of, trail as trail_of, trail_none, trail_true, trail_false, lead_trail, uppers as uppers_of, lefts as lefts_of, middle as middle_of, rights as rights_of, picks_so, picks_hold}
use Rattle.left_right_maps.proofs.Parts.{Part, Sorted, items, returns, at_item, new_entries, new_opens, entries_are, opens_are}
use Rattle.left_right_lists.specs.Orders.{returns_in, IsFree}
use Rattle.left_right_lists.specs.Blocks.{lead, trail, uppers, lefts, middle, rights, is_item, returned, block}

-- ---- lists cut
trail_same : (p : Dart → Bool) (ds : List Dart) → trail p ds ≡ trail_of p ds
trail_same p [] = sym (trail_none p)
trail_same p (d ∷ ds) =
    elim (cases_Bool (p d)) [
      | inl t ↦ cond-true {A = List Dart} (p d) (trail p ds) (d ∷ ds) t ∙ (trail_same p ds ∙ sym (trail_true p d ds t))
      | inr f ↦ cond-false {A = List Dart} (p d) (trail p ds) (d ∷ ds) f ∙ sym (trail_false p d ds f)
    ]

cut : (p : Dart → Bool) (ds : List Dart) → lead p ds ++ trail p ds ≡ ds
cut p [] = refl
cut p (d ∷ ds) =
    elim (cases_Bool (p d)) [
      | inl t ↦ ap₂ (λ (xs ys : List Dart). xs ++ ys) (cond-true {A = List Dart} (p d) (d ∷ lead p ds) [] t) (cond-true {A = List Dart} (p d) (trail p ds) (d ∷ ds) t) ∙ ap (λ z. d ∷ z) (cut p ds)
      | inr f ↦ ap₂ (λ (xs ys : List Dart). xs ++ ys) (cond-false {A = List Dart} (p d) (d ∷ lead p ds) [] f) (cond-false {A = List Dart} (p d) (trail p ds) (d ∷ ds) f)
    ]

lead_same : (p : Dart → Bool) (ds : List Dart) → lead p ds ≡ lead_of p ds
lead_same p ds =
    append_cancel_right (lead p ds) (lead_of p ds) (trail p ds) (cut p ds ∙ (lead_trail p ds ∙ ap (λ z. lead_of p ds ++ z) (sym (trail_same p ds))))

uppers_same : (ds : List Dart) → uppers ds ≡ uppers_of ds
uppers_same [] = refl
uppers_same (d ∷ ds) = ap (λ z. z ++ d.0 ∷ []) (uppers_same ds)

module _ (depth : ℕ → ℕ) (left : ℕ → ℕ → Bool) (v : ℕ) where
  lefts_same : (ds : List Dart) → lefts v ds ≡ lefts_of depth left v ds
  lefts_same ds = lead_same (λ d. eqb d.1 v) ds

  middle_same : (ds : List Dart) → middle v ds ≡ middle_of depth left v ds
  middle_same ds =
      ap (lead (λ d. not (eqb d.1 v))) (trail_same (λ d. eqb d.1 v) ds) ∙ lead_same (λ d. not (eqb d.1 v)) (trail_of (λ d. eqb d.1 v) ds)

  rights_same : (ds : List Dart) → rights v ds ≡ rights_of depth left v ds
  rights_same ds =
      ap (trail (λ d. not (eqb d.1 v))) (trail_same (λ d. eqb d.1 v) ds) ∙ trail_same (λ d. not (eqb d.1 v)) (trail_of (λ d. eqb d.1 v) ds)

-- ---- a vertex below which all stands
module _ (n : ℕ) (edge : ℕ → ℕ → Bool) (parent depth : ℕ → ℕ) (root : ℕ) (left : ℕ → ℕ → Bool) (g : IsDepthFirstTree n edge parent depth root) (sides : IsLeftRight (IsEdge edge) parent depth left) (v : ℕ) (words opens : ℕ → List Dart) (parts : (u : ℕ) → is_child parent depth v u ≡ true → Part n edge parent depth root left g sides u (words u) (opens u)) where
  abbrev Items : List ℕ
  Items = items n edge parent depth root left g sides v words opens parts

  abbrev Returns : ℕ → List Dart
  Returns = returns n edge parent depth root left g sides v words opens parts

  abbrev Order : Type 0
  Order = Sorted n edge parent depth root left g sides v words opens parts

  -- its edges but that to its parent
  pub items_are : (u : ℕ) → Contains Items u ↔ ((u < n) × (is_item edge parent depth v u ≡ true))
  items_are u =
      ((λ c. picks_so (is_item edge parent depth v) n u c), (λ h. picks_hold (is_item edge parent depth v) n u h.0 h.1))

  pub returned_same : (u : ℕ) → returned parent depth opens v u ≡ Returns u
  returned_same u =
      ap (λ (z : List Dart). cond (is_child parent depth v u) z ((v, u) ∷ [])) (middle_same depth left v (opens u))

  module _ (sorted : Order) where
    block_same : (u : ℕ) → block parent depth opens v u ≡ at_item n edge parent depth root left g sides v words opens parts sorted u
    block_same u =
        ap₂ (λ (xs ys : List ℕ). cond (is_child parent depth v u) (xs ++ u ∷ ys) (u ∷ []))
        (ap uppers (lefts_same depth left v (opens u)) ∙ uppers_same (lefts_of depth left v (opens u)))
        (ap uppers (rights_same depth left v (opens u)) ∙ uppers_same (rights_of depth left v (opens u)))

    -- the entries, and the edges that wait
    pub entries_by : joined (block parent depth opens v) sorted.0 ≡ new_entries n edge parent depth root left g sides v words opens parts sorted
    entries_by =
        joined_same (block parent depth opens v) (at_item n edge parent depth root left g sides v words opens parts sorted) sorted.0 (λ u c. block_same u) ∙ sym (entries_are n edge parent depth root left g sides v words opens parts sorted)

    pub opens_by : joined (returned parent depth opens v) sorted.0 ≡ new_opens n edge parent depth root left g sides v words opens parts sorted
    opens_by =
        joined_same (returned parent depth opens v) Returns sorted.0 (λ u c. returned_same u) ∙ sym (opens_are n edge parent depth root left g sides v words opens parts sorted)

  -- ---- orders of its edges, by a table of marks and one of what returns by each
  module _ (free : List Bool) (rows : List (List Dart)) (marked : (u : ℕ) → Contains Items u ↔ IsFree free u) (rows_are : (u : ℕ) → Contains Items u → returns_in rows u ≡ Returns u) where
    abbrev AreInOrder : List ℕ → Type 0
    AreInOrder us =
        ((u : ℕ) → Contains us u ↔ IsFree free u) × AllPairs (λ e f. (e ≢ f) × MayAllPrecede depth left (returns_in rows e) (returns_in rows f)) us

    unfoldable pub sorted_of : (us : List ℕ) → AreInOrder us → Order
    sorted_of us h =
        let in_items : (u : ℕ) → Contains us u → Contains Items u = λ u c. (marked u).1 ((h.0 u).0 c) in (
          us,
          (
            (λ u. (in_items u, (λ c. (h.0 u).1 ((marked u).0 c)))),
            (λ i j d l m.
                let p = h.1 i j d l m in
                let e = rows_are (get_or us i d) (in_items (get_or us i d) (Contains-get_or us i d (omega arith))) in
                let f = rows_are (get_or us j d) (in_items (get_or us j d) (Contains-get_or us j d m)) in
                (p.0, subst (MayAllPrecede depth left (Returns (get_or us i d))) f (subst (λ xs. MayAllPrecede depth left xs (returns_in rows (get_or us j d))) e p.1))),
          ),
        )

    pub order_of_sorted : (s : Order) → AreInOrder s.0
    order_of_sorted s =
        let us = s.0 in (
          (λ u. ((λ c. (marked u).0 ((s.1.0 u).0 c)), (λ t. (s.1.0 u).1 ((marked u).1 t)))),
          (λ i j d l m.
              let p = s.1.1 i j d l m in
              let e = rows_are (get_or us i d) ((s.1.0 (get_or us i d)).0 (Contains-get_or us i d (omega arith))) in
              let f = rows_are (get_or us j d) ((s.1.0 (get_or us j d)).0 (Contains-get_or us j d m)) in
              (p.0, subst (MayAllPrecede depth left (returns_in rows (get_or us i d))) (sym f) (subst (λ xs. MayAllPrecede depth left xs (Returns (get_or us j d))) (sym e) p.1))),
        )
