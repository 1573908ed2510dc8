-- The row of a vertex of a canonical order, in its list and in a run.
use Rattle.std.proofs.Common.{◌≡◌, ◌≢◌, ◌⊎◌, ◌↔◌, ◌+◌, ◌<◌, ◌≤◌, ℕ, zero, suc, List, length, map, get_or, AllPairs, Contains, sym, ap, ◌∙◌, subst, inl, inr, arith}
use Rattle.std.proofs.lemmas.List.{get_or-map, length-map, get_or_default}
use Rattle.std.proofs.lemmas.List.Elements.{Contains-get_or}
use Rattle.map_lists.specs.Lists.{Lists}
use Rattle.map_theory.specs.Maps.{IsSimpleMap, list_of, follows, place_of, entry_after}
use Rattle.map_theory.proofs.DartLemmas.{place_of-lt-length, get_or-place_of, place_of-get_or, entry_after-place, entry_after-injective, place_before-lt, place_after-before}
use Rattle.map_theory.proofs.DartCounts.{length-le-below}
use Rattle.map_theory.proofs.EntryLemmas.{Contains-from_map, AllPairs-map}
use Rattle.canon_order.specs.Laws.{RowEnds}
use Rattle.contour_runs.specs.Runs.{Step, Stage, stage_after}
use Rattle.order_drawings.proofs.OrderRunsOrderRows.{IsRowOf, HasEnds, row_of, ends_of, one_last, begins_first}
use Rattle.order_drawings.specs.Rows.{place_before, place_after, back, IsFirstPlace, IsLastPlace, IsRow, IsOrderRow, OrderRows}

-- in a list without repeats, what stands before a place and after it
entry_at_after : (us : List ℕ) (i : ℕ) → AllPairs ◌≢◌ us → i < length us → get_or us (place_after (length us) i) 0 ≡ entry_after (get_or us i 0) us
entry_at_after us i distinct l =
    let p = place_of-get_or us i 0 distinct l in
    sym (entry_after-place (get_or us i 0) us 0 (omega arith) ∙ ap (λ j. get_or us (place_after (length us) j) 0) p)

entry_at_before : (us : List ℕ) (i : ℕ) → AllPairs ◌≢◌ us → i < length us → entry_after (get_or us (place_before (length us) i) 0) us ≡ get_or us i 0
entry_at_before us i distinct l =
    sym (entry_at_after us (place_before (length us) i) distinct (place_before-lt (length us) i l)) ∙ ap (λ j. get_or us j 0) (place_after-before (length us) i l)

module _ (lists : Lists) (at ranks : List ℕ) (simple : IsSimpleMap lists) (steps : ℕ → Step) (k v : ℕ) (v_in : v < length lists) (ws : List ℕ) (row : IsRowOf lists at ranks steps k v ws) (ended : HasEnds lists ranks k v ws) where
  abbrev list : List ℕ
  list = list_of lists v

  abbrev rank : ℕ → ℕ
  rank u = get_or ranks u 0

  distinct : AllPairs ◌≢◌ list
  distinct = simple.no_repeat v v_in

  IsRow-ws : IsRow (stage_after steps k) (steps k) (map rank ws)
  IsRow-ws = record {
    count = omega (arith, length-map ws rank, row.reach, row.step.order);
    each = λ c m. let m' : c < length ws = omega (arith, length-map ws rank) in get_or-map rank ws c 0 0 m' ∙ row.rank_is c m';
  }

  -- THE LIST
  some : 0 < length ws
  some = omega (arith, row.some)

  abbrev p : ℕ
  p = get_or ws 0 0

  abbrev start : ℕ
  start = place_of p list

  start_in : start < length list
  start_in = place_of-lt-length p list (row.dart 0 some).1

  back_in : (c : ℕ) → back (length list) start c < length list
  back_in zero = start_in
  back_in (suc c) = place_before-lt (length list) (back (length list) start c) (back_in c)

  entries : (c : ℕ) → c < length ws → get_or list (back (length list) start c) 0 ≡ get_or ws c 0
  entries zero m = get_or-place_of p list 0 start_in
  entries (suc c) m =
      let i : ℕ = back (length list) start c in
      let d = (row.dart (suc c) m).1 in
      let b = back_in (suc c) in
      entry_after-injective list (get_or list (place_before (length list) i) 0) (get_or ws (suc c) 0) distinct (Contains-get_or list (place_before (length list) i) 0 b) d
      (entry_at_before list i distinct (back_in c) ∙ (entries c (omega arith)) ∙ sym (row.turns c m))

  after_is : (i : ℕ) → i < length list → get_or list (place_after (length list) i) 0 ≡ follows lists v (get_or list i 0)
  after_is i m = entry_at_after list i distinct m

  -- a row begins at the place of an entry
  first_at : (i u : ℕ) → i < length list → get_or list i 0 ≡ u → IsFirstPlace list ranks (k + 2) i ↔ ((rank u < k + 2) × ((rank u ≡ 0) ⊎ (k + 2 ≤ rank (follows lists v u))))
  first_at i u m e = let a = after_is i m ∙ ap (follows lists v) e in (
    λ f. (omega (arith, ap rank e, f.earlier), elim f.begins [ inl z ↦ inl (ap rank (sym e) ∙ z) | inr h ↦ inr (omega (arith, ap rank a)) ]),
    λ f. record { earlier = omega (arith, ap rank e, f.0); begins = elim f.1 [ inl z ↦ inl (ap rank e ∙ z) | inr h ↦ inr (omega (arith, ap rank a)) ] },
  )

  only : (i : ℕ) → i < length list → IsFirstPlace list ranks (k + 2) i → i ≡ start
  only i b f =
      let on = row.on_row (get_or list i 0) (v_in, Contains-get_or list i 0 b) f.earlier in
      let first = begins_first lists at ranks steps k v ws row on.0 on.1 ((first_at i (get_or ws on.0 0) b (sym on.2)).0 f).1 in
      sym (place_of-get_or list i 0 distinct b) ∙ ap (λ u. place_of u list) (sym on.2 ∙ ap (λ c. get_or ws c 0) first)

  inner : (c : ℕ) → suc c < length ws → ¬ IsLastPlace list ranks (k + 2) (back (length list) start c)
  inner c m f = elim f [
    | inl z ↦ (let e = entries c (omega arith) in absurd (omega (arith, one_last lists at ranks steps k v ws row c (omega arith) (ap rank (sym e) ∙ z))))
    | inr h ↦
        absurd (omega (arith, ap rank (entries (suc c) m)))
  ]

  last_place : (c : ℕ) → suc c ≡ length ws → IsLastPlace list ranks (k + 2) (back (length list) start c)
  last_place c m =
      let i : ℕ = back (length list) start c in
      let e = entries c (omega arith) in
      let b = place_before-lt (length list) i (back_in c) in
      elim (ended.ends c m) [
        | inl z ↦ inl (ap rank e ∙ z)
        | inr h ↦ inr (h (get_or list (place_before (length list) i) 0) (v_in, Contains-get_or list (place_before (length list) i) 0 b) (entry_at_before list i distinct (back_in c) ∙ e))
      ]

  -- the row has no repeats, so it is no longer than the list
  ws_distinct : AllPairs ◌≢◌ ws
  ws_distinct a b d m o e =
      let g : Stage = stage_after steps k in
      let e' : get_or ws a 0 ≡ get_or ws b 0 = get_or_default ws a 0 d (omega arith) ∙ e ∙ sym (get_or_default ws b 0 d o) in
      let same = sym (row.stage.own ((steps k).first + a) (omega arith)) ∙ ap g.place (sym (row.rank_is a (omega arith)) ∙ ap rank e' ∙ row.rank_is b o) ∙ row.stage.own ((steps k).first + b) (omega arith) in
      absurd (omega (arith, same))

  in_list : (u : ℕ) → Contains ws u → Contains list u
  in_list u on = subst (Contains list) (get_or_default ws on.0 0 u on.1 ∙ on.2) (row.dart on.0 on.1).1

  short : length ws ≤ length list
  short =
      let le = length-le-below (map (λ u. place_of u list) ws) (length list)
      (λ x on. let u = Contains-from_map (λ u. place_of u list) ws x on in subst (λ x. x < length list) u.2 (place_of-lt-length u.0 list (in_list u.0 u.1)))
      (AllPairs-map (λ u. place_of u list) ws
      (λ z w on on' e. sym (get_or-place_of z list 0 (place_of-lt-length z list (in_list z on))) ∙ ap (λ i. get_or list i 0) e ∙ get_or-place_of w list 0 (place_of-lt-length w list (in_list w on'))) ws_distinct) in
      omega (arith, length-map ws (λ u. place_of u list))

  pub order_row : IsOrderRow list ranks steps k
  order_row = record {
    start = start;
    us = ws;
    found = record {
      begin = start_in;
      some = some;
      short = short;
      entries = entries;
      first = (first_at start p start_in (entries 0 some)).1 (row.earlier 0 some, ended.begins);
      only = only;
      inner = inner;
      last = last_place;
    };
    row = IsRow-ws;
  }

-- so it is for each vertex from the third on of each order
pub order_rows : RowEnds → OrderRows
order_rows law = λ lists base at ranks triangulation order rank steps run k l.
    order_row lists at ranks triangulation.simple steps k (get_or at (k + 2) 0) (order.vertices (k + 2) 0 l) _ (row_of lists base at ranks triangulation order rank steps run k l) (ends_of lists base at ranks triangulation order rank steps run k l law)
