-- The ends of edges round an inner vertex.
use Rattle.std.proofs.Common.{◌≡◌, ◌≢◌, ◌⊎◌, ℕ, zero, suc, ◌+◌, ◌-◌, ◌<◌, ◌≤◌, leb, List, length, map, get_or, Contains, refl, sym, ap, subst, ◌∙◌, inl, inr, arith}
use Rattle.std.proofs.lemmas.Bool.{cases_eq, cases_lt, cond-true, cond-false, le-leb, lt-leb}
use Rattle.std.proofs.lemmas.List.{get_or-map, length-map, get_or_default}
use Rattle.std.proofs.lemmas.List.Elements.{Contains-get_or}
use Rattle.map_lists.specs.Lists.{Lists}
use Rattle.map_theory.specs.Maps.{HasDart, IsSimpleMap, list_of, follows, entry_after, place_of}
use Rattle.map_theory.proofs.DartLemmas.{entry_after-place, place_of-get_or, place_of-lt-length, get_or-place_of}
use Rattle.contour_runs.specs.Runs.{Step, IsRun}
use Rattle.contour_runs.proofs.Stages.{IsStage-run, IsRun-less, count-stage_after}
use Rattle.rect_runs.specs.Numbers.{turn_of}
use Rattle.rect_runs.specs.Corners.{End, run_in, rise_out, run_out, rise_in, next, Follows, at_older, at_new}
use Rattle.rect_runs.specs.Later.{StandsOver}
use Rattle.canon_order.specs.Orders.{IsRankOf}
use Rattle.canon_order.proofs.Counters.{same_place, all_of_them}
use Rattle.order_drawings.specs.OrderRuns.{IsOrderRun}
use Rattle.order_drawings.proofs.OrderRunsOrderRows.{IsRowOf}
use Rattle.order_drawings.specs.Rows.{place_after}
use Rattle.rect_runs.specs.Boxes.{IsRectRun}
use Rattle.rect_orders.specs.Maps.{IsRectMap, closed}
use Rattle.rect_orders.specs.Orders.{IsRectOrder}
use Rattle.rect_orders.specs.Runs.{shortened}
use Rattle.rect_orders.proofs.Closed.{more, length-closed, list_elsewhere, face_tsd}
use Rattle.rect_orders.proofs.RunOfMap.{rect_order_is_run}
use Rattle.rect_runs.specs.Ends.{IsEndAt}
use Rattle.rect_runs.specs.Rounds.{IsOnceRound, MayFollow, from_place}
use Rattle.rect_runs.proofs.RectEndsEnds.{one_end}
use Rattle.rect_runs.proofs.Rounds.{once_round}
use Rattle.rect_orders.proofs.Corners.{corners_of_map}
use Rattle.rect_orders.specs.Labellings.{IsFrameEdge, AreEndsOf}
use Rattle.rect_orders.proofs.Cyclic.{cyclic, after-lt, cyclic-low, cyclic-lt, cyclic-suc, cyclic-onto, cyclic-last, cyclic-not_last, get_or-from_place}

-- which ends there are
older_kinds : (c j : ℕ) → (at_older c j ≡ run_out) ⊎ (at_older c j ≡ rise_out)
unfolding at_older
older_kinds c j = elim (cases_lt c j) [ inl l ↦ inr (cond-false (leb j c) run_out rise_out (lt-leb j c l)) | inr l ↦ inl (cond-true (leb j c) run_out rise_out (le-leb j c l)) ]

new_kinds : (c j : ℕ) → (at_new c j ≡ run_in) ⊎ (at_new c j ≡ rise_in)
unfolding at_new
new_kinds c j = elim (cases_lt c j) [ inl l ↦ inr (cond-false (leb j c) run_in rise_in (lt-leb j c l)) | inr l ↦ inl (cond-true (leb j c) run_in rise_in (le-leb j c l)) ]

-- the lower of two that a step joins was there before
over_later : (steps : ℕ → Step) (n k u v : ℕ) → IsRun steps n → k < n → StandsOver steps k u v → u < v
over_later steps n k u v run l a =
    let stage = IsStage-run steps k (IsRun-less steps k n (omega arith) run) in
    omega (arith, a.new, stage.placed a.place (omega (arith, (run k l).within)), a.vertex, count-stage_after steps k)

-- an edge to a vertex before enters, to one behind leaves
pub enters : (steps : ℕ → Step) (n u v : ℕ) (e : End) → IsRun steps n → IsEndAt steps n u v e → v < u → (e ≡ run_in) ⊎ (e ≡ rise_in)
enters steps n u v e run h l = elim h [
  | inl a ↦ absurd (omega (arith, over_later steps n a.step u v run a.before a.over, l))
  | inr a ↦ elim (new_kinds (turn_of steps a.step) a.over.place) [ inl q ↦ inl (a.end_is ∙ q) | inr q ↦ inr (a.end_is ∙ q) ]
]

pub leaves : (steps : ℕ → Step) (n u v : ℕ) (e : End) → IsRun steps n → IsEndAt steps n u v e → u < v → (e ≡ run_out) ⊎ (e ≡ rise_out)
leaves steps n u v e run h l = elim h [
  | inl a ↦ elim (older_kinds (turn_of steps a.step) a.over.place) [ inl q ↦ inl (a.end_is ∙ q) | inr q ↦ inr (a.end_is ∙ q) ]
  | inr a ↦ absurd (omega (arith, over_later steps n a.step v u run a.before a.over, l))
]

-- an edge that enters and one behind it that leaves: a run, and a rise
between : (a b : End) → Follows a b → (a ≡ run_in) ⊎ (a ≡ rise_in) → (b ≡ run_out) ⊎ (b ≡ rise_out) → (a ≡ run_in) × (b ≡ rise_out)
between a b f i o = grind (arith, run_in, run_out, rise_out, next, rise_in)

not_run_in : (a : End) → (a ≡ run_out) ⊎ (a ≡ rise_out) → a ≢ run_in
not_run_in a o e = elim o [ inl x ↦ (let z : run_in ≡ run_out = sym e ∙ x in cc) | inr x ↦ (let z : run_in ≡ rise_out = sym e ∙ x in cc) ]

not_rise_out : (a : End) → (a ≡ run_in) ⊎ (a ≡ rise_in) → a ≢ rise_out
not_rise_out a o e = elim o [ inl x ↦ (let z : rise_out ≡ run_in = sym e ∙ x in cc) | inr x ↦ (let z : rise_out ≡ rise_in = sym e ∙ x in cc) ]

module _ (lists : Lists) (s d p t : ℕ) (at ranks : List ℕ) (steps : ℕ → Step) (end : ℕ → ℕ → End) (h : IsRectMap lists s d p t) (order : IsRectOrder lists s d p t at) (rank : IsRankOf ranks at) (run : IsOrderRun (closed lists s d p t) (t, s) at order.canonical.cycle steps) (ends : AreEndsOf lists s d p t at steps end) where
  abbrev C : Lists
  C = closed lists s d p t

  abbrev pub name : ℕ → ℕ
  name i = get_or at i 0

  abbrev pub N : ℕ
  N = length at - 2

  abbrev pub short : ℕ → Step
  short = shortened steps (length at - 3)

  pub simple : IsSimpleMap lists
  simple = h.near.simple

  pub size : (length at ≡ length lists) × (5 ≤ length at)
  size = let c = order.canonical.count in let e = length-closed lists s d p t h in let l = h.large in (omega arith, omega arith)

  pub rect : IsRectRun short (length at - 3)
  rect = (rect_order_is_run lists s d p t at steps h order run).run

  pub short_run : IsRun short N
  short_run = let z = size in let m = z.1 in let e : suc (length at - 3) ≡ N = omega arith in subst (IsRun short) e rect.labelled.run

  pub same_name : (i j : ℕ) → i < length at → j < length at → name i ≡ name j → i ≡ j
  same_name i j l m e = same_place at i j order.canonical.built.once l m e

  pub top : name (length at - 1) ≡ d
  top =
      let e : length C - 1 ≡ length at - 1 = omega (arith, order.canonical.count) in
      ap name (sym e) ∙ (order.canonical.last ∙ (face_tsd lists s d p t h).second)

  -- each vertex stands at its rank
  pub at_rank : (u : ℕ) → u < length lists → (get_or ranks u 0 < length at) × (name (get_or ranks u 0) ≡ u)
  at_rank u l =
      let on = all_of_them at u (λ i d m. let o = order.canonical.vertices i d m in let c = order.canonical.count in omega arith) order.canonical.built.once (omega (arith, size)) in
      let here : name on.0 ≡ u = get_or_default at on.0 0 u on.1 ∙ on.2 in
      let r : get_or ranks u 0 ≡ on.0 = ap (λ u. get_or ranks u 0) (sym here) ∙ rank.of_place on.0 on.1 in
      (omega arith, ap name r ∙ here)

  module _ (k : ℕ) (hi : k + 2 + 2 < length at) (ws : List ℕ) (row : IsRowOf (closed lists s d p t) at ranks steps k (get_or at (k + 2) 0) ws) where
    abbrev y : ℕ
    y = k + 2

    abbrev v : ℕ
    v = name y

    abbrev L : List ℕ
    L = list_of lists v

    abbrev m : ℕ
    m = length L

    abbrev entry : ℕ → ℕ
    entry i = get_or L i 0

    abbrev r : ℕ → ℕ
    r i = get_or ranks (entry i) 0

    abbrev E : ℕ → End
    E i = end v (entry i)

    inner : (v ≢ s) × (v ≢ t) × (v ≢ d) × (v ≢ p)
    inner = (
      (λ e. let q = same_name y 0 (omega arith) (omega arith) (e ∙ sym order.canonical.built.first) in omega arith),
      (λ e. let q = same_name y 1 (omega arith) (omega arith) (e ∙ sym order.canonical.built.second) in omega arith),
      (λ e. let q = same_name y (length at - 1) (omega arith) (omega arith) (e ∙ sym top) in omega arith),
      λ e. let q = same_name y (length at - 2) (omega arith) (omega arith) (e ∙ sym order.right) in omega arith,
    )

    not_frame : (u : ℕ) → ¬ IsFrameEdge s d p t v u
    not_frame u f = elim f [
      | inl a ↦ elim a [ inl q ↦ inner.0 q.0 | inr (inl q) ↦ inner.2 q.0 | inr (inr (inl q)) ↦ inner.3 q.0 | inr (inr (inr q)) ↦ inner.1 q.0 ]
      | inr a ↦ elim a [ inl q ↦ inner.2 q.1 | inr (inl q) ↦ inner.3 q.1 | inr (inr (inl q)) ↦ inner.1 q.1 | inr (inr (inr q)) ↦ inner.0 q.1 ]
    ]

    v_in : v < length lists
    v_in = let z = size in let n = z.0 in let c = order.canonical.count in let o = order.canonical.vertices y 0 (omega arith) in omega (arith, o, c, length-closed lists s d p t h)

    dart : (i : ℕ) → i < m → HasDart lists v (entry i)
    dart i l = (v_in, Contains-get_or L i 0 l)

    r_in : (i : ℕ) → i < m → (r i < length at) × (name (r i) ≡ entry i)
    r_in i l = at_rank (entry i) (simple.in_range v (entry i) (dart i l))

    r_apart : (i : ℕ) → i < m → r i ≢ y
    r_apart i l e = simple.no_loop v (entry i) (dart i l) (sym (r_in i l).1 ∙ ap name e)

    goes : (i : ℕ) → i < m → follows lists v (entry i) ≡ entry (place_after m i)
    goes i l =
        let q = place_of-get_or L i 0 (simple.no_repeat v v_in) l in
        entry_after-place (entry i) L 0 (omega arith) ∙ ap (λ j. entry (place_after m j)) q

    end_at : (i : ℕ) → i < m → IsEndAt short N y (r i) (E i)
    end_at i l =
        let q = r_in i l in
        subst (λ u. IsEndAt short N y (r i) (end v u)) q.1 (ends y (r i) (omega arith) q.0 (subst (HasDart lists v) (sym q.1) (dart i l)) (not_frame (name (r i))))

    follow : (i : ℕ) → i < m → Follows (E i) (E (place_after m i))
    follow i l =
        let b = after-lt m i l in
        let q = r_in i l in
        let w = r_in (place_after m i) b in
        let c = corners_of_map lists s d p t at steps h order run (r i) y (r (place_after m i)) (omega arith) hi q.0 w.0 (subst (HasDart lists v) (sym q.1) (dart i l)) (ap (follows lists v) q.1 ∙ (goes i l ∙ sym w.1)) in
        let one = one_end short N y (r i) (E i) c.one short_run (end_at i l) c.one_is in
        let two = one_end short N y (r (place_after m i)) (E (place_after m i)) c.other short_run (end_at (place_after m i) b) c.other_is in
        subst (λ a. Follows a (E (place_after m i))) (sym one) (subst (Follows c.one) (sym two) c.follows)

    same_list : list_of C v ≡ L
    same_list = list_elsewhere lists s d p t h v inner.2 inner.1

    -- of the vertices before it, only the one at which its row begins is followed by one behind it
    abbrev first : ℕ
    first = get_or ws 0 0

    first_in : Contains L first
    first_in = let n = row.some in subst (λ us. Contains us first) same_list (row.dart 0 (omega arith)).1

    abbrev i0 : ℕ
    i0 = place_of first L

    i0_in : i0 < m
    i0_in = place_of-lt-length first L first_in

    entry_i0 : entry i0 ≡ first
    entry_i0 = get_or-place_of first L 0 i0_in

    early0 : r i0 < y
    early0 = let n = row.some in let e = row.earlier 0 (omega arith) in omega (arith, ap (λ u. get_or ranks u 0) entry_i0, e)

    only : (i : ℕ) → i < m → r i < y → y < r (place_after m i) → i ≡ i0
    only i l a b =
        let on = row.on_row (entry i) ((more lists s d p t h).kept v (entry i) (dart i l)) a in
        let c : ℕ = on.0 in
        let c_is : get_or ws c 0 ≡ entry i = on.2 in
        elim (cases_eq c 0) [
          | inl e ↦ sym (place_of-get_or L i 0 (simple.no_repeat v v_in) l) ∙ ap (λ u. place_of u L) (sym c_is ∙ ap (λ c. get_or ws c 0) e)
          | inr ne ↦
              let z : suc (c - 1) ≡ c = omega arith in
              let turn = row.turns (c - 1) (omega arith) in
              let same : entry (place_after m i) ≡ get_or ws (c - 1) 0 = sym (goes i l) ∙ (ap (entry_after (entry i)) (sym same_list) ∙ (ap (follows C v) (sym c_is ∙ ap (λ c. get_or ws c 0) (sym z)) ∙ turn)) in
              absurd (omega (arith, ap (λ u. get_or ranks u 0) same, row.earlier (c - 1) (omega arith), b))
        ]

    abbrev st : ℕ
    st = place_after m i0

    st_in : st < m
    st_in = after-lt m i0 i0_in

    all_early : r st < y → (j : ℕ) → j < m → r (cyclic m st j) < y
    all_early a zero l = let e = cyclic-low m st 0 (omega (arith, st_in)) in let z : st + 0 ≡ st = omega arith in omega (arith, ap r (e ∙ z), a)
    all_early a (suc j) l =
        let p_in = cyclic-lt m st st_in j (omega (arith, l)) in
        let goes_on = cyclic-suc m st st_in j l in
        elim (cases_lt (r (cyclic m st (suc j))) y) [
          | inl b ↦ b
          | inr b ↦
              let ne = r_apart (cyclic m st (suc j)) (cyclic-lt m st st_in (suc j) l) in
              let is = only (cyclic m st j) p_in (all_early a j (omega (arith, l))) (omega (arith, ap r goes_on, b, ne)) in
              omega (arith, a, b, ap r (sym goes_on ∙ ap (place_after m) is))
        ]

    late : y < r st
    late = elim (cases_lt (r st) y) [
      | inr b ↦ let ne = r_apart st st_in in omega arith
      | inl b ↦
          let two = order.later y (omega arith) hi in
          let i : ℕ = place_of (name two.j) L in
          let i_in = place_of-lt-length (name two.j) L two.one.1 in
          let is : r i ≡ two.j = ap (λ u. get_or ranks u 0) (get_or-place_of (name two.j) L 0 i_in) ∙ rank.of_place two.j two.first_in in
          let on = cyclic-onto m st st_in i i_in in
          absurd (omega (arith, all_early b on.0 on.1, ap r on.2, is, two.first))
    ]

    begins : (E i0 ≡ run_in) × (E st ≡ rise_out)
    begins = between (E i0) (E st) (follow i0 i0_in) (enters short N y (r i0) (E i0) short_run (end_at i0 i0_in) early0) (leaves short N y (r st) (E st) short_run (end_at st st_in) late)

    may : (i : ℕ) → i < m → i ≢ i0 → MayFollow (E i) (E (place_after m i))
    may i l ne = record {
      follows = follow i l;
      inside =
          let q_in = after-lt m i l in
          elim (cases_lt (r i) y) [
            | inr b ↦ let ap' = r_apart i l in inl (not_run_in (E i) (leaves short N y (r i) (E i) short_run (end_at i l) (omega arith)))
            | inl b ↦ elim (cases_lt (r (place_after m i)) y) [
              | inl c ↦ inr (not_rise_out (E (place_after m i)) (enters short N y (r (place_after m i)) (E (place_after m i)) short_run (end_at (place_after m i) q_in) c))
              | inr c ↦ let ap' = r_apart (place_after m i) q_in in absurd (ne (only i l b (omega arith)))
            ]
          ];
    }

    at_place : (j : ℕ) (z : End) → j < m → get_or (from_place (map (end v) L) st) j z ≡ E (cyclic m st j)
    at_place j z l =
        get_or-from_place m st st_in (map (end v) L) z j (length-map L (end v)) l ∙ get_or-map (end v) L (cyclic m st j) 0 z (cyclic-lt m st st_in j l)

    pub around_at : IsOnceRound (map (end v) L)
    around_at =
        let n = length-map L (end v) in
        let last : suc (m - 1) ≡ m = let l = st_in in omega arith in
        once_round (map (end v) L) st (m - 1) (let l = st_in in omega arith)
        (let l = st_in in let z : st + 0 ≡ st = omega arith in at_place 0 run_in (omega arith) ∙ (ap E (cyclic-low m st 0 (omega arith) ∙ z) ∙ begins.1))
        (last ∙ sym n)
        (at_place (m - 1) rise_out (omega arith) ∙ (ap E (cyclic-last m st st_in i0 (m - 1) i0_in refl last) ∙ begins.0))
        (λ i b.
        let l : suc i < m = omega arith in
        let step = may (cyclic m st i) (cyclic-lt m st st_in i (omega arith)) (cyclic-not_last m st st_in i0 i i0_in refl l) in
        subst (λ a. MayFollow a (get_or (from_place (map (end v) L) st) (suc i) run_in)) (sym (at_place i run_in (omega arith)))
        (subst (MayFollow (E (cyclic m st i))) (ap E (cyclic-suc m st st_in i l) ∙ sym (at_place (suc i) run_in l)) step))
