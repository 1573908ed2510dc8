-- The row of a vertex of a canonical order: its earlier neighbours as its list has them, and as they stand on the contour of a run.
use Rattle.std.proofs.Common.{◌≡◌, ◌≢◌, ◌⊎◌, ◌+◌, ◌-◌, ◌<◌, ◌≤◌, ℕ, zero, suc, true, false, List, [], ◌∷◌, ◌++◌, length, map, get_or, take, Contains, refl, sym, ap, ◌∙◌, subst, inl, inr, arith, length-append}
use Rattle.std.proofs.lemmas.Bool.{cases_lt, cases_eq, true≢false}
use Rattle.std.proofs.lemmas.List.{get_or-map, length-map, get_or_default, get_or-take, length-take-le, get_or-append-add}
use Rattle.std.proofs.lemmas.List.Elements.{Contains-get_or}
use Rattle.std.proofs.Math.Seq.{get_or-append_seam}
use Rattle.map_lists.specs.Lists.{Lists}
use Rattle.map_theory.specs.Maps.{Dart, HasDart, follows}
use Rattle.map_theory.proofs.DartLemmas.{HasDart-follows}
use Rattle.map_theory.proofs.EntryLemmas.{Contains-from_list_any, list_any-from_Contains}
use Rattle.plane_laws.specs.Triangulations.{IsTriangulation}
use Rattle.plane_peeling.proofs.RestrictedMaps.{restricted-old, restricted-new}
use Rattle.canon_order.specs.Orders.{stands_in, IsPutOn, IsCanonicalOrder, IsRankOf}
use Rattle.canon_order.specs.Laws.{RowEnds}
use Rattle.canon_order.proofs.Counters.{same_place, all_of_them}
use Rattle.contour_runs.specs.Runs.{Step, Stage, stage_after, IsStep, contour}
use Rattle.contour_runs.specs.Laws.{IsStage, IsPutOver}
use Rattle.contour_runs.proofs.Places.{place_after-new}
use Rattle.contour_runs.proofs.Stages.{IsStage-run, IsRun-less, count-stage_after}
use Rattle.contour_runs.proofs.Contours.{length-contour, get_or-contour}
use Rattle.contour_runs.proofs.Growing.{get_or-row}
use Rattle.order_drawings.specs.OrderRuns.{IsOrderRun}

-- What is known of the row ws of vertex v, which step k of a run puts on the contour: from the entry where the step begins,
-- counterclockwise in v's list, to the one where it ends.
pub record IsRowOf (lists : Lists) (at ranks : List ℕ) (steps : ℕ → Step) (k : ℕ) (v : ℕ) (ws : List ℕ) : Type 0 where
  pub some : 2 ≤ length ws
  pub reach : (steps k).first + length ws ≡ suc (steps k).last
  pub stage : IsStage (stage_after steps k)
  pub step : IsStep (stage_after steps k) (steps k)
  -- an entry is an earlier neighbour, and each of these is an entry
  pub dart : (c : ℕ) → c < length ws → HasDart lists v (get_or ws c 0)
  pub earlier : (c : ℕ) → c < length ws → get_or ranks (get_or ws c 0) 0 < k + 2
  pub on_row : (u : ℕ) → HasDart lists v u → get_or ranks u 0 < k + 2 → (c : ℕ) × (c < length ws) × (get_or ws c 0 ≡ u)
  pub turns : (c : ℕ) → suc c < length ws → follows lists v (get_or ws (suc c) 0) ≡ get_or ws c 0
  -- an entry on the contour
  pub named : (c : ℕ) → c < length ws → get_or at ((stage_after steps k).vertex ((steps k).first + c)) 0 ≡ get_or ws c 0
  pub rank_is : (c : ℕ) → c < length ws → get_or ranks (get_or ws c 0) 0 ≡ (stage_after steps k).vertex ((steps k).first + c)
  -- who is not among the vertices up to v is later
  pub is_later : (u : ℕ) → u < length lists → stands_in (take (suc (k + 2)) at) u ≡ false → k + 2 ≤ get_or ranks u 0
  -- the last vertex of all is put over the whole contour
  pub whole : suc (k + 2) ≡ length at → ((steps k).first ≡ 0) × (suc (steps k).last ≡ (stage_after steps k).width)

-- At the first entry the row begins, and at the last it ends: the entry is the first or the second vertex of all, or what
-- follows it in v's list, or what it follows, is later.
pub record HasEnds (lists : Lists) (ranks : List ℕ) (k v : ℕ) (ws : List ℕ) : Type 0 where
  pub begins : (get_or ranks (get_or ws 0 0) 0 ≡ 0) ⊎ (k + 2 ≤ get_or ranks (follows lists v (get_or ws 0 0)) 0)
  pub ends : (c : ℕ) → suc c ≡ length ws → (get_or ranks (get_or ws c 0) 0 ≡ 1) ⊎ ((w : ℕ) → HasDart lists v w → follows lists v w ≡ get_or ws c 0 → k + 2 ≤ get_or ranks w 0)

module _ (lists : Lists) (at ranks : List ℕ) (steps : ℕ → Step) (k v : ℕ) (ws : List ℕ) (row : IsRowOf lists at ranks steps k v ws) where
  -- the first vertex of all is the first entry, if it is one, and the second the last
  zero_first : (c : ℕ) → c < length ws → get_or ranks (get_or ws c 0) 0 ≡ 0 → c ≡ 0
  zero_first c m z =
      let zero_at = sym (row.rank_is c m) ∙ z ∙ sym row.stage.begin in
      omega (arith, sym (row.stage.own ((steps k).first + c) (omega arith)) ∙ ap (stage_after steps k).place zero_at ∙ row.stage.own 0 (omega arith))

  pub one_last : (c : ℕ) → c < length ws → get_or ranks (get_or ws c 0) 0 ≡ 1 → suc c ≡ length ws
  one_last c m z =
      let width : ℕ = (stage_after steps k).width in
      let one_at = sym (row.rank_is c m) ∙ z ∙ sym (row.stage.end (width - 1) (omega arith)) in
      let same = sym (row.stage.own ((steps k).first + c) (omega arith)) ∙ ap (stage_after steps k).place one_at ∙ row.stage.own (width - 1) (omega arith) in
      omega (arith, same)

  -- so it begins nowhere else
  pub begins_first : (c : ℕ) → c < length ws → (get_or ranks (get_or ws c 0) 0 ≡ 0) ⊎ (k + 2 ≤ get_or ranks (follows lists v (get_or ws c 0)) 0) → c ≡ 0
  begins_first zero m begins = refl
  begins_first (suc c) m begins = elim begins [
    | inl z ↦ zero_first (suc c) m z
    | inr h ↦ let r = row.earlier c (omega arith) in absurd (omega (arith, ap (λ u. get_or ranks u 0) (row.turns c m)))
  ]

module _ (lists : Lists) (base : Dart) (at ranks : List ℕ) (triangulation : IsTriangulation lists) (order : IsCanonicalOrder lists base at) (rank : IsRankOf ranks at) (steps : ℕ → Step) (run : IsOrderRun lists base at order.cycle steps) where
  abbrev name : ℕ → ℕ
  name k = get_or at k 0

  -- each vertex stands at its rank
  at_rank : (u : ℕ) → u < length lists → (get_or ranks u 0 < length at) × (name (get_or ranks u 0) ≡ u)
  at_rank u l =
      let on = all_of_them at u (λ i d m. let o = order.vertices i d m in omega arith) order.built.once (omega arith) in
      let here : name on.0 ≡ u = get_or_default at on.0 0 u on.1 ∙ on.2 in
      let r : get_or ranks u 0 ≡ on.0 = ap (λ u. get_or ranks u 0) (sym here) ∙ rank.of_place on.0 on.1 in
      (omega arith, ap name r ∙ here)

  module _ (k : ℕ) (l : k + 2 < length at) where
    abbrev v : ℕ
    v = name (k + 2)

    abbrev us : List ℕ
    us = take (suc (k + 2)) at

    abbrev later : 2 ≤ k + 2
    later = omega arith

    abbrev put : IsPutOn lists us v (order.cycle (k + 2)) (order.cycle (suc (k + 2)))
    put = order.built.put (k + 2) later l

    abbrev over : IsPutOver v (order.cycle (k + 2)) (order.cycle (suc (k + 2)))
    over = record { front = put.front; p = put.p; middle = put.middle; q = put.q; back = put.back; before = put.before; after = put.after }

    abbrev ws : List ℕ
    ws = put.p ∷ put.middle ++ put.q ∷ []

    abbrev g : Stage
    g = stage_after steps k

    abbrev s : Step
    s = steps k

    length-ws : length ws ≡ length put.middle + 2
    length-ws = omega (arith, length-append put.middle (put.q ∷ []))

    -- which vertices are earlier
    is_earlier : (u : ℕ) → stands_in us u ≡ true → u ≢ v → get_or ranks u 0 < k + 2
    is_earlier u t ne =
        let c = Contains-from_list_any u us t in
        let len = length-take-le (suc (k + 2)) at (omega arith) in
        let here : name c.0 ≡ u = sym (get_or-take (suc (k + 2)) at c.0 0 (omega arith)) ∙ get_or_default us c.0 0 u c.1 ∙ c.2 in
        let r : get_or ranks u 0 ≡ c.0 = ap (λ u. get_or ranks u 0) (sym here) ∙ rank.of_place c.0 (omega arith) in
        elim (cases_eq c.0 (k + 2)) [ inl e ↦ absurd (ne (sym here ∙ ap name e)) | inr other ↦ omega arith ]

    stands_earlier : (u : ℕ) → u < length lists → get_or ranks u 0 < k + 2 → stands_in us u ≡ true
    stands_earlier u m r =
        let i : ℕ = get_or ranks u 0 in
        let len = length-take-le (suc (k + 2)) at (omega arith) in
        let here : get_or us i 0 ≡ u = get_or-take (suc (k + 2)) at i 0 (omega arith) ∙ (at_rank u m).1 in
        list_any-from_Contains u us (subst (Contains us) here (Contains-get_or us i 0 (omega arith)))

    is_later : (u : ℕ) → u < length lists → stands_in us u ≡ false → k + 2 ≤ get_or ranks u 0
    is_later u m f = elim (cases_lt (get_or ranks u 0) (k + 2)) [ inl r ↦ absurd (true≢false (sym (stands_earlier u m r) ∙ f)) | inr r ↦ r ]

    v_kept : stands_in us v ≡ true
    v_kept =
        let len = length-take-le (suc (k + 2)) at (omega arith) in
        list_any-from_Contains v us (subst (Contains us) (get_or-take (suc (k + 2)) at (k + 2) 0 (omega arith)) (Contains-get_or us (k + 2) 0 (omega arith)))

    -- an entry of the row
    dart_at : (c : ℕ) → c < length ws → HasDart lists v (get_or ws c 0) × (stands_in us v ≡ true) × (stands_in us (get_or ws c 0) ≡ true)
    dart_at c m = restricted-old lists (stands_in us) v (get_or ws c 0) ((put.fan.neighbours (get_or ws c 0)).1 (Contains-get_or ws c 0 m))

    rank-ws : (c : ℕ) → c < length ws → get_or ranks (get_or ws c 0) 0 < k + 2
    rank-ws c m = let d = dart_at c m in is_earlier (get_or ws c 0) d.2 (triangulation.simple.no_loop v (get_or ws c 0) d.0)

    turns : (c : ℕ) → suc c < length ws → follows lists v (get_or ws (suc c) 0) ≡ get_or ws c 0
    turns c m =
        let e : c + 1 ≡ suc c = omega arith in
        ap (λ i. follows lists v (get_or ws i 0)) (sym e) ∙ (put.fan.faces c (omega (arith, length-ws))).round

    -- an earlier neighbour stands in the row
    on_row : (u : ℕ) → HasDart lists v u → get_or ranks u 0 < k + 2 → (c : ℕ) × (c < length ws) × (get_or ws c 0 ≡ u)
    on_row u dart r =
        let kept = stands_earlier u (triangulation.simple.in_range v u dart) r in
        let on = (put.fan.neighbours u).0 (restricted-new lists (stands_in us) v u dart v_kept kept) in
        (on.0, on.1, get_or_default ws on.0 0 u on.1 ∙ on.2)

    -- THE RUN
    stage : IsStage g
    stage = IsStage-run steps k (IsRun-less steps k (length at - 2) (omega arith) run.run)

    step : IsStep g s
    step = run.run k (omega arith)

    stage_next : IsStage (stage_after steps (suc k))
    stage_next = IsStage-run steps (suc k) (IsRun-less steps (suc k) (length at - 2) (omega arith) run.run)

    next_is : order.cycle (suc (k + 2)) ≡ map name (contour (stage_after steps (suc k)))
    next_is = let e : suc (k + 2) ≡ suc k + 2 = omega arith in ap order.cycle e ∙ run.contours (suc k) (omega arith)

    length-old : length put.front + length put.middle + 2 + length put.back ≡ g.width
    length-old =
        omega (arith, ap length put.before, ap length (run.contours k (omega arith)), length-map (contour g) name, length-contour g, length-append put.front (put.p ∷ put.middle ++ put.q ∷ put.back), length-append put.middle (put.q ∷ put.back))

    length-new : length put.front + 3 + length put.back ≡ g.width + s.first + 2 - s.last
    length-new =
        omega (arith, ap length put.after, ap length next_is, length-map (contour (stage_after steps (suc k))) name, length-contour (stage_after steps (suc k)), length-append put.front (put.p ∷ v ∷ put.q ∷ put.back))

    first_is : s.first ≡ length put.front
    first_is =
        let i : ℕ = length put.front + 1 in
        let h : Stage = stage_after steps (suc k) in
        let count = count-stage_after steps k in
        let in_i : i < h.width = omega (arith, length-new) in
        let old = stage_next.placed i in_i in
        let there : name (h.vertex i) ≡ v =
        ap name (sym (get_or-contour h i in_i))
        ∙ sym (get_or-map name (contour h) i 0 0 (omega (arith, length-new, length-contour h)))
        ∙ ap (λ xs. get_or xs i 0) (sym next_is ∙ put.after)
        ∙ get_or-append-add put.front (put.p ∷ v ∷ put.q ∷ put.back) 1 0 in
        let same : h.vertex i ≡ k + 2 = same_place at (h.vertex i) (k + 2) order.built.once (omega (arith, length-new, count)) l there in
        omega (arith, length-new, sym (stage_next.own i in_i) ∙ ap h.place same ∙ place_after-new g s (k + 2) (sym count))

    last_is : s.last ≡ length put.front + length put.middle + 1
    last_is = let o = step.order in let w = step.within in omega (arith, first_is, length-old, length-new)

    -- an entry of the row is a vertex of the contour
    named : (c : ℕ) → c < length ws → name (g.vertex (s.first + c)) ≡ get_or ws c 0
    named c m =
        let w = step.within in
        let len = length-ws in
        let first = first_is in
        let last = last_is in
        let i : ℕ = length put.front + c in
        let d : s.first + c ≡ i = omega arith in
        let in_i : i < g.width = omega arith in
        ap (λ i. name (g.vertex i)) d
        ∙ ap name (sym (get_or-contour g i in_i))
        ∙ sym (get_or-map name (contour g) i 0 0 (omega (arith, length-contour g)))
        ∙ ap (λ xs. get_or xs i 0) (sym (run.contours k (omega arith)))
        ∙ get_or-row v (order.cycle (k + 2)) (order.cycle (suc (k + 2))) over c (omega arith)

    -- and its rank is its place in the order
    rank_is : (c : ℕ) → c < length ws → get_or ranks (get_or ws c 0) 0 ≡ g.vertex (s.first + c)
    rank_is c m =
        let first = first_is in
        let last = last_is in
        let old = stage.placed (s.first + c) (omega (arith, length-ws, step.within)) in
        ap (λ u. get_or ranks u 0) (sym (named c m)) ∙ rank.of_place (g.vertex (s.first + c)) (omega (arith, count-stage_after steps k))

    -- the last vertex of all is put over the whole contour
    whole : suc (k + 2) ≡ length at → (s.first ≡ 0) × (suc s.last ≡ g.width)
    whole e =
        let d : suc k ≡ length at - 2 = omega arith in
        let w = ap (λ i. (stage_after steps i).width) d ∙ run.end in
        let n = step.within in
        (omega arith, omega arith)

    pub row_of : IsRowOf lists at ranks steps k v ws
    row_of = record {
      some = omega (arith, length-ws);
      reach = let o = step.order in omega (arith, length-ws, first_is, last_is);
      stage = stage;
      step = step;
      dart = λ c m. (dart_at c m).0;
      earlier = rank-ws;
      on_row = on_row;
      turns = turns;
      named = named;
      rank_is = rank_is;
      is_later = is_later;
      whole = whole;
    }

    module _ (law : RowEnds) where
      begins : (get_or ranks put.p 0 ≡ 0) ⊎ (k + 2 ≤ get_or ranks (follows lists v put.p) 0)
      begins =
          let some : 0 < length ws = omega (arith, length-ws) in
          let next = triangulation.simple.in_range v (follows lists v put.p) (HasDart-follows lists v put.p (dart_at 0 some).0) in
          elim (cases_lt (suc (k + 2)) (length at)) [
            | inl more ↦ inr (is_later (follows lists v put.p) next (law lists base at triangulation order (k + 2) later l more).after)
            | inr last ↦ (let d : s.first + 0 ≡ 0 = omega (arith, (whole (omega arith)).0) in inl (rank_is 0 some ∙ ap g.vertex d ∙ stage.begin))
          ]

      ends : (c : ℕ) → suc c ≡ length ws → (get_or ranks (get_or ws c 0) 0 ≡ 1) ⊎ ((w : ℕ) → HasDart lists v w → follows lists v w ≡ get_or ws c 0 → k + 2 ≤ get_or ranks w 0)
      ends c m =
          let len = length-ws in
          let d : c ≡ length (put.p ∷ put.middle) = omega arith in
          let q = ap (λ c. get_or ws c 0) d ∙ get_or-append_seam (put.p ∷ put.middle) put.q [] 0 in
          elim (cases_lt (suc (k + 2)) (length at)) [
            | inl more ↦ inr (λ w dart f. is_later w (triangulation.simple.in_range v w dart) ((law lists base at triangulation order (k + 2) later l more).before w dart (f ∙ q)))
            | inr last ↦ (let z = (whole (omega arith)).1 in inl (rank_is c (omega arith) ∙ stage.end (s.first + c) (omega (arith, row_of.reach))))
          ]

      pub ends_of : HasEnds lists ranks k v ws
      ends_of = record { begins = begins; ends = ends }
