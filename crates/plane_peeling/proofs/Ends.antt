-- Where taking off begins, with the whole map, and where it ends, with three vertices.
use Rattle.std.proofs.Common.{◌≡◌, ◌≢◌, ℕ, ◌-◌, ◌<◌, Bool, true, List, [], ◌∷◌, length, get_or, AllPairs, Contains, refl, sym, ap, ap₂, ◌∙◌, subst, arith, ◌==◌}
use Rattle.std.specs.List.{list_any}
use Rattle.std.proofs.lemmas.Bool.{true≢false}
use Rattle.classes.specs.Classes.{count_below}
use Rattle.classes.proofs.Counting.{count_below_weaker, weaker_test_back}
use Rattle.map_lists.specs.Lists.{Lists}
use Rattle.map_theory.specs.Maps.{HasDart, IsSimpleMap, follows, entry_after}
use Rattle.map_theory.proofs.EntryLemmas.{Contains-here, Contains-there, Contains-from_list_any}
use Rattle.plane_laws.specs.Triangulations.{IsTriangulation}
use Rattle.plane_laws.specs.Laws.{IsTriangle}
use Rattle.plane_laws.proofs.Triangles.{triangles_where_met}
use Rattle.plane_peeling.specs.Restricted.{restricted, IsFaceOfThree}
use Rattle.plane_peeling.specs.NearTriangulations.{IsOuterCycle, IsOuterDart, IsNearTriangulation}
use Rattle.plane_peeling.specs.Peeled.{IsPeeled}
use Rattle.plane_peeling.specs.Laws.{NothingTakenOff}
use Rattle.plane_peeling.proofs.Rings.{entry_after-inside, entry_after-last, AllPairs-put, each_of_one, each_of_two, each_of_three}
use Rattle.plane_peeling.proofs.RestrictedMaps.{restricted_all, restricted-old}
use Rattle.plane_peeling.proofs.OuterCycles.{IsFaceOfThree-turned, IsFaceOfThree-triangle, inner_face}
use Rattle.plane_peeling.proofs.Counted.{list-count_below}

module _ (lists : Lists) (s t : ℕ) (triangulation : IsTriangulation lists) (base : HasDart lists t s) where
  simple : IsSimpleMap lists
  simple = triangulation.simple

  triangle : (x y : ℕ) → HasDart lists x y → IsTriangle lists (x, y)
  triangle x y d = triangles_where_met lists simple triangulation.plane triangulation.some triangulation.edges (x, y) d

  abbrev r : ℕ
  r = follows lists s t

  abbrev ws : List ℕ
  ws = s ∷ r ∷ t ∷ []

  face : IsFaceOfThree lists t s r
  face = IsFaceOfThree-triangle lists t s base (triangle t s base)

  face' : IsFaceOfThree lists s r t
  face' = IsFaceOfThree-turned lists t s r simple face

  face'' : IsFaceOfThree lists r t s
  face'' = IsFaceOfThree-turned lists s r t simple face'

  distinct : AllPairs ◌≢◌ ws
  distinct =
      let one = AllPairs-put t [] (λ c. absurd (omega (arith, c.1))) (λ i j d l m. absurd (omega (arith, m))) in
      let two = AllPairs-put r (t ∷ []) (λ c. each_of_one (λ z. z ≡ r → ⊥) t (simple.no_loop r t face''.dart) r c refl) one in
      AllPairs-put s (r ∷ t ∷ []) (λ c. each_of_two (λ z. z ≡ s → ⊥) r t (simple.no_loop s r face'.dart) (λ e. simple.no_loop t s base (sym e)) s c refl) two

  first_on : entry_after s ws ≡ r
  first_on = entry_after-inside [] s r (t ∷ []) distinct

  second_on : entry_after r ws ≡ t
  second_on = entry_after-inside (s ∷ []) r t [] distinct

  last_on : entry_after t ws ≡ s
  last_on = entry_after-last (s ∷ r ∷ []) t distinct

  -- one step of the cycle, from x by y to z
  IsStep : ℕ → Type 0
  IsStep x = HasDart lists x (entry_after x ws) × (follows lists (entry_after x ws) x ≡ entry_after (entry_after x ws) ws)

  step_at : (x y z : ℕ) → entry_after x ws ≡ y → entry_after y ws ≡ z → IsFaceOfThree lists x y z → IsStep x
  unfolding IsStep
  step_at x y z e e' f = (subst (HasDart lists x) (sym e) f.dart, ap (λ w. follows lists w x) e ∙ (f.second ∙ (sym e' ∙ ap (λ w. entry_after w ws) (sym e))))

  each_step : (x : ℕ) → Contains ws x → IsStep x
  each_step x c =
      each_of_three IsStep s r t (step_at s r t first_on second_on face') (step_at r t s second_on last_on face'') (step_at t s r last_on first_on face) x c

  base_cycle : IsOuterCycle lists s t ws
  unfolding IsStep
  base_cycle =
      record {
        long = omega arith;
        first = refl;
        last = refl;
        distinct = distinct;
        darts = λ x c. (each_step x c).0;
        turns = λ x c. (each_step x c).1;
      }

  pub near_whole : IsNearTriangulation lists s t ws
  near_whole = record { simple = simple; plane = triangulation.plane; cycle = base_cycle; inner = λ x y d n. triangle x y d }

-- A near triangulation of which nothing is taken off.
pub whole_is_peeled : (lists : Lists) (kept : ℕ → Bool) (s t : ℕ) (ws : List ℕ) → IsNearTriangulation lists s t ws → ((v : ℕ) → v < length lists → kept v ≡ true) → IsPeeled lists kept s t ws
whole_is_peeled lists kept s t ws near all =
    let e = restricted_all lists kept near.simple all in
    record {
      near = subst (λ m. IsNearTriangulation m s t ws) (sym e) near;
      inner = λ x y d n. ap (λ m. follows m y x) e;
      border = λ v u k d out. absurd (true≢false (sym (all u (near.simple.in_range v u d)) ∙ out));
    }

pub nothing_taken_off : NothingTakenOff
nothing_taken_off lists kept s t triangulation base all = whole_is_peeled lists kept s t (s ∷ follows lists s t ∷ t ∷ []) (near_whole lists s t triangulation base) all

-- ---- three left
module _ (lists : Lists) (kept : ℕ → Bool) (s t : ℕ) (ws : List ℕ) (peeled : IsPeeled lists kept s t ws) (three : count_below kept (length lists) ≡ 3) where
  abbrev M : Lists
  M = restricted kept lists

  cM : IsOuterCycle M s t ws
  cM = peeled.near.cycle

  abbrev on : ℕ → Bool
  on u = list_any (λ w. w == u) ws

  on_kept : (u : ℕ) → Contains ws u → (u < length lists) × (kept u ≡ true)
  on_kept u c = let o = restricted-old lists kept u (entry_after u ws) (cM.darts u c) in (o.0.0, o.1)

  -- the vertices of the cycle are all that are left
  counts : (length ws ≡ 3) × ((u : ℕ) → u < length lists → kept u ≡ true → Contains ws u)
  counts =
      let weaker : (i : ℕ) → i < length lists → on i ≡ true → kept i ≡ true = λ i l t. (on_kept i (Contains-from_list_any i ws t)).1 in
      let most = count_below_weaker on kept (length lists) weaker in
      let least = list-count_below ws (length lists) cM.distinct (λ u c. (on_kept u c).0) in
      (omega arith, λ u l k. Contains-from_list_any u ws (weaker_test_back on kept (length lists) weaker (omega arith) u l k))

  three_of : (us : List ℕ) → length us ≡ 3 → get_or us 0 0 ≡ s → get_or us (length us - 1) 0 ≡ t → (x : ℕ) × (us ≡ s ∷ x ∷ t ∷ [])
  three_of [] n e e' = absurd (omega arith)
  three_of (a ∷ []) n e e' = absurd (omega arith)
  three_of (a ∷ b ∷ []) n e e' = absurd (omega arith)
  three_of (a ∷ b ∷ c ∷ []) n e e' = (b, ap₂ (λ x y. x ∷ b ∷ y ∷ []) e e')
  three_of (a ∷ b ∷ c ∷ d ∷ us) n e e' = absurd (omega arith)

  -- Where three vertices are left they are the two of the base and one more, all on the outer cycle, and a face of the whole map on the other side of the base.
  pub three_left : (x : ℕ) × (ws ≡ s ∷ x ∷ t ∷ []) × IsFaceOfThree lists x s t × ((u : ℕ) → u < length lists → kept u ≡ true → Contains ws u)
  three_left =
      let found = three_of ws counts.0 cM.first cM.last in
      let x = found.0 in
      let e = found.1 in
      let simple = peeled.near.simple in
      let distinct = subst (AllPairs ◌≢◌) e cM.distinct in
      let x_t : entry_after x ws ≡ t = ap (entry_after x) e ∙ entry_after-inside (s ∷ []) x t [] distinct in
      let t_s : entry_after t ws ≡ s = ap (entry_after t) e ∙ entry_after-last (s ∷ x ∷ []) t distinct in
      let x_not_t : x ≢ t = distinct 1 2 0 (omega arith) (omega arith) in
      let on_t : Contains ws t = subst (λ l. Contains l t) (sym e) (Contains-there s (x ∷ t ∷ []) t (Contains-there x (t ∷ []) t (Contains-here t []))) in
      let d = simple.both_ways t s (subst (HasDart M t) t_s (cM.darts t on_t)) in
      let out1 : ¬ IsOuterDart ws s t = λ o. x_not_t (sym (ap (entry_after s) e ∙ entry_after-inside [] s x (t ∷ []) distinct) ∙ o.1) in
      let z = follows M t s in
      let f' = IsFaceOfThree-turned M s t z simple (inner_face M s t ws peeled.near s t d out1) in
      let f'' = IsFaceOfThree-turned M t z s simple f' in
      let old = restricted-old lists kept z s f''.dart in
      let z_x : z ≡ x =
      each_of_three (λ w. w ≡ z → w ≡ x) s x t (λ q. absurd (simple.no_loop z s f''.dart q)) (λ q. refl) (λ q. absurd (simple.no_loop t z f'.dart (sym q))) z (subst (λ l. Contains l z) e (counts.1 z old.0.0 old.1)) refl in
      let out2 : ¬ IsOuterDart ws t z = λ o. (distinct 0 1 0 (omega arith) (omega arith)) (sym t_s ∙ (o.1 ∙ z_x)) in
      let out3 : ¬ IsOuterDart ws z s = λ o. (distinct 0 2 0 (omega arith) (omega arith)) (sym o.1 ∙ (ap (λ w. entry_after w ws) z_x ∙ x_t)) in (
        x,
        e,
        subst (λ w. IsFaceOfThree lists w s t) z_x record {
          dart = old.0;
          second = sym (peeled.inner z s f''.dart out3) ∙ f''.second;
          third = sym (peeled.inner s t d out1);
          round = sym (peeled.inner t z f'.dart out2) ∙ f'.second;
        },
        counts.1,
      )
