-- A vertex without a chord taken off: what is left is a near triangulation again.
use Rattle.std.proofs.Common.{◌≡◌, ◌≢◌, ◌⊎◌, ℕ, ◌≤◌, Bool, true, false, List, length, AllPairs, Contains, sym, ap, ◌∙◌, subst, inl, inr, arith}
use Rattle.std.proofs.lemmas.Bool.{cases_Bool, cases_eq, and_from, and_right, true≢false}
use Rattle.map_lists.specs.Lists.{Lists}
use Rattle.map_theory.specs.Maps.{HasDart, IsSimpleMap, follows, entry_after}
use Rattle.map_theory.proofs.DartLemmas.{HasDart-follows}
use Rattle.plane_laws.specs.Kept.{IsKeptMap}
use Rattle.plane_peeling.specs.Restricted.{restricted, kept_but, IsFaceOfThree}
use Rattle.plane_peeling.specs.NearTriangulations.{IsOuterCycle, IsOuterDart, IsRemovable}
use Rattle.plane_peeling.specs.Peeled.{IsPeeled}
use Rattle.plane_peeling.proofs.Rings.{Leads, Leads-first, Leads-last, round-entry}
use Rattle.plane_peeling.proofs.RestrictedMaps.{both, restricted-map, restricted-old, restricted-new, restricted_again, kept_but-old, kept_but-new, kept_but-itself}
use Rattle.plane_peeling.proofs.OuterCycles.{IsFaceOfThree-turned, IsTriangle-face, inner_face, next-on, next-apart, next-last, last_on, two_steps_on}
use Rattle.plane_peeling.proofs.Fans.{q, fan, next_after, next_after-turned, next_after-other, next_after-on, dart_p, p_not_q, p_not_last}

-- The map without v. The list `after` has on it the vertices of the cycle but for v, and its neighbours, and next_after leads round it.
module _ (lists : Lists) (kept : ℕ → Bool) (s t : ℕ) (ws : List ℕ) (v : ℕ) (whole : IsSimpleMap lists) (peeled : IsPeeled lists kept s t ws) (removable : IsRemovable (restricted kept lists) s t ws v) (p : ℕ) (on_p : Contains ws p) (leads_p : entry_after p ws ≡ v) (after : List ℕ) (on_after : (u : ℕ) → Contains after u → (Contains ws u × (u ≢ v)) ⊎ HasDart (restricted kept lists) v u) (after_on : (u : ℕ) → (Contains ws u × (u ≢ v)) ⊎ HasDart (restricted kept lists) v u → Contains after u) (distinct : AllPairs ◌≢◌ after) (ring : Leads (next_after lists kept s t ws v whole peeled removable) t after t) (long : 3 ≤ length after) where
  abbrev M : Lists
  M = restricted kept lists

  abbrev but : ℕ → Bool
  but = kept_but kept v

  abbrev M' : Lists
  M' = restricted but lists

  abbrev step : ℕ → ℕ
  step x = entry_after x ws

  abbrev step' : ℕ → ℕ
  step' = next_after lists kept s t ws v whole peeled removable

  sM : IsSimpleMap M
  sM = peeled.near.simple

  cM : IsOuterCycle M s t ws
  cM = peeled.near.cycle

  -- the map without v, from that with it
  less : IsKeptMap M M' (both but)
  less = subst (λ m. IsKeptMap M m (both but)) (restricted_again lists kept but (λ u b. (kept_but-old kept v u b).0)) (restricted-map M but sM)

  old : (x y : ℕ) → HasDart M' x y → HasDart M x y × (x ≢ v) × (y ≢ v)
  old x y d =
      let o = restricted-old lists but x y d in
      let kx = kept_but-old kept v x o.1 in
      let ky = kept_but-old kept v y o.2 in
      (restricted-new lists kept x y o.0 kx.0 ky.0, kx.1, ky.1)

  is_but : (x y : ℕ) → HasDart M x y → x ≢ v → but x ≡ true
  is_but x y d n = kept_but-new kept v x (restricted-old lists kept x y d).1 n

  new : (x y : ℕ) → HasDart M x y → x ≢ v → y ≢ v → HasDart M' x y
  new x y d n n' =
      restricted-new lists but x y (restricted-old lists kept x y d).0 (is_but x y d n) (is_but y x (sM.both_ways x y d) n')

  -- what follows what, without v
  turn_same : (x u : ℕ) → HasDart M' x u → follows M x u ≢ v → follows M' x u ≡ follows M x u
  turn_same x u d n =
      let o = old x u d in
      let d' = HasDart-follows M x u o.0 in
      less.follows_same x u d (and_from (but x) (but (follows M x u)) (is_but x u o.0 o.1) (is_but (follows M x u) x (sM.both_ways x (follows M x u) d') n))

  turn_skip : (x u : ℕ) → HasDart M' x u → follows M x u ≡ v → follows M x v ≢ v → follows M' x u ≡ follows M x v
  turn_skip x u d e n =
      let o = old x u d in
      let d'' = HasDart-follows M x v (subst (HasDart M x) e (HasDart-follows M x u o.0)) in
      let next_in : both but x (follows M x (follows M x u)) ≡ true =
      and_from (but x) (but (follows M x (follows M x u))) (is_but x u o.0 o.1) (ap (λ w. but (follows M x w)) e ∙ is_but (follows M x v) x (sM.both_ways x (follows M x v) d'') n) in
      less.follows_skip x u d (and_right (but x) (but (follows M x u)) (ap but e ∙ kept_but-itself kept v)) next_in ∙ ap (follows M x) e

  -- the darts of v lead away from v
  not_v : (z : ℕ) → HasDart M v z → z ≢ v
  not_v z d = sM.no_loop v z d

  -- where a vertex of the new cycle leads
  cases_step : (x : ℕ) → Contains after x → (HasDart M v x × (x ≢ step v) × (step' x ≡ follows M x v)) ⊎ (Contains ws x × (x ≢ v) × (x ≢ p) × (step' x ≡ step x))
  cases_step x c =
      let on_ws : Contains ws x → x ≢ v → (HasDart M v x × (x ≢ step v) × (step' x ≡ follows M x v)) ⊎ (Contains ws x × (x ≢ v) × (x ≢ p) × (step' x ≡ step x)) = λ on n.
      elim (cases_eq x p) [
        | inl e ↦
            let d = subst (HasDart M v) (sym e) (dart_p lists kept s t ws v whole peeled removable p on_p leads_p) in
            let n' : x ≢ step v = λ e'. p_not_q lists kept s t ws v whole peeled removable p on_p leads_p (sym e ∙ e') in
            inl (d, n', next_after-turned lists kept s t ws v whole peeled removable x d n')
        | inr ne ↦ inr (on, n, ne, next_after-on lists kept s t ws v whole peeled removable p on_p leads_p x on ne)
      ] in
      elim (on_after x c) [
        | inl on ↦ on_ws on.0 on.1
        | inr d ↦
            elim (cases_eq x (step v)) [
              | inl e ↦ on_ws (subst (Contains ws) (sym e) (next-on M s t ws sM cM v removable.on)) (not_v x d)
              | inr n ↦ inl (d, n, next_after-turned lists kept s t ws v whole peeled removable x d n)
            ]
      ]

  -- v's neighbour y is followed, after v, by what it leads on to
  turn_on : (y : ℕ) → HasDart M v y → follows M y v ≡ step' y
  turn_on y d =
      elim (cases_eq y (step v)) [
        | inr n ↦ sym (next_after-turned lists kept s t ws v whole peeled removable y d n)
        | inl e ↦
            ap (λ z. follows M z v) e
            ∙ (cM.turns v removable.on ∙ (ap step (sym e) ∙ sym (next_after-other lists kept s t ws v whole peeled removable y (λ _. e))))
      ]

  -- and that is not v
  turn_not_v : (y : ℕ) → HasDart M v y → follows M y v ≢ v
  turn_not_v y d e =
      elim (cases_eq y (step v)) [
        | inr n ↦
            let f = (fan lists kept s t ws v whole peeled removable y d n).0 in
            let f' = IsFaceOfThree-turned M y (follows M y v) v sM (IsFaceOfThree-turned M v y (follows M y v) sM f) in
            sM.no_loop (follows M y v) v f'.dart (sym e)
        | inl q ↦ two_steps_on M s t ws sM cM v removable.on (sym (cM.turns v removable.on) ∙ (ap (λ z. follows M z v) (sym q) ∙ e))
      ]

  -- one step of the new cycle
  record IsStep (x : ℕ) : Type 0 where
    stays : Contains after (step' x)
    dart : HasDart M' x (step' x)
    turn : follows M' (step' x) x ≡ step' (step' x)

  new_step : (x : ℕ) → Contains after x → IsStep x
  new_step x c =
      elim (cases_step x c) [
        | inl a ↦ round_v a.0 a.1 a.2
        | inr a ↦ along a.0 a.1 a.2 a.3
      ]
    where
      round_v : HasDart M v x → x ≢ step v → step' x ≡ follows M x v → IsStep x
      round_v d n e =
          let y = follows M x v in
          let f = (fan lists kept s t ws v whole peeled removable x d n).0 in
          let f' = IsFaceOfThree-turned M v x y sM f in
          let d_y = sM.both_ways y v ((IsFaceOfThree-turned M x y v sM f').dart) in
          let dart : HasDart M' x y = new x y f'.dart (not_v x d) (not_v y d_y) in
          let turn : follows M' y x ≡ step' y = turn_skip y x (simple' x y dart) f.third (turn_not_v y d_y) ∙ turn_on y d_y in
          record {
            stays = after_on (step' x) (inr (subst (HasDart M v) (sym e) d_y));
            dart = subst (HasDart M' x) (sym e) dart;
            turn = ap (λ w. follows M' w x) e ∙ (turn ∙ ap step' (sym e));
          }
        where
          simple' : (x y : ℕ) → HasDart M' x y → HasDart M' y x
          simple' = less.simple.both_ways

      along : Contains ws x → x ≢ v → x ≢ p → step' x ≡ step x → IsStep x
      along on nv np e =
          let y = step x in
          let on_y = next-on M s t ws sM cM x on in
          let y_v : y ≢ v = λ q. np (next-apart M s t ws sM cM x p on on_p (q ∙ sym leads_p)) in
          let dart : HasDart M' x y = new x y (cM.darts x on) nv y_v in
          let back = less.simple.both_ways x y dart in
          let turn : follows M' y x ≡ step' y =
          elim (cases_eq y p) [
            | inl q ↦
                let d_y = subst (HasDart M v) (sym q) (dart_p lists kept s t ws v whole peeled removable p on_p leads_p) in
                turn_skip y x back (cM.turns x on ∙ (ap step q ∙ leads_p)) (turn_not_v y d_y) ∙ turn_on y d_y
            | inr n ↦
                let n' : follows M y x ≢ v = λ q. n (next-apart M s t ws sM cM y p on_y on_p (sym (cM.turns x on) ∙ (q ∙ sym leads_p))) in
                turn_same y x back n' ∙ (cM.turns x on ∙ sym (next_after-on lists kept s t ws v whole peeled removable p on_p leads_p y on_y n))
          ] in
          record {
            stays = after_on (step' x) (inl (subst (λ w. Contains ws w × (w ≢ v)) (sym e) (on_y, y_v)));
            dart = subst (HasDart M' x) (sym e) dart;
            turn = ap (λ w. follows M' w x) e ∙ (turn ∙ ap step' (sym e));
          }

  entry : (x : ℕ) → Contains after x → entry_after x after ≡ step' x
  entry x c = round-entry step' after t distinct ring x c

  -- the last vertex leads on as it did, to the first
  first_stays : step' t ≡ s
  first_stays =
      next_after-on lists kept s t ws v whole peeled removable p on_p leads_p t (last_on M s t ws sM cM) (λ e. p_not_last lists kept s t ws v whole peeled removable p on_p leads_p (sym e))
      ∙ next-last M s t ws sM cM

  cycle_after : IsOuterCycle M' s t after
  cycle_after =
      record {
        long = long;
        first = Leads-first step' t after t 0 (omega (arith, long)) ring ∙ first_stays;
        last = Leads-last step' t after t 0 (omega (arith, long)) ring;
        distinct = distinct;
        darts = λ x c. subst (HasDart M' x) (sym (entry x c)) (new_step x c).dart;
        turns = λ x c.
            let is = new_step x c in
            ap (λ w. follows M' w x) (entry x c) ∙ (is.turn ∙ (sym (entry (step' x) is.stays) ∙ ap (λ w. entry_after w after) (sym (entry x c))));
      }

  -- a dart that is not on the new cycle is not on the old one
  not_outer : (x y : ℕ) → HasDart M' x y → ¬ IsOuterDart after x y → ¬ IsOuterDart ws x y
  not_outer x y d n o =
      let was = old x y d in
      let np : x ≢ p = λ e. was.2 (sym o.1 ∙ (ap step e ∙ leads_p)) in
      let c = after_on x (inl (o.0, was.1)) in
      n (c, entry x c ∙ (next_after-on lists kept s t ws v whole peeled removable p on_p leads_p x o.0 np ∙ o.1))

  -- and its face has not v
  inner_without : (x y : ℕ) → HasDart M' x y → ¬ IsOuterDart after x y → follows M y x ≢ v
  inner_without x y d n e =
      let out = not_outer x y d n in
      let f = inner_face M s t ws peeled.near x y (old x y d).0 out in
      let z = follows M y x in
      let d_x : HasDart M v x = subst (λ w. HasDart M w x) e ((IsFaceOfThree-turned M y z x sM (IsFaceOfThree-turned M x y z sM f)).dart) in
      let to_y : follows M x v ≡ y = ap (follows M x) (sym e) ∙ f.round in
      elim (cases_eq x (step v)) [
        | inl q ↦ out (subst (Contains ws) (sym q) (next-on M s t ws sM cM v removable.on), ap step q ∙ (sym (cM.turns v removable.on) ∙ (ap (λ w. follows M w v) (sym q) ∙ to_y)))
        | inr ne ↦
            let c = after_on x (inr d_x) in
            n (c, entry x c ∙ (next_after-turned lists kept s t ws v whole peeled removable x d_x ne ∙ to_y))
      ]

  face_after : (x y : ℕ) → HasDart M' x y → ¬ IsOuterDart after x y → IsFaceOfThree M' x y (follows M y x)
  face_after x y d n =
      let was = old x y d in
      let f = inner_face M s t ws peeled.near x y was.0 (not_outer x y d n) in
      let z = follows M y x in
      let z_v = inner_without x y d n in
      let f' = IsFaceOfThree-turned M x y z sM f in
      let both_ways = less.simple.both_ways in
      record {
        dart = d;
        second = turn_same y x (both_ways x y d) z_v;
        third = turn_same z y (both_ways y z (new y z f'.dart was.2 z_v)) (λ e. was.1 (sym f.third ∙ e)) ∙ f.third;
        round = turn_same x z (both_ways z x (new z x (IsFaceOfThree-turned M y z x sM f').dart z_v was.1)) (λ e. was.2 (sym f.round ∙ e)) ∙ f.round;
      }

  pub left : IsPeeled lists but s t after
  left =
      record {
        near = record {
          simple = less.simple;
          plane = less.plane peeled.near.plane;
          cycle = cycle_after;
          inner = λ x y d n. IsTriangle-face M' x y (follows M y x) (face_after x y d n);
        };
        inner = λ x y d n. (face_after x y d n).second ∙ peeled.inner x y (old x y d).0 (not_outer x y d n);
        border = λ y u b d out.
            let is = kept_but-old kept v y b in
            elim (cases_Bool (kept u)) [
              | inr f ↦ after_on y (inl (peeled.border y u is.0 d f, is.1))
              | inl k ↦
                  elim (cases_eq u v) [
                    | inr n ↦ absurd (true≢false (sym (kept_but-new kept v u k n) ∙ out))
                    | inl e ↦ after_on y (inr (sM.both_ways y v (restricted-new lists kept y v (subst (HasDart lists y) e d) is.0 (subst (λ w. kept w ≡ true) e k))))
                  ]
            ];
      }
