-- The search by chains of faces.
use Rattle.std.proofs.Common.{◌≡◌, ◌⊎◌, ◌+◌, ◌*◌, ◌<◌, ◌≤◌, ℕ, zero, suc, Bool, true, false, not, if◌then◌else◌, List, [], ◌∷◌, ◌++◌, length, set, Contains, Some, option_map, refl, sym, ap, ap₂, ◌∙◌, subst, inl, inr, arith, length-set, true≢false}
use Rattle.std.proofs.lemmas.Bool.{cases_eq}
use Rattle.std.proofs.lemmas.List.Elements.{Contains-push, Contains-append_left, Contains-push_cases}
use Rattle.classes.specs.Classes.{count_below}
use Rattle.map_lists.specs.declared.ids.DartId.{DartId}
use Rattle.map_theory.specs.Maps.{Dart, HasDart, twin_dart, face_step, follows}
use Rattle.map_theory.proofs.DartLemmas.{HasDart-follows}
use Rattle.half_edges.specs.Map.{Map, IsLive, IsHalfMap, dart_at, id_bound}
use Rattle.euler_faces.specs.Numbers.{mark_at}
use Rattle.euler_faces.proofs.SearchLemmas.{unmarked_below-set, set-here}
use Rattle.euler_faces.proofs.NumberLemmas.{live_from}
use Rattle.euler_faces.specs.Chains.{GoesOn, along, over, ReachesBy, Reaches}
use Rattle.euler_faces.specs.declared.face_chains.FaceSide.{FaceSide}
use Rattle.euler_faces.specs.ChainSearch.{place, IsMet, Tells, Meets, before, now, work, GoesFrom, AreReached, IsChaining}
use Rattle.euler_faces.proofs.SideMarks.{mark-other, place_same, place_live, live_after, not_in_none, some_pair, dart_in}

-- what has been marked stays so
pub met_stays : (met : List Bool) (sides : List FaceSide) (side : FaceSide) (met' : List Bool) (sides' : List FaceSide) → Meets met sides side met' sides' → (i : ℕ) → mark_at met i ≡ true → mark_at met' i ≡ true
met_stays met sides side met' sides' (before a e f) i m = ap (λ met. mark_at met i) e ∙ m
met_stays met sides side met' sides' (now a e f) i m = elim (cases_eq i (place side.dart.0 side.odd)) [
  | inl z ↦ absurd (true≢false (sym m ∙ ap (mark_at met) z ∙ a))
  | inr z ↦ ap (λ met. mark_at met i) e ∙ mark-other met (place side.dart.0 side.odd) i z ∙ m
]

pub met_long : (met : List Bool) (sides : List FaceSide) (side : FaceSide) (met' : List Bool) (sides' : List FaceSide) → Meets met sides side met' sides' → length met' ≡ length met
met_long met sides side met' sides' (before a e f) = ap (λ (m : List Bool). length m) e
met_long met sides side met' sides' (now a e f) = ap (λ (m : List Bool). length m) e ∙ length-set met (place side.dart.0 side.odd) true

-- the side is met now
pub met_now : (met : List Bool) (sides : List FaceSide) (side : FaceSide) (met' : List Bool) (sides' : List FaceSide) → Meets met sides side met' sides' → place side.dart.0 side.odd < length met → IsMet met' side.dart.0 side.odd
met_now met sides side met' sides' (before a e f) l = ap (λ met. mark_at met (place side.dart.0 side.odd)) e ∙ a
met_now met sides side met' sides' (now a e f) l = ap (λ met. mark_at met (place side.dart.0 side.odd)) e ∙ set-here met (place side.dart.0 side.odd) l

-- there is no more to do
pub met_work : (met : List Bool) (sides : List FaceSide) (side : FaceSide) (met' : List Bool) (sides' : List FaceSide) → Meets met sides side met' sides' → place side.dart.0 side.odd < length met → work met' sides' ≤ work met sides
met_work met sides side met' sides' (before a e f) l = let h = ap₂ work e f in omega (arith, h)
met_work met sides side met' sides' (now a e f) l =
    let k = length-set met (place side.dart.0 side.odd) true in
    let same = ap (count_below (λ i. not (mark_at (set met (place side.dart.0 side.odd) true) i))) k in
    let long : length (sides ++ side ∷ []) ≡ length sides + 1 = length-push sides side in
    omega (arith, ap₂ work e f, unmarked_below-set met (place side.dart.0 side.odd) (length met) l l a, same, long)
  where
    length-push : (sides : List FaceSide) (side : FaceSide) → length (sides ++ side ∷ []) ≡ length sides + 1
    length-push [] side = refl
    length-push (s ∷ sides) side = omega (arith, length-push sides side)

-- what waits now waited before, or is the side
waits_cases : (met : List Bool) (sides : List FaceSide) (side : FaceSide) (met' : List Bool) (sides' : List FaceSide) → Meets met sides side met' sides' → (s : FaceSide) → Contains sides' s → Contains sides s ⊎ (side ≡ s)
waits_cases met sides side met' sides' (before a e f) s m = inl (subst (λ x. Contains x s) f m)
waits_cases met sides side met' sides' (now a e f) s m = Contains-push_cases sides side s (subst (λ x. Contains x s) f m)

pub waits_stay : (met : List Bool) (sides : List FaceSide) (side : FaceSide) (met' : List Bool) (sides' : List FaceSide) → Meets met sides side met' sides' → (s : FaceSide) → Contains sides s → Contains sides' s
waits_stay met sides side met' sides' (before a e f) s m = subst (λ x. Contains x s) (sym f) m
waits_stay met sides side met' sides' (now a e f) s m = subst (λ x. Contains x s) (sym f) (Contains-append_left sides (side ∷ []) s m)

-- what is met now was met before, or is the side, and waits
met_cases : (met : List Bool) (sides : List FaceSide) (side : FaceSide) (met' : List Bool) (sides' : List FaceSide) → Meets met sides side met' sides' → (d : ℕ) (odd : Bool) → IsMet met' d odd → IsMet met d odd ⊎ ((side.dart.0 ≡ d) × (side.odd ≡ odd) × Contains sides' side)
met_cases met sides side met' sides' (before a e f) d odd m = inl (ap (λ met. mark_at met (place d odd)) (sym e) ∙ m)
met_cases met sides side met' sides' (now a e f) d odd m = elim (cases_eq (place d odd) (place side.dart.0 side.odd)) [
  | inl z ↦ let p = place_same d side.dart.0 odd side.odd z in inr (sym p.0, sym p.1, subst (λ x. Contains x side) (sym f) (Contains-push sides side))
  | inr z ↦ inl (sym (mark-other met (place side.dart.0 side.odd) (place d odd) z) ∙ ap (λ met. mark_at met (place d odd)) (sym e) ∙ m)
]

module _ (map : Map) (known : IsHalfMap map) (base : Dart) (counts : ℕ → ℕ → Bool) where
  abbrev Searching : List Bool → List FaceSide → (ℕ → Bool → Type 0) → Type 0
  Searching = IsChaining map base counts

  abbrev Goes : ℕ → ℕ → Bool → ℕ → ℕ → Bool → Type 0
  Goes = GoesOn map.lists counts

  abbrev Reached : ℕ → ℕ → Bool → Type 0
  Reached = Reaches map.lists counts base

  -- one side more is met
  pub meets_on : (met : List Bool) (sides : List FaceSide) (side : FaceSide) (met' : List Bool) (sides' : List FaceSide) (open_at : ℕ → Bool → Type 0) → Meets met sides side met' sides' → place side.dart.0 side.odd < length met → ((x y : ℕ) → dart_at map side.dart.0 ≡ Some (x, y) → Reached x y side.odd) → Searching met sides open_at → Searching met' sides' open_at
  meets_on met sides side met' sides' open_at m l reached h = record {
    sound = λ d odd x y e on. elim (met_cases met sides side met' sides' m d odd on) [
      | inl a ↦ h.sound d odd x y e a
      | inr a ↦ subst (Reached x y) a.1 (reached x y (ap (dart_at map) a.0 ∙ e))
    ];
    closed = λ d odd x y e on. elim (met_cases met sides side met' sides' m d odd on) [
      | inl a ↦ elim (h.closed d odd x y e a) [
        | inl w ↦ inl (w.0, waits_stay met sides side met' sides' m w.0 w.1, w.2, w.3)
        | inr (inl o) ↦ inr (inl o)
        | inr (inr all) ↦ inr (inr (λ d' odd' x' y' e' g. met_stays met sides side met' sides' m (place d' odd') (all d' odd' x' y' e' g)))
      ]
      | inr a ↦ inl (side, a.2, a.0, a.1)
    ];
    waits = λ s on. elim (waits_cases met sides side met' sides' m s on) [
      | inl a ↦ met_stays met sides side met' sides' m (place s.dart.0 s.odd) (h.waits s a)
      | inr a ↦ subst (λ s. IsMet met' s.dart.0 s.odd) a (met_now met sides side met' sides' m l)
    ];
    begun = λ d e. met_stays met sides side met' sides' m (place d false) (h.begun d e);
  }

  -- a side is taken off the stack
  pub taken : (met : List Bool) (sides : List FaceSide) (side : FaceSide) → Searching met (sides ++ side ∷ []) (λ d odd. ⊥) → Searching met sides (λ d odd. (side.dart.0 ≡ d) × (side.odd ≡ odd))
  taken met sides side h = record {
    sound = h.sound;
    closed = λ d odd x y e on. elim (h.closed d odd x y e on) [
      | inl w ↦ elim (Contains-push_cases sides side w.0 w.1) [
        | inl a ↦ inl (w.0, a, w.2, w.3)
        | inr a ↦ inr (inl (ap (λ (s : FaceSide). s.dart.0) a ∙ w.2, ap (λ (s : FaceSide). s.odd) a ∙ w.3))
      ]
      | inr (inl o) ↦ absurd o
      | inr (inr all) ↦ inr (inr all)
    ];
    waits = λ s on. h.waits s (Contains-append_left sides (side ∷ []) s on);
    begun = h.begun;
  }

  -- it is done with
  pub closes : (met : List Bool) (sides : List FaceSide) (side : FaceSide) → Searching met sides (λ d odd. (side.dart.0 ≡ d) × (side.odd ≡ odd)) → ((x y : ℕ) → dart_at map side.dart.0 ≡ Some (x, y) → (d' : ℕ) (odd' : Bool) (x' y' : ℕ) → dart_at map d' ≡ Some (x', y') → Goes x y side.odd x' y' odd' → IsMet met d' odd') → Searching met sides (λ d odd. ⊥)
  closes met sides side h all = record {
    sound = h.sound;
    closed = λ d odd x y e on. elim (h.closed d odd x y e on) [
      | inl w ↦ inl w
      | inr (inl o) ↦ inr (inr (λ d' odd' x' y' e' g. all x y (ap (dart_at map) o.0 ∙ e) d' odd' x' y' e' (subst (λ odd. Goes x y odd x' y' odd') (sym o.1) g)))
      | inr (inr a) ↦ inr (inr a)
    ];
    waits = h.waits;
    begun = h.begun;
  }

  -- a chain comes to darts of the map
  reaches_dart : HasDart map.lists base.0 base.1 → (k x y : ℕ) (odd : Bool) → ReachesBy map.lists counts base k x y odd → HasDart map.lists x y
  reaches_dart has zero x y odd (a, b, z) = subst (λ x. HasDart map.lists x y) (sym a) (subst (HasDart map.lists base.0) (sym b) has)
  reaches_dart has (suc k) x y odd (x', y', odd', r, g) = by (reaches_dart has k x' y' odd' r) g
    where
      by : HasDart map.lists x' y' → Goes x' y' odd' x y odd → HasDart map.lists x y
      by d (along ex ey e) = subst (λ x. HasDart map.lists x y) (sym ex) (subst (HasDart map.lists y') (sym ey) (HasDart-follows map.lists y' x' (known.simple.both_ways x' y' d)))
      by d (over ex ey e) = subst (λ x. HasDart map.lists x y) (sym ex) (subst (HasDart map.lists y') (sym ey) (known.simple.both_ways x' y' d))

  -- all is met in the end
  pub finished : (met : List Bool) (sides : List FaceSide) → HasDart map.lists base.0 base.1 → sides ≡ [] → Searching met sides (λ d odd. ⊥) → AreReached map base counts met
  finished met sides base_has none h = λ d odd x y e. (h.sound d odd x y e, λ r. all r.0 d odd x y e r.1)
    where
      all : (k : ℕ) (d : ℕ) (odd : Bool) (x y : ℕ) → dart_at map d ≡ Some (x, y) → ReachesBy map.lists counts base k x y odd → IsMet met d odd
      all zero d odd x y e (a, b, z) = subst (IsMet met d) (sym z) (h.begun d (e ∙ ap₂ (λ (x y : ℕ). Some (x, y)) a b))
      all (suc k) d odd x y e (x', y', odd', r, g) =
          let id = known.has_id x' y' (reaches_dart base_has k x' y' odd' r) in
          elim (h.closed id.0 odd' x' y' id.1 (all k id.0 odd' x' y' id.1 r)) [
            | inl w ↦ absurd (nothing w.0 (subst (λ x. Contains x w.0) none w.1))
            | inr (inl o) ↦ absurd o
            | inr (inr go) ↦ go d odd x y e g
          ]
        where
          nothing : (s : FaceSide) → ¬ Contains [] s
          nothing s m = absurd (not_in_none m)

  -- from a side that is taken off
  module _ (says : DartId → Bool → Type 0) (tells : Tells map says counts) (side : FaceSide) (met : List Bool) (sides : List FaceSide) (met' : List Bool) (sides' : List FaceSide) (from : GoesFrom map says side met sides met' sides') (long : length met ≡ 2 * id_bound map) (x y : ℕ) (dart : dart_at map side.dart.0 ≡ Some (x, y)) where
    first_dart : dart_at map from.first.dart.0 ≡ Some (y, follows map.lists y x)
    first_dart = from.along.dart ∙ ap (option_map (face_step map.lists)) dart

    second_dart : dart_at map from.second.dart.0 ≡ Some (y, x)
    second_dart = from.across.dart ∙ ap (option_map twin_dart) dart

    same_pair : {a b a' b' : ℕ} → some_pair a b ≡ some_pair a' b' → (a ≡ a') × (b ≡ b')
    same_pair e = (ap (λ o. (dart_in o).0) e, ap (λ o. (dart_in o).1) e)

    second_odd : from.second.odd ≡ (if counts x y then not side.odd else side.odd)
    second_odd = from.across.odd ∙ ap (λ turn. if turn then not side.odd else side.odd) (tells side.dart from.across.turn x y dart from.across.told)

    pub goes_from : Searching met (sides ++ side ∷ []) (λ d odd. ⊥) → Searching met' sides' (λ d odd. ⊥)
    goes_from h =
        let reached = h.sound side.dart.0 side.odd x y dart (h.waits side (Contains-push sides side)) in
        let h1 = taken met sides side h in
        let small1 : place from.first.dart.0 from.first.odd < length met = let p = place_live map known from.first.dart.0 from.first.odd (y, follows map.lists y x) first_dart in omega arith in
        let long' = met_long met sides from.first from.between from.waiting from.meets_first in
        let small2 : place from.second.dart.0 from.second.odd < length from.between = let p = place_live map known from.second.dart.0 from.second.odd (y, x) second_dart in omega arith in
        let reach1 : Reached y (follows map.lists y x) from.first.odd = (suc reached.0, (x, y, side.odd, reached.1, along refl refl from.along.odd)) in
        let reach2 : Reached y x from.second.odd = (suc reached.0, (x, y, side.odd, reached.1, over refl refl second_odd)) in
        let h2 = meets_on met sides from.first from.between from.waiting _ from.meets_first small1 (λ a b e. let p = same_pair (sym first_dart ∙ e) in subst (λ a. Reached a b from.first.odd) p.0 (subst (λ b. Reached y b from.first.odd) p.1 reach1)) h1 in
        let h3 = meets_on from.between from.waiting from.second met' sides' _ from.meets_second small2 (λ a b e. let p = same_pair (sym second_dart ∙ e) in subst (λ a. Reached a b from.second.odd) p.0 (subst (λ b. Reached y b from.second.odd) p.1 reach2)) h2 in
        let on1 = met_stays from.between from.waiting from.second met' sides' from.meets_second (place from.first.dart.0 from.first.odd) (met_now met sides from.first from.between from.waiting from.meets_first small1) in
        let on2 = met_now from.between from.waiting from.second met' sides' from.meets_second small2 in
        closes met' sides' side h3 (λ a b e d' odd' a' b' e' g.
        let p = same_pair (sym dart ∙ e) in
        go_all on1 on2 d' odd' a' b' e' (subst (λ a. Goes a y side.odd a' b' odd') (sym p.0) (subst (λ b. Goes a b side.odd a' b' odd') (sym p.1) g)))
      where
        go_all : IsMet met' from.first.dart.0 from.first.odd → IsMet met' from.second.dart.0 from.second.odd → (d' : ℕ) (odd' : Bool) (a b : ℕ) → dart_at map d' ≡ Some (a, b) → Goes x y side.odd a b odd' → IsMet met' d' odd'
        go_all on1 on2 d' odd' a b e (along ea eb eo) =
            let id = known.one_id d' from.first.dart.0 y (follows map.lists y x) (e ∙ ap₂ (λ (a b : ℕ). Some (a, b)) ea eb) first_dart in
            subst (λ d. IsMet met' d odd') (sym id) (subst (IsMet met' from.first.dart.0) (from.along.odd ∙ sym eo) on1)
        go_all on1 on2 d' odd' a b e (over ea eb eo) =
            let id = known.one_id d' from.second.dart.0 y x (e ∙ ap₂ (λ (a b : ℕ). Some (a, b)) ea eb) second_dart in
            subst (λ d. IsMet met' d odd') (sym id) (subst (IsMet met' from.second.dart.0) (second_odd ∙ sym eo) on2)

  -- the start
  pub starts : (met : List Bool) (side : FaceSide) (met' : List Bool) (sides' : List FaceSide) → dart_at map side.dart.0 ≡ Some base → side.odd ≡ false → ((i : ℕ) → mark_at met i ≡ false) → length met ≡ 2 * id_bound map → Meets met [] side met' sides' → Searching met' sides' (λ d odd. ⊥)
  starts met side met' sides' dart even unset long m =
      let on = met_now met [] side met' sides' m (let p = place_live map known side.dart.0 side.odd base dart in omega arith) in
      record {
        sound = λ d odd x y e q. elim (met_cases met [] side met' sides' m d odd q) [
          | inl a ↦ absurd (true≢false (sym a ∙ unset (place d odd)))
          | inr a ↦
              let same : some_pair x y ≡ Some base = sym e ∙ ap (dart_at map) (sym a.0) ∙ dart in
              (0, (ap (λ o. (dart_in o).0) same, ap (λ o. (dart_in o).1) same, sym a.1 ∙ even))
        ];
        closed = λ d odd x y e q. elim (met_cases met [] side met' sides' m d odd q) [
          | inl a ↦ absurd (true≢false (sym a ∙ unset (place d odd)))
          | inr a ↦ inl (side, a.2, a.0, a.1)
        ];
        waits = λ s q. elim (waits_cases met [] side met' sides' m s q) [
          | inl a ↦ absurd (not_in_none a)
          | inr a ↦ subst (λ s. IsMet met' s.dart.0 s.odd) a on
        ];
        begun = λ d e. subst (λ d. IsMet met' d false) (known.one_id side.dart.0 d base.0 base.1 dart e) (subst (IsMet met' side.dart.0) even on);
      }

-- what waits is live
pub live_first : (map : Map) (met : List Bool) (side : FaceSide) (met' : List Bool) (sides' : List FaceSide) → IsLive map side.dart.0 → Meets met [] side met' sides' → (s : FaceSide) → Contains sides' s → IsLive map s.dart.0
live_first map met side met' sides' l m s q = elim (waits_cases met [] side met' sides' m s q) [ inl a ↦ absurd (not_in_none a) | inr a ↦ subst (λ s. IsLive map s.dart.0) a l ]

pub live_on : (map : Map) (known : IsHalfMap map) (says : DartId → Bool → Type 0) (side : FaceSide) (met : List Bool) (sides : List FaceSide) (met' : List Bool) (sides' : List FaceSide) → GoesFrom map says side met sides met' sides' → IsLive map side.dart.0 → ((s : FaceSide) → Contains sides s → IsLive map s.dart.0) → (s : FaceSide) → Contains sides' s → IsLive map s.dart.0
live_on map known says side met sides met' sides' from l h s q =
    let one = live_after map known side.dart.0 from.first.dart.0 (face_step map.lists) l from.along.dart in
    let two = live_after map known side.dart.0 from.second.dart.0 twin_dart l from.across.dart in
    elim (waits_cases from.between from.waiting from.second met' sides' from.meets_second s q) [
      | inl a ↦ elim (waits_cases met sides from.first from.between from.waiting from.meets_first s a) [
        | inl b ↦ h s b
        | inr b ↦ subst (λ s. IsLive map s.dart.0) b (live_from (dart_at map from.first.dart.0) _ one.3)
      ]
      | inr a ↦ subst (λ s. IsLive map s.dart.0) a (live_from (dart_at map from.second.dart.0) _ two.3)
    ]

-- there is less to do
pub work_less : (map : Map) (known : IsHalfMap map) (says : DartId → Bool → Type 0) (side : FaceSide) (met : List Bool) (sides : List FaceSide) (met' : List Bool) (sides' : List FaceSide) → GoesFrom map says side met sides met' sides' → IsLive map side.dart.0 → length met ≡ 2 * id_bound map → (length met' ≡ length met) × (work met' sides' ≤ work met sides)
work_less map known says side met sides met' sides' from l long =
    let one = live_after map known side.dart.0 from.first.dart.0 (face_step map.lists) l from.along.dart in
    let two = live_after map known side.dart.0 from.second.dart.0 twin_dart l from.across.dart in
    let p = place_live map known from.first.dart.0 from.first.odd _ one.3 in
    let q = place_live map known from.second.dart.0 from.second.odd _ two.3 in
    let l1 = met_long met sides from.first from.between from.waiting from.meets_first in
    let w1 = met_work met sides from.first from.between from.waiting from.meets_first (omega arith) in
    let w2 = met_work from.between from.waiting from.second met' sides' from.meets_second (omega arith) in
    ((met_long from.between from.waiting from.second met' sides' from.meets_second) ∙ l1, omega arith)

-- a side less on the stack
pub work_taken : (met : List Bool) (sides : List FaceSide) (side : FaceSide) → work met (sides ++ side ∷ []) ≡ work met sides + 1
work_taken met sides side = omega (arith, length_of sides side)
  where
    length_of : (sides : List FaceSide) (side : FaceSide) → length (sides ++ side ∷ []) ≡ length sides + 1
    length_of [] side = refl
    length_of (s ∷ sides) side = omega (arith, length_of sides side)
