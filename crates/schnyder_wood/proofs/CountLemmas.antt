-- The marks are those of a region.
use Rattle.std.proofs.Common.{◌≡◌, ◌+◌, ◌<◌, ◌⊎◌, ℕ, Bool, true, false, List, length, set, get_or-set_same, get_or-set_other, Option, Some, option_map, sym, ap, subst, ◌∙◌, inl, inr, arith, true≢false}
use Rattle.std.proofs.lemmas.Bool.{cases_eq}
use Rattle.classes.specs.Classes.{count_below}
use Rattle.map_theory.specs.Maps.{Dart}
use Rattle.half_edges.specs.Map.{Map, IsHalfMap, IsLive, dart_at, id_bound}
use Rattle.wood_runs.specs.Parents.{Colour}
use Rattle.euler_faces.specs.Numbers.{mark_at}
use Rattle.euler_faces.proofs.NumberLemmas.{live-lt, live_from, some_of}
use Rattle.euler_faces.specs.ChainSearch.{IsMet}
use Rattle.wood_laws.specs.Regions.{IsRegionCount, IsInRegion}
use Rattle.schnyder_wood.specs.declared.schnyder_regions.closed_paths.ClosedPath.{ClosedPath}
use Rattle.schnyder_wood.specs.ClosedPaths.{IsVertexOf}
use Rattle.schnyder_wood.specs.Search.{AreReached}
use Rattle.schnyder_wood.specs.Counting.{HasOdd, MarksMore, HasVertices}

pub count_is : (map : Map) (known : IsHalfMap map) (base : Dart) (parent : Colour → ℕ → ℕ) (c : Colour) (v : ℕ) (path : ClosedPath) (met : List Bool) (none odd all : List Bool) (k : ℕ) → AreReached map base parent c v met → HasVertices map.lists base parent c v path → ((i : ℕ) → mark_at none i ≡ false) → length none ≡ length map.lists → length odd ≡ length none → MarksMore (HasOdd map met (id_bound map)) none odd → MarksMore (IsVertexOf path) odd all → k ≡ count_below (mark_at all) (length map.lists) → IsRegionCount map.lists base parent c v k
count_is map known base parent c v path met none odd all k reached vertices unset long long' tails bounds e = record { inside = mark_at all; exact = λ w l. (inside w l, outside w l); count = sym e }
  where
    inside : (w : ℕ) → w < length map.lists → mark_at all w ≡ true → IsInRegion map.lists base parent c v w
    inside w l m = elim ((bounds w (omega arith)).0 m) [
      | inr b ↦ inl ((vertices w l).0 b)
      | inl a ↦ elim ((tails w (omega arith)).0 a) [
        | inl z ↦ absurd (true≢false (sym z ∙ unset w))
        | inr t ↦ inr (t.2, known.is_dart t.0 w t.2 t.3, (reached t.0 true w t.2 t.3).0 t.4)
      ]
    ]

    outside : (w : ℕ) → w < length map.lists → IsInRegion map.lists base parent c v w → mark_at all w ≡ true
    outside w l (inl b) = (bounds w (omega arith)).1 (inr ((vertices w l).1 b))
    outside w l (inr t) =
        let id = known.has_id w t.0 t.1 in
        let live = live-lt map known id.0 (live_from (dart_at map id.0) (w, t.0) id.1) in
        (bounds w (omega arith)).1 (inl ((tails w (omega arith)).1 (inr (id.0, live, t.0, id.1, (reached id.0 true w t.0 id.1).1 t.2))))

-- ---- marks of one dart or one vertex more

-- Nothing is set: what is asked now holds where it held before.
pub MarksMore-same : (P Q : ℕ → Type 0) (old mid : List Bool) → MarksMore P old mid → ((w : ℕ) → Q w → P w) → ((w : ℕ) → P w → Q w) → MarksMore Q old mid
MarksMore-same P Q old mid h less keeps = λ w l.
    let t = h w l in (
      λ m. elim (t.0 m) [ inl x ↦ inl x | inr p ↦ inr (keeps w p) ],
      λ m. t.1 (elim m [ inl x ↦ inl x | inr q ↦ inr (less w q) ]),
    )

-- One vertex is set, the only one of which more holds.
pub MarksMore-set : (P Q : ℕ → Type 0) (old mid : List Bool) (v : ℕ) → MarksMore P old mid → length mid ≡ length old → ((w : ℕ) → Q w → P w ⊎ (w ≡ v)) → ((w : ℕ) → P w → Q w) → Q v → MarksMore Q old (set mid v true)
MarksMore-set P Q old mid v h long parts keeps here = λ w l. elim (cases_eq w v) [
  | inl e ↦ (λ m. inr (subst Q (sym e) here), λ m. ap (mark_at (set mid v true)) e ∙ get_or-set_same mid v true false (omega (arith, l, e, long)))
  | inr ne ↦
      let other : mark_at (set mid v true) w ≡ mark_at mid w = get_or-set_other mid v w true false ne in
      let t = h w l in (
        λ m. elim (t.0 (sym other ∙ m)) [ inl x ↦ inl x | inr p ↦ inr (keeps w p) ],
        λ m. other ∙ t.1 (elim m [ inl x ↦ inl x | inr q ↦ inr (elim (parts w q) [ inl p ↦ p | inr e ↦ absurd (ne e) ]) ]),
      )
]

tail-is : (o : Option Dart) (x : Dart) (t : ℕ) → o ≡ Some x → option_map (λ (e : Dart). e.0) o ≡ Some t → x.0 ≡ t
tail-is o x t is e =
    let f : Some x.0 ≡ Some t = sym (ap (option_map (λ (e : Dart). e.0)) is) ∙ e in
    cc

module _ (map : Map) (met : List Bool) (d : ℕ) (old mid : List Bool) (h : MarksMore (HasOdd map met d) old mid) where
  later : (w : ℕ) → HasOdd map met d w → HasOdd map met (d + 1) w
  later w p = (p.0, omega (arith, p.1), p.2, p.3, p.4)

  -- a dart that is not met with an odd number, or no dart
  pub tails-passed : ((w y : ℕ) → dart_at map d ≡ Some (w, y) → IsMet met d true → ⊥) → MarksMore (HasOdd map met (d + 1)) old mid
  tails-passed none = MarksMore-same (HasOdd map met d) (HasOdd map met (d + 1)) old mid h
      (λ w q. elim (cases_eq q.0 d) [
        | inl e ↦ absurd (none w q.2 (subst (λ d. dart_at map d ≡ Some (w, q.2)) e q.3) (subst (λ d. IsMet met d true) e q.4))
        | inr ne ↦ (q.0, omega (arith, q.1, ne), q.2, q.3, q.4)
      ])
      later

  -- a dart that is, whose tail is marked
  pub tails-marked : (v : ℕ) → length mid ≡ length old → IsLive map d → option_map (λ (e : Dart). e.0) (dart_at map d) ≡ Some v → IsMet met d true → MarksMore (HasOdd map met (d + 1)) old (set mid v true)
  tails-marked v long live tail odd =
      let x = some_of (dart_at map d) live in
      let same = tail-is (dart_at map d) x.0 v x.1 tail in
      MarksMore-set (HasOdd map met d) (HasOdd map met (d + 1)) old mid v h long
      (λ w q. elim (cases_eq q.0 d) [
        | inl e ↦ inr (tail-is (dart_at map d) (w, q.2) v (subst (λ d. dart_at map d ≡ Some (w, q.2)) e q.3) tail)
        | inr ne ↦ inl (q.0, omega (arith, q.1, ne), q.2, q.3, q.4)
      ])
      later (d, omega arith, x.0.1, x.1 ∙ ap (λ (t : ℕ). Some (t, x.0.1)) same, odd)

module _ (path : ClosedPath) (u : ℕ) (old mid : List Bool) (h : MarksMore (λ w. (w < u) × IsVertexOf path w) old mid) where
  -- a vertex that is not on the path
  pub boundary-passed : (IsVertexOf path u → ⊥) → MarksMore (λ w. (w < u + 1) × IsVertexOf path w) old mid
  boundary-passed none = MarksMore-same (λ w. (w < u) × IsVertexOf path w) (λ w. (w < u + 1) × IsVertexOf path w) old mid h
      (λ w q. elim (cases_eq w u) [ inl e ↦ absurd (none (subst (IsVertexOf path) e q.1)) | inr ne ↦ (omega (arith, q.0, ne), q.1) ])
      (λ w p. (omega (arith, p.0), p.1))

  -- one that is, and is marked
  pub boundary-marked : length mid ≡ length old → IsVertexOf path u → MarksMore (λ w. (w < u + 1) × IsVertexOf path w) old (set mid u true)
  boundary-marked long on = MarksMore-set (λ w. (w < u) × IsVertexOf path w) (λ w. (w < u + 1) × IsVertexOf path w) old mid u h long
      (λ w q. elim (cases_eq w u) [ inl e ↦ inr e | inr ne ↦ inl (omega (arith, q.0, ne), q.1) ])
      (λ w p. (omega (arith, p.0), p.1)) (omega arith, on)
