-- An ear cut near a dart: which darts have no triangle afterwards.
use Rattle.std.proofs.Common.{◌≡◌, ◌⊎◌, ℕ, ◌+◌, ◌<◌, ◌≤◌, List, length, get_or, Option, Some, None, is_some, unwrap_or, refl, sym, ap, ◌∙◌, subst, inl, inr, arith}
use Rattle.std.proofs.lemmas.Bool.{cases_eq, cases_lt, false≢true}
use Rattle.std.proofs.lemmas.List.{get_or_past}
use Rattle.map_lists.specs.Lists.{Lists}
use Rattle.map_theory.specs.Maps.{Dart, HasDart, IsSimpleMap, IsPlane, list_of, place_of, follows, face_step}
use Rattle.map_theory.proofs.DartLemmas.{HasDart-follows, entry_after-injective}
use Rattle.plane_laws.specs.Laws.{IsTriangle}
use Rattle.plane_laws.specs.Chords.{IsEar, IsEarCut}
use Rattle.plane_laws.specs.WithEdge.{IsEdgeMore, IsPutAfter}
use Rattle.plane_laws.proofs.WithEdge.{with_edge_after_law}
use Rattle.plane_laws.proofs.Chords.{ear_cut}
use Rattle.half_edges.specs.Map.{Map, IsHalfMap, IsLive, dart_at, id_bound}
use Rattle.augment_tri.specs.Growing.{IsCutEar, IsGrown, IsNear, IsFilled, IsCovered}

-- the next dart along a triangle has it too
triangle_step : (lists : Lists) (d : Dart) → IsTriangle lists d → IsTriangle lists (face_step lists d)
triangle_step lists d t = ap (face_step lists) t

-- where the dart has a triangle, no dart near it is left
pub filled_from_covered : (first : Map) (k : ℕ) (lists : Lists) (a b : ℕ) → IsCovered first k lists a b → IsTriangle lists (a, b) → IsFilled first k lists
filled_from_covered first k lists a b covered t = grind (arith, Dart, IsTriangle, triangle_step, face_step)

module _ (lists : Lists) (simple : IsSimpleMap lists) (plane : IsPlane lists) (s t : ℕ) (ear : IsEar lists s t) (new : Lists) (cut : IsCutEar lists new s t) where
  abbrev w : ℕ
  w = follows lists t s

  abbrev p : ℕ
  p = cut.0

  has_ts : HasDart lists t s
  has_ts = simple.both_ways s t ear.0

  has_tw : HasDart lists t w
  has_tw = HasDart-follows lists t s has_ts

  has_wt : HasDart lists w t
  has_wt = simple.both_ways t w has_tw

  pub is_cut : IsEarCut lists new s t w
  is_cut = subst (λ ls. IsEarCut lists ls s t w) (sym cut.3) (ear_cut lists p s t w simple plane cut.1 cut.2 refl ear.1)

  pub put : IsPutAfter lists new s p w t
  put = subst (λ ls. IsPutAfter lists ls s p w t) (sym cut.3) (with_edge_after_law lists s p w t simple cut.1 has_wt ear.1.0 ear.1.1).1

  pub more : IsEdgeMore lists new s (place_of p (list_of lists s) + 1) w (place_of t (list_of lists w) + 1)
  more = subst (λ ls. IsEdgeMore lists ls s (place_of p (list_of lists s) + 1) w (place_of t (list_of lists w) + 1)) (sym cut.3) (with_edge_after_law lists s p w t simple cut.1 has_wt ear.1.0 ear.1.1).0

  -- the triangle that was cut off
  along_st : face_step new (s, t) ≡ (t, w)
  along_st = ap (λ z. (t, z)) (put.other t s has_ts (λ e. absurd (simple.no_loop s t ear.0 e)) (λ e. absurd (simple.no_loop t w has_tw (sym e))))

  along_tw : face_step new (t, w) ≡ (w, s)
  along_tw = ap (λ z. (w, z)) put.turn'

  at_st : IsTriangle new (s, t)
  at_st = is_cut.triangle

  at_tw : IsTriangle new (t, w)
  at_tw = let P : Dart → Type 0 = λ d. IsTriangle new d in subst P along_st (triangle_step new (s, t) at_st)

  at_ws : IsTriangle new (w, s)
  at_ws = let P : Dart → Type 0 = λ d. IsTriangle new d in subst P along_tw (triangle_step new (t, w) at_tw)

  -- the old darts near (a, b) have triangles now or are near (a', b'), and so is the new one
  covered_after : (first : Map) (k a b a' b' : ℕ) → IsCovered first k lists a b → IsNear new a' b' s w → ((v u : ℕ) → HasDart lists v u → IsNear lists a b v u → IsTriangle new (v, u) ⊎ IsNear new a' b' v u) → IsCovered first k new a' b'
  covered_after first k a b a' b' covered near_new moved = λ v u has.
      elim (more.only v u has) [
        | inl old ↦ grind (arith, is_cut)
        | inr edge ↦
            elim edge [
              | inl e ↦ inr (inr (subst (λ x. IsNear new a' b' x u) (sym e.0) (subst (λ y. IsNear new a' b' s y) (sym e.1) near_new)))
              | inr e ↦ inl (subst (λ x. IsTriangle new (x, u)) (sym e.0) (subst (λ y. IsTriangle new (w, y)) (sym e.1) at_ws))
            ]
      ]

  -- the ear was at the dart: go on from the new one
  pub covered_here : (first : Map) (k : ℕ) → IsCovered first k lists s t → IsCovered first k new s w
  covered_here first k covered =
      let P : Dart → Type 0 = λ d. IsTriangle new d in
      covered_after first k s t s w covered (inl refl) (λ v u has near. elim near [
        | inl q ↦ inl (subst P (sym q) at_st)
        | inr rest ↦ elim rest [
          | inl q ↦ inl (subst P (sym q) at_tw)
          | inr q ↦ inr (inr (inl (q ∙ ap (λ z. (w, z)) (sym put.next'))))
        ]
      ])

  -- the ear was at the next dart
  covered_next : (first : Map) (k a : ℕ) → HasDart lists a s → follows lists s a ≡ t → IsCovered first k lists a s → IsCovered first k new a s
  covered_next first k a has e covered =
      let P : Dart → Type 0 = λ d. IsTriangle new d in
      let before : a ≡ p = entry_after-injective (list_of lists s) a p (simple.no_repeat s cut.1.0) (simple.both_ways a s has).1 cut.1.1 (e ∙ sym cut.2) in
      covered_after first k a s a s covered (inr (inl (ap (λ z. (s, z)) (sym (ap (follows new s) before ∙ put.turn))))) (λ v u has' near. elim near [
        | inl q ↦ inr (inl q)
        | inr rest ↦ elim rest [
          | inl q ↦ inl (subst P (sym (q ∙ ap (λ z. (s, z)) e)) at_st)
          | inr q ↦ inl (subst P (sym (q ∙ ap (λ z. (z, follows lists z s)) e)) at_tw)
        ]
      ])

  -- the ear was at the one after that
  covered_second : (first : Map) (k a m : ℕ) → HasDart lists a m → follows lists m a ≡ s → follows lists s m ≡ t → IsCovered first k lists a m → IsCovered first k new a m
  covered_second first k a m has e e' covered =
      let P : Dart → Type 0 = λ d. IsTriangle new d in
      let has_ma = simple.both_ways a m has in
      let has_sm = simple.both_ways m s (subst (HasDart lists m) e (HasDart-follows lists m a has_ma)) in
      let before : m ≡ p = entry_after-injective (list_of lists s) m p (simple.no_repeat s cut.1.0) has_sm.1 cut.1.1 (e' ∙ sym cut.2) in
      let stays : follows new m a ≡ s =
      put.other m a has_ma (λ q. absurd (simple.no_loop s m has_sm q)) (λ q. absurd (ear.1.1 (subst (HasDart lists s) q has_sm))) ∙ e in
      let turn : follows new s m ≡ w = ap (follows new s) before ∙ put.turn in
      covered_after first k a m a m covered (inr (inr (sym (ap (λ z. (z, follows new z m)) stays ∙ ap (λ z. (s, z)) turn)))) (λ v u has' near. elim near [
        | inl q ↦ inr (inl q)
        | inr rest ↦ elim rest [
          | inl q ↦ inr (inr (inl (q ∙ ap (λ z. (m, z)) (e ∙ sym stays))))
          | inr q ↦ inl (subst P (sym (q ∙ (ap (λ z. (z, follows lists z m)) e ∙ ap (λ z. (s, z)) e'))) at_st)
        ]
      ])

  -- the ear was near the dart and not at it
  pub covered_there : (first : Map) (k a b : ℕ) → HasDart lists a b → IsNear lists a b s t → (s ≡ a → t ≡ b → ⊥) → IsCovered first k lists a b → IsCovered first k new a b
  covered_there first k a b has near other covered =
      elim near [
        | inl q ↦ absurd (other (ap (λ (d : Dart). d.0) q) (ap (λ (d : Dart). d.1) q))
        | inr rest ↦ elim rest [
          | inl q ↦
              let at : s ≡ b = ap (λ (d : Dart). d.0) q in
              let next : t ≡ follows lists b a = ap (λ (d : Dart). d.1) q in
              subst (λ x. IsCovered first k new a x) at
              (covered_next first k a (subst (HasDart lists a) (sym at) has) (ap (λ x. follows lists x a) at ∙ sym next) (subst (λ x. IsCovered first k lists a x) (sym at) covered))
          | inr q ↦
              let at : s ≡ follows lists b a = ap (λ (d : Dart). d.0) q in
              covered_second first k a b has (sym at) (ap (λ x. follows lists x b) at ∙ sym (ap (λ (d : Dart). d.1) q)) covered
        ]
      ]

-- before the first id each dart waits
pub filled_first : (map : Map) → IsHalfMap map → IsFilled map 0 map.lists
filled_first map known v u has = let id = known.has_id v u has in inr (id.0, omega arith, id.1)

-- the dart of the id that comes next is near itself, and all behind it wait
pub covered_first : (map : Map) (k : ℕ) (x : Dart) → dart_at map k ≡ Some x → IsFilled map k map.lists → IsCovered map (k + 1) map.lists x.0 x.1
covered_first map k x at filled v u has = grind (arith, cases_eq, Option, Dart, unwrap_or, dart_at)

-- an id with no dart
pub filled_skip : (map : Map) (k : ℕ) (lists : Lists) → ¬ IsLive map k → IsFilled map k lists → IsFilled map (k + 1) lists
filled_skip map k lists dead filled v u has = grind (arith, cases_eq, Option, Dart, is_some, dart_at)

-- darts that wait under old ids wait under the same
pub filled_grown : (old new : Map) (k : ℕ) (lists : Lists) → IsGrown old new → IsFilled old k lists → IsFilled new k lists
filled_grown old new k lists grown filled v u has =
    elim (filled v u has) [ inl done ↦ inl done | inr waits ↦ inr (waits.0, waits.1, grown.ids waits.0 v u waits.2) ]

-- an id with a dart is among the ids
id_within : (ids : List (Option Dart)) (d : ℕ) (x : Dart) → get_or ids d None ≡ Some x → d < length ids
id_within ids d x e =
    elim (cases_lt d (length ids)) [
      | inl l ↦ l
      | inr l ↦ absurd (false≢true (ap (λ (o : Option Dart). is_some o) (sym (get_or_past ids d None l) ∙ e)))
    ]

-- behind the last id none waits
pub filled_last : (map : Map) (k : ℕ) → IsHalfMap map → id_bound map ≤ k → IsFilled map k map.lists → (v u : ℕ) → HasDart map.lists v u → IsTriangle map.lists (v, u)
filled_last map k known last filled v u has =
    elim (filled v u has) [
      | inl done ↦ done
      | inr waits ↦ absurd (let within = id_within map.ids waits.0 (v, u) waits.2 in let few = known.few_ids in let behind = waits.1 in omega arith)
    ]
