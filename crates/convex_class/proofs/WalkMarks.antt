-- Marks that a walk along a face sets, dart by dart.
use Rattle.std.proofs.Common.{◌≡◌, ◌≢◌, ◌⊎◌, ℕ, ◌+◌, ◌<◌, ◌≤◌, List, length, get_or, Contains, Some, sym, ap, ◌∙◌, subst, inl, inr, arith, length-set}
use Rattle.std.proofs.lemmas.Bool.{cases_eq, cases_lt}
use Rattle.std.proofs.lemmas.List.{get_or_default, get_or-map, length-map}
use Rattle.std.proofs.lemmas.List.Elements.{Contains-get_or}
use Rattle.classes.proofs.Classes.{same_class-from, Together-from}
use Rattle.map_theory.specs.Maps.{Dart, HasDart, list_of, face_classes}
use Rattle.map_theory.specs.Paths.{SameFace}
use Rattle.half_edges.specs.Map.{Map, IsHalfMap, dart_at}
use Rattle.euler_faces.specs.Numbers.{number_at}
use Rattle.euler_faces.specs.FaceWalks.{IsFaceWalk, ids_of}
use Rattle.map_lists.specs.declared.ids.DartId.{DartId}
use Rattle.euler_faces.proofs.NumberLemmas.{live_from}
use Rattle.vertex_rounds.specs.Rounds.{dart_of}
use Rattle.vertex_rounds.proofs.DartIds.{dart_of-live, dart_of-is, has_dart}
use Rattle.vertex_rounds.proofs.RoundLemmas.{LeavesFrom, head_at, place_at, at_place}
use Rattle.euler_faces.proofs.WalkFaces.{in_class, in_walk}
use Rattle.convex_peeling.specs.PolyhedralMapsLaws.{IsPlaneUncut}
use Rattle.convex_peeling.proofs.PolyhedralLemmas.{faces_pass_once}
use Rattle.convex_class.specs.Passing.{IsPassed, IsSeen, IsTwiceSeen, AreMarks, AreMarksOf, IsMarked, IsUnused}
use Rattle.convex_class.proofs.MarkLemmas.{Alike, AreMarks-alike, AreMarks-more, IsUnused-more, IsSeen-more, IsTwiceSeen-more}

pub get_or-ids : (ds : List DartId) (i : ℕ) → i < length ds → get_or (ids_of ds) i 0 ≡ (get_or ds i (record { 0 = 0 })).0
get_or-ids ds i l = get_or-map (λ (d : DartId). d.0) ds i (record { 0 = 0 }) 0 l

pub length-ids : (ds : List DartId) → length (ids_of ds) ≡ length ds
length-ids ds = length-map {B = ℕ} ds (λ (d : DartId). d.0)

-- the dart of an id leads from the greater vertex x to another than u
abbrev pub Passes : Map → ℕ → ℕ → ℕ → Type 0
Passes map u d x = ((dart_of map d).0 ≡ x) × ((dart_of map d).1 ≢ u) × (u < x)

-- one of the first p darts of a walk does
abbrev pub IsMetBy : Map → ℕ → List ℕ → ℕ → ℕ → Type 0
IsMetBy map u walk p x = (q : ℕ) × (q < p) × Passes map u (get_or walk q 0) x

-- what the faces of the first k darts of u pass, and the first p darts of a walk
abbrev SeenOr : Map → ℕ → List ℕ → ℕ → ℕ → ℕ → Type 0
SeenOr map u walk k p x = IsSeen map.lists u k x ⊎ IsMetBy map u walk p x

abbrev TwiceOr : Map → ℕ → List ℕ → ℕ → ℕ → ℕ → Type 0
TwiceOr map u walk k p x = IsTwiceSeen map.lists u k x ⊎ (IsSeen map.lists u k x × IsMetBy map u walk p x)

abbrev pub AreMarksUnderWay : Map → ℕ → List ℕ → ℕ → ℕ → List ℕ → ℕ → Type 0
AreMarksUnderWay map u walk k p marks best = AreMarks (length map.lists) u (SeenOr map u walk k p) (TwiceOr map u walk k p) marks best

-- no dart has been met
pub AreMarksUnderWay-none : (map : Map) (u : ℕ) (walk : List ℕ) (k : ℕ) (marks : List ℕ) (best : ℕ) → AreMarksOf map.lists u k marks best → AreMarksUnderWay map u walk k 0 marks best
AreMarksUnderWay-none map u walk k marks best =
    AreMarks-alike (length map.lists) u (IsSeen map.lists u k) (SeenOr map u walk k 0) (IsTwiceSeen map.lists u k) (TwiceOr map u walk k 0) marks best
    (λ x. ((λ h. inl h), λ h. elim h [ inl s ↦ s | inr m ↦ absurd (let l = m.1 in omega arith) ]))
    (λ x. ((λ h. inl h), λ h. elim h [ inl t ↦ t | inr m ↦ absurd (let l = m.1.1 in omega arith) ]))

module _ (map : Map) (known : IsHalfMap map) (plane : IsPlaneUncut map.lists) (u : ℕ) (walk : List ℕ) (is_walk : IsFaceWalk map walk) where
  -- two ids of the walk are in one face
  one_face : (d e : ℕ) → Contains walk d → Contains walk e → SameFace map.lists (dart_of map d) (dart_of map e)
  one_face d e c c' =
      same_class-from (face_classes map.lists) (number_at map d) (number_at map e) (sym (in_class map known walk is_walk d c) ∙ in_class map known walk is_walk e c')

  -- so no two of its darts have one tail
  tails_apart : (q p : ℕ) → q < p → p < length walk → (dart_of map (get_or walk q 0)).0 ≢ (dart_of map (get_or walk p 0)).0
  tails_apart q p l m e =
      let d = get_or walk q 0 in
      let d' = get_or walk p 0 in
      let live = is_walk.live q (omega arith) in
      let live' = is_walk.live p m in
      let x = dart_of map d in
      let y = dart_of map d' in
      let same = one_face d d' (Contains-get_or walk q 0 (omega arith)) (Contains-get_or walk p 0 m) in
      let has = has_dart map known d live in
      let has' = subst (λ z. HasDart map.lists z y.1) (sym e) (has_dart map known d' live') in
      let heads = faces_pass_once map.lists x.0 x.1 y.1 plane has has' (subst (λ z. SameFace map.lists x (z, y.1)) (sym e) same) in
      let at' : dart_at map d' ≡ Some (x.0, x.1) = dart_of-live map d' live' ∙ (ap (λ z. Some (z, y.1)) (sym e) ∙ ap (λ z. Some (x.0, z)) (sym heads)) in
      omega (arith, is_walk.once q p (omega arith) m (known.one_id d d' x.0 x.1 (dart_of-live map d live) at'))

  IsMetBy-more : (p x : ℕ) → IsMetBy map u walk (p + 1) x → IsMetBy map u walk p x ⊎ Passes map u (get_or walk p 0) x
  IsMetBy-more p x h =
      elim (cases_lt h.0 p) [
        | inl l ↦ inl (h.0, l, h.2)
        | inr l ↦ let m = h.1 in let e : h.0 ≡ p = omega arith in inr (subst (λ q. Passes map u (get_or walk q 0) x) e h.2)
      ]

  IsMetBy-longer : (p x : ℕ) → IsMetBy map u walk p x → IsMetBy map u walk (p + 1) x
  IsMetBy-longer p x h = (h.0, (let l = h.1 in omega arith), h.2)

  module _ (k p : ℕ) (marks : List ℕ) (best : ℕ) (in_walk_p : p < length walk) (w h : ℕ) (is : dart_at map (get_or walk p 0) ≡ Some (w, h)) where
    tail_is : (dart_of map (get_or walk p 0)).0 ≡ w
    tail_is = ap (λ (z : Dart). z.0) (dart_of-is map (get_or walk p 0) (w, h) is)

    head_is : (dart_of map (get_or walk p 0)).1 ≡ h
    head_is = ap (λ (z : Dart). z.1) (dart_of-is map (get_or walk p 0) (w, h) is)

    -- a dart more, whose tail is marked
    pub AreMarksUnderWay-more : (new : List ℕ) (result : ℕ) → length marks ≡ length map.lists → u < w → h ≢ u → IsMarked u w marks best new result → AreMarksUnderWay map u walk k p marks best → AreMarksUnderWay map u walk k (p + 1) new result
    AreMarksUnderWay-more new result size later other marked m =
        let n = length map.lists in
        let S = SeenOr map u walk k p in
        let T = TwiceOr map u walk k p in
        let w_in : w < n = (known.is_dart (get_or walk p 0) w h is).0 in
        let now : (x : ℕ) → x ≡ w → IsMetBy map u walk (p + 1) x = λ x e. (p, omega arith, (tail_is ∙ sym e, (λ q. other (sym head_is ∙ q)), subst (λ z. u < z) (sym e) later)) in
        let only : (x : ℕ) → Passes map u (get_or walk p 0) x → x ≡ w = λ x q. sym q.0 ∙ tail_is in
        AreMarks-alike n u (λ x. S x ⊎ (x ≡ w)) (SeenOr map u walk k (p + 1)) (λ x. T x ⊎ ((x ≡ w) × S w)) (TwiceOr map u walk k (p + 1)) new result
        (λ x. (
          λ s. elim s [ inl old ↦ elim old [ inl seen ↦ inl seen | inr met ↦ inr (IsMetBy-longer p x met) ] | inr e ↦ inr (now x e) ],
          λ s. elim s [
            | inl seen ↦ inl (inl seen)
            | inr met ↦ elim (IsMetBy-more p x met) [ inl old ↦ inl (inr old) | inr q ↦ inr (only x q) ]
          ],
        ))
        (λ x. (
          λ t. elim t [
            | inl old ↦ elim old [ inl twice ↦ inl twice | inr both ↦ inr (both.0, IsMetBy-longer p x both.1) ]
            | inr q ↦ elim q.1 [
              | inl seen ↦ inr (subst (IsSeen map.lists u k) (sym q.0) seen, now x q.0)
              | inr met ↦ absurd (tails_apart met.0 p met.1 in_walk_p (met.2.0 ∙ sym tail_is))
            ]
          ],
          λ t. elim t [
            | inl twice ↦ inl (inl twice)
            | inr both ↦ elim (IsMetBy-more p x both.1) [
              | inl old ↦ inl (inr (both.0, old))
              | inr q ↦ inr (only x q, inl (subst (IsSeen map.lists u k) (only x q) both.0))
            ]
          ],
        ))
        (AreMarks-more u w marks best new result (omega arith) marked n S T w_in m)

    -- or is not, for it is not greater or leads to u
    pub AreMarksUnderWay-other : (w ≤ u) ⊎ (h ≡ u) → AreMarksUnderWay map u walk k p marks best → AreMarksUnderWay map u walk k (p + 1) marks best
    AreMarksUnderWay-other skip =
        let none : (x : ℕ) → Passes map u (get_or walk p 0) x → ⊥ = λ x q.
        elim skip [ inl le ↦ (let e = q.0 in let t = tail_is in let l = q.2 in omega arith) | inr e ↦ q.1 (head_is ∙ e) ] in
        let met : (x : ℕ) → IsMetBy map u walk (p + 1) x → IsMetBy map u walk p x = λ x m. elim (IsMetBy-more p x m) [ inl old ↦ old | inr q ↦ absurd (none x q) ] in
        AreMarks-alike (length map.lists) u (SeenOr map u walk k p) (SeenOr map u walk k (p + 1)) (TwiceOr map u walk k p) (TwiceOr map u walk k (p + 1)) marks best
        (λ x. (
          λ s. elim s [ inl seen ↦ inl seen | inr m ↦ inr (IsMetBy-longer p x m) ],
          λ s. elim s [ inl seen ↦ inl seen | inr m ↦ inr (met x m) ],
        ))
        (λ x. (
          λ t. elim t [ inl twice ↦ inl twice | inr both ↦ inr (both.0, IsMetBy-longer p x both.1) ],
          λ t. elim t [ inl twice ↦ inl twice | inr both ↦ inr (both.0, met x both.1) ],
        ))

    -- what a call that marks the tail, or does not, leaves
    module _ (new : List ℕ) (result : ℕ) (size : length marks ≡ length map.lists) (passed : u < w → h ≢ u → IsMarked u w marks best new result) (other : (w ≤ u) ⊎ (h ≡ u) → (new ≡ marks) × (result ≡ best)) where
      is_passed : ((u < w) × (h ≢ u)) ⊎ ((w ≤ u) ⊎ (h ≡ u))
      is_passed =
          elim (cases_lt u w) [
            | inl l ↦ elim (cases_eq h u) [ inl e ↦ inr (inr e) | inr ne ↦ inl (l, ne) ]
            | inr le ↦ inr (inl le)
          ]

      pub AreMarksUnderWay-step : AreMarksUnderWay map u walk k p marks best → AreMarksUnderWay map u walk k (p + 1) new result
      AreMarksUnderWay-step m =
          elim is_passed [
            | inl at ↦ AreMarksUnderWay-more new result size at.0 at.1 (passed at.0 at.1) m
            | inr skip ↦
                let same = other skip in
                subst (λ l. AreMarksUnderWay map u walk k (p + 1) l result) (sym same.0) (subst (λ b. AreMarksUnderWay map u walk k (p + 1) marks b) (sym same.1) (AreMarksUnderWay-other skip m))
          ]

      pub IsUnused-step : (x : ℕ) → x ≢ u → IsUnused marks x → IsUnused new x
      IsUnused-step x ne old =
          elim is_passed [
            | inl at ↦
                let marked = passed at.0 at.1 in
                let w_in = (known.is_dart (get_or walk p 0) w h is).0 in
                let same = ap (λ (l : List ℕ). length l) marked.set ∙ length-set marks w u in
                IsUnused-more u w marks best new result (omega arith) marked x ne old same
            | inr skip ↦ subst (λ l. IsUnused l x) (sym (other skip).0) old
          ]

  module _ (d : ℕ) (leaves : LeavesFrom map u d) (on : Contains walk d) where
    entry : get_or (list_of map.lists u) (place_at map u d) 0 ≡ head_at map d
    entry = (at_place map known u d leaves).1

    -- the whole walk passes what the face of the dart passes
    passed_whole : Alike (IsMetBy map u walk (length walk)) (IsPassed map.lists u (get_or (list_of map.lists u) (place_at map u d) 0))
    passed_whole x =
        let is_d : dart_of map d ≡ (u, head_at map d) = dart_of-is map d (u, head_at map d) leaves in (
          λ m.
              let e = get_or walk m.0 0 in
              let y = dart_of map e in
              let same = one_face d e on (Contains-get_or walk m.0 0 m.1) in
              record {
                later = m.2.2;
                next = y.1;
                dart = subst (λ z. HasDart map.lists z y.1) m.2.0 (has_dart map known e (is_walk.live m.0 m.1));
                other = m.2.1;
                face =
                    subst (λ z. SameFace map.lists (u, z) (x, y.1)) (sym entry)
                    (subst (λ z. SameFace map.lists z (x, y.1)) is_d (subst (λ z. SameFace map.lists (dart_of map d) (z, y.1)) m.2.0 same));
              },
          λ p.
              let id = known.has_id x p.next p.dart in
              let is_e = dart_of-is map id.0 (x, p.next) id.1 in
              let face : SameFace map.lists (dart_of map d) (dart_of map id.0) =
              subst (λ z. SameFace map.lists z (dart_of map id.0)) (sym is_d) (subst (λ z. SameFace map.lists (u, head_at map d) z) (sym is_e) (subst (λ z. SameFace map.lists (u, z) (x, p.next)) entry p.face)) in
              let c = in_walk map known walk is_walk id.0 (live_from (dart_at map id.0) (x, p.next) id.1) (in_class map known walk is_walk d on ∙ Together-from (face_classes map.lists) (number_at map d) (number_at map id.0) face) in
              let y : dart_of map (get_or walk c.0 0) ≡ (x, p.next) = ap (dart_of map) (get_or_default walk c.0 0 id.0 c.1 ∙ c.2) ∙ is_e in
              (c.0, c.1, (ap (λ (z : Dart). z.0) y, (λ q. p.other (sym (ap (λ (z : Dart). z.1) y) ∙ q)), p.later)),
        )

    -- so after it the marks are those of one dart of u more
    pub AreMarksUnderWay-whole : (marks : List ℕ) (best : ℕ) → AreMarksUnderWay map u walk (place_at map u d) (length walk) marks best → AreMarksOf map.lists u (place_at map u d + 1) marks best
    AreMarksUnderWay-whole marks best =
        let lists = map.lists in
        let k = place_at map u d in
        let seen = IsSeen-more lists u k in
        let twice = IsTwiceSeen-more lists u k in
        AreMarks-alike (length lists) u (SeenOr map u walk k (length walk)) (IsSeen lists u (k + 1)) (TwiceOr map u walk k (length walk)) (IsTwiceSeen lists u (k + 1)) marks best
        (λ x. (
          λ s. (seen x).0 (elim s [ inl old ↦ inl old | inr m ↦ inr ((passed_whole x).0 m) ]),
          λ s. elim ((seen x).1 s) [ inl old ↦ inl old | inr p ↦ inr ((passed_whole x).1 p) ],
        ))
        (λ x. (
          λ t. (twice x).0 (elim t [ inl old ↦ inl old | inr both ↦ inr (both.0, (passed_whole x).0 both.1) ]),
          λ t. elim ((twice x).1 t) [ inl old ↦ inl old | inr both ↦ inr (both.0, (passed_whole x).1 both.1) ],
        ))
