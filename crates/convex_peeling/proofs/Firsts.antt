-- The face of the base as a contour, and the vertex before the base taken off from it.
use Rattle.std.proofs.Common.{◌≡◌, ◌≢◌, ◌⊎◌, ℕ, zero, suc, ◌+◌, ◌-◌, ◌<◌, ◌≤◌, Bool, true, false, eqb, length, refl, sym, ap, ap₂, ◌∙◌, subst, inl, inr, arith, eq-eqb, eqb-true}
use Rattle.std.proofs.lemmas.Bool.{cases_Bool, cases_eq, cases_lt, true≢false}
use Rattle.classes.specs.Classes.{label, count_below, class_count}
use Rattle.classes.proofs.Classes.{Together-label}
use Rattle.classes.proofs.Orbits.{IsLabels-orbits, length-orbits}
use Rattle.map_lists.specs.Lists.{Lists}
use Rattle.map_theory.specs.Maps.{HasDart, IsSimpleMap, follows, dart_number, dart_count, face_images, face_classes}
use Rattle.map_theory.proofs.DartLemmas.{HasDart-follows, IsPermutationOfBelow-face_images, length-face_images}
use Rattle.plane_peeling.specs.Restricted.{kept_but}
use Rattle.plane_peeling.proofs.RestrictedMaps.{kept_but-old, kept_but-new, kept_but-itself, count-kept_but}
use Rattle.convex_peeling.specs.Polyhedral.{IsPolyhedral}
use Rattle.convex_peeling.specs.Contours.{face_of, Passes, IsContour, IsOpen, IsBegun, IsFirst}
use Rattle.convex_peeling.specs.Removals.{Removal, IsTakenOff}
use Rattle.convex_peeling.specs.FacePeelingLaws.{HasThree}
use Rattle.convex_peeling.proofs.Faces.{SameFace-labels, labels-SameFace, first_or_none, face_of-step, stepped, HasDart-stepped, steps_on, along_face}
use Rattle.convex_peeling.proofs.Kept.{rim_at}
use Rattle.convex_peeling.proofs.Sections.{leaves_once, rim_back}
use Rattle.convex_peeling.proofs.ChainsOff.{face_of-lt, edge_passes, between_open}
use Rattle.convex_peeling.proofs.TakenOff.{base_passes, base_living}
use Rattle.convex_peeling.proofs.VertexOff.{vertex_goes}
use Rattle.convex_peeling.proofs.Removed.{gone_from, ends_as_before, begins_as_before, stays_dead}

-- where a dart from a vertex that goes is taken off, so is its twin
goer_dead : (lists : Lists) (alive : ℕ → Bool) (w : ℕ → ℕ) (r : ℕ) (o : Removal) → IsTakenOff lists alive w r o → IsContour lists alive w r → IsContour lists o.alive o.contour o.places → (j v : ℕ) → j ≡ suc o.first → o.vertices ≡ 1 → HasDart lists (w j) v → o.alive (face_of lists (w j) v) ≡ false → o.alive (face_of lists v (w j)) ≡ false
goer_dead lists alive w r o off contour rest j v j_is one_is has dead =
    elim (cases_Bool (o.alive (face_of lists v (w j)))) [
      | inr no_life ↦ no_life
      | inl live ↦
          let at = rest.only (w j) v (record { dart = has; outside = dead; inside = live }) in
          let z : j ≡ suc (o.first + 0) = omega arith in
          absurd (gone_from lists alive w r o off contour 0 at.0 (omega arith) at.1 (at.2 ∙ ap w z))
    ]

-- begun, with the ends of the contour by other names
begun_at : (lists : Lists) (alive : ℕ → Bool) (w : ℕ → ℕ) (r e s d : ℕ) → w r ≡ s → w 0 ≡ d → HasDart lists e s → face_of lists e s ≡ face_of lists s d → alive (face_of lists s e) ≡ false → IsBegun lists alive w r
begun_at lists alive w r e s d last first has on dead =
    (e, subst (HasDart lists e) (sym last) has, ap (face_of lists e) last ∙ (on ∙ ap₂ (face_of lists) (sym last) (sym first)), ap (λ t. alive (face_of lists t e)) last ∙ dead)

module _ (lists : Lists) (s d : ℕ) (simple : IsSimpleMap lists) (polyhedral : IsPolyhedral lists) (base : HasDart lists s d) where
  abbrev H : ℕ
  H = face_of lists s d

  -- a number is the label of a face
  pub own : ℕ → Bool
  own f = eqb (label (face_classes lists) f) f

  own-face : (x y : ℕ) → own (face_of lists x y) ≡ true
  unfolding own
  own-face x y =
      let labels = IsLabels-orbits (face_images lists) (IsPermutationOfBelow-face_images lists simple).within in
      eq-eqb (label (face_classes lists) (face_of lists x y)) (face_of lists x y) (sym (Together-label (face_classes lists) labels (dart_number lists (x, y))))

  -- all faces but that of the base
  pub alive : ℕ → Bool
  alive = kept_but own H

  alive-other : (x y : ℕ) → face_of lists x y ≢ H → alive (face_of lists x y) ≡ true
  unfolding alive
  alive-other x y ne = kept_but-new own H (face_of lists x y) (own-face x y) ne

  alive-dead : (x y : ℕ) → alive (face_of lists x y) ≡ false → face_of lists x y ≡ H
  alive-dead x y f = elim (cases_eq (face_of lists x y) H) [ inl e ↦ e | inr ne ↦ absurd (true≢false (sym (alive-other x y ne) ∙ f)) ]

  alive-taken : alive H ≡ false
  unfolding alive
  alive-taken = kept_but-itself own H

  alive-label : (f : ℕ) → alive f ≡ true → label (face_classes lists) f ≡ f
  unfolding alive own
  alive-label f t = eqb-true (label (face_classes lists) f) f (kept_but-old own H f t).0

  alive-count : count_below alive (dart_count lists) + 1 ≡ class_count (face_classes lists)
  unfolding alive own
  alive-count =
      let n : length (face_classes lists) ≡ dart_count lists = length-orbits (face_images lists) ∙ length-face_images lists in
      sym (ap (count_below own) n ∙ count-kept_but own H (dart_count lists) (face_of-lt lists simple s d base) (own-face s d))

  abbrev next : ℕ
  next = follows lists d s

  has_next : HasDart lists d next
  has_next = HasDart-follows lists d s (simple.both_ways s d base)

  next_face : face_of lists d next ≡ H
  next_face = face_of-step lists simple s d base

  walk : ℕ → ℕ
  walk t = (stepped lists simple (d, next) t).0

  walk_dart : (t : ℕ) → HasDart lists (walk t) (walk (suc t))
  unfolding walk stepped
  walk_dart t = HasDart-stepped lists simple (d, next) has_next t

  walk_turn : (t : ℕ) → walk (suc (suc t)) ≡ follows lists (walk (suc t)) (walk t)
  unfolding walk stepped
  walk_turn t = refl

  walk_first : walk 0 ≡ d
  unfolding walk stepped
  walk_first = refl

  walk_second : walk 1 ≡ next
  unfolding walk stepped
  walk_second = refl

  walk_face : (t : ℕ) → face_of lists (walk t) (walk (suc t)) ≡ H
  walk_face zero = ap₂ (face_of lists) walk_first walk_second ∙ next_face
  walk_face (suc t) = ap (face_of lists (walk (suc t))) (walk_turn t) ∙ (face_of-step lists simple (walk t) (walk (suc t)) (walk_dart t) ∙ walk_face t)

  once : (x y z : ℕ) → HasDart lists x y → HasDart lists x z → face_of lists x y ≡ H → face_of lists x z ≡ H → y ≡ z
  once x y z has has' e e' = leaves_once lists alive simple polyhedral x y z has has' (e ∙ sym e')

  reaches : (n : ℕ) × (walk n ≡ s)
  unfolding walk
  reaches = let led = steps_on lists simple d next s d has_next base next_face in (led.0, ap (λ c. c.0) led.1)

  record IsReturn (r : ℕ) : Type 0 where
    at : walk r ≡ s
    before : (t : ℕ) → t < r → walk t ≢ s

  returns : (r : ℕ) × IsReturn r
  returns =
      elim (first_or_none (λ t. walk t ≡ s) (suc reaches.0) (λ t l. cases_eq (walk t) s)) [
        | inl found ↦ (found.0, record { at = found.2; before = found.3 })
        | inr none ↦ absurd (none reaches.0 (omega arith) reaches.1)
      ]

  module _ (r : ℕ) (back : IsReturn r) where
    round : walk (suc r) ≡ walk 0
    round = once s (walk (suc r)) d (subst (λ v. HasDart lists v (walk (suc r))) back.at (walk_dart r)) base (ap (λ v. face_of lists v (walk (suc r))) (sym back.at) ∙ walk_face r) refl ∙ sym walk_first

    no_repeat : (n i j : ℕ) → j + n ≡ r → i < j → walk i ≡ walk j → ⊥
    no_repeat zero i j e l q = let z : j ≡ r = omega arith in back.before i (omega arith) (q ∙ (ap walk z ∙ back.at))
    no_repeat (suc n) i j e l q =
        let has : HasDart lists (walk j) (walk (suc i)) = subst (λ v. HasDart lists v (walk (suc i))) q (walk_dart i) in
        no_repeat n (suc i) (suc j) (omega arith) (omega arith) (once (walk j) (walk (suc i)) (walk (suc j)) has (walk_dart j) (ap (λ v. face_of lists v (walk (suc i))) (sym q) ∙ walk_face i) (walk_face j))

    distinct : (i j : ℕ) → i ≤ r → j ≤ r → walk i ≡ walk j → i ≡ j
    distinct i j l m e =
        elim (cases_eq i j) [
          | inl q ↦ q
          | inr ne ↦ elim (cases_lt i j) [
            | inl less ↦ absurd (no_repeat (r - j) i j (omega arith) less e)
            | inr more ↦ absurd (no_repeat (r - i) j i (omega arith) (omega arith) (sym e))
          ]
        ]

    abbrev IsHere : ℕ → ℕ → Type 0
    IsHere x y = (i : ℕ) × (i ≤ r) × (walk i ≡ x) × (walk (suc i) ≡ y)

    here_on : (x y : ℕ) → HasDart lists x y → (face_of lists x y ≡ H) × IsHere x y → (face_of lists y (follows lists y x) ≡ H) × IsHere y (follows lists y x)
    here_on x y has held =
        let z = follows lists y x in
        let on : face_of lists y z ≡ H = face_of-step lists simple x y has ∙ held.0 in
        let has_z = HasDart-follows lists y x (simple.both_ways x y has) in
        let l = held.1.1 in (
          on,
          elim (cases_eq held.1.0 r) [
            | inr ne ↦ (suc held.1.0, omega arith, held.1.3, walk_turn held.1.0 ∙ ap₂ (follows lists) held.1.3 held.1.2)
            | inl e ↦
                let y_is : walk 0 ≡ y = sym round ∙ (ap (λ n. walk (suc n)) (sym e) ∙ held.1.3) in
                (0, omega arith, y_is, once y (walk 1) z (subst (λ v. HasDart lists v (walk 1)) y_is (walk_dart 0)) has_z (ap (λ v. face_of lists v (walk 1)) (sym y_is) ∙ walk_face 0) on)
          ],
        )

    first_here : IsFirst lists s d alive walk r
    first_here =
        record {
          contour = record {
            distinct = distinct;
            round = round;
            edge = λ i l. record {
              dart = walk_dart i;
              outside = ap alive (walk_face i) ∙ alive-taken;
              inside = alive-other (walk (suc i)) (walk i) (λ e. polyhedral.apart (walk i) (walk (suc i)) (walk_dart i) (SameFace-labels lists (walk i) (walk (suc i)) (walk (suc i)) (walk i) (walk_face i ∙ sym e)));
            };
            only = λ x y rim. (along_face lists simple (λ p q. (face_of lists p q ≡ H) × IsHere p q) here_on d next x y has_next rim.dart (next_face ∙ sym (alive-dead x y rim.outside)) (next_face, (0, omega arith, walk_first, walk_second))).1;
          };
          first = walk_first;
          last = back.at;
          outer = λ x y has f. alive-dead x y f;
          taken = alive-taken;
          labels = alive-label;
          counts = alive-count;
        }

  pub first : (w : ℕ → ℕ) × (r : ℕ) × IsFirst lists s d alive w r
  first = (walk, returns.0, first_here returns.0 returns.1)

  module _ (three : HasThree lists) (w : ℕ → ℕ) (r : ℕ) (f : IsFirst lists s d alive w r) where
    contour : IsContour lists alive w r
    contour = f.contour

    rim_face : (i : ℕ) → i ≤ r → face_of lists (w i) (w (suc i)) ≡ H
    rim_face i l = f.outer (w i) (w (suc i)) (contour.edge i l).dart (contour.edge i l).outside

    -- nothing else is taken off yet
    none_open : (v : ℕ) → ¬ IsOpen lists alive v
    none_open v o = polyhedral.apart v o.0 o.1 (SameFace-labels lists v o.0 o.0 v (f.outer v o.0 o.1 o.2 ∙ sym (f.outer o.0 v (simple.both_ways v o.0 o.1) o.3)))

    -- a face with two places has an edge between them, or is the one inside of the base
    two_places : (face a b : ℕ) → alive face ≡ true → a < b → b ≤ r → Passes lists face (w a) → Passes lists face (w b) → ((b ≡ suc a) × (face_of lists (w (suc a)) (w a) ≡ face)) ⊎ ((a ≡ 0) × (b ≡ r) × (face_of lists (w a) (w b) ≡ face))
    two_places face a b live l m x y =
        let apart : w a ≢ w b = λ q. (let z : a ≡ b = contour.distinct a b (omega arith) (omega arith) q in absurd (omega arith)) in
        let one = contour.edge a (omega arith) in
        let shared = polyhedral.share (w a) (w b) x.0 y.0 (w (suc a)) (w (suc b)) apart x.1 y.1 one.dart (contour.edge b m).dart
        (SameFace-labels lists (w a) x.0 (w b) y.0 (x.2 ∙ sym y.2)) (SameFace-labels lists (w a) (w (suc a)) (w b) (w (suc b)) (rim_face a (omega arith) ∙ sym (rim_face b m)))
        (λ q. true≢false (sym live ∙ (ap alive (sym x.2 ∙ labels-SameFace lists (w a) x.0 (w a) (w (suc a)) q) ∙ one.outside))) in
        elim shared.1 [
          | inl t ↦
              let on : face_of lists (w a) (w b) ≡ face = sym (labels-SameFace lists (w a) x.0 (w a) (w b) t.0) ∙ x.2 in
              let at = rim_back lists alive simple w r contour a b l m (record {
                dart = simple.both_ways (w a) (w b) shared.0;
                outside = ap alive (sym (labels-SameFace lists (w a) (w (suc a)) (w b) (w a) t.1)) ∙ one.outside;
                inside = ap alive on ∙ live;
              }) in
              inr (at.0, at.1, on)
          | inr t ↦ grind (arith, face_of, labels-SameFace, rim_at, alive, contour, distinct)
        ]

    -- there are three places at least
    three_places : 2 ≤ r
    three_places = grind (arith, cases_lt, cases_eq, first, SameFace-labels, ap₂, face_of, rim_face)

    -- the face inside of the base does not pass the vertex before it
    base_apart : (i : ℕ) → suc (suc i) ≡ r → ¬ Passes lists (face_of lists (w 0) (w r)) (w (suc i))
    base_apart i e p =
        let face = face_of lists (w 0) (w r) in
        let ends = base_passes lists alive w r simple polyhedral three contour in
        let live = base_living lists alive w r simple polyhedral three contour in
        elim (two_places face 0 (suc i) live (omega arith) (omega arith) ends.0 p) [
          | inr far ↦ (let z = far.1 in omega arith)
          | inl near ↦ elim (two_places face (suc i) r live (omega arith) (omega arith) p ends.1) [
            | inr far ↦ (let z = far.0 in omega arith)
            | inl near' ↦
                let i_0 : i ≡ 0 = omega arith in
                let one : face_of lists (w (suc i)) (w i) ≡ face = ap (λ n. face_of lists (w (suc n)) (w n)) i_0 ∙ near.1 in
                none_open (w (suc i)) (between_open lists alive w r simple contour polyhedral three i (omega arith) (one ∙ sym near'.1))
          ]
        ]

    pub first_goes : (o : Removal) × IsTakenOff lists alive w r o × IsContour lists o.alive o.contour o.places × IsBegun lists o.alive o.contour o.places × (o.first + 2 ≡ r) × (o.vertices ≡ 1)
    first_goes =
        let two = three_places in
        let i : ℕ = r - 2 in
        let e : suc (suc i) ≡ r = omega arith in
        let apart = base_apart i e in
        let j = suc i in
        let went = vertex_goes (suc (count_below alive (dart_count lists))) lists alive w r i simple polyhedral contour (record {
          within = omega arith;
          stretches = λ face live p a n b l m k at_a at_b. elim (two_places face a b live (omega arith) k at_a at_b) [
            | inl near ↦ (let z = near.0 in let z' : n ≡ a = omega arith in ap (λ t. face_of lists (w (suc t)) (w t)) z' ∙ near.1)
            | inr far ↦ absurd (apart (subst (λ t. Passes lists t (w j)) (sym far.2 ∙ ap₂ (λ t t'. face_of lists (w t) (w t')) far.0 far.1) p))
          ];
          right = λ l. absurd (omega arith);
          left = λ h q same.
              let face = face_of lists (w (suc h)) (w h) in
              let at_h = (edge_passes lists alive w r simple contour h (omega arith)).0 in
              let at_j : Passes lists face (w j) = subst (λ t. Passes lists t (w j)) (sym same) (edge_passes lists alive w r simple contour i (omega arith)).1 in
              elim (two_places face h j ((contour.edge h (omega arith)).inside) (omega arith) (omega arith) at_h at_j) [
                | inl near ↦ (let z = near.0 in omega arith)
                | inr far ↦ (let z = far.1 in omega arith)
              ];
          base = apart;
        }) (omega arith) in
        let o = went.0 in
        let off = went.1 in
        let rest = went.2 in
        let last_dart : HasDart lists (w j) (w r) = subst (λ n. HasDart lists (w j) (w n)) e (contour.edge j (omega arith)).dart in
        let last_face : face_of lists (w j) (w r) ≡ H = ap (λ n. face_of lists (w j) (w n)) (sym e) ∙ rim_face j (omega arith) in
        let end = ends_as_before lists alive w r o off in
        let start = begins_as_before lists alive w r o off in
        let dead = goer_dead lists alive w r o off contour rest j (w r) (omega arith) (omega arith) last_dart (stays_dead lists alive w r o off (face_of lists (w j) (w r)) (ap alive last_face ∙ alive-taken)) in (
          o,
          off,
          rest,
          begun_at lists o.alive o.contour o.places (w j) (w r) (w 0) end start last_dart (last_face ∙ sym (ap₂ (face_of lists) f.last f.first)) dead,
          omega arith,
          went.4,
        )

-- In a polyhedral map whose vertices have three neighbours or more the face of a base may be taken off, and then the vertex before the base on it with all its faces; so the removals have begun.
pub first_taken_off_law : (lists : Lists) (s d : ℕ) → IsSimpleMap lists → IsPolyhedral lists → HasThree lists → HasDart lists s d → (alive : ℕ → Bool) × (w : ℕ → ℕ) × (r : ℕ) × (o : Removal) × IsFirst lists s d alive w r × IsTakenOff lists alive w r o × IsContour lists o.alive o.contour o.places × IsBegun lists o.alive o.contour o.places × (o.first + 2 ≡ r) × (o.vertices ≡ 1)
first_taken_off_law lists s d simple polyhedral three base =
    let f = first lists s d simple polyhedral base in
    let o = first_goes lists s d simple polyhedral base three f.0 f.1 f.2 in
    (alive lists s d simple polyhedral base, f.0, f.1, o.0, f.2, o.1, o.2, o.3, o.4, o.5)
