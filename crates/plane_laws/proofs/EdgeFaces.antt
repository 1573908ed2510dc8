-- An edge taken away: without one in one face there is a face more, and without one in two faces these are made one. So in genus zero it is seen at the faces whether that parts a component.
use Rattle.std.proofs.Common.{◌≡◌, ◌≢◌, ℕ, ◌+◌, ◌<◌, true, false, List, length, sym, ap, ◌∙◌, subst, inl, inr, arith}
use Rattle.std.proofs.lemmas.Bool.{false≢true}
use Rattle.classes.specs.Classes.{label, class_count, merge}
use Rattle.map_lists.specs.Lists.{Lists}
use Rattle.map_theory.specs.Maps.{Dart, HasDart, IsSimpleMap, follows, dart_number, dart_count, edge_count, face_count}
use Rattle.map_theory.specs.Paths.{SameFace}
use Rattle.map_theory.specs.Edges.{without_edge}
use Rattle.plane_laws.specs.Laws.{BridgeTest, FacesMerged, IsMergedFaces}
use Rattle.classes.proofs.Classes.{Together, Together-not, IsLabels, same_class-from, apart-from, merge-joined, merge-keeps, joined-merge}
use Rattle.classes.proofs.Orbits.{orbits_of, length-orbits_of, IsLabels-orbits_of, orbits_of-step, IsPermuting}
use Rattle.classes.proofs.Swap.{exchange, IsPermuting-exchange, exchange_orbits, orbits_of-same}
use Rattle.classes.proofs.Bound.{IsPairing, IsPermuting-pairing, IsPermuting-after, after, after-exchange}
use Rattle.plane_laws.proofs.PlaneCuts.{lone, lone_before, lone_other}
use Rattle.map_theory.proofs.Transfer.{IsTransfer}
use Rattle.plane_laws.proofs.Generated.{IsRenumbering, neither_first, IsGenerated-orbits, GoesOver-after, IsTransfer-renumbered, neither}
use Rattle.plane_laws.proofs.LoneEdge.{IsPermuting-lone_edge, GoesOver-out, off_alike, off_joined, second_alike}
use Rattle.map_theory.proofs.WithoutEdge.{back, u_not_v, length-without_edge, dart_new, IsSimpleMap-without_edge, edge_count-without}
use Rattle.plane_laws.proofs.EdgeRemoved.{before_first, before_second, rest_counts, apart_twin, apart_twin', edge_removed_plane, in_out, twin_out, renumbering, twin_over, rotation_over, apart, apart'}
use Rattle.map_theory.proofs.DartLemmas.{dart_number-lt, get_or-dart_number, HasDart-follows}
use Rattle.map_theory.proofs.DartPermutations.{dart_of, rotation, twin, IsPermuting-rotation, IsPairing-twin, two_m, vertex_count-orbits, face_count-orbits}
use Rattle.plane_laws.proofs.DartPaths.{rotation-number, numbers_apart, face_together, same_face}

module _ (lists : Lists) (simple : IsSimpleMap lists) (u v : ℕ) (edge : HasDart lists u v) where
  abbrev rest : Lists
  rest = without_edge lists u v

  abbrev d : ℕ
  d = dart_number lists (u, v)

  abbrev f : ℕ → ℕ
  f = rotation lists

  abbrev g : ℕ → ℕ
  g = twin lists

  abbrev k : ℕ
  k = dart_count lists

  abbrev simple' : IsSimpleMap rest
  simple' = IsSimpleMap-without_edge lists simple u v edge

  n' : length rest ≡ length lists
  n' = length-without_edge lists simple u v edge

  other_way : HasDart lists v u
  other_way = back lists simple u v edge

  u_v : u ≢ v
  u_v = u_not_v lists simple u v edge

  w : IsPermuting f k
  w = IsPermuting-rotation lists simple

  pair : IsPairing g k
  pair = IsPairing-twin lists simple

  ld : d < k
  ld = in_out lists simple u v edge

  twin_d : g d ≡ dart_number lists (v, u)
  twin_d = twin_out lists simple u v edge

  le : g d < k
  le = pair.within d ld

  d_e : d ≢ g d
  d_e e = pair.other d ld (sym e)

  -- the darts before the edge's two, the second once the first has been taken off
  abbrev p : ℕ
  p = (before_first lists simple u v edge).0

  lp : p < k
  lp = (before_first lists simple u v edge).1

  fp : f p ≡ d
  fp = (before_first lists simple u v edge).2

  abbrev q : ℕ
  q = (before_second lists simple u v edge).0

  lq : q < k
  lq = (before_second lists simple u v edge).1

  fq : exchange f p d q ≡ g d
  fq = (before_second lists simple u v edge).2

  -- ---- faces
  abbrev P : List ℕ
  P = orbits_of (after f g) k

  gw : IsPermuting g k
  gw = IsPermuting-pairing g k pair

  face_step : (i : ℕ) → i < k → Together P i (f (g i))
  face_step = orbits_of-step (after f g) k (IsPermuting-after f g k w gw).within

  to_orbit : (b c : Dart) → SameFace lists b c → Together P (dart_number lists b) (dart_number lists c)
  to_orbit = face_together lists simple

  from_orbit : (b c : Dart) → Together P (dart_number lists b) (dart_number lists c) → SameFace lists b c
  from_orbit = same_face lists simple

  -- the partner of p leads on to d
  before_d : Together P (g p) d
  before_d = face_step (g p) (pair.within p lp) ∙ ap (label P) (ap f (pair.back p lp) ∙ fp)

  to_both : SameFace lists (u, v) (v, u) → Together P d (g d)
  to_both face = to_orbit (u, v) (v, u) face ∙ ap (label P) (sym twin_d)

  from_both : Together P d (g d) → SameFace lists (u, v) (v, u)
  from_both t = from_orbit (u, v) (v, u) (t ∙ ap (label P) twin_d)

  -- ---- counts
  counted : (n : ℕ) → class_count (orbits_of (after (exchange f p d) g) k) + class_count (orbits_of f k) + n ≡ class_count P + class_count (orbits_of (exchange f p d) k) → face_count rest + n ≡ face_count lists + 1
  counted n step =
      let counts = rest_counts lists simple u v edge p q lp lq fp fq in
      let next = second_alike f g k (edge_count lists) d p q (two_m lists simple) w pair ld lp lq fp fq (apart_twin lists simple u v edge) (apart_twin' lists simple u v edge) in
      omega (arith, n', step, next, counts.orbits, counts.faces, vertex_count-orbits lists simple, face_count-orbits lists simple, vertex_count-orbits rest simple', face_count-orbits rest simple')

  -- without an edge in one face there is a face more
  pub one_face_counts : SameFace lists (u, v) (v, u) → face_count rest ≡ face_count lists + 1
  one_face_counts face =
      omega (arith, counted 0 (omega (arith, off_alike f g k p d w pair lp ld fp (before_d ∙ to_both face))))

  -- and without one in two faces there is one less
  pub two_faces_count : ¬ SameFace lists (u, v) (v, u) → face_count lists ≡ face_count rest + 1
  two_faces_count faces =
      omega (arith, counted 2 (off_joined f g k p d w pair lp ld fp (λ t. faces (from_both (sym before_d ∙ t)))))

  -- Let the edge be alone at neither end.
  module _ (big : f d ≢ d) (big' : f (g d) ≢ g d) where
    abbrev f1' : ℕ → ℕ
    f1' = exchange f p d

    abbrev f2 : ℕ → ℕ
    f2 = exchange f1' q (g d)

    w1' : IsPermuting f1' k
    w1' = IsPermuting-exchange f k p d lp ld w

    far : f d ≢ g d
    far e = apart lists simple u v edge (e ∙ twin_d)

    far' : f (g d) ≢ d
    far' e = apart' lists simple u v edge (sym (ap f twin_d) ∙ e)

    w2 : IsPermuting f2 k
    w2 = IsPermuting-lone_edge f g k (edge_count lists) d p q (two_m lists simple) w pair ld lp lq fp fq far far'

    p_not_d : p ≢ d
    p_not_d e = big (ap f (sym e) ∙ fp)

    p_not_e : p ≢ g d
    p_not_e e = far' (ap f (sym e) ∙ fp)

    one_e : f1' (g d) ≡ f (g d)
    one_e = lone_other f p d (g d) (λ e. p_not_e (sym e)) (λ e. d_e (sym e))

    q_not_e : q ≢ g d
    q_not_e e = big' (sym one_e ∙ (ap f1' (sym e) ∙ fq))

    abbrev P1 : List ℕ
    P1 = orbits_of (after f1' g) k

    abbrev P2 : List ℕ
    P2 = orbits_of (after f2 g) k

    p2n : length P2 ≡ k
    p2n = length-orbits_of (after f2 g) k

    pn : length P ≡ k
    pn = length-orbits_of (after f g) k

    w_P : IsLabels P
    w_P = IsLabels-orbits_of (after f g) k (IsPermuting-after f g k w gw).within

    w_P2 : IsLabels P2
    w_P2 = IsLabels-orbits_of (after f2 g) k (IsPermuting-after f2 g k w2 gw).within

    -- where the two lie in two faces, the first cut makes these one
    first_joins : (Together P d (g d) → ⊥) → P1 ≡ merge P (g p) (g d)
    first_joins two =
        let ne : g p ≢ g d = λ e. p_not_d (gw.apart p d lp ld e) in
        let off : Together P (g p) (g d) → ⊥ = λ t. two (sym (before_d) ∙ t) in
        orbits_of-same (after f1' g) (exchange (after f g) (g p) (g d)) k (after-exchange f g k p d pair lp ld)
        ∙ ((exchange_orbits (after f g) k (g p) (g d) (IsPermuting-after f g k w gw) (pair.within p lp) le ne).joined (apart-from P (g p) (g d) off)).joined

    -- where they lie in one, it parts the corners at which the edge stood
    corners_separated : Together P d (g d) → Together P1 (f d) (f (g d)) → ⊥
    corners_separated one t =
        let face1 = after f1' g in
        let step = orbits_of-step face1 k (IsPermuting-after f1' g k w1' gw).within in
        let L = label P1 in
        let ne : g p ≢ g d = λ e. p_not_d (gw.apart p d lp ld e) in
        let same = orbits_of-same face1 (exchange (after f g) (g p) (g d)) k (after-exchange f g k p d pair lp ld) in
        let law = exchange_orbits (after f g) k (g p) (g d) (IsPermuting-after f g k w gw) (pair.within p lp) le ne in
        let separated = (law.cut (same_class-from P (g p) (g d) (before_d ∙ one))).apart in
        let from_p : Together P1 (g p) (f d) = step (g p) (pair.within p lp) ∙ ap L (ap f1' (pair.back p lp) ∙ lone_before f p d) in
        let from_e : Together P1 (g d) (f (g d)) = step (g d) le ∙ (ap L (ap f1' (pair.back d ld) ∙ lone f p d fp) ∙ (step d ld ∙ ap L one_e)) in
        Together-not (orbits_of (exchange (after f g) (g p) (g d)) k) (g p) (g d) separated (rw same at (from_p ∙ (t ∙ sym from_e)))

    -- the second takes the two darts out of it
    second_cuts : P1 ≡ merge P2 (g q) (g (g d))
    second_cuts =
        let face1 = after f1' g in
        let step = orbits_of-step face1 k (IsPermuting-after f1' g k w1' gw).within in
        let L = label P1 in
        let ne : g q ≢ g (g d) = λ e. q_not_e (gw.apart q (g d) lq le e) in
        let one : Together P1 (g q) (g d) = step (g q) (pair.within q lq) ∙ ap L (ap f1' (pair.back q lq) ∙ fq) in
        let two : Together P1 (g d) d = step (g d) le ∙ ap L (ap f1' (pair.back d ld) ∙ lone f p d fp) in
        let on : Together P1 (g q) (g (g d)) = one ∙ (two ∙ ap L (sym (pair.back d ld))) in
        let same = orbits_of-same (after f2 g) (exchange face1 (g q) (g (g d))) k (after-exchange f1' g k q (g d) pair lq le) in
        ((exchange_orbits face1 k (g q) (g (g d)) (IsPermuting-after f1' g k w1' gw) (pair.within q lq) (pair.within (g d) le) ne).cut (same_class-from P1 (g q) (g (g d)) on)).joined
        ∙ ap (λ l. merge l (g q) (g (g d))) (sym same)

    abbrev Q : List ℕ
    Q = orbits_of (after (rotation rest) (twin rest)) (dart_count rest)

    -- the faces of what is left are those after the two cuts, but for the edge's own
    faces_over : IsTransfer Q P2 (λ i. dart_number lists (dart_of rest i)) (λ y. dart_number rest (dart_of lists y)) (neither d (g d))
    faces_over =
        let to : ℕ → ℕ = λ i. dart_number lists (dart_of rest i) in
        let new : ℕ → ℕ = λ y. dart_number rest (dart_of lists y) in
        let rw' = IsPermuting-rotation rest simple' in
        let rp = IsPairing-twin rest simple' in
        let k' = dart_count rest in
        let r = subst (λ e. IsRenumbering to new (neither d e) k k') (sym twin_d) (renumbering lists simple u v edge) in
        let over = GoesOver-out f g k (edge_count lists) d p q (two_m lists simple) w pair ld lp lq fp fq far far' to k' (rotation rest) (twin rest)
        (rotation_over lists simple u v edge p q lp lq fp fq) (twin_over lists simple u v edge) in
        let both = GoesOver-after to (neither d (g d)) k k' f2 (rotation rest) g (twin rest) pair.within rp.within over.0 over.1 in
        IsTransfer-renumbered to new (neither d (g d)) k k' r P2 Q (after f2 g) (after f2 g) (after (rotation rest) (twin rest)) (after (rotation rest) (twin rest))
        (IsGenerated-orbits (after f2 g) k (IsPermuting-after f2 g k w2 gw).within)
        (IsGenerated-orbits (after (rotation rest) (twin rest)) k' (IsPermuting-after (rotation rest) (twin rest) k' rw' (IsPermuting-pairing (twin rest) k' rp)).within)
        both both

    qn : length Q ≡ dart_count rest
    qn = length-orbits_of (after (rotation rest) (twin rest)) (dart_count rest)

    -- a dart that is left, by its numbers
    left_in : (b : Dart) → HasDart rest b.0 b.1 → dart_number rest b < dart_count rest
    left_in b h = dart_number-lt rest b.0 b.1 h

    number_over : (b : Dart) → HasDart rest b.0 b.1 → dart_number lists (dart_of rest (dart_number rest b)) ≡ dart_number lists b
    number_over b h = ap (dart_number lists) (get_or-dart_number rest b.0 b.1 (0, 0) h)

    -- a dart that is left is on no orbit with the two that are not
    left_not_out : (b : Dart) → HasDart rest b.0 b.1 → (y : ℕ) → y < k → Together P2 (dart_number lists b) y → neither d (g d) y ≡ true
    left_not_out b h y l t =
        faces_over.hits (dart_number rest b) y (omega (arith, left_in b h, qn)) (omega (arith, p2n)) (ap (label P2) (number_over b h) ∙ t)

    cut_to_rest : (b c : Dart) → HasDart rest b.0 b.1 → HasDart rest c.0 c.1 → Together P1 (dart_number lists b) (dart_number lists c) → SameFace rest b c
    cut_to_rest b c h h' t =
        let n = p2n in
        let m = qn in
        let lb = left_in b h in
        let lc = left_in c h' in
        let gq = pair.within q lq in
        let gg = pair.within (g d) le in
        let i = dart_number lists b in
        let j = dart_number lists c in
        let back_d : neither d (g d) (g (g d)) ≡ false = ap (neither d (g d)) (pair.back d ld) ∙ neither_first d (g d) in
        let t2 : Together P2 i j =
        elim (merge-joined P2 (g q) (g (g d)) w_P2 (omega arith) (omega arith) i j (rw second_cuts at t)) [
          | inl r ↦ r
          | inr r ↦ elim r [
            | inl r' ↦ absurd (false≢true (sym back_d ∙ left_not_out c h' (g (g d)) gg (sym r'.1)))
            | inr r' ↦ absurd (false≢true (sym back_d ∙ left_not_out b h (g (g d)) gg r'.0))
          ]
        ] in
        let over = faces_over.back (dart_number rest b) (dart_number rest c) (omega arith) (omega arith) (ap (label P2) (number_over b h) ∙ (t2 ∙ sym (ap (label P2) (number_over c h')))) in
        same_face rest simple' b c over

    rest_to_cut : (b c : Dart) → HasDart rest b.0 b.1 → HasDart rest c.0 c.1 → SameFace rest b c → Together P1 (dart_number lists b) (dart_number lists c)
    rest_to_cut b c h h' face =
        let n = p2n in
        let m = qn in
        let lb = left_in b h in
        let lc = left_in c h' in
        let gq = pair.within q lq in
        let gg = pair.within (g d) le in
        let over = faces_over.there (dart_number rest b) (dart_number rest c) (omega arith) (omega arith) (face_together rest simple' b c face) in
        let t2 : Together P2 (dart_number lists b) (dart_number lists c) = ap (label P2) (sym (number_over b h)) ∙ (over ∙ ap (label P2) (number_over c h')) in
        rw second_cuts (merge-keeps P2 (g q) (g (g d)) w_P2 (omega arith) (omega arith) (dart_number lists b) (dart_number lists c) t2)

    merged_faces : ¬ SameFace lists (u, v) (v, u) → IsMergedFaces lists rest (u, v) (v, u)
    merged_faces not_one =
        let n = pn in
        let two : Together P d (g d) → ⊥ = λ t. not_one (from_both t) in
        let gp = pair.within p lp in
        let in_e = le in
        let keeps = merge-keeps P (g p) (g d) w_P (omega arith) (omega arith) in
        let joins = joined-merge P (g p) (g d) w_P (omega arith) (omega arith) in
        let parts = merge-joined P (g p) (g d) w_P (omega arith) (omega arith) in
        let L = label P in
        let d_gp = before_d in
        record {
          apart = not_one;
          kept = λ b c h h' t. cut_to_rest b c h h' (rw (first_joins two) (keeps (dart_number lists b) (dart_number lists c) (to_orbit b c t)));
          made_one = λ b c h h' t t'.
              cut_to_rest b c h h' (rw (first_joins two) (joins (dart_number lists b) (dart_number lists c) (inr (inl (to_orbit b (u, v) t ∙ sym d_gp, ap L twin_d ∙ to_orbit (v, u) c t')))));
          no_more = λ b c h h' t.
              elim (parts (dart_number lists b) (dart_number lists c) (rw (first_joins two) at (rest_to_cut b c h h' t))) [
                | inl r ↦ inl (from_orbit b c r)
                | inr r ↦ elim r [
                  | inl r' ↦ inr (inl (from_orbit b (u, v) (r'.0 ∙ d_gp), from_orbit (v, u) c (ap L (sym twin_d) ∙ r'.1)))
                  | inr r' ↦ inr (inr (from_orbit b (v, u) (r'.0 ∙ ap L twin_d), from_orbit (u, v) c (sym d_gp ∙ r'.1)))
                ]
              ];
        }

  -- An edge in one face, alone at neither end, separates the two corners at which it stands.
  pub corners_apart : follows lists u v ≢ v → follows lists v u ≢ u → SameFace lists (u, v) (v, u) → ¬ SameFace rest (u, follows lists u v) (v, follows lists v u)
  corners_apart more more' face one =
      let has = HasDart-follows lists u v edge in
      let has' = HasDart-follows lists v u other_way in
      let at_u = rotation-number lists u v edge in
      let at_v = ap f twin_d ∙ rotation-number lists v u other_way in
      let big : f d ≢ d = λ e. more (numbers_apart lists u (follows lists u v) v has edge (sym at_u ∙ e)) in
      let big' : f (g d) ≢ g d = λ e. more' (numbers_apart lists v (follows lists v u) u has' other_way (sym at_v ∙ (e ∙ twin_d))) in
      let left = dart_new lists simple u v edge u (follows lists u v) has (λ _. more) (λ e. absurd (u_v e)) in
      let left' = dart_new lists simple u v edge v (follows lists v u) has' (λ e. absurd (u_v (sym e))) (λ _. more') in
      let together = rest_to_cut big big' (u, follows lists u v) (v, follows lists v u) left left' one in
      let L = label (orbits_of (after (exchange f p d) g) k) in
      corners_separated big big' (to_both face) (ap L at_u ∙ (together ∙ sym (ap L at_v)))

  faces_merged_here : ¬ SameFace lists (u, v) (v, u) → IsMergedFaces lists rest (u, v) (v, u)
  faces_merged_here not_one =
      let two : Together P d (g d) → ⊥ = λ t. not_one (from_both t) in
      let big : f d ≢ d = λ e. two (sym (face_step (g d) le ∙ ap (label P) (ap f (pair.back d ld) ∙ e))) in
      let big' : f (g d) ≢ g d = λ e. two (face_step d ld ∙ ap (label P) e) in
      merged_faces big big' not_one

-- THE LAW: a bridge is seen at its faces
pub bridge_test : BridgeTest
bridge_test lists u v simple plane edge =
    let less = edge_count-without lists simple u v edge in
    let same = length-without_edge lists simple u v edge in
    let plane' = edge_removed_plane lists simple u v edge plane in
    (λ face. omega (arith, plane, plane', one_face_counts lists simple u v edge face), λ faces. omega (arith, plane, plane', two_faces_count lists simple u v edge faces))

-- THE LAW: the two faces of an edge that is no bridge become one without it
pub faces_merged : FacesMerged
faces_merged lists u v simple plane edge one one' =
    faces_merged_here lists simple u v edge (λ face. let more = (bridge_test lists u v simple plane edge).0 face in omega arith)
