-- Two faces that pass two vertices which are no edge between them: the two vertices part others.
use Rattle.std.proofs.Common.{◌≡◌, ◌≢◌, ◌⊎◌, ℕ, List, [], ◌∷◌, Contains, refl, sym, ap, ◌∙◌, subst, inl, inr, arith}
use Rattle.std.proofs.lemmas.Bool.{cases_eq}
use Rattle.classes.specs.Classes.{label}
use Rattle.map_lists.specs.Lists.{Lists}
use Rattle.map_theory.specs.Maps.{HasDart, IsSimpleMap, IsPlane, list_of, follows, entry_after, dart_number, dart_count, edge_count}
use Rattle.map_theory.specs.Paths.{SameFace, JoinsAvoiding, arc}
use Rattle.map_theory.proofs.EntryLemmas.{Contains-here, Contains-there}
use Rattle.map_theory.proofs.DartLemmas.{HasDart-follows}
use Rattle.classes.proofs.Classes.{Together}
use Rattle.classes.proofs.Orbits.{orbits_of}
use Rattle.classes.proofs.Swap.{exchange, swapped_other, IsPermuting-exchange}
use Rattle.classes.proofs.Bound.{joint, after}
use Rattle.map_theory.proofs.DartPermutations.{tail_of, rotation, twin, IsPermuting-rotation, IsPairing-twin, same_orbit, same_vertex, balances_map, two_m}
use Rattle.plane_laws.proofs.PlaneCuts.{two_cuts_apart, swapped_commute, joint-same}
use Rattle.map_theory.proofs.ArcLemmas.{arc-first, arc-longer}
use Rattle.plane_laws.proofs.DartPaths.{before_dart, face_together, same_face, corner_of, numbers_apart, HoldsCut, HoldsCut-joint, arcs_joined}
use Rattle.graph_search.specs.Cuts.{AreSeparated, IsCutVertex}
use Rattle.graph_search.proofs.PairLemmas.{AreBoth-pair, off_both}
use Rattle.convex_peeling.proofs.Meetings.{AreOnTwoFaces, AreMetTwice}
use Rattle.plane_peeling.proofs.Rings.{entries_closed}
use Rattle.convex_peeling.proofs.Corners.{SameFace-turned, SameFace-chained, SameFace-step, neighbours_joined, passed_once}

-- The faces of (u, a) and of (u, c) are two, and pass v with its darts to b and to e.
module _ (lists : Lists) (simple : IsSimpleMap lists) (plane : IsPlane lists) (u v a b c e : ℕ) (u_v : u ≢ v) (has_a : HasDart lists u a) (has_b : HasDart lists v b) (has_c : HasDart lists u c) (has_e : HasDart lists v e) (one : SameFace lists (u, a) (v, b)) (two : SameFace lists (u, c) (v, e)) (differ : ¬ SameFace lists (u, a) (u, c)) where
  abbrev f : ℕ → ℕ
  f = rotation lists

  abbrev g : ℕ → ℕ
  g = twin lists

  abbrev k : ℕ
  k = dart_count lists

  abbrev F : List ℕ
  F = orbits_of (after f g) k

  pub entries_apart : a ≢ c
  entries_apart q = differ (same_face lists simple (u, a) (u, c) (ap (λ z. label F (dart_number lists (u, z))) q))

  -- the corners at which both vertices are cut
  cut : ℕ → ℕ → Type 0
  cut p z = ((p ≡ u) × ((z ≡ a) ⊎ (z ≡ c))) ⊎ ((p ≡ v) × ((z ≡ b) ⊎ (z ≡ e)))

  cut_u : (z : ℕ) → cut u z → (z ≡ a) ⊎ (z ≡ c)
  unfolding cut
  cut_u z h = elim h [ inl h' ↦ h'.1 | inr h' ↦ absurd (u_v h'.0) ]

  -- no path off both leads from the one part of u's list to the other
  parts_apart : (s t : ℕ) → Contains (arc (list_of lists u) a c) s → Contains (arc (list_of lists u) c a) t → (path : List ℕ) → ¬ JoinsAvoiding lists (u ∷ v ∷ []) s t path
  unfolding cut
  parts_apart s t in_s in_t path j =
      let w = IsPermuting-rotation lists simple in
      let pair = IsPairing-twin lists simple in
      let n = dart_number lists in
      let x = corner_of lists simple u a has_a in
      let y = corner_of lists simple u c has_c in
      let z = corner_of lists simple v b has_b in
      let o = corner_of lists simple v e has_e in
      let lx = x.1.within in
      let ly = y.1.within in
      let lz = z.1.within in
      let lo = o.1.within in
      let face_one = face_together lists simple (u, a) (v, b) one in
      let face_two = face_together lists simple (u, c) (v, e) two in
      let b_e : b ≢ e = λ q. differ (same_face lists simple (u, a) (u, c) (face_one ∙ (ap (λ r. label F (n (v, r))) q ∙ sym face_two))) in
      let x_y : x.0 ≢ y.0 = λ q. entries_apart (numbers_apart lists u a c has_a has_c (sym x.1.leads ∙ (ap f q ∙ y.1.leads))) in
      let z_o : z.0 ≢ o.0 = λ q. b_e (numbers_apart lists v b e has_b has_e (sym z.1.leads ∙ (ap f q ∙ o.1.leads))) in
      let apart : (i j : ℕ) → tail_of lists i ≡ u → tail_of lists j ≡ v → i ≢ j = λ i j q q' r. u_v (sym q ∙ (ap (tail_of lists) r ∙ q')) in
      let at_u = same_orbit lists simple x.0 y.0 lx ly (x.1.tail ∙ sym y.1.tail) in
      let at_v = same_orbit lists simple z.0 o.0 lz lo (z.1.tail ∙ sym o.1.tail) in
      let far : Together (orbits_of f k) x.0 z.0 → ⊥ = λ q. u_v (sym x.1.tail ∙ (same_vertex lists simple x.0 z.0 lx lz q ∙ z.1.tail)) in
      let balance = balances_map lists simple 0 (omega (arith, plane)) in
      let first : Together F (g x.0) (g z.0) = x.1.face ∙ (face_one ∙ sym z.1.face) in
      let second : Together F (g y.0) (g o.0) = y.1.face ∙ (face_two ∙ sym o.1.face) in
      let faces : Together F (g x.0) (g y.0) → ⊥ = λ q. differ (same_face lists simple (u, a) (u, c) (sym x.1.face ∙ (q ∙ y.1.face))) in
      let h : ℕ → ℕ = exchange (exchange f x.0 y.0) z.0 o.0 in
      let K = joint h g k in
      let L = label K in
      let hw = IsPermuting-exchange (exchange f x.0 y.0) k z.0 o.0 lz lo (IsPermuting-exchange f k x.0 y.0 lx ly w) in
      let turn : joint (exchange (exchange f z.0 o.0) x.0 y.0) g k ≡ K =
      joint-same (exchange (exchange f z.0 o.0) x.0 y.0) h g k (λ i l. ap f (swapped_commute z.0 o.0 x.0 y.0 (λ q. apart x.0 z.0 x.1.tail z.1.tail (sym q)) (λ q. apart y.0 z.0 y.1.tail z.1.tail (sym q)) (λ q. apart x.0 o.0 x.1.tail o.1.tail (sym q)) (λ q. apart y.0 o.0 y.1.tail o.1.tail (sym q)) i)) in
      let u_apart : Together K (n (u, a)) (n (u, c)) → ⊥ = λ q.
      two_cuts_apart f g k (edge_count lists) z.0 o.0 x.0 y.0 (two_m lists simple) w pair lz lo lx ly z_o x_y at_v at_u (λ r. far (sym r)) balance (sym first) (sym second) (λ r. faces (first ∙ (r ∙ sym second)))
      (ap (λ l. label l (f x.0)) turn ∙ (ap L x.1.leads ∙ (q ∙ (sym (ap L y.1.leads) ∙ sym (ap (λ l. label l (f y.0)) turn))))) in
      let avoided = u ∷ v ∷ [] in
      let holds : HoldsCut lists K avoided cut = HoldsCut-joint lists simple h avoided cut hw
      (λ p q has uncut.
      let i = n (p, q) in
      let nx : i ≢ x.0 = λ r. let at = before_dart lists x.0 u a p q has_a x.1.leads has r in uncut (inl (at.0, inl at.1)) in
      let ny : i ≢ y.0 = λ r. let at = before_dart lists y.0 u c p q has_c y.1.leads has r in uncut (inl (at.0, inr at.1)) in
      let nz : i ≢ z.0 = λ r. let at = before_dart lists z.0 v b p q has_b z.1.leads has r in uncut (inr (at.0, inl at.1)) in
      let no : i ≢ o.0 = λ r. let at = before_dart lists o.0 v e p q has_e o.1.leads has r in uncut (inr (at.0, inr at.1)) in
      ap (exchange f x.0 y.0) (swapped_other z.0 o.0 i nz no) ∙ ap f (swapped_other x.0 y.0 i nx ny))
      (λ p q r. elim r [ inl m ↦ subst (Contains avoided) (sym m.0) (Contains-here u (v ∷ [])) | inr m ↦ subst (Contains avoided) (sym m.0) (Contains-there u (v ∷ []) v (Contains-here v [])) ]) in
      let ends_u = λ (r : ℕ) (q : cut u r). turned_ends r a c (cut_u r q) in
      u_apart (arcs_joined lists simple K avoided cut holds u a c u c a has_a has_c cut_u ends_u s t in_s in_t path j)
    where
      turned_ends : (z p q : ℕ) → (z ≡ p) ⊎ (z ≡ q) → (z ≡ q) ⊎ (z ≡ p)
      turned_ends z p q h = elim h [ inl r ↦ inr r | inr r ↦ inl r ]

  -- two entries of the two parts, other than v, are separated
  separated_by_parts : (s t : ℕ) → Contains (arc (list_of lists u) a c) s → Contains (arc (list_of lists u) c a) t → HasDart lists u s → HasDart lists u t → s ≢ v → t ≢ v → AreSeparated lists (u ∷ v ∷ []) s t
  separated_by_parts s t in_s in_t has_s has_t s_v t_v =
      let both = u ∷ v ∷ [] in
      let are = AreBoth-pair u v in
      let joined = neighbours_joined lists simple u s t has_s has_t in
      record {
        s_off = off_both u v both are s (simple.no_loop u s has_s) s_v;
        t_off = off_both u v both are t (simple.no_loop u t has_t) t_v;
        path = joined.0;
        joined = joined.1;
        apart = parts_apart s t in_s in_t;
      }

-- an arc has an entry other than v, but where it is v alone
entry_besides : (lists : Lists) → IsSimpleMap lists → (u v a c : ℕ) → HasDart lists u a → HasDart lists u c → a ≢ c → ¬ ((a ≡ v) × (follows lists u v ≡ c)) → (s : ℕ) × Contains (arc (list_of lists u) a c) s × HasDart lists u s × (s ≢ v)
entry_besides lists simple u v a c has_a has_c a_c more =
    let us = list_of lists u in
    let distinct = simple.no_repeat u has_a.0 in
    elim (cases_eq a v) [
      | inr ne ↦ (a, arc-first us a distinct has_a.1 c a_c has_c.1, has_a, ne)
      | inl e ↦
          let b = follows lists u a in
          let has_b = HasDart-follows lists u a has_a in
          let b_c : b ≢ c = λ q. more (e, ap (follows lists u) (sym e) ∙ q) in
          let b_v : b ≢ v = λ q.
          a_c (sym (entries_closed (λ z. z ≡ a) us a c distinct has_a.1 refl (λ z h. ap (λ y. entry_after y us) h ∙ (q ∙ sym e)) has_c.1)) in
          (b, arc-longer us a c b distinct has_a.1 has_c.1 a_c (arc-first us b distinct has_b.1 c b_c has_c.1), has_b, b_v)
    ]

module _ (lists : Lists) (simple : IsSimpleMap lists) (plane : IsPlane lists) where
  -- So u and v part two vertices.
  pub two_faces_part : (u v a b c e : ℕ) → u ≢ v → AreOnTwoFaces lists u v a b c e → (s : ℕ) × (t : ℕ) × AreSeparated lists (u ∷ v ∷ []) s t
  two_faces_part u v a b c e u_v on =
      let has_a = on.from_u.0 in
      let has_c = on.from_u.1 in
      let has_b = on.from_v.0 in
      let has_e = on.from_v.1 in
      let a_c = entries_apart lists simple plane u v a b c e u_v has_a has_b has_c has_e on.one on.other on.apart in
      -- (v, u) goes on to what follows v round u
      let goes_on : (z w : ℕ) → HasDart lists u z → z ≡ v → follows lists u v ≡ w → HasDart lists u w → SameFace lists (u, w) (v, u) = λ z w has e' q has'.
      (let edge : HasDart lists u v = subst (HasDart lists u) e' has in
      let step = SameFace-step lists simple v u (simple.both_ways u v edge) in
      SameFace-turned lists simple (v, u) (u, w) (subst (λ r. SameFace lists (v, u) (u, r)) q step)) in
      let along : (z : ℕ) → z ≡ v → SameFace lists (u, z) (u, v) = λ z e'. same_face lists simple (u, z) (u, v) (ap (λ r. label (orbits_of (after (rotation lists) (twin lists)) (dart_count lists)) (dart_number lists (u, r))) e') in
      let s = entry_besides lists simple u v a c has_a has_c a_c (λ h. on.no_edge (subst (HasDart lists u) h.0 has_a, inl (along a h.0, goes_on a c has_a h.0 h.1 has_c))) in
      let t = entry_besides lists simple u v c a has_c has_a (λ q. a_c (sym q)) (λ h. on.no_edge (subst (HasDart lists u) h.0 has_c, inr (goes_on c a has_c h.0 h.1 has_a, along c h.0))) in
      (s.0, t.0, separated_by_parts lists simple plane u v a b c e u_v has_a has_b has_c has_e on.one on.other on.apart s.0 t.0 s.1 t.1 s.2 t.2 s.3 t.3)

  module _ (uncut : (v : ℕ) → ¬ IsCutVertex lists v) where
    -- Where no vertex is a cut vertex, faces that are met twice are two, and the edge is not between them.
    pub AreOnTwoFaces-met : (u v a b c e : ℕ) → AreMetTwice lists u v a b c e → AreOnTwoFaces lists u v a b c e
    AreOnTwoFaces-met u v a b c e met =
        let once = passed_once lists simple plane uncut in
        -- neither face passes v along (v, u)
        let clear : (x y : ℕ) → HasDart lists v y → y ≢ u → SameFace lists (u, x) (v, y) → HasDart lists v u → ¬ SameFace lists (u, x) (v, u) = λ x y has ne on back q.
        ne (once v y u has back (SameFace-chained lists simple (v, y) (u, x) (v, u) (SameFace-turned lists simple (u, x) (v, y) on) q)) in
        record {
          from_u = met.from_u;
          from_v = met.from_v;
          one = met.one;
          other = met.other;
          apart = λ same. met.two (once u a c met.from_u.0 met.from_u.1 same);
          no_edge = λ between.
              let back = simple.both_ways u v between.0 in
              grind arith;
        }
