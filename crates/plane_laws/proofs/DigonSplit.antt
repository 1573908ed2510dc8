-- Where two adjacent vertices have corners in one face of a map of genus zero, they separate the two sides: where that face is the one on the edge's left, by the law of two corners; where it is not, by cutting both vertices, each at its corners in the two faces.
use Rattle.std.proofs.Common.{◌≡◌, ◌≢◌, ◌⊎◌, ℕ, List, [], ◌∷◌, ◌++◌, Contains, refl, sym, ap, ◌∙◌, subst, inl, inr, arith}
use Rattle.std.proofs.lemmas.Bool.{cases_Bool, false≢true}
use Rattle.std.proofs.lemmas.List.Elements.{Contains-append_cases}
use Rattle.classes.specs.Classes.{label, same_class}
use Rattle.map_lists.specs.Lists.{Lists}
use Rattle.map_theory.specs.Maps.{list_of, HasDart, IsSimpleMap, IsPlane, follows, dart_number, dart_count, edge_count, face_classes}
use Rattle.map_theory.specs.Paths.{JoinsAvoiding, SameFace, arc}
use Rattle.map_theory.proofs.EntryLemmas.{Contains-here, Contains-there, Contains-cons_cases}
use Rattle.map_theory.proofs.DartLemmas.{HasDart-follows}
use Rattle.classes.proofs.Classes.{Together}
use Rattle.classes.proofs.Orbits.{orbits_of}
use Rattle.classes.proofs.Swap.{exchange, swapped_other, IsPermuting-exchange}
use Rattle.classes.proofs.Bound.{joint, after}
use Rattle.map_theory.proofs.DartPermutations.{tail_of, rotation, twin, IsPermuting-rotation, IsPairing-twin, same_orbit, same_vertex, balances_map, two_m}
use Rattle.plane_laws.specs.Laws.{side, DigonSplit}
use Rattle.plane_laws.proofs.PlaneCuts.{two_cuts_apart, swapped_commute, joint-same}
use Rattle.map_theory.proofs.ArcLemmas.{arc-itself, arc-first, arc-last, arc-wider, arc-longer}
use Rattle.plane_laws.proofs.DartPaths.{arc_dart, before_dart, face_step_together, face_together, same_face, corner_of, numbers_apart, HoldsCut, HoldsCut-joint, arc_held, arcs_joined}
use Rattle.plane_laws.proofs.ComponentPaths.{JoinsAvoiding-more, JoinsAvoiding-fewer}
use Rattle.plane_laws.proofs.CornerSplit.{corner_split}

module _ (lists : Lists) (simple : IsSimpleMap lists) (plane : IsPlane lists) (u v a b : ℕ) (edge : HasDart lists u v) (has_a : HasDart lists u a) (has_b : HasDart lists v b) (face : SameFace lists (u, a) (v, b)) where
  abbrev f : ℕ → ℕ
  f = rotation lists

  abbrev g : ℕ → ℕ
  g = twin lists

  abbrev k : ℕ
  k = dart_count lists

  abbrev F : List ℕ
  F = orbits_of (after f g) k

  abbrev c : ℕ
  c = follows lists v u

  back : HasDart lists v u
  back = simple.both_ways u v edge

  has_c : HasDart lists v c
  has_c = HasDart-follows lists v u back

  u_v : u ≢ v
  u_v e = simple.no_loop u v edge (sym e)

  -- the edge's left face goes on to what follows u round v
  left_face : Together F (dart_number lists (u, v)) (dart_number lists (v, c))
  left_face = face_step_together lists simple (u, v) edge

  one_face : Together F (dart_number lists (u, a)) (dart_number lists (v, b))
  one_face = face_together lists simple (u, a) (v, b) face

  -- an entry of a side stands in one of its two arcs, which begins at another entry than where it ends
  near : (s : ℕ) → Contains (side lists u v a b) s → (Contains (arc (list_of lists u) a v) s × (a ≢ v)) ⊎ (Contains (arc (list_of lists v) c b) s × (c ≢ b))
  near s h =
      elim (Contains-append_cases (arc (list_of lists u) a v) (arc (list_of lists v) c b) s h) [
        | inl t ↦ inl (t, λ e. arc-itself (list_of lists u) a (simple.no_repeat u edge.0) has_a.1 s (subst (λ x. Contains (arc (list_of lists u) a x) s) (sym e) t))
        | inr t ↦ inr (t, λ e. arc-itself (list_of lists v) c (simple.no_repeat v back.0) has_c.1 s (subst (λ x. Contains (arc (list_of lists v) c x) s) (sym e) t))
      ]

  -- an entry of the other side, in the arc that goes on to the edge
  far_first : b ≢ c → (t : ℕ) → Contains (arc (list_of lists v) b u) t → Contains (arc (list_of lists v) b c) t
  far_first ne t h = arc-wider (list_of lists v) b (simple.no_repeat v back.0) has_b.1 u c t back.1 refl ne h

  far_second : a ≢ v → (t : ℕ) → Contains (arc (list_of lists u) (follows lists u v) a) t → Contains (arc (list_of lists u) v a) t
  far_second ne t h = arc-longer (list_of lists u) v a t (simple.no_repeat u edge.0) edge.1 has_a.1 (λ e. ne (sym e)) h

  -- the edge stands in both these arcs
  u_far : b ≢ c → Contains (arc (list_of lists v) b c) u
  u_far ne = arc-last (list_of lists v) b (simple.no_repeat v back.0) has_b.1 c u ne has_c.1 back.1 refl

  v_far : a ≢ v → Contains (arc (list_of lists u) v a) v
  v_far ne = arc-first (list_of lists u) v (simple.no_repeat u edge.0) edge.1 a (λ e. ne (sym e)) has_a.1

  avoids_u : (s t : ℕ) (path : List ℕ) → JoinsAvoiding lists (u ∷ v ∷ []) s t path → JoinsAvoiding lists (u ∷ []) s t path
  avoids_u s t path = JoinsAvoiding-fewer lists (u ∷ v ∷ []) (u ∷ []) s t path (λ x h. elim (Contains-cons_cases u [] x h) [ inl e ↦ subst (Contains (u ∷ v ∷ [])) e (Contains-here u (v ∷ [])) | inr n ↦ Contains-there u (v ∷ []) x (absurd (none x n)) ])
    where
      none : (x : ℕ) → ¬ Contains [] x
      none x n = let some = n.1 in absurd (omega arith)

  avoids_v : (s t : ℕ) (path : List ℕ) → JoinsAvoiding lists (u ∷ v ∷ []) s t path → JoinsAvoiding lists (v ∷ []) s t path
  avoids_v s t path = JoinsAvoiding-fewer lists (u ∷ v ∷ []) (v ∷ []) s t path (λ x h. Contains-there u (v ∷ []) x h)

  not_alone : (x y : ℕ) → x ≢ y → ¬ Contains (x ∷ []) y
  not_alone x y ne h = elim (Contains-cons_cases x [] y h) [ inl e ↦ ne e | inr n ↦ (let some = n.1 in absurd (omega arith)) ]

  -- Where that face is the left one of the edge, each vertex has two corners in it.
  left : SameFace lists (u, a) (u, v) → (s t : ℕ) → Contains (side lists u v a b) s → Contains (side lists v u b a) t → (path : List ℕ) → JoinsAvoiding lists (u ∷ v ∷ []) s t path → ⊥
  left same s t in_s in_t path j =
      let sides = Contains-append_cases (arc (list_of lists v) b u) (arc (list_of lists u) (follows lists u v) a) t in_t in
      elim (near s in_s) [
        | inl near_u ↦
            let ne = near_u.1 in
            let law = corner_split lists u a v simple plane has_a edge ne same s in
            elim sides [
              | inl far ↦
                  let has_t = arc_dart lists simple v b u has_b t far in
                  law v near_u.0 (v_far ne) (path ++ v ∷ []) (JoinsAvoiding-more lists (u ∷ []) s t v path (simple.both_ways v t has_t) back.0 (not_alone u v u_v) (avoids_u s t path j))
              | inr far ↦ law t near_u.0 (far_second ne t far) path (avoids_u s t path j)
            ]
        | inr near_v ↦
            let ne : b ≢ c = λ e. near_v.1 (sym e) in
            let same_v = same_face lists simple (v, c) (v, b) (sym left_face ∙ (sym (face_together lists simple (u, a) (u, v) same) ∙ one_face)) in
            let law = corner_split lists v c b simple plane has_c has_b near_v.1 same_v s in
            elim sides [
              | inl far ↦ law t near_v.0 (far_first ne t far) path (avoids_v s t path j)
              | inr far ↦
                  let has_t = arc_dart lists simple u (follows lists u v) a (HasDart-follows lists u v edge) t far in
                  law u near_v.0 (u_far ne) (path ++ u ∷ []) (JoinsAvoiding-more lists (v ∷ []) s t u path (simple.both_ways u t has_t) edge.0 (not_alone v u (λ e. u_v (sym e))) (avoids_v s t path j))
            ]
      ]

  -- Where it is not, both vertices are cut, at the corners in the one face and in the other.
  cut : ℕ → ℕ → Type 0
  cut p z = ((p ≡ u) × ((z ≡ a) ⊎ (z ≡ v))) ⊎ ((p ≡ v) × ((z ≡ b) ⊎ (z ≡ c)))

  cut_u : (z : ℕ) → cut u z → (z ≡ a) ⊎ (z ≡ v)
  unfolding cut
  cut_u z h = elim h [ inl h' ↦ h'.1 | inr h' ↦ absurd (u_v h'.0) ]

  cut_v : (z : ℕ) → cut v z → (z ≡ b) ⊎ (z ≡ c)
  unfolding cut
  cut_v z h = elim h [ inl h' ↦ absurd (u_v (sym h'.0)) | inr h' ↦ h'.1 ]

  turned_ends : (z p q : ℕ) → (z ≡ p) ⊎ (z ≡ q) → (z ≡ q) ⊎ (z ≡ p)
  turned_ends z p q h = elim h [ inl e ↦ inr e | inr e ↦ inl e ]

  other : (SameFace lists (u, a) (u, v) → ⊥) → (s t : ℕ) → Contains (side lists u v a b) s → Contains (side lists v u b a) t → (path : List ℕ) → JoinsAvoiding lists (u ∷ v ∷ []) s t path → ⊥
  unfolding cut
  other differ s t in_s in_t path j =
      let w = IsPermuting-rotation lists simple in
      let pair = IsPairing-twin lists simple in
      let n = dart_number lists in
      let a_v : a ≢ v = λ e. differ (same_face lists simple (u, a) (u, v) (ap (λ z. label F (dart_number lists (u, z))) e)) in
      let b_c : b ≢ c = λ e. differ (same_face lists simple (u, a) (u, v) (one_face ∙ (ap (λ z. label F (dart_number lists (v, z))) e ∙ sym left_face))) in
      let x = corner_of lists simple u a has_a in
      let y = corner_of lists simple u v edge in
      let z = corner_of lists simple v b has_b in
      let o = corner_of lists simple v c has_c in
      let lx = x.1.within in
      let ly = y.1.within in
      let lz = z.1.within in
      let lo = o.1.within in
      let x_y : x.0 ≢ y.0 = λ e. a_v (numbers_apart lists u a v has_a edge (sym x.1.leads ∙ (ap f e ∙ y.1.leads))) in
      let z_o : z.0 ≢ o.0 = λ e. b_c (numbers_apart lists v b c has_b has_c (sym z.1.leads ∙ (ap f e ∙ o.1.leads))) in
      let apart : (i j : ℕ) → tail_of lists i ≡ u → tail_of lists j ≡ v → i ≢ j = λ i j e e' q. u_v (sym e ∙ (ap (tail_of lists) q ∙ e')) in
      let at_u = same_orbit lists simple x.0 y.0 lx ly (x.1.tail ∙ sym y.1.tail) in
      let at_v = same_orbit lists simple z.0 o.0 lz lo (z.1.tail ∙ sym o.1.tail) in
      let far : Together (orbits_of f k) x.0 z.0 → ⊥ = λ q. u_v (sym x.1.tail ∙ (same_vertex lists simple x.0 z.0 lx lz q ∙ z.1.tail)) in
      let balance = balances_map lists simple 0 (omega (arith, plane)) in
      let first : Together F (g x.0) (g z.0) = x.1.face ∙ (one_face ∙ sym z.1.face) in
      let second : Together F (g y.0) (g o.0) = y.1.face ∙ (left_face ∙ sym o.1.face) in
      let faces : Together F (g x.0) (g y.0) → ⊥ = λ q. differ (same_face lists simple (u, a) (u, v) (sym x.1.face ∙ (q ∙ y.1.face))) in
      let h : ℕ → ℕ = exchange (exchange f x.0 y.0) z.0 o.0 in
      let K = joint h g k in
      let L = label K in
      let hw = IsPermuting-exchange (exchange f x.0 y.0) k z.0 o.0 lz lo (IsPermuting-exchange f k x.0 y.0 lx ly w) in
      -- neither vertex's corners are in one class
      let v_apart : Together K (n (v, c)) (n (v, b)) → ⊥ = λ q.
      two_cuts_apart f g k (edge_count lists) x.0 y.0 z.0 o.0 (two_m lists simple) w pair lx ly lz lo x_y z_o at_u at_v far balance first second faces (ap L z.1.leads ∙ (sym q ∙ sym (ap L o.1.leads))) in
      let turn : joint (exchange (exchange f z.0 o.0) x.0 y.0) g k ≡ K =
      joint-same (exchange (exchange f z.0 o.0) x.0 y.0) h g k (λ i l. ap f (swapped_commute z.0 o.0 x.0 y.0 (λ e. apart x.0 z.0 x.1.tail z.1.tail (sym e)) (λ e. apart y.0 z.0 y.1.tail z.1.tail (sym e)) (λ e. apart x.0 o.0 x.1.tail o.1.tail (sym e)) (λ e. apart y.0 o.0 y.1.tail o.1.tail (sym e)) i)) in
      let u_apart : Together K (n (u, a)) (n (u, v)) → ⊥ = λ q.
      two_cuts_apart f g k (edge_count lists) z.0 o.0 x.0 y.0 (two_m lists simple) w pair lz lo lx ly z_o x_y at_v at_u (λ e. far (sym e)) balance (sym first) (sym second) (λ e. faces (first ∙ (e ∙ sym second)))
      (ap (λ l. label l (f x.0)) turn ∙ (ap L x.1.leads ∙ (q ∙ (sym (ap L y.1.leads) ∙ sym (ap (λ l. label l (f y.0)) turn))))) in
      let avoided = u ∷ v ∷ [] in
      let holds : HoldsCut lists K avoided cut = HoldsCut-joint lists simple h avoided cut hw
      (λ p q has uncut.
      let i = n (p, q) in
      let nx : i ≢ x.0 = λ e. let at = before_dart lists x.0 u a p q has_a x.1.leads has e in uncut (inl (at.0, inl at.1)) in
      let ny : i ≢ y.0 = λ e. let at = before_dart lists y.0 u v p q edge y.1.leads has e in uncut (inl (at.0, inr at.1)) in
      let nz : i ≢ z.0 = λ e. let at = before_dart lists z.0 v b p q has_b z.1.leads has e in uncut (inr (at.0, inl at.1)) in
      let no : i ≢ o.0 = λ e. let at = before_dart lists o.0 v c p q has_c o.1.leads has e in uncut (inr (at.0, inr at.1)) in
      ap (exchange f x.0 y.0) (swapped_other z.0 o.0 i nz no) ∙ ap f (swapped_other x.0 y.0 i nx ny))
      (λ p q s. elim s [ inl e ↦ subst (Contains avoided) (sym e.0) (Contains-here u (v ∷ [])) | inr e ↦ subst (Contains avoided) (sym e.0) (Contains-there u (v ∷ []) v (Contains-here v [])) ]) in
      -- the edge joins the two far arcs
      let over : Together K (n (v, b)) (n (u, v)) =
      arc_held lists simple K avoided cut holds v b c has_b cut_v u (u_far b_c) ∙ holds.twins v u back in
      let sides = Contains-append_cases (arc (list_of lists v) b u) (arc (list_of lists u) (follows lists u v) a) t in_t in
      let ends_u = λ (z : ℕ) (e : cut u z). turned_ends z a v (cut_u z e) in
      let ends_v = λ (z : ℕ) (e : cut v z). turned_ends z b c (cut_v z e) in
      let joins = arcs_joined lists simple K avoided cut holds in
      elim (near s in_s) [
        | inl near_u ↦
            elim sides [
              | inl at ↦ u_apart (joins u a v v b c has_a has_b cut_u cut_v s t near_u.0 (far_first b_c t at) path j ∙ over)
              | inr at ↦ u_apart (joins u a v u v a has_a edge cut_u ends_u s t near_u.0 (far_second a_v t at) path j)
            ]
        | inr near_v ↦
            elim sides [
              | inl at ↦ v_apart (joins v c b v b c has_c has_b ends_v cut_v s t near_v.0 (far_first b_c t at) path j)
              | inr at ↦ v_apart (joins v c b u v a has_c edge ends_v ends_u s t near_v.0 (far_second a_v t at) path j ∙ sym over)
            ]
      ]

-- THE LAW: corners of two adjacent vertices in one face of a map of genus zero
pub digon_split : DigonSplit
digon_split lists u v a b simple plane edge has_a has_b face =
    elim (cases_Bool (same_class (face_classes lists) (dart_number lists (u, a)) (dart_number lists (u, v)))) [
      | inl same ↦ left lists simple plane u v a b edge has_a has_b face same
      | inr differ ↦ other lists simple plane u v a b edge has_a has_b face (λ same. false≢true (sym differ ∙ same))
    ]
