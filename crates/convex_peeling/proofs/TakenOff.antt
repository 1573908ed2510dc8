-- There is a removal: at a removable vertex a face with two edges of the contour or more goes with the vertices between them, and without one the vertex goes with all its faces.
use Rattle.std.proofs.Common.{◌≡◌, ◌≢◌, ◌⊎◌, ℕ, suc, ◌+◌, ◌-◌, ◌<◌, ◌≤◌, Bool, true, refl, sym, ap, ◌∙◌, subst, inl, inr, arith}
use Rattle.std.proofs.lemmas.Bool.{cases_eq, cases_lt}
use Rattle.classes.specs.Classes.{count_below}
use Rattle.map_lists.specs.Lists.{Lists}
use Rattle.map_theory.specs.Maps.{HasDart, IsSimpleMap, follows, dart_count}
use Rattle.map_theory.proofs.DartLemmas.{HasDart-follows}
use Rattle.convex_peeling.specs.Polyhedral.{IsPolyhedral}
use Rattle.convex_peeling.specs.Contours.{face_of, Passes, IsContour, IsOpen, IsStretch, IsRemovable}
use Rattle.convex_peeling.specs.Removals.{Removal, IsTakenOff}
use Rattle.convex_peeling.specs.FacePeelingLaws.{HasThree, AreOpen, SomeTakenOff}
use Rattle.convex_peeling.proofs.Faces.{cases_Passes, face_of-step}
use Rattle.convex_peeling.proofs.Choices.{some_removable_law}
use Rattle.convex_peeling.proofs.Ears.{stretch_is_ear_law}
use Rattle.convex_peeling.proofs.EarsOff.{contour_after}
use Rattle.convex_peeling.proofs.ChainsOff.{edge_passes, between_open, removal, chain_off}
use Rattle.convex_peeling.proofs.VertexOff.{vertex_goes}

-- there is a removal
abbrev Goes : Lists → (ℕ → Bool) → (ℕ → ℕ) → ℕ → Type 0
Goes lists alive w r = (o : Removal) × IsTakenOff lists alive w r o × IsContour lists o.alive o.contour o.places × AreOpen lists alive w o

module _ (lists : Lists) (alive : ℕ → Bool) (w : ℕ → ℕ) (r : ℕ) (simple : IsSimpleMap lists) (polyhedral : IsPolyhedral lists) (three : HasThree lists) (contour : IsContour lists alive w r) where
  -- the base leads from the last place, which the face inside of it passes, as it passes the first one
  pub base_passes : Passes lists (face_of lists (w 0) (w r)) (w 0) × Passes lists (face_of lists (w 0) (w r)) (w r)
  base_passes =
      let base : HasDart lists (w r) (w 0) = subst (HasDart lists (w r)) contour.round (contour.edge r (omega arith)).dart in
      let inner : HasDart lists (w 0) (w r) = simple.both_ways (w r) (w 0) base in
      ((w r, inner, refl), (follows lists (w r) (w 0), HasDart-follows lists (w r) (w 0) base, face_of-step lists simple (w 0) (w r) inner))

  pub base_living : alive (face_of lists (w 0) (w r)) ≡ true
  base_living = ap (λ t. alive (face_of lists t (w r))) (sym contour.round) ∙ (contour.edge r (omega arith)).inside

  -- a face with two edges of the contour goes
  pub chain_goes : (e face : ℕ) → suc (suc e) ≤ r → face_of lists (w (suc e)) (w e) ≡ face → face_of lists (w (suc (suc e))) (w (suc e)) ≡ face → IsStretch lists w r face → face ≢ face_of lists (w 0) (w r) → (o : Removal) × IsTakenOff lists alive w r o × IsContour lists o.alive o.contour o.places × AreOpen lists alive w o × (o.faces ≡ 1) × (o.made 0 ≡ face) × (o.first ≤ e) × (suc e ≤ o.first + o.vertices)
  chain_goes e face l own next stretch inner =
      let own_face = face_of lists (w (suc e)) (w e) in
      let found = stretch_is_ear_law lists alive w r e simple polyhedral contour (omega arith) (subst (IsStretch lists w r) (sym own) stretch) in
      let a = found.0 in
      let b = found.1 in
      let walk = found.2 in
      let many = found.3 in
      let ear = found.4 in
      let two = edge_passes lists alive w r simple contour (suc e) (omega arith) in
      let low = ear.places e (omega arith) (edge_passes lists alive w r simple contour e (omega arith)).0 in
      let high = ear.places (suc (suc e)) l (subst (λ f. Passes lists f (w (suc (suc e)))) (next ∙ sym own) two.1) in
      let gone : ℕ = b - suc a in (
        removal lists alive w r own_face a b walk many gone simple contour ear (omega arith) (omega arith),
        chain_off lists alive w r own_face a b walk many gone simple contour ear (omega arith) (omega arith),
        contour_after lists alive w r own_face a b walk many simple polyhedral contour ear (λ q. inner (sym own ∙ q)) (r + a + many - b) (omega arith),
        λ q m. between_open lists alive w r simple contour polyhedral three (a + q) (omega arith) (ear.edges (a + q) (omega arith) (omega arith) ∙ sym (ear.edges (suc (a + q)) (omega arith) (omega arith))),
        refl {a = 1},
        own,
        low.0,
        omega arith,
      )

  -- at a removable vertex that the face inside of the base does not pass there is a removal
  removable_goes : (i : ℕ) → IsRemovable lists alive w r (suc i) → ¬ Passes lists (face_of lists (w 0) (w r)) (w (suc i)) → Goes lists alive w r
  removable_goes i removable base =
      let j = suc i in
      let j_r = removable.before in
      let stretches : (face : ℕ) → alive face ≡ true → Passes lists face (w j) → IsStretch lists w r face = λ face live p.
      subst (IsStretch lists w r) p.2 (removable.stretches p.0 p.1 (ap alive p.2 ∙ live)) in
      let behind = face_of lists (w (suc j)) (w j) in
      let before = face_of lists (w j) (w i) in
      let at_behind = edge_passes lists alive w r simple contour j (omega arith) in
      let at_before = edge_passes lists alive w r simple contour i (omega arith) in
      let live_behind = (contour.edge j (omega arith)).inside in
      let live_before = (contour.edge i (omega arith)).inside in
      let apart : (face : ℕ) → Passes lists face (w j) → face ≢ face_of lists (w 0) (w r) = λ face p e. base (subst (λ f. Passes lists f (w j)) e p) in
      let goes_removable_next : (suc j < r → face_of lists (w (suc (suc j))) (w (suc j)) ≢ behind) → ((h : ℕ) → suc h ≡ i → face_of lists (w (suc h)) (w h) ≢ before) → Goes lists alive w r = λ right left.
      let o = vertex_goes (suc (count_below alive (dart_count lists))) lists alive w r i simple polyhedral contour (record { within = j_r; stretches = stretches; right = right; left = left; base = base }) (omega arith) in
      (o.0, o.1, o.2, λ q m. let e4 = o.4 in let e3 = o.3 in let z : suc (o.0.first + q) ≡ j = omega arith in subst (λ n. IsOpen lists alive (w n)) (sym z) removable.open_at) in
      let right_or : ((suc j < r) × (face_of lists (w (suc (suc j))) (w (suc j)) ≡ behind)) ⊎ (suc j < r → face_of lists (w (suc (suc j))) (w (suc j)) ≢ behind) = grind (arith, cases_eq, face_of, cases_lt) in
      let left_or : ((h : ℕ) × (suc h ≡ i) × (face_of lists (w (suc h)) (w h) ≡ before)) ⊎ ((h : ℕ) → suc h ≡ i → face_of lists (w (suc h)) (w h) ≢ before) =
      elim (cases_eq i 0) [
        | inl z ↦ inr (λ h e. absurd (omega arith))
        | inr some ↦
            let h : ℕ = i - 1 in
            elim (cases_eq (face_of lists (w (suc h)) (w h)) before) [
              | inl e ↦ inl (h, omega arith, e)
              | inr ne ↦ inr (λ g e q. let z : g ≡ h = omega arith in ne (ap (λ t. face_of lists (w (suc t)) (w t)) (sym z) ∙ q))
            ]
      ] in
      elim right_or [
        | inl two ↦ (let l = two.0 in let o = chain_goes j behind (omega arith) refl two.1 (stretches behind live_behind at_behind.0) (apart behind at_behind.0) in (o.0, o.1, o.2, o.3))
        | inr right ↦ elim left_or [
          | inr left ↦ goes_removable_next right left
          | inl two ↦
              let h = two.0 in
              let own = face_of lists (w (suc h)) (w h) in
              let same : face_of lists (w (suc (suc h))) (w (suc h)) ≡ own = ap (λ t. face_of lists (w (suc t)) (w t)) two.1 ∙ sym two.2 in
              let at : Passes lists own (w j) = subst (λ f. Passes lists f (w j)) (sym two.2) at_before.1 in
              let o = chain_goes h own (omega arith) refl same (stretches own (ap alive two.2 ∙ live_before) at) (apart own at) in (o.0, o.1, o.2, o.3)
        ]
      ]

-- A face with two edges of the contour that follow one another, which meets the contour in one stretch and is not the one inside of the base, goes with all vertices strictly within its stretch; at each of them an edge is taken off.
pub chain_taken_off_law : (lists : Lists) (alive : ℕ → Bool) (w : ℕ → ℕ) (r i face : ℕ) → IsSimpleMap lists → IsPolyhedral lists → HasThree lists → IsContour lists alive w r → suc (suc i) ≤ r → face_of lists (w (suc i)) (w i) ≡ face → face_of lists (w (suc (suc i))) (w (suc i)) ≡ face → IsStretch lists w r face → face ≢ face_of lists (w 0) (w r) → (o : Removal) × IsTakenOff lists alive w r o × IsContour lists o.alive o.contour o.places × AreOpen lists alive w o × (o.faces ≡ 1) × (o.made 0 ≡ face) × (o.first ≤ i) × (suc i ≤ o.first + o.vertices)
chain_taken_off_law lists alive w r i face simple polyhedral three contour l own next stretch inner = chain_goes lists alive w r simple polyhedral three contour i face l own next stretch inner

-- THE LAW: a removal
pub some_taken_off_law : SomeTakenOff
some_taken_off_law lists alive w r simple plane polyhedral three contour begun =
    elim (some_removable_law lists alive w r simple plane polyhedral contour begun) [
      | inl all ↦ inl all
      | inr found ↦
          let removable = found.1 in
          let i : ℕ = found.0 - 1 in
          let z : found.0 ≡ suc i = omega arith in
          let face = face_of lists (w 0) (w r) in
          let ends = base_passes lists alive w r simple polyhedral three contour in
          elim (cases_Passes lists simple face (w found.0)) [
            | inl p ↦
                let stretch = subst (IsStretch lists w r) p.2 (removable.stretches p.0 p.1 (ap alive p.2 ∙ base_living lists alive w r simple polyhedral three contour)) in
                inl (λ n l. stretch 0 n r (omega arith) l (omega arith) ends.0 ends.1)
            | inr none ↦ inr (removable_goes lists alive w r simple polyhedral three contour i (subst (IsRemovable lists alive w r) z removable) (subst (λ t. ¬ Passes lists face (w t)) z none))
          ]
    ]
