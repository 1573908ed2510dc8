-- The marks after a removal, and the removal at a removable vertex.
use Rattle.std.proofs.Common.{◌≡◌, ◌≢◌, ◌⊎◌, ◌↔◌, ℕ, suc, ◌+◌, ◌<◌, ◌≤◌, Bool, true, false, List, length, set, Contains, refl, sym, ap, ◌∙◌, subst, inl, inr, arith}
use Rattle.std.proofs.lemmas.Bool.{cases_Bool, true≢false}
use Rattle.std.specs.Cmp.{both_ways}
use Rattle.map_lists.specs.Lists.{Lists}
use Rattle.map_theory.specs.Maps.{list_of, HasDart, IsSimpleMap}
use Rattle.convex_peeling.specs.Polyhedral.{IsPolyhedral}
use Rattle.convex_peeling.specs.Contours.{face_of, Passes, IsContour, IsStretch, IsOpen, IsRemovable}
use Rattle.convex_peeling.specs.Removals.{Removal, IsTakenOff}
use Rattle.convex_peeling.proofs.ChainsOff.{edge_passes}
use Rattle.convex_peeling.proofs.TakenOff.{chain_taken_off_law}
use Rattle.convex_peeling.proofs.VertexOff.{vertex_taken_off_law}
use Rattle.convex_laws.proofs.Grown.{IsShore-contour, goer_off}
use Rattle.convex_orders.specs.FaceNumbers.{entry, AreFaceNumbers}
use Rattle.convex_orders.specs.Shown.{is_set, IsBased, AreMarks, IsChoice, GoesOffNear}
use Rattle.convex_orders.proofs.Flags.{set_less}
use Rattle.convex_orders.specs.Counts.{AreCounts}
use Rattle.convex_orders.proofs.ContourCountsRows.{passes-number, entry-lt}
use Rattle.convex_orders.proofs.RemovedFaces.{made_passes}
use Rattle.convex_orders.proofs.Stretches.{polyhedral, has_three, vertex_in, off_base}

module _ (lists own other : Lists) (count : ℕ) (simple : IsSimpleMap lists) (n : AreFaceNumbers lists own other count) (marks new : List Bool) (alive : ℕ → Bool) (w : ℕ → ℕ) (r : ℕ) (o : Removal) (off : IsTakenOff lists alive w r o) (are : AreMarks lists own marks alive) where
  -- the marks after a removal, where some numbers lose their marks
  pub marks_after : (Gone : ℕ → Type 0) → ((f : ℕ) → (is_set new f ≡ true) ↔ ((is_set marks f ≡ true) × (¬ Gone f))) → ((i x y : ℕ) → i < o.faces → HasDart lists x y → face_of lists x y ≡ o.made i → Gone (entry lists own x y)) → ((x y : ℕ) → HasDart lists x y → Gone (entry lists own x y) → o.alive (face_of lists x y) ≢ true) → AreMarks lists own new o.alive
  marks_after Gone set made dead x y has = grind (arith, set, entry, face_of, both_ways, is_set, cases_Bool)

  -- one face
  pub marks_after_one : (a b : ℕ) → HasDart lists a b → new ≡ set marks (entry lists own a b) false → length marks ≡ count → o.faces ≡ 1 → o.made 0 ≡ face_of lists a b → AreMarks lists own new o.alive
  marks_after_one a b has_ab e long one made =
      let f = entry lists own a b in
      let below = entry-lt lists own count n.own_table a b has_ab in
      marks_after (λ g. g ≡ f)
      (λ g. subst (λ (z : List Bool). (is_set z g ≡ true) ↔ ((is_set marks g ≡ true) × (g ≢ f))) (sym e) (set_less marks f g (omega arith)))
      (λ i x y l has on. let z : i ≡ 0 = omega arith in (n.alike x y a b has has_ab).1 (on ∙ (ap o.made z ∙ made)))
      (λ x y has g t. let same = (n.alike x y a b has has_ab).0 g in true≢false (sym t ∙ (ap o.alive (same ∙ sym made) ∙ off.dead 0 (omega arith))))

  -- all faces at one vertex
  pub marks_after_vertex : (contour : IsContour lists alive w r) → IsContour lists o.alive o.contour o.places → o.vertices ≡ 1 → (v : ℕ) → v < length lists → w (suc o.first) ≡ v → ((f : ℕ) → (is_set new f ≡ true) ↔ ((is_set marks f ≡ true) × (¬ Contains (list_of own v) f))) → AreMarks lists own new o.alive
  marks_after_vertex contour next one v l at set =
      marks_after (Contains (list_of own v)) set
      (λ i x y m has on. (passes-number lists own other count simple n x y v has l).1 (subst (Passes lists (face_of lists x y)) at (subst (λ z. Passes lists z (w (suc o.first))) (sym on) (made_passes lists alive w r o simple contour off next one i m))))
      (λ x y has g t.
      let p = (passes-number lists own other count simple n x y v has l).0 g in
      let z : suc o.first ≡ suc (o.first + 0) = omega arith in
      let v_is : v ≡ w (suc (o.first + 0)) = sym at ∙ ap w z in
      goer_off lists alive w r o simple contour off (IsShore-contour lists o.alive o.contour o.places next) 0 p.0 (omega arith) (subst (λ u. HasDart lists u p.0) v_is p.1) (ap (λ u. o.alive (face_of lists u p.0)) (sym v_is) ∙ (ap o.alive p.2 ∙ t)))

module _ (lists own other : Lists) (count s d : ℕ) (based : IsBased lists s d) (n : AreFaceNumbers lists own other count) (marks new : List Bool) (ws places edges : List ℕ) (counts : AreCounts lists own count ws places edges) (long : length marks ≡ count) (alive : ℕ → Bool) (w : ℕ → ℕ) (r : ℕ) (choice : IsChoice lists own marks s d ws alive w r) where
  abbrev simple : IsSimpleMap lists
  simple = based.three.simple

  abbrev contour : IsContour lists alive w r
  contour = choice.shown.contour

  abbrev is_polyhedral : IsPolyhedral lists
  is_polyhedral = polyhedral lists own other count s d based n marks ws places edges counts alive w r choice

  living_edge : (i : ℕ) → i ≤ r → alive (face_of lists (w (suc i)) (w i)) ≡ true
  living_edge i l = (contour.edge i l).inside

  module _ (j : ℕ) (removable : IsRemovable lists alive w r j) where
    stretches : (face : ℕ) → alive face ≡ true → Passes lists face (w j) → IsStretch lists w r face
    stretches face live p = subst (IsStretch lists w r) p.2 (removable.stretches p.0 p.1 (ap alive p.2 ∙ live))

    not_base : (face : ℕ) → Passes lists face (w j) → face ≢ face_of lists (w 0) (w r)
    not_base face p e = off_base lists own other count s d based n marks ws places edges counts alive w r choice j removable (subst (λ f. Passes lists f (w j)) e p)

    -- two edges of one face, from place i on
    pub goes_chain : (i : ℕ) → suc (suc i) ≤ r → (i ≡ j) ⊎ (suc (suc i) ≡ j) → face_of lists (w (suc (suc i))) (w (suc i)) ≡ face_of lists (w (suc i)) (w i) → (x y : ℕ) → HasDart lists x y → face_of lists x y ≡ face_of lists (w (suc i)) (w i) → new ≡ set marks (entry lists own x y) false → GoesOffNear lists own new alive w r j
    goes_chain i l at same x y has on e =
        let face = face_of lists (w (suc i)) (w i) in
        let two = edge_passes lists alive w r simple contour (suc i) (omega arith) in
        let p : Passes lists face (w j) = elim at [
          | inl z ↦ subst (λ k. Passes lists face (w k)) z (edge_passes lists alive w r simple contour i (omega arith)).0
          | inr z ↦ subst (λ k. Passes lists face (w k)) z (subst (λ f. Passes lists f (w (suc (suc i)))) same two.1)
        ] in
        let three = has_three lists own other count s d based n marks ws places edges counts alive w r choice in
        let go = chain_taken_off_law lists alive w r i face simple is_polyhedral three contour l refl same (stretches face (living_edge i (omega arith)) p) (not_base face p) in
        record {
          go = record {
            o = go.0;
            off = go.1;
            contour = go.2;
            open_at = go.3;
            marks_are = marks_after_one lists own other count simple n marks new alive w r go.0 go.1 choice.shown.marks_are x y has e long go.4 (go.5 ∙ sym on);
          };
          low = elim at [ inl z ↦ omega arith | inr z ↦ omega arith ];
          high = elim at [ inl z ↦ omega arith | inr z ↦ omega arith ];
        }

    -- one vertex
    pub goes_vertex : (i : ℕ) → suc i ≡ j → (suc j < r → face_of lists (w (suc (suc j))) (w (suc j)) ≢ face_of lists (w (suc j)) (w j)) → ((h : ℕ) → suc h ≡ i → face_of lists (w (suc h)) (w h) ≢ face_of lists (w (suc i)) (w i)) → ((f : ℕ) → (is_set new f ≡ true) ↔ ((is_set marks f ≡ true) × (¬ Contains (list_of own (w j)) f))) → GoesOffNear lists own new alive w r j
    goes_vertex i at right left set =
        let go = vertex_taken_off_law lists alive w r i simple is_polyhedral contour (record {
          within = omega arith;
          stretches = λ face live p. stretches face live (subst (λ k. Passes lists face (w k)) at p);
          right = λ l. let z = at in subst (λ k. face_of lists (w (suc (suc k))) (w (suc k)) ≢ face_of lists (w (suc k)) (w k)) (sym at) (right (omega arith));
          left = left;
          base = λ p. not_base (face_of lists (w 0) (w r)) (subst (λ k. Passes lists (face_of lists (w 0) (w r)) (w k)) at p) refl;
        }) in
        let first : suc go.0.first ≡ j = ap suc go.3 ∙ at in
        record {
          go = record {
            o = go.0;
            off = go.1;
            contour = go.2;
            open_at = λ q l. let z : suc (go.0.first + q) ≡ j = omega arith in subst (λ k. IsOpen lists alive (w k)) (sym z) removable.open_at;
            marks_are = marks_after_vertex lists own other count simple n marks new alive w r go.0 go.1 choice.shown.marks_are contour go.2 go.4 (w j) (vertex_in lists own other count s d based n marks ws places edges counts alive w r choice j (omega arith)) (ap w first) set;
          };
          low = omega arith;
          high = omega arith;
        }
