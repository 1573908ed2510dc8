-- The removal at a removable place of the list, by the three ways in which marks are taken away.
use Rattle.std.proofs.Common.{◌≡◌, ◌≢◌, ◌↔◌, ℕ, suc, ◌-◌, ◌<◌, ◌≤◌, Bool, true, false, List, length, slice_index, set, Contains, refl, sym, ap, ap₂, ◌∙◌, subst, inl, inr, arith}
use Rattle.map_lists.specs.Lists.{Lists}
use Rattle.map_theory.specs.Maps.{list_of, HasDart}
use Rattle.convex_peeling.specs.Contours.{face_of, IsRemovable}
use Rattle.convex_orders.specs.FaceNumbers.{entry, AreFaceNumbers}
use Rattle.convex_orders.specs.Contours.{number_at, AreInner}
use Rattle.convex_orders.specs.Counts.{AreCounts}
use Rattle.convex_orders.specs.Shown.{is_set, IsBased, IsChoice, GoesOffNear}
use Rattle.convex_orders.specs.Splits.{IsRemovablePlace}
use Rattle.convex_orders.proofs.Stretches.{edge_back, place_removable}
use Rattle.convex_orders.proofs.Taken.{goes_chain, goes_vertex}

module _ (lists own other : Lists) (count s d : ℕ) (based : IsBased lists s d) (n : AreFaceNumbers lists own other count) (marks new : List Bool) (ws places edges : List ℕ) (counts : AreCounts lists own count ws places edges) (many : length marks ≡ count) (inner : List ℕ) (are : AreInner lists own ws inner) (j : ℕ) (place : IsRemovablePlace own other marks places edges ws j) (alive : ℕ → Bool) (w : ℕ → ℕ) (r : ℕ) (choice : IsChoice lists own marks s d ws alive w r) where
  removable : IsRemovable lists alive w r j
  removable = place_removable lists own other count s d based n marks ws places edges counts alive w r choice j place

  at : (i : ℕ) → i ≤ r → slice_index ws i ≡ w i
  at i l = choice.list.each i l

  edge : (i : ℕ) → i ≤ r → HasDart lists (w (suc i)) (w i)
  edge = edge_back lists own other count s d based n marks ws places edges counts alive w r choice

  -- the number of an edge along the list
  number : (i : ℕ) → suc i ≤ r → number_at inner ws i ≡ entry lists own (w (suc i)) (w i)
  number i l = let long = choice.list.long in are.numbers i (omega arith) ∙ ap₂ (entry lists own) (at (suc i) l) (at i (omega arith))

  -- the faces of two edges that follow one another
  same : (i : ℕ) → suc (suc i) ≤ r → number_at inner ws i ≡ number_at inner ws (suc i) → face_of lists (w (suc (suc i))) (w (suc i)) ≡ face_of lists (w (suc i)) (w i)
  same i l e = (n.alike (w (suc (suc i))) (w (suc i)) (w (suc i)) (w i) (edge (suc i) (omega arith)) (edge i (omega arith))).0 (sym (number (suc i) l) ∙ (sym e ∙ number i (omega arith)))

  differ : (i : ℕ) → suc (suc i) ≤ r → face_of lists (w (suc (suc i))) (w (suc i)) ≡ face_of lists (w (suc i)) (w i) → number_at inner ws i ≡ number_at inner ws (suc i)
  differ i l e = number i (omega arith) ∙ (sym ((n.alike (w (suc (suc i))) (w (suc i)) (w (suc i)) (w i) (edge (suc i) (omega arith)) (edge i (omega arith))).1 e) ∙ sym (number (suc i) l))

  pub goes_right : (m : ℕ) → m ≡ length ws → (suc (suc j) < m) × (number_at inner ws j ≡ number_at inner ws (suc j)) → (f : ℕ) → f ≡ number_at inner ws j → new ≡ set marks f false → GoesOffNear lists own new alive w r j
  goes_right m m_is two f f_is e =
      goes_chain lists own other count s d based n marks new ws places edges counts many alive w r choice j removable j (omega arith) (inl refl) (same j (omega arith) two.1) (w (suc j)) (w j) (edge j (omega arith)) refl
      (e ∙ ap (λ k. set marks k false) (f_is ∙ number j (omega arith)))

  pub goes_left : (h : ℕ) → suc (suc h) ≡ j → number_at inner ws h ≡ number_at inner ws (suc h) → (f : ℕ) → f ≡ number_at inner ws (j - 1) → new ≡ set marks f false → GoesOffNear lists own new alive w r j
  goes_left h z eq f f_is e =
      let one = same h (omega arith) eq in
      let k : j - 1 ≡ suc h = omega arith in
      goes_chain lists own other count s d based n marks new ws places edges counts many alive w r choice j removable h (omega arith) (inr z) one (w (suc (suc h))) (w (suc h)) (edge (suc h) (omega arith)) one
      (e ∙ ap (λ g. set marks g false) (f_is ∙ (ap (number_at inner ws) k ∙ number (suc h) (omega arith))))

  pub goes_only : (m : ℕ) → m ≡ length ws → ¬ ((suc (suc j) < m) × (number_at inner ws j ≡ number_at inner ws (suc j))) → ((h : ℕ) → suc (suc h) ≡ j → number_at inner ws h ≢ number_at inner ws (suc h)) → ((f : ℕ) → (is_set new f ≡ true) ↔ ((is_set marks f ≡ true) × (¬ Contains (list_of own (slice_index ws j)) f))) → GoesOffNear lists own new alive w r j
  goes_only m m_is right left set =
      let i : ℕ = j - 1 in
      let i_j : suc i ≡ j = omega arith in
      goes_vertex lists own other count s d based n marks new ws places edges counts many alive w r choice j removable i i_j
      (λ l e. right (omega arith, differ j (omega arith) e))
      (λ h z e. let z' : i ≡ suc h = omega arith in left h (omega arith) (differ h (omega arith) (sym (e ∙ ap (λ k. face_of lists (w (suc k)) (w k)) z'))))
      (subst (λ v. (f : ℕ) → (is_set new f ≡ true) ↔ ((is_set marks f ≡ true) × (¬ Contains (list_of own v) f))) (at j (omega arith)) set)
