-- The three darts of a face.
use Rattle.std.proofs.Common.{◌≡◌, ℕ, ◌<◌, ◌||◌, true, eqb, eq-eqb, refl, sym, ap, subst, ◌∙◌, inl, inr}
use Rattle.std.proofs.Math.Bool.{or-true}
use Rattle.pg_plane.specs.Faced.{in_base}
use Rattle.pg_plane.proofs.Near.{IsOnFace}

-- a dart on the face of the base passes the test for it
pub in_base_from : (step : ℕ → ℕ) (b i : ℕ) → IsOnFace step b i → in_base step b i ≡ true
in_base_from step b i (inl e) = rw (eq-eqb i b e) refl
in_base_from step b i (inr (inl e)) = rw (eq-eqb i (step b) e) (or-true (eqb i b))
in_base_from step b i (inr (inr e)) = rw (eq-eqb i (step (step b)) e) (ap (λ x. eqb i b || x) (or-true (eqb i (step b))) ∙ or-true (eqb i b))

module _ (k : ℕ) (step : ℕ → ℕ) (thrice : (i : ℕ) → i < k → step (step (step i)) ≡ i) where
  -- the faces of two darts, one on the other's, are one
  pub face_back : (i j : ℕ) → i < k → IsOnFace step i j → IsOnFace step j i
  face_back i j l (inl e) = inl (sym e)
  face_back i j l (inr (inl e)) = inr (inr (sym (ap (λ x. step (step x)) e ∙ thrice i l)))
  face_back i j l (inr (inr e)) = inr (inl (sym (ap step e ∙ thrice i l)))

  pub face_then : (i j m : ℕ) → i < k → IsOnFace step i j → IsOnFace step j m → IsOnFace step i m
  face_then i j m l (inl e) h = subst (λ x. IsOnFace step x m) e h
  face_then i j m l (inr (inl e)) (inl f) = inr (inl (f ∙ e))
  face_then i j m l (inr (inl e)) (inr (inl f)) = inr (inr (f ∙ ap step e))
  face_then i j m l (inr (inl e)) (inr (inr f)) = inl (f ∙ ap (λ x. step (step x)) e ∙ thrice i l)
  face_then i j m l (inr (inr e)) (inl f) = inr (inr (f ∙ e))
  face_then i j m l (inr (inr e)) (inr (inl f)) = inl (f ∙ ap step e ∙ thrice i l)
  face_then i j m l (inr (inr e)) (inr (inr f)) = inr (inl (f ∙ ap (λ x. step (step x)) e ∙ ap step (thrice i l)))
