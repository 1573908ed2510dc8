-- What holds of the faces of a map, out of the fact that is kept with them: in which face a dart stands is decided.
use Rattle.std.proofs.Common.{◌≡◌, ◌<◌, ℕ, zero, suc, List, length, Contains, subst, inl, inr, arith}
use Rattle.std.proofs.Math.Logic.{∥∥₁_elim, ∥∥₁_map}
use Rattle.std.proofs.Props.{props}
use Rattle.std.proofs.lemmas.Bool.{cases_lt}
use Rattle.half_edges.specs.Map.{Map}
use Rattle.map_theory.specs.Maps.{place_of}
use Rattle.map_theory.proofs.DartLemmas.{place_of-lt-length, Contains-from_place_of}
use Rattle.euler_faces.specs.FaceWalks.{IsFaceWalk, AreFaces, walk_at}

-- one of the first n walks has the dart d
face_known : (walks : List (List ℕ)) (d n : ℕ) → ∥ ((f : ℕ) × (f < n) × Contains (walk_at walks f) d) ∥₁ → (f : ℕ) × (f < n) × Contains (walk_at walks f) d
face_known walks d zero h = absurd (∥∥₁_elim h (λ x y. absurd x) (λ p. let l = p.1 in omega (arith, l)))
face_known walks d (suc n) h =
    elim (cases_lt (place_of d (walk_at walks n)) (length (walk_at walks n))) [
      | inl here ↦ (n, omega arith, Contains-from_place_of d (walk_at walks n) here)
      | inr not_here ↦
          let before = face_known walks d n (∥∥₁_map h (λ p. elim (cases_lt p.0 n) [
            | inl less ↦ (p.0, less, p.2)
            | inr most ↦
                let same : p.0 ≡ n = omega arith in
                absurd (omega (arith, place_of-lt-length d (walk_at walks n) (subst (λ f. Contains (walk_at walks f) d) same p.2), not_here))
          ])) in
          (before.0, omega arith, before.2)
    ]

module _ (map : Map) (walks : List (List ℕ)) (h : ∥ AreFaces map walks ∥₁) where
  walk_known : (f : ℕ) → f < length walks → IsFaceWalk map (walk_at walks f)
  walk_known f l = record {
    some = ∥∥₁_elim h (search props) (λ a. (a.each f l).some);
    live = λ i k. ∥∥₁_elim h (search props) (λ a. (a.each f l).live i k);
    steps = λ i k. ∥∥₁_elim h (hlevel props) (λ a. (a.each f l).steps i k);
    once = λ i j k m e. ∥∥₁_elim h (search props) (λ a. (a.each f l).once i j k m e);
    least = λ i k. ∥∥₁_elim h (search props) (λ a. (a.each f l).least i k);
  }

  pub AreFaces-known : AreFaces map walks
  AreFaces-known = record {
    each = walk_known;
    all = λ d live. face_known walks d (length walks) (∥∥₁_map h (λ a. a.all d live));
    apart = λ f g d l m x y. ∥∥₁_elim h (search props) (λ a. a.apart f g d l m x y);
    rising = λ f g l m. ∥∥₁_elim h (search props) (λ a. a.rising f g l m);
  }
