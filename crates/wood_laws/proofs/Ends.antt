-- Round an inner vertex each edge stands to it in one way, and so the order of a wood says what comes after what.
use Rattle.std.proofs.Common.{◌≡◌, ◌≢◌, ◌⊎◌, ℕ, refl, sym, ap, ◌∙◌, subst, inl, inr}
use Rattle.map_lists.specs.Lists.{Lists}
use Rattle.map_theory.specs.Maps.{Dart, HasDart, follows}
use Rattle.plane_laws.specs.Triangulations.{IsTriangulation}
use Rattle.wood_runs.specs.Parents.{Colour, one, two, three, End, out, into, MayFollow}
use Rattle.wood_laws.specs.Woods.{IsInner, IsEndAt, IsWood}
use Rattle.wood_laws.proofs.Ways.{two_ways}

-- two colours are one where they are not different
pub same_colour : (c d : Colour) → ¬ (c ≢ d) → c ≡ d
same_colour one one h = refl
same_colour one two h = absurd (h (λ e. cc))
same_colour one three h = absurd (h (λ e. cc))
same_colour two one h = absurd (h (λ e. cc))
same_colour two two h = refl
same_colour two three h = absurd (h (λ e. cc))
same_colour three one h = absurd (h (λ e. cc))
same_colour three two h = absurd (h (λ e. cc))
same_colour three three h = refl

module _ (lists : Lists) (base : Dart) (parent : Colour → ℕ → ℕ) (triangulation : IsTriangulation lists) (has : HasDart lists base.0 base.1) (wood : IsWood lists base parent) where
  abbrev pub At : End → ℕ → ℕ → Type 0
  At e v u = IsEndAt lists base parent e v u

  pub one_end : (v u : ℕ) → IsInner lists base v → (e f : End) → At e v u → At f v u → e ≡ f
  one_end v u i (out c) (out d) a b = ap (λ c. out c) (same_colour c d (λ ne. wood.apart c d v ne i (a ∙ sym b)))
  one_end v u i (into c) (into d) a b = ap (λ c. into c) (same_colour c d (λ ne. wood.apart c d u ne a.0 (a.1 ∙ sym b.1)))
  one_end v u i (out c) (into d) a b = absurd (two_ways lists base parent triangulation has wood c d v u i b.0 a b.1)
  one_end v u i (into c) (out d) a b = absurd (two_ways lists base parent triangulation has wood d c v u i a.0 b a.1)

  -- each edge stands to it in some way
  pub some_end : (v u : ℕ) → IsInner lists base v → HasDart lists v u → (e : End) × At e v u
  some_end v u i d = let o = wood.order v u i d in (o.second, o.entry)

  -- what comes after what stands in such a way
  turn : (v u : ℕ) → IsInner lists base v → HasDart lists v u → (e : End) → At e v u → (f : End) × At f v (follows lists v u) × MayFollow f e
  turn v u i d e a =
      let o = wood.order v u i d in
      (o.first, o.after, subst (MayFollow o.first) (one_end v u i o.second e o.entry a) o.follow)

  abbrev pub Either : End → End → ℕ → ℕ → Type 0
  Either e f v u = At e v u ⊎ At f v u

  pub after_out_three : (v u : ℕ) → IsInner lists base v → HasDart lists v u → At (out three) v u → Either (out two) (into one) v (follows lists v u)
  after_out_three v u i d a = let t = turn v u i d (out three) a in by_end t.0 t.1 t.2
    where
      by_end : (f : End) → At f v (follows lists v u) → MayFollow f (out three) → Either (out two) (into one) v (follows lists v u)
      by_end (out one) b m = absurd cc
      by_end (out two) b m = inl b
      by_end (out three) b m = absurd cc
      by_end (into one) b m = inr b
      by_end (into two) b m = absurd cc
      by_end (into three) b m = absurd cc

  pub after_into_one : (v u : ℕ) → IsInner lists base v → HasDart lists v u → At (into one) v u → Either (out two) (into one) v (follows lists v u)
  after_into_one v u i d a = let t = turn v u i d (into one) a in by_end t.0 t.1 t.2
    where
      by_end : (f : End) → At f v (follows lists v u) → MayFollow f (into one) → Either (out two) (into one) v (follows lists v u)
      by_end (out one) b m = absurd cc
      by_end (out two) b m = inl b
      by_end (out three) b m = absurd cc
      by_end (into one) b m = inr b
      by_end (into two) b m = absurd cc
      by_end (into three) b m = absurd cc

  pub after_into_two : (v u : ℕ) → IsInner lists base v → HasDart lists v u → At (into two) v u → Either (out three) (into two) v (follows lists v u)
  after_into_two v u i d a = let t = turn v u i d (into two) a in by_end t.0 t.1 t.2
    where
      by_end : (f : End) → At f v (follows lists v u) → MayFollow f (into two) → Either (out three) (into two) v (follows lists v u)
      by_end (out one) b m = absurd cc
      by_end (out two) b m = absurd cc
      by_end (out three) b m = inl b
      by_end (into one) b m = absurd cc
      by_end (into two) b m = inr b
      by_end (into three) b m = absurd cc

  pub after_into_three : (v u : ℕ) → IsInner lists base v → HasDart lists v u → At (into three) v u → Either (out one) (into three) v (follows lists v u)
  after_into_three v u i d a = let t = turn v u i d (into three) a in by_end t.0 t.1 t.2
    where
      by_end : (f : End) → At f v (follows lists v u) → MayFollow f (into three) → Either (out one) (into three) v (follows lists v u)
      by_end (out one) b m = inl b
      by_end (out two) b m = absurd cc
      by_end (out three) b m = absurd cc
      by_end (into one) b m = absurd cc
      by_end (into two) b m = absurd cc
      by_end (into three) b m = inr b

  -- and what comes before it
  pub before_into_three : (v u : ℕ) → IsInner lists base v → HasDart lists v u → At (into three) v (follows lists v u) → Either (out two) (into three) v u
  before_into_three v u i d a = let o = wood.order v u i d in by_end o.second o.entry (subst (λ e. MayFollow e o.second) (one_end v (follows lists v u) i o.first (into three) o.after a) o.follow)
    where
      by_end : (f : End) → At f v u → MayFollow (into three) f → Either (out two) (into three) v u
      by_end (out one) b m = absurd cc
      by_end (out two) b m = inl b
      by_end (out three) b m = absurd cc
      by_end (into one) b m = absurd cc
      by_end (into two) b m = absurd cc
      by_end (into three) b m = inr b
