-- Triangles of edges, in any order of their vertices.
use Rattle.std.proofs.Common.{◌≡◌, ◌⊎◌, ℕ, ◌<◌, length, Option, Some, None, Contains, inl, inr, ⊎_elim, sym, subst, arith}
use Rattle.std.specs.Option.{MatchOption}
use Rattle.map_lists.specs.declared.ids.VertexId.{VertexId}
use Rattle.vertex_rounds.specs.Least.{IsLeast}
use Rattle.std.proofs.lemmas.Bool.{cases_lt, cases_eq}
use Rattle.map_lists.specs.Lists.{Lists}
use Rattle.map_theory.specs.Maps.{IsSimpleMap, HasDart, list_of, follows}
use Rattle.plane_peeling.specs.Restricted.{IsFaceOfThree}
use Rattle.plane_peeling.specs.TwoGone.{HasNoSeparatingTriangle}
use Rattle.plane_peeling.proofs.OuterCycles.{IsFaceOfThree-turned}
use Rattle.rect_class.specs.RectMaps.{IsSeparating, NoneSeparating}

-- a third vertex stands in the lists of both others
pub third_in : (lists : Lists) (a b w x : ℕ) → (w ≡ a) ⊎ (w ≡ b) → IsSeparating lists a b x → Contains (list_of lists w) x
third_in lists a b w x end s =
    ⊎_elim (λ e. subst (λ y. Contains (list_of lists y) x) (sym e) s.across.1) (λ e. subst (λ y. Contains (list_of lists y) x) (sym e) s.high.1) end

-- the least third vertex in the list of an end is the least one
pub third_at : (lists : Lists) (a b w : ℕ) → (w ≡ a) ⊎ (w ≡ b) → w < length lists → (found : Option VertexId)
    → MatchOption found ((c : ℕ) → HasDart lists w c → ¬ IsSeparating lists a b c) (λ (c : VertexId). IsLeast (λ x. HasDart lists w x × IsSeparating lists a b x) c.0)
    → MatchOption found ((c : ℕ) → ¬ IsSeparating lists a b c) (λ (c : VertexId). IsLeast (IsSeparating lists a b) c.0)
third_at lists a b w end l None none = λ c s. none c (l, third_in lists a b w c end s) s
third_at lists a b w end l (Some x) least = record { here = least.here.1; before = λ t less s. least.before t less ((l, third_in lists a b w t end s), s) }

-- whether three steps go round three vertices is decided
IsFaceOfThree-decided : (lists : Lists) (a b c : ℕ) → HasDart lists a b → IsFaceOfThree lists a b c ⊎ (¬ IsFaceOfThree lists a b c)
IsFaceOfThree-decided lists a b c d = grind (arith, cases_eq, follows)

-- the three edges bound a face, on the one side or on the other
abbrev IsFaced : Lists → ℕ → ℕ → ℕ → Type 0
IsFaced lists a b c = IsFaceOfThree lists a b c ⊎ IsFaceOfThree lists b a c

module _ (lists : Lists) (simple : IsSimpleMap lists) where
  turned : (a b c : ℕ) → IsFaced lists a b c → IsFaced lists b c a
  turned a b c (inl f) = inl (IsFaceOfThree-turned lists a b c simple f)
  turned a b c (inr f) = inr (IsFaceOfThree-turned lists a c b simple (IsFaceOfThree-turned lists b a c simple f))

  flipped : (a b c : ℕ) → IsFaced lists a b c → IsFaced lists b a c
  flipped a b c (inl f) = inr f
  flipped a b c (inr f) = inl f

  -- where none separates, three that rise bound a face
  rising : NoneSeparating lists → (a b c : ℕ) → a < b → b < c → HasDart lists a b → HasDart lists b c → HasDart lists c a → IsFaced lists a b c
  rising none a b c l m ab bc ca =
      elim (IsFaceOfThree-decided lists a b c ab) [
        | inl f ↦ inl f
        | inr n ↦ elim (IsFaceOfThree-decided lists b a c (simple.both_ways a b ab)) [
          | inl f ↦ inr f
          | inr n' ↦ absurd (none a b c (record { first = l; second = m; low = ab; high = bc; across = simple.both_ways c a ca; no_face = ⊎_elim n n' }))
        ]
      ]

  -- and so any three
  pub HasNoSeparatingTriangle-rising : NoneSeparating lists → HasNoSeparatingTriangle lists
  HasNoSeparatingTriangle-rising none a b c ab bc ca =
      let ba = simple.both_ways a b ab in
      let cb = simple.both_ways b c bc in
      let ac = simple.both_ways c a ca in
      let nab = simple.no_loop a b ab in
      let nbc = simple.no_loop b c bc in
      let nca = simple.no_loop c a ca in
      elim (cases_lt a b) [
        | inl l ↦ elim (cases_lt b c) [
          | inl m ↦ rising none a b c l m ab bc ca
          | inr m ↦ elim (cases_lt a c) [
            | inl k ↦ flipped b a c (turned c b a (turned a c b (rising none a c b k (omega arith) ac cb ba)))
            | inr k ↦ turned c a b (rising none c a b (omega arith) l ca ab bc)
          ]
        ]
        | inr l ↦ elim (cases_lt a c) [
          | inl m ↦ flipped b a c (rising none b a c (omega arith) m ba ac cb)
          | inr m ↦ elim (cases_lt b c) [
            | inl k ↦ turned c a b (turned b c a (rising none b c a k (omega arith) bc ca ab))
            | inr k ↦ flipped b a c (turned c b a (rising none c b a (omega arith) (omega arith) cb ba ac))
          ]
        ]
      ]
