-- What a vertex holds in a finished search.
use Rattle.std.proofs.Common.{◌≡◌, ◌⊎◌, ℕ, zero, suc, ◌<◌, ◌≤◌, length, sym, ap, ◌∙◌, inl, inr, arith}
use Rattle.std.proofs.lemmas.Bool.{cases_eq}
use Rattle.map_lists.specs.Lists.{Lists}
use Rattle.map_theory.specs.Maps.{HasDart, IsSimpleMap}
use Rattle.graph_search.specs.Forests.{IsAdjacency, Holds, IsForest}
use Rattle.graph_search.specs.Lows.{IsWithin}

-- adjacency goes both ways in a simple map
pub IsAdjacency-simple : (lists : Lists) → IsSimpleMap lists → IsAdjacency lists
IsAdjacency-simple lists simple = record { in_range = simple.in_range; both_ways = simple.both_ways }

module _ (lists : Lists) (order number last parent : ℕ → ℕ) (f : IsForest lists order number last parent) where
  -- numbers tell vertices apart
  pub same_vertex : (u v : ℕ) → u < length lists → v < length lists → number u ≡ number v → u ≡ v
  same_vertex u v l m e = sym (f.own u l) ∙ (ap order e ∙ f.own v m)

  pub IsWithin-itself : (v : ℕ) → v < length lists → IsWithin number last v v
  IsWithin-itself v l = record { from = omega arith; before = f.ends_after v l }

  pub IsWithin-held : (v w : ℕ) → Holds number last v w → IsWithin number last v w
  IsWithin-held v w h = record { from = let a = h.after in omega arith; before = h.before }

  -- what is within v is v, or held by it
  pub IsWithin-cases : (v w : ℕ) → v < length lists → w < length lists → IsWithin number last v w → (v ≡ w) ⊎ Holds number last v w
  IsWithin-cases v w l m i =
      elim (cases_eq (number v) (number w)) [
        | inl e ↦ inl (same_vertex v w l m e)
        | inr ne ↦ inr (let a = i.from in record { after = omega arith; before = i.before })
      ]

  pub IsWithin-ends : (v w : ℕ) → v < length lists → w < length lists → IsWithin number last v w → last w ≤ last v
  IsWithin-ends v w l m i =
      elim (IsWithin-cases v w l m i) [ inl e ↦ omega (arith, ap last e) | inr h ↦ f.nested v w l m h ]

  pub IsWithin-chained : (u v w : ℕ) → u < length lists → v < length lists → IsWithin number last u v → IsWithin number last v w → IsWithin number last u w
  IsWithin-chained u v w l m i j =
      record { from = omega arith; before = omega (arith, IsWithin-ends u v l m i) }

  -- of two neighbours that with the lesser number holds the other
  pub Holds-edge : (u v : ℕ) → HasDart lists u v → number u < number v → Holds number last u v
  Holds-edge u v has a = record { after = a; before = f.edges u v has }

  -- what holds v is its parent, or holds that
  pub IsWithin-parent : (u v : ℕ) → u < length lists → v < length lists → Holds number last u v → IsWithin number last u (parent v)
  IsWithin-parent u v l m h =
      record { from = f.nearest u v l m h; before = omega (arith, (f.held v m (f.has_parent u v l m h)).after) }

-- the child of v that is w or holds it
pub record IsChildTowards (number last parent : ℕ → ℕ) (n v w : ℕ) : Type 0 where
  pub c : ℕ
  pub vertex : c < n
  pub child : parent c ≡ v
  pub within : IsWithin number last c w

module _ (lists : Lists) (order number last parent : ℕ → ℕ) (f : IsForest lists order number last parent) where
  -- each vertex that v holds is in the time of a child of v
  child_by_number : (k v w : ℕ) → v < length lists → w < length lists → Holds number last v w → number w < k → IsChildTowards number last parent (length lists) v w
  child_by_number zero v w l m h below = absurd (omega arith)
  child_by_number (suc k) v w l m h below =
      let p = f.has_parent v w l m h in
      let up = f.held w m p in
      elim (IsWithin-cases lists order number last parent f v (parent w) l p (IsWithin-parent lists order number last parent f v w l m h)) [
        | inl e ↦ record { c = w; vertex = m; child = sym e; within = IsWithin-itself lists order number last parent f w m }
        | inr held ↦
            let rest = child_by_number k v (parent w) l p held (omega arith) in
            record {
              c = rest.c;
              vertex = rest.vertex;
              child = rest.child;
              within = IsWithin-chained lists order number last parent f rest.c (parent w) w rest.vertex p rest.within (IsWithin-held lists order number last parent f (parent w) w up);
            }
      ]

  pub child_towards : (v w : ℕ) → v < length lists → w < length lists → Holds number last v w → IsChildTowards number last parent (length lists) v w
  child_towards v w l m h = child_by_number (suc (number w)) v w l m h (omega arith)
