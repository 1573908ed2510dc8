-- The first dart, vertex by vertex; and where the test decides a property, the least two numbers that have it.
use Rattle.std.proofs.Common.{◌≡◌, ℕ, ◌<◌, ◌≤◌, Bool, true, false, Option, Some, None, refl, sym, subst, inl, inr, arith}
use Rattle.std.specs.Option.{MatchOption}
use Rattle.std.proofs.lemmas.Bool.{true≢false}
use Rattle.map_lists.specs.declared.ids.VertexId.{VertexId}
use Rattle.map_lists.specs.declared.ids.DartId.{DartId}
use Rattle.half_edges.specs.Map.{Map, IsHalfMap, IsLive, dart_at}
use Rattle.map_theory.specs.Maps.{Dart, HasDart}
use Rattle.vertex_rounds.specs.Rounds.{dart_of, HoldsAt}
use Rattle.vertex_rounds.proofs.DartIds.{dart_of-is}
use Rattle.vertex_rounds.specs.Least.{IsLeast, IsLeastPair}
use Rattle.vertex_rounds.specs.First.{Passes, Fails, IsFirstOrNone, IsLeastOrNone, FindsFirst, FindsLeast}

module _ (map : Map) (says : DartId → Bool → Type 0) (from : ℕ) where
  -- none passes at a tail below v
  abbrev pub NoneBelow : ℕ → Type 0
  NoneBelow v = (w u : ℕ) → from ≤ w → w < v → Fails map says w u

-- what a test says of the dart of an id decides a property of it, of darts with a tail from `from` on
abbrev pub Decides : Map → (DartId → Bool → Type 0) → ℕ → (ℕ → ℕ → Type 0) → Type 0
Decides map says from P = (d : DartId) → IsLive map d.0 → from ≤ (dart_of map d.0).0 → (r : Bool) → says d r → (r ≡ true → HoldsAt map P d.0) × (HoldsAt map P d.0 → r ≡ true)

module _ (map : Map) (h : IsHalfMap map) (says : DartId → Bool → Type 0) (P : ℕ → ℕ → Type 0) where
  live : (d v u : ℕ) → dart_at map d ≡ Some (v, u) → IsLive map d
  live d v u is = rw is refl

  late_is : (from d v u : ℕ) → dart_at map d ≡ Some (v, u) → from ≤ v → from ≤ (dart_of map d).0
  late_is from d v u is late = subst (λ (x : Dart). from ≤ x.0) (sym (dart_of-is map d (v, u) is)) late

  pub passes_has : (from : ℕ) → Decides map says from P → (v u : ℕ) → from ≤ v → Passes map says v u → P v u
  passes_has from decides v u late p =
      let here = (decides p.0 (live p.0.0 v u p.1) (late_is from p.0.0 v u p.1 late) true p.2).0 refl in
      subst (λ (x : Dart). P x.0 x.1) (dart_of-is map p.0.0 (v, u) p.1) here

  pub fails_lacks : (from : ℕ) → Decides map says from P → (v u : ℕ) → from ≤ v → HasDart map.lists v u → Fails map says v u → ¬ P v u
  fails_lacks from decides v u late has f p =
      let id = h.has_id v u has in
      let d : DartId = record { 0 = id.0 } in
      true≢false (sym ((decides d (live id.0 v u id.1) (late_is from id.0 v u id.1 late) false (f d id.1)).1 (subst (λ (x : Dart). P x.0 x.1) (sym (dart_of-is map id.0 (v, u) id.1)) p)))

  pair_of : (from : ℕ) (found : Option (VertexId × VertexId)) → IsFirstOrNone map says from found → Decides map says from P → ((v u : ℕ) → P v u → (from ≤ v) × HasDart map.lists v u) → MatchOption found ((v u : ℕ) → ¬ P v u) (λ (p : VertexId × VertexId). IsLeastPair P p.0.0 p.1.0)
  pair_of from None f decides inside = λ v u p. let at = inside v u p in fails_lacks from decides v u at.0 at.1 (f v u at.0) p
  pair_of from (Some (v, u)) f decides inside = record {
    before = λ w t less p. let at = inside w t p in fails_lacks from decides w t at.0 at.1 (f.before w t at.0 (inl less)) p;
    rest = record {
      here = passes_has from decides v.0 u.0 f.late f.passes;
      before = λ t less p. let at = inside v.0 t p in fails_lacks from decides v.0 t at.0 at.1 (f.before v.0 t at.0 (inr (refl, less))) p;
    };
  }

  one_of : (v : ℕ) (found : Option VertexId) → IsLeastOrNone map says v found → Decides map says 0 P → MatchOption found ((u : ℕ) → HasDart map.lists v u → ¬ P v u) (λ (u : VertexId). IsLeast (λ x. HasDart map.lists v x × P v x) u.0)
  one_of v None f decides = λ u has p. fails_lacks 0 decides v u (omega arith) has (f u) p
  one_of v (Some u) f decides = record {
    here = (h.is_dart f.0.0.0 v u.0 f.0.1, passes_has 0 decides v u.0 (omega arith) f.0);
    before = λ t less p. fails_lacks 0 decides v t (omega arith) p.0 (f.1 t less) p.1;
  }

  -- the first dart that passes has the least two numbers with the property
  pub least_pair : (from : ℕ) (found : Option (VertexId × VertexId)) → FindsFirst map says from found → Decides map says from P → ((v u : ℕ) → P v u → (from ≤ v) × HasDart map.lists v u) → MatchOption found ((v u : ℕ) → ¬ P v u) (λ (p : VertexId × VertexId). IsLeastPair P p.0.0 p.1.0)
  least_pair from found f = pair_of from found f.first

  -- and the least head from one vertex is the least number
  pub least_one : (v : ℕ) (found : Option VertexId) → FindsLeast map says v found → Decides map says 0 P → MatchOption found ((u : ℕ) → HasDart map.lists v u → ¬ P v u) (λ (u : VertexId). IsLeast (λ x. HasDart map.lists v x × P v x) u.0)
  least_one v found f = one_of v found f.least
