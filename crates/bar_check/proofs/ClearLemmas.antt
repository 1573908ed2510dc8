-- The sweep over the bars from below.
use Rattle.std.proofs.Common.{◌≡◌, ◌⊎◌, ℕ, ◌+◌, ◌<◌, ◌≤◌, Bool, true, false, cond, List, length, get_or, Some, ℤ, pos, refl, sym, ap, ◌∙◌, subst, inl, inr, ⊎_elim, arith}
use Rattle.std.proofs.lemmas.Bool.{cases_lt, cases_order, lt-ltb, le-ltb}
use Rattle.std.proofs.lemmas.Int.{ints}
use Rattle.map_lists.specs.Lists.{Lists}
use Rattle.map_theory.specs.Maps.{Dart}
use Rattle.half_edges.specs.Map.{Map, IsLive, dart_at}
use Rattle.pg_plane.specs.declared.figures.BarFigure.{BarFigure}
use Rattle.vertex_rounds.specs.Rounds.{HasEdge, dart_of}
use Rattle.vertex_rounds.proofs.DartIds.{dart_of-is}
use Rattle.drawings.specs.Bars.{number_at, column_of, column_between, Holds, IsStruck}
use Rattle.bar_check.specs.Verdicts.{HasHeights}
use Rattle.bar_check.proofs.HeightLemmas.{natural_is}
use Rattle.bar_check.specs.Tables.{AreClear, HasTops, IsSeen, DoGoRight, StandsAt}

module _ (lists : Lists) (fig : BarFigure) (heights : HasHeights lists fig) where
  -- no bar stands between that of v, at height h, and one that is seen below
  pub seen-clear : (h : ℕ) (tops : List ℕ) (v u : ℕ) (x : ℤ) → HasTops (length lists) fig h tops → number_at fig.y v ≡ pos h → IsSeen fig h tops x u → (w : ℕ) → w < length lists → ¬ IsStruck fig v u x w
  seen-clear h tops v u x all at seen w lw struck =
      let k = natural_is (number_at fig.y w) (heights w lw).low in
      let j = natural_is x seen.top.column in
      let top = seen.top.top j.0 j.1 in
      ⊎_elim
      (λ p. let a = p.0 in let b = p.1 in omega (arith, ints, at, seen.below))
      (λ p. let a = p.0 in let b = p.1 in
      let low : k.0 < h = omega (arith, ints, at, k.1) in
      omega (arith, ints, k.1, all.each w j.0 k.0 lw k.1 low (subst (Holds fig w) j.1 struck.holds) top.0)) struck.between

  -- one bar more, at height h
  pub HasTops-more : (h v : ℕ) (tops tops' : List ℕ) (left right : ℕ) → DoGoRight (length lists) fig → StandsAt (length lists) fig h v → pos left ≡ number_at fig.x1 v → pos right ≡ number_at fig.x2 v → HasTops (length lists) fig h tops → length tops' ≡ length tops
      → ((k : ℕ) → left ≤ k → k ≤ right → k < length tops' → get_or tops' k 0 ≡ h + 1) → ((k : ℕ) → (k < left) ⊎ (right < k) → get_or tops' k 0 ≡ get_or tops k 0) → HasTops (length lists) fig (h + 1) tops'
  HasTops-more h v tops tops' left right go at l r all size inside outside = grind (arith, cases_lt, length, number_at, pos, cases_order, Holds, get_or, ints)

module _ (map : Map) (fig : BarFigure) where
  -- one mark more
  pub AreClear-more : (clear clear' : List Bool) (d : ℕ) → AreClear map fig clear → ((w : ℕ) → w < length map.lists → ¬ IsStruck fig (dart_of map d).0 (dart_of map d).1 (column_between map.lists fig (dart_of map d).0 (dart_of map d).1) w)
      → ((e : ℕ) → get_or clear' e false ≡ true → (e ≡ d) ⊎ (get_or clear e false ≡ true)) → AreClear map fig clear'
  AreClear-more clear clear' d all here marked = record {
    each = λ e w live is lw. ⊎_elim
        (λ s. subst (λ z. ¬ IsStruck fig (dart_of map z).0 (dart_of map z).1 (column_between map.lists fig (dart_of map z).0 (dart_of map z).1) w) (sym s) (here w lw))
        (λ old. all.each e w live old lw) (marked e is);
  }

  -- what a mark at either dart says of the edge
  pub clear_up : (clear : List Bool) (a b d : ℕ) → AreClear map fig clear → HasEdge map.lists a b → dart_at map d ≡ Some (a, b) → get_or clear d false ≡ true → (w : ℕ) → w < length map.lists → ¬ IsStruck fig a b (column_of map.lists fig a b) w
  clear_up clear a b d all edge at marked w lw struck =
      let is = dart_of-is map d (a, b) at in
      let live : IsLive map d = rw at refl in
      all.each d w live marked lw (subst (λ (x : Dart). IsStruck fig x.0 x.1 (column_between map.lists fig x.0 x.1) w) (sym is)
      (subst (λ x. IsStruck fig a b x w) (sym (ap (λ t. cond t (column_of map.lists fig a b) (column_of map.lists fig b a)) (lt-ltb a b edge.0))) struck))

  pub clear_down : (clear : List Bool) (a b d : ℕ) → AreClear map fig clear → HasEdge map.lists a b → dart_at map d ≡ Some (b, a) → get_or clear d false ≡ true → (w : ℕ) → w < length map.lists → ¬ IsStruck fig a b (column_of map.lists fig a b) w
  clear_down clear a b d all edge at marked w lw struck = grind (arith, dart_of-is, IsLive, Dart, IsStruck, column_between, cond, column_of, le-ltb)
