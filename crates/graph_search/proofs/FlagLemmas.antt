-- Children that are parted tell cut vertices, one by one and by flags.
use Rattle.std.proofs.Common.{◌≡◌, ℕ, ◌<◌, ◌≤◌, Bool, List, [], ◌∷◌, length, get_or, sym, ap, subst, inl, inr, arith}
use Rattle.std.proofs.lemmas.Bool.{cases_lt}
use Rattle.map_lists.specs.Lists.{Lists}
use Rattle.map_theory.specs.Maps.{HasDart, list_of}
use Rattle.graph_search.specs.Forests.{IsAdjacency, IsForestOf}
use Rattle.graph_search.specs.Lows.{AreLows}
use Rattle.graph_search.specs.Cuts.{IsCutVertex, IsLeastCutVertex}
use Rattle.graph_search.specs.Flags.{IsSeparatedChild, IsSeparatedIn, HasSeparatedChild, TellSeparated, AreCutFlags}
use Rattle.graph_search.proofs.WalkLemmas.{Off, linked_weaker, linked_path, path_linked_by}
use Rattle.graph_search.proofs.CutLemmas.{off_one, IsCutVertex-separated, not_IsCutVertex}

-- only a vertex parts others
pub IsCutVertex-within : (lists : Lists) → IsAdjacency lists → (v : ℕ) → IsCutVertex lists v → v < length lists
IsCutVertex-within lists adjacency v cut = grind (arith, cases_lt, length, linked_path, linked_weaker, Off, off_one, path_linked_by)

module _ (lists : Lists) (adjacency : IsAdjacency lists) (order number last parent low : List ℕ) (all : IsForestOf lists order number last parent) (lows : AreLows lists number last low) where
  sized : (m k : ℕ) (v c : ℕ) → m ≡ k → IsSeparatedChild m (λ u. get_or number u 0) (λ u. get_or parent u 0) (λ u. get_or low u 0) v c → IsSeparatedChild k (λ u. get_or number u 0) (λ u. get_or parent u 0) (λ u. get_or low u 0) v c
  sized m k v c e p = subst (λ x. IsSeparatedChild x (λ u. get_or number u 0) (λ u. get_or parent u 0) (λ u. get_or low u 0) v c) e p

  pub IsCutVertex-has : (v : ℕ) → v < length lists → HasSeparatedChild number parent low v (list_of lists v) → IsCutVertex lists v
  IsCutVertex-has v l p = IsCutVertex-separated lists adjacency _ _ _ _ all.forest (λ u. get_or low u 0) lows.at v l p.0 (sized (length number) (length lists) v p.0 all.numbers p.2)

  -- a child is in the list
  pub not_IsCutVertex-none : (v : ℕ) → v < length lists → ¬ HasSeparatedChild number parent low v (list_of lists v) → ¬ IsCutVertex lists v
  not_IsCutVertex-none v l none =
      not_IsCutVertex lists adjacency _ _ _ _ all.forest (λ u. get_or low u 0) lows.at v l (λ c p. none
      (let q = p.vertex in
      let dart : HasDart lists v c = subst (λ x. HasDart lists x c) p.child (all.forest.adjacent c q (let r = p.child in omega arith)) in
      (c, dart.1, sized (length lists) (length number) v c (sym all.numbers) p)))

  pub AreCutFlags-told : (flags : List Bool) → length flags ≡ length lists → TellSeparated lists number parent low flags (length lists) → AreCutFlags lists flags
  AreCutFlags-told flags count told = record {
    count = count;
    yes = λ v l e. IsCutVertex-has v l (told.yes v l e);
    no = λ v l e. not_IsCutVertex-none v l (told.no v l e);
  }

  -- the first vertex with such a child is the least cut vertex, and where there is none, there is no cut vertex
  pub least_separating : (v : ℕ) → v < length lists → HasSeparatedChild number parent low v (list_of lists v) → ((u : ℕ) → u < v → ¬ HasSeparatedChild number parent low u (list_of lists u)) → IsLeastCutVertex lists v
  least_separating v l has before = record {
    is_cut = IsCutVertex-has v l has;
    least = λ u cut. elim (cases_lt u v) [
      | inl less ↦ absurd (not_IsCutVertex-none u (IsCutVertex-within lists adjacency u cut) (before u less) cut)
      | inr le ↦ le
    ];
  }

  pub none_cut : ((v : ℕ) → v < length lists → ¬ HasSeparatedChild number parent low v (list_of lists v)) → (v : ℕ) → ¬ IsCutVertex lists v
  none_cut none v cut = let l = IsCutVertex-within lists adjacency v cut in not_IsCutVertex-none v l (none v l) cut

  -- where no child is parted, no vertex is a cut vertex
  none_separating : ((v u : ℕ) → v < length number → ¬ IsSeparatedIn number parent low v u) → (v : ℕ) → ¬ IsCutVertex lists v
  none_separating none v cut =
      let l = IsCutVertex-within lists adjacency v cut in
      let in_numbers : v < length number = omega (arith, l, all.numbers) in
      not_IsCutVertex-none v l (λ h. none v h.0 in_numbers h.2) cut

  -- a child that is parted has a low point not before its parent, also where that is a top
  separated_low : (v u : ℕ) → v < length number → IsSeparatedIn number parent low v u → get_or number v 0 ≤ get_or low u 0
  separated_low v u l h =
      elim (cases_lt (get_or parent v 0) (length number)) [
        | inl inner ↦ h.from_parent inner
        | inr top ↦
            let f = all.forest in
            let v_in : v < length lists = omega (arith, l, all.numbers) in
            let u_in : u < length lists = omega (arith, h.vertex, all.numbers) in
            let child = h.child in
            let held = f.held u u_in (omega (arith, child, v_in)) in
            elim (cases_lt (get_or low u 0) (length lists)) [
              | inl some ↦
                  let m = (lows.at u u_in).met some in
                  let back = adjacency.both_ways m.1.w m.0 m.1.dart in
                  grind (arith, cases_lt, get_or)
              | inr none ↦ omega (arith, f.numbered v v_in, none)
            ]
      ]

  -- where no child with a low point not before its parent is parted, no vertex is a cut vertex
  pub none_low : ((v u : ℕ) → v < length number → get_or number v 0 ≤ get_or low u 0 → ¬ IsSeparatedIn number parent low v u) → (v : ℕ) → ¬ IsCutVertex lists v
  none_low none = none_separating (λ v u l h. none v u l (separated_low v u l h) h)
