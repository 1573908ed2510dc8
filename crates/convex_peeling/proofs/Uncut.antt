-- Where all faces are triangles, no vertex cuts: what goes along all darts off a vertex is so of each of its neighbours, or of none.
use Rattle.std.proofs.Common.{◌≡◌, ◌≢◌, ℕ, Bool, true, [], ◌∷◌, Contains, sym, ap, ◌∙◌, subst, inl, inr}
use Rattle.std.proofs.lemmas.Bool.{cases_Bool, cases_eq, true≢false}
use Rattle.map_lists.specs.Lists.{Lists}
use Rattle.map_theory.specs.Maps.{Dart, HasDart, IsSimpleMap, list_of, follows, face_step}
use Rattle.map_theory.proofs.EntryLemmas.{Contains-here}
use Rattle.map_theory.proofs.DartLemmas.{HasDart-face_step}
use Rattle.plane_laws.specs.Laws.{IsTriangle}
use Rattle.plane_laws.proofs.ComponentPaths.{JoinsAvoiding-fewer}
use Rattle.graph_search.specs.Cuts.{AreSeparated, IsCutVertex}
use Rattle.graph_search.proofs.ForestLemmas.{IsAdjacency-simple}
use Rattle.graph_search.proofs.WalkLemmas.{Off, linked_path, walks_keep}
use Rattle.graph_search.proofs.CutLemmas.{ne_off, off_one}
use Rattle.graph_search.proofs.PairLemmas.{AreBoth-pair}
use Rattle.convex_peeling.proofs.Sides.{IsSide, ring_changes, side_of}

module _ (lists : Lists) (simple : IsSimpleMap lists) (triangles : (u v : ℕ) → HasDart lists u v → IsTriangle lists (u, v)) where
  -- a neighbour and the one behind it are adjacent
  ring_dart : (v z : ℕ) → HasDart lists v z → HasDart lists (follows lists v z) z
  ring_dart v z has =
      let d : Dart = (z, v) in
      let in_ = simple.both_ways v z has in
      let two = HasDart-face_step lists (face_step lists d) simple (HasDart-face_step lists d simple in_) in
      subst (HasDart lists (follows lists v z)) (ap (λ (d : Dart). d.0) (triangles z v in_)) two

  apart : (v z : ℕ) → HasDart lists v z → z ≢ v
  apart v z has = simple.no_loop v z has

  -- what is so of one neighbour is so of each
  all_alike : (v : ℕ) (side : ℕ → Bool) → IsSide lists v v side → (a b : ℕ) → HasDart lists v a → HasDart lists v b → side a ≡ true → side b ≡ true
  all_alike v side h a b has_a has_b at_a =
      elim (cases_Bool (side b)) [
        | inl t ↦ t
        | inr f ↦
            let found = ring_changes side (list_of lists v) a b (simple.no_repeat v has_a.0) has_a.1 has_b.1 at_a f in
            let z = found.0 in
            let has : HasDart lists v z = (has_a.0, found.1) in
            let next = follows lists v z in
            let next_has = HasDart-face_step lists (z, v) simple (simple.both_ways v z has) in
            let same = h.along next z (ring_dart v z has) (apart v next next_has) (apart v next next_has) (apart v z has) (apart v z has) in
            absurd (true≢false (sym found.2 ∙ (sym same ∙ found.3)))
      ]

  -- nor does a vertex cut where some edges are missing, if what goes along the others goes along these
  pub uncut_within : (fewer : Lists) → IsSimpleMap fewer → ((x y : ℕ) → HasDart fewer x y → HasDart lists x y) → (v : ℕ) → ((side : ℕ → Bool) → IsSide fewer v v side → IsSide lists v v side) → ¬ IsCutVertex fewer v
  uncut_within fewer simple' kept v sides cut =
      let s = cut.0 in
      let t = cut.1 in
      let one : AreSeparated fewer (v ∷ []) s t = cut.2 in
      let twice : (x : ℕ) → Contains (v ∷ v ∷ []) x → Contains (v ∷ []) x = λ x c.
      elim ((AreBoth-pair v v).cases x c) [ inl e ↦ subst (Contains (v ∷ [])) (sym e) (Contains-here v []) | inr e ↦ subst (Contains (v ∷ [])) (sym e) (Contains-here v []) ] in
      let once : (x : ℕ) → Contains (v ∷ []) x → Contains (v ∷ v ∷ []) x = λ x c.
      elim (cases_eq x v) [ inl e ↦ subst (Contains (v ∷ v ∷ [])) (sym e) (AreBoth-pair v v).one | inr ne ↦ absurd (off_one v x ne c) ] in
      let both : AreSeparated fewer (v ∷ v ∷ []) s t = record {
        s_off = λ c. one.s_off (twice s c);
        t_off = λ c. one.t_off (twice t c);
        path = one.path;
        joined = one.joined;
        apart = λ other j. one.apart other (JoinsAvoiding-fewer fewer (v ∷ v ∷ []) (v ∷ []) s t other once j);
      } in
      let found = side_of fewer simple' v v s t both in
      let h : IsSide lists v v found.0 = sides found.0 found.1 in
      let P : ℕ → Type 0 = λ x. (x ≢ v → found.0 x ≡ true) × (x ≡ v → (z : ℕ) → HasDart lists v z → found.0 z ≡ true) in
      let adjacency = IsAdjacency-simple fewer simple' in
      let walk = linked_path fewer adjacency [] s t one.path one.joined in
      let step : (x y : ℕ) → HasDart fewer x y → Off [] y → P x → P y = λ x y has off p.
      elim (cases_eq x v) [
        | inl e ↦
            let from : HasDart lists v y = subst (λ z. HasDart lists z y) e (kept x y has) in
            ((λ ne. p.1 e y from), λ at. absurd (apart v y from at))
        | inr ne ↦ (
          (λ ne'. sym (h.along x y (kept x y has) ne ne ne' ne') ∙ p.0 ne),
          λ at z to. all_alike v found.0 h x z (simple.both_ways x v (subst (HasDart lists x) at (kept x y has))) to (p.0 ne),
        )
      ] in
      let end = walks_keep fewer adjacency (Off []) P step walk.0 s t walk.1 ((λ ne. found.2), λ e. absurd (ne_off v s one.s_off e)) in
      true≢false (sym (end.0 (ne_off v t one.t_off)) ∙ found.3)

  pub uncut : (v : ℕ) → ¬ IsCutVertex lists v
  uncut v = uncut_within lists simple (λ x y has. has) v (λ side h. h)
