-- The search for the edges of a vertex, child by child, and its part put together from them.
use Rattle.std.proofs.Common.{◌≡◌, ◌≢◌, ◌↔◌, ℕ, ◌+◌, ◌<◌, ◌≤◌, Bool, true, false, List, ◌∷◌, slice_index, sym, ap, ◌∙◌, subst, inl, inr, arith, Contains, []}
use Rattle.std.specs.Prelude.{Option, Some, None}
use Rattle.std.proofs.lemmas.Bool.{true≢false}
use Rattle.chained_lists.proofs.Links.{in_first}
use Rattle.left_right_maps.specs.RootedMaps.{is_child}
use Rattle.left_right_maps.proofs.Lines.{child_is, is_child_from}
use Rattle.left_right_blocks.specs.Blocks.{Block}
use Rattle.left_right_blocks.specs.Steps.{IsSame}
use Rattle.left_right_blocks.specs.States.{IsState, Obeys}
use Rattle.left_right_blocks.specs.Forks.{IsFork, IsForkEdge, MatchGathered}
use Rattle.left_right_blocks.specs.declared.fork_edges.ForkEdge.{ForkEdge}
use Rattle.left_right_blocks.specs.declared.blocks.Blocks.{Blocks}
use Rattle.left_right_blocks.specs.declared.ties.Tie.{Tie}
use Rattle.left_right_blocks.proofs.Eaches.{each_from}
use Rattle.left_right_sides.specs.Standing.{Rooted, IsChildOf, IsPartOf, IsStanding, IsStackOf, IsForkTo, IsNext, IsSearchTree}
use Rattle.left_right_sides.specs.Views.{IsChildFound, AreFoundTo, MatchLooked, MatchPlaced}
use Rattle.left_right_sides.proofs.Finding.{alone_edge, found_none, found_other, found_edge, found_bare, found_child, found_all}
use Rattle.left_right_sides.proofs.Placed.{standing_more, no_sides}

-- what a table says of a child
pub child_told : (r : Rooted) (v u : ℕ) (b : Bool) → u < r.n → b ≡ is_child r.parent r.depth v u → b ≡ true → IsChildOf r v u
child_told r v u b l e t = (l, child_is r.parent r.depth v u (sym e ∙ t))

pub no_child_told : (r : Rooted) (v u : ℕ) (b : Bool) → b ≡ is_child r.parent r.depth v u → b ≡ false → IsChildOf r v u → ⊥
no_child_told r v u b e t c = true≢false (sym (is_child_from r.parent r.depth v u c.1.0 c.1.1) ∙ (sym e ∙ t))

-- no stack is past those of edges and vertices, and those of vertices are of their parents
pub no_such_stack : (r : Rooted) (v p : ℕ) → r.m + r.n ≤ p → IsStackOf r v p → ⊥
no_such_stack r v p far (inl a) = let l = a.0 in omega arith
no_such_stack r v p far (inr a) = let l = a.1.1.0 in let e = a.1.0 in omega arith

pub no_child_stack : (r : Rooted) (v p u : ℕ) (b : Bool) → p ≡ r.m + u → b ≡ is_child r.parent r.depth v u → b ≡ false → IsStackOf r v p → ⊥
no_child_stack r v p u b is e t (inl a) = let l = a.0 in omega arith
no_child_stack r v p u b is e t (inr a) =
    let same : a.0 ≡ u = (let i = a.1.0 in omega arith) in
    no_child_told r v u b e t (subst (IsChildOf r v) same a.1.1)

-- an edge of v that leads upwards, or none
abbrev pub MatchEdgeOf : Rooted → ℕ → ℕ → Option ForkEdge → Type 0
MatchEdgeOf r v p None = ¬ (((r.dart p).0 ≡ v) × ((r.dart p).1 ≢ r.parent v))
MatchEdgeOf r v p (Some d) =
    (((r.dart p).0 ≡ v) × ((r.dart p).1 ≢ r.parent v)) × (d ≡ (record { stack = p; low = r.height p; mixed = false }))

module _ (r : Rooted) (root k v : ℕ) (low : ℕ → ℕ) (P : ℕ → List Block) (ties0 : List Tie) (t : IsSearchTree r root) (s : IsStanding r k low P ties0) (next : IsNext r k v) where
  -- no vertex is a child of itself
  pub no_own_child : (u : ℕ) → IsChildOf r v u → v ≢ u
  no_own_child u c e = (let up_one = t.rising u c.1.0 in let i = ap r.number c.1.1 in let j = ap r.number e in omega arith)

  module _ (p : ℕ) (left : List ℕ) (once : ¬ Contains left p) (old : Blocks) (ds : List ForkEdge) (f : AreFoundTo r v P ties0 old ds (p ∷ left)) where
    -- a stack that is none of v's
    pub other_step : (IsStackOf r v p → ⊥) → AreFoundTo r v P ties0 old ds left
    other_step off = (f.0, (f.1.0, found_other r v P ties0 no_own_child f.0 old.ties.items ds p left once f.1.1 off))

    -- an edge that leads upwards, or not from v
    pub edge_step : (found : Option ForkEdge) → p < r.m → MatchEdgeOf r v p found → MatchLooked r v P ties0 old ds left found
    edge_step None l off =
        other_step (λ k. elim k [ inl a ↦ off a.1 | inr a ↦ (let e = a.1.0 in omega arith) ])
    edge_step (Some d) l up = λ ds' inserted.
        let at : d.stack ≡ p = ap (λ (z : ForkEdge). z.stack) up.1 in
        let early : r.number (r.dart p).0 + k < r.n = (let e = ap r.number up.0.0 in let n = next.1 in omega arith) in
        let same : f.0 p ≡ P p = f.1.1.others p (λ u c away e. omega arith) in
        let here : f.0 p ≡ (record { one = p ∷ []; other = [] }) ∷ [] = same ∙ s.fresh p l early in
        let fe : IsForkEdge r.height f.0 d = subst (IsForkEdge r.height f.0) (sym up.1) (alone_edge r.height f.0 p here) in
        let i = inserted f.1.1.nested (each_from (λ (e : ForkEdge). e.stack ≢ d.stack) ds (λ e c z. (f.1.1.kinds e c).1 (subst (Contains (p ∷ left)) (sym (z ∙ at)) (in_first p left)))) in
        (f.0, (f.1.0, found_edge r v P ties0 no_own_child f.0 old.ties.items ds p left once f.1.1 ds' d l at (inl (l, up.0)) fe i.nested i.told))

    -- a child's part is as it was
    pub part_still : (u low_u : ℕ) → p ≡ r.m + u → IsChildOf r v u → low_u ≡ low u → IsPartOf r u low_u (f.0 (r.m + u))
    part_still u low_u is c e =
        subst (λ z. IsPartOf r u z (f.0 (r.m + u))) (sym e)
        (subst (IsPartOf r u (low u)) (sym (f.1.1.others (r.m + u) (λ w h away i. away (subst (Contains (p ∷ left)) (is ∙ i) (in_first p left)))))
        (let up_one = t.rising u c.1.0 in let i = ap r.number c.1.1 in let j = next.1 in s.top u c.0 (omega arith) (λ some. omega arith)))

    -- it was trimmed
    pub child_step : (new : Blocks) (u low_u : ℕ) (found : Option ForkEdge) → p ≡ r.m + u → IsChildOf r v u → IsChildFound r (r.depth v) low_u (r.m + u) f.0 old new found → MatchLooked r v P ties0 new ds left found
    child_step new u low_u None is c h =
        (h.0, (h.1.0, found_bare r v P ties0 no_own_child f.0 old.ties.items ds p left once f.1.1 u low_u c (sym is) h.0 new.ties.items h.1.1.0 h.1.1.1))
    child_step new u low_u (Some d) is c h = λ ds' inserted.
        let at : d.stack ≡ r.m + u = h.1.1.1.0 in
        let i = inserted f.1.1.nested (each_from (λ (e : ForkEdge). e.stack ≢ d.stack) ds (λ e k z. (f.1.1.kinds e k).1 (subst (Contains (p ∷ left)) (is ∙ sym (z ∙ at)) (in_first p left)))) in
        (h.0, (h.1.0, found_child r v P ties0 no_own_child f.0 old.ties.items ds p left once f.1.1 u low_u c (sym is) h.0 new.ties.items h.1.1.0 ds' d at h.1.1.1.1 i.nested i.told))

  -- nothing looked at
  pub none_looked : (blocks : Blocks) (ties : List Tie) (left : List ℕ) → IsState blocks P → blocks.ties.items ≡ ties0 → ((p : ℕ) → IsStackOf r v p → Contains left p) → AreFoundTo r v P ties0 blocks [] left
  none_looked blocks ties left state same whole =
      (P, (state, subst (λ us. IsForkTo r v P P ties0 us [] left) (sym same) (found_none r v P ties0 no_own_child left whole)))

  -- the part of v
  pub placed : (new last : Blocks) (ds : List ForkEdge) (lows : List ℕ) (ok : Bool) → AreFoundTo r v P ties0 new ds [] → IsSame new last → ((Q : ℕ → List Block) → IsState new Q → IsFork r.height (r.m + v) Q ds → MatchGathered r.height (r.m + v) Q last ds ok) → ((u : ℕ) → u ≢ v → slice_index lows u ≡ low u) → ((d : ForkEdge) (rest : List ForkEdge) → ds ≡ d ∷ rest → slice_index lows v ≡ d.low) → MatchPlaced r (k + 1) lows last ok
  placed new last ds lows true f same gathered others here =
      let all = found_all r v P ties0 no_own_child f.0 new.ties.items ds next.0 f.1.1 (s.early v next.0 (let i = next.1 in omega arith)) in
      let g = gathered f.0 f.1.0 all.fork in
      (g.0, (g.1.0, standing_more r root t.tree t.upward t.only t.all_edges t.rising t.apart t.height_is k v low P ties0 s next.0 next.1 f.0 ds all g.0 last.ties.items (slice_index lows) (λ side. subst (λ us. Obeys side P ties0 ↔ Obeys side f.0 us) (sym same.ties) (f.1.1.told side)) g.1.1 others here))
  placed new last ds lows false f same gathered others here =
      let all = found_all r v P ties0 no_own_child f.0 new.ties.items ds next.0 f.1.1 (s.early v next.0 (let i = next.1 in omega arith)) in
      no_sides r root t.tree t.upward t.only t.all_edges t.rising t.apart t.height_is k v low P ties0 s next.0 next.1 f.0 ds all last.ties.items (λ side. subst (λ us. Obeys side P ties0 ↔ Obeys side f.0 us) (sym same.ties) (f.1.1.told side)) (gathered f.0 f.1.0 all.fork)

  -- the same by the call's own names for v and for the edges
  pub placed_so : (new last : Blocks) (ds one two : List ForkEdge) (w : ℕ) (lows : List ℕ) (ok : Bool) → w ≡ v → one ≡ ds → two ≡ ds → AreFoundTo r v P ties0 new ds [] → IsSame new last → ((Q : ℕ → List Block) → IsState new Q → IsFork r.height (r.m + w) Q two → MatchGathered r.height (r.m + w) Q last two ok) → ((u : ℕ) → u ≢ v → slice_index lows u ≡ low u) → ((d : ForkEdge) (rest : List ForkEdge) → one ≡ d ∷ rest → slice_index lows v ≡ d.low) → MatchPlaced r (k + 1) lows last ok
  placed_so new last ds one two w lows ok ew e1 e2 f same gathered others here =
      placed new last ds lows ok f same
      (subst (λ es. (Q : ℕ → List Block) → IsState new Q → IsFork r.height (r.m + v) Q es → MatchGathered r.height (r.m + v) Q last es ok) e2
      (subst (λ z. (Q : ℕ → List Block) → IsState new Q → IsFork r.height (r.m + z) Q two → MatchGathered r.height (r.m + z) Q last two ok) ew gathered))
      others (λ d rest e. here d rest (e1 ∙ e))
