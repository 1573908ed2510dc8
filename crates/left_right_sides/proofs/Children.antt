-- A child's part trimmed in the structure, as an edge of the fork.
use Rattle.std.proofs.Common.{◌≡◌, ℕ, Bool, ltb, List, [], sym, ap, ◌∙◌, subst}
use Rattle.std.specs.Prelude.{Some}
use Rattle.chained_lists.specs.Held.{Holds}
use Rattle.left_right_blocks.specs.Blocks.{Block, edges_in, IsPart}
use Rattle.left_right_blocks.specs.Parts.{blocks_of}
use Rattle.left_right_blocks.specs.Trims.{AreTied, IsTrimmed}
use Rattle.left_right_blocks.specs.Begun.{IsDeepest}
use Rattle.left_right_blocks.specs.States.{IsState, Drops}
use Rattle.left_right_blocks.specs.Forks.{IsForkEdge}
use Rattle.left_right_blocks.specs.declared.blocks.Blocks.{Blocks}
use Rattle.left_right_blocks.proofs.Stated.{state_trimmed}
use Rattle.left_right_sides.specs.Standing.{Rooted, IsPartOf, MatchChild}
use Rattle.left_right_sides.proofs.Finding.{child_edge}

-- ---- a child's part
module _ (height : ℕ → ℕ) (old new : Blocks) (P : ℕ → List Block) (s : IsState old P) (depth low stack depth' stack' : ℕ) (e1 : depth' ≡ depth) (e2 : stack' ≡ stack) where
  pub child_state : new.edges ≡ old.edges → ((lists stacks : ℕ → List ℕ) (k : ℕ) → Holds old.lists lists → Holds old.stacks stacks → AreTied old.edges lists old.ties.items → IsPart height k (blocks_of old.edges lists (stacks stack')) → IsTrimmed height old.edges depth' k stack' lists stacks new.lists new.stacks old.ties.items new.ties.items) → IsPart height low (P stack) → (P' : ℕ → List Block) × (IsState new P' × Drops height depth low stack P P' old.ties.items new.ties.items)
  child_state e trimmed part =
      state_trimmed height old new P s depth low stack e
      (subst (λ d. (lists stacks : ℕ → List ℕ) (k : ℕ) → Holds old.lists lists → Holds old.stacks stacks → AreTied old.edges lists old.ties.items → IsPart height k (blocks_of old.edges lists (stacks stack)) → IsTrimmed height old.edges d k stack lists stacks new.lists new.stacks old.ties.items new.ties.items) e1
      (subst (λ p. (lists stacks : ℕ → List ℕ) (k : ℕ) → Holds old.lists lists → Holds old.stacks stacks → AreTied old.edges lists old.ties.items → IsPart height k (blocks_of old.edges lists (stacks p)) → IsTrimmed height old.edges depth' k p lists stacks new.lists new.stacks old.ties.items new.ties.items) e2 trimmed))
      part

module _ (r : Rooted) (u depth low stack stack' : ℕ) (old new : Blocks) (P P' : ℕ → List Block) (q : IsPartOf r u low (P stack)) (s : IsState new P') (d : Drops r.height depth low stack P P' old.ties.items new.ties.items) (e : stack' ≡ stack) where
  pub child_bare : ((lists stacks : ℕ → List ℕ) (k : ℕ) → Holds new.lists lists → Holds new.stacks stacks → IsPart r.height k (blocks_of new.edges lists (stacks stack')) → stacks stack' ≡ []) → P' stack ≡ []
  child_bare none =
      s.are stack ∙ ap (blocks_of new.edges s.lists) (ap s.stacks (sym e) ∙ none s.lists s.stacks low s.lists_held s.stacks_held (subst (λ p. IsPart r.height low (blocks_of new.edges s.lists (s.stacks p))) (sym e) (subst (IsPart r.height low) (s.are stack) d.part)))

  pub child_some : (deepest : ℕ) (mixed : Bool) → mixed ≡ ltb low deepest → ((lists stacks : ℕ → List ℕ) (k : ℕ) → Holds new.lists lists → Holds new.stacks stacks → IsPart r.height k (blocks_of new.edges lists (stacks stack')) → IsDeepest r.height (edges_in (blocks_of new.edges lists (stacks stack'))) deepest) → MatchChild r stack P' (Some (record { stack = stack'; low = low; mixed = mixed }))
  child_some deepest mixed is found =
      let k = found s.lists s.stacks low s.lists_held s.stacks_held (subst (λ p. IsPart r.height low (blocks_of new.edges s.lists (s.stacks p))) (sym e) (subst (IsPart r.height low) (s.are stack) d.part)) in
      let k' = subst (λ p. IsDeepest r.height (edges_in (blocks_of new.edges s.lists (s.stacks p))) deepest) e k in
      let k'' = subst (λ bs. IsDeepest r.height (edges_in bs) deepest) (sym (s.are stack)) k' in
      (e, subst (λ p. IsForkEdge r.height P' (record { stack = p; low = low; mixed = mixed })) (sym e) (child_edge r u low depth stack P P' old.ties.items new.ties.items q d deepest mixed k'' is))
