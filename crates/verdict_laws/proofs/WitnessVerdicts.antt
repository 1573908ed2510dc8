-- One verdict on a witness. Its numbers are counted from 1.
use Rattle.std.proofs.Common.{◌≡◌, ◌⊎◌, ◌≤◌, ◌-◌, ℕ, inl, inr, refl, sym, ap, ap₂, subst, ◌∙◌, List, arith}
use Rattle.map_lists.specs.declared.ids.VertexId.{VertexId}
use Rattle.vertex_rounds.specs.Least as ids
use Rattle.graphs.specs.Graphs.{EdgeGraph}
use Rattle.kuratowski.specs.Witnesses.{IsShape}
use Rattle.kuratowski.specs.Faults.{IsBadBranch, LacksEdge, IsShared}
use Rattle.kuratowski.specs.Verdicts.{IsLeast, IsLeastPair, IsLeastTriple, NoBadBranch, LacksNone, IsVerdict}
use Rattle.kuratowski.specs.declared.witness.Kind.{Kind}
use Rattle.kuratowski.specs.declared.check.WitnessVerdict.{WitnessVerdict}
use Rattle.kuratowski.specs.declared.check.WitnessVerdict.TheVariants.{BadShape, BadBranch, NotEdge, Shared, Yes}
use Rattle.kuratowski.proofs.VerdictLemmas.{yes_of_witness}
use Rattle.verdict_laws.specs.AtMostOne.{AtMostOne}
use Rattle.verdict_laws.proofs.Firsts.{IsFirstOr, one_or_others, least_is_one, pair_first, pair_second, triple_first, triple_second, triple_third, same_vertex}

-- least numbers, as other checks have them
least : (P : ℕ → Type 0) (x : ℕ) → IsLeast P x → ids.IsLeast P x
least P x h = record { here = h.here; before = h.before }

least_pair : (P : ℕ → ℕ → Type 0) (x y : ℕ) → IsLeastPair P x y → ids.IsLeastPair P x y
least_pair P x y h = record { before = h.before; rest = least (P x) y h.rest }

least_triple : (P : ℕ → ℕ → ℕ → Type 0) (x y z : ℕ) → IsLeastTriple P x y z → ids.IsLeastTriple P x y z
least_triple P x y z h = record { before = h.before; rest = least_pair (P x) y z h.rest }

-- a number from 1 on, by the number before it
from_one : (i j : ℕ) → 1 ≤ i → 1 ≤ j → i - 1 ≡ j - 1 → i ≡ j
from_one i j l m e = omega (arith, l, m, e)

module _ (graph : EdgeGraph) (kind : Kind) (branch : List VertexId) (paths : List (List VertexId)) where
  -- the verdict is of a kind, with its least numbers
  abbrev Misshapes : WitnessVerdict → Type 0
  Misshapes verdict = (verdict ≡ BadShape) × ¬ IsShape kind branch paths

  abbrev Branches : WitnessVerdict → Type 0
  Branches verdict = (i : ℕ) × (verdict ≡ BadBranch i) × (1 ≤ i) × IsLeast (IsBadBranch graph.n branch) (i - 1)

  abbrev Lacks : WitnessVerdict → Type 0
  Lacks verdict = (p : ℕ) × (i : ℕ) × (verdict ≡ NotEdge p i) × (1 ≤ p) × (1 ≤ i) × IsLeastPair (LacksEdge graph paths) (p - 1) (i - 1)

  abbrev Shares : WitnessVerdict → Type 0
  Shares verdict = (p : ℕ) × (q : ℕ) × (v : VertexId) × (verdict ≡ Shared p q v) × (1 ≤ p) × (1 ≤ q) × IsLeastTriple (IsShared branch paths) (p - 1) (q - 1) v.0

  -- the kinds of fault in turn
  abbrev FromLacks : WitnessVerdict → Type 0
  FromLacks = IsFirstOr WitnessVerdict Lacks (LacksNone graph paths) Shares

  abbrev FromBranches : WitnessVerdict → Type 0
  FromBranches = IsFirstOr WitnessVerdict Branches (NoBadBranch graph.n branch) FromLacks

  abbrev FromShape : WitnessVerdict → Type 0
  FromShape = IsFirstOr WitnessVerdict Misshapes (IsShape kind branch paths) FromBranches

  in_turn : (verdict : WitnessVerdict) → IsVerdict graph kind branch paths verdict → FromShape verdict ⊎ (verdict ≡ Yes)
  in_turn x0 h = grind (arith, BadShape, BadBranch, NotEdge, Shared, Yes)

  -- each kind once
  one_branches : AtMostOne WitnessVerdict Branches
  one_branches v w f g =
      let P = IsBadBranch graph.n branch in
      f.1 ∙ (ap (λ i. BadBranch i) (from_one f.0 g.0 f.2 g.2 (least_is_one P (f.0 - 1) (g.0 - 1) (least P (f.0 - 1) f.3) (least P (g.0 - 1) g.3))) ∙ sym g.1)

  one_lacks : AtMostOne WitnessVerdict Lacks
  one_lacks v w f g = grind (arith, LacksEdge, least_pair, ap₂, NotEdge, from_one, pair_first, pair_second)

  one_shares : AtMostOne WitnessVerdict Shares
  one_shares v w f g =
      let P = IsShared branch paths in
      let a = least_triple P (f.0 - 1) (f.1 - 1) f.2.0 f.6 in
      let b = least_triple P (g.0 - 1) (g.1 - 1) g.2.0 g.6 in
      let p = from_one f.0 g.0 f.4 g.4 (triple_first P (f.0 - 1) (f.1 - 1) f.2.0 (g.0 - 1) (g.1 - 1) g.2.0 a b) in
      let q = from_one f.1 g.1 f.5 g.5 (triple_second P (f.0 - 1) (f.1 - 1) f.2.0 (g.0 - 1) (g.1 - 1) g.2.0 a b) in
      let u = same_vertex f.2 g.2 (triple_third P (f.0 - 1) (f.1 - 1) f.2.0 (g.0 - 1) (g.1 - 1) g.2.0 a b) in
      f.3 ∙ (ap₂ (λ i j. Shared i j f.2) p q ∙ (ap (λ x. Shared g.0 g.1 x) u ∙ sym g.3))

  -- so there is one
  from_lacks : AtMostOne WitnessVerdict FromLacks
  from_lacks = one_or_others WitnessVerdict Lacks (LacksNone graph paths) Shares one_lacks (λ v f none. none (f.0 - 1) (f.1 - 1) f.5.rest.here) one_shares

  from_branches : AtMostOne WitnessVerdict FromBranches
  from_branches = one_or_others WitnessVerdict Branches (NoBadBranch graph.n branch) FromLacks one_branches (λ v f none. none (f.0 - 1) f.3.here) from_lacks

  from_shape : AtMostOne WitnessVerdict FromShape
  from_shape = one_or_others WitnessVerdict Misshapes (IsShape kind branch paths) FromBranches (λ v w f g. f.0 ∙ sym g.0) (λ v f has. f.1 has) from_branches

  pub one_witness_verdict : AtMostOne WitnessVerdict (IsVerdict graph kind branch paths)
  one_witness_verdict v w h g = by (in_turn v h) (in_turn w g)
    where
      by : FromShape v ⊎ (v ≡ Yes) → FromShape w ⊎ (w ≡ Yes) → v ≡ w
      by (inl f) (inl k) = from_shape v w f k
      by (inl f) (inr e) = yes_of_witness graph kind branch paths v h (subst (IsVerdict graph kind branch paths) e g) ∙ sym e
      by (inr e) k = e ∙ sym (yes_of_witness graph kind branch paths w g (subst (IsVerdict graph kind branch paths) e h))
