-- Components that are joined one after another to that of vertex 0, in the order of their least vertices.
use Rattle.std.proofs.Common.{◌≡◌, ◌≢◌, ℕ, ◌+◌, ◌<◌, ◌≤◌, ltb, if◌then◌else◌, max, List, length, slice_index, ◌==◌, refl, sym, ap, ◌∙◌, inl, inr, arith}
use Rattle.std.proofs.lemmas.Bool.{cases_eq, cases_lt, lt-ltb, le-ltb, eq-eqb, ne_eqb}
use Rattle.classes.specs.Classes.{count_below, label, merge, relabel}
use Rattle.classes.proofs.Classes.{IsLabels, Together-from, same_class-from, label-merge, length-classes}
use Rattle.map_lists.specs.Lists.{Lists}
use Rattle.map_theory.specs.Maps.{darts, HasDart, IsSimpleMap, component_classes, component_count, SameComponent}
use Rattle.map_theory.proofs.DartPermutations.{IsLabels-components, edge_together}
use Rattle.plane_laws.proofs.Completions.{one_component}
use Rattle.plane_laws.proofs.EdgeComponents.{components_merged}
use Rattle.plane_laws.proofs.WithEdge.{with_edge, length-new}
use Rattle.plane_laws.specs.WithEdge.{with_edge_at}
use Rattle.conn_parts.specs.Parts.{PartNumbers, ArePartsOf}
use Rattle.conn_parts.proofs.PartLemmas.{least-from_number}
use Rattle.augment_tri.specs.Growing.{IsPutIn}

-- with the components joined whose least vertices are below v
abbrev pub joined_label : List ℕ → ℕ → ℕ → ℕ
joined_label old v x = if ltb (label old x) v then 0 else label old x

-- the components of the lists are the old ones, of which those with least vertices below v are one
pub record AreJoined (old : List ℕ) (lists : Lists) (v : ℕ) : Type 0 where
  pub labels : (x : ℕ) → x < length lists → label (component_classes lists) x ≡ joined_label old v x

joined_below : (old : List ℕ) (v x : ℕ) → label old x < v → joined_label old v x ≡ 0
joined_below old v x l = rw (lt-ltb (label old x) v l) refl

joined_above : (old : List ℕ) (v x : ℕ) → v ≤ label old x → joined_label old v x ≡ label old x
joined_above old v x l = rw (le-ltb (label old x) v l) refl

module _ (old : List ℕ) (labels : IsLabels old) where
  -- none is joined yet
  pub AreJoined-none : (lists : Lists) → component_classes lists ≡ old → AreJoined old lists 1
  AreJoined-none lists e = grind (arith, label, cases_lt, joined_below, joined_above)

  module _ (lists : Lists) (v : ℕ) (joined : AreJoined old lists v) (some : 0 < v) (in_v : v < length lists) where
    -- the first vertex is joined
    at_first : label (component_classes lists) 0 ≡ 0
    at_first = joined.labels 0 (omega arith) ∙ joined_below old v 0 (omega (arith, labels.low 0))

    -- a least vertex is not joined yet
    pub AreJoined-apart : label old v ≡ v → ¬ SameComponent lists 0 v
    AreJoined-apart own t =
        absurd (omega (arith, joined.labels v in_v ∙ joined_above old v v (omega arith), Together-from (component_classes lists) 0 v t, at_first))

    -- a vertex that is not a least one
    pub AreJoined-skip : label old v < v → AreJoined old lists (v + 1)
    AreJoined-skip below = grind (arith, cases_lt, label, joined_below, joined_above)

    -- a least vertex is joined
    pub AreJoined-more : (new : Lists) → IsSimpleMap lists → label old v ≡ v → IsPutIn lists new 0 v → AreJoined old new (v + 1)
    AreJoined-more new simple own put =
        let C = component_classes lists in
        let apart : 0 ≢ v = omega arith in
        let first_in : 0 < length lists = omega arith in
        let far' : ¬ HasDart lists 0 v = λ h. (AreJoined-apart own) ((same_class-from C 0 v) (edge_together lists simple 0 v h)) in
        let at = with_edge lists 0 put.0 v put.1 simple first_in in_v apart far' put.2 put.3 in
        let grown = with_edge_at lists 0 put.0 v put.1 in
        let merged : component_classes grown ≡ merge (component_classes lists) 0 v =
        components_merged grown at.simple 0 v at.edge ∙ ap (λ ls. merge (component_classes ls) 0 v) at.without in
        let n = length-classes (length lists) (darts lists) in
        record {
          labels = λ x l.
              let in_x : x < length lists = omega (arith, ap length put.4, length-new lists 0 put.0 v put.1 simple first_in in_v apart far' put.2 put.3) in
              ap (λ ls. label (component_classes ls) x) put.4 ∙ (ap (λ c. label c x) merged ∙ (label-merge C 0 v (IsLabels-components lists simple) (omega arith) (omega arith) x
              ∙ (rw (at_first, joined.labels v in_v ∙ (joined_above old v v (omega arith) ∙ own), joined.labels x in_x) (relabelled x))));
        }
      where
        relabelled : (x : ℕ) → relabel 0 v (joined_label old v x) ≡ joined_label old (v + 1) x
        relabelled x = grind (arith, cases_lt, label, joined_below, ne_eqb, max, cases_eq, joined_above, eq-eqb)

  -- all are joined
  pub AreJoined-all : (lists : Lists) (v : ℕ) → IsSimpleMap lists → length lists ≤ v → AreJoined old lists v → component_count lists ≡ 1
  AreJoined-all lists v simple all joined =
      one_component lists simple (λ x l.
      let first = joined.labels 0 (omega arith) ∙ joined_below old v 0 (omega (arith, labels.low 0)) in
      same_class-from (component_classes lists) 0 x (first ∙ sym (joined.labels x l ∙ joined_below old v x (omega (arith, labels.low x)))))

-- where a vertex has the number that comes next, it is not joined to the first one yet
pub next_apart : (first : Lists) (simple : IsSimpleMap first) (parts : PartNumbers) → ArePartsOf first parts → (lists : Lists) (v : ℕ) → AreJoined (component_classes first) lists v → 0 < v → v < length lists → v < length first → slice_index parts.numbers v ≡ count_below (λ u. label (component_classes first) u == u) v → ¬ SameComponent lists 0 v
next_apart first simple parts known lists v joined some in_v old_v e =
    AreJoined-apart (component_classes first) (IsLabels-components first simple) lists v joined some in_v (least-from_number first simple v (sym (known.number v old_v) ∙ e))
