-- What one graph writes to the rows leaves those of the others.
use Rattle.std.proofs.Common.{ℕ, suc, ◌-◌, ◌<◌, ◌≡◌, ◌≢◌, inl, inr, ⊎_elim, List, ℤ, length, slice_range, ap, ◌∙◌, subst, arith}
use Rattle.map_lists.specs.Cuts.{AreCuts}
use Rattle.pigale_c.specs.ManyMaps.{IsChangedWithin, begin_of}
use Rattle.pigale_c.specs.ManyGraphs.{EmbedRows, AreGivenGraphs, rows_in, rows_of_graph, end_of_graph, entry_of_graph}
use Rattle.pigale_c.specs.Embedded.{IsEmbedded}
use Rattle.pigale_c.specs.declared.edges.EdgeEnds.{EdgeEnds}
use Rattle.pigale_c.specs.declared.outcome.Outcome.{Outcome}
use Rattle.pigale_c.proofs.ManyLemmas.{begins_rise, kept_apart, less_or_more, part_kept}

ends_kept : (ends : List ℕ) (total i k from to : ℕ) (xs ys : List ℕ) → AreCuts 0 ends total → i ≢ k → i < length ends → k < length ends → from ≡ end_of_graph ends k → to ≡ end_of_graph ends (suc k) → IsChangedWithin from to xs ys
    → slice_range ys (end_of_graph ends i) (end_of_graph ends (suc i)) ≡ slice_range xs (end_of_graph ends i) (end_of_graph ends (suc i))
ends_kept ends total i k from to xs ys cuts other l m begins end h =
    kept_apart from to (end_of_graph ends i) (end_of_graph ends (suc i)) xs ys h
    (⊎_elim
    (λ less. inl (omega (arith, (begins_rise ends total (suc i) k cuts less (omega (arith, m))).0, begins, less)))
    (λ more. inr (omega (arith, (begins_rise ends total (suc k) i cuts more (omega (arith, l))).0, end, more)))
    (less_or_more i k other))

neighbours_kept : (ends : List ℕ) (total i k from to : ℕ) (xs ys : List ℕ) → AreCuts 0 ends total → i ≢ k → i < length ends → k < length ends → from ≡ entry_of_graph ends k → to ≡ entry_of_graph ends (suc k) → IsChangedWithin from to xs ys
    → slice_range ys (entry_of_graph ends i) (entry_of_graph ends (suc i)) ≡ slice_range xs (entry_of_graph ends i) (entry_of_graph ends (suc i))
neighbours_kept ends total i k from to xs ys cuts other l m begins end h =
    kept_apart from to (entry_of_graph ends i) (entry_of_graph ends (suc i)) xs ys h
    (⊎_elim
    (λ less. inl (omega (arith, (begins_rise ends total (suc i) k cuts less (omega (arith, m))).0, begins)))
    (λ more. inr (omega (arith, (begins_rise ends total (suc k) i cuts more (omega (arith, l))).0, end)))
    (less_or_more i k other))

same_rows : (a a' b b' : List ℕ) (c c' d d' : List ℤ) → a ≡ a' → b ≡ b' → c ≡ c' → d ≡ d' → rows_in a b c d ≡ rows_in a' b' c' d'
same_rows a a' b b' c c' d d' e f g h =
    ap (λ (z : List ℕ). rows_in z b c d) e ∙ ap (λ (z : List ℕ). rows_in a' z c d) f ∙ ap (λ (z : List ℤ). rows_in a' b' z d) g ∙ ap (λ (z : List ℤ). rows_in a' b' c' z) h

-- where a part begins and ends, and that only this part of a row changed
pub record IsPartChanged {A : Type 0} (begins ends from to : ℕ) (old new : List A) : Type 0 where
  pub from_is : from ≡ begins
  pub to_is : to ≡ ends
  pub within : IsChangedWithin from to old new

-- graph k has written its parts of four rows
pub record AreRowsChanged (vertex_ends edge_ends : List ℕ) (k from to start end first last : ℕ) (old new : EmbedRows) : Type 0 where
  pub ends : IsPartChanged (end_of_graph vertex_ends k) (end_of_graph vertex_ends (suc k)) start end old.ends new.ends
  pub neighbours : IsPartChanged (entry_of_graph edge_ends k) (entry_of_graph edge_ends (suc k)) first last old.neighbours new.neighbours
  pub xs : IsPartChanged (begin_of vertex_ends k) (begin_of vertex_ends (suc k)) from to old.xs new.xs
  pub ys : IsPartChanged (begin_of vertex_ends k) (begin_of vertex_ends (suc k)) from to old.ys new.ys

pub rows_kept : (vertex_ends edge_ends : List ℕ) (edges : List EdgeEnds) (points room entries i k from to start end first last : ℕ) (old new : EmbedRows) → AreGivenGraphs vertex_ends edge_ends edges points room entries → i ≢ k → i < length vertex_ends → k < length vertex_ends
    → AreRowsChanged vertex_ends edge_ends k from to start end first last old new → rows_of_graph vertex_ends edge_ends new i ≡ rows_of_graph vertex_ends edge_ends old i
rows_kept vertex_ends edge_ends edges points room entries i k from to start end first last old new given other l m h =
    same_rows _ _ _ _ _ _ _ _
    (ends_kept vertex_ends points i k start end old.ends new.ends given.vertices other l m h.ends.from_is h.ends.to_is h.ends.within)
    (neighbours_kept edge_ends (length edges) i k first last old.neighbours new.neighbours given.edges_cut other (omega (arith, l, given.graphs)) (omega (arith, m, given.graphs)) h.neighbours.from_is h.neighbours.to_is h.neighbours.within)
    (part_kept vertex_ends points i k from to old.xs new.xs given.vertices other l m h.xs.from_is h.xs.to_is h.xs.within)
    (part_kept vertex_ends points i k from to old.ys new.ys given.vertices other l m h.ys.from_is h.ys.to_is h.ys.within)

-- an answer with other names for the parts that it is of
pub embeds_as : (edges edges' : List EdgeEnds) (a a' b b' c c' d d' e e' f f' : ℕ) (old new : EmbedRows) (outcome : Outcome) → edges ≡ edges' → a ≡ a' → b ≡ b' → c ≡ c' → d ≡ d' → e ≡ e' → f ≡ f'
    → IsEmbedded (b - a) edges (slice_range old.ends c d) (slice_range old.neighbours e f) (slice_range old.xs a b) (slice_range old.ys a b) (slice_range new.ends c d) (slice_range new.neighbours e f) (slice_range new.xs a b) (slice_range new.ys a b) outcome
    → IsEmbedded (b' - a') edges' (slice_range old.ends c' d') (slice_range old.neighbours e' f') (slice_range old.xs a' b') (slice_range old.ys a' b') (slice_range new.ends c' d') (slice_range new.neighbours e' f') (slice_range new.xs a' b') (slice_range new.ys a' b') outcome
embeds_as edges edges' a a' b b' c c' d d' e e' f f' old new outcome same p q r s t u h =
    subst (λ (x : List EdgeEnds). Of x a' b' c' d' e' f') same
    (subst (λ (x : ℕ). Of edges x b' c' d' e' f') p
    (subst (λ (x : ℕ). Of edges a x c' d' e' f') q
    (subst (λ (x : ℕ). Of edges a b x d' e' f') r
    (subst (λ (x : ℕ). Of edges a b c x e' f') s
    (subst (λ (x : ℕ). Of edges a b c d x f') t
    (subst (λ (x : ℕ). Of edges a b c d e x) u h))))))
  where
    Of : List EdgeEnds → ℕ → ℕ → ℕ → ℕ → ℕ → ℕ → Type 0
    Of these from to start end first last = IsEmbedded (to - from) these (slice_range old.ends start end) (slice_range old.neighbours first last) (slice_range old.xs from to) (slice_range old.ys from to) (slice_range new.ends start end) (slice_range new.neighbours first last) (slice_range new.xs from to) (slice_range new.ys from to) outcome

-- an answer with other names for what is written
pub embeds_with : (n : ℕ) (edges : List EdgeEnds) (ends neighbours : List ℕ) (xs ys : List ℤ) (a a' b b' : List ℕ) (c c' d d' : List ℤ) (outcome : Outcome) → a ≡ a' → b ≡ b' → c ≡ c' → d ≡ d' → IsEmbedded n edges ends neighbours xs ys a b c d outcome → IsEmbedded n edges ends neighbours xs ys a' b' c' d' outcome
embeds_with n edges ends neighbours xs ys a a' b b' c c' d d' outcome e f g h answer =
    subst (λ (z : List ℕ). IsEmbedded n edges ends neighbours xs ys z b' c' d' outcome) e
    (subst (λ (z : List ℕ). IsEmbedded n edges ends neighbours xs ys a z c' d' outcome) f
    (subst (λ (z : List ℤ). IsEmbedded n edges ends neighbours xs ys a b z d' outcome) g
    (subst (λ (z : List ℤ). IsEmbedded n edges ends neighbours xs ys a b c z outcome) h answer)))
