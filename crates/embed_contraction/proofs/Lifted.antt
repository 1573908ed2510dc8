-- A witness lifted: mended at x, or with x and y exchanged, or else K5 split.
use Rattle.std.proofs.Common.{◌≡◌, ◌≢◌, ◌⊎◌, ℕ, zero, suc, ◌+◌, ◌-◌, ◌<◌, ◌≤◌, true, false, eqb, length, refl, sym, ap, ap₂, ◌∙◌, inl, inr, arith}
use Rattle.std.proofs.lemmas.Bool.{cases_eq, true≢false, eqb-true, or_cases, and_parts}
use Rattle.std.proofs.lemmas.Bool.Decides.{nat_tests}
use Rattle.graphs.specs.Graphs.{EdgeGraph, has_edge}
use Rattle.graphs.proofs.EdgeLemmas.{has_edge-turned}
use Rattle.graphs.proofs.BitLemmas.{below_six}
use Rattle.kuratowski.specs.Witnesses.{branch_count, pair_at, vertex_at, path_at}
use Rattle.kuratowski.specs.declared.witness.Kind.{Kind}
use Rattle.kuratowski.specs.declared.witness.Kind.TheVariants.{K5, K33}
use Rattle.embed_contraction.specs.Traces.{path_count, HasWitness}
use Rattle.embed_contraction.proofs.Numbers.{each_of_three, each_of_five}
use Rattle.embed_contraction.proofs.Traces.{pairs_within}
use Rattle.embed_contraction.proofs.Parts.{all_or_one}
use Rattle.embed_contraction.specs.Contracted.{IsContractedBy, IsEdgeOf, LiftedWitness, before_left, LiftedContraction}
use Rattle.embed_contraction.proofs.Frames.{IsFrame, HasSteps, frame-map, frame-witness, exchanged, exchanged-first, exchanged-other, exchanged-apart, exchanged-within}
use Rattle.embed_contraction.proofs.BadSteps.{StepsAt, IsBadStep, AreTwoBad, mended_or_two}
use Rattle.embed_contraction.proofs.AtVertex.{step_apart, IsAt, far, far_second, far_first, three_steps, four_steps, end_step, one_step, three_paths}
use Rattle.embed_contraction.proofs.Links.{number, number-pair, link_number, link_number-up, link_number-down, link, link-up, link-down}
use Rattle.embed_contraction.proofs.Separations.{separated}

-- a step at x that leads to a neighbour of the one end of the edge, and not of the other
pub record IsLone (graph : EdgeGraph) (kind : Kind) (branch size : ℕ → ℕ) (way : ℕ → ℕ → ℕ) (frame : IsFrame graph.n kind branch size way) (x no yes' p i : ℕ) : Type 0 where
  pub at : IsAt graph.n kind branch size way frame x p i
  pub lacks : has_edge graph no (far graph.n kind branch size way frame x p i) ≡ false
  pub has : has_edge graph yes' (far graph.n kind branch size way frame x p i) ≡ true

-- two such steps
pub record AreTwoLone (graph : EdgeGraph) (kind : Kind) (branch size : ℕ → ℕ) (way : ℕ → ℕ → ℕ) (frame : IsFrame graph.n kind branch size way) (x no yes' : ℕ) : Type 0 where
  pub p : ℕ
  pub i : ℕ
  pub q : ℕ
  pub k : ℕ
  pub one : IsLone graph kind branch size way frame x no yes' p i
  pub other : IsLone graph kind branch size way frame x no yes' q k
  pub two : (p ≡ q) × (i ≡ k) → ⊥

module _ (graph : EdgeGraph) (kind : Kind) (branch size : ℕ → ℕ) (way : ℕ → ℕ → ℕ) (frame : IsFrame graph.n kind branch size way) (x y : ℕ) (edge : IsEdgeOf graph x y) (off : (p i : ℕ) → p < path_count kind → i ≤ size p → way p i ≢ y) (no_branch : (j : ℕ) → j < branch_count kind → branch j ≢ y) (steps : HasSteps kind size way (StepsAt graph x y)) where
  abbrev s : ℕ → ℕ
  s v = exchanged x y v

  abbrev Far : ℕ → ℕ → ℕ
  Far p i = far graph.n kind branch size way frame x p i

  -- ---- with x and y exchanged
  pub frame' : IsFrame graph.n kind (λ j. s (branch j)) size (λ p i. s (way p i))
  frame' = frame-map graph.n graph.n kind branch size way s (exchanged-within graph.n x y edge.first edge.second) (exchanged-apart x y edge.two) frame

  s_not_x : (v : ℕ) → v ≢ y → s v ≢ x
  s_not_x v n e = grind (arith, cases_eq, exchanged-first, exchanged-other)

  pub off' : (p i : ℕ) → p < path_count kind → i ≤ size p → s (way p i) ≢ x
  off' p i l m = s_not_x (way p i) (off p i l m)

  pub no_branch' : (j : ℕ) → j < branch_count kind → s (branch j) ≢ x
  no_branch' j l = s_not_x (branch j) (no_branch j l)

  -- what the exchange does to the ends of a step
  first_at : (p i : ℕ) → p < path_count kind → i < size p → way p i ≡ x → (s (way p i) ≡ y) × (s (way p (suc i)) ≡ way p (suc i)) × (way p (suc i) ≢ x)
  first_at p i l m e =
      let n : way p (suc i) ≢ x = λ q. step_apart graph.n kind branch size way frame p i l m (e ∙ sym q) in
      (exchanged-first x y (way p i) e, exchanged-other x y (way p (suc i)) n (off p (suc i) l m), n)

  second_at : (p i : ℕ) → p < path_count kind → i < size p → way p (suc i) ≡ x → (s (way p i) ≡ way p i) × (s (way p (suc i)) ≡ y) × (way p i ≢ x)
  second_at p i l m e =
      let n : way p i ≢ x = λ q. step_apart graph.n kind branch size way frame p i l m (q ∙ sym e) in
      (exchanged-other x y (way p i) n (off p i l (omega arith)), exchanged-first x y (way p (suc i)) e, n)

  neither_at : (p i : ℕ) → p < path_count kind → i < size p → way p i ≢ x → way p (suc i) ≢ x → (s (way p i) ≡ way p i) × (s (way p (suc i)) ≡ way p (suc i)) × (has_edge graph (way p i) (way p (suc i)) ≡ true)
  neither_at p i l m n n' = grind (arith, exchanged-other)

  pub steps' : HasSteps kind size (λ p i. s (way p i)) (StepsAt graph y x)
  steps' p i l m = grind (arith, cases_eq, first_at, has_edge, ap₂, second_at, neither_at)

  -- ---- the steps that are no edges
  lone_y : (p i : ℕ) → IsBadStep graph kind size way p i → IsLone graph kind branch size way frame x x y p i
  lone_y p i bad = grind (arith, true≢false, far_second, has_edge, far_first, second_at, has_edge-turned)

  lone_x : (p i : ℕ) → IsBadStep graph kind size (λ p i. s (way p i)) p i → IsLone graph kind branch size way frame x y x p i
  lone_x p i bad = grind (arith, cases_eq, first_at, far_second, has_edge, ap₂, true≢false, second_at, far_first, has_edge-turned, neither_at)

  -- two steps of each kind
  pub four : AreTwoBad graph kind size way → AreTwoBad graph kind size (λ p i. s (way p i)) → AreTwoLone graph kind branch size way frame x x y × AreTwoLone graph kind branch size way frame x y x
  four t t' = (
    record { p = t.p; i = t.i; q = t.q; k = t.k; one = lone_y t.p t.i t.one; other = lone_y t.q t.k t.other; two = t.two },
    record { p = t'.p; i = t'.i; q = t'.q; k = t'.k; one = lone_x t'.p t'.i t'.one; other = lone_x t'.q t'.k t'.other; two = t'.two },
  )

  -- mended, or so
  mended_or_four : HasWitness graph ⊎ (AreTwoLone graph kind branch size way frame x x y × AreTwoLone graph kind branch size way frame x y x)
  mended_or_four =
      elim (mended_or_two graph kind branch size way frame x y edge.joined off no_branch steps) [
        | inl w ↦ inl w
        | inr t ↦ elim (mended_or_two graph kind (λ j. s (branch j)) size (λ p i. s (way p i)) frame' y x (has_edge-turned graph y x ∙ edge.joined) off' no_branch' steps') [
          | inl w ↦ inl w
          | inr t' ↦ inr (four t t')
        ]
      ]

  -- a step of the one kind is none of the other
  kinds_apart : (p i q k : ℕ) → IsLone graph kind branch size way frame x x y p i → IsLone graph kind branch size way frame x y x q k → (p ≡ q) × (i ≡ k) → ⊥
  kinds_apart p i q k a b e = true≢false (sym b.has ∙ (ap (has_edge graph x) (ap₂ Far (sym e.0) (sym e.1)) ∙ a.lacks))

  -- so x is a branch
  pub is_branch : AreTwoLone graph kind branch size way frame x x y → AreTwoLone graph kind branch size way frame x y x → (j : ℕ) × (j < branch_count kind) × (branch j ≡ x)
  is_branch t t' =
      elim (all_or_one (λ j. branch j ≢ x) (λ j. branch j ≡ x) (branch_count kind) (λ j l. elim (cases_eq (branch j) x) [ inl e ↦ inr e | inr n ↦ inl n ])) [
        | inr r ↦ r
        | inl none ↦ absurd (three_steps graph.n kind branch size way frame x none t.p t.i t.q t.k t'.p t'.i t.one.at t.other.at t'.one.at t.two (kinds_apart t.p t.i t'.p t'.i t.one t'.one) (kinds_apart t.q t.k t'.p t'.i t.other t'.one))
      ]

-- the other branch of a path of K5 at b, and where it begins there
module _ (graph : EdgeGraph) (branch size : ℕ → ℕ) (way : ℕ → ℕ → ℕ) (frame : IsFrame graph.n K5 branch size way) (x b : ℕ) (in_b : b < 5) (is_b : branch b ≡ x) where
  record IsOther (p i c : ℕ) : Type 0 where
    within : c < 5
    two : c ≢ b
    path : link_number b c ≡ p
    first : link graph.n branch size way frame b c 1 ≡ far graph.n K5 branch size way frame x p i

  other_of : (p i : ℕ) → IsAt graph.n K5 branch size way frame x p i → (c : ℕ) × IsOther p i c
  other_of p i at =
      let k = number-pair p at.path in
      let w = pairs_within K5 p at.path in
      elim (end_step graph.n K5 branch size way frame x b in_b is_b p i at) [
        | inl h ↦
            let c = (pair_at K5 p).1 in
            let l : b < c = let e = h.1 in omega arith in
            let num : link_number b c ≡ p = link_number-up b c l ∙ (ap (λ a. number a c) (sym h.1) ∙ k.0) in (
              c,
              record {
                within = w.1;
                two = λ e. omega arith;
                path = num;
                first = link-up graph.n branch size way frame b c 1 l ∙ (ap (λ r. way r 1) num ∙ (ap (λ t. way p (suc t)) (sym h.0) ∙ sym (far_second graph.n K5 branch size way frame x p i h.2)));
              },
            )
        | inr h ↦
            let c = (pair_at K5 p).0 in
            let l : c < b = let e = h.1 in omega arith in
            let num : link_number b c ≡ p = link_number-down b c l ∙ (ap (number c) (sym h.1) ∙ k.0) in
            let before : way p i ≢ x = λ q. step_apart graph.n K5 branch size way frame p i at.path at.step (q ∙ sym h.2) in (
              c,
              record {
                within = w.0;
                two = λ e. omega arith;
                path = num;
                first = link-down graph.n branch size way frame b c 1 l ∙ (ap (λ r. way r (size r - 1)) num ∙ (ap (way p) (let e = h.0 in omega arith) ∙ sym (far_first graph.n K5 branch size way frame x p i before)));
              },
            )
      ]

-- the five names
unfoldable pub five_names : ℕ → ℕ → ℕ → ℕ → ℕ → ℕ → ℕ
five_names a b c d e zero = a
five_names a b c d e (suc zero) = b
five_names a b c d e (suc (suc zero)) = c
five_names a b c d e (suc (suc (suc zero))) = d
five_names a b c d e (suc (suc (suc (suc k)))) = e

pub five_below : (a b c d e : ℕ) → a < 5 → b < 5 → c < 5 → d < 5 → e < 5 → (k : ℕ) → k < 5 → five_names a b c d e k < 5
unfolding five_names
five_below a b c d e la lb lc ld le = each_of_five (λ k. five_names a b c d e k < 5) la lb lc ld le

pub five_apart : (a b c d e : ℕ) → a ≢ b → a ≢ c → a ≢ d → a ≢ e → b ≢ c → b ≢ d → b ≢ e → c ≢ d → c ≢ e → d ≢ e → (k l : ℕ) → k < 5 → l < 5 → five_names a b c d e k ≡ five_names a b c d e l → k ≡ l
unfolding five_names
five_apart a b c d e ab ac ad ae bc bd be cd ce de k l lk ll = grind (arith, each_of_five)

-- K5 has x as its branch b; from it paths lead to c and d over neighbours of x, and to e and f over neighbours of y.
pub record IsSeparating (graph : EdgeGraph) (branch size : ℕ → ℕ) (way : ℕ → ℕ → ℕ) (frame : IsFrame graph.n K5 branch size way) (x y b c d e f : ℕ) : Type 0 where
  pub is_x : branch b ≡ x
  pub below : (k : ℕ) → k < 5 → five_names b c d e f k < 5
  pub apart : (k l : ℕ) → k < 5 → l < 5 → five_names b c d e f k ≡ five_names b c d e f l → k ≡ l
  pub of_x : (k : ℕ) → 0 < k → k < 3 → has_edge graph x (link graph.n branch size way frame b (five_names b c d e f k) 1) ≡ true
  pub of_y : (k : ℕ) → 3 ≤ k → k < 5 → has_edge graph y (link graph.n branch size way frame b (five_names b c d e f k) 1) ≡ true

is_separating : (graph : EdgeGraph) (branch size : ℕ → ℕ) (way : ℕ → ℕ → ℕ) (frame : IsFrame graph.n K5 branch size way) (x y b c d e f : ℕ) → b < 5 → c < 5 → d < 5 → e < 5 → f < 5 → b ≢ c → b ≢ d → b ≢ e → b ≢ f → c ≢ d → c ≢ e → c ≢ f → d ≢ e → d ≢ f → e ≢ f → branch b ≡ x
    → has_edge graph x (link graph.n branch size way frame b c 1) ≡ true → has_edge graph x (link graph.n branch size way frame b d 1) ≡ true → has_edge graph y (link graph.n branch size way frame b e 1) ≡ true → has_edge graph y (link graph.n branch size way frame b f 1) ≡ true → IsSeparating graph branch size way frame x y b c d e f
unfolding five_names
is_separating graph branch size way frame x y b c d e f lb lc ld le lf bc bd be bf cd ce cf de df ef is_b xc xd ye yf = grind (arith, five_below, five_apart, each_of_three, has_edge, link, far, each_of_five)

five_separated : (graph : EdgeGraph) (branch size : ℕ → ℕ) (way : ℕ → ℕ → ℕ) (frame : IsFrame graph.n K5 branch size way) (x y : ℕ) → IsEdgeOf graph x y → ((p i : ℕ) → p < 10 → i ≤ size p → way p i ≢ y) → ((j : ℕ) → j < 5 → branch j ≢ y) → HasSteps K5 size way (StepsAt graph x y) → (b c d e f : ℕ) → IsSeparating graph branch size way frame x y b c d e f → HasWitness graph
unfolding five_names
five_separated graph branch size way frame x y edge off no_branch steps b c d e f s =
    separated graph branch size way frame x y edge.second edge.joined off no_branch steps (five_names b c d e f) s.below s.apart s.is_x s.of_x s.of_y

-- there are no two steps of each kind at a branch of K3,3
pub not_six : (graph : EdgeGraph) (branch size : ℕ → ℕ) (way : ℕ → ℕ → ℕ) (frame : IsFrame graph.n K33 branch size way) (x y : ℕ) → IsEdgeOf graph x y → ((p i : ℕ) → p < 9 → i ≤ size p → way p i ≢ y) → ((j : ℕ) → j < 6 → branch j ≢ y) → HasSteps K33 size way (StepsAt graph x y) → AreTwoLone graph K33 branch size way frame x x y → AreTwoLone graph K33 branch size way frame x y x → (b : ℕ) → b < 6 → branch b ≡ x → ⊥
not_six graph branch size way frame x y edge off no_branch steps t t' b in_b is_b =
    let apart = kinds_apart graph K33 branch size way frame x y edge off no_branch steps in
    let four = four_steps graph.n K33 branch size way frame x b in_b is_b t.p t.i t.q t.k t'.p t'.i t'.q t'.k t.one.at t.other.at t'.one.at t'.other.at t.two
    (apart t.p t.i t'.p t'.i t.one t'.one) (apart t.p t.i t'.q t'.k t.one t'.other) (apart t.q t.k t'.p t'.i t.other t'.one) (apart t.q t.k t'.q t'.k t.other t'.other) t'.two in
    omega (arith, three_paths b in_b)

-- at one of K5 they part it
pub separating_five : (graph : EdgeGraph) (branch size : ℕ → ℕ) (way : ℕ → ℕ → ℕ) (frame : IsFrame graph.n K5 branch size way) (x y : ℕ) → AreTwoLone graph K5 branch size way frame x x y → AreTwoLone graph K5 branch size way frame x y x → (b : ℕ) → b < 5 → branch b ≡ x → (c : ℕ) × (d : ℕ) × (e : ℕ) × (f : ℕ) × IsSeparating graph branch size way frame x y b c d e f
separating_five graph branch size way frame x y t t' b in_b is_b =
    let L : ℕ → ℕ = λ c. link graph.n branch size way frame b c 1 in
    let c1 = other_of graph branch size way frame x b in_b is_b t.p t.i t.one.at in
    let c2 = other_of graph branch size way frame x b in_b is_b t.q t.k t.other.at in
    let c3 = other_of graph branch size way frame x b in_b is_b t'.p t'.i t'.one.at in
    let c4 = other_of graph branch size way frame x b in_b is_b t'.q t'.k t'.other.at in
    let single = one_step graph.n K5 branch size way frame x b in_b is_b in
    let d12 : c1.0 ≢ c2.0 = λ e. let pq = sym c1.1.path ∙ (ap (link_number b) e ∙ c2.1.path) in t.two (pq, single t.p t.i t.q t.k t.one.at t.other.at pq) in
    let d34 : c3.0 ≢ c4.0 = λ e. let pq = sym c3.1.path ∙ (ap (link_number b) e ∙ c4.1.path) in t'.two (pq, single t'.p t'.i t'.q t'.k t'.one.at t'.other.at pq) in
    let no1 : has_edge graph x (L c1.0) ≡ false = ap (has_edge graph x) c1.1.first ∙ t.one.lacks in
    let no2 : has_edge graph x (L c2.0) ≡ false = ap (has_edge graph x) c2.1.first ∙ t.other.lacks in
    let has3 : has_edge graph x (L c3.0) ≡ true = ap (has_edge graph x) c3.1.first ∙ t'.one.has in
    let has4 : has_edge graph x (L c4.0) ≡ true = ap (has_edge graph x) c4.1.first ∙ t'.other.has in
    let differ : (c d : ℕ) → has_edge graph x (L c) ≡ true → has_edge graph x (L d) ≡ false → c ≢ d = λ c d h n e. true≢false (sym h ∙ (ap (λ z. has_edge graph x (L z)) e ∙ n)) in (
      c3.0,
      c4.0,
      c1.0,
      c2.0,
      is_separating graph branch size way frame x y b c3.0 c4.0 c1.0 c2.0 in_b c3.1.within c4.1.within c1.1.within c2.1.within
          (λ e. c3.1.two (sym e)) (λ e. c4.1.two (sym e)) (λ e. c1.1.two (sym e)) (λ e. c2.1.two (sym e)) d34 (differ c3.0 c1.0 has3 no1) (differ c3.0 c2.0 has3 no2) (differ c4.0 c1.0 has4 no1) (differ c4.0 c2.0 has4 no2) d12
          is_b has3 has4 (ap (has_edge graph y) c1.1.first ∙ t.one.has) (ap (has_edge graph y) c2.1.first ∙ t.other.has),
    )

-- two steps of each kind at a branch
at_branch : (graph : EdgeGraph) (kind : Kind) (branch size : ℕ → ℕ) (way : ℕ → ℕ → ℕ) (frame : IsFrame graph.n kind branch size way) (x y : ℕ) → IsEdgeOf graph x y → ((p i : ℕ) → p < path_count kind → i ≤ size p → way p i ≢ y) → ((j : ℕ) → j < branch_count kind → branch j ≢ y) → HasSteps kind size way (StepsAt graph x y) → AreTwoLone graph kind branch size way frame x x y → AreTwoLone graph kind branch size way frame x y x → (b : ℕ) → b < branch_count kind → branch b ≡ x → HasWitness graph
at_branch graph K33 branch size way frame x y edge off no_branch steps t t' b in_b is_b = absurd (not_six graph branch size way frame x y edge off no_branch steps t t' b in_b is_b)
at_branch graph K5 branch size way frame x y edge off no_branch steps t t' b in_b is_b =
    let r = separating_five graph branch size way frame x y t t' b in_b is_b in
    five_separated graph branch size way frame x y edge off no_branch steps b r.0 r.1 r.2 r.3 r.4

-- ---- the law
-- each branch is an end of a path
pub on_path : (kind : Kind) (j : ℕ) → j < branch_count kind → (p : ℕ) × (p < path_count kind) × (((pair_at kind p).0 ≡ j) ⊎ ((pair_at kind p).1 ≡ j))
on_path K5 =
    each_of_five (λ j. (p : ℕ) × (p < 10) × (((pair_at K5 p).0 ≡ j) ⊎ ((pair_at K5 p).1 ≡ j))) (0, omega arith, inl refl) (0, omega arith, inr refl) (1, omega arith, inr refl) (2, omega arith, inr refl) (3, omega arith, inr refl)
on_path K33 =
    below_six (λ j. (p : ℕ) × (p < 9) × (((pair_at K33 p).0 ≡ j) ⊎ ((pair_at K33 p).1 ≡ j))) (0, omega arith, inl refl) (3, omega arith, inl refl) (6, omega arith, inl refl) (0, omega arith, inr refl) (1, omega arith, inr refl) (2, omega arith, inr refl)

-- a frame of the contracted graph
module _ (graph small : EdgeGraph) (x y : ℕ) (to : ℕ → ℕ) (c : IsContractedBy graph small x y to) (kind : Kind) (branch size : ℕ → ℕ) (old : ℕ → ℕ → ℕ) (f0 : IsFrame small.n kind branch size old) (old_steps : HasSteps kind size old (λ a b. has_edge small a b ≡ true)) where
  pub small_frame : IsFrame graph.n kind (λ j. to (branch j)) size (λ p i. to (old p i))
  small_frame = frame-map small.n graph.n kind branch size old to c.within c.apart f0

  pub small_steps : HasSteps kind size (λ p i. to (old p i)) (StepsAt graph x y)
  small_steps p i l m = c.edges (old p i) (old p (suc i)) (old_steps p i l m)

  pub small_off : (p i : ℕ) → p < path_count kind → i ≤ size p → to (old p i) ≢ y
  small_off p i l m =
      elim (cases_eq i (size p)) [
        | inr n ↦ c.off (old p i) (old p (suc i)) (old_steps p i l (omega arith))
        | inl q ↦
            let k = i - 1 in
            let sk : i ≡ suc k = omega arith in
            let back = c.off (old p (suc k)) (old p k) (has_edge-turned small (old p (suc k)) (old p k) ∙ (old_steps p k l (omega arith))) in
            λ e. back (ap (λ t. to (old p t)) (sym sk) ∙ e)
      ]

  pub small_no_branch : (j : ℕ) → j < branch_count kind → to (branch j) ≢ y
  small_no_branch j l e =
      grind (arith, on_path kind j l, small_off)

  lifted_frame : IsEdgeOf graph x y → HasWitness graph
  lifted_frame edge =
      let way : ℕ → ℕ → ℕ = λ p i. to (old p i) in
      elim (mended_or_four graph kind (λ j. to (branch j)) size way small_frame x y edge small_off small_no_branch small_steps) [
        | inl w ↦ w
        | inr t ↦
            let r = is_branch graph kind (λ j. to (branch j)) size way small_frame x y edge small_off small_no_branch small_steps t.0 t.1 in
            at_branch graph kind (λ j. to (branch j)) size way small_frame x y edge small_off small_no_branch small_steps t.0 t.1 r.0 r.1 r.2
      ]

-- THE LAW: a witness lifted
pub lifted_witness : LiftedWitness
lifted_witness graph small x y to edge c w =
    let f = frame-witness small w.0 w.1 w.2 w.3 in
    let branch : ℕ → ℕ = λ j. vertex_at w.1 j in
    let size : ℕ → ℕ = λ p. length (path_at w.2 p) - 1 in
    let old : ℕ → ℕ → ℕ = λ p i. vertex_at (path_at w.2 p) i in
    lifted_frame graph small x y to c w.0 branch size old f.0 f.1 edge

-- ---- with numbers that fall
before_left-apart : (b u v : ℕ) → before_left b u ≡ before_left b v → u ≡ v
before_left-apart b u v e = grind (arith, nat_tests)

before_left-not : (b v : ℕ) → before_left b v ≢ b
before_left-not b v e = grind (arith, nat_tests)

before_left-lt : (b v n m : ℕ) → v < n → n + 1 ≡ m → before_left b v < m
before_left-lt b v n m l e = grind (arith, nat_tests)

before_left-low : (b v : ℕ) → v < b → before_left b v ≡ v
before_left-low b v l = grind (arith, nat_tests)

-- THE LAW: the same where the greater end leaves
pub lifted_contraction : LiftedContraction
lifted_contraction graph small a b edge a_b c =
    lifted_witness graph small a b (before_left b) edge record {
      within = λ v l. before_left-lt b v small.n graph.n l c.vertices;
      apart = before_left-apart b;
      off = λ u v e. before_left-not b u;
      edges = λ u v e.
          grind (arith, or_cases, has_edge, eqb, and_parts, eqb-true, before_left-low);
    }
