-- Where two steps at a branch of K5 lead to neighbours of y alone, and the two others to neighbours of x alone: K3,3 with x and the branches of the first two against y and those of the others.
use Rattle.std.proofs.Common.{◌≡◌, ◌≢◌, ◌⊎◌, ◌&&◌, ℕ, zero, suc, ◌+◌, ◌<◌, ◌≤◌, Bool, true, false, cond, eqb, refl, sym, ap, ap₂, ◌∙◌, subst, inl, inr, arith}
use Rattle.std.proofs.lemmas.Bool.{cases_eq, cases_Bool, eq-eqb, ne_eqb, cond-true, cond-false}
use Rattle.graphs.specs.Graphs.{EdgeGraph, has_edge}
use Rattle.graphs.proofs.EdgeLemmas.{has_edge-turned}
use Rattle.graphs.proofs.BitLemmas.{below_six}
use Rattle.kuratowski.specs.Witnesses.{pair_at}
use Rattle.kuratowski.specs.declared.witness.Kind.TheVariants.{K5, K33}
use Rattle.embed_contraction.specs.Traces.{HasWitness}
use Rattle.embed_contraction.proofs.Numbers.{each_of_nine}
use Rattle.embed_contraction.proofs.Frames.{IsFrame, HasSteps, witness-frame}
use Rattle.embed_contraction.proofs.BadSteps.{StepsAt}
use Rattle.embed_contraction.proofs.Links.{link_number, link_ends, link-place, link, link_size, link-long, link-start, link-end, link-no_branch, link-once, link-steps, link-back, link-apart}

-- the names of the two ends of each path of K3,3 but the first, which is the edge: 0 is x, 1 and 2 are on its side, 3 and 4 are not
unfoldable pub from_name : ℕ → ℕ
from_name zero = 0
from_name (suc zero) = 0
from_name (suc (suc zero)) = 0
from_name (suc (suc (suc zero))) = 3
from_name (suc (suc (suc (suc zero)))) = 3
from_name (suc (suc (suc (suc (suc zero))))) = 3
from_name (suc (suc (suc (suc (suc (suc p)))))) = 4

unfoldable pub to_name : ℕ → ℕ
to_name zero = 1
to_name (suc zero) = 1
to_name (suc (suc zero)) = 2
to_name (suc (suc (suc zero))) = 0
to_name (suc (suc (suc (suc zero)))) = 1
to_name (suc (suc (suc (suc (suc zero))))) = 2
to_name (suc (suc (suc (suc (suc (suc zero)))))) = 0
to_name (suc (suc (suc (suc (suc (suc (suc zero))))))) = 1
to_name (suc (suc (suc (suc (suc (suc (suc (suc p)))))))) = 2

-- the path of two names
path_named : ℕ → ℕ → ℕ
path_named zero b = b
path_named (suc zero) b = 0
path_named (suc (suc zero)) b = 0
path_named (suc (suc (suc zero))) b = b + 3
path_named (suc (suc (suc (suc a)))) b = b + 6

record IsNamed (p : ℕ) : Type 0 where
  first : from_name p < 5
  second : to_name p < 3
  side : (from_name p ≡ 0) ⊎ (3 ≤ from_name p)
  two : from_name p ≢ to_name p
  again : 0 < p → path_named (from_name p) (to_name p) ≡ p

named : (p : ℕ) → p < 9 → IsNamed p
unfolding from_name to_name path_named
named = grind (arith, each_of_nine)

-- the paths that end at y in place of x
unfoldable pub ends_at_x : ℕ → Bool
ends_at_x p = eqb (to_name p) 0

ends_true : (p : ℕ) → to_name p ≡ 0 → ends_at_x p ≡ true
unfolding ends_at_x
ends_true p e = eq-eqb (to_name p) 0 e

ends_false : (p : ℕ) → to_name p ≢ 0 → ends_at_x p ≡ false
unfolding ends_at_x
ends_false p n = ne_eqb (to_name p) 0 n

-- the names of the branches of K3,3, with 5 for y
unfoldable pub branch_name : ℕ → ℕ
branch_name zero = 0
branch_name (suc zero) = 3
branch_name (suc (suc zero)) = 4
branch_name (suc (suc (suc zero))) = 5
branch_name (suc (suc (suc (suc zero)))) = 1
branch_name (suc (suc (suc (suc (suc j))))) = 2

branch_named : ℕ → ℕ
branch_named zero = 0
branch_named (suc zero) = 4
branch_named (suc (suc zero)) = 5
branch_named (suc (suc (suc zero))) = 1
branch_named (suc (suc (suc (suc zero)))) = 2
branch_named (suc (suc (suc (suc (suc j))))) = 3

named_again : (j : ℕ) → j < 6 → (branch_named (branch_name j) ≡ j) × (branch_name j < 6)
unfolding branch_name branch_named
named_again = below_six (λ j. (branch_named (branch_name j) ≡ j) × (branch_name j < 6)) (refl, omega arith) (refl, omega arith) (refl, omega arith) (refl, omega arith) (refl, omega arith) (refl, omega arith)

module _ (graph : EdgeGraph) (branch size : ℕ → ℕ) (way : ℕ → ℕ → ℕ) (frame : IsFrame graph.n K5 branch size way) (x y : ℕ) (in_y : y < graph.n) (hub : has_edge graph x y ≡ true) (off : (p i : ℕ) → p < 10 → i ≤ size p → way p i ≢ y) (no_branch : (j : ℕ) → j < 5 → branch j ≢ y) (steps : HasSteps K5 size way (StepsAt graph x y)) (name : ℕ → ℕ) (below : (a : ℕ) → a < 5 → name a < 5) (names_apart : (a b : ℕ) → a < 5 → b < 5 → name a ≡ name b → a ≡ b) (is_x : branch (name 0) ≡ x) where
  abbrev E : ℕ → ℕ → Type 0
  E a b = has_edge graph a b ≡ true

  abbrev L : ℕ → ℕ → ℕ → ℕ
  L a b i = link graph.n branch size way frame (name a) (name b) i

  abbrev S : ℕ → ℕ → ℕ
  S a b = link_size graph.n branch size way frame (name a) (name b)

  -- the names of a path stand for two branches
  module _ (p : ℕ) (l : p < 9) where
    la : name (from_name p) < 5
    la = below (from_name p) (named p l).first

    lb : name (to_name p) < 5
    lb = below (to_name p) (let s = (named p l).second in omega arith)

    ne : name (from_name p) ≢ name (to_name p)
    ne e = (named p l).two (names_apart (from_name p) (to_name p) (named p l).first (let s = (named p l).second in omega arith) e)

  unfoldable pub hidden : Bool → ℕ → ℕ
  hidden h v = cond (h && eqb v x) y v

  hidden_not : (h : Bool) (v : ℕ) → v ≢ x → hidden h v ≡ v
  unfolding hidden
  hidden_not h v n = grind (arith, cond-false, eqb, ne_eqb)

  hidden_off : (v : ℕ) → hidden false v ≡ v
  unfolding hidden
  hidden_off v = refl

  hidden_x : (v : ℕ) → v ≡ x → hidden true v ≡ y
  unfolding hidden
  hidden_x v e = cond-true (eqb v x) y v (eq-eqb v x e)

  unfoldable pub size33 : ℕ → ℕ
  size33 zero = 1
  size33 (suc p) = S (from_name (suc p)) (to_name (suc p))

  unfoldable pub way33 : ℕ → ℕ → ℕ
  way33 zero zero = x
  way33 zero (suc i) = y
  way33 (suc p) i = hidden (ends_at_x (suc p)) (L (from_name (suc p)) (to_name (suc p)) i)

  unfoldable pub vertex_named : ℕ → ℕ
  vertex_named k = cond (eqb k 5) y (branch (name k))

  vertex_named-y : vertex_named 5 ≡ y
  unfolding vertex_named
  vertex_named-y = refl

  vertex_named-else : (k : ℕ) → k ≢ 5 → vertex_named k ≡ branch (name k)
  unfolding vertex_named
  vertex_named-else k n = cond-false (eqb k 5) y (branch (name k)) (ne_eqb k 5 n)

  unfoldable pub branch33 : ℕ → ℕ
  branch33 j = vertex_named (branch_name j)

  -- a branch of K5 that is not x
  branch_not_x : (a : ℕ) → a < 5 → a ≢ 0 → branch (name a) ≢ x
  branch_not_x a l n e = n (names_apart a 0 l (omega arith) (frame.distinct (name a) (name 0) (below a l) (below 0 (omega arith)) (e ∙ sym is_x)))

  vertices_apart : (k l : ℕ) → k < 6 → l < 6 → vertex_named k ≡ vertex_named l → k ≡ l
  vertices_apart k l lk ll e = grind (arith, cases_eq, vertex_named-else, vertex_named-y)

  vertices_in : (k : ℕ) → k < 6 → vertex_named k < graph.n
  vertices_in k l = grind (arith, cases_eq, vertex_named-y, vertex_named-else)

  -- no vertex of a path is y
  link_off : (p : ℕ) → p < 9 → (i : ℕ) → 0 < i → i < S (from_name p) (to_name p) → (v : ℕ) → v ≡ y → L (from_name p) (to_name p) i ≢ v
  link_off p l i pos m v ev e =
      let r = link-place graph.n branch size way frame (name (from_name p)) (name (to_name p)) (la p l) (lb p l) (ne p l) i (omega arith) in
      off (link_number (name (from_name p)) (name (to_name p))) r.0 (link_ends (name (from_name p)) (name (to_name p)) (la p l) (lb p l) (ne p l)).0 r.1 (sym r.2 ∙ (e ∙ ev))

  -- an inner vertex is no branch, and so not x
  inner_not : (p : ℕ) → p < 9 → (i j : ℕ) → 0 < i → i < S (from_name p) (to_name p) → j < 5 → L (from_name p) (to_name p) i ≢ branch j
  inner_not p l i j pos m in_j = link-no_branch graph.n branch size way frame (name (from_name p)) (name (to_name p)) (la p l) (lb p l) (ne p l) i j pos m in_j

  inner_not_x : (p : ℕ) → p < 9 → (i : ℕ) → 0 < i → i < S (from_name p) (to_name p) → L (from_name p) (to_name p) i ≢ x
  inner_not_x p l i pos m e = inner_not p l i (name 0) pos m (below 0 (omega arith)) (e ∙ sym is_x)

  way_inner : (p : ℕ) → suc p < 9 → (i : ℕ) → 0 < i → i < S (from_name (suc p)) (to_name (suc p)) → way33 (suc p) i ≡ L (from_name (suc p)) (to_name (suc p)) i
  unfolding way33
  way_inner p l i pos m = hidden_not (ends_at_x (suc p)) (L (from_name (suc p)) (to_name (suc p)) i) (inner_not_x (suc p) l i pos m)

  -- where the paths begin and end
  link_first : (p : ℕ) → p < 9 → L (from_name p) (to_name p) 0 ≡ branch (name (from_name p))
  link_first p l = link-start graph.n branch size way frame (name (from_name p)) (name (to_name p)) (la p l) (lb p l) (ne p l)

  link_last : (p : ℕ) → p < 9 → L (from_name p) (to_name p) (S (from_name p) (to_name p)) ≡ branch (name (to_name p))
  link_last p l = link-end graph.n branch size way frame (name (from_name p)) (name (to_name p)) (la p l) (lb p l) (ne p l)

  link_some : (p : ℕ) → p < 9 → 0 < S (from_name p) (to_name p)
  link_some p l = link-long graph.n branch size way frame (name (from_name p)) (name (to_name p)) (la p l) (lb p l) (ne p l)

  -- a path from x does not end there
  first_hidden : (p : ℕ) → p < 9 → hidden (ends_at_x p) (branch (name (from_name p))) ≡ branch (name (from_name p))
  unfolding ends_at_x
  first_hidden p l = grind (arith, cases_eq, hidden_not, eqb, branch_not_x, named, ne_eqb, hidden_off)

  last_hidden : (p : ℕ) → p < 9 → ((to_name p ≡ 0) × (hidden (ends_at_x p) (branch (name (to_name p))) ≡ y)) ⊎ ((to_name p ≢ 0) × (hidden (ends_at_x p) (branch (name (to_name p))) ≡ branch (name (to_name p))))
  unfolding ends_at_x
  last_hidden p l =
      elim (cases_eq (to_name p) 0) [
        | inl e ↦ inl (e, ap (λ b. hidden b (branch (name (to_name p)))) (eq-eqb (to_name p) 0 e) ∙ hidden_x (branch (name (to_name p))) (ap (λ a. branch (name a)) e ∙ is_x))
        | inr n ↦ inr (n, hidden_not (eqb (to_name p) 0) (branch (name (to_name p))) (branch_not_x (to_name p) (let s = (named p l).second in omega arith) n))
      ]

  -- the branches of a path of K3,3, by names
  ends_named : (p : ℕ) → suc p < 9 → (branch_name (pair_at K33 (suc p)).0 ≡ from_name (suc p)) × (branch_name (pair_at K33 (suc p)).1 ≡ cond (eqb (to_name (suc p)) 0) 5 (to_name (suc p)))
  unfolding branch_name from_name to_name
  ends_named p l =
      each_of_nine (λ p. 0 < p → (branch_name (pair_at K33 p).0 ≡ from_name p) × (branch_name (pair_at K33 p).1 ≡ cond (eqb (to_name p) 0) 5 (to_name p)))
      (λ z. absurd (omega arith)) (λ z. (refl, refl)) (λ z. (refl, refl)) (λ z. (refl, refl)) (λ z. (refl, refl)) (λ z. (refl, refl)) (λ z. (refl, refl)) (λ z. (refl, refl)) (λ z. (refl, refl)) (suc p) l (omega arith)

  start33 : (p : ℕ) → p < 9 → way33 p 0 ≡ branch33 (pair_at K33 p).0
  unfolding way33 branch33 branch_name
  start33 zero l = sym (vertex_named-else 0 (λ e. omega arith) ∙ is_x)
  start33 (suc p) l =
      ap (hidden (ends_at_x (suc p))) (link_first (suc p) l) ∙ (first_hidden (suc p) l ∙ sym (ap vertex_named (ends_named p l).0 ∙ vertex_named-else (from_name (suc p)) (λ e. let f = (named (suc p) l).first in omega arith)))

  end33 : (p : ℕ) → p < 9 → way33 p (size33 p) ≡ branch33 (pair_at K33 p).1
  unfolding way33 size33 branch33 branch_name
  end33 x0 l = grind (arith, vertex_named-y, ends_named, link_last, last_hidden, cond-true, eqb, eq-eqb, cond-false, ne_eqb, vertex_named-else, named)

  -- one path for each two names
  same_path : (p q : ℕ) → suc p < 9 → suc q < 9 → ((name (from_name (suc p)) ≡ name (from_name (suc q))) × (name (to_name (suc p)) ≡ name (to_name (suc q)))) ⊎ ((name (from_name (suc p)) ≡ name (to_name (suc q))) × (name (to_name (suc p)) ≡ name (from_name (suc q)))) → suc p ≡ suc q
  same_path p q lp lq h = grind (arith, named, ap₂, path_named)

  pub frame33 : IsFrame graph.n K33 branch33 size33 way33
  unfolding branch33 size33 way33
  frame33 = record {
    vertices = λ j l. vertices_in (branch_name j) (named_again j l).1;
    distinct = λ i j l m e. sym (named_again i l).0 ∙ (ap branch_named (vertices_apart (branch_name i) (branch_name j) (named_again i l).1 (named_again j m).1 e) ∙ (named_again j m).0);
    long = long;
    start = start33;
    end = end33;
    no_branch = no_branch33;
    once = once33;
    apart = apart33;
  }
    where
      long : (p : ℕ) → p < 9 → 0 < size33 p
      long zero l = omega arith
      long (suc p) l = link_some (suc p) l

      no_branch33 : (p i j : ℕ) → p < 9 → 0 < i → i < size33 p → j < 6 → way33 p i ≢ branch33 j
      no_branch33 zero i j l pos m in_j e = absurd (omega arith)
      no_branch33 (suc p) i j l pos m in_j e =
          let here = sym (way_inner p l i pos m) ∙ e in
          let k = branch_name j in
          elim (cases_eq k 5) [
            | inl q ↦ link_off (suc p) l i pos m y refl (here ∙ (ap vertex_named q ∙ vertex_named-y))
            | inr n ↦ inner_not (suc p) l i (name k) pos m (below k (omega (arith, (named_again j in_j).1))) (here ∙ vertex_named-else k n)
          ]

      once33 : (p i j : ℕ) → p < 9 → 0 < i → i < size33 p → j ≤ size33 p → way33 p i ≡ way33 p j → i ≡ j
      once33 zero i j l pos m in_j e = absurd (omega arith)
      once33 (suc p) i j l pos m in_j e =
          let a = name (from_name (suc p)) in
          let b = name (to_name (suc p)) in
          let v = L (from_name (suc p)) (to_name (suc p)) j in
          let here = sym (way_inner p l i pos m) ∙ e in
          let same : v ≡ hidden (ends_at_x (suc p)) v → i ≡ j = λ q. link-once graph.n branch size way frame a b (la (suc p) l) (lb (suc p) l) (ne (suc p) l) i j pos m in_j (here ∙ sym q) in
          elim (cases_eq v x) [
            | inr n ↦ same (sym (hidden_not (ends_at_x (suc p)) v n))
            | inl q ↦ elim (cases_Bool (ends_at_x (suc p))) [
              | inl t ↦ absurd (link_off (suc p) l i pos m y refl (here ∙ (ap (λ h. hidden h v) t ∙ hidden_x v q)))
              | inr f ↦ same (sym (ap (λ h. hidden h v) f ∙ hidden_off v))
            ]
          ]

      apart33 : (p q i j : ℕ) → p < 9 → q < 9 → 0 < i → i < size33 p → 0 < j → j < size33 q → way33 p i ≡ way33 q j → p ≡ q
      apart33 zero q i j l l' pos m pos' m' e = absurd (omega arith)
      apart33 (suc p) zero i j l l' pos m pos' m' e = absurd (omega arith)
      apart33 (suc p) (suc q) i j l l' pos m pos' m' e =
          same_path p q l l' (link-apart graph.n branch size way frame (name (from_name (suc p))) (name (to_name (suc p))) (name (from_name (suc q))) (name (to_name (suc q))) (la (suc p) l) (lb (suc p) l) (ne (suc p) l) (la (suc q) l') (lb (suc q) l') (ne (suc q) l') i j pos m pos' m'
          (sym (way_inner p l i pos m) ∙ (e ∙ way_inner q l' j pos' m')))

  -- ---- edges
  turned_step : (a b : ℕ) → StepsAt graph x y a b → StepsAt graph x y b a
  turned_step a b h = grind (arith, has_edge-turned)

  -- a step that is not at x is an edge
  plain : (a b : ℕ) → StepsAt graph x y a b → a ≢ x → b ≢ x → E a b
  plain a b h n n' = elim h [ inl e ↦ e | inr r ↦ elim r [ inl e ↦ absurd (n e.0) | inr e ↦ absurd (n' e.0) ] ]

  module _ (x_sides : (b : ℕ) → 0 < b → b < 3 → E x (L 0 b 1)) (y_sides : (a : ℕ) → 3 ≤ a → a < 5 → E y (L 0 a 1)) where
    link_step : (p : ℕ) → p < 9 → (i : ℕ) → i < S (from_name p) (to_name p) → StepsAt graph x y (L (from_name p) (to_name p) i) (L (from_name p) (to_name p) (suc i))
    link_step p l i m = link-steps graph.n branch size way frame (name (from_name p)) (name (to_name p)) (la p l) (lb p l) (ne p l) (StepsAt graph x y) turned_step steps i m

    -- the end of a step
    link_end_not : (p : ℕ) → p < 9 → to_name p ≢ 0 → (i : ℕ) → 0 < i → i ≤ S (from_name p) (to_name p) → L (from_name p) (to_name p) i ≢ x
    link_end_not p l n i pos m =
        elim (cases_eq i (S (from_name p) (to_name p))) [
          | inr inside ↦ inner_not_x p l i pos (omega arith)
          | inl q ↦ λ e. branch_not_x (to_name p) (let s = (named p l).second in omega arith) n (sym (link_last p l) ∙ (ap (L (from_name p) (to_name p)) (sym q) ∙ e))
        ]

    pub edges33 : (p i : ℕ) → p < 9 → i < size33 p → E (way33 p i) (way33 p (suc i))
    unfolding size33 way33
    edges33 zero zero l m = hub
    edges33 zero (suc i) l m = absurd (omega arith)
    edges33 (suc p) i l m =
        let a = from_name (suc p) in
        let b = to_name (suc p) in
        let nm = named (suc p) l in
        let snd = nm.second in
        let H : ℕ → ℕ = hidden (ends_at_x (suc p)) in
        let both : L a b i ≢ x → L a b (suc i) ≢ x → E (H (L a b i)) (H (L a b (suc i))) = λ n n'.
        subst (λ u. E u (H (L a b (suc i)))) (sym (hidden_not (ends_at_x (suc p)) (L a b i) n)) (subst (E (L a b i)) (sym (hidden_not (ends_at_x (suc p)) (L a b (suc i)) n')) (plain (L a b i) (L a b (suc i)) (link_step (suc p) l i m) n n')) in
        elim (cases_eq b 0) [
          | inr n ↦
              let next = link_end_not (suc p) l n (suc i) (omega arith) m in
              elim (cases_eq i 0) [
                | inr pos ↦ both (inner_not_x (suc p) l i (omega arith) m) next
                | inl z ↦ elim (cases_eq a 0) [
                  | inr na ↦ both (λ e. branch_not_x a nm.first na (sym (link_first (suc p) l) ∙ (ap (L a b) (sym z) ∙ e))) next
                  | inl za ↦
                      let start : L a b i ≡ x = ap (L a b) z ∙ (link_first (suc p) l ∙ (ap (λ k. branch (name k)) za ∙ is_x)) in
                      let eh : (v : ℕ) → H v ≡ v = λ v. ap (λ h. hidden h v) (ends_false (suc p) n) ∙ hidden_off v in
                      let side : E x (L a b (suc i)) = subst (λ k. E x (L k b (suc i))) (sym za) (subst (λ t. E x (L 0 b (suc t))) (sym z) (x_sides b (omega arith) snd)) in
                      subst (λ u. E u (H (L a b (suc i)))) (sym (eh (L a b i) ∙ start)) (subst (E x) (sym (eh (L a b (suc i)))) side)
                ]
              ]
          | inl zb ↦
              let na : a ≢ 0 = λ q. nm.two (q ∙ sym zb) in
              let before : L a b i ≢ x = elim (cases_eq i 0) [
                | inl z ↦ λ e. branch_not_x a nm.first na (sym (link_first (suc p) l) ∙ (ap (L a b) (sym z) ∙ e))
                | inr pos ↦ inner_not_x (suc p) l i (omega arith) m
              ] in
              grind (arith, cases_eq, inner_not_x, link_last, ends_true, hidden_x, hidden_not, link-back, has_edge-turned)
        ]

    pub separated : HasWitness graph
    separated = witness-frame graph K33 branch33 size33 way33 frame33 edges33
