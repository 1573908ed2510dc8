-- The first of several kinds, each with least ids, is one.
use Rattle.std.proofs.Common.{◌≡◌, ◌⊎◌, ◌<◌, ℕ, inl, inr, sym, ap, subst, ◌∙◌, arith}
use Rattle.std.proofs.lemmas.Bool.{cases_lt}
use Rattle.std.specs.Coded.{le_prop}
use Rattle.map_lists.specs.declared.ids.VertexId.{VertexId}
use Rattle.map_lists.specs.declared.items.Ends.{Ends}
use Rattle.vertex_rounds.specs.Least.{IsLeast, IsLeastPair, IsLeastTriple, IsLeastFour}
use Rattle.verdict_laws.specs.AtMostOne.{AtMostOne}

-- a value is of the first kind, or there is none of that kind and it is one of the others
abbrev pub IsFirstOr : (V : Type 0) → (V → Type 0) → Type 0 → (V → Type 0) → V → Type 0
IsFirstOr V First None Others v = First v ⊎ (None × Others v)

pub one_or_others : (V : Type 0) (First : V → Type 0) (None : Type 0) (Others : V → Type 0) → AtMostOne V First → ((v : V) → First v → None → ⊥) → AtMostOne V Others → AtMostOne V (IsFirstOr V First None Others)
one_or_others V First None Others one apart others v w x9 x10 = grind arith

-- one value alone
pub only_one : (V : Type 0) (x : V) → AtMostOne V (λ v. v ≡ x)
only_one V x v w e f = e ∙ sym f

-- least numbers
pub least_is_one : (P : ℕ → Type 0) (x y : ℕ) → IsLeast P x → IsLeast P y → x ≡ y
least_is_one P x y h g = grind (arith, cases_lt)

-- the first of two least numbers, by any property that the rest has
least_first : (P : ℕ → Type 0) (x y : ℕ) → ((z : ℕ) → z < x → ¬ P z) → P x → ((z : ℕ) → z < y → ¬ P z) → P y → x ≡ y
least_first P x y before here before' here' = least_is_one P x y record { here = here; before = before } record { here = here'; before = before' }

pub pair_first : (P : ℕ → ℕ → Type 0) (x y x' y' : ℕ) → IsLeastPair P x y → IsLeastPair P x' y' → x ≡ x'
pair_first P x y x' y' h g = least_first (λ z. (w : ℕ) × P z w) x x' (λ z l p. h.before z p.0 l p.1) (y, h.rest.here) (λ z l p. g.before z p.0 l p.1) (y', g.rest.here)

pub pair_second : (P : ℕ → ℕ → Type 0) (x y x' y' : ℕ) → IsLeastPair P x y → IsLeastPair P x' y' → y ≡ y'
pair_second P x y x' y' h g = least_is_one (P x) y y' h.rest (subst (λ k. IsLeast (P k) y') (sym (pair_first P x y x' y' h g)) g.rest)

pub triple_first : (P : ℕ → ℕ → ℕ → Type 0) (x y z x' y' z' : ℕ) → IsLeastTriple P x y z → IsLeastTriple P x' y' z' → x ≡ x'
triple_first P x y z x' y' z' h g =
    least_first (λ k. (v : ℕ) × (w : ℕ) × P k v w) x x' (λ k l p. h.before k p.0 p.1 l p.2) (y, z, h.rest.rest.here) (λ k l p. g.before k p.0 p.1 l p.2) (y', z', g.rest.rest.here)

-- what is left of a triple behind its first number
triple_rest : (P : ℕ → ℕ → ℕ → Type 0) (x y z x' y' z' : ℕ) → IsLeastTriple P x y z → IsLeastTriple P x' y' z' → IsLeastPair (P x) y' z'
triple_rest P x y z x' y' z' h g = subst (λ k. IsLeastPair (P k) y' z') (sym (triple_first P x y z x' y' z' h g)) g.rest

pub triple_second : (P : ℕ → ℕ → ℕ → Type 0) (x y z x' y' z' : ℕ) → IsLeastTriple P x y z → IsLeastTriple P x' y' z' → y ≡ y'
triple_second P x y z x' y' z' h g = pair_first (P x) y z y' z' h.rest (triple_rest P x y z x' y' z' h g)

pub triple_third : (P : ℕ → ℕ → ℕ → Type 0) (x y z x' y' z' : ℕ) → IsLeastTriple P x y z → IsLeastTriple P x' y' z' → z ≡ z'
triple_third P x y z x' y' z' h g = pair_second (P x) y z y' z' h.rest (triple_rest P x y z x' y' z' h g)

pub four_first : (P : ℕ → ℕ → ℕ → ℕ → Type 0) (x y z w x' y' z' w' : ℕ) → IsLeastFour P x y z w → IsLeastFour P x' y' z' w' → x ≡ x'
four_first P x y z w x' y' z' w' h g =
    least_first (λ k. (r : ℕ) × (s : ℕ) × (t : ℕ) × P k r s t) x x' (λ k l p. h.before k p.0 p.1 p.2 l p.3) (y, z, w, h.rest.rest.rest.here) (λ k l p. g.before k p.0 p.1 p.2 l p.3) (y', z', w', g.rest.rest.rest.here)

-- what is left of four behind the first
pub four_rest : (P : ℕ → ℕ → ℕ → ℕ → Type 0) (x y z w x' y' z' w' : ℕ) → IsLeastFour P x y z w → IsLeastFour P x' y' z' w' → IsLeastTriple (P x) y' z' w'
four_rest P x y z w x' y' z' w' h g = subst (λ k. IsLeastTriple (P k) y' z' w') (sym (four_first P x y z w x' y' z' w' h g)) g.rest

-- ids with one number are one
pub same_vertex : (u v : VertexId) → u.0 ≡ v.0 → u ≡ v
same_vertex u v e = ap (λ n. let w : VertexId = record { 0 = n } in w) e

-- an edge by the numbers of its ends
edge : (m n : ℕ) → m < n → Ends
edge m n l = record { a = record { 0 = m }; b = record { 0 = n }; rising = l }

pub same_ends : (e f : Ends) → e.a.0 ≡ f.a.0 → e.b.0 ≡ f.b.0 → e ≡ f
unfolding edge
same_ends e f first second =
    let here : (q : e.a.0 < e.b.0) → e ≡ edge e.a.0 e.b.0 q = λ q. ap (λ l. edge e.a.0 e.b.0 l) (le_prop e.rising q) in
    (subst (λ (n : ℕ). (q : f.a.0 < n) → e ≡ edge f.a.0 n q) second (subst (λ (m : ℕ). (q : m < e.b.0) → e ≡ edge m e.b.0 q) first here)) f.rising
