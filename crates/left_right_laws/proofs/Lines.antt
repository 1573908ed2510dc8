-- Lines of a forest, from a vertex up and from above down, as parts of ways.
use Rattle.std.proofs.Common.{◌≡◌, ◌≢◌, ℕ, zero, suc, ◌+◌, ◌<◌, ◌≤◌, List, [], ◌∷◌, ◌++◌, AllPairs, Contains, refl, sym, ap, ◌∙◌, subst, inl, inr, arith}
use Rattle.std.proofs.lemmas.List.Elements.{Contains-append_cases}
use Rattle.map_lists.specs.Lists.{Lists}
use Rattle.map_theory.specs.Maps.{HasDart, IsSimpleMap}
use Rattle.map_theory.proofs.EntryLemmas.{Contains-cons_cases, AllPairs-append}
use Rattle.left_right_laws.specs.Ways.{IsWay, first_on, last_on}
use Rattle.left_right_laws.specs.Forests.{up, IsForest}

pub none_in_none : (z : ℕ) → ¬ Contains [] z
none_in_none z c = let some = c.1 in omega arith

pub only_one : (x z : ℕ) → Contains (x ∷ []) z → z ≡ x
only_one x z c = elim (Contains-cons_cases x [] z c) [ inl e ↦ sym e | inr n ↦ absurd (none_in_none z n) ]

-- a list without repeats with an entry more
pub AllPairs-more : (x : ℕ) (us : List ℕ) → ¬ Contains us x → AllPairs ◌≢◌ us → AllPairs ◌≢◌ (x ∷ us)
AllPairs-more x us off distinct =
    AllPairs-append (x ∷ []) us (λ i j d l h. absurd (omega arith)) distinct (λ u c c'. off (subst (Contains us) (only_one x u c) c'))

-- ---- ways put together
pub IsWay-push : (lists : Lists) (x : ℕ) (us : List ℕ) (u y : ℕ) → IsWay lists x us u → HasDart lists u y → IsWay lists x (us ++ u ∷ []) y
IsWay-push lists x [] u y way has = (way, has)
IsWay-push lists x (z ∷ us) u y way has = (way.0, IsWay-push lists z us u y way.1 has)

pub first_on-push : (us : List ℕ) (u y : ℕ) → first_on (us ++ u ∷ []) y ≡ first_on us u
first_on-push [] u y = refl
first_on-push (z ∷ us) u y = refl

pub last_on-push : (x : ℕ) (us : List ℕ) (u : ℕ) → last_on x (us ++ u ∷ []) ≡ u
last_on-push x [] u = refl
last_on-push x (z ∷ us) u = last_on-push z us u

pub IsWay-join : (lists : Lists) (x : ℕ) (us : List ℕ) (z : ℕ) (vs : List ℕ) (y : ℕ) → IsWay lists x us z → IsWay lists z vs y → IsWay lists x (us ++ z ∷ vs) y
IsWay-join lists x [] z vs y one other = (one, other)
IsWay-join lists x (u ∷ us) z vs y one other = (one.0, IsWay-join lists u us z vs y one.1 other)

pub first_on-join : (us : List ℕ) (z : ℕ) (vs : List ℕ) (y : ℕ) → first_on (us ++ z ∷ vs) y ≡ first_on us z
first_on-join [] z vs y = refl
first_on-join (u ∷ us) z vs y = refl

pub last_on-join : (x : ℕ) (us : List ℕ) (z : ℕ) (vs : List ℕ) → last_on x (us ++ z ∷ vs) ≡ last_on z vs
last_on-join x [] z vs = refl
last_on-join x (u ∷ us) z vs = last_on-join u us z vs

-- ---- steps up
pub up-add : (parent : ℕ → ℕ) (k j n v : ℕ) → n ≡ k + j → up parent n v ≡ up parent j (up parent k v)
up-add parent zero j n v e = let same : n ≡ j = omega arith in ap (λ i. up parent i v) same
up-add parent (suc k) j zero v e = absurd (omega arith)
up-add parent (suc k) j (suc n) v e = up-add parent k j n (parent v) (omega arith)

-- the first k vertices from t up
abbrev pub line : (ℕ → ℕ) → ℕ → ℕ → List ℕ
line parent t zero = []
line parent t (suc k) = t ∷ line parent (parent t) k

-- the k vertices above v, from the highest down
abbrev pub down : (ℕ → ℕ) → ℕ → ℕ → List ℕ
down parent v zero = []
down parent v (suc k) = down parent (parent v) k ++ parent v ∷ []

pub first_on-line : (parent : ℕ → ℕ) (t k : ℕ) → first_on (line parent t k) (up parent k t) ≡ t
first_on-line parent t zero = refl
first_on-line parent t (suc k) = refl

pub last_on-line : (parent : ℕ → ℕ) (x t k : ℕ) → last_on x (line parent t (suc k)) ≡ up parent k t
last_on-line parent x t zero = refl
last_on-line parent x t (suc k) = last_on-line parent t (parent t) k

pub line-in : (parent : ℕ → ℕ) (t k z : ℕ) → Contains (line parent t k) z → (i : ℕ) × (i < k) × (z ≡ up parent i t)
line-in parent t zero z c = absurd (none_in_none z c)
line-in parent t (suc k) z c =
    elim (Contains-cons_cases t (line parent (parent t) k) z c) [
      | inl e ↦ (0, omega arith, sym e)
      | inr there ↦ let rest = line-in parent (parent t) k z there in (suc rest.0, (let l = rest.1 in omega arith), rest.2)
    ]

pub first_on-down : (parent : ℕ → ℕ) (v k : ℕ) → first_on (down parent v k) v ≡ up parent k v
first_on-down parent v zero = refl
first_on-down parent v (suc k) = first_on-push (down parent (parent v) k) (parent v) v ∙ first_on-down parent (parent v) k

pub last_on-down : (parent : ℕ → ℕ) (v k : ℕ) → last_on (up parent (suc k) v) (down parent v k) ≡ parent v
last_on-down parent v zero = refl
last_on-down parent v (suc k) = last_on-push (up parent (suc (suc k)) v) (down parent (parent v) k) (parent v)

pub down-in : (parent : ℕ → ℕ) (v k z : ℕ) → Contains (down parent v k) z → (i : ℕ) × (0 < i) × (i ≤ k) × (z ≡ up parent i v)
down-in parent v zero z c = absurd (none_in_none z c)
down-in parent v (suc k) z c =
    elim (Contains-append_cases (down parent (parent v) k) (parent v ∷ []) z c) [
      | inl there ↦ let rest = down-in parent (parent v) k z there in (suc rest.0, omega arith, (let l = rest.2 in omega arith), rest.3)
      | inr here ↦ (1, omega arith, omega arith, only_one (parent v) z here)
    ]

module _ (lists : Lists) (simple : IsSimpleMap lists) (parent depth : ℕ → ℕ) (forest : IsForest (HasDart lists) parent depth) where
  pub depth-up : (k v : ℕ) → k ≤ depth v → depth v ≡ depth (up parent k v) + k
  depth-up zero v l = omega arith
  depth-up (suc k) v l = let e = forest.deeper v (omega arith) in omega (arith, e, depth-up k (parent v) (omega arith))

  -- as a way that comes from x and goes up
  pub IsWay-line : (x t k : ℕ) → HasDart lists x t → k ≤ depth t → IsWay lists x (line parent t k) (up parent k t)
  IsWay-line x t zero has l = has
  IsWay-line x t (suc k) has l =
      (has, IsWay-line t (parent t) k (forest.edges t (omega arith)) (omega arith))

  -- as one that comes from above
  pub IsWay-down : (v k : ℕ) → suc k ≤ depth v → IsWay lists (up parent (suc k) v) (down parent v k) v
  IsWay-down v zero l = simple.both_ways v (parent v) (forest.edges v (omega arith))
  IsWay-down v (suc k) l =
      IsWay-push lists (up parent (suc k) (parent v)) (down parent (parent v) k) (parent v) v (IsWay-down (parent v) k (omega arith)) (simple.both_ways v (parent v) (forest.edges v (omega arith)))

  -- the depth of what stands on them
  pub line-depth : (t k z : ℕ) → k ≤ depth t → Contains (line parent t k) z → (depth z ≤ depth t) × (depth t < depth z + k)
  line-depth t k z l c =
      let at = line-in parent t k z c in
      let e = depth-up at.0 t (omega arith) in
      let same = ap depth at.2 in
      (omega arith, omega arith)

  pub down-depth : (v k z : ℕ) → k ≤ depth v → Contains (down parent v k) z → (depth z < depth v) × (depth v ≤ depth z + k)
  down-depth v k z l c =
      let at = down-in parent v k z c in
      let e = depth-up at.0 v (omega arith) in
      let same = ap depth at.3 in
      (omega arith, omega arith)

  pub distinct-line : (t k : ℕ) → k ≤ depth t → AllPairs ◌≢◌ (line parent t k)
  distinct-line t zero l = λ i j d m h. absurd (omega arith)
  distinct-line t (suc k) l =
      AllPairs-more t (line parent (parent t) k) (λ c. let at = line-depth (parent t) k t (omega arith) c in let m = at.0 in omega arith) (distinct-line (parent t) k (omega arith))

  pub distinct-down : (v k : ℕ) → k ≤ depth v → AllPairs ◌≢◌ (down parent v k)
  distinct-down v zero l = λ i j d m h. absurd (omega arith)
  distinct-down v (suc k) l =
      AllPairs-append (down parent (parent v) k) (parent v ∷ []) (distinct-down (parent v) k (omega arith)) (λ i j d m h. absurd (omega arith))
      (λ u c c'. let at = down-depth (parent v) k u (omega arith) c in let m = at.0 in let same = ap depth (only_one (parent v) u c') in omega arith)
