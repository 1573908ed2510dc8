-- Lists of edges collected one by one.
use Rattle.std.proofs.Common.{◌≡◌, ◌⊎◌, ◌↔◌, ℕ, ◌+◌, ◌<◌, ◌≤◌, Bool, true, false, cond, List, [], ◌∷◌, ◌++◌, Contains, refl, sym, ap, ap₂, subst, inl, inr, arith}
use Rattle.std.proofs.lemmas.Bool.{cases_eq, true≢false}
use Rattle.std.proofs.lemmas.List.Elements.{Contains-append_cases, Contains-append_left, Contains-append_right}
use Rattle.map_theory.specs.Maps.{Dart}
use Rattle.graphs.specs.Graphs.{EdgeGraph}
use Rattle.graphs.proofs.PairLemmas.{Contains-cases, Contains-none, AllPairs-both}
use Rattle.left_right_maps.proofs.Inserts.{none_in_none, here, here_or_there}
use Rattle.left_right_lists.specs.Sides.{IsRising, dart_place, AreOrdered}

-- those from the first k vertices
abbrev pub AreRising : EdgeGraph → List ℕ → List ℕ → ℕ → List Dart → Type 0
AreRising graph parents depths k darts =
    (d : Dart) → Contains darts d ↔ ((d.0 < k) × ((d.1 < graph.n) × IsRising graph parents depths d))

-- new has the entries of old, and x where P holds
abbrev pub IsMore : {X : Type 0} → List X → List X → X → Type 0 → Type 0
IsMore old new d P = (x : _) → Contains new x ↔ (Contains old x ⊎ ((x ≡ d) × P))

-- a list to which an entry was appended, if it is wanted
pub more_if : {X : Type 0} (old new : List X) (d : X) (wanted : Bool) (P : Type 0) → new ≡ cond wanted (old ++ d ∷ []) old → (wanted ≡ true) ↔ P → IsMore old new d P
more_if old new d true P is by x = (
  (λ c. elim (Contains-append_cases old (d ∷ []) x (subst (λ z. Contains z x) is c)) [
    | inl k ↦ inl k
    | inr k ↦ elim (here_or_there d x [] k) [ inl e ↦ inr (sym e, by.0 refl) | inr bad ↦ absurd (none_in_none x bad) ]
  ]),
  (λ h. subst (λ z. Contains z x) (sym is) (elim h [
    | inl k ↦ Contains-append_left old (d ∷ []) x k
    | inr k ↦ Contains-append_right old (d ∷ []) x (subst (Contains (d ∷ [])) (sym k.0) (here d []))
  ])),
)
more_if old new d false P is by x = (
  (λ c. inl (subst (λ z. Contains z x) is c)),
  (λ h. elim h [ inl k ↦ subst (λ z. Contains z x) (sym is) k | inr k ↦ absurd (true≢false (sym (by.1 k.1))) ]),
)

-- ---- edges that lead upwards
abbrev pub AreRisingTo : EdgeGraph → List ℕ → List ℕ → List Dart → List Dart → ℕ → ℕ → Type 0
AreRisingTo graph parents depths old new v k =
    (d : Dart) → Contains new d ↔ (Contains old d ⊎ ((d.0 ≡ v) × ((d.1 < k) × IsRising graph parents depths d)))

pub rising_more : (graph : EdgeGraph) (parents depths : List ℕ) (old now new : List Dart) (v k : ℕ) → AreRisingTo graph parents depths old now v k → IsMore now new (v, k) (IsRising graph parents depths (v, k)) → AreRisingTo graph parents depths old new v (k + 1)
rising_more graph parents depths old now new v k h more d = (
  (λ c. elim ((more d).0 c) [
    | inl a ↦ elim ((h d).0 a) [ inl b ↦ inl b | inr b ↦ (let l = b.1.0 in inr (b.0, (omega arith, b.1.1))) ]
    | inr a ↦ (let e = ap (λ (z : Dart). z.1) a.0 in inr (ap (λ (z : Dart). z.0) a.0, (omega arith, subst (IsRising graph parents depths) (sym a.0) a.1)))
  ]),
  (λ g. elim g [
    | inl a ↦ (more d).1 (inl ((h d).1 (inl a)))
    | inr a ↦ elim (cases_eq d.1 k) [
      | inl e ↦
          let is : d ≡ (v, k) = ap₂ (λ (x y : ℕ). (x, y)) a.0 e in
          (more d).1 (inr (is, subst (IsRising graph parents depths) is a.1.1))
      | inr ne ↦ (let l = a.1.0 in (more d).1 (inl ((h d).1 (inr (a.0, (omega arith, a.1.1))))))
    ]
  ]),
)

pub all_rising_more : (graph : EdgeGraph) (parents depths : List ℕ) (now new : List Dart) (v : ℕ) → AreRising graph parents depths v now → AreRisingTo graph parents depths now new v graph.n → AreRising graph parents depths (v + 1) new
all_rising_more graph parents depths now new v h more d = (
  (λ c. elim ((more d).0 c) [
    | inl a ↦ (let b = (h d).0 a in let l = b.0 in (omega arith, b.1))
    | inr a ↦ (let e = a.0 in (omega arith, a.1))
  ]),
  (λ g. elim (cases_eq d.0 v) [
    | inl e ↦ (more d).1 (inr (e, g.1))
    | inr ne ↦ (let l = g.0 in (more d).1 (inl ((h d).1 (omega arith, g.1))))
  ]),
)

-- ---- in order
-- one more edge, of a greater place
pub ordered_if : (old new : List Dart) (d : Dart) (wanted : Bool) → new ≡ cond wanted (old ++ d ∷ []) old → ((e : Dart) → Contains old e → dart_place e < dart_place d) → AreOrdered old → AreOrdered new
ordered_if old new d false is below h = subst AreOrdered (sym is) h
ordered_if old new d true is below h =
    subst AreOrdered (sym is) (AllPairs-both (λ e f. dart_place e < dart_place f) old (d ∷ []) h (λ i j z l m. absurd (omega arith)) (λ e f c k. elim (Contains-cases d [] f k) [
      | inl same ↦ subst (λ (z : Dart). dart_place e < dart_place z) same (below e c)
      | inr bad ↦ absurd (Contains-none f bad)
    ]))

-- the edges so far have lesser places than the next one
pub places_below : (graph : EdgeGraph) (parents depths : List ℕ) (old now : List Dart) (v k : ℕ) → graph.n ≤ 256 → k < graph.n → AreRising graph parents depths v old → AreRisingTo graph parents depths old now v k → (e : Dart) → Contains now e → dart_place e < dart_place (v, k)
places_below graph parents depths old now v k few l h to e c =
    elim ((to e).0 c) [
      | inl a ↦ (let b = (h e).0 a in let x = b.0 in let y = b.1.0 in omega arith)
      | inr b ↦ (let x = b.0 in let y = b.1.0 in omega arith)
    ]
