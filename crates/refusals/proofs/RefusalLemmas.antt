-- What it says of lists that they break none of the first six conditions.
use Rattle.std.proofs.Common.{◌≡◌, ◌↔◌, ℕ, ◌≤◌, Bool, true, false, cond, refl, ap, ◌∙◌, arith}
use Rattle.std.specs.Prelude.{Option, Some, None, nat_lt}
use Rattle.std.proofs.lemmas.Bool.Decides.{nat_tests}
use Rattle.map_lists.specs.Lists.{Lists}
use Rattle.map_theory.specs.Maps.{IsSimpleMap, IsPlane, vertex_count, genus}
use Rattle.map_theory.specs.Bound.{EulerBound}
use Rattle.simple_maps.specs.Faults.{Fault, first_fault}
use Rattle.refusals.specs.Conditions.{map_refusal, refusal_after, first_refusal}
use Rattle.refusals.specs.declared.conditions.Refusal.{Refusal}
use Rattle.refusals.specs.declared.conditions.Refusal.TheVariants.{Small, Genus}

-- of two choices neither is taken
neither : {A : Type 0} → (a b : Bool) (x y : A) → cond a (Some x) (cond b (Some y) None) ≡ None → (a ≡ false) × (b ≡ false)
neither false false x y h = (refl, refl)
neither false true x y h = absurd (cc)
neither true b x y h = absurd (cc)

map_refusal-none : (least n g : ℕ) → map_refusal least n g ≡ None → (least ≤ n) × (g ≡ 0)
map_refusal-none least n g h =
    let f = neither (nat_lt n least) (nat_lt 0 g) (Small n) (Genus g) h in
    let a = f.0 in
    let b = f.1 in
    (grind (arith, nat_tests), grind (arith, nat_tests))

none-map_refusal : (least n g : ℕ) → least ≤ n → g ≡ 0 → map_refusal least n g ≡ None
none-map_refusal least n g some zero = grind (arith, nat_tests)

refusal_after-none : (o : Option Fault) (later : Option Refusal) → refusal_after o later ≡ None → (o ≡ None) × (later ≡ None)
refusal_after-none None later h = (refl, h)
refusal_after-none (Some f) later h = absurd (cc)

-- a simple map has genus zero exactly where its genus is the number zero
genus-plane : (lists : Lists) → EulerBound → IsSimpleMap lists → genus lists ≡ 0 → IsPlane lists
genus-plane lists bound simple zero = let g = bound lists simple in let e = g.1 in omega arith

plane-genus : (lists : Lists) → IsPlane lists → genus lists ≡ 0
plane-genus lists plane = omega arith

pub no_refusal : (least : ℕ) (lists : Lists) → EulerBound → (first_fault lists ≡ None) ↔ IsSimpleMap lists → (first_refusal least lists ≡ None) ↔ (IsSimpleMap lists × IsPlane lists × (least ≤ vertex_count lists))
no_refusal least lists bound simple = (
  λ h.
      let o = refusal_after-none (first_fault lists) (map_refusal least (vertex_count lists) (genus lists)) h in
      let m = map_refusal-none least (vertex_count lists) (genus lists) o.1 in
      let s = simple.0 o.0 in
      (s, genus-plane lists bound s m.1, m.0),
  λ h.
      ap (λ o. refusal_after o (map_refusal least (vertex_count lists) (genus lists))) (simple.1 h.0) ∙ none-map_refusal least (vertex_count lists) (genus lists) h.2 (plane-genus lists h.1),
)

-- lists that break none of the first six have no fault
pub no_fault : (least : ℕ) (lists : Lists) → first_refusal least lists ≡ None → first_fault lists ≡ None
no_fault least lists h = (refusal_after-none (first_fault lists) (map_refusal least (vertex_count lists) (genus lists)) h).0
