-- A base has one outer cycle.
use Rattle.std.proofs.Common.{◌≡◌, ℕ, List, Bool, false, Contains, sym, ap, ◌∙◌, subst}
use Rattle.map_lists.specs.Lists.{Lists}
use Rattle.map_theory.specs.Maps.{IsSimpleMap, follows, entry_after}
use Rattle.map_theory.proofs.DartLemmas.{Contains-entry_after}
use Rattle.plane_peeling.specs.Restricted.{IsFaceOfThree}
use Rattle.plane_peeling.specs.NearTriangulations.{IsOuterCycle}
use Rattle.plane_peeling.specs.TwoGone.{IsOpenOutside}
use Rattle.plane_peeling.proofs.Rings.{entries_closed}
use Rattle.plane_peeling.proofs.OuterCycles.{last_on, next-last}

-- what stands on the one cycle stands on the other, and goes on to the same vertex
pub same_cycle : (lists : Lists) (s t : ℕ) (ws ws' : List ℕ) → IsSimpleMap lists → IsOuterCycle lists s t ws → IsOuterCycle lists s t ws' → (x : ℕ) → Contains ws x → Contains ws' x × (entry_after x ws ≡ entry_after x ws')
same_cycle lists s t ws ws' simple one two x c =
    (entries_closed Both ws t x one.distinct (last_on lists s t ws simple one)
    (last_on lists s t ws simple one, (last_on lists s t ws' simple two, next-last lists s t ws simple one ∙ sym (next-last lists s t ws' simple two)))
    (λ z h.
    let turn : entry_after (entry_after z ws) ws ≡ entry_after (entry_after z ws) ws' =
    sym (one.turns z h.0) ∙ (ap (λ y. follows lists y z) h.1.1 ∙ (two.turns z h.1.0 ∙ ap (λ y. entry_after y ws') (sym h.1.1))) in
    (Contains-entry_after z ws h.0, (subst (Contains ws') (sym h.1.1) (Contains-entry_after z ws' h.1.0), turn))) c).1
  where
    Both : ℕ → Type 0
    Both z = Contains ws z × (Contains ws' z × (entry_after z ws ≡ entry_after z ws'))

-- so what is taken off lies around the one where it lies around the other
pub IsOpenOutside-same : (lists : Lists) (kept : ℕ → Bool) (t : ℕ) (ws ws' : List ℕ) → ((x : ℕ) → Contains ws x → Contains ws' x × (entry_after x ws ≡ entry_after x ws')) → IsOpenOutside lists kept t ws' → IsOpenOutside lists kept t ws
IsOpenOutside-same lists kept t ws ws' same h = record {
  beyond = λ x c. let o = same x c in subst (λ y. kept (follows lists y x) ≡ false) (sym o.1) (h.beyond x o.0);
  triangles = λ x c n. let o = same x c in subst (λ y. IsFaceOfThree lists x y (follows lists y x)) (sym o.1) (h.triangles x o.0 n);
  company = h.company;
}
