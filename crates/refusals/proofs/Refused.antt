-- Conditions that wrong bodies would name.
use Rattle.std.proofs.Common.{◌≡◌, ℕ, zero, suc, [], ◌∷◌, Option, Some, None, Bool, true, false, refl, arith}
use Rattle.std.specs.Prelude.{nat_lt, if◌then◌else◌}
use Rattle.std.proofs.lemmas.Bool.Decides.{nat_tests}
use Rattle.map_lists.specs.Lists.{Lists}
use Rattle.map_theory.specs.Maps.{vertex_count, genus}
use Rattle.simple_maps.specs.Faults.{Fault, out_of_range, loop_at, repeated, one_sided, first_fault}
use Rattle.refusals.specs.Conditions.{map_refusal, refusal_after, first_refusal, IfRefused}
use Rattle.refusals.specs.declared.conditions.Refusal.{Refusal}
use Rattle.refusals.specs.declared.conditions.Refusal.TheVariants.{Small, Genus}
use Rattle.refusals.specs.declared.conditions.Unserved.TheVariants.{Refused}

-- each genus above 0 called 1
every_genus_is_one : IfRefused (λ refusal. ◌≡◌ {A = Option Refusal} (Some (Genus 2)) (Some refusal)) (Refused (Genus 1)) → ⊥
every_genus_is_one n = cc

-- one vertex with a loop, called small before its fault is named
small_before_the_faults : first_refusal 3 ((0 ∷ []) ∷ []) ≡ Some (Small 1) → ⊥
unfolding first_fault
small_before_the_faults n = cc

-- lists of genus 0 refused for it, since they have two components
components_as_genus : (lists : Lists) → first_refusal 3 lists ≡ Some (Genus 0) → ⊥
components_as_genus lists n = never (first_fault lists) (vertex_count lists) (genus lists) n
  where
    neither : (few above : Bool) (n g : ℕ) → ◌≡◌ {A = Option Refusal} (if few then Some (Small n) else (if above then Some (Genus (suc g)) else None)) (Some (Genus 0)) → ⊥
    neither true above n g e = cc
    neither false true n g e = cc
    neither false false n g e = cc

    never : (found : Option Fault) (n g : ℕ) → refusal_after found (map_refusal 3 n g) ≡ Some (Genus 0) → ⊥
    never (Some (out_of_range v u)) n g e = cc
    never (Some (loop_at v)) n g e = cc
    never (Some (repeated v u)) n g e = cc
    never (Some (one_sided v u)) n g e = cc
    never None n zero e = neither (nat_lt n 3) (nat_lt 1 1) n 0 e
    never None n (suc g) e = neither (nat_lt n 3) (nat_lt 0 (suc g)) n g e

-- as many vertices as are wanted called too few
least_is_few : (lists : Lists) (n : ℕ) → first_refusal n lists ≡ Some (Small n) → ⊥
least_is_few lists n e = never (first_fault lists) (vertex_count lists) (genus lists) e
  where
    few : (test : Bool) (m g : ℕ) → nat_lt m n ≡ test → ◌≡◌ {A = Option Refusal} (if test then Some (Small m) else (if nat_lt 0 g then Some (Genus g) else None)) (Some (Small n)) → ⊥
    few true m g less e = let same : m ≡ n = cc in grind (arith, nat_tests)
    few false m g less e = above (nat_lt 0 g) g e
      where
        above : (test : Bool) (g : ℕ) → ◌≡◌ {A = Option Refusal} (if test then Some (Genus g) else None) (Some (Small n)) → ⊥
        above true g e = cc
        above false g e = cc

    never : (found : Option Fault) (m g : ℕ) → refusal_after found (map_refusal n m g) ≡ Some (Small n) → ⊥
    never (Some (out_of_range v u)) m g e = cc
    never (Some (loop_at v)) m g e = cc
    never (Some (repeated v u)) m g e = cc
    never (Some (one_sided v u)) m g e = cc
    never None m g e = few (nat_lt m n) m g refl e
