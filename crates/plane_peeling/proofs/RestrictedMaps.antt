-- Maps restricted to some of their vertices.
use Rattle.std.proofs.Common.{◌≡◌, ◌≢◌, ◌⊎◌, ◌&&◌, ℕ, ◌+◌, ◌<◌, Bool, true, false, not, eqb, List, length, Contains, refl, sym, ap, ◌∙◌, subst, inl, inr, eq-eqb, ne_eqb, ◌==◌}
use Rattle.std.specs.List.{filter, list_any}
use Rattle.std.proofs.lemmas.Bool.{cases_Bool, and_from, and_parts, and_right, true≢false, not-true}
use Rattle.std.proofs.Math.Bool.{and_comm}
use Rattle.classes.specs.Classes.{count_below}
use Rattle.classes.proofs.Counting.{count_below_more}
use Rattle.map_lists.specs.Lists.{Lists}
use Rattle.map_theory.specs.Maps.{list_of, HasDart, IsSimpleMap}
use Rattle.map_theory.proofs.EntryLemmas.{Contains-from_filter, Contains-filter, Contains-from_list_any, list_any-from_Contains}
use Rattle.plane_laws.specs.Kept.{IsKeptMap}
use Rattle.plane_laws.proofs.KeptEdges.{filter-all, list_of-with_kept, length-with_kept, same_kept, kept_edges}
use Rattle.plane_laws.proofs.Extended.{filter-filter}
use Rattle.plane_peeling.specs.Restricted.{restricted, kept_but}

-- an entry of a list, or none
pub cases_Contains : (us : List ℕ) (x : ℕ) → Contains us x ⊎ (¬ Contains us x)
cases_Contains us x =
    elim (cases_Bool (list_any (λ w. w == x) us)) [
      | inl t ↦ inl (Contains-from_list_any x us t)
      | inr f ↦ inr (λ c. true≢false (sym (list_any-from_Contains x us c) ∙ f))
    ]

-- the edges between kept vertices
abbrev pub both : (ℕ → Bool) → ℕ → ℕ → Bool
both kept v u = kept v && kept u

both-turned : (kept : ℕ → Bool) (v u : ℕ) → both kept v u ≡ both kept u v
both-turned kept v u = and_comm (kept v) (kept u)

pub restricted-map : (lists : Lists) (kept : ℕ → Bool) → IsSimpleMap lists → IsKeptMap lists (restricted kept lists) (both kept)
restricted-map lists kept simple = kept_edges lists (both kept) (both-turned kept) simple

pub length-restricted : (lists : Lists) (kept : ℕ → Bool) → length (restricted kept lists) ≡ length lists
length-restricted lists kept = length-with_kept (both kept) lists

-- a dart of the restricted map is one whose two ends are kept
pub restricted-old : (lists : Lists) (kept : ℕ → Bool) (v u : ℕ) → HasDart (restricted kept lists) v u → HasDart lists v u × (kept v ≡ true) × (kept u ≡ true)
restricted-old lists kept v u d =
    let was = Contains-from_filter (both kept v) (list_of lists v) u (subst (λ l. Contains l u) (list_of-with_kept (both kept) lists v) d.1) in
    let ends = and_parts (kept v) (kept u) was.1 in
    ((subst (λ n. v < n) (length-restricted lists kept) d.0, was.0), ends.0, ends.1)

pub restricted-new : (lists : Lists) (kept : ℕ → Bool) (v u : ℕ) → HasDart lists v u → kept v ≡ true → kept u ≡ true → HasDart (restricted kept lists) v u
restricted-new lists kept v u d k k' = (
  subst (λ n. v < n) (sym (length-restricted lists kept)) d.0,
  subst (λ l. Contains l u) (sym (list_of-with_kept (both kept) lists v)) (Contains-filter (both kept v) (list_of lists v) u d.1 (and_from (kept v) (kept u) k k')),
)

-- a map restricted twice
pub restricted_again : (lists : Lists) (kept fewer : ℕ → Bool) → ((v : ℕ) → fewer v ≡ true → kept v ≡ true) → restricted fewer (restricted kept lists) ≡ restricted fewer lists
restricted_again lists kept fewer within =
    same_kept (both fewer) (restricted kept lists) (restricted fewer lists) (length-restricted lists kept ∙ sym (length-restricted lists fewer)) (λ v l.
    ap (filter (both fewer v)) (list_of-with_kept (both kept) lists v)
    ∙ (filter-filter (both fewer v) (both kept v) (list_of lists v)
    (λ x t. let ends = and_parts (fewer v) (fewer x) t in and_from (kept v) (kept x) (within v ends.0) (within x ends.1))
    ∙ sym (list_of-with_kept (both fewer) lists v)))

-- restricted to all of its vertices it is itself
pub restricted_all : (lists : Lists) (kept : ℕ → Bool) → IsSimpleMap lists → ((v : ℕ) → v < length lists → kept v ≡ true) → restricted kept lists ≡ lists
restricted_all lists kept simple all =
    same_kept (both kept) lists lists refl (λ v l.
    filter-all (both kept v) (list_of lists v) (λ x c. and_from (kept v) (kept x) (all v l) (all x (simple.in_range v x (l, c)))))

-- the kept vertices without one
pub kept_but-old : (kept : ℕ → Bool) (v u : ℕ) → kept_but kept v u ≡ true → (kept u ≡ true) × (u ≢ v)
kept_but-old kept v u t =
    let parts = and_parts (kept u) (not (eqb u v)) t in
    (parts.0, λ e. true≢false (sym (eq-eqb u v e) ∙ not-true (eqb u v) parts.1))

pub kept_but-new : (kept : ℕ → Bool) (v u : ℕ) → kept u ≡ true → u ≢ v → kept_but kept v u ≡ true
kept_but-new kept v u k ne = and_from (kept u) (not (eqb u v)) k (ap not (ne_eqb u v ne))

pub kept_but-itself : (kept : ℕ → Bool) (v : ℕ) → kept_but kept v v ≡ false
kept_but-itself kept v = and_right (kept v) (not (eqb v v)) (ap not (eq-eqb v v refl))

pub count-kept_but : (kept : ℕ → Bool) (v n : ℕ) → v < n → kept v ≡ true → count_below kept n ≡ count_below (kept_but kept v) n + 1
count-kept_but kept v n l k =
    count_below_more (kept_but kept v) kept n v l (kept_but-itself kept v) k (λ i _ ne. same (kept i) (not (eqb i v)) (ap not (ne_eqb i v ne)))
  where
    same : (a b : Bool) → b ≡ true → (a && b) ≡ a
    same true b e = e
    same false b e = refl
