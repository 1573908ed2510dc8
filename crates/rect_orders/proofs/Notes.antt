-- What is removable is on the stack, from the first vertex that is taken off to the last.
use Rattle.std.proofs.Common.{◌≡◌, ℕ, ◌<◌, Bool, true, List, [], length, get_or, Contains, All, sym, ◌∙◌, subst, inl, inr, arith}
use Rattle.std.proofs.lemmas.Bool.{cases_lt}
use Rattle.std.proofs.lemmas.List.{get_or_past}
use Rattle.std.proofs.lemmas.List.Elements.{All-nil}
use Rattle.map_lists.specs.Lists.{Lists}
use Rattle.map_theory.specs.Maps.{list_of}
use Rattle.plane_peeling.proofs.RestrictedMaps.{cases_Contains}
use Rattle.canon_order.specs.Marks.{is_set, IsTally, IsUnmarked, IsNoted}
use Rattle.canon_order.proofs.Marks.{IsTally-none}
use Rattle.rect_orders.specs.Contours.{IsStacked, IsPrepared}

-- nothing is removable where none is gone
pub IsPrepared-begin : (lists : Lists) (t s : ℕ) (marked : List Bool) (near : List ℕ) (gone : List Bool) (away stack : List ℕ) → IsTally lists marked near → IsUnmarked lists gone away → stack ≡ [] → IsPrepared lists t s marked near gone away stack
IsPrepared-begin lists t s marked near gone away stack tally none e = grind (arith, IsTally-none, All, length, All-nil, cases_lt, get_or_past)

-- A vertex taken off: what is noted was removable before, since the counts of those gone change at its neighbours alone, and these are on the stack where they are marked.
pub IsPrepared-taken : (lists : Lists) (t s : ℕ) (marked : List Bool) (near : List ℕ) (gone : List Bool) (away stack : List ℕ) (v : ℕ) (marked' : List Bool) (near' : List ℕ) (gone' : List Bool) (away' stack' : List ℕ) → ((u : ℕ) → Contains (list_of lists v) u → is_set marked' u ≡ true → get_or near' u 0 ≡ 2 → Contains stack' u) → ((u : ℕ) → ¬ Contains (list_of lists v) u → get_or away' u 0 ≡ get_or away u 0) → IsTally lists gone' away' → IsNoted lists marked near stack marked' near' stack' → IsPrepared lists t s marked near gone away stack → IsPrepared lists t s marked' near' gone' away' stack'
IsPrepared-taken lists t s marked near gone away stack v marked' near' gone' away' stack' neighbours same tally n h = record {
  tally = n.tally;
  tally_gone = tally;
  vertices = n.vertices;
  stacked = λ u removable. elim (n.noted u removable.marked_is removable.two) [
    | inl c ↦ c
    | inr q ↦ elim (cases_Contains (list_of lists v) u) [
      | inl c ↦ neighbours u c removable.marked_is removable.two
      | inr none ↦
          let e = same u none in
          let two = removable.two_gone in
          n.kept u (h.stacked u record { marked_is = q.0; not_last = removable.not_last; not_first = removable.not_first; two = sym q.1 ∙ removable.two; two_gone = omega (arith, e, two) })
    ]
  ];
}

-- the stack by the marks alone
pub IsStacked-prepared : (lists : Lists) (t s : ℕ) (marked : List Bool) (near : List ℕ) (gone : List Bool) (away stack : List ℕ) → IsPrepared lists t s marked near gone away stack → IsStacked t s marked near away stack
IsStacked-prepared lists t s marked near gone away stack h = record { vertices = subst (λ n. All (λ v. v < n) stack) (sym h.tally.marks_of_all) h.vertices; stacked = h.stacked }

-- with another such stack
pub IsPrepared-stacked : (lists : Lists) (t s : ℕ) (marked : List Bool) (near : List ℕ) (gone : List Bool) (away stack stack' : List ℕ) → IsPrepared lists t s marked near gone away stack → IsStacked t s marked near away stack' → IsPrepared lists t s marked near gone away stack'
IsPrepared-stacked lists t s marked near gone away stack stack' h new = grind (arith, All)
