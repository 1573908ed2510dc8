-- Just one dart of a vertex that passes a test, entry by entry; and where the test decides a property, just one entry that has it.
use Rattle.std.proofs.Common.{◌≡◌, ◌≢◌, ℕ, ◌+◌, ◌<◌, ◌≤◌, Bool, true, false, ◌||◌, MatchBool, List, length, Some, get_or, refl, sym, ap, subst, ◌∙◌, inl, inr, arith}
use Rattle.std.proofs.lemmas.Bool.{cases_lt, cases_eq}
use Rattle.map_lists.specs.declared.ids.DartId.{DartId}
use Rattle.map_theory.specs.Maps.{HasDart, list_of, place_of}
use Rattle.map_theory.proofs.DartLemmas.{place_of-get_or}
use Rattle.half_edges.specs.Map.{Map, IsHalfMap, dart_at, first_dart}
use Rattle.vertex_rounds.specs.Rounds.{IsOneOf, IsLaterDart, GoesOnce}
use Rattle.vertex_rounds.specs.First.{Passes, Fails, PassesOnce, IsPassedOnce, PassesOnceOfTwo, TurnsOnce}
use Rattle.vertex_rounds.proofs.LeastLemmas.{entries_more, place_in}
use Rattle.vertex_rounds.proofs.RoundLemmas.{head_at, LeavesFrom, place_at, at_place, place_at-first, place_at-later, head_at-is, LeavesFrom-later}
use Rattle.vertex_rounds.proofs.FirstLemmas.{Decides, passes_has, fails_lacks}

module _ (has lacks : ℕ → Type 0) (us : List ℕ) (k b : ℕ) (e : get_or us k 0 ≡ b) where
  at_k : (i : ℕ) → i ≡ k → get_or us i 0 ≡ b
  at_k i same = ap (λ n. get_or us n 0) same ∙ e

  -- one entry more, where it is not a second one
  pub IsOneOf-more : (old here : Bool) → (here ≡ true → has b) → (here ≡ false → lacks b) → (old ≡ true → here ≡ true → ⊥) → IsOneOf has lacks us k old → IsOneOf has lacks us (k + 1) (old || here)
  IsOneOf-more true true here_has here_lacks other h = absurd (other refl refl)
  IsOneOf-more true false here_has here_lacks other h =
      (h.0, omega (arith, h.1), h.2, λ j l ne. elim (cases_lt j k) [ inl less ↦ h.3 j less ne | inr more ↦ subst lacks (sym (at_k j (omega arith))) (here_lacks refl) ])
  IsOneOf-more false true here_has here_lacks other h =
      (k, omega arith, subst has (sym e) (here_has refl), λ j l ne. elim (cases_lt j k) [ inl less ↦ h j less | inr more ↦ absurd (ne (omega arith)) ])
  IsOneOf-more false false here_has here_lacks other h = entries_more lacks us k b e h (here_lacks refl)

module _ (map : Map) (h : IsHalfMap map) (v : ℕ) where
  -- a list with a later dart after the first has two entries
  pub two_from_later : (first e : ℕ) → dart_at map first ≡ Some (first_dart map.lists v) → IsLaterDart map v (get_or (list_of map.lists v) 0 0) e → 2 ≤ length (list_of map.lists v)
  two_from_later first e is later =
      let same = head_at-is map v (get_or (list_of map.lists v) 0 0) first is in
      let next : IsLaterDart map v (head_at map first) e = subst (λ (x : ℕ). IsLaterDart map v x e) (sym same) later in
      let zero_place = place_at-first map v first is in
      let one_place = place_at-later map v first e next in
      let within = (at_place map h v e (LeavesFrom-later map v first e next)).0 in
      omega arith

  -- and one without has here_lacks two
  pub one_from_last : (first : ℕ) → dart_at map first ≡ Some (first_dart map.lists v) → place_of (get_or (list_of map.lists v) 0 0) (list_of map.lists v) + 1 ≡ length (list_of map.lists v) → 2 ≤ length (list_of map.lists v) → ⊥
  one_from_last first is last two =
      let zero_place = place_at-first map v first is in
      let same = ap (λ (x : ℕ). place_of x (list_of map.lists v)) (head_at-is map v (get_or (list_of map.lists v) 0 0) first is) in
      omega arith

-- the round of v stands at dart d, and `passed` says whether just one of the darts before passes, or none
pub record IsOnceRound (map : Map) (says : DartId → Bool → Type 0) (v d : ℕ) (passed : Bool) : Type 0 where
  pub dart : LeavesFrom map v d
  pub once : IsOneOf (Passes map says v) (Fails map says v) (list_of map.lists v) (place_at map v d) passed

module _ (map : Map) (h : IsHalfMap map) (says : DartId → Bool → Type 0) (v : ℕ) where
  abbrev us : List ℕ
  us = list_of map.lists v

  at_entry : (u : ℕ) (d : DartId) → dart_at map d.0 ≡ Some (v, u) → (i : ℕ) × (i < length us) × (get_or us i 0 ≡ u)
  at_entry u d is = place_in us u (h.is_dart d.0 v u is).1

  -- what passes once, or never, of the whole list
  pub once_of_all : (k : ℕ) (r : Bool) → k ≡ length us → IsOneOf (Passes map says v) (Fails map says v) us k r → PassesOnce map says v r
  once_of_all k true n o = (
    get_or us o.0 0,
    o.2,
    λ w ne d is.
        let at = at_entry w d is in
        let other : at.0 ≢ o.0 = λ same. ne (sym at.2 ∙ ap (λ i. get_or us i 0) same) in
        subst (Fails map says v) at.2 (o.3 at.0 (rw n at.1) other) d is,
  )
  once_of_all k false n o = inl (λ u d is. let at = at_entry u d is in subst (Fails map says v) at.2 (o at.0 (rw n at.1)) d is)

  -- what a test answers at the dart of a round
  pub passes_here : (d : DartId) (r : Bool) → LeavesFrom map v d.0 → says d r → r ≡ true → Passes map says v (head_at map d.0)
  passes_here d r dart s e = (d, dart, subst (says d) e s)

  fails_here : (d : DartId) (r : Bool) → LeavesFrom map v d.0 → says d r → r ≡ false → Fails map says v (head_at map d.0)
  fails_here d r dart s e = λ d' is.
      let same : d.0 ≡ d'.0 = h.one_id d.0 d'.0 v (head_at map d.0) dart is in
      subst (λ (x : ℕ). says (record { 0 = x }) false) same (subst (says d) e s)

  -- a second one
  twice : (k u : ℕ) → v < length map.lists → k < length us → get_or us k 0 ≡ u → Passes map says v u → IsOneOf (Passes map says v) (Fails map says v) us k true → PassesOnce map says v false
  twice k u lv l e p o =
      let less = o.1 in
      let apart : get_or us o.0 0 ≢ get_or us k 0 = λ same.
      let places : o.0 ≡ k = sym (place_of-get_or us o.0 0 (h.simple.no_repeat v lv) (omega arith)) ∙ (ap (λ x. place_of x us) same ∙ place_of-get_or us k 0 (h.simple.no_repeat v lv) l) in
      omega arith in
      inr (get_or us o.0 0, get_or us k 0, apart, o.2, subst (Passes map says v) (sym e) p)

  module _ (d : DartId) (old : Bool) (o : IsOnceRound map says v d.0 old) (r : Bool) (s : says d r) where
    more : (new : Bool) → new ≡ (old || r) → (old ≡ true → r ≡ true → ⊥) → IsOneOf (Passes map says v) (Fails map says v) us (place_at map v d.0 + 1) new
    more new e never =
        subst (λ (b : Bool). IsOneOf (Passes map says v) (Fails map says v) us (place_at map v d.0 + 1) b) (sym e)
        (IsOneOf-more (Passes map says v) (Fails map says v) us (place_at map v d.0) (head_at map d.0) (at_place map h v d.0 o.dart).1 old r (passes_here d r o.dart s) (fails_here d r o.dart s) never o.once)

    -- at the next
    pub once_later : (e : ℕ) → IsLaterDart map v (head_at map d.0) e → (new : Bool) → new ≡ (old || r) → (old ≡ true → r ≡ true → ⊥) → IsOnceRound map says v e new
    once_later e later new is never = record {
      dart = LeavesFrom-later map v d.0 e later;
      once = subst (λ (k : ℕ). IsOneOf (Passes map says v) (Fails map says v) us k new) (sym (place_at-later map v d.0 e later)) (more new is never);
    }

    -- behind the last
    pub once_last : place_at map v d.0 + 1 ≡ length us → (new : Bool) → new ≡ (old || r) → (old ≡ true → r ≡ true → ⊥) → IsPassedOnce map says v new
    once_last last new is never = record { passed = once_of_all (place_at map v d.0 + 1) new last (more new is never) }

    -- and where a second one passes
    pub once_twice : old ≡ true → r ≡ true → IsPassedOnce map says v false
    once_twice e f =
        let at = at_place map h v d.0 o.dart in
        record {
          passed =
              twice (place_at map v d.0) (head_at map d.0) (h.is_dart d.0 v (head_at map d.0) o.dart).0 at.0 at.1 (passes_here d r o.dart s f)
              (subst (λ (b : Bool). IsOneOf (Passes map says v) (Fails map says v) us (place_at map v d.0) b) e o.once);
        }

  of_two : (r : Bool) → 2 ≤ length us → PassesOnce map says v r → PassesOnceOfTwo map says v r
  of_two true two o = λ more. o
  of_two false two o = (two, o)

  -- a list of two at least
  pub turns_of_two : (r : Bool) → IsPassedOnce map says v r → 2 ≤ length us → TurnsOnce map says v r
  turns_of_two r o two = record { once = of_two r two o.passed }

  module _ (P : ℕ → ℕ → Type 0) (decides : Decides map says 0 P) where
    goes : PassesOnce map says v true → GoesOnce map.lists v (P v)
    goes o = record {
      some = (o.0, h.is_dart o.1.0.0 v o.0 o.1.1, passes_has map h says P 0 decides v o.0 (omega arith) o.1);
      one = λ u w has has' p q. one u has p ∙ sym (one w has' q);
    }
      where
        one : (u : ℕ) → HasDart map.lists v u → P v u → u ≡ o.0
        one u has p = elim (cases_eq u o.0) [ inl e ↦ e | inr ne ↦ absurd (fails_lacks map h says P 0 decides v u (omega arith) has (o.2 u ne) p) ]

    goes_not : PassesOnce map says v false → ¬ GoesOnce map.lists v (P v)
    goes_not (inl none) g = fails_lacks map h says P 0 decides v g.some.0 (omega arith) g.some.1 (none g.some.0) g.some.2
    goes_not (inr two) g =
        two.2 (g.one two.0 two.1 (h.is_dart two.3.0.0 v two.0 two.3.1) (h.is_dart two.4.0.0 v two.1 two.4.1) (passes_has map h says P 0 decides v two.0 (omega arith) two.3) (passes_has map h says P 0 decides v two.1 (omega arith) two.4))

    once_of_two : (r : Bool) → PassesOnceOfTwo map says v r → MatchBool r (2 ≤ length us → GoesOnce map.lists v (P v)) ((2 ≤ length us) × (¬ GoesOnce map.lists v (P v)))
    once_of_two true o = λ two. goes (o two)
    once_of_two false o = (o.0, goes_not o.1)

  -- where the test decides a property, just one entry has it
  pub goes_once : (P : ℕ → ℕ → Type 0) (r : Bool) → TurnsOnce map says v r → Decides map says 0 P → MatchBool r (2 ≤ length us → GoesOnce map.lists v (P v)) ((2 ≤ length us) × (¬ GoesOnce map.lists v (P v)))
  goes_once P r o decides = once_of_two P decides r o.once
