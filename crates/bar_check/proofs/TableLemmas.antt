-- The pass that writes the columns of all edges at their darts, list by list.
use Rattle.std.proofs.Common.{◌≡◌, ◌≢◌, ℕ, ◌+◌, ◌<◌, ◌≤◌, cond, List, length, get_or, set, Contains, length-set, Option, Some, None, unwrap_or, ℤ, refl, sym, ap, ◌∙◌, subst, inl, inr, ⊎_elim, arith}
use Rattle.std.proofs.lemmas.Bool.{cases_eq, cases_lt, cases_order, lt-ltb, le-ltb}
use Rattle.std.specs.Option.{MatchOption}
use Rattle.map_lists.specs.Lists.{Lists}
use Rattle.map_lists.specs.declared.items.Ends.{Ends}
use Rattle.map_theory.specs.Maps.{Dart, HasDart, list_of, place_of}
use Rattle.map_theory.proofs.DartLemmas.{place_of-lt-length, get_or-place_of}
use Rattle.half_edges.specs.Map.{Map, IsHalfMap, IsLive, dart_at}
use Rattle.pg_plane.specs.declared.figures.BarFigure.{BarFigure}
use Rattle.vertex_rounds.specs.Rounds.{HasEdge, dart_of}
use Rattle.vertex_rounds.specs.Least.{IsLeastPair}
use Rattle.vertex_rounds.proofs.LeastLemmas.{IsLeastPair-alike}
use Rattle.vertex_rounds.proofs.DartIds.{dart_of-live, has_dart}
use Rattle.drawings.specs.Bars.{number_at, edges_before, column_of, column_between, IsColumn}
use Rattle.bar_check.specs.Faults.{HasBadColumn}
use Rattle.bar_check.specs.Verdicts.{NoBadColumn}
use Rattle.bar_check.specs.Tables.{IsDartOf, AreColumns, IsWritten, IsMet, AreFilled, IsMetBad, IsFirstMetBad, IsUpTo}
use Rattle.drawings.specs.NextEdges.{AreNext}
use Rattle.drawings.proofs.NextEdges.{edge_here, number_is, AreNext-none, AreNext-next, AreNext-put, AreNext-past}
use Rattle.drawings.proofs.NumberCounts.{edge_number-lt}

module _ (map : Map) (fig : BarFigure) (h : IsHalfMap map) where
  abbrev lists : Lists
  lists = map.lists

  -- an entry of the list of b, when it is met
  module _ (b a : ℕ) (has : HasDart lists b a) where
    abbrev us : List ℕ
    us = list_of lists b

    abbrev i : ℕ
    i = place_of a us

    li : i < length us
    li = place_of-lt-length a us has.1

    at_i : get_or us i 0 ≡ a
    at_i = get_or-place_of a us 0 li

    -- where c is met next at b, it is a
    met_before : (c d : ℕ) → IsMet lists b (i + 1) c d → HasEdge lists c d → ((c ≡ a) → (d ≡ b) → ⊥) → IsMet lists b i c d
    met_before c d m e other = ⊎_elim (λ less. inl less) (λ same. inr (same.0, before same.0 same.1)) m
      where
        back : d ≡ b → Contains us c
        back s = subst (λ z. Contains (list_of lists z) c) s (h.simple.both_ways c d e.1).1

        before : d ≡ b → place_of c us < i + 1 → place_of c us < i
        before s l = elim (cases_eq (place_of c us) i) [
          | inl same ↦ absurd (other (sym (get_or-place_of c us 0 (place_of-lt-length c us (back s))) ∙ (ap (λ k. get_or us k 0) same ∙ at_i)) s)
          | inr ne ↦ omega (arith, l, ne)
        ]

    -- the first edge with a bad column, with one entry more
    module _ (width : ℤ) where
      still : (c d : ℕ) → IsMetBad lists fig width b i c d → IsMetBad lists fig width b (i + 1) c d
      still c d m = record { bad = m.bad; met = ⊎_elim (λ l. inl l) (λ s. inr (s.0, omega (arith, s.1))) m.met }

      back_to : (c d : ℕ) → IsMetBad lists fig width b (i + 1) c d → ((c ≡ a) → (d ≡ b) → ⊥) → IsMetBad lists fig width b i c d
      back_to c d m other = record { bad = m.bad; met = met_before c d m.met m.bad.edge other }

      kept : ((c d : ℕ) → IsMetBad lists fig width b (i + 1) c d → (c ≡ a) → (d ≡ b) → ⊥) → (found : Option Ends) → IsFirstMetBad lists fig width b i found → IsFirstMetBad lists fig width b (i + 1) found
      kept other None first = λ c d m. first c d (back_to c d m (other c d m))
      kept other (Some e) first = IsLeastPair-alike (IsMetBad lists fig width b i) (IsMetBad lists fig width b (i + 1)) still (λ c d m. back_to c d m (other c d m)) e.a.0 e.b.0 first

      -- it is no edge upwards
      pub first-past : b ≤ a → (found : Option Ends) → IsFirstMetBad lists fig width b i found → IsFirstMetBad lists fig width b (i + 1) found
      first-past l = kept (λ c d m sc sd. omega (arith, m.bad.edge.0, sc, sd, l))

      -- its column is none that is bad
      pub first-good : IsColumn fig width a b (column_of lists fig a b) → (found : Option Ends) → IsFirstMetBad lists fig width b i found → IsFirstMetBad lists fig width b (i + 1) found
      first-good good = kept (λ c d m sc sd. m.bad.bad (subst (λ z. IsColumn fig width z d (column_of lists fig z d)) (sym sc) (subst (λ z. IsColumn fig width a z (column_of lists fig a z)) (sym sd) good)))

      -- the one that was found comes before it
      pub first-stays : (found : Option Ends) → IsUpTo found a → IsFirstMetBad lists fig width b i found → IsFirstMetBad lists fig width b (i + 1) found
      first-stays None up first = absurd up
      first-stays (Some e) up first = record {
        before = λ z t l m. first.before z t l (back_to z t m (λ sz st. omega (arith, l, up, sz)));
        rest = record {
          here = still e.a.0 e.b.0 first.rest.here;
          before = λ u l m. first.rest.before u l (back_to e.a.0 u m (λ sa su. ⊎_elim (λ less. omega (arith, less, l, su)) (λ same. omega (arith, same.0, l, su)) first.rest.here.met));
        };
      }

      -- it is the first
      pub first-new : (found : Option Ends) → IsFirstMetBad lists fig width b i found → ¬ IsUpTo found a → HasBadColumn lists fig width a b → IsLeastPair (IsMetBad lists fig width b (i + 1)) a b
      first-new found first behind bad = record {
        before = λ z t l m. none found first behind z t (omega (arith, l)) (back_to z t m (λ sz st. omega (arith, l, sz)));
        rest = record {
          here = record { bad = bad; met = inr (refl, omega arith) };
          before = λ u l m. none found first behind a u (omega arith) (back_to a u m (λ sa su. omega (arith, l, su)));
        };
      }
        where
          none : (found : Option Ends) → IsFirstMetBad lists fig width b i found → ¬ IsUpTo found a → (z t : ℕ) → z ≤ a → ¬ IsMetBad lists fig width b i z t
          none None first behind z t l = first z t
          none (Some e) first behind z t l = first.before z t (elim (cases_lt a e.a.0) [ inl less ↦ omega (arith, l, less) | inr more ↦ absurd (behind more) ])

    -- it is an edge upwards
    pub edge_next : a < b → HasEdge lists a b
    edge_next l = (l, h.simple.both_ways b a has)

    -- the column read by the number of the next edge
    pub column_next : (next : List ℕ) → AreNext lists b i next → a < b → number_at fig.column (get_or next a 0) ≡ column_of lists fig a b
    column_next next w l = ap (λ z. number_at fig.column z) (number_is lists h.simple b i a has.0 li at_i next w l)

    -- what was written so far
    module _ (next : List ℕ) (columns : List ℤ) (w : AreFilled map fig b i next columns) where
      pub number_few : a < b → get_or next a 0 < 4294967295
      number_few l =
          let n = edge_number-lt lists h.simple a b (edge_here lists h.simple b i a has.0 li at_i next w.numbers l) in
          omega (arith, number_is lists h.simple b i a has.0 li at_i next w.numbers l, n, h.few_edges)

      module _ (next' : List ℕ) (columns' : List ℤ) where
        -- the edge to a, whose turn it is
        pub AreFilled-put : a < b → (d t : ℕ) → dart_at map d ≡ Some (b, a) → dart_at map t ≡ Some (a, b) → next' ≡ set next a (get_or next a 0 + 1) → IsWritten d t (number_at fig.column (get_or next a 0)) columns columns' → AreFilled map fig b (i + 1) next' columns'
        AreFilled-put l d t at_d at_t en put = record {
          vertices = ap length en ∙ (length-set next a (get_or next a 0 + 1) ∙ w.vertices);
          numbers = λ c lc. ap (λ (z : List ℕ). get_or z c 0) en ∙ AreNext-put lists h.simple b i a has.0 li at_i next w.numbers w.vertices l c lc;
          known = λ c e x edge met of lx. elim (cases_eq x d) [
            | inl s ↦ (let k = here c e edge (subst (λ z. IsDartOf map z c e) s of) at_d in
                subst (λ z. number_at columns' z ≡ column_of lists fig c e) (sym s) (put.here (subst (λ z. z < length columns') s lx) ∙ value c e k))
            | inr nd ↦ elim (cases_eq x t) [
              | inl s ↦ (let k = there c e edge (subst (λ z. IsDartOf map z c e) s of) at_t in
                  subst (λ z. number_at columns' z ≡ column_of lists fig c e) (sym s) (put.there (subst (λ z. z < length columns') s lx) ∙ value c e k))
              | inr nt ↦ put.elsewhere x nd nt ∙ w.known c e x edge (met_before c e met edge (other c e x of nd nt)) of (omega (arith, lx, put.size))
            ]
          ];
        }
          where
            value : (c e : ℕ) → (c ≡ a) × (e ≡ b) → number_at fig.column (get_or next a 0) ≡ column_of lists fig c e
            value c e k = column_next next w.numbers l ∙ (ap (λ z. column_of lists fig z b) (sym k.0) ∙ ap (λ z. column_of lists fig c z) (sym k.1))

            both : (p q r s : ℕ) → (let x : Option Dart = Some (p, q) in let y : Option Dart = Some (r, s) in x ≡ y) → (p ≡ r) × (q ≡ s)
            both p q r s e = (ap (λ (o : Option Dart). (unwrap_or o (0, 0)).0) e, ap (λ (o : Option Dart). (unwrap_or o (0, 0)).1) e)

            here : (c e : ℕ) → HasEdge lists c e → IsDartOf map d c e → dart_at map d ≡ Some (b, a) → (c ≡ a) × (e ≡ b)
            here c e edge of at = ⊎_elim
                (λ up. let s = both b a c e (sym at ∙ up) in absurd (omega (arith, edge.0, l, s.0, s.1)))
                (λ down. let s = both b a e c (sym at ∙ down) in (sym s.1, sym s.0)) of

            there : (c e : ℕ) → HasEdge lists c e → IsDartOf map t c e → dart_at map t ≡ Some (a, b) → (c ≡ a) × (e ≡ b)
            there c e edge of at = ⊎_elim
                (λ up. let s = both a b c e (sym at ∙ up) in (sym s.0, sym s.1))
                (λ down. let s = both a b e c (sym at ∙ down) in absurd (omega (arith, edge.0, l, s.0, s.1))) of

            other : (c e x : ℕ) → IsDartOf map x c e → x ≢ d → x ≢ t → (c ≡ a) → (e ≡ b) → ⊥
            other c e x of nd nt sc se = ⊎_elim
                (λ up. nt (h.one_id x t a b (up ∙ (ap (λ z. Some (z, e)) sc ∙ ap (λ z. Some (a, z)) se)) at_t))
                (λ down. nd (h.one_id x d b a (down ∙ (ap (λ z. Some (e, z)) sc ∙ ap (λ z. Some (z, a)) se)) at_d)) of

        -- an edge that leads up, whose turn it is not
        pub AreFilled-past : b ≤ a → AreFilled map fig b (i + 1) next columns
        AreFilled-past l = record {
          vertices = w.vertices;
          numbers = AreNext-past lists h.simple b i a has.0 li at_i next w.numbers l;
          known = λ c e x edge met of lx. w.known c e x edge (met_before c e met edge (λ sc se. absurd (omega (arith, edge.0, sc, se, l)))) of lx;
        }

  -- what is met before the next list is met in this one or before
  met_before_next : (b i : ℕ) → i ≡ length (list_of lists b) → (a c : ℕ) → HasEdge lists a c → IsMet lists (b + 1) 0 a c → IsMet lists b i a c
  met_before_next b i whole a c edge met = ⊎_elim (λ less. met_now less) (λ same. absurd (omega (arith, same.1))) met
    where
      met_now : c < b + 1 → IsMet lists b i a c
      met_now less = elim (cases_eq c b) [
        | inr ne ↦ inl (omega (arith, less, ne))
        | inl s ↦ inr (s, let back : Contains (list_of lists b) a = subst (λ z. Contains (list_of lists z) a) s (h.simple.both_ways a c edge.1).1 in let l = place_of-lt-length a (list_of lists b) back in omega (arith, l, whole))
      ]

  -- the next list
  pub AreFilled-next : (b i : ℕ) (next : List ℕ) (columns : List ℤ) → b < length lists → i ≡ length (list_of lists b) → AreFilled map fig b i next columns → AreFilled map fig (b + 1) 0 next columns
  AreFilled-next b i next columns lb whole w =
      record {
        vertices = w.vertices;
        numbers = AreNext-next lists h.simple b i next lb whole w.numbers;
        known = λ a c e edge met. w.known a c e edge (met_before_next b i whole a c edge met);
      }

  -- the same of the first edge with a bad column
  module _ (width : ℤ) where
    met_still : (b i c d : ℕ) → IsMetBad lists fig width b i c d → IsMetBad lists fig width (b + 1) 0 c d
    met_still b i c d m = record { bad = m.bad; met = inl (⊎_elim (λ less. omega (arith, less)) (λ same. omega (arith, same.0)) m.met) }

    before_next : (b i : ℕ) → i ≡ length (list_of lists b) → (c d : ℕ) → IsMetBad lists fig width (b + 1) 0 c d → IsMetBad lists fig width b i c d
    before_next b i whole c d m = record { bad = m.bad; met = met_before_next b i whole c d m.bad.edge m.met }

    all_met : (b : ℕ) → length lists ≤ b → (c d : ℕ) → HasBadColumn lists fig width c d → IsMetBad lists fig width b 0 c d
    all_met b l c d bad = record { bad = bad; met = inl (let n = h.simple.in_range c d bad.edge.1 in omega (arith, n, l)) }

    pub first-next : (b i : ℕ) → i ≡ length (list_of lists b) → (found : Option Ends) → IsFirstMetBad lists fig width b i found → IsFirstMetBad lists fig width (b + 1) 0 found
    first-next b i whole None first = λ c d m. first c d (before_next b i whole c d m)
    first-next b i whole (Some e) first = IsLeastPair-alike (IsMetBad lists fig width b i) (IsMetBad lists fig width (b + 1) 0) (met_still b i) (before_next b i whole) e.a.0 e.b.0 first

    pub first-none : IsFirstMetBad lists fig width 0 0 None
    first-none = λ c d m. ⊎_elim (λ less. omega (arith, less)) (λ same. omega (arith, same.1)) m.met

    pub first-from : (b : ℕ) → length lists ≤ b → (found : Option Ends) → IsFirstMetBad lists fig width b 0 found → MatchOption found (NoBadColumn lists fig width) (λ (e : Ends). IsLeastPair (HasBadColumn lists fig width) e.a.0 e.b.0)
    first-from b l None first = λ c d bad. first c d (all_met b l c d bad)
    first-from b l (Some e) first = IsLeastPair-alike (IsMetBad lists fig width b 0) (HasBadColumn lists fig width) (λ c d m. m.bad) (all_met b l) e.a.0 e.b.0 first

  -- before all lists, and behind them
  pub AreFilled-none : (next : List ℕ) (columns : List ℤ) → length next ≡ length lists → ((a : ℕ) → a < length lists → get_or next a 0 ≡ edges_before lists a) → AreFilled map fig 0 0 next columns
  AreFilled-none next columns size all = record {
    vertices = size;
    numbers = AreNext-none lists next all;
    known = λ a c e edge met. ⊎_elim (λ less. absurd (omega arith)) (λ same. absurd (omega (arith, same.1))) met;
  }

  pub AreColumns-from : (b : ℕ) (next : List ℕ) (columns : List ℤ) → length lists ≤ b → AreFilled map fig b 0 next columns → AreColumns map fig columns
  AreColumns-from b next columns l w = record { each = λ a c e edge. w.known a c e edge (inl (let n = h.simple.in_range a c edge.1 in omega (arith, n, l))) }

  -- the column at a dart
  pub column-at : (columns : List ℤ) → AreColumns map fig columns → (d : ℕ) → IsLive map d → d < length columns → number_at columns d ≡ column_between lists fig (dart_of map d).0 (dart_of map d).1
  column-at columns all d live l =
      let v = (dart_of map d).0 in
      let u = (dart_of map d).1 in
      let at = dart_of-live map d live in
      let has = has_dart map h d live in
      elim (cases_order v u) [
        | inl same ↦ absurd (h.simple.no_loop v u has (sym same))
        | inr o ↦ elim o [
          | inl less ↦ all.each v u d (less, has) (inl at) l ∙ ap (λ t. cond t (column_of lists fig v u) (column_of lists fig u v)) (sym (lt-ltb v u less))
          | inr more ↦ all.each u v d (more, h.simple.both_ways v u has) (inr at) l ∙ ap (λ t. cond t (column_of lists fig v u) (column_of lists fig u v)) (sym (le-ltb v u (omega (arith, more))))
        ]
      ]

-- a column written at one dart, and then at another
pub IsWritten-both : (d t : ℕ) (x : ℤ) (old mid new : List ℤ) → length mid ≡ length old → (d < length mid → number_at mid d ≡ x) → ((e : ℕ) → e ≢ d → number_at mid e ≡ number_at old e) → length new ≡ length mid → (t < length new → number_at new t ≡ x) → ((e : ℕ) → e ≢ t → number_at new e ≡ number_at mid e) → IsWritten d t x old new
IsWritten-both d t x old mid new size here elsewhere size' there elsewhere' = grind (arith, cases_eq, number_at, length)
