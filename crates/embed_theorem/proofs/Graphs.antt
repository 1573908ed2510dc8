-- Graphs as lists and as edges, witnesses of parts, and vertices that have edges, counted.
use Rattle.std.proofs.Common.{◌≡◌, ◌≢◌, ◌⊎◌, ℕ, suc, ◌-◌, ◌<◌, Bool, true, not, eqb, List, [], ◌∷◌, length, AllPairs, Contains, refl, sym, ap, ◌∙◌, subst, arith}
use Rattle.std.specs.List.{filter, range_with_len}
use Rattle.std.proofs.lemmas.Bool.{false≢true, and_from, ne_eqb}
use Rattle.std.proofs.lemmas.List.FromFn.{length-range_with_len, get_or-range_with_len}
use Rattle.std.proofs.lemmas.List.Kept.{AllPairs-filter}
use Rattle.classes.specs.Classes.{count_below}
use Rattle.classes.proofs.Counting.{count_below_weaker}
use Rattle.map_lists.specs.Lists.{Lists}
use Rattle.map_theory.specs.Maps.{list_of, HasDart, IsSimpleMap, is_empty_list}
use Rattle.map_theory.proofs.EntryLemmas.{Contains-from_filter, Contains-filter}
use Rattle.map_theory.proofs.DartPermutations.{has_edge as has_some}
use Rattle.graphs.specs.Graphs.{EdgeGraph, has_edge}
use Rattle.embed_surgery.proofs.Entries.{lists_by}
use Rattle.embed_surgery.proofs.UnionLists.{length-lists_by, list_of-lists_by}
use Rattle.embed_contraction.specs.Linked.{HasEdge}
use Rattle.embed_contraction.proofs.Parts.{minus, count_below-minus}
use Rattle.embed_contraction.proofs.Frames.{frame-witness, witness-frame, frame-map}
use Rattle.embed_contraction.specs.Traces.{HasWitness}
use Rattle.kuratowski.specs.Witnesses.{vertex_at, path_at}
use Rattle.embed_theorem.specs.Expanded.{HasJustEdges, IsMapOf}
use Rattle.embed_theorem.specs.ListGraphs.{graph_of}
use Rattle.embed_theorem.proofs.GraphLemmas.{has_edge-from, has_edge-is}

-- how many vertices have edges
abbrev pub live : Lists → ℕ
live lists = count_below (λ v. not (is_empty_list (list_of lists v))) (length lists)

-- A and B have the edges of the lists between them, and meet in u and v at most; each lacks a vertex that has an edge.
pub record IsSided (lists A B : Lists) (u v : ℕ) : Type 0 where
  pub simple_A : IsSimpleMap A
  pub simple_B : IsSimpleMap B
  pub length_A : length A ≡ length lists
  pub length_B : length B ≡ length lists
  pub split : (a b : ℕ) → HasDart lists a b → HasDart A a b ⊎ HasDart B a b
  pub of_A : (a b : ℕ) → HasDart A a b → HasDart lists a b
  pub of_B : (a b : ℕ) → HasDart B a b → HasDart lists a b
  pub shared : (w p q : ℕ) → HasDart A w p → HasDart B w q → (w ≡ u) ⊎ (w ≡ v)
  pub lost_A : ℕ
  pub edge_A : HasEdge lists lost_A
  pub gone_A : ¬ HasEdge A lost_A
  pub lost_B : ℕ
  pub edge_B : HasEdge lists lost_B
  pub gone_B : ¬ HasEdge B lost_B

-- the edge between u and v, in either direction
abbrev pub IsBetween : ℕ → ℕ → ℕ → ℕ → Type 0
IsBetween u v a b = ((a ≡ u) × (b ≡ v)) ⊎ ((a ≡ v) × (b ≡ u))

-- lists with an edge between u and v
pub record IsJoinedUp (old new : Lists) (u v : ℕ) : Type 0 where
  pub simple : IsSimpleMap new
  pub vertices : length new ≡ length old
  pub edge : HasDart new u v
  pub kept : (a b : ℕ) → HasDart old a b → HasDart new a b
  pub only : (a b : ℕ) → HasDart new a b → HasDart old a b ⊎ IsBetween u v a b

pub just_edges : (lists : Lists) → IsSimpleMap lists → HasJustEdges lists (graph_of lists)
just_edges lists simple = record { vertices = refl; there = has_edge-from lists; all = has_edge-is lists simple }

-- the lists of a graph given by a test
pub lists_of : ℕ → (ℕ → ℕ → Bool) → Lists
lists_of n t = lists_by (λ v. filter (t v) (range_with_len 0 n)) n

pub length-lists_of : (n : ℕ) (t : ℕ → ℕ → Bool) → length (lists_of n t) ≡ n
unfolding lists_of
length-lists_of n t = length-lists_by (λ v. filter (t v) (range_with_len 0 n)) n

pub in_range : (n u : ℕ) → u < n → Contains (range_with_len 0 n) u
in_range n u l = let r = length-range_with_len 0 n in (u, omega arith, get_or-range_with_len 0 n u u l ∙ omega arith)

pub from_range : (n u : ℕ) → Contains (range_with_len 0 n) u → u < n
from_range n u c =
    let r = length-range_with_len 0 n in
    omega (arith, get_or-range_with_len 0 n c.0 u (omega arith))

pub HasDart-lists_of : (n : ℕ) (t : ℕ → ℕ → Bool) (v u : ℕ) → v < n → u < n → t v u ≡ true → HasDart (lists_of n t) v u
unfolding lists_of
HasDart-lists_of n t v u lv lu e =
    let r = length-lists_by (λ v. filter (t v) (range_with_len 0 n)) n in
    (omega arith, subst (λ us. Contains us u) (sym (list_of-lists_by (λ v. filter (t v) (range_with_len 0 n)) n v lv)) (Contains-filter (t v) (range_with_len 0 n) u (in_range n u lu) e))

pub lists_of-dart : (n : ℕ) (t : ℕ → ℕ → Bool) (v u : ℕ) → HasDart (lists_of n t) v u → (v < n) × (u < n) × (t v u ≡ true)
unfolding lists_of
lists_of-dart n t v u d =
    let lv : v < n = let l = d.0 in omega (arith, length-lists_by (λ v. filter (t v) (range_with_len 0 n)) n) in
    let c = Contains-from_filter (t v) (range_with_len 0 n) u (subst (λ us. Contains us u) (list_of-lists_by (λ v. filter (t v) (range_with_len 0 n)) n v lv) d.1) in
    (lv, from_range n u c.0, c.1)

pub IsSimpleMap-lists_of : (n : ℕ) (t : ℕ → ℕ → Bool) → 0 < n → ((u v : ℕ) → t u v ≡ true → t v u ≡ true) → ((u v : ℕ) → t u v ≡ true → u ≢ v) → IsSimpleMap (lists_of n t)
unfolding lists_of
IsSimpleMap-lists_of n t some turned two =
    let r = length-lists_by (λ v. filter (t v) (range_with_len 0 n)) n in
    let known = lists_of-dart n t in
    record {
      some_vertex = omega arith;
      in_range = λ v u d. let k = (known v u d).1 in omega arith;
      no_loop = λ v u d e. two v u (known v u d).2 (sym e);
      no_repeat = λ v l. subst (AllPairs ◌≢◌) (sym (list_of-lists_by (λ v. filter (t v) (range_with_len 0 n)) n v (omega arith))) (AllPairs-filter ◌≢◌ (t v) (range_with_len 0 n) (range_apart n));
      both_ways = λ v u d. let k = known v u d in HasDart-lists_of n t u v k.1 k.0 (turned v u k.2);
    }
  where
    range_apart : (n : ℕ) → AllPairs ◌≢◌ (range_with_len 0 n)
    range_apart n i j d l m e = grind (arith, length-range_with_len, get_or-range_with_len)

-- a witness of a part
pub witness_more : (part whole : EdgeGraph) → part.n ≡ whole.n → ((a b : ℕ) → has_edge part a b ≡ true → has_edge whole a b ≡ true) → HasWitness part → HasWitness whole
witness_more part whole n more w = grind (arith, frame-witness, witness-frame, vertex_at, length, path_at, frame-map)

-- what is to be shown of lists
abbrev pub Result : Lists → Type 0
Result lists = HasWitness (graph_of lists) ⊎ ((map : Lists) × IsMapOf map (graph_of lists))

pub part_witness : (part lists : Lists) → IsSimpleMap part → length part ≡ length lists → ((a b : ℕ) → HasDart part a b → HasDart lists a b) → HasWitness (graph_of part) → HasWitness (graph_of lists)
part_witness part lists simple n more w = witness_more (graph_of part) (graph_of lists) n (λ a b e. has_edge-from lists a b (more a b (has_edge-is part simple a b e))) w

pub map_from : (map lists : Lists) → IsSimpleMap lists → IsMapOf map (graph_of lists) → (a b : ℕ) → HasDart map a b → HasDart lists a b
map_from map lists simple of a b d = has_edge-is lists simple a b (of.edges.there a b d)

pub map_to : (map lists : Lists) → IsMapOf map (graph_of lists) → (a b : ℕ) → HasDart lists a b → HasDart map a b
map_to map lists of a b d = of.edges.all a b (has_edge-from lists a b d)

-- ---- vertices with edges
some_is : (us : List ℕ) → not (is_empty_list us) ≡ true → (u : ℕ) × Contains us u
some_is [] e = absurd (false≢true e)
some_is (u ∷ us) e = (u, (0, omega arith, refl))

some_from : (us : List ℕ) (u : ℕ) → Contains us u → not (is_empty_list us) ≡ true
some_from [] u c = absurd (omega (arith, c.1))
some_from (w ∷ us) u c = refl

pub live_is : (lists : Lists) (v : ℕ) → v < length lists → has_some lists v ≡ true → HasEdge lists v
live_is lists v l e = let r = some_is (list_of lists v) e in (r.0, (l, r.1))

pub live_from : (lists : Lists) (v : ℕ) → HasEdge lists v → has_some lists v ≡ true
live_from lists v h = some_from (list_of lists v) h.0 h.1.1

pub live_less : (part lists : Lists) → length part ≡ length lists → ((z : ℕ) → HasEdge part z → HasEdge lists z) → (z : ℕ) → HasEdge lists z → ¬ HasEdge part z → live part < live lists
live_less part lists n more z h gone =
    let one = count_below-minus (has_some lists) (length lists) z h.1.0 (live_from lists z h) in
    let rest = count_below_weaker (has_some part) (minus (has_some lists) z) (length lists) (λ i m t.
    let p = live_is part i (omega arith) t in
    and_from (has_some lists i) (not (eqb i z)) (live_from lists i (more i p)) (ap not (ne_eqb i z (λ e. gone (subst (HasEdge part) e p))))) in
    omega (arith, ap (count_below (has_some part)) n)
