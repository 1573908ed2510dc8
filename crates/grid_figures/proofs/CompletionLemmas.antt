-- From a drawing of a completion to the drawing of the map.
use Rattle.std.proofs.Common.{◌≡◌, ◌⊎◌, ℕ, zero, suc, ◌<◌, ◌≤◌, List, [], ◌∷◌, length, get_or, Contains, ℤ, refl, sym, ap, subst, ◌∙◌, inl, inr, arith, eqb, eqb-true}
use Rattle.std.specs.Prelude.{Bool, true, false, if◌then◌else◌, Option, Some, None, IfSome, IfNone, MatchOption}
use Rattle.std.specs.List.{list_any}
use Rattle.std.proofs.lemmas.Bool.{true≢false, both_ways, cases_Bool, cases_lt}
use Rattle.map_lists.specs.Lists.{Lists}
use Rattle.map_theory.specs.Maps.{HasDart, IsSimpleMap, IsPlane, list_of, component_count}
use Rattle.map_theory.proofs.DartLemmas.{HasDart-at}
use Rattle.map_theory.proofs.EntryLemmas.{Contains-from_list_any, list_any-from_Contains}
use Rattle.plane_laws.specs.Triangulations.{IsTriangulation}
use Rattle.plane_laws.proofs.EdgeBound.{met_connected}
use Rattle.plane_laws.proofs.Extended.{IsExtended-itself}
use Rattle.plane_laws.specs.MapEditsCompleted.{IsExtended, Completion}
use Rattle.plane_peeling.proofs.Counted.{marks_everywhere}
use Rattle.map_lists.specs.declared.ids.DartId.{DartId}
use Rattle.half_edges.specs.Map.{Map, dart_at, first_dart}
use Rattle.pg_plane.specs.declared.grid_points.Point.{Point}
use Rattle.plane_drawings.specs.Drawing.{IsCounterclockwise}
use Rattle.drawings.specs.Valid.{IsValid}
use Rattle.drawings.specs.OuterFaces.{HasOuterFace}
use Rattle.drawings.proofs.ValidFewer.{dart_more, valid_with_fewer}
use Rattle.drawings.proofs.OuterFewer.{outer_fewer}
use Rattle.grid_figures.specs.DrawingOrdersBases.{LeadsToLeast}
use Rattle.grid_figures.specs.Orders.{IsBaseTo, lists_by}
use Rattle.grid_figures.specs.DrawingOrdersLaws.{IsCompletionFor, IsBaseDrawing}

-- a list is empty, or it has an entry
entry_or_none : (us : List ℕ) → (us ≡ []) ⊎ (0 < length us)
entry_or_none [] = inl refl
entry_or_none (u ∷ us) = inr (omega arith)

none_in : (us : List ℕ) (u : ℕ) → us ≡ [] → ¬ Contains us u
none_in us u e c = let l = c.1 in let n = ap length e in omega arith

-- in a connected map with two vertices or more, vertex 0 has a neighbour
pub some_neighbour : (lists : Lists) → IsSimpleMap lists → component_count lists ≡ 1 → 2 ≤ length lists → 0 < length (list_of lists 0)
some_neighbour lists simple one some =
    elim (entry_or_none (list_of lists 0)) [
      | inr l ↦ l
      | inl e ↦ absurd (true≢false (sym (marks_everywhere lists simple one (λ u. eqb u 0) (λ x u d t. absurd (none_in (list_of lists x) u (ap (list_of lists) (eqb-true x 0 t) ∙ e) d.1)) 0 1 (omega arith) some refl) ∙ refl))
    ]

-- so it has one in a triangulation
pub neighbour_in_completed : (lists : Lists) → IsTriangulation lists → 0 < length (list_of lists 0)
neighbour_in_completed lists c =
    let some = c.some in
    some_neighbour lists c.simple (met_connected lists c.simple c.plane c.some c.edges) (omega arith)

-- a drawing of a completion is one of the map
module _ (lists more : Lists) (to : ℕ) (points : List Point) (width height : ℤ) (h : IsCompletionFor lists more to) (d : IsBaseDrawing more to points width height) where
  valid : IsValid lists points width height
  valid = valid_with_fewer lists more points width height h.simple h.triangulation.simple h.extended (record { in_grid = d.grid; plane = d.plane; rotations = d.rotations })

  outer : HasOuterFace lists points (first_dart lists 0)
  outer one =
      let some = h.triangulation.some in
      let same = h.extended.vertices in
      let l = some_neighbour lists h.simple one (omega (arith, same)) in
      outer_fewer lists more points (0, get_or (list_of lists 0) 0 0) h.simple h.triangulation h.extended (HasDart-at lists 0 0 0 (omega (arith, same)) l) (subst (λ (k : ℕ). IsCounterclockwise more points (0, k)) (h.base.first l) d.counterclockwise) one

  pub completion_draws : IsValid lists points width height × HasOuterFace lists points (first_dart lists 0)
  completion_draws = (valid, outer)

-- the dart of an id as a base
pub record IsBaseAt (lists : Lists) (tri : Map) (base : ℕ) : Type 0 where
  pub to : ℕ
  pub dart : dart_at tri base ≡ Some (0, to)
  pub base_to : IsBaseTo lists tri.lists to

-- the first dart is a base, and so is one to the least neighbour where there is no first
pub base_of_choice :
    (map tri : Map) (first : Option DartId) (base : DartId) → ((d v u : ℕ) → dart_at tri d ≡ Some (v, u) → HasDart tri.lists v u)
    → MatchOption first (list_of map.lists 0 ≡ []) (λ d. dart_at map d.0 ≡ Some (first_dart map.lists 0)) → ((d v u : ℕ) → dart_at map d ≡ Some (v, u) → dart_at tri d ≡ Some (v, u))
    → IfSome first (λ d. base ≡ d) → IfNone first (LeadsToLeast tri base.0) → IfSome first (λ d. 0 < length (list_of map.lists 0))
    → IsBaseAt map.lists tri base.0
base_of_choice map tri None base known none stays given least some = record {
  to = least.to;
  dart = least.dart;
  base_to = record { dart = known base.0 0 least.to least.dart; first = λ l. let e = ap length none in absurd (omega arith); least = λ e. least.least };
}
base_of_choice map tri (Some d) base known is stays given least some =
    let to = get_or (list_of map.lists 0) 0 0 in
    let dart = ap (λ (b : DartId). dart_at tri b.0) given ∙ stays d.0 0 to is in
    record {
      to = to;
      dart = dart;
      base_to = record { dart = known base.0 0 to dart; first = λ l. refl; least = λ e. let n = ap length e in absurd (omega arith) };
    }

-- the least entry of a list below n, or none of these is one
least_below : (us : List ℕ) (n : ℕ) → ((u : ℕ) → u < n → ¬ Contains us u) ⊎ ((to : ℕ) × Contains us to × ((u : ℕ) → u < to → ¬ Contains us u))
least_below us zero = inl (λ u l c. absurd (omega arith))
least_below us (suc n) = elim (least_below us n) [
  | inr found ↦ inr found
  | inl none ↦ elim (cases_Bool (list_any (λ w. eqb w n) us)) [
    | inl e ↦ inr (n, Contains-from_list_any n us e, none)
    | inr e ↦ inl (λ u l c. elim (cases_lt u n) [
      | inl less ↦ none u less c
      | inr top ↦ let same : u ≡ n = omega arith in absurd (both_ways (list_any (λ w. eqb w n) us) e (list_any-from_Contains n us (subst (Contains us) same c)))
    ])
  ]
]

-- a triangulation has a base
base_in : (lists more : Lists) → IsSimpleMap lists → IsTriangulation more → IsExtended lists more → (to : ℕ) × IsBaseTo lists more to
base_in lists more simple triangulation extended =
    let some = triangulation.some in
    elim (entry_or_none (list_of lists 0)) [
      | inr l ↦
          let to = get_or (list_of lists 0) 0 0 in (
            to,
            record {
              dart = dart_more lists more [] simple triangulation.simple extended 0 to (HasDart-at lists 0 0 0 simple.some_vertex l);
              first = λ m. refl;
              least = λ e. let n = ap length e in absurd (omega arith);
            },
          )
      | inl e ↦ elim (least_below (list_of more 0) (length more)) [
        | inr found ↦ (
          found.0,
          record {
            dart = (omega arith, found.1);
            first = λ l. let n = ap length e in absurd (omega arith);
            least = λ d u l c. found.2 u l c.1;
          },
        )
        | inl none ↦
            let d = HasDart-at more 0 0 0 (omega arith) (neighbour_in_completed more triangulation) in
            absurd (none (get_or (list_of more 0) 0 0) (triangulation.simple.in_range 0 (get_or (list_of more 0) 0 0) d) d.1)
      ]
    ]

pub some_completion : (lists : Lists) → Completion → IsSimpleMap lists → IsPlane lists → 3 ≤ length lists → (more : Lists) × ((to : ℕ) × IsCompletionFor lists more to)
some_completion lists completion simple plane some =
    let more = completion lists simple plane some in
    let base = base_in lists more.0 simple more.1 more.2 in
    (more.0, (base.0, record { simple = simple; triangulation = more.1; extended = more.2; base = base.1 }))

-- the lists of a completion as an option: those that were made for it, where edges were put in, and else its own
pub listed_by : (made : Bool) (read own more : Lists) → lists_by made read own ≡ more → MatchOption (if made then Some read else None) (own ≡ more) (λ ls. ls ≡ more)
listed_by true read own more e = e
listed_by false read own more e = e

-- a triangulation is its own completion, for the base to the first neighbour of vertex 0
pub full_completion : (lists : Lists) → IsTriangulation lists → IsCompletionFor lists lists (get_or (list_of lists 0) 0 0)
full_completion lists c =
    let some = neighbour_in_completed lists c in
    let count = c.some in
    record {
      simple = c.simple;
      triangulation = c;
      extended = IsExtended-itself lists;
      base = record {
        dart = HasDart-at lists 0 0 0 (omega arith) some;
        first = λ l. refl;
        least = λ e. let none = ap length e in absurd (omega arith);
      };
    }
