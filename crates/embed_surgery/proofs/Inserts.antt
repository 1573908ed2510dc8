-- A vertex put into a ring: its edges are put in one after another, along the ring; the face that is still open goes from the vertex to the last of its neighbours, and on along the ring.
use Rattle.std.proofs.Common.{◌≡◌, ◌≢◌, ◌⊎◌, ℕ, ◌+◌, ◌-◌, ◌<◌, ◌≤◌, Bool, true, false, not, cond, eqb, List, [], ◌∷◌, ◌++◌, length, get_or, AllPairs, Contains, refl, sym, ap, ap₂, ◌∙◌, subst, inl, inr, arith}
use Rattle.std.specs.Prelude.{slice_set, if◌then◌else◌, slice_index_or}
use Rattle.std.specs.List.{insert}
use Rattle.std.proofs.lemmas.Bool.{cases_Bool, cases_eq, true≢false, eq-eqb, ne_eqb, cond-true, cond-false}
use Rattle.std.proofs.lemmas.List.{append_assoc}
use Rattle.std.proofs.lemmas.List.Elements.{Contains-append_cases, Contains-append_left, Contains-append_right}
use Rattle.classes.proofs.Classes.{Together-from}
use Rattle.map_lists.specs.Lists.{Lists}
use Rattle.map_theory.specs.Maps.{list_of, HasDart, IsSimpleMap, IsPlane, follows, entry_after, dart_number, place_of, is_empty_list, component_classes, SameComponent}
use Rattle.map_theory.specs.Paths.{SameFace}
use Rattle.map_theory.proofs.DartLemmas.{dart_number-lt, entry_after-injective, Contains-entry_after, place_of-lt-length}
use Rattle.map_theory.proofs.EntryLemmas.{Contains-here, Contains-there, Contains-cons_cases, head_apart, AllPairs-tail, AllPairs-left, AllPairs-right, parts_apart}
use Rattle.map_theory.proofs.WithoutEdge.{length-without_edge, follows_same}
use Rattle.map_theory.specs.Edges.{without_edge}
use Rattle.map_theory.proofs.DartPermutations.{twin, IsPairing-twin, has_edge, has_edge-tail, components-marked}
use Rattle.plane_laws.proofs.DartPaths.{tail_of-number, same_face, same_face-step}
use Rattle.plane_laws.specs.WithEdge.{with_edge_at, with_edge_after}
use Rattle.plane_laws.proofs.InsertedEntry.{entry_after-put}
use Rattle.plane_laws.proofs.WithEdge.{with_edge, new_second, entry_at-after, with_edge_after_law, edge_put_in_face, edge_put_between}
use Rattle.plane_peeling.proofs.Rings.{Leads, Leads-part, Leads-join, Leads-in, Leads-same, leads_round, ends_with, round-entry, AllPairs-put, each_of_one}
use Rattle.plane_peeling.proofs.OuterCycles.{entry_before}
use Rattle.embed_surgery.proofs.Holes.{IsRing}

-- w stands in the list and passes the test
abbrev pub IsTaken : List ℕ → (ℕ → Bool) → ℕ → Type 0
IsTaken ws taken w = Contains ws w × (taken w ≡ true)

-- x is put into the ring and joined to what is taken of it: it comes between the vertices before and after each of these, and all else follows as it did.
pub record IsPutIn (lists new : Lists) (ws : List ℕ) (taken : ℕ → Bool) (x : ℕ) : Type 0 where
  pub simple : IsSimpleMap new
  pub plane : IsPlane new
  pub vertices : length new ≡ length lists
  pub kept : (u v : ℕ) → HasDart lists u v → HasDart new u v
  pub edges : (w : ℕ) → IsTaken ws taken w → HasDart new x w
  pub only : (u v : ℕ) → HasDart new u v → HasDart lists u v ⊎ (((u ≡ x) × IsTaken ws taken v) ⊎ ((v ≡ x) × IsTaken ws taken u))
  pub turns : (p : ℕ) → Contains ws p → taken (entry_after p ws) ≡ true → (follows new (entry_after p ws) p ≡ x) × (follows new (entry_after p ws) x ≡ entry_after (entry_after p ws) ws)
  pub same : (v u : ℕ) → HasDart lists v u → ¬ (Contains ws u × (entry_after u ws ≡ v) × (taken v ≡ true)) → follows new v u ≡ follows lists v u

-- the lists with x joined to what is taken of a part of a ring, whose entries come after p: each of these is put in directly after a in x's list, and x in its list directly after what comes before it on the ring
abbrev pub joined_along : (ℕ → Bool) → ℕ → ℕ → Lists → ℕ → List ℕ → Lists
joined_along taken x a lists p [] = lists
joined_along taken x a lists p (v ∷ vs) = joined_along taken x a (if taken v then with_edge_after lists x a v p else lists) v vs

-- the lists with x put into a ring of which the first entry is taken
abbrev pub put_in_ring : (ℕ → Bool) → ℕ → Lists → List ℕ → Lists
put_in_ring taken x lists ws =
    joined_along taken x (slice_index_or ws 0 0) lists (slice_index_or ws (length ws - 1) 0) ws

-- from the entries of a way but its last it goes on to entries of it
pub Leads-next_in : (next : ℕ → ℕ) (x : ℕ) (mid : List ℕ) (b : ℕ) → Leads next x (mid ++ b ∷ []) b → (z : ℕ) → Contains (x ∷ mid) z → Contains (mid ++ b ∷ []) (next z)
Leads-next_in next x [] b h z c = each_of_one (λ y. Contains (b ∷ []) (next y)) x (subst (Contains (b ∷ [])) (sym h.0) (Contains-here b [])) z c
Leads-next_in next x (w ∷ mid) b h z c =
    elim (Contains-cons_cases x (w ∷ mid) z c) [
      | inl e ↦ subst (λ y. Contains (w ∷ mid ++ b ∷ []) (next y)) e (subst (Contains (w ∷ mid ++ b ∷ [])) (sym h.0) (Contains-here w (mid ++ b ∷ [])))
      | inr c' ↦ Contains-there w (mid ++ b ∷ []) (next z) (Leads-next_in next w mid b h.1 z c')
    ]

-- an entry that is taken, and one that is left
joined_along-taken : (taken : ℕ → Bool) (x a : ℕ) (cur : Lists) (p w v : ℕ) (todo : List ℕ) → taken w ≡ true → w ≡ v → joined_along taken x a (with_edge_after cur x a w p) w todo ≡ joined_along taken x a cur p (v ∷ todo)
joined_along-taken taken x a cur p w v todo takes e =
    ap (λ y. joined_along taken x a (with_edge_after cur x a y p) y todo) e
    ∙ ap (λ (l : Lists). joined_along taken x a l v todo) (sym (cond-true (taken v) (with_edge_after cur x a v p) cur (ap taken (sym e) ∙ takes)))

joined_along-left : (taken : ℕ → Bool) (x a : ℕ) (cur : Lists) (p w v : ℕ) (todo : List ℕ) → taken w ≡ false → w ≡ v → joined_along taken x a cur w todo ≡ joined_along taken x a cur p (v ∷ todo)
joined_along-left taken x a cur p w v todo leaves e =
    ap (λ y. joined_along taken x a cur y todo) e
    ∙ ap (λ (l : Lists). joined_along taken x a l v todo) (sym (cond-false (taken v) (with_edge_after cur x a v p) cur (ap taken (sym e) ∙ leaves)))

-- entries that are all left
joined_along-none : (taken : ℕ → Bool) (x a : ℕ) (cur : Lists) (next : ℕ → ℕ) (p : ℕ) (mid : List ℕ) (q : ℕ) (todo : List ℕ) → Leads next p mid q → ((w : ℕ) → Contains mid w → taken w ≡ false) → joined_along taken x a cur q todo ≡ joined_along taken x a cur p (mid ++ todo)
joined_along-none taken x a cur next p [] q todo way none = ap (λ y. joined_along taken x a cur y todo) (sym way)
joined_along-none taken x a cur next p (v ∷ mid) q todo way none =
    joined_along-none taken x a cur next v mid q todo way.1 (λ w c. none w (Contains-there v mid w c))
    ∙ joined_along-left taken x a cur p v v (mid ++ todo) (none v (Contains-here v mid)) refl

module _ (lists : Lists) (simple : IsSimpleMap lists) (plane : IsPlane lists) (x : ℕ) (in_x : x < length lists) (empty : list_of lists x ≡ []) (ws : List ℕ) (ring : IsRing lists ws) (taken : ℕ → Bool) (a : ℕ) (on_a : Contains ws a) (taken_a : taken a ≡ true) where
  abbrev next : ℕ → ℕ
  next p = entry_after p ws

  -- x has no edge
  off : (w u : ℕ) → HasDart lists w u → w ≢ x
  off w u d e = absurd (let c = subst (λ l. Contains l u) (ap (list_of lists) e ∙ empty) d.1 in omega (arith, c.1))

  ring_off : (w : ℕ) → Contains ws w → w ≢ x
  ring_off w c = off w (next w) (ring.darts w c)

  into : (p : ℕ) → Contains ws p → HasDart lists (next p) p
  into p c = simple.both_ways p (next p) (ring.darts p c)

  -- The map `cur`, in which x has its edges to those joined, of which `last` is the last.
  record Stage (cur : Lists) (joined : List ℕ) (last : ℕ) : Type 0 where
    is_simple : IsSimpleMap cur
    is_plane : IsPlane cur
    vertices : length cur ≡ length lists
    kept : (u v : ℕ) → HasDart lists u v → HasDart cur u v
    edges : (w : ℕ) → Contains joined w → HasDart cur x w
    only : (u v : ℕ) → HasDart cur u v → HasDart lists u v ⊎ (((u ≡ x) × Contains joined v) ⊎ ((v ≡ x) × Contains joined u))
    on : (w : ℕ) → Contains joined w → IsTaken ws taken w
    first_on : Contains joined a
    last_on : Contains joined last
    first_turn : follows cur x a ≡ last
    turns : (p : ℕ) → Contains ws p → Contains joined (next p) → (follows cur (next p) p ≡ x) × (follows cur (next p) x ≡ next (next p))
    same : (v u : ℕ) → HasDart lists v u → ¬ (Contains ws u × (next u ≡ v) × Contains joined v) → follows cur v u ≡ follows lists v u

  -- what a stage before has to do with one after
  record Later (cur new : Lists) (joined more : List ℕ) : Type 0 where
    grown : (w : ℕ) → Contains joined w → Contains more w
    kept_turns : (w : ℕ) → Contains joined w → w ≢ a → follows new x w ≡ follows cur x w

  abbrev Open : Lists → ℕ → ℕ → Type 0
  Open cur last p = SameFace cur (x, last) (p, next p)

  -- past a vertex that is not joined the open face goes on along the ring
  passed : (cur : Lists) (joined : List ℕ) (last p : ℕ) → Stage cur joined last → Contains ws p → ¬ Contains joined (next p) → Open cur last p → Open cur last (next p)
  passed cur joined last p s c n opened =
      let step = same_face-step cur s.is_simple (x, last) (p, next p) (s.kept p (next p) (ring.darts p c)) opened in
      subst (λ y. SameFace cur (x, last) (next p, y)) (s.same (next p) p (into p c) (λ h. n h.2) ∙ ring.turns p c) step

  module _ (cur : Lists) (joined : List ℕ) (last p : ℕ) (s : Stage cur joined last) (on_p : Contains ws p) (takes : taken (next p) ≡ true) (fresh : ¬ Contains joined (next p)) (opened : Open cur last p) where
    abbrev v : ℕ
    v = next p

    abbrev new : Lists
    new = with_edge_after cur x a v p

    on_v : Contains ws v
    on_v = Contains-entry_after p ws on_p

    x_v : x ≢ v
    x_v e = ring_off v on_v (sym e)

    has_a : HasDart cur x a
    has_a = s.edges a s.first_on

    has_p : HasDart cur v p
    has_p = s.kept v p (into p on_p)

    far : ¬ HasDart cur x v
    far d =
        elim (s.only x v d) [
          | inl old ↦ off x v old refl
          | inr r ↦ elim r [ inl h ↦ fresh h.1 | inr h ↦ x_v (sym h.0) ]
        ]

    face : SameFace cur (x, follows cur x a) (v, follows cur v p)
    face =
        subst (λ y. SameFace cur (x, y) (v, follows cur v p)) (sym s.first_turn) (same_face-step cur s.is_simple (x, last) (p, v) (s.kept p v (ring.darts p on_p)) opened)

    -- what the edge to v makes
    made : Stage new (v ∷ joined) v × Later cur new joined (v ∷ joined) × Open new v v × (follows new x v ≡ last)
    made =
        let both = with_edge_after_law cur x a v p s.is_simple has_a has_p x_v far in
        let more = both.0 in
        let put = both.1 in
        let back_turn : follows new v x ≡ next v = put.next' ∙ (s.same v p (into p on_p) (λ h. fresh h.2) ∙ ring.turns p on_p) in
        let kept : (u z : ℕ) → HasDart lists u z → HasDart new u z = λ u z d. more.kept u z (s.kept u z d) in
        let there : (w : ℕ) → Contains joined w → Contains (v ∷ joined) w = λ w c. Contains-there v joined w c in
        let here : Contains (v ∷ joined) v = Contains-here v joined in
        let stage : Stage new (v ∷ joined) v = record {
          is_simple = more.simple;
          is_plane = (edge_put_in_face cur x a v p s.is_simple s.is_plane has_a has_p x_v far face).1.plane;
          vertices = sym (length-without_edge new more.simple x v more.edge) ∙ (ap (λ l. length l) more.without ∙ s.vertices);
          kept = kept;
          edges = λ w c. elim (Contains-cons_cases v joined w c) [ inl e ↦ subst (HasDart new x) e more.edge | inr c' ↦ more.kept x w (s.edges w c') ];
          only = λ u z d. elim (more.only u z d) [
            | inl d' ↦ elim (s.only u z d') [
              | inl old ↦ inl old
              | inr r ↦ elim r [ inl h ↦ inr (inl (h.0, there z h.1)) | inr h ↦ inr (inr (h.0, there u h.1)) ]
            ]
            | inr r ↦ elim r [
              | inl h ↦ inr (inl (h.0, subst (Contains (v ∷ joined)) (sym h.1) here))
              | inr h ↦ inr (inr (h.1, subst (Contains (v ∷ joined)) (sym h.0) here))
            ]
          ];
          on = λ w c. elim (Contains-cons_cases v joined w c) [ inl e ↦ subst (IsTaken ws taken) e (on_v, takes) | inr c' ↦ s.on w c' ];
          first_on = there a s.first_on;
          last_on = here;
          first_turn = put.turn;
          turns = λ q c j. elim (cases_eq (next q) v) [
            | inl e ↦
                let same : q ≡ p = entry_after-injective ws q p ring.distinct c on_p e in
                subst (λ y. (follows new (next y) y ≡ x) × (follows new (next y) x ≡ next (next y))) (sym same) (put.turn', back_turn)
            | inr ne ↦ elim (Contains-cons_cases v joined (next q) j) [
              | inl e ↦ absurd (ne (sym e))
              | inr j' ↦
                  let was = s.turns q c j' in
                  let on_q = Contains-entry_after q ws c in
                  let d' = s.is_simple.both_ways x (next q) (s.edges (next q) j') in (
                    put.other (next q) q (s.kept (next q) q (into q c)) (λ e. absurd (ring_off (next q) on_q e)) (λ e. absurd (ne e)) ∙ was.0,
                    put.other (next q) x d' (λ e. absurd (ring_off (next q) on_q e)) (λ e. absurd (ne e)) ∙ was.1,
                  )
            ]
          ];
          same = λ w u d n.
              put.other w u (s.kept w u d) (λ e. absurd (off w u d e)) (λ e e'. n (subst (Contains ws) (sym e') on_p, ap next e' ∙ sym e, subst (Contains (v ∷ joined)) (sym e) here))
              ∙ s.same w u d (λ h. n (h.0, h.1, there w h.2));
        } in
        let later : Later cur new joined (v ∷ joined) = record {
          grown = there;
          kept_turns = λ w c ne. put.other x w (s.edges w c) (λ _ e. ne e) (λ e. absurd (x_v e));
        } in
        let round = same_face-step new more.simple (x, v) (x, v) more.edge (same_face new more.simple (x, v) (x, v) refl) in
        (stage, later, subst (λ y. SameFace new (x, v) (v, y)) back_turn round, put.next ∙ s.first_turn)

  -- what is done with the rest of the ring, which comes after p
  record Done (cur : Lists) (joined : List ℕ) (p : ℕ) (todo : List ℕ) : Type 0 where
    new : Lists
    is : new ≡ joined_along taken x a cur p todo
    more : List ℕ
    last : ℕ
    stage : Stage new more last
    later : Later cur new joined more
    all : (w : ℕ) → Contains todo w → taken w ≡ true → Contains more w

  put_all : (todo : List ℕ) (t : ℕ) (cur : Lists) (joined : List ℕ) (last p : ℕ) → Stage cur joined last → Contains ws p → Leads next p todo t → AllPairs ◌≢◌ todo → ((w : ℕ) → Contains todo w → ¬ Contains joined w) → Open cur last p → Done cur joined p todo
  put_all [] t cur joined last p s c way distinct fresh opened = record {
    new = cur;
    is = refl;
    more = joined;
    last = last;
    stage = s;
    later = record { grown = λ w c'. c'; kept_turns = λ w c' ne. refl };
    all = λ w c'. absurd (omega (arith, c'.1));
  }
  put_all (v ∷ todo) t cur joined last p s c way distinct fresh opened =
      let e = way.0 in
      let on_v = Contains-entry_after p ws c in
      let way' = subst (λ y. Leads next y todo t) (sym e) way.1 in
      let distinct' = AllPairs-tail v todo distinct in
      let not_yet : ¬ Contains joined (next p) = λ h. fresh v (Contains-here v todo) (subst (Contains joined) e h) in
      elim (cases_Bool (taken (next p))) [
        | inl takes ↦
            let m = made cur joined last p s c takes not_yet opened in
            let rest = put_all todo t (with_edge_after cur x a (next p) p) (next p ∷ joined) (next p) (next p) m.0 on_v way' distinct'
            (λ w c' h. elim (Contains-cons_cases (next p) joined w h) [
              | inl q ↦ head_apart v todo distinct (subst (Contains todo) (sym q ∙ e) c')
              | inr h' ↦ fresh w (Contains-there v todo w c') h'
            ]) m.2 in
            record {
              new = rest.new;
              is = rest.is ∙ joined_along-taken taken x a cur p (next p) v todo takes e;
              more = rest.more;
              last = rest.last;
              stage = rest.stage;
              later = record {
                grown = λ w h. rest.later.grown w (m.1.grown w h);
                kept_turns = λ w h ne. rest.later.kept_turns w (m.1.grown w h) ne ∙ m.1.kept_turns w h ne;
              };
              all = λ w c' tw. elim (Contains-cons_cases v todo w c') [
                | inl q ↦ rest.later.grown w (subst (Contains (next p ∷ joined)) (e ∙ q) (Contains-here (next p) joined))
                | inr c'' ↦ rest.all w c'' tw
              ];
            }
        | inr leaves ↦
            let rest = put_all todo t cur joined last (next p) s on_v way' distinct' (λ w c' h. fresh w (Contains-there v todo w c') h) (passed cur joined last p s c not_yet opened) in
            record {
              new = rest.new;
              is = rest.is ∙ joined_along-left taken x a cur p (next p) v todo leaves e;
              more = rest.more;
              last = rest.last;
              stage = rest.stage;
              later = rest.later;
              all = λ w c' tw. elim (Contains-cons_cases v todo w c') [
                | inl q ↦ absurd (true≢false (sym tw ∙ (ap taken (sym q ∙ sym e) ∙ leaves)))
                | inr c'' ↦ rest.all w c'' tw
              ];
            }
      ]

  -- along vertices that are not joined
  passed_all : (mid : List ℕ) (q : ℕ) (cur : Lists) (joined : List ℕ) (last p : ℕ) → Stage cur joined last → Contains ws p → Leads next p mid q → ((w : ℕ) → Contains mid w → ¬ Contains joined w) → Open cur last p → Contains ws q × Open cur last q
  passed_all [] q cur joined last p s c way fresh opened = (subst (Contains ws) way c, subst (Open cur last) way opened)
  passed_all (v ∷ mid) q cur joined last p s c way fresh opened =
      let e = way.0 in
      let not_yet : ¬ Contains joined (next p) = λ h. fresh v (Contains-here v mid) (subst (Contains joined) e h) in
      passed_all mid q cur joined last (next p) s (Contains-entry_after p ws c) (subst (λ y. Leads next y mid q) (sym e) way.1) (λ w c'. fresh w (Contains-there v mid w c')) (passed cur joined last p s c not_yet opened)

  -- ---- the first edge
  before : (p : ℕ) × Contains ws p × (next p ≡ a)
  before = entry_before ws a ring.distinct on_a

  abbrev us : List ℕ
  us = list_of lists a

  has_before : HasDart lists a before.0
  has_before = subst (λ y. HasDart lists y before.0) before.2 (into before.0 before.1)

  abbrev j : ℕ
  j = place_of before.0 us + 1

  abbrev first : Lists
  first = with_edge_at lists x 0 a j

  x_a : x ≢ a
  x_a e = ring_off a on_a (sym e)

  far_a : ¬ HasDart lists x a
  far_a d = off x a d refl

  at_j : j ≤ length us
  at_j = let l = place_of-lt-length before.0 us has_before.1 in omega arith

  apart_a : ¬ SameComponent lists x a
  apart_a t =
      let same = components-marked lists simple (has_edge lists) (λ i l. has_edge-tail lists simple i l ∙ sym (has_edge-tail lists simple (twin lists i) ((IsPairing-twin lists simple).within i l))) x a in_x has_before.0 (Together-from (component_classes lists) x a t) in
      let some : has_edge lists a ≡ true = ap (has_edge lists) (sym (tail_of-number lists a before.0 has_before)) ∙ has_edge-tail lists simple (dart_number lists (a, before.0)) (dart_number-lt lists a before.0 has_before) in
      true≢false (sym some ∙ (sym same ∙ (ap (λ l. not (is_empty_list l)) empty)))

  begun : Stage first (a ∷ []) a × Open first a a
  begun =
      let more = with_edge lists x 0 a j simple in_x has_before.0 x_a far_a (omega arith) at_j in
      let new_a = new_second lists x 0 a j simple in_x has_before.0 x_a far_a (omega arith) at_j in
      let turn : follows first a before.0 ≡ x = ap (entry_after before.0) new_a ∙ entry_after-put us before.0 x has_before.1 in
      let old_turn : follows lists a before.0 ≡ next a = ap (λ y. follows lists y before.0) (sym before.2) ∙ (ring.turns before.0 before.1 ∙ ap next before.2) in
      let back_turn : follows first a x ≡ next a = more.next' ∙ (entry_at-after us before.0 x has_before.1 ∙ old_turn) in
      let only_a : (w : ℕ) → Contains (a ∷ []) w → a ≡ w = λ w c. elim (Contains-cons_cases a [] w c) [ inl e ↦ e | inr c' ↦ absurd (omega (arith, c'.1)) ] in
      let here = Contains-here a [] in
      let stage : Stage first (a ∷ []) a = record {
        is_simple = more.simple;
        is_plane = (edge_put_between lists x 0 a j simple plane in_x has_before.0 apart_a (omega arith) at_j).1.plane;
        vertices = sym (length-without_edge first more.simple x a more.edge) ∙ ap (λ l. length l) more.without;
        kept = more.kept;
        edges = λ w c. subst (HasDart first x) (only_a w c) more.edge;
        only = λ u z d. elim (more.only u z d) [
          | inl old ↦ inl old
          | inr r ↦ grind (arith, Contains)
        ];
        on = λ w c. subst (IsTaken ws taken) (only_a w c) (on_a, taken_a);
        first_on = here;
        last_on = here;
        first_turn = (more.next ∙ ap (λ l. get_or l 0 (get_or l 0 a)) empty);
        turns = λ q c h.
            let same : q ≡ before.0 = entry_after-injective ws q before.0 ring.distinct c before.1 (sym (only_a (next q) h) ∙ sym before.2) in
            subst (λ y. (follows first (next y) y ≡ x) × (follows first (next y) x ≡ next (next y))) (sym same)
            (subst (λ y. (follows first y before.0 ≡ x) × (follows first y x ≡ next y)) (sym before.2) (turn, back_turn));
        same = λ w u d n.
            let stays = follows_same first more.simple x a more.edge w u (subst (λ l. HasDart l w u) (sym more.without) d) (λ e. absurd (off w u d e))
            (λ e q.
            let in_a : HasDart first a u = subst (λ y. HasDart first y u) e (more.kept w u d) in
            let same = entry_after-injective (list_of first a) u before.0 (more.simple.no_repeat a in_a.0) in_a.1 (more.kept a before.0 has_before).1 (ap (λ y. follows first y u) (sym e) ∙ (q ∙ sym turn)) in
            n (subst (Contains ws) (sym same) before.1, ap next same ∙ (before.2 ∙ sym e), subst (Contains (a ∷ [])) (sym e) here)) in
            sym stays ∙ ap (λ l. follows l w u) more.without;
      } in
      let round = same_face-step first more.simple (x, a) (x, a) more.edge (same_face first more.simple (x, a) (x, a) refl) in
      (stage, subst (λ y. SameFace first (x, a) (a, y)) back_turn round)

  -- ---- all edges
  put_in : (map : Lists) (joined : List ℕ) (last : ℕ) → Stage map joined last → ((w : ℕ) → Contains ws w → taken w ≡ true → Contains joined w) → IsPutIn lists map ws taken x
  put_in map joined last s all = record {
    simple = s.is_simple;
    plane = s.is_plane;
    vertices = s.vertices;
    kept = s.kept;
    edges = λ w h. s.edges w (all w h.0 h.1);
    only = λ u v d. elim (s.only u v d) [
      | inl old ↦ inl old
      | inr r ↦ elim r [ inl h ↦ inr (inl (h.0, s.on v h.1)) | inr h ↦ inr (inr (h.0, s.on u h.1)) ]
    ];
    turns = λ p c t. s.turns p c (all (next p) (Contains-entry_after p ws c) t);
    same = λ v u d n. s.same v u d (λ h. n (h.0, h.1, (s.on v h.2).1));
  }

-- ---- the new ring
module _ (lists : Lists) (simple : IsSimpleMap lists) (x a : ℕ) (mid : List ℕ) (b : ℕ) (back : List ℕ) (taken : ℕ → Bool) (ring : IsRing lists (a ∷ mid ++ b ∷ back)) (ring_off : (w : ℕ) → Contains (a ∷ mid ++ b ∷ back) w → w ≢ x) (taken_a : taken a ≡ true) (taken_b : taken b ≡ true) (none : (w : ℕ) → Contains mid w → taken w ≡ false) (y t : ℕ) (way : Leads (λ p. entry_after p (a ∷ mid ++ b ∷ back)) a mid y) (last : entry_after y (a ∷ mid ++ b ∷ back) ≡ b) (new : Lists) (put : IsPutIn lists new (a ∷ mid ++ b ∷ back) taken x) (turn_b : follows new x b ≡ a) where
  abbrev ws : List ℕ
  ws = a ∷ mid ++ b ∷ back

  abbrev L : List ℕ
  L = x ∷ a ∷ mid ++ b ∷ []

  abbrev on : ℕ → ℕ
  on z = entry_after z ws

  -- where the new ring goes on
  on' : ℕ → ℕ
  on' z = cond (eqb z x) a (cond (eqb z b) x (on z))

  on'_x : on' x ≡ a
  unfolding on'
  on'_x = cond-true (eqb x x) a (cond (eqb x b) x (on x)) (eq-eqb x x refl)

  on'_b : b ≢ x → on' b ≡ x
  unfolding on'
  on'_b n = cond-false (eqb b x) a (cond (eqb b b) x (on b)) (ne_eqb b x n) ∙ cond-true (eqb b b) x (on b) (eq-eqb b b refl)

  on'_else : (z : ℕ) → z ≢ x → z ≢ b → on' z ≡ on z
  unfolding on'
  on'_else z n n' = cond-false (eqb z x) a (cond (eqb z b) x (on z)) (ne_eqb z x n) ∙ cond-false (eqb z b) x (on z) (ne_eqb z b n')

  in_ws : (z : ℕ) → Contains (a ∷ mid) z → Contains ws z
  in_ws z c = Contains-append_left (a ∷ mid) (b ∷ back) z c

  on_b : Contains ws b
  on_b = Contains-append_right (a ∷ mid) (b ∷ back) b (Contains-here b back)

  x_b : b ≢ x
  x_b = ring_off b on_b

  not_b : (z : ℕ) → Contains (a ∷ mid) z → z ≢ b
  not_b z c e = parts_apart (a ∷ mid) (b ∷ back) ring.distinct z c (subst (Contains (b ∷ back)) (sym e) (Contains-here b back))

  inner : (z : ℕ) → Contains (a ∷ mid) z → on' z ≡ on z
  inner z c = on'_else z (ring_off z (in_ws z c)) (not_b z c)

  y_in : Contains (a ∷ mid) y
  y_in = Leads-in on a mid y way

  whole_way : Leads on a (mid ++ b ∷ []) b
  whole_way = let end : Leads on y (b ∷ []) b = (last, refl) in Leads-join on a mid y (b ∷ []) b way end

  round : Leads on' b L b
  round =
      (on'_b x_b, (on'_x, Leads-join on' a mid y (b ∷ []) b (Leads-same on on' a mid y (λ z c. inner z c) way) ((inner y y_in ∙ last, refl))))

  in_old : (z : ℕ) → Contains (a ∷ mid ++ b ∷ []) z → Contains ws z
  in_old z c =
      elim (Contains-append_cases (a ∷ mid) (b ∷ []) z c) [
        | inl h ↦ in_ws z h
        | inr h ↦ each_of_one (Contains ws) b on_b z h
      ]

  distinct : AllPairs ◌≢◌ L
  distinct =
      AllPairs-put x (a ∷ mid ++ b ∷ []) (λ c. ring_off x (in_old x c) refl)
      (AllPairs-left (a ∷ mid ++ b ∷ []) back (subst (AllPairs ◌≢◌) (sym (append_assoc (a ∷ mid) (b ∷ []) back)) ring.distinct))

  entry : (z : ℕ) → Contains L z → entry_after z L ≡ on' z
  entry z c = round-entry on' L b distinct round z c

  cases : (P : ℕ → Type 0) → P x → P b → ((z : ℕ) → Contains (a ∷ mid) z → P z) → (z : ℕ) → Contains L z → P z
  cases P at_x at_b inside z c =
      elim (Contains-cons_cases x (a ∷ mid ++ b ∷ []) z c) [
        | inl e ↦ subst P e at_x
        | inr c' ↦ elim (Contains-append_cases (a ∷ mid) (b ∷ []) z c') [
          | inl h ↦ inside z h
          | inr h ↦ each_of_one P b at_b z h
        ]
      ]

  before_a : (p : ℕ) × Contains ws p × (on p ≡ a)
  before_a = entry_before ws a ring.distinct (Contains-here a (mid ++ b ∷ back))

  turn_a : follows new a x ≡ on a
  turn_a =
      let p = before_a in
      subst (λ z. follows new z x ≡ on z) p.2 ((put.turns p.0 p.1 (ap taken p.2 ∙ taken_a)).1)

  dart_on : (z : ℕ) → Contains L z → HasDart new z (on' z)
  dart_on =
      cases (λ z. HasDart new z (on' z)) (subst (HasDart new x) (sym on'_x) (put.edges a (Contains-here a (mid ++ b ∷ back), taken_a)))
      (subst (HasDart new b) (sym (on'_b x_b)) (put.simple.both_ways x b (put.edges b (on_b, taken_b))))
      (λ z c. subst (HasDart new z) (sym (inner z c)) (put.kept z (on z) (ring.darts z (in_ws z c))))

  turn_on : (z : ℕ) → Contains L z → follows new (on' z) z ≡ on' (on' z)
  turn_on =
      cases (λ z. follows new (on' z) z ≡ on' (on' z))
      (ap (λ w. follows new w x) on'_x ∙ (turn_a ∙ (sym (inner a (Contains-here a mid)) ∙ ap on' (sym on'_x))))
      (ap (λ w. follows new w b) (on'_b x_b) ∙ (turn_b ∙ (sym on'_x ∙ ap on' (sym (on'_b x_b)))))
      (λ z c.
      let e = inner z c in
      let turned : follows new (on z) z ≡ on' (on z) =
      elim (Contains-append_cases mid (b ∷ []) (on z) (Leads-next_in on a mid b whole_way z c)) [
        | inl h ↦
            put.same (on z) z (simple.both_ways z (on z) (ring.darts z (in_ws z c))) (λ k. true≢false (sym k.2 ∙ none (on z) h))
            ∙ (ring.turns z (in_ws z c) ∙ sym (inner (on z) (Contains-there a mid (on z) h)))
        | inr h ↦
            let q : b ≡ on z = each_of_one (λ w. b ≡ w) b refl (on z) h in
            (put.turns z (in_ws z c) (ap taken (sym q) ∙ taken_b)).0 ∙ (sym (on'_b x_b) ∙ ap on' q)
      ] in
      ap (λ w. follows new w z) e ∙ (turned ∙ ap on' (sym e)))

  new_ring : IsRing new L
  new_ring = record {
    distinct = distinct;
    darts = λ z c. subst (HasDart new z) (sym (entry z c)) (dart_on z c);
    turns = λ z c.
        let next = subst (Contains L) (entry z c) (Contains-entry_after z L c) in
        ap (λ w. follows new w z) (entry z c) ∙ (turn_on z c ∙ (sym (entry (on' z) next) ∙ ap (λ w. entry_after w L) (sym (entry z c))));
  }

-- what is taken of a list, from what is taken of its parts
all_joined : (a : ℕ) (mid : List ℕ) (b : ℕ) (back : List ℕ) (taken : ℕ → Bool) (more : List ℕ) → ((w : ℕ) → Contains mid w → taken w ≡ false) → Contains more a → Contains more b → ((w : ℕ) → Contains back w → taken w ≡ true → Contains more w) → (w : ℕ) → Contains (a ∷ mid ++ b ∷ back) w → taken w ≡ true → Contains more w
all_joined a mid b back taken more none has_a has_b rest w c t =
    elim (Contains-append_cases (a ∷ mid) (b ∷ back) w c) [
      | inl h ↦ grind (arith, Contains-cons_cases, Contains, has_a, true≢false)
      | inr h ↦ grind (arith, Contains-cons_cases, Contains)
    ]

-- an entry put into an empty list
first_row : (us : List ℕ) (a : ℕ) → us ≡ [] → insert us 0 a ≡ insert us (place_of a us + 1) a
first_row [] a e = refl
first_row (u ∷ us) a e = absurd (let n = ap (λ (l : List ℕ). length l) e in omega arith)

-- a vertex put into a ring, by its lists
pub put_in_ring_law : (lists : Lists) (x a : ℕ) (mid : List ℕ) (b : ℕ) (back : List ℕ) (taken : ℕ → Bool) → IsSimpleMap lists → IsPlane lists → x < length lists → list_of lists x ≡ [] → IsRing lists (a ∷ mid ++ b ∷ back) → taken a ≡ true → taken b ≡ true → ((w : ℕ) → Contains mid w → taken w ≡ false)
    → IsPutIn lists (put_in_ring taken x lists (a ∷ mid ++ b ∷ back)) (a ∷ mid ++ b ∷ back) taken x × IsRing (put_in_ring taken x lists (a ∷ mid ++ b ∷ back)) (x ∷ a ∷ mid ++ b ∷ [])
put_in_ring_law lists x a mid b back taken simple plane in_x empty ring taken_a taken_b none =
    let ws = a ∷ mid ++ b ∷ back in
    let on_a = Contains-here a (mid ++ b ∷ back) in
    let on : ℕ → ℕ = λ p. entry_after p ws in
    let t = get_or ws (length ws - 1) 0 in
    let end = ends_with ws t 0 (omega arith) refl in
    let round = leads_round ws t ring.distinct end.0 end.1 in
    let parts = Leads-part on a mid (b ∷ back) t round.1 in
    let y = parts.0 in
    let start = begun lists simple plane x in_x empty ws ring taken a on_a taken_a in
    let first_map = first lists simple plane x in_x empty ws ring taken a on_a taken_a in
    let only_a : (w : ℕ) → Contains (a ∷ []) w → w ≡ a = λ w c. each_of_one (λ z. z ≡ a) a refl w c in
    let a_off : ¬ Contains (mid ++ b ∷ back) a = head_apart a (mid ++ b ∷ back) ring.distinct in
    let not_first : (w : ℕ) → Contains mid w → ¬ Contains (a ∷ []) w = λ w c h. a_off (Contains-append_left mid (b ∷ back) a (subst (Contains mid) (only_a w h) c)) in
    let b_a : b ≢ a = λ e. a_off (Contains-append_right mid (b ∷ back) a (subst (Contains (b ∷ back)) e (Contains-here b back))) in
    let next_b : on y ≡ b = parts.2.0 in
    let walked = passed_all lists simple plane x in_x empty ws ring taken a on_a taken_a mid y first_map (a ∷ []) a a start.0 on_a parts.1 not_first start.1 in
    let m = made lists simple plane x in_x empty ws ring taken a on_a taken_a first_map (a ∷ []) a y start.0 walked.0 (ap taken next_b ∙ taken_b) (λ h. b_a (sym next_b ∙ only_a (on y) h)) walked.1 in
    let tail = AllPairs-right (a ∷ mid) (b ∷ back) ring.distinct in
    let fresh : (w : ℕ) → Contains back w → ¬ Contains (on y ∷ a ∷ []) w = λ w c h.
    elim (Contains-cons_cases (on y) (a ∷ []) w h) [
      | inl e ↦ head_apart b back tail (subst (Contains back) (sym e ∙ next_b) c)
      | inr h' ↦ a_off (Contains-append_right mid (b ∷ back) a (Contains-there b back a (subst (Contains back) (only_a w h') c)))
    ] in
    let rest = put_all lists simple plane x in_x empty ws ring taken a on_a taken_a back t (with_edge_after first_map x a (on y) y) (on y ∷ a ∷ []) (on y) (on y) m.0 (Contains-entry_after y ws walked.0) (subst (λ z. Leads on z back t) (sym next_b) parts.2.1) (AllPairs-tail b back tail) fresh m.2 in
    let here : Contains (on y ∷ a ∷ []) (on y) = Contains-here (on y) (a ∷ []) in
    let has_a = rest.later.grown a (Contains-there (on y) (a ∷ []) a (Contains-here a [])) in
    let all = all_joined a mid b back taken rest.more none has_a (subst (Contains rest.more) next_b (rest.later.grown (on y) here)) rest.all in
    let put = put_in lists simple plane x in_x empty ws ring taken a on_a taken_a rest.new rest.more rest.last rest.stage all in
    let turn_b : follows rest.new x b ≡ a = ap (follows rest.new x) (sym next_b) ∙ (rest.later.kept_turns (on y) here (λ e. b_a (sym next_b ∙ e)) ∙ m.3) in
    let off : (w : ℕ) → Contains ws w → w ≢ x = ring_off lists simple plane x in_x empty ws ring taken a on_a taken_a in
    let new_on = new_ring lists simple x a mid b back taken ring off taken_a taken_b none y t parts.1 next_b rest.new put turn_b in
    -- the lists are those of the definition
    let left = before lists simple plane x in_x empty ws ring taken a on_a taken_a in
    let on_t : Contains ws t = Leads-in on a (mid ++ b ∷ back) t round.1 in
    let t_is : left.0 ≡ t = entry_after-injective ws left.0 t ring.distinct left.1 on_t (left.2 ∙ sym round.0) in
    let begun_is : first_map ≡ with_edge_after lists x a a t = ap₂ (λ (us : List ℕ) p. slice_set (slice_set lists x us) a (insert (list_of lists a) (place_of p (list_of lists a) + 1) x)) (first_row (list_of lists x) a empty) t_is in
    let is : rest.new ≡ put_in_ring taken x lists ws =
    rest.is
    ∙ (joined_along-taken taken x a first_map y (on y) b back (ap taken next_b ∙ taken_b) next_b
    ∙ (joined_along-none taken x a first_map on a mid y (b ∷ back) parts.1 none
    ∙ (ap (λ (l : Lists). joined_along taken x a l a (mid ++ b ∷ back)) begun_is ∙ joined_along-taken taken x a lists t a a (mid ++ b ∷ back) taken_a refl))) in
    (subst (λ l. IsPutIn lists l ws taken x) is put, subst (λ l. IsRing l (x ∷ a ∷ mid ++ b ∷ [])) is new_on)

-- An isolated vertex can be put into a ring of a map of genus zero, and joined to those that are taken of it, where at least two are, a and b, with none taken between: it then stands in a ring with a and b and what is between.
pub vertex_put_in : (lists : Lists) (x a : ℕ) (mid : List ℕ) (b : ℕ) (back : List ℕ) (taken : ℕ → Bool) → IsSimpleMap lists → IsPlane lists → x < length lists → list_of lists x ≡ [] → IsRing lists (a ∷ mid ++ b ∷ back) → taken a ≡ true → taken b ≡ true → ((w : ℕ) → Contains mid w → taken w ≡ false) → (new : Lists) × IsPutIn lists new (a ∷ mid ++ b ∷ back) taken x × IsRing new (x ∷ a ∷ mid ++ b ∷ [])
vertex_put_in lists x a mid b back taken simple plane in_x empty ring taken_a taken_b none =
    let r = put_in_ring_law lists x a mid b back taken simple plane in_x empty ring taken_a taken_b none in
    (put_in_ring taken x lists (a ∷ mid ++ b ∷ back), r.0, r.1)
