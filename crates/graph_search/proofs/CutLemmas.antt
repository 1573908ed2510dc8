-- A vertex is a cut vertex exactly where it has a separated child.
use Rattle.std.proofs.Common.{◌≡◌, ◌≢◌, ℕ, zero, suc, ◌+◌, ◌<◌, ◌≤◌, [], ◌∷◌, length, Contains, sym, ap, ◌∙◌, subst, inl, inr, arith}
use Rattle.std.proofs.lemmas.Bool.{cases_eq, cases_lt}
use Rattle.map_lists.specs.Lists.{Lists}
use Rattle.map_theory.specs.Maps.{HasDart}
use Rattle.map_theory.proofs.EntryLemmas.{Contains-cons_cases, Contains-here}
use Rattle.graph_search.specs.Forests.{IsAdjacency, Holds, IsForest}
use Rattle.graph_search.specs.Lows.{IsWithin, IsLow}
use Rattle.graph_search.proofs.ForestLemmas.{same_vertex, IsWithin-itself, IsWithin-cases, IsWithin-ends, IsWithin-parent, Holds-edge, child_towards}
use Rattle.graph_search.specs.Cuts.{IsCutVertex}
use Rattle.graph_search.specs.Flags.{IsSeparatedChild}
use Rattle.graph_search.proofs.WalkLemmas.{Off, linked_itself, linked_weaker, linked_chained, linked_dart, linked_turned, walks_keep, linked_path, path_linked_by, Walks, AreLinked}

-- avoiding one vertex
pub off_one : (v x : ℕ) → x ≢ v → Off (v ∷ []) x
off_one v x ne has = elim (Contains-cons_cases v [] x has) [ inl e ↦ ne (sym e) | inr none ↦ (let some = none.1 in omega arith) ]

pub ne_off : (v x : ℕ) → Off (v ∷ []) x → x ≢ v
ne_off v x off e = off (subst (Contains (v ∷ [])) (sym e) (Contains-here v []))

pub off_none : (x : ℕ) → Off [] x
off_none x none = let some = none.1 in omega arith

-- a vertex of another number is another vertex
lesser_apart : (number : ℕ → ℕ) (u v : ℕ) → number u < number v → u ≢ v
lesser_apart number u v l e = let same = ap number e in omega arith

greater_apart : (number : ℕ → ℕ) (v w : ℕ) → number v < number w → w ≢ v
greater_apart number v w l e = let same = ap number e in omega arith

-- its number is from a to b
pub record IsBetween (number : ℕ → ℕ) (a b x : ℕ) : Type 0 where
  pub from : a ≤ number x
  pub to : number x ≤ b

module _ (lists : Lists) (adjacency : IsAdjacency lists) (order number last parent : ℕ → ℕ) (f : IsForest lists order number last parent) where
  -- from what u holds a walk leads up to u
  climb_by_number : (k u w : ℕ) → u < length lists → w < length lists → IsWithin number last u w → number w < k → AreLinked lists (IsBetween number (number u) (number w)) w u
  climb_by_number zero u w l m i below = absurd (omega arith)
  climb_by_number (suc k) u w l m i below =
      elim (IsWithin-cases lists order number last parent f u w l m i) [
        | inl e ↦ subst (λ x. AreLinked lists (IsBetween number (number u) (number w)) w x) (sym e) (linked_itself lists (IsBetween number (number u) (number w)) w m (record { from = i.from; to = omega arith }))
        | inr h ↦
            let p = f.has_parent u w l m h in
            let up = (f.held w m p).after in
            let within = IsWithin-parent lists order number last parent f u w l m h in
            let rest = climb_by_number k u (parent w) l p within (omega arith) in
            let more = linked_weaker lists (IsBetween number (number u) (number (parent w))) (IsBetween number (number u) (number w)) (λ x q b. let to = b.to in record { from = b.from; to = omega arith }) (parent w) u rest in
            linked_chained lists (IsBetween number (number u) (number w)) w (parent w) u
            (linked_dart lists adjacency (IsBetween number (number u) (number w)) w (parent w) (adjacency.both_ways (parent w) w (f.adjacent w m p)) (record { from = i.from; to = omega arith }) (record { from = within.from; to = omega arith })) more
      ]

  pub climb : (u w : ℕ) → u < length lists → w < length lists → IsWithin number last u w → AreLinked lists (IsBetween number (number u) (number w)) w u
  climb u w l m i = climb_by_number (suc (number w)) u w l m i (omega arith)

  -- it meets no vertex of a lesser number
  climb_above : (v u w : ℕ) → u < length lists → w < length lists → IsWithin number last u w → number v < number u → AreLinked lists (λ x. x ≢ v) w u
  climb_above v u w l m i less = linked_weaker lists (IsBetween number (number u) (number w)) (λ x. x ≢ v) (λ x q b e. (let from = b.from in let same = ap number e in omega arith)) w u (climb u w l m i)

  -- and none of a greater number
  climb_below : (v u w : ℕ) → u < length lists → w < length lists → IsWithin number last u w → number w < number v → AreLinked lists (λ x. x ≢ v) w u
  climb_below v u w l m i less = linked_weaker lists (IsBetween number (number u) (number w)) (λ x. x ≢ v) (λ x q b e. (let to = b.to in let same = ap number e in omega arith)) w u (climb u w l m i)

  module _ (low : ℕ → ℕ) (lows : (v : ℕ) → v < length lists → IsLow lists number last v (low v)) (v : ℕ) (l : v < length lists) where
    -- what a separated child holds, and a neighbour of that, is held by it, but for v
    stays : (c : ℕ) → IsSeparatedChild (length lists) number parent low v c → (x y : ℕ) → HasDart lists x y → y ≢ v → IsWithin number last c x → IsWithin number last c y
    stays c separated x y has ne i =
        let k = separated.vertex in
        let x_in = has.0 in
        let y_in = adjacency.in_range x y has in
        let p : parent c < length lists = rw separated.child l in
        let held : Holds number last v c = subst (λ z. Holds number last z c) separated.child (f.held c k p) in
        let ends = IsWithin-ends lists order number last parent f c x k x_in i in
        let before = f.edges x y has in
        let from = i.from in
        let x_before = i.before in
        let after = held.after in
        let v_ends = f.nested v c l k held in
        let apart : number y ≢ number v = λ e. ne (same_vertex lists order number last parent f y v y_in l e) in
        let not_less : number v ≤ number y =
        elim (cases_lt (parent v) (length lists)) [
          | inl inner ↦
              let least = (lows c k).least y (record { w = x; within = i; dart = has }) in
              let q = separated.from_parent inner in
              omega arith
          | inr top ↦ elim (cases_lt (number y) (number v)) [
            | inl less ↦
                let b = f.edges y x (adjacency.both_ways x y has) in
                absurd (let q = f.has_parent y v y_in l (record { after = less; before = omega arith }) in omega arith)
            | inr more ↦ more
          ]
        ] in
        elim (cases_lt (number y) (number c)) [
          | inl less ↦
              let b = f.edges y x (adjacency.both_ways x y has) in
              let near = f.nearest y c y_in k (record { after = less; before = omega arith }) in
              absurd (let q = ap number separated.child in omega arith)
          | inr more ↦ record { from = more; before = omega arith }
        ]

    -- the vertex from which v parts it
    pub record IsFarSide (c x : ℕ) : Type 0 where
      pub vertex : x < length lists
      pub other : x ≢ v
      pub dart : HasDart lists v x
      pub outside : number x < number c

    far_side : (c : ℕ) → IsSeparatedChild (length lists) number parent low v c → (x : ℕ) × IsFarSide c x
    far_side c separated =
        let k = separated.vertex in
        let p : parent c < length lists = rw separated.child l in
        let held : Holds number last v c = subst (λ z. Holds number last z c) separated.child (f.held c k p) in
        let after = held.after in
        elim (cases_lt (parent v) (length lists)) [
          | inl inner ↦
              let up = (f.held v l inner).after in (
                parent v,
                record {
                  vertex = inner;
                  other = λ e. (let q = ap number e in omega arith);
                  dart = adjacency.both_ways (parent v) v (f.adjacent v l inner);
                  outside = omega arith;
                },
              )
          | inr top ↦
              let later = separated.from_first top in
              let c_number = f.numbered c k in
              let next = number v + 1 in
              let next_in : next < length lists = omega arith in
              let x = order next in
              let x_in = f.vertex next next_in in
              let place = f.place next next_in in
              let before = held.before in
              let holds : Holds number last v x = record { after = omega arith; before = omega arith } in
              let q = f.has_parent v x l x_in holds in
              let near = f.nearest v x l x_in holds in
              let up = (f.held x x_in q).after in
              let is = same_vertex lists order number last parent f (parent x) v q l (omega arith) in (
                x,
                record {
                  vertex = x_in;
                  other = λ e. (let q = ap number e in omega arith);
                  dart = subst (λ z. HasDart lists z x) is (f.adjacent x x_in q);
                  outside = omega arith;
                },
              )
        ]

    -- THE FIRST HALF: a vertex with a separated child is a cut vertex
    pub IsCutVertex-separated : (c : ℕ) → IsSeparatedChild (length lists) number parent low v c → IsCutVertex lists v
    IsCutVertex-separated c separated =
        let k = separated.vertex in
        let p : parent c < length lists = rw separated.child l in
        let dart : HasDart lists v c = subst (λ z. HasDart lists z c) separated.child (f.adjacent c k p) in
        let held : Holds number last v c = subst (λ z. Holds number last z c) separated.child (f.held c k p) in
        let far = far_side c separated in
        let c_other : c ≢ v = λ e. (let a = held.after in let q = ap number e in omega arith) in
        let through = linked_chained lists (Off []) c v far.0
        (linked_dart lists adjacency (Off []) c v (adjacency.both_ways v c dart) (off_none c) (off_none v))
        (linked_dart lists adjacency (Off []) v far.0 far.1.dart (off_none v) (off_none far.0)) in
        let path = path_linked_by lists adjacency [] c far.0 through in (
          c,
          far.0,
          record {
            s_off = off_one v c c_other;
            t_off = off_one v far.0 far.1.other;
            path = path.0;
            joined = path.1;
            apart = λ other j.
                let w = linked_path lists adjacency (v ∷ []) c far.0 other j in
                let within = walks_keep lists adjacency (Off (v ∷ [])) (IsWithin number last c) (λ x y has off i. stays c separated x y has (ne_off v y off) i) w.0 c far.0 w.1 (IsWithin-itself lists order number last parent f c k) in
                let outside = far.1.outside in
                let from = within.from in
                omega arith;
          },
        )

    module _ (none : (c : ℕ) → ¬ IsSeparatedChild (length lists) number parent low v c) where
      abbrev Apart : ℕ → Type 0
      Apart x = x ≢ v

      -- all neighbours of v are linked to its parent, off v
      to_parent : parent v < length lists → (a : ℕ) → HasDart lists v a → a ≢ v → AreLinked lists Apart a (parent v)
      to_parent inner a has ne =
          let a_in = adjacency.in_range v a has in
          let up = (f.held v l inner).after in
          let apart : number a ≢ number v = λ e. ne (same_vertex lists order number last parent f a v a_in l e) in
          let from_holder : (u : ℕ) → u < length lists → Holds number last u v → AreLinked lists Apart u (parent v) = λ u u_in h.
          linked_turned lists adjacency Apart (parent v) u (climb_below v u (parent v) u_in inner (IsWithin-parent lists order number last parent f u v u_in l h) up) in
          elim (cases_lt (number a) (number v)) [
            | inl less ↦ from_holder a a_in (Holds-edge lists order number last parent f a v (adjacency.both_ways v a has) less)
            | inr more ↦
                let h = Holds-edge lists order number last parent f v a has (omega arith) in
                let c = child_towards lists order number last parent f v a l a_in h in
                let p : parent c.c < length lists = rw c.child l in
                let held : Holds number last v c.c = subst (λ z. Holds number last z c.c) c.child (f.held c.c c.vertex p) in
                let after = held.after in
                let v_number = f.numbered v l in
                let is_low : low c.c < number v =
                elim (cases_lt (low c.c) (number v)) [
                  | inl less ↦ less
                  | inr high ↦ absurd (none c.c (record { vertex = c.vertex; child = c.child; from_parent = λ q. high; from_first = λ top. absurd (omega arith) }))
                ] in
                let met = (lows c.c c.vertex).met (omega arith) in
                let u = met.0 in
                let w = met.1.w in
                let out = met.1.dart in
                let u_in = adjacency.in_range w u out in
                let u_low : number u < number v = omega (arith, met.2) in
                let w_from = met.1.within.from in
                let w_before = met.1.within.before in
                let c_ends = f.nested v c.c l c.vertex held in
                let u_before = f.edges u w (adjacency.both_ways w u out) in
                let u_holds : Holds number last u v = record { after = u_low; before = omega arith } in
                let u_other = lesser_apart number u v u_low in
                let w_other = greater_apart number v w (omega arith) in
                linked_chained lists Apart a c.c (parent v) (climb_above v c.c a c.vertex a_in c.within after)
                (linked_chained lists Apart c.c w (parent v) (linked_turned lists adjacency Apart w c.c (climb_above v c.c w c.vertex out.0 met.1.within after))
                (linked_chained lists Apart w u (parent v) (linked_dart lists adjacency Apart w u out w_other u_other) (from_holder u u_in u_holds)))
          ]

      -- or to its first child, where it has no parent
      to_first : length lists ≤ parent v → (a : ℕ) → HasDart lists v a → a ≢ v → AreLinked lists Apart a (order (number v + 1))
      to_first top a has ne =
          let a_in = adjacency.in_range v a has in
          let apart : number a ≢ number v = λ e. ne (same_vertex lists order number last parent f a v a_in l e) in
          elim (cases_lt (number a) (number v)) [
            | inl less ↦ absurd (let q = f.has_parent a v a_in l (Holds-edge lists order number last parent f a v (adjacency.both_ways v a has) less) in omega arith)
            | inr more ↦
                let h = Holds-edge lists order number last parent f v a has (omega arith) in
                let c = child_towards lists order number last parent f v a l a_in h in
                let p : parent c.c < length lists = rw c.child l in
                let held : Holds number last v c.c = subst (λ z. Holds number last z c.c) c.child (f.held c.c c.vertex p) in
                let after = held.after in
                let is_next : number c.c ≡ number v + 1 =
                elim (cases_lt (number v + 1) (number c.c)) [
                  | inl later ↦ absurd (none c.c (record { vertex = c.vertex; child = c.child; from_parent = λ q. absurd (omega arith); from_first = λ q. later }))
                  | inr q ↦ omega arith
                ] in
                let is : order (number v + 1) ≡ c.c = ap order (sym is_next) ∙ f.own c.c c.vertex in
                subst (λ x. AreLinked lists Apart a x) (sym is) (climb_above v c.c a c.vertex a_in c.within after)
          ]

      -- so any two of them are linked
      neighbours_linked : (a b : ℕ) → HasDart lists v a → a ≢ v → HasDart lists v b → b ≢ v → AreLinked lists Apart a b
      neighbours_linked a b has_a ne_a has_b ne_b =
          elim (cases_lt (parent v) (length lists)) [
            | inl inner ↦ linked_chained lists Apart a (parent v) b (to_parent inner a has_a ne_a) (linked_turned lists adjacency Apart b (parent v) (to_parent inner b has_b ne_b))
            | inr top ↦ linked_chained lists Apart a (order (number v + 1)) b (to_first top a has_a ne_a) (linked_turned lists adjacency Apart b (order (number v + 1)) (to_first top b has_b ne_b))
          ]

      -- a walk goes round v
      walk_round : (k s t : ℕ) → Walks lists (Off []) k s t → t ≢ v → (s ≢ v → AreLinked lists Apart s t) × (s ≡ v → (a : ℕ) → HasDart lists v a → a ≢ v → AreLinked lists Apart a t)
      walk_round zero s t w ne = (
        λ off. subst (λ x. AreLinked lists Apart s x) w.2 (linked_itself lists Apart s w.0 off),
        λ e. absurd (ne (sym w.2 ∙ e)),
      )
      walk_round (suc k) s t w ne =
          let u = w.0 in
          let rest = walk_round k u t w.3 ne in (
            λ off. elim (cases_eq u v) [
              | inl e ↦ rest.1 e s (subst (λ x. HasDart lists x s) e (adjacency.both_ways s u w.1)) off
              | inr other ↦ linked_chained lists Apart s u t (linked_dart lists adjacency Apart s u w.1 off other) (rest.0 other)
            ],
            λ e a has off. elim (cases_eq u v) [
              | inl f ↦ rest.1 f a has off
              | inr other ↦ linked_chained lists Apart a u t (neighbours_linked a u has off (subst (λ x. HasDart lists x u) e w.1) other) (rest.0 other)
            ],
          )

      -- THE SECOND HALF: a vertex without a separated child is none
      pub not_IsCutVertex : ¬ IsCutVertex lists v
      not_IsCutVertex cut =
          let s = cut.0 in
          let t = cut.1 in
          let separated = cut.2 in
          let w = linked_path lists adjacency [] s t separated.path separated.joined in
          let round = (walk_round w.0 s t w.1 (ne_off v t separated.t_off)).0 (ne_off v s separated.s_off) in
          let path = path_linked_by lists adjacency (v ∷ []) s t (linked_weaker lists Apart (Off (v ∷ [])) (λ x q ne. off_one v x ne) s t round) in
          separated.apart path.0 path.1
