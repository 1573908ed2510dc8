-- One vertex with all its faces, as a removal: the face behind it on the contour goes, and then the others in turn, until the last one has both edges.
use Rattle.std.proofs.Common.{◌≡◌, ◌≢◌, ℕ, zero, suc, ◌+◌, ◌-◌, ◌<◌, ◌≤◌, Bool, true, false, refl, sym, ap, ap₂, ◌∙◌, subst, inl, inr, arith, nat_le, nat_lt, if◌then◌else◌}
use Rattle.std.proofs.lemmas.Bool.{cases_Bool, cases_eq, cases_lt, true≢false}
use Rattle.std.proofs.lemmas.Bool.Decides.{nat_tests}
use Rattle.classes.specs.Classes.{count_below}
use Rattle.map_lists.specs.Lists.{Lists}
use Rattle.map_theory.specs.Maps.{HasDart, IsSimpleMap, dart_count}
use Rattle.plane_peeling.specs.Restricted.{kept_but}
use Rattle.plane_peeling.proofs.RestrictedMaps.{kept_but-old, kept_but-new, kept_but-itself}
use Rattle.convex_peeling.specs.Polyhedral.{IsPolyhedral}
use Rattle.convex_peeling.specs.Contours.{face_of, Passes, IsRim, IsContour}
use Rattle.convex_peeling.proofs.Contours.{IsEar, spliced}
use Rattle.convex_peeling.specs.Removals.{Removal, IsTakenOff, IsOnRemoved}
use Rattle.convex_peeling.proofs.Faces.{SameFace-labels, labels-SameFace}
use Rattle.convex_peeling.proofs.Ears.{stretch_is_ear_law}
use Rattle.convex_peeling.proofs.EarsOff.{spliced-low, spliced-mid, spliced-high, kind, contour_after, living}
use Rattle.convex_peeling.proofs.ChainsOff.{edge_passes, count-without, removal, chain_off, IsRemovableNext}

-- the vertex at place i + 1 goes
abbrev pub VertexGoes : Lists → (ℕ → Bool) → (ℕ → ℕ) → ℕ → ℕ → Type 0
VertexGoes lists alive w r i = (o : Removal) × IsTakenOff lists alive w r o × IsContour lists o.alive o.contour o.places × (o.first ≡ i) × (o.vertices ≡ 1)

-- one place more that bounds a face, and one face more
unfoldable pub longer_cut : (ℕ → ℕ) → ℕ → ℕ → ℕ → ℕ
longer_cut cut faces last t = if nat_le t faces then cut t else last

unfoldable pub longer_made : (ℕ → ℕ) → ℕ → ℕ → ℕ → ℕ
longer_made made faces face t = if nat_lt t faces then made t else face

longer_cut-low : (cut : ℕ → ℕ) (faces last t : ℕ) → t ≤ faces → longer_cut cut faces last t ≡ cut t
unfolding longer_cut
longer_cut-low cut faces last t l = grind (arith, nat_tests)

longer_cut-last : (cut : ℕ → ℕ) (faces last : ℕ) → longer_cut cut faces last (suc faces) ≡ last
unfolding longer_cut
longer_cut-last cut faces last = grind (arith, nat_tests)

longer_made-low : (made : ℕ → ℕ) (faces face t : ℕ) → t < faces → longer_made made faces face t ≡ made t
unfolding longer_made
longer_made-low made faces face t l = grind (arith, nat_tests)

longer_made-last : (made : ℕ → ℕ) (faces face : ℕ) → longer_made made faces face faces ≡ face
unfolding longer_made
longer_made-last made faces face = grind (arith, nat_tests)

module _ (lists : Lists) (alive : ℕ → Bool) (w : ℕ → ℕ) (r i : ℕ) (simple : IsSimpleMap lists) (polyhedral : IsPolyhedral lists) (contour : IsContour lists alive w r) (removable_next : IsRemovableNext lists alive w r i) (walk : ℕ → ℕ) (many : ℕ) (ear : IsEar lists w r (face_of lists (w (suc (suc i))) (w (suc i))) (suc i) (suc (suc i)) walk many) where
  abbrev j : ℕ
  j = suc i

  abbrev face : ℕ
  face = face_of lists (w (suc (suc i))) (w (suc i))

  abbrev alive' : ℕ → Bool
  alive' = kept_but alive face

  abbrev w' : ℕ → ℕ
  w' = spliced w j (suc j) walk many

  abbrev r' : ℕ
  r' = r + j + many - suc j

  low : (n : ℕ) → n ≤ j → w' n ≡ w n
  low = spliced-low lists w r face j (suc j) walk many ear

  mid : (t : ℕ) → t ≤ many → w' (j + t) ≡ walk t
  mid = spliced-mid lists w r face j (suc j) walk many ear

  high : (q : ℕ) → w' (j + many + q) ≡ w (suc j + q)
  high = spliced-high lists w r face j (suc j) walk many ear

  edge_at : IsRim lists alive (w j) (w (suc j))
  edge_at = let l = removable_next.within in contour.edge j (omega arith)

  inner : face ≢ face_of lists (w 0) (w r)
  inner e = let l = removable_next.within in removable_next.base (subst (λ f. Passes lists f (w j)) e (edge_passes lists alive w r simple contour j (omega arith)).0)

  -- the walk has two steps at least
  long : 1 < many
  long =
      elim (cases_eq many 1) [
        | inr ne ↦ omega arith
        | inl e ↦
            let dart = ear.darts 0 ear.some_step in
            let on : face_of lists (w j) (w (suc j)) ≡ face = ap₂ (face_of lists) (sym ear.first) (sym ear.last ∙ ap walk (sym (sym e))) ∙ dart.1 in
            absurd (true≢false (sym (living lists alive w r face j (suc j) walk many simple polyhedral contour ear inner) ∙ (ap alive (sym on) ∙ edge_at.outside)))
      ]

  pub after_contour : IsContour lists alive' w' r'
  after_contour = let l = removable_next.within in contour_after lists alive w r face j (suc j) walk many simple polyhedral contour ear inner r' (omega arith)

  -- another face at the vertex passes no place beyond it, unless it is that of the new edge there
  beyond : (other q : ℕ) → alive other ≡ true → other ≢ face → Passes lists other (w j) → j < q → q ≤ r' → Passes lists other (w' q) → (q ≡ suc j) × (face_of lists (walk 1) (walk 0) ≡ other)
  beyond other q live ne at l m at_q =
      let within = removable_next.within in
      elim (kind lists alive w r face j (suc j) walk many simple polyhedral contour ear inner r' q (omega arith) m) [
        | inl old ↦
            absurd (elim old.1.place [
              | inl p ↦ (let p0 = p.0 in let p1 = p.1 in omega arith)
              | inr p ↦
                  let at_n : Passes lists other (w old.0) = subst (Passes lists other) old.1.vertex at_q in
                  ne (sym (removable_next.stretches other live at j j old.0 (omega arith) p.0 old.1.within at at_n))
            ])
        | inr new ↦
            let t = new.0 in
            let less = new.1.before in
            let u_v : walk 0 ≢ walk t = λ e. (let z : 0 ≡ t = ear.distinct 0 t (omega arith) (omega arith) e in omega arith) in
            let own = ear.darts 0 (omega arith) in
            let own' = ear.darts t less in
            let x : Passes lists other (walk 0) = subst (Passes lists other) (sym ear.first) at in
            let y : Passes lists other (walk t) = subst (Passes lists other) new.1.vertex at_q in
            let shared = polyhedral.share (walk 0) (walk t) x.0 y.0 (walk 1) (walk (suc t)) u_v x.1 y.1 own.0 own'.0
            (SameFace-labels lists (walk 0) x.0 (walk t) y.0 (x.2 ∙ sym y.2)) (SameFace-labels lists (walk 0) (walk 1) (walk t) (walk (suc t)) (own.1 ∙ sym own'.1))
            (λ s. ne (sym x.2 ∙ (labels-SameFace lists (walk 0) x.0 (walk 0) (walk 1) s ∙ own.1))) in
            elim shared.1 [
              | inl s ↦
                  let on : face_of lists (walk t) (walk 0) ≡ face = sym (labels-SameFace lists (walk 0) (walk 1) (walk t) (walk 0) s.1) ∙ own.1 in
                  absurd (elim (ear.only (walk t) (walk 0) (simple.both_ways (walk 0) (walk t) shared.0) on) [
                    | inl back ↦ (let b2 = back.2 in ear.inside t (suc back.0) new.1.after less (omega arith) back.3)
                    | inr ahead ↦ (let l' = ahead.1 in let z : 0 ≡ suc ahead.0 = ear.distinct 0 (suc ahead.0) (omega arith) (omega arith) ahead.3 in omega arith)
                  ])
              | inr s ↦
                  let is_other : face_of lists (walk t) (walk 0) ≡ other = sym (labels-SameFace lists (walk 0) x.0 (walk t) (walk 0) s.0) ∙ x.2 in
                  elim (ear.only (walk 0) (walk t) shared.0 (sym (labels-SameFace lists (walk 0) (walk 1) (walk 0) (walk t) s.1) ∙ own.1)) [
                    | inl back ↦ (let b2 = back.2 in absurd (ear.inside t back.0 new.1.after less (omega arith) back.4))
                    | inr ahead ↦
                        let z : 0 ≡ ahead.0 = ear.distinct 0 ahead.0 (omega arith) (omega arith) ahead.2 in
                        let z' : t ≡ suc ahead.0 = ear.distinct t (suc ahead.0) (omega arith) (omega arith) ahead.3 in
                        let t_1 : t ≡ 1 = omega arith in
                        (omega arith, ap (λ n. face_of lists (walk n) (walk 0)) (sym t_1) ∙ is_other)
                  ]
            ]
      ]

  -- so the vertex stays ready
  pub still_removable_next : IsRemovableNext lists alive' w' r' i
  still_removable_next =
      let within = removable_next.within in
      let at_j : w' j ≡ w j = low j (omega arith) in
      let at_0 : w' 0 ≡ w 0 = low 0 (omega arith) in
      let q : ℕ = r - suc j in
      let z : r' ≡ j + many + q = omega arith in
      let z' : suc j + q ≡ r = omega arith in
      let at_r : w' r' ≡ w r = ap w' z ∙ (high q ∙ ap w z') in
      let second : w' (suc j) ≡ walk 1 = (let s : suc j ≡ j + 1 = omega arith in ap w' s ∙ mid 1 (omega arith)) in
      let new_edge = edge_passes lists alive' w' r' simple after_contour j (omega arith) in
      record {
        within = omega arith;
        stretches = λ other live at a e b l m n at_a at_b.
            let was = kept_but-old alive face other live in
            let here : Passes lists other (w j) = subst (Passes lists other) at_j at in
            let old = removable_next.stretches other was.0 here in
            elim (cases_lt e j) [
              | inl before ↦
                  let low_a : Passes lists other (w a) = subst (Passes lists other) (low a (omega arith)) at_a in
                  ap₂ (face_of lists) (low (suc e) before) (low e (omega arith)) ∙ old a e j l before (omega arith) low_a here
              | inr behind ↦
                  let far = beyond other b was.0 was.1 here (omega arith) n at_b in
                  let e_is : e ≡ j = omega arith in
                  ap (λ t. face_of lists (w' (suc t)) (w' t)) e_is ∙ (ap₂ (face_of lists) second (at_j ∙ sym ear.first) ∙ far.1)
            ];
        right = λ l same.
            let other = face_of lists (w' (suc j)) (w' j) in
            let was = kept_but-old alive face other ((after_contour.edge j (omega arith)).inside) in
            let here : Passes lists other (w j) = subst (Passes lists other) at_j new_edge.0 in
            let next = edge_passes lists alive' w' r' simple after_contour (suc j) (omega arith) in
            let far = beyond other (suc (suc j)) was.0 was.1 here (omega arith) (omega arith) (subst (λ f. Passes lists f (w' (suc (suc j)))) same next.1) in
            omega arith;
        left = λ h e same. removable_next.left h e (sym (ap₂ (face_of lists) (low (suc h) (omega arith)) (low h (omega arith))) ∙ (same ∙ ap₂ (face_of lists) at_j (low i (omega arith))));
        base = λ p. removable_next.base (subst (Passes lists (face_of lists (w 0) (w r))) at_j (subst (λ f. Passes lists f (w' j)) (ap₂ (face_of lists) at_0 at_r) p));
      }

  pub fewer_left : count_below alive (dart_count lists) ≡ count_below alive' (dart_count lists) + 1
  fewer_left = count-without lists alive simple (w (suc j)) (w j) (simple.both_ways (w j) (w (suc j)) edge_at.dart) edge_at.inside

  -- a removal of the vertex after the face has gone is one before
  module _ (o : Removal) (off : IsTakenOff lists alive' w' r' o) (first : o.first ≡ i) (one : o.vertices ≡ 1) where
    abbrev longer : Removal
    longer = record { alive = o.alive; contour = o.contour; places = o.places; first = o.first; last = o.last + (many - 1); vertices = o.vertices; faces = suc o.faces; cut = longer_cut o.cut o.faces (o.last + (many - 1)); made = longer_made o.made o.faces face }

    cut_low : (t : ℕ) → t ≤ o.faces → longer_cut o.cut o.faces (o.last + (many - 1)) t ≡ o.cut t
    cut_low t l = longer_cut-low o.cut o.faces (o.last + (many - 1)) t l

    cut_last : longer_cut o.cut o.faces (o.last + (many - 1)) (suc o.faces) ≡ o.last + (many - 1)
    cut_last = longer_cut-last o.cut o.faces (o.last + (many - 1))

    made_low : (t : ℕ) → t < o.faces → longer_made o.made o.faces face t ≡ o.made t
    made_low t l = longer_made-low o.made o.faces face t l

    made_last : longer_made o.made o.faces face o.faces ≡ face
    made_last = longer_made-last o.made o.faces face

    -- a face of the removal, or the new one
    by_face : (P : ℕ → Type 0) → ((t : ℕ) → t < o.faces → P t) → P o.faces → (t : ℕ) → t < suc o.faces → P t
    by_face P low last t l = elim (cases_eq t o.faces) [ inl e ↦ subst P (sym e) last | inr ne ↦ low t (omega arith) ]

    -- the walk in the last contour
    on_walk : (s : ℕ) → suc s ≤ many → o.contour (o.last + s) ≡ walk (suc s)
    on_walk s l =
        let z : o.first + o.vertices + 1 + s ≡ j + suc s = omega arith in
        off.behind s ∙ (ap w' z ∙ mid (suc s) l)

    ends_at : o.contour (o.last + (many - 1)) ≡ w (suc j)
    ends_at = let two = long in on_walk (many - 1) (omega arith) ∙ (let z : suc (many - 1) ≡ many = omega arith in ap walk z ∙ ear.last)

    vertex_is : w (o.first + o.vertices) ≡ w j
    vertex_is = let z : o.first + o.vertices ≡ j = omega arith in ap w z

    on_face : (x y : ℕ) → HasDart lists x y → face_of lists x y ≡ face → IsOnRemoved w longer o.faces x y
    on_face x y has on =
        elim (ear.only x y has on) [
          | inl at ↦
              let z : at.0 ≡ j = omega arith in
              inr (inl (at.3 ∙ (ap (λ n. w (suc n)) z ∙ (sym ends_at ∙ ap o.contour (sym cut_last))), at.4 ∙ (ap w z ∙ sym vertex_is)))
          | inr at ↦
              elim (cases_eq at.0 0) [
                | inl e ↦
                    let v : x ≡ w (suc o.first) = at.2 ∙ (ap walk e ∙ (ear.first ∙ ap (λ n. w (suc n)) (sym first))) in
                    let z : o.last ≡ o.last + 0 = omega arith in
                    let c : o.cut o.faces ≡ o.last + 0 = off.end ∙ z in
                    inr (inr (inr (v, at.3 ∙ (ap (λ n. walk (suc n)) e ∙ (sym (on_walk 0 (let two = long in omega arith)) ∙ ap o.contour (sym (cut_low o.faces (omega arith) ∙ c)))))))
                | inr ne ↦
                    let s : ℕ = at.0 - 1 in
                    let z : suc s ≡ at.0 = omega arith in
                    let z' : suc (o.last + s) ≡ o.last + suc s = omega arith in
                    let e1 = cut_low o.faces (omega arith) in
                    let e2 = cut_last in
                    inl (o.last + s, omega arith, omega arith, on_walk s (omega arith) ∙ (ap walk z ∙ sym at.2), ap o.contour z' ∙ (on_walk (suc s) (omega arith) ∙ (ap (λ n. walk (suc n)) z ∙ sym at.3)))
              ]
        ]

    on_others : (t x y : ℕ) → t < o.faces → IsOnRemoved w' o t x y → IsOnRemoved w longer t x y
    on_others t x y l h = grind (arith, cut_low, w', low)

    fresh_here : (p n : ℕ) → o.first < p → p < o.last + (many - 1) → n ≤ r → o.contour p ≢ w n
    fresh_here p n l m in_r e =
        elim (cases_lt p o.last) [
          | inl before ↦ elim (cases_lt j n) [
            | inr at ↦ off.fresh p n l before (omega arith) (e ∙ sym (low n at))
            | inl behind ↦
                let q : ℕ = n - suc j in
                let z : suc j + q ≡ n = omega arith in
                off.fresh p (j + many + q) l before (omega arith) (e ∙ sym (high q ∙ ap w z))
          ]
          | inr on ↦
              let s : ℕ = p - o.last in
              let z : p ≡ o.last + s = omega arith in
              ear.inside (suc s) n (omega arith) (omega arith) in_r (sym (ap o.contour z ∙ on_walk s (omega arith)) ∙ e)
        ]

    pub longer_off : IsTakenOff lists alive w r longer
    longer_off =
        let two = long in
        let within = removable_next.within in
        let some_face = off.some_face in
        let width = off.width in
        let live = living lists alive w r face j (suc j) walk many simple polyhedral contour ear inner in
        record {
          some_face = omega arith;
          some_vertex = off.some_vertex;
          single = inl one;
          begin = cut_low 0 (omega arith) ∙ off.begin;
          end = cut_last;
          rises = by_face (λ t. longer_cut o.cut o.faces (o.last + (many - 1)) t < longer_cut o.cut o.faces (o.last + (many - 1)) (suc t))
              (λ t l. let e1 = cut_low t (omega arith) in let e2 = cut_low (suc t) l in let s = off.rises t l in omega arith)
              (let e1 = cut_low o.faces (omega arith) in let e2 = cut_last in let e3 = off.end in omega arith);
          within = omega arith;
          before = λ n l. off.before n l ∙ low n (omega arith);
          behind = λ q.
              let z : o.last + (many - 1) + q ≡ o.last + (many - 1 + q) = omega arith in
              let z' : o.first + o.vertices + 1 + (many - 1 + q) ≡ j + many + q = omega arith in
              let z'' : suc j + q ≡ o.first + o.vertices + 1 + q = omega arith in
              ap o.contour z ∙ (off.behind (many - 1 + q) ∙ (ap w' z' ∙ (high q ∙ ap w z'')));
          width = omega arith;
          fresh = fresh_here;
          living = by_face (λ t. alive (longer_made o.made o.faces face t) ≡ true) (λ t l. ap alive (made_low t l) ∙ (kept_but-old alive face (o.made t) (off.living t l)).0) (ap alive made_last ∙ live);
          dead = by_face (λ t. o.alive (longer_made o.made o.faces face t) ≡ false) (λ t l. ap o.alive (made_low t l) ∙ off.dead t l)
              (ap o.alive made_last ∙ elim (cases_Bool (o.alive face)) [ inr f ↦ f | inl t ↦ absurd (true≢false (sym (off.still face t) ∙ kept_but-itself alive face)) ]);
          still = λ x t. (kept_but-old alive face x (off.still x t)).0;
          gone = λ x t f. elim (cases_eq x face) [
            | inl e ↦ (o.faces, omega arith, e ∙ sym made_last)
            | inr ne ↦ (let g = off.gone x (kept_but-new alive face x t ne) f in let l = g.1 in (g.0, omega arith, g.2 ∙ sym (made_low g.0 g.1)))
          ];
          darts = λ t x y l has on. by_face (λ s. face_of lists x y ≡ longer_made o.made o.faces face s → IsOnRemoved w longer s x y)
              (λ s m e. on_others s x y m (off.darts s x y m has (e ∙ made_low s m)))
              (λ e. on_face x y has (e ∙ made_last)) t l on;
          fewer = let a = fewer_left in let b = off.fewer in omega arith;
        }

-- a vertex that is ready goes
pub vertex_goes : (n : ℕ) (lists : Lists) (alive : ℕ → Bool) (w : ℕ → ℕ) (r i : ℕ) → IsSimpleMap lists → IsPolyhedral lists → IsContour lists alive w r → IsRemovableNext lists alive w r i → count_below alive (dart_count lists) < n → VertexGoes lists alive w r i
vertex_goes zero lists alive w r i simple polyhedral contour removable_next l = absurd (omega arith)
vertex_goes (suc n) lists alive w r i simple polyhedral contour removable_next l =
    let within = removable_next.within in
    let j = suc i in
    let face = face_of lists (w (suc j)) (w j) in
    let ends = edge_passes lists alive w r simple contour j (omega arith) in
    let living = (contour.edge j (omega arith)).inside in
    let found = stretch_is_ear_law lists alive w r j simple polyhedral contour within (removable_next.stretches face living ends.0) in
    let a = found.0 in
    let walk = found.2 in
    let many = found.3 in
    let ear = found.4 in
    let low = ear.places j (omega arith) ends.0 in
    let high = ear.places (suc j) within ends.1 in
    let inner : face ≢ face_of lists (w 0) (w r) = λ e. removable_next.base (subst (λ f. Passes lists f (w j)) e ends.0) in
    let b_is : found.1 ≡ suc j = grind (arith, cases_eq) in
    elim (cases_eq a j) [
      | inl a_is ↦
          let ear' : IsEar lists w r face j (suc j) walk many = subst (λ t. IsEar lists w r face t (suc j) walk many) a_is (subst (λ t. IsEar lists w r face a t walk many) b_is ear) in
          let fewer = fewer_left lists alive w r i simple polyhedral contour removable_next walk many ear' in
          let rest = vertex_goes n lists (kept_but alive face) (spliced w j (suc j) walk many) (r + j + many - suc j) i simple polyhedral (after_contour lists alive w r i simple polyhedral contour removable_next walk many ear') (still_removable_next lists alive w r i simple polyhedral contour removable_next walk many ear') (omega arith) in
          (longer lists alive w r i simple polyhedral contour removable_next walk many ear' rest.0 rest.1 rest.3 rest.4, longer_off lists alive w r i simple polyhedral contour removable_next walk many ear' rest.0 rest.1 rest.3 rest.4, rest.2, rest.3, rest.4)
      | inr a_not ↦
          let a_is : a ≡ i = elim (cases_eq a i) [
            | inl e ↦ e
            | inr ne ↦
                let h : ℕ = i - 1 in
                let z : suc h ≡ i = omega arith in
                absurd (removable_next.left h z (ear.edges h (omega arith) (omega arith) ∙ sym (ear.edges i (omega arith) (omega arith))))
          ] in (
            removal lists alive w r face a found.1 walk many 1 simple contour ear (omega arith) (omega arith),
            chain_off lists alive w r face a found.1 walk many 1 simple contour ear (omega arith) (omega arith),
            contour_after lists alive w r face a found.1 walk many simple polyhedral contour ear inner (r + a + many - found.1) (omega arith),
            a_is,
            refl {a = 1},
          )
    ]

-- In a polyhedral map a vertex that is ready goes alone, with all its faces.
pub vertex_taken_off_law : (lists : Lists) (alive : ℕ → Bool) (w : ℕ → ℕ) (r i : ℕ) → IsSimpleMap lists → IsPolyhedral lists → IsContour lists alive w r → IsRemovableNext lists alive w r i → VertexGoes lists alive w r i
vertex_taken_off_law lists alive w r i simple polyhedral contour removable_next = vertex_goes (suc (count_below alive (dart_count lists))) lists alive w r i simple polyhedral contour removable_next (omega arith)
