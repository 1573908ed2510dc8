-- The dual numbers: dart by dart the number of the face on the right is raised, until there is none left; there is just one such numbering, and all its numbers are below the number of faces.
use Rattle.std.proofs.Common.{◌≡◌, ◌≢◌, ◌⊎◌, ℕ, zero, suc, ◌+◌, ◌<◌, ◌≤◌, Bool, true, false, not, ◌&&◌, ◌||◌, cond, eqb, ltb, length, refl, sym, ap, ◌∙◌, subst, inl, inr, arith}
use Rattle.std.proofs.lemmas.Bool.{cases_Bool, cases_eq, cases_lt, lt-ltb, le-ltb, eqb-true, eq-eqb, ne_eqb, and_parts, and_from, true≢false, false≢true, not_from_false, not-true}
use Rattle.classes.specs.Classes.{count_below, label, same_class, class_count}
use Rattle.classes.proofs.Counting.{count_below_all, count_below_into, count_below-le, count_below_same}
use Rattle.classes.proofs.Classes.{Together-from, same_class-from, Together-not, cases_Together, Together-label, label-lt}
use Rattle.classes.proofs.Orbits.{orbits_of, length-orbits_of, IsLabels-orbits_of}
use Rattle.classes.proofs.Bound.{after}
use Rattle.bipolar.proofs.Upward.{InFace, IsBipolar, IsRising, IsDual}
use Rattle.bipolar.proofs.Falls.{last_below, last_below-passes, some_or_none, but, count_but}
use Rattle.bipolar.proofs.Faces.{up, twin_in, steps, step_face, is_up, up_from, is_down, twin_up, face_fails}
use Rattle.bipolar.proofs.RisingNumbers.{same_number}
use Rattle.bipolar.proofs.NoCycle.{any_below, any_below-from, any_below-at, no_cycle}

-- Some upward darts are done: the number of the face on the right of each is more than that on its left, and is not more than it must be. All darts into a face are done before one out of it.
pub record IsUnder (k : ℕ) (f g y : ℕ → ℕ) (st : ℕ) (done : ℕ → Bool) (n : ℕ → ℕ) : Type 0 where
  pub faces : (i : ℕ) → i < k → n (f (g i)) ≡ n i
  pub first : n st ≡ 0
  pub raised : (e : ℕ) → e < k → y e < y (g e) → ¬ InFace k f g st (g e) → done e ≡ true → n e < n (g e)
  pub tight : (i : ℕ) → i < k → ¬ InFace k f g st i → (n i ≡ 0) ⊎ ((e : ℕ) × (e < k) × (y e < y (g e)) × (done e ≡ true) × InFace k f g i (g e) × (n i ≡ n e + 1))
  pub closed : (x e : ℕ) → x < k → e < k → y x < y (g x) → y e < y (g e) → done x ≡ true → ¬ InFace k f g st x → InFace k f g x (g e) → done e ≡ true

-- one dart more is done
pub record IsDoneMore (k : ℕ) (old new : ℕ → Bool) (e : ℕ) : Type 0 where
  pub here : new e ≡ true
  pub elsewhere : (i : ℕ) → i < k → i ≢ e → new i ≡ old i

-- the number of the face on the right of e is raised above that on its left, unless it is the face of the base dart
pub record IsRaise (k : ℕ) (f g : ℕ → ℕ) (st : ℕ) (old new : ℕ → ℕ) (e : ℕ) : Type 0 where
  pub base : InFace k f g st (g e) → (i : ℕ) → i < k → new i ≡ old i
  pub kept : (i : ℕ) → i < k → ¬ InFace k f g (g e) i → new i ≡ old i
  pub raised : ¬ InFace k f g st (g e) → (i : ℕ) → i < k → InFace k f g (g e) i → ((new i ≡ old i) × (old e < old i)) ⊎ ((new i ≡ old e + 1) × (old i ≤ old e))

-- no dart into the face of e is left, or it is the face of the base dart
abbrev pub IsReady : ℕ → (ℕ → ℕ) → (ℕ → ℕ) → (ℕ → ℕ) → ℕ → (ℕ → Bool) → ℕ → Type 0
IsReady k f g y st done e =
    InFace k f g st e ⊎ ((x : ℕ) → x < k → y x < y (g x) → InFace k f g e (g x) → done x ≡ true)

-- nothing is done
pub IsUnder-none : (k : ℕ) (f g y : ℕ → ℕ) (st : ℕ) (done : ℕ → Bool) (n : ℕ → ℕ) → ((i : ℕ) → i < k → done i ≡ false) → ((i : ℕ) → i < k → n i ≡ 0) → st < k → ((i : ℕ) → i < k → f (g i) < k) → IsUnder k f g y st done n
IsUnder-none k f g y st done n none zeros base stays = grind (arith, false≢true)

module _ {k m : ℕ} {f g y : ℕ → ℕ} {st : ℕ} (d : IsBipolar k m f g y st) where
  -- one dart more
  pub IsUnder-more : (done done' : ℕ → Bool) (n n' : ℕ → ℕ) (e : ℕ) → IsUnder k f g y st done n → e < k → y e < y (g e) → done e ≡ false → IsReady k f g y st done e → IsDoneMore k done done' e → IsRaise k f g st n n' e → IsUnder k f g y st done' n'
  IsUnder-more done done' n n' e w le ue new ready more raise =
      let keeps : (i : ℕ) → i < k → done i ≡ true → done' i ≡ true =
      λ i l t. elim (cases_eq i e) [ inl s ↦ ap done' s ∙ more.here | inr ne ↦ more.elsewhere i l ne ∙ t ] in
      -- the face on the left of a dart that is done now stays
      let left_kept : (x : ℕ) → x < k → y x < y (g x) → done' x ≡ true → n' x ≡ n x =
      λ x l u t. elim (cases_Together (orbits_of (after f g) k) st (g e)) [
        | inl sb ↦ raise.base sb x l
        | inr nb ↦ elim (cases_Together (orbits_of (after f g) k) (g e) x) [
          | inr ns ↦ raise.kept x l ns
          | inl same ↦
              let off : ¬ InFace k f g st x = λ q. nb (q ∙ sym same) in
              absurd (false≢true (sym new ∙ elim (cases_eq x e) [
                | inl s ↦ elim ready [
                  | inl q ↦ absurd (off (subst (InFace k f g st) (sym s) q))
                  | inr all ↦ all e le ue (sym (subst (InFace k f g (g e)) s same))
                ]
                | inr ne ↦ w.closed x e l le u ue (sym (more.elsewhere x l ne) ∙ t) off (sym same)
              ]))
        ]
      ] in
      -- no number falls
      let rises : (i : ℕ) → i < k → n i ≤ n' i =
      λ i l. elim (cases_Together (orbits_of (after f g) k) st (g e)) [
        | inl sb ↦ omega (arith, raise.base sb i l)
        | inr nb ↦ elim (cases_Together (orbits_of (after f g) k) (g e) i) [
          | inr ns ↦ omega (arith, raise.kept i l ns)
          | inl same ↦ elim (raise.raised nb i l same) [ inl a ↦ omega (arith, a.0) | inr a ↦ omega (arith, a.0, a.1) ]
        ]
      ] in
      record {
        faces = λ i l.
            let sl = (steps d).within i l in
            let step = step_face d i l in
            let old = w.faces i l in
            elim (cases_Together (orbits_of (after f g) k) st (g e)) [
              | inl sb ↦ raise.base sb (f (g i)) sl ∙ (old ∙ sym (raise.base sb i l))
              | inr nb ↦ elim (cases_Together (orbits_of (after f g) k) (g e) i) [
                | inr ns ↦ raise.kept (f (g i)) sl (λ q. ns (q ∙ sym step)) ∙ (old ∙ sym (raise.kept i l ns))
                | inl same ↦ elim (raise.raised nb i l same) [
                  | inl a ↦ elim (raise.raised nb (f (g i)) sl (same ∙ step)) [ inl b ↦ omega (arith, a.0, b.0, old) | inr b ↦ absurd (omega (arith, a.1, b.1, old)) ]
                  | inr a ↦ elim (raise.raised nb (f (g i)) sl (same ∙ step)) [ inl b ↦ absurd (omega (arith, a.1, b.1, old)) | inr b ↦ omega (arith, a.0, b.0) ]
                ]
              ]
            ];
        first = elim (cases_Together (orbits_of (after f g) k) st (g e)) [
          | inl sb ↦ raise.base sb st d.base ∙ w.first
          | inr nb ↦ raise.kept st d.base (λ q. nb (sym q)) ∙ w.first
        ];
        raised = λ x l u inner t.
            let lk = left_kept x l u t in
            elim (cases_eq x e) [
              | inl s ↦
                  let nb : ¬ InFace k f g st (g e) = λ q. inner (subst (λ z. InFace k f g st (g z)) (sym s) q) in
                  elim (raise.raised nb (g e) (twin_in d e le) refl) [
                    | inl a ↦ omega (arith, lk, a.0, a.1, ap n s, ap (λ z. n' (g z)) s)
                    | inr a ↦ omega (arith, lk, a.0, a.1, ap n s, ap (λ z. n' (g z)) s)
                  ]
              | inr ne ↦ omega (arith, lk, w.raised x l u inner (sym (more.elsewhere x l ne) ∙ t), rises (g x) (twin_in d x l))
            ];
        tight = λ i l off.
            let old : n' i ≡ n i → (n' i ≡ 0) ⊎ ((x : ℕ) × (x < k) × (y x < y (g x)) × (done' x ≡ true) × InFace k f g i (g x) × (n' i ≡ n' x + 1)) =
            λ s. elim (w.tight i l off) [
              | inl z ↦ inl (s ∙ z)
              | inr x ↦ (let t = keeps x.0 x.1 x.3 in inr (x.0, x.1, x.2, t, x.4, omega (arith, s, x.5, left_kept x.0 x.1 x.2 t)))
            ] in
            elim (cases_Together (orbits_of (after f g) k) st (g e)) [
              | inl sb ↦ old (raise.base sb i l)
              | inr nb ↦ elim (cases_Together (orbits_of (after f g) k) (g e) i) [
                | inr ns ↦ old (raise.kept i l ns)
                | inl same ↦ elim (raise.raised nb i l same) [
                  | inl a ↦ old a.0
                  | inr a ↦ inr (e, le, ue, more.here, sym same, omega (arith, a.0, left_kept e le ue more.here))
                ]
              ]
            ];
        closed = λ x c lx lc ux uc t off same.
            keeps c lc (elim (cases_eq x e) [
              | inl s ↦ elim ready [
                | inl q ↦ absurd (off (subst (InFace k f g st) (sym s) q))
                | inr all ↦ all c lc uc (subst (λ z. InFace k f g z (g c)) s same)
              ]
              | inr ne ↦ w.closed x c lx lc ux uc (sym (more.elsewhere x lx ne) ∙ t) off same
            ]);
      }

  -- where each dart that is not done has another into its face, all are done
  pub all_done : (done : ℕ → Bool) → ((x : ℕ) → x < k → y x < y (g x) → done x ≡ false → (¬ InFace k f g st x) × ((e : ℕ) × (e < k) × (y e < y (g e)) × (done e ≡ false) × InFace k f g x (g e))) → (x : ℕ) → x < k → y x < y (g x) → done x ≡ true
  all_done done more x l u =
      elim (cases_Bool (done x)) [
        | inl t ↦ t
        | inr e ↦
            let test : ℕ → ℕ → Bool = λ c z. eqb c (label (orbits_of (after f g) k) z) && (up g y z && not (done z)) in
            let set : ℕ → Bool = λ i. any_below (test (label (orbits_of (after f g) k) i)) k in
            let holds : (i z : ℕ) → z < k → InFace k f g i z → y z < y (g z) → done z ≡ false → set i ≡ true =
            λ i z lz same uz nz. any_below-from (test (label (orbits_of (after f g) k) i)) k z lz (and_from (eqb (label (orbits_of (after f g) k) i) (label (orbits_of (after f g) k) z)) (up g y z && not (done z)) (eq-eqb (label (orbits_of (after f g) k) i) (label (orbits_of (after f g) k) z) same) (and_from (up g y z) (not (done z)) (up_from d z uz) (not_from_false (done z) nz))) in
            let given : (i : ℕ) → set i ≡ true → (z : ℕ) × (z < k) × InFace k f g i z × (y z < y (g z)) × (done z ≡ false) =
            λ i t.
            let z = any_below-at (test (label (orbits_of (after f g) k) i)) k t in
            let one = and_parts (eqb (label (orbits_of (after f g) k) i) (label (orbits_of (after f g) k) z.0)) (up g y z.0 && not (done z.0)) z.2 in
            let two = and_parts (up g y z.0) (not (done z.0)) one.1 in
            (z.0, z.1, eqb-true (label (orbits_of (after f g) k) i) (label (orbits_of (after f g) k) z.0) one.0, is_up d z.0 two.0, not-true (done z.0) two.1) in
            absurd (no_cycle d (y (g st) + 1) set (record {
              faces = λ i li. ap (λ c. any_below (test c) k) (sym (step_face d i li));
              off = elim (cases_Bool (set st)) [
                | inl t ↦ (let z = given st t in absurd ((more z.0 z.1 z.3 z.4).0 z.2))
                | inr t ↦ t
              ];
              fed = λ i li t.
                  let z = given i t in
                  let c = (more z.0 z.1 z.3 z.4).1 in
                  (c.0, c.1, c.2, omega (arith, d.greatest c.0 c.1), holds c.0 c.0 c.1 refl c.2 c.3, z.2 ∙ c.4);
            }) x l (holds x x l refl u e))
      ]

  -- where all are done the numbers are the dual numbers
  pub IsDual-from : (done : ℕ → Bool) (n : ℕ → ℕ) → IsUnder k f g y st done n → ((x : ℕ) → x < k → y x < y (g x) → done x ≡ true) → IsDual k f g y st n
  IsDual-from done n w all =
      let rising : IsRising k f g y st n = record { faces = w.faces; first = w.first; rises = λ i l u inner. w.raised i l u inner (all i l u) } in
      record {
        rising = rising;
        reached = λ i l off. elim (w.tight i l off) [
          | inr e ↦ (e.0, e.1, e.2, e.4, e.5)
          | inl z ↦
              let j = face_fails d i l in
              let gl = twin_in d j.0 j.1 in
              let same : InFace k f g i (g (g j.0)) = subst (InFace k f g i) (sym (d.pairs.back j.0 j.1)) j.2 in
              let more = rising.rises (g j.0) gl (twin_up d j.0 j.1 (is_down d j.0 j.1 j.3)) (λ q. off (q ∙ sym same)) in
              absurd (omega (arith, more, z, same_number d n rising i (g (g j.0)) l (twin_in d (g j.0) gl) same))
        ];
      }

  -- ---- there are dual numbers
  -- an upward dart that is not done
  waits : (ℕ → Bool) → ℕ → Bool
  waits done e = up g y e && not (done e)

  waits_parts : (done : ℕ → Bool) (e : ℕ) → waits done e ≡ true → (y e < y (g e)) × (done e ≡ false)
  unfolding waits
  waits_parts done e t = let parts = and_parts (up g y e) (not (done e)) t in (is_up d e parts.0, not-true (done e) parts.1)

  waits_from : (done : ℕ → Bool) (e : ℕ) → y e < y (g e) → done e ≡ false → waits done e ≡ true
  unfolding waits
  waits_from done e u t = and_from (up g y e) (not (done e)) (up_from d e u) (not_from_false (done e) t)

  abbrev into : (ℕ → Bool) → ℕ → ℕ → Bool
  into done e x = waits done x && same_class (orbits_of (after f g) k) e (g x)

  ready : (ℕ → Bool) → ℕ → Bool
  ready done e = waits done e && (same_class (orbits_of (after f g) k) st e || not (any_below (into done e) k))

  ready_is : (done : ℕ → Bool) (e : ℕ) → ready done e ≡ true → IsReady k f g y st done e
  unfolding ready
  ready_is done e t =
      let parts = and_parts (waits done e) (same_class (orbits_of (after f g) k) st e || not (any_below (into done e) k)) t in
      elim (cases_Bool (same_class (orbits_of (after f g) k) st e)) [
        | inl s ↦ inl (Together-from (orbits_of (after f g) k) st e s)
        | inr ns ↦ inr (λ x l u same. elim (cases_Bool (done x)) [
          | inl q ↦ q
          | inr q ↦
              let some = any_below-from (into done e) k x l (and_from (waits done x) (same_class (orbits_of (after f g) k) e (g x)) (waits_from done x u q) (same_class-from (orbits_of (after f g) k) e (g x) same)) in
              absurd (false≢true (sym (neither (same_class (orbits_of (after f g) k) st e) (any_below (into done e) k) ns some) ∙ parts.1))
        ])
      ]
    where
      neither : (a b : Bool) → a ≡ false → b ≡ true → (a || not b) ≡ false
      neither true b p q = absurd (true≢false p)
      neither false true p q = refl
      neither false false p q = absurd (false≢true q)

  -- where none is ready, all are done
  none_ready : (done : ℕ → Bool) → ((e : ℕ) → e < k → ready done e ≡ false) → (x : ℕ) → x < k → y x < y (g x) → done x ≡ true
  unfolding ready
  none_ready done none =
      all_done done (λ x l u t.
      let off = after_true (waits done x) (same_class (orbits_of (after f g) k) st x || not (any_below (into done x) k)) (waits_from done x u t) (none x l) in
      let both = neither (same_class (orbits_of (after f g) k) st x) (any_below (into done x) k) off in
      let e = any_below-at (into done x) k both.1 in
      let parts = and_parts (waits done e.0) (same_class (orbits_of (after f g) k) x (g e.0)) e.2 in
      let w = waits_parts done e.0 parts.0 in
      (Together-not (orbits_of (after f g) k) st x both.0, (e.0, e.1, w.0, w.1, Together-from (orbits_of (after f g) k) x (g e.0) parts.1)))
    where
      after_true : (a b : Bool) → a ≡ true → (a && b) ≡ false → b ≡ false
      after_true true b p q = q
      after_true false b p q = absurd (false≢true p)

      neither : (a b : Bool) → (a || not b) ≡ false → (a ≡ false) × (b ≡ true)
      neither true b p = absurd (true≢false p)
      neither false true p = (refl, refl)
      neither false false p = absurd (true≢false p)

  -- the number of the right face raised
  abbrev raise_at : (ℕ → ℕ) → ℕ → ℕ → ℕ
  raise_at n e i =
      cond (same_class (orbits_of (after f g) k) (g e) i && not (same_class (orbits_of (after f g) k) st (g e))) (cond (ltb (n e) (n i)) (n i) (n e + 1)) (n i)

  IsRaise-at : (n : ℕ → ℕ) (e : ℕ) → IsRaise k f g st n (raise_at n e) e
  IsRaise-at n e = record {
    base = λ s i l. by_right (same_class (orbits_of (after f g) k) (g e) i) (same_class (orbits_of (after f g) k) st (g e)) (cond (ltb (n e) (n i)) (n i) (n e + 1)) (n i) (same_class-from (orbits_of (after f g) k) st (g e) s);
    kept = λ i l ns. elim (cases_Bool (same_class (orbits_of (after f g) k) (g e) i)) [
      | inl s ↦ absurd (ns (Together-from (orbits_of (after f g) k) (g e) i s))
      | inr s ↦ by_left (same_class (orbits_of (after f g) k) (g e) i) (same_class (orbits_of (after f g) k) st (g e)) (cond (ltb (n e) (n i)) (n i) (n e + 1)) (n i) s
    ];
    raised = λ nb i l same. elim (cases_Bool (same_class (orbits_of (after f g) k) st (g e))) [
      | inl s ↦ absurd (nb (Together-from (orbits_of (after f g) k) st (g e) s))
      | inr s ↦
          let taken = by_both (same_class (orbits_of (after f g) k) (g e) i) (same_class (orbits_of (after f g) k) st (g e)) (cond (ltb (n e) (n i)) (n i) (n e + 1)) (n i) (same_class-from (orbits_of (after f g) k) (g e) i same) s in
          elim (cases_lt (n e) (n i)) [
            | inl less ↦ inl (taken ∙ ap (λ b. cond b (n i) (n e + 1)) (lt-ltb (n e) (n i) less), less)
            | inr most ↦ inr (taken ∙ ap (λ b. cond b (n i) (n e + 1)) (le-ltb (n e) (n i) most), most)
          ]
    ];
  }
    where
      by_right : (a b : Bool) (x z : ℕ) → b ≡ true → cond (a && not b) x z ≡ z
      by_right true true x z s = refl
      by_right false true x z s = refl
      by_right a false x z s = absurd (false≢true s)

      by_left : (a b : Bool) (x z : ℕ) → a ≡ false → cond (a && not b) x z ≡ z
      by_left true b x z s = absurd (true≢false s)
      by_left false b x z s = refl

      by_both : (a b : Bool) (x z : ℕ) → a ≡ true → b ≡ false → cond (a && not b) x z ≡ x
      by_both true false x z s t = refl
      by_both true true x z s t = absurd (true≢false t)
      by_both false b x z s t = absurd (false≢true s)

  ready_waits : (done : ℕ → Bool) (e : ℕ) → ready done e ≡ true → waits done e ≡ true
  unfolding ready
  ready_waits done e t = (and_parts (waits done e) (same_class (orbits_of (after f g) k) st e || not (any_below (into done e) k)) t).0

  build : (bound : ℕ) (done : ℕ → Bool) (n : ℕ → ℕ) → IsUnder k f g y st done n → count_below (λ i. not (done i)) k < bound → (number : ℕ → ℕ) × IsDual k f g y st number
  build zero done n w less = absurd (omega arith)
  build (suc bound) done n w less =
      elim (some_or_none (ready done) k) [
        | inr none ↦ (n, IsDual-from done n w (none_ready done none))
        | inl found ↦
            let e = found.0 in
            let parts = waits_parts done e (ready_waits done e found.2) in
            let done' : ℕ → Bool = λ i. cond (eqb i e) true (done i) in
            let more : IsDoneMore k done done' e = record { here = rw (eq-eqb e e refl) refl; elsewhere = λ i l ne. rw (ne_eqb i e ne) refl } in
            let fewer = count_but (λ i. not (done i)) k e found.1 (not_from_false (done e) parts.1) in
            let same = count_below_same (λ i. not (done' i)) (but (λ i. not (done i)) e) k (λ i l. by_test (eqb i e) (done i)) in
            build bound done' (raise_at n e) (IsUnder-more done done' n (raise_at n e) e w found.1 parts.0 parts.1 (ready_is done e found.2) more (IsRaise-at n e)) (omega (arith, less, fewer, same))
      ]
    where
      by_test : (a b : Bool) → not (cond a true b) ≡ cond a false (not b)
      by_test true b = refl
      by_test false b = refl

  -- there are dual numbers
  pub dual_numbers : (number : ℕ → ℕ) × IsDual k f g y st number
  dual_numbers =
      build (k + 1) (λ i. false) (λ i. 0) (IsUnder-none k f g y st (λ i. false) (λ i. 0) (λ i l. refl) (λ i l. refl) d.base (steps d).within) (omega (arith, count_below-le (λ i. not false) k))

  -- dual numbers are the least that rise
  least : (bound : ℕ) (a b : ℕ → ℕ) → IsDual k f g y st a → IsRising k f g y st b → (i : ℕ) → i < k → a i < bound → a i ≤ b i
  least zero a b v w i l le = absurd (omega arith)
  least (suc bound) a b v w i l le =
      elim (cases_Together (orbits_of (after f g) k) st i) [
        | inl s ↦ omega (arith, same_number d a v.rising st i d.base l s, v.rising.first)
        | inr off ↦
            let e = v.reached i l off in
            let more = w.rises e.0 e.1 e.2 (λ q. off (q ∙ sym e.3)) in
            omega (arith, e.4, least bound a b v w e.0 e.1 (omega (arith, e.4, le)), more, same_number d b w i (g e.0) l (twin_in d e.0 e.1) e.3)
      ]

  -- there are just one
  pub unique : (a b : ℕ → ℕ) → IsDual k f g y st a → IsDual k f g y st b → (i : ℕ) → i < k → a i ≡ b i
  unique a b v w i l = omega (arith, least (a i + 1) a b v w.rising i l (omega arith), least (b i + 1) b a w v.rising i l (omega arith))

  -- each number below that of a face is one
  taken : (bound : ℕ) (n : ℕ → ℕ) → IsDual k f g y st n → (i x : ℕ) → i < k → n i < bound → x ≤ n i → (j : ℕ) × (j < k) × (n j ≡ x)
  taken zero n v i x l le h = absurd (omega arith)
  taken (suc bound) n v i x l le h =
      elim (cases_eq x (n i)) [
        | inl e ↦ (i, l, sym e)
        | inr ne ↦ elim (cases_Together (orbits_of (after f g) k) st i) [
          | inl s ↦ absurd (omega (arith, same_number d n v.rising st i d.base l s, v.rising.first, h, ne))
          | inr off ↦ (let e = v.reached i l off in taken bound n v e.0 x e.1 (omega (arith, e.4, le)) (omega (arith, e.4, h, ne)))
        ]
      ]

  -- so each is below the number of faces
  pub below_faces : (n : ℕ → ℕ) → IsDual k f g y st n → (i : ℕ) → i < k → n i < class_count (orbits_of (after f g) k)
  below_faces n v i l =
      let faces = orbits_of (after f g) k in
      let labels = IsLabels-orbits_of (after f g) k (steps d).within in
      let at : ℕ → ℕ = λ x. last_below (λ j. eqb (n j) x) k in
      let to : ℕ → ℕ = λ x. label faces (at x) in
      let size = length-orbits_of (after f g) k in
      let known : (x : ℕ) → x < n i + 1 → (at x < k) × (n (at x) ≡ x) =
      λ x lx.
      let j = taken (n i + 1) n v i x l (omega arith) (omega arith) in
      let found = last_below-passes (λ j. eqb (n j) x) k j.0 j.1 (eq-eqb (n j.0) x j.2) in
      (found.0, eqb-true (n (at x)) x found.1) in
      let label_in : (x : ℕ) → x < n i + 1 → to x < k =
      λ x lx. omega (arith, label-lt faces labels (at x) (omega (arith, size, (known x lx).0)), size) in
      let number : (x : ℕ) → x < n i + 1 → n (to x) ≡ x =
      λ x lx. sym (same_number d n v.rising (at x) (to x) (known x lx).0 (label_in x lx) (Together-label faces labels (at x))) ∙ (known x lx).1 in
      let le = count_below_into to (λ x. true) (λ c. eqb (label faces c) c) (n i + 1) (length faces)
      (λ x lx t. (omega (arith, label_in x lx, size), eq-eqb (label faces (to x)) (to x) (labels.own (at x))))
      (λ x z lx lz t t' e. sym (number x lx) ∙ (ap n e ∙ number z lz)) in
      omega (arith, le, count_below_all (n i + 1))
