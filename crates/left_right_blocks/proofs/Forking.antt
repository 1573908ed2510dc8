-- The parts of all edges of a fork put together one by one, in nesting order.
use Rattle.std.proofs.Common.{◌≡◌, ◌≢◌, ◌⊎◌, ◌↔◌, ℕ, ◌<◌, ◌≤◌, Bool, true, false, not, cond, ltb, ◌+◌, ◌*◌, List, [], ◌∷◌, ◌++◌, Contains, refl, sym, ap, ◌∙◌, subst, inl, inr, arith, length}
use Rattle.std.specs.List.{AllByRecursion as Each}
use Rattle.std.proofs.lemmas.Bool.{cases_eq, cases_lt, ltb-true, lt-ltb, true≢false}
use Rattle.std.proofs.lemmas.List.Elements.{Contains-append_cases, Contains-append_left, Contains-append_right}
use Rattle.chained_lists.proofs.Links.{in_none, in_first, in_cases}
use Rattle.left_right_blocks.specs.Blocks.{Block, edges_in, AllAgree, IsShort, IsPart}
use Rattle.left_right_blocks.specs.States.{Obeys, Merges, Moves}
use Rattle.left_right_blocks.specs.declared.fork_edges.ForkEdge.{ForkEdge}
use Rattle.left_right_blocks.specs.Forks.{key, MeetsFork, IsForkEdge, ForksMet, IsGathered}
use Rattle.left_right_blocks.specs.declared.ties.Tie.{Tie}
use Rattle.left_right_blocks.proofs.Eaches.{each_in, each_from}
use Rattle.left_right_blocks.proofs.ShortDemands.{Item, AreNested, none_left, short_meets, short_demanded, twice}

module _ (height : ℕ → ℕ) (P : ℕ → List Block) where
  abbrev E : ForkEdge → List ℕ
  E d = edges_in (P d.stack)

  abbrev item : (d : ForkEdge) → IsForkEdge height P d → Item height (E d)
  item d h =
      record { lowest = h.lowest; low_in = h.low_in; least = λ x c. (let l = h.least x c in let e = h.low_is in omega arith); deepest = h.deepest; deep_in = h.deep_in; most = h.most }

  -- one with a lesser key stands before one with a greater one
  nested : (d e : ForkEdge) (a : IsForkEdge height P d) (b : IsForkEdge height P e) → key d ≤ key e → AreNested height (E d) (E e) (item d a) (item e b)
  nested d e a b le =
      let la = a.low_is in
      let lb = b.low_is in
      elim (cases_lt d.low e.low) [
        | inl less ↦ inl (omega arith)
        | inr more ↦ inr (by_key d.mixed e.mixed a.mixed_is b.mixed_is le more)
      ]
    where
      by_key : (p q : Bool) → p ≡ ltb (height a.lowest) (height a.deepest) → q ≡ ltb (height b.lowest) (height b.deepest) → 2 * d.low + cond p 1 0 ≤ 2 * e.low + cond q 1 0 → e.low ≤ d.low → (height a.lowest ≡ height b.lowest) × (height a.lowest < height a.deepest → height b.lowest < height b.deepest)
      by_key true true ep eq le more = (let la = a.low_is in let lb = b.low_is in (omega arith, λ l. ltb-true (height b.lowest) (height b.deepest) (sym eq)))
      by_key true false ep eq le more = absurd (omega arith)
      by_key false true ep eq le more = (let la = a.low_is in let lb = b.low_is in (omega arith, λ l. ltb-true (height b.lowest) (height b.deepest) (sym eq)))
      by_key false false ep eq le more = (let la = a.low_is in let lb = b.low_is in (omega arith, λ l. absurd (true≢false (sym (lt-ltb (height a.lowest) (height a.deepest) l) ∙ sym ep))))

  -- a fork is met by each of its edges
  pub meets_turned : (side : ℕ → Bool) (xs ys : List ℕ) → MeetsFork height side xs ys → MeetsFork height side ys xs
  meets_turned side xs ys m = (
    not m.0,
    λ x y rx sy. (let k = m.1 y x sy rx in ((λ l. k.1 l), (λ l. k.0 l ∙ sym (twice m.0)))),
  )

  -- ---- some edges of a fork whose parts are in one stack, and the next one
  module _ (into : ℕ) (now : ℕ → List Block) (limit : ℕ) (first : ForkEdge) (done : List ForkEdge) (first_in : Contains done first) (low_is : first.low ≡ limit) (are : (d : ForkEdge) → Contains done d → IsForkEdge height P d) (before : (d : ForkEdge) → Contains done d → limit ≤ d.low) (held : (x : ℕ) → Contains (edges_in (now into)) x ↔ ((d : ForkEdge) × (Contains done d × Contains (E d) x))) (next : ForkEdge) (is : IsForkEdge height P next) (order : (d : ForkEdge) → Contains done d → key d ≤ key next) (from_is : now next.stack ≡ P next.stack) where
    next_edges : edges_in (now next.stack) ≡ E next
    next_edges = ap edges_in from_is

    pub limit_below : limit ≤ next.low
    limit_below = (let k = order first first_in in below first.mixed next.mixed k)
      where
        below : (p q : Bool) → 2 * first.low + cond p 1 0 ≤ 2 * next.low + cond q 1 0 → limit ≤ next.low
        below true true l = omega arith
        below true false l = omega arith
        below false true l = omega arith
        below false false l = omega arith

    -- where none of the next one is deeper than the limit, none so far is deeper than its least deep end
    pub none_so_far : Each (λ x. height x ≤ limit) (edges_in (now next.stack)) → Each (λ y. height y ≤ next.low) (edges_in (now into))
    none_so_far flat =
        each_from (λ y. height y ≤ next.low) (edges_in (now into)) (λ y c.
        let d = (held y).0 c in
        let a = are d.0 d.1.0 in
        let b = before d.0 d.1.0 in
        let la = a.low_is in
        let lb = is.low_is in
        let n = none_left height (E d.0) (E next) (item d.0 a) (item next is) limit (omega arith) (nested d.0 next a is (order d.0 d.1.0)) (λ z k. each_in (λ x. height x ≤ limit) (edges_in (now next.stack)) z flat (subst (λ xs. Contains xs z) (sym next_edges) k)) y d.1.1 in
        omega arith)

    -- short demands are those of the forks with the next one
    pub short_is : (side : ℕ → Bool) → IsShort height side limit next.low (edges_in (now into)) (edges_in (now next.stack)) ↔ ((d : ForkEdge) → Contains done d → MeetsFork height side (E d) (E next))
    short_is side = (
      (λ s d c.
          let a = are d c in
          let b = before d c in
          let la = a.low_is in
          let lb = is.low_is in
          short_meets height side (E d) (E next) (item d a) (item next is) limit s.0 (omega arith) (
            (λ y k l. each_in (λ x. limit < height x → side x ≡ s.0) (edges_in (now next.stack)) y s.1.0 (subst (λ xs. Contains xs y) (sym next_edges) k) l),
            (λ x k l. each_in (λ y. next.low < height y → side y ≡ not s.0) (edges_in (now into)) x s.1.1 ((held x).1 (d, (c, k))) (omega arith)),
          )),
      (λ forks.
          let a0 = are first first_in in
          let l0 = a0.low_is in
          let lb = is.low_is in
          let f = forks first first_in in (
            not f.0,
            (
              each_from (λ x. limit < height x → side x ≡ not f.0) (edges_in (now next.stack)) (λ x k l.
                  (short_demanded height side (E first) (E first) (E next) (item first a0) (item first a0) (item next is) (omega arith) (nested first next a0 is (order first first_in)) f f).0 x (subst (λ xs. Contains xs x) next_edges k) (omega arith)),
              each_from (λ y. next.low < height y → side y ≡ not (not f.0)) (edges_in (now into)) (λ y k l.
                  let d = (held y).0 k in
                  let a = are d.0 d.1.0 in
                  let b = before d.0 d.1.0 in
                  let la = a.low_is in
                  (short_demanded height side (E first) (E d.0) (E next) (item first a0) (item d.0 a) (item next is) (omega arith) (nested d.0 next a is (order d.0 d.1.0)) f (forks d.0 d.1.0)).1 y d.1.1 (omega arith)),
            ),
          )),
    )

-- ---- what is gathered
module _ (height : ℕ → ℕ) (into : ℕ) (P : ℕ → List Block) (ties : List Tie) where
  -- the first edge's stack moved
  pub gathered_first : (new : ℕ → List Block) (d : ForkEdge) → P into ≡ [] → IsForkEdge height P d → into ≢ d.stack → Moves into d.stack P new → IsGathered height into P new ties (d ∷ [])
  gathered_first new d bare is ne m =
      let only : (e : ForkEdge) → Contains (d ∷ []) e → d ≡ e = λ e c. elim (in_cases d e [] c) [ inl same ↦ same | inr k ↦ absurd (in_none e k) ] in
      record {
        others = λ p off far. m.others p off (far d (in_first d []));
        gone = λ e c. subst (λ (z : ForkEdge). new z.stack ≡ []) (only e c) m.gone;
        held = λ x. (
          (λ c. (d, (in_first d [], subst (λ bs. Contains (edges_in bs) x) m.here c))),
          (λ h. subst (λ bs. Contains (edges_in bs) x) (sym m.here) (subst (λ (z : ForkEdge). Contains (edges_in (P z.stack)) x) (sym (only h.0 h.1.0)) h.1.1)),
        );
        none = λ e. absurd (let a = ap length e in omega arith);
        part = λ e rest same. (let is' : d ≡ e = cc in subst (λ (z : ForkEdge). IsPart height z.low (new into)) is' (subst (IsPart height d.low) (sym m.here) is.part));
        obeys = λ side. (
          (λ h. (
            (
              (λ p. elim (cases_eq p into) [
                | inl e ↦ subst (λ q. AllAgree side (P q)) (sym e) (subst (AllAgree side) (sym bare) tt)
                | inr off ↦ elim (cases_eq p d.stack) [ inl e ↦ subst (λ q. AllAgree side (P q)) (sym e) (subst (AllAgree side) m.here (h.0 into)) | inr off' ↦ subst (AllAgree side) (m.others p off off') (h.0 p) ]
              ]),
              h.1,
            ),
            (λ e f c k far. absurd (far (ap (λ (z : ForkEdge). z.stack) (sym (only e c) ∙ only f k)))),
          )),
          (λ h. (
            (λ p. elim (cases_eq p into) [
              | inl e ↦ subst (λ q. AllAgree side (new q)) (sym e) (subst (AllAgree side) (sym m.here) (h.0.0 d.stack))
              | inr off ↦ elim (cases_eq p d.stack) [ inl e ↦ subst (λ q. AllAgree side (new q)) (sym e) (subst (AllAgree side) (sym m.gone) tt) | inr off' ↦ subst (AllAgree side) (sym (m.others p off off')) (h.0.0 p) ]
            ]),
            h.0.1,
          )),
        );
      }

  -- nothing to gather
  pub gathered_none : P into ≡ [] → IsGathered height into P P ties []
  gathered_none bare =
      record {
        others = λ p off far. refl;
        gone = λ d c. absurd (in_none d c);
        held = λ x. ((λ c. absurd (in_none x (subst (λ bs. Contains (edges_in bs) x) bare c))), (λ h. absurd (in_none h.0 h.1.0)));
        none = λ e. bare;
        part = λ d rest e. absurd (let a = ap length e in omega arith);
        obeys = λ side. ((λ h. (h, λ d e c k far. absurd (in_none d c))), (λ h. h.0));
      }

  -- ---- one more
  module _ (first : ForkEdge) (rest : List ForkEdge) (next : ForkEdge) (f : IsForkEdge height P next) (into_off : into ≢ next.stack) (are : (d : ForkEdge) → Contains (first ∷ rest) d → IsForkEdge height P d) (order : (d : ForkEdge) → Contains (first ∷ rest) d → (key d ≤ key next) × (d.stack ≢ next.stack)) (lows : (d : ForkEdge) → Contains (first ∷ rest) d → first.low ≤ d.low) (apart_done : (d : ForkEdge) → Contains (first ∷ rest) d → into ≢ d.stack) (now : ℕ → List Block) (g : IsGathered height into P now ties (first ∷ rest)) where
    abbrev done : List ForkEdge
    done = first ∷ rest

    next_is : now next.stack ≡ P next.stack
    next_is = g.others next.stack (λ e. into_off (sym e)) (λ d c e. (order d c).1 (sym e))

    pub into_part : IsPart height first.low (now into)
    into_part = g.part first rest refl

    pub next_part : IsPart height next.low (now next.stack)
    next_part = subst (IsPart height next.low) (sym next_is) f.part

    pub below_next : first.low ≤ next.low
    below_next = limit_below height P into now first.low first done (in_first first rest) refl are lows g.held next f (λ d c. (order d c).0) next_is

    pub none_yet : Each (λ x. height x ≤ first.low) (edges_in (now next.stack)) → Each (λ y. height y ≤ next.low) (edges_in (now into))
    none_yet = none_so_far height P into now first.low first done (in_first first rest) refl are lows g.held next f (λ d c. (order d c).0) next_is

    shorts : (side : ℕ → Bool) → IsShort height side first.low next.low (edges_in (now into)) (edges_in (now next.stack)) ↔ ((d : ForkEdge) → Contains done d → MeetsFork height side (edges_in (P d.stack)) (edges_in (P next.stack)))
    shorts = short_is height P into now first.low first done (in_first first rest) refl are lows g.held next f (λ d c. (order d c).0) next_is

    pub clash_next : ((side : ℕ → Bool) → AllAgree side (now into) → AllAgree side (now next.stack) → ¬ IsShort height side first.low next.low (edges_in (now into)) (edges_in (now next.stack))) → (all : List ForkEdge) → ((d : ForkEdge) → Contains done d → Contains all d) → Contains all next → (side : ℕ → Bool) → Obeys side P ties → ¬ ForksMet height P side all
    clash_next none all within in_all side obeys forks =
        let now_obeys = (g.obeys side).1 (obeys, λ d e c k far. forks d e (within d c) (within e k) far) in
        none side (now_obeys.0 into) (now_obeys.0 next.stack) ((shorts side).1 (λ d c. forks d next (within d c) in_all (order d c).1))

    pub gathered_more : (new : ℕ → List Block) → Merges height first.low next.low into next.stack now new → ((side : ℕ → Bool) → Obeys side new ties ↔ (Obeys side now ties × IsShort height side first.low next.low (edges_in (now into)) (edges_in (now next.stack)))) → IsGathered height into P new ties (done ++ next ∷ [])
    gathered_more new m told =
        let cases : (d : ForkEdge) → Contains (done ++ next ∷ []) d → Contains done d ⊎ (next ≡ d) = λ d c. elim (Contains-append_cases done (next ∷ []) d c) [ inl k ↦ inl k | inr k ↦ elim (in_cases next d [] k) [ inl e ↦ inr e | inr bad ↦ absurd (in_none d bad) ] ] in
        let front : (d : ForkEdge) → Contains done d → Contains (done ++ next ∷ []) d = λ d c. Contains-append_left done (next ∷ []) d c in
        let last : Contains (done ++ next ∷ []) next = Contains-append_right done (next ∷ []) next (in_first next []) in
        record {
          others = λ p off far. m.others p off (far next last) ∙ g.others p off (λ d c. far d (front d c));
          gone = λ d c. elim (cases d c) [
            | inl k ↦ m.others d.stack (λ e. apart_into d k (sym e)) (order d k).1 ∙ g.gone d k
            | inr e ↦ subst (λ (z : ForkEdge). new z.stack ≡ []) e m.gone
          ];
          held = λ x. (
            (λ c. elim ((m.union.held x).0 c) [
              | inl k ↦ (let h = (g.held x).0 k in (h.0, (front h.0 h.1.0, h.1.1)))
              | inr k ↦ (next, (last, subst (λ bs. Contains (edges_in bs) x) next_is k))
            ]),
            (λ h. (m.union.held x).1 (elim (cases h.0 h.1.0) [
              | inl k ↦ inl ((g.held x).1 (h.0, (k, h.1.1)))
              | inr e ↦ inr (subst (λ bs. Contains (edges_in bs) x) (sym next_is) (subst (λ (z : ForkEdge). Contains (edges_in (P z.stack)) x) (sym e) h.1.1))
            ])),
          );
          none = λ e. absurd (let a = ap length e in omega arith);
          part = λ d more same. (let is' : first ≡ d = cc in subst (λ (z : ForkEdge). IsPart height z.low (new into)) is' m.union.part);
          obeys = λ side. (
            (λ h.
                let a = (told side).0 h in
                let b = (g.obeys side).0 a.0 in
                let s = (shorts side).0 a.1 in (
                  b.0,
                  λ d e c k far. elim (cases d c) [
                    | inl c' ↦ elim (cases e k) [
                      | inl k' ↦ b.1 d e c' k' far
                      | inr same ↦ subst (λ (z : ForkEdge). MeetsFork height side (edges_in (P d.stack)) (edges_in (P z.stack))) same (s d c')
                    ]
                    | inr same ↦ elim (cases e k) [
                      | inl k' ↦ subst (λ (z : ForkEdge). MeetsFork height side (edges_in (P z.stack)) (edges_in (P e.stack))) same (meets_turned height P side (edges_in (P e.stack)) (edges_in (P next.stack)) (s e k'))
                      | inr same' ↦ absurd (far (ap (λ (z : ForkEdge). z.stack) (sym same ∙ same')))
                    ]
                  ],
                )),
            (λ h.
                let b = (g.obeys side).1 (h.0, λ d e c k far. h.1 d e (front d c) (front e k) far) in
                (told side).1 (b, (shorts side).1 (λ d c. h.1 d next (front d c) last (order d c).1))),
          );
        }
      where
        apart_into : (d : ForkEdge) → Contains done d → into ≢ d.stack
        apart_into d c = apart_done d c
