-- The edges of a vertex by which others return, found one by one.
use Rattle.std.proofs.Common.{◌≡◌, ◌≢◌, ◌⊎◌, ◌↔◌, ℕ, ◌+◌, ◌<◌, ◌≤◌, Bool, false, ltb, ◌-◌, List, [], ◌∷◌, Contains, refl, sym, ap, ap₂, ◌∙◌, subst, inl, inr, arith}
use Rattle.std.specs.List.{AllByRecursion as Each}
use Rattle.std.proofs.lemmas.Bool.{cases_eq, cases_lt, le-ltb}
use Rattle.std.proofs.lemmas.List.Elements.{Contains-append_left}
use Rattle.chained_lists.proofs.Links.{in_none, in_first, in_rest, in_cases}
use Rattle.left_right_blocks.specs.Blocks.{Block, edges_of, edges_in, AllAgree, IsPart}
use Rattle.left_right_blocks.specs.States.{Obeys, Drops}
use Rattle.left_right_blocks.specs.Ties.{AreKept}
use Rattle.left_right_blocks.specs.Begun.{IsDeepest}
use Rattle.left_right_blocks.specs.Forks.{IsForkEdge, AreNested}
use Rattle.left_right_blocks.specs.declared.fork_edges.ForkEdge.{ForkEdge}
use Rattle.left_right_blocks.specs.declared.ties.Tie.{Tie}
use Rattle.left_right_blocks.proofs.Eaches.{each_in}
use Rattle.left_right_blocks.proofs.Shaped.{all_deep}
use Rattle.left_right_blocks.proofs.Stated.{begun, begun_edge, begun_other}
use Rattle.left_right_sides.specs.Standing.{Rooted, IsChildOf, alone, IsPartOf, IsStanding, IsStackOf, IsForkAt, IsForkTo, MeetsAt}

-- an edge of a fork by another state with the same stack
pub fork_edge_same : (height : ℕ → ℕ) (P new : ℕ → List Block) (d : ForkEdge) → new d.stack ≡ P d.stack → IsForkEdge height P d → IsForkEdge height new d
fork_edge_same height P new d e f =
    record {
      part = subst (IsPart height d.low) (sym e) f.part;
      lowest = f.lowest;
      low_in = subst (λ bs. Contains (edges_in bs) f.lowest) (sym e) f.low_in;
      low_is = f.low_is;
      least = λ x c. f.least x (subst (λ bs. Contains (edges_in bs) x) e c);
      deepest = f.deepest;
      deep_in = subst (λ bs. Contains (edges_in bs) f.deepest) (sym e) f.deep_in;
      most = λ x c. f.most x (subst (λ bs. Contains (edges_in bs) x) e c);
      mixed_is = f.mixed_is;
    }

-- an edge alone
pub alone_edge : (height : ℕ → ℕ) (P : ℕ → List Block) (x : ℕ) → P x ≡ alone x → IsForkEdge height P (record { stack = x; low = height x; mixed = false })
alone_edge height P x e =
    let only : (y : ℕ) → Contains (edges_in (P x)) y → x ≡ y = λ y c. elim (in_cases x y [] (subst (λ bs. Contains (edges_in bs) y) e c)) [ inl s ↦ s | inr k ↦ absurd (in_none y k) ] in
    let here : Contains (edges_in (P x)) x = subst (λ bs. Contains (edges_in bs) x) (sym e) (in_first x []) in
    record {
      part = subst (IsPart height (height x)) (sym e) (
          record {
            blocks = (record { one_falls = (tt, tt); other_falls = tt; some = (x, ([], refl)); deep = (omega arith, tt); lone = inl (x, refl) }, tt);
            stacked = ((tt, tt), tt);
          });
      lowest = x;
      low_in = here;
      low_is = refl;
      least = λ y c. (let s = ap height (only y c) in omega arith);
      deepest = x;
      deep_in = here;
      most = λ y c. (let s = ap height (only y c) in omega arith);
      mixed_is = sym (le-ltb (height x) (height x) (omega arith));
    }

module _ (r : Rooted) (v : ℕ) (P : ℕ → List Block) (ties0 : List Tie) (child_own : (u : ℕ) → IsChildOf r v u → v ≡ u → ⊥) where
  -- nothing looked at
  pub found_none : (left : List ℕ) → ((p : ℕ) → IsStackOf r v p → Contains left p) → IsForkTo r v P P ties0 ties0 [] left
  found_none left whole =
      record {
        others = λ p off. refl;
        trimmed = λ u c off. absurd (off (whole (r.m + u) (inr (u, (refl, c)))));
        are = λ d c. absurd (in_none d c);
        kinds = λ d c. absurd (in_none d c);
        nested = tt;
        all = λ p off s. absurd (off (whole p s));
        told = λ side. ((λ o. o), (λ o. o));
      }

  module _ (new : ℕ → List Block) (ties : List Tie) (ds : List ForkEdge) (j : ℕ) (left : List ℕ) (once : ¬ Contains left j) (f : IsForkTo r v P new ties0 ties ds (j ∷ left)) where
    still : (p : ℕ) → p ≢ j → ¬ Contains left p → ¬ Contains (j ∷ left) p
    still p ne off c = elim (in_cases j p left c) [ inl e ↦ ne (sym e) | inr k ↦ off k ]

    gone : (p : ℕ) → ¬ Contains (j ∷ left) p → ¬ Contains left p
    gone p off c = off (in_rest j p left c)

    apart : (p : ℕ) → ¬ Contains (j ∷ left) p → p ≢ j
    apart p off e = off (subst (Contains (j ∷ left)) (sym e) (in_first j left))

    -- a stack of another vertex
    pub found_other : (IsStackOf r v j → ⊥) → IsForkTo r v P new ties0 ties ds left
    found_other off =
        record {
          others = λ p far. f.others p (λ u c l. far u c (gone (r.m + u) l));
          trimmed = λ u c l x. elim (cases_eq (r.m + u) j) [ inl e ↦ absurd (off (inr (u, (sym e, c)))) | inr ne ↦ f.trimmed u c (still (r.m + u) ne l) x ];
          are = f.are;
          kinds = λ d c. (let k = f.kinds d c in (k.0, gone d.stack k.1));
          nested = f.nested;
          all = λ p l s. elim (cases_eq p j) [ inl e ↦ absurd (off (subst (IsStackOf r v) e s)) | inr ne ↦ f.all p (still p ne l) s ];
          told = f.told;
        }

    -- an edge that goes upwards
    pub found_edge : (ds' : List ForkEdge) (d : ForkEdge) → j < r.m → d.stack ≡ j → IsStackOf r v j → IsForkEdge r.height new d → AreNested ds' → ((e : ForkEdge) → Contains ds' e ↔ (Contains ds e ⊎ (d ≡ e))) → IsForkTo r v P new ties0 ties ds' left
    found_edge ds' d l is s fe nested told =
        record {
          others = λ p far. f.others p (λ u c k. far u c (gone (r.m + u) k));
          trimmed = λ u c k x. f.trimmed u c (still (r.m + u) (λ e. omega arith) k) x;
          are = λ e c. elim ((told e).0 c) [ inl k ↦ f.are e k | inr same ↦ subst (IsForkEdge r.height new) same fe ];
          kinds = λ e c. elim ((told e).0 c) [
            | inl k ↦ (let b = f.kinds e k in (b.0, gone e.stack b.1))
            | inr same ↦ subst (λ (z : ForkEdge). IsStackOf r v z.stack × (¬ Contains left z.stack)) same (subst (IsStackOf r v) (sym is) s, subst (λ z. ¬ Contains left z) (sym is) once)
          ];
          nested = nested;
          all = λ p k s'. elim (cases_eq p j) [
            | inl e ↦ inr (d, ((told d).1 (inr refl), is ∙ sym e))
            | inr ne ↦ elim (f.all p (still p ne k) s') [ inl none ↦ inl none | inr a ↦ inr (a.0, ((told a.0).1 (inl a.1.0), a.1.1)) ]
          ];
          told = f.told;
        }

    -- a child's part
    module _ (u low : ℕ) (c : IsChildOf r v u) (is : r.m + u ≡ j) (last : ℕ → List Block) (ties' : List Tie) (t : Drops r.height (r.depth v) low (r.m + u) new last ties ties') where
      this_left : Contains (j ∷ left) (r.m + u)
      this_left = subst (Contains (j ∷ left)) (sym is) (in_first j left)

      this_done : ¬ Contains left (r.m + u)
      this_done k = once (subst (Contains left) is k)

      was : new (r.m + u) ≡ P (r.m + u)
      was = f.others (r.m + u) (λ w k l e. l (subst (Contains (j ∷ left)) e this_left))

      trimmed_now : (w : ℕ) → IsChildOf r v w → ¬ Contains left (r.m + w) → (x : ℕ) → Contains (edges_in (last (r.m + w))) x ↔ (Contains (edges_in (P (r.m + w))) x × (r.height x < r.depth v))
      trimmed_now w k l x =
          elim (cases_eq w u) [
            | inl e ↦ subst (λ z. Contains (edges_in (last (r.m + z))) x ↔ (Contains (edges_in (P (r.m + z))) x × (r.height x < r.depth v))) (sym e) (subst (λ bs. Contains (edges_in (last (r.m + u))) x ↔ (Contains (edges_in bs) x × (r.height x < r.depth v))) was (t.left x))
            | inr ne ↦
                let same : last (r.m + w) ≡ new (r.m + w) = t.others (r.m + w) (λ e. ne (omega arith)) in
                subst (λ bs. Contains (edges_in bs) x ↔ (Contains (edges_in (P (r.m + w))) x × (r.height x < r.depth v))) (sym same) (f.trimmed w k (still (r.m + w) (λ e. ne (omega arith)) l) x)
          ]

      others_now : (p : ℕ) → ((w : ℕ) → IsChildOf r v w → ¬ Contains left (r.m + w) → p ≢ r.m + w) → last p ≡ P p
      others_now p far = t.others p (far u c this_done) ∙ f.others p (λ w k l. far w k (gone (r.m + w) l))

      are_now : (e : ForkEdge) → Contains ds e → IsForkEdge r.height last e
      are_now e k = fork_edge_same r.height new last e (t.others e.stack (λ s. apart e.stack (f.kinds e k).1 (s ∙ is))) (f.are e k)

      told_now : (side : ℕ → Bool) → Obeys side P ties0 ↔ Obeys side last ties'
      told_now side = ((λ o. (t.agree side).0 ((f.told side).0 o)), (λ o. (f.told side).1 ((t.agree side).1 o)))

      pub found_bare : last (r.m + u) ≡ [] → IsForkTo r v P last ties0 ties' ds left
      found_bare none =
          record {
            others = others_now;
            trimmed = trimmed_now;
            are = are_now;
            kinds = λ d k. (let b = f.kinds d k in (b.0, gone d.stack b.1));
            nested = f.nested;
            all = λ p l s. elim (cases_eq p (r.m + u)) [
              | inl e ↦ inl (ap last e ∙ none)
              | inr ne ↦ elim (f.all p (still p (λ e. ne (e ∙ sym is)) l) s) [ inl bare ↦ inl (t.others p ne ∙ bare) | inr a ↦ inr a ]
            ];
            told = told_now;
          }

      pub found_child : (ds' : List ForkEdge) (d : ForkEdge) → d.stack ≡ r.m + u → IsForkEdge r.height last d → AreNested ds' → ((e : ForkEdge) → Contains ds' e ↔ (Contains ds e ⊎ (d ≡ e))) → IsForkTo r v P last ties0 ties' ds' left
      found_child ds' d at fe nested told =
          record {
            others = others_now;
            trimmed = trimmed_now;
            are = λ e k. elim ((told e).0 k) [ inl k' ↦ are_now e k' | inr same ↦ subst (IsForkEdge r.height last) same fe ];
            kinds = λ e k. elim ((told e).0 k) [
              | inl k' ↦ (let b = f.kinds e k' in (b.0, gone e.stack b.1))
              | inr same ↦ subst (λ (z : ForkEdge). IsStackOf r v z.stack × (¬ Contains left z.stack)) same (inr (u, (at, c)), subst (λ z. ¬ Contains left z) (sym at) this_done)
            ];
            nested = nested;
            all = λ p l s. elim (cases_eq p (r.m + u)) [
              | inl e ↦ inr (d, ((told d).1 (inr refl), at ∙ sym e))
              | inr ne ↦ elim (f.all p (still p (λ e. ne (e ∙ sym is)) l) s) [ inl bare ↦ inl (t.others p ne ∙ bare) | inr a ↦ inr (a.0, ((told a.0).1 (inl a.1.0), a.1.1)) ]
            ];
            told = told_now;
          }

  -- all are found
  pub found_all : (new : ℕ → List Block) (ties : List Tie) (ds : List ForkEdge) → v < r.n → IsForkTo r v P new ties0 ties ds [] → P (r.m + v) ≡ [] → IsForkAt r v P new ds
  found_all new ties ds in_n f bare =
      record {
        others = λ p far. f.others p (λ u c l. far u c);
        trimmed = λ u c x. f.trimmed u c (in_none (r.m + u)) x;
        fork = record {
          empty = f.others (r.m + v) (λ u c l e. own u c (omega arith)) ∙ bare;
          are = f.are;
          apart = λ d c e. elim (f.kinds d c).0 [ inl a ↦ (let l = a.0 in omega arith) | inr a ↦ (let i = a.1.0 in own a.0 a.1.1 (omega arith)) ];
          nested = f.nested;
        };
        kinds = λ d c. (f.kinds d c).0;
        all = λ p s. f.all p (in_none p) s;
      }
    where
      own : (u : ℕ) → IsChildOf r v u → v ≡ u → ⊥
      own u c e = child_own u c e

-- ---- a child's trimmed part as an edge of the fork
module _ (r : Rooted) (u low depth stack : ℕ) (P new : ℕ → List Block) (ties0 ties : List Tie) (q : IsPartOf r u low (P stack)) (t : Drops r.height depth low stack P new ties0 ties) where
  pub child_edge : (deepest : ℕ) (mixed : Bool) → IsDeepest r.height (edges_in (new stack)) deepest → mixed ≡ ltb low deepest → IsForkEdge r.height new (record { stack = stack; low = low; mixed = mixed })
  child_edge deepest mixed d e =
      let z = (t.left d.edge).0 d.held in
      let out = (q.held d.edge).0 z.0 in
      let m = q.met d.edge out in
      let y = m.0 in
      let all : Each (λ x. low ≤ r.height x) (edges_in (new stack)) = all_deep r.height low (new stack) t.part.blocks in
      let lz = each_in (λ x. low ≤ r.height x) (edges_in (new stack)) d.edge all d.held in
      let hz = z.1 in
      let hy = m.1.1 in
      record {
        part = t.part;
        lowest = y;
        low_in = (t.left y).1 ((q.held y).1 m.1.0, omega arith);
        low_is = hy;
        least = λ x c. each_in (λ x. low ≤ r.height x) (edges_in (new stack)) x all c;
        deepest = d.edge;
        deep_in = d.held;
        most = λ x c. (let i = d.is in let k = d.most x c in omega arith);
        mixed_is = e ∙ ap₂ ltb (sym hy) (sym d.is);
      }

-- ---- the beginning and the end
pub standing_none : (r : Rooted) (low : ℕ → ℕ) → ((u : ℕ) → u < r.n → r.number u < r.n) → IsStanding r 0 low (begun r.m) []
standing_none r low numbered =
    record {
      top = λ u l late. absurd (let i = numbered u l in omega arith);
      early = λ u l soon. begun_other r.m (r.m + u) (omega arith);
      gone = λ u l some late. begun_other r.m (r.m + u) (omega arith);
      fresh = λ x l soon. begun_edge r.m x l;
      edge = λ x l. inl (begun_edge r.m x l);
      past = λ p l. begun_other r.m p (omega arith);
      obeys = λ side. (
        (λ o v l late. absurd (let i = numbered v l in omega arith)),
        (λ m. ((λ p. elim (cases_lt p r.m) [ inl l ↦ subst (AllAgree side) (sym (begun_edge r.m p l)) ((side p, ((refl, tt), tt)), tt) | inr l ↦ subst (AllAgree side) (sym (begun_other r.m p l)) tt ]), tt)),
      );
    }

-- blocks with no edge are none
no_blocks : (height : ℕ → ℕ) (low : ℕ) (bs : List Block) → IsPart height low bs → ((x : ℕ) → ¬ Contains (edges_in bs) x) → bs ≡ []
no_blocks height low [] part none = refl
no_blocks height low (b ∷ bs) part none =
    let s = part.blocks.0.some in
    absurd (none s.0 (Contains-append_left (edges_of b) (edges_in bs) s.0 (subst (λ xs. Contains xs s.0) (sym s.1.1) (in_first s.0 s.1.0))))

-- with sides that keep the ties all forks are met
pub all_met : (r : Rooted) (low : ℕ → ℕ) (P : ℕ → List Block) (ties : List Tie) (side : ℕ → Bool) → IsStanding r r.n low P ties → AreKept side ties → ((u : ℕ) → u < r.n → 0 < r.depth u → r.parent u < r.n) → (v : ℕ) → v < r.n → MeetsAt r side v
all_met r low P ties side s kept parents v l =
    (s.obeys side).0 (agree, kept) v l (omega arith)
  where
    agree : (p : ℕ) → AllAgree side (P p)
    agree p =
        elim (cases_lt p r.m) [
          | inl l ↦ elim (s.edge p l) [ inl e ↦ subst (AllAgree side) (sym e) ((side p, ((refl, tt), tt)), tt) | inr e ↦ subst (AllAgree side) (sym e) tt ]
          | inr l ↦ elim (cases_lt p (r.m + r.n)) [
            | inr far ↦ subst (AllAgree side) (sym (s.past p far)) tt
            | inl near ↦ below p (p - r.m) (omega arith) (omega arith)
          ]
        ]
      where
        below : (p u : ℕ) → p ≡ r.m + u → u < r.n → AllAgree side (P p)
        below p u e in_n =
            elim (cases_lt 0 (r.depth u)) [
              | inl some ↦ subst (AllAgree side) (sym (ap P e ∙ s.gone u in_n some (let a = parents u in_n some in omega arith))) tt
              | inr root ↦
                  let q = s.top u in_n (omega arith) (λ some. absurd (omega arith)) in
                  subst (AllAgree side) (sym (ap P e ∙ no_blocks r.height (low u) (P (r.m + u)) q.part (λ x c. (let o = (q.held x).0 c in let h = o.1.higher in omega arith)))) tt
            ]
