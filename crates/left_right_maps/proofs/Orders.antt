-- A fork's edges in order: put in one by one, from the one with the least end on, each behind the last that has to stand before it.
use Rattle.std.proofs.Common.{◌≡◌, ◌≢◌, ◌⊎◌, ℕ, ◌<◌, ◌≤◌, Bool, true, false, not, List, [], ◌∷◌, ◌++◌, AllPairs, Contains, refl, sym, ap, ◌∙◌, subst, inl, inr, arith}
use Rattle.std.proofs.lemmas.Bool.{cases_Bool, cases_lt, true≢false}
use Rattle.map_theory.specs.Maps.{Dart}
use Rattle.left_right_laws.specs.Forests.{IsReturn, IsLeftRight}
use Rattle.left_right_maps.specs.Orders.{IsEdge, MayPrecede, MayAllPrecede, ForkIsOrdered}
use Rattle.left_right_maps.proofs.Inserts.{none_in_none, here, there, here_or_there, pairs_none, pairs_head, pairs_tail, Inserted, inserted, inserted_holds, inserted_here, inserted_there}

module _ (depth : ℕ → ℕ) (left : ℕ → ℕ → Bool) where
  -- d may not stand before e
  abbrev pub Fails : Dart → Dart → Type 0
  Fails d e =
      ((left e.0 e.1 ≡ true) × (depth d.1 < depth e.1)) ⊎ ((left d.0 d.1 ≡ false) × (depth e.1 < depth d.1))

  may_or_fails : (d e : Dart) → MayPrecede depth left d e ⊎ Fails d e
  may_or_fails d e = grind (arith, cases_lt, cases_Bool, true≢false)

  fails_not : (d e : Dart) → Fails d e → ¬ MayPrecede depth left d e
  fails_not d e fails may =
      elim fails [ inl h ↦ (let a = may.0 h.0 in let b = h.1 in omega arith) | inr h ↦ (let a = may.1 h.0 in let b = h.1 in omega arith) ]

  -- one of a list may not stand before one of another
  abbrev pub SomeFails : List Dart → List Dart → Type 0
  SomeFails ds es = (d : Dart) × ((e : Dart) × (Contains ds d × (Contains es e × Fails d e)))

  one_or_fails : (d : Dart) (es : List Dart) → ((e : Dart) → Contains es e → MayPrecede depth left d e) ⊎ ((e : Dart) × (Contains es e × Fails d e))
  one_or_fails d [] = inl (λ e c. absurd (none_in_none e c))
  one_or_fails d (x ∷ es) =
      elim (may_or_fails d x) [
        | inr f ↦ inr (x, (here x es, f))
        | inl may ↦ elim (one_or_fails d es) [
          | inr found ↦ inr (found.0, (there x found.0 es found.1.0, found.1.1))
          | inl all ↦ inl (λ e c. elim (here_or_there x e es c) [ inl same ↦ subst (MayPrecede depth left d) same may | inr c' ↦ all e c' ])
        ]
      ]

  all_or_fails : (ds es : List Dart) → MayAllPrecede depth left ds es ⊎ SomeFails ds es
  all_or_fails [] es = inl (λ d e c c'. absurd (none_in_none d c))
  all_or_fails (x ∷ ds) es =
      elim (one_or_fails x es) [
        | inr found ↦ inr (x, (found.0, (here x ds, found.1)))
        | inl one ↦ elim (all_or_fails ds es) [
          | inr found ↦ inr (found.0, (found.1.0, (there x found.0 ds found.1.1.0, found.1.1.1)))
          | inl all ↦ inl (λ d e c c'. elim (here_or_there x d ds c) [ inl same ↦ subst (λ d. MayPrecede depth left d e) same (one e c') | inr c'' ↦ all d e c'' c' ])
        ]
      ]

  -- the least depth of an end, of a list that has some
  pub record Least (ds : List Dart) : Type 0 where
    pub least : ℕ
    pub below : (d : Dart) → Contains ds d → least ≤ depth d.1
    pub met : (d : Dart) → Contains ds d → (e : Dart) × (Contains ds e × (depth e.1 ≡ least))

  least_of : (ds : List Dart) → Least ds
  least_of [] = record { least = 0; below = λ d c. absurd (none_in_none d c); met = λ d c. absurd (none_in_none d c) }
  least_of (x ∷ []) =
      record {
        least = depth x.1;
        below = λ d c. elim (here_or_there x d [] c) [ inl same ↦ (let e = ap (λ (d : Dart). depth d.1) same in omega arith) | inr c' ↦ absurd (none_in_none d c') ];
        met = λ d c. (x, (here x [], refl));
      }
  least_of (x ∷ y ∷ ds) =
      let rest = least_of (y ∷ ds) in
      elim (cases_lt (depth x.1) rest.least) [
        | inl less ↦ record {
          least = depth x.1;
          below = λ d c. elim (here_or_there x d (y ∷ ds) c) [ inl same ↦ (let e = ap (λ (d : Dart). depth d.1) same in omega arith) | inr c' ↦ (let b = rest.below d c' in omega arith) ];
          met = λ d c. (x, (here x (y ∷ ds), refl));
        }
        | inr more ↦ (let m = rest.met y (here y ds) in
            record {
              least = rest.least;
              below = λ d c. elim (here_or_there x d (y ∷ ds) c) [ inl same ↦ (let e = ap (λ (d : Dart). depth d.1) same in omega arith) | inr c' ↦ rest.below d c' ];
              met = λ d c. (m.0, (there x m.0 (y ∷ ds) m.1.0, m.1.1));
            })
      ]

  module _ (returns : ℕ → List Dart) where
    -- what returns by e may stand before what returns by f
    abbrev pub Before : ℕ → ℕ → Type 0
    Before e f = MayAllPrecede depth left (returns e) (returns f)

    -- e has to stand before f
    abbrev Must : ℕ → ℕ → Type 0
    Must e f = Before e f × SomeFails (returns f) (returns e)

    abbrev least : ℕ → ℕ
    least e = (least_of (returns e)).least

    -- e may stand before what f has to stand before, where f may stand behind e, and ends no deeper at least
    over : (e f g : ℕ) → Before e f → Must f g → least f ≤ least g → Before e g ⊎ Before g e → Before e g
    over e f g first must low either =
        elim either [
          | inl h ↦ h
          | inr back ↦ λ d x c c'. (
            λ l. elim (cases_lt (depth d.1) (depth x.1)) [
              | inr fine ↦ fine
              | inl less ↦ grind arith
            ],
            λ r.
                let lowest = (least_of (returns f)).met must.1.1.0 must.1.1.1.1.0 in
                omega (arith, (least_of (returns g)).below x c', (first d lowest.0 c lowest.1.0).1 r),
          )
        ]

    abbrev Apart : ℕ → ℕ → Type 0
    Apart e f = (e ≢ f) × Before e f

    pub record Ordered (R : ℕ → ℕ → Type 0) (us : List ℕ) : Type 0 where
      pub list : List ℕ
      pub holds : (u : ℕ) → Contains list u → Contains us u
      pub all : (u : ℕ) → Contains us u → Contains list u
      pub pairs : AllPairs R list

    abbrev Lower : ℕ → ℕ → Type 0
    Lower e f = (e ≢ f) × (least f ≤ least e)

    put_in : (R S : ℕ → ℕ → Type 0) (u : ℕ) (us : List ℕ) → (old : Ordered R us) → Inserted R S u old.list → Ordered R (u ∷ us)
    put_in R S u us old new =
        record {
          list = new.front ++ u ∷ new.back;
          holds = λ w c. elim (inserted_holds R u new.front new.back w c) [ inl e ↦ subst (Contains (u ∷ us)) e (here u us) | inr c' ↦ there u w us (old.holds w (subst (λ ws. Contains ws w) (sym new.is) c')) ];
          all = λ w c. elim (here_or_there u w us c) [ inl e ↦ subst (Contains (new.front ++ u ∷ new.back)) e (inserted_here R u new.front new.back) | inr c' ↦ inserted_there R u new.front new.back w (subst (λ ws. Contains ws w) new.is (old.all w c')) ];
          pairs = new.pairs;
        }

    -- with the deepest first
    by_least : (us : List ℕ) → AllPairs ◌≢◌ us → Ordered Lower us
    by_least [] distinct = record { list = []; holds = λ u c. c; all = λ u c. c; pairs = pairs_none Lower }
    by_least (u ∷ us) distinct =
        let old = by_least us (pairs_tail ◌≢◌ u us distinct) in
        let apart : (y : ℕ) → Contains old.list y → u ≢ y = λ y c. pairs_head ◌≢◌ u us distinct y (old.holds y c) in
        put_in Lower Lower u us old (inserted Lower Lower u old.list old.pairs
        (λ y c. elim (cases_lt (least y) (least u)) [ inl less ↦ inr (apart y c, omega (arith, less)) | inr more ↦ inl ((λ e. apart y c (sym e)), more) ])
        (λ y c s. s)
        (λ y z c c' r s. ((λ e. apart y c (sym e)), (let a = r.1 in let b = s.1 in omega arith))))

    -- each before those that it has to stand before
    ordered : (us : List ℕ) → AllPairs Lower us → ((e f : ℕ) → Contains us e → Contains us f → e ≢ f → Before e f ⊎ Before f e) → Ordered Apart us
    ordered [] low either = record { list = []; holds = λ u c. c; all = λ u c. c; pairs = pairs_none Apart }
    ordered (u ∷ us) low either =
        let old = ordered us (pairs_tail Lower u us low) (λ e f c c' apart. either e f (there u e us c) (there u f us c') apart) in
        let apart : (y : ℕ) → Contains old.list y → u ≢ y = λ y c. (pairs_head Lower u us low y (old.holds y c)).0 in
        let two : (y : ℕ) → Contains old.list y → Before y u ⊎ Before u y = λ y c. either y u (there u y us (old.holds y c)) (here u us) (λ e. apart y c (sym e)) in
        put_in Apart Must u us old (inserted Apart Must u old.list old.pairs
        (λ y c. elim (all_or_fails (returns u) (returns y)) [
          | inl may ↦ inr (apart y c, may)
          | inr fails ↦ inl ((elim (two y c) [ inl h ↦ h | inr h ↦ absurd (fails_not fails.0 fails.1.0 fails.1.1.1.1 (h fails.0 fails.1.0 fails.1.1.0 fails.1.1.1.0)) ]), fails)
        ])
        (λ y c s. ((λ e. apart y c (sym e)), s.0))
        (λ y z c c' r s. ((λ e. apart y c (sym e)), over y z u r.1 s (pairs_head Lower u us low z (old.holds z c')).1 (two y c))))

module _ (joined : ℕ → ℕ → Bool) (parent depth : ℕ → ℕ) (left : ℕ → ℕ → Bool) (v : ℕ) (us : List ℕ) (returns : ℕ → List Dart) (sides : IsLeftRight (IsEdge joined) parent depth left) (are : (u : ℕ) (d : Dart) → Contains us u → Contains (returns u) d → IsReturn (IsEdge joined) parent depth v u d.0 d.1) where
  either : (e f : ℕ) → Contains us e → Contains us f → e ≢ f → Before depth left returns e f ⊎ Before depth left returns f e
  either e f ce cf apart =
      let fork = sides v e f apart in
      elim (cases_Bool fork.0) [
        | inl t ↦ inl (λ d x c c'.
            let tied = fork.1 d.0 d.1 x.0 x.1 (are e d ce c) (are f x cf c') in (
              λ l. elim (cases_lt (depth d.1) (depth x.1)) [ inr fine ↦ fine | inl less ↦ absurd (true≢false (sym l ∙ (tied.1 less ∙ ap not t))) ],
              λ r. elim (cases_lt (depth x.1) (depth d.1)) [ inr fine ↦ fine | inl less ↦ absurd (true≢false (sym (tied.0 less ∙ t) ∙ r)) ],
            ))
        | inr t ↦ inr (λ x d c' c.
            let tied = fork.1 d.0 d.1 x.0 x.1 (are e d ce c) (are f x cf c') in (
              λ l. elim (cases_lt (depth x.1) (depth d.1)) [ inr fine ↦ fine | inl less ↦ absurd (true≢false (sym l ∙ (tied.0 less ∙ t))) ],
              λ r. elim (cases_lt (depth d.1) (depth x.1)) [ inr fine ↦ fine | inl less ↦ absurd (true≢false (sym (tied.1 less ∙ ap not t) ∙ r)) ],
            ))
      ]

-- THE LAW: a fork is ordered
pub fork_is_ordered : ForkIsOrdered
fork_is_ordered joined parent depth left v us returns sides distinct are =
    let low = by_least depth left returns us distinct in
    let found = ordered depth left returns low.list low.pairs (λ e f c c' apart. either joined parent depth left v us returns sides are e f (low.holds e c) (low.holds f c') apart) in
    (found.list, ((λ u. ((λ c. low.holds u (found.holds u c)), (λ c. found.all u (low.all u c)))), found.pairs))
