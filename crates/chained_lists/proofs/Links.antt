-- Tables of links, and lists that they lead through.
use Rattle.std.proofs.Common.{◌≡◌, ◌≢◌, ◌⊎◌, ℕ, zero, suc, ◌+◌, ◌<◌, ◌≤◌, true, false, eqb, ltb, List, [], ◌∷◌, ◌++◌, length, get_or, set, Contains, refl, sym, ap, ◌∙◌, subst, inl, inr, arith, slice_index, eq-eqb, ne_eqb, length-append, length-set, get_or-set_same, get_or-set_other}
use Rattle.std.proofs.lemmas.Bool.{cases_eq, cases_lt, cond-true, cond-false, lt-ltb, le-ltb, true≢false}
use Rattle.std.proofs.Math.Path.{fun_ext}
use Rattle.std.proofs.Math.ListN.{get_or-append}
use Rattle.std.proofs.lemmas.List.{append-nil, get_or_default, get_or-append-add}
use Rattle.std.proofs.lemmas.List.Elements.{Contains-append_cases}
use Rattle.chained_lists.specs.Chains.{put, singles, IsOnce, Leads, AreApart, AreLinked}

-- ---- elements
module _ {X : Type 0} where
  pub in_none : (x : X) → ¬ Contains [] x
  in_none x c = let some = c.1 in omega arith

  pub in_first : (x : X) (xs : List X) → Contains (x ∷ xs) x
  in_first x xs = (0, omega arith, refl)

  pub in_rest : (x y : X) (xs : List X) → Contains xs y → Contains (x ∷ xs) y
  in_rest x y xs c = (suc c.0, omega (arith, c.1), c.2)

  pub in_cases : (x y : X) (xs : List X) → Contains (x ∷ xs) y → (x ≡ y) ⊎ Contains xs y
  in_cases x y xs (zero, l, e) = inl e
  in_cases x y xs (suc k, l, e) = inr (k, omega (arith, l), e)

pub once_joined : (xs ys : List ℕ) → IsOnce xs → IsOnce ys → ((x : ℕ) → Contains xs x → ¬ Contains ys x) → IsOnce (xs ++ ys)
once_joined [] ys a b off = b
once_joined (x ∷ xs) ys a b off = (
  λ c. elim (Contains-append_cases xs ys x c) [ inl k ↦ a.0 k | inr k ↦ off x (in_first x xs) k ],
  once_joined xs ys a.1 b (λ y c. off y (in_rest x y xs c)),
)

-- ---- one list in another place
pub put_here : (p : ℕ) (xs : List ℕ) (lists : ℕ → List ℕ) → put p xs lists p ≡ xs
put_here p xs lists = cond-true {A = List ℕ} (eqb p p) xs (lists p) (eq-eqb p p refl)

pub put_other : (p : ℕ) (xs : List ℕ) (lists : ℕ → List ℕ) (q : ℕ) → q ≢ p → put p xs lists q ≡ lists q
put_other p xs lists q ne = cond-false {A = List ℕ} (eqb q p) xs (lists q) (ne_eqb q p ne)

-- ---- leading through a list
pub leads_last : (f : ℕ → ℕ) (x : ℕ) (xs : List ℕ) (z : ℕ) → Leads f x xs z → Contains xs z
leads_last f x [] z h = absurd h
leads_last f x (y ∷ []) z h = subst (Contains (y ∷ [])) (sym h.1) (in_first y [])
leads_last f x (y ∷ w ∷ ws) z h = in_rest y z (w ∷ ws) (leads_last f (f y) (w ∷ ws) z h.1)

pub leads_first : (f : ℕ → ℕ) (x : ℕ) (xs : List ℕ) (z : ℕ) → Leads f x xs z → (rest : List ℕ) × (xs ≡ x ∷ rest)
leads_first f x [] z h = absurd h
leads_first f x (y ∷ []) z h = ([], ap (λ w. w ∷ []) (sym h.0))
leads_first f x (y ∷ w ∷ ws) z h = (w ∷ ws, ap (λ u. u ∷ w ∷ ws) (sym h.0))

pub leads_same : (f g : ℕ → ℕ) (x : ℕ) (xs : List ℕ) (z : ℕ) → IsOnce xs → ((y : ℕ) → Contains xs y → y ≢ z → g y ≡ f y) → Leads f x xs z → Leads g x xs z
leads_same f g x [] z once same h = h
leads_same f g x (y ∷ []) z once same h = h
leads_same f g x (y ∷ w ∷ ws) z once same h =
    let far : y ≢ z = λ e. once.0 (subst (Contains (w ∷ ws)) (sym e) (leads_last f (f y) (w ∷ ws) z h.1)) in
    (h.0, subst (λ u. Leads g u (w ∷ ws) z) (sym (same y (in_first y (w ∷ ws)) far)) (leads_same f g (f y) (w ∷ ws) z once.1 (λ u c. same u (in_rest y u (w ∷ ws) c)) h.1))

pub leads_on : (f : ℕ → ℕ) (x : ℕ) (xs : List ℕ) (z y : ℕ) (ys : List ℕ) (w : ℕ) → Leads f x xs z → f z ≡ y → Leads f y ys w → Leads f x (xs ++ ys) w
leads_on f x [] z y ys w h e k = absurd h
leads_on f x (u ∷ []) z y [] w h e k = absurd k
leads_on f x (u ∷ []) z y (v ∷ vs) w h e k = (h.0, subst (λ t. Leads f t (v ∷ vs) w) (sym e ∙ ap f h.1) k)
leads_on f x (u ∷ u' ∷ us) z y ys w h e k = (h.0, leads_on f (f u) (u' ∷ us) z y ys w h.1 e k)

-- ---- the lists that tables of links stand for
module _ (next first last : List ℕ) (lists : ℕ → List ℕ) (h : AreLinked next first last lists) where
  abbrev F : ℕ → ℕ
  F = slice_index first

  abbrev N : ℕ → ℕ
  N = slice_index next

  abbrev Z : ℕ → ℕ
  Z = slice_index last

  -- a list with a number begins with its first, and its last is one of it
  pub begins : (p : ℕ) → p < length first → F p < length next → (rest : List ℕ) × (lists p ≡ F p ∷ rest)
  begins p l m = leads_first N (F p) (lists p) (Z p) (h.some p l m)

  pub last_in : (p : ℕ) → p < length first → F p < length next → Z p < length next
  last_in p l m = h.within p (Z p) (leads_last N (F p) (lists p) (Z p) (h.some p l m))

  -- ---- the first number taken
  module _ (p : ℕ) (rest : List ℕ) (in_lists : p < length first) (is : lists p ≡ F p ∷ rest) (number : F p < length next) where
    abbrev new : ℕ → List ℕ
    new = put p rest lists

    held : (q x : ℕ) → Contains (new q) x → Contains (lists q) x
    held q x c =
        elim (cases_eq q p) [
          | inl e ↦ subst (λ u. Contains (lists u) x) (sym e) (subst (λ xs. Contains xs x) (sym is) (in_rest (F p) x rest (subst (λ xs. Contains xs x) (put_here p rest lists) (subst (λ u. Contains (new u) x) e c))))
          | inr ne ↦ subst (λ xs. Contains xs x) (put_other p rest lists q ne) c
        ]

    leads : Leads N (F p) (F p ∷ rest) (Z p)
    leads = subst (λ xs. Leads N (F p) xs (Z p)) is (h.some p in_lists number)

    once : IsOnce (F p ∷ rest)
    once = subst IsOnce is (h.apart.once p)

    pub popped_apart : AreApart new
    popped_apart =
        record {
          once = λ q. elim (cases_eq q p) [
            | inl e ↦ subst (λ u. IsOnce (new u)) (sym e) (subst IsOnce (sym (put_here p rest lists)) once.1)
            | inr ne ↦ subst IsOnce (sym (put_other p rest lists q ne)) (h.apart.once q)
          ];
          one = λ q r x c c'. h.apart.one q r x (held q x c) (held r x c');
        }

    -- with another first of this list the tables stand for what is left
    linked : (first' : List ℕ) → length first' ≡ length first → ((q : ℕ) → q ≢ p → slice_index first' q ≡ F q) → (length next ≤ slice_index first' p → rest ≡ []) → (slice_index first' p < length next → Leads N (slice_index first' p) rest (Z p)) → AreLinked next first' last new
    linked first' long same none some =
        record {
          apart = popped_apart;
          within = λ q x c. h.within q x (held q x c);
          none = λ q l. put_other p rest lists q (λ e. omega arith) ∙ h.none q (omega arith);
          empty = λ q l far. elim (cases_eq q p) [
            | inl e ↦ subst (λ u. new u ≡ []) (sym e) (put_here p rest lists ∙ none (subst (λ u. length next ≤ slice_index first' u) e far))
            | inr ne ↦ put_other p rest lists q ne ∙ h.empty q (omega arith) (subst (λ z. length next ≤ z) (same q ne) far)
          ];
          some = λ q l near. elim (cases_eq q p) [
            | inl e ↦ subst (λ u. Leads N (slice_index first' u) (new u) (Z u)) (sym e) (subst (λ xs. Leads N (slice_index first' p) xs (Z p)) (sym (put_here p rest lists)) (some (subst (λ u. slice_index first' u < length next) e near)))
            | inr ne ↦ subst (λ xs. Leads N (slice_index first' q) xs (Z q)) (sym (put_other p rest lists q ne)) (subst (λ z. Leads N z (lists q) (Z q)) (sym (same q ne)) (h.some q (omega arith) (subst (λ z. z < length next) (same q ne) near)))
          ];
        }

    -- the last one was taken
    pub popped_last : (none : ℕ) → length next ≤ none → F p ≡ Z p → AreLinked next (set first p none) last new
    popped_last none far e =
        let here : slice_index (set first p none) p ≡ none = get_or-set_same first p none 0 in_lists in
        linked (set first p none) (length-set first p none) (λ q ne. get_or-set_other first p q none 0 ne)
        (λ l. alone rest leads once)
        (λ l. absurd (omega (arith, here, far, l)))
      where
        alone : (xs : List ℕ) → Leads N (F p) (F p ∷ xs) (Z p) → IsOnce (F p ∷ xs) → xs ≡ []
        alone [] l o = refl
        alone (y ∷ ys) l o = absurd (o.0 (subst (Contains (y ∷ ys)) (sym e) (leads_last N (N (F p)) (y ∷ ys) (Z p) l.1)))

    -- more are left
    pub popped_more : F p ≢ Z p → AreLinked next (set first p (N (F p))) last new
    popped_more ne =
        let here : slice_index (set first p (N (F p))) p ≡ N (F p) = get_or-set_same first p (N (F p)) 0 in_lists in
        let on = goes rest leads in
        let inside : N (F p) < length next = h.within p (N (F p)) (subst (λ xs. Contains xs (N (F p))) (sym is) (in_rest (F p) (N (F p)) rest (subst (λ xs. Contains xs (N (F p))) (sym on.1.1) (in_first (N (F p)) on.1.0)))) in
        linked (set first p (N (F p))) (length-set first p (N (F p))) (λ q far. get_or-set_other first p q (N (F p)) 0 far)
        (λ l. absurd (omega (arith, here, inside, l)))
        (λ l. subst (λ z. Leads N z rest (Z p)) (sym here) on.0)
      where
        goes : (xs : List ℕ) → Leads N (F p) (F p ∷ xs) (Z p) → Leads N (N (F p)) xs (Z p) × ((ys : List ℕ) × (xs ≡ N (F p) ∷ ys))
        goes [] l = absurd (ne (sym l.1))
        goes (y ∷ ys) l = (l.1, leads_first N (N (F p)) (y ∷ ys) (Z p) l.1)

  -- ---- a number put before a list
  module _ (p x : ℕ) (in_lists : p < length first) (inside : x < length next) (fresh : (q : ℕ) → ¬ Contains (lists q) x) where
    abbrev more : ℕ → List ℕ
    more = put p (x ∷ lists p) lists

    more_held : (q y : ℕ) → Contains (more q) y → ((x ≡ y) × (q ≡ p)) ⊎ Contains (lists q) y
    more_held q y c =
        elim (cases_eq q p) [
          | inl e ↦ elim (in_cases x y (lists p) (subst (λ xs. Contains xs y) (put_here p (x ∷ lists p) lists) (subst (λ u. Contains (more u) y) e c))) [ inl same ↦ inl (same, e) | inr k ↦ inr (subst (λ u. Contains (lists u) y) (sym e) k) ]
          | inr ne ↦ inr (subst (λ xs. Contains xs y) (put_other p (x ∷ lists p) lists q ne) c)
        ]

    more_apart : AreApart more
    more_apart =
        record {
          once = λ q. elim (cases_eq q p) [
            | inl e ↦ subst (λ u. IsOnce (more u)) (sym e) (subst IsOnce (sym (put_here p (x ∷ lists p) lists)) (fresh p, h.apart.once p))
            | inr ne ↦ subst IsOnce (sym (put_other p (x ∷ lists p) lists q ne)) (h.apart.once q)
          ];
          one = λ q r y c c'. elim (more_held q y c) [
            | inl a ↦ elim (more_held r y c') [ inl b ↦ a.1 ∙ sym b.1 | inr k ↦ absurd (fresh r (subst (Contains (lists r)) (sym a.0) k)) ]
            | inr a ↦ elim (more_held r y c') [ inl b ↦ absurd (fresh q (subst (Contains (lists q)) (sym b.0) a)) | inr k ↦ h.apart.one q r y a k ]
          ];
        }

    more_linked : (next' first' last' : List ℕ) → length next' ≡ length next → length first' ≡ length first → ((q : ℕ) → q ≢ p → slice_index first' q ≡ F q) → ((q : ℕ) → q ≢ p → slice_index last' q ≡ Z q) → ((y : ℕ) → y ≢ x → slice_index next' y ≡ N y) → slice_index first' p ≡ x → Leads (slice_index next') x (x ∷ lists p) (slice_index last' p) → AreLinked next' first' last' more
    more_linked next' first' last' long_n long_f same_f same_l same_n is leads' =
        record {
          apart = more_apart;
          within = λ q y c. elim (more_held q y c) [ inl a ↦ (let e = a.0 in omega arith) | inr k ↦ (let l = h.within q y k in omega arith) ];
          none = λ q l. put_other p (x ∷ lists p) lists q (λ e. omega arith) ∙ h.none q (omega arith);
          empty = λ q l far. elim (cases_eq q p) [
            | inl e ↦ absurd (let a = subst (λ u. length next' ≤ slice_index first' u) e far in omega arith)
            | inr ne ↦ put_other p (x ∷ lists p) lists q ne ∙ h.empty q (omega arith) (let s = same_f q ne in omega arith)
          ];
          some = λ q l near. elim (cases_eq q p) [
            | inl e ↦ subst (λ u. Leads (slice_index next') (slice_index first' u) (more u) (slice_index last' u)) (sym e) (subst (λ xs. Leads (slice_index next') (slice_index first' p) xs (slice_index last' p)) (sym (put_here p (x ∷ lists p) lists)) (subst (λ z. Leads (slice_index next') z (x ∷ lists p) (slice_index last' p)) (sym is) leads'))
            | inr ne ↦
                let s = same_f q ne in
                let old = h.some q (omega arith) (omega arith) in
                let kept = leads_same N (slice_index next') (F q) (lists q) (Z q) (h.apart.once q) (λ y c _. same_n y (λ e. fresh q (subst (Contains (lists q)) e c))) old in
                subst (λ xs. Leads (slice_index next') (slice_index first' q) xs (slice_index last' q)) (sym (put_other p (x ∷ lists p) lists q ne)) (subst (λ z. Leads (slice_index next') z (lists q) (slice_index last' q)) (sym s) (subst (Leads (slice_index next') (F q) (lists q)) (sym (same_l q ne)) kept))
          ];
        }

    pub pushed_before : F p < length next → AreLinked (set next x (F p)) (set first p x) last more
    pushed_before near =
        let b = begins p in_lists near in
        let old = h.some p in_lists near in
        let kept = leads_same N (slice_index (set next x (F p))) (F p) (lists p) (Z p) (h.apart.once p) (λ y c _. get_or-set_other next x y (F p) 0 (λ e. fresh p (subst (Contains (lists p)) e c))) old in
        more_linked (set next x (F p)) (set first p x) last (length-set next x (F p)) (length-set first p x)
        (λ q ne. get_or-set_other first p q x 0 ne) (λ q ne. refl) (λ y ne. get_or-set_other next x y (F p) 0 ne)
        (get_or-set_same first p x 0 in_lists)
        (on (slice_index (set next x (F p))) (Z p) (lists p) b.0 b.1 (get_or-set_same next x (F p) 0 inside) kept)
      where
        on : (g : ℕ → ℕ) (z : ℕ) (xs rest : List ℕ) → xs ≡ F p ∷ rest → g x ≡ F p → Leads g (F p) xs z → Leads g x (x ∷ xs) z
        on g z [] rest e s l = absurd l
        on g z (y ∷ ys) rest e s l = (refl, subst (λ w. Leads g w (y ∷ ys) z) (sym s) l)

    pub pushed_alone : length next ≤ F p → length last ≡ length first → AreLinked next (set first p x) (set last p x) more
    pushed_alone far ends =
        more_linked next (set first p x) (set last p x) refl (length-set first p x)
        (λ q ne. get_or-set_other first p q x 0 ne) (λ q ne. get_or-set_other last p q x 0 ne) (λ y ne. refl)
        (get_or-set_same first p x 0 in_lists)
        (subst (λ xs. Leads N x (x ∷ xs) (slice_index (set last p x) p)) (sym (h.empty p in_lists far)) (refl, get_or-set_same last p x 0 (omega (arith, in_lists, ends))))

  -- ---- a list moved behind another one
  module _ (p q : ℕ) (in_p : p < length first) (in_q : q < length first) (ne : p ≢ q) (number : F q < length next) where
    abbrev joined : ℕ → List ℕ
    joined = put q [] (put p (lists p ++ lists q) lists)

    at_p : joined p ≡ lists p ++ lists q
    at_p = put_other q [] (put p (lists p ++ lists q) lists) p ne ∙ put_here p (lists p ++ lists q) lists

    at_q : joined q ≡ []
    at_q = put_here q [] (put p (lists p ++ lists q) lists)

    at_other : (r : ℕ) → r ≢ p → r ≢ q → joined r ≡ lists r
    at_other r a b = put_other q [] (put p (lists p ++ lists q) lists) r b ∙ put_other p (lists p ++ lists q) lists r a

    -- where a number of the new lists stood before
    record WasIn (r y : ℕ) : Type 0 where
      at : ℕ
      was : Contains (lists at) y
      from : ((r ≡ p) × (at ≡ q)) ⊎ ((r ≡ at) × (at ≢ q))

    was_in : (r y : ℕ) → Contains (joined r) y → WasIn r y
    was_in r y c =
        elim (cases_eq r q) [
          | inl e ↦ absurd (in_none y (subst (λ xs. Contains xs y) at_q (subst (λ u. Contains (joined u) y) e c)))
          | inr far ↦ elim (cases_eq r p) [
            | inl e ↦ elim (Contains-append_cases (lists p) (lists q) y (subst (λ xs. Contains xs y) at_p (subst (λ u. Contains (joined u) y) e c))) [
              | inl k ↦ record { at = p; was = k; from = inr (e, ne) }
              | inr k ↦ record { at = q; was = k; from = inl (e, refl) }
            ]
            | inr off ↦ record { at = r; was = subst (λ xs. Contains xs y) (at_other r off far) c; from = inr (refl, far) }
          ]
        ]

    joined_apart : AreApart joined
    joined_apart =
        record {
          once = λ r. elim (cases_eq r q) [
            | inl e ↦ subst (λ u. IsOnce (joined u)) (sym e) (subst IsOnce (sym at_q) tt)
            | inr far ↦ elim (cases_eq r p) [
              | inl e ↦ subst (λ u. IsOnce (joined u)) (sym e) (subst IsOnce (sym at_p) (once_joined (lists p) (lists q) (h.apart.once p) (h.apart.once q) (λ x c c'. ne (h.apart.one p q x c c'))))
              | inr off ↦ subst IsOnce (sym (at_other r off far)) (h.apart.once r)
            ]
          ];
          one = λ r s y c c'.
              let a = was_in r y c in
              let b = was_in s y c' in
              let e = h.apart.one a.at b.at y a.was b.was in
              elim a.from [
                | inl f ↦ elim b.from [ inl g ↦ f.0 ∙ sym g.0 | inr g ↦ absurd (g.1 (sym e ∙ f.1)) ]
                | inr f ↦ elim b.from [ inl g ↦ absurd (f.1 (e ∙ g.1)) | inr g ↦ f.0 ∙ (e ∙ sym g.0) ]
              ];
        }

    joined_linked : (next' first' last' : List ℕ) → length next' ≡ length next → length first' ≡ length first → ((r : ℕ) → r ≢ p → r ≢ q → slice_index first' r ≡ F r) → ((r : ℕ) → r ≢ p → slice_index last' r ≡ Z r) → ((r : ℕ) → r ≢ p → r < length first → F r < length next → Leads (slice_index next') (F r) (lists r) (Z r)) → length next ≤ slice_index first' q → Leads (slice_index next') (slice_index first' p) (lists p ++ lists q) (slice_index last' p) → slice_index first' p < length next → AreLinked next' first' last' joined
    joined_linked next' first' last' long_n long_f same_f same_l kept gone leads' near' =
        record {
          apart = joined_apart;
          within = λ r y c. (let a = was_in r y c in let l = h.within a.at y a.was in omega arith);
          none = λ r l. at_other r (λ e. omega arith) (λ e. omega arith) ∙ h.none r (omega arith);
          empty = λ r l far. elim (cases_eq r q) [
            | inl e ↦ subst (λ u. joined u ≡ []) (sym e) at_q
            | inr off ↦ elim (cases_eq r p) [
              | inl e ↦ absurd (let a = subst (λ u. length next' ≤ slice_index first' u) e far in omega arith)
              | inr away ↦ at_other r away off ∙ h.empty r (omega arith) (let s = same_f r away off in omega arith)
            ]
          ];
          some = λ r l near. elim (cases_eq r q) [
            | inl e ↦ absurd (let a = subst (λ u. slice_index first' u < length next') e near in omega arith)
            | inr off ↦ elim (cases_eq r p) [
              | inl e ↦ subst (λ u. Leads (slice_index next') (slice_index first' u) (joined u) (slice_index last' u)) (sym e) (subst (λ xs. Leads (slice_index next') (slice_index first' p) xs (slice_index last' p)) (sym at_p) leads')
              | inr away ↦
                  let s = same_f r away off in
                  subst (λ xs. Leads (slice_index next') (slice_index first' r) xs (slice_index last' r)) (sym (at_other r away off)) (subst (λ z. Leads (slice_index next') z (lists r) (slice_index last' r)) (sym s) (subst (Leads (slice_index next') (F r) (lists r)) (sym (same_l r away)) (kept r away (omega arith) (omega arith))))
            ]
          ];
        }

    -- behind some
    pub joined_behind : (none : ℕ) → length next ≤ none → length last ≡ length first → F p < length next → AreLinked (set next (Z p) (F q)) (set first q none) (set last p (Z q)) joined
    joined_behind none far ends near =
        let N' : ℕ → ℕ = slice_index (set next (Z p) (F q)) in
        let z_in = last_in p in_p near in
        let in_p' : Contains (lists p) (Z p) = leads_last N (F p) (lists p) (Z p) (h.some p in_p near) in
        let same_first : slice_index (set first q none) p ≡ F p = get_or-set_other first q p none 0 ne in
        let same_last : slice_index (set last p (Z q)) p ≡ Z q = get_or-set_same last p (Z q) 0 (omega (arith, in_p, ends)) in
        let front : Leads N' (F p) (lists p) (Z p) = leads_same N N' (F p) (lists p) (Z p) (h.apart.once p) (λ y c off. get_or-set_other next (Z p) y (F q) 0 off) (h.some p in_p near) in
        let other : (r : ℕ) → r ≢ p → r < length first → F r < length next → Leads N' (F r) (lists r) (Z r) = λ r off l m. leads_same N N' (F r) (lists r) (Z r) (h.apart.once r) (λ y c _. get_or-set_other next (Z p) y (F q) 0 (λ e. off (h.apart.one r p y c (subst (Contains (lists p)) (sym e) in_p')))) (h.some r l m) in
        let back : Leads N' (F q) (lists q) (Z q) = other q (λ e. ne (sym e)) in_q number in
        joined_linked (set next (Z p) (F q)) (set first q none) (set last p (Z q)) (length-set next (Z p) (F q)) (length-set first q none)
        (λ r a b. get_or-set_other first q r none 0 b) (λ r a. get_or-set_other last p r (Z q) 0 a) other
        (let s = get_or-set_same first q none 0 in_q in omega arith)
        (subst (λ z. Leads N' z (lists p ++ lists q) (slice_index (set last p (Z q)) p)) (sym same_first) (subst (Leads N' (F p) (lists p ++ lists q)) (sym same_last) (leads_on N' (F p) (lists p) (Z p) (F q) (lists q) (Z q) front (get_or-set_same next (Z p) (F q) 0 z_in) back)))
        (omega (arith, same_first, near))

    -- into an empty list
    pub joined_into : (none : ℕ) → length next ≤ none → length last ≡ length first → length next ≤ F p → AreLinked next (set (set first p (F q)) q none) (set last p (Z q)) joined
    joined_into none far ends off =
        let first' = set (set first p (F q)) q none in
        let long = length-set first p (F q) in
        let long' = length-set (set first p (F q)) q none in
        let same_first : slice_index first' p ≡ F q = get_or-set_other (set first p (F q)) q p none 0 ne ∙ get_or-set_same first p (F q) 0 in_p in
        let same_last : slice_index (set last p (Z q)) p ≡ Z q = get_or-set_same last p (Z q) 0 (omega (arith, in_p, ends)) in
        let bare : lists p ≡ [] = h.empty p in_p off in
        joined_linked next first' (set last p (Z q)) refl (long' ∙ long)
        (λ r a b. get_or-set_other (set first p (F q)) q r none 0 b ∙ get_or-set_other first p r (F q) 0 a) (λ r a. get_or-set_other last p r (Z q) 0 a) (λ r a l m. h.some r l m)
        (let s = get_or-set_same (set first p (F q)) q none 0 (omega (arith, in_q, long)) in omega arith)
        (subst (λ z. Leads N z (lists p ++ lists q) (slice_index (set last p (Z q)) p)) (sym same_first) (subst (Leads N (F q) (lists p ++ lists q)) (sym same_last) (subst (λ xs. Leads N (F q) (xs ++ lists q) (Z q)) (sym bare) (h.some q in_q number))))
        (omega (arith, same_first, number))

  -- nothing to move
  pub joined_none : (p q : ℕ) → p ≢ q → lists q ≡ [] → AreLinked next first last (put q [] (put p (lists p ++ lists q) lists))
  joined_none p q ne bare =
      subst (AreLinked next first last) (fun_ext (λ r. elim (cases_eq r q) [
        | inl e ↦ subst (λ u. lists u ≡ put q [] (put p (lists p ++ lists q) lists) u) (sym e) (bare ∙ sym (put_here q [] (put p (lists p ++ lists q) lists)))
        | inr far ↦ elim (cases_eq r p) [
          | inl e ↦ subst (λ u. lists u ≡ put q [] (put p (lists p ++ lists q) lists) u) (sym e) (sym (append-nil (lists p)) ∙ (ap (λ ys. lists p ++ ys) (sym bare) ∙ sym (put_other q [] (put p (lists p ++ lists q) lists) p ne ∙ put_here p (lists p ++ lists q) lists)))
          | inr off ↦ sym (put_other q [] (put p (lists p ++ lists q) lists) r far ∙ put_other p (lists p ++ lists q) lists r off)
        ]
      ])) h

  -- ---- as the code reads the tables
  pub in_list : (p x : ℕ) (rest : List ℕ) → lists p ≡ x ∷ rest → p < length first
  in_list p x rest e =
      elim (cases_lt p (length first)) [ inl l ↦ l | inr l ↦ absurd (let a = ap length (sym e ∙ h.none p l) in omega arith) ]

  pub is_first : (p x : ℕ) (rest : List ℕ) → lists p ≡ x ∷ rest → (F p ≡ x) × (F p < length next)
  is_first p x rest e =
      let l = in_list p x rest e in
      elim (cases_lt (F p) (length next)) [
        | inl near ↦ (let b = begins p l near in let same : F p ∷ b.0 ≡ x ∷ rest = sym b.1 ∙ e in ((cc), near))
        | inr far ↦ absurd (let a = ap length (sym e ∙ h.empty p l far) in omega arith)
      ]

  pub takes_last : (p x none z : ℕ) (rest : List ℕ) → lists p ≡ x ∷ rest → length next ≤ none → z ≡ Z p → x ≡ z → AreLinked next (set first p none) last (put p rest lists)
  takes_last p x none z rest e far read same =
      let f = is_first p x rest e in
      popped_last p rest (in_list p x rest e) (e ∙ ap (λ w. w ∷ rest) (sym f.0)) f.1 none far (f.0 ∙ (same ∙ read))

  pub takes_more : (p x y z : ℕ) (rest : List ℕ) → lists p ≡ x ∷ rest → z ≡ Z p → x ≢ z → y ≡ N x → AreLinked next (set first p y) last (put p rest lists)
  takes_more p x y z rest e read ne is =
      let f = is_first p x rest e in
      subst (λ w. AreLinked next (set first p w) last (put p rest lists)) (ap N f.0 ∙ sym is)
      (popped_more p rest (in_list p x rest e) (e ∙ ap (λ w. w ∷ rest) (sym f.0)) f.1 (λ same. ne (sym f.0 ∙ (same ∙ sym read))))

  pub puts_before : (p x y i : ℕ) → i ≡ x → p < length first → x < length next → ((q : ℕ) → ¬ Contains (lists q) x) → y ≡ F p → y < length next → AreLinked (set next i y) (set first p x) last (put p (x ∷ lists p) lists)
  puts_before p x y i same l m fresh is near =
      subst (λ w. AreLinked (set next w y) (set first p x) last (put p (x ∷ lists p) lists)) (sym same)
      (subst (λ w. AreLinked (set next x w) (set first p x) last (put p (x ∷ lists p) lists)) (sym is) (pushed_before p x l m fresh (omega (arith, is, near))))

  pub puts_alone : (p x y : ℕ) → p < length first → x < length next → ((q : ℕ) → ¬ Contains (lists q) x) → y ≡ F p → length next ≤ y → length last ≡ length first → AreLinked next (set first p x) (set last p x) (put p (x ∷ lists p) lists)
  puts_alone p x y l m fresh is far ends =
      pushed_alone p x l m fresh (omega (arith, is, far)) ends

  pub joins_behind : (p q x y z w none : ℕ) (rest : List ℕ) → p < length first → p ≢ q → lists q ≡ x ∷ rest → y ≡ F p → y < length next → z ≡ Z p → w ≡ Z q → length next ≤ none → length last ≡ length first → AreLinked (set next z x) (set first q none) (set last p w) (put q [] (put p (lists p ++ lists q) lists))
  joins_behind p q x y z w none rest l ne e is near is_z is_w far ends =
      let f = is_first q x rest e in
      subst (λ u. AreLinked (set next z x) (set first q none) (set last p u) (put q [] (put p (lists p ++ lists q) lists))) (sym is_w)
      (subst (λ u. AreLinked (set next u x) (set first q none) (set last p (Z q)) (put q [] (put p (lists p ++ lists q) lists))) (sym is_z)
      (subst (λ u. AreLinked (set next (Z p) u) (set first q none) (set last p (Z q)) (put q [] (put p (lists p ++ lists q) lists))) f.0
      (joined_behind p q l (in_list q x rest e) ne f.1 none far ends (omega (arith, is, near)))))

  pub joins_into : (p q x y w none : ℕ) (rest : List ℕ) → p < length first → p ≢ q → lists q ≡ x ∷ rest → y ≡ F p → length next ≤ y → w ≡ Z q → length next ≤ none → length last ≡ length first → AreLinked next (set (set first p x) q none) (set last p w) (put q [] (put p (lists p ++ lists q) lists))
  joins_into p q x y w none rest l ne e is off is_w far ends =
      let f = is_first q x rest e in
      subst (λ u. AreLinked next (set (set first p x) q none) (set last p u) (put q [] (put p (lists p ++ lists q) lists))) (sym is_w)
      (subst (λ u. AreLinked next (set (set first p u) q none) (set last p (Z q)) (put q [] (put p (lists p ++ lists q) lists))) f.0
      (joined_into p q l (in_list q x rest e) ne f.1 none far ends (omega (arith, is, off))))

  -- with tables that are as after the first write
  pub joins_by : (next' first' last' new : List ℕ) (p q w none : ℕ) (lists' : ℕ → List ℕ) → next' ≡ new → first' ≡ first → last' ≡ last → AreLinked new (set first q none) (set last p w) lists' → AreLinked next' (set first' q none) (set last' p w) lists'
  joins_by next' first' last' new p q w none lists' a b c m =
      subst (λ u. AreLinked u (set first' q none) (set last' p w) lists') (sym a) (subst (λ u. AreLinked new (set u q none) (set last' p w) lists') (sym b) (subst (λ u. AreLinked new (set first q none) (set u p w) lists') (sym c) m))

  -- where a list with a number ends
  pub ends_in : (p y z : ℕ) → p < length first → y ≡ F p → y < length next → z ≡ Z p → z < length next
  ends_in p y z l is near is_z = let a = last_in p l (omega (arith, is, near)) in omega (arith, is_z, a)

-- what is read at a place, with any other value past the end
pub read : (xs : List ℕ) (p x : ℕ) → p < length xs → x ≡ get_or xs p x → x ≡ slice_index xs p
read xs p x l e = e ∙ get_or_default xs p x 0 l

-- ---- single lists
pub record AreSingle (numbers none : ℕ) (first : List ℕ) : Type 0 where
  pub low : (q : ℕ) → q < numbers → q < length first → slice_index first q ≡ q
  pub high : (q : ℕ) → numbers ≤ q → q < length first → slice_index first q ≡ none

pub single_more : (numbers none x : ℕ) (first new : List ℕ) → new ≡ first ++ x ∷ [] → (length first < numbers → x ≡ length first) → (numbers ≤ length first → x ≡ none) → AreSingle numbers none first → AreSingle numbers none new
single_more numbers none x first new is low high h =
    let long : length new ≡ length first + 1 = ap length is ∙ length-append first (x ∷ []) in
    let at : (q : ℕ) → q < length first → slice_index new q ≡ slice_index first q = λ q l. ap (λ z. slice_index z q) is ∙ get_or-append first (x ∷ []) 0 q l in
    let end : (q : ℕ) → q ≡ length first → slice_index new q ≡ x = λ q e. ap (λ z. slice_index z q) is ∙ (ap (slice_index (first ++ x ∷ [])) (let k : q ≡ length first + 0 = omega (arith, e) in k) ∙ get_or-append-add first (x ∷ []) 0 0) in
    record {
      low = λ q l m. elim (cases_lt q (length first)) [ inl near ↦ at q near ∙ h.low q l near | inr far ↦ (let e : q ≡ length first = omega (arith, far, m, long) in end q e ∙ (low (omega (arith, e, l)) ∙ sym e)) ];
      high = λ q l m. elim (cases_lt q (length first)) [ inl near ↦ at q near ∙ h.high q l near | inr far ↦ (let e : q ≡ length first = omega (arith, far, m, long) in end q e ∙ high (omega (arith, e, l))) ];
    }

pub single_none : (numbers none : ℕ) (first : List ℕ) → first ≡ [] → AreSingle numbers none first
single_none numbers none first e =
    let long = ap length e in record { low = λ q l m. absurd (omega (arith, m, long)); high = λ q l m. absurd (omega (arith, m, long)) }

pub singles_linked : (numbers none : ℕ) (next first last : List ℕ) → length next ≡ numbers → numbers ≤ none → numbers ≤ length first → last ≡ first → AreSingle numbers none first → AreLinked next first last (singles numbers)
singles_linked numbers none next first last long far room same h =
    let low : (p : ℕ) → p < numbers → singles numbers p ≡ p ∷ [] = λ p l. cond-true {A = List ℕ} (ltb p numbers) (p ∷ []) [] (lt-ltb p numbers l) in
    let high : (p : ℕ) → numbers ≤ p → singles numbers p ≡ [] = λ p l. cond-false {A = List ℕ} (ltb p numbers) (p ∷ []) [] (le-ltb p numbers l) in
    let is : (p x : ℕ) → Contains (singles numbers p) x → (p ≡ x) × (p < numbers) = λ p x c. elim (cases_lt p numbers) [
      | inl l ↦ (elim (in_cases p x [] (subst (λ xs. Contains xs x) (low p l) c)) [ inl e ↦ e | inr bad ↦ absurd (in_none x bad) ], l)
      | inr l ↦ absurd (in_none x (subst (λ xs. Contains xs x) (high p l) c))
    ] in
    subst (λ zs. AreLinked next first zs (singles numbers)) (sym same) (
    record {
      apart = record {
        once = λ p. elim (cases_lt p numbers) [ inl l ↦ subst IsOnce (sym (low p l)) (in_none p, tt) | inr l ↦ subst IsOnce (sym (high p l)) tt ];
        one = λ p q x c c'. (is p x c).0 ∙ sym (is q x c').0;
      };
      within = λ p x c. (let e = is p x c in let a = e.0 in let b = e.1 in omega (arith, a, b, long));
      none = λ p l. high p (omega (arith, l, room));
      empty = λ p l m. elim (cases_lt p numbers) [ inl near ↦ absurd (let e = h.low p near l in omega (arith, e, near, m, long)) | inr off ↦ high p off ];
      some = λ p l m. elim (cases_lt p numbers) [
        | inl near ↦ (let e = h.low p near l in subst (λ xs. Leads (slice_index next) (slice_index first p) xs (slice_index first p)) (sym (low p near)) (e, e))
        | inr off ↦ absurd (let e = h.high p off l in omega (arith, e, m, far, long))
      ];
    })

pub at_least : (x n : ℕ) → (x < n → false ≡ true) → n ≤ x
at_least x n off = elim (cases_lt x n) [ inl l ↦ absurd (true≢false (sym (off l))) | inr m ↦ m ]
