-- An element put into a list in order, where the order need not be transitive.
use Rattle.std.proofs.Common.{◌≡◌, ◌⊎◌, zero, suc, List, [], ◌∷◌, ◌++◌, get_or, AllPairs, Contains, refl, sym, ap, ◌∙◌, subst, inl, inr, arith}
use Rattle.std.proofs.lemmas.List.Elements.{Contains-get_or, Contains-append_cases, Contains-append_left, Contains-append_right}

pub none_in_none : {X : Type 0} (x : X) → ¬ Contains [] x
none_in_none x c = let some = c.1 in omega arith

pub here : {X : Type 0} (x : X) (xs : List X) → Contains (x ∷ xs) x
here x xs = (0, omega arith, refl)

pub there : {X : Type 0} (x y : X) (xs : List X) → Contains xs y → Contains (x ∷ xs) y
there x y xs c = (suc c.0, omega (arith, c.1), c.2)

pub here_or_there : {X : Type 0} (x y : X) (xs : List X) → Contains (x ∷ xs) y → (x ≡ y) ⊎ Contains xs y
here_or_there x y xs (zero, l, e) = inl e
here_or_there x y xs (suc k, l, e) = inr (k, omega (arith, l), e)

module _ {X : Type 0} (R : X → X → Type 0) where
  pub pairs_none : AllPairs R []
  pairs_none i j d l m = absurd (omega arith)

  pub pairs_more : (x : X) (xs : List X) → ((y : X) → Contains xs y → R x y) → AllPairs R xs → AllPairs R (x ∷ xs)
  pairs_more x xs first rest zero zero d l m = absurd (omega arith)
  pairs_more x xs first rest zero (suc j) d l m = first (get_or xs j d) (Contains-get_or xs j d (omega arith))
  pairs_more x xs first rest (suc i) zero d l m = absurd (omega arith)
  pairs_more x xs first rest (suc i) (suc j) d l m = rest i j d (omega arith) (omega arith)

  pub pairs_head : (x : X) (xs : List X) → AllPairs R (x ∷ xs) → (y : X) → Contains xs y → R x y
  pairs_head x xs h y c = subst (R x) c.2 (h 0 (suc c.0) y (omega arith) (omega (arith, c.1)))

  pub pairs_tail : (x : X) (xs : List X) → AllPairs R (x ∷ xs) → AllPairs R xs
  pairs_tail x xs h i j d l m = h (suc i) (suc j) d (omega arith) (omega arith)

  pub pairs_across : (xs ys : List X) → AllPairs R (xs ++ ys) → (x y : X) → Contains xs x → Contains ys y → R x y
  pairs_across [] ys h x y c c' = absurd (none_in_none x c)
  pairs_across (z ∷ xs) ys h x y c c' =
      elim (here_or_there z x xs c) [
        | inl e ↦ subst (λ w. R w y) e (pairs_head z (xs ++ ys) h y (Contains-append_right xs ys y c'))
        | inr k ↦ pairs_across xs ys (pairs_tail z (xs ++ ys) h) x y k c'
      ]

  pub pairs_right : (xs ys : List X) → AllPairs R (xs ++ ys) → AllPairs R ys
  pairs_right [] ys h = h
  pairs_right (x ∷ xs) ys h = pairs_right xs ys (pairs_tail x (xs ++ ys) h)

  pub pairs_left : (xs ys : List X) → AllPairs R (xs ++ ys) → AllPairs R xs
  pairs_left [] ys h = pairs_none
  pairs_left (x ∷ xs) ys h =
      pairs_more x xs (λ y c. pairs_head x (xs ++ ys) h y (Contains-append_left xs ys y c)) (pairs_left xs ys (pairs_tail x (xs ++ ys) h))

  pub pairs_joined : (xs ys : List X) → AllPairs R xs → AllPairs R ys → ((x y : X) → Contains xs x → Contains ys y → R x y) → AllPairs R (xs ++ ys)
  pairs_joined [] ys first second between = second
  pairs_joined (x ∷ xs) ys first second between =
      pairs_more x (xs ++ ys) (λ y c. elim (Contains-append_cases xs ys y c) [ inl k ↦ pairs_head x xs first y k | inr k ↦ between x y (here x xs) k ])
      (pairs_joined xs ys (pairs_tail x xs first) second (λ z y c c'. between z y (there x z xs c) c'))

  -- x stands behind the last that it may not stand before
  pub record Inserted (S : X → X → Type 0) (x : X) (ys : List X) : Type 0 where
    pub front : List X
    pub back : List X
    pub is : ys ≡ front ++ back
    pub pairs : AllPairs R (front ++ x ∷ back)
    pub last : (front ≡ []) ⊎ ((y : X) × (Contains ys y × S y x))

  -- With S y x where x may not stand before y: an element goes into a list in order, if what may stand before such a y may stand before x.
  pub inserted : (S : X → X → Type 0) (x : X) (ys : List X) → AllPairs R ys → ((y : X) → Contains ys y → S y x ⊎ R x y) → ((y : X) → Contains ys y → S y x → R y x) → ((y z : X) → Contains ys y → Contains ys z → R y z → S z x → R y x) → Inserted S x ys
  inserted S x [] pairs either so over =
      record { front = []; back = []; is = refl; pairs = pairs_more x [] (λ y c. absurd (none_in_none y c)) pairs; last = inl refl }
  inserted S x (y ∷ ys) pairs either so over =
      let rest = inserted S x ys (pairs_tail y ys pairs) (λ z c. either z (there y z ys c)) (λ z c. so z (there y z ys c)) (λ z w c c'. over z w (there y z ys c) (there y w ys c')) in
      elim rest.last [
        | inr found ↦ (let before : R y x = over y found.0 (here y ys) (there y found.0 ys found.1.0) (pairs_head y ys pairs found.0 found.1.0) found.1.1 in
            record {
              front = y ∷ rest.front;
              back = rest.back;
              is = ap (λ zs. y ∷ zs) rest.is;
              pairs = pairs_more y (rest.front ++ x ∷ rest.back) (before_all y ys pairs rest.front rest.back rest.is before) rest.pairs;
              last = inr (found.0, (there y found.0 ys found.1.0, found.1.1));
            })
        | inl none ↦ (let is : ys ≡ rest.back = rest.is ∙ ap (λ zs. zs ++ rest.back) none in
            let whole : AllPairs R (x ∷ ys) = subst (λ zs. AllPairs R (x ∷ zs)) (sym is) (subst (λ zs. AllPairs R (zs ++ x ∷ rest.back)) none rest.pairs) in
            elim (either y (here y ys)) [
              | inl s ↦ record {
                front = y ∷ [];
                back = ys;
                is = refl;
                pairs = pairs_more y (x ∷ ys) (λ z c. elim (here_or_there x z ys c) [ inl e ↦ subst (R y) e (so y (here y ys) s) | inr c' ↦ pairs_head y ys pairs z c' ]) whole;
                last = inr (y, (here y ys, s));
              }
              | inr r ↦ record {
                front = [];
                back = y ∷ ys;
                is = refl;
                pairs = pairs_more x (y ∷ ys) (λ z c. elim (here_or_there y z ys c) [ inl e ↦ subst (R x) e r | inr c' ↦ pairs_head x ys whole z c' ]) pairs;
                last = inl refl;
              }
            ])
      ]
    where
      before_all : (y : X) (ys : List X) → AllPairs R (y ∷ ys) → (front back : List X) → ys ≡ front ++ back → R y x → (z : X) → Contains (front ++ x ∷ back) z → R y z
      before_all y ys pairs front back is before z c =
          elim (Contains-append_cases front (x ∷ back) z c) [
            | inl c' ↦ pairs_head y ys pairs z (subst (λ zs. Contains zs z) (sym is) (Contains-append_left front back z c'))
            | inr c' ↦ elim (here_or_there x z back c') [
              | inl e ↦ subst (R y) e before
              | inr c'' ↦ pairs_head y ys pairs z (subst (λ zs. Contains zs z) (sym is) (Contains-append_right front back z c''))
            ]
          ]

  -- what stands in the list with x is x, or stood there
  pub inserted_holds : (x : X) (front back : List X) (z : X) → Contains (front ++ x ∷ back) z → (x ≡ z) ⊎ Contains (front ++ back) z
  inserted_holds x front back z c =
      elim (Contains-append_cases front (x ∷ back) z c) [
        | inl c' ↦ inr (Contains-append_left front back z c')
        | inr c' ↦ elim (here_or_there x z back c') [ inl e ↦ inl e | inr c'' ↦ inr (Contains-append_right front back z c'') ]
      ]

  pub inserted_here : (x : X) (front back : List X) → Contains (front ++ x ∷ back) x
  inserted_here x front back = Contains-append_right front (x ∷ back) x (here x back)

  pub inserted_there : (x : X) (front back : List X) (z : X) → Contains (front ++ back) z → Contains (front ++ x ∷ back) z
  inserted_there x front back z c =
      elim (Contains-append_cases front back z c) [
        | inl c' ↦ Contains-append_left front (x ∷ back) z c'
        | inr c' ↦ Contains-append_right front (x ∷ back) z (there x z back c')
      ]
