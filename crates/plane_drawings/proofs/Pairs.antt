-- Lists whose elements stand in pairs: all pairs, and neighbours, of lists put together and taken apart.
use Rattle.std.proofs.Common.{◌≡◌, suc, ◌+◌, ◌<◌, List, [], ◌∷◌, ◌++◌, length, get_or, subst, arith, length-append}
use Rattle.std.proofs.Math.ListN.{get_or-append}
use Rattle.std.specs.List.{All, AllPairs, AllAdjacentBelow}
use Rattle.std.proofs.lemmas.List.Elements.{All-nil, All-cons, All-head, All-tail, All-append}
use Rattle.std.proofs.lemmas.List.Kept.{AllPairs-cons}

module _ {X : Type 0} (P : X → Type 0) where
  pub All-append-left : (xs ys : List X) → All P (xs ++ ys) → All P xs
  All-append-left [] ys h = All-nil P
  All-append-left (x ∷ xs) ys h = All-cons P x xs (All-head P x (xs ++ ys) h) (All-append-left xs ys (All-tail P x (xs ++ ys) h))

  pub All-append-right : (xs ys : List X) → All P (xs ++ ys) → All P ys
  All-append-right [] ys h = h
  All-append-right (x ∷ xs) ys h = All-append-right xs ys (All-tail P x (xs ++ ys) h)

module _ {X : Type 0} (R : X → X → Type 0) where
  pub AllPairs-nil : AllPairs R []
  AllPairs-nil i j d l m = absurd (omega arith)

  pub AllPairs-head : (x : X) (xs : List X) → AllPairs R (x ∷ xs) → All (R x) xs
  AllPairs-head x xs h k d l = h 0 (suc k) d (omega arith) (omega arith)

  pub AllPairs-tail : (x : X) (xs : List X) → AllPairs R (x ∷ xs) → AllPairs R xs
  AllPairs-tail x xs h i j d l m = h (suc i) (suc j) d (omega arith) (omega arith)

  pub AllPairs-left : (xs ys : List X) → AllPairs R (xs ++ ys) → AllPairs R xs
  AllPairs-left [] ys h = AllPairs-nil
  AllPairs-left (x ∷ xs) ys h = AllPairs-cons R x xs (All-append-left (R x) xs ys (AllPairs-head x (xs ++ ys) h)) (AllPairs-left xs ys (AllPairs-tail x (xs ++ ys) h))

  pub AllPairs-right : (xs ys : List X) → AllPairs R (xs ++ ys) → AllPairs R ys
  AllPairs-right [] ys h = h
  AllPairs-right (x ∷ xs) ys h = AllPairs-right xs ys (AllPairs-tail x (xs ++ ys) h)

  pub AllPairs-cross : (xs ys : List X) → AllPairs R (xs ++ ys) → All (λ x. All (R x) ys) xs
  AllPairs-cross [] ys h = All-nil (λ x. All (R x) ys)
  AllPairs-cross (x ∷ xs) ys h = All-cons (λ z. All (R z) ys) x xs (All-append-right (R x) xs ys (AllPairs-head x (xs ++ ys) h)) (AllPairs-cross xs ys (AllPairs-tail x (xs ++ ys) h))

  pub AllPairs-append : (xs ys : List X) → AllPairs R xs → AllPairs R ys → All (λ x. All (R x) ys) xs → AllPairs R (xs ++ ys)
  AllPairs-append [] ys first second between = second
  AllPairs-append (x ∷ xs) ys first second between =
      AllPairs-cons R x (xs ++ ys) (All-append (R x) xs ys (AllPairs-head x xs first) (All-head (λ z. All (R z) ys) x xs between))
      (AllPairs-append xs ys (AllPairs-tail x xs first) second (All-tail (λ z. All (R z) ys) x xs between))

  -- each element and the next
  abbrev pub AllNeighbours : List X → Type 0
  AllNeighbours xs = AllAdjacentBelow R xs (length xs)

  pub AllNeighbours-first : (x y : X) (ys : List X) → AllNeighbours (x ∷ y ∷ ys) → R x y
  AllNeighbours-first x y ys h = h 0 x (omega arith)

  pub AllNeighbours-tail : (x : X) (xs : List X) → AllNeighbours (x ∷ xs) → AllNeighbours xs
  AllNeighbours-tail x xs h k d l =
      let e : suc k + 1 ≡ suc (k + 1) = omega arith in
      subst (λ j. R (get_or xs k d) (get_or (x ∷ xs) j d)) e (h (suc k) d (omega arith))

  pub AllNeighbours-left : (xs ys : List X) → AllNeighbours (xs ++ ys) → AllNeighbours xs
  AllNeighbours-left xs ys h k d l =
      let far : k + 1 < length (xs ++ ys) = omega (arith, length-append xs ys) in
      subst (λ z. R z (get_or xs (k + 1) d)) (get_or-append xs ys d k (omega arith)) (subst (λ z. R (get_or (xs ++ ys) k d) z) (get_or-append xs ys d (k + 1) l) (h k d far))

  pub AllNeighbours-right : (xs ys : List X) → AllNeighbours (xs ++ ys) → AllNeighbours ys
  AllNeighbours-right [] ys h = h
  AllNeighbours-right (x ∷ xs) ys h = AllNeighbours-right xs ys (AllNeighbours-tail x (xs ++ ys) h)
