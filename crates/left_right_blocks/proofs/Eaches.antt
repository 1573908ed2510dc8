-- What holds of each element of a list.
use Rattle.std.proofs.Common.{◌≡◌, ℕ, List, [], ◌∷◌, ◌++◌, Contains, refl, sym, ap, ◌∙◌, subst, inl, inr, append_assoc}
use Rattle.std.specs.List.{AllByRecursion as Each}
use Rattle.chained_lists.proofs.Links.{in_none, in_first, in_rest, in_cases}
use Rattle.left_right_blocks.specs.Blocks.{Block, edges_of, edges_in}

module _ {X : Type 0} (P : X → Type 0) where
  pub each_joined : (xs ys : List X) → Each P xs → Each P ys → Each P (xs ++ ys)
  each_joined [] ys a b = b
  each_joined (x ∷ xs) ys a b = (a.0, each_joined xs ys a.1 b)

  pub each_left : (xs ys : List X) → Each P (xs ++ ys) → Each P xs
  each_left [] ys h = tt
  each_left (x ∷ xs) ys h = (h.0, each_left xs ys h.1)

  pub each_right : (xs ys : List X) → Each P (xs ++ ys) → Each P ys
  each_right [] ys h = h
  each_right (x ∷ xs) ys h = each_right xs ys h.1

  pub each_in : (xs : List X) (x : X) → Each P xs → Contains xs x → P x
  each_in [] x h c = absurd (in_none x c)
  each_in (y ∷ ys) x h c = elim (in_cases y x ys c) [ inl e ↦ subst P e h.0 | inr k ↦ each_in ys x h.1 k ]

  pub each_from : (xs : List X) → ((x : X) → Contains xs x → P x) → Each P xs
  each_from [] h = tt
  each_from (y ∷ ys) h = (h y (in_first y ys), each_from ys (λ x c. h x (in_rest y x ys c)))

  pub each_weaker : (Q : X → Type 0) → ((x : X) → P x → Q x) → (xs : List X) → Each P xs → Each Q xs
  each_weaker Q f [] h = tt
  each_weaker Q f (x ∷ xs) h = (f x h.0, each_weaker Q f xs h.1)

  pub each_turned : (xs ys : List X) → Each P (xs ++ ys) → Each P (ys ++ xs)
  each_turned xs ys h = each_joined ys xs (each_right xs ys h) (each_left xs ys h)

pub each_itself : {X : Type 0} (xs : List X) → Each (Contains xs) xs
each_itself xs = each_from (Contains xs) xs (λ x c. c)

-- ---- the edges of blocks
pub edges_append : (ds bs : List Block) → edges_in (ds ++ bs) ≡ edges_in ds ++ edges_in bs
edges_append [] bs = refl
edges_append (a ∷ ds) bs = ap (λ xs. edges_of a ++ xs) (edges_append ds bs) ∙ sym (append_assoc (edges_of a) (edges_in ds) (edges_in bs))

module _ (P : ℕ → Type 0) (ds bs : List Block) where
  pub each_edges : Each P (edges_in ds) → Each P (edges_in bs) → Each P (edges_in (ds ++ bs))
  each_edges a b = subst (Each P) (sym (edges_append ds bs)) (each_joined P (edges_in ds) (edges_in bs) a b)

  pub each_edges_left : Each P (edges_in (ds ++ bs)) → Each P (edges_in ds)
  each_edges_left h = each_left P (edges_in ds) (edges_in bs) (subst (Each P) (edges_append ds bs) h)

  pub each_edges_right : Each P (edges_in (ds ++ bs)) → Each P (edges_in bs)
  each_edges_right h = each_right P (edges_in ds) (edges_in bs) (subst (Each P) (edges_append ds bs) h)
