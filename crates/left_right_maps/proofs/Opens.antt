-- Words of which some darts wait for their twins, which close on both sides.
use Rattle.std.proofs.Common.{◌≡◌, ℕ, Bool, true, List, [], ◌∷◌, ◌++◌, AllPairs, Contains, refl, sym, ap, ◌∙◌, subst}
use Rattle.std.proofs.lemmas.List.{append_assoc}
use Rattle.map_theory.specs.Maps.{Dart, twin_dart}
use Rattle.left_right_maps.specs.RootedMaps.{joined}
use Rattle.left_right_maps.specs.Brackets.{IsBalanced, none, past, pair}
use Rattle.left_right_maps.proofs.Inserts.{here, there, pairs_none, pairs_head, pairs_tail, pairs_joined}
use Rattle.left_right_maps.proofs.Toured.{joined_parts}

-- the darts the other way, from the last to the first
abbrev pub ups : List Dart → List Dart
ups [] = []
ups (d ∷ ds) = ups ds ++ twin_dart d ∷ []

module _ (passed : ℕ → ℕ → Bool) (turned : (v u : ℕ) → passed v u ≡ passed u v) where
  -- a word of balanced words, with the waiting darts between them
  abbrev pub IsOpen : List Dart → List Dart → Type 0
  IsOpen word [] = IsBalanced passed word
  IsOpen word (d ∷ ds) =
      (front : List Dart) × ((back : List Dart) × ((word ≡ front ++ d ∷ back) × (IsBalanced passed front × IsOpen back ds)))

  balanced_append : (ds : List Dart) → IsBalanced passed ds → (es : List Dart) → IsBalanced passed es → IsBalanced passed (ds ++ es)
  balanced_append [] none gs c = c
  balanced_append _ (past {v} {u} {ds} t b) gs c = past t (balanced_append ds b gs c)
  balanced_append _ (pair {v} {u} {ds} {es} t b b') gs c =
      subst (λ z. IsBalanced passed ((v, u) ∷ z)) (sym (append_assoc ds ((u, v) ∷ es) gs)) (pair t b (balanced_append es b' gs c))

  pub open_after : (front word opens : List Dart) → IsBalanced passed front → IsOpen word opens → IsOpen (front ++ word) opens
  open_after front word [] b o = balanced_append front b word o
  open_after front word (d ∷ ds) b o =
      (front ++ o.0, (o.1.0, (ap (λ z. front ++ z) o.1.1.0 ∙ sym (append_assoc front o.0 (d ∷ o.1.0)), (balanced_append front b o.0 o.1.1.1.0, o.1.1.1.1))))

  pub open_before : (word back opens : List Dart) → IsBalanced passed back → IsOpen word opens → IsOpen (word ++ back) opens
  open_before word back [] b o = balanced_append word o back b
  open_before word back (d ∷ ds) b o =
      (o.0, (o.1.0 ++ back, (ap (λ z. z ++ back) o.1.1.0 ∙ append_assoc o.0 (d ∷ o.1.0) back, (o.1.1.1.0, open_before o.1.0 back ds b o.1.1.1.1))))

  pub open_append : (one two opens others : List Dart) → IsOpen one opens → IsOpen two others → IsOpen (one ++ two) (opens ++ others)
  open_append one two [] others o o' = open_after one two others o o'
  open_append one two (d ∷ ds) others o o' =
      (o.0, (o.1.0 ++ two, (ap (λ z. z ++ two) o.1.1.0 ∙ append_assoc o.0 (d ∷ o.1.0) two, (o.1.1.1.0, open_append o.1.0 two ds others o.1.1.1.1 o'))))

  pub record Split (word opens others : List Dart) : Type 0 where
    pub one : List Dart
    pub two : List Dart
    pub is : word ≡ one ++ two
    pub first : IsOpen one opens
    pub second : IsOpen two others

  pub open_split : (word opens others : List Dart) → IsOpen word (opens ++ others) → Split word opens others
  open_split word [] others o = record { one = []; two = word; is = refl; first = none; second = o }
  open_split word (d ∷ ds) others o =
      let rest = open_split o.1.0 ds others o.1.1.1.1 in
      record {
        one = o.0 ++ d ∷ rest.one;
        two = rest.two;
        is = o.1.1.0 ∙ (ap (λ z. o.0 ++ d ∷ z) rest.is ∙ sym (append_assoc o.0 (d ∷ rest.one) rest.two));
        first = (o.0, (rest.one, (refl, (o.1.1.1.0, rest.first))));
        second = rest.second;
      }

  -- the twins stand before all, the last first
  close_left : (ds word middle : List Dart) → IsBalanced passed middle → IsOpen word ds → IsBalanced passed (ups ds ++ (middle ++ word))
  close_left [] word middle b o = balanced_append middle b word o
  close_left (d ∷ ds) word middle b o =
      let w = o.1.0 in
      let inner : List Dart = twin_dart d ∷ ((middle ++ o.0) ++ d ∷ []) in
      let closed : IsBalanced passed inner = pair (turned d.1 d.0) (balanced_append middle b o.0 o.1.1.1.0) none in
      let tail : middle ++ word ≡ ((middle ++ o.0) ++ d ∷ []) ++ w =
      ap (λ z. middle ++ z) o.1.1.0 ∙ (sym (append_assoc middle o.0 (d ∷ w)) ∙ sym (append_assoc (middle ++ o.0) (d ∷ []) w)) in
      subst (IsBalanced passed) (sym (append_assoc (ups ds) (twin_dart d ∷ []) (middle ++ word) ∙ ap (λ z. ups ds ++ twin_dart d ∷ z) tail)) (close_left ds w inner closed o.1.1.1.1)

  -- the twins stand behind all, the last first
  close_right : (ds word middle : List Dart) → IsBalanced passed middle → IsOpen word ds → IsBalanced passed (word ++ (middle ++ ups ds))
  close_right [] word middle b o = balanced_append word o (middle ++ []) (balanced_append middle b [] none)
  close_right (d ∷ ds) word middle b o =
      let f = o.0 in
      let w = o.1.0 in
      let t : List Dart = twin_dart d ∷ [] in
      let tail : w ++ (middle ++ (ups ds ++ t)) ≡ (w ++ (middle ++ ups ds)) ++ t =
      ap (λ z. w ++ z) (sym (append_assoc middle (ups ds) t)) ∙ sym (append_assoc w (middle ++ ups ds) t) in
      subst (IsBalanced passed) (sym (ap (λ z. z ++ (middle ++ (ups ds ++ t))) o.1.1.0 ∙ (append_assoc f (d ∷ w) (middle ++ (ups ds ++ t)) ∙ ap (λ z. f ++ d ∷ z) tail)))
      (balanced_append f o.1.1.1.0 (d ∷ ((w ++ (middle ++ ups ds)) ++ t)) (pair (turned d.0 d.1) (close_right ds w middle b o.1.1.1.1) none))

  -- what is below a child, between the edge to it and back, with the twins of what ends at its parent on both sides
  pub open_block : (v c : ℕ) (word lefts middle rights : List Dart) → passed v c ≡ true → IsOpen word (lefts ++ (middle ++ rights)) → IsOpen (ups lefts ++ (((v, c) ∷ (word ++ (c, v) ∷ [])) ++ ups rights)) middle
  open_block v c word lefts middle rights t o =
      let s = open_split word lefts (middle ++ rights) o in
      let s' = open_split s.two middle rights s.second in
      let back : List Dart = (c, v) ∷ [] in
      let left = close_left lefts s.one ((v, c) ∷ []) (past t none) s.first in
      let right = close_right rights s'.two back (past (turned c v ∙ t) none) s'.second in
      let z : List Dart = (c, v) ∷ ups rights in
      let e : (word ++ back) ++ ups rights ≡ s.one ++ (s'.one ++ (s'.two ++ z)) =
      append_assoc word back (ups rights) ∙ (ap (λ x. x ++ z) (s.is ∙ ap (λ x. s.one ++ x) s'.is) ∙ (append_assoc s.one (s'.one ++ s'.two) z ∙ ap (λ x. s.one ++ x) (append_assoc s'.one s'.two z))) in
      subst (λ x. IsOpen x middle) (append_assoc (ups lefts) ((v, c) ∷ s.one) (s'.one ++ (s'.two ++ z)) ∙ sym (ap (λ x. ups lefts ++ (v, c) ∷ x) e))
      (open_after (ups lefts ++ (v, c) ∷ s.one) (s'.one ++ (s'.two ++ z)) middle left (open_before s'.one (s'.two ++ z) middle right s'.first))

  pub open_joined : (f g : ℕ → List Dart) (us : List ℕ) → ((u : ℕ) → Contains us u → IsOpen (f u) (g u)) → IsOpen (joined f us) (joined g us)
  open_joined f g [] each = none
  open_joined f g (u ∷ us) each =
      open_append (f u) (joined f us) (g u) (joined g us) (each u (here u us)) (open_joined f g us (λ w c. each w (there u w us c)))

-- ---- lists one behind another
pub joined_append : {X : Type 0} (f : ℕ → List X) (us ws : List ℕ) → joined f (us ++ ws) ≡ joined f us ++ joined f ws
joined_append f [] ws = refl
joined_append f (u ∷ us) ws = ap (λ z. f u ++ z) (joined_append f us ws) ∙ sym (append_assoc (f u) (joined f us) (joined f ws))

pub joined_joined : {X : Type 0} (f : ℕ → List X) (g : ℕ → List ℕ) (us : List ℕ) → joined f (joined g us) ≡ joined (λ u. joined f (g u)) us
joined_joined f g [] = refl
joined_joined f g (u ∷ us) = joined_append f (g u) (joined g us) ∙ ap (λ z. joined f (g u) ++ z) (joined_joined f g us)

pub joined_same : {X : Type 0} (f g : ℕ → List X) (us : List ℕ) → ((u : ℕ) → Contains us u → f u ≡ g u) → joined f us ≡ joined g us
joined_same f g [] same = refl
joined_same f g (u ∷ us) same =
    ap (λ z. z ++ joined f us) (same u (here u us)) ∙ ap (λ z. g u ++ z) (joined_same f g us (λ w c. same w (there u w us c)))

pub pairs_of_joined : {X : Type 0} (R : X → X → Type 0) (f : ℕ → List X) (us : List ℕ) → ((u : ℕ) → Contains us u → AllPairs R (f u)) → AllPairs (λ e g. (x y : X) → Contains (f e) x → Contains (f g) y → R x y) us → AllPairs R (joined f us)
pairs_of_joined R f [] each pairs = pairs_none R
pairs_of_joined R f (u ∷ us) each pairs =
    pairs_joined R (f u) (joined f us) (each u (here u us)) (pairs_of_joined R f us (λ w c. each w (there u w us c)) (pairs_tail (λ e g. (x y : _) → Contains (f e) x → Contains (f g) y → R x y) u us pairs))
    (λ x y c c'. let part = joined_parts f us y c' in pairs_head (λ e g. (x y : _) → Contains (f e) x → Contains (f g) y → R x y) u us pairs part.0 part.1.0 x y c part.1.1)
