-- Components and their numbers: the number of a component is how many lesser least vertices there are.
use Rattle.std.proofs.Common.{◌≡◌, ◌≢◌, ℕ, zero, suc, ◌+◌, ◌<◌, Bool, true, false, List, length, get_or, refl, sym, ap, ◌∙◌, inl, inr, arith, ◌==◌}
use Rattle.std.proofs.lemmas.Bool.{cases_eq, eq-eqb, ne_eqb}
use Rattle.classes.specs.Classes.{count_below, label}
use Rattle.classes.proofs.Classes.{Together, Together-from, same_class-from, length-classes}
use Rattle.map_lists.specs.Lists.{Lists}
use Rattle.map_theory.specs.Maps.{darts, IsSimpleMap, component_classes, component_count}
use Rattle.map_theory.proofs.DartPermutations.{IsLabels-components}
use Rattle.euler_faces.specs.Search.{component_number}
use Rattle.conn_parts.specs.Parts.{ArePartsOf}

-- one more passes below a greater number, where the lesser one passes
count_below-lt : (p : ℕ → Bool) (a b : ℕ) → a < b → p a ≡ true → count_below p a < count_below p b
count_below-lt p a zero l t = absurd (omega arith)
count_below-lt p a (suc b) l t =
    elim (cases_eq a b) [
      | inl e ↦
          let here : p b ≡ true = ap p (sym e) ∙ t in
          let same : count_below p a ≡ count_below p b = ap (count_below p) e in
          rw here (omega arith)
      | inr ne ↦ let rest = count_below-lt p a b (omega arith) t in omega arith
    ]

module _ (lists : Lists) (simple : IsSimpleMap lists) where
  abbrev least : ℕ → ℕ
  least v = label (component_classes lists) v

  abbrev is_least : ℕ → Bool
  is_least v = least v == v

  least_passes : (v : ℕ) → is_least (least v) ≡ true
  least_passes v = eq-eqb (least (least v)) (least v) ((IsLabels-components lists simple).own v)

  -- how many least vertices stand before a vertex that is one itself
  pub component_number-least : (v : ℕ) → least v ≡ v → component_number lists v ≡ count_below is_least v
  component_number-least v e = ap (count_below is_least) e

  -- and before one that is not there are more than its number
  pub component_number-not_least : (v : ℕ) → least v < v → component_number lists v < count_below is_least v
  component_number-not_least v l = count_below-lt is_least (least v) v l (least_passes v)

  -- so the number tells which vertices are least
  pub least-from_number : (v : ℕ) → component_number lists v ≡ count_below is_least v → least v ≡ v
  least-from_number v e =
      elim (cases_eq (least v) v) [
        | inl own ↦ own
        | inr ne ↦
            let low = (IsLabels-components lists simple).low v in
            absurd (let less = component_number-not_least v (omega arith) in omega arith)
      ]

  pub not_least-from_number : (v : ℕ) → component_number lists v ≢ count_below is_least v → least v < v
  not_least-from_number v ne =
      let low = (IsLabels-components lists simple).low v in
      let other : least v ≢ v = λ e. ne (component_number-least v e) in
      omega arith

  -- one least vertex more
  pub least_counted : (v m : ℕ) → least v ≡ v → m ≡ v + 1 → count_below is_least v + 1 ≡ count_below is_least m
  least_counted v m own e =
      let s : m ≡ suc v = omega arith in
      let here : is_least v ≡ true = eq-eqb (least v) v own in
      rw (s, here) (omega arith)

  pub not_least_counted : (v m : ℕ) → least v < v → m ≡ v + 1 → count_below is_least v ≡ count_below is_least m
  not_least_counted v m below e =
      let s : m ≡ suc v = omega arith in
      let here : is_least v ≡ false = ne_eqb (least v) v (omega arith) in
      rw (s, here) (omega arith)

  -- the first vertex is a least one
  pub first_counted : 1 ≡ count_below is_least 1
  first_counted =
      let low = (IsLabels-components lists simple).low 0 in
      let here : is_least 0 ≡ true = eq-eqb (least 0) 0 (omega arith) in
      rw here refl

  -- numbers are below the count
  pub component_number-lt : (v : ℕ) → v < length lists → component_number lists v < component_count lists
  unfolding component_count
  component_number-lt v l =
      let n = length-classes (length lists) (darts lists) in
      let low = (IsLabels-components lists simple).low v in
      count_below-lt is_least (least v) (length (component_classes lists)) (omega arith) (least_passes v)

  -- vertices with one number are in one component
  pub component_number-together : (u v : ℕ) → component_number lists u ≡ component_number lists v → Together (component_classes lists) u v
  component_number-together u v e =
      elim (cases_eq (least u) (least v)) [
        | inl s ↦ s
        | inr ne ↦ absurd
            (let less : least u < least v → ⊥ = λ l. let r = count_below-lt is_least (least u) (least v) l (least_passes u) in omega arith in
            let more : least v < least u → ⊥ = λ l. let r = count_below-lt is_least (least v) (least u) l (least_passes v) in omega arith in
            less (omega (arith, more)))
      ]

  -- the numbers of all components, and their count
  pub ArePartsOf-numbers : (count : ℕ) (numbers : List ℕ) → count ≡ component_count lists → length numbers ≡ length lists → ((v : ℕ) → v < length lists → get_or numbers v 0 ≡ component_number lists v) → ArePartsOf lists (record { count = count; numbers = numbers })
  ArePartsOf-numbers count numbers c n at = record {
    count = c;
    vertices = n;
    number = at;
    below = λ v l. let b = component_number-lt v l in omega (arith, at v l);
    same = λ u v l m. (
      λ e. same_class-from (component_classes lists) u v (component_number-together u v (sym (at u l) ∙ (e ∙ at v m))),
      λ t. at u l ∙ (ap (count_below is_least) (Together-from (component_classes lists) u v t) ∙ sym (at v m)),
    );
  }
