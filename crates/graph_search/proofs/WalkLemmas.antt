-- Walks over vertices that pass, and paths.
use Rattle.std.proofs.Common.{◌≡◌, ℕ, zero, suc, ◌-◌, ◌<◌, List, [], ◌∷◌, length, get_or, Contains, refl, sym, ap, ◌∙◌, subst, inl, inr, arith}
use Rattle.std.proofs.lemmas.List.Elements.{All-cons, Contains-get_or}
use Rattle.map_lists.specs.Lists.{Lists}
use Rattle.map_theory.specs.Maps.{HasDart}
use Rattle.map_theory.specs.Paths.{IsPath, JoinsAvoiding}
use Rattle.map_theory.proofs.EntryLemmas.{Contains-cons_cases}
use Rattle.graph_search.specs.Forests.{IsAdjacency}

-- a walk of k steps from s to t, over vertices that pass
abbrev pub Walks : Lists → (ℕ → Type 0) → ℕ → ℕ → ℕ → Type 0
Walks lists passes zero s t = (s < length lists) × passes s × (s ≡ t)
Walks lists passes (suc k) s t = (u : ℕ) × HasDart lists s u × passes s × Walks lists passes k u t

abbrev pub AreLinked : Lists → (ℕ → Type 0) → ℕ → ℕ → Type 0
AreLinked lists passes s t = (k : ℕ) × Walks lists passes k s t

-- not among those that are avoided
abbrev pub Off : List ℕ → ℕ → Type 0
Off avoided x = ¬ Contains avoided x

pub linked_itself : (lists : Lists) (passes : ℕ → Type 0) (s : ℕ) → s < length lists → passes s → AreLinked lists passes s s
linked_itself lists passes s l p = (0, (l, p, refl))

walks_weaker : (lists : Lists) (passes weaker : ℕ → Type 0) → ((x : ℕ) → x < length lists → passes x → weaker x) → (k s t : ℕ) → Walks lists passes k s t → Walks lists weaker k s t
walks_weaker lists passes weaker h zero s t w = (w.0, h s w.0 w.1, w.2)
walks_weaker lists passes weaker h (suc k) s t w = (w.0, w.1, h s w.1.0 w.2, walks_weaker lists passes weaker h k w.0 t w.3)

pub linked_weaker : (lists : Lists) (passes weaker : ℕ → Type 0) → ((x : ℕ) → x < length lists → passes x → weaker x) → (s t : ℕ) → AreLinked lists passes s t → AreLinked lists weaker s t
linked_weaker lists passes weaker h s t w = (w.0, walks_weaker lists passes weaker h w.0 s t w.1)

walks_chained : (lists : Lists) (passes : ℕ → Type 0) (k s t u : ℕ) → Walks lists passes k s t → AreLinked lists passes t u → AreLinked lists passes s u
walks_chained lists passes zero s t u w v = subst (λ x. AreLinked lists passes x u) (sym w.2) v
walks_chained lists passes (suc k) s t u w v =
    let rest = walks_chained lists passes k w.0 t u w.3 v in
    (suc rest.0, (w.0, w.1, w.2, rest.1))

pub linked_chained : (lists : Lists) (passes : ℕ → Type 0) (s t u : ℕ) → AreLinked lists passes s t → AreLinked lists passes t u → AreLinked lists passes s u
linked_chained lists passes s t u w v = walks_chained lists passes w.0 s t u w.1 v

-- the first vertex is one, and passes
pub walks_start : (lists : Lists) (passes : ℕ → Type 0) (k s t : ℕ) → Walks lists passes k s t → (s < length lists) × passes s
walks_start lists passes zero s t w = (w.0, w.1)
walks_start lists passes (suc k) s t w = (w.1.0, w.2)

module _ (lists : Lists) (adjacency : IsAdjacency lists) (passes : ℕ → Type 0) where
  pub linked_dart : (s u : ℕ) → HasDart lists s u → passes s → passes u → AreLinked lists passes s u
  linked_dart s u has p q = (1, (u, has, p, (adjacency.in_range s u has, q, refl)))

  walks_turned : (k s t : ℕ) → Walks lists passes k s t → AreLinked lists passes t s
  walks_turned zero s t w = subst (λ x. AreLinked lists passes x s) w.2 (linked_itself lists passes s w.0 w.1)
  walks_turned (suc k) s t w =
      let next = walks_start lists passes k w.0 t w.3 in
      linked_chained lists passes t w.0 s (walks_turned k w.0 t w.3) (linked_dart w.0 s (adjacency.both_ways s w.0 w.1) next.1 w.2)

  pub linked_turned : (s t : ℕ) → AreLinked lists passes s t → AreLinked lists passes t s
  linked_turned s t w = walks_turned w.0 s t w.1

  -- what holds of a vertex, and goes along darts to vertices that pass, holds along a walk
  pub walks_keep : (P : ℕ → Type 0) → ((x y : ℕ) → HasDart lists x y → passes y → P x → P y) → (k s t : ℕ) → Walks lists passes k s t → P s → P t
  walks_keep P h zero s t w p = subst P w.2 p
  walks_keep P h (suc k) s t w p =
      walks_keep P h k w.0 t w.3 (h s w.0 w.1 (walks_start lists passes k w.0 t w.3).1 p)

module _ (lists : Lists) (adjacency : IsAdjacency lists) (avoided : List ℕ) where
  path_linked : (path : List ℕ) → IsPath lists path → ((x : ℕ) → Contains path x → Off avoided x) → (i : ℕ) → i < length path → AreLinked lists (Off avoided) (get_or path 0 0) (get_or path i 0)
  path_linked path p off zero l =
      linked_itself lists (Off avoided) (get_or path 0 0) (p.vertices 0 0 l) (off (get_or path 0 0) (Contains-get_or path 0 0 l))
  path_linked path p off (suc i) l =
      linked_chained lists (Off avoided) (get_or path 0 0) (get_or path i 0) (get_or path (suc i) 0) (path_linked path p off i (omega arith))
      (linked_dart lists adjacency (Off avoided) (get_or path i 0) (get_or path (suc i) 0) (p.steps i l) (off (get_or path i 0) (Contains-get_or path i 0 (omega arith))) (off (get_or path (suc i) 0) (Contains-get_or path (suc i) 0 l)))

  -- a path is a walk
  pub linked_path : (s t : ℕ) (path : List ℕ) → JoinsAvoiding lists avoided s t path → AreLinked lists (Off avoided) s t
  linked_path s t path j =
      subst (λ x. AreLinked lists (Off avoided) x t) j.start
      (subst (λ x. AreLinked lists (Off avoided) (get_or path 0 0) x) j.end (path_linked path j.is_path j.avoids (length path - 1) (omega arith)))

  -- a path with one vertex before it
  JoinsAvoiding-before : (s u t : ℕ) (path : List ℕ) → HasDart lists s u → Off avoided s → JoinsAvoiding lists avoided u t path → JoinsAvoiding lists avoided s t (s ∷ path)
  JoinsAvoiding-before s u t path has off j =
      let some = j.is_path.some in
      let last : length (s ∷ path) - 1 ≡ suc (length path - 1) = omega arith in
      record {
        is_path = record {
          some = omega arith;
          vertices = All-cons (λ v. v < length lists) s path has.0 j.is_path.vertices;
          steps = λ i. elim i as (λ k. suc k < length (s ∷ path) → HasDart lists (get_or (s ∷ path) k 0) (get_or (s ∷ path) (suc k) 0)) [
            | zero ↦ λ l. subst (HasDart lists s) (sym j.start) has
            | suc k ↦ λ l. j.is_path.steps k (omega arith)
          ];
        };
        start = refl;
        end = ap (λ k. get_or (s ∷ path) k 0) last ∙ j.end;
        avoids = λ x c. elim (Contains-cons_cases s path x c) [ inl e ↦ subst (Off avoided) e off | inr rest ↦ j.avoids x rest ];
      }

  JoinsAvoiding-alone : (s : ℕ) → s < length lists → Off avoided s → JoinsAvoiding lists avoided s s (s ∷ [])
  JoinsAvoiding-alone s l off = grind (arith, All-cons, length, Contains-cons_cases, Off)

  walk_path : (k s t : ℕ) → Walks lists (Off avoided) k s t → (path : List ℕ) × JoinsAvoiding lists avoided s t path
  walk_path zero s t w = (s ∷ [], subst (λ x. JoinsAvoiding lists avoided s x (s ∷ [])) w.2 (JoinsAvoiding-alone s w.0 w.1))
  walk_path (suc k) s t w =
      let rest = walk_path k w.0 t w.3 in
      (s ∷ rest.0, JoinsAvoiding-before s w.0 t rest.0 w.1 w.2 rest.1)

  -- and a walk is a path
  pub path_linked_by : (s t : ℕ) → AreLinked lists (Off avoided) s t → (path : List ℕ) × JoinsAvoiding lists avoided s t path
  path_linked_by s t w = walk_path w.0 s t w.1
