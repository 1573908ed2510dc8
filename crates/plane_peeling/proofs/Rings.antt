-- Lists along which a function leads, and those round which it does.
use Rattle.std.proofs.Common.{◌≡◌, ◌≢◌, ◌⊎◌, ℕ, zero, suc, ◌+◌, ◌-◌, ◌<◌, List, [], ◌∷◌, ◌++◌, length, get_or, AllPairs, Contains, refl, sym, ap, ap₂, ◌∙◌, subst, inl, inr, arith}
use Rattle.std.proofs.lemmas.List.{append_assoc, length-append, get_or-append-add, get_or_past}
use Rattle.map_theory.specs.Maps.{place_of, entry_after}
use Rattle.map_theory.proofs.EntryLemmas.{Contains-here, Contains-there, Contains-cons_cases, count_of, count_of-cons, count_of-append, Contains-from_count_of, Contains-counted, AllPairs-from_counts, AllPairs-append, AllPairs-tail, head_apart, count_of-le-one}
use Rattle.map_theory.proofs.DartLemmas.{place_of-get_or, place_of-lt-length, get_or-place_of, place_of-entry_after, Contains-entry_after, two_entries, place_after}
use Rattle.std.proofs.lemmas.Bool.{cases_eq}
use Rattle.std.proofs.lemmas.List.Elements.{Contains-append_left, Contains-append_right}

-- next leads from x along the list to t
abbrev pub Leads : (ℕ → ℕ) → ℕ → List ℕ → ℕ → Type 0
Leads next x [] t = x ≡ t
Leads next x (w ∷ ws) t = (next x ≡ w) × Leads next w ws t

-- a way split
pub Leads-part : (next : ℕ → ℕ) (x : ℕ) (l r : List ℕ) (t : ℕ) → Leads next x (l ++ r) t → (y : ℕ) × Leads next x l y × Leads next y r t
Leads-part next x [] r t h = (x, refl, h)
Leads-part next x (w ∷ l) r t h = let rest = Leads-part next w l r t h.1 in (rest.0, (h.0, rest.1), rest.2)

-- and two joined
pub Leads-join : (next : ℕ → ℕ) (x : ℕ) (l : List ℕ) (y : ℕ) (r : List ℕ) (t : ℕ) → Leads next x l y → Leads next y r t → Leads next x (l ++ r) t
Leads-join next x [] y r t h h' = subst (λ z. Leads next z r t) (sym h) h'
Leads-join next x (w ∷ l) y r t h h' = (h.0, Leads-join next w l y r t h.1 h')

-- its end stands on it
pub Leads-in : (next : ℕ → ℕ) (x : ℕ) (l : List ℕ) (t : ℕ) → Leads next x l t → Contains (x ∷ l) t
Leads-in next x [] t h = subst (Contains (x ∷ [])) h (Contains-here x [])
Leads-in next x (w ∷ l) t h = Contains-there x (w ∷ l) t (Leads-in next w l t h.1)

-- functions that agree along a way
pub Leads-same : (next other : ℕ → ℕ) (x : ℕ) (l : List ℕ) (t : ℕ) → ((z : ℕ) → Contains (x ∷ l) z → other z ≡ next z) → Leads next x l t → Leads other x l t
Leads-same next other x [] t same h = h
Leads-same next other x (w ∷ l) t same h =
    (same x (Contains-here x (w ∷ l)) ∙ h.0, Leads-same next other w l t (λ z c. same z (Contains-there x (w ∷ l) z c)) h.1)

-- the end is the last entry
pub Leads-end : (next : ℕ → ℕ) (x w : ℕ) (l : List ℕ) (t : ℕ) → Leads next x (w ∷ l) t → (front : List ℕ) × (w ∷ l ≡ front ++ t ∷ [])
Leads-end next x w [] t h = ([], ap (λ z. z ∷ []) h.1)
Leads-end next x w (w' ∷ l) t h = let rest = Leads-end next w w' l t h.1 in (w ∷ rest.0, ap (λ l. w ∷ l) rest.1)

-- a list before an entry and after it
pub separated_at : (us : List ℕ) (x : ℕ) → Contains us x → (front : List ℕ) × (back : List ℕ) × (us ≡ front ++ x ∷ back)
separated_at [] x c = absurd (omega (arith, c.1))
separated_at (y ∷ us) x c =
    elim (Contains-cons_cases y us x c) [
      | inl e ↦ ([], us, ap (λ z. z ∷ us) e)
      | inr there ↦ let rest = separated_at us x there in (y ∷ rest.0, rest.1, ap (λ l. y ∷ l) rest.2)
    ]

-- the last entry
pub last-entry : (front : List ℕ) (t d : ℕ) → get_or (front ++ t ∷ []) (length (front ++ t ∷ []) - 1) d ≡ t
last-entry front t d =
    let e : length (front ++ t ∷ []) - 1 ≡ length front + 0 = omega (arith, length-append front (t ∷ [])) in
    ap (λ n. get_or (front ++ t ∷ []) n d) e ∙ get_or-append-add front (t ∷ []) 0 d

pub ends_with : (us : List ℕ) (t d : ℕ) → 0 < length us → get_or us (length us - 1) d ≡ t → (front : List ℕ) × (us ≡ front ++ t ∷ [])
ends_with [] t d some e = absurd (omega arith)
ends_with (x ∷ []) t d some e = ([], ap (λ z. z ∷ []) e)
ends_with (x ∷ y ∷ us) t d some e =
    let n : length (x ∷ y ∷ us) - 1 ≡ suc (length (y ∷ us) - 1) = omega arith in
    let rest = ends_with (y ∷ us) t d (omega arith) (sym (ap (λ k. get_or (x ∷ y ∷ us) k d) n) ∙ e) in
    (x ∷ rest.0, ap (λ l. x ∷ l) rest.1)

-- where an entry stands in a list without repeats
place_of-separated : (front : List ℕ) (x : ℕ) (back : List ℕ) → AllPairs ◌≢◌ (front ++ x ∷ back) → place_of x (front ++ x ∷ back) ≡ length front
place_of-separated front x back distinct =
    let us = front ++ x ∷ back in
    let n : length front + 0 ≡ length front = omega arith in
    let at : get_or us (length front) 0 ≡ x = ap (λ k. get_or us k 0) (sym n) ∙ get_or-append-add front (x ∷ back) 0 0 in
    ap (λ z. place_of z us) (sym at) ∙ place_of-get_or us (length front) 0 distinct (omega (arith, length-append front (x ∷ back)))

-- the entry after one inside
pub entry_after-inside : (front : List ℕ) (x y : ℕ) (back : List ℕ) → AllPairs ◌≢◌ (front ++ x ∷ y ∷ back) → entry_after x (front ++ x ∷ y ∷ back) ≡ y
unfolding entry_after
entry_after-inside front x y back distinct =
    let us = front ++ x ∷ y ∷ back in
    ap (λ k. get_or us (k + 1) (get_or us 0 x)) (place_of-separated front x (y ∷ back) distinct) ∙ get_or-append-add front (x ∷ y ∷ back) 1 (get_or us 0 x)

-- the entry after the last is the first
pub entry_after-last : (front : List ℕ) (x : ℕ) → AllPairs ◌≢◌ (front ++ x ∷ []) → entry_after x (front ++ x ∷ []) ≡ get_or (front ++ x ∷ []) 0 x
unfolding entry_after
entry_after-last front x distinct =
    let us = front ++ x ∷ [] in
    ap (λ k. get_or us (k + 1) (get_or us 0 x)) (place_of-separated front x [] distinct) ∙ get_or_past us (length front + 1) (get_or us 0 x) (omega (arith, length-append front (x ∷ [])))

-- a list without its first entry
abbrev pub rest_of : List ℕ → List ℕ
rest_of [] = []
rest_of (x ∷ us) = us

-- the entries of a list without repeats lead on to its last
leads_on : (us front : List ℕ) (x : ℕ) (back : List ℕ) (t : ℕ) → AllPairs ◌≢◌ us → us ≡ front ++ x ∷ back → (init : List ℕ) → x ∷ back ≡ init ++ t ∷ [] → Leads (λ u. entry_after u us) x back t
leads_on us front x [] t distinct e init last = one init last
  where
    one : (init : List ℕ) → x ∷ [] ≡ init ++ t ∷ [] → x ≡ t
    one [] q = ap (λ l. get_or l 0 0) q
    one (y ∷ init) q = absurd (let n = ap length q in omega (arith, n, length-append init (t ∷ [])))
leads_on us front x (y ∷ back) t distinct e init last =
    let step : entry_after x us ≡ y = ap (entry_after x) e ∙ entry_after-inside front x y back (subst (AllPairs ◌≢◌) e distinct) in
    let rest = shorter init last in
    (step, leads_on us (front ++ x ∷ []) y back t distinct (e ∙ sym (append_assoc front (x ∷ []) (y ∷ back))) rest.0 rest.1)
  where
    shorter : (init : List ℕ) → x ∷ y ∷ back ≡ init ++ t ∷ [] → (less : List ℕ) × (y ∷ back ≡ less ++ t ∷ [])
    shorter [] q = absurd (let n = ap length q in omega (arith, n))
    shorter (z ∷ init) q = (init, ap rest_of q)

-- the entries of a list without repeats lead round it
pub leads_round : (us : List ℕ) (t : ℕ) → AllPairs ◌≢◌ us → (front : List ℕ) → us ≡ front ++ t ∷ [] → Leads (λ u. entry_after u us) t us t
leads_round [] t distinct front e = absurd (let n = ap length e in omega (arith, n, length-append front (t ∷ [])))
leads_round (w ∷ l) t distinct front e =
    let us = w ∷ l in
    let step : entry_after t us ≡ w =
    ap (entry_after t) e ∙ (entry_after-last front t (subst (AllPairs ◌≢◌) e distinct) ∙ (ap (λ v. get_or v 0 t) (sym e))) in
    (step, leads_on us [] w l t distinct refl front e)

-- where a function leads round a list without repeats, it gives the entry after each
pub round-entry : (next : ℕ → ℕ) (us : List ℕ) (t : ℕ) → AllPairs ◌≢◌ us → Leads next t us t → (x : ℕ) → Contains us x → entry_after x us ≡ next x
round-entry next us t distinct h x c =
    let parts = separated_at us x c in
    let e = parts.2 in
    let way = Leads-part next t parts.0 (x ∷ parts.1) t (subst (λ l. Leads next t l t) e h) in
    ap (entry_after x) e ∙ at parts.0 parts.1 way.0 (subst (AllPairs ◌≢◌) e distinct) way.1 way.2
  where
    at : (front back : List ℕ) (y : ℕ) → AllPairs ◌≢◌ (front ++ x ∷ back) → Leads next t front y → Leads next y (x ∷ back) t → entry_after x (front ++ x ∷ back) ≡ next x
    at front (z ∷ back) y distinct first second = entry_after-inside front x z back distinct ∙ sym second.1.0
    at [] [] y distinct first second = entry_after-last [] x distinct ∙ (sym second.0 ∙ (ap next (sym first ∙ sym second.1)))
    at (w ∷ front) [] y distinct first second = entry_after-last (w ∷ front) x distinct ∙ (sym first.0 ∙ ap next (sym second.1))

-- A list without repeats, read round from one of its entries.
pub ring_from : (us : List ℕ) (q : ℕ) → AllPairs ◌≢◌ us → Contains us q → (rest : List ℕ) × Leads (λ u. entry_after u us) q (rest ++ q ∷ []) q × ((u : ℕ) → count_of u (q ∷ rest) ≡ count_of u us)
ring_from us q distinct c =
    let g : ℕ → ℕ = λ u. entry_after u us in
    let parts = separated_at us q c in
    let front = parts.0 in
    let back = parts.1 in
    let some : 0 < length us = omega (arith, c.1) in
    let end = ends_with us (get_or us (length us - 1) 0) 0 some refl in
    let t = get_or us (length us - 1) 0 in
    let way = Leads-part g t front (q ∷ back) t (subst (λ l. Leads g t l t) parts.2 (leads_round us t distinct end.0 end.1)) in
    let round : Leads g way.0 (q ∷ []) q = (way.2.0, refl) in (
      back ++ front,
      Leads-join g q (back ++ front) way.0 (q ∷ []) q (Leads-join g q back t front way.0 way.2.1 way.1) round,
      λ u.
          let three = count_of-append u front (q ∷ back) in
          let four = count_of-cons u q back in
          let five = ap (count_of u) parts.2 in
          omega (arith, count_of-cons u q (back ++ front), count_of-append u back front, three, four, five),
    )

-- A way read backwards: where f undoes each step of g, it leads back, and on along what it led before.
pub Leads-back : (g f : ℕ → ℕ) (x : ℕ) (xs : List ℕ) (y : ℕ) (more : List ℕ) (q : ℕ) → ((z : ℕ) → Contains xs (g z) → Contains (x ∷ xs) z → f (g z) ≡ z) → Leads g x xs y → Leads f x more q → (run : List ℕ) × Leads f y run q × ((u : ℕ) → count_of u (y ∷ run) ≡ count_of u (x ∷ xs) + count_of u more)
Leads-back g f x [] y more q back h on = (
  more,
  subst (λ z. Leads f z more q) h on,
  λ u.
      let same = ap (λ z. count_of u (z ∷ [])) h in
      let three = count_of-cons u y [] in
      omega (arith, count_of-cons u y more, count_of-cons u x [], three, same),
)
Leads-back g f x (w ∷ xs) y more q back h on =
    let undone : f w ≡ x = ap f (sym h.0) ∙ back x (subst (Contains (w ∷ xs)) (sym h.0) (Contains-here w xs)) (Contains-here x (w ∷ xs)) in
    let rest = Leads-back g f w xs y (x ∷ more) q (λ z c c'. back z (Contains-there w xs (g z) c) (Contains-there x (w ∷ xs) z c')) h.1 (undone, on) in (
      rest.0,
      rest.1,
      λ u.
          let three = count_of-cons u x (w ∷ xs) in
          omega (arith, rest.2 u, count_of-cons u x more, three),
    )

-- lists that hold each number as often hold the same, and one has no repeats where the other has none
pub Contains-counts : (us vs : List ℕ) → ((u : ℕ) → count_of u us ≡ count_of u vs) → (u : ℕ) → Contains us u → Contains vs u
Contains-counts us vs same u c = Contains-from_count_of u vs (omega (arith, same u, Contains-counted u us c))

pub AllPairs-counts : (us vs : List ℕ) → ((u : ℕ) → count_of u us ≡ count_of u vs) → AllPairs ◌≢◌ vs → AllPairs ◌≢◌ us
AllPairs-counts us vs same distinct = AllPairs-from_counts us (λ u _. omega (arith, same u, count_of-le-one u vs distinct))

-- what is so of one, two and three entries is so of each of a list of them
pub each_of_one : (P : ℕ → Type 0) (a : ℕ) → P a → (x : ℕ) → Contains (a ∷ []) x → P x
each_of_one P a h x c = elim (Contains-cons_cases a [] x c) [ inl e ↦ subst P e h | inr c' ↦ absurd (omega (arith, c'.1)) ]

pub each_of_two : (P : ℕ → Type 0) (a b : ℕ) → P a → P b → (x : ℕ) → Contains (a ∷ b ∷ []) x → P x
each_of_two P a b h h' x c = elim (Contains-cons_cases a (b ∷ []) x c) [ inl e ↦ subst P e h | inr c' ↦ each_of_one P b h' x c' ]

pub each_of_three : (P : ℕ → Type 0) (a b c : ℕ) → P a → P b → P c → (x : ℕ) → Contains (a ∷ b ∷ c ∷ []) x → P x
each_of_three P a b c h h' h'' x d = elim (Contains-cons_cases a (b ∷ c ∷ []) x d) [ inl e ↦ subst P e h | inr d' ↦ each_of_two P b c h' h'' x d' ]

pub each_of_four : (P : ℕ → Type 0) (a b c d : ℕ) → P a → P b → P c → P d → (x : ℕ) → Contains (a ∷ b ∷ c ∷ d ∷ []) x → P x
each_of_four P a b c d h h' h'' h3 x e = elim (Contains-cons_cases a (b ∷ c ∷ d ∷ []) x e) [ inl q ↦ subst P q h | inr e' ↦ each_of_three P b c d h' h'' h3 x e' ]

-- one entry, and a list in which it does not stand
pub AllPairs-put : (x : ℕ) (us : List ℕ) → ¬ Contains us x → AllPairs ◌≢◌ us → AllPairs ◌≢◌ (x ∷ us)
AllPairs-put x us n distinct =
    AllPairs-append (x ∷ []) us (λ i j d l m. absurd (omega (arith, l, m))) distinct (λ u c. each_of_one (λ z. ¬ Contains us z) x n u c)

-- two entries that follow each other are all
pub only_two : (us : List ℕ) (x y z : ℕ) → AllPairs ◌≢◌ us → Contains us x → entry_after x us ≡ y → entry_after y us ≡ x → Contains us z → (z ≡ x) ⊎ (z ≡ y)
only_two us x y z distinct has there back c =
    let has_y : Contains us y = subst (Contains us) there (Contains-entry_after x us has) in
    let in_x = place_of-lt-length x us has in
    let in_z = place_of-lt-length z us c in
    let at : (w : ℕ) → Contains us w → place_of z us ≡ place_of w us → z ≡ w = λ w c' e.
    sym (get_or-place_of z us 0 in_z) ∙ (ap (λ n. get_or us n 0) e ∙ get_or-place_of w us 0 (place_of-lt-length w us c')) in
    grind (arith, cases_eq, place_of, place_of-lt-length, two_entries, place_after, length, place_of-entry_after)

-- what each step of a way keeps is one all along it
pub Leads-marked : {X : Type 0} (mark : ℕ → X) (next : ℕ → ℕ) (x : ℕ) (l : List ℕ) (t : ℕ) → ((z : ℕ) → Contains (x ∷ l) z → mark (next z) ≡ mark z) → Leads next x l t → (z : ℕ) → Contains (x ∷ l) z → mark z ≡ mark x
Leads-marked mark next x [] t step h z c =
    elim (Contains-cons_cases x [] z c) [ inl e ↦ ap mark (sym e) | inr c' ↦ absurd (omega (arith, c'.1)) ]
Leads-marked mark next x (w ∷ l) t step h z c =
    elim (Contains-cons_cases x (w ∷ l) z c) [
      | inl e ↦ ap mark (sym e)
      | inr c' ↦ Leads-marked mark next w l t (λ y d. step y (Contains-there x (w ∷ l) y d)) h.1 z c' ∙ (ap mark (sym h.0) ∙ step x (Contains-here x (w ∷ l)))
    ]

-- where a way begins and ends
pub Leads-first : (next : ℕ → ℕ) (x : ℕ) (us : List ℕ) (t d : ℕ) → 0 < length us → Leads next x us t → get_or us 0 d ≡ next x
Leads-first next x [] t d some h = absurd (omega arith)
Leads-first next x (w ∷ us) t d some h = sym h.0

pub Leads-last : (next : ℕ → ℕ) (x : ℕ) (us : List ℕ) (t d : ℕ) → 0 < length us → Leads next x us t → get_or us (length us - 1) d ≡ t
Leads-last next x [] t d some h = absurd (omega arith)
Leads-last next x (w ∷ us) t d some h =
    let end = Leads-end next x w us t h in
    ap (λ l. get_or l (length l - 1) d) end.1 ∙ last-entry end.0 t d

-- A ring split at three entries that follow one another, of which the last entry may be the third alone.
pub separated_round : (next : ℕ → ℕ) (us : List ℕ) (t p v q : ℕ) → Leads next t us t → Contains us p → next p ≡ v → next v ≡ q → p ≢ t → v ≢ t → (front : List ℕ) × (back : List ℕ) × (us ≡ front ++ p ∷ v ∷ q ∷ back) × Leads next t (front ++ p ∷ []) p × Leads next q back t
separated_round next us t p v q h c e e' n n' =
    let parts = separated_at us p c in
    let way = Leads-part next t parts.0 (p ∷ parts.1) t (subst (λ l. Leads next t l t) parts.2 h) in
    let rest = two parts.1 way.2.1 in
    (parts.0, rest.0, parts.2 ∙ ap (λ l. parts.0 ++ p ∷ l) rest.1, Leads-join next t parts.0 way.0 (p ∷ []) p way.1 ((way.2.0, refl)), rest.2)
  where
    two : (l : List ℕ) → Leads next p l t → (back : List ℕ) × (l ≡ v ∷ q ∷ back) × Leads next q back t
    two [] g = absurd (n g)
    two (a ∷ []) g = absurd (n' (sym e ∙ (g.0 ∙ g.1)))
    two (a ∷ b ∷ l) g = grind (arith, ap₂, Leads)

-- each entry of a way is what the function gives at the one before
pub Leads-at : (next : ℕ → ℕ) (x : ℕ) (l : List ℕ) (t d i : ℕ) → Leads next x l t → i < length l → get_or (x ∷ l) (suc i) d ≡ next (get_or (x ∷ l) i d)
Leads-at next x [] t d i h n = absurd (omega arith)
Leads-at next x (w ∷ l) t d zero h n = sym h.0
Leads-at next x (w ∷ l) t d (suc i) h n = Leads-at next w l t d i h.1 (omega arith)

-- of two ways from one entry that which meets the other's end at its own alone, if at all, is the front of the other
pub Leads-front : (next : ℕ → ℕ) (x : ℕ) (l r : List ℕ) (t y : ℕ) → Leads next x l t → Leads next x (r ++ y ∷ []) y → ((z : ℕ) → Contains (x ∷ r) z → z ≢ t) → (more : List ℕ) × (l ≡ r ++ y ∷ more)
Leads-front next x [] r t y h h' n = absurd (n x (Contains-here x r) h)
Leads-front next x (a ∷ l) [] t y h h' n = (l, ap (λ z. z ∷ l) (sym h.0 ∙ h'.0))
Leads-front next x (a ∷ l) (b ∷ r) t y h h' n =
    let e : a ≡ b = sym h.0 ∙ h'.0 in
    let rest = Leads-front next b l r t y (subst (λ z. Leads next z l t) e h.1) h'.1 (λ z c. n z (Contains-there x (b ∷ r) z c)) in
    (rest.0, ap₂ (λ z m. z ∷ m) e rest.1)

-- what a function keeps is so all along a way
pub Leads-closed : (P : ℕ → Type 0) (next : ℕ → ℕ) (x : ℕ) (l : List ℕ) (t : ℕ) → P x → ((z : ℕ) → P z → P (next z)) → Leads next x l t → (z : ℕ) → Contains (x ∷ l) z → P z
Leads-closed P next x [] t h keeps way z c = each_of_one P x h z c
Leads-closed P next x (w ∷ l) t h keeps way z c =
    elim (Contains-cons_cases x (w ∷ l) z c) [
      | inl e ↦ subst P e h
      | inr c' ↦ Leads-closed P next w l t (subst P way.0 (keeps x h)) keeps way.1 z c'
    ]

-- what goes on from each entry to the next is so of all, where it is so of one
pub entries_closed : (P : ℕ → Type 0) (us : List ℕ) (a u : ℕ) → AllPairs ◌≢◌ us → Contains us a → P a → ((z : ℕ) → P z → P (entry_after z us)) → Contains us u → P u
entries_closed P us a u distinct has start keeps c =
    let turn : ℕ → ℕ = λ x. entry_after x us in
    let ring = ring_from us a distinct has in
    let in_ring = Contains-counts us (a ∷ ring.0) (λ x. sym (ring.2 x)) u c in
    Leads-closed P turn a (ring.0 ++ a ∷ []) a start keeps ring.1 u (Contains-append_left (a ∷ ring.0) (a ∷ []) u in_ring)

-- a list without repeats is split at an entry in one way
pub separated_once : (f : List ℕ) (x : ℕ) (r f' r' : List ℕ) → AllPairs ◌≢◌ (f ++ x ∷ r) → f ++ x ∷ r ≡ f' ++ x ∷ r' → (f ≡ f') × (r ≡ r')
separated_once [] x r [] r' distinct e = (refl, ap rest_of e)
separated_once [] x r (a ∷ f') r' distinct e =
    absurd (head_apart x r distinct (subst (λ l. Contains l x) (sym (ap rest_of e)) (Contains-append_right f' (x ∷ r') x (Contains-here x r'))))
separated_once (a ∷ f) x r [] r' distinct e =
    absurd (head_apart a (f ++ x ∷ r) distinct (subst (Contains (f ++ x ∷ r)) (sym (ap (λ l. get_or l 0 0) e)) (Contains-append_right f (x ∷ r) x (Contains-here x r))))
separated_once (a ∷ f) x r (b ∷ f') r' distinct e =
    let rest = separated_once f x r f' r' (AllPairs-tail a (f ++ x ∷ r) distinct) (ap rest_of e) in
    (ap₂ (λ y l. y ∷ l) (ap (λ l. get_or l 0 0) e) rest.0, rest.1)
