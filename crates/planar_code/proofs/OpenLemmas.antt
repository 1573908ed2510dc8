-- The places where the closed lists end, and one list or one entry more.
use Rattle.std.proofs.Common.{◌≡◌, ℕ, zero, suc, ◌+◌, ◌-◌, ◌<◌, ◌≤◌, List, [], ◌∷◌, ◌++◌, length, take, drop, slice_range, refl, sym, ap, ap₂, ◌∙◌, arith}
use Rattle.std.proofs.Math.Seq.{take-append_seam, take-length}
use Rattle.std.proofs.lemmas.List.{length-append, length-drop, drop-append-le, take-append-le, take_rest, nil_from_length}
use Rattle.map_lists.specs.Cuts.{cut, AreCuts}
use Rattle.planar_code.specs.Open.{last_end, AreWithin, Collects}

-- the last end is no earlier than the first begin, and within the entries
within-end : (from : ℕ) (ends : List ℕ) (total : ℕ) → AreWithin from ends total → (from ≤ last_end from ends) × (last_end from ends ≤ total)
within-end from [] total is = (omega arith, is)
within-end from (end ∷ ends) total is = let later = within-end end ends total is.1 in (omega (arith, later.0, is.0), later.1)

pub within-more : (from : ℕ) (ends : List ℕ) (total total' : ℕ) → total ≤ total' → AreWithin from ends total → AreWithin from ends total'
within-more from [] total total' le is = omega (arith, is, le)
within-more from (end ∷ ends) total total' le is = (is.0, within-more end ends total total' le is.1)

pub within-close : (from : ℕ) (ends : List ℕ) (total : ℕ) → AreWithin from ends total → AreWithin from (ends ++ total ∷ []) total
within-close from [] total is = (is, omega arith)
within-close from (end ∷ ends) total is = (is.0, within-close end ends total is.1)

last_end-push : (from : ℕ) (ends : List ℕ) (end : ℕ) → last_end from (ends ++ end ∷ []) ≡ end
last_end-push from [] end = refl
last_end-push from (first ∷ ends) end = last_end-push first ends end

-- an entry more leaves the closed lists as they were
pub cut-more : (from : ℕ) (ends entries more : List ℕ) → AreWithin from ends (length entries) → cut from ends (entries ++ more) ≡ cut from ends entries
cut-more from [] entries more is = refl
cut-more from (end ∷ ends) entries more is =
    let within = within-end end ends (length entries) is.1 in
    let first : slice_range (entries ++ more) from end ≡ slice_range entries from end =
    ap (λ (xs : List ℕ). take (end - from) xs) (drop-append-le from entries more (omega (arith, is.0, within.0, within.1)))
    ∙ take-append-le (end - from) (drop from entries) more (omega (arith, length-drop from entries, within.0, within.1)) in
    ap₂ (λ (xs : List ℕ) (xss : List (List ℕ)). xs ∷ xss) first (cut-more end ends entries more is.1)

-- and joins the open one
pub last-more : (ends entries more : List ℕ) → AreWithin 0 ends (length entries) → drop (last_end 0 ends) (entries ++ more) ≡ drop (last_end 0 ends) entries ++ more
last-more ends entries more is =
    drop-append-le (last_end 0 ends) entries more (within-end 0 ends (length entries) is).1

-- one end more closes the open list
cut-close-from : (from : ℕ) (ends entries : List ℕ) → cut from (ends ++ length entries ∷ []) entries ≡ cut from ends entries ++ drop (last_end from ends) entries ∷ []
cut-close-from from [] entries = ap (λ (xs : List ℕ). xs ∷ []) (take_rest entries from)
cut-close-from from (end ∷ ends) entries = ap (λ (xss : List (List ℕ)). slice_range entries from end ∷ xss) (cut-close-from end ends entries)

pub cut-close : (ends entries : List ℕ) → cut 0 (ends ++ length entries ∷ []) entries ≡ cut 0 ends entries ++ drop (last_end 0 ends) entries ∷ []
cut-close ends entries = cut-close-from 0 ends entries

-- and the next one is empty
pub last-close : (ends entries : List ℕ) → drop (last_end 0 (ends ++ length entries ∷ [])) entries ≡ []
last-close ends entries =
    ap (λ (n : ℕ). drop n entries) (last_end-push 0 ends (length entries)) ∙ nil_from_length (drop (length entries) entries) (omega (arith, length-drop (length entries) entries))

-- where no entry is left open the closed lists are all entries
all-cuts-from : (from : ℕ) (ends : List ℕ) (total : ℕ) → AreWithin from ends total → last_end from ends ≡ total → AreCuts from ends total
all-cuts-from from [] total is e = e
all-cuts-from from (end ∷ ends) total is e = (is.0, all-cuts-from end ends total is.1 e)

pub all-cuts : (ends entries : List ℕ) → AreWithin 0 ends (length entries) → drop (last_end 0 ends) entries ≡ [] → AreCuts 0 ends (length entries)
all-cuts ends entries is none =
    let within = within-end 0 ends (length entries) is in
    all-cuts-from 0 ends (length entries) is (omega (arith, within.1, length-drop (last_end 0 ends) entries, ap length none))

-- A list is closed.
pub closes : (number : ℕ) (ends ends' entries : List ℕ) (end : ℕ) (lists : List (List ℕ)) (last : List ℕ) → number ≡ 0 → ends' ≡ ends ++ end ∷ [] → end ≡ length entries → cut 0 ends entries ≡ lists → drop (last_end 0 ends) entries ≡ last → Collects number lists last (cut 0 ends' entries) (drop (last_end 0 ends') entries)
closes number ends ends' entries end lists last zero_is pushed total is is' =
    rw (zero_is, pushed, total, sym is, sym is') (cut-close ends entries, last-close ends entries)

pub closes-within : (ends ends' : List ℕ) (end total : ℕ) → ends' ≡ ends ++ end ∷ [] → end ≡ total → AreWithin 0 ends total → AreWithin 0 ends' total
closes-within ends ends' end total pushed is within = rw (pushed, is) (within-close 0 ends total within)

-- An entry joins the open list.
pub joins : (number : ℕ) (ends entries entries' : List ℕ) (lists : List (List ℕ)) (last : List ℕ) → 0 < number → entries' ≡ entries ++ (number - 1) ∷ [] → AreWithin 0 ends (length entries) → cut 0 ends entries ≡ lists → drop (last_end 0 ends) entries ≡ last → Collects number lists last (cut 0 ends entries') (drop (last_end 0 ends) entries')
joins zero ends entries entries' lists last some pushed within is is' = absurd (omega arith)
joins (suc u) ends entries entries' lists last some pushed within is is' =
    let e : suc u - 1 ≡ u = omega arith in
    rw (pushed, e, sym is, sym is') (cut-more 0 ends entries (u ∷ []) within, last-more ends entries (u ∷ []) within)

pub joins-within : (ends entries entries' more : List ℕ) → entries' ≡ entries ++ more → AreWithin 0 ends (length entries) → AreWithin 0 ends (length entries')
joins-within ends entries entries' more pushed within =
    within-more 0 ends (length entries) (length entries') (omega (arith, ap length pushed, length-append entries more)) within

-- An end and an entry are appended, and one of them is taken back: the end, or for a number 0 the entry.
module _ (number closing x : ℕ) (ends pushed ends' entries grown entries' : List ℕ) (one : number ≡ 0 → closing ≡ 1) (none : 0 < number → closing ≡ 0) (x_is : 0 < number → x ≡ number - 1) (push : pushed ≡ ends ++ length entries ∷ []) (ends_are : ends' ≡ take (length pushed + closing - 1) pushed) (grow : grown ≡ entries ++ x ∷ []) (entries_are : entries' ≡ take (length grown - closing) grown) where
  same-ends : 0 < number → ends' ≡ ends
  same-ends some =
      let n : length pushed + closing - 1 ≡ length ends = omega (arith, none some, ap length push, length-append ends (length entries ∷ [])) in
      ends_are ∙ ap₂ take n push ∙ take-append_seam ends (length entries ∷ [])

  more-entries : 0 < number → entries' ≡ entries ++ (number - 1) ∷ []
  more-entries some =
      let n : length grown - closing ≡ length grown = omega (arith, none some) in
      entries_are ∙ ap (λ (i : ℕ). take i grown) n ∙ take-length grown ∙ grow ∙ ap (λ (i : ℕ). entries ++ i ∷ []) (x_is some)

  same-entries : number ≡ 0 → entries' ≡ entries
  same-entries zero_is =
      let n : length grown - closing ≡ length entries = omega (arith, one zero_is, ap length grow, length-append entries (x ∷ [])) in
      entries_are ∙ ap₂ take n grow ∙ take-append_seam entries (x ∷ [])

  more-ends : number ≡ 0 → ends' ≡ ends ++ length entries ∷ []
  more-ends zero_is =
      let n : length pushed + closing - 1 ≡ length pushed = omega (arith, one zero_is) in
      ends_are ∙ ap (λ (i : ℕ). take i pushed) n ∙ take-length pushed ∙ push

  chosen-at : (k : ℕ) → number ≡ k → (lists : List (List ℕ)) (last : List ℕ) → AreWithin 0 ends (length entries) → cut 0 ends entries ≡ lists → drop (last_end 0 ends) entries ≡ last → Collects number lists last (cut 0 ends' entries') (drop (last_end 0 ends') entries')
  chosen-at zero e lists last within is is' = rw (same-entries e) (closes number ends ends' entries (length entries) lists last e (more-ends e) refl is is')
  chosen-at (suc k) e lists last within is is' =
      let some : 0 < number = omega (arith, e) in
      rw (same-ends some) (joins number ends entries entries' lists last some (more-entries some) within is is')

  pub chosen : (lists : List (List ℕ)) (last : List ℕ) → AreWithin 0 ends (length entries) → cut 0 ends entries ≡ lists → drop (last_end 0 ends) entries ≡ last → Collects number lists last (cut 0 ends' entries') (drop (last_end 0 ends') entries')
  chosen lists last within is is' = chosen-at number refl lists last within is is'

  within-at : (k : ℕ) → number ≡ k → AreWithin 0 ends (length entries) → AreWithin 0 ends' (length entries')
  within-at zero e within = rw (same-entries e) (closes-within ends ends' (length entries) (length entries) (more-ends e) refl within)
  within-at (suc k) e within =
      let some : 0 < number = omega (arith, e) in
      rw (same-ends some) (joins-within ends entries entries' ((number - 1) ∷ []) (more-entries some) within)

  pub chosen-within : AreWithin 0 ends (length entries) → AreWithin 0 ends' (length entries')
  chosen-within within = within-at number refl within
