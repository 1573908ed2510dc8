-- Tables with vertices in place of their ranks.
use Rattle.std.proofs.Common.{◌≡◌, ◌+◌, ◌<◌, ℕ, List, [], ◌∷◌, ◌++◌, length, get_or, take, sym, ap, ◌∙◌, inl, inr, arith, length-append}
use Rattle.std.proofs.lemmas.Bool.{cases_lt}
use Rattle.std.proofs.lemmas.List.{get_or_append_left, get_or-take, length-take-le}
use Rattle.std.proofs.Math.Seq.{get_or-append_seam}
use Rattle.schnyder_wood.specs.Tables.{AreNamed}

-- one vertex more
pub AreNamed-more :
    (table ranks at : List ℕ) (v : ℕ) (names : List ℕ) (name : ℕ) → AreNamed table (take v ranks) at names → v < length ranks
    → name ≡ get_or at (get_or table (get_or ranks v 0) 0) 0
    → AreNamed table (take (v + 1) ranks) at (names ++ name ∷ [])
AreNamed-more table ranks at v names name h l e =
    let old = length-take-le v ranks (omega arith) in
    let new = length-take-le (v + 1) ranks (omega arith) in
    let count = h.count in
    let to : ℕ → ℕ = λ r. get_or at (get_or table r 0) 0 in
    record {
      count = omega (arith, length-append names (name ∷ []));
      each = λ u m. elim (cases_lt u v) [
        | inl a ↦
            get_or_append_left names (name ∷ []) 0 u (omega arith) ∙ h.each u (omega arith)
            ∙ ap to (get_or-take v ranks u 0 a ∙ sym (get_or-take (v + 1) ranks u 0 (omega arith)))
        | inr a ↦
            let d : u ≡ length names = omega arith in
            let d' : v ≡ u = omega arith in
            ap (λ u. get_or (names ++ name ∷ []) u 0) d ∙ get_or-append_seam names name [] 0 ∙ e
            ∙ ap to (ap (λ v. get_or ranks v 0) d' ∙ sym (get_or-take (v + 1) ranks u 0 (omega arith)))
      ];
    }
