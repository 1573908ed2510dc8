-- Words that are not UTF-8.
use Rattle.std.proofs.Common.{◌≡◌, ◌<◌, ◌≤◌, ℕ, suc, List, [], ◌∷◌, ◌++◌, length, drop, get_or, refl, sym, arith, subst, IsUtf8, Contains}
use Rattle.std.proofs.Math.Seq.{drop-cons}
use Rattle.std.proofs.lemmas.List.Elements.{Contains-append_right}
use Rattle.std.proofs.lemmas.List.{drop_all}
use Rattle.pigale_c.specs.Words.{words_from, words_in, HasNoText}

-- the word so far is one of a text's where a space or the end comes
first_word : (word : List ℕ) (words : List (List ℕ)) → Contains (word ∷ words) word
first_word word words = (0, omega arith, refl)

no_text_in : (text : List ℕ) (done : List (List ℕ)) (word : List ℕ) (bytes : List ℕ) → done ++ words_from word bytes ≡ words_in text → Contains (words_from word bytes) word → ¬ IsUtf8 word → HasNoText (words_in text)
no_text_in text done word bytes kept here no_text =
    (word, subst (λ (ws : List (List ℕ)). Contains ws word) kept (Contains-append_right done (words_from word bytes) word here), no_text)

pub no_text_before_space : (text : List ℕ) (done : List (List ℕ)) (word : List ℕ) (k : ℕ) → k < length text → get_or text k 0 ≡ 32 → done ++ words_from word (drop k text) ≡ words_in text → ¬ IsUtf8 word → HasNoText (words_in text)
no_text_before_space text done word k within space kept no_text =
    no_text_in text done word (drop k text) kept
    (subst (λ (bytes : List ℕ). Contains (words_from word bytes) word) (sym (drop-cons text k 0 within))
    (subst (λ (b : ℕ). Contains (words_from word (b ∷ drop (suc k) text)) word) (sym space) (first_word word (words_from [] (drop (suc k) text)))))
    no_text

pub no_text_at_end : (text : List ℕ) (done : List (List ℕ)) (word : List ℕ) (k : ℕ) → length text ≤ k → done ++ words_from word (drop k text) ≡ words_in text → ¬ IsUtf8 word → HasNoText (words_in text)
no_text_at_end text done word k past kept no_text =
    no_text_in text done word (drop k text) kept
    (subst (λ (bytes : List ℕ). Contains (words_from word bytes) word) (sym (drop_all k text past)) (first_word word []))
    no_text
