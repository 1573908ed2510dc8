-- Lemmas on words and numbers.
mod SizeLemmas
mod WordLemmas
mod WordRows
mod WordSteps
mod SpellLemmas
mod JobWords
