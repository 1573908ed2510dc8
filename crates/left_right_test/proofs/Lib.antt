-- Where lists end.
mod EndLemmas
