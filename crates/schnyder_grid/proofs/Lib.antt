-- The lemmas on the graph of a wood.
mod ArcLemmas
mod Refused
-- The wood of a figure.
mod FigureRegions
