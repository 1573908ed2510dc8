-- The lemmas of this crate's proofs.
mod Marking
mod Perms
mod Repeats
mod Refused
