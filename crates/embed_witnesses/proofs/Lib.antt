-- What the call rests on.
pub mod ContractedLemmas
mod ContractedGraphsCases
-- What the calls rest on.
pub mod Avoiding
pub mod ThreeLinked
pub mod Contracted
pub mod Found
pub mod Exactly
mod GraphContractionsCases
mod GraphContractionsRefused
-- What renaming keeps.
pub mod RenamedLemmas
mod RenamedWitnessesCases
-- What the calls rest on.
pub mod MergedLemmas
mod MergedEndsCases
-- What the calls rest on.
pub mod Lifts
mod LiftedWitnessesRefused
-- What the law rests on.
pub mod Shortened
pub mod Kept
-- What the search rests on.
pub mod Plain
mod PlainWitnessesRefused
