-- What the top call does, in the words of its clauses.
pub mod Lines
pub mod Forms
pub mod Kinds
pub mod Blocks
pub mod Answer
pub mod PlanarCode
pub mod Made
pub mod Verify
pub mod JobInput
pub mod Outcome
pub mod Text
pub mod EmbedText
-- What words and input decide of the text.
pub mod OneText
-- Parts of inputs of any size.
pub mod Parts
pub mod PartLaws
