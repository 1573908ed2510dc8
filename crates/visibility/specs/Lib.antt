-- The ends of bars.
pub mod Ends
pub mod Bars
-- The figures of records by bars.
pub mod Figures
-- The pass from numbers of faces to columns and ends.
pub mod Spans
-- What a search of a record finds.
pub mod Found
