-- The endings of planar_code, by the code's own enum.
use Rattle.planar_code.specs.Reading.{Ending as SpokenEnding, well, end_in_record, bad_count, too_long}
use Rattle.pigale_shell.specs.declared.output_lines.Ending.{Ending}
use Rattle.pigale_shell.specs.declared.output_lines.Ending.TheVariants.{Well, EndInRecord, BadCount, TooLong}

-- the ending, as a reading has it
abbrev pub ending_of : Ending → SpokenEnding
ending_of Well = well
ending_of (EndInRecord at) = end_in_record at
ending_of (BadCount at) = bad_count at
ending_of TooLong = too_long
