-- What the answers of reading.rt say: the reading of the definitions that each of the code's is.
-- Assumes nothing.
use Rattle.btor.specs.Operators as operators
use Rattle.btor.specs.declared.reading.Reading.{Reading}

abbrev pub reading_is : Reading → operators.Reading
reading_is Reading.Rust = operators.rust
reading_is Reading.Standard = operators.standard
