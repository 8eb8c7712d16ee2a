-- `noted` meets its contract: what the record leaves, then what is known behind it.

use Rattle.load.proofs.put.noted.Goals as goal

pub put-requires : goal.put-requires
put-requires c = c.requires.put

pub noted-requires : goal.noted-requires
noted-requires c = c.requires.known

pub returns-clause-keeps : goal.returns-clause-keeps
returns-clause-keeps c = record { noted = c.noted.ensures; put = c.put.ensures }
