-- `told::put_reason` meets its contract: a text for each reason.
use native.Mathlib.Omega.{arith}
use Rattle.digits.specs.Numeral.{bytes_of}
use Rattle.digits.proofs.Buffer.{writes-within}
use Rattle.writer.specs.Told.{reason_fields}
use Rattle.writer.proofs.told.put_reason.Goals as goal

pub returns-in-Name : goal.returns-in-Name
unfolding reason_fields bytes_of
returns-in-Name c = rw c.in-Name.is (writes-within 48 (omega arith) c.field.ensures)

pub returns-in-Missing : goal.returns-in-Missing
unfolding reason_fields bytes_of
returns-in-Missing c = rw c.in-Missing.is c.put_place.ensures

pub returns-in-Extra : goal.returns-in-Extra
unfolding reason_fields bytes_of
returns-in-Extra c = rw c.in-Extra.is c.put_place-in-Extra.ensures

pub returns-in-NoNumber : goal.returns-in-NoNumber
unfolding reason_fields bytes_of
returns-in-NoNumber c = rw c.in-NoNumber.is c.put_place-in-NoNumber.ensures

pub returns-in-TooLarge : goal.returns-in-TooLarge
unfolding reason_fields bytes_of
returns-in-TooLarge c = rw c.in-TooLarge.is c.put_place-in-TooLarge.ensures
