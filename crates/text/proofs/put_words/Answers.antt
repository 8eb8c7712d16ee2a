-- `text::put_words` meets its contract: after n turns the lines of the first n addresses are written.
use Rattle.text.proofs.Sections.{addresses, section-starts, section-room, section-goes}
use Rattle.text.proofs.put_words.Goals as goal

pub loop-address-init : goal.loop-address-init
loop-address-init c = section-starts (addresses _ _) _

pub put_word-requires : goal.put_word-requires
put_word-requires c = section-room (addresses _ _) _ c.loop-address.invariant _ c.loop-address-test.true c.requires

pub loop-address-preserved : goal.loop-address-preserved
loop-address-preserved c = section-goes (addresses _ _) _ c.loop-address.invariant c.put_word.ensures
