-- `listing::listing` meets its contract: the text where there is room for it.
use borrow.Author.Rules.{rules}
use Rattle.digits.proofs.Buffer.{new-printed}
use Rattle.listing.proofs.Listings.{listed_small, listed-fits}
use Rattle.listing.proofs.listing.Goals as goal

pub returns-then-out-lt-ROOM : goal.returns-then-out-lt-ROOM
returns-then-out-lt-ROOM c = listed_small _ _ c.if-out-lt-ROOM.true

pub returns : goal.returns
returns c =
    let room = c.if-out-lt-ROOM.false in
    listed-fits _ _ room (new-printed c.new-printed.ensures.bytes c.new-printed.ensures.at room c.put_listing.ensures (search rules))
