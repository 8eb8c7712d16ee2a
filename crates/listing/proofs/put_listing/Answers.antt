-- `listing::put_listing` meets its contract: what the trace is told decides the text.
use mathlib.Core.Path.{refl}
use native.Mathlib.Omega.{arith}
use Rattle.digits.proofs.Buffer.{within-more}
use Rattle.listing.proofs.Listings.{refused-listing, loaded-accepted}
use Rattle.listing.proofs.put_listing.Goals as goal

pub load-requires : goal.load-requires
load-requires c = (refl, refl, refl)

pub put_items-requires : goal.put_items-requires
put_items-requires c =
    record { accepted = loaded-accepted c.load.ensures c.in-Ok.is; room = c.requires }

pub returns-in-Err : goal.returns-in-Err
returns-in-Err c =
    let text = refused-listing c.load.ensures c.in-Err.is c.into.ensures in
    rw text (within-more (omega arith) c.put_refused.ensures)
