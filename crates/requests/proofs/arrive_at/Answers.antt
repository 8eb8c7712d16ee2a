-- `arrive_at` meets its contract: refused, or what changed is stored.
use Rattle.requests.proofs.Landings.{longer-by-one, went-refused, went-appended, went-merged}
use Rattle.requests.proofs.arrive_at.Goals as goal

pub store_longer_requests-requires-clause-held_tags : goal.store_longer_requests-requires-clause-held_tags
store_longer_requests-requires-clause-held_tags c =
    (c.arrive-arrived.ensures.held.queue, longer-by-one c.arrive-arrived.ensures c.load.ensures.0 c.in-Appended.is)

pub returns-in-Refused : goal.returns-in-Refused
returns-in-Refused c =
    went-refused c.arrive-arrived.ensures c.load.ensures.0 c.load_waits.ensures.0 c.queue_room-q.ensures c.wait_room-w.ensures c.in-Refused.is

pub returns-in-Appended : goal.returns-in-Appended
returns-in-Appended c =
    went-appended c.arrive-arrived.ensures c.load.ensures.0 c.load_waits.ensures.0 c.queue_room-q.ensures c.wait_room-w.ensures c.in-Appended.is
    c.store_longer_requests.ensures

pub returns-in-Merged : goal.returns-in-Merged
returns-in-Merged c =
    went-merged c.arrive-arrived.ensures c.load.ensures.0 c.load_waits.ensures.0 c.queue_room-q.ensures c.wait_room-w.ensures
    c.store_waits.ensures c.in-Merged.is c.add_merge.ensures
