-- What the ranges of an accepted trace say of its network and of its acts.
use Prim.Native.Nat.{ℕ, zero, suc, ◌<◌, ◌^◌}
use mathlib.Core.List.{List, [], ◌∷◌}
use native.Mathlib.Omega.{arith}
use lib.Dec.{ltb}
use lib.Pow.{pow_pos}
use Rattle.lists.specs.Search.{All, cons}
use Rattle.lists.proofs.Every.{all_map}
use Rattle.lists.proofs.Tests.{both_true}
use Rattle.event.specs.Event.{Act, names_step, level_fits}
use Rattle.trace.specs.Item.{Request, Items}
use Rattle.trace.specs.Contents.{shape_of, requests_of, request_at, acts_of}
use Rattle.trace.specs.Inner.Ranges.{RequestIn, ActIn, InRange}
use Rattle.machine.specs.Order.{Named}
use Rattle.machine.specs.Octets.{octet_counter}
use Rattle.machine.specs.Inner.Lawful.{Lawful, LawfulCounter}
use Rattle.machine.proofs.Omega.{octets-lawful}
use Rattle.shown.specs.Inner.Network.{Ranges}
use Rattle.shown.proofs.Reaching.{ranges-lawful}
use Rattle.run.specs.Results.{setup_of}
use Rattle.run.specs.Inner.Run.{network_of}

engines-below : (k : ℕ) (rs : List Request) → All (RequestIn k) rs → (t : ℕ) → (request_at rs t).engine < 2 ^ k
engines-below k [] h t = pow_pos k
engines-below k (r ∷ rs) (cons h hs) zero = h.engine-below
engines-below k (r ∷ rs) (cons h hs) (suc t) = engines-below k rs hs t

addresses-below : (k : ℕ) (rs : List Request) → All (RequestIn k) rs → (t : ℕ) → (request_at rs t).address < 256
addresses-below k [] h t = omega arith
addresses-below k (r ∷ rs) (cons h hs) zero = h.fits.address-low
addresses-below k (r ∷ rs) (cons h hs) (suc t) = addresses-below k rs hs t

pub act-named : (k : ℕ) (a : Act) → ActIn k a → Named k a
unfolding names_step
act-named k (Act.event e) h = (both_true (ltb e.position (2 ^ k)) (level_fits k e.what e.level) h.names).1
act-named k (Act.drain n) h = tt

module _ (items : Items) (within : InRange items) where
  pub network-ranges : Ranges (network_of items)
  network-ranges = record {
    k-least = within.shape-in.k-least;
    k-most = within.shape-in.k-most;
    Q-least = within.shape-in.q-least;
    Q-most = within.shape-in.q-most;
    W-most = within.shape-in.w-most;
    R-most = within.requests-few;
    engines = engines-below (shape_of items).k (requests_of items) within.requests-in;
    addresses = addresses-below (shape_of items).k (requests_of items) within.requests-in;
  }

  pub trace-lawful : Lawful (setup_of items)
  trace-lawful = ranges-lawful {x = network_of items} network-ranges

  -- document 01's counter, of the trace's network
  pub trace-octets : LawfulCounter (setup_of items) octet_counter
  trace-octets = let x = network_of items in octets-lawful x.k x.Q x.W x.R x.engine_of x.address_of x.asked_of

  pub acts-named : All (Named (shape_of items).k) (acts_of items)
  acts-named = all_map (act-named (shape_of items).k) within.acts-in
