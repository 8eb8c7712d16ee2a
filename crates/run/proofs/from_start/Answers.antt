-- `from_start` meets its contract: the start, then the acts.
use Rattle.trace.specs.Bytes.{AreBytes}
use Rattle.run.proofs.Start.{loading-loaded, loading-ready, loading-ran}
use Rattle.run.proofs.from_start.Goals as goal

pub start-requires : goal.start-requires
start-requires c =
    let are-bytes : AreBytes c.args.trace.now = record { below = λ i. (c.shared_slice_known-1.given i).fits } in loading-loaded are-bytes c.requires

pub acts_from-requires : goal.acts_from-requires
acts_from-requires c =
    let are-bytes : AreBytes c.args.trace.now = record { below = λ i. (c.shared_slice_known-1.given i).fits } in
    loading-ready are-bytes c.requires c.start.ensures

pub returns : goal.returns
returns c =
    let are-bytes : AreBytes c.args.trace.now = record { below = λ i. (c.shared_slice_known-1.given i).fits } in
    loading-ran are-bytes c.requires c.start.ensures c.acts_from.ensures
