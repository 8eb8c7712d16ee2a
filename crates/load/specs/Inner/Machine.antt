-- The requests of a trace as the machine holds them once they are loaded: "The tag of a request is its place in the trace, from 0".
use Rattle.std.specs.Prelude.{ℕ, ◌<◌, ◌≡◌, List, length}
use Rattle.operation.specs.declared.Words.{Words}
use Rattle.wiring.specs.Wiring.{module_of}
use Rattle.wiring.specs.Inner.Path.{PathOf}
use Rattle.view.specs.Inner.View.{View, with_fixed, carrying, with_tags, blank}
use Rattle.trace.specs.Item.{Request}
use Rattle.trace.specs.Contents.{request_at}

-- "operation, first operand, second operand"
abbrev pub asked_by : Request → Words
asked_by r = record { code = r.operation; first = r.first; second = r.second }

-- the machine holds the request r, of a trace whose network has 2^k engines, at the tag t
pub record RequestHeld (k : ℕ) (r : Request) (v : View) (t : ℕ) : Type 0 where
  pub address_is : v.fixed.address t ≡ r.address
  pub path-is : PathOf k r.engine (module_of k r.address) (v.fixed.path t)
  pub carried-is : v.carried t ≡ asked_by r

-- what stands by tag, and nothing else
abbrev pub tags_alone : View → View
tags_alone v = carrying (with_fixed blank (with_tags blank.fixed v.fixed.address v.fixed.path v.fixed.after)) v.carried

-- the machine holds each request at its tag, and nothing else is loaded
pub record RequestsHeld (k : ℕ) (requests : List Request) (v : View) : Type 0 where
  pub each : (t : ℕ) → t < length requests → RequestHeld k (request_at requests t) v t
  pub elsewhere : v ≡ tags_alone v
