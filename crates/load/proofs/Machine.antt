-- One more request in the machine.
use Prim.Native.Nat.{ℕ, ◌<◌}
use mathlib.Core.Path.{◌≡◌, refl, ap, ◌∙◌}
use mathlib.Core.Logic.{◌≢◌}
use mathlib.Core.List.{List, [], ◌∷◌, ◌++◌}
use native.Mathlib.Decide.{ℕ_discrete}
use native.Mathlib.Omega.{arith}
use lib.ListN.{length, length-append, get_or-append}
use lib.Seq.{get_or-append_seam}
use Rattle.lists.proofs.Tables.{update_same, update_other}
use Rattle.lists.proofs.Tests.{by_cases}
use Rattle.wiring.specs.Wiring.{module_of}
use Rattle.wiring.specs.Inner.Path.{PathOf}
use Rattle.view.specs.Inner.View.{View, blank, with_request}
use Rattle.store.specs.Inner.Memory.{view}
use Rattle.trace.specs.Item.{Request}
use Rattle.trace.specs.Contents.{no_request, request_at}
use Rattle.load.specs.Inner.Machine.{asked_by, RequestHeld, RequestsHeld}
use Rattle.load.specs.Inner.Loop.{RequestPut}

-- where nothing is loaded, no request is held
pub none-held : (k : ℕ) {v : View} → v ≡ blank → RequestsHeld k [] v
none-held k e = rw e (record { each = λ t low. absurd (omega arith); elsewhere = refl })

-- of no requests the width does not matter
pub held_none : {k k' : ℕ} {v : View} → RequestsHeld k [] v → RequestsHeld k' [] v
held_none h = record { each = λ t low. absurd (omega arith); elsewhere = h.elsewhere }

module _ {k : ℕ} {rs : List Request} {v : View} (h : RequestsHeld k rs v) (r : Request) (path : ℕ)
    (p : PathOf k r.engine (module_of k r.address) path) where
  abbrev after : View
  after = with_request v (length rs) r.address path (asked_by r)

  held_new : RequestHeld k (request_at (rs ++ (r ∷ [])) (length rs)) after (length rs)
  held_new =
      rw (get_or-append_seam rs r [] no_request)
      (record {
        address_is = update_same v.fixed.address (length rs) r.address;
        path-is = rw (update_same v.fixed.path (length rs) path) p;
        carried-is = update_same v.carried (length rs) (asked_by r);
      })

  held-old : (t : ℕ) → t < length rs → t ≢ length rs → RequestHeld k (request_at (rs ++ (r ∷ [])) t) after t
  held-old t low n =
      let old = h.each t low in
      rw (get_or-append rs (r ∷ []) no_request t low)
      (record {
        address_is = update_other v.fixed.address (length rs) r.address n ∙ old.address_is;
        path-is = rw (update_other v.fixed.path (length rs) path n) old.path-is;
        carried-is = update_other v.carried (length rs) (asked_by r) n ∙ old.carried-is;
      })

  held_more : RequestsHeld k (rs ++ (r ∷ [])) after
  held_more = record {
    each = λ t low.
        by_cases (ℕ_discrete t (length rs)) (λ (e : t ≡ length rs). rw e held_new)
        (λ (n : t ≢ length rs). held-old t (omega (arith, length-append rs (r ∷ []))) n);
    elsewhere = ap (λ (u : View). with_request u (length rs) r.address path (asked_by r)) h.elsewhere;
  }

-- the request of the next tag is put behind the others
pub put-held : {k : ℕ} {rs : List Request} {m m' : List ℕ} {r : Request} → RequestsHeld k rs (view m) → RequestPut k r (length rs) m m' →
    RequestsHeld k (rs ++ (r ∷ [])) (view m')
put-held {r = r} h put = rw put.becomes.holds (held_more h r put.path put.path-is)
