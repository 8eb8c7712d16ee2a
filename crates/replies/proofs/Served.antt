-- The oldest message at a module taken, with all that the requests it stands for need: the machine's module step.
use Prim.Native.Nat.{ℕ, ◌+◌, ◌≤◌, ◌<◌}
use mathlib.Core.Path.{◌≡◌, refl, sym, ap, ◌∙◌, fun_ext}
use mathlib.Core.Logic.{◌≢◌}
use mathlib.Core.List.{List, ◌∷◌}
use native.Mathlib.Decide.{ℕ_discrete}
use native.Mathlib.Omega.{arith}
use lib.ListN.{length, get_or, drop, set, length-set}
use lib.Seq.{get_or-set_same, get_or-set_other}
use Rattle.lists.specs.Table.{update}
use Rattle.lists.proofs.Tests.{by_cases}
use Rattle.lists.proofs.Tables.{update_same, update_other}
use Rattle.lists.proofs.Lists.{first-is}
use Rattle.operation.specs.Operation.{applied}
use Rattle.view.specs.Inner.View.{with_requests, with_carried, with_order, with_access, operation_in, valued, with_reply}
use Rattle.store.specs.Inner.Memory.{view, Becomes}
use Rattle.shown.specs.Inner.Network.{Network}
use Rattle.shown.specs.Inner.Shown.{tags_for}
use Rattle.shown.specs.Inner.Reached.{single, Stands}
use Rattle.shown.proofs.Reaching.{stands-sound, stands-apart}
use Rattle.shown.proofs.Rely.{request-below, address-few, accesses-few}
use Rattle.shown.proofs.Expansion.{order-room}
use Rattle.shown.proofs.ModuleSteps.{module-full, module-shows}
use Rattle.shown.proofs.Events.{module-moves}
use Rattle.moves.specs.Inner.Moves.{words_in, ReadyWith, MovesWith}
use Rattle.replies.proofs.Shape.{shape-small}

-- "store f(old)"
words-set : (words : List ℕ) (a value : ℕ) → a < length words → words_in (set words a value) ≡ update (words_in words) a value
words-set words a value h = fun_ext (λ b. by_cases (ℕ_discrete b a)
    (λ (e : b ≡ a). rw e (get_or-set_same words a value 0 h ∙ sym (update_same (words_in words) a value)))
    (λ (n : b ≢ a). get_or-set_other words a b value 0 n ∙ sym (update_other (words_in words) a value n)))

module _ {m words : List ℕ} (R : ReadyWith m words) (k : ℕ) (is_k : k ≡ (view m).fixed.k) where
  -- the level of the modules, in each network that the machine stands for
  module-level : (x : Network) → Stands x (view m) (words_in words) → k ≡ x.k
  module-level x S = is_k ∙ S.fits.k-is

  pub level-fits : (0 < k) × (k < 5)
  level-fits = (omega (arith, is_k, shape-small R.stands), omega (arith, is_k, shape-small R.stands))

  module _ (p : ℕ) where
    -- "Nothing happens if the reply queue is full"
    pub served-full : (view m).fixed.q ≤ length ((view m).replies k p) → MovesWith (single 2 (view m).fixed.k p) m words m words
    served-full full = record {
      sized = R.sized;
      words-sized = R.words-sized;
      moved = λ x S. module-moves 2 (view m).fixed.k p refl refl refl
          (module-full x (view m) (words_in words) p (rw (← module-level x S) (omega (arith, S.fits.q-is, full))));
    }

    pub request-there : 0 < length ((view m).requests (view m).fixed.k p) → 0 < length ((view m).requests k p)
    request-there some = rw is_k some

-- the oldest message at position p of level k, the modules', has the tag t, and its reply has room
pub record Oldest (m words : List ℕ) (k p t : ℕ) : Type 0 where
  pub ready : ReadyWith m words
  pub at-modules : k ≡ (view m).fixed.k
  pub some : 0 < length ((view m).requests (view m).fixed.k p)
  pub room : length ((view m).replies k p) < (view m).fixed.q
  pub oldest : t ≡ get_or ((view m).requests k p) 0 0

pub oldest-at : {m words : List ℕ} {k p t : ℕ} → ReadyWith m words → k ≡ (view m).fixed.k → 0 < length ((view m).requests (view m).fixed.k p) →
    t ≡ get_or ((view m).requests k p) 0 0 → length ((view m).replies k p) < (view m).fixed.q → Oldest m words k p t
oldest-at R e some oldest room = record { ready = R; at-modules = e; some = some; room = room; oldest = oldest }

module _ {m words : List ℕ} {k p t : ℕ} (O : Oldest m words k p t) where
  oldest-there : 0 < length ((view m).requests k p)
  oldest-there = request-there O.ready k O.at-modules p O.some

  abbrev rest : Network → List ℕ
  rest x = drop 1 ((view m).requests x.k p)

  module-oldest : (x : Network) → Stands x (view m) (words_in words) → (view m).requests x.k p ≡ t ∷ rest x
  module-oldest x S = rw (module-level O.ready k O.at-modules x S) at (first-is ((view m).requests k p) t oldest-there O.oldest)

  -- the order list has room for the requests that it stands for
  pub order-fits : length (view m).order + length (tags_for (view m).fixed.path (view m).waits k t) ≤ 256
  order-fits =
      let S = O.ready.stands in
      let x = O.ready.network in
      let room = order-room x (view m) (words_in words) S.fits (stands-sound S) p t (rest x) (module-oldest x S) in
      rw (module-level O.ready k O.at-modules x S) (omega (arith, room, S.fits.ranges.R-most))

  module _ {m₁ : List ℕ} (expanded : Becomes m₁ (with_order (view m) (tags_for (view m).fixed.path (view m).waits k t))) where
    pub access-room : (view m₁).accesses < 65536
    access-room =
        let R = O.ready in
        let few = accesses-few R.network (view m) R.stands.fits (words_in words) (stands-sound R.stands) in
        rw expanded.holds (omega (arith, few))

    module _ {m₂ words' : List ℕ} (old : ℕ) (counted : Becomes m₂ (with_access (view m₁))) (was : old ≡ get_or words ((view m₂).fixed.address t) 0)
        (stored : words' ≡ set words ((view m₂).fixed.address t) (applied (operation_in ((view m₂).carried t)) (get_or words ((view m₂).fixed.address t) 0)))
        {m₃ : List ℕ} (valuedIn : Becomes m₃ (with_carried (view m₂) t (valued ((view m₂).carried t) old))) where
      module _ {m₄ : List ℕ} (pushed : Becomes m₄ (with_reply (view m₃) k p t)) where
        pub served : {m₅ : List ℕ} → Becomes m₅ (with_requests (view m₄) k p (drop 1 ((view m₄).requests k p))) →
            MovesWith (single 2 (view m).fixed.k p) m words m₅ words'
        served popped = record {
          sized = popped.sized;
          words-sized = ap length stored ∙ length-set words _ _ ∙ O.ready.words-sized;
          moved = λ x S.
              let e = module-level O.ready k O.at-modules x S in
              let is = module-oldest x S in
              let a = address-few x (view m) S.fits t (request-below x (view m) (stands-apart S) x.k p t (rest x) is) in
              let now = applied (operation_in ((view m).carried t)) (words_in words ((view m).fixed.address t)) in
              let here = words-set words ((view m).fixed.address t) now (omega (arith, a, O.ready.words-sized)) in
              rw (stored, popped.holds, pushed.holds, valuedIn.holds, was, counted.holds, expanded.holds, here)
              (module-moves 2 (view m).fixed.k p refl refl refl (rw e (module-shows x (view m) (words_in words) S.fits (stands-sound S) p t (rest x) is
              (rw (← e) (omega (arith, O.room, S.fits.q-is))))));
        }
