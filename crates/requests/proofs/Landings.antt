-- What came of an arrival at the node in hand, once what it changed is stored: the message has landed, or could not.
use Prim.Native.Nat.{ℕ, suc}
use mathlib.Core.Path.{◌≡◌, refl, sym, ap, ap₂, subst, ◌∙◌}
use mathlib.Core.Logic.{◌≢◌}
use mathlib.Core.Bool.{true, false}
use mathlib.Core.List.{List}
use native.Mathlib.Omega.{arith}
use lib.ListN.{length}
use Rattle.lists.specs.Count.{count}
use Rattle.lists.specs.Table.{update2}
use Rattle.lists.specs.Inner.Pair.{Pair}
use Rattle.lists.proofs.Tables.{update2-same, update2-idle}
use Rattle.lists.proofs.Below.{length-down}
use Rattle.words.specs.Inner.Digits.{byte_in}
use Rattle.operation.specs.declared.Words.{Words}
use Rattle.queue.specs.Inner.Queue.{tags_of, pairs_of}
use Rattle.view.specs.Inner.View.{View, filled, carrying, with_requests, with_waits, with_merge}
use Rattle.store.specs.Inner.Memory.{view, Becomes}
use Rattle.machine.specs.Arrival.{arrive}
use Rattle.shown.specs.Inner.Network.{Network, setup}
use Rattle.shown.specs.Inner.Shown.{message_of}
use Rattle.shown.specs.Inner.Landing.{Came, came_merged, came_appended, came_refused, node_of, arrival_of, merges_after, with_node, Landed}
use Rattle.node.specs.Inner.Node.{came_of, ArrivedAt}
use Rattle.node.specs.declared.Node.{Node}
use Rattle.node.specs.declared.Arrived.{Arrived}
use Rattle.node.specs.declared.Outcome.{Outcome}
use Rattle.node.specs.declared.Outcome.TheVariants.{Merged, Appended, Refused}
use Rattle.moves.specs.Inner.Moves.{Went}

-- ---- outcomes differ
abbrev mark : Came → ℕ
mark came_merged = 0
mark came_appended = 1
mark came_refused = 2

merged-stays : came_merged ≢ came_refused
merged-stays e = omega (arith, ap mark e)

appended-stays : came_appended ≢ came_refused
appended-stays e = omega (arith, ap mark e)

refused-unmerged : {o : Outcome} → o ≡ Refused → o ≢ Merged
refused-unmerged e f = omega (arith, ap (λ (o : Outcome). mark (came_of o)) (sym e ∙ f))

-- ---- a node by its queue and its wait buffer
module _ (v : View) (s p : ℕ) where
  -- a queue that stays, or a wait buffer
  requests-idle : (waits : ℕ → ℕ → List Pair) (carried : ℕ → Words) (merges : ℕ) →
      filled v v.requests waits carried merges ≡ filled v (update2 v.requests s p (v.requests s p)) waits carried merges
  requests-idle waits carried merges = ap (λ (f : ℕ → ℕ → List ℕ). filled v f waits carried merges) (sym (update2-idle v.requests s p))

  waits-idle : (requests : ℕ → ℕ → List ℕ) (carried : ℕ → Words) (merges : ℕ) →
      filled v requests v.waits carried merges ≡ filled v requests (update2 v.waits s p (v.waits s p)) carried merges
  waits-idle requests carried merges = ap (λ (f : ℕ → ℕ → List Pair). filled v requests f carried merges) (sym (update2-idle v.waits s p))

-- ---- what came of the arrival at the node
module _ {n : Node} {v : View} {t q w : ℕ} {m₁ : List ℕ} {r : Arrived} (A : ArrivedAt n v t q w m₁ r) {s p : ℕ} (in-queue : tags_of n.queue ≡ v.requests s p) where
  -- an append makes the machine's queue longer by one, a merge its wait buffer
  pub longer-by-one : r.outcome ≡ Appended → r.node.queue.len ≡ suc (length ((view m₁).requests s p))
  longer-by-one o =
      omega (
        arith,
        A.longer o,
        length-down n.queue.len (byte_in n.queue.items),
        ap (length {A = ℕ}) in-queue,
        ap (λ (y : View). length (y.requests s p)) A.changes,
      )

  loaded-others : (u : ℕ) → u ≢ t → count (λ (w : ℕ). w) u (v.requests s p) ≡ 0 → (view m₁).carried u ≡ v.carried u
  loaded-others u d h = A.others u d (ap (count (λ (w : ℕ). w) u) in-queue ∙ h)

  -- with its wait buffer and the rooms
  module _ (in-waiting : pairs_of n.waiting ≡ v.waits s p) (room-q : q ≡ v.fixed.q) (room-w : w ≡ v.fixed.w) where
    loaded-arrives : (x : Network) → x.Q ≡ v.fixed.q → x.W ≡ v.fixed.w →
        arrive (setup x) (node_of x v (v.requests s p) (v.waits s p)) (message_of x v t) ≡
        arrival_of x (came_of r.outcome) (node_of x (carrying v (view m₁).carried) (tags_of r.node.queue) (pairs_of r.node.waiting))
    loaded-arrives x e f =
        ap₂ (λ (a : List ℕ) (b : List Pair). arrive (setup x) (node_of x v a b) (message_of x v t)) (sym in-queue) (sym in-waiting)
        ∙ A.arrives x (e ∙ sym room-q) (f ∙ sym room-w)
        ∙ ap (λ (y : View). arrival_of x (came_of r.outcome) (node_of x y (tags_of r.node.queue) (pairs_of r.node.waiting))) A.changes

    -- what is stored, where it was not refused
    module _ (came : Came) (c : came_of r.outcome ≡ came) (moved : came ≢ came_refused) where
      landed-node : (tags : List ℕ) (pairs : List Pair) → tags_of r.node.queue ≡ tags → pairs_of r.node.waiting ≡ pairs
          → Landed v t s p (with_node v s p tags pairs (view m₁).carried (merges_after came v.merges)) came
      landed-node tags pairs inTags inPairs = record {
        arrives = λ x e f. loaded-arrives x e f
            ∙ ap (λ (o : Came). arrival_of x o (node_of x (carrying v (view m₁).carried) (tags_of r.node.queue) (pairs_of r.node.waiting))) c
            ∙ ap₂ (λ (a : List ℕ) (b : List Pair). arrival_of x came (node_of x (carrying v (view m₁).carried) a b))
            (inTags ∙ sym (update2-same v.requests s p tags)) (inPairs ∙ sym (update2-same v.waits s p pairs));
        changes = ap₂ (λ (a : List ℕ) (b : List Pair). with_node v s p a b (view m₁).carried (merges_after came v.merges))
            (sym (update2-same v.requests s p tags)) (sym (update2-same v.waits s p pairs));
        others = loaded-others;
        refusal = λ e. absurd (moved e);
      }

    -- "the step changes nothing"
    pub went-refused : r.outcome ≡ Refused → Went v t s p m₁ false
    went-refused o = record {
      sized = A.sized;
      came = came_refused;
      told = refl;
      landed = subst (λ (y : View). Landed v t s p y came_refused) (sym (A.unmerged (refused-unmerged o))) stays;
    }
      where
        stays : Landed v t s p v came_refused
        stays = record {
          arrives = λ x e f. loaded-arrives x e f
              ∙ ap (λ (o : Outcome). arrival_of x (came_of o) (node_of x (carrying v (view m₁).carried) (tags_of r.node.queue) (pairs_of r.node.waiting))) o;
          changes = requests-idle v s p v.waits v.carried v.merges ∙ waits-idle v s p _ v.carried v.merges;
          others = λ u d h. refl;
          refusal = λ _. refl;
        }

    -- its tag is in the queue
    pub went-appended : r.outcome ≡ Appended → {m' : List ℕ} → Becomes m' (with_requests (view m₁) s p (tags_of r.node.queue)) → Went v t s p m' true
    went-appended o {m'} B = record {
      sized = B.sized;
      came = came_appended;
      told = refl;
      landed = subst (λ (y : View). Landed v t s p y came_appended) (sym stored)
          (landed-node came_appended (ap came_of o) appended-stays _ (v.waits s p) refl (ap pairs_of (A.waiting_stays o) ∙ in-waiting));
    }
      where
        stored : view m' ≡ with_node v s p (tags_of r.node.queue) (v.waits s p) (view m₁).carried v.merges
        stored = B.holds ∙ ap (λ (y : View). with_requests y s p (tags_of r.node.queue)) A.changes ∙ waits-idle v s p _ _ _

    -- its record is in the wait buffer, and the merge is counted
    module _ {m₂ : List ℕ} (B : Becomes m₂ (with_waits (view m₁) s p (pairs_of r.node.waiting))) where
      pub went-merged : r.outcome ≡ Merged → {m' : List ℕ} → Becomes m' (with_merge (view m₂)) → Went v t s p m' true
      went-merged o {m'} C = record {
        sized = C.sized;
        came = came_merged;
        told = refl;
        landed = subst (λ (y : View). Landed v t s p y came_merged) (sym stored)
            (landed-node came_merged (ap came_of o) merged-stays (v.requests s p) _ (ap tags_of (A.queue-stays o) ∙ in-queue) refl);
      }
        where
          stored : view m' ≡ with_node v s p (v.requests s p) (pairs_of r.node.waiting) (view m₁).carried (suc v.merges)
          stored = C.holds ∙ ap with_merge (B.holds ∙ ap (λ (y : View). with_waits y s p (pairs_of r.node.waiting)) A.changes) ∙ requests-idle v s p _ _ _
