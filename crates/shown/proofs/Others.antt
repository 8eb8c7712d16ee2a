-- A step leaves the other queues of its row as they were: one that was empty is empty, one that was not is not.
use Prim.Native.Nat.{ℕ, zero, suc, ◌-◌}
use mathlib.Core.Path.{◌≡◌, refl, sym, ap, ◌∙◌}
use mathlib.Core.Logic.{◌≢◌}
use mathlib.Core.Bool.{Bool, true, false}
use mathlib.Core.List.{List, [], ◌∷◌, ◌++◌}
use native.Mathlib.Omega.{arith}
use lib.Dec.{ltb}
use lib.ListN.{length}
use Rattle.lists.specs.Choice.{choose}
use Rattle.lists.specs.Search.{Found, absent, found}
use Rattle.lists.proofs.Tables.{update2-level, update2-position}
use Rattle.lists.proofs.Maps.{map-none}
use Rattle.event.specs.Event.{level_fits}
use Rattle.event.proofs.Steps.{issue-level, module-level, return-level, collect-level, step-named}
use Rattle.view.specs.Inner.View.{View}
use Rattle.machine.specs.Setup.{Setup, Message, WaitRecord, Reply, place}
use Rattle.machine.specs.State.{State}
use Rattle.machine.specs.Arrival.{Arrival, merged, appended, refused, arrive, oldest_of}
use Rattle.machine.specs.Steps.{landed, node_at, forward_oldest, forward_step, taken, serve_oldest, module_step, answered, split, lowered}
use Rattle.machine.specs.Steps.{return_oldest, return_step, collect_oldest, collect_step}
use Rattle.machine.specs.Run.{run_events}
use Rattle.shown.specs.Inner.Network.{Network, setup}
use Rattle.shown.specs.Inner.Shown.{message_of, reply_of, unissued, tags_at, shown}
use Rattle.shown.specs.Inner.Reached.{single, Moved}
use Rattle.shown.proofs.Events.{issue-is, forward-is, module-is, return-is, collect-is}
use Rattle.shown.proofs.Rests.{requests-shown, replies-shown}

-- ---- the machine's steps at another position of the row
module _ (S : Setup) (st : State S) (p q : ℕ) (apart : q ≢ p) where
  above : (s : ℕ) → s ≢ suc s
  above s z = omega arith

  -- from the oldest on
  landed-others : (s : ℕ) (rest : List (Message S)) (p' : ℕ) (a : Arrival S) → (landed S st s p rest p' a).requests s q ≡ st.requests s q
  unfolding landed
  landed-others s rest p' (merged n) = update2-level _ (suc s) p' n.queue s q (above s) ∙ update2-position st.requests s p rest s q apart
  landed-others s rest p' (appended n) = update2-level _ (suc s) p' n.queue s q (above s) ∙ update2-position st.requests s p rest s q apart
  landed-others s rest p' refused = refl

  oldest-others : (s : ℕ) (queue : List (Message S)) → (forward_oldest S st s p queue).requests s q ≡ st.requests s q
  unfolding forward_oldest
  oldest-others s [] = refl
  oldest-others s (m ∷ rest) = landed-others s rest (place S m.tag (suc s)) (arrive S (node_at S st (suc s) (place S m.tag (suc s))) m)

  forward-others : (s : ℕ) → (forward_step S s p st).requests s q ≡ st.requests s q
  unfolding forward_step
  forward-others s = oldest-others s (st.requests s p)

  module-others : (module_step S p st).requests S.k q ≡ st.requests S.k q
  unfolding module_step serve_oldest
  module-others = go (st.requests S.k p)
    where
      room : (b : Bool) (m : Message S) (rest : List (Message S)) → (choose b (taken S st p m rest) st).requests S.k q ≡ st.requests S.k q
      room true m rest = update2-position st.requests S.k p rest S.k q apart
      room false m rest = refl

      go : (queue : List (Message S)) → (serve_oldest S st p queue).requests S.k q ≡ st.requests S.k q
      go [] = refl
      go (m ∷ rest) = room (ltb (length (st.replies S.k p)) S.Q) m rest

  answered-others : (s : ℕ) (t : Reply S) (rest : List (Reply S)) (r : Found (WaitRecord S)) →
      (answered S st s p t rest r).replies (suc s) q ≡ st.replies (suc s) q
  unfolding answered
  answered-others s t rest absent = go (ltb (length (st.replies s (place S t.tag s))) S.Q)
    where
      go : (b : Bool) → (choose b (lowered S st s p t rest (place S t.tag s)) st).replies (suc s) q ≡ st.replies (suc s) q
      go true = update2-level _ s (place S t.tag s) _ (suc s) q (λ z. above s (sym z)) ∙ update2-position st.replies (suc s) p rest (suc s) q apart
      go false = refl
  answered-others s t rest (found older r younger) = go (ltb (length (st.replies s (place S r.second s))) S.Q)
    where
      go : (b : Bool) → (choose b (split S st s p t (older ++ younger) r (place S r.second s)) st).replies (suc s) q ≡ st.replies (suc s) q
      go true = update2-level st.replies s (place S r.second s) _ (suc s) q (λ z. above s (sym z))
      go false = refl

  return-others : (s : ℕ) → (return_step S s p st).replies (suc s) q ≡ st.replies (suc s) q
  unfolding return_step return_oldest
  return-others s = go (st.replies (suc s) p)
    where
      go : (queue : List (Reply S)) → (return_oldest S st s p queue).replies (suc s) q ≡ st.replies (suc s) q
      go [] = refl
      go (t ∷ rest) = answered-others s t rest (oldest_of S t.tag (st.waits (suc s) p))

  collect-others : (collect_step S p st).replies 0 q ≡ st.replies 0 q
  unfolding collect_step collect_oldest
  collect-others = go (st.replies 0 p)
    where
      go : (queue : List (Reply S)) → (collect_oldest S st p queue).replies 0 q ≡ st.replies 0 q
      go [] = refl
      go (t ∷ rest) = update2-position st.replies 0 p rest 0 q apart

-- ---- a queue is shown empty only where it is
module _ (x : Network) (v : View) (words : ℕ → ℕ) (s p : ℕ) where
  requests-held : (shown x v words).requests s p ≡ [] → v.requests s p ≡ []
  unfolding shown
  requests-held e = go s (map-none (message_of x v) (tags_at x v s p) e)
    where
      first : (l : List ℕ) → unissued x p l ≡ [] → l ≡ []
      first [] e = refl
      first (t ∷ rest) e = absurd (omega (arith, ap length e))

      go : (s : ℕ) → tags_at x v s p ≡ [] → v.requests s p ≡ []
      go zero e = first (v.requests 0 p) e
      go (suc s) e = e

  replies-held : (shown x v words).replies s p ≡ [] → v.replies s p ≡ []
  unfolding shown
  replies-held e = map-none (reply_of x v) (v.replies s p) e

-- ---- a row of requests where the test holds, else of replies
-- both are empty, or neither is
pub record Alike (l l' : List ℕ) : Type 0 where
  pub on : l ≡ [] → l' ≡ []
  pub back : l' ≡ [] → l ≡ []

module _ {x : Network} {v v' : View} {words words' : ℕ → ℕ} (what level p q : ℕ) (apart : q ≢ p) (fits : level_fits x.k what level ≡ true)
    (moved : Moved x (single what level p) v words v' words') where
  requests-alike : (shown x v' words').requests level q ≡ (shown x v words).requests level q → Alike (v.requests level q) (v'.requests level q)
  requests-alike e = record {
    on = λ z. requests-held x v' words' level q (e ∙ requests-shown x v words level q z);
    back = λ z. requests-held x v words level q (sym e ∙ requests-shown x v' words' level q z);
  }

  replies-alike : (shown x v' words').replies level q ≡ (shown x v words).replies level q → Alike (v.replies level q) (v'.replies level q)
  replies-alike e = record {
    on = λ z. replies-held x v' words' level q (e ∙ replies-shown x v words level q z);
    back = λ z. replies-held x v words level q (sym e ∙ replies-shown x v' words' level q z);
  }

  abbrev before : State (setup x)
  before = shown x v words

  requests-now : {st : State (setup x)} → run_events (setup x) (single what level p) before ≡ st → (shown x v' words').requests level q ≡ st.requests level q
  requests-now e = ap (λ (st : State (setup x)). st.requests level q) (moved.shows ∙ e)

  replies-now : {st : State (setup x)} → run_events (setup x) (single what level p) before ≡ st → (shown x v' words').replies level q ≡ st.replies level q
  replies-now e = ap (λ (st : State (setup x)). st.replies level q) (moved.shows ∙ e)

  pub row-others : Alike (choose (ltb what 3) v.requests v.replies level q) (choose (ltb what 3) v'.requests v'.replies level q)
  row-others = step-named x.k what level fits
      (λ e. let z = issue-level x.k what level e fits in
      rw e (requests-alike (requests-now (issue-is (setup x) what level p before e) ∙ rw z (forward-others (setup x) before p q apart 0))))
      (λ e. rw e (requests-alike (requests-now (forward-is (setup x) what level p before e) ∙ forward-others (setup x) before p q apart level)))
      (λ e. let z = module-level x.k what level e fits in
      rw e (requests-alike (requests-now (module-is (setup x) what level p before e) ∙ rw z (module-others (setup x) before p q apart))))
      (λ e. let z : suc (level - 1) ≡ level = omega (arith, (return-level x.k what level e fits).0) in
      rw e (replies-alike (replies-now (return-is (setup x) what level p before e) ∙ (rw z at (return-others (setup x) before p q apart (level - 1))))))
      (λ e. let z = collect-level x.k what level e fits in
      rw e (replies-alike (replies-now (collect-is (setup x) what level p before e) ∙ rw z (collect-others (setup x) before p q apart))))
