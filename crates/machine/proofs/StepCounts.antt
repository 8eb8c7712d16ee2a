-- The counts: each module step that takes a message adds one access, each arrival that merges one merge, and nothing else any.
use Prim.Native.Nat.{ℕ, zero, suc, ◌+◌, ◌-◌, ◌≤◌, ◌<◌}
use mathlib.Core.Path.{◌≡◌, refl}
use mathlib.Core.Bool.{Bool, false}
use mathlib.Core.List.{List, [], ◌∷◌, ◌++◌}
use native.Mathlib.Omega.{arith}
use lib.ListN.{length, length-append}
use lib.Dec.{eqb, ltb}
use borrow.Author.Tests.{lt-ltb, le-ltb}
use Rattle.lists.specs.Choice.{choose, both}
use Rattle.lists.specs.Search.{Found, absent, found}
use Rattle.lists.proofs.Tests.{eqb-cases, either, ltb-either}
use Rattle.event.specs.Event.{Event}
use Rattle.machine.specs.Setup.{Setup, Message, WaitRecord, Reply, place}
use Rattle.machine.specs.Arrival.{Arrival, merged, appended, refused, arrive, oldest_of}
use Rattle.machine.specs.State.{State, start, stands_for}
use Rattle.machine.specs.Steps.{node_at, landed, forward_oldest, serve_oldest, answered, return_oldest, collect_oldest}
use Rattle.machine.specs.Steps.{forward_step, module_step, return_step, collect_step, step}
use Rattle.machine.specs.Run.{run_events}
use Rattle.machine.specs.Order.{takes, is_merged, oldest_merges, merges, steps_that}

module _ (S : Setup) where
  open S use {k, Q}

  -- a message stands for one request at least
  pub stands-some : (waits : ℕ → ℕ → List (WaitRecord S)) (s t : ℕ) → 1 ≤ length (stands_for S waits s t)
  unfolding stands_for
  stands-some waits zero t = omega arith
  stands-some waits (suc s) t = rw (length-append (stands_for S waits s t)) (omega (arith, stands-some waits s t))

  module _ (st : State S) where
    -- neither count is changed
    abbrev Same : State S → Type 0
    Same x = (x.accesses ≡ st.accesses) × (x.merges ≡ st.merges)

    return-same : (s p : ℕ) → Same (return_step S s p st)
    unfolding return_step return_oldest answered
    return-same s p = go (st.replies (suc s) p)
      where
        found-same : (t : Reply S) (rest : List (Reply S)) (f : Found (WaitRecord S)) → Same (answered S st s p t rest f)
        found-same t rest absent = ltb-either Same (length (st.replies s (place S t.tag s))) Q (λ _. (refl, refl)) (λ _. (refl, refl))
        found-same t rest (found older r younger) = ltb-either Same _ Q (λ _. (refl, refl)) (λ _. (refl, refl))

        go : (l : List (Reply S)) → Same (return_oldest S st s p l)
        go [] = (refl, refl)
        go (t ∷ rest) = found-same t rest (oldest_of S t.tag (st.waits (suc s) p))

    collect-same : (e : ℕ) → Same (collect_step S e st)
    unfolding collect_step collect_oldest
    collect-same e = go (st.replies 0 e)
      where
        go : (l : List (Reply S)) → Same (collect_oldest S st e l)
        go [] = (refl, refl)
        go (t ∷ rest) = (refl, refl)

    -- an issue or a forward
    abbrev Forwarded : Bool → State S → Type 0
    Forwarded merging x = (x.accesses ≡ st.accesses) × (x.merges ≡ choose merging 1 0 + st.merges)

    forward-counts : (s p : ℕ) → Forwarded (oldest_merges S st s (st.requests s p)) (forward_step S s p st)
    unfolding forward_step forward_oldest landed
    forward-counts s p = go (st.requests s p)
      where
        landed-counts : (rest : List (Message S)) (p' : ℕ) (a : Arrival S) → Forwarded (is_merged S a) (landed S st s p rest p' a)
        landed-counts rest p' (merged n) = (refl, omega arith)
        landed-counts rest p' (appended n) = (refl, omega arith)
        landed-counts rest p' refused = (refl, omega arith)

        go : (l : List (Message S)) → Forwarded (oldest_merges S st s l) (forward_oldest S st s p l)
        go [] = (refl, omega arith)
        go (m ∷ rest) = landed-counts rest (place S m.tag (suc s)) (arrive S (node_at S st (suc s) (place S m.tag (suc s))) m)

    -- a module step
    abbrev Served : State S → Type 0
    Served x = (x.accesses ≡ choose (ltb (length st.order) (length x.order)) 1 0 + st.accesses) × (x.merges ≡ st.merges)

    module-counts : (p : ℕ) → Served (module_step S p st)
    unfolding module_step serve_oldest
    module-counts p = go (st.requests k p)
      where
        none : Served st
        none = (rw (le-ltb (length st.order) (length st.order) (omega arith)) (omega arith), refl)

        longer : (t : ℕ) → length st.order < length (st.order ++ stands_for S st.waits k t)
        longer t = omega (arith, length-append st.order (stands_for S st.waits k t), stands-some st.waits k t)

        go : (l : List (Message S)) → Served (serve_oldest S st p l)
        go [] = none
        go (m ∷ rest) = ltb-either Served (length (st.replies k p)) Q
            (λ _. (rw (lt-ltb (length st.order) (length (st.order ++ stands_for S st.waits k m.tag)) (longer m.tag)) (omega arith), refl))
            (λ _. none)

    -- ---- one event: the step from each test on
    module _ (e : Event) where
      abbrev from_return : State S
      from_return = choose (eqb e.what 3) (return_step S (e.level - 1) e.position st) (choose (eqb e.what 4) (collect_step S e.position st) st)

      abbrev from_module : Bool → State S
      from_module d = choose d (module_step S e.position st) from_return

      abbrev from_forward : Bool → State S
      from_forward c = choose c (forward_step S e.level e.position st) (from_module (eqb e.what 2))

      abbrev from_issue : Bool → State S
      from_issue b = choose b (forward_step S 0 e.position st) (from_forward (eqb e.what 1))

      rest-same : Same from_return
      rest-same =
          either Same (eqb e.what 3) (return-same (e.level - 1) e.position)
          (either Same (eqb e.what 4) (collect-same e.position) (refl, refl))

      -- the two counts, where the tests for issue, forward and module come to b, c and d
      abbrev Counted : Bool → Bool → Bool → State S → Type 0
      Counted b c d x =
          let issued = oldest_merges S st 0 (st.requests 0 e.position) in
          let forwarded = oldest_merges S st e.level (st.requests e.level e.position) in
          (x.accesses ≡ choose (both d (ltb (length st.order) (length x.order))) 1 0 + st.accesses)
          × (x.merges ≡ choose (choose b issued (both c forwarded)) 1 0 + st.merges)

      step-counted : Counted (eqb e.what 0) (eqb e.what 1) (eqb e.what 2) (step S e st)
      unfolding step
      step-counted =
          let issue = forward-counts 0 e.position in
          let forward = forward-counts e.level e.position in
          let serve = module-counts e.position in
          eqb-cases (λ b. Counted b (eqb e.what 1) (eqb e.what 2) (from_issue b)) e.what 0
          (λ z. (rw z (omega (arith, issue.0)), issue.1))
          (λ _. eqb-cases (λ c. Counted false c (eqb e.what 2) (from_forward c)) e.what 1
          (λ z. (rw z (omega (arith, forward.0)), forward.1))
          (λ _. eqb-cases (λ d. Counted false false d (from_module d)) e.what 2
          (λ _. (serve.0, omega (arith, serve.1)))
          (λ _. (omega (arith, rest-same.0), omega (arith, rest-same.1)))))

  -- ---- a list of events: what each step that meets a test adds one to counts them
  events-counted : (counted : State S → ℕ) (test : Event → State S → Bool)
      → ((st : State S) (e : Event) → counted (step S e st) ≡ choose (test e st) 1 0 + counted st)
      → (es : List Event) (st : State S) → counted (run_events S es st) ≡ steps_that S test es st + counted st
  unfolding run_events
  events-counted counted test h [] st = omega arith
  events-counted counted test h (e ∷ es) st = omega (arith, events-counted counted test h es (step S e st), h st e)

  -- from the start, where both counts are zero
  pub run-accesses : (words : ℕ → S.Word) (es : List Event) → (run_events S es (start S words)).accesses ≡ steps_that S (takes S) es (start S words)
  unfolding start
  run-accesses words es = omega (arith, events-counted (λ x. x.accesses) (takes S) (λ st e. (step-counted st e).0) es (start S words))

  pub run-merges : (words : ℕ → S.Word) (es : List Event) → (run_events S es (start S words)).merges ≡ steps_that S (merges S) es (start S words)
  unfolding start
  run-merges words es = omega (arith, events-counted (λ x. x.merges) (merges S) (λ st e. (step-counted st e).1) es (start S words))
