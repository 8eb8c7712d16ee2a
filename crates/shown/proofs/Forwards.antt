-- A message arrives one level up: what the view then stands for is the machine's forward, from level 0 its issue.
use Prim.Native.Nat.{ℕ, zero, suc, ◌+◌, ◌≤◌, ◌<◌}
use mathlib.Core.Path.{◌≡◌, refl, sym, ap, subst, ◌∙◌, fun_ext}
use mathlib.Core.Logic.{◌≢◌}
use mathlib.Core.List.{List, ◌∷◌, ◌++◌, map}
use native.Mathlib.Decide.{ℕ_discrete}
use native.Mathlib.Omega.{arith}
use lib.ListN.{length, length-map}
use Rattle.lists.specs.Table.{update2}
use Rattle.lists.specs.Count.{same, count, Distinct}
use Rattle.lists.specs.Inner.Pair.{Pair}
use Rattle.lists.proofs.Tests.{by_cases}
use Rattle.lists.proofs.Tables.{update2-same, update2-other, update2-unique, update2-two}
use Rattle.lists.proofs.Counts.{same-yes, same-no, count-append}
use Rattle.lists.proofs.Maps.{count_map}
use Rattle.wiring.specs.Inner.Path.{position_on}
use Rattle.view.specs.Inner.View.{View, with_requests}
use Rattle.machine.specs.Setup.{place}
use Rattle.machine.specs.Arrival.{arrive}
use Rattle.machine.specs.Order.{Where, requested, waiting, replying, answered}
use Rattle.machine.specs.Steps.{sent, node_at, forward_step}
use Rattle.shown.specs.Inner.Network.{Network, setup, of_engine}
use Rattle.shown.specs.Inner.Shown.{unissued, message_of, record_of, reply_of, answer_of, tags_at, shown}
use Rattle.shown.specs.Inner.Landing.{Came, came_refused, node_of, arrival_of, merges_after, with_node, Landed}
use Rattle.shown.specs.Inner.Reached.{Stands}
use Rattle.shown.proofs.Apart.{tag_times, other-kind, request-elsewhere, oldest-requested}
use Rattle.shown.proofs.Carried.{messages_in, records_in, replies_in}
use Rattle.shown.proofs.Carried.{state-eq, messages-same, records-same, replies-same, answers-same, tags_in, tags-updated}
use Rattle.shown.proofs.Reaching.{stands-apart}
use Rattle.shown.proofs.Arrivals.{arrive-full, refused-rests, landed-sends}

-- the oldest of a queue is the first of its tags
pub oldest-first : (x : Network) (v : View) (s p t : ℕ) (rest : List ℕ) → v.requests s p ≡ t ∷ rest → (behind : List ℕ) × (tags_at x v s p ≡ t ∷ behind)
oldest-first x v zero e t rest is = (of_engine x e (suc t), rw is)
oldest-first x v (suc s) p t rest is = (rest, is)

-- an arrival leaves the rest of the view
module _ {v : View} {t s p : ℕ} {v' : View} {came : Came} (L : Landed v t s p v' came) where
  pub landed-fixed : v'.fixed ≡ v.fixed
  landed-fixed = ap (λ (y : View). y.fixed) L.changes

  pub landed-rounds : v'.rounds ≡ v.rounds
  landed-rounds = ap (λ (y : View). y.rounds) L.changes

  tags-elsewhere : (x : Network) (i j : ℕ) → ¬ ((i ≡ s) × (j ≡ p)) → tags_at x v' i j ≡ tags_at x v i j
  tags-elsewhere x i j n = ap (λ (y : View). tags_at x y i j) L.changes ∙ go i n
    where
      after : View
      after = with_node v s p (v'.requests s p) (v'.waits s p) v'.carried (merges_after came v.merges)

      go : (i : ℕ) → ¬ ((i ≡ s) × (j ≡ p)) → tags_at x after i j ≡ tags_at x v i j
      go zero n = ap (unissued x j) (update2-other v.requests s p (v'.requests s p) zero j n)
      go (suc i) n = update2-other v.requests s p (v'.requests s p) (suc i) j n

-- ---- the first tag of a level and position
module _ {x : Network} {v : View} {words : ℕ → ℕ} (S : Stands x v words) (s p t : ℕ) (rest : List ℕ) (is : tags_at x v s p ≡ t ∷ rest) where
  elsewhere : (w : Where) → w ≢ requested s p → tag_times x v t w ≡ 0
  elsewhere w n = (stands-apart S).elsewhere t (requested s p) w (oldest-requested x v s p is) n

  onward : (to : ℕ) → ◌≢◌ {A = Where} (requested (suc s) to) (requested s p)
  onward to = request-elsewhere (suc s) to s p (λ e. omega (arith, e.0))

  pub forward-below : t < x.R
  forward-below = (stands-apart S).below t (requested s p) (oldest-requested x v s p is)

  -- the arriving request, those in the queue and the seconds of the wait buffer are as many requests
  pub forward-apart : (to : ℕ) → Distinct (λ (u : ℕ). u) (t ∷ (v.requests (suc s) to ++ map (λ (r : Pair). r.second) (v.waits (suc s) to)))
  forward-apart to u =
      rw (
        count-append (λ (w : ℕ). w) u (v.requests (suc s) to) _,
        count_map (λ (r : Pair). r.second) (λ (w : ℕ). w) u (v.waits (suc s) to),
      )
      (by_cases (ℕ_discrete t u)
      (λ (e : t ≡ u). subst (λ (u : ℕ). same t u + (tag_times x v u (requested (suc s) to) + tag_times x v u (waiting (suc s) to)) ≤ 1) e
      (omega (arith, same-yes t, elsewhere (requested (suc s) to) (onward to), elsewhere (waiting (suc s) to) (other-kind _ _ (λ d. omega arith)))))
      (λ (n : t ≢ u). go (tag_times x v u (requested (suc s) to)) refl n))
    where
      go : (n : ℕ) → tag_times x v u (requested (suc s) to) ≡ n → t ≢ u →
          same t u + (tag_times x v u (requested (suc s) to) + tag_times x v u (waiting (suc s) to)) ≤ 1
      go zero e n = omega (arith, same-no n, (stands-apart S).once u (waiting (suc s) to))
      go (suc m) e n =
          omega (
            arith,
            same-no n,
            (stands-apart S).once u (requested (suc s) to),
            (stands-apart S).elsewhere u (requested (suc s) to) (waiting (suc s) to) (omega arith) (other-kind _ _ (λ d. omega arith)),
          )

  -- ---- it arrives on its path
  module _ (inside : s < x.k) (to : ℕ) (at : to ≡ position_on (v.fixed.path t) (suc s)) where
    placed : to ≡ place (setup x) t (suc s)
    placed = at ∙ S.fits.path-is t forward-below (suc s) inside

    shown-oldest : (shown x v words).requests s p ≡ message_of x v t ∷ map (message_of x v) rest
    unfolding shown
    shown-oldest = ap (map (message_of x v)) is

    -- neither the queue nor the wait buffer has room
    pub forward-full : x.Q ≤ length (v.requests (suc s) to) → x.W ≤ length (v.waits (suc s) to) →
        shown x v words ≡ forward_step (setup x) s p (shown x v words)
    unfolding shown
    forward-full h g = refused-rests x (shown x v words) s p (message_of x v t) (map (message_of x v) rest) shown-oldest to placed
        (arrive-full (setup x) (node_at (setup x) (shown x v words) (suc s) to) (message_of x v t)
        (rw (length-map (v.requests (suc s) to) (message_of x v)) h) (rw (length-map (v.waits (suc s) to) (record_of x v)) g))

    module _ {v' : View} {came : Came} (L : Landed v t (suc s) to v' came) where
      shown-arrives : arrive (setup x) (node_at (setup x) (shown x v words) (suc s) to) (message_of x v t) ≡
          arrival_of x came (node_of x v' (v'.requests (suc s) to) (v'.waits (suc s) to))
      unfolding shown
      shown-arrives = L.arrives x (sym S.fits.q-is) (sym S.fits.w-is)

      pub forward-stays : came ≡ came_refused → shown x v words ≡ forward_step (setup x) s p (shown x v words)
      forward-stays c = refused-rests x (shown x v words) s p (message_of x v t) (map (message_of x v) rest) shown-oldest to placed
          (shown-arrives ∙ ap (λ (c : Came). arrival_of x c (node_of x v' (v'.requests (suc s) to) (v'.waits (suc s) to))) c)

      -- ---- who carries what they did: who stands elsewhere, and who stands behind it
      kept : (w : Where) → w ≢ requested s p → w ≢ requested (suc s) to → (u : ℕ) → 0 < tag_times x v u w → v'.carried u ≡ v.carried u
      kept w n m u h =
          L.others u (λ e. (let z : tag_times x v u w ≡ 0 = rw e (elsewhere w n) in omega arith))
          ((stands-apart S).elsewhere u w (requested (suc s) to) h (λ e. m (sym e)))

      rest-kept : (u : ℕ) → 0 < count (λ (w : ℕ). w) u rest → v'.carried u ≡ v.carried u
      rest-kept u h =
          L.others u (λ e. (let z : same t u ≡ 1 = rw e (same-yes t) in omega (arith, more, (stands-apart S).once u (requested s p))))
          ((stands-apart S).elsewhere u (requested s p) (requested (suc s) to) (omega (arith, more)) (onward to))
        where
          more : tag_times x v u (requested s p) ≡ same t u + count (λ (w : ℕ). w) u rest
          more = ap (count (λ (w : ℕ). w) u) is

      waits-sent : records_in x v' v'.waits ≡ update2 (records_in x v v.waits) (suc s) to (map (record_of x v') (v'.waits (suc s) to))
      waits-sent =
          update2-unique (records_in x v v.waits) (records_in x v' v'.waits) (suc s) to (map (record_of x v') (v'.waits (suc s) to)) refl
          (λ i j n. ap (λ (y : View). map (record_of x v') (y.waits i j)) L.changes
          ∙ ap (map (record_of x v')) (update2-other v.waits (suc s) to _ i j n)
          ∙ records-same x v v' (v.waits i j) (kept (waiting i j) (other-kind _ _ (λ e. omega arith)) (other-kind _ _ (λ e. omega arith))))

      replies-stay : replies_in x v' v'.replies ≡ replies_in x v v.replies
      replies-stay = fun_ext (λ i. fun_ext (λ j. ap (λ (y : View). map (reply_of x v') (y.replies i j)) L.changes
          ∙ replies-same x v v' (v.replies i j) (kept (replying i j) (other-kind _ _ (λ e. omega arith)) (other-kind _ _ (λ e. omega arith)))))

      answers_stay : answer_of x v' ≡ answer_of x v
      answers_stay = answers-same x v v' (ap (λ (y : View). y.answered) L.changes)
          (λ u e. kept answered (other-kind _ _ (λ e. omega arith)) (other-kind _ _ (λ e. omega arith)) u (rw e (omega arith)))

      -- ---- with the queue l in place of the one that it has left
      module _ (l : List ℕ) (left : tags_in x v s p l ≡ rest) where
        tags-left : tags_at x (with_requests v' s p l) ≡ update2 (tags_at x v') s p rest
        tags-left = tags-updated x v' s p l ∙ ap (update2 (tags_at x v') s p) (same_in s ∙ left)
          where
            same_in : (s : ℕ) → tags_in x v' s p l ≡ tags_in x v s p l
            same_in zero = refl
            same_in (suc s) = refl

        requests-sent : messages_in x v' (tags_at x (with_requests v' s p l)) ≡
            update2 (update2 (messages_in x v (tags_at x v)) s p (map (message_of x v) rest)) (suc s) to (map (message_of x v') (v'.requests (suc s) to))
        requests-sent =
            update2-two (messages_in x v (tags_at x v)) (messages_in x v' (tags_at x (with_requests v' s p l)))
            s p (map (message_of x v) rest) (suc s) to (map (message_of x v') (v'.requests (suc s) to))
            (ap (map (message_of x v')) (update2-other v'.requests s p l (suc s) to (λ e. omega (arith, e.0))))
            (ap (λ (f : ℕ → ℕ → List ℕ). map (message_of x v') (f s p)) tags-left
            ∙ ap (map (message_of x v')) (update2-same (tags_at x v') s p rest)
            ∙ messages-same x v v' (landed-fixed L) rest rest-kept)
            (λ i j n m. ap (λ (f : ℕ → ℕ → List ℕ). map (message_of x v') (f i j)) tags-left
            ∙ ap (map (message_of x v')) (update2-other (tags_at x v') s p rest i j n ∙ tags-elsewhere L x i j m)
            ∙ messages-same x v v' (landed-fixed L) (tags_at x v i j) (kept (requested i j) (request-elsewhere i j s p n) (request-elsewhere i j (suc s) to m)))

        shown-sent : shown x (with_requests v' s p l) words ≡
            sent (setup x) (shown x v words) s p (map (message_of x v) rest) to
            (node_of x v' (v'.requests (suc s) to) (v'.waits (suc s) to)) (merges_after came v.merges)
        unfolding shown
        shown-sent = state-eq _ _ requests-sent waits-sent replies-stay refl
            (ap (λ (y : View). y.order) L.changes) answers_stay (ap (λ (y : View). y.accesses) L.changes) (ap (λ (y : View). y.merges) L.changes)

        pub landed-shows : came ≢ came_refused → shown x (with_requests v' s p l) words ≡ forward_step (setup x) s p (shown x v words)
        unfolding shown
        landed-shows c =
            shown-sent ∙ landed-sends x (shown x v words) s p (message_of x v t) (map (message_of x v) rest) shown-oldest to placed came c _ shown-arrives

-- ---- above the engines
pub forward-shows : {x : Network} {v : View} {words : ℕ → ℕ} → Stands x v words → (s p t : ℕ) (rest : List ℕ) → 0 < s → s < x.k → v.requests s p ≡ t ∷ rest
    → (to : ℕ) → to ≡ position_on (v.fixed.path t) (suc s) → {v' : View} {came : Came} → Landed v t (suc s) to v' came → came ≢ came_refused
    → shown x (with_requests v' s p rest) words ≡ forward_step (setup x) s p (shown x v words)
forward-shows S zero p t rest up inside is to at L c = absurd (omega arith)
forward-shows S (suc s) p t rest up inside is to at L c = landed-shows S (suc s) p t rest is inside to at L rest refl c
