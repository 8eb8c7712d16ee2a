-- The places of the requests: every request stands where its place says, and each place has a number of moves left from it.
use Prim.Native.Nat.{ℕ, zero, suc, ◌+◌, ◌-◌, ◌*◌, ◌/◌, ◌%◌, ◌≤◌, ◌<◌}
use mathlib.Core.Path.{◌≡◌, refl, ap}
use mathlib.Core.Logic.{◌≢◌}
use mathlib.Core.Bool.{true}
use native.Mathlib.Decide.{ℕ_discrete}
use native.Mathlib.Omega.{arith}
use Rattle.lists.specs.Table.{update}
use Rattle.lists.specs.Count.{count, total_below}
use Rattle.lists.proofs.Tests.{by_cases}
use Rattle.lists.proofs.Tables.{update_same, update_other}
use Rattle.lists.proofs.Totals.{totals-more}
use Rattle.machine.specs.Setup.{Setup, place}
use Rattle.machine.specs.State.{State}
use Rattle.machine.specs.Run.{is_answered}
use Rattle.machine.proofs.Tags.{message_tag, waiter_tag, reply_tag}

module _ (S : Setup) where
  open S use {k, R}

  -- which numbers are places
  pub data Spot (c : ℕ) : Type 0 where
    at_end : c ≡ 3 → Spot c
    at_request : (s : ℕ) → s ≤ k → c ≡ 4 * s → Spot c
    at_wait : (s : ℕ) → s < k → c ≡ 4 * suc s + 1 → Spot c
    at_reply : (s : ℕ) → s ≤ k → c ≡ 4 * s + 2 → Spot c

  pub wait-level : {c : ℕ} (s : ℕ) → c ≡ 4 * suc s + 1 → Spot c → s < k
  wait-level s e (at_end h) = omega arith
  wait-level s e (at_request s' l h) = omega arith
  wait-level s e (at_wait s' l h) = omega arith
  wait-level s e (at_reply s' l h) = omega arith

  pub reply-level : {c : ℕ} (s : ℕ) → c ≡ 4 * s + 2 → Spot c → s ≤ k
  reply-level s e (at_end h) = omega arith
  reply-level s e (at_request s' l h) = omega arith
  reply-level s e (at_wait s' l h) = omega arith
  reply-level s e (at_reply s' l h) = omega arith

  -- ---- how many moves are left from a place
  remaining_by : ℕ → ℕ → ℕ
  remaining_by zero s = 2 * k + 2 - s
  remaining_by (suc zero) s = suc s
  remaining_by (suc (suc zero)) s = suc s
  remaining_by (suc (suc (suc _))) s = 0

  pub remaining : ℕ → ℕ
  remaining c = remaining_by (c % 4) (c / 4)

  pub remaining-request : (s : ℕ) → remaining (4 * s) ≡ 2 * k + 2 - s
  unfolding remaining remaining_by
  remaining-request s = let a : (4 * s) % 4 ≡ 0 = omega arith in let b : (4 * s) / 4 ≡ s = omega arith in rw (a, b)

  pub remaining-wait : (s : ℕ) → remaining (4 * s + 1) ≡ suc s
  unfolding remaining remaining_by
  remaining-wait s = let a : (4 * s + 1) % 4 ≡ 1 = omega arith in let b : (4 * s + 1) / 4 ≡ s = omega arith in rw (a, b)

  pub remaining-reply : (s : ℕ) → remaining (4 * s + 2) ≡ suc s
  unfolding remaining remaining_by
  remaining-reply s = let a : (4 * s + 2) % 4 ≡ 2 = omega arith in let b : (4 * s + 2) / 4 ≡ s = omega arith in rw (a, b)

  pub remaining-end : remaining 3 ≡ 0
  unfolding remaining remaining_by
  remaining-end = refl

  pub remaining-none : (c : ℕ) → remaining c ≡ 0 → Spot c → c ≡ 3
  remaining-none c e (at_end h) = h
  remaining-none c e (at_request s l h) = absurd (omega (arith, remaining-request s, ap remaining h))
  remaining-none c e (at_wait s l h) = absurd (omega (arith, remaining-wait (suc s), ap remaining h))
  remaining-none c e (at_reply s l h) = absurd (omega (arith, remaining-reply s, ap remaining h))

  -- the moves left, of the requests below n
  abbrev pub left : (ℕ → ℕ) → ℕ → ℕ
  left places n = total_below n (λ u. remaining (places u))

  pub left-falls : (places : ℕ → ℕ) (t v : ℕ) → remaining v < remaining (places t) → (n : ℕ) → t < n → left (update places t v) n < left places n
  left-falls places t v less n l =
      let fewer = remaining (places t) - remaining v in
      let more : remaining (places t) ≡ remaining (update places t v t) + fewer = rw update_same (omega arith) in
      omega (arith, totals-more n (λ u. remaining (update places t v u)) (λ u. remaining (places u)) t fewer l more (λ u d. rw (update_other places t v d)))

  -- ---- every request stands where its place says; what is no request of the trace has the place 3
  pub record Held (places : ℕ → ℕ) (st : State S) : Type 0 where
    pub spot : (u : ℕ) → Spot (places u)
    pub known : (u : ℕ) → places u ≢ 3 → u < R
    pub in_requests : (u s : ℕ) → places u ≡ 4 * s → 1 ≤ count (message_tag S) u (st.requests s (place S u s))
    pub in_waits : (u s : ℕ) → places u ≡ 4 * s + 1 → 1 ≤ count (waiter_tag S) u (st.waits s (place S u s))
    pub in_replies : (u s : ℕ) → places u ≡ 4 * s + 2 → 1 ≤ count (reply_tag S) u (st.replies s (place S u s))
    pub in_answers : (u : ℕ) → places u ≡ 3 → u < R → is_answered S (st.answers u) ≡ true

  -- a request t goes to the place v, and no other leaves its own
  pub record Goes (places : ℕ → ℕ) (st st' : State S) (t v : ℕ) : Type 0 where
    pub to : Spot v
    pub uncollected : places t ≢ 3
    pub requests : (u : ℕ) → u ≢ t → (j q : ℕ) → count (message_tag S) u (st.requests j q) ≤ count (message_tag S) u (st'.requests j q)
    pub waits : (u : ℕ) → u ≢ t → (j q : ℕ) → count (waiter_tag S) u (st.waits j q) ≤ count (waiter_tag S) u (st'.waits j q)
    pub replies : (u : ℕ) → u ≢ t → (j q : ℕ) → count (reply_tag S) u (st.replies j q) ≤ count (reply_tag S) u (st'.replies j q)
    pub answers : (u : ℕ) → u ≢ t → is_answered S (st.answers u) ≡ true → is_answered S (st'.answers u) ≡ true
    pub to_requests : (s : ℕ) → v ≡ 4 * s → 1 ≤ count (message_tag S) t (st'.requests s (place S t s))
    pub to_waits : (s : ℕ) → v ≡ 4 * s + 1 → 1 ≤ count (waiter_tag S) t (st'.waits s (place S t s))
    pub to_replies : (s : ℕ) → v ≡ 4 * s + 2 → 1 ≤ count (reply_tag S) t (st'.replies s (place S t s))
    pub to_answers : v ≡ 3 → is_answered S (st'.answers t) ≡ true

  pub goes-held : (places : ℕ → ℕ) (st st' : State S) (t v : ℕ) → Held places st → Goes places st st' t v → Held (update places t v) st'
  goes-held places st st' t v H G = record {
    spot = λ u. by_cases (ℕ_discrete u t) (λ (e : u ≡ t). rw (e, update_same) G.to) (λ (n : u ≢ t). rw (update_other places t v n) (H.spot u));
    known = λ u. by_cases (ℕ_discrete u t) (λ (e : u ≡ t) h. rw e (H.known t G.uncollected))
        (λ (n : u ≢ t) h. H.known u (rw (update_other places t v n) at h));
    in_requests = λ u s. by_cases (ℕ_discrete u t) (λ (e : u ≡ t). rw (e, update_same) (G.to_requests s))
        (λ (n : u ≢ t). rw (update_other places t v n) (λ h. omega (arith, H.in_requests u s h, G.requests u n s (place S u s))));
    in_waits = λ u s. by_cases (ℕ_discrete u t) (λ (e : u ≡ t). rw (e, update_same) (G.to_waits s))
        (λ (n : u ≢ t). rw (update_other places t v n) (λ h. omega (arith, H.in_waits u s h, G.waits u n s (place S u s))));
    in_replies = λ u s. by_cases (ℕ_discrete u t) (λ (e : u ≡ t). rw (e, update_same) (G.to_replies s))
        (λ (n : u ≢ t). rw (update_other places t v n) (λ h. omega (arith, H.in_replies u s h, G.replies u n s (place S u s))));
    in_answers = λ u. by_cases (ℕ_discrete u t) (λ (e : u ≡ t). rw (e, update_same) (λ h _. G.to_answers h))
        (λ (n : u ≢ t). rw (update_other places t v n) (λ h l. G.answers u n (H.in_answers u h l)));
  }
