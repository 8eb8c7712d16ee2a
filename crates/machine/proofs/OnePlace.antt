-- Each request is in exactly one place, on its own path: where its number says.
use Prim.Native.Nat.{ℕ, zero, suc, ◌+◌, ◌*◌, ◌/◌, ◌%◌, ◌≤◌, ◌<◌}
use mathlib.Core.Path.{◌≡◌, refl, sym, ◌∙◌, ap}
use mathlib.Core.Option.{Option, none, some}
use native.Mathlib.Decide.{dec_lt}
use native.Mathlib.Omega.{arith}
use Rattle.lists.specs.Choice.{choose}
use Rattle.lists.proofs.Tests.{by_cases}
use Rattle.lists.proofs.Counts.{element, member-count}
use Rattle.machine.specs.Setup.{Setup, place}
use Rattle.machine.specs.State.{State}
use Rattle.machine.specs.Run.{is_answered}
use Rattle.machine.specs.Order.{Where, requested, waiting, replying, answered, times, OnPath, OnePlace}
use Rattle.machine.proofs.Tags.{message_tag, waiter_tag, reply_tag}
use Rattle.machine.proofs.Invariant.{Invariant}
use Rattle.machine.proofs.Places.{Spot, at_end, at_request, at_wait, at_reply, Held}
use Rattle.machine.proofs.Progress.{Live}
use Rattle.machine.proofs.Ordered.{order-inside, collected-member}

-- a number that is not above 0
absent : (n : ℕ) → (1 ≤ n → ⊥) → n ≡ 0
absent n f = by_cases (dec_lt 0 n) (λ (h : 0 < n). absurd (f h)) (λ (h : ¬ (0 < n)). omega arith)

module _ (S : Setup) where
  open S use {Word, R}

  -- an answer that counts has a value
  answer-of : (o : Option Word) → 1 ≤ choose (is_answered S o) 1 0 → (v : Word) × (o ≡ some v)
  answer-of none h = absurd (omega arith)
  answer-of (some v) h = (v, refl)

  -- ---- where a number says that t stands
  where_by : ℕ → ℕ → ℕ → Where
  where_by zero s t = requested s (place S t s)
  where_by (suc zero) s t = waiting s (place S t s)
  where_by (suc (suc zero)) s t = replying s (place S t s)
  where_by (suc (suc (suc _))) s t = answered

  where_of : ℕ → ℕ → Where
  where_of c t = where_by (c % 4) (c / 4) t

  where-requested : (s t : ℕ) → where_of (4 * s) t ≡ requested s (place S t s)
  unfolding where_of where_by
  where-requested s t = let a : (4 * s) % 4 ≡ 0 = omega arith in let b : (4 * s) / 4 ≡ s = omega arith in rw (a, b)

  where-waiting : (s t : ℕ) → where_of (4 * s + 1) t ≡ waiting s (place S t s)
  unfolding where_of where_by
  where-waiting s t = let a : (4 * s + 1) % 4 ≡ 1 = omega arith in let b : (4 * s + 1) / 4 ≡ s = omega arith in rw (a, b)

  where-replying : (s t : ℕ) → where_of (4 * s + 2) t ≡ replying s (place S t s)
  unfolding where_of where_by
  where-replying s t = let a : (4 * s + 2) % 4 ≡ 2 = omega arith in let b : (4 * s + 2) / 4 ≡ s = omega arith in rw (a, b)

  where-answered : (t : ℕ) → where_of 3 t ≡ answered
  unfolding where_of where_by
  where-answered t = refl

  module _ (words : ℕ → Word) (places : ℕ → ℕ) (st : State S) (I : Invariant S words places st) (H : Held S places st) where
    -- ---- whoever stands anywhere stands there, and is a request of the trace
    by_number : (t : ℕ) {c : ℕ} → c ≡ places t → where_of c t ≡ where_of (places t) t
    by_number t e = ap (λ (c : ℕ). where_of c t) e

    stands : (t : ℕ) (w : Where) → 1 ≤ times S st t w → w ≡ where_of (places t) t
    stands t (requested s p) h =
        let z = element (message_tag S) t (I.requested s p) h in
        ap (λ (q : ℕ). requested s q) (sym z.1.1.0 ∙ ap (λ (u : ℕ). place S u s) z.2)
        ∙ sym (where-requested s t) ∙ by_number t (sym z.1.0 ∙ ap places z.2)
    stands t (waiting s p) h =
        let z = element (waiter_tag S) t (I.waiting s p) h in
        ap (λ (q : ℕ). waiting s q) (sym z.1.1.0.1 ∙ ap (λ (u : ℕ). place S u s) z.2)
        ∙ sym (where-waiting s t) ∙ by_number t (sym z.1.0 ∙ ap places z.2)
    stands t (replying s p) h =
        let z = element (reply_tag S) t (I.replying s p) h in
        ap (λ (q : ℕ). replying s q) (sym z.1.1.0 ∙ ap (λ (u : ℕ). place S u s) z.2)
        ∙ sym (where-replying s t) ∙ by_number t (sym z.1.0 ∙ ap places z.2)
    stands t answered h = let z = answer-of (st.answers t) h in sym (where-answered t) ∙ by_number t (sym (I.collected t z.0 z.1).0)

    inside : (t : ℕ) (w : Where) → 1 ≤ times S st t w → t < R
    inside t (requested s p) h = let z = element (message_tag S) t (I.requested s p) h in H.known t (omega (arith, z.1.0, ap places z.2))
    inside t (waiting s p) h = let z = element (waiter_tag S) t (I.waiting s p) h in H.known t (omega (arith, z.1.0, ap places z.2))
    inside t (replying s p) h = let z = element (reply_tag S) t (I.replying s p) h in H.known t (omega (arith, z.1.0, ap places z.2))
    inside t answered h =
        let z = answer-of (st.answers t) h in
        order-inside S words places st I t (member-count (collected-member S words places st I t z.0 z.1))

    -- ---- and every request does
    There : ℕ → Where → Type 0
    There t w = (times S st t w ≡ 1) × OnPath S t w

    there : (t : ℕ) → t < R → Spot S (places t) → There t (where_of (places t) t)
    unfolding There
    there t l (at_end h) = rw (h, where-answered t) (rw (H.in_answers t h l), tt)
    there t l (at_request s i h) = rw (h, where-requested s t) (omega (arith, H.in_requests t s h, I.requested_once s (place S t s) t), (i, refl))
    there t l (at_wait s i h) =
        rw (h, where-waiting (suc s) t) (omega (arith, H.in_waits t (suc s) h, I.waiting_once (suc s) (place S t (suc s)) t), (omega arith, i, refl))
    there t l (at_reply s i h) = rw (h, where-replying s t) (omega (arith, H.in_replies t s h, I.replying_once s (place S t s) t), (i, refl))

    one_place : OnePlace S st
    unfolding There
    one_place = record {
      somewhere = λ t l. let z = there t l (H.spot t) in (where_of (places t) t, z.0, z.1, λ w n. absent (times S st t w) (λ h. n (stands t w h)));
      nowhere = λ t l w. absent (times S st t w) (λ h. omega (arith, inside t w h));
    }

-- of a state with moves left
pub live-place : (S : Setup) (words : ℕ → S.Word) {n : ℕ} (st : State S) → Live S words st n → OnePlace S st
live-place S words st L = one_place S words L.places st L.invariant L.held
