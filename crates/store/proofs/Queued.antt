-- Queues and wait buffers in their regions: read, and written at one level and position.
use Prim.Native.Nat.{ℕ, suc, ◌+◌, ◌-◌, ◌*◌, ◌≤◌, ◌<◌}
use mathlib.Core.Path.{◌≡◌, refl, sym, ap, ◌∙◌}
use mathlib.Core.Logic.{◌≢◌}
use mathlib.Core.List.{List, [], ◌∷◌, ◌++◌}
use native.Mathlib.Decide.{ℕ_discrete}
use native.Mathlib.Nat.{zero-add}
use native.Mathlib.Omega.{arith}
use borrow.Author.Tests.{lt-ltb, le-ltb, ne_eqb}
use lib.Dec.{eqb, ltb}
use lib.ListN.{length, get_or, set, drop, length-set}
use lib.Seq.{get_or-set_same, get_or-set_other}
use Rattle.lists.specs.Choice.{choose}
use Rattle.lists.specs.Table.{update, update2}
use Rattle.lists.proofs.Tests.{by_cases, choose_yes, choose_no}
use Rattle.lists.proofs.Tables.{update_same, update_other, update-idle}
use Rattle.lists.proofs.Below.{length-below, length-down, down-push, down-less}
use Rattle.words.specs.Inner.Digits.{length_in, byte_in, Pushed}
use Rattle.words.proofs.Digits.{digit_low}
use Rattle.queue.specs.declared.Tags.{Tags}
use Rattle.queue.specs.Inner.Queue.{tags_in, pairs_in, tags_of}
use Rattle.view.specs.Inner.View.{with_requests, with_replies, with_waits, with_reply}
use Rattle.store.specs.Inner.Layout.{size, at_count, at_request_lengths, at_reply_lengths, at_wait_lengths, at_requests, at_replies, at_firsts, at_seconds}
use Rattle.store.specs.Inner.Memory.{grid_at, lengths_at, requests_at, buffers_at, fixed_in, view, Becomes, RowOf}
use Rattle.store.specs.Inner.Kinds.{Kind, requests, replies, lengths_of, words_of, lowest, queues_in, with_queue}
use Rattle.store.proofs.Grid.{grid-here, grid-changed}
use Rattle.store.proofs.Held.{Reading, as_tags, alone, as_requests, held_at, requests-held, requests-above, Told, tags-told}
use Rattle.store.proofs.Held.{alone-first, requests-none, requests-told}
use Rattle.store.proofs.Regions.{Kept, becomes}

-- ---- read

module _ (m : List ℕ) (level position : ℕ) (on : (level < 5) × (position < 16)) where
  -- any level of the requests
  requests-read : (view m).requests level position ≡ as_requests level (grid_at at_requests m level position) (lengths_at at_request_lengths m level position)
  unfolding view
  requests-read = ap (λ (f : ℕ → ℕ → List ℕ). f level position) (requests-held m) ∙ grid-here _ on.0 on.1

  pub request-none : eqb (lengths_at at_request_lengths m level position) 0 ≡ eqb (length ((view m).requests level position)) 0
  request-none =
      sym (ap (λ (l : List ℕ). eqb (length l) 0) requests-read
      ∙ requests-none level (grid_at at_requests m level position) (lengths_at at_request_lengths m level position))

  requests-here : 0 < level → (view m).requests level position ≡ tags_in (grid_at at_requests m level position) (lengths_at at_request_lengths m level position)
  requests-here a = requests-read ∙ requests-above a _ _

  replies-here : (view m).replies level position ≡ tags_in (grid_at at_replies m level position) (lengths_at at_reply_lengths m level position)
  unfolding view
  replies-here = grid-here _ on.0 on.1

  waits-here : (view m).waits level position ≡
      pairs_in (grid_at at_firsts m level position) (grid_at at_seconds m level position) (lengths_at at_wait_lengths m level position)
  unfolding view
  waits-here = grid-here _ on.0 on.1

  replies-length : length ((view m).replies level position) ≡ lengths_at at_reply_lengths m level position
  replies-length = ap length replies-here ∙ length-down _ _

  pub waits-length : length ((view m).waits level position) ≡ lengths_at at_wait_lengths m level position
  waits-length = ap length waits-here ∙ length-below _ _

  -- as it is loaded
  pub waits-is : (n : ℕ) → n ≡ length ((view m).waits level position) →
      pairs_in (grid_at at_firsts m level position) (grid_at at_seconds m level position) n ≡ (view m).waits level position
  waits-is n e = ap (λ (k : ℕ). pairs_in (grid_at at_firsts m level position) (grid_at at_seconds m level position) k) (e ∙ waits-length) ∙ sym waits-here

-- a queue by value is as long as it says
pub held-length : (r : Tags) (l : List ℕ) → tags_of r ≡ l → length l ≡ r.len
held-length r l e = ap length (sym e) ∙ length-down _ _

-- a queue is empty where its length is 0
row_of : {read : Reading} → Told read → (lengths from : ℕ) (m : List ℕ) (level : ℕ) → level < 5 →
    RowOf (held_at read lengths from m level) (get_or m (lengths + level) 0)
row_of {read} t lengths from m level a = record {
  empty = λ p l e. here p l ∙ ap (λ (k : ℕ). read level (grid_at from m level p) k) e ∙ t.none level _;
  full = λ p l n z. n (t.short level _ _ (sym (here p l) ∙ z));
}
  where
    here : (p : ℕ) → p < 16 → held_at read lengths from m level p ≡ read level (grid_at from m level p) (lengths_at lengths m level p)
    here p l = grid-here _ a l

pub request-row : (m : List ℕ) (level : ℕ) → level < 5 → RowOf ((view m).requests level) (get_or m (at_request_lengths + level) 0)
unfolding view
request-row m level a = rw (requests-held m) (row_of requests-told at_request_lengths at_requests m level a)

pub reply-row : (m : List ℕ) (level : ℕ) → level < 5 → RowOf ((view m).replies level) (get_or m (at_reply_lengths + level) 0)
unfolding view
reply-row m level a = row_of tags-told at_reply_lengths at_replies m level a

-- ---- written

-- one length in its row
module _ (lengths : ℕ) (m m' : List ℕ) (level position n : ℕ)
    (e : length_in (get_or m' (lengths + level) 0) ≡ update (length_in (get_or m (lengths + level) 0)) position n) where
  length-here : lengths_at lengths m' level position ≡ n
  length-here = ap (λ (f : ℕ → ℕ). f position) e ∙ update_same _ position n

  length-other : (s p : ℕ) → (s ≢ level → get_or m' (lengths + s) 0 ≡ get_or m (lengths + s) 0) →
      ¬ ((s ≡ level) × (p ≡ position)) → lengths_at lengths m' s p ≡ lengths_at lengths m s p
  length-other s p h d =
      by_cases (ℕ_discrete s level) (λ (z : s ≡ level). rw (z, e) (update_other _ position n (λ y. d (z, y)))) (λ (z : s ≢ level). rw (h z))

-- a queue is another one; all other queues, and all words that are not theirs, are as they were
pub record Changed (read : Reading) (lengths from : ℕ) (m m' : List ℕ) (level position : ℕ) (l : List ℕ) : Type 0 where
  pub sized : length m' ≡ size
  pub inside : held_at read lengths from m' ≡ update2 (held_at read lengths from m) level position l
  pub outside : Kept lengths 5 from 80 m m'

requests-changed : {m m' : List ℕ} {level position : ℕ} {l : List ℕ} →
    Changed as_requests at_request_lengths at_requests m m' level position l → Becomes m' (with_requests (view m) level position l)
unfolding view
requests-changed {m} {m'} {level} {position} {l} c =
    let e : requests_at m' ≡ update2 (requests_at m) level position l =
    requests-held m' ∙ c.inside ∙ ap (λ (f : ℕ → ℕ → List ℕ). update2 f level position l) (sym (requests-held m)) in
    becomes at_request_lengths 5 at_requests 80 m m' c.outside c.sized (rw e)

replies-changed : {m m' : List ℕ} {level position : ℕ} {l : List ℕ} →
    Changed as_tags at_reply_lengths at_replies m m' level position l → Becomes m' (with_replies (view m) level position l)
unfolding view
replies-changed {m} {m'} c = becomes at_reply_lengths 5 at_replies 80 m m' c.outside c.sized (rw c.inside)

module _ (read : Reading) (lengths from : ℕ) (m : List ℕ) (level position : ℕ)
    (placed : (lengths + 5 ≤ from) × (from + 80 ≤ size)) (on : (level < 5) × (position < 16)) (fits : length m ≡ size) where
  abbrev at : ℕ
  at = from + (level * 16 + position)

  abbrev row : ℕ
  row = lengths + level

  changed : (m' : List ℕ) (w n : ℕ) (l : List ℕ) → length m' ≡ size → get_or m' at 0 ≡ w →
      length_in (get_or m' row 0) ≡ update (length_in (get_or m row 0)) position n →
      ((k : ℕ) → k ≢ at → k ≢ row → get_or m' k 0 ≡ get_or m k 0) → read level w n ≡ l → Changed read lengths from m m' level position l
  changed m' w n l sized there e h t = record {
    sized = sized;
    inside =
        grid-changed _ _ level position l on.0 on.1 (rw (there, length-here lengths m m' level position n e) t)
        (λ s p a' b' d. rw (
          h (from + (s * 16 + p)) (λ z. d (omega arith)) (λ z. omega arith),
          length-other lengths m m' level position n e s p (λ y. h (lengths + s) (λ z. omega arith) (λ z. y (omega arith))) d,
        ));
    outside = λ k f g. h k (λ z. g (omega arith)) (λ z. f (omega arith));
  }

  -- the row beside a new word of tags is as it was
  row_kept : (w : ℕ) → get_or (set m at w) row 0 ≡ get_or m row 0
  row_kept w = get_or-set_other m at row w 0 (omega arith)

  -- a word of tags, and its length
  queue-stored : (w v n : ℕ) (l : List ℕ) → length_in v ≡ update (length_in (get_or m row 0)) position n → read level w n ≡ l →
      Changed read lengths from m (set (set m at w) row v) level position l
  queue-stored w v n l e =
      changed (set (set m at w) row v) w n l (rw (length-set, length-set) fits)
      (get_or-set_other (set m at w) row at v 0 (omega arith) ∙ get_or-set_same m at w 0 (omega arith))
      (rw (get_or-set_same (set m at w) row v 0 (rw length-set (omega arith))) e)
      (λ k f g. get_or-set_other (set m at w) row k v 0 g ∙ get_or-set_other m at k w 0 f)

  -- a word of tags alone
  queue-replaced : (w : ℕ) (l : List ℕ) → read level w (length_in (get_or m row 0) position) ≡ l → Changed read lengths from m (set m at w) level position l
  queue-replaced w l =
      changed (set m at w) w _ l (rw length-set fits) (get_or-set_same m at w 0 (omega arith))
      (rw (row_kept w) (sym (update-idle (length_in (get_or m row 0)) position))) (λ k f g. get_or-set_other m at k w 0 f)

  -- its length alone
  queue-cut : (v n : ℕ) (l : List ℕ) → length_in v ≡ update (length_in (get_or m row 0)) position n →
      read level (get_or m at 0) n ≡ l → Changed read lengths from m (set m row v) level position l
  queue-cut v n l e =
      changed (set m row v) (get_or m at 0) n l (rw length-set fits)
      (get_or-set_other m row at v 0 (omega arith)) (rw (get_or-set_same m row v 0 (omega arith)) e) (λ k f g. get_or-set_other m row k v 0 g)

  -- a queue that is read as tags
  module _ (tags : (w n : ℕ) → read level w n ≡ tags_in w n) (queue : List ℕ) (here : queue ≡ tags_in (get_or m at 0) (length_in (get_or m row 0) position)) where
    -- beside a new word of tags the length is still to be changed
    count_kept : (w : ℕ) → length_in (get_or (set m at w) row 0) position ≡ length queue
    count_kept w = ap (λ (x : ℕ). length_in x position) (row_kept w) ∙ sym (ap length here ∙ length-down _ _)

    queue-popped : (v : ℕ) → 0 < length queue → length_in v ≡ update (length_in (get_or m row 0)) position (length_in (get_or m row 0) position - 1) →
        Changed read lengths from m (set m row v) level position (drop 1 queue)
    queue-popped v h e =
        let w = get_or m at 0 in
        let n = length_in (get_or m row 0) position in
        queue-cut v (n - 1) (drop 1 queue) e
        (tags w (n - 1) ∙ down-less n (byte_in w) (omega (arith, ap length here, length-down n (byte_in w))) ∙ ap (drop 1) (sym here))

    -- a word of tags, and its length as it is after the word is written
    tags-stored : (w v k n : ℕ) → k ≡ n → length_in v ≡ update (length_in (get_or (set m at w) row 0)) position k →
        Changed read lengths from m (set (set m at w) row v) level position (tags_in w n)
    tags-stored w v k n z e = queue-stored w v n (tags_in w n) (rw (row_kept w, z) at e) (tags w n)

module _ (m : List ℕ) (fits : length m ≡ size) (level position : ℕ) (on : (level < 5) × (position < 16)) where
  abbrev request_at : ℕ
  request_at = at_requests + (level * 16 + position)

  abbrev request_row : ℕ
  request_row = at_request_lengths + level

  abbrev reply_at : ℕ
  reply_at = at_replies + (level * 16 + position)

  abbrev reply_row : ℕ
  reply_row = at_reply_lengths + level

  module _ (a : 0 < level) where
    pub request-count-kept : (w : ℕ) → length_in (get_or (set m request_at w) request_row 0) position ≡ length ((view m).requests level position)
    request-count-kept =
        count_kept as_requests at_request_lengths at_requests m level position (omega arith) on fits (requests-above a) _ (requests-here m level position on a)

    pub requests-stored : (w v k n : ℕ) → k ≡ n → length_in v ≡ update (length_in (get_or (set m request_at w) request_row 0)) position k →
        Becomes (set (set m request_at w) request_row v) (with_requests (view m) level position (tags_in w n))
    requests-stored w v k n z e =
        requests-changed (tags-stored as_requests at_request_lengths at_requests m level position (omega arith) on fits (requests-above a) _
        (requests-here m level position on a) w v k n z e)

    pub request-popped : (v : ℕ) → 0 < length ((view m).requests level position) →
        length_in v ≡ update (length_in (get_or m request_row 0)) position (length_in (get_or m request_row 0) position - 1) →
        Becomes (set m request_row v) (with_requests (view m) level position (drop 1 ((view m).requests level position)))
    request-popped v h e =
        requests-changed (queue-popped as_requests at_request_lengths at_requests m level position (omega arith) on fits (requests-above a) _
        (requests-here m level position on a) v h e)

  pub reply-count-kept : (w : ℕ) → length_in (get_or (set m reply_at w) reply_row 0) position ≡ length ((view m).replies level position)
  reply-count-kept = count_kept as_tags at_reply_lengths at_replies m level position (omega arith) on fits (λ w n. refl) _ (replies-here m level position on)

  pub reply-popped : (v : ℕ) → 0 < length ((view m).replies level position) →
      length_in v ≡ update (length_in (get_or m reply_row 0)) position (length_in (get_or m reply_row 0) position - 1) →
      Becomes (set m reply_row v) (with_replies (view m) level position (drop 1 ((view m).replies level position)))
  reply-popped v h e =
      replies-changed (queue-popped as_tags at_reply_lengths at_replies m level position (omega arith) on fits (λ w n. refl) _
      (replies-here m level position on) v h e)

  pub reply-pushed : (t w v : ℕ) → length ((view m).replies level position) < 8 → Pushed (get_or m reply_at 0) t w →
      length_in v ≡ update (length_in (get_or (set m reply_at w) reply_row 0)) position (suc (length_in (get_or (set m reply_at w) reply_row 0) position)) →
      Becomes (set (set m reply_at w) reply_row v) (with_reply (view m) level position t)
  reply-pushed t w v h p e =
      let n = length_in (get_or m reply_row 0) position in
      let k : length_in (get_or m reply_row 0) position < 8 = omega (arith, replies-length m level position on) in
      let q : tags_in w (suc n) ≡ (view m).replies level position ++ (t ∷ []) =
      down-push n (byte_in (get_or m reply_at 0)) (byte_in w) t p.lowest (λ i l. p.above i (omega arith))
      ∙ ap (λ (l : List ℕ). l ++ (t ∷ [])) (sym (replies-here m level position on)) in
      replies-changed (rw q at (tags-stored as_tags at_reply_lengths at_replies m level position (omega arith) on fits (λ w n. refl) _
      (replies-here m level position on) w v _ (suc n)
      (ap suc (reply-count-kept w ∙ replies-length m level position on)) e))

-- ---- the same of either kind of queue

-- its words stand behind its lengths, and both in the array
pub placed : (k : Kind) → (lengths_of k + 5 ≤ words_of k) × (words_of k + 80 ≤ size)
placed requests = omega arith
placed replies = omega arith

pub kind-row : (k : Kind) (m : List ℕ) (level : ℕ) → level < 5 → RowOf (queues_in k (view m) level) (get_or m (lengths_of k + level) 0)
kind-row requests = request-row
kind-row replies = reply-row

module _ (k : Kind) (m : List ℕ) (level position : ℕ) (on : (lowest k ≤ level) × (level < 5) × (position < 16)) where
  abbrev kind_word : ℕ
  kind_word = grid_at (words_of k) m level position

  abbrev kind_length : ℕ
  kind_length = lengths_at (lengths_of k) m level position

  kind-here : queues_in k (view m) level position ≡ tags_in kind_word kind_length
  kind-here = go k on
    where
      go : (k : Kind) → (lowest k ≤ level) × (level < 5) × (position < 16) →
          queues_in k (view m) level position ≡ tags_in (grid_at (words_of k) m level position) (lengths_at (lengths_of k) m level position)
      go requests o = requests-here m level position (o.1, o.2) o.0
      go replies o = replies-here m level position (o.1, o.2)

  pub kind-length : length (queues_in k (view m) level position) ≡ kind_length
  kind-length = ap length kind-here ∙ length-down _ _

  -- as it is loaded
  pub kind-is : (n : ℕ) → n ≡ length (queues_in k (view m) level position) → tags_in kind_word n ≡ queues_in k (view m) level position
  kind-is n e = ap (λ (n : ℕ). tags_in kind_word n) (e ∙ kind-length) ∙ sym kind-here

pub kind-popped : (k : Kind) (m : List ℕ) → length m ≡ size → (level position : ℕ) → (lowest k ≤ level) × (level < 5) × (position < 16) →
    (v : ℕ) → 0 < length (queues_in k (view m) level position) →
    length_in v ≡ update (length_in (get_or m (lengths_of k + level) 0)) position (length_in (get_or m (lengths_of k + level) 0) position - 1) →
    Becomes (set m (lengths_of k + level) v) (with_queue k (view m) level position (drop 1 (queues_in k (view m) level position)))
kind-popped requests m fits level position on = request-popped m fits level position (on.1, on.2) on.0
kind-popped replies m fits level position on = reply-popped m fits level position (on.1, on.2)

-- ---- the engine's next request, at level 0

module _ (m : List ℕ) (e : ℕ) (b : e < 16) where
  abbrev next_length : ℕ
  next_length = length_in (get_or m at_request_lengths 0) e

  next_here : (view m).requests 0 e ≡ alone (get_or m (at_requests + e) 0) next_length
  next_here = rw (zero-add e) at (requests-read m 0 e (omega arith))

  pub next-is : 0 < length ((view m).requests 0 e) → get_or ((view m).requests 0 e) 0 0 ≡ byte_in (get_or m (at_requests + e) 0) 0
  next-is = rw next_here (alone-first (get_or m (at_requests + e) 0) next_length)

  pub next-filled : 0 < length ((view m).requests 0 e) → next_length ≢ 0
  next-filled h z = let g : 0 < length (alone (get_or m (at_requests + e) 0) 0) = rw (next_here, z) at h in omega arith

  module _ (fits : length m ≡ size) (n : ℕ) where
    abbrev next : List ℕ
    next = choose (ltb n (view m).fixed.count) (n ∷ []) []

    module _ (small : (view m).fixed.count ≤ 256) (h : n < get_or m at_count 0) where
      -- where the length is not 0, the lowest byte is the next request
      next-alone : (k : ℕ) → k ≢ 0 → alone n k ≡ next
      unfolding view fixed_in
      next-alone k z =
          choose_no _ _ (ne_eqb k 0 z) ∙ ap (λ (x : ℕ). x ∷ []) (digit_low 8 n (omega arith)) ∙ sym (choose_yes _ _ (lt-ltb n (get_or m at_count 0) h))

      pub next-again : next_length ≢ 0 → Becomes (set m (at_requests + e) n) (with_requests (view m) 0 e next)
      next-again z =
          requests-changed (rw (zero-add e) at
          (queue-replaced as_requests at_request_lengths at_requests m 0 e (omega arith) (omega arith) fits n next (next-alone next_length z)))

      pub next-first : (v : ℕ) → length_in v ≡ update (length_in (get_or m at_request_lengths 0)) e (suc next_length) →
          Becomes (set (set m (at_requests + e) n) at_request_lengths v) (with_requests (view m) 0 e next)
      next-first v f =
          requests-changed (rw (zero-add e) at
          (queue-stored as_requests at_request_lengths at_requests m 0 e (omega arith) (omega arith) fits n v (suc next_length) next f
          (next-alone (suc next_length) (omega arith))))

    pub next-none : (v : ℕ) → get_or m at_count 0 ≤ n → length_in v ≡ update (length_in (get_or m at_request_lengths 0)) e 0 →
        Becomes (set m at_request_lengths v) (with_requests (view m) 0 e next)
    unfolding view fixed_in
    next-none v h f =
        requests-changed (queue-cut as_requests at_request_lengths at_requests m 0 e (omega arith) (omega arith) fits v 0 next f
        (sym (choose_no _ _ (le-ltb n (get_or m at_count 0) h))))

-- ---- a wait buffer: two words, and their length

module _ (m : List ℕ) (fits : length m ≡ size) (level position : ℕ) (on : (level < 5) × (position < 16)) (f s : ℕ) where
  abbrev at_first : ℕ
  at_first = at_firsts + (level * 16 + position)

  abbrev at_second : ℕ
  at_second = at_seconds + (level * 16 + position)

  abbrev at_length : ℕ
  at_length = at_wait_lengths + level

  abbrev m₁ : List ℕ
  m₁ = set m at_first f

  abbrev m₂ : List ℕ
  m₂ = set m₁ at_second s

  same_row : get_or m₂ at_length 0 ≡ get_or m at_length 0
  same_row = get_or-set_other m₁ at_second at_length s 0 (omega arith) ∙ get_or-set_other m at_first at_length f 0 (omega arith)

  module _ (v k n : ℕ) (z : k ≡ n) (e : length_in v ≡ update (length_in (get_or m₂ at_length 0)) position k) where
    abbrev m₃ : List ℕ
    m₃ = set m₂ at_length v

    away : (k : ℕ) → k ≢ at_first → k ≢ at_second → k ≢ at_length → get_or m₃ k 0 ≡ get_or m k 0
    away k x y z = get_or-set_other m₂ at_length k v 0 z ∙ get_or-set_other m₁ at_second k s 0 y ∙ get_or-set_other m at_first k f 0 x

    first-here : get_or m₃ at_first 0 ≡ f
    first-here =
        get_or-set_other m₂ at_length at_first v 0 (omega arith) ∙ get_or-set_other m₁ at_second at_first s 0 (omega arith) ∙ get_or-set_same m at_first f 0 (omega arith)

    second-here : get_or m₃ at_second 0 ≡ s
    second-here = get_or-set_other m₂ at_length at_second v 0 (omega arith) ∙ get_or-set_same m₁ at_second s 0 (rw length-set (omega arith))

    length-changed : length_in (get_or m₃ at_length 0) ≡ update (length_in (get_or m at_length 0)) position n
    length-changed = rw (get_or-set_same m₂ at_length v 0 (rw (length-set, length-set) (omega arith)), ← same_row, ← z) e

    buffers-changed : buffers_at at_wait_lengths at_firsts at_seconds m₃ ≡ update2 (buffers_at at_wait_lengths at_firsts at_seconds m) level position (pairs_in f s n)
    buffers-changed =
        grid-changed _ _ level position (pairs_in f s n) on.0 on.1
        (rw (first-here, second-here, length-here at_wait_lengths m m₃ level position n length-changed))
        (λ s p a' b' d. rw (
          away (at_firsts + (s * 16 + p)) (λ z. d (omega arith)) (λ z. omega arith) (λ z. omega arith),
          away (at_seconds + (s * 16 + p)) (λ z. omega arith) (λ z. d (omega arith)) (λ z. omega arith),
          length-other at_wait_lengths m m₃ level position n length-changed s p
              (λ y. away (at_wait_lengths + s) (λ z. omega arith) (λ z. omega arith) (λ z. y (omega arith))) d,
        ))

    pub waits-stored : Becomes m₃ (with_waits (view m) level position (pairs_in f s n))
    unfolding view
    waits-stored =
        becomes at_wait_lengths 5 at_firsts 160 m m₃ (λ k x y. away k (λ z. y (omega arith)) (λ z. y (omega arith)) (λ z. x (omega arith)))
        (rw (length-set, length-set, length-set) fits) (rw buffers-changed)

-- ---- what the functions cite
pub ruleset queue_reads = (kind-length, kind-is, kind-row, held-length, waits-length, request-none, waits-is, next-is)

pub ruleset queue_lengths = (kind-length, request-count-kept, reply-count-kept, next-first, next-again)
