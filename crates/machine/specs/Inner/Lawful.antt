-- What the order theorem asks of a setup: the law of merging, and what is needed of the wiring and of the rooms; and what No. 2 asks of a counter.
use Rattle.std.specs.Prelude.{ℕ, suc, ◌+◌, ◌<◌, ◌≡◌, true, Some}
use Rattle.machine.specs.Setup.{Setup, place}
use Rattle.machine.specs.Octets.{Counter}

module _ (S : Setup) where
  open S use {Word, Operation, apply, merge, k, N, Q, engine_of, position}

  pub record Lawful : Type 0 where
    -- "Wherever two merge, the merged operation applied to any x gives g(f(x))"
    pub merge-applies : (f g h : Operation) → merge f g ≡ Some h → (x : Word) → apply h x ≡ apply g (apply f x)
    -- "Level 0 is the engine"
    pub place-engine : (t : ℕ) → place S t 0 ≡ engine_of t
    -- one level up depends on position and address alone
    pub position-onward : (e e' a s : ℕ) → position e a s ≡ position e' a s → position e a (suc s) ≡ position e' a (suc s)
    pub place-below : (t s : ℕ) → place S t s < N
    -- "k 1 to 4; queue room Q 1 to 4"
    pub levels : 0 < k
    pub room : 0 < Q

module _ (S : Setup) (C : Counter S.Word S.Operation) where
  open S use {Word, Operation, apply, merge}
  open C use {number, cut, is_load_or_add, operand}

  pub record LawfulCounter : Type 0 where
    -- the cut of a true sum may be taken inside
    pub cut_inside : (x y : ℕ) → cut (cut x + y) ≡ cut (x + y)
    -- a load or an add brings its operand to the word, and what a word keeps it keeps again
    pub adds : (f : Operation) → is_load_or_add f ≡ true → (x : Word) → cut (number (apply f x)) ≡ cut (number x + operand f)
    pub keeps : (f : Operation) → is_load_or_add f ≡ true → (x : Word) → cut (number x) ≡ number x → cut (number (apply f x)) ≡ number (apply f x)
    -- where two of them merge, one of them comes of it, and it brings what the two bring
    pub merges : (f g h : Operation) → is_load_or_add f ≡ true → is_load_or_add g ≡ true → merge f g ≡ Some h
        → (is_load_or_add h ≡ true) × (cut (operand h) ≡ cut (operand f + operand g))
