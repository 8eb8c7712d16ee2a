-- What holds of a state that a run reaches, besides demand 3: what a program that keeps the state in memory may rely on.
use Rattle.std.specs.Prelude.{ℕ, ◌+◌, ◌*◌, ◌≤◌, ◌≡◌, List, ◌∷◌, length}
use Rattle.lists.specs.Search.{All}
use Rattle.machine.specs.Setup.{Setup, Message}
use Rattle.machine.specs.State.{State, stands_for}
use Rattle.machine.specs.Order.{OnePlace}

module _ (S : Setup) where
  open S use {k, R, address_of}

  pub record Sound (st : State S) : Type 0 where
    pub one_place : OnePlace S st
    -- a message has the address of its request
    pub addresses : (s p : ℕ) → All (λ (m : Message S). m.address ≡ address_of m.tag) (st.requests s p)
    -- the order list has room for what a module may take
    pub room : length st.order ≤ R
    pub next : (p : ℕ) (m : Message S) (rest : List (Message S)) → st.requests k p ≡ m ∷ rest
        → length st.order + length (stands_for S st.waits k m.tag) ≤ R
    pub accesses : st.accesses ≤ R
    pub merges : st.merges ≤ R * (2 * k + 2)
