-- The tags by which messages, wait records and replies are told apart.
use Prim.Native.Nat.{ℕ}
use Rattle.machine.specs.Setup.{Setup, Message, WaitRecord, Reply}

module _ (S : Setup) where
  abbrev pub message_tag : Message S → ℕ
  message_tag m = m.tag

  -- whoever waits is the second of a record
  abbrev pub waiter_tag : WaitRecord S → ℕ
  waiter_tag r = r.second

  abbrev pub reply_tag : Reply S → ℕ
  reply_tag r = r.tag
